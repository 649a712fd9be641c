-- What a step tells, as the call's clause says it.
use Rattle.std.proofs.Common.{◌≡◌, suc, List, [], ◌∷◌, All, Option, Some, None, Result, Ok, Err, MatchResult, MatchOption, IfOk, IsSome, refl, sym, subst, arith}
use Rattle.std.specs.Prelude.{unwrap_or}
use Rattle.crossbeam_queue.specs.Passes.{Pass, view}
use Rattle.wire_base.specs.declared.parcel.Parcel.{Parcel}
use Rattle.wire_base.specs.Ranges.{IsParcel}
use Rattle.pass_sums.proofs.Each.{all_none}
use Rattle.mem_queue.specs.declared.rule.Hand.{Hand}
use Rattle.mem_queue.specs.Left.{left_over, KnowsBehind}
use Rattle.mem_queue.specs.Steps.{DrainsNext}

pub ok_told : {A E : Type 0} (P Q : A → Type 0) (R : E → Type 0) (result : Result A E) → MatchResult result P R → ((x : A) → P x → Q x) → IfOk result Q
ok_told P Q R (Ok x) told said = said x told
ok_told P Q R (Err e) told said = tt

some_rest : (rest : Option (List Parcel)) → IsSome rest → (is : List Parcel) × (rest ≡ Some is)
some_rest None knows = absurd cc
some_rest (Some is) knows = (is, refl)

-- who took a parcel ahead knows the rest
pub behind : (next : Option Parcel) (first : Parcel) (pass : Pass Parcel Hand) → next ≡ Some first → KnowsBehind next pass → (rest : List Parcel) × ((view pass).rest ≡ Some rest)
behind None first pass ahead knows = absurd cc
behind (Some x) first pass ahead knows = some_rest (view pass).rest knows

-- after a later take the pass knows the rest, and all of it is in range
pub drained : (next : Option Parcel) (old new : Pass Parcel Hand) (Held : Type 0) → All IsParcel (unwrap_or (view old).rest [])
    → MatchOption next ((view new ≡ view old) × Held) (λ x. DrainsNext (view old) x (view new)) → All IsParcel (left_over next new) × KnowsBehind next new
drained None old new Held ranges told = (all_none IsParcel, tt)
drained (Some x) old new Held ranges told = (
  subst (λ (rest : Option (List Parcel)). All IsParcel (x ∷ unwrap_or rest [])) (sym told.is) (subst (λ (rest : Option (List Parcel)). All IsParcel (unwrap_or rest [])) told.was ranges),
  subst (λ (rest : Option (List Parcel)). IsSome rest) (sym told.is) refl,
)

-- what is after the first of parcels in range is in range
pub behind_first : (next : Option Parcel) (first : Parcel) (pass : Pass Parcel Hand) → next ≡ Some first → All IsParcel (left_over next pass) → All IsParcel (unwrap_or (view pass).rest [])
behind_first None first pass ahead ranges k d inside = absurd cc
behind_first (Some x) first pass ahead ranges k d inside = ranges (suc k) d (omega arith)
