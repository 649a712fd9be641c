-- What a keeper is told of moments, slot by slot.
use Rattle.std.proofs.Common.{◌≡◌, inl, inr, ℕ, suc, ◌+◌, ◌<◌, List, [], ◌∷◌, ◌++◌, get_or, length, take, refl, sym, ap, subst, arith}
use Rattle.std.proofs.lemmas.List.{length-take-le, take_more}
use Rattle.keeper.specs.Keeping.{Keeping}
use Rattle.prospect.specs.declared.listed.Listed.{Listed}
use Rattle.wire_base.specs.declared.numbers.Moment.{Moment}
use Rattle.wire_base.specs.declared.numbers.Slot.{Slot}
use Rattle.wire_base.specs.declared.row.Row.{Row}
use Rattle.run_steps.specs.Telling.{TellMoments, TellsMoment, moment_noted}

one_more : (rows : List Row) (from : ℕ) (listed : List Listed) (one : Listed) (old mid new : Keeping) → TellMoments rows from listed old mid → TellsMoment (record { 0 = from + length listed }) (moment_noted rows one) mid new
    → TellMoments rows from (listed ++ one ∷ []) old new
one_more rows from [] one old mid new same tells = record {
  mid = new;
  first = subst (λ (k : Keeping). TellsMoment (record { 0 = from }) (moment_noted rows one) k new) same (subst (λ (n : ℕ). TellsMoment (record { 0 = n }) (moment_noted rows one) mid new) (omega arith) tells);
  rest = refl;
}
one_more rows from (first ∷ listed) one old mid new tell tells = record {
  mid = tell.mid;
  first = tell.first;
  rest = one_more rows (suc from) listed one tell.mid mid new tell.rest (subst (λ (n : ℕ). TellsMoment (record { 0 = n }) (moment_noted rows one) mid new) (omega arith) tells);
}

-- one file more of the list
pub tell_on : (rows : List Row) (listed : List Listed) (slot : ℕ) (some : Listed) (old mid new : Keeping) → slot < length listed → TellMoments rows 0 (take slot listed) old mid
    → TellsMoment (record { 0 = slot }) (moment_noted rows (get_or listed slot some)) mid new → TellMoments rows 0 (take (slot + 1) listed) old new
tell_on rows listed slot some old mid new inside tell tells =
    subst (λ (l : List Listed). TellMoments rows 0 l old new) (sym (take_more listed slot some inside))
    (one_more rows 0 (take slot listed) (get_or listed slot some) old mid new tell
    (subst (λ (n : ℕ). TellsMoment (record { 0 = n }) (moment_noted rows (get_or listed slot some)) mid new) (omega (arith, length-take-le slot listed (omega (arith, inside)))) tells))

-- the keeper's rows stay
pub rows_told : (slot : Slot) (changed : Moment) (old new : Keeping) → TellsMoment slot changed old new → new.store.rows ≡ old.store.rows
rows_told slot changed old new (inl tells) = ap (λ (k : Keeping). k.store.rows) tells.tells.others_stay
rows_told slot changed old new (inr nothing) = ap (λ (k : Keeping). k.store.rows) nothing.same

-- by the same rows
pub told_as : (rows others : List Row) (listed : Listed) (slot : Slot) (old new : Keeping) → others ≡ rows → TellsMoment slot (moment_noted others listed) old new →
    TellsMoment slot (moment_noted rows listed) old new
told_as rows others listed slot old new same told = subst (λ (l : List Row). TellsMoment slot (moment_noted l listed) old new) same told
