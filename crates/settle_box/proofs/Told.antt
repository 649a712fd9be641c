-- What a step tells, as the call's clause says it.
use Rattle.std.proofs.Common.{◌≡◌, ℕ, suc, List, [], ◌∷◌, ◌++◌, length, All, Option, Some, None, MatchOption, refl, sym, ap, ap₂, ◌∙◌, subst, arith}
use Rattle.std.specs.Prelude.{unwrap_or}
use Rattle.crossbeam_queue.specs.Fifo.{Held}
use Rattle.crossbeam_queue.specs.Passes.{Pass, view}
use Rattle.wire_base.specs.declared.note.Note.{Note}
use Rattle.pass_sums.proofs.Each.{all_none, all_tail}
use Rattle.settle_box.specs.declared.rule.Hand.{Hand}
use Rattle.settle_box.specs.declared.sender.Sender.{Sender}
use Rattle.settle_box.specs.declared.sender.Sent.{Sent}
use Rattle.settle_box.specs.Hand.{first_of, others_of}
use Rattle.settle_box.specs.Left.{left_over, BeginsWith, KnowsAhead}
use Rattle.settle_box.specs.Senders.{notes, sent}
use Rattle.settle_box.specs.Steps.{DrainsNext, HoldsBehind}

some_rest : (rest : Option (List Sent)) (note : Note) → BeginsWith note (unwrap_or rest []) → (is : List Sent) × (rest ≡ Some is)
some_rest None note begins = absurd begins
some_rest (Some is) note begins = (is, refl)

-- who took a note ahead knows what is left
pub ahead_is_known : (next : Option Note) (first : Note) (pass : Pass Note Hand) → next ≡ Some first → KnowsAhead next pass → (rest : List Sent) × ((view pass).rest ≡ Some rest)
ahead_is_known None first pass ahead knows = absurd cc
ahead_is_known (Some x) first pass ahead knows = some_rest (view pass).rest x knows

-- a list of senders that begins with a named one still does so, with more after it
pub still_named : (ss more all : List Sender) → all ≡ ss ++ more → ss ≡ first_of ss ∷ others_of ss → all ≡ first_of all ∷ others_of all
still_named [] more all is named = absurd cc
still_named (s ∷ ss) more all is named = subst (λ (y : List Sender). y ≡ first_of y ∷ others_of y) (sym is) refl

no_notes : (rest : List Sent) (items : List Note) → notes rest ≡ items → length items ≡ 0 → rest ≡ []
no_notes [] items is none = refl
no_notes (s ∷ rest) items is none =
    let some : suc (length (notes rest)) ≡ length items = ap length is in
    absurd (omega arith)

-- what holds of all that is left holds of it while a note is taken ahead
pub all_ahead : (P : Note → Type 0) (next : Option Note) (first : Note) (pass : Pass Note Hand) → next ≡ Some first → All P (notes (left_over next pass)) → All P (notes (unwrap_or (view pass).rest []))
all_ahead P None first pass ahead all k d inside = absurd cc
all_ahead P (Some x) first pass ahead all k d inside = all k d inside

module _ (old new : Pass Note Hand) where
  -- what was told of the next note
  abbrev pub Told : Option Note → Type 0
  Told next = MatchOption next ((view new ≡ view old) × Held 0 (HoldsBehind (view old))) (λ x. DrainsNext (view old) x (view new))

  pub knows_ahead : (next : Option Note) → Told next → KnowsAhead next new
  knows_ahead None told = tt
  knows_ahead (Some x) told = subst (λ (rest : Option (List Sent)). BeginsWith x (unwrap_or rest [])) (sym told.is) told.first

  pub still_all : (P : Note → Type 0) (next : Option Note) → Told next → All P (notes (unwrap_or (view old).rest [])) → All P (notes (left_over next new))
  still_all P None told all = all_none P
  still_all P (Some x) told all =
      subst (λ (rest : Option (List Sent)). All P (notes (unwrap_or rest []))) (sym told.is)
      (all_tail P told.ahead.note (told.next.note ∷ notes told.rest) (subst (λ (rest : Option (List Sent)). All P (notes (unwrap_or rest []))) told.was all))

  first_left : (first : Note) (ahead : Sent) (rest left : List Sent) → (view old).rest ≡ Some (ahead ∷ rest) → BeginsWith first (unwrap_or (view old).rest []) → rest ≡ left
      → (from : List ℕ) × (unwrap_or (view old).rest [] ≡ sent from first ∷ left)
  first_left first ahead rest left was begins same =
      let is : unwrap_or (view old).rest [] ≡ ahead ∷ rest = ap (λ (r : Option (List Sent)). unwrap_or r []) was in
      let note : ahead.note ≡ first = subst (BeginsWith first) is begins in
      (ahead.from, is ∙ ap₂ (λ (n : Note) (r : List Sent). sent ahead.from n ∷ r) note same)

  -- the note that was taken ahead is the first of what was left
  pub first_is : (before : Option Note) (first : Note) (next : Option Note) → before ≡ Some first → KnowsAhead before old → Told next
      → (from : List ℕ) × (left_over before old ≡ sent from first ∷ left_over next new)
  first_is None first next ahead knows told = absurd cc
  first_is (Some x) first None ahead knows told =
      let behind = told.1.2 in
      let note : x ≡ first = cc in
      first_left first behind.ahead behind.rest [] behind.is (subst (λ (n : Note). BeginsWith n (unwrap_or (view old).rest [])) note knows)
      (no_notes behind.rest told.1.0 behind.behind told.1.1)
  first_is (Some x) first (Some y) ahead knows told =
      let note : x ≡ first = cc in
      first_left first told.ahead (told.next ∷ told.rest) (unwrap_or (view new).rest []) told.was (subst (λ (n : Note). BeginsWith n (unwrap_or (view old).rest [])) note knows)
      (sym (ap (λ (r : Option (List Sent)). unwrap_or r []) told.is))
