-- As a file is opened again, what steps suppose of other files stays known: which of them a later scan missed, and that their last tails were closed.
use Rattle.std.proofs.Common.{◌≡◌, ◌≢◌, ⊎_elim, List, [], ◌∷◌, ◌++◌, Contains, sym, ap, subst, ◌∙◌}
use Rattle.std.specs.List.{AllByRecursion}
use Rattle.accounts.specs.Opened.{Opened}
use Rattle.wire_base.specs.declared.numbers.Slot.{Slot}
use Rattle.run_steps.specs.LaterScans.{LaterScan}
use Rattle.run_steps.specs.OpenedAgain.{IsClosedLast}
use Rattle.run_steps.specs.Renamed.{IsRemovedSince}
use Rattle.run_steps.specs.Reopening.{KnownFile}
use Rattle.run_steps.specs.ReopeningSteps.{IsKnownAs}
use Rattle.run_steps.specs.SoFar.{Earlier, FilesSoFar, Forgotten, Left, SoFar, files_of, with_opening}
use Rattle.run_steps.proofs.WithOpening.{members, others_there}

-- ---- a list without one of its elements

-- another one is among the rest
record IsAmongRest {A : Type 0} (x : A) (rest : List A) : Type 0 where
  before : List A
  behind : List A
  are : rest ≡ before ++ x ∷ behind

among_rest : {A : Type 0} (x y : A) → (x ≡ y → ⊥) → (before behind front back : List A) → before ++ x ∷ behind ≡ front ++ y ∷ back → IsAmongRest x (front ++ back)
among_rest x y other [] behind [] back same = absurd (other (let is : x ≡ y = cc in is))
among_rest x y other [] behind (first ∷ front) back same =
    record { before = []; behind = front ++ back; are = let is : x ≡ first = cc in ap (λ z. z ∷ (front ++ back)) (sym is) }
among_rest x y other (first ∷ before) behind [] back same = record { before = before; behind = behind; are = let is : before ++ x ∷ behind ≡ back = cc in sym is }
among_rest x y other (first ∷ before) behind (head ∷ front) back same =
    let is : first ≡ head = cc in
    let rest = among_rest x y other before behind front back (let more : before ++ x ∷ behind ≡ front ++ y ∷ back = cc in more) in
    record { before = head ∷ rest.before; behind = rest.behind; are = ap (λ l. head ∷ l) rest.are }

-- ---- one file is opened again

module _ (next : Opened) (closed : Left) (its : closed.turned.slot ≡ next.begin.slot) (front behind : List Left) where
  -- of other files no tail left those that were closed
  pub record OpensOnly (before after : FilesSoFar) : Type 0 where
    pub left_were : before.left ≡ front ++ closed ∷ behind
    pub left_are : after.left ≡ front ++ behind
    pub opened : after.opened ≡ with_opening next before.opened
    pub forgotten : after.forgotten ≡ before.forgotten

  module _ (before after : SoFar) (only : OpensOnly (files_of before) (files_of after)) where
    pub closed_last_other : (other : Opened) → (other.begin.slot.0 ≡ next.begin.slot.0 → ⊥) → IsClosedLast (files_of before) other → IsClosedLast (files_of after) other
    closed_last_other other apart was =
        let rest = among_rest was.left closed (λ same. apart (ap (λ (s : Slot). s.0) (sym was.slot_is ∙ ap (λ (l : Left). l.turned.slot) same ∙ its)))
        was.before was.behind front behind (sym was.left_are ∙ only.left_were) in
        record {
          among = subst (λ (l : List Opened). Contains l other) (sym only.opened) (others_there next before.opened other was.among apart);
          before = rest.before;
          left = was.left;
          behind = rest.behind;
          left_are = only.left_are ∙ rest.are;
          slot_is = was.slot_is;
          may = was.may;
          not_forgotten = subst (AllByRecursion (λ (one : Forgotten). one.opened.begin.slot ≢ other.begin.slot)) (sym only.forgotten) was.not_forgotten;
        }

    pub known_other : (known : KnownFile) (other : Opened) (apart : other.begin.slot.0 ≡ next.begin.slot.0 → ⊥) (was : IsClosedLast (files_of before) other) → IsKnownAs known before other was →
        IsKnownAs known after other (closed_last_other other apart was)
    unfolding closed_last_other
    known_other known other apart was is = record { slot = is.slot; input = is.input; key = is.key; epoch = is.epoch; start = is.start }

    pub removed_other : (slot : Slot) → (slot.0 ≡ next.begin.slot.0 → ⊥) → (scans : List LaterScan) (earlier later : List Earlier) → IsRemovedSince slot scans earlier before.opened →
        IsRemovedSince slot scans later after.opened
    removed_other slot apart scans earlier later removed one among of_slot = ⊎_elim
        (λ same. absurd (apart (ap (λ (s : Slot). s.0) (sym of_slot) ∙ ap (λ (o : Opened). o.begin.slot.0) same)))
        (λ of. removed one of.0 of_slot)
        (members next before.opened one (subst (λ (l : List Opened). Contains l one) only.opened among))
