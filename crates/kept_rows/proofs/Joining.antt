-- Runs in a row adjoin.
use Rattle.std.proofs.Common.{◌≡◌, inl, inr, ℕ, List, [], ◌∷◌, ◌++◌, refl, sym, ap, ◌∙◌, subst}
use Rattle.std.proofs.lemmas.List.{map-append}
use Rattle.std.specs.List.{All, Contains}
use Rattle.std.proofs.lemmas.List.Elements.{Contains-append_left, Contains-append_right, Contains-get_or}
use Rattle.wire_base.specs.Extent.{Extent}
use Rattle.ship_core.specs.CoveredEnd.{last_end}
use Rattle.told_events.proofs.Going.{all_behind, behind, front, stay_told}
use Rattle.told_events.specs.Rules.{Rules}
use Rattle.told_events.specs.Told.{AreTold, spans_of as told_spans}
use Rattle.kept_rows.specs.Account.{AccountedEvent, events_of, spans_of}
use Rattle.kept_rows.specs.InARow.{Adjoined, GoesOnBehind, IsSettledInEither, Part}
use Rattle.kept_rows.specs.Kept.{IsSettled}
use Rattle.kept_rows.proofs.Growing.{each_on}

same_spans : (events : List AccountedEvent) → told_spans (events_of events) ≡ spans_of events
same_spans [] = refl
same_spans (one ∷ events) = ap (λ (l : List Extent). one.event.span ∷ l) (same_spans events)

last_end-append : (start : ℕ) (xs ys : List Extent) → last_end start (xs ++ ys) ≡ last_end (last_end start xs) ys
last_end-append start [] ys = refl
last_end-append start (x ∷ xs) ys = last_end-append x.end xs ys

within_left : (xs ys : List ℕ) → All (Contains (xs ++ ys)) xs
within_left xs ys = λ k d inside. Contains-append_left xs ys _ (Contains-get_or xs k d inside)

within_right : (xs ys : List ℕ) → All (Contains (xs ++ ys)) ys
within_right xs ys = λ k d inside. Contains-append_right xs ys _ (Contains-get_or ys k d inside)

-- the first settled events of what was reported are reported
front_told : (rules : Rules) (licences life : List ℕ) (start : ℕ) (told first rest : List AccountedEvent) → told ≡ first ++ rest → AreTold rules licences life start (events_of told) →
    AreTold rules licences life start (events_of first)
front_told rules licences life start told first rest is all =
    front rules licences life start (events_of first) (events_of rest)
    (subst (AreTold rules licences life start) (ap events_of is ∙ map-append (λ (one : AccountedEvent). one.event) first rest) all)

pub adjoined : (rules : Rules) (life : List ℕ) (earlier later : Part) (offset : ℕ) → GoesOnBehind rules life earlier later offset → Adjoined rules life earlier later offset
adjoined rules life earlier later offset on =
    let first = on.left.closes.front in
    let second = on.reached.closes.front in
    let both = earlier.epoch.licences ++ later.epoch.licences in
    let start = earlier.epoch.start in
    let first_told = stay_told rules earlier.epoch.licences both life start (events_of first) (within_left earlier.epoch.licences later.epoch.licences)
    (front_told rules earlier.epoch.licences life start earlier.epoch.told first on.left.closes.rest on.left.closes.told_is on.left.told) in
    let second_told = stay_told rules later.epoch.licences both life later.epoch.start (events_of second) (within_right earlier.epoch.licences later.epoch.licences)
    (front_told rules later.epoch.licences life later.epoch.start later.epoch.told second on.reached.closes.rest on.reached.closes.told_is on.reached.told) in
    let reached : later.epoch.start ≡ last_end start (told_spans (events_of first)) = sym (ap (last_end start) (same_spans first) ∙ on.left.closes.ends) in
    let together = behind rules both life start (events_of first) (events_of second) first_told
    (subst (λ (n : ℕ). AreTold rules both life n (events_of second)) reached second_told) in
    record {
      first = first;
      second = second;
      of_the_earlier = (on.left.closes.rest, on.left.closes.told_is);
      of_the_later = (on.reached.closes.rest, on.reached.closes.told_is);
      told = subst (AreTold rules both life start) (sym (map-append (λ (one : AccountedEvent). one.event) first second)) together;
      ends = ap (last_end start) (map-append (λ (one : AccountedEvent). one.event.span) first second) ∙ last_end-append start (spans_of first) (spans_of second)
          ∙ ap (λ (n : ℕ). last_end n (spans_of second)) on.left.closes.ends ∙ on.reached.closes.ends;
      each = all_behind (IsSettledInEither earlier.wires later.wires) first second
          (each_on (IsSettled earlier.wires) (IsSettledInEither earlier.wires later.wires) (λ one settled. inl settled) first on.left.closes.each)
          (each_on (IsSettled later.wires) (IsSettledInEither earlier.wires later.wires) (λ one settled. inr settled) second on.reached.closes.each);
    }
