-- The settled spans of a slot are one or apart over all its openings: each opening begins where the one before it was told to, or later.
use Rattle.std.proofs.Common.{◌≡◌, ◌⊎◌, inl, inr, ℕ, ◌≤◌, List, [], ◌∷◌, ◌++◌, Contains, map, sym, ap, subst, ◌∙◌}
use Rattle.std.proofs.lemmas.List.Elements.{Contains-append_cases}
use Rattle.std.specs.List.{AllByRecursion}
use Rattle.accounts.specs.Opened.{Opened}
use Rattle.accounts.specs.ToldFile.{AreEpochsFrom}
use Rattle.accounts.specs.Turned.{Turned}
use Rattle.accounts.proofs.Apart.{EachAdjoins, IsInEpochs}
use Rattle.accounts.proofs.Grounded.{of_map}
use Rattle.accounts.proofs.InTurn.{IsEventOf, apart_in_one, ends_first, settled_apart, settled_in}
use Rattle.accounts.proofs.Lists.{each_then}
use Rattle.accounts.proofs.Ordered.{IsSettledEvent, SettleApart}
use Rattle.accounts.proofs.Orderly.{member_is, same_item}
use Rattle.kept_rows.specs.Scans.{AreDistinct}
use Rattle.ship_core.proofs.Members.{none_there, there_cases}
use Rattle.ship_core.specs.CoveredEnd.{AreEqualOrApart}
use Rattle.slot_parts.specs.Tellings.{tellings_in}
use Rattle.wire_base.specs.Extent.{Extent}
use Rattle.wire_base.specs.declared.numbers.Slot.{Slot}
use Rattle.run_steps.specs.Earlier.{AreInTurn, EndsBefore}
use Rattle.run_steps.specs.SoFar.{Earlier, told_before}

-- ---- all openings

-- it was told of one of these, from where that begins
pub record IsToldSince (opened : List Opened) (turned : Turned) : Type 0 where
  pub file : Opened
  pub among : Contains opened file
  pub slot : turned.slot ≡ file.begin.slot
  pub epochs : AreEpochsFrom file.begin.epoch.0 file.begin.base (tellings_in turned.history)
  pub adjoin : EachAdjoins (tellings_in turned.history)

pub since_in_epochs : (opened : List Opened) (turned : Turned) → IsToldSince opened turned → IsInEpochs turned
since_in_epochs opened turned since = record { epoch = since.file.begin.epoch.0; base = since.file.begin.base; epochs = since.epochs; adjoin = since.adjoin }

-- it was told of an opening before one of these
pub record IsToldBefore (opened : List Opened) (one : Earlier) : Type 0 where
  pub last : Opened
  pub among : Contains opened last
  pub same_slot : one.opened.begin.slot ≡ last.begin.slot
  pub ends : EndsBefore one.left.turned.history last
  pub slot : one.left.turned.slot ≡ one.opened.begin.slot
  pub epochs : AreEpochsFrom one.opened.begin.epoch.0 one.opened.begin.base (tellings_in one.left.turned.history)
  pub adjoin : EachAdjoins (tellings_in one.left.turned.history)

before_in_epochs : (opened : List Opened) (one : Earlier) → IsToldBefore opened one → IsInEpochs one.left.turned
before_in_epochs opened one before = record { epoch = one.opened.begin.epoch.0; base = one.opened.begin.base; epochs = before.epochs; adjoin = before.adjoin }

abbrev pub slot_numbers : List Opened → List ℕ
slot_numbers opened = map (λ (one : Opened). one.begin.slot.0) opened

module _ (opened : List Opened) (distinct : AreDistinct (slot_numbers opened)) where
  -- those that were closed before
  apart_before : (earlier : List Earlier) → AllByRecursion (IsToldBefore opened) earlier → AreInTurn opened earlier → (t u : Turned) → Contains (told_before earlier) t → Contains (told_before earlier) u →
      t.slot ≡ u.slot → (number : ℕ) (span other : Extent) → IsEventOf t.history number span → IsEventOf u.history number other → AreEqualOrApart span other
  apart_before [] each turn t u there also same number span other one two = absurd (none_there t there)
  apart_before (first ∷ earlier) each turn t u there also same number span other one two =
      by_case (there_cases first.left.turned t (told_before earlier) there) (there_cases first.left.turned u (told_before earlier) also)
      (λ x y. apart_before earlier each.1 turn.2 t u x y same number span other one two)
    where
      -- the first one, and one behind it
      in_turn : (v : Turned) → Contains (told_before earlier) v → first.left.turned.slot ≡ v.slot → (extent another : Extent) → IsEventOf first.left.turned.history number extent →
          IsEventOf v.history number another → extent.end ≤ another.start
      in_turn v behind slots extent another x y =
          let of = of_map (λ (e : Earlier). e.left.turned) earlier v behind in
          let next = member_is (IsToldBefore opened) earlier of.item each.1 of.among in
          let here = each.0 in
          let slots_are : first.opened.begin.slot ≡ of.item.opened.begin.slot = sym here.slot ∙ slots ∙ ap (λ (w : Turned). w.slot) (sym of.is) ∙ next.slot in
          ends_first first.left.turned.history first.opened.begin.epoch.0 first.opened.begin.base here.epochs here.adjoin of.item.opened.begin.epoch.0 of.item.opened.begin.base
          (member_is (λ (e : Earlier). first.opened.begin.slot ≡ e.opened.begin.slot → EndsBefore first.left.turned.history e.opened) earlier of.item turn.1 of.among slots_are)
          of.item.left.turned.history next.epochs next.adjoin number extent another x (subst (λ (w : Turned). IsEventOf w.history number another) (sym of.is) y)

      by_case : (first.left.turned ≡ t) ⊎ Contains (told_before earlier) t → (first.left.turned ≡ u) ⊎ Contains (told_before earlier) u →
          (Contains (told_before earlier) t → Contains (told_before earlier) u → AreEqualOrApart span other) → AreEqualOrApart span other
      by_case (inl x) (inl y) later = apart_in_one first.left.turned (before_in_epochs opened first each.0) number span other
          (subst (λ (w : Turned). IsEventOf w.history number span) (sym x) one) (subst (λ (w : Turned). IsEventOf w.history number other) (sym y) two)
      by_case (inl x) (inr y) later =
          inr (inl (in_turn u y (ap (λ (w : Turned). w.slot) x ∙ same) span other (subst (λ (w : Turned). IsEventOf w.history number span) (sym x) one) two))
      by_case (inr x) (inl y) later =
          inr (inr (in_turn t x (ap (λ (w : Turned). w.slot) y ∙ sym same) other span (subst (λ (w : Turned). IsEventOf w.history number other) (sym y) two) one))
      by_case (inr x) (inr y) later = later x y

  module _ (earlier : List Earlier) (each : AllByRecursion (IsToldBefore opened) earlier) (turn : AreInTurn opened earlier)
      (turned : List Turned) (apart : AreDistinct (map (λ (t : Turned). t.slot.0) turned)) (since : AllByRecursion (IsToldSince opened) turned) where
    -- one of those, and one of the last
    before_last : (t u : Turned) → Contains (told_before earlier) t → Contains turned u → t.slot.0 ≡ u.slot.0 → (number : ℕ) (span other : Extent) → IsEventOf t.history number span →
        IsEventOf u.history number other → span.end ≤ other.start
    before_last t u there among slots number span other one two =
        let of = of_map (λ (e : Earlier). e.left.turned) earlier t there in
        let before = member_is (IsToldBefore opened) earlier of.item each of.among in
        let last = member_is (IsToldSince opened) turned u since among in
        let slot_is : before.last.begin.slot.0 ≡ last.file.begin.slot.0 =
        ap (λ (s : Slot). s.0) (sym before.same_slot ∙ sym before.slot) ∙ ap (λ (w : Turned). w.slot.0) of.is ∙ slots ∙ ap (λ (s : Slot). s.0) last.slot in
        let file_is : before.last ≡ last.file = same_item (λ (o : Opened). o.begin.slot.0) opened before.last last.file distinct before.among last.among slot_is in
        ends_first of.item.left.turned.history of.item.opened.begin.epoch.0 of.item.opened.begin.base before.epochs before.adjoin last.file.begin.epoch.0 last.file.begin.base
        (subst (EndsBefore of.item.left.turned.history) file_is before.ends) u.history last.epochs last.adjoin number span other
        (subst (λ (w : Turned). IsEventOf w.history number span) (sym of.is) one) two

    abbrev all_files : List Turned
    all_files = told_before earlier ++ turned

    pub settle_apart : SettleApart all_files
    settle_apart slot epoch span other one two =
        by_case (Contains-append_cases (told_before earlier) turned one.turned one.of.of_files) (Contains-append_cases (told_before earlier) turned two.turned two.of.of_files)
      where
        slots : one.turned.slot.0 ≡ two.turned.slot.0
        slots = one.slot_is ∙ sym two.slot_is

        among_last : {extent : Extent} (some : IsSettledEvent all_files slot epoch extent) → Contains turned some.turned → IsSettledEvent turned slot epoch extent
        among_last some there = record {
          turned = some.turned;
          telling = some.telling;
          of = record { of_files = there; of_file = some.of.of_file };
          event = some.event;
          told = some.told;
          slot_is = some.slot_is;
          epoch_is = some.epoch_is;
          span_is = some.span_is;
        }

        by_case : Contains (told_before earlier) one.turned ⊎ Contains turned one.turned → Contains (told_before earlier) two.turned ⊎ Contains turned two.turned → AreEqualOrApart span other
        by_case (inl x) (inl y) = apart_before earlier each turn one.turned two.turned x y (λ k. record { 0 = slots k }) epoch span other (settled_in all_files slot epoch span one) (settled_in all_files slot epoch other two)
        by_case (inl x) (inr y) = inr (inl (before_last one.turned two.turned x y slots epoch span other (settled_in all_files slot epoch span one) (settled_in all_files slot epoch other two)))
        by_case (inr x) (inl y) = inr (inr (before_last two.turned one.turned y x (sym slots) epoch other span (settled_in all_files slot epoch other two) (settled_in all_files slot epoch span one)))
        by_case (inr x) (inr y) = settled_apart turned apart (each_then (IsToldSince opened) IsInEpochs turned (since_in_epochs opened) since) slot epoch span other (among_last one x) (among_last two y)
