-- A file that is opened again leaves its last opening behind those that came before, each of which ends before the next one.
use Rattle.std.proofs.Common.{◌≡◌, ◌⊎◌, inl, inr, ℕ, ◌+◌, ◌==◌, ◌<◌, ◌≤◌, nat_le, Bool, true, false, List, [], ◌∷◌, ◌++◌, Contains, IsSome, Option, Some, map, if◌then◌else◌, refl, sym, ap, subst, ◌∙◌, arith}
use Rattle.std.proofs.lemmas.Bool.{cond-false, cond-true, eq-eqb, eqb-true, ne_eqb}
use Rattle.std.proofs.lemmas.List.{map-append}
use Rattle.std.proofs.lemmas.List.Elements.{Contains-append_right}
use Rattle.std.specs.List.{AllByRecursion}
use Rattle.accounts.specs.FollowedFile.{MayReopenAt, start_in}
use Rattle.accounts.specs.Opened.{Opened}
use Rattle.accounts.specs.ToldFile.{IsToldFile}
use Rattle.accounts.specs.Watch.{Watch}
use Rattle.accounts.proofs.Apart.{EachAdjoins}
use Rattle.accounts.proofs.InTurn.{least_epoch, reaches}
use Rattle.accounts.proofs.Lists.{each_last}
use Rattle.accounts.proofs.Orderly.{member_is, same_item}
use Rattle.harvester.specs.History.{History, told_to}
use Rattle.kept_rows.specs.Followed.{Start}
use Rattle.kept_rows.specs.Scans.{AreDistinct}
use Rattle.outside.specs.Folders.{FolderHistory}
use Rattle.ship_core.proofs.Members.{first_there, none_there, there_cases}
use Rattle.slot_parts.specs.Tellings.{tellings_in}
use Rattle.wire_base.specs.declared.numbers.Slot.{Slot}
use Rattle.run_steps.specs.Begun.{IsKeyed}
use Rattle.run_steps.specs.Earlier.{AreEarlier, AreInTurn, AreOfOneFile, EndsBefore, GoesBefore, GoesOnFrom, IsEarlierSo, first_of}
use Rattle.run_steps.specs.LastEpoch.{AreToldInEpochs}
use Rattle.run_steps.specs.SoFar.{Earlier, Left, opened_before, with_opening}
use Rattle.run_steps.proofs.WithOpening.{next_there, others_there}

abbrev pub slot_numbers : List Opened → List ℕ
slot_numbers opened = map (λ (one : Opened). one.begin.slot.0) opened

-- ---- the first of a slot

pub found : (slot : Slot) (opened : List Opened) (last : Opened) → AreDistinct (slot_numbers opened) → Contains opened last → last.begin.slot.0 ≡ slot.0 → first_of slot opened ≡ Some last
found slot [] last apart there is = absurd (none_there last there)
found slot (one ∷ opened) last apart there is = by_slot (one.begin.slot.0 == slot.0) refl (there_cases one last opened there) (λ later. found slot opened last apart.1 later is)
  where
    by_slot : (b : Bool) → (one.begin.slot.0 == slot.0) ≡ b → (one ≡ last) ⊎ Contains opened last → (Contains opened last → first_of slot opened ≡ Some last) →
        (if b then Some one else first_of slot opened) ≡ Some last
    by_slot true e at later =
        ap Some (same_item (λ (o : Opened). o.begin.slot.0) (one ∷ opened) one last apart (first_there one opened) there (eqb-true one.begin.slot.0 slot.0 e ∙ sym is))
    by_slot false e (inl same) later = absurd (let yes = eq-eqb one.begin.slot.0 slot.0 (ap (λ (o : Opened). o.begin.slot.0) same ∙ is) in let q : true ≡ false = sym yes ∙ e in cc)
    by_slot false e (inr behind) later = later behind

module _ (next : Opened) where
  pub found_next : (slot : Slot) (opened : List Opened) (last : Opened) → Contains opened last → last.begin.slot.0 ≡ next.begin.slot.0 → next.begin.slot.0 ≡ slot.0 →
      first_of slot (with_opening next opened) ≡ Some next
  found_next slot [] last there is at = absurd (none_there last there)
  found_next slot (one ∷ opened) last there is at = by_slot (one.begin.slot.0 == next.begin.slot.0) refl (there_cases one last opened there) (λ later. found_next slot opened last later is at)
    where
      by_slot : (b : Bool) → (one.begin.slot.0 == next.begin.slot.0) ≡ b → (one ≡ last) ⊎ Contains opened last → (Contains opened last → first_of slot (with_opening next opened) ≡ Some next) →
          (if (if b then next else one).begin.slot.0 == slot.0 then Some (if b then next else one) else first_of slot (with_opening next opened)) ≡ Some next
      by_slot true e at_it later = cond-true (next.begin.slot.0 == slot.0) (Some next) (first_of slot (with_opening next opened)) (eq-eqb next.begin.slot.0 slot.0 at)
      by_slot false e (inl same) later =
          absurd (let yes = eq-eqb one.begin.slot.0 next.begin.slot.0 (ap (λ (o : Opened). o.begin.slot.0) same ∙ is) in let q : true ≡ false = sym yes ∙ e in cc)
      by_slot false e (inr behind) later =
          cond-false (one.begin.slot.0 == slot.0) (Some one) (first_of slot (with_opening next opened))
          (ne_eqb one.begin.slot.0 slot.0 (λ same. let yes = eq-eqb one.begin.slot.0 next.begin.slot.0 (same ∙ sym at) in let q : true ≡ false = sym yes ∙ e in cc))
          ∙ later behind

  -- of other slots it is the same
  pub found_other : (slot : Slot) (opened : List Opened) → (next.begin.slot.0 ≡ slot.0 → ⊥) → first_of slot (with_opening next opened) ≡ first_of slot opened
  found_other slot [] other = refl
  found_other slot (one ∷ opened) other = by_slot (one.begin.slot.0 == next.begin.slot.0) refl (found_other slot opened other)
    where
      by_slot : (b : Bool) → (one.begin.slot.0 == next.begin.slot.0) ≡ b → first_of slot (with_opening next opened) ≡ first_of slot opened →
          (if (if b then next else one).begin.slot.0 == slot.0 then Some (if b then next else one) else first_of slot (with_opening next opened))
          ≡ (if one.begin.slot.0 == slot.0 then Some one else first_of slot opened)
      by_slot true e later =
          cond-false (next.begin.slot.0 == slot.0) (Some next) (first_of slot (with_opening next opened)) (ne_eqb next.begin.slot.0 slot.0 other) ∙ later
          ∙ sym (cond-false (one.begin.slot.0 == slot.0) (Some one) (first_of slot opened) (ne_eqb one.begin.slot.0 slot.0 (λ same. other (sym (eqb-true one.begin.slot.0 next.begin.slot.0 e) ∙ same))))
      by_slot false e later = ap (λ (o : Option Opened). if one.begin.slot.0 == slot.0 then Some one else o) later

  module _ (opened : List Opened) (apart : AreDistinct (slot_numbers opened)) (last : Opened) (among : Contains opened last) (same : last.begin.slot.0 ≡ next.begin.slot.0) where
    behind_last : (slot : Slot) (front : List Opened) → first_of slot ((front ++ last ∷ []) ++ with_opening next opened) ≡ first_of slot (front ++ opened)
    behind_last slot [] = by_slot (last.begin.slot.0 == slot.0) refl
      where
        by_slot : (b : Bool) → (last.begin.slot.0 == slot.0) ≡ b → (if b then Some last else first_of slot (with_opening next opened)) ≡ first_of slot opened
        by_slot true e = sym (found slot opened last apart among (eqb-true last.begin.slot.0 slot.0 e))
        by_slot false e = found_other slot opened (λ is. let yes = eq-eqb last.begin.slot.0 slot.0 (same ∙ is) in let q : true ≡ false = sym yes ∙ e in cc)
    behind_last slot (one ∷ front) = ap (λ (o : Option Opened). if one.begin.slot.0 == slot.0 then Some one else o) (behind_last slot front)

-- ---- one more

module _ (watch : Watch) (opened : List Opened) (moments : List ℕ) (apart : AreDistinct (slot_numbers opened)) (last next : Opened) (among : Contains opened last) (of_one : AreOfOneFile last next) (left : Left)
    (is_told : IsToldFile watch last moments left.turned left.told) (adjoin : EachAdjoins (tellings_in left.turned.history)) (goes_on_from : GoesOnFrom left.turned.history next) where
  abbrev pub one : Earlier
  one = record { opened = last; left = left; next = next }

  abbrev pub now_opened : List Opened
  now_opened = with_opening next opened

  abbrev h : History
  h = left.turned.history

  pub slot_same : last.begin.slot.0 ≡ next.begin.slot.0
  slot_same = ap (λ (s : Slot). s.0) of_one.slot

  pub the_last : (other : Opened) → Contains opened other → other.begin.slot.0 ≡ last.begin.slot.0 → last ≡ other
  the_last other there is = same_item (λ (o : Opened). o.begin.slot.0) opened last other apart among there (sym is)

  ends_here : EndsBefore h next
  ends_here = by_size (nat_le (told_to h.present) next.begin.size) goes_on_from.starts
    where
      by_size : (b : Bool) → ◌≡◌ {A = Start} (start_in next) (if b then record { epoch = h.present.epoch; base = told_to h.present } else record { epoch = h.present.epoch + 1; base = 0 }) → EndsBefore h next
      by_size true is = inr (sym (ap (λ (s : Start). s.epoch) is), let at = ap (λ (s : Start). s.base) is in omega (arith, at))
      by_size false is = inl (let rose = ap (λ (s : Start). s.epoch) is in omega (arith, rose))

  present_there : Contains (tellings_in h) h.present
  present_there = Contains-append_right h.past (h.present ∷ []) h.present (first_there h.present [])

  -- what ended before it ends before the next one
  passes : (before : History) → EndsBefore before last → EndsBefore before next
  passes before ended = by_case ended (least_epoch last.begin.epoch.0 last.begin.base (tellings_in h) h.present is_told.history.epochs present_there) ends_here
    where
      far : h.present.start ≤ told_to h.present
      far = reaches h.present.start h.present.told (member_is _ (tellings_in h) h.present adjoin present_there)

      by_case : EndsBefore before last → (last.begin.epoch.0 < h.present.epoch) ⊎ ((h.present.epoch ≡ last.begin.epoch.0) × (h.present.start ≡ last.begin.base)) → EndsBefore h next → EndsBefore before next
      by_case (inl less) (inl more) (inl rose) = inl (omega (arith, less, more, rose))
      by_case (inl less) (inl more) (inr at) = inl (let same = at.0 in omega (arith, less, more, same))
      by_case (inl less) (inr first) (inl rose) = inl (let is = first.0 in omega (arith, less, is, rose))
      by_case (inl less) (inr first) (inr at) = inl (let is = first.0 in let same = at.0 in omega (arith, less, is, same))
      by_case (inr was) (inl more) (inl rose) = inl (let is = was.0 in omega (arith, is, more, rose))
      by_case (inr was) (inl more) (inr at) = inl (let is = was.0 in let same = at.0 in omega (arith, is, more, same))
      by_case (inr was) (inr first) (inl rose) = inl (let is = was.0 in let same = first.0 in omega (arith, is, same, rose))
      by_case (inr was) (inr first) (inr at) = inr (
        was.0 ∙ sym first.0 ∙ at.0,
        let to = was.1 in let begins = first.1 in let end = far in let base = at.1 in omega (arith, to, begins, end, base),
      )

  each_so : (other : Earlier) → IsEarlierSo watch opened moments other → IsEarlierSo watch now_opened moments other
  each_so other so = by_slot (so.last.begin.slot.0 == next.begin.slot.0) refl
    where
      with_last : (new : Opened) → Contains now_opened new → AreOfOneFile other.opened new → EndsBefore other.left.turned.history new → IsEarlierSo watch now_opened moments other
      with_last new there of ends = record { is_told = so.is_told; in_epochs = so.in_epochs; may = so.may; goes_on = so.goes_on; last = new; among = there; of_one = of; ends = ends }

      by_slot : (b : Bool) → (so.last.begin.slot.0 == next.begin.slot.0) ≡ b → IsEarlierSo watch now_opened moments other
      by_slot true e =
          let it : last ≡ so.last = the_last so.last so.among (eqb-true so.last.begin.slot.0 next.begin.slot.0 e ∙ sym slot_same) in
          let of : AreOfOneFile other.opened last = subst (AreOfOneFile other.opened) (sym it) so.of_one in
          with_last next (next_there next opened last among slot_same)
          (record { slot = of.slot ∙ of_one.slot; input = of.input ∙ of_one.input; key = of.key ∙ of_one.key; rule = of.rule ∙ of_one.rule })
          (passes other.left.turned.history (subst (EndsBefore other.left.turned.history) (sym it) so.ends))
      by_slot false e =
          with_last so.last (others_there next opened so.last so.among
          (λ same. let yes = eq-eqb so.last.begin.slot.0 next.begin.slot.0 same in let q : true ≡ false = sym yes ∙ e in cc)) so.of_one so.ends

  each_on : (earlier : List Earlier) → AllByRecursion (IsEarlierSo watch opened moments) earlier → AllByRecursion (IsEarlierSo watch now_opened moments) earlier
  each_on [] each = tt
  each_on (other ∷ earlier) each = (each_so other each.0, each_on earlier each.1)

  goes_before : (other : Earlier) → IsEarlierSo watch opened moments other → GoesBefore other one
  goes_before other so slots =
      subst (EndsBefore other.left.turned.history) (sym (the_last so.last so.among (ap (λ (s : Slot). s.0) (sym so.of_one.slot ∙ slots)))) so.ends

  in_turn_on : (earlier : List Earlier) → AllByRecursion (IsEarlierSo watch opened moments) earlier → AreInTurn opened earlier → AreInTurn now_opened (earlier ++ one ∷ [])
  in_turn_on [] each turn = (found_next next last.begin.slot opened last among slot_same (sym slot_same), tt, tt)
  in_turn_on (other ∷ earlier) each turn = (
    ap (λ (l : List Opened). first_of other.opened.begin.slot (l ++ now_opened)) (map-append (λ (e : Earlier). e.opened) earlier (one ∷ []))
        ∙ behind_last next opened apart last among slot_same other.opened.begin.slot (opened_before earlier) ∙ turn.0,
    each_last (GoesBefore other) earlier one turn.1 (goes_before other each.0),
    in_turn_on earlier each.1 turn.2,
  )

  module _ (shown : Option FolderHistory) (earlier : List Earlier) (are : AreEarlier watch shown opened moments earlier) (follows : watch.once ≡ false)
      (in_epochs : AreToldInEpochs (tellings_in left.turned.history)) (may : MayReopenAt left.turned.history.stage) (keyed : IsSome shown → IsKeyed last) (tells : IsSome shown → IsSome left.told) where
    pub one_more_earlier : AreEarlier watch shown now_opened moments (earlier ++ one ∷ [])
    one_more_earlier = record {
      none_with_once = λ once. absurd (let no : true ≡ false = sym once ∙ follows in cc);
      each = each_last (IsEarlierSo watch now_opened moments) earlier one (each_on earlier are.each) (record {
        is_told = is_told;
        in_epochs = in_epochs;
        may = may;
        goes_on = goes_on_from;
        last = next;
        among = next_there next opened last among slot_same;
        of_one = of_one;
        ends = ends_here;
      });
      in_turn = in_turn_on earlier are.each are.in_turn;
      keyed = λ some. each_last (λ (e : Earlier). IsKeyed e.opened) earlier one (are.keyed some) (keyed some);
      tell = λ some. each_last (λ (e : Earlier). IsSome e.left.told) earlier one (are.tell some) (tells some);
    }
