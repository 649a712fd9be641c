-- The files of a run over all their openings: what is known of each as it was opened last, and the openings that came before, put before it from the
-- last one of them on. Each is reopened as its account asks for it, and begins as it was opened first.
use Rattle.std.proofs.Common.{◌≡◌, ℕ, ◌==◌, Bool, true, false, List, [], ◌∷◌, ◌++◌, Contains, Some, map, if◌then◌else◌, refl, sym, ap, subst, ◌∙◌}
use Rattle.std.proofs.lemmas.Bool.{eq-eqb, eqb-true}
use Rattle.std.specs.List.{AllByRecursion}
use Rattle.accounts.proofs.Backing.{mapped_there}
use Rattle.accounts.proofs.Grounded.{each_member, of_map}
use Rattle.accounts.proofs.Orderly.{member_is, same_item}
use Rattle.accounts.proofs.PutBefore.{AreOfOneSlot, reopened_behind}
use Rattle.accounts.specs.Filed.{Filed, Opening, first_opening, slot_in, tail_by}
use Rattle.accounts.specs.FollowedFile.{AreReopened, IsOpeningOf, MayReopenAt, WasShownLast, start_in}
use Rattle.accounts.specs.Opened.{Opened}
use Rattle.outside.specs.declared.history.Look.{Look}
use Rattle.harvester.specs.History.{told_to}
use Rattle.kept_rows.specs.Account.{FollowedTail}
use Rattle.kept_rows.specs.Followed.{IsClosedBefore}
use Rattle.kept_rows.specs.Run.{Run}
use Rattle.kept_rows.specs.Scans.{AreDistinct}
use Rattle.slot_parts.specs.Account.{goes_on}
use Rattle.told_scans.proofs.Members.{some_is}
use Rattle.wire_base.specs.declared.numbers.Slot.{Slot}
use Rattle.run_steps.specs.Earlier.{AreInTurn, first_of}
use Rattle.run_steps.specs.SoFar.{Earlier, first_opened, opened_before, with_opening}
use Rattle.run_steps.proofs.EarlierMore.{found, found_next, found_other, slot_numbers}
use Rattle.run_steps.proofs.FirstOpened.{FirstOf, first_named}
use Rattle.run_steps.proofs.Ordering.{same_slots}

-- one of the last openings is of its slot
pub record HasLast (opened : List Opened) (one : Opened) : Type 0 where
  pub last : Opened
  pub among : Contains opened last
  pub same : AreOfOneSlot one last

numbers_same : (earlier : List Earlier) (opened : List Opened) → slot_numbers (first_opened earlier opened) ≡ slot_numbers opened
numbers_same earlier opened =
    sym (map-map (first_opened earlier opened)) ∙ ap (map (λ (s : Slot). s.0)) (same_slots earlier opened) ∙ map-map opened
  where
    map-map : (some : List Opened) → map (λ (s : Slot). s.0) (map (λ (o : Opened). o.begin.slot) some) ≡ slot_numbers some
    map-map [] = refl
    map-map (one ∷ some) = ap (λ (l : List ℕ). one.begin.slot.0 ∷ l) (map-map some)

-- ---- the first opening of a slot is that of its file

first_of_all : (slot : Slot) (earlier : List Earlier) (opened : List Opened) → AllByRecursion (λ (one : Earlier). HasLast opened one.opened) earlier →
    first_of slot (opened_before earlier ++ opened) ≡ first_of slot (first_opened earlier opened)
first_of_all slot [] opened have = refl
first_of_all slot (one ∷ earlier) opened have = by_slot (one.opened.begin.slot.0 == slot.0) refl (first_of_all slot earlier opened have.1)
  where
    it : FirstOf earlier opened one.opened.begin.slot
    it = first_named earlier opened one.opened.begin.slot have.0.last have.0.among (sym have.0.same.slot)

    by_slot : (b : Bool) → (one.opened.begin.slot.0 == slot.0) ≡ b → first_of slot (opened_before earlier ++ opened) ≡ first_of slot (first_opened earlier opened) →
        (if b then Some one.opened else first_of slot (opened_before earlier ++ opened)) ≡ first_of slot (with_opening one.opened (first_opened earlier opened))
    by_slot true e later = sym (found_next one.opened slot (first_opened earlier opened) it.one it.among (ap (λ (s : Slot). s.0) it.slot_is) (eqb-true one.opened.begin.slot.0 slot.0 e))
    by_slot false e later =
        later
        ∙ sym (found_other one.opened slot (first_opened earlier opened) (λ same. let yes = eq-eqb one.opened.begin.slot.0 slot.0 same in let q : true ≡ false = sym yes ∙ e in cc))

-- ---- put before

abbrev pub opening_of : (Opened → List Look) → Earlier → Opening
opening_of looks one = record { opened = one.opened; history = one.left.turned.history; looks = looks one.opened }

module _ (looks : Opened → List Look) where
  abbrev pub put_before : Earlier → Filed → Filed
  put_before one file = record file { opened = one.opened; turned = one.left.turned; looks = looks one.opened; later = first_opening file ∷ file.later }

  -- before the file of its slot
  abbrev pub put_of_slot : Earlier → Filed → Filed
  put_of_slot one file = if slot_in file == one.opened.begin.slot.0 then put_before one file else file

  abbrev pub with_earlier : List Earlier → List Filed → List Filed
  with_earlier [] files = files
  with_earlier (one ∷ earlier) files = map (put_of_slot one) (with_earlier earlier files)

  abbrev opened_of : List Filed → List Opened
  opened_of files = map (λ (file : Filed). file.opened) files

  each_put : (one : Earlier) (files : List Filed) → opened_of (map (put_of_slot one) files) ≡ with_opening one.opened (opened_of files)
  each_put one [] = refl
  each_put one (file ∷ files) = λ k. by_slot (slot_in file == one.opened.begin.slot.0) k ∷ each_put one files k
    where
      by_slot : (b : Bool) → (if b then put_before one file else file).opened ≡ (if b then one.opened else file.opened)
      by_slot true = refl
      by_slot false = refl

  -- each begins as it was opened first
  pub begin_first : (earlier : List Earlier) (files : List Filed) → opened_of (with_earlier earlier files) ≡ first_opened earlier (opened_of files)
  begin_first [] files = refl
  begin_first (one ∷ earlier) files = each_put one (with_earlier earlier files) ∙ ap (with_opening one.opened) (begin_first earlier files)

  -- ---- what is known of each

  module _ (run : Run) (opened : List Opened) (distinct : AreDistinct (slot_numbers opened)) where
    -- of an opening that came before
    pub record IsPutBefore (one : Earlier) : Type 0 where
      pub of_last : HasLast opened one.opened
      pub is : IsOpeningOf run one.opened (opening_of looks one)
      pub shown : WasShownLast run one.opened
      pub size_is : shown.shown.entry.size ≡ one.opened.begin.size
      pub starts : start_in one.next ≡ goes_on one.left.turned.history.present.epoch (told_to one.left.turned.history.present) one.next.begin.size
      pub may : MayReopenAt one.left.turned.history.stage
      pub closed : (next : FollowedTail) → next.opening ≡ one.next.opening → IsClosedBefore run.trace (tail_by (opening_of looks one)).tail next

    -- of a file with the openings so far
    pub record IsJoinedSo (file : Filed) : Type 0 where
      pub of_last : HasLast opened file.opened
      pub is : IsOpeningOf run file.opened (first_opening file)
      pub shown : WasShownLast run file.opened
      pub size_is : shown.shown.entry.size ≡ file.opened.begin.size
      pub reopened : AreReopened run file.opened (first_opening file) file.turned.history file.later

    same_file : (one : Opened) (other : Opened) → HasLast opened one → HasLast opened other → one.begin.slot.0 ≡ other.begin.slot.0 → AreOfOneSlot one other
    same_file one other first second slots =
        let last_is : first.last ≡ second.last =
        same_item (λ (o : Opened). o.begin.slot.0) opened first.last second.last distinct first.among second.among
        (ap (λ (s : Slot). s.0) (sym first.same.slot) ∙ slots ∙ ap (λ (s : Slot). s.0) second.same.slot) in
        record {
          slot = first.same.slot ∙ ap (λ (o : Opened). o.begin.slot) last_is ∙ sym second.same.slot;
          input = first.same.input ∙ ap (λ (o : Opened). o.begin.input) last_is ∙ sym second.same.input;
          key = first.same.key ∙ ap (λ (o : Opened). o.begin.key) last_is ∙ sym second.same.key;
          rule = first.same.rule ∙ ap (λ (o : Opened). o.rule) last_is ∙ sym second.same.rule;
        }

    put_so : (one : Earlier) (file : Filed) → IsPutBefore one → IsJoinedSo file → slot_in file ≡ one.opened.begin.slot.0 → file.opened ≡ one.next → IsJoinedSo (put_before one file)
    put_so one file before joined slots next_is = record {
      of_last = before.of_last;
      is = before.is;
      shown = before.shown;
      size_is = before.size_is;
      reopened = reopened_behind run (opening_of looks one) file (record {
        same = same_file file.opened one.opened joined.of_last before.of_last slots;
        is = joined.is;
        shown = joined.shown;
        starts = ap start_in next_is ∙ before.starts
            ∙ ap (goes_on one.left.turned.history.present.epoch (told_to one.left.turned.history.present)) (ap (λ (o : Opened). o.begin.size) (sym next_is) ∙ sym joined.size_is);
        may = before.may;
        closed = before.closed (tail_by (first_opening file)).tail (ap (λ (o : Opened). o.opening) next_is);
      }) joined.reopened;
    }

    have_last : (earlier : List Earlier) → AllByRecursion IsPutBefore earlier → AllByRecursion (λ (one : Earlier). HasLast opened one.opened) earlier
    have_last [] each = tt
    have_last (one ∷ earlier) each = (each.0.of_last, have_last earlier each.1)

    first_distinct : (earlier : List Earlier) → AreDistinct (slot_numbers (first_opened earlier opened))
    first_distinct earlier = subst AreDistinct (sym (numbers_same earlier opened)) distinct

    module _ (files : List Filed) (files_are : opened_of files ≡ opened) (each_joined : AllByRecursion IsJoinedSo files) where
      -- with one more that came before them
      joined_more : (one : Earlier) (earlier : List Earlier) → AllByRecursion IsPutBefore (one ∷ earlier) → AreInTurn opened (one ∷ earlier) → AllByRecursion IsJoinedSo (with_earlier earlier files) →
          AllByRecursion IsJoinedSo (with_earlier (one ∷ earlier) files)
      joined_more one earlier each turn others_joined =
          each_member IsJoinedSo (map (put_of_slot one) others) (λ file there.
          let of = of_map (put_of_slot one) others file there in
          subst IsJoinedSo of.is (by_slot of.item of.among (slot_in of.item == one.opened.begin.slot.0) refl))
        where
          others : List Filed
          others = with_earlier earlier files

          next_is : (file : Filed) → Contains others file → slot_in file ≡ one.opened.begin.slot.0 → file.opened ≡ one.next
          next_is file there slots =
              let among : Contains (first_opened earlier opened) file.opened =
              subst (λ (l : List Opened). Contains l file.opened) (begin_first earlier files ∙ ap (first_opened earlier) files_are) (mapped_there (λ (f : Filed). f.opened) others file there) in
              some_is file.opened one.next
              (sym (found one.opened.begin.slot (first_opened earlier opened) file.opened (first_distinct earlier) among slots)
              ∙ sym (first_of_all one.opened.begin.slot earlier opened (have_last earlier each.1)) ∙ turn.0)

          by_slot : (file : Filed) → Contains others file → (b : Bool) → (slot_in file == one.opened.begin.slot.0) ≡ b → IsJoinedSo (if b then put_before one file else file)
          by_slot file there true e =
              let slots = eqb-true (slot_in file) one.opened.begin.slot.0 e in
              put_so one file each.0 (member_is IsJoinedSo others file others_joined there) slots (next_is file there slots)
          by_slot file there false e = member_is IsJoinedSo others file others_joined there

      pub joined_each : (earlier : List Earlier) → AllByRecursion IsPutBefore earlier → AreInTurn opened earlier → AllByRecursion IsJoinedSo (with_earlier earlier files)
      joined_each [] each turn = each_joined
      joined_each (one ∷ earlier) each turn = joined_more one earlier each turn (joined_each earlier each.1 turn.2)
