-- Where no note forgets a row, rows over first notes of them have one for each key that had one: the one that it had, or that of the
-- newest slot that was begun for it.
use Rattle.std.proofs.Common.{◌≡◌, ◌⊎◌, inl, inr, ℕ, ◌<◌, ◌≤◌, Bool, true, false, List, [], ◌∷◌, ◌++◌, max, Contains, Option, None, Some, IsSome, ◌==◌, if◌then◌else◌, refl, sym, ap, subst, ◌∙◌, arith}
use Rattle.std.proofs.lemmas.Bool.{cases_lt, eq-eqb}
use Rattle.std.proofs.lemmas.List.Elements.{Contains-append_left, filter-append, filter_map-append}
use Rattle.std.specs.List.{AllByRecursion, filter, filter_map, fold}
use Rattle.std.specs.Option.{is_some}
use Rattle.std.specs.Ordering.{is_eq}
use Rattle.std.specs.declared.cmp.Ordering.{Ordering}
use Rattle.std.specs.declared.cmp.Ordering.TheVariants.{Equal, Greater, Less}
use Rattle.kept_rows.proofs.Begun.{ForgetNone}
use Rattle.kept_rows.proofs.Images.{found_by_its_key}
use Rattle.kept_rows.specs.Backed.{AreRowsOverFronts, IsRowOverAFront}
use Rattle.ship_core.proofs.Members.{first_there, given_there, later_there, none_there, passed_there, there_given}
use Rattle.ship_core.specs.RowOver.{Start, first_start, notes_of, row_over, slot_of, start_of, start_over}
use Rattle.ship_core.specs.Rows.{IsInOrder, find}
use Rattle.ship_core.specs.RowsOver.{row_among, row_of_greatest, slot_for, slots_for}
use Rattle.wire_base.specs.KeyOrder.{compare}
use Rattle.wire_base.specs.declared.note.Note.{Note}
use Rattle.wire_base.specs.declared.note.Note.TheVariants.{Announce, Begin, Forget, Rename, Seen, Settle}
use Rattle.wire_base.specs.declared.row.Row.{Row}
use Rattle.accounts.proofs.Grounded.{each_member}
use Rattle.accounts.proofs.OwnNotes.{own_row_stands}
use Rattle.kept_rows.specs.Account.{SlotAccount}
use Rattle.kept_rows.specs.Run.{Run}
use Rattle.run_steps.specs.AccountedFor.{Absences, HasRowOf}
use Rattle.run_steps.proofs.HeldRows.{some_of}
use Rattle.told_scans.proofs.Members.{some_is}
use Rattle.accounts.proofs.BegunRows.{found_key, found_there}

-- ---- a slot that was begun

-- the note begins the slot
record BeginsSlot (slot : ℕ) (note : Note) : Type 0 where
  start : Start
  start_is : start_of note ≡ Some start
  slot_is : slot_of note ≡ slot

begins_slot : (key : List ℕ) (slot : ℕ) (note : Note) → slot_for key note ≡ Some slot → BeginsSlot slot note
begins_slot key slot (Begin given named path epoch base changed) is = by_order (compare key named) is
  where
    by_order : (o : Ordering) → (if is_eq o then Some given.0 else None) ≡ Some slot → BeginsSlot slot (Begin given named path epoch base changed)
    by_order Equal begun = record { start = record { key = named; path = path; epoch = epoch.0; base = base }; start_is = refl; slot_is = some_is given.0 slot begun }
    by_order Less none = absurd (let q : None ≡ Some slot = none in cc)
    by_order Greater none = absurd (let q : None ≡ Some slot = none in cc)
begins_slot key slot (Announce given epoch) is = absurd (let q : None ≡ Some slot = is in cc)
begins_slot key slot (Settle given epoch span cause) is = absurd (let q : None ≡ Some slot = is in cc)
begins_slot key slot (Rename given scan path) is = absurd (let q : None ≡ Some slot = is in cc)
begins_slot key slot (Seen given changed) is = absurd (let q : None ≡ Some slot = is in cc)
begins_slot key slot (Forget given epoch end) is = absurd (let q : None ≡ Some slot = is in cc)

first_is_some : (starts : List Start) (start : Start) → Contains starts start → IsSome (first_start starts)
first_is_some [] start there = absurd (none_there start there)
first_is_some (first ∷ starts) start there = refl

-- no note of a slot that is begun for the key forgets it
abbrev pub KeepsItsSlots : List Note → List ℕ → Type 0
KeepsItsSlots notes key = (slot : ℕ) → Contains (slots_for key notes) slot → ForgetNone (notes_of slot notes)

module _ (notes : List Note) where
  abbrev stands : ℕ → Bool
  stands slot = is_some (row_over slot notes)

  begun_stands : (key : List ℕ) → KeepsItsSlots notes key → (slot : ℕ) → Contains (slots_for key notes) slot → stands slot ≡ true
  begun_stands key none slot there =
      let of = there_given (slot_for key) notes slot there in
      let begins = begins_slot key slot of.0 of.2 in
      let own = passed_there (λ (note : Note). slot_of note == slot) notes of.0 of.1 (eq-eqb (slot_of of.0) slot begins.slot_is) in
      let some = first_is_some (filter_map start_of (notes_of slot notes)) begins.start (given_there start_of (notes_of slot notes) of.0 begins.start own begins.start_is) in
      let begun = some_of (start_over (notes_of slot notes)) some in
      ap (λ (o : Option Row). is_some o) (own_row_stands slot notes begun.0 (none slot there) begun.1)

  -- ---- the greatest of them

  greatest_stands : (slot : ℕ) (slots : List ℕ) → stands slot ≡ true → AllByRecursion (λ (one : ℕ). stands one ≡ true) slots → stands (fold max slot slots) ≡ true
  greatest_stands slot [] is all = is
  greatest_stands slot (other ∷ slots) is all = greatest_stands (max slot other) slots (by_order (cases_lt slot other)) all.1
    where
      by_order : (slot < other) ⊎ (other ≤ slot) → stands (max slot other) ≡ true
      by_order (inl less) = subst (λ (one : ℕ). stands one ≡ true) (omega (arith, less)) all.0
      by_order (inr most) = subst (λ (one : ℕ). stands one ≡ true) (omega (arith, most)) is

  passed_stand : (slots : List ℕ) → AllByRecursion (λ (one : ℕ). stands one ≡ true) (filter stands slots)
  passed_stand [] = tt
  passed_stand (slot ∷ slots) = by_case (stands slot) refl (passed_stand slots)
    where
      by_case : (b : Bool) → stands slot ≡ b → AllByRecursion (λ (one : ℕ). stands one ≡ true) (filter stands slots) →
          AllByRecursion (λ (one : ℕ). stands one ≡ true) (if b then slot ∷ filter stands slots else filter stands slots)
      by_case true is others = (is, others)
      by_case false is others = others

  row_is_some : (slot : ℕ) (slots : List ℕ) → stands slot ≡ true → IsSome (row_of_greatest notes (filter stands (slot ∷ slots)))
  row_is_some slot slots is =
      subst (λ (b : Bool). IsSome (row_of_greatest notes (if b then slot ∷ filter stands slots else filter stands slots))) (sym is)
      (greatest_stands slot (filter stands slots) is (passed_stand slots))

front_forgets_none : (front rest : List Note) → ForgetNone (front ++ rest) → ForgetNone front
front_forgets_none [] rest all = tt
front_forgets_none (note ∷ front) rest all = (all.0, front_forgets_none front rest all.1)

keeps_in_front : (key : List ℕ) (front rest : List Note) → KeepsItsSlots (front ++ rest) key → KeepsItsSlots front key
keeps_in_front key front rest none slot there =
    front_forgets_none (notes_of slot front) (notes_of slot rest)
    (subst ForgetNone (filter-append (λ (note : Note). slot_of note == slot) front rest)
    (none slot (subst (λ (l : List ℕ). Contains l slot) (sym (filter_map-append (slot_for key) front rest)) (Contains-append_left (slots_for key front) (slots_for key rest) slot there))))

-- ---- each key

module _ (opening : List Row) (notes : List Note) (rows : List Row) (ordered : IsInOrder opening) (over : AreRowsOverFronts opening notes rows) where
  one_stays : (row : Row) → Contains opening row → KeepsItsSlots notes row.key → HasRowOf rows row.key
  one_stays row there none = by_slots (slots_for row.key of.front) refl
    where
      of : IsRowOverAFront opening notes rows row.key
      of = over.each row.key

      front_none : KeepsItsSlots of.front row.key
      front_none = keeps_in_front row.key of.front of.rest (subst (λ (l : List Note). KeepsItsSlots l row.key) of.notes_are none)

      stand : (slots : List ℕ) → ((slot : ℕ) → Contains slots slot → Contains (slots_for row.key of.front) slot) → AllByRecursion (λ (one : ℕ). stands of.front one ≡ true) slots
      stand [] within = tt
      stand (slot ∷ slots) within =
          (begun_stands of.front row.key front_none slot (within slot (first_there slot slots)), stand slots (λ other later. within other (later_there slot other slots later)))

      by_slots : (slots : List ℕ) → slots_for row.key of.front ≡ slots → HasRowOf rows row.key
      by_slots [] not_begun = record {
        row = row;
        of_rows = found_there row.key rows row (of.is ∙ ap (row_among opening of.front row.key) not_begun ∙ found_by_its_key opening row ordered there);
        key_is = refl;
      }
      by_slots (slot ∷ slots) begun =
          let all = stand (slot ∷ slots) (λ one among. subst (λ (l : List ℕ). Contains l one) (sym begun) among) in
          let found = some_of (row_among opening of.front row.key (slot ∷ slots)) (row_is_some of.front slot slots all.0) in
          let is : find row.key rows ≡ Some found.0 = of.is ∙ ap (row_among opening of.front row.key) begun ∙ found.1 in
          record { row = found.0; of_rows = found_there row.key rows found.0 is; key_is = found_key row.key rows found.0 is }

  -- whichever keys may be without a row
  module _ (Absent : Absences) (run : Run) (account : List SlotAccount) (keeps : (row : Row) → Contains opening row → KeepsItsSlots notes row.key ⊎ Absent run account row.key) where
    stays_or_not : (row : Row) → Contains opening row → HasRowOf rows row.key ⊎ Absent run account row.key
    stays_or_not row there = by_case (keeps row there)
      where
        by_case : KeepsItsSlots notes row.key ⊎ Absent run account row.key → HasRowOf rows row.key ⊎ Absent run account row.key
        by_case (inl none) = inl (one_stays row there none)
        by_case (inr absent) = inr absent

    pub rows_stay : AllByRecursion (λ (row : Row). HasRowOf rows row.key ⊎ Absent run account row.key) opening
    rows_stay = each_member (λ (row : Row). HasRowOf rows row.key ⊎ Absent run account row.key) opening stays_or_not
