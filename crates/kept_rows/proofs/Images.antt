-- Rows over the first of backed notes are kept.
use Rattle.std.proofs.Common.{◌≡◌, ◌⊎◌, inl, inr, ℕ, ◌<◌, ◌≤◌, cond, if◌then◌else◌, List, [], ◌∷◌, ◌++◌, max, Some, None, refl, sym, ap, ◌∙◌, subst, append_assoc, arith}
use Rattle.std.specs.List.{Contains, filter, fold}
use Rattle.std.specs.Option.{is_some}
use Rattle.std.specs.Ordering.{is_eq}
use Rattle.std.proofs.lemmas.Bool.{cases_lt}
use Rattle.std.specs.declared.cmp.Ordering.{Ordering}
use Rattle.std.specs.declared.cmp.Ordering.TheVariants.{Less, Equal, Greater}
use Rattle.wire_base.specs.KeyOrder.{compare}
use Rattle.wire_base.proofs.ByteOrder.{compare_greater, compare_same, same_key}
use Rattle.wire_base.specs.declared.note.Note.{Note}
use Rattle.wire_base.specs.declared.row.Row.{Row}
use Rattle.ship_core.proofs.Members.{none_there, there_cases}
use Rattle.ship_core.specs.RowOver.{row_over}
use Rattle.ship_core.specs.Rows.{IsBefore, IsInOrder, find}
use Rattle.ship_core.specs.RowsOver.{AreRowsOver, row_among, row_for, row_of_greatest, slots_for}
use Rattle.told_events.proofs.Going.{all_front}
use Rattle.kept_rows.specs.Account.{SlotAccount, key_of, slot_at, slot_of}
use Rattle.kept_rows.specs.Backed.{AreBacked, AreBegun, AreInRows, AreRowsOverFronts, Backs, IsRowOverAFront, OnlyTheNewestHaveRows}
use Rattle.kept_rows.specs.Kept.{IsKept, IsKeptInImage, IsNewestSlot, IsUnbegun, StandsAsOpened}
use Rattle.kept_rows.specs.Trace.{WireTold}
use Rattle.kept_rows.proofs.Backing.{ClosesBy, row_is_kept, row_is_told_at, slot_in}

-- a row that is found has the key
pub found_key : (key : List ℕ) (rows : List Row) (row : Row) → find key rows ≡ Some row → key ≡ row.key
found_key key [] row is = absurd (let q : None ≡ Some row = is in cc)
found_key key (first ∷ rows) row is = go (compare key first.key) refl is (λ e. found_key key rows row e)
  where
    go : (o : Ordering) → compare key first.key ≡ o → cond (is_eq o) (Some first) (find key rows) ≡ Some row → (find key rows ≡ Some row → key ≡ row.key) → key ≡ row.key
    go Less order e again = again e
    go Greater order e again = again e
    go Equal order e again =
        let q : Some first ≡ Some row = e in
        let same : first ≡ row = cc in
        same_key key first.key order ∙ ap (λ (r : Row). r.key) same

as_opened : (key : List ℕ) (opening : List Row) (row : Row) → find key opening ≡ Some row → StandsAsOpened opening row
as_opened key opening row is = record {
  opened = row;
  found = subst (λ (k : List ℕ). find k opening ≡ Some row) (found_key key opening row is) is;
  same_epoch = refl;
  same_offset = refl;
}

-- a row over notes that is that of a slot
pub record IsRowOfSlot (notes : List Note) (row : Row) : Type 0 where
  pub slot : ℕ
  pub is : row_over slot notes ≡ Some row

-- so it is, or it is the opening one of a key to which no Begin gave a slot
pub row_for_cases : (opening : List Row) (notes : List Note) (key : List ℕ) (row : Row) → row_for opening notes key ≡ Some row →
    IsRowOfSlot notes row ⊎ ((slots_for key notes ≡ []) × (find key opening ≡ Some row))
row_for_cases opening notes key row is = go (slots_for key notes) refl is
  where
    greatest : (slots : List ℕ) → row_of_greatest notes slots ≡ Some row → IsRowOfSlot notes row
    greatest [] e = absurd (let q : None ≡ Some row = e in cc)
    greatest (slot ∷ slots) e = record { slot = fold max slot slots; is = e }

    go : (slots : List ℕ) → slots_for key notes ≡ slots → row_among opening notes key slots ≡ Some row →
        IsRowOfSlot notes row ⊎ ((slots_for key notes ≡ []) × (find key opening ≡ Some row))
    go [] none e = inr (none, e)
    go (slot ∷ slots) some e = inl (greatest (filter (λ given. is_some (row_over given notes)) (slot ∷ slots)) e)

pub kept_in_image : ClosesBy → (account : List SlotAccount) (opening : List Row) (wires : List WireTold) (notes : List Note) (rows : List Row) → AreInRows account →
    AreBacked account wires notes → AreRowsOverFronts opening notes rows → (key : List ℕ) (row : Row) → find key rows ≡ Some row → IsKeptInImage account opening wires row
kept_in_image closes account opening wires notes rows in_rows backed over key row is =
    let front = over.each key in
    let backed_front = all_front (Backs account wires) front.front front.rest (subst (AreBacked account wires) front.notes_are backed) in
    elim (row_for_cases opening front.front key row (sym front.is ∙ is)) [
      | inl of ↦ inl (row_is_kept closes account wires front.front of.slot row in_rows backed_front of.is)
      | inr opened ↦ inr (as_opened key opening row opened.1)
    ]

-- a key to which no Begin gave a slot was not begun, if each slot of the account has its Begin among the notes
pub unbegun : (account : List SlotAccount) (notes : List Note) (key : List ℕ) → AreBegun account notes → slots_for key notes ≡ [] → IsUnbegun account key
unbegun [] notes key begun none = tt
unbegun (one ∷ account) notes key begun none =
    (λ same. none_there (slot_of one) (subst (λ (l : List ℕ). Contains l (slot_of one)) (ap (λ (k : List ℕ). slots_for k notes) same ∙ none) begun.0), unbegun account notes key begun.1 none)

-- a slot that has a row is the newest one of its key
is_newest : (account : List SlotAccount) (notes : List Note) → OnlyTheNewestHaveRows account notes → (row : Row) (slot : ℕ) (one : SlotAccount) → slot_at slot account ≡ Some one →
    key_of one ≡ row.key → row_over slot notes ≡ Some row → IsNewestSlot account row.key slot
is_newest account notes newest row slot one slot_is key_is is other another other_is same_key = by_order (cases_lt slot other)
  where
    by_order : (slot < other) ⊎ (other ≤ slot) → other ≤ slot
    by_order (inr within) = within
    by_order (inl later) =
        let of = slot_in account slot one slot_is in
        let its = slot_in account other another other_is in
        let mine = of.1 in
        let theirs = its.1 in
        let none = newest one another of.0 its.0 (key_is ∙ sym same_key) (omega (arith, later, mine, theirs)) in
        absurd (let q : None ≡ Some row = sym none ∙ ap (λ (n : ℕ). row_over n notes) of.1 ∙ is in cc)

pub kept_at_the_end : ClosesBy → (account : List SlotAccount) (opening : List Row) (wires : List WireTold) (notes : List Note) (rows : List Row) → AreInRows account →
    AreBacked account wires notes → AreBegun account notes → OnlyTheNewestHaveRows account notes → AreRowsOver opening notes rows → (key : List ℕ) (row : Row) → find key rows ≡ Some row →
    IsKept account opening wires row
kept_at_the_end closes account opening wires notes rows in_rows backed begun newest over key row is =
    elim (row_for_cases opening notes key row (sym (over.each key) ∙ is)) [
      | inl of ↦
          let told = row_is_told_at of.slot row closes account wires notes in_rows backed of.is in
          inl (record {
            told = told.0;
            newest = is_newest account notes newest row told.0.slot told.0.one told.0.slot_is told.0.key_is (ap (λ (n : ℕ). row_over n notes) told.1 ∙ of.is);
          })
      | inr opened ↦ inr (
        subst (IsUnbegun account) (found_key key opening row opened.1) (unbegun account notes key begun opened.0),
        as_opened key opening row opened.1,
      )
    ]

-- ---- what rows over the first of notes are of more notes, and rows by their keys

-- the first of notes are the first of more
front_goes_on : (opening : List Row) (notes more : List Note) (rows : List Row) (key : List ℕ) → IsRowOverAFront opening notes rows key → IsRowOverAFront opening (notes ++ more) rows key
front_goes_on opening notes more rows key over = record {
  front = over.front;
  rest = over.rest ++ more;
  notes_are = ap (λ (l : List Note). l ++ more) over.notes_are ∙ append_assoc over.front over.rest more;
  is = over.is;
}

pub fronts_go_on : (opening : List Row) (notes more : List Note) (rows : List Row) → AreRowsOverFronts opening notes rows → AreRowsOverFronts opening (notes ++ more) rows
fronts_go_on opening notes more rows over = record { in_order = over.in_order; each = λ key. front_goes_on opening notes more rows key (over.each key) }

-- rows over notes are so over the first of these and more
pub over_the_first : (opening : List Row) (notes more : List Note) (rows : List Row) → AreRowsOver opening notes rows → AreRowsOverFronts opening (notes ++ more) rows
over_the_first opening notes more rows over = record { in_order = over.in_order; each = λ key. record { front = notes; rest = more; notes_are = refl; is = over.each key } }

-- of rows in order each is the one that is found by its key
pub found_by_its_key : (rows : List Row) (row : Row) → IsInOrder rows → Contains rows row → find row.key rows ≡ Some row
found_by_its_key [] row ordered there = absurd (none_there row there)
found_by_its_key (first ∷ rows) row ordered there = by_case (there_cases first row rows there) (found_by_its_key rows row ordered.1)
  where
    behind : (rows : List Row) → IsBefore first.key rows → Contains rows row → compare row.key first.key ≡ Greater
    behind [] before there = absurd (none_there row there)
    behind (next ∷ rows) before there = elim (there_cases next row rows there) [
      | inl same ↦ compare_greater first.key row.key (subst (λ (r : Row). compare first.key r.key ≡ Less) same before.0)
      | inr later ↦ behind rows before.1 later
    ]

    by_case : (first ≡ row) ⊎ Contains rows row → (Contains rows row → find row.key rows ≡ Some row) → (if is_eq (compare row.key first.key) then Some first else find row.key rows) ≡ Some row
    by_case (inl same) rest = rw (compare_same row.key first.key (ap (λ (r : Row). r.key) (sym same))) (ap Some same)
    by_case (inr later) rest = rw (behind rows ordered.0 later) (rest later)
