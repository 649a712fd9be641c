-- The row of a key, by the slots that Begins give it.
use Rattle.std.proofs.Common.{◌≡◌, inl, inr, ℕ, ◌<◌, ◌≤◌, Bool, true, false, List, [], ◌∷◌, ◌++◌, max, Contains, Option, Some, None, if◌then◌else◌, ◌==◌, refl, sym, ap, ◌∙◌, subst, arith}
use Rattle.std.specs.List.{filter, filter_map, cons_option, fold}
use Rattle.std.specs.Option.{is_some, option_and_then}
use Rattle.std.proofs.lemmas.Bool.{cases_lt, eqb-true, eq-eqb, ne_eqb}
use Rattle.std.proofs.lemmas.List.{append-nil}
use Rattle.std.proofs.lemmas.List.Elements.{filter_map-append, Contains-append_right}
use Rattle.wire_base.specs.declared.row.Row.{Row}
use Rattle.wire_base.specs.declared.note.Note.{Note}
use Rattle.wire_base.specs.declared.note.Note.TheVariants.{Begin, Announce, Settle, Rename, Seen, Forget}
use Rattle.ship_core.specs.Rows.{find}
use Rattle.ship_core.specs.Orderly.{AreOrderly}
use Rattle.ship_core.specs.RowOver.{Start, slot_of, start_of, notes_of, first_start, start_over, row_of, row_over}
use Rattle.ship_core.specs.RowsOver.{slot_for, slots_for, row_of_greatest, row_among, row_for}
use Rattle.ship_core.proofs.Members.{first_there, later_there, there_cases, none_there, passed_there, there_passed, there_given, given_there, least_within, member_within}
use Rattle.ship_core.proofs.MoreNotes.{other_slot}
use Rattle.ship_core.proofs.Reordered.{one_start, first_member}
use Rattle.ship_core.proofs.Built.{named_key, slot_named, named_slot, greatest_there}

-- ---- slots and Begins

some_first : (starts : List Start) (start : Start) → Contains starts start → (first : Start) × (first_start starts ≡ Some first)
some_first [] start there = absurd (none_there start there)
some_first (first ∷ starts) start there = (first, refl)

pub given : (notes : List Note) (key : List ℕ) (slot : ℕ) → AreOrderly notes → Contains (slots_for key notes) slot → (start : Start) × (start_over (notes_of slot notes) ≡ Some start) × (start.key ≡ key)
given notes key slot orderly there =
    let found = there_given (slot_for key) notes slot there in
    let begun = slot_named key found.0 slot found.2 in
    let own = passed_there (λ (note : Note). slot_of note == slot) notes found.0 found.1 (eq-eqb (slot_of found.0) slot begun.3) in
    let member = given_there start_of (notes_of slot notes) found.0 begun.0 own begun.1 in
    let first = some_first (filter_map start_of (notes_of slot notes)) begun.0 member in
    let same = one_start slot notes orderly first.0 begun.0 (first_member (filter_map start_of (notes_of slot notes)) first.0 first.1) member in
    (first.0, first.1, ap (λ (start : Start). start.key) same ∙ begun.2)

start_named : (note : Note) (start : Start) → start_of note ≡ Some start → named_key note ≡ Some start.key
unfolding named_key
start_named (Begin slot key path epoch base changed) start e =
    let q : Some (record { key = key; path = path; epoch = epoch.0; base = base }) ≡ Some start = e in
    let same : record { key = key; path = path; epoch = epoch.0; base = base } ≡ start = cc in
    ap (λ (s : Start). Some s.key) same
start_named (Announce slot epoch) start e = absurd (let q : None ≡ Some start = e in cc)
start_named (Settle slot epoch span cause) start e = absurd (let q : None ≡ Some start = e in cc)
start_named (Rename slot scan path) start e = absurd (let q : None ≡ Some start = e in cc)
start_named (Seen slot changed) start e = absurd (let q : None ≡ Some start = e in cc)
start_named (Forget slot epoch end) start e = absurd (let q : None ≡ Some start = e in cc)

pub gives : (notes : List Note) (slot : ℕ) (start : Start) → start_over (notes_of slot notes) ≡ Some start → Contains (slots_for start.key notes) slot
gives notes slot start begun =
    let member = first_member (filter_map start_of (notes_of slot notes)) start begun in
    let found = there_given start_of (notes_of slot notes) start member in
    let own = there_passed (λ (note : Note). slot_of note == slot) notes found.0 found.1 in
    let named = named_slot start.key found.0 (start_named found.0 start found.2) in
    given_there (slot_for start.key) notes found.0 slot own.0 (named ∙ ap Some (eqb-true (slot_of found.0) slot own.1))

-- ---- the row of a key

nothing_passes : {X : Type 0} (p : X → Bool) (xs : List X) → ((x : X) → Contains xs x → p x ≡ false) → filter p xs ≡ []
nothing_passes p [] none = refl
nothing_passes {X} p (x ∷ xs) none = rw (none x (first_there x xs)) (nothing_passes p xs (λ y there. none y (later_there x y xs there)))

module _ (opening : List Row) (notes : List Note) (key : List ℕ) where
  abbrev stands : ℕ → Bool
  stands slot = is_some (row_over slot notes)

  pub none_given : (slots : List ℕ) → ((slot : ℕ) → Contains slots slot → ⊥) → row_among opening notes key slots ≡ find key opening
  none_given [] none = refl
  none_given (slot ∷ slots) none = absurd (none slot (first_there slot slots))

  pub all_gone : (slots : List ℕ) (one : ℕ) → Contains slots one → ((slot : ℕ) → Contains slots slot → row_over slot notes ≡ None) → row_among opening notes key slots ≡ None
  all_gone [] one there gone = absurd (none_there one there)
  all_gone (slot ∷ slots) one there gone = ap (row_of_greatest notes) (nothing_passes stands (slot ∷ slots) (λ x at. ap is_some (gone x at)))

  pub greatest : (slots : List ℕ) (slot : ℕ) (row : Row) → Contains slots slot → row_over slot notes ≡ Some row → ((other : ℕ) → Contains slots other → slot < other → row_over other notes ≡ None) → row_among opening notes key slots ≡ Some row
  greatest [] slot row there is above = absurd (none_there slot there)
  greatest (first ∷ slots) slot row there is above =
      by_standing (filter stands (first ∷ slots)) refl (passed_there stands (first ∷ slots) slot there (ap is_some is))
    where
      is_greatest : (x : ℕ) (xs : List ℕ) → filter stands (first ∷ slots) ≡ x ∷ xs → Contains (x ∷ xs) slot → fold max x xs ≡ slot
      is_greatest x xs e at = omega (arith, no_more, no_less)
        where
          passed : Contains (first ∷ slots) (fold max x xs) × (stands (fold max x xs) ≡ true)
          passed = there_passed stands (first ∷ slots) (fold max x xs) (subst (λ (l : List ℕ). Contains l (fold max x xs)) (sym e) (greatest_there x xs))

          no_more : fold max x xs ≤ slot
          no_more = elim (cases_lt slot (fold max x xs)) [
            | inl more ↦ absurd (let q : true ≡ false = sym passed.1 ∙ ap is_some (above (fold max x xs) passed.0 more) in cc)
            | inr le ↦ le
          ]

          no_less : slot ≤ fold max x xs
          no_less = elim (there_cases x slot xs at) [
            | inl same ↦ let h = least_within x xs in omega (arith, h, same)
            | inr later ↦ member_within x xs slot later
          ]

      by_standing : (standing : List ℕ) → filter stands (first ∷ slots) ≡ standing → Contains standing slot → row_of_greatest notes standing ≡ Some row
      by_standing [] e at = absurd (none_there slot at)
      by_standing (x ∷ xs) e at = ap (λ (s : ℕ). row_over s notes) (is_greatest x xs e at) ∙ is

-- ---- one note more

filter_same : {X : Type 0} (p q : X → Bool) (xs : List X) → ((x : X) → Contains xs x → p x ≡ q x) → filter p xs ≡ filter q xs
filter_same p q [] same = refl
filter_same {X} p q (x ∷ xs) same =
    λ k. if same x (first_there x xs) k then x ∷ filter_same p q xs (λ y there. same y (later_there x y xs there)) k else filter_same p q xs (λ y there. same y (later_there x y xs there)) k

module _ (opening : List Row) (notes others : List Note) (key : List ℕ) where
  same_greatest_row : (slots : List ℕ) → ((slot : ℕ) → Contains slots slot → row_over slot notes ≡ row_over slot others) → row_of_greatest notes slots ≡ row_of_greatest others slots
  same_greatest_row [] same = refl
  same_greatest_row (slot ∷ slots) same = same (fold max slot slots) (greatest_there slot slots)

  same_among : (slots : List ℕ) → ((slot : ℕ) → Contains slots slot → row_over slot notes ≡ row_over slot others) → row_among opening notes key slots ≡ row_among opening others key slots
  same_among [] same = refl
  same_among (slot ∷ slots) same =
      let p : ℕ → Bool = λ s. is_some (row_over s notes) in
      let q : ℕ → Bool = λ s. is_some (row_over s others) in
      same_greatest_row (filter p (slot ∷ slots)) (λ s there. same s (there_passed p (slot ∷ slots) s there).0)
      ∙ ap (row_of_greatest others) (filter_same p q (slot ∷ slots) (λ s there. ap is_some (same s there)))

pub other_key : (opening : List Row) (notes : List Note) (note : Note) (key : List ℕ) → (Contains (slots_for key (notes ++ note ∷ [])) (slot_of note) → ⊥) → row_for opening (notes ++ note ∷ []) key ≡ row_for opening notes key
other_key opening notes note key absent =
    ap (row_among opening (notes ++ note ∷ []) key) same_slots ∙ same_among opening (notes ++ note ∷ []) notes key (slots_for key notes) same_rows
  where
    no_slot : (o : Option ℕ) → slot_for key note ≡ o → o ≡ None
    no_slot None e = refl
    no_slot (Some slot) e =
        let own : slot_of note ≡ slot = (slot_named key note slot e).3 in
        let last : slots_for key (note ∷ []) ≡ slot ∷ [] = ap (λ (o : Option ℕ). cons_option o []) e in
        absurd (absent (subst (λ (l : List ℕ). Contains l (slot_of note)) (sym (filter_map-append (slot_for key) notes (note ∷ [])))
        (Contains-append_right (slots_for key notes) (slots_for key (note ∷ [])) (slot_of note)
        (subst (λ (l : List ℕ). Contains l (slot_of note)) (sym last) (subst (λ (s : ℕ). Contains (slot ∷ []) s) (sym own) (first_there slot []))))))

    same_slots : slots_for key (notes ++ note ∷ []) ≡ slots_for key notes
    same_slots =
        filter_map-append (slot_for key) notes (note ∷ [])
        ∙ ap (λ (o : Option ℕ). slots_for key notes ++ cons_option o []) (no_slot (slot_for key note) refl)
        ∙ append-nil (slots_for key notes)

    same_rows : (slot : ℕ) → Contains (slots_for key notes) slot → row_over slot (notes ++ note ∷ []) ≡ row_over slot notes
    same_rows slot there =
        ap (λ (l : List Note). option_and_then (row_of l) (start_over l)) (other_slot slot notes note (ne_eqb (slot_of note) slot (λ same.
        absent (subst (λ (l : List ℕ). Contains l (slot_of note)) (sym same_slots) (subst (λ (s : ℕ). Contains (slots_for key notes) s) (sym same) there)))))
