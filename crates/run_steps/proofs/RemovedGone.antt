-- Where the Forget of each row that is removed was noted, none of them is among the rows over the notes.
use Rattle.std.proofs.Common.{◌≡◌, ◌⊎◌, inl, inr, ⊎_elim, ℕ, ◌≤◌, ◌==◌, ◌||◌, ◌&&◌, nat_lt, nat_le, Bool, true, false, List, [], ◌∷◌, Contains, if◌then◌else◌, Option, None, Some, refl, sym, ap, subst, ◌∙◌, arith}
use Rattle.std.proofs.lemmas.Bool.{and_from, cases_lt, eq-eqb, eqb-true, le-leb, lt-ltb, or_left, or_right}
use Rattle.std.specs.List.{AllByRecursion, filter, filter_map}
use Rattle.std.specs.Option.{is_some, option_and_then}
use Rattle.std.specs.Ordering.{is_eq}
use Rattle.accounts.proofs.BegunRows.{are_notes, found_there}
use Rattle.accounts.proofs.Grounded.{each_member}
use Rattle.accounts.proofs.HiddenSlots.{hidden_found}
use Rattle.accounts.proofs.Ordered.{IsCollectable, is_collectable}
use Rattle.accounts.proofs.Orderly.{member_is, same_item}
use Rattle.accounts.specs.Filed.{Filed, slot_in, turned_of}
use Rattle.accounts.specs.FollowedFile.{key_in}
use Rattle.kept_rows.specs.Followed.{Start as StartBy, start_unlisted}
use Rattle.accounts.specs.Hidden.{Hidden, hidden_account, hidden_begin, hidden_forget, hidden_key, hidden_slot, with_hidden}
use Rattle.accounts.specs.RunTold.{RunNotes, RunTold}
use Rattle.accounts.specs.Taken.{Taken, acknowledged_in}
use Rattle.accounts.specs.ToldNotes.{IsForgetOf, IsKnownNote, IsNamingOf}
use Rattle.event_tree.specs.declared.input_rule.InputRule.{InputRule}
use Rattle.file_rows.specs.Removed.{IsListedKey, IsRemoved}
use Rattle.kept_rows.proofs.Images.{found_by_its_key}
use Rattle.kept_rows.specs.Account.{SlotAccount, slot_at}
use Rattle.kept_rows.specs.Run.{Run}
use Rattle.prospect.specs.declared.listed.Listed.{Listed}
use Rattle.ship_core.proofs.Prefixes.{no_nearer}
use Rattle.ship_core.proofs.Members.{given_there, member_within, none_there, passed_there, there_any, there_given, there_passed, first_there}
use Rattle.ship_core.specs.RowOver.{Start, epoch_of, first_start, forgets, greatest_epoch, is_gone, notes_of, offset_over, row_of, row_over, slot_of, spans_in, start_of, start_over, base_in, standing_row}
use Rattle.ship_core.specs.RowsOver.{AreRowsOver, row_among, row_of_greatest, slot_for, slots_for}
use Rattle.wire_base.proofs.ByteOrder.{compare_same}
use Rattle.wire_base.specs.declared.note.Note.{Note}
use Rattle.wire_base.specs.declared.note.Note.TheVariants.{Announce, Begin, Forget, Rename, Seen, Settle}
use Rattle.wire_base.specs.declared.row.Row.{Row}
use Rattle.run_steps.specs.HiddenRows.{AreAllForgotten, WasTold}
use Rattle.run_steps.proofs.HiddenAmong.{IsHiddenOf}
use Rattle.run_steps.proofs.KeyNotes.{IsOfFile, IsOfRow, whose, whose_slot}

first_member : (starts : List Start) (start : Start) → first_start starts ≡ Some start → Contains starts start
first_member [] start e = absurd (let q : None ≡ Some start = e in cc)
first_member (first ∷ starts) start e = let q : Some first ≡ Some start = e in let same : first ≡ start = cc in subst (Contains (first ∷ starts)) same (first_there first starts)

-- what is collected begins nothing
no_start : (note : Note) (start : Start) → IsCollectable note → start_of note ≡ Some start → ⊥
no_start (Begin slot named path epoch base changed) start is begun = is
no_start (Announce slot epoch) start is begun = let q : None ≡ Some start = begun in cc
no_start (Settle slot epoch span cause) start is begun = let q : None ≡ Some start = begun in cc
no_start (Rename slot scan path) start is begun = is
no_start (Seen slot changed) start is begun = is
no_start (Forget slot epoch end) start is begun = is

-- none of these slots passes
none_pass : (notes : List Note) (slots : List ℕ) → AllByRecursion (λ slot. is_some (row_over slot notes) ≡ false) slots → filter (λ slot. is_some (row_over slot notes)) slots ≡ []
none_pass notes [] each = refl
none_pass notes (slot ∷ slots) each =
    ap (λ (b : Bool). if b then slot ∷ filter (λ s. is_some (row_over s notes)) slots else filter (λ s. is_some (row_over s notes)) slots) each.0 ∙ none_pass notes slots each.1

module _ (run : Run) (files : List Filed) (hiddens : List Hidden) (workers : List Taken) (notes : RunNotes) (told : RunTold run files hiddens workers notes) where
  abbrev Known : Note → Type 0
  Known = IsKnownNote run files hiddens (acknowledged_in workers)

  each_known : AllByRecursion Known notes.all
  each_known = (are_notes run files hiddens workers notes told).each

  -- ---- the row of a slot of which the Forget was noted is gone

  module _ (hidden : Hidden) (there : Contains hiddens hidden) (forgotten : Contains notes.all (hidden_forget hidden)) where
    abbrev own : List Note
    own = notes_of (hidden_slot hidden) notes.all

    forget_own : Contains own (hidden_forget hidden)
    forget_own = passed_there (λ (n : Note). slot_of n == hidden_slot hidden) notes.all (hidden_forget hidden) forgotten (eq-eqb (hidden_slot hidden) (hidden_slot hidden) refl)

    -- where it began
    record StartsThere (start : Start) : Type 0 where
      epoch_is : start.epoch ≡ hidden.start.epoch
      base_is : start.base ≡ hidden.start.base

    no_file : (file : Filed) → Contains files file → slot_in file ≡ hidden_slot hidden → ⊥
    no_file file among same =
        told.beside.other_slots file among hidden there same

    by_same_slot : (other : Hidden) → Contains hiddens other → hidden_slot other ≡ hidden_slot hidden → hidden_account other ≡ hidden_account hidden
    by_same_slot other among same =
        let one = hidden_found [] 0 hiddens hidden tt told.beside.slots there in
        let two = hidden_found [] 0 hiddens other tt told.beside.slots among in
        let q : Some (hidden_account other) ≡ Some (hidden_account hidden) = sym two ∙ ap (λ (n : ℕ). slot_at n (with_hidden [] hiddens)) same ∙ one in cc

    starts_there : (note : Note) (start : Start) → Contains notes.all note → slot_of note ≡ hidden_slot hidden → start_of note ≡ Some start → StartsThere start
    starts_there note start among slot begun = by_kind (member_is Known notes.all note each_known among)
      where
        of_hidden : (other : Hidden) → Contains hiddens other → (note ≡ hidden_begin other) ⊎ (note ≡ hidden_forget other) → StartsThere start
        of_hidden other of (inl is) =
            let same = by_same_slot other of (ap slot_of (sym is) ∙ slot) in
            let starts : Some (record { key = hidden_key other; path = other.path; epoch = other.start.epoch; base = other.start.base }) ≡ Some start = ap start_of (sym is) ∙ begun in
            let its : record { key = hidden_key other; path = other.path; epoch = other.start.epoch; base = other.start.base } ≡ start = cc in
            record {
              epoch_is = ap (λ (s : Start). s.epoch) (sym its) ∙ ap (λ (one : SlotAccount). one.following.epoch) same;
              base_is = ap (λ (s : Start). s.base) (sym its) ∙ ap (λ (one : SlotAccount). one.following.base) same;
            }
        of_hidden other of (inr is) = absurd (let q : None ≡ Some start = ap start_of (sym is) ∙ begun in cc)

        of_file : (file : Filed) → IsNamingOf run file note ⊎ IsForgetOf file note → StartsThere start
        of_file file (inl named) = absurd (let q : None ≡ Some start = ap start_of (sym named.is) ∙ begun in cc)
        of_file file (inr forget) = absurd (let q : None ≡ Some start = ap start_of (sym forget.is) ∙ begun in cc)

        by_kind : Known note → StartsThere start
        by_kind (inl (inl of)) = absurd (no_file of.file of.of_files (ap slot_of (sym of.begins.is) ∙ slot))
        by_kind (inl (inr (inl of))) = absurd (let q : None ≡ Some start = ap start_of (sym of.is) ∙ begun in cc)
        by_kind (inl (inr (inr (inl of)))) = of_hidden of.hidden of.of_hiddens of.is
        by_kind (inl (inr (inr (inr of)))) = of_file of.file of.is
        by_kind (inr ground) = absurd (no_start note start (is_collectable (turned_of files) (acknowledged_in workers) note ground) begun)

    goes : (start : Start) → start_over own ≡ Some start → is_gone start own ≡ true
    goes start begun =
        there_any (forgets (greatest_epoch own) (offset_over start own)) own (hidden_forget hidden) forget_own
        (⊎_elim (λ below. or_left (nat_lt epoch (greatest_epoch own)) ((epoch == greatest_epoch own) && nat_le end (offset_over start own)) (lt-ltb epoch (greatest_epoch own) below)) at_it (cases_lt epoch (greatest_epoch own)))
      where
        epoch : ℕ
        epoch = hidden.start.epoch

        end : ℕ
        end = hidden.start.base

        within : hidden.start.epoch ≤ greatest_epoch own
        within = member_within 0 (filter_map epoch_of own) hidden.start.epoch (given_there epoch_of own (hidden_forget hidden) hidden.start.epoch forget_own refl)

        its : StartsThere start
        its =
            let of = there_given start_of own start (first_member (filter_map start_of own) start begun) in
            let passed = there_passed (λ (n : Note). slot_of n == hidden_slot hidden) notes.all of.0 of.1 in
            starts_there of.0 start passed.0 (eqb-true (slot_of of.0) (hidden_slot hidden) passed.1) of.2

        at_it : greatest_epoch own ≤ hidden.start.epoch → (nat_lt hidden.start.epoch (greatest_epoch own) || ((hidden.start.epoch == greatest_epoch own) && nat_le hidden.start.base (offset_over start own))) ≡ true
        at_it most =
            let same : hidden.start.epoch ≡ greatest_epoch own = omega (arith, most, within) in
            let base : base_in start (greatest_epoch own) ≡ hidden.start.base =
            ap (λ (b : Bool). if b then start.base else 0) (eq-eqb (greatest_epoch own) start.epoch (sym same ∙ sym its.epoch_is)) ∙ its.base_is in
            let covered = no_nearer [] (spans_in (greatest_epoch own) own) (base_in start (greatest_epoch own)) in
            or_right (nat_lt hidden.start.epoch (greatest_epoch own)) ((hidden.start.epoch == greatest_epoch own) && nat_le hidden.start.base (offset_over start own))
            (and_from (hidden.start.epoch == greatest_epoch own) (nat_le hidden.start.base (offset_over start own)) (eq-eqb hidden.start.epoch (greatest_epoch own) same)
            (le-leb hidden.start.base (offset_over start own) (omega (arith, base, covered))))

    pub row_is_gone : row_over (hidden_slot hidden) notes.all ≡ None
    row_is_gone = by_start (start_over own) refl
      where
        by_start : (o : Option Start) → start_over own ≡ o → row_over (hidden_slot hidden) notes.all ≡ None
        by_start None is = ap (option_and_then (row_of own)) is
        by_start (Some start) is = ap (option_and_then (row_of own)) is ∙ ap (λ (b : Bool). if b then None else Some (standing_row own start)) (goes start is)

  -- ---- no row of the rows over the notes is removed

  module _ (inputs : List InputRule) (listed : List Listed) (files_listed : (file : Filed) → Contains files file → IsListedKey listed (key_in file))
      (of_opening : (hidden : Hidden) → Contains hiddens hidden → IsHiddenOf inputs listed run.opening hidden) (all_forgotten : AreAllForgotten inputs listed run.opening notes.all) where
    -- of a key that is removed, a slot is of its hidden row
    its_row : (key : List ℕ) (slot : ℕ) → IsRemoved inputs listed key → IsOfFile run files hiddens workers notes told key slot ⊎ IsOfRow run files hiddens workers notes told key slot →
        IsOfRow run files hiddens workers notes told key slot
    its_row key slot removed (inl of) = absurd (removed.unlisted (subst (IsListedKey listed) of.key_is (files_listed of.file of.among)))
    its_row key slot removed (inr of) = of

    begins_its_key : (key : List ℕ) (hidden : Hidden) → hidden_key hidden ≡ key → slot_for key (hidden_begin hidden) ≡ Some (hidden_slot hidden)
    begins_its_key key hidden same = ap (λ (o : _). if is_eq o then Some (hidden_slot hidden) else None) (compare_same key (hidden_key hidden) (sym same))

    forget_noted : (hidden : Hidden) → Contains hiddens hidden → Contains notes.all (hidden_forget hidden)
    forget_noted hidden there =
        let of = of_opening hidden there in
        let was = member_is (λ (row : Row). IsRemoved inputs listed row.key → WasTold notes.all row) run.opening hidden.row all_forgotten of.among of.removed in
        let other = was.hidden in
        let key_same : hidden_key other ≡ hidden_key hidden = ap (λ (r : Row). r.key) was.row_is in
        let its = its_row (hidden_key hidden) (hidden_slot other) of.removed
        (whose run files hiddens workers notes told (hidden_key hidden) (hidden_slot other) (hidden_begin other) (member_is Known notes.all (hidden_begin other) each_known was.begun) (begins_its_key (hidden_key hidden) other key_same)) in
        let same : its.hidden ≡ hidden = same_item hidden_key hiddens its.hidden hidden told.may_go.apart its.there there its.key_is in
        let slots : hidden_slot other ≡ hidden_slot hidden = sym its.slot_is ∙ ap hidden_slot same in
        let starts : other.start ≡ hidden.start = was.starts ∙ ap start_unlisted was.row_is ∙ sym of.starts in
        subst (Contains notes.all)
        (ap (λ (n : ℕ). Forget (record { 0 = n }) (record { 0 = other.start.epoch }) other.start.base) slots
        ∙ ap (λ (s : StartBy). Forget hidden.slot (record { 0 = s.epoch }) s.base) starts) was.forgotten

    none_stands : (key : List ℕ) → IsRemoved inputs listed key → (slot : ℕ) → Contains (slots_for key notes.all) slot → is_some (row_over slot notes.all) ≡ false
    none_stands key removed slot among =
        let of = its_row key slot removed (whose_slot run files hiddens workers notes told key slot among) in
        ap (λ (o : Option Row). is_some o) (ap (λ (n : ℕ). row_over n notes.all) (sym of.slot_is) ∙ row_is_gone of.hidden of.there (forget_noted of.hidden of.there))

    module _ (rows : List Row) (over : AreRowsOver run.opening notes.all rows) where
      not_removed : (row : Row) → Contains rows row → ¬ (IsRemoved inputs listed row.key)
      not_removed row there removed = by_slots (slots_for row.key notes.all) refl
        where
          found : Some row ≡ row_among run.opening notes.all row.key (slots_for row.key notes.all)
          found = sym (found_by_its_key rows row over.in_order there) ∙ over.each row.key

          by_slots : (slots : List ℕ) → slots_for row.key notes.all ≡ slots → ⊥
          by_slots [] is =
              let opened = found_there row.key run.opening row (sym (found ∙ ap (row_among run.opening notes.all row.key) is)) in
              let was = member_is (λ (r : Row). IsRemoved inputs listed r.key → WasTold notes.all r) run.opening row all_forgotten opened removed in
              none_there (hidden_slot was.hidden)
              (subst (λ (l : List ℕ). Contains l (hidden_slot was.hidden)) is
              (given_there (slot_for row.key) notes.all (hidden_begin was.hidden) (hidden_slot was.hidden) was.begun (begins_its_key row.key was.hidden (ap (λ (r : Row). r.key) was.row_is))))
          by_slots (slot ∷ slots) is =
              let none = none_pass notes.all (slot ∷ slots) (each_member (λ (n : ℕ). is_some (row_over n notes.all) ≡ false) (slot ∷ slots)
              (λ n among. none_stands row.key removed n (subst (λ (l : List ℕ). Contains l n) (sym is) among))) in
              let q : Some row ≡ None = found ∙ ap (row_among run.opening notes.all row.key) is ∙ ap (row_of_greatest notes.all) none in cc

      pub none_removed : AllByRecursion (λ (row : Row). ¬ (IsRemoved inputs listed row.key)) rows
      none_removed = each_member (λ (row : Row). ¬ (IsRemoved inputs listed row.key)) rows not_removed
