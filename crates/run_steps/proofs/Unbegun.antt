-- A row whose key no file of the run has stands as the areas gave it: no note of the run begins a slot for its key.
use Rattle.std.proofs.Common.{◌≡◌, ℕ, List, [], ◌∷◌, ◌++◌, Contains, refl, sym, ap, ◌∙◌}
use Rattle.std.proofs.lemmas.List.Elements.{filter_map-append}
use Rattle.std.specs.List.{AllByRecursion}
use Rattle.kept_rows.proofs.Images.{found_by_its_key}
use Rattle.kept_rows.specs.Account.{SlotAccount}
use Rattle.kept_rows.specs.Backed.{AreRowsOverFronts, IsRowOverAFront}
use Rattle.kept_rows.specs.Kept.{IsUnbegun}
use Rattle.ship_core.proofs.Members.{first_there, later_there}
use Rattle.ship_core.specs.Rows.{IsInOrder}
use Rattle.ship_core.specs.RowsOver.{row_among, slot_for, slots_for}
use Rattle.wire_base.specs.declared.note.Note.{Note}
use Rattle.wire_base.specs.declared.row.Row.{Row}
use Rattle.accounts.proofs.BegunRows.{found_there}

nil_in_front : {A : Type 0} (front rest : List A) → front ++ rest ≡ [] → front ≡ []
nil_in_front [] rest is = refl
nil_in_front (x ∷ front) rest is = absurd cc

module _ (opening : List Row) (notes : List Note) (rows : List Row) (ordered : IsInOrder opening) (over : AreRowsOverFronts opening notes rows) where
  stands : (row : Row) → Contains opening row → slots_for row.key notes ≡ [] → Contains rows row
  stands row there none =
      let of : IsRowOverAFront opening notes rows row.key = over.each row.key in
      let front_none : slots_for row.key of.front ≡ [] =
      nil_in_front (slots_for row.key of.front) (slots_for row.key of.rest)
      (sym (filter_map-append (slot_for row.key) of.front of.rest) ∙ sym (ap (slots_for row.key) of.notes_are) ∙ none) in
      found_there row.key rows row (of.is ∙ ap (row_among opening of.front row.key) front_none ∙ found_by_its_key opening row ordered there)

  module _ (account : List SlotAccount) (none : (key : List ℕ) → IsUnbegun account key → slots_for key notes ≡ []) where
    each_stands : (some : List Row) → ((row : Row) → Contains some row → Contains opening row) → AllByRecursion (λ (row : Row). IsUnbegun account row.key → Contains rows row) some
    each_stands [] within = tt
    each_stands (row ∷ some) within = (
      λ unbegun. stands row (within row (first_there row some)) (none row.key unbegun),
      each_stands some (λ other there. within other (later_there row other some there)),
    )

    pub unbegun_stand : AllByRecursion (λ (row : Row). IsUnbegun account row.key → Contains rows row) opening
    unbegun_stand = each_stands opening (λ row there. there)
