-- Rows over the notes of a run are kept, and so are rows over the first of them, which images may hold.
use Rattle.std.proofs.Common.{ℕ, All, List, Contains}
use Rattle.std.specs.List.{AllByRecursion}
use Rattle.std.proofs.lemmas.List.Elements.{All-contains}
use Rattle.kept_rows.proofs.Images.{found_by_its_key, kept_at_the_end, kept_in_image}
use Rattle.kept_rows.specs.Account.{SlotAccount}
use Rattle.kept_rows.specs.Backed.{AreBacked, AreBegun, AreInRows, AreRowsOverFronts, OnlyTheNewestHaveRows}
use Rattle.kept_rows.specs.Kept.{IsKept, IsKeptInImage}
use Rattle.kept_rows.specs.Trace.{WireTold}
use Rattle.ship_core.proofs.Prefixes.{closes}
use Rattle.ship_core.specs.CoveredEnd.{Adjoin, ClosesPrefix}
use Rattle.ship_core.specs.RowsOver.{AreRowsOver}
use Rattle.wire_base.specs.Extent.{Extent}
use Rattle.wire_base.specs.declared.note.Note.{Note}
use Rattle.wire_base.specs.declared.row.Row.{Row}
use Rattle.accounts.proofs.Grounded.{each_member}

pub closes_by : (told spans : List Extent) (base : ℕ) → Adjoin base told → All (Contains told) spans → ClosesPrefix told spans base
closes_by told spans base adjoin known = closes told spans base adjoin (λ span there from some. All-contains (Contains told) spans span known there)

module _ (account : List SlotAccount) (opening : List Row) (wires : List WireTold) (notes : List Note) (in_rows : AreInRows account) (backed : AreBacked account wires notes) where
  pub rows_are_kept : AreBegun account notes → OnlyTheNewestHaveRows account notes → (rows : List Row) → AreRowsOver opening notes rows → AllByRecursion (IsKept account opening wires) rows
  rows_are_kept begun newest rows over =
      each_member (IsKept account opening wires) rows
      (λ row there. kept_at_the_end closes_by account opening wires notes rows in_rows backed begun newest over row.key row (found_by_its_key rows row over.in_order there))

  pub images_hold_kept_rows : (rows : List Row) → AreRowsOverFronts opening notes rows → AllByRecursion (IsKeptInImage account opening wires) rows
  images_hold_kept_rows rows over =
      each_member (IsKeptInImage account opening wires) rows
      (λ row there. kept_in_image closes_by account opening wires notes rows in_rows backed over row.key row (found_by_its_key rows row over.in_order there))
