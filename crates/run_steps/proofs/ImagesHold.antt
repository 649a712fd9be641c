-- Areas that have held only rows over first ones of the notes have held only kept rows, where such rows are kept: each image of one area by
-- itself, and both areas at each moment.
use Rattle.std.proofs.Common.{◌≡◌, ◌⊎◌, inl, inr, ⊎_elim, ℕ, List, Some, sym, subst}
use Rattle.kept_rows.specs.Account.{SlotAccount}
use Rattle.kept_rows.specs.Backed.{AreRowsOverFronts}
use Rattle.kept_rows.specs.Run.{Run}
use Rattle.registry_log.specs.State.{IsOpened}
use Rattle.registry_store.specs.Settled.{AreAtRest}
use Rattle.rounds.specs.Images.{GivesFronts}
use Rattle.rounds.specs.Words.{DiskWords}
use Rattle.ship_core.specs.Rows.{IsInOrder}
use Rattle.wire_base.specs.declared.limits.Which.{Which}
use Rattle.wire_base.specs.declared.limits.Which.TheVariants.{A, B}
use Rattle.wire_base.specs.declared.note.Note.{Note}
use Rattle.wire_base.specs.declared.row.Row.{Row}
use Rattle.run_steps.specs.AccountedFor.{AreImageRows, GiveImageRows, ImagesHoldKeptRows, LostInImage, RunObjects, TogetherHoldKeptRows, WereAtRest, areas_of}
use Rattle.run_steps.specs.Areas.{GiveTheRows, HaveHeldFronts, HeldOnlyFronts}
use Rattle.run_steps.specs.Together.{area_in}
use Rattle.run_steps.specs.UnusedArea.{IsOfUnusedArea}
use Rattle.run_steps.proofs.HeldRows.{over_none, rows_in_order, some_of}
use Rattle.run_steps.proofs.RunRows.{OneChoice, opened_over_fronts}
use Rattle.run_steps.proofs.Together.{give_others}
use Rattle.run_steps.proofs.UnusedAreas.{unused_or_opening}

-- rows that areas at rest gave are in the order of their keys
pub ordered_at_rest : {D : Type 0} (disks : DiskWords D) (a b : D) (rows : List Row) → AreAtRest disks.contents disks.images a b → GiveTheRows disks a b rows → IsInOrder rows
ordered_at_rest disks a b rows rest gave =
    let (first, a_is) = some_of (disks.contents a) rest.a_told in
    let (second, b_is) = some_of (disks.contents b) rest.b_told in
    rows_in_order first second rows (gave first second a_is b_is)

module _ (one : OneChoice) (run : Run) (account : List SlotAccount) {D : Type 0} (disks : DiskWords D) (objects : RunObjects D) (rest : WereAtRest disks objects) (opening : List Row)
    (gave : GiveTheRows disks objects.before.a objects.before.b opening) (notes : List Note)
    (held : HaveHeldFronts disks opening notes objects.before.a objects.before.b objects.after.a objects.after.b)
    (are : (rows : List Row) → AreRowsOverFronts opening notes rows → AreImageRows run account LostInImage rows) where
  -- an area that was used as the run began has the opening rows where it is as it was
  as_before : (area : Which) (image : List ℕ) (generation : ℕ) (rows : List Row) (end : ℕ) → disks.contents (area_in (areas_of objects.before) area) ≡ Some image → IsOpened image generation rows end →
      IsOfUnusedArea disks (areas_of objects.before) area image generation ⊎ AreImageRows run account LostInImage rows
  as_before area image generation rows end told opened =
      ⊎_elim inl (λ same. inr (subst (AreImageRows run account LostInImage) (sym same) (are opening (over_none notes opening (ordered_at_rest disks objects.before.a objects.before.b opening rest gave)))))
      (unused_or_opening one disks (areas_of objects.before) rest opening gave area image generation rows end told opened)

  of_each : (area : Which) → HeldOnlyFronts disks opening notes (area_in (areas_of objects.before) area) (area_in (areas_of objects.after) area)
  of_each A = held.of_a
  of_each B = held.of_b

  pub images_hold : (area : Which) → ImagesHoldKeptRows disks objects run account area
  images_hold area image generation rows end since opened =
      ⊎_elim (λ told. as_before area image generation rows end told opened) (λ over. inr (are rows over))
      (opened_over_fronts one opening notes (disks.contents (area_in (areas_of objects.before) area)) image generation rows end ((of_each area).each image since) opened)

  pub together_hold : TogetherHoldKeptRows disks objects run account
  together_hold =
      give_others disks (GivesFronts opening notes) (GiveImageRows run account) (λ first second gives. record { rows = gives.rows; given = gives.given; are = are gives.rows gives.fronts })
      (areas_of objects.before) (areas_of objects.after) held.together
