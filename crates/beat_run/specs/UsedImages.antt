-- What a crash may leave of one area by itself (this project's profile): of the area that a run used as it opened its registry, or of a greater
-- generation than that had, or of any area if the registry was empty; if it is opened it has rows that the run keeps.
use Rattle.std.specs.Prelude.{◌≡◌, ◌⊎◌, ℕ, ◌<◌, List}
use Rattle.registry_log.specs.State.{IsOpened}
use Rattle.registry_store.specs.Choice.{Choice, Chosen, Fresh, Refused}
use Rattle.rounds.specs.Words.{DiskWords}
use Rattle.wire_base.specs.declared.limits.Which.{Which}
use Rattle.wire_base.specs.declared.row.Row.{Row}
use Rattle.run_steps.specs.AccountedFor.{AreImageRows, LostInImage, RunObjects, WereAtRest, areas_of}
use Rattle.run_steps.specs.Together.{area_in}
use Rattle.run_steps.specs.UnusedArea.{Choose}
use Rattle.beat_run.specs.NextRun.{EndedRun}

-- beside this choice, an image of the area and of the generation
abbrev pub IsUsedOrLater : Choice → Which → ℕ → Type 0
IsUsedOrLater Fresh area generation = Unit {0}
IsUsedOrLater (Chosen used its_generation rows start end) area generation = (area ≡ used) ⊎ (its_generation < generation)
IsUsedOrLater (Refused refused at) area generation = ⊥

module _ {D : Type 0} (disks : DiskWords D) where
  -- an image of one area since the run began, and what it has if it is opened
  pub record UsedImage (objects : RunObjects D) : Type 0 where
    pub area : Which
    pub image : List ℕ
    pub since : disks.images_since (area_in (areas_of objects.after) area) (disks.moment (area_in (areas_of objects.before) area)) image
    pub generation : ℕ
    pub rows : List Row
    pub end : ℕ
    pub opened : IsOpened image generation rows end
    pub choice : Choice
    pub chosen : Choose disks (areas_of objects.before) choice
    pub used : IsUsedOrLater choice area generation

  -- its rows are kept
  abbrev pub KeepsUsedImages : EndedRun disks → Type 0
  KeepsUsedImages run = WereAtRest disks run.objects → (used : UsedImage run.objects) → AreImageRows run.accounted.run run.accounted.account LostInImage used.rows
