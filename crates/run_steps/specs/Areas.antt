-- What the areas of a run may hold at any moment, and what the keeper asks of them (this project's profile): rows over those that the
-- areas gave as the run began and over first ones of the notes, if the disks were at rest then.
use Rattle.std.specs.Prelude.{◌≡◌, ℕ, List, Some}
use Rattle.keeper.specs.Keeping.{Keeping}
use Rattle.outside.specs.DiskImages.{LeavesOnly}
use Rattle.registry_store.specs.Choice.{GivesRows}
use Rattle.registry_store.specs.Settled.{AreAtRest, AreSettled}
use Rattle.registry_store.specs.Standing.{chosen_by}
use Rattle.rounds.specs.Images.{GivesFronts, IsFront, MayHoldFronts}
use Rattle.rounds.specs.Words.{DiskWords}
use Rattle.wire_base.specs.declared.note.Note.{Note}
use Rattle.wire_base.specs.declared.row.Row.{Row}
use Rattle.run_steps.specs.Began.{Began}
use Rattle.run_steps.specs.Together.{GiveThroughout}

module _ {D : Type 0} (disks : DiskWords D) where
  -- at each moment since then the area held what it held before, or nothing that is read, or was opened with rows each of which is
  -- over the opening rows and some first ones of these notes
  abbrev pub HeldOnlyFronts : List Row → List Note → D → D → Type 0
  HeldOnlyFronts opening notes before after = LeavesOnly disks.moment disks.images_since before after (MayHoldFronts opening notes (disks.contents before) 0)

  -- so of each area by itself, what both hold now, and what both gave together since then
  pub record HaveHeldFronts (opening : List Row) (notes : List Note) (start_a start_b a b : D) : Type 0 where
    pub of_a : HeldOnlyFronts opening notes start_a a
    pub of_b : HeldOnlyFronts opening notes start_b b
    pub both : (first second : List ℕ) → disks.contents a ≡ Some first → disks.contents b ≡ Some second → GivesFronts opening notes first second
    pub together : GiveThroughout disks (GivesFronts opening notes) (record { a = start_a; b = start_b }) (record { a = a; b = b })

  -- another turn of the keeper may follow
  pub record IsAtRest (keeper : Keeping) (a b : D) : Type 0 where
    pub settled : AreSettled disks.contents disks.images a b (chosen_by keeper.store)
    pub committed : IsFront keeper.tracked.committed keeper.tracked.notes

  abbrev pub BeganAtRest : Began D → Type 0
  BeganAtRest start = AreAtRest disks.contents disks.images start.a start.b

  -- what both held gives these rows
  abbrev pub GiveTheRows : D → D → List Row → Type 0
  GiveTheRows a b rows = (first second : List ℕ) → disks.contents a ≡ Some first → disks.contents b ≡ Some second → GivesRows first second rows

  -- the run's opening rows are those that its areas gave
  abbrev pub GaveRows : Began D → Type 0
  GaveRows start = GiveTheRows start.a start.b start.opening
