-- Images are prefixes (this project's profile): at every moment of the keeper's turns, each image of an area gives for each key the
-- row over the opening rows and some first ones of the notes for which the keeper stands, or none.
use Rattle.std.specs.Prelude.{◌≡◌, ◌⊎◌, ℕ, zero, suc, ◌≤◌, List, ◌++◌, Option, Some}
use Rattle.kept_rows.specs.Backed.{AreRowsOverFronts}
use Rattle.outside.specs.DiskImages.{LeavesOnly}
use Rattle.registry_log.specs.Starting.{IsBlank, IsClosed}
use Rattle.registry_log.specs.State.{IsOpened}
use Rattle.registry_store.specs.Choice.{GivesRows}
use Rattle.registry_store.specs.Settled.{AreSettled}
use Rattle.registry_store.specs.Sides.{of_area, other_area}
use Rattle.registry_store.specs.Standing.{chosen_by}
use Rattle.wire_base.specs.declared.limits.Which.{Which}
use Rattle.wire_base.specs.declared.note.Note.{Note}
use Rattle.wire_base.specs.declared.row.Row.{Row}
use Rattle.rounds.specs.KeeperTurns.{StoringState, storing_state}
use Rattle.rounds.specs.Words.{DiskWords}
use Rattle.rounds.specs.declared.storing.Storing.{Storing}

-- the bytes of A and B give rows, each over some first ones of these notes
pub record GivesFronts (opening : List Row) (notes : List Note) (first second : List ℕ) : Type 0 where
  pub rows : List Row
  pub given : GivesRows first second rows
  pub fronts : AreRowsOverFronts opening notes rows

-- an area is opened, with at least this generation, and has rows, each over some first ones of these notes
pub record IsOpenedOverFronts (opening : List Row) (notes : List Note) (generation : ℕ) (area : List ℕ) : Type 0 where
  pub its_generation : ℕ
  pub rows : List Row
  pub end : ℕ
  pub later : generation ≤ its_generation
  pub opened : IsOpened area its_generation rows end
  pub fronts : AreRowsOverFronts opening notes rows

-- an area holds what it held before, be it opened with whatever rows it had then; or nothing that is read; or is opened with such
-- rows
abbrev pub MayHoldFronts : List Row → List Note → Option (List ℕ) → ℕ → List ℕ → Type 0
MayHoldFronts opening notes before generation area =
    (before ≡ Some area) ⊎ ((IsBlank area ⊎ IsClosed area) ⊎ IsOpenedOverFronts opening notes generation area)

-- the committed notes are the first of all
pub record IsFront (front notes : List Note) : Type 0 where
  pub rest : List Note
  pub are : notes ≡ front ++ rest

module _ {D : Type 0} (disks : DiskWords D) (opening : List Row) (notes : List Note) where
  -- at every moment of a turn the one area that is written gives such rows, with each image of the other, which stays as it is
  pub record TurnLeaves (old new : StoringState D) : Type 0 where
    pub written : Which
    pub leaves : LeavesOnly disks.moment disks.images_since (of_area written old.a old.b) (of_area written new.a new.b)
        (λ image. (other : List ℕ) → disks.images (of_area (other_area written) old.a old.b) other →
        GivesFronts opening notes (of_area written image other) (of_area written other image))
    pub other_same : of_area (other_area written) new.a new.b ≡ of_area (other_area written) old.a old.b
    -- each area by itself, be it the one that is chosen or not
    pub of_a : LeavesOnly disks.moment disks.images_since old.a new.a (MayHoldFronts opening notes (disks.contents old.a) old.keeper.store.generation)
    pub of_b : LeavesOnly disks.moment disks.images_since old.b new.b (MayHoldFronts opening notes (disks.contents old.b) old.keeper.store.generation)
    -- and what both hold after the turn, also if a disk failed
    pub left : (first second : List ℕ) → disks.contents new.a ≡ Some first → disks.contents new.b ≡ Some second → GivesFronts opening notes first second

  -- this many turns, one after another
  abbrev pub TurnsLeave : ℕ → StoringState D → StoringState D → Type 0
  TurnsLeave zero old new = new ≡ old
  TurnsLeave (suc turns) old new = (mid : StoringState D) × TurnLeaves old mid × TurnsLeave turns mid new

-- what is asked of the keeper's areas as a round begins
pub record AreAtRest {D : Type 0} (disks : DiskWords D) (storing : Storing D) : Type 0 where
  pub settled : AreSettled disks.contents disks.images storing.a.now storing.b.now (chosen_by storing.keeper.now.store)
  pub committed : IsFront storing.keeper.now.tracked.committed storing.keeper.now.tracked.notes

-- the turns of the keeper, as many as it had
pub record ImagesAreFronts {D : Type 0} (disks : DiskWords D) (old new : Storing D) : Type 0 where
  pub turns : ℕ
  pub leave : TurnsLeave disks new.keeper.now.tracked.opening new.keeper.now.tracked.notes turns (storing_state old) (storing_state new)
