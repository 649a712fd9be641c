-- What a turn stores (this project's profile): updates that lead from the rows over the notes of the last commit to the rows over
-- all notes; and at every moment the areas give, key by key, the one row or the other.
use Rattle.std.specs.Prelude.{◌≡◌, ◌⊎◌, ℕ, false, List, [], Option, Some, None}
use Rattle.ack_tracker.specs.Tracked.{Tracked}
use Rattle.outside.specs.DiskImages.{LeavesOnly}
use Rattle.registry_store.specs.Committing.{AreAfterSome, GivesSome, GoesOn}
use Rattle.registry_store.specs.Sides.{of_area, other_area}
use Rattle.registry_store.specs.Standing.{Standing, generation_after, written_area}
use Rattle.ship_core.specs.Changes.{LeadTo}
use Rattle.ship_core.specs.Orderly.{AreOrderly}
use Rattle.ship_core.specs.Replay.{replay_on}
use Rattle.ship_core.specs.Rows.{IsInOrder, find}
use Rattle.ship_core.specs.RowsOver.{AreRowsOver, row_for}
use Rattle.wire_base.specs.declared.note.Note.{Note}
use Rattle.wire_base.specs.declared.row.Op.{Op}
use Rattle.wire_base.specs.declared.row.Row.{Row}
use Rattle.keeper.specs.Keeping.{Keeping}

-- if the notes are orderly and the store is open, its rows are those over the opening rows and the committed notes
abbrev pub Stores : Tracked → Standing → Type 0
Stores tracked store = AreOrderly tracked.notes → store.closed ≡ false → AreRowsOver tracked.opening tracked.committed store.rows

-- nothing was noted since the last commit, and nothing is held
pub record IsStoredInFull (keeper : Keeping) : Type 0 where
  pub committed : keeper.tracked.committed ≡ keeper.tracked.notes
  pub none_held : keeper.held ≡ None

-- each key has the row over the opening rows and the committed notes, or that over all notes
pub record AreRowsBetween (opening : List Row) (committed notes : List Note) (rows : List Row) : Type 0 where
  pub in_order : IsInOrder rows
  pub each : (key : List ℕ) → (find key rows ≡ row_for opening committed key) ⊎ (find key rows ≡ row_for opening notes key)

-- there is nothing to store, or this leads from the stored rows to the rows over all notes
abbrev pub LeadOn : List Row → List Note → List Row → List Op → Type 0
LeadOn opening notes rows ops = (ops ≡ []) ⊎ ((to : List Row) × AreRowsOver opening notes to × LeadTo rows to ops)

-- the updates of a turn, in terms of the store's commit: what each area may hold at any moment of it, and afterwards
pub record Commits {D : Type 0} (contents : D → Option (List ℕ)) (images : D → List ℕ → Type 0) (moment : D → ℕ) (images_since : D → ℕ → List ℕ → Type 0)
    (before after : Standing) (opening : List Row) (committed notes : List Note) (a b later_a later_b : D) : Type 0 where
  pub ops : List Op
  pub lead : AreOrderly notes → LeadOn opening notes before.rows ops
  pub between : AreOrderly notes → (rows : List Row) → AreAfterSome before.rows ops rows → AreRowsBetween opening committed notes rows
  pub stored : AreAfterSome before.rows ops after.rows
  -- while the store is open, all of them are stored
  pub all_stored : after.closed ≡ false → after.rows ≡ replay_on before.rows ops
  pub generation : after.closed ≡ false → after.generation ≡ generation_after before ops
  -- each image of the area that is written gives with each image of the other the rows after some of the updates
  pub each_moment : let written = written_area before ops in
      LeavesOnly moment images_since (of_area written a b) (of_area written later_a later_b)
      (λ image. (other : List ℕ) → images (of_area (other_area written) a b) other →
      GivesSome before.rows ops (of_area written image other) (of_area written other image))
  pub other_area_kept : let other = other_area (written_area before ops) in of_area other later_a later_b ≡ of_area other a b
  pub goes_on : GoesOn contents moment images_since before.generation before.rows ops a b later_a later_b
  pub left : (first second : List ℕ) → contents later_a ≡ Some first → contents later_b ≡ Some second → GivesSome before.rows ops first second
