-- An area that a run does not use as it opens its registry (this project's profile): the other one is chosen, with a generation that is at
-- least as great. A crash may leave such an area as it was before the run, with rows of long ago, which are not chosen.
use Rattle.std.specs.Prelude.{◌≡◌, ℕ, ◌≤◌, List, Some}
use Rattle.registry_store.specs.Choice.{Choice, Chosen, IsChoice}
use Rattle.registry_store.specs.Sides.{other_area}
use Rattle.rounds.specs.Words.{DiskWords}
use Rattle.wire_base.specs.declared.limits.Which.{Which}
use Rattle.wire_base.specs.declared.row.Row.{Row}
use Rattle.run_steps.specs.Together.{Areas, area_in}

module _ {D : Type 0} (disks : DiskWords D) (areas : Areas D) where
  -- what is known of both areas makes this choice
  pub record Choose (choice : Choice) : Type 0 where
    pub first : List ℕ
    pub second : List ℕ
    pub a_told : disks.contents areas.a ≡ Some first
    pub b_told : disks.contents areas.b ≡ Some second
    pub chosen : IsChoice first second choice

  -- the area had these bytes, and the other one was chosen, of at least this generation
  pub record IsOfUnusedArea (area : Which) (bytes : List ℕ) (generation : ℕ) : Type 0 where
    pub told : disks.contents (area_in areas area) ≡ Some bytes
    pub used : ℕ
    pub rows : List Row
    pub start : ℕ
    pub end : ℕ
    pub other_is_chosen : Choose (Chosen (other_area area) used rows start end)
    pub at_least : generation ≤ used
