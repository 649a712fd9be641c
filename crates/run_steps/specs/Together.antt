-- What both areas of a run give together (this project's profile): in one order of the writes, from one state of both to the next one area
-- alone is written, or only read, and the other stays as it is; so a crash leaves of the one what it held meanwhile, and of the other what it
-- holds. No disk shows in which order writes of different areas were made: of each commit its own contract says it.
use Rattle.std.specs.Prelude.{◌≡◌, ◌⊎◌, ℕ, List, [], ◌∷◌}
use Rattle.outside.specs.DiskImages.{LeavesOnly}
use Rattle.registry_store.specs.Sides.{of_area, other_area}
use Rattle.rounds.specs.Words.{DiskWords}
use Rattle.wire_base.specs.declared.limits.Which.{Which}

-- both areas at one moment
pub record Areas (D : Type 0) : Type 0 where
  pub a : D
  pub b : D

abbrev pub area_in : {D : Type 0} → Areas D → Which → D
area_in areas area = of_area area areas.a areas.b

-- one area was written or only read, and the same holds of both after it
pub record AreaWrite (D : Type 0) : Type 0 where
  pub area : Which
  pub after : Areas D

module _ {D : Type 0} (disks : DiskWords D) where
  -- ---- what a crash leaves

  -- while an area is written: these bytes of A and B
  pub record MayLeaveBy (before : Areas D) (write : AreaWrite D) (first second : List ℕ) : Type 0 where
    pub written : disks.images_since (area_in write.after write.area) (disks.moment (area_in before write.area)) (of_area write.area first second)
    pub other : disks.images (area_in before (other_area write.area)) (of_area (other_area write.area) first second)

  -- at some moment of these writes, made one after another, or after the last one
  abbrev pub MayLeave : Areas D → List (AreaWrite D) → List ℕ → List ℕ → Type 0
  MayLeave before [] first second = disks.images before.a first × disks.images before.b second
  MayLeave before (write ∷ writes) first second = MayLeaveBy before write first second ⊎ MayLeave write.after writes first second

  -- ---- what that gives

  -- only one area is written, and at every moment each image of it gives such rows with each image of the other one
  pub record WritesOne (Gives : List ℕ → List ℕ → Type 0) (before : Areas D) (write : AreaWrite D) : Type 0 where
    pub other_same : area_in write.after (other_area write.area) ≡ area_in before (other_area write.area)
    pub leaves : LeavesOnly disks.moment disks.images_since (area_in before write.area) (area_in write.after write.area)
        (λ image. (other : List ℕ) → disks.images (area_in before (other_area write.area)) other →
        Gives (of_area write.area image other) (of_area write.area other image))

  -- these writes lead from the one state to the other
  abbrev pub Lead : (List ℕ → List ℕ → Type 0) → Areas D → List (AreaWrite D) → Areas D → Type 0
  Lead Gives before [] after = after ≡ before
  Lead Gives before (write ∷ writes) after = WritesOne Gives before write × Lead Gives write.after writes after

  -- some do, and both give such rows after them
  pub record GiveThroughout (Gives : List ℕ → List ℕ → Type 0) (before after : Areas D) : Type 0 where
    pub writes : List (AreaWrite D)
    pub lead : Lead Gives before writes after
    pub at_end : (first second : List ℕ) → disks.images after.a first → disks.images after.b second → Gives first second
