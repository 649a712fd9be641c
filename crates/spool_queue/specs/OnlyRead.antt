-- A disk that was only read (this project's profile).
use Rattle.std.specs.Prelude.{◌≡◌, ℕ, ◌≤◌, List, Option}
use Rattle.outside.specs.DiskImages.{LeavesOnly}

-- the bytes are the same, a crash at any moment leaves what it could leave before, and no fault is forgotten
pub record IsOnlyRead {D : Type 0} (contents : D → Option (List ℕ)) (images : D → List ℕ → Type 0) (moment : D → ℕ) (images_since : D → ℕ → List ℕ → Type 0) (faults : D → ℕ) (old new : D) : Type 0 where
  pub contents_kept : contents new ≡ contents old
  pub images_kept : (image : List ℕ) → images new image → images old image
  pub each_moment : LeavesOnly moment images_since old new (images old)
  pub faults_kept : faults old ≤ faults new
