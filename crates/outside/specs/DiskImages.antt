-- Disk images: what a crash may leave (this project's profile). Between two syncs each written range, and what lies
-- past the old end, may hold any bytes; other bytes stay; a cut may leave the old length or the new.
use Rattle.std.specs.Prelude.{◌≡◌, ◌⊎◌, ℕ, ◌+◌, ◌≤◌, ◌==◌, if◌then◌else◌, min, max, List, length, take, drop, Option, Some}
use Rattle.wire_base.specs.declared.numbers.TheConstants.{MAX_PLACE}

-- where a write of n bytes at a place ends; an empty write reaches nowhere
abbrev pub reach : ℕ → ℕ → ℕ
reach at n = if n == 0 then 0 else at + n

-- new is old after a write of n bytes at `at` that a crash cut short; no disk is longer than `MAX_PLACE`
pub record Torn (at n : ℕ) (old new : List ℕ) : Type 0 where
  pub front : take (min at (length old)) new ≡ take at old
  pub back : drop (at + n) new ≡ drop (at + n) old
  pub no_shorter : length old ≤ length new
  pub no_longer : length new ≤ max (length old) (min (reach at n) MAX_PLACE)

-- new is old after a cut that a crash kept or lost
abbrev pub MayBeCut : ℕ → List ℕ → List ℕ → Type 0
MayBeCut len old new = (new ≡ old) ⊎ (new ≡ take len old)

-- each new image is an old image after a step
abbrev pub Follows : (List ℕ → List ℕ → Type 0) → (List ℕ → Type 0) → (List ℕ → Type 0) → Type 0
Follows Step old new = (image : List ℕ) → new image → (before : List ℕ) × old before × Step before image

-- a crash leaves these bytes and nothing else
abbrev pub Only : Option (List ℕ) → (List ℕ → Type 0) → Type 0
Only contents images = (image : List ℕ) → images image → contents ≡ Some image

-- Time goes on: what a crash since an earlier moment might have left is what it might have left before, or an image now.
pub record Elapses (before now : ℕ) (past since : ℕ → List ℕ → Type 0) (images : List ℕ → Type 0) : Type 0 where
  pub later : before ≤ now
  pub nothing_else : (moment : ℕ) (image : List ℕ) → moment ≤ before → since moment image → past moment image ⊎ images image
  pub keeps : (moment : ℕ) (image : List ℕ) → moment ≤ before → past moment image → since moment image

-- A crash at any moment between two states of a disk leaves an image that has P.
pub record LeavesOnly {D : Type 0} (moment : D → ℕ) (images_since : D → ℕ → List ℕ → Type 0) (old new : D) (P : List ℕ → Type 0) : Type 0 where
  pub later : moment old ≤ moment new
  pub each : (image : List ℕ) → images_since new (moment old) image → P image
  -- for a run that began earlier
  pub before : (start : ℕ) (image : List ℕ) → start ≤ moment old → images_since new start image → images_since old start image ⊎ P image
