-- How a disk in memory changes (this project's profile).
use Rattle.std.specs.Prelude.{◌≡◌, ℕ, List, length, take}
use Rattle.outside.specs.DiskImages.{reach, Torn, MayBeCut, Follows, Elapses}
use Rattle.outside.specs.DiskReads.{written}
use Rattle.outside_mem.specs.declared.change.Change.{Change}
use Rattle.outside_mem.specs.declared.disk.MemDisk.{MemDisk}
use Rattle.outside_mem.specs.Images.{Reading, after, fresh, after_change, IsImageOf, IsImageSince, MayLeaveBy}
use Rattle.wire_base.specs.Ranges.{IsPlace}

-- the disk after all that was done with it
abbrev pub now : MemDisk → Reading
now disk = after (fresh disk.first.items) disk.changes.items

-- the moment of one disk is not after that of the other, and nothing but what the other may leave comes between
abbrev pub Passes : MemDisk → MemDisk → Type 0
Passes old new = Elapses (length old.changes.items) (length new.changes.items) (IsImageSince old.first.items old.changes.items) (IsImageSince new.first.items new.changes.items) (IsImageOf (now new))

-- one change more, and what a crash may leave after it
pub record Changes (old new : MemDisk) (change : Change) : Type 0 where
  pub reading : now new ≡ after_change (now old) change
  pub images : Follows (MayLeaveBy change) (IsImageOf (now old)) (IsImageOf (now new))
  pub time : Passes old new
  pub failures : new.failures ≡ old.failures

-- nothing was done
pub record IsUnchanged (old new : MemDisk) : Type 0 where
  pub reading : now new ≡ now old
  pub images : (image : List ℕ) → IsImageOf (now new) image → IsImageOf (now old) image
  pub time : Passes old new
  pub failures : new.failures ≡ old.failures

-- the bytes stay, and a crash may leave any bytes in the range
pub record StaysOrTears (old new : MemDisk) (at n : ℕ) : Type 0 where
  pub bytes : (now new).bytes ≡ (now old).bytes
  pub images : Follows (Torn at n) (IsImageOf (now old)) (IsImageOf (now new))
  pub time : Passes old new
  pub failures : new.failures ≡ old.failures

pub record Writes (old new : MemDisk) (at : ℕ) (bytes : List ℕ) : Type 0 where
  pub in_range : IsPlace (reach at (length bytes))
  pub bytes_after : (now new).bytes ≡ written (now old).bytes at bytes
  pub images : Follows (Torn at (length bytes)) (IsImageOf (now old)) (IsImageOf (now new))
  pub time : Passes old new
  pub failures : new.failures ≡ old.failures

pub record Cuts (old new : MemDisk) (len : ℕ) : Type 0 where
  pub bytes : (now new).bytes ≡ take len (now old).bytes
  pub images : Follows (MayBeCut len) (IsImageOf (now old)) (IsImageOf (now new))
  pub time : Passes old new
  pub failures : new.failures ≡ old.failures
