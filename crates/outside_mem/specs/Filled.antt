-- Which image a pick gives of a disk in memory (this project's profile). Pick 1 gives each pending range the bytes that
-- was there, and zeros past the end; pick 2 gives it the byte `7`, pick 3 the byte `{`. A pending cut leaves the old
-- length. Every other pick gives what a read gives.
use Rattle.std.specs.Prelude.{ℕ, zero, suc, ◌-◌, ◌==◌, if◌then◌else◌, List, [], ◌∷◌, ◌++◌, length, take, drop, replicate, Option, Some, None}
use Rattle.outside_mem.specs.declared.crash.Filler.{Filler}
use Rattle.outside_mem.specs.declared.crash.Filler.TheVariants.{Kept, Byte}
use Rattle.outside_mem.specs.Images.{Pending, Reading, Write, Cut}
use Rattle.outside_mem.specs.Torn.{patched}

abbrev pub filler_of : ℕ → Option Filler
filler_of pick = if pick == 1 then Some Kept else (if pick == 2 then Some (Byte 0x37) else (if pick == 3 then Some (Byte 0x7b) else None))

-- the bytes of a range of this length at this place
abbrev pub range_of : Filler → List ℕ → ℕ → ℕ → List ℕ
range_of Kept old at len = take len (drop at old) ++ replicate (len - length (drop at old)) 0
range_of (Byte byte) old at len = replicate len byte

-- what is in a gap before the range
abbrev pub gap_byte : Filler → ℕ
gap_byte Kept = 0
gap_byte (Byte byte) = byte

-- the bytes with that range filled; one of no byte leaves them
abbrev pub filled : Filler → List ℕ → ℕ → ℕ → List ℕ
filled filler old at zero = old
filled filler old at (suc more) = patched old at (gap_byte filler) (range_of filler old at (suc more))

-- each pending range is filled, one after the other
abbrev pub fills : Filler → List Pending → List ℕ → List ℕ
fills filler [] bytes = bytes
fills filler (Write at len ∷ steps) bytes = fills filler steps (filled filler bytes at len)
fills filler (Cut len ∷ steps) bytes = fills filler steps bytes

-- the image by a filler, or what a read gives
abbrev pub image_by : Option Filler → Reading → List ℕ
image_by None r = r.bytes
image_by (Some filler) r = fills filler r.pending r.synced

abbrev pub image_of : ℕ → Reading → List ℕ
image_of pick r = image_by (filler_of pick) r
