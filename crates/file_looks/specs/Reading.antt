-- What a segment of looks read (Filebeat reference, filestream input; this project's profile): the bytes of its reads
-- that count, and the life of which the last bytes came.
use Rattle.std.specs.Prelude.{◌≡◌, ℕ, zero, suc, ◌-◌, ◌<◌, ◌≤◌, true, List, [], ◌∷◌, length, take, drop, flat_map, if◌then◌else◌}
use Rattle.std.specs.List.{AllByRecursion}
use Rattle.outside.specs.declared.history.Question.{Question}
use Rattle.outside.specs.declared.history.Question.TheVariants.{Length, ReadAt}
use Rattle.outside.specs.declared.history.Sight.{Sight}
use Rattle.outside.specs.Files.{File, life_of}
use Rattle.file_looks.specs.Step.{Step, read_by}
use Rattle.file_looks.specs.Segment.{Segment, read_to, steps_in}

-- the bytes that a look gave
abbrev pub bytes_by : File → Question → Sight → List ℕ
bytes_by file Length sight = []
bytes_by file (ReadAt place count) sight = take count (drop place (life_of file sight.life))

abbrev pub bytes_at : File → Step → List ℕ
bytes_at file step = if step.counts then bytes_by file step.look.question step.look.sight else []

-- the bytes that it read, one read after another
abbrev pub bytes_read : File → Segment → List ℕ
bytes_read file segment = flat_map (bytes_at file) (steps_in segment)

-- the life that was last read, if this many bytes of the one that is present were read now
abbrev pub life_with : ℕ → ℕ → ℕ → ℕ
life_with life present zero = life
life_with life present (suc more) = present

abbrev pub life_behind : ℕ → Step → ℕ
life_behind life step = life_with life step.look.sight.life (read_by step)

-- the life that was last read after these steps; it is the first one if they read nothing
abbrev pub last_life : ℕ → List Step → ℕ
last_life life [] = life
last_life life (step ∷ steps) = last_life (life_behind life step) steps

-- a read is at this place
abbrev pub StandsAt : ℕ → Question → Type 0
StandsAt place Length = Unit {0}
StandsAt place (ReadAt at count) = at ≡ place

-- each read that counts is at the place up to which was read
abbrev pub ReadOn : List Step → Type 0
ReadOn steps = AllByRecursion (λ step. step.counts ≡ true → StandsAt step.place step.look.question) steps

-- what the segment read are the bytes of this life from its place on
pub record ReadsLife (file : File) (life : ℕ) (segment : Segment) : Type 0 where
  pub bytes : bytes_read file segment ≡ take (read_to segment - segment.place) (drop segment.place (life_of file life))
  pub onward : segment.place ≤ read_to segment
  pub within : segment.place < read_to segment → read_to segment ≤ length (life_of file life)

-- so each of the segments: of the life that was last read before it, or of a life that it read from the first byte on
abbrev pub EachReadsLife : File → ℕ → List Segment → Type 0
EachReadsLife file life [] = Unit {0}
EachReadsLife file life (segment ∷ segments) =
    ReadsLife file (last_life life (steps_in segment)) segment
    × (0 < segment.place → last_life life (steps_in segment) ≡ life)
    × EachReadsLife file (last_life life (steps_in segment)) segments
