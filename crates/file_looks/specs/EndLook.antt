-- Where a segment of looks found the file's end (Filebeat reference, filestream input, `close.reader.on_eof`; this
-- project's profile): a look at the length that was not below the place up to which was read, and directly after it
-- a read at that place that gave nothing. And up to which place it had read after some of its looks.
use Rattle.std.specs.Prelude.{◌≡◌, ℕ, ◌≤◌, List, ◌∷◌, ◌++◌}
use Rattle.outside.specs.declared.history.Look.{Look}
use Rattle.outside.specs.declared.history.Question.TheVariants.{Length, ReadAt}
use Rattle.file_looks.specs.Segment.{Segment, read_to}

abbrev pub with_looks : Segment → List Look → Segment
with_looks segment looks = record segment { looks = looks }

pub record HasEndLook (segment : Segment) (place : ℕ) : Type 0 where
  pub front : List Look
  pub asked : Look
  pub read : Look
  pub behind : List Look
  pub looks_are : segment.looks ≡ front ++ asked ∷ read ∷ behind
  pub asks : asked.question ≡ Length
  pub not_below : place ≤ asked.sight.length
  pub gives_nothing : read.question ≡ ReadAt place 0
  pub stands_there : read_to (with_looks segment front) ≡ place

-- after some of its looks it had read up to the place
pub record HadReadTo (segment : Segment) (place : ℕ) : Type 0 where
  pub front : List Look
  pub behind : List Look
  pub looks_are : segment.looks ≡ front ++ behind
  pub stands_there : read_to (with_looks segment front) ≡ place
