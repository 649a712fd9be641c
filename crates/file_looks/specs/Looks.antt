-- Looks as a tail reports them, one after another (Filebeat reference, filestream input; this project's profile): what
-- each shows is of the file and no earlier than what was shown before, and what a read gave was there.
use Rattle.std.specs.Prelude.{◌≡◌, ◌+◌, ◌<◌, ◌≤◌, List, [], ◌∷◌}
use Rattle.outside.specs.declared.history.Look.{Look}
use Rattle.outside.specs.declared.history.Question.{Question}
use Rattle.outside.specs.declared.history.Question.TheVariants.{Length, ReadAt}
use Rattle.outside.specs.declared.history.Sight.{Sight}
use Rattle.outside.specs.Files.{File, IsNoEarlier, IsOfFile}
use Rattle.outside.specs.Tails.{TailHistory}

-- a read gave only what was there, and nothing only if what is there ends at or before its place
abbrev pub IsAnswered : Question → Sight → Type 0
IsAnswered Length sight = Unit {0}
IsAnswered (ReadAt place count) sight = (0 < count → place + count ≤ sight.length) × (count ≡ 0 → sight.length ≤ place)

pub record IsLook (file : File) (before : Sight) (look : Look) : Type 0 where
  pub of_file : IsOfFile file look.sight
  pub no_earlier : IsNoEarlier before look.sight
  pub answered : IsAnswered look.question look.sight

-- the looks at a file, of which this was there before the first
abbrev pub AreLooks : File → Sight → List Look → Type 0
AreLooks file before [] = Unit {0}
AreLooks file before (look ∷ looks) = IsLook file before look × AreLooks file look.sight looks

-- those that a tail reports since it was opened
abbrev pub TellsLooks : TailHistory → Type 0
TellsLooks told = AreLooks told.file told.begun told.looks
