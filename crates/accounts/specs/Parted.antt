-- The looks of a tail that followed a file, parted where the length fell and no asking gave the file's key any more (this project's
-- profile): those up to there were reported of the file, and those from there on are of what it was then.
use Rattle.std.specs.Prelude.{Bool, false, true, List, [], ◌∷◌, ◌||◌, if◌then◌else◌}
use Rattle.event_tree.specs.declared.input_rule.IdentityRule.{IdentityRule}
use Rattle.event_tree.specs.declared.input_rule.IdentityRule.TheVariants.{Fingerprint, Native, Path}
use Rattle.harvester.specs.History.{Asks, Changed, Ended, History, Over, Reads, Stage}
use Rattle.outside.specs.declared.history.Look.{Look}
use Rattle.outside.specs.declared.history.Question.{Question}
use Rattle.outside.specs.declared.history.Question.TheVariants.{Length, ReadAt}

-- ---- at the last look that asked the length

abbrev pub asks_length : Question → Bool
asks_length Length = true
asks_length (ReadAt place count) = false

abbrev pub has_length : List Look → Bool
has_length [] = false
has_length (look ∷ looks) = asks_length look.question || has_length looks

-- those before it, and none if no look did
abbrev pub before_last_length : List Look → List Look
before_last_length [] = []
before_last_length (look ∷ looks) = if has_length looks then look ∷ before_last_length looks else []

-- that one and those after it, or all if no look did
abbrev pub from_last_length : List Look → List Look
from_last_length [] = []
from_last_length (look ∷ looks) = if has_length looks then from_last_length looks else look ∷ looks

-- ---- if a file has lost its key

-- a file that is read to be known has no key while none was reported
abbrev pub is_read_for_its_key : IdentityRule → Bool
is_read_for_its_key (Fingerprint offset count) = true
is_read_for_its_key Native = false
is_read_for_its_key Path = false

abbrev pub loses_key_at : Stage → IdentityRule → Bool
loses_key_at Reads identity = false
loses_key_at Asks identity = is_read_for_its_key identity
loses_key_at Ended identity = false
loses_key_at Changed identity = true
loses_key_at Over identity = false

abbrev pub has_lost_key : History → Bool
has_lost_key history = loses_key_at history.stage history.rule.file_identity

-- ---- the two parts

abbrev pub kept_looks : History → List Look → List Look
kept_looks history looks = if has_lost_key history then before_last_length looks else looks

abbrev pub lost_looks : History → List Look → List Look
lost_looks history looks = if has_lost_key history then from_last_length looks else []
