-- The two premises of the promise (this project's profile), of one slot each. Identities are kept: while its key is known,
-- each file that is listed or opened with it is one, and each life of which bytes are read under it has it. Truncations
-- are seen: at each look the life that is present is the one that was last read under the key, or it is shorter than the
-- position, or the position is the file's first byte.
use Rattle.std.specs.Prelude.{◌≡◌, ℕ, ◌<◌, ◌≤◌, List, ◌++◌, flat_map, slice_get, Some, IfSome}
use Rattle.std.specs.List.{AllByRecursion}
use Rattle.event_tree.specs.declared.input_rule.InputRule.{InputRule}
use Rattle.file_identity.specs.Key.{key_of}
use Rattle.file_looks.specs.Segment.{Segment, segments_of, steps_in}
use Rattle.file_looks.specs.Step.{Step, read_by}
use Rattle.file_looks.specs.Truncation.{SeesTruncations}
use Rattle.outside.specs.Files.{File, life_of}
use Rattle.kept_rows.specs.Account.{FollowedTail, Following}
use Rattle.file_identity.specs.AskedAgain.{StillHasKey}
use Rattle.kept_rows.specs.Run.{Run, Scan}
use Rattle.kept_rows.specs.Scans.{ShowsFile}
use Rattle.kept_rows.specs.Trace.{IsTail}

abbrev pub segments_in : Following → List Segment
segments_in following = flat_map (λ tail. segments_of tail.place tail.looks) following.tails

-- the key was known as the scan of this number was made
pub record WasKnown (following : Following) (number : ℕ) : Type 0 where
  pub since : following.known_from ≤ number
  pub until : IfSome following.gone_after (λ last. number ≤ last)

-- the step read some byte of a life: that life has the key
abbrev pub ReadsWithKey : InputRule → List ℕ → List ℕ → File → Step → Type 0
ReadsWithKey rule key path file step =
    0 < read_by step → key_of rule.id rule.file_identity path file.numbers (life_of file step.look.sight.life) ≡ Some key

-- a tail that gave the key as it was opened is of the file of this number, and what it read has the key
pub record TailKeepsIdentity (run : Run) (rule : InputRule) (key : List ℕ) (number : ℕ) (tail : FollowedTail) : Type 0 where
  pub one_file : (path : List ℕ) (other : ℕ) (file : File) → IsTail run.trace tail.opening path other (tail.looks ++ tail.beyond) →
      slice_get run.trace.files other ≡ Some file → StillHasKey rule key path file tail.looks → other ≡ number
  pub read : (path : List ℕ) (file : File) → IsTail run.trace tail.opening path number (tail.looks ++ tail.beyond) →
      slice_get run.trace.files number ≡ Some file →
      AllByRecursion (λ segment. AllByRecursion (ReadsWithKey rule key path file) (steps_in segment)) (segments_of tail.place tail.looks)

pub record KeepsIdentity (run : Run) (following : Following) : Type 0 where
  pub number : ℕ
  pub listed : (scan : Scan) (place other : ℕ) (path : List ℕ) → slice_get run.scans place ≡ Some scan → WasKnown following place →
      ShowsFile run scan following.key other path → other ≡ number
  pub tails : (rule : InputRule) → slice_get run.settings.inputs following.input ≡ Some rule →
      AllByRecursion (TailKeepsIdentity run rule following.key number) following.tails

-- what was last read under the key before this run may be any life
pub record SeesTruncationsOf (following : Following) : Type 0 where
  pub last_read : ℕ
  pub seen : SeesTruncations last_read (segments_in following)

-- both of one slot: nothing is supposed of the files and keys of others
pub record SlotPremises (run : Run) (following : Following) : Type 0 where
  pub identity : KeepsIdentity run following
  pub truncations : SeesTruncationsOf following

-- of all slots
pub record Premises (run : Run) (followings : List Following) : Type 0 where
  pub identities : AllByRecursion (KeepsIdentity run) followings
  pub truncations : AllByRecursion SeesTruncationsOf followings
