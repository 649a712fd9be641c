-- For private clauses: one listed file asked for its key (this project's profile).
use Rattle.std.specs.Prelude.{◌≡◌, ◌⊎◌, ℕ, List, [], ◌∷◌, ◌++◌, length, Option, None, Some, Result, Ok, Err}
use Rattle.event_tree.specs.declared.input_rule.InputRule.{InputRule}
use Rattle.file_identity.specs.Answers.{IsFingerprint, IsKeyBy}
use Rattle.file_identity.specs.declared.identity.Identity.{Identity}
use Rattle.file_identity.specs.declared.identity.Identity.TheVariants.{Key, TooSmall}
use Rattle.file_identity.specs.declared.identity_error.IdentityError.{IdentityError}
use Rattle.file_identity.specs.declared.identity_error.IdentityError.TheVariants.{NoNative, ReadFault, NoMemory as OutOfMemory}
use Rattle.outside.specs.declared.failed.FolderError.{FolderError}
use Rattle.outside.specs.declared.failed.FolderError.TheVariants.{Failed, NoMemory}
use Rattle.outside.specs.Folders.{Event, FolderHistory}
use Rattle.prospect.specs.declared.asking.Asked.{Asked}
use Rattle.prospect.specs.declared.asking.Asked.TheVariants.{Gone, Known, Small, Told}
use Rattle.prospect.specs.declared.asking.Keyed.{Keyed}
use Rattle.prospect.specs.declared.listed.Listed.{Listed}
use Rattle.prospect.specs.AskedFiles.{Answer, AnswersSo, AskedFile, AsksOne, ByName, CutsOff, FailsSo, Gave, KeepsFiles, NotFound, TooFew, gone_by, keyed_by, small_by}
use Rattle.prospect.specs.Scan.{with_events}

-- the answer, if the file's opening has this place
abbrev pub answer_at : ℕ → Asked → Answer
answer_at opening Told = ByName
answer_at opening (Known key) = Gave opening key
answer_at opening Small = TooFew opening
answer_at opening Gone = NotFound opening

-- the file was asked for its key
pub record Answers (rule : InputRule) (one : Listed) (told : FolderHistory) (asked : Asked) (after : Option FolderHistory) : Type 0 where
  pub last : FolderHistory
  pub answered : AnswersSo rule one (answer_at (length told.events) asked) told last
  pub after_is : after ≡ Some last

-- it was not: nothing was done, or asking it was cut off
pub record LeavesOff (rule : InputRule) (one : Listed) (told : FolderHistory) (after : Option FolderHistory) : Type 0 where
  pub last : List Event
  pub by_bytes : IsFingerprint rule.file_identity
  pub ends : (last ≡ []) ⊎ CutsOff one.path told last
  pub after_is : after ≡ Some (with_events told last)

-- opening or reading it failed
pub record Fails (rule : InputRule) (one : Listed) (told : FolderHistory) (after : Option FolderHistory) : Type 0 where
  pub last : List Event
  pub by_bytes : IsFingerprint rule.file_identity
  pub fails : FailsSo one.path told last
  pub after_is : after ≡ Some (with_events told last)

abbrev pub TellsAnswer : InputRule → Listed → FolderHistory → Result Asked FolderError → Option FolderHistory → Type 0
TellsAnswer rule one told (Ok asked) after = Answers rule one told asked after
TellsAnswer rule one told (Err Failed) after = Fails rule one told after
TellsAnswer rule one told (Err NoMemory) after = LeavesOff rule one told after

-- only a file that is known by a fingerprint is asked, and a key is of as many bytes as are wanted
abbrev pub IsAnswerFor : InputRule → Listed → Asked → Type 0
IsAnswerFor rule one Told = ¬ (IsFingerprint rule.file_identity)
IsAnswerFor rule one (Known key) = IsFingerprint rule.file_identity × IsKeyBy rule.id rule.file_identity one.path None key
IsAnswerFor rule one Small = IsFingerprint rule.file_identity
IsAnswerFor rule one Gone = IsFingerprint rule.file_identity

-- what an open file gave of its key, as the answer of the folder; a fingerprint lacks no native numbers
abbrev pub IsAnswered : Result Identity IdentityError → Result Asked FolderError → Type 0
IsAnswered (Ok (Key key)) answer = answer ≡ Ok (Known key)
IsAnswered (Ok (TooSmall place)) answer = answer ≡ Ok Small
IsAnswered (Err NoNative) answer = answer ≡ Err NoMemory
IsAnswered (Err ReadFault) answer = answer ≡ Err Failed
IsAnswered (Err OutOfMemory) answer = answer ≡ Err NoMemory

-- the file was put where its answer belongs
pub record PutsBy (asked : AskedFile) (old new : Keyed) : Type 0 where
  pub files : new.files.items ≡ old.files.items ++ keyed_by asked
  pub gone : new.gone.items ≡ old.gone.items ++ gone_by asked
  pub small : new.small.items ≡ old.small.items ++ small_by asked

-- whichever place the opening of the file has, it was put this way
abbrev pub PutsAs : Listed → Asked → Keyed → Keyed → Type 0
PutsAs one asked old new = (opening : ℕ) → PutsBy (record { listed = one; answer = answer_at opening asked }) old new

-- the file was asked for its key, and put where its answer belongs
pub record AsksNext (inputs : List InputRule) (told : FolderHistory) (one : Listed) (old new : Keyed) (after : Option FolderHistory) : Type 0 where
  pub asked : AskedFile
  pub listed_is : asked.listed ≡ one
  pub last : FolderHistory
  pub asks : AsksOne inputs asked told last
  pub after_is : after ≡ Some last
  pub puts : PutsBy asked old new

-- the file was kept or left out
pub record KeepsNext (inputs : List InputRule) (one : Listed) (old new : List Listed) : Type 0 where
  pub more : List Listed
  pub keeps : KeepsFiles inputs (one ∷ []) more
  pub added : new ≡ old ++ more
