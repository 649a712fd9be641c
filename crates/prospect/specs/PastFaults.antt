-- A scan that goes on past what fails (Filebeat reference, filestream input; this project's profile): the root of each glob is
-- listed once, in the order of the settings, also after a listing that failed; what the served listings showed decides which files are reported. A
-- file whose key cannot be asked for is left out, and the others are asked. Such a scan is partial.
use Rattle.std.specs.Prelude.{◌≡◌, ◌⊎◌, ℕ, List, [], ◌∷◌, ◌++◌, flat_map, map, slice_get, Option, Some}
use Rattle.event_tree.specs.declared.input_rule.InputRule.{InputRule}
use Rattle.file_identity.specs.Answers.{IsFingerprint}
use Rattle.glob_paths.specs.Root.{root_of}
use Rattle.outside.specs.Counts.{IsAtEnd}
use Rattle.outside.specs.Folders.{Event, FolderHistory, ListingFailed}
use Rattle.prospect.specs.declared.askings.Askings.{Askings}
use Rattle.prospect.specs.declared.listed.Listed.{Listed}
use Rattle.prospect.specs.declared.scan_error.ScanError.{ScanError}
use Rattle.prospect.specs.declared.scan_error.ScanError.TheVariants.{Failed, NoMemory, NoNative}
use Rattle.prospect.specs.AskedFiles.{AskedFile, AsksOne, FailsSo, IsCutOff, gone_by, keyed_by, small_by}
use Rattle.prospect.specs.ListedFiles.{AreFilesShown, LacksNumbersFirst}
use Rattle.prospect.specs.Members.{globs_of}
use Rattle.prospect.specs.Scan.{AreListed, Listing, event_of, with_events}

-- ---- listings

-- the listing for a glob showed this, or failed
pub data Attempt : Type 0 where
  Served : Listing → Attempt
  Unserved : List ℕ → Attempt

abbrev pub glob_tried : Attempt → List ℕ
glob_tried (Served listing) = listing.glob
glob_tried (Unserved glob) = glob

abbrev pub served_by : Attempt → List Listing
served_by (Served listing) = listing ∷ []
served_by (Unserved glob) = []

abbrev pub served_in : List Attempt → List Listing
served_in attempts = flat_map served_by attempts

-- the root whose listing failed
abbrev pub unserved_by : Attempt → List (List ℕ)
unserved_by (Served listing) = []
unserved_by (Unserved glob) = root_of glob ∷ []

-- the attempts are in the folder's list this way, in sequence; a failed listing does until the folder's count of faults is at its end
abbrev pub StandSo : ℕ → List Attempt → List Event → Type 0
StandSo faults [] events = events ≡ []
StandSo faults (Served listing ∷ attempts) events = (more : List Event) × (events ≡ event_of listing ∷ more) × StandSo faults attempts more
StandSo faults (Unserved glob ∷ attempts) events =
    ((more : List Event) × (events ≡ ListingFailed ∷ more) × StandSo faults attempts more)
    ⊎ (IsAtEnd faults × StandSo faults attempts events)

-- the attempts were made, and nothing else was done
pub record Makes (attempts : List Attempt) (told : FolderHistory) (faults : ℕ) (after : Option FolderHistory) : Type 0 where
  pub more : List Event
  pub stand : StandSo faults attempts more
  pub kept : after ≡ Some (with_events told more)

-- one for each glob; those of these roots failed
pub record TriesGlobs (globs : List (List ℕ)) (told : FolderHistory) (failed : List (List ℕ)) (faults : ℕ) (after : Option FolderHistory) : Type 0 where
  pub attempts : List Attempt
  pub one_for_each_glob : map glob_tried attempts ≡ globs
  pub failed_are : failed ≡ flat_map unserved_by attempts
  pub makes : Makes attempts told faults after

-- one for each of the first globs
pub record TriesSome (globs : List (List ℕ)) (told : FolderHistory) (faults : ℕ) (after : Option FolderHistory) : Type 0 where
  pub attempts : List Attempt
  pub others : List (List ℕ)
  pub for_the_first : globs ≡ map glob_tried attempts ++ others
  pub makes : Makes attempts told faults after

-- the files are those that the inputs cover of what the served listings showed
pub record ServesFiles (inputs : List InputRule) (told : FolderHistory) (failed : List (List ℕ)) (listed : List Listed) (faults : ℕ) (after : Option FolderHistory) : Type 0 where
  pub tries : TriesGlobs (globs_of inputs) told failed faults after
  pub shown : AreFilesShown inputs (served_in tries.attempts) listed

-- why what they showed gives no files
abbrev pub RefusesBy : List InputRule → List Listing → ScanError → Type 0
RefusesBy inputs listings Failed = ⊥
RefusesBy inputs listings NoMemory = ⊥
RefusesBy inputs listings (NoNative path) = LacksNumbersFirst inputs listings path

pub record ServesNoFiles (inputs : List InputRule) (told : FolderHistory) (failed : List (List ℕ)) (error : ScanError) (faults : ℕ) (after : Option FolderHistory) : Type 0 where
  pub tries : TriesGlobs (globs_of inputs) told failed faults after
  pub refuses : RefusesBy inputs (served_in tries.attempts) error

-- no listings, one for each glob, were made and nothing else
abbrev pub IsNoWholeList : List (List ℕ) → FolderHistory → Option FolderHistory → Type 0
IsNoWholeList globs told after = (listings : List Listing) → ¬ (AreListed globs told listings after)

-- ---- askings

-- a listed file was asked for its key, or the asking failed
pub data Trial : Type 0 where
  Answered : AskedFile → Trial
  Faulted : Listed → Trial

abbrev pub file_tried : Trial → Listed
file_tried (Answered asked) = asked.listed
file_tried (Faulted one) = one

abbrev pub answered_by : Trial → List AskedFile
answered_by (Answered asked) = asked ∷ []
answered_by (Faulted one) = []

abbrev pub answered_in : List Trial → List AskedFile
answered_in trials = flat_map answered_by trials

abbrev pub faulted_by : Trial → List Listed
faulted_by (Answered asked) = []
faulted_by (Faulted one) = one ∷ []

-- opening the file failed, or reading it did
pub record FaultsOne (inputs : List InputRule) (one : Listed) (before after : FolderHistory) : Type 0 where
  pub rule : InputRule
  pub rule_is : slice_get inputs one.input ≡ Some rule
  pub by_bytes : IsFingerprint rule.file_identity
  pub last : List Event
  pub fails : FailsSo one.path before last
  pub kept : after ≡ with_events before last

abbrev pub TriesOne : List InputRule → Trial → FolderHistory → FolderHistory → Type 0
TriesOne inputs (Answered asked) before after = AsksOne inputs asked before after
TriesOne inputs (Faulted one) before after = FaultsOne inputs one before after

-- one after another, and nothing else was done
abbrev pub TriesFrom : List InputRule → List Trial → FolderHistory → FolderHistory → Type 0
TriesFrom inputs [] before after = after ≡ before
TriesFrom inputs (one ∷ trials) before after = (mid : FolderHistory) × TriesOne inputs one before mid × TriesFrom inputs trials mid after

-- each listed file was tried in their order, and is put where its answer belongs
pub record TriesFiles (inputs : List InputRule) (told : FolderHistory) (listed : List Listed) (askings : Askings) (after : Option FolderHistory) : Type 0 where
  pub trials : List Trial
  pub are : map file_tried trials ≡ listed
  pub last : FolderHistory
  pub tries : TriesFrom inputs trials told last
  pub after_is : after ≡ Some last
  pub files : askings.keyed.files.items ≡ flat_map keyed_by (answered_in trials)
  pub gone : askings.keyed.gone.items ≡ flat_map gone_by (answered_in trials)
  pub small : askings.keyed.small.items ≡ flat_map small_by (answered_in trials)
  pub failed : askings.failed.items ≡ flat_map faulted_by trials

-- the first of the listed files were tried in their order, and no other, but that the next one cut it off
pub record TriesSomeFiles (inputs : List InputRule) (told : FolderHistory) (listed : List Listed) (after : Option FolderHistory) : Type 0 where
  pub trials : List Trial
  pub others : List Listed
  pub are : listed ≡ map file_tried trials ++ others
  pub mid : FolderHistory
  pub tries : TriesFrom inputs trials told mid
  pub last : List Event
  pub ends : IsCutOff inputs others mid last
  pub after_is : after ≡ Some (with_events mid last)
