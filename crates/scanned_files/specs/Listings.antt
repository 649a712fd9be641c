-- How the scans of a run listed the files that it opened (Filebeat reference, filestream input, prospector; this project's profile), by the entries
-- that each scan gave, and what the account of the run is reported by them.
use Rattle.std.specs.Prelude.{◌≡◌, ◌⊎◌, ℕ, ◌+◌, ◌<◌, ◌≤◌, List, ◌∷◌, ◌++◌, Contains, length, slice_get, Some}
use Rattle.std.specs.List.{AllByRecursion}
use Rattle.accounts.specs.ByScans.{IsByScans}
use Rattle.accounts.specs.Opened.{Opened}
use Rattle.accounts.specs.RunsInARow.{HaveOwnIds}
use Rattle.accounts.specs.FollowedFile.{WasShownLast, begins_by}
use Rattle.accounts.specs.Watch.{Name}
use Rattle.accounts.specs.Watched.{WasRemovedSince, WasRenamedSince}
use Rattle.kept_rows.specs.Account.{Following}
use Rattle.kept_rows.specs.Followed.{HadNoRow, HasWent, IsBegun, IsNewlyKnown, WasHiddenByWhole, start_of, start_unlisted}
use Rattle.kept_rows.specs.Scans.{StandInOrder}
use Rattle.prospect.specs.Doubled.{HaveKey}
use Rattle.prospect.specs.declared.listed.Listed.{Listed}
use Rattle.ship_core.specs.Rows.{find}
use Rattle.told_scans.specs.ToldScan.{IsToldWithoutFault, ToldScan}
use Rattle.told_scans.specs.ToldScans.{ToldRun, moments_in, run_by}
use Rattle.wire_base.specs.declared.row.Row.{Row}

-- ---- of a key

-- the scan of this number gave the entry, which has the key
pub record HasEntry (scans : List ToldScan) (number : ℕ) (key : List ℕ) (entry : Listed) : Type 0 where
  pub told : ToldScan
  pub told_is : slice_get scans number ≡ Some told
  pub there : Contains told.files entry
  pub keyed : entry.key ≡ Some key

-- it gave none that has it
pub record HasNoEntry (scans : List ToldScan) (number : ℕ) (key : List ℕ) : Type 0 where
  pub told : ToldScan
  pub told_is : slice_get scans number ≡ Some told
  pub none : ¬ (HaveKey told.files (Some key))

-- and it was whole
pub record HasNoMore (scans : List ToldScan) (number : ℕ) (key : List ℕ) : Type 0 where
  pub is : HasNoEntry scans number key
  pub whole : IsToldWithoutFault is.told

-- none with a number from the first up to the second gave one
abbrev pub NoneHasEntry : List ToldScan → List ℕ → ℕ → ℕ → Type 0
NoneHasEntry scans key since until =
    (number : ℕ) (told : ToldScan) → since ≤ number → number < until → slice_get scans number ≡ Some told → ¬ (HaveKey told.files (Some key))

-- from the scan of this number on the key was not known: from the first one, from the one behind that by which an earlier slot of it went, or from a
-- whole one that gave no entry of it
abbrev pub HasNoEntryFrom : List ToldScan → List Following → Following → ℕ → Type 0
HasNoEntryFrom scans followings following since =
    (since ≡ 0) ⊎ (((last : ℕ) × HasWent followings following last × (since ≡ last + 1)) ⊎ HasNoMore scans since following.key)

-- ---- of a file that was opened

-- a scan listed it, as a file to be followed, and it was opened after that scan and before the next one
pub record WasListedBy (scans : List ToldScan) (opened : Opened) : Type 0 where
  pub front : List ToldScan
  pub told : ToldScan
  pub behind : List ToldScan
  pub scans_are : scans ≡ front ++ told ∷ behind
  pub entry : Listed
  pub there : Contains told.files entry
  pub keyed : entry.key ≡ Some opened.begin.key
  pub path_is : opened.begin.path ≡ entry.path
  pub input_is : opened.begin.input ≡ entry.input
  pub since : length told.scanned.events ≤ opened.opening
  pub until : AllByRecursion (λ later. opened.opening < length later.earlier.events) behind

-- ---- what the account is reported by the entries

-- the following begins by the entry of the scan from which on its key is known, or by its row, if the first scan gave no entry. Its key is newly known,
-- if it had no row, as the registry had none or an earlier slot of it went, and if no scan gave an entry of it since it was not known
pub record AreBegunBy (run : ToldRun) : Type 0 where
  pub by_entry : (following : Following) (entry : Listed) → HasEntry run.scans following.known_from following.key entry →
      start_of following ≡ begins_by following.known_from (find following.key run.opening) entry.size → IsBegun (run_by run) following
  pub by_row : (following : Following) (row : Row) → following.known_from ≡ 0 → HasNoEntry run.scans 0 following.key →
      find following.key run.opening ≡ Some row → start_of following ≡ start_unlisted row → IsBegun (run_by run) following
  pub newly_known : (followings : List Following) (following : Following) (since : ℕ) → HadNoRow (run_by run) followings following →
      HasNoEntryFrom run.scans followings following since → NoneHasEntry run.scans following.key since following.known_from →
      IsNewlyKnown (run_by run) followings following

-- the scan that listed it is the last before its opening that showed its key; a later whole one that gave no entry of the key reports that
-- it was removed, and one that gave an entry reports its name since. A scan that was whole and gave no entry of a key hides it
pub record AreShownBy (run : ToldRun) : Type 0 where
  pub hidden : (number : ℕ) (key : List ℕ) → HasNoMore run.scans number key → WasHiddenByWhole (run_by run) key number
  pub last : (opened : Opened) → WasListedBy run.scans opened → WasShownLast (run_by run) opened
  pub removed : (opened : Opened) (listed : WasListedBy run.scans opened) (number : ℕ) → length listed.front < number →
      HasNoMore run.scans number opened.begin.key → WasRemovedSince (run_by run) opened
  pub renamed : (opened : Opened) (listed : WasListedBy run.scans opened) (name : Name) (entry : Listed) → length listed.front < name.scan →
      HasEntry run.scans name.scan opened.begin.key entry → name.path ≡ entry.path → WasRenamedSince (run_by run) opened name

-- the clock gave the moments of its scans, in their order, and no two inputs have one id: then it is a run by scans
abbrev pub IsByItsScans : ToldRun → Type 0
IsByItsScans run = StandInOrder (moments_in run.scans) run.moments → HaveOwnIds run.settings.inputs → IsByScans (run_by run)
