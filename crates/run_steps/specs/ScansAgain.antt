-- A scan after the first one, as it changes the folder (Filebeat reference, filestream input, prospector; this project's profile): the root of each glob is
-- listed once, and then each listed file whose input asks for it is asked for its key, also after what fails. If what the folder tells is known, and its
-- count of faults is not at its end, then what such a scan answers is exactly what it showed, and it is called whole exactly if no listing failed and no
-- asking. Or it was cut off.
use Rattle.std.specs.Prelude.{◌≡◌, ◌⊎◌, ℕ, ◌-◌, ◌^◌, ◌<◌, ◌≤◌, true, false, All, flat_map, List, Option, None, Some}
use Rattle.event_tree.specs.declared.input_rule.InputRule.{InputRule}
use Rattle.event_tree.specs.declared.settings.Settings.{Settings}
use Rattle.outside.specs.Counts.{IsAtEnd, Rose}
use Rattle.outside.specs.Folders.{Event, FolderHistory}
use Rattle.outside.specs.declared.folder.Folder.{Ghosts as FolderGhosts}
use Rattle.prospect.specs.AskedFiles.{gone_by, small_by}
use Rattle.prospect.specs.ListedFiles.{IsListedInRange}
use Rattle.prospect.specs.Members.{globs_of}
use Rattle.prospect.specs.PastFaults.{ServesFiles, ServesNoFiles, TriesSome, TriesSomeFiles}
use Rattle.prospect.specs.declared.listed.Listed.{Listed}
use Rattle.prospect.specs.declared.scan_error.ScanError.TheVariants as scan_error
use Rattle.told_scans.specs.Exact.{ShowsExactly}
use Rattle.told_scans.specs.ToldScan.{IsAround, RunAround, ToldScan, run_around, scan_by}
use Rattle.wire_base.specs.Ranges.{IsPath}
use Rattle.run_steps.specs.BeginsAll.{IsOfInputs}
use Rattle.run_steps.specs.FolderSeen.{FolderSeen, seen_in}
use Rattle.run_steps.specs.LaterScans.{IsNextScan, LaterScan}
use Rattle.run_steps.specs.Releasing.{with_events}
use Rattle.run_steps.specs.declared.rescan_error.RescanError.{RescanError}
use Rattle.run_steps.specs.declared.rescan_error.RescanError.TheVariants.{NoMemory, NoNative}
use Rattle.run_steps.specs.declared.scanning.Rescan.{Rescan}

-- what a run knows of it, with what the folder reported of it
abbrev pub later_scan : Rescan → Option ToldScan → LaterScan
later_scan scan told = record { moment = scan.now.0; files = scan.listed.items; doubled = scan.doubled.items; whole = scan.whole; told = told }

-- ---- what it showed

-- between what the folder reported before it and what it reports after it
pub record IsRescan (settings : Settings) (before : FolderHistory) (scan : Rescan) (after : FolderHistory) : Type 0 where
  pub told : ToldScan
  pub next : IsNextScan settings before (later_scan scan (Some told)) after
  pub gone_are : scan.gone.items ≡ flat_map gone_by told.asked
  pub small_are : scan.small.items ≡ flat_map small_by told.asked
  -- in each run around it
  pub shows : (around : RunAround) → IsAround told around → ShowsExactly (run_around told around) (scan_by told) scan.listed.items

abbrev pub TellsRescan : Settings → Option FolderHistory → Rescan → Option FolderHistory → Type 0
TellsRescan settings None scan after = after ≡ None
TellsRescan settings (Some before) scan None = ⊥
TellsRescan settings (Some before) scan (Some after) = IsRescan settings before scan after

-- each file is one that a listing may show, and of an input that covers it
abbrev pub AreListedInRange : List Listed → Type 0
AreListedInRange listed = All IsListedInRange listed

abbrev pub AreOfInputs : Settings → List Listed → Type 0
AreOfInputs settings listed = All (IsOfInputs settings) listed

-- ---- where it was cut off

-- a path that is reported has the length of one
abbrev pub NamesPath : RescanError → Type 0
NamesPath NoMemory = Unit {0}
NamesPath (NoNative path) = IsPath path

-- as the files were asked for their keys, once all was listed
pub record AsksSomeListed (inputs : List InputRule) (told : FolderHistory) (after : Option FolderHistory) : Type 0 where
  pub failed : List (List ℕ)
  pub all : List Listed
  pub faults : ℕ
  pub listed : FolderHistory
  pub serves : ServesFiles inputs told failed all faults (Some listed)
  pub asks : TriesSomeFiles inputs listed all after

-- memory was out, or the listings showed a path without the native numbers for which an input asks
abbrev pub CutsOffSo : List InputRule → FolderHistory → RescanError → ℕ → Option FolderHistory → Type 0
CutsOffSo inputs told NoMemory faults after = TriesSome (globs_of inputs) told faults after ⊎ AsksSomeListed inputs told after
CutsOffSo inputs told (NoNative path) faults after = (failed : List (List ℕ)) × ServesNoFiles inputs told failed (scan_error.NoNative path) faults after

abbrev pub TellsCutOff : List InputRule → Option FolderHistory → RescanError → ℕ → Option FolderHistory → Type 0
TellsCutOff inputs None error faults after = after ≡ None
TellsCutOff inputs (Some told) error faults after = CutsOffSo inputs told error faults after

-- ---- the folder

abbrev pub folder_in : {F T : Type 0} → FolderGhosts F T → F → FolderSeen
folder_in words folder = seen_in words folder

-- its list grows, no tail stays open, and no fault is forgotten
pub record KeepsFolder (old new : FolderSeen) : Type 0 where
  pub more : List Event
  pub told : new.told ≡ with_events more old.told
  pub open_tails : old.open_tails < 2 ^ 64 - 1 → new.open_tails ≡ old.open_tails
  pub faults_never_fall : old.faults ≤ new.faults

-- a failed listing is in the folder's list until its count of faults is at its end; from there on only a whole scan is known from the list
abbrev pub IsCounted : Rescan → ℕ → Type 0
IsCounted scan faults = IsAtEnd faults → scan.whole ≡ true

-- it was scanned
pub record ScansAgain (settings : Settings) (scan : Rescan) (old new : FolderSeen) : Type 0 where
  pub keeps : KeepsFolder old new
  pub tells : IsCounted scan new.faults → TellsRescan settings old.told scan new.told
  pub partial_only_by_a_fault : scan.whole ≡ false → Rose old.faults new.faults

-- the scan was cut off
pub record CutsScanOff (inputs : List InputRule) (error : RescanError) (old new : FolderSeen) : Type 0 where
  pub keeps : KeepsFolder old new
  pub tells : TellsCutOff inputs old.told error new.faults new.told
