-- The scans of a run, in sequence, each as reported (Filebeat reference, filestream input, prospector; this project's profile). Before the
-- first, between two and after the last the run opens files and closes them, and lists nothing.
use Rattle.std.specs.Prelude.{◌≡◌, ◌⊎◌, ℕ, ◌<◌, ◌≤◌, Bool, List, [], ◌∷◌, ◌++◌, Contains, length, map, slice_get, Some}
use Rattle.std.specs.List.{AllByRecursion}
use Rattle.event_tree.specs.declared.settings.Settings.{Settings}
use Rattle.kept_rows.specs.Askings.{AsksInOrder}
use Rattle.kept_rows.specs.Followed.{asked_openings}
use Rattle.kept_rows.specs.Run.{Asking, Run}
use Rattle.kept_rows.specs.Scans.{AreAsked, AreDistinct, AreScans, StandInOrder, WasAskedSo}
use Rattle.kept_rows.specs.Trace.{OpenTail, WireTold}
use Rattle.outside.specs.Folders.{Event, FolderHistory, Opened}
use Rattle.outside.specs.declared.history.Sight.{Sight}
use Rattle.wire_base.specs.declared.row.Row.{Row}
use Rattle.told_scans.specs.Exact.{ShowsExactly}
use Rattle.told_scans.specs.OnlyAsked.{IsNoListing, WasOnlyAsked}
use Rattle.told_scans.specs.ToldScan.{IsTold, ToldScan, scan_by}

-- ---- one after another

-- files were opened and closed, and nothing was listed
pub record NothingListed (before after : FolderHistory) : Type 0 where
  pub files : after.files ≡ before.files
  pub more : List Event
  pub events : after.events ≡ before.events ++ more
  pub no_listing : AllByRecursion IsNoListing more

-- the next scan with these settings, once the folder reported this much
pub record IsToldNext (settings : Settings) (before : FolderHistory) (told : ToldScan) : Type 0 where
  pub between : NothingListed before told.earlier
  pub settings_are : told.settings ≡ settings
  pub is : IsTold told

-- from what the folder reported before the first scan to what it reports now
abbrev pub AreToldFrom : Settings → FolderHistory → List ToldScan → FolderHistory → Type 0
AreToldFrom settings before [] now = NothingListed before now
AreToldFrom settings before (told ∷ scans) now = IsToldNext settings before told × AreToldFrom settings told.scanned scans now

-- ---- places of the folder's list

-- in none of the scans
abbrev pub LiesBetween : ℕ → FolderHistory → List ToldScan → FolderHistory → Type 0
LiesBetween place before [] now = (length before.events ≤ place) × (place < length now.events)
LiesBetween place before (told ∷ scans) now =
    ((length before.events ≤ place) × (place < length told.earlier.events)) ⊎ LiesBetween place told.scanned scans now

-- after the listings of this scan, and before its end
abbrev pub IsWithin : ToldScan → ℕ → Type 0
IsWithin told place = (length told.listed.events ≤ place) × (place < length told.scanned.events)

-- of one of the scans
abbrev pub LiesWithin : ℕ → List ToldScan → Type 0
LiesWithin place [] = ⊥
LiesWithin place (told ∷ scans) = IsWithin told place ⊎ LiesWithin place scans

-- ---- the run

-- a run as it was reported
pub record ToldRun : Type 0 where
  pub settings : Settings
  pub once : Bool
  pub opening : List Row
  -- what the folder reported as the run began, and at its end
  pub earlier : FolderHistory
  pub ended : FolderHistory
  pub scans : List ToldScan
  pub open_tails : List OpenTail
  pub moments : List ℕ
  pub wires : List WireTold

abbrev pub run_by : ToldRun → Run
run_by run = record {
  settings = run.settings;
  once = run.once;
  opening = run.opening;
  trace = record {
    files = run.ended.files;
    events = run.ended.events;
    began = length run.earlier.events;
    open_tails = run.open_tails;
    moments = run.moments;
    wires = run.wires;
  };
  scans = map scan_by run.scans;
}

-- its scans are reported one after another
abbrev pub AreToldIn : ToldRun → Type 0
AreToldIn run = AreToldFrom run.settings run.earlier run.scans run.ended

abbrev pub moments_in : List ToldScan → List ℕ
moments_in scans = map (λ told. told.moment) scans

-- of the openings between its scans each is one of these, or its tail reported nothing but reads
abbrev pub AreOpenedFor : ToldRun → List ℕ → Type 0
AreOpenedFor run openings = (opening : ℕ) (path : List ℕ) (number : ℕ) (begun : Sight) → LiesBetween opening run.earlier run.scans run.ended →
    slice_get run.ended.events opening ≡ Some (Opened path number begun) → Contains openings opening ⊎ WasOnlyAsked run.ended opening

-- ---- how it goes on

-- by one more scan
abbrev pub with_scan : ToldRun → ToldScan → ToldRun
with_scan run told = record run { scans = run.scans ++ told ∷ []; ended = told.scanned }

abbrev pub with_ended : ToldRun → FolderHistory → ToldRun
with_ended run ended = record run { ended = ended }

-- one more scan was made from where the folder is, or more was done that listed nothing
pub record MayGoOn (run : ToldRun) : Type 0 where
  pub by_scan : (told : ToldScan) → told.earlier ≡ run.ended → told.settings ≡ run.settings → IsTold told → AreToldIn (with_scan run told)
  pub unlisted : (ended : FolderHistory) → NothingListed run.ended ended → AreToldIn (with_ended run ended)

-- ---- what is known of it

-- if a file was opened for the asking, that is within the scan
abbrev pub IsAskedWithin : ToldScan → Asking → Type 0
IsAskedWithin told asking = (opening : ℕ) → asking.opening ≡ Some opening → IsWithin told opening

-- each entry was asked for its key, each asking hit no fault or the scan is partial by it, and it shows what was listed
pub record IsExactScan (run : Run) (told : ToldScan) : Type 0 where
  pub asked : AreAsked run (scan_by told)
  pub asked_so : AllByRecursion (WasAskedSo run (scan_by told)) told.askings
  pub asks_in_order : AsksInOrder run (scan_by told)
  pub asked_within : AllByRecursion (IsAskedWithin told) told.askings
  pub shows : ShowsExactly run (scan_by told) told.files

-- all listings of the run are those of its scans; no two askings have one opening; each opening is between scans, or its tail only read
pub record AreExactScans (run : ToldRun) : Type 0 where
  pub are_scans : StandInOrder (moments_in run.scans) run.moments → AreScans (run_by run)
  pub each : AllByRecursion (IsExactScan (run_by run)) run.scans
  pub asked_apart : AreDistinct (asked_openings (run_by run))
  pub each_opening : (opening : ℕ) (path : List ℕ) (number : ℕ) (begun : Sight) → length run.earlier.events ≤ opening →
      slice_get run.ended.events opening ≡ Some (Opened path number begun) →
      LiesBetween opening run.earlier run.scans run.ended ⊎ WasOnlyAsked run.ended opening
