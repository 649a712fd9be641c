-- One scan as it was reported (Filebeat reference, filestream input; this project's profile): the folder before it, after its listings and
-- after its askings; what asking the listed files for their keys came to; which of those with a key are followed; its moment.
-- A listing or an asking may have failed: the scan goes on past it, and is whole only if none did. The run around it goes on after it, with other
-- scans before and after.
use Rattle.std.specs.Prelude.{◌≡◌, ◌≢◌, ◌⊎◌, ℕ, ◌-◌, ◌<◌, ◌≤◌, min, Bool, List, [], ◌∷◌, ◌++◌, All, drop, flat_map, length, map, Option, Some, None}
use Rattle.std.specs.List.{AllByRecursion}
use Rattle.event_tree.specs.declared.input_rule.InputRule.{InputRule}
use Rattle.event_tree.specs.declared.settings.Settings.{Settings}
use Rattle.kept_rows.specs.Run.{Asking, Run, Scan}
use Rattle.kept_rows.specs.Scans.{IsBehind, listings_from}
use Rattle.kept_rows.specs.Trace.{OpenTail, WireTold}
use Rattle.outside.specs.Folders.{Event, FolderHistory, ListingFailed}
use Rattle.prospect.specs.AskedFiles.{Answer, AskedFile, ByName, Gave, NotFound, TooFew, keyed_by}
use Rattle.prospect.specs.Doubled.{PartsDoubled}
use Rattle.prospect.specs.ListedFiles.{AreFilesShown, IsKeyed}
use Rattle.prospect.specs.Members.{globs_of}
use Rattle.prospect.specs.PastFaults.{Answered, Attempt, Faulted, Served, TriesOne, Trial, Unserved, answered_in, faulted_by, file_tried, glob_tried, served_in, unserved_by}
use Rattle.prospect.specs.Scan.{Listing, event_of, with_events}
use Rattle.prospect.specs.declared.listed.Listed.{Listed}
use Rattle.wire_base.specs.declared.row.Row.{Row}
use Rattle.told_scans.specs.FolderOn.{FolderGoesOn}

pub record ToldScan : Type 0 where
  pub settings : Settings
  pub moment : ℕ
  -- the folder
  pub earlier : FolderHistory
  pub listed : FolderHistory
  pub scanned : FolderHistory
  -- what was asked of the listed files, and those that answered
  pub askings : List Asking
  pub asked : List AskedFile
  -- the first file of each key, and the others
  pub files : List Listed
  pub doubled : List Listed

-- ---- in the words of a run

-- at which opening the key was asked for, if the file was to be opened for it
abbrev pub opening_by : Answer → Option ℕ
opening_by ByName = None
opening_by (Gave opening key) = Some opening
opening_by (TooFew opening) = Some opening
opening_by (NotFound opening) = Some opening

-- the input asked for the key of the path
abbrev pub asking_of : AskedFile → Asking
asking_of asked = record { input = asked.listed.input; path = asked.listed.path; opening = opening_by asked.answer }

-- its listings are those of the folder's list between what was reported before and what is after them; it asked for the keys of all listed
-- files
abbrev pub scan_by : ToldScan → Scan
scan_by told = record {
  moment = told.moment;
  listings = listings_from (length told.earlier.events) (drop (length told.earlier.events) told.listed.events);
  askings = told.askings;
}

-- how long from a scan to the next, at least: as long as the input says that wants it soonest
abbrev pub least_interval : List InputRule → ℕ
least_interval [] = 0
least_interval (input ∷ []) = input.check_interval
least_interval (input ∷ next ∷ inputs) = min input.check_interval (least_interval (next ∷ inputs))

-- the next one is due at this moment
abbrev pub IsDue : ToldScan → ℕ → Type 0
IsDue told now = least_interval told.settings.inputs ≤ now - told.moment

-- ---- how it was reported

-- a failed listing is in the folder's list, too
abbrev pub event_tried : Attempt → Event
event_tried (Served listing) = event_of listing
event_tried (Unserved glob) = ListingFailed

-- the file was to be opened at this place of the folder's list, if opening or reading it failed
abbrev pub asking_at : ℕ → Trial → Asking
asking_at place (Answered asked) = asking_of asked
asking_at place (Faulted one) = record { input = one.input; path = one.path; opening = Some place }

-- one after another, and nothing else was done
abbrev pub AsksSo : List InputRule → List Trial → List Asking → FolderHistory → FolderHistory → Type 0
AsksSo inputs [] [] before after = after ≡ before
AsksSo inputs [] (asking ∷ askings) before after = ⊥
AsksSo inputs (trial ∷ trials) [] before after = ⊥
AsksSo inputs (trial ∷ trials) (asking ∷ askings) before after =
    (mid : FolderHistory) × TriesOne inputs trial before mid × (asking ≡ asking_at (length before.events) trial) × AsksSo inputs trials askings mid after

-- one listing was tried for each glob; each file that the served ones showed was asked for its key, and those that answered one are parted
pub record IsTold (told : ToldScan) : Type 0 where
  pub attempts : List Attempt
  pub for_each_glob : map glob_tried attempts ≡ globs_of told.settings.inputs
  pub listed_is : told.listed ≡ with_events told.earlier (map event_tried attempts)
  pub listings : List Listing
  pub served : served_in attempts ≡ listings
  pub all : List Listed
  pub shown : AreFilesShown told.settings.inputs listings all
  pub keyed : All (IsKeyed told.settings.inputs) all
  pub trials : List Trial
  pub tried_are : map file_tried trials ≡ all
  pub answered : answered_in trials ≡ told.asked
  pub asks : AsksSo told.settings.inputs trials told.askings told.listed told.scanned
  pub parts : PartsDoubled (flat_map keyed_by told.asked) told.files told.doubled

-- no listing failed, and no asking
pub record IsToldWithoutFault (told : ToldScan) : Type 0 where
  pub is : IsTold told
  pub none_failed : flat_map unserved_by is.attempts ≡ []
  pub none_faulted : flat_map faulted_by is.trials ≡ []

-- some listing failed, or some asking
pub record IsToldWithFault (told : ToldScan) : Type 0 where
  pub is : IsTold told
  pub some : (flat_map unserved_by is.attempts ≢ []) ⊎ (flat_map faulted_by is.trials ≢ [])

-- ---- the run around it

pub record RunAround : Type 0 where
  pub once : Bool
  pub opening : List Row
  -- what the folder reported at the run's end, and how many things were done with it before the run
  pub ended : FolderHistory
  pub began : ℕ
  pub open_tails : List OpenTail
  pub moments : List ℕ
  pub wires : List WireTold
  pub before : List Scan
  pub behind : List Scan

abbrev pub run_around : ToldScan → RunAround → Run
run_around told around = record {
  settings = told.settings;
  once = around.once;
  opening = around.opening;
  trace = record {
    files = around.ended.files;
    events = around.ended.events;
    began = around.began;
    open_tails = around.open_tails;
    moments = around.moments;
    wires = around.wires;
  };
  scans = around.before ++ scan_by told ∷ around.behind;
}

-- it began before the scan, and the scans after it were made after what this one did
pub record IsAround (told : ToldScan) (around : RunAround) : Type 0 where
  pub goes_on : FolderGoesOn told.scanned around.ended
  pub since : around.began ≤ length told.earlier.events
  pub until : (place : ℕ) → place < length told.scanned.events → AllByRecursion (IsBehind place) around.behind
