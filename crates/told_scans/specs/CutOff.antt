-- A scan that is cut off before its end, for whatever reason, and scans one after another of which the last may be cut off so (Filebeat reference,
-- filestream input; this project's profile). Nothing was asked until the root of each glob was listed.
use Rattle.std.specs.Prelude.{◌≡◌, ◌⊎◌, ℕ, ◌<◌, ◌≤◌, List, [], ◌++◌, length, map, Option, Some, None}
use Rattle.event_tree.specs.declared.settings.Settings.{Settings}
use Rattle.kept_rows.specs.Run.{Asking}
use Rattle.outside.specs.Folders.{Event, FolderHistory}
use Rattle.prospect.specs.AskedFiles.{IsCutOff}
use Rattle.prospect.specs.ListedFiles.{AreFilesShown}
use Rattle.prospect.specs.Members.{globs_of}
use Rattle.prospect.specs.PastFaults.{Attempt, Trial, file_tried, glob_tried, served_in}
use Rattle.prospect.specs.Scan.{Listing, with_events}
use Rattle.prospect.specs.declared.listed.Listed.{Listed}
use Rattle.told_scans.specs.ToldScan.{AsksSo, ToldScan, event_tried}
use Rattle.told_scans.specs.ToldScans.{AreToldFrom, LiesBetween, NothingListed}

pub record CutScan : Type 0 where
  pub settings : Settings
  pub moment : ℕ
  -- the folder before it, after its listings and at its end
  pub earlier : FolderHistory
  pub listed : FolderHistory
  pub ended : FolderHistory
  -- those that came to an answer or failed
  pub askings : List Asking

-- the first of the listed files were asked, and no other, but that the next one cut it off
pub record AskedSome (cut : CutScan) (listings : List Listing) : Type 0 where
  pub all : List Listed
  pub shown : AreFilesShown cut.settings.inputs listings all
  pub trials : List Trial
  pub others : List Listed
  pub are : all ≡ map file_tried trials ++ others
  pub mid : FolderHistory
  pub asks : AsksSo cut.settings.inputs trials cut.askings cut.listed mid
  pub last : List Event
  pub ends : IsCutOff cut.settings.inputs others mid last
  pub ended_is : cut.ended ≡ with_events mid last

pub record AskedNone (cut : CutScan) : Type 0 where
  pub no_askings : cut.askings ≡ []
  pub ended_is : cut.ended ≡ cut.listed

-- one listing was tried for each of the first globs; files were asked only after one for each glob
pub record IsToldCut (cut : CutScan) : Type 0 where
  pub attempts : List Attempt
  pub unlisted : List (List ℕ)
  pub for_the_first : globs_of cut.settings.inputs ≡ map glob_tried attempts ++ unlisted
  pub listed_is : cut.listed ≡ with_events cut.earlier (map event_tried attempts)
  pub asked : AskedNone cut ⊎ ((unlisted ≡ []) × AskedSome cut (served_in attempts))

-- ---- after others

-- from what the folder told before the first scan to what it tells now
pub record EndsCutOff (settings : Settings) (before : FolderHistory) (scans : List ToldScan) (cut : CutScan) (now : FolderHistory) : Type 0 where
  pub earlier : AreToldFrom settings before scans cut.earlier
  pub settings_are : cut.settings ≡ settings
  pub is : IsToldCut cut
  pub since : NothingListed cut.ended now

-- the last of them may be cut off
abbrev pub AreToldTo : Settings → FolderHistory → List ToldScan → Option CutScan → FolderHistory → Type 0
AreToldTo settings before scans None now = AreToldFrom settings before scans now
AreToldTo settings before scans (Some cut) now = EndsCutOff settings before scans cut now

-- a place of the folder's list that is in none of them
abbrev pub LiesApart : ℕ → FolderHistory → List ToldScan → Option CutScan → FolderHistory → Type 0
LiesApart place before scans None now = LiesBetween place before scans now
LiesApart place before scans (Some cut) now =
    LiesBetween place before scans cut.earlier ⊎ ((length cut.ended.events ≤ place) × (place < length now.events))
