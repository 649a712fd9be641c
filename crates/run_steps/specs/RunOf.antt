-- A run as its account sees it (this project's profile): it reads its files once, over the rows that its registry gave, by one scan. What it
-- listed, opened and closed is in the folder's list, and of each wire's connections those after the run's start are its own.
use Rattle.std.specs.Prelude.{ℕ, true, List, [], ◌∷◌, ◌++◌, drop, length, map, Option, Some, None}
use Rattle.batch_worker.specs.Standing.{length_of}
use Rattle.kept_rows.specs.Run.{Run, Scan}
use Rattle.kept_rows.specs.Trace.{WireTold}
use Rattle.outside.specs.Folders.{FolderHistory}
use Rattle.outside.specs.Wires.{Outcome}
use Rattle.prospect.specs.AskedFiles.{AskedFile}
use Rattle.rounds.specs.Words.{WireWords}
use Rattle.told_scans.specs.ToldScan.{ToldScan, asking_of, scan_by}
use Rattle.run_steps.specs.Began.{Began}

-- what the folder reported as the run began, after its listings, after its scan and at its end; and what asking the listed files for
-- their keys came to
pub record FolderTold : Type 0 where
  pub earlier : FolderHistory
  pub listed : FolderHistory
  pub scanned : FolderHistory
  pub ended : FolderHistory
  pub asked : List AskedFile

-- ---- its scan

-- the scan as the folder reported it
abbrev pub told_scan : {D : Type 0} → Began D → FolderTold → ToldScan
told_scan start folder = record {
  settings = start.settings;
  moment = start.moment;
  earlier = folder.earlier;
  listed = folder.listed;
  scanned = folder.scanned;
  askings = map asking_of folder.asked;
  asked = folder.asked;
  files = start.listed;
  doubled = start.doubled;
}

abbrev pub scan_of : {D : Type 0} → Began D → FolderTold → Scan
scan_of start folder = scan_by (told_scan start folder)

-- ---- its wires

-- the outcomes after the first so many; each link is finished
abbrev pub wire_behind : ℕ → Option (List Outcome) → WireTold
wire_behind start None = record { outcomes = []; open_talk = None }
wire_behind start (Some outcomes) = record { outcomes = drop start outcomes; open_talk = None }

-- wire by wire, each after so many
abbrev pub wires_behind : List ℕ → List (Option (List Outcome)) → List WireTold
wires_behind [] told = []
wires_behind (start ∷ starts) [] = []
wires_behind (start ∷ starts) (outcomes ∷ told) = wire_behind start outcomes ∷ wires_behind starts told

-- how many outcomes each had as the run began: those of the workers, and those that no worker had and that are as they were
abbrev pub starts_of : {W D : Type 0} → WireWords W → Began D → List W → List ℕ
starts_of words start unused = start.heard ++ map (λ wire. length_of (words.outcomes wire)) unused

-- ---- all of it

-- with the moments that the clock gave in it
abbrev pub run_of : {D : Type 0} → Began D → FolderTold → List ℕ → List WireTold → Run
run_of start folder moments wires = record {
  settings = start.settings;
  once = true;
  opening = start.opening;
  trace = record {
    files = folder.ended.files;
    events = folder.ended.events;
    began = length folder.earlier.events;
    open_tails = [];
    moments = moments;
    wires = wires;
  };
  scans = scan_of start folder ∷ [];
}
