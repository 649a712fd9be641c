-- When a run has to be done (this project's profile): nothing that it is given is refused or not built, no count of faults rises, the bell
-- does not ring, files are no more than there may be, have epochs left and the native numbers that are asked for, and peers send nothing
-- but acknowledgements within their windows, in time as far as the clock's moments are known. Then it ends with `Done`, or out of memory.
use Rattle.std.specs.Prelude.{◌≡◌, ◌⊎◌, ℕ, false, List, [], drop, length, slice_get, take, Option, Some, IfSome, IsSome, IsSomeAnd}
use Rattle.std.specs.List.{AllByRecursion}
use Rattle.batch_worker.specs.Seen.{Seen}
use Rattle.beat_config.specs.Document.{AreSettingsOf}
use Rattle.event_tree.specs.declared.input_rule.InputRule.{InputRule}
use Rattle.event_tree.specs.declared.settings.Settings.{Settings as SettingsOf}
use Rattle.lumber_frame.specs.PeerFault.{HasPeerFault}
use Rattle.outside.specs.Counts.{Rose}
use Rattle.outside.specs.Folders.{FolderHistory}
use Rattle.outside.specs.Wires.{Outcome, Refused, Finished}
use Rattle.prospect.specs.Lacks.{lacks_of}
use Rattle.prospect.specs.declared.listed.Listed.{Listed}
use Rattle.report.specs.declared.status.Status.{Status}
use Rattle.report.specs.declared.status.Status.TheVariants.{Done, NoMemory}
use Rattle.rounds.specs.Words.{DiskWords}
use Rattle.run_steps.specs.Areas.{GiveTheRows}
use Rattle.run_steps.specs.Starting.{AreFewFiles}
use Rattle.told_events.specs.Licence.{LieApart}
use Rattle.wire_base.specs.declared.row.Row.{Row}
use Rattle.beat_run.specs.Accounted.{TellRows}
use Rattle.beat_run.specs.Asked.{AskForOnce}
use Rattle.beat_run.specs.Cause.{AllSigns, LacksNumbers, MayHaveGiven, Signs}
use Rattle.beat_run.specs.EpochsLeft.{HaveEpochsLeft}
use Rattle.beat_run.specs.Scanning.{ScansParted}
use Rattle.beat_run.specs.declared.settings.TheConstants.{LIMIT}

-- what a run is given besides its objects, with the areas as it begins
pub record GivenRun (D : Type 0) : Type 0 where
  pub words : List (List ℕ)
  pub source : Option (List ℕ)
  pub a : D
  pub b : D

abbrev pub given_run : {D : Type 0} → List (List ℕ) → Option (List ℕ) → D → D → GivenRun D
given_run words source a b = record { words = words; source = source; a = a; b = b }

-- ---- what it is given

-- the source's bytes are known and spell these settings, and they ask for nothing that is not built
pub record TellsBuilt (source : Option (List ℕ)) (settings : SettingsOf) : Type 0 where
  pub bytes : List ℕ
  pub tells : source ≡ Some bytes
  pub are : AreSettingsOf (take LIMIT bytes) settings
  pub built : lacks_of settings ≡ []

-- ---- what does not rise

-- the counts of faults of the source, of the sink, of the folder with its tails and of both areas, and that of rings
pub record CountsStand (before now : AllSigns) : Type 0 where
  pub source : ¬ (Rose before.source_faults now.source_faults)
  pub sink : ¬ (Rose before.sink_faults now.sink_faults)
  pub folder : ¬ (Rose before.signs.counts.folder_faults now.signs.counts.folder_faults)
  pub first_area : ¬ (Rose before.signs.counts.a_faults now.signs.counts.a_faults)
  pub second_area : ¬ (Rose before.signs.counts.b_faults now.signs.counts.b_faults)
  pub rings : ¬ (Rose before.signs.counts.rings now.signs.counts.rings)

-- ---- what its peers do

-- it was connected, its link counted no fault, and its peer sent nothing but acknowledgements within their windows
abbrev pub IsServed : Outcome → Type 0
IsServed Refused = ⊥
IsServed (Finished talk faults idles) = (¬ (Rose 0 faults)) × (¬ (HasPeerFault talk.pieces))

-- its link was not idle after what it sent last, as none is whose count of idles did not rise
abbrev pub IsNotIdle : Outcome → Type 0
IsNotIdle Refused = Unit {0}
IsNotIdle (Finished talk faults idles) = talk.idled ≡ false

-- the wire's outcomes are known, and this holds of each connection that it has had since
abbrev pub EachSince : (Outcome → Type 0) → Seen → Seen → Type 0
EachSince P old new = IsSomeAnd old.outcomes (λ earlier. IsSomeAnd new.outcomes (λ all. AllByRecursion P (drop (length earlier) all)))

-- so it is of each wire, as it was before the run and as it is now
abbrev pub OfEachWire : (Seen → Seen → Type 0) → Signs → Signs → Type 0
OfEachWire P before now = (place : ℕ) (old new : Seen) → slice_get before.wires place ≡ Some old → slice_get now.wires place ≡ Some new → P old new

-- no wire counted a fault, each connection was served, and none was idle, or no two moments that the clock may have given the run lie the
-- timeout apart
pub record PeersServe (timeout : ℕ) (before now : Signs) : Type 0 where
  pub wires : OfEachWire (λ old new. ¬ (Rose old.faults new.faults)) before now
  pub served : OfEachWire (EachSince IsServed) before now
  pub clock_told : IsSome before.moments
  pub clock_tells : IsSome now.moments
  pub in_time : OfEachWire (EachSince IsNotIdle) before now ⊎ ((moments : List ℕ) → MayHaveGiven before now moments → ¬ (LieApart moments timeout))

-- ---- how many files there are

-- there are no more of the files that are followed, one for each key, and of the rows that the areas gave, than there may be; and none of
-- them needs an epoch above the last one
pub record HasRoom {D : Type 0} (disks : DiskWords D) (a b : D) (inputs : List InputRule) (before after : Option FolderHistory) : Type 0 where
  pub told : FolderHistory
  pub told_is : before ≡ Some told
  pub few_known : (rows : List Row) (files doubled : List Listed) → GiveTheRows disks a b rows → ScansParted inputs told files doubled after → AreFewFiles rows files
  pub epochs_left : (rows : List Row) → GiveTheRows disks a b rows → HaveEpochsLeft inputs told rows after

-- ---- their native numbers

-- no path lacks those that its input asks for, as it was shown or as its file was opened
abbrev pub HaveNumbers : List InputRule → Option FolderHistory → Option FolderHistory → Type 0
HaveNumbers inputs before after = IfSome before (λ told. (path : List ℕ) → ¬ (LacksNumbers inputs path told after))

-- ---- together

-- that the areas give rows says that they are not refused
pub record IsUntroubled {D : Type 0} (disks : DiskWords D) (given : GivenRun D) (before now : AllSigns) : Type 0 where
  pub words : AskForOnce given.words
  pub settings : SettingsOf
  pub spelled : TellsBuilt given.source settings
  pub rows : TellRows disks given.a given.b
  pub counts : CountsStand before now
  pub peers : PeersServe settings.output.timeout before.signs now.signs
  pub room : HasRoom disks given.a given.b settings.inputs before.signs.folder now.signs.folder
  pub numbers : HaveNumbers settings.inputs before.signs.folder now.signs.folder

-- how it ends then
abbrev pub IsUntroubledEnd : Status → Type 0
IsUntroubledEnd Done = Unit {0}
IsUntroubledEnd NoMemory = Unit {0}
IsUntroubledEnd _ = ⊥
