-- Why a run ended as it did (this project's profile): one equation for each status. What shows of the objects is given as it was
-- before the run and as it is now.
use Rattle.std.specs.Prelude.{◌≡◌, ◌⊎◌, ◌<◌, ℕ, List, Any, Contains, drop, length, slice_get, Option, Some, IfSome, IsSome}
use Rattle.batch_worker.specs.Seen.{Seen}
use Rattle.event_tree.specs.declared.input_rule.IdentityRule.TheVariants.{Native}
use Rattle.event_tree.specs.declared.input_rule.InputRule.{InputRule}
use Rattle.event_tree.specs.declared.settings.Settings.{Settings as SettingsOf}
use Rattle.kept_rows.specs.Failures.{HasLastFailures}
use Rattle.outside.specs.Counts.{IsAtEnd, Rose}
use Rattle.outside.specs.Folders.{FolderHistory, Listed}
use Rattle.outside.specs.Wires.{Outcome}
use Rattle.outside.specs.declared.history.Shown.{Shown}
use Rattle.prospect.specs.ListedFiles.{FindsNoNumbers}
use Rattle.prospect.specs.Members.{IsCovered}
use Rattle.report.specs.declared.status.Status.{Status}
use Rattle.report.specs.declared.status.Status.TheVariants.{Done, Stopped, Usage, Settings, RegistryBad, DiskFault, FolderFault, Unreachable, OutFault, SourceFault, TooMany, NoNative, NoMemory, Unbuilt}
use Rattle.run_steps.specs.AccountedFor.{AreMomentsSince}
use Rattle.run_steps.specs.Questions.{Questions, WasAskedFor}
use Rattle.run_steps.specs.Unnumbered.{WasOpenedUnnumbered}
use Rattle.run_steps.specs.Worked.{Tolls}
use Rattle.wire_base.specs.declared.limits.Full.TheVariants.{Epochs, Files, Slots}
use Rattle.beat_run.specs.Named.{IsNamed}

-- what shows of the objects that a run uses once its settings are known: what is known of folder, clock and wires, how often clock and bell
-- were asked, and counts of faults and of rings
pub record Signs : Type 0 where
  pub folder : Option FolderHistory
  pub moments : Option (List ℕ)
  pub questions : Questions
  pub wires : List Seen
  pub counts : Tolls

-- and of all that it is handed
pub record AllSigns : Type 0 where
  pub signs : Signs
  pub source_faults : ℕ
  pub sink_faults : ℕ

abbrev pub all_signs : Signs → ℕ → ℕ → AllSigns
all_signs signs source_faults sink_faults = record { signs = signs; source_faults = source_faults; sink_faults = sink_faults }

-- if no sink was used yet
abbrev pub without_sink : Signs → ℕ → AllSigns
without_sink signs source_faults = all_signs signs source_faults 0

-- one of the areas failed
abbrev pub HasAreaFailed : Tolls → Tolls → Type 0
HasAreaFailed before now = Rose before.a_faults now.a_faults ⊎ Rose before.b_faults now.b_faults

-- after these outcomes the wire's last ones are failures, as many as end a run, by these moments; or its count of faults is at its
-- end, from where on failures are not listed
pub record HasFailedSince (settings : SettingsOf) (moments : List ℕ) (earlier : List Outcome) (wire : Seen) : Type 0 where
  pub all : List Outcome
  pub tells : wire.outcomes ≡ Some all
  pub failures : IsAtEnd wire.faults ⊎ HasLastFailures settings.output.timeout settings.output.attempts moments (drop (length earlier) all)

-- the clock may have given a run in between these moments: the first it had given last, or appended, the others it appended, and it was
-- asked for each of them
pub record MayHaveGiven (before now : Signs) (moments : List ℕ) : Type 0 where
  pub since : AreMomentsSince before.moments now.moments moments
  pub asked : WasAskedFor before.questions.clock now.questions.clock moments

-- by such moments the wire at this place failed in this way, if its outcomes are known
pub record HasFailedBetween (settings : SettingsOf) (place : ℕ) (before now : Signs) : Type 0 where
  pub moments : List ℕ
  pub given : MayHaveGiven before now moments
  pub failed : (old new : Seen) → slice_get before.wires place ≡ Some old → slice_get now.wires place ≡ Some new →
      IfSome old.outcomes (λ earlier. HasFailedSince settings moments earlier new)

-- if the clock's moments are known
abbrev pub HasFailedAt : SettingsOf → ℕ → Signs → Signs → Type 0
HasFailedAt settings place before now = IsSome before.moments → IsSome now.moments → HasFailedBetween settings place before now

-- a worker of these settings, which failed as often in a row as they let it
pub record IsFailedWorker (settings : SettingsOf) (before now : Signs) (worker failures : ℕ) : Type 0 where
  pub number : failures ≡ settings.output.attempts
  pub worker_is : worker < settings.output.workers
  pub failed : HasFailedAt settings worker before now

-- a listing since showed a file of this path
pub record WasListed (path : List ℕ) (told : FolderHistory) (after : Option FolderHistory) : Type 0 where
  pub now : FolderHistory
  pub tells : after ≡ Some now
  pub root : List ℕ
  pub depth : ℕ
  pub shown : List Shown
  pub among : Contains (drop (length told.events) now.events) (Listed root depth shown)
  pub shows : Any (λ one. one.entry.path ≡ path) shown

-- a file of this path was opened since and had no native numbers, while an input that covers the path recognizes its files by these
pub record WasUnnumbered (inputs : List InputRule) (path : List ℕ) (told : FolderHistory) (after : Option FolderHistory) : Type 0 where
  pub now : FolderHistory
  pub tells : after ≡ Some now
  pub input : ℕ
  pub rule : InputRule
  pub rule_is : slice_get inputs input ≡ Some rule
  pub covered : IsCovered rule.paths path
  pub by_numbers : rule.file_identity ≡ Native
  pub opened : WasOpenedUnnumbered path told now

-- or the scan showed such a path without them
abbrev pub LacksNumbers : List InputRule → List ℕ → FolderHistory → Option FolderHistory → Type 0
LacksNumbers inputs path told after = FindsNoNumbers inputs told path after ⊎ WasUnnumbered inputs path told after

-- ---- once the settings are known

abbrev pub CauseBy : SettingsOf → Signs → Signs → Status → Type 0
CauseBy settings before now Done = Unit {0}
CauseBy settings before now Stopped = Rose before.counts.rings now.counts.rings
CauseBy settings before now Usage = ⊥
CauseBy settings before now (Settings fault) = ⊥
CauseBy settings before now (RegistryBad area at) = Unit {0}
CauseBy settings before now DiskFault = HasAreaFailed before.counts now.counts
CauseBy settings before now FolderFault = Rose before.counts.folder_faults now.counts.folder_faults
CauseBy settings before now (Unreachable worker failures) = IsFailedWorker settings before now worker failures
CauseBy settings before now OutFault = ⊥
CauseBy settings before now SourceFault = ⊥
CauseBy settings before now (TooMany Files path) = IfSome before.folder (λ told. WasListed path told now.folder)
CauseBy settings before now (TooMany Epochs path) = IfSome before.folder (λ told. WasListed path told now.folder)
CauseBy settings before now (TooMany Slots path) = ⊥
CauseBy settings before now (NoNative path) = IfSome before.folder (λ told. LacksNumbers settings.inputs path told now.folder)
CauseBy settings before now NoMemory = Unit {0}
CauseBy settings before now (Unbuilt what) = ⊥

-- ---- of a run

-- by the settings that its source spells
pub record HasCauseByNamed (source : Option (List ℕ)) (before now : Signs) (status : Status) : Type 0 where
  pub settings : SettingsOf
  pub named : IsNamed source settings
  pub by : CauseBy settings before now status

-- which arguments, settings and areas are refused, and what is done, is said by clauses of their own
abbrev pub Cause : Option (List ℕ) → AllSigns → AllSigns → Status → Type 0
Cause source before now Done = Unit {0}
Cause source before now Stopped = Rose before.signs.counts.rings now.signs.counts.rings
Cause source before now Usage = Unit {0}
Cause source before now (Settings fault) = Unit {0}
Cause source before now (RegistryBad area at) = Unit {0}
Cause source before now DiskFault = HasAreaFailed before.signs.counts now.signs.counts
Cause source before now FolderFault = Rose before.signs.counts.folder_faults now.signs.counts.folder_faults
Cause source before now (Unreachable worker failures) = HasCauseByNamed source before.signs now.signs (Unreachable worker failures)
Cause source before now OutFault = Rose before.sink_faults now.sink_faults
Cause source before now SourceFault = Rose before.source_faults now.source_faults
Cause source before now (TooMany what path) = HasCauseByNamed source before.signs now.signs (TooMany what path)
Cause source before now (NoNative path) = HasCauseByNamed source before.signs now.signs (NoNative path)
Cause source before now NoMemory = Unit {0}
Cause source before now (Unbuilt what) = Unit {0}
