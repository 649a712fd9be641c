-- Why a run over its listed files ended as it did, by what it met; and how its areas are left.
use Rattle.std.proofs.Common.{◌≡◌, ◌⊎◌, inl, inr, ℕ, zero, suc, ◌<◌, ◌≤◌, List, [], ◌∷◌, length, Option, Some, None, IfSome, IsSome, refl, sym, ap, subst, ◌∙◌, arith, append-nil}
use Rattle.std.specs.Prelude.{slice_get}
use Rattle.event_tree.specs.declared.input_rule.InputRule.{InputRule}
use Rattle.event_tree.specs.declared.settings.Settings.{Settings as SettingsOf}
use Rattle.outside.specs.Folders.{Event, FolderHistory}
use Rattle.prospect.specs.ListedFiles.{FindsNoNumbers}
use Rattle.prospect.specs.declared.listed.Listed.{Listed}
use Rattle.registry_store.specs.Choice.{GivesRows, IsChoice}
use Rattle.registry_store.specs.Settled.{AreAtRest, AreSettled}
use Rattle.registry_store.specs.Standing.{Standing, chosen_by}
use Rattle.report.specs.declared.status.Status.{Status}
use Rattle.report.specs.declared.status.Status.TheVariants.{Done, Stopped, Usage, Settings, RegistryBad, DiskFault, FolderFault, Unreachable, OutFault, SourceFault, TooMany, NoNative, NoMemory, Unbuilt}
use Rattle.rounds.specs.Words.{DiskWords}
use Rattle.run_steps.specs.Met.{AreLeft, IsMetOf, IsTelling}
use Rattle.run_steps.specs.Unnumbered.{IsMetUnnumbered, IsUnnumbered}
use Rattle.run_steps.specs.Worked.{IsMetByRun, Tolls}
use Rattle.run_steps.specs.declared.met.Met.{Met}
use Rattle.run_steps.specs.declared.met.Met.TheVariants as met
use Rattle.run_steps.specs.declared.registry_error.RegistryError.{RegistryError}
use Rattle.run_steps.specs.declared.registry_error.RegistryError.TheVariants as registry
use Rattle.wire_base.specs.declared.limits.Full.{Full}
use Rattle.wire_base.specs.declared.limits.Full.TheVariants.{Epochs, Files, Slots}
use Rattle.wire_base.specs.declared.row.Row.{Row}
use Rattle.beat_run.specs.Cause.{AllSigns, Cause, CauseBy, HasAreaFailed, HasFailedAt, LacksNumbers, Signs, WasListed, without_sink}
use Rattle.beat_run.specs.Ended.{StandsForMet, StandsForRegistry}
use Rattle.beat_run.specs.Ends.{IsBehindOpening, IsBehindSettings, IsPreparingEnd, IsReportEnd, IsRunEnd, IsScanEnd, IsScannedEnd, ListsTooMany, ShowsScanEnd}
use Rattle.beat_run.specs.Named.{IsNamed}
use Rattle.beat_run.specs.Scanning.{ScansParted}
use Rattle.beat_run.proofs.PathsListed.{GoesFurther, was_listed, was_unnumbered}
use Rattle.run_steps.proofs.MetBy.{rose_since}

-- ---- the status

-- what is so of `NoMemory`, and of the path of each file, is so of the status that names a file's path
pub named_so : (listed : List Listed) (place : ℕ) (status : Status) (names : List ℕ → Status) (P : Status → Type 0) → place < length listed → (status ≡ NoMemory) ⊎ IfSome (slice_get listed place) (λ one. status ≡ names one.path) →
    P NoMemory → ((one : Listed) → slice_get listed place ≡ Some one → P (names one.path)) → P status
named_so listed place status names P within (inl memory) wanting each = subst P (sym memory) wanting
named_so listed place status names P within (inr full) wanting each = of_file (slice_get listed place) refl full
  where
    past : (xs : List Listed) (k : ℕ) → k < length xs → slice_get xs k ≡ None → ⊥
    past [] k inside none = omega (arith, inside)
    past (x ∷ xs) zero inside none = cc
    past (x ∷ xs) (suc k) inside none = past xs k (omega (arith, inside)) none

    of_file : (one : Option Listed) → slice_get listed place ≡ one → IfSome one (λ file. status ≡ names file.path) → P status
    of_file None none is = absurd (past listed place within none)
    of_file (Some file) some is = subst P (sym is) (each file some)

-- ---- its cause

-- a worker that was met failed as often in a row as it may
abbrev pub FailedIn : SettingsOf → Signs → Signs → Met → Type 0
FailedIn settings before now (met.Unreachable worker) = HasFailedAt settings worker before now
FailedIn settings before now _ = Unit {0}

module _ (settings : SettingsOf) (files doubled : List Listed) (before now : Signs) (scanned : Option FolderHistory) (faults : ℕ) (no_less : before.counts.folder_faults ≤ faults)
    (scans : IfSome before.folder (λ history. ScansParted settings.inputs history files doubled scanned)) (goes : IsSome before.folder → GoesFurther scanned now.folder) where
  listed_there : (history : Option FolderHistory) → (IsSome history → GoesFurther scanned now.folder) → IfSome history (λ one. ScansParted settings.inputs one files doubled scanned) → (place : ℕ) (one : Listed) → slice_get files place ≡ Some one →
      IfSome history (λ h. WasListed one.path h now.folder)
  listed_there None further by place one is = tt
  listed_there (Some history) further by place one is = was_listed settings.inputs history files doubled scanned now.folder by (further refl) place one is

  unnumbered_there : (history : Option FolderHistory) → (IsSome history → GoesFurther scanned now.folder) → IfSome history (λ one. ScansParted settings.inputs one files doubled scanned) → (place : ℕ) → IsUnnumbered settings files place scanned now.folder →
      (one : Listed) → slice_get files place ≡ Some one → IfSome history (λ h. LacksNumbers settings.inputs one.path h now.folder)
  unnumbered_there None further by place unnumbered one is = tt
  unnumbered_there (Some history) further by place unnumbered one is = inr (was_unnumbered settings.inputs history files doubled scanned now.folder by (further refl) place one is settings refl unnumbered)

  pub caused : (what : Met) (status : Status) → IsMetByRun settings.output.workers (length files) (record before.counts { folder_faults = faults }) now.counts what → IsMetUnnumbered settings files scanned now.folder what → FailedIn settings before now what →
      StandsForMet files settings.output.attempts what status → CauseBy settings before now status
  caused met.Done status by unnumbered failed stands = subst (CauseBy settings before now) (sym stands) tt
  caused met.Stopped status by unnumbered failed stands = subst (CauseBy settings before now) (sym stands) by
  caused met.NoMemory status by unnumbered failed stands = subst (CauseBy settings before now) (sym stands) tt
  caused met.DiskFault status by unnumbered failed stands = subst (CauseBy settings before now) (sym stands) by
  caused met.FolderFault status by unnumbered failed stands = subst (CauseBy settings before now) (sym stands) (rose_since before.counts.folder_faults faults now.counts.folder_faults no_less by)
  caused (met.Unreachable worker) status by unnumbered failed stands = subst (CauseBy settings before now) (sym stands) (record { number = refl; worker_is = by; failed = failed })
  caused (met.Epochs slot) status by unnumbered failed stands =
      named_so files slot.0 status (TooMany Epochs) (CauseBy settings before now) by stands tt (λ one is. listed_there before.folder goes scans slot.0 one is)
  caused (met.NoNative slot) status by unnumbered failed stands =
      named_so files slot.0 status NoNative (CauseBy settings before now) by stands tt (λ one is. unnumbered_there before.folder goes scans slot.0 unnumbered one is)

  pub caused_at_end : (what : Met) (status : Status) → IsMetByRun settings.output.workers (length files) (record before.counts { folder_faults = faults }) now.counts what → IsMetUnnumbered settings files scanned now.folder what → FailedIn settings before now what →
      (status ≡ NoMemory) ⊎ StandsForMet files settings.output.attempts what status → CauseBy settings before now status
  caused_at_end what status by unnumbered failed (inl memory) = subst (CauseBy settings before now) (sym memory) tt
  caused_at_end what status by unnumbered failed (inr stands) = caused what status by unnumbered failed stands

-- a slot that was met is one of the listed files
pub is_met_of : (workers files : ℕ) (before after : Tolls) (what : Met) → IsMetByRun workers files before after what → IsMetOf files what
is_met_of workers files before after met.Done by = tt
is_met_of workers files before after met.Stopped by = tt
is_met_of workers files before after met.NoMemory by = tt
is_met_of workers files before after met.DiskFault by = tt
is_met_of workers files before after met.FolderFault by = tt
is_met_of workers files before after (met.Unreachable worker) by = tt
is_met_of workers files before after (met.Epochs slot) by = by
is_met_of workers files before after (met.NoNative slot) by = by

-- ---- how it ended

module _ (listed : List Listed) (attempts : ℕ) where
  -- where no report is told
  pub scanned_end : (what : Met) (status : Status) → IsMetOf (length listed) what → (status ≡ NoMemory) ⊎ StandsForMet listed attempts what status → IsRunEnd status → IsScannedEnd status
  scanned_end what status of (inl memory) ends = subst IsScannedEnd (sym memory) tt
  scanned_end met.Done status of (inr stands) ends = absurd (subst IsRunEnd stands ends)
  scanned_end met.Stopped status of (inr stands) ends = absurd (subst IsRunEnd stands ends)
  scanned_end met.NoMemory status of (inr stands) ends = subst IsScannedEnd (sym stands) tt
  scanned_end met.DiskFault status of (inr stands) ends = subst IsScannedEnd (sym stands) tt
  scanned_end met.FolderFault status of (inr stands) ends = subst IsScannedEnd (sym stands) tt
  scanned_end (met.Unreachable worker) status of (inr stands) ends = subst IsScannedEnd (sym stands) tt
  scanned_end (met.Epochs slot) status of (inr stands) ends = named_so listed slot.0 status (TooMany Epochs) IsScannedEnd of stands tt (λ one is. tt)
  scanned_end (met.NoNative slot) status of (inr stands) ends = named_so listed slot.0 status NoNative IsScannedEnd of stands tt (λ one is. tt)

  -- a run that followed its files made the last steps
  pub left_by : (what : Met) (status : Status) → (status ≡ NoMemory) ⊎ StandsForMet listed attempts what status → IsBehindOpening status → AreLeft what
  left_by what status (inl memory) followed = absurd (subst IsBehindOpening memory followed)
  left_by met.Done status (inr stands) followed = tt
  left_by met.Stopped status (inr stands) followed = tt
  left_by met.NoMemory status (inr stands) followed = absurd (subst IsBehindOpening stands followed)
  left_by met.DiskFault status (inr stands) followed = absurd (subst IsBehindOpening stands followed)
  left_by met.FolderFault status (inr stands) followed = tt
  left_by (met.Unreachable worker) status (inr stands) followed = tt
  left_by (met.Epochs slot) status (inr stands) followed = tt
  left_by (met.NoNative slot) status (inr stands) followed = tt

pub left_telling : (what : Met) → IsTelling what → AreLeft what
left_telling met.Done telling = tt
left_telling met.Stopped telling = tt
left_telling met.NoMemory telling = absurd telling
left_telling met.DiskFault telling = absurd telling
left_telling met.FolderFault telling = absurd telling
left_telling (met.Unreachable worker) telling = absurd telling
left_telling (met.Epochs slot) telling = absurd telling
left_telling (met.NoNative slot) telling = absurd telling

-- ---- its areas

module _ {D : Type 0} (disks : DiskWords D) (a b : D) (store : Standing) (settled : AreSettled disks.contents disks.images a b (chosen_by store)) where
  pub at_rest : AreAtRest disks.contents disks.images a b
  at_rest = record {
    a_told = subst (λ (o : Option (List ℕ)). IsSome o) (sym settled.a_holds) refl;
    b_told = subst (λ (o : Option (List ℕ)). IsSome o) (sym settled.b_holds) refl;
    a_settled = settled.a_settled;
    b_settled = settled.b_settled;
  }

  pub gives_its_rows : (first second : List ℕ) → disks.contents a ≡ Some first → disks.contents b ≡ Some second → GivesRows first second store.rows
  gives_its_rows first second a_is b_is =
      let same_first : settled.first ≡ first = let q : Some settled.first ≡ Some first = sym settled.a_holds ∙ a_is in cc in
      let same_second : settled.second ≡ second = let q : Some settled.second ≡ Some second = sym settled.b_holds ∙ b_is in cc in
      record {
        choice = chosen_by store;
        chosen = subst (λ (l : List ℕ). IsChoice first l (chosen_by store)) same_second (subst (λ (l : List ℕ). IsChoice l settled.second (chosen_by store)) same_first settled.chosen);
        given = refl;
      }

-- ---- a scan that told no files

-- the folder did nothing more behind it
stays_so : (shown : Option FolderHistory) → GoesFurther shown shown
stays_so shown = record { more = λ history is. ([], is ∙ ap (λ (l : List Event). Some (record { files = history.files; events = l })) (sym (append-nil history.events))) }

path_was_listed : (inputs : List InputRule) (rows : List Row) (what : Full) (path : List ℕ) (told : FolderHistory) (after : Option FolderHistory) → ListsTooMany inputs told rows what path after → WasListed path told after
path_was_listed inputs rows what path told after lists =
    subst (λ (p : List ℕ). WasListed p told after) (sym lists.first.path_is)
    (was_listed inputs told lists.files lists.doubled after after lists.scans (stays_so after) lists.first.place lists.first.one lists.first.listed_there)

path_listed : (inputs : List InputRule) (rows : List Row) (what : Full) (path : List ℕ) (told after : Option FolderHistory) → IfSome told (λ history. ListsTooMany inputs history rows what path after) →
    IfSome told (λ history. WasListed path history after)
path_listed inputs rows what path None after lists = tt
path_listed inputs rows what path (Some history) after lists = path_was_listed inputs rows what path history after lists

pub scan_caused : (settings : SettingsOf) (rows : List Row) (before now : Signs) (status : Status) → IsScanEnd before.counts.folder_faults now.counts.folder_faults status →
    IfSome before.folder (λ history. ShowsScanEnd settings.inputs history rows now.folder status) → CauseBy settings before now status
scan_caused settings rows before now Done ends shows = absurd ends
scan_caused settings rows before now Stopped ends shows = absurd ends
scan_caused settings rows before now Usage ends shows = absurd ends
scan_caused settings rows before now (Settings fault) ends shows = absurd ends
scan_caused settings rows before now (RegistryBad area at) ends shows = absurd ends
scan_caused settings rows before now DiskFault ends shows = absurd ends
scan_caused settings rows before now FolderFault ends shows = ends
scan_caused settings rows before now (Unreachable worker failures) ends shows = absurd ends
scan_caused settings rows before now OutFault ends shows = absurd ends
scan_caused settings rows before now SourceFault ends shows = absurd ends
scan_caused settings rows before now (TooMany Files path) ends shows = path_listed settings.inputs rows Files path before.folder now.folder shows
scan_caused settings rows before now (TooMany Epochs path) ends shows = path_listed settings.inputs rows Epochs path before.folder now.folder shows
scan_caused settings rows before now (TooMany Slots path) ends shows = absurd ends
scan_caused settings rows before now (NoNative path) ends shows = each_finds before.folder shows
  where
    each_finds : (told : Option FolderHistory) → IfSome told (λ history. FindsNoNumbers settings.inputs history path now.folder) → IfSome told (λ history. LacksNumbers settings.inputs path history now.folder)
    each_finds None finds = tt
    each_finds (Some history) finds = inl finds
scan_caused settings rows before now NoMemory ends shows = tt
scan_caused settings rows before now (Unbuilt what) ends shows = absurd ends

pub scan_ended : (before now : ℕ) (status : Status) → IsScanEnd before now status → IsScannedEnd status
scan_ended before now Done ends = absurd ends
scan_ended before now Stopped ends = absurd ends
scan_ended before now Usage ends = absurd ends
scan_ended before now (Settings fault) ends = absurd ends
scan_ended before now (RegistryBad area at) ends = absurd ends
scan_ended before now DiskFault ends = absurd ends
scan_ended before now FolderFault ends = tt
scan_ended before now (Unreachable worker failures) ends = absurd ends
scan_ended before now OutFault ends = absurd ends
scan_ended before now SourceFault ends = absurd ends
scan_ended before now (TooMany Files path) ends = tt
scan_ended before now (TooMany Epochs path) ends = tt
scan_ended before now (TooMany Slots path) ends = absurd ends
scan_ended before now (NoNative path) ends = tt
scan_ended before now NoMemory ends = tt
scan_ended before now (Unbuilt what) ends = absurd ends

-- a scan or what comes behind it ends no run with a report
pub ends_without_report : (status : Status) → IsScannedEnd status → IsRunEnd status
ends_without_report Done ends = absurd ends
ends_without_report Stopped ends = absurd ends
ends_without_report Usage ends = absurd ends
ends_without_report (Settings fault) ends = absurd ends
ends_without_report (RegistryBad area at) ends = absurd ends
ends_without_report DiskFault ends = tt
ends_without_report FolderFault ends = tt
ends_without_report (Unreachable worker failures) ends = tt
ends_without_report OutFault ends = absurd ends
ends_without_report SourceFault ends = absurd ends
ends_without_report (TooMany full path) ends = tt
ends_without_report (NoNative path) ends = tt
ends_without_report NoMemory ends = tt
ends_without_report (Unbuilt what) ends = absurd ends

-- ---- the registry

pub registry_caused : (settings : SettingsOf) (before now : Signs) (error : RegistryError) (status : Status) → StandsForRegistry error status → (error ≡ registry.DiskFault → HasAreaFailed before.counts now.counts) → CauseBy settings before now status
registry_caused settings before now (registry.Bad area at) status stands failed = subst (CauseBy settings before now) (sym stands) tt
registry_caused settings before now registry.DiskFault status stands failed = subst (CauseBy settings before now) (sym stands) (failed refl)
registry_caused settings before now registry.NoMemory status stands failed = subst (CauseBy settings before now) (sym stands) tt

pub registry_ended : (error : RegistryError) (status : Status) → StandsForRegistry error status → IsRunEnd status
registry_ended (registry.Bad area at) status stands = subst IsRunEnd (sym stands) tt
registry_ended registry.DiskFault status stands = subst IsRunEnd (sym stands) tt
registry_ended registry.NoMemory status stands = subst IsRunEnd (sym stands) tt

pub registry_not_followed : (error : RegistryError) (status : Status) → StandsForRegistry error status → IsBehindOpening status → ⊥
registry_not_followed (registry.Bad area at) status stands followed = subst IsBehindOpening stands followed
registry_not_followed registry.DiskFault status stands followed = subst IsBehindOpening stands followed
registry_not_followed registry.NoMemory status stands followed = subst IsBehindOpening stands followed

-- a cause of what came behind the registry's opening is one of all since before it
module _ (settings : SettingsOf) (before now : Signs) (a_faults b_faults : ℕ) (a_no_less : before.counts.a_faults ≤ a_faults) (b_no_less : before.counts.b_faults ≤ b_faults) where
  abbrev mid : Signs
  mid = record before { counts = record before.counts { a_faults = a_faults; b_faults = b_faults } }

  failed_earlier : HasAreaFailed mid.counts now.counts → HasAreaFailed before.counts now.counts
  failed_earlier (inl rose) = inl (rose_since before.counts.a_faults a_faults now.counts.a_faults a_no_less rose)
  failed_earlier (inr rose) = inr (rose_since before.counts.b_faults b_faults now.counts.b_faults b_no_less rose)

  failed_as_before : (worker : ℕ) → HasFailedAt settings worker mid now → HasFailedAt settings worker before now
  failed_as_before worker failed told tells =
      let by = failed told tells in
      record { moments = by.moments; given = record { since = by.given.since; asked = by.given.asked }; failed = by.failed }

  pub caused_earlier : (status : Status) → CauseBy settings mid now status → CauseBy settings before now status
  caused_earlier Done cause = tt
  caused_earlier Stopped cause = cause
  caused_earlier Usage cause = absurd cause
  caused_earlier (Settings fault) cause = absurd cause
  caused_earlier (RegistryBad area at) cause = tt
  caused_earlier DiskFault cause = failed_earlier cause
  caused_earlier FolderFault cause = cause
  caused_earlier (Unreachable worker failures) cause = record { number = cause.number; worker_is = cause.worker_is; failed = failed_as_before worker cause.failed }
  caused_earlier OutFault cause = absurd cause
  caused_earlier SourceFault cause = absurd cause
  caused_earlier (TooMany Files path) cause = cause
  caused_earlier (TooMany Epochs path) cause = cause
  caused_earlier (TooMany Slots path) cause = absurd cause
  caused_earlier (NoNative path) cause = cause
  caused_earlier NoMemory cause = tt
  caused_earlier (Unbuilt what) cause = absurd cause

-- ---- arguments and settings

pub prepare_caused : (source : Option (List ℕ)) (signs : Signs) (before now : ℕ) (status : Status) → IsPreparingEnd before now status → Cause source (without_sink signs before) (without_sink signs now) status
prepare_caused source signs before now Done ends = absurd ends
prepare_caused source signs before now Stopped ends = absurd ends
prepare_caused source signs before now Usage ends = tt
prepare_caused source signs before now (Settings fault) ends = tt
prepare_caused source signs before now (RegistryBad area at) ends = absurd ends
prepare_caused source signs before now DiskFault ends = absurd ends
prepare_caused source signs before now FolderFault ends = absurd ends
prepare_caused source signs before now (Unreachable worker failures) ends = absurd ends
prepare_caused source signs before now OutFault ends = absurd ends
prepare_caused source signs before now SourceFault ends = ends
prepare_caused source signs before now (TooMany full path) ends = absurd ends
prepare_caused source signs before now (NoNative path) ends = absurd ends
prepare_caused source signs before now NoMemory ends = tt
prepare_caused source signs before now (Unbuilt what) ends = tt

pub prepare_ended : (before now : ℕ) (status : Status) → IsPreparingEnd before now status → IsRunEnd status
prepare_ended before now Done ends = absurd ends
prepare_ended before now Stopped ends = absurd ends
prepare_ended before now Usage ends = tt
prepare_ended before now (Settings fault) ends = tt
prepare_ended before now (RegistryBad area at) ends = absurd ends
prepare_ended before now DiskFault ends = absurd ends
prepare_ended before now FolderFault ends = absurd ends
prepare_ended before now (Unreachable worker failures) ends = absurd ends
prepare_ended before now OutFault ends = absurd ends
prepare_ended before now SourceFault ends = tt
prepare_ended before now (TooMany full path) ends = absurd ends
prepare_ended before now (NoNative path) ends = absurd ends
prepare_ended before now NoMemory ends = tt
prepare_ended before now (Unbuilt what) ends = tt

pub prepare_not_followed : (before now : ℕ) (status : Status) → IsPreparingEnd before now status → IsBehindOpening status → ⊥
prepare_not_followed before now Done ends followed = ends
prepare_not_followed before now Stopped ends followed = ends
prepare_not_followed before now FolderFault ends followed = ends
prepare_not_followed before now (Unreachable worker failures) ends followed = ends
prepare_not_followed before now (TooMany full path) ends followed = ends
prepare_not_followed before now Usage ends followed = followed
prepare_not_followed before now (Settings fault) ends followed = followed
prepare_not_followed before now (RegistryBad area at) ends followed = followed
prepare_not_followed before now DiskFault ends followed = followed
prepare_not_followed before now OutFault ends followed = followed
prepare_not_followed before now SourceFault ends followed = followed
prepare_not_followed before now (NoNative path) ends followed = ends
prepare_not_followed before now NoMemory ends followed = followed
prepare_not_followed before now (Unbuilt what) ends followed = followed

pub prepare_not_named : (before now : ℕ) (status : Status) → IsPreparingEnd before now status → IsBehindSettings status → ⊥
prepare_not_named before now Done ends behind = ends
prepare_not_named before now Stopped ends behind = ends
prepare_not_named before now Usage ends behind = behind
prepare_not_named before now (Settings fault) ends behind = behind
prepare_not_named before now (RegistryBad area at) ends behind = ends
prepare_not_named before now DiskFault ends behind = ends
prepare_not_named before now FolderFault ends behind = ends
prepare_not_named before now (Unreachable worker failures) ends behind = ends
prepare_not_named before now OutFault ends behind = behind
prepare_not_named before now SourceFault ends behind = behind
prepare_not_named before now (TooMany full path) ends behind = ends
prepare_not_named before now (NoNative path) ends behind = ends
prepare_not_named before now NoMemory ends behind = behind
prepare_not_named before now (Unbuilt what) ends behind = behind

-- what is caused once the settings are known is so by those that the source names
pub caused_by_named : (source : Option (List ℕ)) (settings : SettingsOf) (before now : Signs) (first last : ℕ) (status : Status) → IsNamed source settings → CauseBy settings before now status → Cause source (without_sink before first) (without_sink now last) status
caused_by_named source settings before now first last Done named cause = tt
caused_by_named source settings before now first last Stopped named cause = cause
caused_by_named source settings before now first last Usage named cause = tt
caused_by_named source settings before now first last (Settings fault) named cause = tt
caused_by_named source settings before now first last (RegistryBad area at) named cause = tt
caused_by_named source settings before now first last DiskFault named cause = cause
caused_by_named source settings before now first last FolderFault named cause = cause
caused_by_named source settings before now first last (Unreachable worker failures) named cause = record { settings = settings; named = named; by = cause }
caused_by_named source settings before now first last OutFault named cause = absurd cause
caused_by_named source settings before now first last SourceFault named cause = absurd cause
caused_by_named source settings before now first last (TooMany full path) named cause = record { settings = settings; named = named; by = cause }
caused_by_named source settings before now first last (NoNative path) named cause = record { settings = settings; named = named; by = cause }
caused_by_named source settings before now first last NoMemory named cause = tt
caused_by_named source settings before now first last (Unbuilt what) named cause = tt

-- ---- what is printed

-- by what the sink counted, too
module _ (source : Option (List ℕ)) (before now : Signs) (first last sink sink_now : ℕ) where
  abbrev all_before : AllSigns
  all_before = record { signs = before; source_faults = first; sink_faults = sink }

  abbrev all_now : AllSigns
  all_now = record { signs = now; source_faults = last; sink_faults = sink_now }

  pub caused_with_sink : (status : Status) → IsReportEnd status ⊎ IsRunEnd status → Cause source (without_sink before first) (without_sink now last) status → Cause source all_before all_now status
  caused_with_sink Done ends cause = tt
  caused_with_sink Stopped ends cause = cause
  caused_with_sink Usage ends cause = tt
  caused_with_sink (Settings fault) ends cause = tt
  caused_with_sink (RegistryBad area at) ends cause = tt
  caused_with_sink DiskFault ends cause = cause
  caused_with_sink FolderFault ends cause = cause
  caused_with_sink (Unreachable worker failures) ends cause = cause
  caused_with_sink OutFault (inl ends) cause = absurd ends
  caused_with_sink OutFault (inr ends) cause = absurd ends
  caused_with_sink SourceFault ends cause = cause
  caused_with_sink (TooMany full path) ends cause = cause
  caused_with_sink (NoNative path) ends cause = cause
  caused_with_sink NoMemory ends cause = tt
  caused_with_sink (Unbuilt what) ends cause = tt
