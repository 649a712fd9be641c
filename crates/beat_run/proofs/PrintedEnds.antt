-- What is so of a run once its report or its status was printed.
use Rattle.std.proofs.Common.{◌≡◌, ◌⊎◌, inl, inr, ℕ, List, Ok, Option, Some, None, IfSome, ◌++◌, ◌∙◌, ap, refl, sym, subst}
use Rattle.std.proofs.lemmas.List.{append_cancel_left}
use Rattle.outside.specs.Counts.{Rose}
use Rattle.report.specs.Writing.{WritesAll}
use Rattle.report.specs.declared.status.Status.{Status}
use Rattle.report.specs.declared.status.Status.TheVariants.{Done, Stopped, Usage, Settings, RegistryBad, DiskFault, FolderFault, Unreachable, OutFault, SourceFault, TooMany, NoNative, NoMemory, Unbuilt}
use Rattle.rounds.specs.Words.{DiskWords}
use Rattle.beat_run.specs.Cause.{AllSigns, Cause, Signs, without_sink}
use Rattle.beat_run.specs.Ends.{IsBehindOpening, IsPrintingEnd, IsReportEnd, IsRunEnd}
use Rattle.beat_run.specs.Printed.{Prints, ReportsStored, StandsBehind}
use Rattle.told_scans.proofs.Members.{some_is}
use Rattle.beat_run.proofs.Causes.{caused_with_sink}

-- a status that is no fault of the sink is the one that was to be printed
same_status : (before now : ℕ) (ended status : Status) → (status ≡ OutFault → ⊥) → IsPrintingEnd before now ended status → status ≡ ended
same_status before now ended Done never ends = ends
same_status before now ended Stopped never ends = ends
same_status before now ended Usage never ends = ends
same_status before now ended (Settings fault) never ends = ends
same_status before now ended (RegistryBad area at) never ends = ends
same_status before now ended DiskFault never ends = ends
same_status before now ended FolderFault never ends = ends
same_status before now ended (Unreachable worker failures) never ends = ends
same_status before now ended OutFault never ends = absurd (never refl)
same_status before now ended SourceFault never ends = ends
same_status before now ended (TooMany full path) never ends = ends
same_status before now ended (NoNative path) never ends = ends
same_status before now ended NoMemory never ends = ends
same_status before now ended (Unbuilt what) never ends = ends

pub never_reported : (status : Status) → IsRunEnd status → IsReportEnd status → ⊥
never_reported Done run report = run
never_reported Stopped run report = run
never_reported Usage run report = report
never_reported (Settings fault) run report = report
never_reported (RegistryBad area at) run report = report
never_reported DiskFault run report = report
never_reported FolderFault run report = report
never_reported (Unreachable worker failures) run report = report
never_reported OutFault run report = report
never_reported SourceFault run report = report
never_reported (TooMany full path) run report = report
never_reported (NoNative path) run report = report
never_reported NoMemory run report = report
never_reported (Unbuilt what) run report = report

report_is_none : (status : Status) → IsReportEnd status → status ≡ OutFault → ⊥
report_is_none status report is = subst IsReportEnd is report

pub followed_before : (before now : ℕ) (ended status : Status) → IsPrintingEnd before now ended status → IsBehindOpening status → IsBehindOpening ended
followed_before before now ended status ends followed = subst IsBehindOpening (same_status before now ended status (λ out. subst IsBehindOpening out followed) ends) followed

pub report_stored : {D : Type 0} (disks : DiskWords D) (a b : D) (before now : ℕ) (ended status : Status) (report : List ℕ) (written after : Option (List ℕ)) → IsPrintingEnd before now ended status → IsReportEnd status →
    ReportsStored disks a b ended report → (status ≡ ended → WritesAll written report (Ok tt) after) → IfSome written (λ bytes. Prints (ReportsStored disks a b status) bytes after)
report_stored disks a b before now ended status report written after ends reports stored writes = by_sink written (writes same)
  where
    same : status ≡ ended
    same = same_status before now ended status (report_is_none status reports) ends

    by_sink : (old : Option (List ℕ)) → WritesAll old report (Ok tt) after → IfSome old (λ bytes. Prints (ReportsStored disks a b status) bytes after)
    by_sink None all = tt
    by_sink (Some bytes) all = record { text = report; is = subst (λ (s : Status). ReportsStored disks a b s report) (sym same) stored; held = all }

-- what stands behind what the sink held is the report
pub printed_behind : (report : List ℕ) (written after : Option (List ℕ)) → WritesAll written report (Ok tt) after → (text : List ℕ) → StandsBehind written after text → report ≡ text
printed_behind report None after writes text stands = absurd (let q : None ≡ Some stands.front = stands.held_before in cc)
printed_behind report (Some bytes) after writes text stands =
    let q : Some bytes ≡ Some stands.front = stands.held_before in
    let same : bytes ≡ stands.front = cc in
    let held : Some (bytes ++ report) ≡ Some (stands.front ++ text) = sym writes ∙ stands.held in
    let texts : bytes ++ report ≡ stands.front ++ text = some_is (bytes ++ report) (stands.front ++ text) held in
    append_cancel_left bytes report text (texts ∙ ap (λ (l : List ℕ). l ++ text) (sym same))

-- ---- its cause

module _ (source : Option (List ℕ)) (before now : Signs) (first last sink sink_now : ℕ) where
  abbrev all_before : AllSigns
  all_before = record { signs = before; source_faults = first; sink_faults = sink }

  abbrev all_now : AllSigns
  all_now = record { signs = now; source_faults = last; sink_faults = sink_now }

  -- where the sink failed it blames the sink, else what the run was blamed for
  pub report_caused : (ended status : Status) → IsReportEnd ended → IsPrintingEnd sink sink_now ended status → Cause source (without_sink before first) (without_sink now last) ended → Cause source all_before all_now status
  report_caused ended status report ends cause = by_case status ends
    where
      same : (s : Status) → s ≡ ended → Cause source all_before all_now s
      same s is = subst (Cause source all_before all_now) (sym is) (caused_with_sink source before now first last sink sink_now ended (inl report) cause)

      by_case : (s : Status) → IsPrintingEnd sink sink_now ended s → Cause source all_before all_now s
      by_case Done ends = same Done ends
      by_case Stopped ends = same Stopped ends
      by_case Usage ends = same Usage ends
      by_case (Settings fault) ends = same (Settings fault) ends
      by_case (RegistryBad area at) ends = same (RegistryBad area at) ends
      by_case DiskFault ends = same DiskFault ends
      by_case FolderFault ends = same FolderFault ends
      by_case (Unreachable worker failures) ends = same (Unreachable worker failures) ends
      by_case OutFault ends = ends
      by_case SourceFault ends = same SourceFault ends
      by_case (TooMany full path) ends = same (TooMany full path) ends
      by_case (NoNative path) ends = same (NoNative path) ends
      by_case NoMemory ends = same NoMemory ends
      by_case (Unbuilt what) ends = same (Unbuilt what) ends

  pub line_caused : (ended status : Status) → IsRunEnd ended → ((status ≡ ended) ⊎ ((status ≡ OutFault) × Rose sink sink_now)) → Cause source (without_sink before first) (without_sink now last) ended → Cause source all_before all_now status
  line_caused ended status ends (inl same) cause = subst (Cause source all_before all_now) (sym same) (caused_with_sink source before now first last sink sink_now ended (inr ends) cause)
  line_caused ended status ends (inr out) cause = subst (Cause source all_before all_now) (sym out.0) out.1
