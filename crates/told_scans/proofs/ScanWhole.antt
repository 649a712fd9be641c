-- A scan of which no listing failed and no asking is whole.
use Rattle.std.proofs.Common.{Contains, length, sym, ap, subst, ◌∙◌}
use Rattle.std.proofs.lemmas.List.{length-map}
use Rattle.std.specs.List.{AllByRecursion}
use Rattle.kept_rows.specs.Run.{Asking, Run, Scan}
use Rattle.kept_rows.specs.Scans.{IsGoodListing, IsWhole, WasAskedWell}
use Rattle.prospect.specs.PastFaults.{Answered, Faulted, Trial, glob_tried}
use Rattle.told_scans.proofs.Members.{each_member}
use Rattle.told_scans.proofs.ScanAsked.{was_asked_well}
use Rattle.told_scans.proofs.ScanList.{asked_there, at, listings_are, trial_of}
use Rattle.told_scans.proofs.ScanOf.{each_asked}
use Rattle.told_scans.proofs.Scanning.{as_many_listings, good_listings}
use Rattle.told_scans.proofs.TriedAskings.{IsAskingOf}
use Rattle.told_scans.proofs.WholeScans.{none_faulted}
use Rattle.told_scans.specs.ToldScan.{IsAround, IsTold, IsToldWithoutFault, RunAround, ToldScan, run_around, scan_by}

module _ (told : ToldScan) (whole : IsToldWithoutFault told) (around : RunAround) (on : IsAround told around) where
  abbrev run : Run
  run = run_around told around

  abbrev scan : Scan
  scan = scan_by told

  abbrev has : IsTold told
  has = whole.is

  pub asked_well : AllByRecursion (WasAskedWell run scan) scan.askings
  asked_well = each_member (WasAskedWell run scan) scan.askings (λ asking among. let of = trial_of told has around on asking among in by_trial asking of.trial of.among of.is)
    where
      by_trial : (asking : Asking) (trial : Trial) → Contains has.trials trial → IsAskingOf told.settings.inputs (length told.listed.events) told.scanned trial asking → WasAskedWell run scan asking
      by_trial asking (Answered of) there is = subst (WasAskedWell run scan) (sym is.0) (was_asked_well told has around on of (asked_there told has around on of there))
      by_trial asking (Faulted one) there is = absurd (none_faulted has.trials whole.none_faulted one there)

  pub is_whole : IsWhole run scan
  is_whole = record {
    not_cut_off = ap length (listings_are told has around on) ∙ as_many_listings has.attempts (length told.earlier.events)
        ∙ sym (length-map has.attempts glob_tried) ∙ ap length has.for_each_glob;
    none_failed = subst (AllByRecursion (IsGoodListing run.trace)) (sym (listings_are told has around on))
        (good_listings run.trace has.attempts (length told.earlier.events) whole.none_failed (at told has around on));
    each_asked = each_asked told has around on;
    none_faulty = asked_well;
  }
