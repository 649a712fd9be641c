-- A run that reads its files once is a run around its one scan: all listings are the scan's, and each opening that was made for a key is of one input.
use Rattle.std.proofs.Common.{◌≡◌, ◌≤◌, ℕ, true, List, [], ◌∷◌, ◌++◌, Contains, drop, length, map, append-nil, Some, sym, ap, subst, ◌∙◌, arith}
use Rattle.std.proofs.Math.Seq.{drop-append_seam}
use Rattle.std.specs.List.{AllByRecursion}
use Rattle.accounts.specs.ByScans.{IsByScans}
use Rattle.kept_rows.proofs.Showing.{both}
use Rattle.kept_rows.specs.Drained.{IsOfNoOther}
use Rattle.kept_rows.specs.Run.{Run, Scan}
use Rattle.kept_rows.specs.Scans.{AreScans, listings_from, listings_of}
use Rattle.kept_rows.specs.Trace.{WireTold}
use Rattle.outside.specs.Folders.{Event, FolderHistory}
use Rattle.prospect.specs.AskedFiles.{AskedFile}
use Rattle.told_scans.proofs.ScanAsked.{asked_so, of_its_input as of_its_input_here, of_no_asking as of_no_asking_here}
use Rattle.told_scans.proofs.ScanAskings.{asks_in_order}
use Rattle.told_scans.proofs.ScanList.{ended_events, later_events, listed_events, listed_globs, listings_are, only_asks}
use Rattle.told_scans.proofs.Scanning.{no_more_listings}
use Rattle.told_scans.specs.FolderOn.{FolderGoesOn}
use Rattle.told_scans.specs.OnlyAsked.{IsNoListing}
use Rattle.told_scans.specs.ToldScans.{AreToldFrom, NothingListed}
use Rattle.event_tree.specs.declared.settings.Settings.{Settings}
use Rattle.run_steps.specs.LaterScans.{LaterScan, told_in}
use Rattle.told_scans.specs.ToldScan.{IsAround, IsTold, IsToldWithoutFault, RunAround, ToldScan, opening_by}
use Rattle.told_scans.proofs.WholeScans.{answered_whole, answers_are, asks_so, files_answered, globs_served, listed_served, served_are, served_whole}
use Rattle.prospect.specs.PastFaults.{Answered, Served}
use Rattle.run_steps.specs.Began.{Began}
use Rattle.run_steps.specs.RunOf.{FolderTold, run_of, scan_of, told_scan}
use Rattle.run_steps.specs.Scanned.{HasScanned}
use Rattle.run_steps.specs.Shown.{HasDone}
use Rattle.run_steps.specs.SoFar.{SoFar, files_of}
use Rattle.run_steps.proofs.EarlierOn.{opened_once}
use Rattle.run_steps.proofs.NamedInputs.{inputs_have_own_ids}

abbrev pub goes_on_doing : (settings : Settings) (now later : FolderHistory) (so_far : SoFar) → HasDone settings now later (files_of so_far) → FolderGoesOn now later
goes_on_doing settings now later so_far done = record { files = done.files; more = done.more; events = done.events }

-- ---- the scan, and the run around it

abbrev pub told_so : {D : Type 0} (start : Began D) (folder : FolderTold) → HasScanned start folder → IsTold (told_scan start folder)
told_so start folder has = record {
  attempts = map Served has.scans.listings;
  for_each_glob = globs_served has.scans.listings ∙ has.scans.listed_is.one_for_each_glob;
  listed_is = listed_served start.settings.inputs folder.earlier has.all folder.listed has.scans;
  listings = has.scans.listings;
  served = served_are has.scans.listings;
  all = has.all;
  shown = has.scans.shown;
  keyed = has.keyed;
  trials = map Answered folder.asked;
  tried_are = files_answered folder.asked ∙ has.asked_are;
  answered = answers_are folder.asked;
  asks = asks_so start.settings.inputs folder.asked folder.listed folder.scanned has.asks;
  parts = has.parts;
}

-- it ends with the first fault
abbrev pub told_without_fault : {D : Type 0} (start : Began D) (folder : FolderTold) → HasScanned start folder → IsToldWithoutFault (told_scan start folder)
told_without_fault start folder has = record {
  is = told_so start folder has;
  none_failed = served_whole has.scans.listings;
  none_faulted = answered_whole folder.asked;
}

abbrev pub around_one : {D : Type 0} (start : Began D) (folder : FolderTold) (moments : List ℕ) (wires : List WireTold) → RunAround
around_one start folder moments wires = record {
  once = true;
  opening = start.opening;
  ended = folder.ended;
  began = length folder.earlier.events;
  open_tails = [];
  moments = moments;
  wires = wires;
  before = [];
  behind = [];
}

abbrev pub is_around : {D : Type 0} (start : Began D) (folder : FolderTold) (so_far : SoFar) → HasDone start.settings folder.scanned folder.ended (files_of (opened_once so_far)) → (wires : List WireTold) →
    IsAround (told_scan start folder) (around_one start folder so_far.moments wires)
is_around start folder so_far done wires = record { goes_on = goes_on_doing start.settings folder.scanned folder.ended (opened_once so_far) done; since = omega arith; until = λ place within. tt }

-- ---- what is known of it

module _ {D : Type 0} (start : Began D) (folder : FolderTold) (has : HasScanned start folder) (so_far : SoFar) (done : HasDone start.settings folder.scanned folder.ended (files_of (opened_once so_far)))
    (none : so_far.scans ≡ []) (wires : List WireTold) where
  abbrev run : Run
  run = run_of start folder so_far.moments wires

  abbrev scan : Scan
  scan = scan_of start folder

  abbrev told : ToldScan
  told = told_scan start folder

  abbrev is : IsTold told
  is = told_so start folder has

  abbrev around : RunAround
  around = around_one start folder so_far.moments wires

  abbrev on : IsAround told around
  on = is_around start folder so_far done wires

  abbrev began : ℕ
  began = length folder.earlier.events

  -- where it made no later scan, nothing was listed since
  nothing_listed : NothingListed folder.scanned folder.ended
  nothing_listed = subst (λ (scans : List LaterScan). AreToldFrom start.settings folder.scanned (told_in scans) folder.ended) none done.scans

  same_more : nothing_listed.more ≡ done.more
  same_more =
      sym (drop-append_seam folder.scanned.events nothing_listed.more)
      ∙ ap (drop (length folder.scanned.events)) (sym nothing_listed.events ∙ done.events)
      ∙ drop-append_seam folder.scanned.events done.more

  no_later_listing : AllByRecursion IsNoListing (later_events told is around on)
  no_later_listing = both IsNoListing (only_asks told is around on).more done.more (only_asks told is around on).no_listing
      (subst (AllByRecursion IsNoListing) same_more nothing_listed.no_listing)

  all_listings : listings_of run.trace ≡ listings_from began (listed_events told is around on)
  all_listings =
      ap (λ (l : List Event). listings_from began (drop began l)) (ended_events told is around on)
      ∙ ap (listings_from began) (drop-append_seam folder.earlier.events (listed_events told is around on ++ later_events told is around on))
      ∙ no_more_listings (listed_events told is around on) (later_events told is around on) began no_later_listing

  pub are_scans : (moment_there : (before : List ℕ) × (behind : List ℕ) × (so_far.moments ≡ before ++ start.moment ∷ behind)) → AreScans run
  are_scans there = record {
    together = append-nil scan.listings ∙ listings_are told is around on ∙ sym all_listings;
    by_globs = (listed_globs told is around on, tt);
    full = tt;
    moments = (there.0, there.1, there.2, tt);
  }

  pub is_by_scans : (moment_there : (before : List ℕ) × (behind : List ℕ) × (so_far.moments ≡ before ++ start.moment ∷ behind)) → IsByScans run
  is_by_scans there = record {
    scans = are_scans there;
    asked = tt;
    each = (record { asked_so = asked_so told is around on; asks_in_order = asks_in_order told is around on }, tt);
    own_ids = inputs_have_own_ids start.settings has.in_range;
  }

  -- ---- of no other input

  pub of_its_input : (of : AskedFile) → Contains folder.asked of → (opening : ℕ) → opening_by of.answer ≡ Some opening → IsOfNoOther run of.listed.input opening
  of_its_input of there opening at = (of_its_input_here told is around on of there opening at, tt)

  -- an opening behind the scan was made for no asking
  pub of_no_asking : (opening input : ℕ) → length folder.scanned.events ≤ opening → IsOfNoOther run input opening
  of_no_asking opening input behind = (of_no_asking_here told is around on opening input behind, tt)
