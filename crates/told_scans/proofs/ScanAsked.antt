-- The askings of a run's scan: each was made by its entry alone, or by a tail that told one whole asking and was closed without a fault, or nothing had
-- the path, or opening or reading the file failed; each opening was made for one file, behind all listings.
use Rattle.std.proofs.Common.{◌≡◌, inl, inr, ℕ, ◌≤◌, List, Contains, length, Option, Some, None, refl, sym, ap, subst, arith}
use Rattle.std.specs.Prelude.{option_map}
use Rattle.std.specs.List.{AllByRecursion}
use Rattle.event_tree.specs.declared.input_rule.InputRule.{InputRule}
use Rattle.kept_rows.specs.Run.{Asking, Run, Scan}
use Rattle.kept_rows.specs.Scans.{AsksFor, GaveByTail, IsAskedIn, IsMadeFor, MetFault, MetNoFault, ShowsEntry, WasAskedInVain, WasAskedSo, WasAskedWell}
use Rattle.kept_rows.specs.Trace.{Closing, IsTail, WasGone, first_of_two, open_looks_in}
use Rattle.outside.specs.declared.history.Shown.{Shown}
use Rattle.prospect.specs.AskedFiles.{Answer, AskedFile, ByName, Gave, NotFound, TooFew}
use Rattle.prospect.specs.PastFaults.{Answered, Faulted, Trial}
use Rattle.prospect.specs.declared.listed.Listed.{Listed}
use Rattle.told_scans.proofs.AskedEvents.{AnswerStands, HasAsked, HasMissed, IsOpenedIn}
use Rattle.told_scans.proofs.ScanAskings.{no_fingerprint, not_both}
use Rattle.told_scans.proofs.ScanList.{answered, answered_there, asked_apart, asked_there, asking_for, asking_placed, is_before, run_goes_on, since_began, trial_of}
use Rattle.told_scans.proofs.Members.{each_member}
use Rattle.told_scans.proofs.TriedAskings.{HasFailed, IsAskingOf, failed_still, one_of_opening}
use Rattle.told_scans.specs.ToldScan.{IsAround, IsTold, RunAround, ToldScan, asking_of, opening_by, run_around, scan_by}

module _ (told : ToldScan) (has : IsTold told) (around : RunAround) (on : IsAround told around) where
  abbrev run : Run
  run = run_around told around

  abbrev scan : Scan
  scan = scan_by told

  abbrev inputs : List InputRule
  inputs = told.settings.inputs

  -- an opening behind the listings is of this run
  pub in_this_run : (opening : ℕ) → length told.listed.events ≤ opening → around.began ≤ opening
  in_this_run opening since = let began = since_began told has around on in omega (arith, began, on.since, since)

  -- ---- the tail that was asked

  module _ (rule : InputRule) (one : Listed) (opening : ℕ) (since : length told.listed.events ≤ opening) where
    pub asked_tail : (key : Option (List ℕ)) (asked : HasAsked rule one opening key around.ended) → IsTail run.trace opening one.path asked.number asked.looks
    asked_tail key asked = record {
      in_this_run = in_this_run opening since;
      begun = asked.begun;
      opened = asked.is;
      tells = ap (λ (o : Option Closing). first_of_two (option_map (λ (c : Closing). c.looks) o) (open_looks_in opening around.open_tails)) asked.closing;
    }

    -- it gave this key, or none
    pub gave_by_tail : (key : Option (List ℕ)) (asked : HasAsked rule one opening key around.ended) → GaveByTail run.trace rule one.path opening key asked.number
    gave_by_tail key asked = record {
      looks = asked.looks;
      file = asked.file;
      tail = asked_tail key asked;
      closed = asked.closing;
      file_is = asked.file_is;
      asking = asked.asking;
      gave = asked.gave;
    }

    was_asked : (key : Option (List ℕ)) → HasAsked rule one opening key around.ended → MetNoFault run.trace rule.file_identity one.path (Some opening)
    was_asked key asked = (
      not_both rule.file_identity asked.by_bytes,
      inl (record { number = asked.number; looks = asked.looks; tail = asked_tail key asked; asking = asked.asking; closed = asked.closing }),
    )

    was_gone : HasMissed rule one opening around.ended → WasGone run.trace opening one.path
    was_gone missed = record { in_this_run = in_this_run opening since; not_there = missed.is }

  -- ---- each asking met no fault

  met_no_fault : (rule : InputRule) (one : Listed) (answer : Answer) → AnswerStands rule one answer around.ended → IsOpenedIn (length told.listed.events) around.ended answer →
      MetNoFault run.trace rule.file_identity one.path (opening_by answer)
  met_no_fault rule one ByName stands placed = no_fingerprint rule.file_identity stands
  met_no_fault rule one (Gave opening key) stands placed = was_asked rule one opening (placed opening refl).0 (Some key) stands
  met_no_fault rule one (TooFew opening) stands placed = was_asked rule one opening (placed opening refl).0 None stands
  met_no_fault rule one (NotFound opening) stands placed = (not_both rule.file_identity stands.by_bytes, inr (was_gone rule one opening (placed opening refl).0 stands))

  -- all listings stand before its opening
  module _ (asking : Asking) (there : Contains told.askings asking) where
    made_for : (opening : ℕ) → asking.opening ≡ Some opening → IsMadeFor run scan opening
    made_for opening at =
        let placed = asking_placed told has around on asking there opening at in
        record { before = around.before; behind = around.behind; scans_are = refl; since = is_before told has around on opening placed.0; until = on.until opening placed.1 }

    pub asked_in : IsAskedIn run scan asking.opening
    asked_in = by_opening asking.opening made_for
      where
        by_opening : (o : Option ℕ) → ((opening : ℕ) → o ≡ Some opening → IsMadeFor run scan opening) → IsAskedIn run scan o
        by_opening None made = tt
        by_opening (Some opening) made = made opening refl

    -- it asked for the key of an entry with its path, for its input
    pub asks_by : (shown : Shown) (input : ℕ) → ShowsEntry run.trace scan shown → asking.input ≡ input → asking.path ≡ shown.entry.path → AsksFor run scan shown input asking
    asks_by shown input entry input_is path_is = record { entry = entry; asked_in = asked_in; of_scan = there; input_is = input_is; path_is = path_is }

    -- opening the file failed, or reading it did
    pub was_asked_in_vain : (one : Listed) → IsAskingOf inputs (length told.listed.events) told.scanned (Faulted one) asking → WasAskedInVain run scan asking
    was_asked_in_vain one is =
        let at : asking.opening ≡ Some is.opening = ap (λ (a : Asking). a.opening) is.asking_is in
        record {
          opening = is.opening;
          opening_is = at;
          asked_in = made_for is.opening at;
          failed = subst (λ (path : List ℕ). MetFault run.trace path is.opening) (sym (ap (λ (a : Asking). a.path) is.asking_is))
              (met_fault (failed_still one.path is.opening told.scanned around.ended (run_goes_on told has around on) is.fails));
        }
      where
        met_fault : HasFailed one.path is.opening around.ended → MetFault run.trace one.path is.opening
        met_fault (inl failed) = inl failed
        met_fault (inr read) = inr (record {
          number = read.number;
          begun = read.begun;
          opened = read.is;
          looks = read.looks;
          faults = read.faults;
          some = read.some;
          closing = read.closing;
        })

  module _ (of : AskedFile) (there : Contains told.asked of) where
    pub asking_there : Contains told.askings (asking_of of)
    asking_there =
        let its = asking_for told has around on (Answered of) (answered_there told has around on of there) in
        subst (λ (a : Asking). Contains told.askings a) its.is.0 its.among

    pub was_asked_well : WasAskedWell run scan (asking_of of)
    was_asked_well =
        let its = answered told has around on of there in
        record { asked_in = asked_in (asking_of of) asking_there; rule = its.rule; rule_is = its.rule_is; well = met_no_fault its.rule of.listed of.answer its.stands its.placed }

    pub asks_for : (shown : Shown) (input : ℕ) → ShowsEntry run.trace scan shown → of.listed.input ≡ input → of.listed.path ≡ shown.entry.path → AsksFor run scan shown input (asking_of of)
    asks_for = asks_by (asking_of of) asking_there

    -- ---- of no other input

    -- its opening was made for its input alone
    pub of_its_input : (opening : ℕ) → opening_by of.answer ≡ Some opening → AllByRecursion (λ (asking : Asking). asking.opening ≡ Some opening → asking.input ≡ of.listed.input) scan.askings
    of_its_input opening at =
        each_member (λ (asking : Asking). asking.opening ≡ Some opening → asking.input ≡ of.listed.input) scan.askings (λ asking among is.
        ap (λ (a : Asking). a.input) (one_of_opening told.askings asking (asking_of of) opening (asked_apart told has around on) among asking_there is at))

  -- each met no fault, or it was made in vain
  pub asked_so : AllByRecursion (WasAskedSo run scan) scan.askings
  asked_so = each_member (WasAskedSo run scan) scan.askings (λ asking among. let of = trial_of told has around on asking among in by_trial asking among of.trial of.among of.is)
    where
      by_trial : (asking : Asking) → Contains told.askings asking → (trial : Trial) → Contains has.trials trial →
          IsAskingOf inputs (length told.listed.events) told.scanned trial asking → WasAskedSo run scan asking
      by_trial asking among (Answered of) there is = inl (subst (WasAskedWell run scan) (sym is.0) (was_asked_well of (asked_there told has around on of there)))
      by_trial asking among (Faulted one) there is = inr (was_asked_in_vain asking among one is)

  -- an opening behind the scan was made for no asking
  pub of_no_asking : (opening input : ℕ) → length told.scanned.events ≤ opening → AllByRecursion (λ (asking : Asking). asking.opening ≡ Some opening → asking.input ≡ input) scan.askings
  of_no_asking opening input behind =
      each_member (λ (asking : Asking). asking.opening ≡ Some opening → asking.input ≡ input) scan.askings (λ asking among is.
      let placed = asking_placed told has around on asking among opening is in
      let within = placed.1 in
      absurd (omega (arith, within, behind)))
