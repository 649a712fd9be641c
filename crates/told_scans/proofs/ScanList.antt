-- The folder's list of a run: its listings stand first, one for each glob, then what asking the listed files for their keys did, and behind the scan
-- what the run did with the files.
use Rattle.std.proofs.Common.{◌≡◌, ◌⊎◌, inl, inr, ⊎_elim, ℕ, ◌+◌, ◌≤◌, ◌<◌, Any, List, [], ◌∷◌, ◌++◌, Contains, drop, length, map, append_assoc, length-append, Some, sym, ap, subst, ◌∙◌, arith}
use Rattle.std.proofs.Math.Seq.{drop-append_seam}
use Rattle.std.proofs.lemmas.Bool.{cases_lt}
use Rattle.std.proofs.lemmas.List.Elements.{Contains-append_cases, Contains-append_left, Contains-append_right}
use Rattle.std.specs.Prelude.{flat_map, slice_get}
use Rattle.std.specs.List.{AllByRecursion}
use Rattle.event_tree.specs.declared.input_rule.InputRule.{InputRule}
use Rattle.kept_rows.specs.Run.{Asking, Run, Scan}
use Rattle.kept_rows.specs.Scans.{AreDistinct, IsBefore, ListGlobs, ShowsEntry, globs_in, listings_from}
use Rattle.outside.specs.Folders.{Event, FolderHistory, Opened as OpenedAs}
use Rattle.outside.specs.declared.history.Shown.{Shown}
use Rattle.outside.specs.declared.history.Sight.{Sight}
use Rattle.prospect.proofs.Doubled.{double_is_listed, file_is_listed, listed_is_either}
use Rattle.prospect.specs.AskedFiles.{AskedFile, keyed_by}
use Rattle.prospect.specs.ListedFiles.{AreApart, AreInOrder, AreOfShown, IsListedBy, shown_in}
use Rattle.prospect.specs.PastFaults.{Answered, Faulted, Trial, answered_in as answers_in, file_tried}
use Rattle.prospect.specs.Scan.{Listing}
use Rattle.prospect.specs.declared.listed.Listed.{Listed}
use Rattle.ship_core.proofs.Members.{first_there, later_there, none_there, there_cases}
use Rattle.told_scans.specs.FolderOn.{FolderGoesOn}
use Rattle.told_scans.specs.OnlyAsked.{HasOnlyAsked, WasOnlyAsked}
use Rattle.told_scans.proofs.AskedEvents.{IsAnsweredIn, all_tried, answered_still, each_answered, event_was, goes_on_asking, goes_on_further, longer, only_asked_still}
use Rattle.told_scans.proofs.KeyedFiles.{IsKeyedFrom, apart_answered, in_order_answered, keeps_entry, keyed_from, keyed_there, listed_of}
use Rattle.told_scans.proofs.Scanning.{are_at, list_globs, listings_before, no_opening, shown_by, shows_at}
use Rattle.told_scans.specs.Partial.{AreAt}
use Rattle.told_scans.proofs.Members.{each_of, mapped_there, member_is, of_map}
use Rattle.told_scans.proofs.TriedAskings.{AreAskingsOf, IsAskingOf, IsPlacedIn, all_placed, asked_at, each_asking, openings_distinct, openings_in}
use Rattle.told_scans.specs.ToldScan.{IsAround, IsTold, RunAround, ToldScan, event_tried, run_around, scan_by}

-- ---- from the entry of which a listed file is

-- this entry showed it
pub record IsOfShown (inputs : List InputRule) (listings : List Listing) (one : Listed) : Type 0 where
  pub shown : Shown
  pub among : Contains (shown_in listings) shown
  pub by : IsListedBy inputs one shown

each_of_shown : (inputs : List InputRule) (listings : List Listing) (listed : List Listed) → AreOfShown inputs listings listed → AllByRecursion (IsOfShown inputs listings) listed
each_of_shown inputs listings listed only = of_any listed (each_of (λ (one : Listed). Any (λ shown. IsListedBy inputs one shown) (shown_in listings)) listed only)
  where
    of_any : (some : List Listed) → AllByRecursion (λ (one : Listed). Any (λ shown. IsListedBy inputs one shown) (shown_in listings)) some → AllByRecursion (IsOfShown inputs listings) some
    of_any [] each = tt
    of_any (one ∷ some) each = (
      record { shown = each.0.1; among = (each.0.0, each.0.2, each.0.3); by = each.0.4 },
      of_any some each.1,
    )

-- and it was asked for its key so
pub record IsOfEntry (inputs : List InputRule) (listings : List Listing) (asked : List AskedFile) (one : Listed) : Type 0 where
  pub of : AskedFile
  pub of_asked : Contains asked of
  pub kept : Contains (keyed_by of) one
  pub shown : Shown
  pub among : Contains (shown_in listings) shown
  pub by : IsListedBy inputs of.listed shown
  pub path_is : one.path ≡ shown.entry.path
  pub input_is : one.input ≡ of.listed.input
  pub size_is : one.size ≡ shown.entry.size
  pub changed_is : one.changed ≡ shown.entry.changed

-- the scan stands behind what was done before the run
pub since_earlier : (told : ToldScan) → IsTold told → length told.earlier.events ≤ length told.scanned.events
since_earlier told has =
    let listed = ap (λ (h : FolderHistory). length h.events) has.listed_is in
    let long = length-append told.earlier.events (map event_tried has.attempts) in
    let asked = longer told.listed told.scanned (goes_on_asking told.listed told.scanned (all_tried told.settings.inputs has.trials told.askings told.listed told.scanned has.asks)) in
    omega (arith, listed, long, asked)

module _ (told : ToldScan) (has : IsTold told) (around : RunAround) (on : IsAround told around) where
  abbrev run : Run
  run = run_around told around

  abbrev scan : Scan
  scan = scan_by told

  abbrev inputs : List InputRule
  inputs = told.settings.inputs

  abbrev pub listings : List Listing
  listings = has.listings

  abbrev began : ℕ
  began = length told.earlier.events

  abbrev pub listed_events : List Event
  listed_events = map event_tried has.attempts

  -- ---- the folder's list

  pub events_listed : told.listed.events ≡ told.earlier.events ++ listed_events
  events_listed = ap (λ (h : FolderHistory). h.events) has.listed_is

  -- what was done before the run, and behind it its listings
  pub listed_length : length told.listed.events ≡ began + length listed_events
  listed_length = ap length events_listed ∙ length-append told.earlier.events listed_events

  -- the listings stand behind what was done before the run
  pub since_began : length told.earlier.events ≤ length told.listed.events
  since_began = let long = listed_length in omega (arith, long)

  pub only_asks : HasOnlyAsked told.listed told.scanned
  only_asks = all_tried inputs has.trials told.askings told.listed told.scanned has.asks

  pub asking_goes_on : FolderGoesOn told.listed told.scanned
  asking_goes_on = goes_on_asking told.listed told.scanned only_asks

  abbrev pub run_goes_on : FolderGoesOn told.scanned around.ended
  run_goes_on = on.goes_on

  -- what was told before the run stands in front of all that
  pub goes_on : FolderGoesOn told.earlier around.ended
  goes_on =
      goes_on_further told.earlier told.listed around.ended
      (record { files = ap (λ (h : FolderHistory). h.files) has.listed_is; more = listed_events; events = events_listed })
      (goes_on_further told.listed told.scanned around.ended asking_goes_on run_goes_on)

  -- and the askings behind them
  pub since_listed : length told.listed.events ≤ length told.scanned.events
  since_listed = longer told.listed told.scanned asking_goes_on

  -- what stands behind the listings
  abbrev pub later_events : List Event
  later_events = only_asks.more ++ run_goes_on.more

  pub ended_events : around.ended.events ≡ told.earlier.events ++ (listed_events ++ later_events)
  ended_events = run_goes_on.events ∙ ap (λ (l : List Event). l ++ run_goes_on.more) only_asks.events ∙ append_assoc told.listed.events only_asks.more run_goes_on.more
      ∙ ap (λ (l : List Event). l ++ later_events) events_listed ∙ append_assoc told.earlier.events listed_events later_events

  pub at : AreAt run.trace.events began listed_events
  at = subst (λ (l : List Event). AreAt l began listed_events) (sym ended_events) (are_at listed_events told.earlier.events later_events)

  pub listings_are : scan.listings ≡ listings_from began listed_events
  listings_are =
      ap (λ (l : List Event). listings_from began (drop began l)) events_listed ∙ ap (listings_from began) (drop-append_seam told.earlier.events listed_events)

  -- an opening of the run stands behind its listings
  pub behind_listings : (opening : ℕ) (path : List ℕ) (number : ℕ) (begun : Sight) → began ≤ opening → slice_get around.ended.events opening ≡ Some (OpenedAs path number begun) →
      length told.listed.events ≤ opening
  behind_listings opening path number begun since is = by_order (cases_lt opening (length told.listed.events))
    where
      by_order : (opening < length told.listed.events) ⊎ (length told.listed.events ≤ opening) → length told.listed.events ≤ opening
      by_order (inr behind) = behind
      by_order (inl within) =
          let long = listed_length in
          absurd (no_opening around.ended.events has.attempts began opening path number begun at since (omega (arith, within, long)) is)

  -- ---- it lists for each glob

  pub listed_globs : ListGlobs run.trace (globs_in inputs) scan.listings
  listed_globs =
      subst (λ (l : List ℕ). ListGlobs run.trace (globs_in inputs) l) (sym listings_are)
      (subst (λ (globs : List (List ℕ)). ListGlobs run.trace globs (listings_from began listed_events)) has.for_each_glob (list_globs run.trace has.attempts began at))

  -- all its listings stand before what is behind them
  pub is_before : (place : ℕ) → length told.listed.events ≤ place → IsBefore place scan
  is_before place since =
      let long = listed_length in
      subst (AllByRecursion (λ listing. listing < place)) (sym listings_are) (listings_before has.attempts began place (omega (arith, since, long)))

  -- ---- what it shows

  pub shows_entry : (shown : Shown) → Contains (shown_in listings) shown → ShowsEntry run.trace scan shown
  shows_entry shown there =
      let of = shows_at run.trace shown has.attempts began at (subst (λ (l : List Listing). Contains (shown_in l) shown) (sym has.served) there) in
      record {
        listing = of.listing;
        of_scan = subst (λ (l : List ℕ). Contains l of.listing) (sym listings_are) of.of_listings;
        root = of.root;
        depth = of.depth;
        entries = of.entries;
        listed = of.listed;
        among = of.among;
      }

  pub entry_is_shown : (shown : Shown) → ShowsEntry run.trace scan shown → Contains (shown_in listings) shown
  entry_is_shown shown entry =
      subst (λ (l : List Listing). Contains (shown_in l) shown) has.served
      (shown_by run.trace shown has.attempts began at
      (record {
        listing = entry.listing;
        of_listings = subst (λ (l : List ℕ). Contains l entry.listing) listings_are entry.of_scan;
        root = entry.root;
        depth = entry.depth;
        entries = entry.entries;
        listed = entry.listed;
        among = entry.among;
      }))

  -- ---- its files

  pub each_tried : AreAskingsOf inputs (length told.listed.events) told.scanned has.trials told.askings
  each_tried = each_asking inputs has.trials told.askings told.listed told.scanned has.asks

  pub entry_of_listed : (one : Listed) → Contains has.all one → IsOfShown inputs listings one
  entry_of_listed one there = member_is (IsOfShown inputs listings) has.all one (each_of_shown inputs listings has.all has.shown.only) there

  pub answered_there : (of : AskedFile) → Contains told.asked of → Contains has.trials (Answered of)
  answered_there of there = by_trials has.trials (subst (λ (l : List AskedFile). Contains l of) (sym has.answered) there)
    where
      by_trials : (trials : List Trial) → Contains (answers_in trials) of → Contains trials (Answered of)
      by_trials [] there = absurd (none_there of there)
      by_trials (Answered one ∷ trials) there =
          ⊎_elim (λ here. subst (λ (a : AskedFile). Contains (Answered one ∷ trials) (Answered a)) here (first_there (Answered one) trials))
          (λ later. later_there (Answered one) (Answered of) trials (by_trials trials later)) (there_cases one of (answers_in trials) there)
      by_trials (Faulted one ∷ trials) there = later_there (Faulted one) (Answered of) trials (by_trials trials there)

  pub asked_there : (of : AskedFile) → Contains has.trials (Answered of) → Contains told.asked of
  asked_there of there = subst (λ (l : List AskedFile). Contains l of) has.answered (by_trials has.trials there)
    where
      the_same : (one : AskedFile) → Answered one ≡ Answered of → one ≡ of
      the_same one is = cc

      by_trials : (trials : List Trial) → Contains trials (Answered of) → Contains (answers_in trials) of
      by_trials [] there = absurd (none_there (Answered of) there)
      by_trials (Answered one ∷ trials) there =
          ⊎_elim (λ here. subst (λ (a : AskedFile). Contains (one ∷ answers_in trials) a) (the_same one here) (first_there one (answers_in trials)))
          (λ later. later_there one of (answers_in trials) (by_trials trials later)) (there_cases (Answered one) (Answered of) trials there)
      by_trials (Faulted one ∷ trials) there =
          ⊎_elim (λ here. absurd (let q : Faulted one ≡ Answered of = here in cc)) (by_trials trials) (there_cases (Faulted one) (Answered of) trials there)

  pub in_all : (trial : Trial) → Contains has.trials trial → Contains has.all (file_tried trial)
  in_all trial there = subst (λ (l : List Listed). Contains l (file_tried trial)) has.tried_are (mapped_there file_tried has.trials trial there)

  pub of_all : (of : AskedFile) → Contains told.asked of → Contains has.all of.listed
  of_all of there = in_all (Answered of) (answered_there of there)

  pub shown_of : (of : AskedFile) → Contains told.asked of → IsOfShown inputs listings of.listed
  shown_of of there = entry_of_listed of.listed (of_all of there)

  -- those that answered stand in the order of the list, and none has the name of another
  pub asked_in_order : AreInOrder (map listed_of told.asked)
  asked_in_order = subst (λ (l : List AskedFile). AreInOrder (map listed_of l)) has.answered
      (in_order_answered has.trials (subst AreInOrder (sym has.tried_are) has.shown.in_order))

  pub asked_named_apart : AreApart (map listed_of told.asked)
  asked_named_apart = subst (λ (l : List AskedFile). AreApart (map listed_of l)) has.answered
      (apart_answered has.trials (subst AreApart (sym has.tried_are) has.shown.apart))

  -- each listed file was asked for its key, and answered, or that failed
  pub record IsTriedFor (one : Listed) : Type 0 where
    pub trial : Trial
    pub among : Contains has.trials trial
    pub is : file_tried trial ≡ one

  pub tried_for : (one : Listed) → Contains has.all one → IsTriedFor one
  tried_for one there =
      let of = of_map file_tried has.trials one (subst (λ (l : List Listed). Contains l one) (sym has.tried_are) there) in
      record { trial = of.item; among = of.among; is = of.is }

  -- its asking is one of the scan's
  pub record HasItsAsking (trial : Trial) : Type 0 where
    pub asking : Asking
    pub among : Contains told.askings asking
    pub is : IsAskingOf inputs (length told.listed.events) told.scanned trial asking

  pub asking_for : (trial : Trial) → Contains has.trials trial → HasItsAsking trial
  asking_for trial there = let its = paired has.trials told.askings each_tried there in record { asking = its.0; among = its.1; is = its.2 }
    where
      paired : (trials : List Trial) (askings : List Asking) → AreAskingsOf inputs (length told.listed.events) told.scanned trials askings → Contains trials trial →
          (asking : Asking) × Contains askings asking × IsAskingOf inputs (length told.listed.events) told.scanned trial asking
      paired [] askings are there = absurd (none_there trial there)
      paired (first ∷ trials) [] are there = absurd are
      paired (first ∷ trials) (asking ∷ askings) are there =
          ⊎_elim (λ here. (asking, first_there asking askings, subst (λ (t : Trial). IsAskingOf inputs (length told.listed.events) told.scanned t asking) here are.0))
          (λ later. let its = paired trials askings are.1 later in (its.0, later_there asking its.0 askings its.1, its.2)) (there_cases first trial trials there)

  -- and each asking is that of a listed file
  pub record IsOfTrial (asking : Asking) : Type 0 where
    pub trial : Trial
    pub among : Contains has.trials trial
    pub is : IsAskingOf inputs (length told.listed.events) told.scanned trial asking

  pub trial_of : (asking : Asking) → Contains told.askings asking → IsOfTrial asking
  trial_of asking there = let its = paired has.trials told.askings each_tried there in record { trial = its.0; among = its.1; is = its.2 }
    where
      paired : (trials : List Trial) (askings : List Asking) → AreAskingsOf inputs (length told.listed.events) told.scanned trials askings → Contains askings asking →
          (trial : Trial) × Contains trials trial × IsAskingOf inputs (length told.listed.events) told.scanned trial asking
      paired trials [] are there = absurd (none_there asking there)
      paired [] (first ∷ askings) are there = absurd are
      paired (trial ∷ trials) (first ∷ askings) are there =
          ⊎_elim (λ here. (trial, first_there trial trials, subst (IsAskingOf inputs (length told.listed.events) told.scanned trial) here are.0))
          (λ later. let its = paired trials askings are.1 later in (its.0, later_there trial its.0 trials its.1, its.2)) (there_cases first asking askings there)

  -- what was answered stands in the folder's list, as the scan ended and as the run does
  pub answered_in : (of : AskedFile) → Contains told.asked of → IsAnsweredIn inputs (length told.listed.events) told.scanned of
  answered_in of there = member_is (IsAnsweredIn inputs (length told.listed.events) told.scanned) told.asked of
      (subst (AllByRecursion (IsAnsweredIn inputs (length told.listed.events) told.scanned)) has.answered
      (each_answered inputs has.trials told.askings told.listed told.scanned has.asks)) there

  pub answered : (of : AskedFile) → Contains told.asked of → IsAnsweredIn inputs (length told.listed.events) around.ended of
  answered of there = answered_still inputs (length told.listed.events) (length told.listed.events) told.scanned around.ended of (omega arith) run_goes_on (answered_in of there)

  -- an opening before the end of the scan only asked for a key
  pub asked_within : (opening : ℕ) (path : List ℕ) (number : ℕ) (begun : Sight) → length told.listed.events ≤ opening → opening < length told.scanned.events →
      slice_get around.ended.events opening ≡ Some (OpenedAs path number begun) → WasOnlyAsked around.ended opening
  asked_within opening path number begun since within is =
      only_asked_still told.scanned around.ended run_goes_on opening within
      (only_asks.only_asked opening path number begun since (event_was told.scanned around.ended run_goes_on opening (OpenedAs path number begun) within is))

  pub asking_placed : (asking : Asking) → Contains told.askings asking → IsPlacedIn (length told.listed.events) told.scanned asking
  asking_placed asking there = member_is (IsPlacedIn (length told.listed.events) told.scanned) told.askings asking
      (all_placed inputs (length told.listed.events) told.scanned has.trials told.askings each_tried) there

  pub placed_in_scan : (opening : ℕ) → Contains (openings_in told.askings) opening → opening < length told.scanned.events
  placed_in_scan opening there = let of = asked_at told.askings opening there in (asking_placed of.asking of.among opening of.at).1

  pub asked_apart : AreDistinct (openings_in told.askings)
  asked_apart = openings_distinct inputs has.trials told.askings told.listed told.scanned has.asks

  -- ---- those with keys

  abbrev pub keyed_files : List Listed
  keyed_files = flat_map keyed_by told.asked

  -- those that are followed, and those that are doubled
  abbrev pub everyone : List Listed
  everyone = told.files ++ told.doubled

  pub in_keyed : (one : Listed) → Contains everyone one → Contains keyed_files one
  in_keyed one there = ⊎_elim (file_is_listed keyed_files told.files told.doubled has.parts one) (double_is_listed keyed_files told.files told.doubled has.parts one)
      (Contains-append_cases told.files told.doubled one there)

  -- an asked file that has its key is one of them
  pub in_parts : (of : AskedFile) (one : Listed) → Contains told.asked of → Contains (keyed_by of) one → Contains everyone one
  in_parts of one there kept = ⊎_elim (λ file. Contains-append_left told.files told.doubled one file) (λ double. Contains-append_right told.files told.doubled one double)
      (listed_is_either keyed_files told.files told.doubled has.parts one (keyed_there told.asked of one there kept))

  pub entry_of : (one : Listed) → Contains everyone one → IsOfEntry inputs listings told.asked one
  entry_of one there =
      let from : IsKeyedFrom told.asked one = keyed_from told.asked one (in_keyed one there) in
      let its = shown_of from.of from.among in
      let keeps = keeps_entry from.of.listed from.of.answer one from.keyed in
      record {
        of = from.of;
        of_asked = from.among;
        kept = from.keyed;
        shown = its.shown;
        among = its.among;
        by = its.by;
        path_is = keeps.path_is ∙ its.by.path_is;
        input_is = keeps.input_is;
        size_is = keeps.size_is ∙ its.by.size_is;
        changed_is = keeps.changed_is ∙ its.by.changed_is;
      }
