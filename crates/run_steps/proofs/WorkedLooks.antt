-- The worked run has a first look. A run over the same folder that asked its bell twice, and of which no tail was asked for its length, is
-- refused as one that was stopped, however it is accounted for. A run whose scan showed nothing has passed over all of it.
use Rattle.std.proofs.Common.{◌≡◌, ◌≢◌, inl, inr, ⊎_elim, ℕ, zero, suc, List, [], ◌∷◌, ◌++◌, drop, take, length, codes, Option, None, Some, refl, sym, ap, subst, ◌∙◌, arith}
use Rattle.std.specs.Prelude.{option_map, slice_get}
use Rattle.std.specs.List.{AllByRecursion, Contains}
use Rattle.event_tree.specs.declared.input_rule.InputRule.{InputRule}
use Rattle.event_tree.specs.declared.settings.Settings.{Settings}
use Rattle.kept_rows.proofs.Worked as worked
use Rattle.kept_rows.specs.Account.{SlotAccount}
use Rattle.kept_rows.specs.Drained.{IsPassedOver}
use Rattle.kept_rows.specs.Run.{Run, Scan}
use Rattle.kept_rows.specs.Scans.{Gave, IsGoodListing, IsWhole, ShowsEntry, globs_in}
use Rattle.kept_rows.specs.Trace.{Closing, OpenTail, closing_in, first_of_two, open_looks_in}
use Rattle.lanes.specs.Laning.{Laning}
use Rattle.outside.specs.Folders.{Closed, Event, Listed, NotThere}
use Rattle.outside.specs.declared.history.Look.{Look}
use Rattle.outside.specs.declared.history.Shown.{Shown}
use Rattle.rounds.specs.Pairs.{SomeOf}
use Rattle.rounds.specs.Words.{TailWords}
use Rattle.ship_core.proofs.Members.{first_there, none_there, there_cases}
use Rattle.told_scans.proofs.Members.{some_is}
use Rattle.wire_base.specs.KeyOrder.{compare}
use Rattle.run_steps.specs.AccountedFor.{AccountedFor, RunObjects}
use Rattle.run_steps.specs.FirstLook.{IsLengthLook, HasFirstLook, SomeWasLookedAt}
use Rattle.run_steps.specs.Looking.{HoldNothing, LooksByNow, SomeHasLooked}
use Rattle.run_steps.specs.Releasing.{harvesters_of}
use Rattle.run_steps.specs.declared.met.Met.TheVariants.{Stopped}
use Rattle.run_steps.proofs.Looked.{none_asks}
use Rattle.run_steps.proofs.ReadPlaces.{OnlyRead}
use Rattle.run_steps.proofs.WorkedAccount.{account, objects}
use Rattle.run_steps.proofs.WorkedTogether.{Holding, disks}

-- ---- the worked run

pub has_first_look : HasFirstLook worked.run account
has_first_look = record {
  scan = worked.scan;
  first = refl;
  looked = inr (record {
    one = worked.slot_account;
    of_account = (0, omega arith, refl);
    tail = worked.tail;
    of_slot = (0, omega arith, refl);
    looked = record { looks = worked.looks; tells = refl; asked = inl refl };
  });
}

-- ---- its scan showed nothing

abbrev empty_run : Run
empty_run = record worked.run { trace = record worked.trace { events = Closed 2 worked.older_looks 1 ∷ Listed (codes "/w") 1 [] ∷ [] } }

-- of a listing
abbrev entries_in : Option Event → List Shown
entries_in (Some (Listed root depth entries)) = entries
entries_in _ = []

none_shown : (other : Shown) → ShowsEntry empty_run.trace worked.scan other → ⊥
none_shown other shows = ⊎_elim
    (λ first. none_there other (subst (λ (l : List Shown). Contains l other) (sym (ap entries_in (ap (slice_get empty_run.trace.events) first ∙ shows.listed))) shows.among))
    (λ nothing. none_there shows.listing nothing)
    (there_cases 1 shows.listing [] shows.of_scan)

pub has_passed_over_all : HasFirstLook empty_run []
has_passed_over_all = record { scan = worked.scan; first = refl; looked = inl (λ shown input rule entry at covered. absurd (none_shown shown entry)) }

-- ---- no tail was asked

-- the file was opened, and its tail was closed with these looks
abbrev events : List Look → List Event
events asked = take 3 worked.trace.events ++ Closed 2 asked 0 ∷ []

only_listing : (asked : List Look) (listing : ℕ) (root : List ℕ) (depth : ℕ) (entries : List Shown) → slice_get (events asked) listing ≡ Some (Listed root depth entries) → worked.shown ∷ [] ≡ entries
only_listing asked zero root depth entries is = absurd cc
only_listing asked (suc zero) root depth entries is = ap entries_in is
only_listing asked (suc (suc zero)) root depth entries is = absurd cc
only_listing asked (suc (suc (suc zero))) root depth entries is = absurd cc
only_listing asked (suc (suc (suc (suc more)))) root depth entries is = absurd (let q : None ≡ Some (Listed root depth entries) = is in cc)

none_gone : (asked : List Look) (opening : ℕ) → slice_get (events asked) opening ≡ Some (NotThere worked.shown.entry.path) → ⊥
none_gone asked zero is = absurd cc
none_gone asked (suc zero) is = absurd cc
none_gone asked (suc (suc zero)) is = absurd cc
none_gone asked (suc (suc (suc zero))) is = absurd cc
none_gone asked (suc (suc (suc (suc more)))) is = absurd (let q : None ≡ Some (NotThere worked.shown.entry.path) = is in cc)

-- what these tell of the tail of an opening
abbrev looks_by : List Event → List OpenTail → ℕ → Option (List Look)
looks_by told open_tails opening = first_of_two (option_map (λ (c : Closing). c.looks) (closing_in opening (drop (suc opening) told))) (open_looks_in opening open_tails)

tells_these : (asked looks : List Look) (opening : ℕ) → looks_by (events asked) [] opening ≡ Some looks → asked ≡ looks
tells_these asked looks zero is = absurd (let q : None ≡ Some looks = is in cc)
tells_these asked looks (suc zero) is = absurd (let q : None ≡ Some looks = is in cc)
tells_these asked looks (suc (suc zero)) is = some_is asked looks is
tells_these asked looks (suc (suc (suc zero))) is = absurd (let q : None ≡ Some looks = is in cc)
tells_these asked looks (suc (suc (suc (suc more)))) is = absurd (let q : None ≡ Some looks = is in cc)

module _ (asked : List Look) (only : OnlyRead asked) where
  -- the bell was asked twice
  abbrev pub unlooked : RunObjects Holding
  unlooked = record objects { after = record objects.after { folder = Some (record { files = worked.file ∷ []; events = events asked }); questions = record { clock = 2; bell = 2; given = 1 } } }

  module _ (run : Run) (settings_are : run.settings ≡ worked.settings) (events_are : run.trace.events ≡ events asked) (none_open : run.trace.open_tails ≡ []) (scan : Scan) where
    only_entry : (other : Shown) → ShowsEntry run.trace scan other → worked.shown ≡ other
    only_entry other shows =
        let listed = subst (λ (l : List Event). slice_get l shows.listing ≡ Some (Listed shows.root shows.depth shows.entries)) events_are shows.listed in
        let same = only_listing asked shows.listing shows.root shows.depth shows.entries listed in
        ⊎_elim (λ is. is) (λ nothing. absurd (none_there other nothing)) (there_cases worked.shown other [] (subst (λ (l : List Shown). Contains l other) (sym same) shows.among))

    -- it shows the file
    entry : IsWhole run scan → ShowsEntry run.trace scan worked.shown
    entry whole = by_listings scan.listings refl
      where
        by_listings : (listings : List ℕ) → scan.listings ≡ listings → ShowsEntry run.trace scan worked.shown
        by_listings [] are =
            let none : length scan.listings ≡ 0 = ap (λ (l : List ℕ). length l) are in
            let one : length scan.listings ≡ 1 = whole.not_cut_off ∙ ap (λ (s : Settings). length (globs_in s.inputs)) settings_are in
            absurd (omega (arith, none, one))
        by_listings (listing ∷ more) are =
            let good = (subst (λ (l : List ℕ). AllByRecursion (IsGoodListing run.trace) l) are whole.none_failed).0 in
            let listed = subst (λ (l : List Event). slice_get l listing ≡ Some (Listed good.root good.depth good.entries)) events_are good.listed in
            record {
              listing = listing;
              of_scan = subst (λ (l : List ℕ). Contains l listing) (sym are) (first_there listing more);
              root = good.root;
              depth = good.depth;
              entries = good.entries;
              listed = good.listed;
              among = subst (λ (l : List Shown). Contains l worked.shown) (only_listing asked listing good.root good.depth good.entries listed) (first_there worked.shown []);
            }

    rule_at : slice_get run.settings.inputs 0 ≡ Some worked.input
    rule_at = ap (λ (s : Settings). slice_get s.inputs 0) settings_are

    key_is : (rule : InputRule) (opening : Option ℕ) (key : List ℕ) (number : ℕ) → worked.input ≡ rule → Gave run.trace rule worked.shown opening (Some key) number → worked.key ≡ key
    key_is rule opening key number same gave = by_opening opening (subst (λ (r : InputRule). Gave run.trace r worked.shown opening (Some key) number) (sym same) gave)
      where
        by_opening : (o : Option ℕ) → Gave run.trace worked.input worked.shown o (Some key) number → worked.key ≡ key
        by_opening None by_entry = some_is worked.key key (sym by_entry.gave)
        by_opening (Some opened) by_tail = some_is worked.key key (sym by_tail.gave)

    passed_over_no : IsPassedOver run worked.input scan worked.shown 0 → ⊥
    passed_over_no (inl doubled) =
        let to = doubled.shows_earlier.shows.1 in
        let same : worked.shown.entry.path ≡ doubled.earlier = ap (λ (s : Shown). s.entry.path) (only_entry doubled.shows_earlier.shown to.asks.entry) ∙ doubled.shows_earlier.path_is in
        worked.not_before_itself (ap (λ (p : List ℕ). compare p worked.shown.entry.path) same ∙ doubled.before)
    passed_over_no (inr (inl old)) = absurd (omega (arith, old.asked))
    passed_over_no (inr (inr (inl gone))) = none_gone asked gone.opening (subst (λ (l : List Event). slice_get l gone.opening ≡ Some (NotThere worked.shown.entry.path)) events_are gone.was.not_there)
    passed_over_no (inr (inr (inr (inl moved)))) =
        let its_rule = some_is worked.input moved.shows.rule (sym rule_at ∙ moved.shows.rule_is) in
        let listed = key_is moved.shows.rule moved.shows.asking.opening moved.key moved.number its_rule moved.shows.gave in
        let opened : worked.key ≡ moved.other = some_is worked.key moved.other (sym moved.opened.gave) in
        moved.other_key (sym opened ∙ listed)
    passed_over_no (inr (inr (inr (inr small)))) = absurd small.by_bytes

    -- whatever the account has
    looked_no : (followed : List SlotAccount) → SomeWasLookedAt run.trace followed → ⊥
    looked_no followed some =
        let looked = some.looked in
        let tells = subst (λ (l : List Event). looks_by l run.trace.open_tails some.tail.opening ≡ Some looked.looks) events_are looked.tells in
        let these = tells_these asked looked.looks some.tail.opening (subst (λ (l : List OpenTail). looks_by (events asked) l some.tail.opening ≡ Some looked.looks) none_open tells) in
        none_asks asked only (subst (SomeOf IsLengthLook) (sym these) looked.asked)

  pub unlooked_is_refused : AccountedFor disks worked.settings unlooked Stopped → ⊥
  unlooked_is_refused accounted =
      let taken = accounted.taken_up tt in
      let look = accounted.looked refl (omega arith) in
      let same = some_is taken.scan look.scan (sym taken.first ∙ look.first) in
      let folder = accounted.fits.folder in
      let its_entry = subst (λ (s : Scan). ShowsEntry accounted.run.trace s worked.shown) same (entry accounted.run accounted.by_settings folder.events folder.none_open taken.scan taken.whole) in
      ⊎_elim
      (λ over. passed_over_no accounted.run accounted.by_settings folder.events folder.none_open look.scan
      (over worked.shown 0 worked.input its_entry (rule_at accounted.run accounted.by_settings folder.events folder.none_open look.scan) worked.is_covered))
      (looked_no accounted.run accounted.by_settings folder.events folder.none_open look.scan accounted.account) look.looked

-- ---- between two questions of the bell

-- lanes that held nothing and follow a file of which none was asked, as they were before the first question
pub asking_alone_is_refused : {T : Type 0} (tails : TailWords T) (lanes : List (Laning T)) → HoldNothing lanes → harvesters_of lanes ≢ [] → ¬ (SomeHasLooked tails lanes) →
    LooksByNow tails (record { bell = 0; lanes = lanes }) (record { bell = 2; lanes = lanes }) → ⊥
asking_alone_is_refused tails lanes nothing some not by = ⊎_elim some not (by nothing (omega arith))
