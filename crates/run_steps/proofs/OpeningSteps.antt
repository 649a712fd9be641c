-- A step that opens a file first, after a later scan listed it, keeps what stands of a run, whatever it answers.
use Rattle.std.proofs.Common.{◌≡◌, ◌⊎◌, inl, inr, ℕ, ◌%◌, ◌≤◌, false, true, List, [], ◌∷◌, ◌++◌, Contains, length, Option, Some, None, IsSome, IfSome, Result, Ok, Err, refl, sym, ap, subst, ◌∙◌, arith}
use Rattle.std.specs.Prelude.{slice_get}
use Rattle.accounts.specs.Opened.{IsTailOf, Opened}
use Rattle.accounts.specs.Turning.{IsTurnedSo}
use Rattle.accounts.proofs.Onward.{stands_opened}
use Rattle.event_tree.specs.declared.input_rule.InputRule.{InputRule}
use Rattle.event_tree.specs.declared.settings.Settings.{Settings}
use Rattle.file_identity.specs.AskedAgain.{GivesKey}
use Rattle.file_identity.specs.Answers.{IsGiven}
use Rattle.file_identity.specs.declared.identity.Identity.{Identity}
use Rattle.file_identity.specs.declared.identity.Identity.TheVariants.{Key}
use Rattle.file_identity.specs.declared.identity_error.IdentityError.{IdentityError}
use Rattle.file_looks.specs.Looks.{TellsLooks}
use Rattle.harvester.specs.HasTold.{HasTold}
use Rattle.harvester.specs.History as history
use Rattle.harvester.specs.Standing.{EndsAt}
use Rattle.harvester.specs.declared.harvester.Harvester.{Harvester}
use Rattle.keeper.specs.Keeping.{Keeping}
use Rattle.multiline_core.specs.Rule.{IsGroupRule}
use Rattle.outside.specs.Folders.{FolderHistory}
use Rattle.outside.specs.Tails.{TailHistory}
use Rattle.outside.specs.declared.failed.FolderError.TheVariants.{Failed as Failing, NoMemory as WithoutMemory}
use Rattle.outside.specs.declared.history.Look.{Look}
use Rattle.report.specs.declared.passing.Why.TheVariants.{Doubled, Gone, Moved, Old, Small}
use Rattle.rounds.specs.Crewed.{lanings}
use Rattle.rounds.specs.Words.{Words}
use Rattle.rounds.specs.declared.crew.Crew.{Crew}
use Rattle.ship_core.proofs.Members.{first_there, later_there, none_there, there_cases}
use Rattle.told_scans.specs.ToldScan.{ToldScan}
use Rattle.wire_base.specs.declared.note.Begin.{Begin}
use Rattle.run_steps.specs.Began.{Began}
use Rattle.run_steps.specs.BeginFor.{IsBeginFor, begin_for}
use Rattle.run_steps.specs.Beginning.{AdmitsAt, AsksKey, Beginning, BeginsOne, ClosesFile, Follows, GivesUp, HasListedKey, HasOpened, IsOpenedFor, ListedFile, OpensNone, SameLanes, TakesIn}
use Rattle.run_steps.specs.BeginsAll.{IsOfRuledInput}
use Rattle.run_steps.specs.Begun.{IsKeyed, IsOpenedAsListed, IsRuled, noted_begin}
use Rattle.run_steps.specs.FolderSeen.{FolderSeen}
use Rattle.run_steps.specs.Goes.{StepWords, Stop, moments_at}
use Rattle.run_steps.specs.LaterScans.{LaterScan, told_in}
use Rattle.run_steps.specs.ListedLater.{IsKnownStart, WasOpenedAfter}
use Rattle.run_steps.specs.OpenedFirst.{IsFreeSlot, IsListedUnopened, IsOpenedFirst, put_opened}
use Rattle.run_steps.specs.OpeningSteps.{IsOpeningStep, MayOpenFirst, OpeningsKeepReady, StandsOnceOpened}
use Rattle.run_steps.specs.Releasing.{closing_of, with_events}
use Rattle.run_steps.specs.ReopeningSteps.{beginning_at, leaving, with_opened}
use Rattle.run_steps.specs.RunState.{Finished, Leaving, Reading}
use Rattle.run_steps.specs.ListedSo.{WasListedSo}
use Rattle.run_steps.specs.Shown.{HasShown}
use Rattle.run_steps.specs.SoFar.{SoFar, files_of}
use Rattle.run_steps.specs.Stands.{Further, Stands, watch_of}
use Rattle.run_steps.specs.Telling.{TellsBegin, TellsNotes}
use Rattle.run_steps.specs.declared.begin_error.BeginError.{BeginError}
use Rattle.run_steps.specs.declared.begin_error.BeginError.TheVariants as error
use Rattle.run_steps.specs.declared.begin.Admission.{Admission}
use Rattle.run_steps.specs.declared.begin.Admission.TheVariants.{Failed, Followed, Skipped}
use Rattle.run_steps.specs.declared.context.Context.{Context}
use Rattle.run_steps.proofs.Able.{able_on}
use Rattle.run_steps.proofs.BeginningOne.{at_phase, stands_same}
use Rattle.run_steps.proofs.BeginningSteps.{shown_tells}
use Rattle.run_steps.proofs.BegunFolder.{error_shown, none_shown, unread_shown}
use Rattle.run_steps.proofs.Keeps.{begin_keeps, keeper_others}
use Rattle.run_steps.proofs.OpenedFolder.{scanned_within}
use Rattle.run_steps.proofs.OpenedStands.{after, is_opened_first, left_after, stands_given_up, stands_opened_first}
use Rattle.run_steps.proofs.PutOpened.{put_there}
use Rattle.run_steps.proofs.ScanSteps.{StandsAt, stands_at}
use Rattle.run_steps.proofs.SeenChange.{newest_among}
use Rattle.run_steps.proofs.TailOpened.{HasTail, IsShown, has_tail, opened_now}

-- what is told of a scan is among what is told of all
told_there : (scans : List LaterScan) (scan : LaterScan) (told : ToldScan) → scan.told ≡ Some told → Contains scans scan → Contains (told_in scans) told
told_there [] scan told is there = absurd (none_there scan there)
told_there (one ∷ scans) scan told is there = by_case one.told refl (there_cases one scan scans there) (told_there scans scan told is)
  where
    by_case : (o : Option ToldScan) → one.told ≡ o → (one ≡ scan) ⊎ Contains scans scan → (Contains scans scan → Contains (told_in scans) told) → Contains (told_in (record one { told = o } ∷ scans)) told
    by_case None e (inl same) later = absurd (let q : None ≡ Some told = sym e ∙ ap (λ (s : LaterScan). s.told) same ∙ is in cc)
    by_case None e (inr behind) later = later behind
    by_case (Some first) e (inl same) later =
        let q : Some first ≡ Some told = sym e ∙ ap (λ (s : LaterScan). s.told) same ∙ is in
        let it : first ≡ told = cc in
        subst (Contains (first ∷ told_in scans)) it (first_there first (told_in scans))
    by_case (Some first) e (inr behind) later = later_there first told (told_in scans) (later behind)

module _ {T W L D : Type 0} (words : Words T W L D) (reads : (disk : D) → IfSome (words.disks.contents disk) (words.disks.images disk))
    (counts : (disk : D) (at : ℕ) (image : List ℕ) → at ≤ words.disks.moment disk → words.disks.images disk image → words.disks.images_since disk at image)
    (start : Began D) (moments : Option (List ℕ)) (a b : D) (file : ListedFile) (old : Beginning T W L) (so_far : SoFar)
    (stands : Stands words start (at_phase words start moments a b old.folder.told old.crew old.keeper Leaving) so_far) (unopened : IsListedUnopened start file so_far)
    (of_input : IsOfRuledInput start.settings file.listed) (long_enough : file.start.base ≤ file.listed.size) (ends : EndsAt so_far.moments file.now.0) where
  abbrev StandsIn : Beginning T W L → SoFar → Type 0
  StandsIn new later = Stands words start (at_phase words start moments a b new.folder.told new.crew new.keeper Leaving) later

  -- nothing but what the folder tells has changed
  with_shown : (new : Beginning T W L) → new.crew ≡ old.crew → new.keeper ≡ old.keeper → HasShown start.settings start.shown new.folder.told (files_of so_far) → StandsIn new so_far
  with_shown new crew keeper has =
      subst (λ (c : Crew T W L). Stands words start (at_phase words start moments a b new.folder.told c new.keeper Leaving) so_far) (sym crew)
      (subst (λ (k : Keeping). Stands words start (at_phase words start moments a b new.folder.told old.crew k Leaving) so_far) (sym keeper) (record {
        files = record {
          opened = stands.files.opened;
          ruled = stands.files.ruled;
          keyed = stands.files.keyed;
          each_once = stands.files.each_once;
          turned = stands.files.turned;
          left = stands.files.left;
          earlier = stands.files.earlier;
          forgotten = stands.files.forgotten;
          reading = λ is. absurd (let no : Leaving ≡ Reading = is in cc);
          finished = λ is some. absurd (let no : Leaving ≡ Finished = is in cc);
          over = tt;
          read = λ yet some. absurd yet;
          answered = λ may some. absurd may;
          following = λ follows. absurd follows;
          listed = stands.files.listed;
          tell = stands.files.tell;
          left_tell = stands.files.left_tell;
          scans = stands.files.scans;
          shown = has;
          given = stands.files.given;
        };
        books = stands.books;
        notes = stands.notes;
        areas = stands.areas;
      }))

  none_found : (new : Beginning T W L) → OpensNone words.tails file (Ok None) old new → StandsIn new so_far
  none_found new none = with_shown new none.crew none.keeper
      (none_shown start.settings so_far file.listed.path words.tails old.folder.states old.folder.present start.shown old.folder.told new.folder.told stands.files.shown none.opens.told)

  failed_opening : (new : Beginning T W L) → OpensNone words.tails file (Err Failing) old new → StandsIn new so_far
  failed_opening new none = with_shown new none.crew none.keeper
      (error_shown start.settings so_far file.listed.path words.tails old.folder.states old.folder.present Failing start.shown old.folder.told new.folder.told stands.files.shown none.opens.told)

  without_memory : (new : Beginning T W L) → OpensNone words.tails file (Err WithoutMemory) old new → StandsIn new so_far
  without_memory new none = with_shown new none.crew none.keeper
      (error_shown start.settings so_far file.listed.path words.tails old.folder.states old.folder.present WithoutMemory start.shown old.folder.told new.folder.told stands.files.shown none.opens.told)

  -- ---- a file was opened

  abbrev begin : Begin
  begin = begin_for file.slot file.listed unopened.key file.start

  module _ (fresh tail : T) (result : Result Identity IdentityError) (asks : AsksKey words.tails start.settings file fresh tail result) (mid : Beginning T W L)
      (opened : HasOpened words.tails file fresh old mid) where
    pub has : HasTail words.tails start.settings file fresh tail result asks begin of_input.rule old.folder.told mid.folder.told
    has = has_tail words.tails start.settings file fresh tail result asks begin of_input.rule old.folder.states old.folder.present old.folder.told mid.folder.told opened.opens.told

    -- and closed again, with nothing told
    closed_shown : (later : Option FolderHistory) → later ≡ with_events (closing_of (words.tails.told tail) (words.tails.faults tail)) mid.folder.told → HasShown start.settings start.shown later (files_of so_far)
    closed_shown later closes =
        unread_shown start.settings so_far has.one (words.tails.told tail) has.reads (words.tails.faults tail) start.shown old.folder.told mid.folder.told later stands.files.shown has.shown closes

  closed_again : (Why : T → T → Type 0) (new : Beginning T W L) → ClosesFile words.tails start.settings file Why old new → StandsIn new so_far
  closed_again Why new is = with_shown new (is.closed.closed.crew ∙ is.opened.crew) (is.closed.closed.keeper ∙ is.opened.keeper)
      (closed_shown is.fresh is.closed.asked is.closed.result is.closed.asks is.mid is.opened new.folder.told is.closed.closed.closes.told)

  -- ---- it has the key with which it was listed

  module _ (fresh tail : T) (found : HasListedKey words.tails start.settings file fresh tail) (mid : Beginning T W L) (opened : HasOpened words.tails file fresh old mid) where
    abbrev it : HasTail words.tails start.settings file fresh tail (Ok (Key found.key)) found.asks begin of_input.rule old.folder.told mid.folder.told
    it = has fresh tail (Ok (Key found.key)) found.asks mid opened

    abbrev one : Opened
    one = it.one

    same_rule : (x y : InputRule) → Some x ≡ Some y → x ≡ y
    same_rule x y e = cc

    same_key : (x y : List ℕ) → Some x ≡ Some y → x ≡ y
    same_key x y e = cc

    -- the rule of its input
    its_input : (rule : InputRule) → slice_get start.settings.inputs file.listed.input ≡ Some rule → rule ≡ one.rule
    its_input rule is = same_rule rule of_input.rule (sym is ∙ of_input.rule_is) ∙ sym it.rule_is

    its_range : IsGroupRule one.rule.multiline
    its_range = subst (λ (r : InputRule). IsGroupRule r.multiline) (sym it.rule_is) of_input.in_range

    its_rule : IsRuled start.settings one
    its_rule = record {
      rule_is = ap (λ (g : Begin). slice_get start.settings.inputs g.input) it.begin_is ∙ of_input.rule_is ∙ ap Some (sym it.rule_is);
      in_range = its_range;
    }

    its_key : IsSome start.shown → IsKeyed one
    its_key some =
        let tells = shown_tells start.settings so_far one (words.tails.told tail) start.shown old.folder.told mid.folder.told stands.files.shown it.shown some in
        let gave = of_told (words.tails.told tail) tells it.gave in
        subst (λ (r : InputRule). GivesKey r one.begin.key one.begin.path one.file one.asked) (its_input found.asks.rule found.asks.rule_is)
        (subst (λ (g : Begin). GivesKey found.asks.rule g.key g.path one.file one.asked) (sym it.begin_is)
        (record { asking = gave.0; gave = gave.1 ∙ ap Some (same_key found.key unopened.key (sym found.listed ∙ unopened.keyed)) }))
      where
        of_told : (o : Option TailHistory) → IsSome o → IfSome o (λ told. IsGiven found.asks.rule.id found.asks.rule.file_identity file.listed.path one.file one.asked (Ok (Key found.key))) →
            IsGiven found.asks.rule.id found.asks.rule.file_identity file.listed.path one.file one.asked (Ok (Key found.key))
        of_told None some gave = absurd (let q : false ≡ true = some in cc)
        of_told (Some told) some gave = gave

    -- its place in the folder's list is after all that was listed
    after_scan : IsSome start.shown → WasOpenedAfter unopened.newest.scan one
    after_scan some = by_shown start.shown old.folder.told mid.folder.told stands.files.shown it.shown some
      where
        by_shown : (first folder later : Option FolderHistory) → HasShown start.settings first folder (files_of so_far) → IsShown folder one (words.tails.told tail) later → IsSome first → WasOpenedAfter unopened.newest.scan one
        by_shown None folder later was shows is_some = absurd (let q : false ≡ true = is_some in cc)
        by_shown (Some first) None later was shows is_some = absurd was
        by_shown (Some first) (Some folder) later was shows is_some = by_told unopened.newest.scan.told refl
          where
            by_told : (o : Option ToldScan) → unopened.newest.scan.told ≡ o → IfSome o (λ told. length told.scanned.events ≤ one.opening)
            by_told None e = tt
            by_told (Some told) e =
                let within = scanned_within start.settings first (told_in so_far.scans) folder was.scans told
                (told_there so_far.scans unopened.newest.scan told e (newest_among so_far.scans file.listed unopened.newest)) in
                let at = shows.opening in
                omega (arith, within, at)

    as_listed : IsOpenedAsListed start.settings start.shown start.opening start.listed so_far.scans one
    as_listed = inr (record {
      scan = unopened.newest.scan;
      of_scans = newest_among so_far.scans file.listed unopened.newest;
      one = file.listed;
      among = unopened.newest.among;
      keyed = unopened.keyed ∙ ap (λ (g : Begin). Some g.key) (sym it.begin_is);
      start = file.start;
      starts = subst (λ (g : Begin). IsKnownStart start.opening start.listed g.slot g.key file.start) (sym it.begin_is) unopened.starts;
      begin_is = it.begin_is ∙ ap (λ (g : Begin). begin_for g.slot file.listed g.key file.start) (sym it.begin_is);
      long_enough = long_enough;
      after = after_scan;
      rule_is = of_input.rule_is ∙ ap Some (sym it.rule_is);
      in_range = its_range;
    })

    its_listing : IsSome start.shown → WasListedSo start.listed so_far.scans one
    its_listing some = inr (record {
      front = unopened.newest.before;
      scan = unopened.newest.scan;
      behind = [];
      scans_are = unopened.newest.scans_are;
      by_entry = record {
        entry = file.listed;
        there = unopened.newest.among;
        keyed = unopened.keyed ∙ ap (λ (g : Begin). Some g.key) (sym it.begin_is);
        path_is = ap (λ (g : Begin). g.path) it.begin_is;
        input_is = ap (λ (g : Begin). g.input) it.begin_is;
        size_is = ap (λ (g : Begin). g.size) it.begin_is;
      };
      since = after_scan some;
      until = tt;
    })

    free : IsFreeSlot one.begin.slot so_far
    free = subst (λ (g : Begin). IsFreeSlot g.slot so_far) (sym it.begin_is) unopened.free

    its_begin : IsBeginFor file.slot file.listed file.start one.begin
    its_begin = record { key = unopened.key; key_is = unopened.keyed; is = it.begin_is }

    -- the keeper was told its Begin
    told_begin : (new : Keeping) → TellsBegin file.slot file.listed file.start mid.keeper new → TellsNotes (noted_begin one.begin ∷ []) old.keeper new
    told_begin new told =
        subst (λ (k : Keeping). TellsNotes (noted_begin one.begin ∷ []) k new) opened.keeper
        (subst (λ (g : Begin). TellsNotes (noted_begin g ∷ []) mid.keeper new)
        (ap (λ (k : List ℕ). begin_for file.slot file.listed k file.start) (same_key told.key unopened.key (sym told.key_is ∙ unopened.keyed)) ∙ sym it.begin_is) told.tells)

    turns : (harvester : Harvester T) → IsOpenedFor words.tails start.settings file tail harvester →
        IsTurnedSo words.tails.numbers words.tails.told (watch_of start so_far.scans) (put_opened one so_far.opened) so_far.moments (opened_now start.settings.processors one file.now.0) harvester
    turns harvester is =
        stands_opened words.tails.numbers words.tails.told (watch_of start so_far.scans) (put_opened one so_far.opened) so_far.moments one file.now.0 harvester
        (put_there one so_far.opened) ends told_so
        (subst (λ (t : T). IfSome (words.tails.told t) (IsTailOf one)) (sym is.tail_kept) it.tail_is)
        (subst (λ (t : T). IfSome (words.tails.told t) TellsLooks) (sym is.tail_kept) it.tells)
        (subst (λ (t : T). IfSome (words.tails.told t) (λ told. words.tails.numbers t ≡ one.file.numbers)) (sym is.tail_kept) it.numbers_are)
        is.at_work
      where
        begin_same : is.begin ≡ one.begin
        begin_same = is.begins.is ∙ ap (λ (k : List ℕ). begin_for file.slot file.listed k file.start) (same_key is.begins.key unopened.key (sym is.begins.key_is ∙ unopened.keyed)) ∙ sym it.begin_is

        told_so : HasTold words.tails.numbers words.tails.told (history.opened one.rule start.settings.processors one.begin one.asked file.now.0) harvester
        told_so =
            subst (λ (r : InputRule). HasTold words.tails.numbers words.tails.told (history.opened r start.settings.processors one.begin one.asked file.now.0) harvester) (its_input is.rule is.rule_is)
            (subst (λ (g : Begin). HasTold words.tails.numbers words.tails.told (history.opened is.rule start.settings.processors g one.asked file.now.0) harvester) begin_same
            (subst (λ (l : List Look). HasTold words.tails.numbers words.tails.told (history.opened is.rule start.settings.processors is.begin l file.now.0) harvester) it.looks_are is.told))

    -- it is followed
    module _ (new : Beginning T W L) (follows_it : Follows words.tails start.settings file tail mid new) where
      abbrev harvester : Harvester T
      harvester = follows_it.harvester

      abbrev taken : TakesIn file follows_it.harvester mid new
      taken = follows_it.taken

      admits : AdmitsAt (file.slot.0 % length old.crew.lanes.items) harvester (lanings old.crew.lanes.items) (lanings new.crew.lanes.items)
      admits = subst (λ (c : Crew T W L). AdmitsAt (file.slot.0 % length c.lanes.items) harvester (lanings c.lanes.items) (lanings new.crew.lanes.items)) opened.crew taken.admits

      others_are : new.crew ≡ record old.crew { lanes = new.crew.lanes }
      others_are = subst (λ (c : Crew T W L). new.crew ≡ record c { lanes = new.crew.lanes }) opened.crew taken.others

      abbrev its_shown : IsShown old.folder.told one (words.tails.told harvester.tail) mid.folder.told
      its_shown = subst (λ (t : T). IsShown old.folder.told one (words.tails.told t) mid.folder.told) (sym follows_it.opened.tail_kept) it.shown

      abbrev later_so : SoFar
      later_so = after words reads counts start moments a b file.now.0 old.folder.told old.crew old.keeper so_far stands one as_listed its_rule its_key free its_listing new.keeper
          (told_begin new.keeper taken.tells) harvester (turns harvester follows_it.opened) (file.slot.0 % length old.crew.lanes.items) new.crew admits others_are mid.folder.told its_shown

      pub record OpenedSo : Type 0 where
        pub opening : Opened
        pub begins : IsBeginFor file.slot file.listed file.start opening.begin
        pub later : SoFar
        pub first : IsOpenedFirst start.settings.processors file.now.0 opening so_far later
        pub stands_so : StandsIn new later

      pub opened_so : OpenedSo
      opened_so = record {
        opening = one;
        begins = its_begin;
        later = later_so;
        first = is_opened_first words reads counts start moments a b file.now.0 old.folder.told old.crew old.keeper so_far stands one as_listed its_rule its_key free its_listing new.keeper
            (told_begin new.keeper taken.tells) harvester (turns harvester follows_it.opened) (file.slot.0 % length old.crew.lanes.items) new.crew admits others_are mid.folder.told its_shown;
        stands_so = subst (λ (f : FolderSeen). Stands words start (at_phase words start moments a b f.told new.crew new.keeper Leaving) later_so) (sym taken.folder)
            (stands_opened_first words reads counts start moments a b file.now.0 old.folder.told old.crew old.keeper so_far stands one as_listed its_rule its_key free its_listing new.keeper
            (told_begin new.keeper taken.tells) harvester (turns harvester follows_it.opened) (file.slot.0 % length old.crew.lanes.items) new.crew admits others_are mid.folder.told its_shown);
      }

    -- or its tail was closed again, out of memory
    given_up : (new : Beginning T W L) → GivesUp words.tails file tail mid new → Further words start (at_phase words start moments a b new.folder.told new.crew new.keeper Leaving)
    given_up new up = by_keeper up.keeper
      where
        lanes_so : SameLanes old.crew new.crew
        lanes_so = subst (λ (c : Crew T W L). SameLanes c new.crew) opened.crew up.lanes

        as_new : (later : SoFar) → Stands words start (at_phase words start moments a b new.folder.told old.crew new.keeper Leaving) later →
            Further words start (at_phase words start moments a b new.folder.told new.crew new.keeper Leaving)
        as_new later is = record { so_far = later; stands = stands_same words start moments a b new.folder.told old.crew new.crew new.keeper Leaving later lanes_so is }

        by_keeper : (new.keeper ≡ mid.keeper) ⊎ TellsBegin file.slot file.listed file.start mid.keeper new.keeper → Further words start (at_phase words start moments a b new.folder.told new.crew new.keeper Leaving)
        by_keeper (inl same) = as_new so_far
            (with_shown (record { folder = new.folder; crew = old.crew; keeper = new.keeper }) refl (same ∙ opened.keeper)
            (closed_shown fresh tail (Ok (Key found.key)) found.asks mid opened new.folder.told up.closes.told))
        by_keeper (inr told) = as_new
            (left_after words reads counts start moments a b file.now.0 old.folder.told old.crew old.keeper so_far stands one as_listed its_rule its_key free its_listing new.keeper
            (told_begin new.keeper told) (words.tails.told tail) it.looks_are it.reads it.tail_is it.tells ends (words.tails.faults tail) mid.folder.told new.folder.told it.shown up.closes.told)
            (stands_given_up words reads counts start moments a b file.now.0 old.folder.told old.crew old.keeper so_far stands one as_listed its_rule its_key free its_listing new.keeper
            (told_begin new.keeper told) (words.tails.told tail) it.looks_are it.reads it.tail_is it.tells ends (words.tails.faults tail) mid.folder.told new.folder.told it.shown up.closes.told)

  -- ---- whatever it came to

  abbrev Leaves : Beginning T W L → Type 0
  Leaves new = Further words start (at_phase words start moments a b new.folder.told new.crew new.keeper Leaving)

  as_it_was : (new : Beginning T W L) → StandsIn new so_far → Leaves new
  as_it_was new is = record { so_far = so_far; stands = is }

  pub not_followed : (begun : Admission) → (begun ≡ Followed → ⊥) → (new : Beginning T W L) → BeginsOne words.tails start.settings file (Ok begun) old new → StandsIn new so_far
  not_followed Followed other new is = absurd (other refl)
  not_followed (Skipped Gone) other new is = none_found new is
  not_followed (Skipped Moved) other new is = closed_again _ new is
  not_followed (Skipped Doubled) other new is = absurd is
  not_followed (Skipped Old) other new is = absurd is
  not_followed (Skipped Small) other new is = closed_again _ new is
  not_followed Failed other new (inl none) = failed_opening new none
  not_followed Failed other new (inr is) = closed_again _ new is

  pub ended_so : (what : BeginError) (new : Beginning T W L) → BeginsOne words.tails start.settings file (Err what) old new → Leaves new
  ended_so error.FolderFault new is = absurd is
  ended_so error.NoMemory new (inl none) = as_it_was new (without_memory new none)
  ended_so error.NoMemory new (inr (inl up)) = given_up up.fresh up.tail up.keyed up.mid up.opened new up.gives_up
  ended_so error.NoMemory new (inr (inr is)) = as_it_was new (closed_again _ new is)
  ended_so (error.NoNative slot) new is = as_it_was new (closed_again _ new is.1)

-- ---- the step

module _ {T W L D F K B : Type 0} (words : StepWords T W L D F K B) (reads : (disk : D) → IfSome (words.all.disks.contents disk) (words.all.disks.images disk))
    (counts : (disk : D) (at : ℕ) (image : List ℕ) → at ≤ words.all.disks.moment disk → words.all.disks.images disk image → words.all.disks.images_since disk at image)
    (context : Context) (file : ListedFile) (result : Result Admission BeginError) (now : Stop T W L D F K B) (folder : F) (crew : Crew T W L) (keeper : Keeping)
    (may : MayOpenFirst words context file result (leaving now) (leaving (with_opened now folder crew keeper))) where
  pub is_opening_step : IsOpeningStep words context file result (leaving now) (leaving (with_opened now folder crew keeper))
  is_opening_step start so_far by stands unopened = by_result result begins
    where
      at : StandsAt words.all start (moments_at words now) now.crew now.storing.keeper.now now.storing.a.now now.storing.b.now Leaving (words.seen now.system.folder.now).told so_far file.now.0
      at = stands_at words.all start (moments_at words now) now.crew now.storing.keeper.now now.storing.a.now now.storing.b.now Leaving (words.seen now.system.folder.now).told so_far file.now.0 stands may.moment

      begins : BeginsOne words.all.tails start.settings file result (beginning_at words now) (record { folder = words.seen folder; crew = crew; keeper = keeper })
      begins = subst (λ (s : Settings). BeginsOne words.all.tails s file result (beginning_at words now) (record { folder = words.seen folder; crew = crew; keeper = keeper })) (sym by.settings) may.begins

      of_input : IsOfRuledInput start.settings file.listed
      of_input = subst (λ (s : Settings). IsOfRuledInput s file.listed) (sym by.settings) may.of_input

      unopened_now : IsListedUnopened start file (record so_far { moments = so_far.moments ++ at.more })
      unopened_now = record {
        newest = unopened.newest;
        key = unopened.key;
        keyed = unopened.keyed;
        starts = unopened.starts;
        new_key = record { no_file = unopened.new_key.no_file; no_hidden = unopened.new_key.no_hidden };
        free = record { no_file = unopened.free.no_file; no_hidden = unopened.free.no_hidden };
      }

      other_than : (begun : Admission) → (begun ≡ Followed → ⊥) → BeginsOne words.all.tails start.settings file (Ok begun) (beginning_at words now) (record { folder = words.seen folder; crew = crew; keeper = keeper }) →
          Stands words.all start (at_phase words.all start (moments_at words now) now.storing.a.now now.storing.b.now (words.seen folder).told crew keeper Leaving) (record so_far { moments = so_far.moments ++ at.more })
      other_than begun other is = not_followed words.all reads counts start (moments_at words now) now.storing.a.now now.storing.b.now file (beginning_at words now) (record so_far { moments = so_far.moments ++ at.more })
          at.stands unopened_now of_input may.long_enough at.ends begun other (record { folder = words.seen folder; crew = crew; keeper = keeper }) is

      by_result : (r : Result Admission BeginError) → BeginsOne words.all.tails start.settings file r (beginning_at words now) (record { folder = words.seen folder; crew = crew; keeper = keeper }) →
          StandsOnceOpened words context file r start so_far (leaving (with_opened now folder crew keeper))
      by_result (Ok Followed) is =
          let so = opened_so words.all reads counts start (moments_at words now) now.storing.a.now now.storing.b.now file (beginning_at words now) (record so_far { moments = so_far.moments ++ at.more })
          at.stands unopened_now of_input may.long_enough at.ends is.fresh is.tail is.keyed is.mid is.opened (record { folder = words.seen folder; crew = crew; keeper = keeper }) is.follows in
          record {
            more = at.more;
            one = so.opening;
            begins = so.begins;
            later = so.later;
            first = subst (λ (s : Settings). IsOpenedFirst s.processors file.now.0 so.opening (record so_far { moments = so_far.moments ++ at.more }) so.later) by.settings so.first;
            stands = so.stands_so;
          }
      by_result (Ok (Skipped why)) is = record { more = at.more; stands = other_than (Skipped why) (λ same. let q : Skipped why ≡ Followed = same in cc) is }
      by_result (Ok Failed) is = record { more = at.more; stands = other_than Failed (λ same. let q : Failed ≡ Followed = same in cc) is }
      by_result (Err what) is =
          ended_so words.all reads counts start (moments_at words now) now.storing.a.now now.storing.b.now file (beginning_at words now) (record so_far { moments = so_far.moments ++ at.more })
          at.stands unopened_now of_input may.long_enough at.ends what (record { folder = words.seen folder; crew = crew; keeper = keeper }) is

-- ---- rounds may follow

module _ {T W L D F K B : Type 0} (words : StepWords T W L D F K B) where
  pub openings_keep_ready : OpeningsKeepReady words
  openings_keep_ready context file result now folder crew keeper begins ready =
      let keeps = begin_keeps words.all.tails context.settings.now file result (beginning_at words now) (beginning_at words (with_opened now folder crew keeper)) begins in
      let others = keeper_others words.all.tails context.settings.now file (beginning_at words now) (beginning_at words (with_opened now folder crew keeper)) keeps in
      record {
        able = able_on words.all.tails context.settings.now file (beginning_at words now) (beginning_at words (with_opened now folder crew keeper)) keeps
            context.outlets.queue.now.id context.outlets.desk.now.id now.storing (with_opened now folder crew keeper).storing (ap (λ (k : Keeping). k.pass) others) ready.able;
        is_open = ap (λ (k : Keeping). k.store.closed) others ∙ ready.is_open;
      }
