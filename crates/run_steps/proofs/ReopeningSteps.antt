-- A step that opens a file again keeps what stands of a run, whatever it answers.
use Rattle.std.proofs.Common.{◌≡◌, ◌⊎◌, inl, inr, ℕ, ◌+◌, ◌%◌, ◌==◌, ◌≤◌, nat_le, Bool, true, false, List, [], ◌∷◌, ◌++◌, Contains, length, Option, Some, None, IsSome, IfSome, Result, Ok, Err, if◌then◌else◌, refl, sym, ap, subst, ◌∙◌, arith}
use Rattle.std.specs.Prelude.{slice_get}
use Rattle.std.proofs.lemmas.Bool.{eq-eqb, ne_eqb}
use Rattle.accounts.specs.FollowedFile.{start_in}
use Rattle.accounts.specs.Opened.{IsTailOf, Opened}
use Rattle.accounts.specs.Turning.{IsTurnedSo}
use Rattle.accounts.proofs.Onward.{stands_opened}
use Rattle.accounts.proofs.Orderly.{member_is}
use Rattle.event_tree.specs.declared.input_rule.InputRule.{InputRule}
use Rattle.event_tree.specs.declared.settings.Settings.{Settings}
use Rattle.file_identity.specs.AskedAgain.{GivesKey}
use Rattle.file_identity.specs.Answers.{IsGiven}
use Rattle.file_identity.specs.declared.identity.Identity.{Identity}
use Rattle.file_identity.specs.declared.identity.Identity.TheVariants.{Key}
use Rattle.file_identity.specs.declared.identity_error.IdentityError.{IdentityError}
use Rattle.file_looks.specs.Looks.{TellsLooks}
use Rattle.harvester.specs.HasTold.{HasTold}
use Rattle.harvester.specs.History as history
use Rattle.harvester.specs.History.{told_to}
use Rattle.harvester.specs.Standing.{EndsAt}
use Rattle.harvester.specs.declared.harvester.Harvester.{Harvester}
use Rattle.keeper.specs.Keeping.{Keeping}
use Rattle.kept_rows.specs.Followed.{Start as KeptStart}
use Rattle.outside.specs.Folders.{FolderHistory}
use Rattle.outside.specs.Tails.{TailHistory}
use Rattle.outside.specs.declared.failed.FolderError.TheVariants.{Failed as Failing, NoMemory as WithoutMemory}
use Rattle.outside.specs.declared.history.Look.{Look}
use Rattle.report.specs.declared.passing.Why.TheVariants.{Doubled, Gone, Moved, Old, Small}
use Rattle.restart_join.specs.declared.start.Start.{Start}
use Rattle.rounds.specs.Crewed.{lanings}
use Rattle.rounds.specs.Words.{Words}
use Rattle.rounds.specs.declared.crew.Crew.{Crew}
use Rattle.slot_parts.specs.Account.{goes_on}
use Rattle.wire_base.specs.declared.note.Begin.{Begin}
use Rattle.wire_base.specs.declared.note.Note.{Note}
use Rattle.wire_base.specs.declared.note.Note.TheVariants.{Announce}
use Rattle.run_steps.specs.Began.{Began}
use Rattle.run_steps.specs.BeginFor.{begin_for}
use Rattle.run_steps.specs.Beginning.{AdmitsAt, AsksKey, Beginning, ClosesFile, HasListedKey, HasOpened, IsOpenedFor, OpensNone, SameLanes}
use Rattle.run_steps.specs.Begun.{IsKeyed, IsRuled}
use Rattle.run_steps.specs.Earlier.{AreOfOneFile}
use Rattle.run_steps.specs.FolderSeen.{FolderSeen}
use Rattle.run_steps.specs.ListedSo.{WasListedSo, newest_files}
use Rattle.run_steps.specs.OpenedAgain.{IsClosedLast, IsOpenedAgain, goes_on_behind}
use Rattle.run_steps.specs.Releasing.{closing_of, with_events}
use Rattle.run_steps.specs.Goes.{StepWords, Stop, moments_at}
use Rattle.run_steps.specs.Reopening.{AnnouncesRise, FollowsAgain, GivesUpAgain, KnownFile, ReopensOne, TakesInAgain, goes_on_at}
use Rattle.run_steps.specs.ReopeningSteps.{IsKnownAs, IsReopeningStep, MayOpenAgain, StandsBehind, beginning_at, leaving, with_opened}
use Rattle.run_steps.specs.RunState.{Finished, Leaving, Reading}
use Rattle.run_steps.specs.Shown.{HasShown}
use Rattle.run_steps.specs.SoFar.{Earlier, SoFar, announced_by, files_of, with_opening}
use Rattle.run_steps.specs.Stands.{Further, Stands, watch_of}
use Rattle.run_steps.specs.Telling.{TellsNotes}
use Rattle.run_steps.specs.declared.begin_error.BeginError.{BeginError}
use Rattle.run_steps.specs.declared.begin_error.BeginError.TheVariants as error
use Rattle.run_steps.specs.declared.begin.Admission.{Admission}
use Rattle.run_steps.specs.declared.begin.Admission.TheVariants.{Failed, Followed, Skipped}
use Rattle.run_steps.specs.declared.context.Context.{Context}
use Rattle.run_steps.proofs.BeginningOne.{at_phase, stands_same}
use Rattle.run_steps.proofs.BeginningSteps.{shown_tells}
use Rattle.run_steps.proofs.BegunFolder.{error_shown, none_shown, unread_shown}
use Rattle.run_steps.proofs.ListedSo.{listed_newest}
use Rattle.run_steps.proofs.Notes.{none_told}
use Rattle.run_steps.proofs.ReopenedStands.{after, is_opened_again, left_after, stands_again, stands_unread}
use Rattle.run_steps.proofs.ScanSteps.{StandsAt, stands_at}
use Rattle.run_steps.proofs.TailOpened.{HasTail, IsShown, has_tail, opened_now}
use Rattle.run_steps.proofs.WithOpening.{next_there}

-- the same place, in the words of accounts
same_start : (epoch place size : ℕ) (start : Start) → start ≡ goes_on_at (record { epoch = epoch; base = place }) size → ◌≡◌ {A = KeptStart} (record { epoch = start.epoch; base = start.base }) (goes_on epoch place size)
same_start epoch place size start is = by_size (nat_le place size) is
  where
    by_size : (b : Bool) → start ≡ (if b then record { epoch = epoch; base = place } else record { epoch = epoch + 1; base = 0 }) →
        ◌≡◌ {A = KeptStart} (record { epoch = start.epoch; base = start.base }) (if b then record { epoch = epoch; base = place } else record { epoch = epoch + 1; base = 0 })
    by_size true same = ap (λ (s : Start). record { epoch = s.epoch; base = s.base }) same
    by_size false same = ap (λ (s : Start). record { epoch = s.epoch; base = s.base }) same

-- an opening comes after all that was reported before it
placed_now : (tail : Option TailHistory) (one : Opened) (before later : Option FolderHistory) → IsShown before one tail later → IfSome before (λ told. one.opening ≡ length told.events)
placed_now tail one None later shown = tt
placed_now tail one (Some before) later shown = shown.opening

module _ {T W L D : Type 0} (words : Words T W L D) (reads : (disk : D) → IfSome (words.disks.contents disk) (words.disks.images disk))
    (counts : (disk : D) (at : ℕ) (image : List ℕ) → at ≤ words.disks.moment disk → words.disks.images disk image → words.disks.images_since disk at image)
    (start : Began D) (moments : Option (List ℕ)) (a b : D) (known : KnownFile) (old : Beginning T W L) (so_far : SoFar)
    (stands : Stands words start (at_phase words start moments a b old.folder.told old.crew old.keeper Leaving) so_far) (follows : start.once ≡ false) (last : Opened) (closed : IsClosedLast (files_of so_far) last)
    (is_known : IsKnownAs known so_far last closed) (newest : Contains (newest_files start.listed so_far.scans) known.file.listed) (ends : EndsAt so_far.moments known.file.now.0) where
  abbrev StandsIn : Beginning T W L → SoFar → Type 0
  StandsIn new later = Stands words start (at_phase words start moments a b new.folder.told new.crew new.keeper Leaving) later

  -- nothing but what the folder tells has changed
  with_shown : (new : Beginning T W L) → new.crew ≡ old.crew → new.keeper ≡ old.keeper → HasShown start.settings start.shown new.folder.told (files_of so_far) → StandsIn new so_far
  with_shown new crew keeper has =
      subst (λ (c : Crew T W L). Stands words start (at_phase words start moments a b new.folder.told c new.keeper Leaving) so_far) (sym crew)
      (subst (λ (k : Keeping). Stands words start (at_phase words start moments a b new.folder.told old.crew k Leaving) so_far) (sym keeper) (record {
        files = record {
          opened = stands.files.opened;
          ruled = stands.files.ruled;
          keyed = stands.files.keyed;
          each_once = stands.files.each_once;
          turned = stands.files.turned;
          left = stands.files.left;
          earlier = stands.files.earlier;
          forgotten = stands.files.forgotten;
          reading = λ is. absurd (let no : Leaving ≡ Reading = is in cc);
          finished = λ is some. absurd (let no : Leaving ≡ Finished = is in cc);
          over = tt;
          read = λ yet some. absurd yet;
          answered = λ may some. absurd may;
          following = λ follows. absurd follows;
          tell = stands.files.tell;
          left_tell = stands.files.left_tell;
          listed = stands.files.listed;
          scans = stands.files.scans;
          shown = has;
          given = stands.files.given;
        };
        books = stands.books;
        notes = stands.notes;
        areas = stands.areas;
      }))

  none_there : (new : Beginning T W L) → OpensNone words.tails known.file (Ok None) old new → StandsIn new so_far
  none_there new none = with_shown new none.crew none.keeper
      (none_shown start.settings so_far known.file.listed.path words.tails old.folder.states old.folder.present start.shown old.folder.told new.folder.told stands.files.shown none.opens.told)

  failed_opening : (new : Beginning T W L) → OpensNone words.tails known.file (Err Failing) old new → StandsIn new so_far
  failed_opening new none = with_shown new none.crew none.keeper
      (error_shown start.settings so_far known.file.listed.path words.tails old.folder.states old.folder.present Failing start.shown old.folder.told new.folder.told stands.files.shown none.opens.told)

  without_memory : (new : Beginning T W L) → OpensNone words.tails known.file (Err WithoutMemory) old new → StandsIn new so_far
  without_memory new none = with_shown new none.crew none.keeper
      (error_shown start.settings so_far known.file.listed.path words.tails old.folder.states old.folder.present WithoutMemory start.shown old.folder.told new.folder.told stands.files.shown none.opens.told)

  -- ---- a file was opened

  abbrev begin : Begin
  begin = begin_for known.file.slot known.file.listed last.begin.key known.file.start

  module _ (fresh tail : T) (result : Result Identity IdentityError) (asks : AsksKey words.tails start.settings known.file fresh tail result) (mid : Beginning T W L)
      (opened : HasOpened words.tails known.file fresh old mid) where
    pub has : HasTail words.tails start.settings known.file fresh tail result asks begin last.rule old.folder.told mid.folder.told
    has = has_tail words.tails start.settings known.file fresh tail result asks begin last.rule old.folder.states old.folder.present old.folder.told mid.folder.told opened.opens.told

    -- and closed again, with nothing told
    closed_shown : (later : Option FolderHistory) → later ≡ with_events (closing_of (words.tails.told tail) (words.tails.faults tail)) mid.folder.told → HasShown start.settings start.shown later (files_of so_far)
    closed_shown later closes =
        unread_shown start.settings so_far has.one (words.tails.told tail) has.reads (words.tails.faults tail) start.shown old.folder.told mid.folder.told later stands.files.shown has.shown closes

  closed_again : (Why : T → T → Type 0) (new : Beginning T W L) → ClosesFile words.tails start.settings known.file Why old new → StandsIn new so_far
  closed_again Why new is = with_shown new (is.closed.closed.crew ∙ is.opened.crew) (is.closed.closed.keeper ∙ is.opened.keeper)
      (closed_shown is.fresh is.closed.asked is.closed.result is.closed.asks is.mid is.opened new.folder.told is.closed.closed.closes.told)

  -- ---- it has the key still

  module _ (fresh tail : T) (found : HasListedKey words.tails start.settings known.file fresh tail) (mid : Beginning T W L) (opened : HasOpened words.tails known.file fresh old mid) where
    abbrev it : HasTail words.tails start.settings known.file fresh tail (Ok (Key found.key)) found.asks begin last.rule old.folder.told mid.folder.told
    it = has fresh tail (Ok (Key found.key)) found.asks mid opened

    abbrev next : Opened
    next = it.one

    is_ruled : IsRuled start.settings last
    is_ruled = member_is (IsRuled start.settings) so_far.opened last stands.files.ruled closed.among

    same_rule : (x y : InputRule) → Some x ≡ Some y → x ≡ y
    same_rule x y e = cc

    same_key : (x y : List ℕ) → Some x ≡ Some y → x ≡ y
    same_key x y e = cc

    -- the rule of its input
    of_input : (rule : InputRule) → slice_get start.settings.inputs known.file.listed.input ≡ Some rule → rule ≡ last.rule
    of_input rule is = same_rule rule last.rule (sym is ∙ ap (slice_get start.settings.inputs) is_known.input ∙ is_ruled.rule_is)

    key_is : found.key ≡ last.begin.key
    key_is = same_key found.key last.begin.key (sym found.listed ∙ is_known.key)

    of_one : AreOfOneFile last next
    of_one = record {
      slot = sym is_known.slot ∙ ap (λ (g : Begin). g.slot) (sym it.begin_is);
      input = sym is_known.input ∙ ap (λ (g : Begin). g.input) (sym it.begin_is);
      key = ap (λ (g : Begin). g.key) (sym it.begin_is);
      rule = sym it.rule_is;
    }

    starts : start_in next ≡ goes_on_behind closed.left next.begin.size
    starts = ap (λ (g : Begin). record { epoch = g.epoch.0; base = g.base }) it.begin_is
        ∙ same_start closed.left.turned.history.present.epoch (told_to closed.left.turned.history.present) known.file.listed.size known.file.start is_known.start
        ∙ ap (λ (g : Begin). goes_on_behind closed.left g.size) (sym it.begin_is)

    keyed : IsSome start.shown → IsKeyed next
    keyed some =
        let tells = shown_tells start.settings so_far next (words.tails.told tail) start.shown old.folder.told mid.folder.told stands.files.shown it.shown some in
        let gave = of_told (words.tails.told tail) tells it.gave in
        subst (λ (r : InputRule). GivesKey r next.begin.key next.begin.path next.file next.asked) (of_input found.asks.rule found.asks.rule_is ∙ sym it.rule_is)
        (subst (λ (g : Begin). GivesKey found.asks.rule g.key g.path next.file next.asked) (sym it.begin_is) (record { asking = gave.0; gave = gave.1 ∙ ap Some key_is }))
      where
        of_told : (o : Option TailHistory) → IsSome o → IfSome o (λ told. IsGiven found.asks.rule.id found.asks.rule.file_identity known.file.listed.path next.file next.asked (Ok (Key found.key))) →
            IsGiven found.asks.rule.id found.asks.rule.file_identity known.file.listed.path next.file next.asked (Ok (Key found.key))
        of_told None some gave = absurd (let q : false ≡ true = some in cc)
        of_told (Some told) some gave = gave

    -- by the entry with which the step was called, which the newest scan listed
    listed_so : IsSome start.shown → WasListedSo start.listed so_far.scans next
    listed_so some = by_case start.shown old.folder.told mid.folder.told stands.files.shown it.shown some
      where
        by_case : (first folder later : Option FolderHistory) → HasShown start.settings first folder (files_of so_far) → IsShown folder next (words.tails.told tail) later → IsSome first →
            WasListedSo start.listed so_far.scans next
        by_case None folder later was shows some = absurd (let no : false ≡ true = some in cc)
        by_case (Some first) None later was shows some = absurd was
        by_case (Some first) (Some folder) later was shows some =
            listed_newest start.settings folder start.listed first so_far.scans was.scans known.file.listed newest next (let at = shows.opening in omega (arith, at)) (λ files there. record {
              entry = known.file.listed;
              there = there;
              keyed = is_known.key ∙ ap Some of_one.key;
              path_is = ap (λ (g : Begin). g.path) it.begin_is;
              input_is = ap (λ (g : Begin). g.input) it.begin_is;
              size_is = ap (λ (g : Begin). g.size) it.begin_is;
            })

    abbrev one : Earlier
    one = record { opened = last; left = closed.left; next = next }

    -- the keeper was told its epoch, if that rose
    announced : (new : Keeping) → AnnouncesRise known mid.keeper new → TellsNotes (announced_by one) old.keeper new
    announced new (inl same) =
        let is : (next.begin.epoch.0 == closed.left.turned.history.present.epoch) ≡ true =
        eq-eqb next.begin.epoch.0 closed.left.turned.history.present.epoch (ap (λ (g : Begin). g.epoch.0) it.begin_is ∙ same.0 ∙ is_known.epoch) in
        subst (λ (c : Bool). TellsNotes (if c then [] else Announce last.begin.slot next.begin.epoch ∷ []) old.keeper new) (sym is)
        (subst (TellsNotes [] old.keeper) (sym (same.1 ∙ opened.keeper)) (none_told old.keeper))
    announced new (inr rose) =
        let is : (next.begin.epoch.0 == closed.left.turned.history.present.epoch) ≡ false =
        ne_eqb next.begin.epoch.0 closed.left.turned.history.present.epoch (λ same. rose.0 (ap (λ (g : Begin). g.epoch.0) (sym it.begin_is) ∙ same ∙ sym is_known.epoch)) in
        subst (λ (c : Bool). TellsNotes (if c then [] else Announce last.begin.slot next.begin.epoch ∷ []) old.keeper new) (sym is)
        (subst (λ (note : Note). TellsNotes (note ∷ []) old.keeper new) (λ k. Announce (is_known.slot k) (sym it.begin_is k).epoch)
        (subst (λ (k : Keeping). TellsNotes (Announce known.file.slot (record { 0 = known.file.start.epoch }) ∷ []) k new) opened.keeper rose.1))

    turns : (harvester : Harvester T) → IsOpenedFor words.tails start.settings known.file tail harvester →
        IsTurnedSo words.tails.numbers words.tails.told (watch_of start so_far.scans) (with_opening next so_far.opened) so_far.moments (opened_now start.settings.processors next known.file.now.0) harvester
    turns harvester is =
        stands_opened words.tails.numbers words.tails.told (watch_of start so_far.scans) (with_opening next so_far.opened) so_far.moments next known.file.now.0 harvester
        (next_there next so_far.opened last closed.among (ap (λ s. s.0) of_one.slot)) ends told_so
        (subst (λ (t : T). IfSome (words.tails.told t) (IsTailOf next)) (sym is.tail_kept) it.tail_is)
        (subst (λ (t : T). IfSome (words.tails.told t) TellsLooks) (sym is.tail_kept) it.tells)
        (subst (λ (t : T). IfSome (words.tails.told t) (λ told. words.tails.numbers t ≡ next.file.numbers)) (sym is.tail_kept) it.numbers_are)
        is.at_work
      where
        rule_same : is.rule ≡ next.rule
        rule_same = of_input is.rule is.rule_is ∙ sym it.rule_is

        begin_same : is.begin ≡ next.begin
        begin_same = is.begins.is ∙ ap (λ (k : List ℕ). begin_for known.file.slot known.file.listed k known.file.start) (same_key is.begins.key last.begin.key (sym is.begins.key_is ∙ is_known.key)) ∙ sym it.begin_is

        told_so : HasTold words.tails.numbers words.tails.told (history.opened next.rule start.settings.processors next.begin next.asked known.file.now.0) harvester
        told_so =
            subst (λ (r : InputRule). HasTold words.tails.numbers words.tails.told (history.opened r start.settings.processors next.begin next.asked known.file.now.0) harvester) rule_same
            (subst (λ (g : Begin). HasTold words.tails.numbers words.tails.told (history.opened is.rule start.settings.processors g next.asked known.file.now.0) harvester) begin_same
            (subst (λ (l : List Look). HasTold words.tails.numbers words.tails.told (history.opened is.rule start.settings.processors is.begin l known.file.now.0) harvester) it.looks_are is.told))

    -- it is followed
    module _ (new : Beginning T W L) (follows_it : FollowsAgain words.tails start.settings known tail mid new) where
      abbrev harvester : Harvester T
      harvester = follows_it.harvester

      abbrev taken : TakesInAgain known follows_it.harvester mid new
      taken = follows_it.taken

      admits : AdmitsAt (known.file.slot.0 % length old.crew.lanes.items) harvester (lanings old.crew.lanes.items) (lanings new.crew.lanes.items)
      admits = subst (λ (c : Crew T W L). AdmitsAt (known.file.slot.0 % length c.lanes.items) harvester (lanings c.lanes.items) (lanings new.crew.lanes.items)) opened.crew taken.admits

      others_are : new.crew ≡ record old.crew { lanes = new.crew.lanes }
      others_are = subst (λ (c : Crew T W L). new.crew ≡ record c { lanes = new.crew.lanes }) opened.crew taken.others

      abbrev its_shown : IsShown old.folder.told next (words.tails.told harvester.tail) mid.folder.told
      its_shown = subst (λ (t : T). IsShown old.folder.told next (words.tails.told t) mid.folder.told) (sym follows_it.opened.tail_kept) it.shown

      abbrev later_so : SoFar
      later_so = after words reads counts start moments a b known.file.now.0 old.folder.told old.crew old.keeper so_far stands follows last closed next of_one starts keyed listed_so new.keeper
          (announced new.keeper taken.announces) harvester (turns harvester follows_it.opened) (known.file.slot.0 % length old.crew.lanes.items) new.crew admits others_are mid.folder.told its_shown

      pub record OpenedAgainSo : Type 0 where
        pub opening : Opened
        pub later : SoFar
        pub begin_so : opening.begin ≡ begin
        pub place : IfSome old.folder.told (λ told. opening.opening ≡ length told.events)
        pub again : IsOpenedAgain start.settings.processors known.file.now.0 last opening so_far later closed.left
        pub stands_so : StandsIn new later

      pub opened_again_so : OpenedAgainSo
      opened_again_so = record {
        opening = next;
        later = later_so;
        begin_so = it.begin_is;
        place = placed_now (words.tails.told tail) next old.folder.told mid.folder.told it.shown;
        again = is_opened_again words reads counts start moments a b known.file.now.0 old.folder.told old.crew old.keeper so_far stands follows last closed next of_one starts keyed listed_so new.keeper
            (announced new.keeper taken.announces) harvester (turns harvester follows_it.opened) (known.file.slot.0 % length old.crew.lanes.items) new.crew admits others_are mid.folder.told its_shown;
        stands_so = subst (λ (f : FolderSeen). Stands words start (at_phase words start moments a b f.told new.crew new.keeper Leaving) later_so) (sym taken.folder)
            (stands_again words reads counts start moments a b known.file.now.0 old.folder.told old.crew old.keeper so_far stands follows last closed next of_one starts keyed listed_so new.keeper
            (announced new.keeper taken.announces) harvester (turns harvester follows_it.opened) (known.file.slot.0 % length old.crew.lanes.items) new.crew admits others_are mid.folder.told its_shown);
      }

    -- or its tail was closed again, out of memory
    given_up : (new : Beginning T W L) → GivesUpAgain words.tails known tail mid new → Further words start (at_phase words start moments a b new.folder.told new.crew new.keeper Leaving)
    given_up new up = by_keeper up.keeper
      where
        lanes_so : SameLanes old.crew new.crew
        lanes_so = subst (λ (c : Crew T W L). SameLanes c new.crew) opened.crew up.lanes

        as_new : (later : SoFar) → Stands words start (at_phase words start moments a b new.folder.told old.crew new.keeper Leaving) later →
            Further words start (at_phase words start moments a b new.folder.told new.crew new.keeper Leaving)
        as_new later is = record { so_far = later; stands = stands_same words start moments a b new.folder.told old.crew new.crew new.keeper Leaving later lanes_so is }

        by_keeper : (new.keeper ≡ mid.keeper) ⊎ AnnouncesRise known mid.keeper new.keeper → Further words start (at_phase words start moments a b new.folder.told new.crew new.keeper Leaving)
        by_keeper (inl same) = as_new so_far
            (with_shown (record { folder = new.folder; crew = old.crew; keeper = new.keeper }) refl (same ∙ opened.keeper)
            (closed_shown fresh tail (Ok (Key found.key)) found.asks mid opened new.folder.told up.closes.told))
        by_keeper (inr rose) = as_new
            (left_after words reads counts start moments a b known.file.now.0 old.folder.told old.crew old.keeper so_far stands follows last closed next of_one starts keyed listed_so new.keeper
            (announced new.keeper rose) (words.tails.told tail) it.looks_are it.reads it.tail_is it.tells ends (words.tails.faults tail) mid.folder.told new.folder.told it.shown up.closes.told)
            (stands_unread words reads counts start moments a b known.file.now.0 old.folder.told old.crew old.keeper so_far stands follows last closed next of_one starts keyed listed_so new.keeper
            (announced new.keeper rose) (words.tails.told tail) it.looks_are it.reads it.tail_is it.tells ends (words.tails.faults tail) mid.folder.told new.folder.told it.shown up.closes.told)

  -- ---- whatever it came to

  abbrev Leaves : Beginning T W L → Type 0
  Leaves new = Further words start (at_phase words start moments a b new.folder.told new.crew new.keeper Leaving)

  as_it_was : (new : Beginning T W L) → StandsIn new so_far → Leaves new
  as_it_was new is = record { so_far = so_far; stands = is }

  pub not_followed : (begun : Admission) → (begun ≡ Followed → ⊥) → (new : Beginning T W L) → ReopensOne words.tails start.settings known (Ok begun) old new → StandsIn new so_far
  not_followed Followed other new is = absurd (other refl)
  not_followed (Skipped Gone) other new is = none_there new is
  not_followed (Skipped Moved) other new is = closed_again _ new is
  not_followed (Skipped Doubled) other new is = absurd is
  not_followed (Skipped Old) other new is = absurd is
  not_followed (Skipped Small) other new is = closed_again _ new is
  not_followed Failed other new (inl none) = failed_opening new none
  not_followed Failed other new (inr is) = closed_again _ new is

  pub ended_so : (what : BeginError) (new : Beginning T W L) → ReopensOne words.tails start.settings known (Err what) old new → Leaves new
  ended_so error.FolderFault new is = absurd is
  ended_so error.NoMemory new (inl none) = as_it_was new (without_memory new none)
  ended_so error.NoMemory new (inr (inl up)) = given_up up.fresh up.gives_up.tail up.gives_up.keyed up.mid up.opened new up.gives_up.gives_up
  ended_so error.NoMemory new (inr (inr is)) = as_it_was new (closed_again _ new is)
  ended_so (error.NoNative slot) new is = as_it_was new (closed_again _ new is.1)

-- ---- the step

module _ {T W L D F K B : Type 0} (words : StepWords T W L D F K B) (reads : (disk : D) → IfSome (words.all.disks.contents disk) (words.all.disks.images disk))
    (counts : (disk : D) (at : ℕ) (image : List ℕ) → at ≤ words.all.disks.moment disk → words.all.disks.images disk image → words.all.disks.images_since disk at image)
    (context : Context) (known : KnownFile) (result : Result Admission BeginError) (now : Stop T W L D F K B) (folder : F) (crew : Crew T W L) (keeper : Keeping)
    (may : MayOpenAgain words context known result (leaving now) (leaving (with_opened now folder crew keeper))) where
  pub is_reopening_step : IsReopeningStep words context known result (leaving now) (leaving (with_opened now folder crew keeper))
  is_reopening_step start so_far by stands last closed is_known newest = by_result result reopens
    where
      at : StandsAt words.all start (moments_at words now) now.crew now.storing.keeper.now now.storing.a.now now.storing.b.now Leaving (words.seen now.system.folder.now).told so_far known.file.now.0
      at = stands_at words.all start (moments_at words now) now.crew now.storing.keeper.now now.storing.a.now now.storing.b.now Leaving (words.seen now.system.folder.now).told so_far known.file.now.0 stands may.moment

      reopens : ReopensOne words.all.tails start.settings known result (beginning_at words now) (record { folder = words.seen folder; crew = crew; keeper = keeper })
      reopens = subst (λ (s : Settings). ReopensOne words.all.tails s known result (beginning_at words now) (record { folder = words.seen folder; crew = crew; keeper = keeper })) (sym by.settings) may.reopens

      closed_so : IsClosedLast (files_of (record so_far { moments = so_far.moments ++ at.more })) last
      closed_so = record {
        among = closed.among;
        before = closed.before;
        left = closed.left;
        behind = closed.behind;
        left_are = closed.left_are;
        slot_is = closed.slot_is;
        may = closed.may;
        not_forgotten = closed.not_forgotten;
      }

      known_so : IsKnownAs known (record so_far { moments = so_far.moments ++ at.more }) last closed_so
      known_so = record { slot = is_known.slot; input = is_known.input; key = is_known.key; epoch = is_known.epoch; start = is_known.start }

      by_result : (r : Result Admission BeginError) → ReopensOne words.all.tails start.settings known r (beginning_at words now) (record { folder = words.seen folder; crew = crew; keeper = keeper }) →
          StandsBehind words context known r start so_far last closed (leaving now) (leaving (with_opened now folder crew keeper))
      by_result (Ok Followed) is =
          let so = opened_again_so words.all reads counts start (moments_at words now) now.storing.a.now now.storing.b.now known (beginning_at words now) (record so_far { moments = so_far.moments ++ at.more })
          at.stands (by.once ∙ may.follows) last closed_so known_so newest at.ends is.fresh is.follows.tail is.follows.keyed is.mid is.opened (record { folder = words.seen folder; crew = crew; keeper = keeper })
          is.follows.follows in
          record {
            more = at.more;
            next = so.opening;
            later = so.later;
            begin_is = so.begin_so;
            place = so.place;
            again = subst (λ (s : Settings). IsOpenedAgain s.processors known.file.now.0 last so.opening (record so_far { moments = so_far.moments ++ at.more }) so.later closed.left) by.settings so.again;
            stands = so.stands_so;
          }
      by_result (Ok (Skipped why)) is = record {
        more = at.more;
        stands = not_followed words.all reads counts start (moments_at words now) now.storing.a.now now.storing.b.now known (beginning_at words now) (record so_far { moments = so_far.moments ++ at.more })
            at.stands (by.once ∙ may.follows) last closed_so known_so newest at.ends (Skipped why) (λ same. let q : Skipped why ≡ Followed = same in cc) (record { folder = words.seen folder; crew = crew; keeper = keeper })
            is;
      }
      by_result (Ok Failed) is = record {
        more = at.more;
        stands = not_followed words.all reads counts start (moments_at words now) now.storing.a.now now.storing.b.now known (beginning_at words now) (record so_far { moments = so_far.moments ++ at.more })
            at.stands (by.once ∙ may.follows) last closed_so known_so newest at.ends Failed (λ same. let q : Failed ≡ Followed = same in cc) (record { folder = words.seen folder; crew = crew; keeper = keeper }) is;
      }
      by_result (Err what) is =
          ended_so words.all reads counts start (moments_at words now) now.storing.a.now now.storing.b.now known (beginning_at words now) (record so_far { moments = so_far.moments ++ at.more })
          at.stands (by.once ∙ may.follows) last closed_so known_so newest at.ends what (record { folder = words.seen folder; crew = crew; keeper = keeper }) is
