-- Each file that is opened keeps what stands of a run: as its steps say what they changed.
use Rattle.std.proofs.Common.{◌≡◌, ◌≢◌, ◌⊎◌, inl, inr, ℕ, suc, ◌≤◌, true, false, List, [], ◌∷◌, ◌++◌, Option, Some, None, IsSome, IfSome, Result, Ok, Err, length, ◌<◌, ◌%◌, arith, refl, sym, ap, subst, ◌∙◌}
use Rattle.std.proofs.lemmas.List.Elements.{Contains-append_right}
use Rattle.std.specs.Prelude.{slice_get}
use Rattle.accounts.specs.FollowedFile.{MayReopenAt}
use Rattle.accounts.specs.Opened.{IsTailOf, Opened}
use Rattle.accounts.specs.Turning.{IsTurnedSo}
use Rattle.accounts.proofs.Lists.{each_then}
use Rattle.accounts.proofs.Onward.{stands_opened}
use Rattle.event_tree.specs.declared.input_rule.InputRule.{InputRule}
use Rattle.file_looks.specs.Looks.{TellsLooks}
use Rattle.file_identity.specs.Answers.{IsGiven}
use Rattle.file_identity.specs.AskedAgain.{GivesKey}
use Rattle.file_identity.specs.declared.identity.Identity.{Identity}
use Rattle.file_identity.specs.declared.identity.Identity.TheVariants.{Key}
use Rattle.file_identity.specs.declared.identity_error.IdentityError.{IdentityError}
use Rattle.harvester.specs.HasTold.{HasTold, begin_of}
use Rattle.harvester.specs.History as history
use Rattle.harvester.specs.Standing.{stage_of}
use Rattle.harvester.specs.declared.harvester.Harvester.{Harvester}
use Rattle.harvester.specs.declared.stage.Stage.TheVariants as stage
use Rattle.keeper.specs.Keeping.{Keeping}
use Rattle.multiline_core.specs.Rule.{IsGroupRule}
use Rattle.outside.specs.Folders.{FolderHistory, TellsOpening}
use Rattle.outside.specs.declared.failed.FolderError.TheVariants.{Failed as Failing, NoMemory as WithoutMemory}
use Rattle.outside.specs.Tails.{TailHistory}
use Rattle.outside.specs.declared.history.Look.{Look}
use Rattle.prospect.specs.declared.listed.Listed.{Listed}
use Rattle.report.specs.declared.passing.Why.{Why}
use Rattle.report.specs.declared.passing.Why.TheVariants as why
use Rattle.rounds.specs.Crewed.{lanings}
use Rattle.rounds.specs.Words.{Words}
use Rattle.rounds.specs.declared.crew.Crew.{Crew}
use Rattle.ship_core.proofs.Members.{first_there}
use Rattle.wire_base.specs.declared.note.Begin.{Begin}
use Rattle.wire_base.specs.declared.numbers.Moment.{Moment}
use Rattle.run_steps.specs.Began.{Began}
use Rattle.run_steps.specs.BeginFor.{begin_for, start_among}
use Rattle.run_steps.specs.Beginning.{AdmitsAt, AsksKey, Beginning, BeginsFile, BeginsOne, ClosesFile, GivesFileUp, HasListedKey, IsOpenedFor, OpensNone, SameLanes}
use Rattle.run_steps.specs.BeginsAll.{file_at}
use Rattle.run_steps.specs.Begun.{noted_begin}
use Rattle.run_steps.specs.FolderSeen.{FolderSeen}
use Rattle.run_steps.specs.LastEpoch.{HasAnswered}
use Rattle.run_steps.specs.Releasing.{closing_of, with_events}
use Rattle.run_steps.specs.ReadBehind.{ReadsBehind, ReadsWhereNoFault}
use Rattle.run_steps.specs.RunState.{Finished, Leaving, Reading}
use Rattle.run_steps.specs.Shown.{HasShown}
use Rattle.run_steps.specs.SoFar.{SoFar, files_of}
use Rattle.run_steps.specs.Stands.{Further, Stands, watch_of}
use Rattle.run_steps.specs.Telling.{TellsBegin, TellsNotes}
use Rattle.run_steps.specs.declared.begin_error.BeginError.{BeginError}
use Rattle.run_steps.specs.declared.begin_error.BeginError.TheVariants as error
use Rattle.run_steps.proofs.AreRead.{asked_alone}
use Rattle.run_steps.proofs.BegunFolder.{error_shown, none_shown, unread_shown}
use Rattle.run_steps.proofs.BeginningOne.{Begins, IsBegunSo, at_phase, stands_at, stands_same}
use Rattle.run_steps.proofs.EarlierOn.{opened_once}
use Rattle.run_steps.proofs.BeginningSteps.{begins_next, left_after, shown_tells, stands_left}
use Rattle.run_steps.proofs.TailOpened.{HasTail, IsShown, has_tail, opened_now}
use Rattle.run_steps.specs.declared.begin.Admission.{Admission}
use Rattle.run_steps.specs.declared.begin.Admission.TheVariants.{Failed, Followed, Skipped}

module _ {T W L D : Type 0} (words : Words T W L D) (reads : (disk : D) → IfSome (words.disks.contents disk) (words.disks.images disk))
    (counts : (disk : D) (at : ℕ) (image : List ℕ) → at ≤ words.disks.moment disk → words.disks.images disk image → words.disks.images_since disk at image)
    (start : Began D) (moments : Option (List ℕ)) (a b : D) (now : Moment) where
  -- a listed file of an input of the settings
  pub record IsToBegin (slot : ℕ) (listed : Listed) : Type 0 where
    pub there : slice_get start.listed slot ≡ Some listed
    pub rule : InputRule
    pub rule_is : slice_get start.settings.inputs listed.input ≡ Some rule
    pub in_range : IsGroupRule rule.multiline

  -- all that stands of a run in this state, with its files begun below the slot
  abbrev pub BeginsBelow : ℕ → Beginning T W L → Type 0
  BeginsBelow slot state = Begins words start moments a b now state.folder.told state.crew state.keeper slot

  abbrev pub Leaves : Beginning T W L → Type 0
  Leaves state = Further words start (at_phase words start moments a b state.folder.told state.crew state.keeper Leaving)

  -- where it ends with what stands
  pub leaves : (state : Beginning T W L) (slot : ℕ) → BeginsBelow slot state → Leaves state
  leaves state slot begins = record {
    so_far = opened_once begins.so_far;
    stands = stands_at words start moments a b state.folder.told state.folder.told state.crew state.keeper Leaving (opened_once begins.so_far) (λ is. let no : Leaving ≡ Finished = is in cc) tt begins.stands.files.shown begins.stands;
  }

  -- the slots below the next one
  pub later_slot : (state : Beginning T W L) (slot : ℕ) → BeginsBelow slot state → BeginsBelow (suc slot) state
  later_slot state slot begins = record {
    so_far = opened_once begins.so_far;
    stands = begins.stands;
    below = each_then (λ (o : Opened). o.begin.slot.0 < slot) (λ (o : Opened). o.begin.slot.0 < suc slot) begins.so_far.opened (λ o less. omega (arith, less)) begins.below;
    begun_are = begins.begun_are;
    notes_are = begins.notes_are;
    none_hidden = begins.none_hidden;
    none_scanned = begins.none_scanned;
    as_first = begins.as_first;
    ends = begins.ends;
  }

  module _ (slot : ℕ) (listed : Listed) (to : IsToBegin slot listed) (old : Beginning T W L) (begins : BeginsBelow slot old) where
    -- nothing but what the folder tells has changed
    with_shown : (later : Option FolderHistory) → HasShown start.settings start.shown later (files_of (opened_once begins.so_far)) → Begins words start moments a b now later old.crew old.keeper slot
    with_shown later has = record {
      so_far = opened_once begins.so_far;
      stands = stands_at words start moments a b old.folder.told later old.crew old.keeper Reading (opened_once begins.so_far) (λ is. let no : Reading ≡ Finished = is in cc) tt has begins.stands;
      below = begins.below;
      begun_are = begins.begun_are;
      notes_are = begins.notes_are;
      none_hidden = begins.none_hidden;
      none_scanned = begins.none_scanned;
      as_first = begins.as_first;
      ends = begins.ends;
    }

    moved : (new : Beginning T W L) (n : ℕ) → new.crew ≡ old.crew → new.keeper ≡ old.keeper → Begins words start moments a b now new.folder.told old.crew old.keeper n → BeginsBelow n new
    moved new n crew keeper is =
        subst (λ (c : Crew T W L). Begins words start moments a b now new.folder.told c new.keeper n) (sym crew)
        (subst (λ (k : Keeping). Begins words start moments a b now new.folder.told old.crew k n) (sym keeper) is)

    -- ---- none was opened

    pub none_opened : (new : Beginning T W L) → OpensNone words.tails (file_at start.opening slot listed now) (Ok None) old new → BeginsBelow (suc slot) new
    none_opened new none = later_slot new slot (moved new slot none.crew none.keeper (with_shown new.folder.told
        (none_shown start.settings (opened_once begins.so_far) listed.path words.tails old.folder.states old.folder.present start.shown old.folder.told new.folder.told begins.stands.files.shown none.opens.told)))

    pub failed_opening : (new : Beginning T W L) → OpensNone words.tails (file_at start.opening slot listed now) (Err Failing) old new → BeginsBelow (suc slot) new
    failed_opening new none = later_slot new slot (moved new slot none.crew none.keeper (with_shown new.folder.told
        (error_shown start.settings (opened_once begins.so_far) listed.path words.tails old.folder.states old.folder.present Failing start.shown old.folder.told new.folder.told begins.stands.files.shown none.opens.told)))

    pub without_memory : (new : Beginning T W L) → OpensNone words.tails (file_at start.opening slot listed now) (Err WithoutMemory) old new → Leaves new
    without_memory new none = leaves new slot (moved new slot none.crew none.keeper (with_shown new.folder.told
        (error_shown start.settings (opened_once begins.so_far) listed.path words.tails old.folder.states old.folder.present WithoutMemory start.shown old.folder.told new.folder.told begins.stands.files.shown none.opens.told)))

    -- ---- one was opened

    -- by the rule of its input
    begun_so : (key : List ℕ) → listed.key ≡ Some key → (one : Opened) → one.begin ≡ begin_for (record { 0 = slot }) listed key (start_among start.opening listed) → one.rule ≡ to.rule →
        (IsSome start.shown → GivesKey to.rule key listed.path one.file one.asked) → IsBegunSo words start moments a b slot one
    begun_so key key_is one begin_is rule_is found = record {
      as_listed = record {
        one = listed;
        listed_there = ap (λ (g : Begin). slice_get start.listed g.slot.0) begin_is ∙ to.there;
        keyed = key_is ∙ ap (λ (g : Begin). Some g.key) (sym begin_is);
        begin_is = begin_is ∙ ap (λ (g : Begin). begin_for g.slot listed g.key (start_among start.opening listed)) (sym begin_is);
        rule_is = to.rule_is ∙ ap Some (sym rule_is);
        in_range = subst (λ (r : InputRule). IsGroupRule r.multiline) (sym rule_is) to.in_range;
      };
      keyed = λ some. subst (λ (r : InputRule). GivesKey r one.begin.key one.begin.path one.file one.asked) (sym rule_is)
          (subst (λ (g : Begin). GivesKey to.rule g.key g.path one.file one.asked) (sym begin_is) (found some));
      slot_is = ap (λ (g : Begin). g.slot.0) begin_is;
    }

    module _ (mid : Option FolderHistory) (fresh tail : T) (opens : TellsOpening words.tails.told words.tails.numbers old.folder.told old.folder.states old.folder.present listed.path (Ok (Some fresh)) mid)
        (found : HasListedKey words.tails start.settings (file_at start.opening slot listed now) fresh tail) (key : List ℕ) (key_is : listed.key ≡ Some key) where
      begin : Begin
      begin = begin_for (record { 0 = slot }) listed key (start_among start.opening listed)

      has : HasTail words.tails start.settings (file_at start.opening slot listed now) fresh tail (Ok (Key found.key)) found.asks (begin_for (record { 0 = slot }) listed key (start_among start.opening listed)) to.rule old.folder.told mid
      has = has_tail words.tails start.settings (file_at start.opening slot listed now) fresh tail (Ok (Key found.key)) found.asks
          (begin_for (record { 0 = slot }) listed key (start_among start.opening listed)) to.rule old.folder.states old.folder.present old.folder.told mid opens

      so : IsBegunSo words start moments a b slot has.one
      so = begun_so key key_is has.one has.begin_is has.rule_is found_key
        where
          of_told : (o : Option TailHistory) → IsSome o → IfSome o (λ told. IsGiven found.asks.rule.id found.asks.rule.file_identity listed.path has.one.file has.one.asked (Ok (Key found.key))) →
              IsGiven found.asks.rule.id found.asks.rule.file_identity listed.path has.one.file has.one.asked (Ok (Key found.key))
          of_told None some gave = absurd (let q : false ≡ true = some in cc)
          of_told (Some told) some gave = gave

          same_rule : (x y : InputRule) → Some x ≡ Some y → x ≡ y
          same_rule x y e = cc

          same_key : (x y : List ℕ) → Some x ≡ Some y → x ≡ y
          same_key x y e = cc

          -- its asking gave the key
          found_key : IsSome start.shown → GivesKey to.rule key listed.path has.one.file has.one.asked
          found_key some =
              let tells = shown_tells start.settings (opened_once begins.so_far) has.one (words.tails.told tail) start.shown old.folder.told mid begins.stands.files.shown has.shown some in
              let gave = of_told (words.tails.told tail) tells has.gave in
              subst (λ (r : InputRule). GivesKey r key listed.path has.one.file has.one.asked) (same_rule found.asks.rule to.rule (sym found.asks.rule_is ∙ to.rule_is))
              (record { asking = gave.0; gave = gave.1 ∙ ap Some (same_key found.key key (sym found.listed ∙ key_is)) })

      tells_it : (keeper new : Keeping) → TellsNotes (noted_begin (begin_for (record { 0 = slot }) listed key (start_among start.opening listed)) ∷ []) keeper new → TellsNotes (noted_begin has.one.begin ∷ []) keeper new
      tells_it keeper new tells = subst (λ (g : Begin). TellsNotes (noted_begin g ∷ []) keeper new) (sym has.begin_is) tells

      -- a harvester over it stands for it
      turns : (harvester : Harvester T) → IsOpenedFor words.tails start.settings (file_at start.opening slot listed now) tail harvester →
          IsTurnedSo words.tails.numbers words.tails.told (watch_of start begins.so_far.scans) (begins.so_far.opened ++ has.one ∷ []) begins.so_far.moments (opened_now start.settings.processors has.one now.0) harvester
      turns harvester is =
          stands_opened words.tails.numbers words.tails.told (watch_of start begins.so_far.scans) (begins.so_far.opened ++ has.one ∷ []) begins.so_far.moments has.one now.0 harvester
          (Contains-append_right begins.so_far.opened (has.one ∷ []) has.one (first_there has.one [])) begins.ends told_so
          (subst (λ (t : T). IfSome (words.tails.told t) (IsTailOf has.one)) (sym is.tail_kept) has.tail_is)
          (subst (λ (t : T). IfSome (words.tails.told t) TellsLooks) (sym is.tail_kept) has.tells)
          (subst (λ (t : T). IfSome (words.tails.told t) (λ told. words.tails.numbers t ≡ has.one.file.numbers)) (sym is.tail_kept) has.numbers_are)
          is.at_work
        where
          rule_same : is.rule ≡ has.one.rule
          rule_same = same is.rule to.rule (sym is.rule_is ∙ to.rule_is) ∙ sym has.rule_is
            where
              same : (x y : InputRule) → Some x ≡ Some y → x ≡ y
              same x y e = cc

          begin_same : is.begin ≡ has.one.begin
          begin_same = is.begins.is ∙ ap (λ (k : List ℕ). begin_for (record { 0 = slot }) listed k (start_among start.opening listed)) (same is.begins.key key (sym is.begins.key_is ∙ key_is)) ∙ sym has.begin_is
            where
              same : (x y : List ℕ) → Some x ≡ Some y → x ≡ y
              same x y e = cc

          told_so : HasTold words.tails.numbers words.tails.told (history.opened has.one.rule start.settings.processors has.one.begin has.one.asked now.0) harvester
          told_so =
              subst (λ (r : InputRule). HasTold words.tails.numbers words.tails.told (history.opened r start.settings.processors has.one.begin has.one.asked now.0) harvester) rule_same
              (subst (λ (g : Begin). HasTold words.tails.numbers words.tails.told (history.opened is.rule start.settings.processors g has.one.asked now.0) harvester) begin_same
              (subst (λ (l : List Look). HasTold words.tails.numbers words.tails.told (history.opened is.rule start.settings.processors is.begin l now.0) harvester) has.looks_are is.told))

      not_over : (harvester : Harvester T) → IsOpenedFor words.tails start.settings (file_at start.opening slot listed now) tail harvester → harvester.reader.stage ≢ stage.Over
      not_over harvester is over = let no : history.Over ≡ history.Reads = sym (ap stage_of over) ∙ is.told.held.holds.follows.stage in cc

      answered : (harvester : Harvester T) → IsOpenedFor words.tails start.settings (file_at start.opening slot listed now) tail harvester → HasAnswered harvester
      answered harvester is = subst MayReopenAt (sym is.told.held.holds.follows.stage) tt

      -- and its tail was only asked for its key
      reads_so : (harvester : Harvester T) → IsOpenedFor words.tails start.settings (file_at start.opening slot listed now) tail harvester → ReadsWhereNoFault words.tails.told words.tails.faults harvester
      reads_so harvester is none =
          subst (λ (t : T). IfSome (words.tails.told t) (λ told. ReadsBehind false (begin_of harvester).base told.looks)) (sym is.tail_kept)
          (asked_alone (words.tails.told tail) has.one.asked (begin_of harvester).base has.looks_are has.reads)

    -- it is followed
    pub file_begun : (new : Beginning T W L) → BeginsFile words.tails start.settings (file_at start.opening slot listed now) old new → BeginsBelow (suc slot) new
    file_begun new is =
        let taken = is.follows.taken in
        let key = taken.tells.key in
        let key_is = taken.tells.key_is in
        let opens = is.opened.opens.told in
        let of = has is.mid.folder.told is.fresh is.tail opens is.keyed key key_is in
        let harvester = is.follows.harvester in
        let kept = is.follows.opened.tail_kept in
        let tells = tells_it is.mid.folder.told is.fresh is.tail opens is.keyed key key_is is.mid.keeper new.keeper taken.tells.tells in
        subst (λ (f : FolderSeen). Begins words start moments a b now f.told new.crew new.keeper (suc slot)) (sym taken.folder)
        (begins_next words reads counts start moments a b now old.folder.told old.crew old.keeper slot begins of.one (so is.mid.folder.told is.fresh is.tail opens is.keyed key key_is) new.keeper
        (subst (λ (k : Keeping). TellsNotes (noted_begin of.one.begin ∷ []) k new.keeper) is.opened.keeper tells) harvester
        (turns is.mid.folder.told is.fresh is.tail opens is.keyed key key_is harvester is.follows.opened) (not_over is.mid.folder.told is.fresh is.tail opens is.keyed key key_is harvester is.follows.opened)
        (answered is.mid.folder.told is.fresh is.tail opens is.keyed key key_is harvester is.follows.opened)
        (reads_so is.mid.folder.told is.fresh is.tail opens is.keyed key key_is harvester is.follows.opened)
        (slot % length old.crew.lanes.items) new.crew
        (subst (λ (c : Crew T W L). AdmitsAt (slot % length c.lanes.items) harvester (lanings c.lanes.items) (lanings new.crew.lanes.items)) is.opened.crew taken.admits)
        (subst (λ (c : Crew T W L). new.crew ≡ record c { lanes = new.crew.lanes }) is.opened.crew taken.others) is.mid.folder.told
        (subst (λ (t : T). IsShown old.folder.told of.one (words.tails.told t) is.mid.folder.told) (sym kept) of.shown))

    -- whatever it told of its key
    module _ (fresh tail : T) (result : Result Identity IdentityError) (asks : AsksKey words.tails start.settings (file_at start.opening slot listed now) fresh tail result) where
      opened_some : (mid : Option FolderHistory) → TellsOpening words.tails.told words.tails.numbers old.folder.told old.folder.states old.folder.present listed.path (Ok (Some fresh)) mid →
          HasTail words.tails start.settings (file_at start.opening slot listed now) fresh tail result asks (begin_for (record { 0 = slot }) listed [] (start_among start.opening listed)) to.rule old.folder.told mid
      opened_some mid opens = has_tail words.tails start.settings (file_at start.opening slot listed now) fresh tail result asks
          (begin_for (record { 0 = slot }) listed [] (start_among start.opening listed)) to.rule old.folder.states old.folder.present old.folder.told mid opens

      -- what the folder shows once it was closed again
      shown_closed : (mid later : Option FolderHistory) → TellsOpening words.tails.told words.tails.numbers old.folder.told old.folder.states old.folder.present listed.path (Ok (Some fresh)) mid →
          later ≡ with_events (closing_of (words.tails.told tail) (words.tails.faults tail)) mid → HasShown start.settings start.shown later (files_of (opened_once begins.so_far))
      shown_closed mid later opens closes =
          let of = opened_some mid opens in
          unread_shown start.settings (opened_once begins.so_far) of.one (words.tails.told tail) of.reads (words.tails.faults tail) start.shown old.folder.told mid later begins.stands.files.shown of.shown closes

    -- it was closed again, and the keeper was told nothing
    pub closed_again : (Why : T → T → Type 0) (new : Beginning T W L) → ClosesFile words.tails start.settings (file_at start.opening slot listed now) Why old new → BeginsBelow slot new
    closed_again Why new is =
        moved new slot (is.closed.closed.crew ∙ is.opened.crew) (is.closed.closed.keeper ∙ is.opened.keeper) (with_shown new.folder.told
        (shown_closed is.fresh is.closed.asked is.closed.result is.closed.asks is.mid.folder.told new.folder.told is.opened.opens.told is.closed.closed.closes.told))

    -- its tail was closed again
    pub given_up : (new : Beginning T W L) → GivesFileUp words.tails start.settings (file_at start.opening slot listed now) old new → Leaves new
    given_up new is = by_case is.gives_up.keeper
      where
        lanes_so : SameLanes old.crew new.crew
        lanes_so = subst (λ (c : Crew T W L). SameLanes c new.crew) is.opened.crew is.gives_up.lanes

        at_end : (keeper : Keeping) (so_far : SoFar) → new.keeper ≡ keeper → Stands words start (at_phase words start moments a b new.folder.told old.crew keeper Leaving) so_far → Leaves new
        at_end keeper so_far keeper_is stands = record {
          so_far = so_far;
          stands = subst (λ (k : Keeping). Stands words start (at_phase words start moments a b new.folder.told new.crew k Leaving) so_far) (sym keeper_is)
              (stands_same words start moments a b new.folder.told old.crew new.crew keeper Leaving so_far lanes_so stands);
        }

        by_case : (new.keeper ≡ is.mid.keeper) ⊎ TellsBegin (record { 0 = slot }) listed (start_among start.opening listed) is.mid.keeper new.keeper → Leaves new
        by_case (inl same) =
            at_end old.keeper (opened_once begins.so_far) (same ∙ is.opened.keeper)
            (stands_at words start moments a b old.folder.told new.folder.told old.crew old.keeper Leaving (opened_once begins.so_far) (λ e. let no : Leaving ≡ Finished = e in cc) tt
            (shown_closed is.fresh is.tail (Ok (Key is.keyed.key)) is.keyed.asks is.mid.folder.told new.folder.told is.opened.opens.told is.gives_up.closes.told)
            begins.stands)
        by_case (inr told) =
            let opens = is.opened.opens.told in
            let of = has is.mid.folder.told is.fresh is.tail opens is.keyed told.key told.key_is in
            let tells = tells_it is.mid.folder.told is.fresh is.tail opens is.keyed told.key told.key_is is.mid.keeper new.keeper told.tells in
            at_end new.keeper (left_after words reads counts start moments a b now old.folder.told old.crew old.keeper slot begins of.one (so is.mid.folder.told is.fresh is.tail opens is.keyed told.key told.key_is) new.keeper
            (subst (λ (k : Keeping). TellsNotes (noted_begin of.one.begin ∷ []) k new.keeper) is.opened.keeper tells)
            (words.tails.told is.tail) of.looks_are of.reads of.tail_is of.tells (words.tails.faults is.tail) is.mid.folder.told new.folder.told of.shown is.gives_up.closes.told) refl
            (stands_left words reads counts start moments a b now old.folder.told old.crew old.keeper slot begins of.one (so is.mid.folder.told is.fresh is.tail opens is.keyed told.key told.key_is) new.keeper
            (subst (λ (k : Keeping). TellsNotes (noted_begin of.one.begin ∷ []) k new.keeper) is.opened.keeper tells)
            (words.tails.told is.tail) of.looks_are of.reads of.tail_is of.tells (words.tails.faults is.tail) is.mid.folder.told new.folder.told of.shown is.gives_up.closes.told)

    -- ---- whatever it came to

    pub one_more : (begun : Admission) (new : Beginning T W L) → BeginsOne words.tails start.settings (file_at start.opening slot listed now) (Ok begun) old new → BeginsBelow (suc slot) new
    one_more Followed new is = file_begun new is
    one_more (Skipped why.Gone) new is = none_opened new is
    one_more (Skipped why.Moved) new is = later_slot new slot (closed_again _ new is)
    one_more (Skipped why.Doubled) new is = absurd is
    one_more (Skipped why.Old) new is = absurd is
    one_more (Skipped why.Small) new is = later_slot new slot (closed_again _ new is)
    one_more Failed new (inl none) = failed_opening new none
    one_more Failed new (inr closed) = later_slot new slot (closed_again _ new closed)

    pub one_ends : (what : BeginError) (new : Beginning T W L) → BeginsOne words.tails start.settings (file_at start.opening slot listed now) (Err what) old new → Leaves new
    one_ends error.FolderFault new is = absurd is
    one_ends error.NoMemory new (inl none) = without_memory new none
    one_ends error.NoMemory new (inr (inl up)) = given_up new up
    one_ends error.NoMemory new (inr (inr closed)) = leaves new slot (closed_again _ new closed)
    one_ends (error.NoNative other) new is = leaves new slot (closed_again _ new is.1)
