-- A file that is opened again keeps what each step keeps, but that a harvester may come with its tail.
use Rattle.std.proofs.Common.{◌≡◌, ◌⊎◌, inl, inr, ⊎_elim, ℕ, ◌+◌, ◌-◌, ◌^◌, ◌≤◌, ◌<◌, ◌%◌, List, [], ◌∷◌, ◌++◌, length, IfNone, None, Option, Some, Result, Ok, Err, Vec, refl, sym, ap, subst, ◌∙◌, arith}
use Rattle.std.specs.declared.alloc.Global.{Global}
use Rattle.event_tree.specs.declared.settings.Settings.{Settings}
use Rattle.harvester.specs.declared.harvester.Harvester.{Harvester}
use Rattle.keeper.specs.Keeping.{Keeping}
use Rattle.lanes.specs.Laning.{Laning}
use Rattle.lanes.specs.declared.lane.Lane.{Lane}
use Rattle.outside.specs.Folders.{Event, FolderHistory, NotThere, Opened, OpeningFailed, TellsOpening}
use Rattle.outside.specs.Files.{sight_of}
use Rattle.outside.specs.declared.failed.FolderError.{FolderError}
use Rattle.outside.specs.declared.failed.FolderError.TheVariants.{Failed as Failing, NoMemory as WithoutMemory}
use Rattle.outside.specs.declared.history.Shown.{Shown}
use Rattle.outside.specs.declared.history.Sight.{Sight}
use Rattle.report.specs.declared.passing.Why.TheVariants.{Doubled, Gone, Moved, Old, Small}
use Rattle.rounds.specs.Crewed.{lanings}
use Rattle.rounds.specs.Crewing.{crewing}
use Rattle.rounds.specs.Pairs.{SomeOf}
use Rattle.rounds.specs.Staying.{HaveSlot}
use Rattle.rounds.specs.Words.{TailWords}
use Rattle.rounds.specs.declared.crew.Crew.{Crew}
use Rattle.wire_base.specs.declared.note.Begin.{Begin}
use Rattle.wire_base.specs.declared.numbers.Slot.{Slot}
use Rattle.run_steps.specs.Areas.{IsAtRest}
use Rattle.run_steps.specs.Beginning.{AdmitsAt, Beginning, ClosesFile, HasOpened, OpensNone}
use Rattle.run_steps.specs.CarriersFail.{sending}
use Rattle.run_steps.specs.FolderSeen.{Closes}
use Rattle.run_steps.specs.Goes.{StepWords, Stop, moments_at}
use Rattle.run_steps.specs.MetBy.{HasFaults, SomeHarvester}
use Rattle.run_steps.specs.MetIn.{NoneFailed}
use Rattle.run_steps.specs.OpeningKeeps.{MayAnnounce, OpeningsAgainKeep, ReopeningKeeps, ended_by, followed_by}
use Rattle.run_steps.specs.Readiness.{IsAbleIn, IsReadyIn}
use Rattle.run_steps.specs.Releasing.{closing_of, harvesters_of, with_events}
use Rattle.run_steps.specs.Reopening.{AnnouncesRise, FollowsAgain, GivesUpAgain, KnownFile, ReopensOne}
use Rattle.run_steps.specs.ReopeningSteps.{MayOpenAgain, beginning_at, leaving, with_opened}
use Rattle.run_steps.specs.declared.begin_error.BeginError.{BeginError}
use Rattle.run_steps.specs.declared.begin_error.BeginError.TheVariants.{FolderFault, NoMemory, NoNative}
use Rattle.run_steps.specs.declared.begin.Admission.{Admission}
use Rattle.run_steps.specs.declared.begin.Admission.TheVariants.{Failed, Followed, Skipped}
use Rattle.run_steps.specs.declared.context.Context.{Context}
use Rattle.run_steps.proofs.Able.{able_on}
use Rattle.run_steps.proofs.BegunReady.{rests_on}
use Rattle.run_steps.proofs.CarriersGoOn.{carriers_by_nothing}
use Rattle.run_steps.proofs.Clocks.{clock_stays}
use Rattle.run_steps.proofs.FailingRounds.{fail_by_nothing}
use Rattle.run_steps.proofs.Keeps.{BeginKeeps, TakesOne, as_many_lanes}
use Rattle.run_steps.proofs.LettingGo.{OfSlot, have_slot, slot_had}
use Rattle.run_steps.proofs.ReadersGo.{added_behind, none_added, rose_on}
use Rattle.run_steps.proofs.Tails.{one_harvester_more}

-- ---- lanes of which one has one harvester more

module _ {T : Type 0} (P : Harvester T → Type 0) (harvester : Harvester T) where
  abbrev with_it : Laning T → Laning T
  with_it lane = record lane { harvesters = lane.harvesters ++ harvester ∷ [] }

  some_before : (hs : List (Harvester T)) → SomeOf P (hs ++ harvester ∷ []) → SomeOf P hs ⊎ P harvester
  some_before [] some = ⊎_elim (λ here. inr here) (λ none. absurd none) some
  some_before (h ∷ hs) some = ⊎_elim (λ here. inl (inl here)) (λ later. ⊎_elim (λ old. inl (inr old)) (λ new. inr new) (some_before hs later)) some

  some_after : (hs : List (Harvester T)) → SomeOf P hs → SomeOf P (hs ++ harvester ∷ [])
  some_after [] some = absurd some
  some_after (h ∷ hs) some = ⊎_elim (λ here. inl here) (λ later. inr (some_after hs later)) some

  some_was_in : (front : List (Laning T)) (lane : Laning T) (back : List (Laning T)) → SomeHarvester P (front ++ with_it lane ∷ back) → SomeHarvester P (front ++ lane ∷ back) ⊎ P harvester
  some_was_in [] lane back some = ⊎_elim (λ here. ⊎_elim (λ old. inl (inl old)) (λ new. inr new) (some_before lane.harvesters here)) (λ later. inl (inr later)) some
  some_was_in (first ∷ front) lane back some = ⊎_elim (λ here. inl (inl here)) (λ later. ⊎_elim (λ old. inl (inr old)) (λ new. inr new) (some_was_in front lane back later)) some

  some_is_in : (front : List (Laning T)) (lane : Laning T) (back : List (Laning T)) → SomeHarvester P (front ++ lane ∷ back) → SomeHarvester P (front ++ with_it lane ∷ back)
  some_is_in [] lane back some = ⊎_elim (λ here. inl (some_after lane.harvesters here)) (λ later. inr later) some
  some_is_in (first ∷ front) lane back some = ⊎_elim (λ here. inl here) (λ later. inr (some_is_in front lane back later)) some

  module _ (number : ℕ) (old new : List (Laning T)) (admits : AdmitsAt number harvester old new) where
    pub some_was : SomeHarvester P new → SomeHarvester P old ⊎ P harvester
    some_was some = subst (λ (l : List (Laning T)). SomeHarvester P l ⊎ P harvester) (sym admits.were)
        (some_was_in admits.front admits.lane admits.back (subst (SomeHarvester P) admits.are some))

    pub some_is : SomeHarvester P old → SomeHarvester P new
    some_is some = subst (SomeHarvester P) (sym admits.are) (some_is_in admits.front admits.lane admits.back (subst (SomeHarvester P) admits.were some))

-- ---- the folder's list

abbrev Grew : Option FolderHistory → Option FolderHistory → Type 0
Grew told after = (more : List Event) × (after ≡ with_events more told)

grew_by_two : (first mid last : Option FolderHistory) → Grew first mid → Grew mid last → Grew first last
grew_by_two first mid last one then = (one.0 ++ then.0, then.1 ∙ ap (with_events then.0) one.1 ∙ added_behind one.0 then.0 first)

grew_opening : {T : Type 0} (tails : TailWords T) (told : Option FolderHistory) (states : List Sight) (present : List Shown) (path : List ℕ) (result : Result (Option T) FolderError) (after : Option FolderHistory) →
    TellsOpening tails.told tails.numbers told states present path result after → Grew told after
grew_opening tails None states present path result after is = ([], is.0)
grew_opening tails (Some told) states present path (Ok None) after is = (NotThere path ∷ [], is.kept)
grew_opening tails (Some told) states present path (Ok (Some tail)) after is = (Opened path is.one.file (sight_of is.one) ∷ [], is.kept)
grew_opening tails (Some told) states present path (Err Failing) after is = (OpeningFailed path ∷ [], is)
grew_opening tails (Some told) states present path (Err WithoutMemory) after is = ([], is ∙ sym (none_added (Some told)))

-- ---- whatever the step answers

may_announce : (known : KnownFile) (old new : Keeping) → AnnouncesRise known old new → MayAnnounce known old new
may_announce known old new (inl same) = inl same.1
may_announce known old new (inr rose) = inr rose.1

module _ {T W L : Type 0} (tails : TailWords T) (settings : Settings) (known : KnownFile) where
  -- so many harvesters came
  record Reopens (count : ℕ) (old new : Beginning T W L) : Type 0 where
    lanes : (lanings new.crew.lanes.items ≡ lanings old.crew.lanes.items) ⊎ TakesOne tails settings known.file (lanings old.crew.lanes.items) (lanings new.crew.lanes.items)
    others : new.crew ≡ record old.crew { lanes = new.crew.lanes }
    keeper : MayAnnounce known old.keeper new.keeper
    grew : Grew old.folder.told new.folder.told
    faults_never_fall : old.folder.faults ≤ new.folder.faults
    harvesters : length (harvesters_of (lanings new.crew.lanes.items)) ≡ length (harvesters_of (lanings old.crew.lanes.items)) + count
    open_tails : old.folder.open_tails < 2 ^ 64 - 1 → new.folder.open_tails ≡ old.folder.open_tails + count

  same_lanes : (old new : Crew T W L) → new ≡ old → lanings new.lanes.items ≡ lanings old.lanes.items
  same_lanes old new same = ap (λ (c : Crew T W L). lanings c.lanes.items) same

  none_there : (result : Result (Option T) FolderError) (old new : Beginning T W L) → OpensNone tails known.file result old new → new.folder.open_tails ≡ old.folder.open_tails → Reopens 0 old new
  none_there result old new none as_many = record {
    lanes = inl (same_lanes old.crew new.crew none.crew);
    others = none.crew ∙ ap (λ (c : Crew T W L). record old.crew { lanes = c.lanes }) (sym none.crew);
    keeper = inl none.keeper;
    grew = grew_opening tails old.folder.told old.folder.states old.folder.present known.file.listed.path result new.folder.told none.opens.told;
    faults_never_fall = none.opens.faults_never_fall;
    harvesters = let same = ap (λ (c : Crew T W L). length (harvesters_of (lanings c.lanes.items))) none.crew in omega (arith, same);
    open_tails = λ below. omega (arith, as_many);
  }

  -- a file was opened, and its tail closed again
  closed_again : (fresh tail : T) (old mid new : Beginning T W L) → HasOpened tails known.file fresh old mid → Closes tails tail mid.folder new.folder →
      lanings new.crew.lanes.items ≡ lanings mid.crew.lanes.items → new.crew ≡ record mid.crew { lanes = new.crew.lanes } → MayAnnounce known mid.keeper new.keeper → Reopens 0 old new
  closed_again fresh tail old mid new opened closes lanes others keeper = record {
    lanes = inl (lanes ∙ same_lanes old.crew mid.crew opened.crew);
    others = subst (λ (c : Crew T W L). new.crew ≡ record c { lanes = new.crew.lanes }) opened.crew others;
    keeper = subst (λ (k : Keeping). MayAnnounce known k new.keeper) opened.keeper keeper;
    grew = grew_by_two old.folder.told mid.folder.told new.folder.told
        (grew_opening tails old.folder.told old.folder.states old.folder.present known.file.listed.path (Ok (Some fresh)) mid.folder.told opened.opens.told)
        (closing_of (tails.told tail) (tails.faults tail), closes.told);
    faults_never_fall = omega (arith, opened.opens.faults_never_fall, closes.counts_faults);
    harvesters = let one = ap (λ (l : List (Laning T)). length (harvesters_of l)) lanes in
        let other = ap (λ (c : Crew T W L). length (harvesters_of (lanings c.lanes.items))) opened.crew in omega (arith, one, other);
    open_tails = λ below. omega (arith, below, opened.opens.open_tails, closes.open_tails);
  }

  closed_asked : (Why : T → T → Type 0) (old new : Beginning T W L) → ClosesFile tails settings known.file Why old new → Reopens 0 old new
  closed_asked Why old new is =
      let closed = is.closed.closed in
      closed_again is.fresh is.closed.asked old is.mid new is.opened closed.closes (same_lanes is.mid.crew new.crew closed.crew)
      (closed.crew ∙ ap (λ (c : Crew T W L). record is.mid.crew { lanes = c.lanes }) (sym closed.crew)) (inl closed.keeper)

  given_up : (fresh tail : T) (old mid new : Beginning T W L) → HasOpened tails known.file fresh old mid → GivesUpAgain tails known tail mid new → Reopens 0 old new
  given_up fresh tail old mid new opened up =
      closed_again fresh tail old mid new opened up.closes up.lanes.lanes up.lanes.others (⊎_elim (λ same. inl same) (may_announce known mid.keeper new.keeper) up.keeper)

  followed : (fresh tail : T) (old mid new : Beginning T W L) → HasOpened tails known.file fresh old mid → FollowsAgain tails settings known tail mid new → Reopens 1 old new
  followed fresh tail old mid new opened follows =
      let taken = follows.taken in
      let admits = subst (λ (c : Crew T W L). AdmitsAt (known.file.slot.0 % length c.lanes.items) follows.harvester (lanings c.lanes.items) (lanings new.crew.lanes.items)) opened.crew taken.admits in
      record {
        lanes = inr (record { tail = tail; harvester = follows.harvester; opened = follows.opened; number = known.file.slot.0 % length old.crew.lanes.items; admits = admits });
        others = subst (λ (c : Crew T W L). new.crew ≡ record c { lanes = new.crew.lanes }) opened.crew taken.others;
        keeper = subst (λ (k : Keeping). MayAnnounce known k new.keeper) opened.keeper (may_announce known mid.keeper new.keeper taken.announces);
        grew = subst (λ (o : Option FolderHistory). Grew old.folder.told o) (sym (ap (λ f. f.told) taken.folder))
            (grew_opening tails old.folder.told old.folder.states old.folder.present known.file.listed.path (Ok (Some fresh)) mid.folder.told opened.opens.told);
        faults_never_fall = omega (arith, opened.opens.faults_never_fall, ap (λ f. f.faults) taken.folder);
        harvesters = one_harvester_more _ follows.harvester (lanings old.crew.lanes.items) (lanings new.crew.lanes.items) admits;
        open_tails = λ below. omega (arith, below, opened.opens.open_tails, ap (λ f. f.open_tails) taken.folder);
      }

  reopens_so : (result : Result Admission BeginError) (old new : Beginning T W L) → ReopensOne tails settings known result old new → Reopens (followed_by result) old new
  reopens_so (Ok Followed) old new is = followed is.fresh is.follows.tail old is.mid new is.opened is.follows.follows
  reopens_so (Ok (Skipped Gone)) old new is = none_there (Ok None) old new is is.opens.open_tails
  reopens_so (Ok (Skipped Moved)) old new is = closed_asked _ old new is
  reopens_so (Ok (Skipped Doubled)) old new is = absurd is
  reopens_so (Ok (Skipped Old)) old new is = absurd is
  reopens_so (Ok (Skipped Small)) old new is = closed_asked _ old new is
  reopens_so (Ok Failed) old new (inl none) = none_there (Err Failing) old new none none.opens.open_tails
  reopens_so (Ok Failed) old new (inr is) = closed_asked _ old new is
  reopens_so (Err FolderFault) old new is = absurd is
  reopens_so (Err NoMemory) old new (inl none) = none_there (Err WithoutMemory) old new none none.opens.open_tails
  reopens_so (Err NoMemory) old new (inr (inl up)) = given_up up.fresh up.gives_up.tail old up.mid new up.opened up.gives_up.gives_up
  reopens_so (Err NoMemory) old new (inr (inr is)) = closed_asked _ old new is
  reopens_so (Err (NoNative slot)) old new is = closed_asked _ old new is.1

-- ---- the step

module _ {T W L D F K B : Type 0} (words : StepWords T W L D F K B) (context : Context) (known : KnownFile) (result : Result Admission BeginError) (now : Stop T W L D F K B) (folder : F)
    (ready : IsReadyIn words.all.tails context (crewing now.crew now.storing)) where
  abbrev old_lanes : List (Laning T)
  old_lanes = lanings now.crew.lanes.items

  abbrev old_keeper : Keeping
  old_keeper = now.storing.keeper.now

  -- the crew is as it was but for its lanes
  module _ (lanes : Vec (Lane T) Global) (keeper : Keeping) where
    abbrev its_crew : Crew T W L
    its_crew = record now.crew { lanes = lanes }

    abbrev its_stop : Stop T W L D F K B
    its_stop = leaving (with_opened now folder its_crew keeper)

    abbrev its_new : Beginning T W L
    its_new = record { folder = words.seen folder; crew = its_crew; keeper = keeper }

    module _ (reopens : ReopensOne words.all.tails context.settings.now known result (beginning_at words now) its_new) where
      is : Reopens words.all.tails context.settings.now known (followed_by result) (beginning_at words now) its_new
      is = reopens_so words.all.tails context.settings.now known result (beginning_at words now) its_new reopens

      -- all of the keeper but its notes
      keeper_others : keeper ≡ record old_keeper { tracked = keeper.tracked }
      keeper_others = ⊎_elim (λ same. same ∙ ap (λ (k : Keeping). record old_keeper { tracked = k.tracked }) (sym same)) (λ tells. tells.others_stay) is.keeper

      kept : BeginKeeps words.all.tails context.settings.now known.file (record { folder = words.seen now.system.folder.now; crew = now.crew; keeper = keeper }) its_new
      kept = record { lanes = is.lanes; others = is.others; keeper = inl refl; faults_never_fall = is.faults_never_fall }

      able : IsAbleIn words.all.tails context (crewing its_crew its_stop.storing)
      able = able_on words.all.tails context.settings.now known.file (record { folder = words.seen now.system.folder.now; crew = now.crew; keeper = keeper }) its_new kept
          context.outlets.queue.now.id context.outlets.desk.now.id now.storing its_stop.storing (ap (λ (k : Keeping). k.pass) keeper_others) ready.able

      many_lanes : length lanes.items ≡ length now.crew.lanes.items
      many_lanes = as_many_lanes words.all.tails context.settings.now known.file (record { folder = words.seen now.system.folder.now; crew = now.crew; keeper = keeper }) its_new kept

      slots : (other : Slot) → HaveSlot other (lanings lanes.items) → HaveSlot other old_lanes ⊎ (other ≡ known.file.slot)
      slots other have = ⊎_elim
          (λ same. inl (subst (HaveSlot other) same have))
          (λ takes. ⊎_elim (λ was. inl (have_slot other old_lanes was)) (λ its. inr (sym its ∙ ap (λ (g : Begin). g.slot) (takes.opened.begun ∙ takes.opened.begins.is)))
          (some_was (OfSlot other) takes.harvester takes.number old_lanes (lanings lanes.items) takes.admits (slot_had other (lanings lanes.items) have)))
          is.lanes

      some_still : (P : Harvester T → Type 0) → SomeHarvester P old_lanes → SomeHarvester P (lanings lanes.items)
      some_still P some = ⊎_elim (λ same. subst (SomeHarvester P) (sym same) some)
          (λ takes. some_is P takes.harvester takes.number old_lanes (lanings lanes.items) takes.admits some) is.lanes

      if_none : (r : Result Admission BeginError) → IfNone (ended_by r) (NoneFailed context.settings.now.output.attempts now.crew.carriers.items →
          NoneFailed context.settings.now.output.attempts now.crew.carriers.items)
      if_none (Ok admission) = λ none. none
      if_none (Err error) = tt

      reopening_keeps_so : ReopeningKeeps words context known result (leaving now) its_stop
      reopening_keeps_so = record {
        keeps = record {
          at_rest = λ goes rest. ⊎_elim (λ same. subst (λ (k : Keeping). IsAtRest words.all.disks k now.storing.a.now now.storing.b.now) (sym same) rest)
              (λ tells. rests_on words.all.disks now.storing.a.now now.storing.b.now _ old_keeper keeper tells rest) is.keeper;
          ready = λ goes. record { able = able; is_open = ap (λ (k : Keeping). k.store.closed) keeper_others ∙ ready.is_open };
          able = able;
          failing = fail_by_nothing words.all.links words.all.wires context.settings.now.output.attempts (sending (moments_at words now) now.crew.carriers.items);
          none_failed = if_none result;
          carriers_go_on = carriers_by_nothing words.all.wires now.crew.carriers.items;
          as_many = record { lanes = many_lanes; carriers = refl };
          a_faults_never_fall = omega arith;
          b_faults_never_fall = omega arith;
          rings_never_fall = omega arith;
          clock_goes_on = clock_stays (moments_at words now);
          keeper = is.keeper;
          same_objects = record { keeper = refl; a = refl; b = refl };
          still_tell = record { a = λ told. told; b = λ told. told };
          readers = record {
            more = is.grew.0;
            told = is.grew.1;
            faults_never_fall = is.faults_never_fall;
            fault_stays = λ since le met. ⊎_elim
                (λ rose. inl (rose_on since (words.seen now.system.folder.now).faults (words.seen folder).faults rose is.faults_never_fall))
                (λ some. inr (some_still (HasFaults words.all.tails) some)) met;
          };
          same_folder = refl;
          same_clock = refl;
          same_bell = refl;
        };
        comes = record { harvesters = is.harvesters; slots = slots; open_tails = is.open_tails };
      }

  pub reopening_keeps : (crew : Crew T W L) (keeper : Keeping) → MayOpenAgain words context known result (leaving now) (leaving (with_opened now folder crew keeper)) →
      ReopeningKeeps words context known result (leaving now) (leaving (with_opened now folder crew keeper))
  reopening_keeps crew keeper may =
      let others = (reopens_so words.all.tails context.settings.now known result (beginning_at words now) (record { folder = words.seen folder; crew = crew; keeper = keeper }) may.reopens).others in
      subst (λ (c : Crew T W L). ReopeningKeeps words context known result (leaving now) (leaving (with_opened now folder c keeper))) (sym others)
      (reopening_keeps_so crew.lanes keeper (subst (λ (c : Crew T W L). ReopensOne words.all.tails context.settings.now known result (beginning_at words now) (record { folder = words.seen folder; crew = c; keeper = keeper })) others may.reopens))

pub openings_again_keep : {T W L D F K B : Type 0} (words : StepWords T W L D F K B) → OpeningsAgainKeep words
openings_again_keep words context known result now folder crew keeper ready may = reopening_keeps words context known result now folder ready crew keeper may
