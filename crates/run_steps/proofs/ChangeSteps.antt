-- What a run does with one of its files between two rounds is a step of it: lanes hear of the file, and the keeper is told of it.
use Rattle.std.proofs.Common.{◌≡◌, inl, inr, ⊎_elim, ℕ, ◌≤◌, List, [], ◌∷◌, ◌++◌, Contains, append-nil, append_assoc, false, length, IfSome, None, Vec, refl, sym, ap, subst, ◌∙◌, arith}
use Rattle.std.proofs.lemmas.List.{length-map}
use Rattle.std.proofs.lemmas.List.Elements.{All-from_recursion, Contains-append_right, recursion_from_All}
use Rattle.std.specs.declared.alloc.Global.{Global}
use Rattle.std.specs.List.{AllByRecursion}
use Rattle.accounts.specs.Opened.{Opened}
use Rattle.accounts.specs.Watch.{Name}
use Rattle.atomic_table.specs.Seated.{TableId}
use Rattle.harvester.specs.HasTold.{HasTold, begin_of}
use Rattle.harvester.specs.History.{with_ending, with_path}
use Rattle.harvester.specs.declared.harvester.Harvester.{Harvester}
use Rattle.keeper.proofs.InARow.{collects_none}
use Rattle.keeper.specs.Collecting.{Collects}
use Rattle.keeper.specs.Keeping.{Keeping, held_in}
use Rattle.lanes.specs.Changing.{HasEnding, HasRenamed, HasStirred}
use Rattle.lanes.specs.Laning.{Laning, laning}
use Rattle.lanes.specs.Turned.{IsKnown}
use Rattle.lanes.specs.declared.lane.Lane.{Lane}
use Rattle.registry_store.specs.Standing.{Standing, chosen_by}
use Rattle.registry_store.specs.Settled.{AreSettled}
use Rattle.rounds.specs.Books.{flat}
use Rattle.rounds.specs.Crewed.{lanes_passes, lanings}
use Rattle.rounds.specs.Crewing.{crewing}
use Rattle.rounds.specs.Running.{IsLaneReady}
use Rattle.rounds.specs.Staying.{begins_of}
use Rattle.rounds.specs.Words.{TailWords}
use Rattle.settle_box.specs.Senders.{notes}
use Rattle.wire_base.specs.declared.note.Begin.{Begin}
use Rattle.wire_base.specs.declared.note.Note.{Note}
use Rattle.wire_base.specs.declared.numbers.Slot.{Slot}
use Rattle.rounds.specs.Pairs.{SomeOf}
use Rattle.run_steps.specs.Began.{Began}
use Rattle.run_steps.specs.CarriersFail.{sending}
use Rattle.run_steps.specs.ChangeSteps.{EndsAreChanges, IsChange, IsReadyAt, RenamesAreChanges, StandsWith, StirsAreChanges, StirsAreSteps, lanes_and_keeper, with_keeper, with_lanes}
use Rattle.run_steps.specs.Changing.{ChangesAt, ChangesOf, EndsFile, NamesFile, rename_note}
use Rattle.run_steps.specs.Goes.{Keeps, RestsAt, StepWords, Stop, moments_at, state_at}
use Rattle.run_steps.specs.LaterScans.{LaterScan}
use Rattle.run_steps.specs.MetBy.{HasFaults, SomeHarvester}
use Rattle.run_steps.specs.Onward.{Onward, rules_of}
use Rattle.run_steps.specs.Readiness.{IsAbleIn}
use Rattle.run_steps.specs.Releasing.{harvesters_of}
use Rattle.run_steps.specs.Renamed.{IsNamedAnew, IsNewestName, IsRemovedSince}
use Rattle.run_steps.specs.SoFar.{Earlier, SoFar, all_told, first_opened, opened_before}
use Rattle.run_steps.specs.Stands.{Stands, watch_of}
use Rattle.run_steps.specs.Telling.{TellsNotes}
use Rattle.run_steps.specs.declared.changing.NewName.{NewName}
use Rattle.run_steps.specs.declared.context.Context.{Context}
use Rattle.run_steps.proofs.CarriersGoOn.{carriers_by_nothing}
use Rattle.run_steps.proofs.ChangeStands.{ReadsStill, reads_still}
use Rattle.run_steps.proofs.ChangedLanes.{after, as_many, as_many_harvesters, before, begins_same, changed_in, changed_is, each_set, passes_same, some_changed}
use Rattle.run_steps.proofs.ChangedTurns.{ended_on, renamed_on, stirred_on}
use Rattle.run_steps.proofs.Clocks.{clock_stays}
use Rattle.run_steps.proofs.FailingRounds.{fail_by_nothing}
use Rattle.run_steps.proofs.GoesOn.{keeps_by_two}
use Rattle.run_steps.proofs.Growing.{grown_hearing}
use Rattle.run_steps.proofs.Grounds.{have_ground}
use Rattle.run_steps.proofs.Having.{have_still, some_still}
use Rattle.run_steps.proofs.LettingGo.{with_these}
use Rattle.run_steps.proofs.Notes.{none_told, told_behind}
use Rattle.run_steps.proofs.OneOfSlot.{lanes_once, still_stirred}
use Rattle.run_steps.proofs.ReadersGo.{none_added}
use Rattle.run_steps.proofs.FirstOpened.{first_named, first_within}
use Rattle.run_steps.proofs.RenameNotes.{begun_too, rename_follows}
use Rattle.run_steps.proofs.TailClosed.{Reads}
use Rattle.run_steps.proofs.ToldMoments.{stands_told}

-- ---- lanes of which some harvesters heard of their files

module _ {T : Type 0} (tails : TailWords T) where
  pub record HearOnly (old new : List (Laning T)) : Type 0 where
    pub passes : lanes_passes new ≡ lanes_passes old
    pub many : length new ≡ length old
    pub harvesters : length (harvesters_of new) ≡ length (harvesters_of old)
    pub begins : begins_of new ≡ begins_of old
    pub ready : (queue desk : TableId) → AllByRecursion (IsLaneReady tails queue desk) old → AllByRecursion (IsLaneReady tails queue desk) new
    pub faults : SomeHarvester (HasFaults tails) old → SomeHarvester (HasFaults tails) new

  pub hear_nothing : (lanes : List (Laning T)) → HearOnly lanes lanes
  hear_nothing lanes = record { passes = refl; many = refl; harvesters = refl; begins = refl; ready = λ queue desk ready. ready; faults = λ some. some }

  hear_by_two : (first mid last : List (Laning T)) → HearOnly first mid → HearOnly mid last → HearOnly first last
  hear_by_two first mid last one then = record {
    passes = then.passes ∙ one.passes;
    many = then.many ∙ one.many;
    harvesters = then.harvesters ∙ one.harvesters;
    begins = then.begins ∙ one.begins;
    ready = λ queue desk ready. then.ready queue desk (one.ready queue desk ready);
    faults = λ some. then.faults (one.faults some);
  }

  module _ {slot : Slot} {Changes : Harvester T → Harvester T → Type 0} {number : ℕ} (old new : List (Laning T)) (change : ChangesAt number slot Changes old new)
      (tail_same : (after old new change).tail ≡ (before old new change).tail) (begin_same : begin_of (after old new change) ≡ begin_of (before old new change))
      (known_on : IsKnown tails.numbers tails.told (before old new change) → IsKnown tails.numbers tails.told (after old new change)) where
    abbrev Known : Harvester T → Type 0
    Known = IsKnown tails.numbers tails.told

    ready_at : (queue desk : TableId) (front : List (Laning T)) → AllByRecursion (IsLaneReady tails queue desk) (front ++ change.lane ∷ change.back) →
        AllByRecursion (IsLaneReady tails queue desk) (front ++ with_these (changed_in old new change) change.lane ∷ change.back)
    ready_at queue desk [] ready = (
      record {
        passes = ready.0.passes;
        in_range = ready.0.in_range;
        known = All-from_recursion Known (changed_in old new change) (each_set Known change.lane.harvesters change.changes.index (before old new change) (after old new change) change.changes.was known_on
            (recursion_from_All Known change.lane.harvesters ready.0.known));
      },
      ready.1,
    )
    ready_at queue desk (first ∷ front) ready = (ready.0, ready_at queue desk front ready.1)

    hear_one : HearOnly old new
    hear_one = record {
      passes = passes_same old new change;
      many = as_many old new change;
      harvesters = as_many_harvesters old new change;
      begins = begins_same old new change begin_same;
      ready = λ queue desk ready. subst (AllByRecursion (IsLaneReady tails queue desk)) (sym (changed_is old new change))
          (ready_at queue desk change.front (subst (AllByRecursion (IsLaneReady tails queue desk)) change.were ready));
      faults = some_changed old new change (HasFaults tails) (subst (λ (n : ℕ). 1 ≤ n) (sym (ap tails.faults tail_same)));
    }

  hear_stirred : (number : ℕ) (slot : Slot) (old new : List (Laning T)) → ChangesAt number slot HasStirred old new → HearOnly old new
  hear_stirred number slot old new change =
      let is = change.changes.changes in
      hear_one old new change (ap (λ (h : Harvester T). h.tail) is) (ap begin_of is)
      (λ known. (known.0, subst (λ (h : Harvester T). HasTold tails.numbers tails.told known.0 h) (sym is) (record { held = known.1.held; decides = known.1.decides; looked = known.1.looked })))

  hear_ended : (number : ℕ) (slot : Slot) (old new : List (Laning T)) → ChangesAt number slot (HasEnding tails.numbers tails.told false) old new → HearOnly old new
  hear_ended number slot old new change =
      let is = change.changes.changes in
      hear_one old new change (ap (λ (h : Harvester T). h.tail) is.keeps.others) is.keeps.begin_kept (λ known. (with_ending false known.0, is.ends known.0 known.1))

  hear_renamed : (number : ℕ) (slot : Slot) (path : List ℕ) (old new : List (Laning T)) → ChangesAt number slot (HasRenamed tails.numbers tails.told path) old new → HearOnly old new
  hear_renamed number slot path old new change =
      let is = change.changes.changes in
      hear_one old new change (ap (λ (h : Harvester T). h.tail) is.keeps.others) is.keeps.begin_kept (λ known. (with_path path known.0, is.renamed known.0 known.1))

-- ---- what the step keeps

module _ {T W L D F K B : Type 0} (words : StepWords T W L D F K B) (context : Context) (now : Stop T W L D F K B) (lanes : Vec (Lane T) Global) where
  abbrev old_lanes : List (Laning T)
  old_lanes = lanings now.crew.lanes.items

  abbrev new_lanes : List (Laning T)
  new_lanes = lanings lanes.items

  abbrev old_keeper : Keeping
  old_keeper = now.storing.keeper.now

  module _ (keeper : Keeping) (told : List Note) (hear : HearOnly words.all.tails old_lanes new_lanes) (tells : TellsNotes told old_keeper keeper) (ready : IsReadyAt words context now) where
    abbrev later : Stop T W L D F K B
    later = with_keeper (with_lanes now lanes) keeper

    store_same : keeper.store ≡ old_keeper.store
    store_same = ap (λ (k : Keeping). k.store) tells.others_stay

    rests : RestsAt words now → RestsAt words later
    rests rest = record {
      settled = subst (λ (s : Standing). AreSettled words.all.disks.contents words.all.disks.images now.storing.a.now now.storing.b.now (chosen_by s)) (sym store_same) rest.settled;
      committed = record {
        rest = rest.committed.rest ++ told;
        are = tells.told ∙ ap (λ (l : List Note). l ++ told) rest.committed.are ∙ append_assoc old_keeper.tracked.committed rest.committed.rest told
            ∙ ap (λ (l : List Note). l ++ (rest.committed.rest ++ told)) (sym tells.committed_stays);
      };
    }

    able : IsAbleIn words.all.tails context (crewing later.crew later.storing)
    able =
        let queue = context.outlets.queue.now.id in
        let desk = context.outlets.desk.now.id in
        let was = ready.able in
        record {
          some_lanes = some_still now.crew.lanes.items lanes.items (sym (length-map lanes.items laning) ∙ hear.many ∙ length-map now.crew.lanes.items laning) was.some_lanes;
          some_carriers = was.some_carriers;
          have = have_still queue desk old_lanes new_lanes now.crew.carriers.items now.crew.carriers.items hear.passes refl was.have;
          lanes = All-from_recursion (IsLaneReady words.all.tails queue desk) new_lanes (hear.ready queue desk (recursion_from_All (IsLaneReady words.all.tails queue desk) old_lanes was.lanes));
          pass = ap (λ (k : Keeping). k.pass.desk) tells.others_stay ∙ was.pass;
        }

    pub keeps_heard : {Keepers : Keeping → Keeping → Type 0} → Keepers old_keeper keeper → Keeps words context Keepers None now later
    keeps_heard keepers = record {
      at_rest = λ goes rest. rests rest;
      ready = λ goes. record { able = able; is_open = ap (λ (s : Standing). s.closed) store_same ∙ ready.is_open };
      able = able;
      failing = fail_by_nothing words.all.links words.all.wires context.settings.now.output.attempts (sending (moments_at words now) now.crew.carriers.items);
      none_failed = λ none. none;
      carriers_go_on = carriers_by_nothing words.all.wires now.crew.carriers.items;
      as_many = record { lanes = sym (length-map lanes.items laning) ∙ hear.many ∙ length-map now.crew.lanes.items laning; carriers = refl };
      a_faults_never_fall = omega arith;
      b_faults_never_fall = omega arith;
      rings_never_fall = omega arith;
      clock_goes_on = clock_stays (moments_at words now);
      keeper = keepers;
      same_objects = record { keeper = refl; a = refl; b = refl };
      still_tell = record { a = λ told. told; b = λ told. told };
      readers = record {
        more = [];
        told = sym (none_added (words.seen now.system.folder.now).told);
        faults_never_fall = omega arith;
        fewer = let same = hear.harvesters in omega (arith, same);
        open_tails = let same = hear.harvesters in omega (arith, same);
        slots = λ slot have. subst (λ (l : List (List Begin)). SomeOf (SomeOf (λ (b : Begin). b.slot ≡ slot)) l) hear.begins have;
        fault_stays = λ since le met. ⊎_elim (λ rose. inl rose) (λ some. inr (hear.faults some)) met;
      };
      same_folder = refl;
      same_clock = refl;
      same_bell = refl;
    }

  -- ---- what stands

  module _ (start : Began D) (so_far : SoFar) (stands : Stands words.all start (state_at words now) so_far) where
    abbrev ReadsHere : SoFar → List (Laning T) → Type 0
    ReadsHere so lanes = Reads words.all start (moments_at words now) now.crew.carriers.items (notes old_keeper.pass.got) now.phase so (record { folder = words.seen now.system.folder.now; lanes = lanes })

    abbrev StillReads : SoFar → List (Laning T) → Type 0
    StillReads so lanes = ReadsStill words.all start (moments_at words now) now.crew.carriers.items (notes old_keeper.pass.got) now.phase so (record { folder = words.seen now.system.folder.now; lanes = lanes })

    reads_now : ReadsHere so_far old_lanes
    reads_now = record { files = stands.files; books = stands.books }

    stands_still : (still : StillReads so_far new_lanes) → Stands words.all start (state_at words (with_lanes now lanes)) (record so_far { lanes = still.lanes })
    stands_still still = record { files = still.reads.files; books = still.reads.books; notes = stands.notes; areas = stands.areas }

    -- and nothing was told
    stands_untold : StillReads so_far new_lanes → StandsWith words context start (with_lanes now lanes) so_far []
    stands_untold still = record {
      lanes = still.lanes;
      stands = subst (λ (l : List Note). Stands words.all start (state_at words (with_lanes now lanes)) (record so_far { lanes = still.lanes; begun = l })) (sym (append-nil so_far.begun))
          (stands_still still);
    }

    stirred_reads : (slot : Slot) (new : List (Laning T)) → ChangesOf slot HasStirred old_lanes new → StillReads so_far new
    stirred_reads slot new change =
        let is = change.changes.changes in
        reads_still words.all start (moments_at words now) now.crew.carriers.items (notes old_keeper.pass.got) now.phase so_far (record { folder = words.seen now.system.folder.now; lanes = old_lanes })
        (record { folder = words.seen now.system.folder.now; lanes = new }) refl change reads_now (ap (λ (h : Harvester T). h.tail) is) (ap begin_of is)
        (stirred_on words.all.tails start so_far.scans so_far.opened so_far.moments change.changes.before change.changes.after is)

    ended_reads : (slot : Slot) → EndsFile words.all.tails slot old_lanes new_lanes → IsRemovedSince slot so_far.scans so_far.earlier so_far.opened → StillReads so_far new_lanes
    ended_reads slot ends removed =
        let first = stirred_reads slot ends.mid ends.stirred in
        let is = ends.ended.changes.changes in
        let watch = watch_of start so_far.scans in
        let once = lanes_once words.all.tails watch so_far.opened so_far.moments first.lanes ends.mid so_far.left first.reads.files.turned first.reads.files.each_once in
        let then = reads_still words.all start (moments_at words now) now.crew.carriers.items (notes old_keeper.pass.got) now.phase (record so_far { lanes = first.lanes })
        (record { folder = words.seen now.system.folder.now; lanes = ends.mid }) (record { folder = words.seen now.system.folder.now; lanes = new_lanes }) refl ends.ended first.reads
        (ap (λ (h : Harvester T). h.tail) is.keeps.others) is.keeps.begin_kept
        (ended_on words.all.tails start so_far.scans so_far.opened so_far.moments slot ends.ended.changes.before ends.ended.changes.after ends.ended.changes.of_slot
        (still_stirred old_lanes ends.mid new_lanes ends.stirred ends.ended once) removed is) in
        record { lanes = then.lanes; reads = then.reads }

    renamed_reads : (slot : Slot) (name : Name) → IsNamedAnew slot name so_far.scans so_far.earlier so_far.opened → ChangesOf slot (HasRenamed words.all.tails.numbers words.all.tails.told name.path) old_lanes new_lanes → StillReads so_far new_lanes
    renamed_reads slot name named change =
        let is = change.changes.changes in
        reads_still words.all start (moments_at words now) now.crew.carriers.items (notes old_keeper.pass.got) now.phase so_far (record { folder = words.seen now.system.folder.now; lanes = old_lanes })
        (record { folder = words.seen now.system.folder.now; lanes = new_lanes }) refl change reads_now (ap (λ (h : Harvester T). h.tail) is.keeps.others) is.keeps.begin_kept
        (renamed_on words.all.tails start so_far.scans so_far.opened so_far.moments slot name change.changes.before change.changes.after change.changes.of_slot
        (λ one among of_slot. named.newest one (Contains-append_right (opened_before so_far.earlier) so_far.opened one among) of_slot) is)

    same_reads : new_lanes ≡ old_lanes → StillReads so_far new_lanes
    same_reads same = record { lanes = so_far.lanes; reads = subst (ReadsHere so_far) (sym same) reads_now }

-- ---- the steps

module _ {T W L D F K B : Type 0} (words : StepWords T W L D F K B) where
  pub stirs_are_steps : StirsAreSteps words
  unfolding Onward
  stirs_are_steps context slot now lanes ready change = record {
    keeps = keeps_heard words context now lanes now.storing.keeper.now [] (hear_stirred words.all.tails _ slot (lanings now.crew.lanes.items) (lanings lanes.items) change)
        (none_told now.storing.keeper.now) ready {Keepers = Collects} (collects_none now.storing.keeper.now);
    onward = onward;
  }
    where
      onward : Onward words.all (rules_of context) (state_at words now) (state_at words (with_lanes now lanes))
      onward start so_far by stands began =
          let still = stirred_reads words context now lanes start so_far stands slot (lanings lanes.items) change in
          record { so_far = _; stands = stands_still words context now lanes start so_far stands still; grown = grown_hearing so_far still.lanes }

  pub stirs_are_changes : StirsAreChanges words
  stirs_are_changes context slot now lanes ready change = record {
    keeps = keeps_heard words context now lanes now.storing.keeper.now [] (hear_stirred words.all.tails _ slot (lanings now.crew.lanes.items) (lanings lanes.items) change)
        (none_told now.storing.keeper.now) ready {Keepers = TellsNotes []} (none_told now.storing.keeper.now);
    changed = λ start so_far by stands supposed.
        stands_untold words context now lanes start so_far stands (stirred_reads words context now lanes start so_far stands slot (lanings lanes.items) change);
  }

  module _ (context : Context) (slot : Slot) (now : Stop T W L D F K B) (lanes : Vec (Lane T) Global) (ready : IsReadyAt words context now)
      (ends : EndsFile words.all.tails slot (lanings now.crew.lanes.items) (lanings lanes.items)) where
    hear_ends : HearOnly words.all.tails (lanings now.crew.lanes.items) (lanings lanes.items)
    hear_ends = hear_by_two words.all.tails (lanings now.crew.lanes.items) ends.mid (lanings lanes.items) (hear_stirred words.all.tails _ slot (lanings now.crew.lanes.items) ends.mid ends.stirred)
        (hear_ended words.all.tails _ slot ends.mid (lanings lanes.items) ends.ended)

    ends_change : IsChange words context (IsRemovedSince slot) [] now (with_lanes now lanes)
    ends_change = record {
      keeps = keeps_heard words context now lanes now.storing.keeper.now [] hear_ends (none_told now.storing.keeper.now) ready {Keepers = TellsNotes []} (none_told now.storing.keeper.now);
      changed = λ start so_far by stands removed.
          stands_untold words context now lanes start so_far stands (ended_reads words context now lanes start so_far stands slot ends removed);
    }

  pub ends_are_changes : EndsAreChanges words
  ends_are_changes context slot now lanes ready ends = ends_change context slot now lanes ready ends

  module _ (reads : (disk : D) → IfSome (words.all.disks.contents disk) (words.all.disks.images disk))
      (counts : (disk : D) (at : ℕ) (image : List ℕ) → at ≤ words.all.disks.moment disk → words.all.disks.images disk image → words.all.disks.images_since disk at image) where
    module _ (context : Context) (name : NewName) (now : Stop T W L D F K B) (lanes : Vec (Lane T) Global) (keeper : Keeping) (ready : IsReadyAt words context now)
        (names : NamesFile words.all.tails name (lanes_and_keeper now) (lanes_and_keeper (with_keeper (with_lanes now lanes) keeper))) where
      abbrev olds : List (Laning T)
      olds = lanings now.crew.lanes.items

      abbrev news : List (Laning T)
      news = lanings lanes.items

      abbrev as_name : Name
      as_name = record { scan = name.scan; path = name.path }

      hear : HearOnly words.all.tails olds news
      hear = ⊎_elim (λ change. hear_renamed words.all.tails _ name.slot name.path olds news change)
          (λ none. subst (HearOnly words.all.tails olds) (sym none.1) (hear_nothing words.all.tails olds)) names.renames

      changed : (start : Began D) (so_far : SoFar) → Stands words.all start (state_at words now) so_far → IsNamedAnew name.slot as_name so_far.scans so_far.earlier so_far.opened →
          StandsWith words context start (with_keeper (with_lanes now lanes) keeper) so_far (rename_note name ∷ [])
      changed start so_far stands named =
          let still = ⊎_elim (λ change. renamed_reads words context now lanes start so_far stands name.slot as_name named change)
          (λ none. same_reads words context now lanes start so_far stands none.1) names.renames in
          let ground = have_ground olds now.crew.carriers.items so_far.queued (notes now.storing.keeper.now.pass.got) so_far.boxed so_far.told (all_told so_far) stands.books.gave stands.books.placed
          (all_told so_far) (λ h. refl) so_far.collected (held_in now.storing.keeper.now.held) stands.notes.noted.got in
          let first = first_named so_far.earlier so_far.opened name.slot named.file named.among named.slot_is in
          let newest : (one : Opened) → Contains (first_opened so_far.earlier so_far.opened) one → one.begin.slot ≡ name.slot → IsNewestName so_far.scans one as_name =
          λ one among of_slot. named.newest one (first_within so_far.earlier so_far.opened one among) of_slot in
          let orderly = rename_follows so_far.scans start.opening start.listed (first_opened so_far.earlier so_far.opened) so_far.hidden so_far.begun name.slot as_name first.one first.among first.slot_is newest
          stands.notes.begun now.storing.keeper.now.tracked.notes so_far.collected so_far.earlier so_far.forgotten stands.notes.noted.mixed (all_told so_far) (flat so_far.told.acknowledged) ground names.followed.begun in
          record {
            lanes = still.lanes;
            stands = stands_told words.all reads counts start (moments_at words now) now.storing.a.now now.storing.b.now (words.seen now.system.folder.now).told (record now.crew { lanes = lanes }) now.phase
                (rename_note name ∷ []) now.storing.keeper.now keeper (record so_far { lanes = still.lanes }) so_far.hidden stands.notes.hidden orderly names.tells
                (begun_too so_far.scans start.opening start.listed (first_opened so_far.earlier so_far.opened) so_far.hidden so_far.begun name.slot as_name first.one first.among first.slot_is newest stands.notes.begun)
                (stands_still words context now lanes start so_far stands still);
          }

      renames_change : IsChange words context (IsNamedAnew name.slot as_name) (rename_note name ∷ []) now (with_keeper (with_lanes now lanes) keeper)
      renames_change = record {
        keeps = keeps_heard words context now lanes keeper (rename_note name ∷ []) hear names.tells ready {Keepers = TellsNotes (rename_note name ∷ [])} names.tells;
        changed = λ start so_far by stands named. changed start so_far stands named;
      }

    pub renames_are_changes : RenamesAreChanges words
    renames_are_changes context name now lanes keeper ready names = renames_change context name now lanes keeper ready names

-- ---- two in a row

module _ {T W L D F K B : Type 0} (words : StepWords T W L D F K B) (context : Context) where
  pub changes_by_two : (First Second : List LaterScan → List Earlier → List Opened → Type 0) (told more : List Note) (first mid last : Stop T W L D F K B) → IsChange words context First told first mid →
      IsChange words context Second more mid last → IsChange words context (λ scans earlier opened. First scans earlier opened × Second scans earlier opened) (told ++ more) first last
  changes_by_two First Second told more first mid last one then = record {
    keeps = keeps_by_two (told_behind told more) one.keeps then.keeps;
    changed = λ start so_far by stands supposed.
        let by_one = one.changed start so_far by stands supposed.0 in
        let by_both = then.changed start (record so_far { lanes = by_one.lanes; begun = so_far.begun ++ told }) by by_one.stands supposed.1 in
        record {
          lanes = by_both.lanes;
          stands = subst (λ (l : List Note). Stands words.all start (state_at words last) (record so_far { lanes = by_both.lanes; begun = l })) (append_assoc so_far.begun told more) by_both.stands;
        };
  }
