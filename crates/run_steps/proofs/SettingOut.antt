-- A crew as it is made may make rounds, and what stands of a run stands as it sets out and once its files are begun.
use Rattle.std.proofs.Common.{◌≡◌, ◌⊎◌, inl, inr, ⊎_elim, ℕ, Bool, ◌≤◌, ◌+◌, All, List, [], ◌∷◌, ◌++◌, length, map, take, drop, Option, None, IfSome, IsSome, Result, Ok, Err, IfOk, IfErr, refl, sym, ap, subst, ◌∙◌, arith}
use Rattle.std.specs.List.{AllByRecursion}
use Rattle.std.proofs.Math.Seq.{take-append_seam}
use Rattle.std.proofs.lemmas.List.{length-map, length-append, take-append-drop}
use Rattle.std.proofs.lemmas.List.Elements.{All-from_recursion, All-nil, recursion_from_All}
use Rattle.atomic_table.specs.Seated.{TableId}
use Rattle.batch_worker.specs.Standing.{length_of}
use Rattle.beat_config.specs.InRange.{AreInRange}
use Rattle.event_tree.specs.declared.settings.Settings.{Settings}
use Rattle.keeper.specs.Collecting.{Collects}
use Rattle.keeper.specs.Keeping.{Keeping}
use Rattle.kept_rows.proofs.Storing.{Covers}
use Rattle.lanes.specs.Giving.{IsInRange}
use Rattle.lanes.specs.Laning.{Laning}
use Rattle.lanes.specs.Turned.{IsKnown}
use Rattle.outside.specs.Folders.{Event}
use Rattle.outside.specs.Talks.{Talk}
use Rattle.prospect.specs.declared.listed.Listed.{Listed}
use Rattle.report.specs.declared.passing.Passing.{Passing}
use Rattle.rounds.specs.Crewed.{lane_passes, lanes_passes, lanings}
use Rattle.rounds.specs.Crewing.{crewing}
use Rattle.rounds.specs.Making.{IsBegunCarrier, IsBegunLane, StandsForNothing, wires_of}
use Rattle.rounds.specs.Pairs.{Pairs}
use Rattle.rounds.specs.Passes.{AreAllOf, AreOf}
use Rattle.rounds.specs.Rounds.{IsReady}
use Rattle.rounds.specs.Running.{IsLaneReady}
use Rattle.rounds.specs.Words.{TailWords, Words}
use Rattle.rounds.specs.declared.carrier.Carrier.{Carrier}
use Rattle.rounds.specs.declared.crew.Crew.{Crew}
use Rattle.rounds.specs.declared.storing.Storing.{Storing}
use Rattle.wire_base.specs.declared.numbers.Moment.{Moment}
use Rattle.wire_base.specs.declared.row.Row.{Row}
use Rattle.run_steps.specs.AccountedOver.{AccountedOver}
use Rattle.run_steps.specs.Areas.{BeganAtRest, IsAtRest}
use Rattle.run_steps.specs.Began.{Began}
use Rattle.run_steps.specs.Beginning.{Beginning}
use Rattle.run_steps.specs.BeginsAll.{BeginsAll, BeginsSome, came_of}
use Rattle.run_steps.specs.BegunCrew.{IsBegunCrew}
use Rattle.run_steps.specs.HiddenRows.{HidesBegun, TellsHidden}
use Rattle.run_steps.specs.Looking.{LooksSince}
use Rattle.run_steps.specs.Met.{IsTelling}
use Rattle.run_steps.specs.Outset.{Earlier, IsFirstKeeper, Outset, SetsOut, began_with}
use Rattle.run_steps.specs.Ends.{Ending}
use Rattle.run_steps.specs.Questions.{Questions}
use Rattle.run_steps.specs.Releasing.{harvesters_of, with_events}
use Rattle.run_steps.specs.RunEnds.{HasEnded}
use Rattle.run_steps.specs.RunOf.{FolderTold, starts_of, told_scan}
use Rattle.run_steps.specs.RunState.{Reading}
use Rattle.run_steps.specs.Scanned.{HasScanned}
use Rattle.run_steps.specs.Stands.{Further, Stands}
use Rattle.run_steps.specs.WireOn.{OutcomesGoOn}
use Rattle.run_steps.specs.Worked.{AreAllBegun, HasPassed, phase_begun}
use Rattle.run_steps.specs.declared.begin_error.BeginError.{BeginError}
use Rattle.run_steps.specs.declared.beginning.BegunFiles.{BegunFiles}
use Rattle.run_steps.specs.declared.met.Met.{Met}
use Rattle.run_steps.specs.declared.met.Met.TheVariants.{Stopped}
use Rattle.run_steps.proofs.AllBegun.{all_are_seen, stands_begun}
use Rattle.run_steps.proofs.BeginningOne.{at_phase}
use Rattle.run_steps.proofs.BegunLooks.{all_skipped}
use Rattle.run_steps.proofs.BegunReady.{rest_begun, rests_on}
use Rattle.run_steps.proofs.HiddenBegun.{hides_tell}
use Rattle.run_steps.proofs.First.{IsMade, given, so_far, stands_first}
use Rattle.run_steps.proofs.RunEnded.{ended_is_accounted_for, ended_objects}
use Rattle.run_steps.proofs.RunRows.{OneChoice}
use Rattle.told_scans.proofs.ScanList.{since_earlier}
use Rattle.run_steps.proofs.StillServed.{IsServedAtEnd, served_at_end}
use Rattle.run_steps.proofs.OneScan.{told_so}

-- ---- lists

drop_front : {A : Type 0} (xs ys : List A) → drop (length xs) (xs ++ ys) ≡ ys
drop_front [] ys = refl
drop_front (x ∷ xs) ys = drop_front xs ys

map_twice : {A B C : Type 0} (f : B → C) (g : A → B) (xs : List A) → map f (map g xs) ≡ map (λ (x : A). f (g x)) xs
map_twice f g [] = refl
map_twice f g (x ∷ xs) = ap (λ (l : List _). f (g x) ∷ l) (map_twice f g xs)

map_both : {A B : Type 0} (f : A → B) (xs ys : List A) → map f (xs ++ ys) ≡ map f xs ++ map f ys
map_both f [] ys = refl
map_both f (x ∷ xs) ys = ap (λ (l : List _). f x ∷ l) (map_both f xs ys)

-- ---- lanes as they are made

module _ {T : Type 0} (tails : TailWords T) (queue desk : TableId) where
  begun_ready : (lane : Laning T) → AreOf queue desk (lane_passes lane) → IsBegunLane lane → IsLaneReady tails queue desk lane
  begun_ready lane of begun = record {
    passes = of;
    in_range = subst (λ (l : Laning T). IsInRange l.held) (sym begun.is) tt;
    known = subst (λ (l : Laning T). All (IsKnown tails.numbers tails.told) l.harvesters) (sym begun.is) (All-nil (IsKnown tails.numbers tails.told));
  }

  each_begun : (lanes : List (Laning T)) → AreAllOf queue desk (lanes_passes lanes) → AllByRecursion IsBegunLane lanes → AllByRecursion (IsLaneReady tails queue desk) lanes
  each_begun [] of begun = tt
  each_begun (l ∷ ls) of begun = (begun_ready l of.0 begun.0, each_begun ls of.1 begun.1)

-- ---- a crew as it is made

module _ {T W L : Type 0} (told : L → Option Talk) (queue desk : TableId) (settings : Settings) (wires left : List W) (crew : Crew T W L) (begun : IsBegunCrew told queue desk settings wires left crew) where
  pub first_ready : {D : Type 0} (tails : TailWords T) (storing : Storing D) → AreInRange settings → IsFirstKeeper desk storing.keeper.now → IsReady tails queue desk (crewing crew storing)
  first_ready tails storing in_range first = record {
    able = record {
      some_lanes = λ none. absurd (let long = ap (λ (l : List _). length l) none in let many = begun.many_lanes in let some = in_range.lanes in omega (arith, long, many, some));
      some_carriers = λ none. absurd (let long = ap (λ (l : List _). length l) none in let many = begun.many_carriers in let some = in_range.output.workers in omega (arith, long, many, some));
      have = begun.have;
      lanes = All-from_recursion (IsLaneReady tails queue desk) (lanings crew.lanes.items)
          (each_begun tails queue desk (lanings crew.lanes.items) begun.have.lanes_have (recursion_from_All IsBegunLane (lanings crew.lanes.items) begun.lanes));
      pass = ap (λ (k : Keeping). k.pass.desk) first.is ∙ first.of_box;
    };
    is_open = ap (λ (k : Keeping). k.store.closed) first.is ∙ first.is_open;
  }

  front_is : wires ≡ wires_of crew.carriers.items ++ left
  front_is = begun.wires_are.in_order

  as_many : length (wires_of crew.carriers.items) ≡ settings.output.workers
  as_many = length-map crew.carriers.items (λ (c : Carrier W L). c.wire) ∙ begun.many_carriers

  pub first_wires : take settings.output.workers wires ≡ wires_of crew.carriers.items
  first_wires = ap (λ (n : ℕ). take n wires) (sym as_many) ∙ ap (take (length (wires_of crew.carriers.items))) front_is ∙ take-append_seam (wires_of crew.carriers.items) left

  pub wires_left : drop settings.output.workers wires ≡ left
  wires_left = ap (λ (n : ℕ). drop n wires) (sym as_many) ∙ ap (drop (length (wires_of crew.carriers.items))) front_is ∙ drop_front (wires_of crew.carriers.items) left

  pub wires_fit : length crew.carriers.items + length left ≡ length wires
  wires_fit =
      let all = ap (λ (l : List W). length l) front_is in
      let both = length-append (wires_of crew.carriers.items) left in
      let front = length-map crew.carriers.items (λ (c : Carrier W L). c.wire) in
      omega (arith, all, both, front)

-- ---- what stands

module _ {T W L D : Type 0} (words : Words T W L D) (reads : (disk : D) → IfSome (words.disks.contents disk) (words.disks.images disk))
    (counts : (disk : D) (at : ℕ) (image : List ℕ) → at ≤ words.disks.moment disk → words.disks.images disk image → words.disks.images_since disk at image)
    (queue desk : TableId) (settings : Settings) (once : Bool) (listed doubled : List Listed) (now : Moment) (moments : Option (List ℕ)) (wires left : List W) (a b : D) (old : Beginning T W L) (earlier : Earlier D) where
  abbrev outset : Outset W D
  outset = record { settings = settings; once = once; listed = listed; doubled = doubled; moment = now.0; shown = old.folder.told; moments = moments; wires = wires; keeper = old.keeper; a = a; b = b }

  abbrev start : Began D
  start = began_with words.wires outset earlier

  module _ (begun : IsBegunCrew words.links.told queue desk settings wires left old.crew) (first : IsFirstKeeper desk old.keeper) (sets : SetsOut words.disks start outset) where
    made : IsMade words start old.crew first.store first.pass a b moments settings.output
    made = record {
      lanes = recursion_from_All IsBegunLane (lanings old.crew.lanes.items) begun.lanes;
      carriers = recursion_from_All (IsBegunCarrier settings.output) old.crew.carriers.items begun.carriers;
      stand = recursion_from_All (StandsForNothing words.links.told) old.crew.carriers.items begun.stand;
      lanes_know = begun.lanes_know;
      carriers_know = begun.carriers_know;
      heard = ap (map (λ (w : W). length_of (words.wires.outcomes w))) (first_wires words.links.told queue desk settings wires left old.crew begun)
          ∙ map_twice (λ (w : W). length_of (words.wires.outcomes w)) (λ (c : Carrier W L). c.wire) old.crew.carriers.items;
      opening_is = sym (ap (λ (k : Keeping). k.store.rows) first.is);
      in_order = first.in_order;
      none_got = first.none_got;
      gives = sets.gives;
      areas = sets.areas;
    }

    stands_out : Stands words start (at_phase words start moments a b old.folder.told old.crew old.keeper Reading) (so_far words start old.crew first.store first.pass a b moments settings.output made)
    stands_out = subst (λ (k : Keeping). Stands words start (at_phase words start moments a b old.folder.told old.crew k Reading) (so_far words start old.crew first.store first.pass a b moments settings.output made))
        (sym first.is) (stands_first words start old.crew first.store first.pass a b moments settings.output made)

    -- once files are begun, and the keeper was told of hidden rows
    module _ (begun_so : Result BegunFiles BeginError) (new : Beginning T W L) (begins : IfOk begun_so (λ files. BeginsAll words.tails settings old.keeper.store.rows now listed (came_of files) old new))
        (ended : IfErr begun_so (λ what. BeginsSome words.tails settings old.keeper.store.rows now listed what old new))
        (rows_same : new.keeper.store.rows ≡ old.keeper.store.rows)
        (result : Result BegunFiles BeginError) (hid : Keeping) (hides : HidesBegun settings.inputs listed begun_so result new.keeper hid) where
      pub further : Further words start (at_phase words start moments a b new.folder.told new.crew hid (phase_begun result))
      further = stands_begun words reads counts start moments a b now old (so_far words start old.crew first.store first.pass a b moments settings.output made) stands_out refl refl refl
          (given words start old.crew first.store first.pass a b moments settings.output made).ends sets.of_inputs begun_so result new hid begins ended rows_same hides

      pub rests : BeganAtRest words.disks start → IsAtRest words.disks hid a b
      rests began =
          let more = hides_tell settings.inputs listed begun_so result new.keeper hid hides in
          rests_on words.disks a b more.more new.keeper hid more.tells (rest_begun words.tails settings old.keeper.store.rows now words.disks a b listed begun_so old new begins ended (sets.at_rest began))

      -- ---- at the end

      module _ (ending : Ending D) (met : Met) (after : List W) (has_ended : HasEnded words start ending met left after) (folder : FolderTold) (has : HasScanned start folder)
          (clock_tells : IsSome earlier.moments) (wires_tell : AllByRecursion (λ wire. IsSome (words.wires.outcomes wire)) after) where
        parted : wires ≡ take settings.output.workers wires ++ left
        parted = sym (take-append-drop settings.output.workers wires) ∙ ap (λ (l : List W). take settings.output.workers wires ++ l) (wires_left words.links.told queue desk settings wires left old.crew begun)

        pub starts : map length_of (map words.wires.outcomes wires) ≡ starts_of words.wires start left
        starts = map_twice length_of words.wires.outcomes wires ∙ ap (map (λ (w : W). length_of (words.wires.outcomes w))) parted
            ∙ map_both (λ (w : W). length_of (words.wires.outcomes w)) (take settings.output.workers wires) left

        pub served : (passed : List Passing) → HasPassed result passed → AreAllBegun result → Collects hid ending.keeper → hid.held ≡ None →
            (events : List Event) → ending.shown ≡ with_events events new.folder.told → IsServedAtEnd settings old.keeper.store.rows listed passed ending.keeper.tracked.notes folder ending.shown
        served passed has_passed all_begun collects none_held events then = by_result begun_so result begins hides has_passed all_begun
          where
            by_result : (b r : Result BegunFiles BeginError) → IfOk b (λ files. BeginsAll words.tails settings old.keeper.store.rows now listed (came_of files) old new) → HidesBegun settings.inputs listed b r new.keeper hid → HasPassed r passed →
                AreAllBegun r → IsServedAtEnd settings old.keeper.store.rows listed passed ending.keeper.tracked.notes folder ending.shown
            by_result (Ok files) (Ok same) all hides_all are none_failed =
                subst (λ (l : List Passing). IsServedAtEnd settings old.keeper.store.rows listed l ending.keeper.tracked.notes folder ending.shown) (sym (are ∙ ap (λ (b : BegunFiles). b.passed.items) hides_all.0))
                (served_at_end words.tails settings old.keeper.store.rows now listed (came_of files) folder old new has.shown (since_earlier (told_scan start folder) (told_so start folder has))
                (ap (λ (k : Keeping). k.tracked.notes) first.is) (ap (λ (b : BegunFiles). b.faulty) (sym hides_all.0) ∙ none_failed) all
                (all_are_seen words reads counts start moments a b now old (so_far words start old.crew first.store first.pass a b moments settings.output made) stands_out refl refl refl
                (given words start old.crew first.store first.pass a b moments settings.output made).ends sets.of_inputs (came_of files) new all)
                hid (subst (λ (l : List Row). TellsHidden settings.inputs listed l new.keeper hid) rows_same hides_all.1)
                ending.keeper collects none_held events ending.shown then)
            by_result (Ok files) (Err what) all hides_some are none = absurd none
            by_result (Err what) (Ok files) all never are none_failed = absurd never
            by_result (Err what) (Err other) all same are none = absurd none

        pub accounted : (asked then_asked : Questions) → OneChoice → Covers → (passed : List Passing) → HasPassed result passed → (IsTelling met → AreAllBegun result) → Collects hid ending.keeper → hid.held ≡ None →
            (events : List Event) → ending.shown ≡ with_events events new.folder.told → Pairs OutcomesGoOn (map words.wires.outcomes wires) (map words.wires.outcomes after) →
            (met ≡ Stopped → asked.bell + 2 ≤ then_asked.bell → (harvesters_of (lanings new.crew.lanes.items) ≡ []) ⊎ LooksSince start.shown ending.shown) →
            AccountedOver words.disks settings old.keeper.store.rows listed now.0 (length folder.scanned.events)
            (ended_objects words start ending met left after has_ended folder has clock_tells wires_tell (map words.wires.outcomes wires) starts asked then_asked) met passed ending.keeper.shipped ending.keeper.dropped
        accounted asked then_asked one covers passed has_passed told_where_begun collects none_held events then go_on looks =
            ended_is_accounted_for words start ending met left after has_ended folder has clock_tells wires_tell (map words.wires.outcomes wires) starts asked then_asked one covers sets.gave passed
            (λ telling. served passed has_passed (told_where_begun telling) collects none_held events then) go_on
            (λ stopped twice. ⊎_elim
            (λ none. inl (all_skipped words.tails settings old.keeper.store.rows now settings.inputs listed begun_so result old new hid passed begins hides has_passed (told_where_begun (subst IsTelling (sym stopped) tt))
            (recursion_from_All IsBegunLane (lanings old.crew.lanes.items) begun.lanes) none))
            (λ since. inr since) (looks stopped twice))
