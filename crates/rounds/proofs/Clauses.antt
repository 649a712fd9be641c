-- What a round's clauses say, from the turns that it was made of.
use Rattle.std.proofs.Common.{◌≡◌, ◌⊎◌, ⊎_elim, ◌≤◌, Bool, true, false, ◌||◌, Some, inl, inr, refl, sym, ap, subst, ◌∙◌, arith}
use Rattle.keeper.specs.Collecting.{Collects}
use Rattle.keeper.specs.Storing.{IsStoredInFull, Stores}
use Rattle.lanes.specs.declared.run.When.{When}
use Rattle.mem_queue.specs.BoundedQueue.{BoundedQueue}
use Rattle.outside.specs.Counts.{Rose}
use Rattle.settle_box.specs.BoundedBox.{BoundedBox}
use Rattle.settle_box.specs.Senders.{notes}
use Rattle.ship_core.specs.Orderly.{AreOrderly}
use Rattle.wire_base.specs.declared.numbers.Slot.{Slot}
use Rattle.rounds.specs.Answer.{have_others_moved, round_of, some_carrier_moved, some_lane_moved}
use Rattle.rounds.specs.Books.{AreBooked, ArePlaced, Told, told_on}
use Rattle.rounds.specs.Causes.{AnswersSteps, LanesHad, RoundCauses}
use Rattle.rounds.specs.Crewed.{lanings}
use Rattle.rounds.specs.Images.{AreAtRest, ImagesAreFronts}
use Rattle.rounds.specs.KeeperTurns.{SameObjects, StillTell, begun_stored}
use Rattle.rounds.specs.Moved.{HaveMoved, HaveVisited, WereStill}
use Rattle.rounds.specs.Placed.{IsPlacedAfter}
use Rattle.rounds.specs.RoundKeeps.{RoundKeeps}
use Rattle.rounds.specs.Rounds.{IsReady, KeeperHad, KeeperRested, Rounds}
use Rattle.rounds.specs.Running.{StoringHasRun}
use Rattle.rounds.specs.Staying.{AreAsMany, HaveSlot, begins_of}
use Rattle.rounds.specs.Words.{Words}
use Rattle.rounds.specs.declared.answer.Round.{Round}
use Rattle.rounds.specs.Crewing.{Crewing}
use Rattle.rounds.specs.declared.storing.Storing.{Storing}
use Rattle.rounds.proofs.Causes.{a_faults_ran, answers_steps, b_faults_ran, rose_ran, wires_stay}
use Rattle.rounds.proofs.KeeperSteps.{same_by}
use Rattle.rounds.proofs.Images.{images_are_fronts, kept_still, rested_images, rested_kept}
use Rattle.rounds.proofs.Moved.{answer_moved, bare_answer, carriers_moved, carriers_still, lanes_moved, lanes_still, lanes_visited, storing_moved, storing_still}
use Rattle.rounds.proofs.Placing.{booked_met, carriers_stepped, lanes_stepped, placed_met}
use Rattle.rounds.proofs.Kept.{collects_ran, collects_same, in_full_by, stores_ran, tells_ran, tells_same}
use Rattle.rounds.proofs.Ready.{able_still, ready_still, stored_disk, stored_memory}
use Rattle.rounds.proofs.Slices.{paired_many}
use Rattle.rounds.proofs.Staying.{begins_met, begins_ran, crew_as_many, slot_in_lanes}
use Rattle.rounds.proofs.Sums.{booked_on}

-- ---- truth

abbrev IsSet : Bool → Type 0
IsSet true = Unit {0}
IsSet false = ⊥

apart : {P : Type 0} → true ≡ false → P
apart is = absurd (subst IsSet is tt)

both_false : (a b : Bool) → (a || b) ≡ false → (a ≡ false) × (b ≡ false)
both_false true b is = apart is
both_false false b is = (refl, is)

one_true : (a b : Bool) → (a || b) ≡ true → (a ≡ true) ⊎ (b ≡ true)
one_true true b is = inl refl
one_true false b is = inr is

module _ {T W L D : Type 0} (words : Words T W L D) (queue : BoundedQueue) (desk : BoundedBox) (when : When) where
  -- ---- each span is in one place

  pub placed_after : (old new : Crewing T W L D) (round : Round) (told : Told) → Rounds words queue desk when old new round → IsReady words.tails queue.id desk.id old
      → AreBooked words.links words.wires told (lanings old.lanes.items) old.carriers.items → IsPlacedAfter words queue desk when told old new
  placed_after old new round told rounds ready booked =
      let mid = rounds.mid in
      let met = rounds.meets.met in
      let lanes = lanes_stepped words.tails queue.capacity desk.capacity when queue.id desk.id (lanings old.lanes.items) (lanings mid.lanes.items) rounds.ran.others.lanes ready.able.have.lanes_have in
      let carriers = carriers_stepped words.links words.wires desk.capacity when.now queue.id desk.id told.acknowledged old.carriers.items mid.carriers.items rounds.ran.others.carriers ready.able.have.carriers_have booked.acknowledged in
      let later = told_on told lanes.steps carriers.after in
      let booked_then = booked_on words.links words.wires told lanes.steps carriers.after (lanings old.lanes.items) (lanings mid.lanes.items) old.carriers.items mid.carriers.items lanes.kept carriers.kept booked in
      record {
        steps = lanes.steps;
        acknowledged = carriers.after;
        lanes = lanings mid.lanes.items;
        steps_are = lanes.are;
        lanes_are = met.lanes_same;
        acknowledged_more = carriers.more;
        booked = booked_met words.links words.wires queue.id desk.id mid.storing.keeper.now.pass.got later (lanings mid.lanes.items) (lanings new.lanes.items) mid.carriers.items new.carriers.items met booked_then;
        queued = met.queued;
        boxed = notes met.boxed;
        placed = subst (λ (s : Storing D). ArePlaced later (lanings new.lanes.items) new.carriers.items met.queued (notes s.keeper.now.pass.got) (notes met.boxed)) (sym rounds.meets.storing)
            (placed_met words.links words.wires queue.id desk.id mid.storing.keeper.now.pass.got later (lanings mid.lanes.items) (lanings new.lanes.items) mid.carriers.items new.carriers.items met booked_then);
      }

  -- ---- moved means moved

  -- by what lanes, workers and the keeper reported before their passes met
  moved_is : (old new : Crewing T W L D) (round : Round) → (rounds : Rounds words queue desk when old new round)
      → round.moved ≡ ((rounds.mid.storing.stored.moved || some_lane_moved (lanings rounds.mid.lanes.items)) || some_carrier_moved rounds.mid.carriers.items)
  moved_is old new round rounds =
      ap (λ (r : Round). r.moved) rounds.answer
      ∙ ap (λ (r : Round). r.moved) (bare_answer (lanings rounds.mid.lanes.items) (lanings new.lanes.items) rounds.mid.carriers.items new.carriers.items new.storing.stored rounds.meets.met.lanes_same rounds.meets.met.carriers_same)
      ∙ ap (λ (s : Storing D). (round_of (lanings rounds.mid.lanes.items) rounds.mid.carriers.items s.stored).moved) rounds.meets.storing
      ∙ answer_moved (lanings rounds.mid.lanes.items) rounds.mid.carriers.items rounds.mid.storing.stored

  keeper_moved : (old mid : Crewing T W L D) (moved : Bool) → KeeperHad words.disks moved old mid ⊎ KeeperRested moved old mid → mid.storing.stored.moved ≡ true → KeeperHad words.disks moved old mid
  keeper_moved old mid moved (inl had) is = had
  keeper_moved old mid moved (inr rested) is = apart (sym is ∙ ap (λ (s : Storing D). s.stored.moved) rested.same)

  keeper_had : (old mid : Crewing T W L D) (moved : Bool) → KeeperHad words.disks moved old mid ⊎ KeeperRested moved old mid → moved ≡ false → KeeperHad words.disks moved old mid
  keeper_had old mid moved (inl had) is = had
  keeper_had old mid moved (inr rested) is = apart (sym rested.why.1 ∙ is)

  pub were_still : (old new : Crewing T W L D) (round : Round) → Rounds words queue desk when old new round → round.moved ≡ false → WereStill words queue desk when old new
  were_still old new round rounds is =
      let mid = rounds.mid in
      let none = both_false (mid.storing.stored.moved || some_lane_moved (lanings mid.lanes.items)) (some_carrier_moved mid.carriers.items) (sym (moved_is old new round rounds) ∙ is) in
      let first = both_false mid.storing.stored.moved (some_lane_moved (lanings mid.lanes.items)) none.0 in
      let others : have_others_moved (lanings mid.lanes.items) mid.carriers.items ≡ false = ap (λ (b : Bool). b || some_carrier_moved mid.carriers.items) first.1 ∙ none.1 in
      record {
        mid = mid;
        met = record { lanes = rounds.meets.met.lanes_same; carriers = rounds.meets.met.carriers_same; storing = rounds.meets.storing };
        lanes = lanes_still words.tails queue.capacity desk.capacity when (lanings old.lanes.items) (lanings mid.lanes.items) rounds.ran.others.lanes first.1;
        carriers = carriers_still words.links words.wires desk.capacity when.now old.carriers.items mid.carriers.items rounds.ran.others.carriers none.1;
        storing = storing_still words.disks old.storing mid.storing (keeper_had old mid _ rounds.ran.keeper others).ran first.0;
      }

  pub have_moved : (old new : Crewing T W L D) (round : Round) → Rounds words queue desk when old new round → round.moved ≡ true → HaveMoved words queue desk when old new
  have_moved old new round rounds is =
      let mid = rounds.mid in
      record {
        mid = mid;
        met = record { lanes = rounds.meets.met.lanes_same; carriers = rounds.meets.met.carriers_same; storing = rounds.meets.storing };
        some = ⊎_elim
            (λ first. ⊎_elim
            (λ stored. inr (inr (storing_moved words.disks old.storing mid.storing (keeper_moved old mid _ rounds.ran.keeper stored).ran stored)))
            (λ lanes. inl (lanes_moved words.tails queue.capacity desk.capacity when (lanings old.lanes.items) (lanings mid.lanes.items) rounds.ran.others.lanes lanes))
            (one_true mid.storing.stored.moved (some_lane_moved (lanings mid.lanes.items)) first))
            (λ carriers. inr (inl (carriers_moved words.links words.wires desk.capacity when.now old.carriers.items mid.carriers.items rounds.ran.others.carriers carriers)))
            (one_true (mid.storing.stored.moved || some_lane_moved (lanings mid.lanes.items)) (some_carrier_moved mid.carriers.items) (sym (moved_is old new round rounds) ∙ is));
      }

  have_visited : (old new : Crewing T W L D) (round : Round) → Rounds words queue desk when old new round → HaveVisited words queue desk when old new
  have_visited old new round rounds = record {
    mid = rounds.mid;
    met = record { lanes = rounds.meets.met.lanes_same; carriers = rounds.meets.met.carriers_same; storing = rounds.meets.storing };
    lanes = lanes_visited words.tails queue.capacity desk.capacity when (lanings old.lanes.items) (lanings rounds.mid.lanes.items) rounds.ran.others.lanes;
  }

  -- ---- images are prefixes

  images_then : (old mid : Crewing T W L D) (moved : Bool) → KeeperHad words.disks moved old mid ⊎ KeeperRested moved old mid → AreAtRest words.disks old.storing → AreOrderly mid.storing.keeper.now.tracked.notes
      → ImagesAreFronts words.disks old.storing mid.storing
  unfolding StoringHasRun
  images_then old mid moved (inl had) kept orderly = images_are_fronts words.disks old.storing mid.storing had.ran kept orderly
  images_then old mid moved (inr rested) kept orderly = rested_images words.disks old.storing mid.storing rested.same

  kept_then : (old mid : Crewing T W L D) (moved : Bool) → KeeperHad words.disks moved old mid ⊎ KeeperRested moved old mid → mid.storing.stored.disk ≡ false → mid.storing.stored.memory ≡ false → AreAtRest words.disks old.storing
      → AreAtRest words.disks mid.storing
  unfolding StoringHasRun
  kept_then old mid moved (inl had) disk memory kept = kept_still words.disks old.storing mid.storing had.ran disk memory kept
  kept_then old mid moved (inr rested) disk memory kept = rested_kept words.disks old.storing mid.storing rested.same kept

  pub images : (old new : Crewing T W L D) (round : Round) → Rounds words queue desk when old new round → AreAtRest words.disks old.storing → AreOrderly new.storing.keeper.now.tracked.notes → ImagesAreFronts words.disks old.storing new.storing
  images old new round rounds kept orderly =
      subst (λ (s : Storing D). ImagesAreFronts words.disks old.storing s) (sym rounds.meets.storing)
      (images_then old rounds.mid _ rounds.ran.keeper kept (subst (λ (s : Storing D). AreOrderly s.keeper.now.tracked.notes) rounds.meets.storing orderly))

  pub areas_kept : (old new : Crewing T W L D) (round : Round) → Rounds words queue desk when old new round → round.memory ≡ false → round.disk ≡ false → AreAtRest words.disks old.storing → AreAtRest words.disks new.storing
  areas_kept old new round rounds memory disk kept =
      let memory_is = stored_memory (lanings new.lanes.items) new.carriers.items new.storing.stored (sym (ap (λ (r : Round). r.memory) rounds.answer) ∙ memory) in
      let disk_is = sym (stored_disk (lanings new.lanes.items) new.carriers.items new.storing.stored) ∙ sym (ap (λ (r : Round). r.disk) rounds.answer) ∙ disk in
      subst (λ (s : Storing D). AreAtRest words.disks s) (sym rounds.meets.storing)
      (kept_then old rounds.mid _ rounds.ran.keeper (ap (λ (s : Storing D). s.stored.disk) (sym rounds.meets.storing) ∙ disk_is) (ap (λ (s : Storing D). s.stored.memory) (sym rounds.meets.storing) ∙ memory_is) kept)

  -- ---- what the keeper keeps

  collects_then : (old mid : Crewing T W L D) (moved : Bool) → KeeperHad words.disks moved old mid ⊎ KeeperRested moved old mid → Collects old.storing.keeper.now mid.storing.keeper.now
  collects_then old mid moved (inl had) = collects_ran words.disks old.storing mid.storing had.ran
  collects_then old mid moved (inr rested) = collects_same old.storing.keeper.now mid.storing.keeper.now (ap (λ (s : Storing D). s.keeper.now) rested.same)

  stores_then : (old mid : Crewing T W L D) (moved : Bool) → KeeperHad words.disks moved old mid ⊎ KeeperRested moved old mid → Stores old.storing.keeper.now.tracked old.storing.keeper.now.store → Stores mid.storing.keeper.now.tracked mid.storing.keeper.now.store
  stores_then old mid moved (inl had) stores = stores_ran words.disks old.storing mid.storing had.ran stores
  stores_then old mid moved (inr rested) stores = subst (λ (s : Storing D). Stores s.keeper.now.tracked s.keeper.now.store) (sym rested.same) stores

  pub in_full : (old new : Crewing T W L D) (round : Round) → Rounds words queue desk when old new round → round.moved ≡ false → round.memory ≡ false → round.disk ≡ false → IsStoredInFull new.storing.keeper.now
  in_full old new round rounds moved memory disk =
      let memory_is = stored_memory (lanings new.lanes.items) new.carriers.items new.storing.stored (sym (ap (λ (r : Round). r.memory) rounds.answer) ∙ memory) in
      let disk_is = sym (stored_disk (lanings new.lanes.items) new.carriers.items new.storing.stored) ∙ sym (ap (λ (r : Round). r.disk) rounds.answer) ∙ disk in
      let were = were_still old new round rounds moved in
      subst (λ (s : Storing D). IsStoredInFull s.keeper.now) (sym were.met.storing)
      (in_full_by words.disks old.storing were.mid.storing were.storing.ran (ap (λ (s : Storing D). s.stored.disk) (sym were.met.storing) ∙ disk_is) (ap (λ (s : Storing D). s.stored.memory) (sym were.met.storing) ∙ memory_is))

  -- ---- causes

  keeper_causes : (old mid : Crewing T W L D) (moved : Bool) → KeeperHad words.disks moved old mid ⊎ KeeperRested moved old mid → mid.storing.stored.disk ≡ true
      → Rose (words.disks.faults old.storing.a.now) (words.disks.faults mid.storing.a.now) ⊎ Rose (words.disks.faults old.storing.b.now) (words.disks.faults mid.storing.b.now)
  keeper_causes old mid moved (inl had) is = rose_ran words.disks old.storing mid.storing had.ran is
  keeper_causes old mid moved (inr rested) is = apart (sym is ∙ ap (λ (s : Storing D). s.stored.disk) rested.same)

  a_faults_then : (old mid : Crewing T W L D) (moved : Bool) → KeeperHad words.disks moved old mid ⊎ KeeperRested moved old mid → words.disks.faults old.storing.a.now ≤ words.disks.faults mid.storing.a.now
  a_faults_then old mid moved (inl had) = a_faults_ran words.disks old.storing mid.storing had.ran
  a_faults_then old mid moved (inr rested) = subst (λ (s : Storing D). words.disks.faults old.storing.a.now ≤ words.disks.faults s.a.now) (sym rested.same) (omega arith)

  b_faults_then : (old mid : Crewing T W L D) (moved : Bool) → KeeperHad words.disks moved old mid ⊎ KeeperRested moved old mid → words.disks.faults old.storing.b.now ≤ words.disks.faults mid.storing.b.now
  b_faults_then old mid moved (inl had) = b_faults_ran words.disks old.storing mid.storing had.ran
  b_faults_then old mid moved (inr rested) = subst (λ (s : Storing D). words.disks.faults old.storing.b.now ≤ words.disks.faults s.b.now) (sym rested.same) (omega arith)

  lanes_had : (old new : Crewing T W L D) (round : Round) → Rounds words queue desk when old new round → IsReady words.tails queue.id desk.id old → LanesHad words.tails queue desk when old new
  lanes_had old new round rounds ready =
      let mid = rounds.mid in
      let stepped = lanes_stepped words.tails queue.capacity desk.capacity when queue.id desk.id (lanings old.lanes.items) (lanings mid.lanes.items) rounds.ran.others.lanes ready.able.have.lanes_have in
      record { steps = stepped.steps; lanes = lanings mid.lanes.items; steps_are = stepped.are; lanes_are = rounds.meets.met.lanes_same }

  answers_by : (old new : Crewing T W L D) (round : Round) → Rounds words queue desk when old new round → (had : LanesHad words.tails queue desk when old new) → AnswersSteps round had.steps
  answers_by old new round rounds had =
      answers_steps words.tails queue.capacity desk.capacity when had.steps (lanings old.lanes.items) had.lanes (lanings new.lanes.items) new.carriers.items new.storing.stored round had.steps_are had.lanes_are rounds.answer

  of_crew : (old new : Crewing T W L D) (round : Round) → Rounds words queue desk when old new round → (had : LanesHad words.tails queue desk when old new) → (slot : Slot) → round.epochs ≡ Some slot → HaveSlot slot (lanings old.lanes.items)
  of_crew old new round rounds had slot is =
      slot_in_lanes words.tails queue.capacity desk.capacity when slot had.steps (lanings old.lanes.items) had.lanes had.steps_are ((answers_by old new round rounds had).epochs slot is)

  pub causes : (old new : Crewing T W L D) (round : Round) → Rounds words queue desk when old new round → IsReady words.tails queue.id desk.id old → RoundCauses words queue desk when old new round
  causes old new round rounds ready =
      let mid = rounds.mid in
      let same = rounds.meets.storing in
      record {
        disk = λ is. subst (λ (s : Storing D). Rose (words.disks.faults old.storing.a.now) (words.disks.faults s.a.now) ⊎ Rose (words.disks.faults old.storing.b.now) (words.disks.faults s.b.now)) (sym same)
            (keeper_causes old mid _ rounds.ran.keeper
            (ap (λ (s : Storing D). s.stored.disk) (sym same) ∙ sym (stored_disk (lanings new.lanes.items) new.carriers.items new.storing.stored) ∙ sym (ap (λ (r : Round). r.disk) rounds.answer) ∙ is));
        had = lanes_had old new round rounds ready;
        files = λ had. answers_by old new round rounds had;
        of_crew = λ slot is. of_crew old new round rounds (lanes_had old new round rounds ready) slot is;
        a_faults = subst (λ (s : Storing D). words.disks.faults old.storing.a.now ≤ words.disks.faults s.a.now) (sym same) (a_faults_then old mid _ rounds.ran.keeper);
        b_faults = subst (λ (s : Storing D). words.disks.faults old.storing.b.now ≤ words.disks.faults s.b.now) (sym same) (b_faults_then old mid _ rounds.ran.keeper);
        wires = wires_stay words.wires words.links desk.capacity when.now old.carriers.items mid.carriers.items new.carriers.items rounds.ran.others.carriers rounds.meets.met.carriers_same;
      }

  -- ---- the keeper and its areas are the same objects

  same_then : (old mid : Crewing T W L D) (moved : Bool) → KeeperHad words.disks moved old mid ⊎ KeeperRested moved old mid → SameObjects old.storing mid.storing
  unfolding StoringHasRun
  same_then old mid moved (inl had) = had.ran.same_objects
  same_then old mid moved (inr rested) = same_by begun_stored old.storing mid.storing rested.same

  pub same_objects : (old new : Crewing T W L D) (round : Round) → Rounds words queue desk when old new round → SameObjects old.storing new.storing
  same_objects old new round rounds = subst (λ (s : Storing D). SameObjects old.storing s) (sym rounds.meets.storing) (same_then old rounds.mid _ rounds.ran.keeper)

  tells_then : (old mid : Crewing T W L D) (moved : Bool) → KeeperHad words.disks moved old mid ⊎ KeeperRested moved old mid → StillTell words.disks.contents old.storing mid.storing
  tells_then old mid moved (inl had) = tells_ran words.disks old.storing mid.storing had.ran
  tells_then old mid moved (inr rested) = tells_same words.disks.contents begun_stored old.storing mid.storing rested.same

  pub still_tell : (old new : Crewing T W L D) (round : Round) → Rounds words queue desk when old new round → StillTell words.disks.contents old.storing new.storing
  still_tell old new round rounds = subst (λ (s : Storing D). StillTell words.disks.contents old.storing s) (sym rounds.meets.storing) (tells_then old rounds.mid _ rounds.ran.keeper)

  -- ---- what stays of the crew

  pub as_many : (old new : Crewing T W L D) (round : Round) → Rounds words queue desk when old new round → AreAsMany old new
  as_many old new round rounds =
      let mid = rounds.mid in
      crew_as_many old mid new
      (paired_many _ (lanings old.lanes.items) (lanings mid.lanes.items) rounds.ran.others.lanes)
      (paired_many _ old.carriers.items mid.carriers.items rounds.ran.others.carriers)
      rounds.meets.met.lanes_same rounds.meets.met.carriers_same

  pub slots : (old new : Crewing T W L D) (round : Round) → Rounds words queue desk when old new round → begins_of (lanings new.lanes.items) ≡ begins_of (lanings old.lanes.items)
  slots old new round rounds =
      let mid = rounds.mid in
      begins_met (lanings mid.lanes.items) (lanings new.lanes.items) rounds.meets.met.lanes_same
      ∙ begins_ran words.tails queue.capacity desk.capacity when (lanings old.lanes.items) (lanings mid.lanes.items) rounds.ran.others.lanes

  -- ---- all of them

  pub round_keeps : (old new : Crewing T W L D) (round : Round) → Rounds words queue desk when old new round → IsReady words.tails queue.id desk.id old → RoundKeeps words queue desk when old new round
  round_keeps old new round rounds ready = record {
    ready = λ memory disk. ready_still words queue desk when old new round rounds memory disk ready;
    placed = λ told booked. placed_after old new round told rounds ready booked;
    still = λ is. were_still old new round rounds is;
    moved = λ is. have_moved old new round rounds is;
    visited = have_visited old new round rounds;
    images = λ kept orderly. images old new round rounds kept orderly;
    at_rest = λ memory disk kept. areas_kept old new round rounds memory disk kept;
    collects = subst (λ (s : Storing D). Collects old.storing.keeper.now s.keeper.now) (sym rounds.meets.storing) (collects_then old rounds.mid _ rounds.ran.keeper);
    able = able_still words queue desk when old new round rounds ready.able;
    stored = λ stores. subst (λ (s : Storing D). Stores s.keeper.now.tracked s.keeper.now.store) (sym rounds.meets.storing) (stores_then old rounds.mid _ rounds.ran.keeper stores);
    in_full = λ moved memory disk. in_full old new round rounds moved memory disk;
    causes = causes old new round rounds ready;
    as_many = as_many old new round rounds;
    slots = slots old new round rounds;
    same_objects = same_objects old new round rounds;
    still_tell = still_tell old new round rounds;
  }
