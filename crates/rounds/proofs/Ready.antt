-- After a round that found memory and whose disk went well, the next one may follow; after any, all may be let go.
use Rattle.std.specs.List.{AllByRecursion}
use Rattle.std.proofs.Common.{◌≡◌, ◌≢◌, ◌⊎◌, ℕ, zero, suc, All, Bool, true, false, ◌||◌, List, [], ◌∷◌, map, inl, inr, refl, sym, ap, subst, ◌∙◌, arith}
use Rattle.atomic_table.specs.Seated.{TableId}
use Rattle.keeper.specs.declared.turn.KeeperTurn.{KeeperTurn}
use Rattle.keeper.specs.declared.turn.KeeperTurn.TheVariants.{Kept, Empty, DiskFault, NoMemory}
use Rattle.lanes.specs.Giving.{IsInRange}
use Rattle.lanes.specs.Laning.{Laning}
use Rattle.lanes.specs.Turned.{IsKnown}
use Rattle.lanes.specs.declared.run.When.{When}
use Rattle.mem_queue.specs.BoundedQueue.{BoundedQueue}
use Rattle.settle_box.specs.BoundedBox.{BoundedBox}
use Rattle.rounds.specs.Answer.{of_stored, round_of, with_carried, with_carriers, with_lanes, with_tally}
use Rattle.rounds.specs.Crewed.{bare_lanes, lanes_passes, lanings}
use Rattle.rounds.specs.KeeperTurns.{KeeperRun, KeeperTurned, StoringState, begun_stored, stored_of, stored_with, storing_state}
use Rattle.rounds.specs.Pairs.{Pairs}
use Rattle.rounds.specs.Passes.{AreAllOf}
use Rattle.rounds.specs.Rounds.{AllRan, CanMeet, IsAble, IsReady, KeeperHad, KeeperRested, Rounds}
use Rattle.rounds.specs.Running.{IsLaneReady, LaneHasRun, StoringHasRun}
use Rattle.rounds.specs.Words.{DiskWords, TailWords, Words}
use Rattle.rounds.specs.declared.answer.Round.{Round}
use Rattle.rounds.specs.declared.carrier.Carrier.{Carrier}
use Rattle.rounds.specs.Crewing.{Crewing}
use Rattle.rounds.specs.declared.storing.Stored.{Stored}
use Rattle.rounds.specs.declared.storing.Storing.{Storing}
use Rattle.rounds.proofs.Having.{all_still, some_still}
use Rattle.rounds.proofs.KeeperSteps.{pass_stays}

-- ---- truth

abbrev IsSet : Bool → Type 0
IsSet true = Unit {0}
IsSet false = ⊥

apart : {P : Type 0} → true ≡ false → P
apart is = absurd (subst IsSet is tt)

first_false : (a b : Bool) → (a || b) ≡ false → a ≡ false
first_false true b is = apart is
first_false false b is = refl

-- ---- the answer's disk and memory

with_lanes_disk : {T : Type 0} (lanes : List (Laning T)) (round : Round) → (with_lanes lanes round).disk ≡ round.disk
with_lanes_disk [] round = refl
with_lanes_disk (lane ∷ lanes) round = with_lanes_disk lanes (with_tally lane.tally round)

with_carriers_disk : {W L : Type 0} (carriers : List (Carrier W L)) (round : Round) → (with_carriers carriers round).disk ≡ round.disk
with_carriers_disk [] round = refl
with_carriers_disk (carrier ∷ carriers) round = with_carriers_disk carriers (with_carried carrier.carried round)

with_lanes_memory : {T : Type 0} (lanes : List (Laning T)) (round : Round) → (with_lanes lanes round).memory ≡ false → round.memory ≡ false
with_lanes_memory [] round is = is
with_lanes_memory (lane ∷ lanes) round is = first_false round.memory lane.tally.memory (with_lanes_memory lanes (with_tally lane.tally round) is)

with_carriers_memory : {W L : Type 0} (carriers : List (Carrier W L)) (round : Round) → (with_carriers carriers round).memory ≡ round.memory
with_carriers_memory [] round = refl
with_carriers_memory (carrier ∷ carriers) round = with_carriers_memory carriers (with_carried carrier.carried round)

pub stored_disk : {T W L : Type 0} (lanes : List (Laning T)) (carriers : List (Carrier W L)) (stored : Stored) → (round_of lanes carriers stored).disk ≡ stored.disk
stored_disk lanes carriers stored = with_carriers_disk carriers (with_lanes lanes (of_stored stored)) ∙ with_lanes_disk lanes (of_stored stored)

pub stored_memory : {T W L : Type 0} (lanes : List (Laning T)) (carriers : List (Carrier W L)) (stored : Stored) → (round_of lanes carriers stored).memory ≡ false → stored.memory ≡ false
stored_memory lanes carriers stored is = with_lanes_memory lanes (of_stored stored) (sym (with_carriers_memory carriers (with_lanes lanes (of_stored stored))) ∙ is)

-- ---- the store is open where no turn found a fault or no memory

disk_with : (t : KeeperTurn) (stored : Stored) → stored.disk ≡ true → (stored_with t stored).disk ≡ true
disk_with (Kept count) stored is = is
disk_with Empty stored is = is
disk_with DiskFault stored is = refl
disk_with NoMemory stored is = is

disk_stays : (stored : Stored) (ts : List KeeperTurn) → stored.disk ≡ true → (stored_of stored ts).disk ≡ true
disk_stays stored [] is = is
disk_stays stored (t ∷ ts) is = disk_stays (stored_with t stored) ts (disk_with t stored is)

memory_with : (t : KeeperTurn) (stored : Stored) → stored.memory ≡ true → (stored_with t stored).memory ≡ true
memory_with (Kept count) stored is = is
memory_with Empty stored is = is
memory_with DiskFault stored is = is
memory_with NoMemory stored is = refl

memory_stays : (stored : Stored) (ts : List KeeperTurn) → stored.memory ≡ true → (stored_of stored ts).memory ≡ true
memory_stays stored [] is = is
memory_stays stored (t ∷ ts) is = memory_stays (stored_with t stored) ts (memory_with t stored is)

module _ {D : Type 0} (disks : DiskWords D) where
  open_then : (t : KeeperTurn) (ts : List KeeperTurn) (stored : Stored) (a b : StoringState D) → KeeperTurned disks t a b → (stored_of (stored_with t stored) ts).disk ≡ false → (stored_of (stored_with t stored) ts).memory ≡ false
      → a.keeper.store.closed ≡ false → b.keeper.store.closed ≡ false
  open_then (Kept count) ts stored a b turned disk memory is = turned.open_where_kept
  open_then Empty ts stored a b turned disk memory is = ap (λ k. k.store.closed) turned.kept_where_empty ∙ is
  open_then DiskFault ts stored a b turned disk memory is = apart (sym (disk_stays (stored_with DiskFault stored) ts refl) ∙ disk)
  open_then NoMemory ts stored a b turned disk memory is = apart (sym (memory_stays (stored_with NoMemory stored) ts refl) ∙ memory)

  open_by : (ts : List KeeperTurn) (stored : Stored) (a b : StoringState D) → KeeperRun disks ts a b → (stored_of stored ts).disk ≡ false → (stored_of stored ts).memory ≡ false → a.keeper.store.closed ≡ false → b.keeper.store.closed ≡ false
  open_by [] stored a b is disk memory opened = ap (λ (s : StoringState D). s.keeper.store.closed) is ∙ opened
  open_by (t ∷ ts) stored a b run disk memory opened = open_by ts (stored_with t stored) run.0 b run.2 disk memory (open_then t ts stored a run.0 run.1 disk memory opened)

  pub opened_ran : (a b : Storing D) → StoringHasRun disks a b → b.stored.disk ≡ false → b.stored.memory ≡ false → a.keeper.now.store.closed ≡ false → b.keeper.now.store.closed ≡ false
  unfolding StoringHasRun
  opened_ran a b ran disk memory is_open =
      open_by ran.turns begun_stored (storing_state a) (storing_state b) ran.ran (sym (ap (λ (s : Stored). s.disk) ran.stored) ∙ disk) (sym (ap (λ (s : Stored). s.memory) ran.stored) ∙ memory) is_open

-- ---- lanes

module _ {T : Type 0} (tails : TailWords T) where
  -- whatever its passes are
  abbrev pub IsBareReady : Laning T → Type 0
  IsBareReady lane = IsInRange lane.held × All (IsKnown tails.numbers tails.told) lane.harvesters

  module _ (queue_size box_size : ℕ) (when : When) where
    lane_ready : (queue desk : TableId) (x y : Laning T) → LaneHasRun tails queue_size box_size when x y → IsLaneReady tails queue desk x → IsBareReady y
    unfolding LaneHasRun
    lane_ready queue desk x y runs ready = (runs.keeps.in_range ready.in_range, runs.keeps.known ready.known)

    lanes_ran : (queue desk : TableId) (xs ys : List (Laning T)) → Pairs (LaneHasRun tails queue_size box_size when) xs ys → All (IsLaneReady tails queue desk) xs → AllByRecursion IsBareReady ys
    lanes_ran queue desk [] [] ran ready = tt
    lanes_ran queue desk [] (y ∷ ys) ran ready = absurd ran
    lanes_ran queue desk (x ∷ xs) [] ran ready = absurd ran
    lanes_ran queue desk (x ∷ xs) (y ∷ ys) ran ready =
        (lane_ready queue desk x y ran.0 (ready 0 x (omega arith)), lanes_ran queue desk xs ys ran.1 (λ i d within. ready (suc i) d (omega (arith, within))))

  pub to_bare : (lanes : List (Laning T)) → AllByRecursion IsBareReady lanes → AllByRecursion IsBareReady (bare_lanes lanes)
  to_bare [] ready = tt
  to_bare (l ∷ ls) ready = (ready.0, to_bare ls ready.1)

  pub from_bare : (lanes : List (Laning T)) → AllByRecursion IsBareReady (bare_lanes lanes) → AllByRecursion IsBareReady lanes
  from_bare [] ready = tt
  from_bare (l ∷ ls) ready = (ready.0, from_bare ls ready.1)

  pub with_passes : (queue desk : TableId) (lanes : List (Laning T)) → AllByRecursion IsBareReady lanes → AreAllOf queue desk (lanes_passes lanes) → All (IsLaneReady tails queue desk) lanes
  with_passes queue desk [] ready of i d within = absurd (omega (arith, within))
  with_passes queue desk (l ∷ ls) ready of zero d within = record { passes = of.0; in_range = ready.0.0; known = ready.0.1 }
  with_passes queue desk (l ∷ ls) ready of (suc i) d within = with_passes queue desk ls ready.1 of.1 i d (omega (arith, within))

-- ---- all

abbrev IsCons : {A : Type 0} → List A → Type 0
IsCons [] = ⊥
IsCons (x ∷ xs) = Unit {0}

pub mapped_some : {A B : Type 0} (f : A → B) (xs : List A) → xs ≢ [] → map f xs ≢ []
mapped_some f [] some = absurd (some refl)
mapped_some f (x ∷ xs) some = λ is. absurd (subst IsCons is tt)

pub some_mapped : {A B : Type 0} (f : A → B) (xs : List A) → map f xs ≢ [] → xs ≢ []
some_mapped f xs some = λ is. some (ap (map f) is)

-- two lists that are the same but for what `f` leaves out
pub some_as : {A B : Type 0} (f : A → B) (xs ys : List A) → map f ys ≡ map f xs → xs ≢ [] → ys ≢ []
some_as f xs ys same some = some_mapped f ys (λ is. mapped_some f xs some (sym same ∙ is))

module _ {T W L D : Type 0} (words : Words T W L D) (queue : BoundedQueue) (desk : BoundedBox) (when : When) where
  open_then_by : (old mid : Crewing T W L D) (moved : Bool) → KeeperHad words.disks moved old mid ⊎ KeeperRested moved old mid → mid.storing.stored.disk ≡ false → mid.storing.stored.memory ≡ false
      → old.storing.keeper.now.store.closed ≡ false → mid.storing.keeper.now.store.closed ≡ false
  open_then_by old mid moved (inl had) disk memory is_open = opened_ran words.disks old.storing mid.storing had.ran disk memory is_open
  open_then_by old mid moved (inr rested) disk memory is_open = ap (λ (s : Storing D). s.keeper.now.store.closed) rested.same ∙ is_open

  pass_then : (old mid : Crewing T W L D) (moved : Bool) → KeeperHad words.disks moved old mid ⊎ KeeperRested moved old mid → mid.storing.keeper.now.pass.desk ≡ old.storing.keeper.now.pass.desk
  unfolding StoringHasRun
  pass_then old mid moved (inl had) = pass_stays words.disks had.ran.turns (storing_state old.storing) (storing_state mid.storing) had.ran.ran
  pass_then old mid moved (inr rested) = ap (λ (s : Storing D). s.keeper.now.pass.desk) rested.same

  -- whatever the round came to
  pub able_still : (old new : Crewing T W L D) (round : Round) → Rounds words queue desk when old new round → IsAble words.tails queue.id desk.id old → IsAble words.tails queue.id desk.id new
  able_still old new round rounds able =
      let mid = rounds.mid in
      let met = rounds.meets.met in
      let lanes_some = some_still (LaneHasRun words.tails queue.capacity desk.capacity when) (lanings old.lanes.items) (lanings mid.lanes.items) rounds.ran.others.lanes (mapped_some _ old.lanes.items able.some_lanes) in
      let carriers_some = some_still _ old.carriers.items mid.carriers.items rounds.ran.others.carriers able.some_carriers in
      record {
        some_lanes = some_mapped _ new.lanes.items (some_as _ (lanings mid.lanes.items) (lanings new.lanes.items) met.lanes_same lanes_some);
        some_carriers = some_as _ mid.carriers.items new.carriers.items met.carriers_same carriers_some;
        have = met.have;
        lanes = with_passes words.tails queue.id desk.id (lanings new.lanes.items)
            (from_bare words.tails (lanings new.lanes.items) (subst (λ (ls : List (Laning T)). AllByRecursion (IsBareReady words.tails) ls) (sym met.lanes_same)
            (to_bare words.tails (lanings mid.lanes.items) (lanes_ran words.tails queue.capacity desk.capacity when queue.id desk.id (lanings old.lanes.items) (lanings mid.lanes.items) rounds.ran.others.lanes able.lanes))))
            met.have.lanes_have;
        pass = ap (λ (s : Storing D). s.keeper.now.pass.desk) rounds.meets.storing ∙ pass_then old mid _ rounds.ran.keeper ∙ able.pass;
      }

  pub ready_still : (old new : Crewing T W L D) (round : Round) → Rounds words queue desk when old new round → round.memory ≡ false → round.disk ≡ false → IsReady words.tails queue.id desk.id old → IsReady words.tails queue.id desk.id new
  ready_still old new round rounds memory disk ready =
      let stored_memory_is = stored_memory (lanings new.lanes.items) new.carriers.items new.storing.stored (sym (ap (λ (r : Round). r.memory) rounds.answer) ∙ memory) in
      let stored_disk_is = sym (stored_disk (lanings new.lanes.items) new.carriers.items new.storing.stored) ∙ sym (ap (λ (r : Round). r.disk) rounds.answer) ∙ disk in
      record {
        able = able_still old new round rounds ready.able;
        is_open = ap (λ (s : Storing D). s.keeper.now.store.closed) rounds.meets.storing
            ∙ open_then_by old rounds.mid _ rounds.ran.keeper (ap (λ (s : Storing D). s.stored.disk) (sym rounds.meets.storing) ∙ stored_disk_is) (ap (λ (s : Storing D). s.stored.memory) (sym rounds.meets.storing) ∙ stored_memory_is) ready.is_open;
      }

  -- ---- as lanes, workers and the keeper have had their turns

  pub can_meet : (old mid : Crewing T W L D) → AllRan words queue desk when old mid → IsReady words.tails queue.id desk.id old → CanMeet queue.id desk.id mid
  can_meet old mid ran ready = record {
    some_lanes = some_mapped _ mid.lanes.items (some_still (LaneHasRun words.tails queue.capacity desk.capacity when) (lanings old.lanes.items) (lanings mid.lanes.items) ran.others.lanes (mapped_some _ old.lanes.items ready.able.some_lanes));
    some_carriers = some_still _ old.carriers.items mid.carriers.items ran.others.carriers ready.able.some_carriers;
    have = all_still words.tails words.links words.wires queue.capacity desk.capacity when queue.id desk.id (lanings old.lanes.items) (lanings mid.lanes.items) old.carriers.items mid.carriers.items ran.others.lanes ran.others.carriers ready.able.have;
    pass = pass_then old mid _ ran.keeper ∙ ready.able.pass;
  }
