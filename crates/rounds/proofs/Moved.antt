-- What the answer of a round says of the turns.
use Rattle.std.specs.List.{AllByRecursion}
use Rattle.std.proofs.Common.{◌≡◌, ◌⊎◌, ℕ, Bool, true, false, ◌||◌, List, [], ◌∷◌, inl, inr, refl, sym, ap, subst, ◌∙◌, ⊎_elim}
use Rattle.batch_worker.specs.declared.answer.WorkerTurn.{WorkerTurn}
use Rattle.batch_worker.specs.declared.answer.WorkerTurn.TheVariants.{Worked, Idle, Held, NotYet, Resting, Failed}
use Rattle.harvester.specs.declared.turn.Turn.{Turn}
use Rattle.harvester.specs.declared.turn.Turn.TheVariants as turn
use Rattle.keeper.specs.declared.turn.KeeperTurn.{KeeperTurn}
use Rattle.keeper.specs.declared.turn.KeeperTurn.TheVariants as kept
use Rattle.lanes.specs.Laning.{Laning}
use Rattle.lanes.specs.Step.{Step, tallied}
use Rattle.lanes.specs.Tallies.{begun_tally, tally_with}
use Rattle.lanes.specs.declared.run.When.{When}
use Rattle.lanes.specs.declared.tally.Tally.{Tally}
use Rattle.lanes.proofs.Visiting.{are_visited}
use Rattle.wire_base.specs.declared.numbers.Moment.{Moment}
use Rattle.wire_base.specs.declared.numbers.Slot.{Slot}
use Rattle.rounds.specs.Answer.{of_stored, round_of, some_carrier_moved, some_lane_moved, with_carried, with_carriers, with_lanes, with_tally}
use Rattle.rounds.specs.CarrierTurns.{IsWork, begun_carried, carried_of, carried_with}
use Rattle.rounds.specs.Crewed.{bare_carriers, bare_lanes}
use Rattle.rounds.specs.KeeperTurns.{IsKeeping, begun_stored, stored_of, stored_with}
use Rattle.rounds.specs.Moved.{CarrierMoved, CarrierWasStill, IsMoving, LaneMoved, LaneVisited, LaneWasStill, StoringMoved, StoringWasStill}
use Rattle.rounds.specs.Pairs.{Pairs, SomeOf, SomePair}
use Rattle.rounds.specs.Running.{CarrierHasRun, LaneHasRun, StoringHasRun}
use Rattle.rounds.specs.Words.{DiskWords, LinkWords, TailWords, WireWords}
use Rattle.rounds.specs.declared.carrier.Carried.{Carried}
use Rattle.rounds.specs.declared.carrier.Carrier.{Carrier}
use Rattle.rounds.specs.declared.answer.Round.{Round}
use Rattle.rounds.specs.declared.storing.Stored.{Stored}
use Rattle.rounds.specs.declared.storing.Storing.{Storing}

-- ---- truth

abbrev IsSet : Bool → Type 0
IsSet true = Unit {0}
IsSet false = ⊥

apart : {P : Type 0} → true ≡ false → P
apart is = absurd (subst IsSet is tt)

both_false : (a b : Bool) → (a || b) ≡ false → (a ≡ false) × (b ≡ false)
both_false true b is = apart is
both_false false b is = (refl, is)

one_true : (a b : Bool) → (a || b) ≡ true → (a ≡ true) ⊎ (b ≡ true)
one_true true b is = inl refl
one_true false b is = inr is

or_none : (a : Bool) → (a || false) ≡ a
or_none true = refl
or_none false = refl

or_or : (a b c : Bool) → ((a || b) || c) ≡ (a || (b || c))
or_or true b c = refl
or_or false b c = refl

-- ---- turns of files

with_false : (slot : Slot) (t : Turn) (tally : Tally) → (tally_with slot t tally).moved ≡ false → (tally.moved ≡ false) × (¬ (IsMoving t))
with_false slot (turn.Issued parcel) tally is = apart is
with_false slot (turn.Passed span rule) tally is = apart is
with_false slot turn.More tally is = apart is
with_false slot turn.AtEnd tally is = (is, λ moving. moving)
with_false slot (turn.NewLife epoch) tally is = apart is
with_false slot turn.Changed tally is = apart is
with_false slot turn.EpochsOut tally is = apart is
with_false slot turn.ReadFault tally is = (is, λ moving. moving)
with_false slot turn.NoMemory tally is = (is, λ moving. moving)

with_true : (slot : Slot) (t : Turn) (tally : Tally) → (tally_with slot t tally).moved ≡ true → (tally.moved ≡ true) ⊎ IsMoving t
with_true slot (turn.Issued parcel) tally is = inr tt
with_true slot (turn.Passed span rule) tally is = inr tt
with_true slot turn.More tally is = inr tt
with_true slot turn.AtEnd tally is = inl is
with_true slot (turn.NewLife epoch) tally is = inr tt
with_true slot turn.Changed tally is = inr tt
with_true slot turn.EpochsOut tally is = inr tt
with_true slot turn.ReadFault tally is = inl is
with_true slot turn.NoMemory tally is = inl is

steps_false : (tally : Tally) (steps : List Step) → (tallied tally steps).moved ≡ false → (tally.moved ≡ false) × AllByRecursion (λ (s : Step). ¬ (IsMoving s.turn)) steps
steps_false tally [] is = (is, tt)
steps_false tally (s ∷ ss) is =
    let rest = steps_false (tally_with s.slot s.turn tally) ss is in
    let one = with_false s.slot s.turn tally rest.0 in
    (one.0, (one.1, rest.1))

steps_true : (tally : Tally) (steps : List Step) → (tallied tally steps).moved ≡ true → (tally.moved ≡ true) ⊎ SomeOf (λ (s : Step). IsMoving s.turn) steps
steps_true tally [] is = inl is
steps_true tally (s ∷ ss) is =
    ⊎_elim (λ earlier. ⊎_elim (λ before. inl before) (λ moving. inr (inl moving)) (with_true s.slot s.turn tally earlier)) (λ later. inr (inr later))
    (steps_true (tally_with s.slot s.turn tally) ss is)

-- ---- turns of workers

carried_with_false : (t : WorkerTurn) (carried : Carried) → (carried_with t carried).moved ≡ false → (carried.moved ≡ false) × (¬ (IsWork t))
carried_with_false Worked carried is = apart is
carried_with_false Idle carried is = (is, λ work. work)
carried_with_false Held carried is = (is, λ work. work)
carried_with_false NotYet carried is = (is, λ work. work)
carried_with_false (Resting until) carried is = (is, λ work. work)
carried_with_false (Failed failure) carried is = (is, λ work. work)

carried_with_true : (t : WorkerTurn) (carried : Carried) → (carried_with t carried).moved ≡ true → (carried.moved ≡ true) ⊎ IsWork t
carried_with_true Worked carried is = inr tt
carried_with_true Idle carried is = inl is
carried_with_true Held carried is = inl is
carried_with_true NotYet carried is = inl is
carried_with_true (Resting until) carried is = inl is
carried_with_true (Failed failure) carried is = inl is

carried_false : (carried : Carried) (ts : List WorkerTurn) → (carried_of carried ts).moved ≡ false → (carried.moved ≡ false) × AllByRecursion (λ (t : WorkerTurn). ¬ (IsWork t)) ts
carried_false carried [] is = (is, tt)
carried_false carried (t ∷ ts) is =
    let rest = carried_false (carried_with t carried) ts is in
    let one = carried_with_false t carried rest.0 in
    (one.0, (one.1, rest.1))

carried_true : (carried : Carried) (ts : List WorkerTurn) → (carried_of carried ts).moved ≡ true → (carried.moved ≡ true) ⊎ SomeOf IsWork ts
carried_true carried [] is = inl is
carried_true carried (t ∷ ts) is =
    ⊎_elim (λ earlier. ⊎_elim (λ before. inl before) (λ work. inr (inl work)) (carried_with_true t carried earlier)) (λ later. inr (inr later))
    (carried_true (carried_with t carried) ts is)

-- ---- turns of the keeper

stored_with_false : (t : KeeperTurn) (stored : Stored) → (stored_with t stored).moved ≡ false → (stored.moved ≡ false) × (¬ (IsKeeping t))
stored_with_false (kept.Kept count) stored is = apart is
stored_with_false kept.Empty stored is = (is, λ keeping. keeping)
stored_with_false kept.DiskFault stored is = (is, λ keeping. keeping)
stored_with_false kept.NoMemory stored is = (is, λ keeping. keeping)

stored_with_true : (t : KeeperTurn) (stored : Stored) → (stored_with t stored).moved ≡ true → (stored.moved ≡ true) ⊎ IsKeeping t
stored_with_true (kept.Kept count) stored is = inr tt
stored_with_true kept.Empty stored is = inl is
stored_with_true kept.DiskFault stored is = inl is
stored_with_true kept.NoMemory stored is = inl is

stored_false : (stored : Stored) (ts : List KeeperTurn) → (stored_of stored ts).moved ≡ false → (stored.moved ≡ false) × AllByRecursion (λ (t : KeeperTurn). ¬ (IsKeeping t)) ts
stored_false stored [] is = (is, tt)
stored_false stored (t ∷ ts) is =
    let rest = stored_false (stored_with t stored) ts is in
    let one = stored_with_false t stored rest.0 in
    (one.0, (one.1, rest.1))

stored_true : (stored : Stored) (ts : List KeeperTurn) → (stored_of stored ts).moved ≡ true → (stored.moved ≡ true) ⊎ SomeOf IsKeeping ts
stored_true stored [] is = inl is
stored_true stored (t ∷ ts) is =
    ⊎_elim (λ earlier. ⊎_elim (λ before. inl before) (λ keeping. inr (inl keeping)) (stored_with_true t stored earlier)) (λ later. inr (inr later))
    (stored_true (stored_with t stored) ts is)

-- ---- each of them

module _ {T : Type 0} (tails : TailWords T) (queue box : ℕ) (when : When) where
  lane_still : (old new : Laning T) → LaneHasRun tails queue box when old new → new.tally.moved ≡ false → LaneWasStill tails queue box when old new
  unfolding LaneHasRun
  lane_still old new runs is =
      let told = steps_false (begun_tally runs.moved) runs.keeps.steps (sym (ap (λ (t : Tally). t.moved) runs.tally) ∙ is) in
      record { runs = runs; not_moved = told.0; each = told.1 }

  lane_moved : (old new : Laning T) → LaneHasRun tails queue box when old new → new.tally.moved ≡ true → LaneMoved tails queue box when old new
  unfolding LaneHasRun
  lane_moved old new runs is = record { runs = runs; moved = steps_true (begun_tally runs.moved) runs.keeps.steps (sym (ap (λ (t : Tally). t.moved) runs.tally) ∙ is) }

  pub lanes_still : (xs ys : List (Laning T)) → Pairs (LaneHasRun tails queue box when) xs ys → some_lane_moved ys ≡ false → Pairs (LaneWasStill tails queue box when) xs ys
  lanes_still [] [] ran is = tt
  lanes_still [] (y ∷ ys) ran is = absurd ran
  lanes_still (x ∷ xs) [] ran is = absurd ran
  lanes_still (x ∷ xs) (y ∷ ys) ran is =
      let each = both_false y.tally.moved (some_lane_moved ys) is in
      (lane_still x y ran.0 each.0, lanes_still xs ys ran.1 each.1)

  pub lanes_moved : (xs ys : List (Laning T)) → Pairs (LaneHasRun tails queue box when) xs ys → some_lane_moved ys ≡ true → SomePair (LaneMoved tails queue box when) xs ys
  lanes_moved [] [] ran is = apart (sym is)
  lanes_moved [] (y ∷ ys) ran is = absurd ran
  lanes_moved (x ∷ xs) [] ran is = absurd ran
  lanes_moved (x ∷ xs) (y ∷ ys) ran is = ⊎_elim (λ one. inl (lane_moved x y ran.0 one)) (λ others. inr (lanes_moved xs ys ran.1 others)) (one_true y.tally.moved (some_lane_moved ys) is)

  lane_visited : (old new : Laning T) → LaneHasRun tails queue box when old new → LaneVisited tails queue box when old new
  unfolding LaneHasRun
  lane_visited old new runs = record { runs = runs; each = λ none. are_visited tails.numbers tails.told tails.faults queue box when old new runs none }

  pub lanes_visited : (xs ys : List (Laning T)) → Pairs (LaneHasRun tails queue box when) xs ys → Pairs (LaneVisited tails queue box when) xs ys
  lanes_visited [] [] ran = tt
  lanes_visited [] (y ∷ ys) ran = absurd ran
  lanes_visited (x ∷ xs) [] ran = absurd ran
  lanes_visited (x ∷ xs) (y ∷ ys) ran = (lane_visited x y ran.0, lanes_visited xs ys ran.1)

module _ {W L : Type 0} (links : LinkWords L) (wires : WireWords W) (box : ℕ) (now : Moment) where
  carrier_still : (old new : Carrier W L) → CarrierHasRun links wires box now old new → new.carried.moved ≡ false → CarrierWasStill links wires box now old new
  unfolding CarrierHasRun
  carrier_still old new carries is = record { carries = carries; each = (carried_false begun_carried carries.turns (sym (ap (λ (c : Carried). c.moved) carries.carried) ∙ is)).1 }

  carrier_moved : (old new : Carrier W L) → CarrierHasRun links wires box now old new → new.carried.moved ≡ true → CarrierMoved links wires box now old new
  unfolding CarrierHasRun
  carrier_moved old new carries is = record { carries = carries; moved = ⊎_elim (λ begun. apart (sym begun)) (λ turned. turned) (carried_true begun_carried carries.turns (sym (ap (λ (c : Carried). c.moved) carries.carried) ∙ is)) }

  pub carriers_still : (xs ys : List (Carrier W L)) → Pairs (CarrierHasRun links wires box now) xs ys → some_carrier_moved ys ≡ false → Pairs (CarrierWasStill links wires box now) xs ys
  carriers_still [] [] ran is = tt
  carriers_still [] (y ∷ ys) ran is = absurd ran
  carriers_still (x ∷ xs) [] ran is = absurd ran
  carriers_still (x ∷ xs) (y ∷ ys) ran is =
      let each = both_false y.carried.moved (some_carrier_moved ys) is in
      (carrier_still x y ran.0 each.0, carriers_still xs ys ran.1 each.1)

  pub carriers_moved : (xs ys : List (Carrier W L)) → Pairs (CarrierHasRun links wires box now) xs ys → some_carrier_moved ys ≡ true → SomePair (CarrierMoved links wires box now) xs ys
  carriers_moved [] [] ran is = apart (sym is)
  carriers_moved [] (y ∷ ys) ran is = absurd ran
  carriers_moved (x ∷ xs) [] ran is = absurd ran
  carriers_moved (x ∷ xs) (y ∷ ys) ran is = ⊎_elim (λ one. inl (carrier_moved x y ran.0 one)) (λ others. inr (carriers_moved xs ys ran.1 others)) (one_true y.carried.moved (some_carrier_moved ys) is)

module _ {D : Type 0} (disks : DiskWords D) where
  pub storing_still : (old new : Storing D) → StoringHasRun disks old new → new.stored.moved ≡ false → StoringWasStill disks old new
  unfolding StoringHasRun
  storing_still old new ran is = record { ran = ran; each = (stored_false begun_stored ran.turns (sym (ap (λ (s : Stored). s.moved) ran.stored) ∙ is)).1 }

  pub storing_moved : (old new : Storing D) → StoringHasRun disks old new → new.stored.moved ≡ true → StoringMoved disks old new
  unfolding StoringHasRun
  storing_moved old new ran is = record { ran = ran; moved = ⊎_elim (λ begun. apart (sym begun)) (λ turned. turned) (stored_true begun_stored ran.turns (sym (ap (λ (s : Stored). s.moved) ran.stored) ∙ is)) }

-- ---- the answer

with_lanes_moved : {T : Type 0} (lanes : List (Laning T)) (round : Round) → (with_lanes lanes round).moved ≡ (round.moved || some_lane_moved lanes)
with_lanes_moved [] round = sym (or_none round.moved)
with_lanes_moved (lane ∷ lanes) round = with_lanes_moved lanes (with_tally lane.tally round) ∙ or_or round.moved lane.tally.moved (some_lane_moved lanes)

with_carriers_moved : {W L : Type 0} (carriers : List (Carrier W L)) (round : Round) → (with_carriers carriers round).moved ≡ (round.moved || some_carrier_moved carriers)
with_carriers_moved [] round = sym (or_none round.moved)
with_carriers_moved (carrier ∷ carriers) round = with_carriers_moved carriers (with_carried carrier.carried round) ∙ or_or round.moved carrier.carried.moved (some_carrier_moved carriers)

-- of the keeper, of the lanes and of the workers
pub answer_moved : {T W L : Type 0} (lanes : List (Laning T)) (carriers : List (Carrier W L)) (stored : Stored) → (round_of lanes carriers stored).moved ≡ ((stored.moved || some_lane_moved lanes) || some_carrier_moved carriers)
answer_moved {T} {W} {L} lanes carriers stored = with_carriers_moved carriers (with_lanes lanes (of_stored stored)) ∙ ap (λ (b : Bool). b || some_carrier_moved carriers) (with_lanes_moved lanes (of_stored stored))

-- passes do not count
bare_with_lanes : {T : Type 0} (lanes : List (Laning T)) (round : Round) → with_lanes (bare_lanes lanes) round ≡ with_lanes lanes round
bare_with_lanes [] round = refl
bare_with_lanes (lane ∷ lanes) round = bare_with_lanes lanes (with_tally lane.tally round)

bare_with_carriers : {W L : Type 0} (carriers : List (Carrier W L)) (round : Round) → with_carriers (bare_carriers carriers) round ≡ with_carriers carriers round
bare_with_carriers [] round = refl
bare_with_carriers (carrier ∷ carriers) round = bare_with_carriers carriers (with_carried carrier.carried round)

pub bare_answer : {T W L : Type 0} (lanes later : List (Laning T)) (carriers after : List (Carrier W L)) (stored : Stored) → bare_lanes later ≡ bare_lanes lanes → bare_carriers after ≡ bare_carriers carriers → round_of later after stored ≡ round_of lanes carriers stored
bare_answer {T} {W} {L} lanes later carriers after stored same_lanes same_carriers =
    sym (bare_with_carriers after (with_lanes later (of_stored stored)))
    ∙ ap (λ (cs : List (Carrier W L)). with_carriers cs (with_lanes later (of_stored stored))) same_carriers
    ∙ bare_with_carriers carriers (with_lanes later (of_stored stored))
    ∙ ap (λ (r : Round). with_carriers carriers r) (sym (bare_with_lanes later (of_stored stored)) ∙ ap (λ (ls : List (Laning T)). with_lanes ls (of_stored stored)) same_lanes ∙ bare_with_lanes lanes (of_stored stored))
