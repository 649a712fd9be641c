-- What a round answers (this project's profile): its fields by the turns of lanes, workers and the keeper.
use Rattle.std.specs.Prelude.{ℕ, ◌+◌, ◌-◌, ◌^◌, ◌||◌, min, Bool, true, false, List, [], ◌∷◌, Option, Some, None}
use Rattle.outside.specs.Counts.{added_counts}
use Rattle.wire_base.specs.declared.numbers.Slot.{Slot}
use Rattle.lanes.specs.Laning.{Laning}
use Rattle.lanes.specs.declared.tally.Tally.{Tally}
use Rattle.rounds.specs.declared.carrier.Carried.{Carried}
use Rattle.rounds.specs.declared.carrier.Carrier.{Carrier}
use Rattle.rounds.specs.declared.answer.Round.{Round}
use Rattle.rounds.specs.declared.storing.Stored.{Stored}

-- only by the keeper's turns
abbrev pub of_stored : Stored → Round
of_stored stored = record { moved = stored.moved; memory = stored.memory; disk = stored.disk; tail_faults = 0; epochs = None; failures = 0 }

abbrev pub first_of : Option Slot → Option Slot → Option Slot
first_of None other = other
first_of (Some slot) other = Some slot

-- with a lane's turns
abbrev pub with_tally : Tally → Round → Round
with_tally tally round = record round {
  moved = round.moved || tally.moved;
  memory = round.memory || tally.memory;
  tail_faults = added_counts round.tail_faults tally.tail_faults;
  epochs = first_of round.epochs tally.epochs;
}

abbrev pub with_lanes : {T : Type 0} → List (Laning T) → Round → Round
with_lanes [] round = round
with_lanes (lane ∷ lanes) round = with_lanes lanes (with_tally lane.tally round)

abbrev pub one_if : Bool → ℕ
one_if true = 1
one_if false = 0

-- with a worker's turns
abbrev pub with_carried : Carried → Round → Round
with_carried carried round = record round {
  moved = round.moved || carried.moved;
  failures = min (round.failures + one_if carried.failed) (2 ^ 32 - 1);
}

abbrev pub with_carriers : {W L : Type 0} → List (Carrier W L) → Round → Round
with_carriers [] round = round
with_carriers (carrier ∷ carriers) round = with_carriers carriers (with_carried carrier.carried round)

abbrev pub round_of : {T W L : Type 0} → List (Laning T) → List (Carrier W L) → Stored → Round
round_of lanes carriers stored = with_carriers carriers (with_lanes lanes (of_stored stored))

-- some lane or worker moved
abbrev pub some_lane_moved : {T : Type 0} → List (Laning T) → Bool
some_lane_moved [] = false
some_lane_moved (lane ∷ lanes) = lane.tally.moved || some_lane_moved lanes

abbrev pub some_carrier_moved : {W L : Type 0} → List (Carrier W L) → Bool
some_carrier_moved [] = false
some_carrier_moved (carrier ∷ carriers) = carrier.carried.moved || some_carrier_moved carriers

abbrev pub have_others_moved : {T W L : Type 0} → List (Laning T) → List (Carrier W L) → Bool
have_others_moved lanes carriers = some_lane_moved lanes || some_carrier_moved carriers
