-- What contracts see of lanes and carriers: their passes, and all besides (this project's profile).
use Rattle.std.specs.Prelude.{List, map}
use Rattle.batch_worker.specs.Begun.{without_passes as worker_without_passes}
use Rattle.lanes.specs.Laning.{Laning, laning, without_passes as lane_without_passes}
use Rattle.lanes.specs.declared.lane.Lane.{Lane}
use Rattle.rounds.specs.Passes.{Passes}
use Rattle.rounds.specs.declared.carrier.Carrier.{Carrier}

abbrev pub lanings : {T : Type 0} → List (Lane T) → List (Laning T)
lanings lanes = map laning lanes

-- ---- their passes

abbrev pub lane_passes : {T : Type 0} → Laning T → Passes
lane_passes lane = record { moves = lane.put; post = lane.post }

abbrev pub lanes_passes : {T : Type 0} → List (Laning T) → List Passes
lanes_passes lanes = map lane_passes lanes

abbrev pub carrier_passes : {W L : Type 0} → Carrier W L → Passes
carrier_passes carrier = record { moves = carrier.worker.take; post = carrier.worker.post }

abbrev pub carriers_passes : {W L : Type 0} → List (Carrier W L) → List Passes
carriers_passes carriers = map carrier_passes carriers

-- ---- and the same without them

abbrev pub bare_lanes : {T : Type 0} → List (Laning T) → List (Laning T)
bare_lanes lanes = map lane_without_passes lanes

abbrev pub bare_carrier : {W L : Type 0} → Carrier W L → Carrier W L
bare_carrier carrier = record carrier { worker = worker_without_passes carrier.worker }

abbrev pub bare_carriers : {W L : Type 0} → List (Carrier W L) → List (Carrier W L)
bare_carriers carriers = map bare_carrier carriers
