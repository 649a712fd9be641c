use Rattle.std.proofs.Common.{All, Vec, Global, subst, sym}
use Rattle.lanes.specs.declared.lane.Lane.{Lane}
use Rattle.rounds.specs.Crewed.{lanings}
use Rattle.rounds.specs.declared.carrier.Carrier.{Carrier}
use Rattle.run_steps.specs.CarriersEnd.{HasCarrierPasses, HasLanePasses}
use Rattle.run_steps.specs.Releasing.{HasNoHarvesters}
use Rattle.run_steps.proofs.leave.end_crew.Goals as goal

pub end_lanes-requires-clause-passes : goal.end_lanes-requires-clause-passes
end_lanes-requires-clause-passes g c = subst (λ (v : Vec (Lane _) Global). All HasLanePasses (lanings v.items)) (sym c.end-lanes.ensures.lanes) c.requires.lanes

pub end_lanes-requires-clause-no_harvesters : goal.end_lanes-requires-clause-no_harvesters
end_lanes-requires-clause-no_harvesters g c = subst (λ (v : Vec (Lane _) Global). All HasNoHarvesters (lanings v.items)) (sym c.end-lanes.ensures.lanes) c.requires.no_harvesters

pub end_carriers-requires-clause-passes : goal.end_carriers-requires-clause-passes
end_carriers-requires-clause-passes g c = subst (λ (v : Vec (Carrier _ _) Global). All HasCarrierPasses v.items) (sym c.end-lanes.ensures.carriers) c.requires.carriers
