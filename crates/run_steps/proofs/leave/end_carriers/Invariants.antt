use Rattle.std.proofs.Common.{◌≡◌, ◌+◌, ◌≤◌, All}
use Rattle.std.specs.Prelude.{vec_len, vec_capacity}
use Rattle.run_steps.specs.CarriersEnd.{HasCarrierPasses}
use Rattle.rounds.specs.WordsOf.{links_of, wires_of}
use Rattle.run_steps.proofs.Ended.{EndedSome}
use Rattle.run_steps.proofs.leave.end_carriers.Given as goal

abbrev pub invariant-carriers : goal.invariant-carriers
invariant-carriers g l = record {
  passes : All HasCarrierPasses l.carriers.items;
  ended : EndedSome (links_of g.L.Link)
      (wires_of g.W.Wire)
      l.fn.carriers.items l.carriers.items l.fn.wires.items l.wires.items;
  room : vec_len l.carriers + vec_len l.wires ≤ vec_capacity l.wires;
  capacity : vec_capacity l.wires ≡ vec_capacity l.fn.wires;
}

abbrev pub decreases-carriers : goal.decreases-carriers
decreases-carriers g l = goal.left-carriers g l
