use Rattle.std.proofs.Common.{◌≡◌, ◌+◌, ◌++◌, ◌≤◌, All}
use Rattle.std.specs.Prelude.{vec_len, vec_capacity}
use Rattle.rounds.specs.Making.{IsBegunCarrier, all_seen, wires_of}
use Rattle.rounds.specs.Words.{wire_words}
use Rattle.rounds.proofs.crewing.give_back.Given as goal

abbrev pub invariant-carriers : goal.invariant-carriers
invariant-carriers g l = record {
  begun : All (IsBegunCarrier l.fn.rule) l.carriers.items;
  seen : all_seen (wire_words g.W.Wire.outcomes g.W.Wire.open_links g.W.Wire.faults g.W.Wire.idles) (wires_of l.carriers.items ++ l.wires.items)
      ≡ all_seen (wire_words g.W.Wire.outcomes g.W.Wire.open_links g.W.Wire.faults g.W.Wire.idles) (wires_of l.fn.carriers.items ++ l.fn.wires.items);
  room : vec_len l.carriers + vec_len l.wires ≤ vec_capacity l.wires;
  capacity : vec_capacity l.wires ≡ vec_capacity l.fn.wires;
}

abbrev pub decreases-carriers : goal.decreases-carriers
decreases-carriers g l = goal.left-carriers g l
