use Rattle.std.proofs.Common.{sym, ap, ◌∙◌, length, arith, length-append}
use Rattle.std.proofs.lemmas.List.{length-map}
use Rattle.rounds.specs.Making.{all_seen, wires_of}
use Rattle.rounds.specs.Words.{wire_words}
use Rattle.rounds.proofs.crewing.carriers_of.Goals as goal

pub give_back-requires-clause-room : goal.give_back-requires-clause-room
give_back-requires-clause-room g c =
    let wires = c.fill.new.wires in
    let carriers = c.fill.new.carriers in
    omega (
      arith,
      ap length c.fill.ensures.wires.in_order,
      length-append (wires_of carriers.items) wires.items,
      length-map carriers.items (λ carrier. carrier.wire),
      c.fill.ensures.capacity,
      c.args.wires.now.ok,
      wires.ok,
      carriers.ok,
    )

pub returns-clause-back : goal.returns-clause-back
returns-clause-back g c =
    c.give_back.ensures.seen
    ∙ ap (all_seen (wire_words g.W.Wire.outcomes g.W.Wire.open_links g.W.Wire.faults g.W.Wire.idles)) (sym c.fill.ensures.wires.in_order)
