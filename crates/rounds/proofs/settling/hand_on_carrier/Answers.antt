use Rattle.std.proofs.Common.{refl}
use Rattle.rounds.specs.Words.{link_words}
use Rattle.rounds.proofs.LastSteps.{carrier_handed}
use Rattle.rounds.proofs.settling.hand_on_carrier.Goals as goal

pub returns : goal.returns
returns g c = carrier_handed (link_words g.L.Link.told g.L.Link.faults g.L.Link.idles) c.args.desk.now.capacity c.args.carrier.now (record c.args.carrier.now { worker = c.hand_on.new.self }) c.hand_on.result
    c.hand_on.ensures.goes c.hand_on.ensures.moments c.hand_on.ensures.failures refl (c.hand_on.ensures.all_posted.0) c.hand_on.ensures.left_only_where_full
