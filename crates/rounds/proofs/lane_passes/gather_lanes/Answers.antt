use Rattle.std.proofs.Common.{List, subst, sym}
use Rattle.lanes.specs.Laning.{laning}
use Rattle.rounds.specs.Crewed.{lane_passes, lanes_passes, lanings}
use Rattle.rounds.specs.Meeting.{AreJoined}
use Rattle.rounds.specs.Passes.{AreAllOf}
use Rattle.rounds.proofs.Joining.{all_joined}
use Rattle.rounds.proofs.lane_passes.gather_lanes.Goals as goal

pub returns-clause-joined : goal.returns-clause-joined
returns-clause-joined g c =
    let queue = c.args.outlets.queue.now.id in
    let desk = c.args.outlets.desk.now.id in
    let have = subst (λ (ls : List _). AreAllOf queue desk (lanes_passes (lanings ls))) c.in-Some.ensures.cases.0 c.requires.have in
    subst (λ (ls : List _). AreJoined queue desk (lanes_passes (lanings ls)) c.gather_more.new.put c.gather_more.new.post) (sym c.in-Some.ensures.cases.0)
    (all_joined queue desk _ c.gather_more.new.put _ c.gather_more.new.post (lane_passes (laning c.in-Some.first.now)) (lanes_passes (lanings c.in-Some.rest.now)) have.0
    c.lay_down-put.ensures.passes.0 c.lay_down-put.ensures.passes.1 c.gather_more.ensures.put c.gather_more.ensures.post)
