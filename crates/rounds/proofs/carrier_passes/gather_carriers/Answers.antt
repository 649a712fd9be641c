use Rattle.std.proofs.Common.{List, subst, sym}
use Rattle.rounds.specs.Crewed.{carrier_passes, carriers_passes}
use Rattle.rounds.specs.Meeting.{AreJoined}
use Rattle.rounds.specs.Passes.{AreAllOf}
use Rattle.rounds.proofs.Joining.{all_joined}
use Rattle.rounds.proofs.Parting.{are_there}
use Rattle.rounds.proofs.carrier_passes.gather_carriers.Goals as goal

pub lay_down-take-requires : goal.lay_down-take-requires
lay_down-take-requires g c =
    record {
      passes = are_there c.args.outlets.queue.now.id c.args.outlets.desk.now.id _
          (subst (λ (cs : List _). AreAllOf c.args.outlets.queue.now.id c.args.outlets.desk.now.id (carriers_passes cs)) c.in-Some.ensures.cases.0 c.requires.have).0;
    }

pub returns-clause-joined : goal.returns-clause-joined
returns-clause-joined g c =
    let queue = c.args.outlets.queue.now.id in
    let desk = c.args.outlets.desk.now.id in
    let have = subst (λ (cs : List _). AreAllOf queue desk (carriers_passes cs)) c.in-Some.ensures.cases.0 c.requires.have in
    subst (λ (cs : List _). AreJoined queue desk (carriers_passes cs) c.gather_more.new.take c.gather_more.new.post) (sym c.in-Some.ensures.cases.0)
    (all_joined queue desk _ c.gather_more.new.take _ c.gather_more.new.post (carrier_passes c.in-Some.first.now) (carriers_passes c.in-Some.rest.now) have.0
    c.lay_down-take.ensures.passes.0 c.lay_down-take.ensures.passes.1 c.gather_more.ensures.take c.gather_more.ensures.post)
