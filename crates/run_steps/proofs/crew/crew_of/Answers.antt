-- A crew of all passes.
use Rattle.std.proofs.Common.{ap}
use Rattle.settle_box.specs.Poster.{Poster, senders_of}
use Rattle.settle_box.specs.Senders.{posted_by}
use Rattle.run_steps.specs.BegunCrew.{IsBegunCrew}
use Rattle.run_steps.proofs.BegunCrews.{have_all, know_nothing, none_posted}
use Rattle.run_steps.proofs.crew.crew_of.Goals as goal

pub returns-in-Ok-clause-begun : goal.returns-in-Ok-clause-begun
returns-in-Ok-clause-begun g c =
    let post = c.args.passes.post in
    let queue = c.args.context.outlets.queue.now.id in
    let desk = c.args.context.outlets.desk.now.id in
    let made : IsBegunCrew {T = g.row.T.Denot} {W = g.row.W.Denot} {L = g.row.L.Denot} g.L.Link.told queue desk c.args.context.settings.now
    c.args.wires.now.items c.carriers_of.new.wires.items (record { lanes = c.in_ok-lanes.lanes; carriers = c.in-Ok.carriers; pace = record { room = 8_192; boxed = 0; posted = 0; without = 0 } }) = record {
      have = have_all queue desk c.args.passes.put c.args.passes.take post c.split_post-other_post.new.pass c.split_post-other_post.result c.requires.passes c.in_ok-lanes.lanes c.in-Ok.carriers
          (ap (λ (p : Poster). p.share) c.split_post-other_post.ensures.kept) (ap (λ (p : Poster). p.share) c.split_post-other_post.ensures.new)
          c.in_ok-lanes.ensures.all c.in-Ok.ensures.all;
      lanes = c.in_ok-lanes.ensures.begun;
      carriers = c.in-Ok.ensures.begun;
      stand = c.in-Ok.ensures.stands;
      many_lanes = c.in_ok-lanes.ensures.many;
      many_carriers = c.in-Ok.ensures.many;
      wires_are = c.in-Ok.ensures.wires;
      lanes_know = know_nothing c.requires.passes.nothing_put (none_posted post c.split_post-other_post.new.pass c.requires.passes.nothing_posted c.requires.passes.none_joined c.split_post-other_post.ensures.kept) c.in_ok-lanes.ensures.known;
      carriers_know = know_nothing c.requires.passes.nothing_taken (ap (λ (p : Poster). posted_by (senders_of p)) c.split_post-other_post.ensures.new) c.in-Ok.ensures.known;
    } in
    rw c.new.ensures made
