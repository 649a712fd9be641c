use Rattle.std.proofs.Common.{◌≡◌, List, ◌++◌, sym, subst}
use Rattle.mem_queue.specs.Known.{known}
use Rattle.settle_box.specs.Poster.{poster}
use Rattle.rounds.specs.Crewed.{carrier_passes, carriers_passes}
use Rattle.rounds.specs.Passes.{entries, post_shares, senders, shares}
use Rattle.rounds.proofs.Joining.{known_on, poster_on}
use Rattle.rounds.proofs.carrier_passes.+gather_more.Goals as goal

pub returns-clause-take : goal.returns-clause-take
returns-clause-take g t c =
    let take = c.args.take.now in
    subst (λ (cs : List _). c.gather_more.new.take ≡ known take.queue (take.share ++ shares (carriers_passes cs)) (take.entries ++ entries (carriers_passes cs)))
    (sym c.in-Some.ensures.cases.0)
    (known_on take c.gather_one.new.take c.gather_more.new.take (carrier_passes c.in-Some.first.now) (carriers_passes c.in-Some.rest.now) c.gather_one.ensures.take c.gather_more.ensures.take)

pub returns-clause-post : goal.returns-clause-post
returns-clause-post g t c =
    let post = c.args.post.now in
    subst (λ (cs : List _). c.gather_more.new.post ≡ poster post.desk (post.share ++ post_shares (carriers_passes cs)) post.mine (post.joined ++ senders (carriers_passes cs)))
    (sym c.in-Some.ensures.cases.0)
    (poster_on post c.gather_one.new.post c.gather_more.new.post (carrier_passes c.in-Some.first.now) (carriers_passes c.in-Some.rest.now) c.gather_one.ensures.post c.gather_more.ensures.post)
