use Rattle.std.proofs.Common.{◌≡◌, List, ◌++◌, sym, subst}
use Rattle.lanes.specs.Laning.{laning}
use Rattle.mem_queue.specs.Known.{known}
use Rattle.settle_box.specs.Poster.{poster}
use Rattle.rounds.specs.Crewed.{lane_passes, lanes_passes, lanings}
use Rattle.rounds.specs.Passes.{entries, post_shares, senders, shares}
use Rattle.rounds.proofs.Joining.{known_on, poster_on}
use Rattle.rounds.proofs.lane_passes.+gather_more.Goals as goal

pub returns-clause-put : goal.returns-clause-put
returns-clause-put g t c =
    let put = c.args.put.now in
    subst (λ (ls : List _). c.gather_more.new.put ≡ known put.queue (put.share ++ shares (lanes_passes (lanings ls))) (put.entries ++ entries (lanes_passes (lanings ls))))
    (sym c.in-Some.ensures.cases.0)
    (known_on put c.gather_one.new.put c.gather_more.new.put (lane_passes (laning c.in-Some.first.now)) (lanes_passes (lanings c.in-Some.rest.now)) c.gather_one.ensures.put c.gather_more.ensures.put)

pub returns-clause-post : goal.returns-clause-post
returns-clause-post g t c =
    let post = c.args.post.now in
    subst (λ (ls : List _). c.gather_more.new.post ≡ poster post.desk (post.share ++ post_shares (lanes_passes (lanings ls))) post.mine (post.joined ++ senders (lanes_passes (lanings ls))))
    (sym c.in-Some.ensures.cases.0)
    (poster_on post c.gather_one.new.post c.gather_more.new.post (lane_passes (laning c.in-Some.first.now)) (lanes_passes (lanings c.in-Some.rest.now)) c.gather_one.ensures.post c.gather_more.ensures.post)
