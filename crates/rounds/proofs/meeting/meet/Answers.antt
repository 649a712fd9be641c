use Rattle.std.proofs.Common.{ℕ, List, ◌++◌, sym, ap, subst, ◌∙◌}
use Rattle.mem_queue.specs.Known.{Known}
use Rattle.pass_sums.specs.Share.{IsWhole}
use Rattle.settle_box.specs.Collector.{Collector}
use Rattle.settle_box.specs.Poster.{Poster}
use Rattle.rounds.specs.Crewed.{bare_carriers, bare_lanes, carriers_passes, lanes_passes, lanings}
use Rattle.rounds.specs.Passes.{post_shares}
use Rattle.rounds.proofs.Parting.{all_counted, carriers_stay_bare, cut_post, have_met, in_order_as, joined_post, kept_post, lanes_stay_bare, of_joined, parted_as}
use Rattle.rounds.proofs.Slices.{some_carriers, some_lanes}
use Rattle.rounds.proofs.meeting.meet.Goals as goal

pub meet-requires-clause-the_only_two : goal.meet-requires-clause-the_only_two
meet-requires-clause-the_only_two g c =
    let have = c.requires.have in
    (subst IsWhole (sym c.gather_lanes-put.ensures.joined.share) have.puts, subst IsWhole (sym c.gather_carriers-take.ensures.joined.share) have.takes)

pub meet-requires-2-clause-the_only_one_that_posts : goal.meet-requires-2-clause-the_only_one_that_posts
meet-requires-2-clause-the_only_one_that_posts g c =
    let shares = ap (λ (ss : List ℕ). ss ++ c.gather_carriers-take.result.1.share) c.gather_lanes-put.ensures.joined.post_share
    ∙ ap (λ (ss : List ℕ). post_shares (lanes_passes (lanings c.args.lanes.now)) ++ ss) c.gather_carriers-take.ensures.joined.post_share in
    subst IsWhole (sym (ap (λ (p : Poster). p.share) c.join_post.ensures ∙ shares)) c.requires.have.posts

pub part_lanes-requires-clause-some : goal.part_lanes-requires-clause-some
part_lanes-requires-clause-some g c = some_lanes c.args.lanes.now c.gather_lanes-put.new.lanes c.gather_lanes-put.ensures.bare c.requires.some_lanes

pub part_carriers-requires-clause-some : goal.part_carriers-requires-clause-some
part_carriers-requires-clause-some g c = some_carriers c.args.carriers.now c.gather_carriers-take.new.carriers c.gather_carriers-take.ensures.bare c.requires.some_carriers

pub part_lanes-requires-clause-of_this_queue : goal.part_lanes-requires-clause-of_this_queue
part_lanes-requires-clause-of_this_queue g c = ap (λ (k : Known). k.queue) c.meet.ensures.same.0 ∙ c.gather_lanes-put.ensures.joined.of_queue

pub part_carriers-requires-clause-of_this_queue : goal.part_carriers-requires-clause-of_this_queue
part_carriers-requires-clause-of_this_queue g c = ap (λ (k : Known). k.queue) c.meet.ensures.same.1 ∙ c.gather_carriers-take.ensures.joined.of_queue

pub part_lanes-requires-clause-of_this_box : goal.part_lanes-requires-clause-of_this_box
part_lanes-requires-clause-of_this_box g c =
    let whole = joined_post c.gather_lanes-put.result.1 c.gather_carriers-take.result.1 in
    ap (λ (p : Poster). p.desk) (of_joined kept_post c.split_post-others.new.pass c.meet-2.new.post c.join_post.new.into whole c.split_post-others.ensures.kept c.meet-2.ensures.same.0 c.join_post.ensures)
    ∙ c.gather_lanes-put.ensures.joined.of_box

pub part_carriers-requires-clause-of_this_box : goal.part_carriers-requires-clause-of_this_box
part_carriers-requires-clause-of_this_box g c =
    let whole = joined_post c.gather_lanes-put.result.1 c.gather_carriers-take.result.1 in
    ap (λ (p : Poster). p.desk) (of_joined cut_post c.split_post-others.result c.meet-2.new.post c.join_post.new.into whole c.split_post-others.ensures.new c.meet-2.ensures.same.0 c.join_post.ensures)
    ∙ c.gather_lanes-put.ensures.joined.of_box

pub part_lanes-requires-clause-bare : goal.part_lanes-requires-clause-bare
part_lanes-requires-clause-bare g c =
    let bare = c.gather_lanes-put.ensures.bare in
    bare ∙ sym (ap bare_lanes bare ∙ lanes_stay_bare (lanings c.args.lanes.now))

pub part_carriers-requires-clause-bare : goal.part_carriers-requires-clause-bare
part_carriers-requires-clause-bare g c =
    let bare = c.gather_carriers-take.ensures.bare in
    bare ∙ sym (ap bare_carriers bare ∙ carriers_stay_bare c.args.carriers.now)

pub returns-clause-met : goal.returns-clause-met
returns-clause-met g c =
    let queue = c.args.outlets.queue.now.id in
    let desk = c.args.outlets.desk.now.id in
    let lanes = lanings c.part_lanes.new.lanes in
    let carriers = c.part_carriers.new.carriers in
    let put = c.gather_lanes-put.result.0 in
    let post = c.gather_lanes-put.result.1 in
    let take = c.gather_carriers-take.result.0 in
    let others = c.gather_carriers-take.result.1 in
    let whole = joined_post post others in
    have_met queue desk c.args.keeper.now.pass.got (lanings c.args.lanes.now) lanes c.args.carriers.now carriers put take post others c.meet.ensures.conserved.0 c.meet-2.ensures.in_order.0
    c.requires.have c.gather_lanes-put.ensures.joined c.gather_carriers-take.ensures.joined c.meet.ensures.conserved.1
    (in_order_as c.join_post.new.into whole c.collect_pass.result.now.got c.args.keeper.now.pass.got c.meet-2.ensures.in_order.0
    c.join_post.ensures (ap (λ (p : Collector). p.got) c.collect_pass.ensures.lent) c.meet-2.ensures.in_order.1)
    (parted_as queue desk c.meet.new.put put c.split_post-others.new.pass (kept_post whole) (lanes_passes lanes)
    c.meet.ensures.same.0 (of_joined kept_post c.split_post-others.new.pass c.meet-2.new.post c.join_post.new.into whole c.split_post-others.ensures.kept c.meet-2.ensures.same.0 c.join_post.ensures) c.part_lanes.ensures.parted)
    (parted_as queue desk c.meet.new.take take c.split_post-others.result (cut_post whole) (carriers_passes carriers)
    c.meet.ensures.same.1 (of_joined cut_post c.split_post-others.result c.meet-2.new.post c.join_post.new.into whole c.split_post-others.ensures.new c.meet-2.ensures.same.0 c.join_post.ensures) c.part_carriers.ensures.parted)
    (c.part_lanes.ensures.same ∙ c.gather_lanes-put.ensures.bare)
    (c.part_carriers.ensures.same ∙ c.gather_carriers-take.ensures.bare)

pub returns-clause-count : goal.returns-clause-count
returns-clause-count g c =
    all_counted c.count-posted.result c.gather_lanes-put.result.0 c.gather_carriers-take.result.0 c.gather_lanes-put.result.1 c.gather_carriers-take.result.1 c.join_post.new.into c.meet-2.new.post
    c.gather_lanes-put.ensures.joined c.gather_carriers-take.ensures.joined c.join_post.ensures c.meet-2.ensures.same.0 c.count-posted.ensures
