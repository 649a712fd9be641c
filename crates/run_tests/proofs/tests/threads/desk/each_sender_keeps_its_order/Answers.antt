use Rattle.std.proofs.Common.{rules, sym, subst}
use Rattle.pass_sums.specs.Share.{IsWhole}
use Rattle.pass_sums.proofs.Shares.{whole_worth}
use Rattle.settle_box.specs.Poster.{Poster}
use Rattle.run_tests.proofs.tests.threads.desk.each_sender_keeps_its_order.Goals as goal

pub meet-requires-clause-the_only_one_that_posts : goal.meet-requires-clause-the_only_one_that_posts
meet-requires-clause-the_only_one_that_posts g c = whole_worth _ _ (search rules) c.in_ok-desk.ensures.the_only_one_that_posts

pub close-left-requires-clause-the_only_one_that_posts : goal.close-left-requires-clause-the_only_one_that_posts
close-left-requires-clause-the_only_one_that_posts g c =
    subst (λ (p : Poster). IsWhole p.share) (sym c.meet.ensures.same.0) (whole_worth _ _ (search rules) c.in_ok-desk.ensures.the_only_one_that_posts)
