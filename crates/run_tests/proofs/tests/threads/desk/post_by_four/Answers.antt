use Rattle.std.proofs.Common.{ap, ◌∙◌, subst}
use Rattle.pass_sums.specs.Share.{IsWorth}
use Rattle.pass_sums.proofs.Shares.{worth_rejoined}
use Rattle.settle_box.specs.Poster.{Poster}
use Rattle.run_tests.proofs.tests.threads.desk.post_by_four.Goals as goal

pub returns : goal.returns
returns g c =
    let kept = ap (λ (p : Poster). p.share) c.split_post-second.ensures.kept in
    let cut = ap (λ (p : Poster). p.share) c.split_post-second.ensures.new in (
      ap (λ (p : Poster). p.desk) c.join_post.ensures ∙ c.join-pass.ensures.first.0,
      worth_rejoined _ _ _ _ (subst (IsWorth _) kept c.join-pass.ensures.first.1) (subst (IsWorth _) cut c.join-pass.ensures.second.1)
          (ap (λ (p : Poster). p.share) c.join_post.ensures),
    )
