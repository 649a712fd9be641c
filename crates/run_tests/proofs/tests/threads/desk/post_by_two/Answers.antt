use Rattle.std.proofs.Common.{ap, ◌∙◌}
use Rattle.pass_sums.proofs.Shares.{worth_itself, worth_rejoined}
use Rattle.settle_box.specs.Poster.{Poster}
use Rattle.run_tests.proofs.tests.threads.desk.post_by_two.Goals as goal

pub returns : goal.returns
returns g c =
    let kept = ap (λ (p : Poster). p.share) c.split_post-second.ensures.kept in
    let cut = ap (λ (p : Poster). p.share) c.split_post-second.ensures.new in (
      ap (λ (p : Poster). p.desk) c.join_post.ensures ∙ c.join-pass.ensures.first.0,
      worth_rejoined _ _ _ _ (worth_itself _ _ (c.join-pass.ensures.first.1 ∙ kept)) (worth_itself _ _ (c.join-pass.ensures.second.1 ∙ cut))
          (ap (λ (p : Poster). p.share) c.join_post.ensures),
    )
