use Rattle.std.proofs.Common.{arith}
use Rattle.watched_files.proofs.Counting.{count_step}
use Rattle.watched_files.proofs.scan_steps.count_new.Goals as goal

pub loop-member-preserved : goal.loop-member-preserved
loop-member-preserved c = (
  count_step c.args.prospector.now.files c.args.seen.now c.loop-member.member-index c.member-item.result c.loop-member.count c.count_one-count.result c.loop-member-test.true c.member-item.is
      c.loop-member.invariant.0 c.count_one-count.ensures.counted,
  omega (arith, c.loop-member.invariant.1, c.count_one-count.ensures.one),
)
