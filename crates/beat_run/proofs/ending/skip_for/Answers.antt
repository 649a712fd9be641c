use Rattle.std.proofs.Common.{◌∙◌, ◌++◌, List, ap, map, sym, take}
use Rattle.file_rows.proofs.ListedKeys.{one_more}
use Rattle.prospect.specs.declared.listed.Listed.{Listed}
use Rattle.beat_run.specs.Skipped.{skipped_for}
use Rattle.beat_run.proofs.Skipping.{skipped_more}
use Rattle.beat_run.proofs.ending.skip_for.Goals as goal

pub loop-one-preserved : goal.loop-one-preserved
loop-one-preserved c =
    let one = c.one-item.result in
    skipped_more c.args.why c.args.passed.now.items (take c.loop-one.one-index c.args.files.now) one c.loop-one.passed.items c.pass_over.new.passed.items c.loop-one.invariant c.in_ok-pass_over.ensures.passed
    ∙ ap (λ (l : List Listed). c.args.passed.now.items ++ map (skipped_for c.args.why) l) (sym (one_more c.args.files.now c.loop-one.one-index one c.loop-one-test.true c.one-item.is))
