use Rattle.std.proofs.Common.{◌∙◌, ap, map}
use Rattle.serde_json.specs.View.{view}
use Rattle.file_progress.proofs.Jsons.{viewed_more}
use Rattle.file_progress.proofs.json.file_values.Goals as goal

pub loop-one-preserved : goal.loop-one-preserved
loop-one-preserved c =
    ap (map view) c.in_ok-push.ensures.items
    ∙ viewed_more c.loop-one.values.items _ c.args.files.now c.loop-one.one-index c.one-item.result c.loop-one-test.true c.one-item.is c.loop-one.invariant c.in_ok-file_value.ensures
