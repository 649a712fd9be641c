use Rattle.std.proofs.Common.{[], ◌∷◌, ap, arith, drop, ◌+◌}
use Rattle.watched_files.specs.Telling.{began_event, began_events}
use Rattle.watched_files.proofs.Tellings.{drop_all, drop_map, tells_end, tells_one, tells_step}
use Rattle.watched_files.proofs.scan_steps.begin_files.Goals as goal

pub loop-begin-preserved : goal.loop-begin-preserved
loop-begin-preserved c =
    tells_step (began_events c.args.rows.now c.args.begins.now) (began_event c.args.rows.now c.begin-item.result ∷ []) (began_events c.args.rows.now (drop (c.loop-begin.begin-index + 1) c.args.begins.now))
    (began_events c.args.rows.now (drop c.loop-begin.begin-index c.args.begins.now)) c.args.table.now c.loop-begin.table c.begin_file.new.table
    (drop_map (began_event c.args.rows.now) c.args.begins.now c.loop-begin.begin-index c.begin-item.result c.loop-begin-test.true c.begin-item.is)
    c.loop-begin.invariant (tells_one (began_event c.args.rows.now c.begin-item.result) c.loop-begin.table c.begin_file.new.table c.in_ok-begin_file.ensures)

pub returns : goal.returns
returns c =
    tells_end (began_events c.args.rows.now c.args.begins.now) (began_events c.args.rows.now (drop c.loop-begin.begin-index c.args.begins.now)) c.args.table.now c.loop-begin.table
    (ap (began_events c.args.rows.now) (drop_all c.args.begins.now c.loop-begin.begin-index (omega (arith, c.loop-begin-test.false)))) c.loop-begin.invariant
