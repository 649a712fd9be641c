use Rattle.std.proofs.Common.{ap, arith, drop, flat_map, ◌+◌}
use Rattle.watched_files.specs.Telling.{change_events}
use Rattle.watched_files.proofs.Slots.{keeps_trans}
use Rattle.watched_files.proofs.Tellings.{asks_end, asks_step, drop_all, drop_flat}
use Rattle.watched_files.proofs.scan_steps.take_changes.Goals as goal

pub loop-change-preserved : goal.loop-change-preserved
loop-change-preserved c =
    let events = change_events c.args.number c.args.clean.now c.args.prospector.now.files in (
      asks_step (flat_map events c.args.changes.now) (events c.change-item.result) (flat_map events (drop (c.loop-change.change-index + 1) c.args.changes.now))
          (flat_map events (drop c.loop-change.change-index c.args.changes.now)) c.args.deeds.now.items c.loop-change.deeds.items c.take_change.new.deeds.items c.args.table.now c.loop-change.table c.take_change.new.table
          (drop_flat events c.args.changes.now c.loop-change.change-index c.change-item.result c.loop-change-test.true c.change-item.is)
          c.loop-change.invariant.0 c.in_ok-take_change.ensures.taken,
      keeps_trans c.args.table.now c.loop-change.table c.take_change.new.table c.loop-change.invariant.1 c.in_ok-take_change.ensures.same_slots,
    )

pub returns-in_err-take_change-clause-same_slots : goal.returns-in_err-take_change-clause-same_slots
returns-in_err-take_change-clause-same_slots c = keeps_trans c.args.table.now c.loop-change.table c.take_change.new.table c.loop-change.invariant.1 c.take_change.ensures.same_slots

pub returns-clause-taken : goal.returns-clause-taken
returns-clause-taken c =
    let events = change_events c.args.number c.args.clean.now c.args.prospector.now.files in
    asks_end (flat_map events c.args.changes.now) (flat_map events (drop c.loop-change.change-index c.args.changes.now)) c.args.deeds.now.items c.loop-change.deeds.items c.args.table.now c.loop-change.table
    (ap (flat_map events) (drop_all c.args.changes.now c.loop-change.change-index (omega (arith, c.loop-change-test.false)))) c.loop-change.invariant.0
