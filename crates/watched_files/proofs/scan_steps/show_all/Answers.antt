use Rattle.std.proofs.Common.{ap, arith, drop, flat_map, ◌+◌}
use Rattle.watched_files.specs.Telling.{shown_events}
use Rattle.watched_files.proofs.Slots.{keeps_trans}
use Rattle.watched_files.proofs.Tellings.{drop_all, drop_flat, tells_end, tells_step}
use Rattle.watched_files.proofs.scan_steps.show_all.Goals as goal

pub loop-member-preserved : goal.loop-member-preserved
loop-member-preserved c =
    let events = shown_events c.args.number c.args.prospector.now.files in (
      tells_step (flat_map events c.args.seen.now) (events c.member-item.result) (flat_map events (drop (c.loop-member.member-index + 1) c.args.seen.now))
          (flat_map events (drop c.loop-member.member-index c.args.seen.now)) c.args.table.now c.loop-member.table c.show.new.table
          (drop_flat events c.args.seen.now c.loop-member.member-index c.member-item.result c.loop-member-test.true c.member-item.is)
          c.loop-member.invariant.0 c.show.ensures.shown,
      keeps_trans c.args.table.now c.loop-member.table c.show.new.table c.loop-member.invariant.1 c.show.ensures.same_slots,
    )

pub returns-clause-shown : goal.returns-clause-shown
returns-clause-shown c =
    let events = shown_events c.args.number c.args.prospector.now.files in
    tells_end (flat_map events c.args.seen.now) (flat_map events (drop c.loop-member.member-index c.args.seen.now)) c.args.table.now c.loop-member.table
    (ap (flat_map events) (drop_all c.args.seen.now c.loop-member.member-index (omega (arith, c.loop-member-test.false)))) c.loop-member.invariant.0
