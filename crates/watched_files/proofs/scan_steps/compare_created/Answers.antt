use Rattle.std.proofs.Common.{arith}
use Rattle.watched_files.proofs.Creating.{compared_kept, compared_put, created_tells, free_at, next_below, watched_at, watched_kept, watched_same}
use Rattle.watched_files.proofs.scan_steps.compare_created.Goals as goal

pub create_files-requires-clause-free : goal.create_files-requires-clause-free
create_files-requires-clause-free c = free_at _ _ _ c.next_slot-first.ensures c.requires

pub withdraw_each-requires : goal.withdraw_each-requires
withdraw_each-requires c =
    next_below c.args.clean.now c.args.whole c.args.prospector.now c.compare.new.self c.args.seen.now _ _ _ _ c.in-Ok.ensures.remembered c.next_slot-first.ensures c.next_slot.ensures c.count_new.ensures
    c.last_slot-last.ensures.reached (omega arith)

pub returns-in-Ok-clause-created : goal.returns-in-Ok-clause-created
returns-in-Ok-clause-created c =
    created_tells c.args.prospector.now c.args.seen.now c.args.table.now c.withdraw_each.new.table
    (compared_put c.args.clean.now c.args.whole c.args.prospector.now c.compare.new.self c.args.seen.now _ _ _ _ _ _ c.in-Ok.ensures.remembered c.next_slot-first.ensures c.next_slot.ensures c.requires
    (next_below c.args.clean.now c.args.whole c.args.prospector.now c.compare.new.self c.args.seen.now _ _ _ _ c.in-Ok.ensures.remembered c.next_slot-first.ensures c.next_slot.ensures c.count_new.ensures
    c.last_slot-last.ensures.reached (omega arith))
    c.in_ok-create_files.ensures.created c.withdraw_each.ensures)

pub returns-in-Ok-clause-watched : goal.returns-in-Ok-clause-watched
returns-in-Ok-clause-watched c =
    watched_at c.args.clean.now c.args.whole c.args.prospector.now c.compare.new.self c.args.seen.now c.args.table.now c.withdraw_each.new.table c.in-Ok.ensures.remembered c.requires c.compare.ensures.known
    (compared_put c.args.clean.now c.args.whole c.args.prospector.now c.compare.new.self c.args.seen.now _ _ _ _ _ _ c.in-Ok.ensures.remembered c.next_slot-first.ensures c.next_slot.ensures c.requires
    (next_below c.args.clean.now c.args.whole c.args.prospector.now c.compare.new.self c.args.seen.now _ _ _ _ c.in-Ok.ensures.remembered c.next_slot-first.ensures c.next_slot.ensures c.count_new.ensures
    c.last_slot-last.ensures.reached (omega arith))
    c.in_ok-create_files.ensures.created c.withdraw_each.ensures)

pub returns-in-Err-clause-files_kept : goal.returns-in-Err-clause-files_kept
returns-in-Err-clause-files_kept c =
    compared_kept c.args.prospector.now _ _ _ _ _ c.next_slot-first.ensures c.requires c.in_ok-create_files.ensures.created c.withdraw_each-in-Err.ensures

pub returns-in-Err-clause-watched : goal.returns-in-Err-clause-watched
returns-in-Err-clause-watched c =
    watched_kept c.args.prospector.now c.compare.new.self c.args.table.now c.withdraw_each-in-Err.new.table c.in-Err.ensures.kept_on_refusal c.requires
    (compared_kept c.args.prospector.now _ _ _ _ _ c.next_slot-first.ensures c.requires c.in_ok-create_files.ensures.created c.withdraw_each-in-Err.ensures)

pub returns-in_err-create_files-clause-watched : goal.returns-in_err-create_files-clause-watched
returns-in_err-create_files-clause-watched c =
    watched_same c.args.prospector.now c.args.table.now c.create_files.new.table c.requires c.in_err-create_files.ensures.kept
