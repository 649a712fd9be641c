use Rattle.std.proofs.Common.{subst, arith}
use Rattle.file_table.specs.Tables.{IsFirstFrom}
use Rattle.watched_files.proofs.Missing.{keeps_ends, miss_end, miss_step}
use Rattle.watched_files.proofs.scan_steps.miss_first.Goals as goal

pub returns-in_err-add_deed-in-Some-clause-same_slots : goal.returns-in_err-add_deed-in-Some-clause-same_slots
returns-in_err-add_deed-in-Some-clause-same_slots c =
    keeps_ends _ c.in-Some.slot c.args.table.now c.end_scan-deed.result c.end_scan-deed.new.self c.end_scan-deed.ensures

pub returns-in_ok-add_deed-in-Some-clause-same_slots : goal.returns-in_ok-add_deed-in-Some-clause-same_slots
returns-in_ok-add_deed-in-Some-clause-same_slots c =
    keeps_ends _ c.in-Some.slot c.args.table.now c.end_scan-deed.result c.end_scan-deed.new.self c.end_scan-deed.ensures

pub returns-in_ok-add_deed-in-Some-clause-missed : goal.returns-in_ok-add_deed-in-Some-clause-missed
returns-in_ok-add_deed-in-Some-clause-missed c = λ files earlier start so.
    miss_step c.args.number files c.args.next earlier c.args.deeds.now.items c.add_deed.new.deeds.items c.args.from start c.args.table.now c.in-Some.slot c.in-Some.field-0-1.now
    c.end_scan-deed.result c.end_scan-deed.new.self c.in-Some.ensures.0 c.if-slot-next.true c.in-Some.ensures.1 c.in-Some.ensures.2 c.end_scan-deed.ensures
    c.in_ok-add_deed-in-Some.ensures so

pub returns-in_default-clause-missed : goal.returns-in_default-clause-missed
returns-in_default-clause-missed c = λ files earlier start so.
    miss_end c.args.number files c.args.next earlier c.args.deeds.now.items c.args.deeds.now.items c.args.from start c.args.table.now
    (λ other low high. c.in-Some.ensures.2 other low (omega (arith, high, c.if-slot-next.false))) so

pub returns-in_default-2-clause-missed : goal.returns-in_default-2-clause-missed
returns-in_default-2-clause-missed c = λ files earlier start so.
    miss_end c.args.number files c.args.next earlier c.args.deeds.now.items c.args.deeds.now.items c.args.from start c.args.table.now
    (λ other low high. subst (IsFirstFrom c.args.from c.args.table.now) c.in_default.is c.first_from.ensures other low) so
