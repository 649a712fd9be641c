use Rattle.std.proofs.Common.{Bool, subst, sym}
use Rattle.file_table.specs.Events.{news_of}
use Rattle.file_table.specs.Tables.{Takes}
use Rattle.watched_files.proofs.Results.{on_ok_map}
use Rattle.watched_files.proofs.Slots.{keeps_takes}
use Rattle.watched_files.proofs.Tellings.{takes_asks}
use Rattle.watched_files.proofs.scan_steps.take_change.Goals as goal

pub returns-clause-taken : goal.returns-clause-taken
returns-clause-taken c =
    on_ok_map c.add_deed.result
    (λ is. takes_asks c.args.number c.args.clean.now c.args.prospector.now.files c.args.change.now c.in-Some.slot c.args.table.now c.in_ok-deed.deed c.take.new.self
    c.args.deeds.now.items c.add_deed.new.deeds.items (sym c.in-Some.ensures)
    (subst (λ (b : Bool). Takes (news_of c.args.number b c.args.change.now) c.args.table.now c.in_ok-deed.deed c.take.new.self) c.cleans_by-clean.ensures c.in_ok-deed.ensures.taken) is)
    c.add_deed.ensures

pub returns-clause-same_slots : goal.returns-clause-same_slots
returns-clause-same_slots c =
    keeps_takes c.args.number c.cleans_by-clean.result c.args.change.now c.in-Some.slot c.args.table.now c.in_ok-deed.deed c.take.new.self (sym c.in-Some.ensures) c.in_ok-deed.ensures.taken
