use Rattle.std.proofs.Common.{Option, Some, sym, subst}
use Rattle.std.specs.Option.{IfSome}
use Rattle.file_table.specs.declared.file_entry.FileEntry.{FileEntry}
use Rattle.file_table.specs.declared.table.FileTable.{FileTable}
use Rattle.file_table.specs.Entries.{FitsNews}
use Rattle.file_table.specs.Tables.{Puts}
use Rattle.file_table.proofs.Puts.{hears_some, puts_written}
use Rattle.file_table.proofs.table.FileTable.hear.Goals as goal

pub returns-in-Some : goal.returns-in-Some
returns-in-Some c =
    let old = c.args.self.now in
    let entry = c.in-Some.entry.now in
    let after = c.hear.new.self in
    let new : FileTable = record { files = c.get_mut.follows.lender after } in
    let there = sym c.in-Some.ensures.value in
    hears_some old new c.args.slot.0 c.args.news c.hear.result entry there
    (subst (λ (e : FileEntry). Puts old new c.args.slot.0 (Some e)) c.hear.ensures.next (puts_written old new c.args.slot.0 entry after there (c.get_mut.follows.holds after)))
    (subst (λ (o : Option FileEntry). IfSome o (λ e. FitsNews c.args.news e.stand)) there c.requires) c.hear.ensures.deed
