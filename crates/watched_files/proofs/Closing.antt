-- A tail that is closed, or is not.
use Rattle.std.proofs.Common.{Option, Some, None, IfNone, IfSome}
use Rattle.wire_base.specs.declared.numbers.Slot.{Slot}
use Rattle.file_table.specs.declared.closing.Inactive.{Inactive}
use Rattle.file_table.specs.declared.closing.TailLook.{TailLook}
use Rattle.file_table.specs.declared.deed.Deed.{Deed}
use Rattle.file_table.specs.declared.table.FileTable.{FileTable}
use Rattle.file_table.specs.Tables.{AreSame, Closes}
use Rattle.watched_files.specs.Watching.{KeepsSlots}
use Rattle.file_table.proofs.Puts.{same_files}
use Rattle.watched_files.proofs.Slots.{keeps_news, keeps_same}

pub keeps_close : (slot : Slot) (look : TailLook) (inactive : Inactive) (old new : FileTable) (result : Option Deed) → IfSome result (λ asked. Closes slot look inactive old asked new) → IfNone result (AreSame old new) →
    KeepsSlots old new
keeps_close slot look inactive old new None closed kept = keeps_same old new (same_files old new kept)
keeps_close slot look inactive old new (Some asked) closed kept = keeps_news _ _ old new closed.hears.adds
