use Rattle.std.proofs.Common.{List, ℕ, Option, Some, None, Ok, IfSome}
use Rattle.report.specs.Writing.{WritesAll}
use Rattle.report.specs.declared.status.Status.{Status}
use Rattle.report.specs.declared.status.Status.TheVariants.{Done, Stopped, Usage, Settings as SettingsFault, RegistryBad, DiskFault, FolderFault, Unreachable, OutFault, SourceFault, TooMany, NoNative, NoMemory, Unbuilt}
use Rattle.beat_run.specs.Ends.{IsReportEnd}
use Rattle.beat_run.specs.Printed.{IsPrinted, IsReportOf, Prints}

-- all of the report
report_printed : (Kind : List ℕ → Type 0) (old : Option (List ℕ)) (text : List ℕ) (after : Option (List ℕ)) → Kind text → WritesAll old text (Ok tt) after → IfSome old (λ written. Prints Kind written after)
report_printed Kind None text after is writes = tt
report_printed Kind (Some written) text after is writes = record { text = text; is = is; held = writes }

told : (status : Status) (old : Option (List ℕ)) (text : List ℕ) (after : Option (List ℕ)) → IsReportEnd status → IsReportOf status text → WritesAll old text (Ok tt) after → IfSome old (λ written. IsPrinted written after status)
told Done old text after ends report writes = report_printed (IsReportOf Done) old text after report writes
told Stopped old text after ends report writes = report_printed (IsReportOf Stopped) old text after report writes
told Usage old text after ends report writes = absurd ends
told (SettingsFault fault) old text after ends report writes = absurd ends
told (RegistryBad area at) old text after ends report writes = absurd ends
told DiskFault old text after ends report writes = absurd ends
told FolderFault old text after ends report writes = absurd ends
told (Unreachable worker failures) old text after ends report writes = absurd ends
told OutFault old text after ends report writes = absurd ends
told SourceFault old text after ends report writes = absurd ends
told (TooMany what path) old text after ends report writes = absurd ends
told (NoNative path) old text after ends report writes = absurd ends
told NoMemory old text after ends report writes = absurd ends
told (Unbuilt what) old text after ends report writes = absurd ends
