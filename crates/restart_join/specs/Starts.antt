-- Where a file goes on (Filebeat reference, filestream input and its registry; this project's profile): at its row's
-- epoch and offset if it is at least as long, else at the next epoch and 0, and without a row at epoch 0 and 0.
use Rattle.std.specs.Prelude.{ℕ, ◌+◌, nat_le, Option, Some, None, if◌then◌else◌}
use Rattle.restart_join.specs.declared.start.Start.{Start}
use Rattle.wire_base.specs.declared.row.Row.{Row}

abbrev pub start_of : ℕ → Option Row → Start
start_of size None = record { epoch = 0; base = 0 }
start_of size (Some row) =
    if nat_le row.offset size then record { epoch = row.epoch.0; base = row.offset } else record { epoch = row.epoch.0 + 1; base = 0 }
