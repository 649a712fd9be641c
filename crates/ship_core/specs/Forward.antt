-- No row goes back (this project's profile): with more notes a slot's epoch and offset never become less, the epochs
-- compared first, nor does the moment of its last change, and a row that went stays gone.
use Rattle.std.specs.Prelude.{◌≡◌, ◌≤◌, Option, Some, None}
use Rattle.wire_base.specs.declared.row.Row.{Row}

-- the later epoch, offset and moment are not below the earlier ones
pub record GoesOn (row later : Row) : Type 0 where
  pub epoch_kept : row.epoch.0 ≤ later.epoch.0
  pub offset_kept : row.epoch.0 ≡ later.epoch.0 → row.offset ≤ later.offset
  pub moment_kept : row.changed.0 ≤ later.changed.0

-- a slot's row, and the one that it has later
abbrev pub RowGoesOn : Option Row → Option Row → Type 0
RowGoesOn None later = later ≡ None
RowGoesOn (Some row) None = Unit {0}
RowGoesOn (Some row) (Some later) = GoesOn row later
