-- A run (this project's profile): what it was asked, which rows the registry had as it was opened, what it shows, and how
-- its listings fall into scans. Which openings only asked for a file's key is known from the scans: each of these is
-- beside the entry for which it was asked; each of the others is of a tail by which a file is followed.
use Rattle.std.specs.Prelude.{ℕ, Bool, List, Option}
use Rattle.event_tree.specs.declared.settings.Settings.{Settings}
use Rattle.wire_base.specs.declared.row.Row.{Row}
use Rattle.kept_rows.specs.Trace.{Trace}

-- an input of this number asked for the key of the entry with this path, by a tail that was opened for it if it reads
-- the file
pub record Asking : Type 0 where
  pub input : ℕ
  pub path : List ℕ
  pub opening : Option ℕ

-- its listings, by their places in the folder's list, what was asked of their entries, and the moment of the scan
pub record Scan : Type 0 where
  pub moment : ℕ
  pub listings : List ℕ
  pub askings : List Asking

pub record Run : Type 0 where
  pub settings : Settings
  -- files are read once
  pub once : Bool
  pub opening : List Row
  pub trace : Trace
  pub scans : List Scan
