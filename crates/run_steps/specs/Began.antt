-- How a run began (this project's profile): its settings, the rows of its registry, what its one scan listed and when, what folder and clock reported
-- by then, how many outcomes each worker's wire had, and its areas before they were opened.
use Rattle.std.specs.Prelude.{ℕ, Bool, List, Option}
use Rattle.event_tree.specs.declared.settings.Settings.{Settings}
use Rattle.outside.specs.Folders.{FolderHistory}
use Rattle.prospect.specs.declared.listed.Listed.{Listed}
use Rattle.wire_base.specs.declared.row.Row.{Row}

pub record Began (D : Type 0) : Type 0 where
  pub settings : Settings
  -- whether files are read once: each turn may find the end of its file
  pub once : Bool
  -- as it was opened
  pub opening : List Row
  -- the first file of each key; its slot is its place in this list
  pub listed : List Listed
  -- the others
  pub doubled : List Listed
  pub moment : ℕ
  -- the folder after the scan, and the clock before it
  pub shown : Option FolderHistory
  pub moments : Option (List ℕ)
  -- worker by worker
  pub heard : List ℕ
  pub a : D
  pub b : D
