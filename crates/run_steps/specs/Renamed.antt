-- The paths that later scans show of a file that was opened (Filebeat reference, filestream input; this project's profile): which of them a run may
-- tell its keeper, and what a step between two rounds supposes of them.
use Rattle.std.specs.Prelude.{◌≡◌, List, ◌++◌, Contains, Some, length}
use Rattle.accounts.specs.Opened.{Opened}
use Rattle.accounts.specs.Watch.{Name}
use Rattle.prospect.specs.declared.listed.Listed.{Listed}
use Rattle.wire_base.specs.declared.note.Note.{Note}
use Rattle.wire_base.specs.declared.note.Note.TheVariants.{Rename}
use Rattle.wire_base.specs.declared.numbers.Slot.{Slot}
use Rattle.run_steps.specs.LaterScans.{LaterScan, WasMissed, WasNamed}
use Rattle.run_steps.specs.SoFar.{Earlier, opened_before}

-- the note tells a name that a later scan gave one of the files
pub record IsRenameOf (scans : List LaterScan) (opened : List Opened) (note : Note) : Type 0 where
  pub file : Opened
  pub among : Contains opened file
  pub name : Name
  pub named : WasNamed scans file name
  pub is : note ≡ Rename file.begin.slot name.scan name.path

-- the newest scan gave it, and listed the key by no other path
pub record IsNewestName (scans : List LaterScan) (opened : Opened) (name : Name) : Type 0 where
  pub named : WasNamed scans opened name
  pub newest : name.scan ≡ length scans
  pub only : (one : Listed) → Contains named.scan.files one → one.key ≡ Some opened.begin.key → one.path ≡ name.path

-- ---- what a step supposes of the scans so far, and of the openings, those before the last ones first

-- the slot is that of a file; each of its openings came before the newest scan, which gave it this name
pub record IsNamedAnew (slot : Slot) (name : Name) (scans : List LaterScan) (earlier : List Earlier) (opened : List Opened) : Type 0 where
  pub file : Opened
  pub among : Contains opened file
  pub slot_is : file.begin.slot ≡ slot
  pub newest : (one : Opened) → Contains (opened_before earlier ++ opened) one → one.begin.slot ≡ slot → IsNewestName scans one name

-- the file of the slot was removed
abbrev pub IsRemovedSince : Slot → List LaterScan → List Earlier → List Opened → Type 0
IsRemovedSince slot scans earlier opened = (one : Opened) → Contains opened one → one.begin.slot ≡ slot → WasMissed scans one
