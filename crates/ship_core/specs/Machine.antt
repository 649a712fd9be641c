-- The registry machine (this project's profile): opening rows, the notes since the last restart, the updates that were
-- committed, and whether it runs. A commit adds the pending updates, which lead from what the updates make to the rows over
-- the notes. A crash keeps a front of the updates and the pending ones, forgets the notes and stops it; a restart opens what
-- the updates make.
use Rattle.std.specs.Prelude.{◌≡◌, ◌≤◌, ℕ, Bool, true, false, List, [], ◌∷◌, ◌++◌, length, take, Option, Some, None, if◌then◌else◌}
use Rattle.wire_base.specs.Ranges.{IsNote}
use Rattle.wire_base.specs.declared.row.Row.{Row}
use Rattle.wire_base.specs.declared.row.Op.{Op}
use Rattle.wire_base.specs.declared.note.Note.{Note}
use Rattle.ship_core.specs.declared.step.CoreStep.{CoreStep}
use Rattle.ship_core.specs.declared.step.CoreStep.TheVariants.{Noted, Commit, Crash, Restart}
use Rattle.wire_base.specs.KeyOrder as entries
use Rattle.ship_core.specs.Changes.{LeadTo, change_of, key_in, op_for}
use Rattle.ship_core.specs.Orderly.{MayFollow}
use Rattle.ship_core.specs.Replay.{after_op, replay}
use Rattle.ship_core.specs.RowOver.{Start, notes_of, row_over, start_over}
use Rattle.ship_core.specs.Rows.{find}
use Rattle.ship_core.specs.RowsOver.{AreRowsOver, row_for}

pub record Core : Type 0 where
  pub opening : List Row
  pub notes : List Note
  pub updates : List Op
  pub runs : Bool

-- nothing is there yet, and it runs
abbrev pub at_start : Core
at_start = record { opening = []; notes = []; updates = []; runs = true }

-- the rows over the opening rows and the notes while it runs, else what the updates make
pub record AreRowsOf (core : Core) (rows : List Row) : Type 0 where
  pub running : core.runs ≡ true → AreRowsOver core.opening core.notes rows
  pub stopped : core.runs ≡ false → rows ≡ replay core.updates

-- what leads from what the updates make to the rows; after a crash that is nothing
pub record ArePending (core : Core) (ops : List Op) : Type 0 where
  pub rows : List Row
  pub are : AreRowsOf core rows
  pub lead : LeadTo (replay core.updates) rows ops

-- the machine after a step, by its pending updates; after a crash only a restart changes anything
abbrev pub after_step : Core → List Op → CoreStep → Core
after_step core pending (Noted note) = if core.runs then record core { notes = core.notes ++ note ∷ [] } else core
after_step core pending Commit = if core.runs then record core { updates = core.updates ++ pending } else core
after_step core pending (Crash left) = if core.runs then record core { notes = []; updates = take left (core.updates ++ pending); runs = false } else core
after_step core pending Restart = record { opening = replay core.updates; notes = []; updates = core.updates; runs = true }

pub record Steps (core : Core) (step : CoreStep) (new : Core) : Type 0 where
  pub pending : List Op
  pub are : ArePending core pending
  pub is : new ≡ after_step core pending step

-- a crash keeps at least what was committed and at most the pending updates besides
pub record IsCut (core : Core) (left : ℕ) : Type 0 where
  pub least : length core.updates ≤ left
  pub most : (pending : List Op) → ArePending core pending → left ≤ length (core.updates ++ pending)

-- while it runs the note follows those before it, and a crash keeps what was committed
abbrev pub MayStep : Core → CoreStep → Type 0
MayStep core (Noted note) = IsNote note × (core.runs ≡ true → MayFollow core.notes note)
MayStep core Commit = Unit {0}
MayStep core (Crash left) = core.runs ≡ true → IsCut core left
MayStep core Restart = Unit {0}

-- ---- one key renewed

-- the operations with the key's in place of an earlier one, or without
abbrev pub with_change : List ℕ → Option Op → List Op → List Op
with_change key None ops = entries.without_key key_in key ops
with_change key (Some op) ops = entries.with_entry key_in op ops

-- the key with which the slot began has its row over the notes, and its change is pending; all else stays
pub record Renews (opening : List Row) (notes : List Note) (slot : ℕ) (durable rows new_rows : List Row) (ops new_ops : List Op) : Type 0 where
  pub rows_are : (start : Start) → start_over (notes_of slot notes) ≡ Some start → new_rows ≡ after_op rows (op_for start.key (row_for opening notes start.key))
  pub ops_are : (start : Start) → start_over (notes_of slot notes) ≡ Some start → new_ops ≡ with_change start.key (change_of start.key (find start.key durable) (row_for opening notes start.key)) ops

-- ---- any steps

-- steps lead from one state to another
abbrev pub Runs : Core → List CoreStep → Core → Type 0
Runs core [] new = core ≡ new
Runs core (step ∷ steps) new = (between : Core) × Steps core step between × Runs between steps new

-- a note or a commit
abbrev pub IsQuiet : CoreStep → Type 0
IsQuiet (Noted note) = Unit {0}
IsQuiet Commit = Unit {0}
IsQuiet (Crash left) = ⊥
IsQuiet Restart = ⊥

-- a commit or a crash
abbrev pub IsStoring : CoreStep → Type 0
IsStoring (Noted note) = ⊥
IsStoring Commit = Unit {0}
IsStoring (Crash left) = Unit {0}
IsStoring Restart = ⊥

-- one of the steps stores the row: a slot has it over the notes that are there
pub record IsStoredBy (core : Core) (steps : List CoreStep) (row : Row) : Type 0 where
  pub front : List CoreStep
  pub step : CoreStep
  pub rest : List CoreStep
  pub parts : steps ≡ front ++ step ∷ rest
  pub stores : IsStoring step
  pub before : Core
  pub run : Runs core front before
  pub slot : ℕ
  pub is : row_over slot before.notes ≡ Some row
