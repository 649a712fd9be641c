-- What is known besides of a run that was through with beginning its files (this project's profile), by what its keeper noted and what its
-- folder reported after the scan: each listed file was begun, or skipped for its reason, and of each begun the moment of its change is
-- noted; and of each row that is removed how its slot begins, and that it goes.
use Rattle.std.specs.Prelude.{◌≡◌, ℕ, List, [], Contains, length}
use Rattle.event_tree.specs.declared.input_rule.InputRule.{InputRule}
use Rattle.event_tree.specs.declared.settings.Settings.{Settings}
use Rattle.kept_rows.specs.Trace.{Trace}
use Rattle.outside.specs.Folders.{FolderHistory}
use Rattle.prospect.specs.declared.listed.Listed.{Listed}
use Rattle.report.specs.declared.passing.Passing.{Passing}
use Rattle.report.specs.declared.passing.Why.{Why}
use Rattle.wire_base.specs.declared.note.Begin.{Begin}
use Rattle.wire_base.specs.declared.note.Note.{Note}
use Rattle.wire_base.specs.declared.row.Row.{Row}
use Rattle.run_steps.specs.Begun.{AreAllSeen, noted_begin}
use Rattle.run_steps.specs.FollowedOrSkipped.{FollowsOrSkips}
use Rattle.run_steps.specs.HiddenRows.{AreAllForgotten}
use Rattle.run_steps.specs.RunOf.{FolderTold}
use Rattle.run_steps.specs.SkippedFor.{IsSkippedFor}

-- it was reported to the keeper how the file of this slot begins
pub record HasBegin (notes : List Note) (slot : ℕ) : Type 0 where
  pub begin : Begin
  pub slot_is : begin.slot.0 ≡ slot
  pub noted : Contains notes (noted_begin begin)

-- what a folder reported of which this many things were there before the run, as the trace of the run
abbrev pub folder_trace : ℕ → FolderHistory → Trace
folder_trace began told = record { files = told.files; events = told.events; began = began; open_tails = []; moments = []; wires = [] }

module _ (inputs : List InputRule) (notes : List Note) (trace : Trace) where
  -- it was not begun, and its opening showed the reason
  pub record WasSkippedBy (slot : ℕ) (one : Listed) (opening : ℕ) (why : Why) : Type 0 where
    pub not_begun : ¬ (HasBegin notes slot)
    pub reason : IsSkippedFor inputs trace one opening why

  -- these files, the first of which has this slot, by openings from this place of the folder's list on
  abbrev pub AreServedFrom : ℕ → ℕ → List Listed → List Passing → Type 0
  AreServedFrom slot place listed passed = FollowsOrSkips (λ slot one. HasBegin notes slot) WasSkippedBy slot place listed passed

pub record AreServed (settings : Settings) (rows : List Row) (listed : List Listed) (passed : List Passing) (notes : List Note) (folder : FolderTold) : Type 0 where
  pub each : AreServedFrom settings.inputs notes (folder_trace (length folder.earlier.events) folder.ended) 0 (length folder.scanned.events) listed passed
  pub seen : AreAllSeen rows listed notes
  pub forgotten : AreAllForgotten settings.inputs listed rows notes
