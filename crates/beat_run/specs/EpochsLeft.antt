-- Why a run ends because epochs ran out, and when not (this project's profile): a file needs one above the last epoch, as it is to be
-- started or as it is read.
use Rattle.std.specs.Prelude.{◌≡◌, ◌⊎◌, ℕ, List, ◌++◌, slice_get, Option, Some}
use Rattle.event_tree.specs.declared.input_rule.InputRule.{InputRule}
use Rattle.outside.specs.Folders.{Event, FolderHistory}
use Rattle.prospect.specs.declared.listed.Listed.{Listed}
use Rattle.run_steps.specs.LastEpoch.{RanOutOfEpochs}
use Rattle.wire_base.specs.declared.limits.Full.TheVariants.{Epochs}
use Rattle.wire_base.specs.declared.row.Row.{Row}
use Rattle.beat_run.specs.Ends.{ListsTooMany}
use Rattle.beat_run.specs.Scanning.{ScansParted}

-- the scan reported the file of this path as one to be followed, and after the scan it ran out of epochs
pub record ReadsToTheLast (inputs : List InputRule) (told : FolderHistory) (rows : List Row) (path : List ℕ) (after : Option FolderHistory) : Type 0 where
  pub files : List Listed
  pub doubled : List Listed
  pub scanned : FolderHistory
  pub scans : ScansParted inputs told files doubled (Some scanned)
  pub slot : ℕ
  pub one : Listed
  pub listed_there : slice_get files slot ≡ Some one
  pub path_is : path ≡ one.path
  pub later : List Event
  pub after_is : after ≡ Some (record scanned { events = scanned.events ++ later })
  pub ran_out : RanOutOfEpochs inputs rows one scanned (record scanned { events = scanned.events ++ later })

-- there is no epoch for the file of this path: as files were to be started it is the first that is too much beside these rows, since it is
-- shorter than its row's offset, and the row's epoch is the last one; or it was read to the end of that one
abbrev pub FindsNoEpoch : List InputRule → FolderHistory → List Row → List ℕ → Option FolderHistory → Type 0
FindsNoEpoch inputs told rows path after = ListsTooMany inputs told rows Epochs path after ⊎ ReadsToTheLast inputs told rows path after

-- for each file there is one
abbrev pub HaveEpochsLeft : List InputRule → FolderHistory → List Row → Option FolderHistory → Type 0
HaveEpochsLeft inputs told rows after = (path : List ℕ) → ¬ (FindsNoEpoch inputs told rows path after)
