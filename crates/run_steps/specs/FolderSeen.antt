-- What a folder shows at one moment (this project's profile), and how a call that opens a file or closes a tail changes it.
use Rattle.std.specs.Prelude.{◌≡◌, ℕ, ◌-◌, ◌≤◌, IsErrOf, List, Option, Result}
use Rattle.outside.specs.Counts.{Rose, added_counts}
use Rattle.outside.specs.Files.{NoneEarlier}
use Rattle.outside.specs.Folders.{FolderHistory, StartsFresh, TellsOpening, count_after_opening}
use Rattle.outside.specs.declared.failed.FolderError.{FolderError}
use Rattle.outside.specs.declared.failed.FolderError.TheVariants.{Failed}
use Rattle.outside.specs.declared.folder.Folder.{Ghosts as FolderGhosts}
use Rattle.outside.specs.declared.history.Shown.{Shown}
use Rattle.outside.specs.declared.history.Sight.{Sight}
use Rattle.rounds.specs.Words.{TailWords}
use Rattle.run_steps.specs.Releasing.{closing_of, with_events}

-- its files and what was done so far, if they are known; what a call now finds; how many tails are open; its faults
pub record FolderSeen : Type 0 where
  pub told : Option FolderHistory
  pub states : List Sight
  pub present : List Shown
  pub open_tails : ℕ
  pub faults : ℕ

-- by the members of its trait: `F.Folder` in a clause, `g.F.Folder` in a proof
abbrev pub seen_in : {F T : Type 0} → FolderGhosts F T → F → FolderSeen
seen_in words folder = record {
  told = words.told folder;
  states = words.states folder;
  present = words.present folder;
  open_tails = words.open_tails folder;
  faults = words.faults folder;
}

-- a file was opened by its path, or none was there, or the call failed
pub record OpensBy {T : Type 0} (tails : TailWords T) (path : List ℕ) (result : Result (Option T) FolderError) (old new : FolderSeen) : Type 0 where
  pub told : TellsOpening tails.told tails.numbers old.told old.states old.present path result new.told
  pub states_go_on : NoneEarlier old.states new.states
  pub open_tails : new.open_tails ≡ count_after_opening old.open_tails result
  pub fresh : StartsFresh tails.faults result
  pub faults_never_fall : old.faults ≤ new.faults
  pub failed_only_where_faults_rose : IsErrOf result Failed → Rose old.faults new.faults

-- the tail was closed, with its looks and its faults
pub record Closes {T : Type 0} (tails : TailWords T) (tail : T) (old new : FolderSeen) : Type 0 where
  pub told : new.told ≡ with_events (closing_of (tails.told tail) (tails.faults tail)) old.told
  pub states_go_on : NoneEarlier old.states new.states
  pub open_tails : new.open_tails ≡ old.open_tails - 1
  pub counts_faults : added_counts old.faults (tails.faults tail) ≤ new.faults
