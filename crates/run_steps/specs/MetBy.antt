-- By what a run met what ends it (this project's profile): each of its causes shows in the crew, the keeper and the areas as they
-- are then.
use Rattle.std.specs.Prelude.{◌≡◌, ◌≢◌, ◌⊎◌, ◌<◌, ℕ, Bool, true, false, Option, Some, None, List, Vec}
use Rattle.std.specs.declared.alloc.Global.{Global}
use Rattle.harvester.specs.HasTold.{begin_of}
use Rattle.harvester.specs.declared.harvester.Harvester.{Harvester}
use Rattle.harvester.specs.declared.stage.Stage.TheVariants.{Over}
use Rattle.lanes.specs.Laning.{Laning}
use Rattle.lanes.specs.declared.lane.Lane.{Lane}
use Rattle.outside.specs.Counts.{Rose}
use Rattle.outside.specs.declared.folder.Folder.{Ghosts as FolderGhosts}
use Rattle.restart_join.specs.declared.start.TheConstants.{MAX_EPOCH}
use Rattle.rounds.specs.Crewed.{lanings}
use Rattle.rounds.specs.Crewing.{Crewing, crew_of}
use Rattle.rounds.specs.Pairs.{SomeOf}
use Rattle.rounds.specs.Settled.{IsDoneIn}
use Rattle.rounds.specs.Words.{DiskWords, TailWords}
use Rattle.rounds.specs.declared.storing.Storing.{Storing}
use Rattle.wire_base.specs.declared.numbers.Slot.{Slot}
use Rattle.run_steps.specs.Met.{AreLeft}
use Rattle.run_steps.specs.MetIn.{HasFailed, met_behind}
use Rattle.run_steps.specs.RunState.{Finished, Following, Leaving, OutOfEpochs, Phase, Reading}
use Rattle.run_steps.specs.declared.context.System.{System}
use Rattle.run_steps.specs.declared.met.Met.{Met}
use Rattle.run_steps.specs.declared.met.Met.TheVariants.{DiskFault, Done, Epochs, FolderFault, NoMemory, NoNative, Stopped, Unreachable}

abbrev pub SomeHarvester : {T : Type 0} → (Harvester T → Type 0) → List (Laning T) → Type 0
SomeHarvester P lanes = SomeOf (λ lane. SomeOf P lane.harvesters) lanes

-- its tail failed
abbrev pub HasFaults : {T : Type 0} → TailWords T → Harvester T → Type 0
HasFaults tails harvester = 0 < tails.faults harvester.tail

-- it is of the slot, and its last epoch is over
pub record IsOverOf {T : Type 0} (slot : Slot) (harvester : Harvester T) : Type 0 where
  pub of_slot : (begin_of harvester).slot ≡ slot
  pub over : harvester.reader.stage ≡ Over
  pub last : harvester.reader.epoch.0 ≡ MAX_EPOCH

-- the folder has counted a fault since it counted so many, or a tail has that is open
abbrev pub HasMetFault : {T : Type 0} → TailWords T → ℕ → ℕ → List (Laning T) → Type 0
HasMetFault tails before faults lanes = Rose before faults ⊎ SomeHarvester (HasFaults tails) lanes

-- the areas and the folder's count of faults as they were, and all as it is now
pub record Since (T W L D : Type 0) : Type 0 where
  pub a : D
  pub b : D
  pub faults : ℕ
  pub later_faults : ℕ
  pub now : Crewing T W L D

abbrev pub since_of : {F T W L D K B : Type 0} → FolderGhosts F T → Storing D → System F K B → Crewing T W L D → System F K B → Since T W L D
since_of words before was now system = record {
  a = before.a.now;
  b = before.b.now;
  faults = words.faults was.folder.now;
  later_faults = words.faults system.folder.now;
  now = now;
}

module _ {T W L D : Type 0} (tails : TailWords T) (disks : DiskWords D) (attempts : ℕ) where
  abbrev pub IsMetBy : Since T W L D → Met → Type 0
  IsMetBy since Done = IsDoneIn (crew_of since.now) since.now.storing.keeper.now
  IsMetBy since Stopped = ⊥
  IsMetBy since NoMemory = Unit {0}
  IsMetBy since DiskFault =
      Rose (disks.faults since.a) (disks.faults since.now.storing.a.now) ⊎ Rose (disks.faults since.b) (disks.faults since.now.storing.b.now)
  IsMetBy since FolderFault = HasMetFault tails since.faults since.later_faults (lanings since.now.lanes.items)
  IsMetBy since (Unreachable worker) = HasFailed attempts since.now.carriers.items worker
  IsMetBy since (Epochs slot) = SomeHarvester (IsOverOf slot) (lanings since.now.lanes.items)
  IsMetBy since (NoNative slot) = ⊥

  -- or some file hit a fault before that
  abbrev pub IsEndedBy : Bool → Since T W L D → Met → Type 0
  IsEndedBy faulty since Done = IsMetBy since Done
  IsEndedBy faulty since Stopped = IsMetBy since Stopped
  IsEndedBy faulty since NoMemory = IsMetBy since NoMemory
  IsEndedBy faulty since DiskFault = IsMetBy since DiskFault
  IsEndedBy faulty since FolderFault = (faulty ≡ true) ⊎ IsMetBy since FolderFault
  IsEndedBy faulty since (Unreachable worker) = IsMetBy since (Unreachable worker)
  IsEndedBy faulty since (Epochs slot) = IsMetBy since (Epochs slot)
  IsEndedBy faulty since (NoNative slot) = IsMetBy since (NoNative slot)

  -- what ended a round, as it left the lanes before files that failed in it were closed: a file's fault by itself does not
  pub record IsEndedRound (since : Since T W L D) (met : Met) : Type 0 where
    pub by : Met
    pub no_fault : by ≢ FolderFault
    pub faulty : Bool
    pub met_is : met ≡ met_behind faulty by
    pub lanes : Vec (Lane T) Global
    pub is : IsMetBy (record since { now = record since.now { lanes = lanes } }) by

-- the bell rang
pub record WasStopped (rings later : ℕ) (met : Met) : Type 0 where
  pub faulty : Bool
  pub met_is : met ≡ met_behind faulty Stopped
  pub rang : Rose rings later

-- another round may follow, or the last steps
abbrev pub GoesOn : Option Met → Type 0
GoesOn None = Unit {0}
GoesOn (Some met) = AreLeft met

-- the phase of a run after it
abbrev pub phase_met : Met → Phase
phase_met Done = Finished
phase_met Stopped = Reading
phase_met NoMemory = Leaving
phase_met DiskFault = Leaving
phase_met FolderFault = Leaving
phase_met (Unreachable worker) = Leaving
phase_met (Epochs slot) = OutOfEpochs slot
phase_met (NoNative slot) = Leaving

abbrev pub phase_of : Option Met → Phase
phase_of None = Reading
phase_of (Some met) = phase_met met

-- the phase of a run that reads, by whether some file hit a fault
abbrev pub phase_reading : Bool → Phase
phase_reading false = Reading
phase_reading true = Leaving

-- and after a round of it
abbrev pub phase_after : Bool → Option Met → Phase
phase_after false met = phase_of met
phase_after true met = Leaving

-- the phase of a run that follows its files, after a round: no file's fault ends it
abbrev pub phase_following : Option Met → Phase
phase_following None = Following
phase_following (Some Done) = Following
phase_following (Some Stopped) = Following
phase_following (Some NoMemory) = Leaving
phase_following (Some DiskFault) = Leaving
phase_following (Some FolderFault) = Following
phase_following (Some (Unreachable worker)) = Leaving
phase_following (Some (Epochs slot)) = OutOfEpochs slot
phase_following (Some (NoNative slot)) = Leaving
