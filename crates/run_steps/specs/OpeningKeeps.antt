-- What a step of a run keeps in which a file may be opened (this project's profile): all that each step keeps, but that a harvester may come, with one
-- more open tail.
use Rattle.std.specs.Prelude.{◌≡◌, ◌⊎◌, ◌≤◌, ◌<◌, ◌+◌, ◌-◌, ◌^◌, ℕ, [], ◌∷◌, List, length, None, Option, Some, IfNone, Result, Ok, Err}
use Rattle.keeper.specs.Keeping.{Keeping}
use Rattle.outside.specs.Folders.{Event}
use Rattle.rounds.specs.Crewing.{crewing}
use Rattle.rounds.specs.KeeperTurns.{SameObjects, StillTell}
use Rattle.rounds.specs.Staying.{AreAsMany, HaveSlot}
use Rattle.rounds.specs.Words.{TailWords}
use Rattle.rounds.specs.declared.crew.Crew.{Crew}
use Rattle.wire_base.specs.declared.note.Note.TheVariants.{Announce}
use Rattle.wire_base.specs.declared.numbers.Slot.{Slot}
use Rattle.run_steps.specs.BeginErrors.{met_of}
use Rattle.run_steps.specs.CarriersFail.{FailOn, sending}
use Rattle.run_steps.specs.CarriersGoOn.{CarriersGoOn}
use Rattle.run_steps.specs.ClockOn.{MomentsGoOn}
use Rattle.run_steps.specs.ClosesTail.{Readers}
use Rattle.run_steps.specs.Goes.{RestsAt, StepWords, Stop, moments_at, readers_at}
use Rattle.run_steps.specs.MetBy.{GoesOn, HasMetFault}
use Rattle.run_steps.specs.MetIn.{NoneFailed}
use Rattle.run_steps.specs.Readiness.{IsAbleIn, IsReadyIn}
use Rattle.run_steps.specs.Releasing.{harvesters_of, with_events}
use Rattle.run_steps.specs.Reopening.{KnownFile}
use Rattle.run_steps.specs.ReopeningSteps.{MayOpenAgain, leaving, with_opened}
use Rattle.run_steps.specs.Telling.{TellsNotes}
use Rattle.run_steps.specs.declared.begin_error.BeginError.{BeginError}
use Rattle.run_steps.specs.declared.begin.Admission.{Admission}
use Rattle.run_steps.specs.declared.begin.Admission.TheVariants.{Failed, Followed, Skipped}
use Rattle.run_steps.specs.declared.context.Context.{Context}
use Rattle.run_steps.specs.declared.met.Met.{Met}

-- ---- lanes, and the folder of their tails

-- whether harvesters come or go
pub record ReadersGoOn {T : Type 0} (tails : TailWords T) (old new : Readers T) : Type 0 where
  -- the folder's list grows
  pub more : List Event
  pub told : new.folder.told ≡ with_events more old.folder.told
  pub faults_never_fall : old.folder.faults ≤ new.folder.faults
  -- a fault that was hit is counted still
  pub fault_stays : (since : ℕ) → since ≤ old.folder.faults → HasMetFault tails since old.folder.faults old.lanes →
      HasMetFault tails since new.folder.faults new.lanes

-- how many harvesters come if opening a file came to this
abbrev pub followed_by : Result Admission BeginError → ℕ
followed_by (Ok Followed) = 1
followed_by (Ok (Skipped why)) = 0
followed_by (Ok Failed) = 0
followed_by (Err error) = 0

-- one of this slot, if the file is followed, and none goes
pub record HarvesterComes {T : Type 0} (slot : Slot) (result : Result Admission BeginError) (old new : Readers T) : Type 0 where
  pub harvesters : length (harvesters_of new.lanes) ≡ length (harvesters_of old.lanes) + followed_by result
  pub slots : (other : Slot) → HaveSlot other new.lanes → HaveSlot other old.lanes ⊎ (other ≡ slot)
  -- if the count of open tails is not at its end
  pub open_tails : old.folder.open_tails < 2 ^ 64 - 1 → new.folder.open_tails ≡ old.folder.open_tails + followed_by result

-- ---- a step, which met this if it ended the run

module _ {T W L D F K B : Type 0} (words : StepWords T W L D F K B) (context : Context) where
  -- of whose keeper this is so; each is what `Keeps` says, but for the harvesters
  pub record OpeningKeeps (Keepers : Keeping → Keeping → Type 0) (met : Option Met) (before after : Stop T W L D F K B) : Type 0 where
    pub at_rest : GoesOn met → RestsAt words before → RestsAt words after
    pub ready : GoesOn met → IsReadyIn words.all.tails context (crewing after.crew after.storing)
    pub able : IsAbleIn words.all.tails context (crewing after.crew after.storing)
    -- each worker's failures in a row are those of its wire, if they were before it
    pub failing : FailOn words.all.links words.all.wires context.settings.now.output.attempts
        (sending (moments_at words before) before.crew.carriers.items) (sending (moments_at words after) after.crew.carriers.items)
    -- and each has tries left, if the run goes on
    pub none_failed : IfNone met (NoneFailed context.settings.now.output.attempts before.crew.carriers.items →
        NoneFailed context.settings.now.output.attempts after.crew.carriers.items)
    pub carriers_go_on : CarriersGoOn words.all.wires before.crew.carriers.items after.crew.carriers.items
    pub as_many : AreAsMany (crewing before.crew before.storing) (crewing after.crew after.storing)
    pub a_faults_never_fall : words.all.disks.faults before.storing.a.now ≤ words.all.disks.faults after.storing.a.now
    pub b_faults_never_fall : words.all.disks.faults before.storing.b.now ≤ words.all.disks.faults after.storing.b.now
    pub rings_never_fall : words.rings before.system.bell.now ≤ words.rings after.system.bell.now
    pub clock_goes_on : MomentsGoOn (moments_at words before) (moments_at words after)
    pub keeper : Keepers before.storing.keeper.now after.storing.keeper.now
    pub same_objects : SameObjects before.storing after.storing
    pub still_tell : StillTell words.all.disks.contents before.storing after.storing
    pub readers : ReadersGoOn words.all.tails (readers_at words before) (readers_at words after)
    pub same_folder : after.system.folder.ghost_name ≡ before.system.folder.ghost_name
    pub same_clock : after.system.clock.ghost_name ≡ before.system.clock.ghost_name
    pub same_bell : after.system.bell.ghost_name ≡ before.system.bell.ghost_name

-- ---- a file that is opened again

-- the keeper is as it was, or was told the epoch of the file and nothing else
abbrev pub MayAnnounce : KnownFile → Keeping → Keeping → Type 0
MayAnnounce known old new = (new ≡ old) ⊎ TellsNotes (Announce known.file.slot (record { 0 = known.file.start.epoch }) ∷ []) old new

-- what ends the run, if anything does
abbrev pub ended_by : Result Admission BeginError → Option Met
ended_by (Ok admission) = None
ended_by (Err error) = Some (met_of error)

module _ {T W L D F K B : Type 0} (words : StepWords T W L D F K B) (context : Context) where
  pub record ReopeningKeeps (known : KnownFile) (result : Result Admission BeginError) (before after : Stop T W L D F K B) : Type 0 where
    pub keeps : OpeningKeeps words context (MayAnnounce known) (ended_by result) before after
    pub comes : HarvesterComes known.file.slot result (readers_at words before) (readers_at words after)

-- each such step keeps it, in a run in which another round may follow
abbrev pub OpeningsAgainKeep : {T W L D F K B : Type 0} → StepWords T W L D F K B → Type 0
OpeningsAgainKeep {T} {W} {L} {D} {F} {K} {B} words = (context : Context) (known : KnownFile) (result : Result Admission BeginError) (now : Stop T W L D F K B) (folder : F) (crew : Crew T W L) (keeper : Keeping) →
    IsReadyIn words.all.tails context (crewing now.crew now.storing) → MayOpenAgain words context known result (leaving now) (leaving (with_opened now folder crew keeper)) →
    ReopeningKeeps words context known result (leaving now) (leaving (with_opened now folder crew keeper))
