-- What each step of a run keeps from its beginning to its end (this project's profile), whatever else it does: what is reported and stored
-- goes on, no count falls, lanes and workers are as many, no file comes, and each object is the same one. The keeper collects, unless the step tells
-- it notes. Two steps in a row are one.
use Rattle.std.specs.Prelude.{◌≡◌, ◌≤◌, ℕ, List, Option, IfNone}
use Rattle.keeper.specs.Collecting.{Collects}
use Rattle.keeper.specs.Keeping.{Keeping}
use Rattle.outside.specs.declared.bell.Bell.{Ghosts as BellGhosts}
use Rattle.outside.specs.declared.clock.Clock.{Ghosts as ClockGhosts}
use Rattle.outside.specs.declared.disk.Disk.{Ghosts as DiskGhosts}
use Rattle.outside.specs.declared.folder.Folder.{Ghosts as FolderGhosts}
use Rattle.outside.specs.declared.link.Link.{Ghosts as LinkGhosts}
use Rattle.outside.specs.declared.tail.Tail.{Ghosts as TailGhosts}
use Rattle.outside.specs.declared.wire.Wire.{Ghosts as WireGhosts}
use Rattle.rounds.specs.Crewed.{lanings}
use Rattle.rounds.specs.Crewing.{crewing}
use Rattle.rounds.specs.KeeperTurns.{SameObjects, StillTell}
use Rattle.rounds.specs.Staying.{AreAsMany}
use Rattle.rounds.specs.Words.{Words}
use Rattle.rounds.specs.WordsOf.{words_of}
use Rattle.rounds.specs.declared.crew.Crew.{Crew}
use Rattle.rounds.specs.declared.storing.Storing.{Storing}
use Rattle.run_steps.specs.Areas.{IsAtRest}
use Rattle.run_steps.specs.CarriersFail.{FailOn, sending}
use Rattle.run_steps.specs.CarriersGoOn.{CarriersGoOn}
use Rattle.run_steps.specs.ClockOn.{MomentsGoOn}
use Rattle.run_steps.specs.ClosesTail.{Readers, ReadersGo}
use Rattle.run_steps.specs.FolderSeen.{FolderSeen, seen_in}
use Rattle.run_steps.specs.MetBy.{GoesOn}
use Rattle.run_steps.specs.MetIn.{NoneFailed}
use Rattle.run_steps.specs.Onward.{Onward, rules_of}
use Rattle.run_steps.specs.Readiness.{IsAbleIn, IsReadyIn}
use Rattle.run_steps.specs.RunState.{Phase, RunState, within}
use Rattle.run_steps.specs.declared.context.Context.{Context}
use Rattle.run_steps.specs.declared.context.System.{System}
use Rattle.run_steps.specs.declared.met.Met.{Met}

-- ---- the words of all objects that a step is lent

pub record StepWords (T W L D F K B : Type 0) : Type 1 where
  pub all : Words T W L D
  pub seen : F → FolderSeen
  pub moments : K → Option (List ℕ)
  pub rings : B → ℕ

abbrev pub step_words : {F T W L D K B : Type 0} → FolderGhosts F T → TailGhosts T → LinkGhosts L → WireGhosts W L → DiskGhosts D → ClockGhosts K →
    BellGhosts B → StepWords T W L D F K B
step_words folder tail link wire disk clock bell = record {
  all = words_of tail link wire disk;
  seen = seen_in folder;
  moments = clock.moments;
  rings = bell.rings;
}

-- ---- where a run stops between two steps

pub record Stop (T W L D F K B : Type 0) : Type 0 where
  pub phase : Phase
  pub crew : Crew T W L
  pub storing : Storing D
  pub system : System F K B

abbrev pub stop_at : {T W L D F K B : Type 0} → Phase → Crew T W L → Storing D → System F K B → Stop T W L D F K B
stop_at phase crew storing system = record { phase = phase; crew = crew; storing = storing; system = system }

module _ {T W L D F K B : Type 0} (words : StepWords T W L D F K B) where
  abbrev pub moments_at : Stop T W L D F K B → Option (List ℕ)
  moments_at stop = words.moments stop.system.clock.now

  abbrev pub readers_at : Stop T W L D F K B → Readers T
  readers_at stop = record { folder = words.seen stop.system.folder.now; lanes = lanings stop.crew.lanes.items }

  abbrev pub state_at : Stop T W L D F K B → RunState T W L D
  state_at stop = within (words.seen stop.system.folder.now).told (moments_at stop) stop.crew stop.storing stop.phase

  -- the keeper's areas are at rest
  abbrev pub RestsAt : Stop T W L D F K B → Type 0
  RestsAt stop = IsAtRest words.all.disks stop.storing.keeper.now stop.storing.a.now stop.storing.b.now

-- ---- a step, which met this if it ended the run

module _ {T W L D F K B : Type 0} (words : StepWords T W L D F K B) (context : Context) where
  -- of whose keeper this is so
  pub record Keeps (Keepers : Keeping → Keeping → Type 0) (met : Option Met) (before after : Stop T W L D F K B) : Type 0 where
    pub at_rest : GoesOn met → RestsAt words before → RestsAt words after
    pub ready : GoesOn met → IsReadyIn words.all.tails context (crewing after.crew after.storing)
    pub able : IsAbleIn words.all.tails context (crewing after.crew after.storing)
    -- each worker's failures in a row are those of its wire, if they were before it
    pub failing : FailOn words.all.links words.all.wires context.settings.now.output.attempts
        (sending (moments_at words before) before.crew.carriers.items) (sending (moments_at words after) after.crew.carriers.items)
    -- and each has tries left, if the run goes on
    pub none_failed : IfNone met (NoneFailed context.settings.now.output.attempts before.crew.carriers.items →
        NoneFailed context.settings.now.output.attempts after.crew.carriers.items)
    -- the workers' wires go on, and so do the counts of their links
    pub carriers_go_on : CarriersGoOn words.all.wires before.crew.carriers.items after.crew.carriers.items
    pub as_many : AreAsMany (crewing before.crew before.storing) (crewing after.crew after.storing)
    pub a_faults_never_fall : words.all.disks.faults before.storing.a.now ≤ words.all.disks.faults after.storing.a.now
    pub b_faults_never_fall : words.all.disks.faults before.storing.b.now ≤ words.all.disks.faults after.storing.b.now
    pub rings_never_fall : words.rings before.system.bell.now ≤ words.rings after.system.bell.now
    pub clock_goes_on : MomentsGoOn (moments_at words before) (moments_at words after)
    pub keeper : Keepers before.storing.keeper.now after.storing.keeper.now
    pub same_objects : SameObjects before.storing after.storing
    pub still_tell : StillTell words.all.disks.contents before.storing after.storing
    -- lanes, and the folder of their tails
    pub readers : ReadersGo words.all.tails (readers_at words before) (readers_at words after)
    pub same_folder : after.system.folder.ghost_name ≡ before.system.folder.ghost_name
    pub same_clock : after.system.clock.ghost_name ≡ before.system.clock.ghost_name
    pub same_bell : after.system.bell.ghost_name ≡ before.system.bell.ghost_name

  pub record Goes (met : Option Met) (before after : Stop T W L D F K B) : Type 0 where
    pub keeps : Keeps Collects met before after
    -- what was known of the reported events, that notes are backed, and of what the areas may hold, is known of them afterwards
    pub onward : Onward words.all (rules_of context) (state_at words before) (state_at words after)
