-- The steps of a run that store (this project's profile): they hand on and store what was noted and settled. None reads a file or sends,
-- and what is noted and stored goes on. A run makes them once its files have begun, and as its last steps.
use Rattle.std.specs.Prelude.{◌≡◌, ◌⊎◌, ◌≤◌, All, ℕ, List, Option, Some, IfNone, IfSome}
use Rattle.keeper.specs.Collecting.{Collects}
use Rattle.outside.specs.Folders.{FolderHistory}
use Rattle.rounds.specs.Crewed.{lanings}
use Rattle.rounds.specs.Crewing.{Crewing, crew_of}
use Rattle.rounds.specs.KeeperTurns.{SameObjects, StillTell}
use Rattle.rounds.specs.Settled.{AreSettledIn}
use Rattle.rounds.specs.Settling.{ArePostsCounted}
use Rattle.rounds.specs.Staying.{AreAsMany, begins_of}
use Rattle.rounds.specs.Words.{Words}
use Rattle.run_steps.specs.Areas.{IsAtRest}
use Rattle.run_steps.specs.CarriersFail.{FailOn, LinksStay, sending}
use Rattle.run_steps.specs.Ends.{IsAllSettled}
use Rattle.run_steps.specs.Looking.{HoldNothing}
use Rattle.run_steps.specs.Met.{AreLeft}
use Rattle.run_steps.specs.MetBy.{GoesOn, HasFaults, SomeHarvester}
use Rattle.run_steps.specs.MetIn.{NoneFailed}
use Rattle.run_steps.specs.Onward.{Onward, rules_of}
use Rattle.run_steps.specs.Releasing.{HasNoHarvesters}
use Rattle.run_steps.specs.RunState.{Phase, RunState, within}
use Rattle.run_steps.specs.Settling.{IsMetByStoring, Written}
use Rattle.run_steps.specs.Readiness.{IsAbleIn, IsReadyIn}
use Rattle.run_steps.specs.declared.context.Context.{Context}
use Rattle.run_steps.specs.declared.met.Met.{Met}

abbrev pub state_in : {T W L D : Type 0} → Option FolderHistory → Option (List ℕ) → Phase → Crewing T W L D → RunState T W L D
state_in shown moments phase now = within shown moments (crew_of now) now.storing phase

abbrev pub RestsIn : {T W L D : Type 0} → Words T W L D → Crewing T W L D → Type 0
RestsIn words now = IsAtRest words.disks now.storing.keeper.now now.storing.a.now now.storing.b.now

-- the areas before and after
abbrev pub written_by : {T W L D : Type 0} → Crewing T W L D → Crewing T W L D → Written D
written_by before after = record { a = before.storing.a.now; b = before.storing.b.now; new_a = after.storing.a.now; new_b = after.storing.b.now }

module _ {T W L D : Type 0} (words : Words T W L D) (context : Context) where
  -- some of them in a row, which met this if it ended them
  pub record HandsOn (met : Option Met) (before after : Crewing T W L D) : Type 0 where
    pub onward : (shown : Option FolderHistory) (moments : Option (List ℕ)) (phase : Phase) →
        Onward words (rules_of context) (state_in shown moments phase before) (state_in shown moments phase after)
    pub at_rest : GoesOn met → RestsIn words before → RestsIn words after
    pub ready : GoesOn met → IsReadyIn words.tails context after
    pub able : IsAbleIn words.tails context after
    pub no_harvesters : All HasNoHarvesters (lanings before.lanes.items) → All HasNoHarvesters (lanings after.lanes.items)
    pub all_settled : IsAllSettled (lanings before.lanes.items) before.storing.keeper.now → IsAllSettled (lanings after.lanes.items) after.storing.keeper.now
    pub slots : begins_of (lanings after.lanes.items) ≡ begins_of (lanings before.lanes.items)
    pub faults_stay : SomeHarvester (HasFaults words.tails) (lanings before.lanes.items) → SomeHarvester (HasFaults words.tails) (lanings after.lanes.items)
    pub hold_nothing : HoldNothing (lanings before.lanes.items) → HoldNothing (lanings after.lanes.items)
    pub links_stay : LinksStay before.carriers.items after.carriers.items
    -- each worker's failures in a row are those of its wire, if they were before it
    pub failing : (moments : Option (List ℕ)) → FailOn words.links words.wires context.settings.now.output.attempts
        (sending moments before.carriers.items) (sending moments after.carriers.items)
    pub none_failed : NoneFailed context.settings.now.output.attempts before.carriers.items → NoneFailed context.settings.now.output.attempts after.carriers.items
    pub as_many : AreAsMany before after
    pub a_faults_never_fall : words.disks.faults before.storing.a.now ≤ words.disks.faults after.storing.a.now
    pub b_faults_never_fall : words.disks.faults before.storing.b.now ≤ words.disks.faults after.storing.b.now
    pub collects : Collects before.storing.keeper.now after.storing.keeper.now
    pub same_objects : SameObjects before.storing after.storing
    pub still_tell : StillTell words.disks.contents before.storing after.storing

  -- all of them: nothing is left to store, or what they met ended them
  pub record StoresAll (met : Option Met) (before after : Crewing T W L D) : Type 0 where
    pub hands_on : HandsOn met before after
    pub by : IfSome met (IsMetByStoring words.disks (written_by before after))
    pub settled : IfNone met (AreSettledIn (crew_of after) after.storing.keeper.now)
    pub counted : IfNone met (ArePostsCounted (crew_of after))

  -- the last of a run, which met the first; in the end it has met the second
  pub record LastSteps (met now : Met) (before after : Crewing T W L D) : Type 0 where
    pub hands_on : HandsOn (Some now) before after
    pub by : (now ≡ met) ⊎ IsMetByStoring words.disks (written_by before after) now
    pub settled : AreLeft now → AreSettledIn (crew_of after) after.storing.keeper.now
    pub counted : AreLeft now → ArePostsCounted (crew_of after)
