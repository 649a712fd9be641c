-- Why a round answers this (this project's profile): a disk failed as the faults of an area rose; that files hit read faults, or
-- were out of epochs, is what turns of theirs answered; and no count of faults falls. Memory may be refused at any time.
use Rattle.std.specs.Prelude.{◌≡◌, ◌≢◌, ◌⊎◌, ◌≤◌, true, List, Some}
use Rattle.harvester.specs.declared.turn.Turn.TheVariants.{EpochsOut, ReadFault}
use Rattle.lanes.specs.Laning.{Laning}
use Rattle.lanes.specs.Step.{Step}
use Rattle.lanes.specs.declared.run.When.{When}
use Rattle.mem_queue.specs.BoundedQueue.{BoundedQueue}
use Rattle.outside.specs.Counts.{Rose}
use Rattle.settle_box.specs.BoundedBox.{BoundedBox}
use Rattle.wire_base.specs.declared.numbers.Slot.{Slot}
use Rattle.rounds.specs.Crewed.{bare_lanes, lanings}
use Rattle.rounds.specs.Pairs.{Pairs, SomeOf}
use Rattle.rounds.specs.Placed.{AreStepsOf}
use Rattle.rounds.specs.Staying.{HaveSlot}
use Rattle.rounds.specs.Words.{TailWords, WireWords, Words}
use Rattle.rounds.specs.declared.answer.Round.{Round}
use Rattle.rounds.specs.declared.carrier.Carrier.{Carrier}
use Rattle.rounds.specs.Crewing.{Crewing}

-- turns that lead the lanes, lane by lane, to what they are afterwards but for their passes
pub record LanesHad {T W L D : Type 0} (tails : TailWords T) (queue : BoundedQueue) (desk : BoundedBox) (when : When) (old new : Crewing T W L D) : Type 0 where
  pub steps : List Step
  pub lanes : List (Laning T)
  pub steps_are : AreStepsOf tails queue.capacity desk.capacity when steps (lanings old.lanes.items) lanes
  pub lanes_are : bare_lanes (lanings new.lanes.items) ≡ bare_lanes lanes

-- the turn hit a read fault
abbrev pub MetFault : Step → Type 0
MetFault step = step.turn ≡ ReadFault

-- the turn was of the file of this slot, and its last epoch was over
pub record WasOver (slot : Slot) (step : Step) : Type 0 where
  pub of_slot : step.slot ≡ slot
  pub turn : step.turn ≡ EpochsOut

-- what the answer says of files, some of these turns answered
pub record AnswersSteps (round : Round) (steps : List Step) : Type 0 where
  pub tail_faults : round.tail_faults ≢ 0 → SomeOf MetFault steps
  pub epochs : (slot : Slot) → round.epochs ≡ Some slot → SomeOf (WasOver slot) steps

-- the faults of a worker's wire never fall
abbrev pub WireFaultsStay : {W L : Type 0} → WireWords W → Carrier W L → Carrier W L → Type 0
WireFaultsStay wires old new = wires.faults old.wire ≤ wires.faults new.wire

pub record RoundCauses {T W L D : Type 0} (words : Words T W L D) (queue : BoundedQueue) (desk : BoundedBox) (when : When) (old new : Crewing T W L D) (round : Round) : Type 0 where
  pub disk : round.disk ≡ true → Rose (words.disks.faults old.storing.a.now) (words.disks.faults new.storing.a.now) ⊎ Rose (words.disks.faults old.storing.b.now) (words.disks.faults new.storing.b.now)
  -- the lanes had turns, and whichever lead to what they are, the answer is by these
  pub had : LanesHad words.tails queue desk when old new
  pub files : (had : LanesHad words.tails queue desk when old new) → AnswersSteps round had.steps
  -- a slot whose last epoch was over is that of a harvester
  pub of_crew : (slot : Slot) → round.epochs ≡ Some slot → HaveSlot slot (lanings old.lanes.items)
  -- no count of faults falls
  pub a_faults : words.disks.faults old.storing.a.now ≤ words.disks.faults new.storing.a.now
  pub b_faults : words.disks.faults old.storing.b.now ≤ words.disks.faults new.storing.b.now
  pub wires : Pairs (WireFaultsStay words.wires) old.carriers.items new.carriers.items

-- of the last steps of a run, in which no file has a turn
pub record SettlingCauses {T W L D : Type 0} (words : Words T W L D) (old new : Crewing T W L D) (round : Round) : Type 0 where
  pub disk : round.disk ≡ true → Rose (words.disks.faults old.storing.a.now) (words.disks.faults new.storing.a.now) ⊎ Rose (words.disks.faults old.storing.b.now) (words.disks.faults new.storing.b.now)
  pub a_faults : words.disks.faults old.storing.a.now ≤ words.disks.faults new.storing.a.now
  pub b_faults : words.disks.faults old.storing.b.now ≤ words.disks.faults new.storing.b.now
  pub wires : Pairs (WireFaultsStay words.wires) old.carriers.items new.carriers.items
