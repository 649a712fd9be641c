-- The turns of a worker in one round (this project's profile): as long as each works, and at most 256.
use Rattle.std.specs.Prelude.{◌≡◌, ◌⊎◌, ℕ, ◌<◌, ◌≤◌, Bool, true, false, List, [], ◌∷◌, length}
use Rattle.batch_worker.specs.Answers.{IsRest, IsTurn}
use Rattle.batch_worker.specs.Rests.{IsResting}
use Rattle.batch_worker.specs.Seen.{Seen, seen}
use Rattle.batch_worker.specs.declared.answer.WorkerTurn.{WorkerTurn}
use Rattle.batch_worker.specs.declared.answer.WorkerTurn.TheVariants.{Worked, Idle, Held, NotYet, Resting, Failed}
use Rattle.batch_worker.specs.Working.{Working}
use Rattle.wire_base.specs.declared.numbers.Moment.{Moment}
use Rattle.rounds.specs.Words.{LinkWords, WireWords}
use Rattle.rounds.specs.declared.carrier.Carried.{Carried}
use Rattle.rounds.specs.declared.carrier.Carrier.{Carrier}

abbrev pub begun_carried : Carried
begun_carried = record { moved = false; failed = false }

-- with one turn more
abbrev pub carried_with : WorkerTurn → Carried → Carried
carried_with Worked carried = record carried { moved = true }
carried_with Idle carried = carried
carried_with Held carried = carried
carried_with NotYet carried = carried
carried_with (Resting until) carried = carried
carried_with (Failed failure) carried = record carried { failed = true }

abbrev pub carried_of : Carried → List WorkerTurn → Carried
carried_of carried [] = carried
carried_of carried (turn ∷ turns) = carried_of (carried_with turn carried) turns

abbrev pub IsWork : WorkerTurn → Type 0
IsWork Worked = Unit {0}
IsWork Idle = ⊥
IsWork Held = ⊥
IsWork NotYet = ⊥
IsWork (Resting until) = ⊥
IsWork (Failed failure) = ⊥

-- all of them but the last worked
abbrev pub AllButLastWorked : List WorkerTurn → Type 0
AllButLastWorked [] = Unit {0}
AllButLastWorked (turn ∷ []) = Unit {0}
AllButLastWorked (turn ∷ next ∷ turns) = IsWork turn × AllButLastWorked (next ∷ turns)

-- the last of them did not work
abbrev pub EndStill : List WorkerTurn → Type 0
EndStill [] = ⊥
EndStill (turn ∷ []) = ¬ (IsWork turn)
EndStill (turn ∷ next ∷ turns) = EndStill (next ∷ turns)

abbrev pub AllWorked : List WorkerTurn → Type 0
AllWorked [] = Unit {0}
AllWorked (turn ∷ turns) = IsWork turn × AllWorked turns

abbrev pub HasWorked : Bool → WorkerTurn → Type 0
HasWorked true turn = IsWork turn
HasWorked false turn = ¬ (IsWork turn)

-- the turn was counted; whether it worked
pub record Counts {W L : Type 0} (turn : WorkerTurn) (worked : Bool) (old new : Carrier W L) : Type 0 where
  pub is : new ≡ record old { carried = carried_with turn old.carried }
  pub worked_is : HasWorked worked turn

-- a worker and its wire, whatever was counted
pub record CarrierState (W L : Type 0) : Type 0 where
  pub worker : Working L
  pub wire : W

abbrev pub carrier_state : {W L : Type 0} → Carrier W L → CarrierState W L
carrier_state carrier = record { worker = carrier.worker; wire = carrier.wire }

-- what a wire shows
abbrev pub seen_of : {W : Type 0} → WireWords W → W → Seen
seen_of wires wire = seen (wires.outcomes wire) (wires.open_links wire) (wires.faults wire) (wires.idles wire)

module _ {W L : Type 0} (links : LinkWords L) (wires : WireWords W) (box : ℕ) (now : Moment) where
  -- one turn, as the worker's contract says
  pub record CarrierTurned (turn : WorkerTurn) (old new : CarrierState W L) : Type 0 where
    pub answers : IsTurn links.told links.faults links.idles box (seen_of wires old.wire) (seen_of wires new.wire) now old.worker new.worker turn
    pub rests : IsResting old.worker now.0 → IsRest turn

  -- these turns were made, the first one first
  abbrev pub CarrierRun : List WorkerTurn → CarrierState W L → CarrierState W L → Type 0
  CarrierRun [] old new = new ≡ old
  CarrierRun (turn ∷ turns) old new = (mid : CarrierState W L) × CarrierTurned turn old mid × CarrierRun turns mid new

  pub record Carries (old new : Carrier W L) : Type 0 where
    pub turns : List WorkerTurn
    pub some : 0 < length turns
    pub few : length turns ≤ 256
    pub work : AllButLastWorked turns
    pub over : (length turns ≡ 256) ⊎ EndStill turns
    pub ran : CarrierRun turns (carrier_state old) (carrier_state new)
    pub carried : new.carried ≡ carried_of begun_carried turns

  -- ---- for private clauses

  -- one turn was made and counted; whether it worked
  pub record MakesOne (worked : Bool) (old new : Carrier W L) : Type 0 where
    pub turn : WorkerTurn
    pub turned : CarrierTurned turn (carrier_state old) (carrier_state new)
    pub carried : new.carried ≡ carried_with turn old.carried
    pub worked_is : HasWorked worked turn

  -- this many turns were made so far, each of which worked
  pub record CarriesSoFar (count : ℕ) (old new : Carrier W L) : Type 0 where
    pub turns : List WorkerTurn
    pub many : length turns ≡ count
    pub work : AllWorked turns
    pub ran : CarrierRun turns (carrier_state old) (carrier_state new)
    pub carried : new.carried ≡ carried_of begun_carried turns
