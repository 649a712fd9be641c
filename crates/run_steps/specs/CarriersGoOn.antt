-- How the wires of a run's workers go on (this project's profile): what a wire reported stays the front of it, and it has as many links
-- of others as before, besides its worker's own if the worker has one. As the run ends no worker has a link any more. If the links of
-- others are at the end of their count, one more is not counted.
use Rattle.std.specs.Prelude.{◌≡◌, ℕ, List, ◌++◌, Option, None}
use Rattle.batch_worker.specs.Seen.{Seen, with_link}
use Rattle.outside.specs.Counts.{IsAtEnd}
use Rattle.rounds.specs.CarrierTurns.{seen_of}
use Rattle.rounds.specs.Pairs.{Pairs}
use Rattle.rounds.specs.Words.{WireWords}
use Rattle.rounds.specs.declared.carrier.Carrier.{Carrier}
use Rattle.run_steps.specs.WireOn.{OutcomesGoOn}

-- a wire between two moments, at which its worker had these links
pub record WireGoesOn {L : Type 0} (before after : Seen) (old new : Option L) : Type 0 where
  pub told : OutcomesGoOn before.outcomes after.outcomes
  pub open_links : (others : ℕ) → ¬ (IsAtEnd others) → before.open_links ≡ with_link others old → after.open_links ≡ with_link others new

module _ {W L : Type 0} (wires : WireWords W) where
  abbrev pub CarrierGoesOn : Carrier W L → Carrier W L → Type 0
  CarrierGoesOn old new = WireGoesOn (seen_of wires old.wire) (seen_of wires new.wire) old.worker.link new.worker.link

  -- its wire as the run ends
  abbrev pub WireReturns : Carrier W L → W → Type 0
  WireReturns carrier wire = WireGoesOn (seen_of wires carrier.wire) (seen_of wires wire) carrier.worker.link None

-- each of them; a word, so that no search takes it apart
unfoldable pub CarriersGoOn : {W L : Type 0} → WireWords W → List (Carrier W L) → List (Carrier W L) → Type 0
CarriersGoOn wires old new = Pairs (CarrierGoesOn wires) old new

-- the wires of all of them come before those that no worker had
pub record WiresReturn {W L : Type 0} (wires : WireWords W) (carriers : List (Carrier W L)) (unused all : List W) : Type 0 where
  pub ended : List W
  pub is : all ≡ ended ++ unused
  pub each : Pairs (WireReturns wires) carriers ended
