-- How workers end (this project's profile): each finishes its link, and its wire is put before the others again.
use Rattle.std.specs.Prelude.{◌≡◌, ℕ, List, ◌∷◌, ◌++◌, drop, IfSome, IsSome}
use Rattle.batch_worker.specs.Ending.{EndsLink, HasTalks}
use Rattle.batch_worker.specs.Held.{carried_in}
use Rattle.batch_worker.specs.Seen.{Seen, seen}
use Rattle.batch_worker.specs.Standing.{StandsFor}
use Rattle.lanes.specs.Laning.{Laning}
use Rattle.rounds.specs.Pairs.{Pairs}
use Rattle.rounds.specs.Words.{LinkWords, WireWords}
use Rattle.rounds.specs.declared.carrier.Carrier.{Carrier}
use Rattle.wire_base.specs.declared.parcel.Parcel.{Parcel}

-- what a wire shows
abbrev pub seen_of : {W : Type 0} → WireWords W → W → Seen
seen_of words wire = seen (words.outcomes wire) (words.open_links wire) (words.faults wire) (words.idles wire)

-- the passes are there, so it may end
pub record HasLanePasses {T : Type 0} (lane : Laning T) : Type 0 where
  pub put : IsSome lane.put
  pub post : IsSome lane.post

pub record HasCarrierPasses {W L : Type 0} (carrier : Carrier W L) : Type 0 where
  pub take : IsSome carrier.worker.take
  pub post : IsSome carrier.worker.post

-- this worker's wire once its link is finished: with it the talks are known of all that was acknowledged
pub record EndsCarrier {W L : Type 0} (links : LinkWords L) (wires : WireWords W) (carrier : Carrier W L) (wire : W) : Type 0 where
  pub finished : EndsLink links.told links.faults links.idles carrier.worker.link (seen_of wires carrier.wire) (seen_of wires wire)
  pub talks : (start : ℕ) (acknowledged : List Parcel) → StandsFor links.told start carrier.worker (wires.outcomes carrier.wire) acknowledged →
      IfSome (wires.outcomes wire) (λ list. HasTalks carrier.worker.window.most acknowledged (acknowledged ++ carried_in carrier.worker.window) (drop start list))

-- that wire is put before the others
pub record PutsWire {W L : Type 0} (links : LinkWords L) (wires : WireWords W) (carrier : Carrier W L) (old new : List W) : Type 0 where
  pub wire : W
  pub is : new ≡ wire ∷ old
  pub ends : EndsCarrier links wires carrier wire

-- the wires of all of them, in their order, before those that were there
pub record EndsCarriers {W L : Type 0} (links : LinkWords L) (wires : WireWords W) (carriers : List (Carrier W L)) (old new : List W) : Type 0 where
  pub ended : List W
  pub is : new ≡ ended ++ old
  pub each : Pairs (EndsCarrier links wires) carriers ended
