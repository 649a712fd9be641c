-- What the workers of a run took, and what the talks of its wires acknowledge: wire by wire, also of those that no worker had.
use Rattle.std.proofs.Common.{◌≡◌, ℕ, List, [], ◌∷◌, ◌++◌, drop, map, Option, Some, None, IsSome, IfSome, refl, sym, ap, subst}
use Rattle.std.proofs.Math.Seq.{drop-length}
use Rattle.std.specs.List.{AllByRecursion}
use Rattle.accounts.specs.Places.{AreOfWorkers, IsOfWorker}
use Rattle.accounts.specs.Taken.{Taken, acknowledged_in, carried_in, taken_by}
use Rattle.batch_worker.specs.Ending.{HasTalks}
use Rattle.batch_worker.specs.Held.{carried_in as carried_by_window}
use Rattle.batch_worker.specs.Standing.{length_of}
use Rattle.outside.specs.Wires.{Outcome}
use Rattle.rounds.specs.Books.{Acknowledges, Heard, carried_by, flat}
use Rattle.rounds.specs.Pairs.{Pairs as RoundPairs}
use Rattle.rounds.specs.Words.{LinkWords, WireWords}
use Rattle.rounds.specs.declared.carrier.Carrier.{Carrier}
use Rattle.wire_base.specs.declared.parcel.Parcel.{Parcel}
use Rattle.run_steps.specs.CarriersEnd.{EndsCarrier}
use Rattle.run_steps.specs.RunOf.{wire_behind, wires_behind}

-- ---- what they took

abbrev pub took : {W L : Type 0} → Heard → Carrier W L → Taken
took heard carrier = record { acknowledged = heard.parcels; carried = carried_by_window carrier.worker.window }

abbrev pub took_each : {W L : Type 0} → List Heard → List (Carrier W L) → List Taken
took_each [] carriers = []
took_each (heard ∷ others) [] = []
took_each (heard ∷ others) (carrier ∷ carriers) = took heard carrier ∷ took_each others carriers

abbrev pub nothing_taken : Taken
nothing_taken = record { acknowledged = []; carried = [] }

-- no worker had these wires
abbrev pub took_none : {W : Type 0} → List W → List Taken
took_none wires = map (λ _. nothing_taken) wires

-- a wire that no worker had made no connection
pub of_no_worker : (o : Option (List Outcome)) → IsOfWorker nothing_taken (wire_behind (length_of o) o)
of_no_worker None = record { most = 0; talks = record { acknowledges = refl; sent = tt }; none_open = refl }
of_no_worker (Some outcomes) = record {
  most = 0;
  talks = subst (HasTalks 0 [] []) (sym (drop-length outcomes)) (record { acknowledges = refl; sent = tt });
  none_open = refl;
}

pub acknowledged_none : {W : Type 0} (unused : List W) → acknowledged_in (took_none unused) ≡ []
acknowledged_none [] = refl
acknowledged_none (wire ∷ unused) = acknowledged_none unused

pub carried_none : {W : Type 0} (unused : List W) → carried_in (took_none unused) ≡ []
carried_none [] = refl
carried_none (wire ∷ unused) = carried_none unused

module _ {W L : Type 0} (links : LinkWords L) (wires : WireWords W) (unused : List W) where
  pub acknowledged_are : (heard : List Heard) (carriers : List (Carrier W L)) → RoundPairs (Acknowledges links wires) heard carriers →
      acknowledged_in (took_each heard carriers ++ took_none unused) ≡ flat heard
  acknowledged_are [] [] pairs = acknowledged_none unused
  acknowledged_are [] (carrier ∷ carriers) pairs = absurd pairs
  acknowledged_are (one ∷ heard) [] pairs = absurd pairs
  acknowledged_are (one ∷ heard) (carrier ∷ carriers) pairs = ap (λ (l : List Parcel). one.parcels ++ l) (acknowledged_are heard carriers pairs.1)

  pub carried_are : (heard : List Heard) (carriers : List (Carrier W L)) → RoundPairs (Acknowledges links wires) heard carriers →
      carried_in (took_each heard carriers ++ took_none unused) ≡ carried_by carriers
  carried_are [] [] pairs = carried_none unused
  carried_are [] (carrier ∷ carriers) pairs = absurd pairs
  carried_are (one ∷ heard) [] pairs = absurd pairs
  carried_are (one ∷ heard) (carrier ∷ carriers) pairs = ap (λ (l : List Parcel). carried_by_window carrier.worker.window ++ l) (carried_are heard carriers pairs.1)

  -- ---- their wires

  of_none : (wire : W) → IsOfWorker nothing_taken (wire_behind (length_of (wires.outcomes wire)) (wires.outcomes wire))
  of_none wire = of_no_worker (wires.outcomes wire)

  of_others : (some : List W) → AreOfWorkers (took_none some) (wires_behind (map (λ wire. length_of (wires.outcomes wire)) some) (map wires.outcomes some))
  of_others [] = tt
  of_others (wire ∷ some) = (of_none wire, of_others some)

  of_worker : (most start : ℕ) (taken : Taken) (o : Option (List Outcome)) → IsSome o → IfSome o (λ list. HasTalks most taken.acknowledged (taken_by taken) (drop start list)) →
      IsOfWorker taken (wire_behind start o)
  of_worker most start taken None tells talks = absurd cc
  of_worker most start taken (Some list) tells talks = record { most = most; talks = talks; none_open = refl }

  pub of_workers : (heard : List Heard) (carriers : List (Carrier W L)) (ended : List W) → RoundPairs (Acknowledges links wires) heard carriers →
      RoundPairs (EndsCarrier links wires) carriers ended → AllByRecursion (λ wire. IsSome (wires.outcomes wire)) (ended ++ unused) →
      AreOfWorkers (took_each heard carriers ++ took_none unused)
      (wires_behind (map (λ (one : Heard). one.start) heard ++ map (λ wire. length_of (wires.outcomes wire)) unused) (map wires.outcomes (ended ++ unused)))
  of_workers [] [] [] stand ends tell = of_others unused
  of_workers [] [] (wire ∷ ended) stand ends tell = absurd ends
  of_workers [] (carrier ∷ carriers) ended stand ends tell = absurd stand
  of_workers (one ∷ heard) [] ended stand ends tell = absurd stand
  of_workers (one ∷ heard) (carrier ∷ carriers) [] stand ends tell = absurd ends
  of_workers (one ∷ heard) (carrier ∷ carriers) (wire ∷ ended) stand ends tell = (
    of_worker carrier.worker.window.most one.start (took one carrier) (wires.outcomes wire) tell.0 (ends.0.talks one.start one.parcels stand.0),
    of_workers heard carriers ended stand.1 ends.1 tell.1,
  )
