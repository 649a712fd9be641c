-- Where the parcels are that the talks of a run's wires acknowledged (this project's profile): wire by wire, connection by
-- connection, and by their numbers in what that connection's talk acknowledges.
use Rattle.std.specs.Prelude.{◌≡◌, ℕ, ◌+◌, List, [], ◌∷◌, ◌++◌, Contains, Option, None, Some, if◌then◌else◌}
use Rattle.batch_worker.specs.Ending.{HasTalks}
use Rattle.kept_rows.specs.Account.{Place}
use Rattle.kept_rows.specs.Acknowledged.{IsAcknowledgedAt}
use Rattle.kept_rows.specs.Trace.{WireTold}
use Rattle.wire_base.specs.declared.parcel.Parcel.{Parcel}
use Rattle.accounts.specs.Same.{same_parcel}
use Rattle.accounts.specs.Taken.{Taken, acknowledged_in, taken_by}
use Rattle.accounts.specs.Turning.{Pairs}

-- ---- a place for each

pub record Placement : Type 0 where
  pub parcel : Parcel
  pub place : Place

-- what one connection's talk acknowledged, from this number on
abbrev pub placements_at : ℕ → ℕ → ℕ → List Parcel → List Placement
placements_at wire connection number [] = []
placements_at wire connection number (parcel ∷ parcels) =
    record { parcel = parcel; place = record { wire = wire; connection = connection; number = number } } ∷ placements_at wire connection (number + 1) parcels

-- connection by connection, from this one on
abbrev pub placements_of : ℕ → ℕ → List (List Parcel) → List Placement
placements_of wire connection [] = []
placements_of wire connection (parcels ∷ others) = placements_at wire connection 0 parcels ++ placements_of wire (connection + 1) others

-- wire by wire, from this one on
abbrev pub placements_in : ℕ → List (List (List Parcel)) → List Placement
placements_in wire [] = []
placements_in wire (parts ∷ others) = placements_of wire 0 parts ++ placements_in (wire + 1) others

-- the first place of the parcel
abbrev pub place_among : List Placement → Parcel → Option Place
place_among [] parcel = None
place_among (one ∷ others) parcel = if same_parcel one.parcel parcel then Some one.place else place_among others parcel

-- ---- what they are

-- the parcel is acknowledged at its place
pub record IsPlacedWell (placed : Parcel → Option Place) (wires : List WireTold) (parcel : Parcel) : Type 0 where
  pub place : Place
  pub is : placed parcel ≡ Some place
  pub stands : IsAcknowledgedAt wires parcel.payload place

-- one place has one parcel; each parcel that a worker's talks acknowledged has a place, and no other has one; wherever a talk
-- acknowledges a payload, a parcel is there
pub record ArePlaces (placed : Parcel → Option Place) (workers : List Taken) (wires : List WireTold) : Type 0 where
  pub one_each : (parcel other : Parcel) (place : Place) → placed parcel ≡ Some place → placed other ≡ Some place → parcel ≡ other
  pub well : (parcel : Parcel) → Contains (acknowledged_in workers) parcel → IsPlacedWell placed wires parcel
  pub no_other : (parcel : Parcel) (place : Place) → placed parcel ≡ Some place → Contains (acknowledged_in workers) parcel
  pub every : (payload : List ℕ) (place : Place) → IsAcknowledgedAt wires payload place → (parcel : Parcel) × (placed parcel ≡ Some place)

-- ---- a worker's wire

-- the talks of the wire in this run acknowledge what its worker knows of, and send nothing but what it took; its links are all
-- finished. This is how a worker ends; of a wire that had none, no connection is known
pub record IsOfWorker (taken : Taken) (wire : WireTold) : Type 0 where
  pub most : ℕ
  pub talks : HasTalks most taken.acknowledged (taken_by taken) wire.outcomes
  pub none_open : wire.open_talk ≡ None

abbrev pub AreOfWorkers : List Taken → List WireTold → Type 0
AreOfWorkers workers wires = Pairs IsOfWorker workers wires
