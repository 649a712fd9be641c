-- The state of a registry area by all of its bytes (this project's profile). An area of at most one byte is blank, and one
-- whose first byte is no `{` is closed. Else it is opened if its header is right and records follow up to a gate that
-- is there and is not open; what follows that gate is not looked at. Else it is broken: at the first byte of the
-- header that is absent or wrong, or at the open gate after which no record follows, or at the place where a gate is absent.
use Rattle.std.specs.Prelude.{◌≡◌, ◌≢◌, ◌⊎◌, ℕ, ◌+◌, ◌<◌, List, [], ◌∷◌, ◌++◌, length, drop, slice_get, Some}
use Rattle.std.specs.List.{flat_map}
use Rattle.wire_base.specs.declared.row.Op.{Op}
use Rattle.wire_base.specs.declared.row.Row.{Row}
use Rattle.ship_core.specs.Replay.{replay}
use Rattle.registry_log.specs.Header.{HasHeader, first_wrong}
use Rattle.registry_log.specs.Reading.{AreRecords, BeginsWithRecord}
use Rattle.registry_log.specs.Records.{record_bytes}
use Rattle.registry_log.specs.Starting.{IsBlank, IsClosed}

-- `start` is the place of the first gate, and `end` that of the last one
pub data State : Type 0 where
  Blank : State
  Closed : State
  Opened : (generation : ℕ) (rows : List Row) (start end : ℕ) → State
  Broken : (at : ℕ) → State

-- the operations of records, in their order
abbrev pub operations_of : List (List Op) → List Op
operations_of = flat_map (λ ops. ops)

-- the first byte is an open gate, and more follows
pub record IsUnclosed (area : List ℕ) : Type 0 where
  pub gate : slice_get area 0 ≡ Some 0x7B
  pub more : 1 < length area

-- the header is right, and after it these records follow and then `rest`, which begins at `place`
pub record Reaches (area : List ℕ) (generation : ℕ) (records : List (List Op)) (place : ℕ) (rest : List ℕ) : Type 0 where
  pub unclosed : IsUnclosed area
  pub header : HasHeader area generation
  pub each : AreRecords [] records
  pub bytes : drop 29 area ≡ flat_map record_bytes records ++ rest
  pub begins : 29 + length (flat_map record_bytes records) ≡ place

pub record IsOpened (area : List ℕ) (generation : ℕ) (rows : List Row) (end : ℕ) : Type 0 where
  pub records : List (List Op)
  pub gate : ℕ
  pub rest : List ℕ
  pub reaches : Reaches area generation records end (gate ∷ rest)
  pub closed : gate ≢ 0x7B
  pub replayed : replay (operations_of records) ≡ rows

-- the gate at the place is open, and no record follows
pub record LacksRecord (area : List ℕ) (at : ℕ) : Type 0 where
  pub generation : ℕ
  pub records : List (List Op)
  pub rest : List ℕ
  pub reaches : Reaches area generation records at (0x7B ∷ rest)
  pub no_record : ¬ BeginsWithRecord (operations_of records) (0x7B ∷ rest)

-- the area ends where a gate is to be
pub record LacksGate (area : List ℕ) (at : ℕ) : Type 0 where
  pub generation : ℕ
  pub records : List (List Op)
  pub reaches : Reaches area generation records at []

abbrev pub IsBroken : List ℕ → ℕ → Type 0
IsBroken area at = (IsUnclosed area × (first_wrong area ≡ Some at)) ⊎ (LacksRecord area at ⊎ LacksGate area at)

abbrev pub IsState : List ℕ → State → Type 0
IsState area Blank = IsBlank area
IsState area Closed = (1 < length area) × IsClosed area
IsState area (Opened generation rows start end) = (start ≡ 29) × IsOpened area generation rows end
IsState area (Broken at) = IsBroken area at
