-- For private clauses: an area as it is read, record by record.
use Rattle.std.specs.Prelude.{◌≡◌, ◌≢◌, ℕ, ◌<◌, ◌≤◌, List, [], ◌∷◌, ◌++◌, length, take, drop, Some, All, codes}
use Rattle.wire_base.specs.declared.numbers.TheConstants.{MAX_PLACE}
use Rattle.wire_base.specs.declared.row.Op.{Op}
use Rattle.wire_base.specs.declared.row.Row.{Row}
use Rattle.ship_core.specs.Replay.{replay}
use Rattle.registry_frame.specs.Body.{body_bytes}
use Rattle.registry_frame.specs.BodyOf.{IsStoredOp}
use Rattle.registry_log.specs.declared.area_text.TheConstants.{MAX_BODY}
use Rattle.registry_log.specs.declared.front.Front.{Front}
use Rattle.registry_log.specs.declared.front.Front.TheVariants as fronts
use Rattle.registry_log.specs.declared.record.Head.{Head}
use Rattle.registry_log.specs.declared.record.Head.TheVariants as heads
use Rattle.registry_log.specs.declared.records.End.{End}
use Rattle.registry_log.specs.declared.records.End.TheVariants as ends
use Rattle.registry_log.specs.Header.{HasHeader, first_wrong}
use Rattle.registry_log.specs.Records.{padded, record_bytes}
use Rattle.registry_log.specs.Starting.{IsBlank, IsClosed}
use Rattle.registry_log.specs.State.{IsUnclosed, Reaches, State, Opened, Broken, operations_of}

-- the open gate, the length of a body and a space
abbrev pub head_bytes : ℕ → List ℕ
head_bytes size = codes "{" ++ padded 7 size ++ codes " "

-- the bytes begin with the record of these operations, and `rest` follows it
pub record IsRecord (ops : List Op) (whole rest : List ℕ) : Type 0 where
  pub bytes : whole ≡ record_bytes ops ++ rest
  pub some : ops ≢ []
  pub each : All IsStoredOp ops
  pub body : length (body_bytes ops) ≤ MAX_BODY

-- what is at a gate, by the bytes from the gate on
abbrev pub IsHeadOf : Head → List ℕ → Type 0
IsHeadOf heads.Absent bytes = bytes ≡ []
IsHeadOf heads.Closed bytes = (gate : ℕ) × (rest : List ℕ) × (bytes ≡ gate ∷ rest) × (gate ≢ 0x7B)
IsHeadOf heads.Broken bytes = (rest : List ℕ) × (bytes ≡ 0x7B ∷ rest) × ((size : ℕ) (more : List ℕ) → size ≤ MAX_BODY → bytes ≡ head_bytes size ++ more → ⊥)
IsHeadOf (heads.Length size) bytes = (size ≤ MAX_BODY) × (bytes ≡ head_bytes size ++ drop 9 bytes)

-- what an area is by its first bytes
abbrev pub IsFrontOf : Front → List ℕ → Type 0
IsFrontOf fronts.Blank area = IsBlank area
IsFrontOf fronts.Closed area = (1 < length area) × IsClosed area
IsFrontOf (fronts.Broken at) area = IsUnclosed area × (first_wrong area ≡ Some at)
IsFrontOf (fronts.Right generation) area = IsUnclosed area × HasHeader area generation

-- these bytes are a front of the others
abbrev pub IsFront : List ℕ → List ℕ → Type 0
IsFront bytes whole = bytes ≡ take (length bytes) whole

-- the records up to a place were read, and gave these rows
pub record IsReadUpTo (area : List ℕ) (generation place : ℕ) (rows : List Row) : Type 0 where
  pub records : List (List Op)
  pub reaches : Reaches area generation records place (drop place area)
  pub replayed : replay (operations_of records) ≡ rows

-- the last gate is no further than an area reaches, and there are not too many rows
abbrev pub IsEndWithin : List Row → End → Type 0
IsEndWithin rows (ends.Closed gate) = (gate < MAX_PLACE) × (length rows ≤ 65_536)
IsEndWithin rows (ends.Broken at) = Unit {0}

-- the state of an area whose records end so
abbrev pub ended_state : ℕ → List Row → End → State
ended_state generation rows (ends.Closed gate) = Opened generation rows 29 gate
ended_state generation rows (ends.Broken at) = Broken at
