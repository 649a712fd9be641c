-- The records of a registry area as they are read (this project's profile): each after an open gate, in the form in
-- which it is written, and each body in its one spelling. The rows after a record are at most 65,536.
use Rattle.std.specs.Prelude.{◌≡◌, ◌≢◌, ℕ, ◌≤◌, List, [], ◌∷◌, ◌++◌, length, All}
use Rattle.wire_base.specs.declared.row.Op.{Op}
use Rattle.ship_core.specs.Replay.{replay}
use Rattle.registry_frame.specs.Body.{body_bytes}
use Rattle.registry_frame.specs.BodyOf.{IsStoredOp}
use Rattle.registry_log.specs.declared.area_text.TheConstants.{MAX_BODY}
use Rattle.registry_log.specs.Records.{record_bytes}

-- these operations may be a record after the operations before them
pub record MayBeRecord (before ops : List Op) : Type 0 where
  pub some : ops ≢ []
  pub each : All IsStoredOp ops
  pub body : length (body_bytes ops) ≤ MAX_BODY
  pub rows : length (replay (before ++ ops)) ≤ 65_536

-- each of these may be a record after the operations before it
abbrev pub AreRecords : List Op → List (List Op) → Type 0
AreRecords before [] = Unit {0}
AreRecords before (ops ∷ records) = MayBeRecord before ops × AreRecords (before ++ ops) records

-- the bytes begin with a record that may follow
abbrev pub BeginsWithRecord : List Op → List ℕ → Type 0
BeginsWithRecord before bytes = (ops : List Op) × (rest : List ℕ) × (bytes ≡ record_bytes ops ++ rest) × MayBeRecord before ops
