-- What a body says (this project's profile): the operations of which it is the one spelling. There is at least one, and
-- each is within the ranges of a registry.
use Rattle.std.specs.Prelude.{◌≡◌, ◌≢◌, ℕ, ◌<◌, ◌^◌, List, [], All}
use Rattle.std.specs.Str.{IsUtf8}
use Rattle.wire_base.specs.Ranges.{IsKey, IsRow}
use Rattle.wire_base.specs.declared.row.Row.{Row}
use Rattle.wire_base.specs.declared.row.Op.{Op}
use Rattle.wire_base.specs.declared.row.Op.TheVariants.{Set, Remove}
use Rattle.registry_frame.specs.Body.{body_bytes}

-- the row is within its ranges, its key and its path are text, and its epoch has 32 bits
pub record IsStoredRow (row : Row) : Type 0 where
  pub ranges : IsRow row
  pub key : IsUtf8 row.key
  pub path : IsUtf8 row.path
  pub epoch : row.epoch.0 < 2 ^ 32

abbrev pub IsStoredOp : Op → Type 0
IsStoredOp (Set row) = IsStoredRow row
IsStoredOp (Remove key) = IsKey key × IsUtf8 key

pub record IsBodyOf (ops : List Op) (body : List ℕ) : Type 0 where
  pub spelled : body ≡ body_bytes ops
  pub some : ops ≢ []
  pub each : All IsStoredOp ops
