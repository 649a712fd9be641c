-- What an area holds while operations are appended to it and afterwards (this project's profile).
use Rattle.std.specs.Prelude.{ℕ, ◌+◌, ◌≤◌, ◌⊎◌, List, ◌++◌, length, take, drop, codes}
use Rattle.wire_base.specs.declared.row.Op.{Op}
use Rattle.wire_base.specs.declared.row.Row.{Row}
use Rattle.ship_core.specs.Replay.{replay_on}
use Rattle.registry_log.specs.Records.{record_bytes}
use Rattle.registry_log.specs.State.{IsOpened}

-- in place of the last gate a record and a closed gate after it; further bytes stay
abbrev pub appended_bytes : List ℕ → ℕ → List Op → List ℕ
appended_bytes area end ops = take end area ++ (record_bytes ops ++ (codes "." ++ drop (end + length (record_bytes ops) + 1) area))

-- where the next record's gate is
abbrev pub gate_behind : ℕ → List Op → ℕ
gate_behind end ops = end + length (record_bytes ops)

-- opened, with the rows before operations or the rows after them
abbrev pub IsBeforeOrAfter : ℕ → List Row → ℕ → List Op → List ℕ → Type 0
IsBeforeOrAfter generation rows end ops area = IsOpened area generation rows end ⊎ IsOpened area generation (replay_on rows ops) (gate_behind end ops)

-- operations may be appended: the area is opened, its last gate is at `end`, and not too many rows result
pub record MayAppend (area : List ℕ) (generation : ℕ) (rows : List Row) (end : ℕ) (ops : List Op) : Type 0 where
  pub opened : IsOpened area generation rows end
  pub few : length (replay_on rows ops) ≤ 65_536
