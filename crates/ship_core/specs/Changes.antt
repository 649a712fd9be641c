-- What leads from some rows to others (this project's profile): operations in byte order of their keys, one for each key
-- that has another row in the others, or none there, and no operation for a key that has the same.
use Rattle.std.specs.Prelude.{◌≡◌, ◌≢◌, ℕ, Bool, true, false, All, List, Option, Some, None, ◌==◌, ◌&&◌, if◌then◌else◌}
use Rattle.std.specs.List.{filter_map}
use Rattle.std.specs.Str.{bytes_eq}
use Rattle.wire_base.specs.KeyOrder as entries
use Rattle.wire_base.specs.declared.row.Row.{Row}
use Rattle.wire_base.specs.declared.row.Op.{Op}
use Rattle.wire_base.specs.declared.row.Op.TheVariants.{Set, Remove}
use Rattle.ship_core.specs.Rows.{find}
use Rattle.ship_core.specs.Replay.{replay_on}

-- the key whose row an operation changes
abbrev pub key_in : Op → List ℕ
key_in (Set row) = row.key
key_in (Remove key) = key

-- each key comes before all later keys
abbrev pub AreAscending : List Op → Type 0
AreAscending = entries.IsInOrder key_in

abbrev pub AreKeysAscending : List (List ℕ) → Type 0
AreKeysAscending = entries.IsInOrder (λ key. key)

pub record LeadTo (from to : List Row) (ops : List Op) : Type 0 where
  pub ascending : AreAscending ops
  pub replayed : replay_on from ops ≡ to
  pub changing : All (λ op. find (key_in op) from ≢ find (key_in op) to) ops

-- ---- key by key

abbrev pub same_row : Row → Row → Bool
same_row a b = bytes_eq a.key b.key && (bytes_eq a.path b.path && ((a.epoch.0 == b.epoch.0) && ((a.offset == b.offset) && (a.changed.0 == b.changed.0))))

abbrev pub is_same : Option Row → Option Row → Bool
is_same None None = true
is_same None (Some row) = false
is_same (Some row) None = false
is_same (Some row) (Some other) = same_row row other

-- the operation after which the key has this row, or none
abbrev pub op_for : List ℕ → Option Row → Op
op_for key None = Remove key
op_for key (Some row) = Set row

-- what leads from a key's row to another; nothing if they are the same
abbrev pub change_of : List ℕ → Option Row → Option Row → Option Op
change_of key was now = if is_same was now then None else Some (op_for key now)

-- the changes of these keys' rows
abbrev pub changes_at : List (List ℕ) → List Row → List Row → List Op
changes_at keys from to = filter_map (λ key. change_of key (find key from) (find key to)) keys
