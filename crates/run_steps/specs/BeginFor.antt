-- How a listed file begins (this project's profile of Filebeat's registry), if the listing gave its key: where the row of its key
-- is, among those that the registry gave, as far as the file is long enough; else by that row's next epoch, from its first byte on.
use Rattle.std.specs.Prelude.{◌≡◌, ℕ, List, Option, None, Some}
use Rattle.prospect.specs.declared.listed.Listed.{Listed}
use Rattle.restart_join.specs.Starts.{start_of}
use Rattle.restart_join.specs.declared.start.Start.{Start}
use Rattle.ship_core.specs.Rows.{find}
use Rattle.wire_base.specs.declared.note.Begin.{Begin}
use Rattle.wire_base.specs.declared.numbers.Slot.{Slot}
use Rattle.wire_base.specs.declared.row.Row.{Row}

-- the row of the file's key
abbrev pub row_of : List Row → Option (List ℕ) → Option Row
row_of rows None = None
row_of rows (Some key) = find key rows

-- the epoch and the place from which it is read
abbrev pub start_among : List Row → Listed → Start
start_among rows listed = start_of listed.size (row_of rows listed.key)

abbrev pub begin_for : Slot → Listed → List ℕ → Start → Begin
begin_for slot listed key start = record {
  slot = slot;
  input = listed.input;
  key = key;
  path = listed.path;
  size = listed.size;
  epoch = record { 0 = start.epoch };
  base = start.base;
}

-- the key of the file is known, and so it begins
pub record IsBeginFor (slot : Slot) (listed : Listed) (start : Start) (begin : Begin) : Type 0 where
  pub key : List ℕ
  pub key_is : listed.key ≡ Some key
  pub is : begin ≡ begin_for slot listed key start
