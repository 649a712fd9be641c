-- What is kept of one file in place of its notes (this project's profile), and the row that it gives.
use Rattle.std.specs.Prelude.{◌≡◌, ℕ, ◌≤◌, ◌<◌, Bool, true, false, List, [], All, max, Option, Some, None, unwrap_or, nat_lt, nat_le, ◌==◌, ◌&&◌, ◌||◌, if◌then◌else◌}
use Rattle.std.specs.List.{filter_map, list_any, fold}
use Rattle.std.specs.Option.{option_map}
use Rattle.wire_base.specs.Extent.{Extent}
use Rattle.wire_base.specs.Ranges.{IsKey, IsPath}
use Rattle.wire_base.specs.declared.numbers.Epoch.{Epoch}
use Rattle.wire_base.specs.declared.numbers.TheConstants.{MAX_MOMENT}
use Rattle.wire_base.specs.declared.row.Row.{Row}
use Rattle.wire_base.specs.declared.note.Note.{Note}
use Rattle.wire_base.specs.declared.note.Note.TheVariants.{Begin, Announce, Settle, Rename, Seen, Forget}
use Rattle.ship_core.specs.CoveredEnd.{AreEqualOrApart}
use Rattle.ship_core.specs.RowOver.{Start, Naming, naming_of, newer, forgets, start_over, greatest_epoch, greatest_moment, base_in, spans_in}
use Rattle.ack_tracker.specs.Covered.{Covered, Covers, AddsSpan}
use Rattle.ack_tracker.specs.declared.reach.Reach.{Reach}

pub record FileState : Type 0 where
  pub key : List ℕ
  pub path : List ℕ
  pub scan : Option ℕ
  pub epoch : ℕ
  pub covered : Covered
  pub least : Option Reach
  pub changed : ℕ

-- the epoch and the end are not below the least that makes the file go
abbrev pub is_reached : Option Reach → ℕ → ℕ → Bool
is_reached None epoch end = false
is_reached (Some reach) epoch end = nat_lt reach.epoch epoch || ((reach.epoch == epoch) && nat_le reach.end end)

abbrev pub is_gone : FileState → Bool
is_gone file = is_reached file.least file.epoch file.covered.end

-- how far the file is done; none if its row is gone
abbrev pub place_in : FileState → Option (Epoch × ℕ)
place_in file = if is_gone file then None else Some (record { 0 = file.epoch }, file.covered.end)

abbrev pub row_in : FileState → Option Row
row_in file = if is_gone file then None else Some (record {
  key = file.key;
  path = file.path;
  epoch = record { 0 = file.epoch };
  offset = file.covered.end;
  changed = record { 0 = file.changed };
})

-- ---- what one note more changes

-- a later epoch begins at the file's first byte
abbrev pub risen : ℕ → FileState → FileState
risen epoch file = if nat_lt file.epoch epoch then record file { epoch = epoch; covered = record { end = 0; ahead = [] } } else file

-- whether the path is of a scan before this one, or of the Begin
abbrev pub is_older : Option ℕ → ℕ → Bool
is_older None scan = true
is_older (Some other) scan = nat_lt other scan

abbrev pub renamed : ℕ → List ℕ → FileState → FileState
renamed scan path file = if is_older file.scan scan then record file { path = path; scan = Some scan } else file

-- the lesser of two, the epochs compared first
abbrev pub lesser : Option Reach → Reach → Reach
lesser None reach = reach
lesser (Some other) reach = if is_reached (Some other) reach.epoch reach.end then other else reach

abbrev pub forgotten : Reach → FileState → FileState
forgotten reach file = record (risen reach.epoch file) { least = Some (lesser file.least reach) }

pub record Settles (old : FileState) (epoch : ℕ) (span : Extent) (new : FileState) : Type 0 where
  pub others : new ≡ record old { epoch = max old.epoch epoch; covered = new.covered }
  pub older : epoch < old.epoch → new.covered ≡ old.covered
  pub present : epoch ≡ old.epoch → AddsSpan old.covered span new.covered
  pub later : old.epoch < epoch → AddsSpan (record { end = 0; ahead = [] }) span new.covered

-- ---- the file's notes

-- the path of the newest naming, or else that of the Begin, and the scan that found it
pub record IsNamed (path : List ℕ) (newest : Option Naming) (file : FileState) : Type 0 where
  pub path_is : file.path ≡ unwrap_or (option_map (λ naming. naming.path) newest) path
  pub scan_is : file.scan ≡ option_map (λ naming. naming.scan) newest

-- this is what the notes of one slot come to
pub record Stands (notes : List Note) (file : FileState) : Type 0 where
  pub start : Start
  pub begun : start_over notes ≡ Some start
  pub key : file.key ≡ start.key
  pub no_earlier : start.epoch ≤ file.epoch
  pub epoch : greatest_epoch notes ≡ file.epoch
  pub moment : greatest_moment notes ≡ file.changed
  pub named : IsNamed start.path (fold newer None (filter_map naming_of notes)) file
  pub goes : (epoch offset : ℕ) → list_any (forgets epoch offset) notes ≡ is_reached file.least epoch offset
  pub covers : Covers (spans_in file.epoch notes) (base_in start file.epoch) file.covered

-- the note of the slot may come next
abbrev pub MayAdd : List Note → Note → Type 0
MayAdd notes (Begin slot key path epoch base changed) = ⊥
MayAdd notes (Announce slot epoch) = Unit {0}
MayAdd notes (Settle slot epoch span cause) = All (AreEqualOrApart span) (spans_in epoch.0 notes)
MayAdd notes (Rename slot scan path) = Unit {0}
MayAdd notes (Seen slot changed) = Unit {0}
MayAdd notes (Forget slot epoch end) = Unit {0}

-- what holds of any file
pub record IsFile (name place : List ℕ) (moment : ℕ) : Type 0 where
  pub key : IsKey name
  pub path : IsPath place
  pub changed : moment ≤ MAX_MOMENT
