-- The ranges that each call on a row, an operation, a begin, a note or a parcel has as its condition
-- (this project's profile). Lengths are in bytes.
use Rattle.std.specs.Prelude.{ℕ, ◌≤◌, List, length}
use Rattle.wire_base.specs.declared.numbers.TheConstants.{MAX_PLACE, MAX_MOMENT}
use Rattle.wire_base.specs.declared.numbers.Moment.{Moment}
use Rattle.wire_base.specs.declared.parcel.TheConstants.{MAX_PAYLOAD}
use Rattle.wire_base.specs.declared.parcel.Parcel.{Parcel}
use Rattle.wire_base.specs.declared.row.TheConstants.{MAX_KEY, MAX_PATH}
use Rattle.wire_base.specs.declared.row.Row.{Row}
use Rattle.wire_base.specs.declared.row.Op.{Op}
use Rattle.wire_base.specs.declared.row.Op.TheVariants.{Set, Remove}
use Rattle.wire_base.specs.declared.note.Begin.{Begin as BeginOf}
use Rattle.wire_base.specs.declared.note.Note.{Note}
use Rattle.wire_base.specs.declared.note.Note.TheVariants.{Begin, Announce, Settle, Rename, Seen, Forget}

-- a place or a size in a file
abbrev pub IsPlace : ℕ → Type 0
IsPlace place = place ≤ MAX_PLACE

-- a moment that a clock can give
abbrev pub IsMoment : Moment → Type 0
IsMoment moment = moment.0 ≤ MAX_MOMENT

abbrev pub IsKey : List ℕ → Type 0
IsKey key = length key ≤ MAX_KEY

abbrev pub IsPath : List ℕ → Type 0
IsPath path = length path ≤ MAX_PATH

-- the payload may be sent, and the span lies within a file
pub record IsParcel (parcel : Parcel) : Type 0 where
  pub payload : length parcel.payload ≤ MAX_PAYLOAD
  pub span : IsPlace parcel.span.end

pub record IsRow (row : Row) : Type 0 where
  pub key : IsKey row.key
  pub path : IsPath row.path
  pub offset : IsPlace row.offset
  pub changed : IsMoment row.changed

abbrev pub IsOp : Op → Type 0
IsOp (Set row) = IsRow row
IsOp (Remove key) = IsKey key

pub record IsBegin (begin : BeginOf) : Type 0 where
  pub key : IsKey begin.key
  pub path : IsPath begin.path
  pub size : IsPlace begin.size
  pub base : IsPlace begin.base

abbrev pub IsNote : Note → Type 0
IsNote (Begin slot key path epoch base changed) = IsKey key × IsPath path × IsPlace base × IsMoment changed
IsNote (Announce slot epoch) = Unit {0}
IsNote (Settle slot epoch span cause) = IsPlace span.end
IsNote (Rename slot scan path) = IsPath path
IsNote (Seen slot changed) = IsMoment changed
IsNote (Forget slot epoch end) = IsPlace end
