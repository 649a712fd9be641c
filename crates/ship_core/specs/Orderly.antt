-- Notes in an order that a run can make (this project's profile): a slot's Begin comes before its other notes and once,
-- spans that are settled for one slot and epoch are equal or disjoint, and two Renames of a slot by one scan are equal.
-- Of what a Seen says nothing is asked.
use Rattle.std.specs.Prelude.{◌≡◌, ℕ, All, List, [], ◌∷◌, ◌++◌, IsSome}
use Rattle.std.specs.List.{filter_map}
use Rattle.wire_base.specs.declared.note.Note.{Note}
use Rattle.wire_base.specs.declared.note.Note.TheVariants.{Begin, Announce, Settle, Rename, Seen, Forget}
use Rattle.ship_core.specs.CoveredEnd.{AreEqualOrApart}
use Rattle.ship_core.specs.RowOver.{notes_of, start_over, spans_in, naming_of}

-- some note is the slot's Begin
abbrev pub IsBegun : ℕ → List Note → Type 0
IsBegun slot notes = IsSome (start_over (notes_of slot notes))

-- the note may come next
abbrev pub MayFollow : List Note → Note → Type 0
MayFollow notes (Begin slot key path epoch base changed) = notes_of slot.0 notes ≡ []
MayFollow notes (Announce slot epoch) = IsBegun slot.0 notes
MayFollow notes (Settle slot epoch span cause) = IsBegun slot.0 notes × All (AreEqualOrApart span) (spans_in epoch.0 (notes_of slot.0 notes))
MayFollow notes (Rename slot scan path) = IsBegun slot.0 notes × All (λ naming. naming.scan ≡ scan → naming.path ≡ path) (filter_map naming_of (notes_of slot.0 notes))
MayFollow notes (Seen slot changed) = IsBegun slot.0 notes
MayFollow notes (Forget slot epoch end) = IsBegun slot.0 notes

-- each note may follow those before it
pub record AreOrderly (notes : List Note) : Type 0 where
  pub each : (front : List Note) (note : Note) (rest : List Note) → notes ≡ front ++ note ∷ rest → MayFollow front note
