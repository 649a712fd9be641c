-- Where the parcels are that a worker took (this project's profile): acknowledged and to be posted, or carried; and the
-- notes that it owes.
use Rattle.std.specs.Prelude.{List, [], ◌∷◌, ◌++◌, map, take, drop, Option, Some, None}
use Rattle.lumber_client.specs.Held.{Held}
use Rattle.wire_base.specs.declared.note.Cause.TheVariants.{Acked}
use Rattle.wire_base.specs.declared.note.Note.{Note}
use Rattle.wire_base.specs.declared.note.Note.TheVariants.{Settle}
use Rattle.wire_base.specs.declared.parcel.Parcel.{Parcel}
use Rattle.batch_worker.specs.Working.{Working}

-- the note that settles an acknowledged parcel
abbrev pub note_of : Parcel → Note
note_of parcel = Settle parcel.slot parcel.epoch parcel.span Acked

abbrev pub notes_of : List Parcel → List Note
notes_of parcels = map note_of parcels

abbrev pub noted : Option Note → List Note
noted None = []
noted (Some note) = note ∷ []

-- acknowledged, and not handed out
abbrev pub settled_in : Held → List Parcel
settled_in window = take window.acknowledged window.parcels

-- not acknowledged: in flight, or waiting
abbrev pub carried_in : Held → List Parcel
carried_in window = drop window.acknowledged window.parcels

-- the notes of what is acknowledged and not posted, in order
abbrev pub owed_by : {L : Type 0} → Working L → List Note
owed_by w = noted w.refused ++ notes_of (settled_in w.window)
