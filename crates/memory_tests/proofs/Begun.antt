-- A slot that some note begins is begun.
use Rattle.std.proofs.Common.{◌≡◌, ℕ, true, false, List, [], ◌∷◌, Contains, Some, refl, ◌==◌}
use Rattle.std.specs.List.{filter_map, list_any}
use Rattle.std.specs.Option.{is_some}
use Rattle.wire_base.specs.declared.note.Note.{Note}
use Rattle.wire_base.specs.declared.note.Note.TheVariants.{Begin, Announce, Settle, Rename, Seen, Forget}
use Rattle.ship_core.specs.Orderly.{IsBegun}
use Rattle.ship_core.specs.Reading.{begins}
use Rattle.ship_core.specs.RowOver.{Start, slot_of, start_of, first_start, notes_of}
use Rattle.ship_core.proofs.Members.{any_there, passed_there, given_there, none_there}

own : (slot : ℕ) (note : Note) → begins slot note ≡ true → (slot_of note == slot) ≡ true
own slot (Begin begun key path epoch base changed) e = e
own slot (Announce begun epoch) e = absurd (let q : false ≡ true = e in cc)
own slot (Settle begun epoch span cause) e = absurd (let q : false ≡ true = e in cc)
own slot (Rename begun scan path) e = absurd (let q : false ≡ true = e in cc)
own slot (Seen begun changed) e = absurd (let q : false ≡ true = e in cc)
own slot (Forget begun epoch end) e = absurd (let q : false ≡ true = e in cc)

start : (slot : ℕ) (note : Note) → begins slot note ≡ true → (start : Start) × (start_of note ≡ Some start)
start slot (Begin begun key path epoch base changed) e = (record { key = key; path = path; epoch = epoch.0; base = base }, refl)
start slot (Announce begun epoch) e = absurd (let q : false ≡ true = e in cc)
start slot (Settle begun epoch span cause) e = absurd (let q : false ≡ true = e in cc)
start slot (Rename begun scan path) e = absurd (let q : false ≡ true = e in cc)
start slot (Seen begun changed) e = absurd (let q : false ≡ true = e in cc)
start slot (Forget begun epoch end) e = absurd (let q : false ≡ true = e in cc)

some_first : (starts : List Start) (one : Start) → Contains starts one → is_some (first_start starts) ≡ true
some_first [] one there = absurd (none_there one there)
some_first (first ∷ starts) one there = refl

pub begun : (slot : ℕ) (notes : List Note) → list_any (begins slot) notes ≡ true → IsBegun slot notes
begun slot notes any =
    let found = any_there (begins slot) notes any in
    let begin = start slot found.0 found.2 in
    let among = passed_there (λ (note : Note). slot_of note == slot) notes found.0 found.1 (own slot found.0 found.2) in
    some_first (filter_map start_of (notes_of slot notes)) begin.0 (given_there start_of (notes_of slot notes) found.0 begin.0 among begin.1)
