-- Of a slot that no file and no hidden row of a run has, nothing was noted.
use Rattle.std.proofs.Common.{◌≡◌, ◌≢◌, ◌⊎◌, inl, inr, ⊎_elim, ℕ, ◌==◌, Bool, List, [], ◌∷◌, ◌++◌, Contains, None, Some, if◌then◌else◌, refl, sym, ap, subst, ◌∙◌}
use Rattle.std.proofs.lemmas.Bool.{eqb-true, ne_eqb}
use Rattle.std.proofs.lemmas.List.Elements.{Contains-append_cases, Contains-append_left}
use Rattle.std.specs.List.{AllByRecursion, filter_map}
use Rattle.accounts.proofs.Backing.{mapped_there}
use Rattle.accounts.proofs.Grounded.{of_map}
use Rattle.accounts.proofs.Often.{often_back, often_contains}
use Rattle.accounts.proofs.Orderly.{member_is}
use Rattle.accounts.proofs.Same.{tells_notes}
use Rattle.accounts.specs.Ground.{HasGround, IsNoteBy}
use Rattle.accounts.specs.Hidden.{Hidden, hidden_begin, hidden_forget}
use Rattle.accounts.specs.Opened.{Opened}
use Rattle.accounts.specs.Same.{same_note}
use Rattle.accounts.specs.ToldNotes.{AreMixed}
use Rattle.accounts.specs.Turned.{Turned}
use Rattle.harvester.specs.History.{Telling}
use Rattle.prospect.specs.declared.listed.Listed.{Listed}
use Rattle.ship_core.proofs.Members.{first_there, later_there, none_there, there_cases, there_given, there_passed}
use Rattle.ship_core.specs.Orderly.{IsBegun, MayFollow}
use Rattle.ship_core.specs.RowOver.{Start, notes_of, slot_of, start_of}
use Rattle.wire_base.specs.declared.note.Note.{Note}
use Rattle.wire_base.specs.declared.note.Note.TheVariants.{Announce, Begin, Forget, Rename, Seen, Settle}
use Rattle.wire_base.specs.declared.numbers.Slot.{Slot}
use Rattle.wire_base.specs.declared.parcel.Parcel.{Parcel}
use Rattle.wire_base.specs.declared.row.Row.{Row}
use Rattle.run_steps.specs.Begun.{AreBeginNotes, MayBegin}
use Rattle.run_steps.specs.LaterScans.{LaterScan}
use Rattle.run_steps.specs.SoFar.{Earlier, Forgotten, noted_since, first_opened}
use Rattle.run_steps.proofs.Ordering.{since_begins_none, same_slots}
use Rattle.run_steps.proofs.ToldMoments.{some_start}

-- ---- a place of a note

record Parted (all : List Note) (one : Note) : Type 0 where
  before : List Note
  behind : List Note
  are : all ≡ before ++ one ∷ behind

part_at : (all : List Note) (one : Note) → Contains all one → Parted all one
part_at [] one there = absurd (none_there one there)
part_at (first ∷ all) one there = by_case (there_cases first one all there) (part_at all one)
  where
    by_case : (first ≡ one) ⊎ Contains all one → (Contains all one → Parted all one) → Parted (first ∷ all) one
    by_case (inl same) later = record { before = []; behind = all; are = ap (λ (n : Note). n ∷ all) same }
    by_case (inr behind) later = let of = later behind in record { before = first ∷ of.before; behind = of.behind; are = ap (λ (l : List Note). first ∷ l) of.are }

-- what has its ground in what files told is no Begin
starts_none : (files : List Turned) (acknowledged : List Parcel) (note : Note) → HasGround files acknowledged note → start_of note ≡ None
starts_none files acknowledged note (inl of) = by_kind of.turned of.telling of.is
  where
    by_kind : (turned : Turned) (telling : Telling) → IsNoteBy turned telling note → start_of note ≡ None
    by_kind turned telling (inl announced) = ap start_of announced
    by_kind turned telling (inr settled) = ap start_of settled.is
starts_none files acknowledged note (inr of) = ap start_of of.is

none_of : (slot : ℕ) (some : List Note) → ((note : Note) → Contains some note → slot_of note ≡ slot → ⊥) → notes_of slot some ≡ []
none_of slot [] other = refl
none_of slot (note ∷ some) other =
    ap (λ (b : Bool). if b then note ∷ notes_of slot some else notes_of slot some) (ne_eqb (slot_of note) slot (other note (first_there note some)))
    ∙ none_of slot some (λ x there. other x (later_there note x some there))

module _ (scans : List LaterScan) (rows : List Row) (listed : List Listed) (opened : List Opened) (hiddens : List Hidden) (earlier : List Earlier) (forgotten : List Forgotten) (notes begun collected : List Note)
    (mixed : AreMixed (noted_since earlier forgotten ++ begun) collected notes) (are : AreBeginNotes scans rows listed (first_opened earlier opened) hiddens begun)
    (files : List Turned) (acknowledged : List Parcel) (ground : AllByRecursion (HasGround files acknowledged) collected) (slot : Slot)
    (no_file : (one : Opened) → Contains opened one → one.begin.slot ≢ slot) (no_hidden : (hidden : Hidden) → Contains hiddens hidden → hidden.slot ≢ slot) where
  no_first : (one : Opened) → Contains (first_opened earlier opened) one → one.begin.slot.0 ≡ slot.0 → ⊥
  no_first one among is =
      let of = of_map (λ (o : Opened). o.begin.slot) opened one.begin.slot
      (subst (λ (l : List Slot). Contains l one.begin.slot) (same_slots earlier opened) (mapped_there (λ (o : Opened). o.begin.slot) (first_opened earlier opened) one among)) in
      no_file of.item of.among (of.is ∙ (λ k. record { 0 = is k }))

  no_start : (note : Note) (start : Start) → start_of note ≡ None → start_of note ≡ Some start → ⊥
  no_start note start none some = let q : None ≡ Some start = sym none ∙ some in cc

  begins_none : (note : Note) (start : Start) → Contains notes note → slot_of note ≡ slot.0 → start_of note ≡ Some start → ⊥
  begins_none note start there of_slot starts = ⊎_elim
      (λ told. ⊎_elim (λ announced. no_start note start (since_begins_none earlier forgotten note announced) starts)
      (λ here. by_kind (member_is (MayBegin scans rows listed (first_opened earlier opened) hiddens) begun note are.each here)) (Contains-append_cases (noted_since earlier forgotten) begun note told))
      (λ got. no_start note start (starts_none files acknowledged note (member_is (HasGround files acknowledged) collected note ground got)) starts)
      (Contains-append_cases (noted_since earlier forgotten ++ begun) collected note
      (often_contains same_note tells_notes ((noted_since earlier forgotten ++ begun) ++ collected) notes note (often_back notes ((noted_since earlier forgotten ++ begun) ++ collected) mixed.often) there))
    where
      of_hidden : (hidden : Hidden) → Contains hiddens hidden → (note ≡ hidden_begin hidden) ⊎ (note ≡ hidden_forget hidden) → ⊥
      of_hidden hidden among (inl is) = no_hidden hidden among (let same = ap slot_of (sym is) ∙ of_slot in (λ k. record { 0 = same k }))
      of_hidden hidden among (inr is) = no_start note start (ap start_of is) starts

      by_kind : MayBegin scans rows listed (first_opened earlier opened) hiddens note → ⊥
      by_kind (inl of) = no_first of.file of.among (ap slot_of (sym of.is) ∙ of_slot)
      by_kind (inr (inl of)) = no_start note start (ap start_of of.is) starts
      by_kind (inr (inr (inl of))) = of_hidden of.hidden of.of_hiddens of.is
      by_kind (inr (inr (inr of))) = no_start note start (ap start_of of.is) starts

  front_begins_none : (front : List Note) → ((note : Note) → Contains front note → Contains notes note) → (number : ℕ) → number ≡ slot.0 → IsBegun number front → ⊥
  front_begins_none front within number is begun_there =
      let first = some_start (filter_map start_of (notes_of number front)) begun_there in
      let given = there_given start_of (notes_of number front) first.0 first.1 in
      let passed = there_passed (λ (note : Note). slot_of note == number) front given.0 given.1 in
      begins_none given.0 first.0 (within given.0 passed.0) (eqb-true (slot_of given.0) number passed.1 ∙ is) given.2

  no_note : (note : Note) → Contains notes note → slot_of note ≡ slot.0 → ⊥
  no_note note there of_slot =
      let parted = part_at notes note there in
      by_kind note parted.before (λ x among. subst (λ (l : List Note). Contains l x) (sym parted.are) (Contains-append_left parted.before (note ∷ parted.behind) x among))
      (mixed.orderly.each parted.before note parted.behind parted.are) there of_slot
    where
      by_kind : (x : Note) (front : List Note) → ((other : Note) → Contains front other → Contains notes other) → MayFollow front x → Contains notes x → slot_of x ≡ slot.0 → ⊥
      by_kind (Begin s key path epoch base changed) front within may among is = begins_none (Begin s key path epoch base changed) _ among is refl
      by_kind (Announce s epoch) front within may among is = front_begins_none front within s.0 is may
      by_kind (Settle s epoch span cause) front within may among is = front_begins_none front within s.0 is may.0
      by_kind (Rename s scan path) front within may among is = front_begins_none front within s.0 is may.0
      by_kind (Seen s changed) front within may among is = front_begins_none front within s.0 is may
      by_kind (Forget s epoch end) front within may among is = front_begins_none front within s.0 is may

  pub nothing_noted : notes_of slot.0 notes ≡ []
  nothing_noted = none_of slot.0 notes no_note
