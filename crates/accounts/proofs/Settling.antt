-- If as many spans are settled as files reported and every note is collected, all that they reported is acknowledged or dropped; and how
-- the books of rounds, list by list, fit what files reported.
use Rattle.std.proofs.Common.{◌≡◌, ℕ, ◌+◌, ◌≤◌, Bool, true, false, cond, List, [], ◌∷◌, ◌++◌, length, refl, ap, ◌∙◌, arith}
use Rattle.std.specs.Prelude.{count_by}
use Rattle.std.specs.List.{flat_map}
use Rattle.std.proofs.lemmas.List.Sums.{sum_by-cons}
use Rattle.batch_worker.specs.Held.{notes_of}
use Rattle.harvester.specs.History.{Telling}
use Rattle.pass_sums.proofs.Weights.{weigh-append}
use Rattle.pass_sums.specs.Weight.{AsOften, weigh}
use Rattle.told_events.specs.Fate.{DroppedBy, Fate, ShippedAs}
use Rattle.told_events.specs.Told.{ToldEvent}
use Rattle.wire_base.specs.Extent.{Extent}
use Rattle.wire_base.specs.declared.note.Note.{Note}
use Rattle.wire_base.specs.declared.numbers.Slot.{Slot}
use Rattle.wire_base.specs.declared.parcel.Parcel.{Parcel}
use Rattle.slot_parts.specs.Tellings.{tellings_in}
use Rattle.accounts.specs.Once.{one_where}
use Rattle.accounts.specs.RunDone.{AreAllCollected}
use Rattle.accounts.specs.Taken.{FitBooks, Taken, acknowledged_in, carried_in, settles, taken_by, taken_in}
use Rattle.accounts.specs.Turned.{Turned, announced_in, events_in, notes_in, notes_told, parcels_by, parcels_in, parcels_of, parcels_told, settlements_by, settlements_in, settlements_of, spans_in}

abbrev one_each : {A : Type 0} → A → ℕ
one_each item = 1

-- ---- what workers took

pub taken_weighs : (h : Parcel → ℕ) (workers : List Taken) → weigh h (taken_in workers) ≡ weigh h (acknowledged_in workers) + weigh h (carried_in workers)
taken_weighs h [] = omega arith
taken_weighs h (taken ∷ workers) =
    let later = taken_weighs h workers in
    let all = weigh-append h (taken_by taken) (taken_in workers) in
    let own = weigh-append h taken.acknowledged taken.carried in
    let one = weigh-append h taken.acknowledged (acknowledged_in workers) in
    let two = weigh-append h taken.carried (carried_in workers) in
    omega (arith, later, all, own, one, two)

-- ---- each event is shipped or dropped

event_weighs : (slot : Slot) (epoch : ℕ) (span : Extent) (fate : Fate) → weigh one_each (parcels_by slot epoch span fate) + weigh settles (settlements_by slot epoch span fate) ≡ 1
event_weighs slot epoch span (DroppedBy rule) = refl
event_weighs slot epoch span (ShippedAs payload) = refl

events_weigh : (slot : Slot) (epoch : ℕ) (told : List ToldEvent) → weigh one_each (parcels_of slot epoch told) + weigh settles (settlements_of slot epoch told) ≡ length told
events_weigh slot epoch [] = refl
events_weigh slot epoch (one ∷ told) =
    let first = event_weighs slot epoch one.span one.fate in
    let later = events_weigh slot epoch told in
    let parcels = weigh-append {A = Parcel} one_each (parcels_by slot epoch one.span one.fate) (parcels_of slot epoch told) in
    let notes = weigh-append settles (settlements_by slot epoch one.span one.fate) (settlements_of slot epoch told) in
    omega (arith, first, later, parcels, notes)

-- an announcement settles nothing
later_weigh : (slot : Slot) (tellings : List Telling) →
    weigh one_each (flat_map (parcels_in slot) tellings) + weigh settles (flat_map (announced_in slot) tellings) ≡ events_in tellings
later_weigh slot [] = refl
later_weigh slot (telling ∷ tellings) =
    let first = events_weigh slot telling.epoch telling.told in
    let later = later_weigh slot tellings in
    let parcels = weigh-append {A = Parcel} one_each (parcels_in slot telling) (flat_map (parcels_in slot) tellings) in
    let notes = weigh-append settles (announced_in slot telling) (flat_map (announced_in slot) tellings) in
    omega (arith, first, later, parcels, notes)

file_weighs : (slot : Slot) (tellings : List Telling) → weigh one_each (flat_map (parcels_in slot) tellings) + weigh settles (notes_in slot tellings) ≡ events_in tellings
file_weighs slot [] = refl
file_weighs slot (first ∷ later) =
    let own = events_weigh slot first.epoch first.told in
    let others = later_weigh slot later in
    let parcels = weigh-append {A = Parcel} one_each (parcels_in slot first) (flat_map (parcels_in slot) later) in
    let notes = weigh-append settles (settlements_in slot first) (flat_map (announced_in slot) later) in
    omega (arith, own, others, parcels, notes)

files_weigh : (files : List Turned) → weigh one_each (flat_map parcels_told files) + weigh settles (flat_map notes_told files) ≡ spans_in files
files_weigh [] = refl
files_weigh (turned ∷ files) =
    let own = file_weighs turned.slot (tellings_in turned.history) in
    let others = files_weigh files in
    let parcels = weigh-append {A = Parcel} one_each (parcels_told turned) (flat_map parcels_told files) in
    let notes = weigh-append settles (notes_told turned) (flat_map notes_told files) in
    omega (arith, own, others, parcels, notes)

-- each acknowledged parcel is settled by its note
pub acknowledged_weigh : (parcels : List Parcel) → weigh settles (notes_of parcels) ≡ weigh one_each parcels
acknowledged_weigh [] = refl
acknowledged_weigh (parcel ∷ parcels) = let later = acknowledged_weigh parcels in omega (arith, later)

weightless_none : {A : Type 0} (xs : List A) → weigh one_each xs ≡ 0 → xs ≡ []
weightless_none [] none = refl
weightless_none (x ∷ xs) none = absurd (omega (arith, none))

one_is : (b : Bool) → cond b 1 0 ≡ one_where b
one_is true = refl
one_is false = refl

counted_more : (p : Note → Bool) (note : Note) (notes : List Note) → count_by p (note ∷ notes) ≡ one_where (p note) + count_by p notes
counted_more p note notes = sum_by-cons (λ (n : Note). cond (p n) 1 0) note notes ∙ ap (λ (n : ℕ). n + count_by p notes) (one_is (p note))

-- counted by two tests, of which a note that settles an event passes one, and no other note passes any
pub settles_counted : (is_one is_other : Note → Bool) → ((note : Note) → one_where (is_one note) + one_where (is_other note) ≡ settles note) → (notes : List Note) →
    count_by is_one notes + count_by is_other notes ≡ weigh settles notes
settles_counted is_one is_other either [] = refl
settles_counted is_one is_other either (note ∷ notes) =
    let later = settles_counted is_one is_other either notes in
    let own = either note in
    let one = counted_more is_one note notes in
    let other = counted_more is_other note notes in
    omega (arith, later, own, one, other)

-- ---- all is settled

module _ (files : List Turned) (workers : List Taken) (collected : List Note) (fits : FitBooks files workers collected) (every : fits.notes ≡ [])
    (counted : spans_in files ≤ weigh settles collected) where
  collected_weigh : (h : Note → ℕ) → weigh h fits.noted + weigh h (notes_of (acknowledged_in workers)) ≡ weigh h collected
  collected_weigh h =
      let sums = fits.notes_are h in
      let told = weigh-append h fits.noted (notes_of (acknowledged_in workers)) in
      let both = weigh-append h collected fits.notes in
      let none : weigh h fits.notes ≡ 0 = ap (weigh h) every in
      omega (arith, sums, told, both, none)

  issued_weigh : (h : Parcel → ℕ) → weigh h (flat_map parcels_told files) ≡ weigh h fits.parcels + (weigh h (acknowledged_in workers) + weigh h (carried_in workers))
  issued_weigh h =
      let issued = fits.issued_are h in
      let sums = fits.parcels_are h in
      let both = weigh-append h fits.parcels (taken_in workers) in
      let taken = taken_weighs h workers in
      omega (arith, issued, sums, both, taken)

  -- as many as are acknowledged
  all_acknowledged : weigh one_each fits.parcels + weigh one_each (carried_in workers) ≡ 0
  all_acknowledged =
      let spans = files_weigh files in
      let noted = fits.noted_are settles in
      let settled = collected_weigh settles in
      let acknowledged = acknowledged_weigh (acknowledged_in workers) in
      let issued = issued_weigh one_each in
      omega (arith, spans, noted, settled, acknowledged, issued, counted)

  none_elsewhere : fits.parcels ≡ []
  none_elsewhere = weightless_none fits.parcels (let all = all_acknowledged in omega (arith, all))

  none_carried : carried_in workers ≡ []
  none_carried = weightless_none (carried_in workers) (let all = all_acknowledged in omega (arith, all))

  pub all_collected : AreAllCollected files workers collected
  all_collected = record {
    parcels_are = λ h.
        let issued = issued_weigh h in
        let one : weigh h fits.parcels ≡ 0 = ap (weigh h) none_elsewhere in
        let two : weigh h (carried_in workers) ≡ 0 = ap (weigh h) none_carried in
        omega (arith, issued, one, two);
    notes_are = λ h.
        let sums = collected_weigh h in
        let noted = fits.noted_are h in
        let both = weigh-append h (flat_map notes_told files) (notes_of (acknowledged_in workers)) in
        omega (arith, sums, noted, both);
  }

-- ---- from the books of rounds

-- by where each parcel and each note is, as the passes met last
pub fit_books : (told : List Turned) (workers : List Taken) (collected : List Note) (issued : List Parcel) (noted : List Note) (held queued : List Parcel) (others : List Note) →
    AsOften issued (flat_map parcels_told told) → AsOften noted (flat_map notes_told told) →
    AsOften issued (held ++ (queued ++ (carried_in workers ++ acknowledged_in workers))) →
    AsOften (noted ++ notes_of (acknowledged_in workers)) (collected ++ others) → FitBooks told workers collected
fit_books told workers collected issued noted held queued others issued_are noted_are parcels_are notes_are = record {
  issued = issued;
  noted = noted;
  issued_are = issued_are;
  noted_are = noted_are;
  parcels = held ++ queued;
  parcels_are = λ h.
      let sums = parcels_are h in
      let one = weigh-append h held (queued ++ (carried_in workers ++ acknowledged_in workers)) in
      let two = weigh-append h queued (carried_in workers ++ acknowledged_in workers) in
      let three = weigh-append h (carried_in workers) (acknowledged_in workers) in
      let taken = taken_weighs h workers in
      let both = weigh-append h (held ++ queued) (taken_in workers) in
      let own = weigh-append h held queued in
      omega (arith, sums, one, two, three, taken, both, own);
  notes = others;
  notes_are = notes_are;
}
