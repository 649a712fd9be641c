-- What is the same by its test is the same, and is so of itself.
use Rattle.std.proofs.Common.{◌≡◌, ℕ, ◌==◌, Bool, ◌&&◌, false, true, bytes_eq, List, refl}
use Rattle.std.proofs.lemmas.Bool.{and_from, and_parts, eq-eqb, eqb-true}
use Rattle.std.proofs.lemmas.Slice.Eq.{bytes_eq-Decides}
use Rattle.wire_base.specs.Extent.{Extent}
use Rattle.wire_base.specs.declared.note.Cause.{Cause}
use Rattle.wire_base.specs.declared.note.Cause.TheVariants.{Acked, Dropped}
use Rattle.wire_base.specs.declared.note.Note.{Note}
use Rattle.wire_base.specs.declared.note.Note.TheVariants.{Begin, Announce, Settle, Rename, Seen, Forget}
use Rattle.wire_base.specs.declared.parcel.Parcel.{Parcel}
use Rattle.accounts.specs.Same.{TellsSame, same_cause, same_note, same_parcel, same_span}

-- ---- spans and causes

span_tells : (one other : Extent) → same_span one other ≡ true → one ≡ other
span_tells one other e =
    let parts = and_parts (one.start == other.start) (one.end == other.end) e in
    let start : one.start ≡ other.start = eqb-true one.start other.start parts.0 in
    let end : one.end ≡ other.end = eqb-true one.end other.end parts.1 in
    λ k. record { start = start k; end = end k }

span_itself : (one : Extent) → same_span one one ≡ true
span_itself one = and_from (one.start == one.start) (one.end == one.end) (eq-eqb one.start one.start refl) (eq-eqb one.end one.end refl)

cause_tells : (one other : Cause) → same_cause one other ≡ true → one ≡ other
cause_tells Acked Acked e = refl
cause_tells (Dropped rule) (Dropped other) e =
    let number : rule.0 ≡ other.0 = eqb-true rule.0 other.0 e in
    λ k. Dropped (record { 0 = number k })
cause_tells Acked (Dropped rule) e = absurd (let no : false ≡ true = e in cc)
cause_tells (Dropped rule) Acked e = absurd (let no : false ≡ true = e in cc)

cause_itself : (one : Cause) → same_cause one one ≡ true
cause_itself Acked = refl
cause_itself (Dropped rule) = eq-eqb rule.0 rule.0 refl

-- ---- parts of a test

both : (a b : Bool) → a ≡ true → b ≡ true → (a && b) ≡ true
both a b one other = and_from a b one other

pub number_itself : (n : ℕ) → (n == n) ≡ true
number_itself n = eq-eqb n n refl

bytes_itself : (bytes : List ℕ) → bytes_eq bytes bytes ≡ true
bytes_itself bytes = (bytes_eq-Decides bytes bytes).1 refl

bytes_tell : (bytes other : List ℕ) → bytes_eq bytes other ≡ true → bytes ≡ other
bytes_tell bytes other = (bytes_eq-Decides bytes other).0

-- ---- parcels

parcel_tells : (one other : Parcel) → same_parcel one other ≡ true → one ≡ other
parcel_tells one other e =
    let first = and_parts (one.slot.0 == other.slot.0) ((one.epoch.0 == other.epoch.0) && (same_span one.span other.span && bytes_eq one.payload other.payload)) e in
    let second = and_parts (one.epoch.0 == other.epoch.0) (same_span one.span other.span && bytes_eq one.payload other.payload) first.1 in
    let third = and_parts (same_span one.span other.span) (bytes_eq one.payload other.payload) second.1 in
    let slot : one.slot.0 ≡ other.slot.0 = eqb-true one.slot.0 other.slot.0 first.0 in
    let epoch : one.epoch.0 ≡ other.epoch.0 = eqb-true one.epoch.0 other.epoch.0 second.0 in
    let span : one.span ≡ other.span = span_tells one.span other.span third.0 in
    let payload : one.payload ≡ other.payload = bytes_tell one.payload other.payload third.1 in
    λ k. record { slot = record { 0 = slot k }; epoch = record { 0 = epoch k }; span = span k; payload = payload k }

parcel_itself : (one : Parcel) → same_parcel one one ≡ true
parcel_itself one =
    and_from (one.slot.0 == one.slot.0) ((one.epoch.0 == one.epoch.0) && (same_span one.span one.span && bytes_eq one.payload one.payload)) (number_itself one.slot.0)
    (and_from (one.epoch.0 == one.epoch.0) (same_span one.span one.span && bytes_eq one.payload one.payload) (number_itself one.epoch.0)
    (and_from (same_span one.span one.span) (bytes_eq one.payload one.payload) (span_itself one.span) (bytes_itself one.payload)))

pub tells_parcels : TellsSame same_parcel
tells_parcels = record { tells = parcel_tells; itself = parcel_itself }

-- ---- notes

note_tells : (one other : Note) → same_note one other ≡ true → one ≡ other
note_tells (Begin slot key path epoch base changed) (Begin other_slot other_key other_path other_epoch other_base other_changed) e =
    let fifth_test = (base == other_base) && (changed.0 == other_changed.0) in
    let fourth_test = (epoch.0 == other_epoch.0) && ((base == other_base) && (changed.0 == other_changed.0)) in
    let third_test = bytes_eq path other_path && ((epoch.0 == other_epoch.0) && ((base == other_base) && (changed.0 == other_changed.0))) in
    let second_test = bytes_eq key other_key && (bytes_eq path other_path && ((epoch.0 == other_epoch.0) && ((base == other_base) && (changed.0 == other_changed.0)))) in
    let first = and_parts (slot.0 == other_slot.0) second_test e in
    let second = and_parts (bytes_eq key other_key) third_test first.1 in
    let third = and_parts (bytes_eq path other_path) fourth_test second.1 in
    let fourth = and_parts (epoch.0 == other_epoch.0) fifth_test third.1 in
    let fifth = and_parts (base == other_base) (changed.0 == other_changed.0) fourth.1 in
    let slot_is : slot.0 ≡ other_slot.0 = eqb-true slot.0 other_slot.0 first.0 in
    let key_is : key ≡ other_key = bytes_tell key other_key second.0 in
    let path_is : path ≡ other_path = bytes_tell path other_path third.0 in
    let epoch_is : epoch.0 ≡ other_epoch.0 = eqb-true epoch.0 other_epoch.0 fourth.0 in
    let base_is : base ≡ other_base = eqb-true base other_base fifth.0 in
    let changed_is : changed.0 ≡ other_changed.0 = eqb-true changed.0 other_changed.0 fifth.1 in
    λ k. Begin (record { 0 = slot_is k }) (key_is k) (path_is k) (record { 0 = epoch_is k }) (base_is k) (record { 0 = changed_is k })
note_tells (Announce slot epoch) (Announce other_slot other_epoch) e =
    let parts = and_parts (slot.0 == other_slot.0) (epoch.0 == other_epoch.0) e in
    let slot_is : slot.0 ≡ other_slot.0 = eqb-true slot.0 other_slot.0 parts.0 in
    let epoch_is : epoch.0 ≡ other_epoch.0 = eqb-true epoch.0 other_epoch.0 parts.1 in
    λ k. Announce (record { 0 = slot_is k }) (record { 0 = epoch_is k })
note_tells (Settle slot epoch span cause) (Settle other_slot other_epoch other_span other_cause) e =
    let first = and_parts (slot.0 == other_slot.0) ((epoch.0 == other_epoch.0) && (same_span span other_span && same_cause cause other_cause)) e in
    let second = and_parts (epoch.0 == other_epoch.0) (same_span span other_span && same_cause cause other_cause) first.1 in
    let third = and_parts (same_span span other_span) (same_cause cause other_cause) second.1 in
    let slot_is : slot.0 ≡ other_slot.0 = eqb-true slot.0 other_slot.0 first.0 in
    let epoch_is : epoch.0 ≡ other_epoch.0 = eqb-true epoch.0 other_epoch.0 second.0 in
    let span_is : span ≡ other_span = span_tells span other_span third.0 in
    let cause_is : cause ≡ other_cause = cause_tells cause other_cause third.1 in
    λ k. Settle (record { 0 = slot_is k }) (record { 0 = epoch_is k }) (span_is k) (cause_is k)
note_tells (Rename slot scan path) (Rename other_slot other_scan other_path) e =
    let first = and_parts (slot.0 == other_slot.0) ((scan == other_scan) && bytes_eq path other_path) e in
    let second = and_parts (scan == other_scan) (bytes_eq path other_path) first.1 in
    let slot_is : slot.0 ≡ other_slot.0 = eqb-true slot.0 other_slot.0 first.0 in
    let scan_is : scan ≡ other_scan = eqb-true scan other_scan second.0 in
    let path_is : path ≡ other_path = bytes_tell path other_path second.1 in
    λ k. Rename (record { 0 = slot_is k }) (scan_is k) (path_is k)
note_tells (Seen slot changed) (Seen other_slot other_changed) e =
    let parts = and_parts (slot.0 == other_slot.0) (changed.0 == other_changed.0) e in
    let slot_is : slot.0 ≡ other_slot.0 = eqb-true slot.0 other_slot.0 parts.0 in
    let changed_is : changed.0 ≡ other_changed.0 = eqb-true changed.0 other_changed.0 parts.1 in
    λ k. Seen (record { 0 = slot_is k }) (record { 0 = changed_is k })
note_tells (Forget slot epoch end) (Forget other_slot other_epoch other_end) e =
    let first = and_parts (slot.0 == other_slot.0) ((epoch.0 == other_epoch.0) && (end == other_end)) e in
    let second = and_parts (epoch.0 == other_epoch.0) (end == other_end) first.1 in
    let slot_is : slot.0 ≡ other_slot.0 = eqb-true slot.0 other_slot.0 first.0 in
    let epoch_is : epoch.0 ≡ other_epoch.0 = eqb-true epoch.0 other_epoch.0 second.0 in
    let end_is : end ≡ other_end = eqb-true end other_end second.1 in
    λ k. Forget (record { 0 = slot_is k }) (record { 0 = epoch_is k }) (end_is k)
note_tells one other e = absurd (let no : false ≡ true = e in cc)

note_itself : (one : Note) → same_note one one ≡ true
note_itself (Begin slot key path epoch base changed) =
    both (slot.0 == slot.0) _ (number_itself slot.0)
    (both (bytes_eq key key) _ (bytes_itself key)
    (both (bytes_eq path path) _ (bytes_itself path)
    (both (epoch.0 == epoch.0) _ (number_itself epoch.0) (both (base == base) (changed.0 == changed.0) (number_itself base) (number_itself changed.0)))))
note_itself (Announce slot epoch) = both (slot.0 == slot.0) (epoch.0 == epoch.0) (number_itself slot.0) (number_itself epoch.0)
note_itself (Settle slot epoch span cause) =
    both (slot.0 == slot.0) _ (number_itself slot.0)
    (both (epoch.0 == epoch.0) _ (number_itself epoch.0) (both (same_span span span) (same_cause cause cause) (span_itself span) (cause_itself cause)))
note_itself (Rename slot scan path) =
    both (slot.0 == slot.0) _ (number_itself slot.0) (both (scan == scan) (bytes_eq path path) (number_itself scan) (bytes_itself path))
note_itself (Seen slot changed) = both (slot.0 == slot.0) (changed.0 == changed.0) (number_itself slot.0) (number_itself changed.0)
note_itself (Forget slot epoch end) =
    both (slot.0 == slot.0) _ (number_itself slot.0) (both (epoch.0 == epoch.0) (end == end) (number_itself epoch.0) (number_itself end))

pub tells_notes : TellsSame same_note
tells_notes = record { tells = note_tells; itself = note_itself }
