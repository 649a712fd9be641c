-- Whether two parcels, or two notes, are the same (this project's profile): a test for each, so that a place of an item
-- among others can be asked for.
use Rattle.std.specs.Prelude.{◌≡◌, ◌==◌, Bool, ◌&&◌, false, true, bytes_eq}
use Rattle.wire_base.specs.Extent.{Extent}
use Rattle.wire_base.specs.declared.note.Cause.{Cause}
use Rattle.wire_base.specs.declared.note.Cause.TheVariants.{Acked, Dropped}
use Rattle.wire_base.specs.declared.note.Note.{Note}
use Rattle.wire_base.specs.declared.note.Note.TheVariants.{Begin, Announce, Settle, Rename, Seen, Forget}
use Rattle.wire_base.specs.declared.parcel.Parcel.{Parcel}

abbrev pub same_span : Extent → Extent → Bool
same_span one other = (one.start == other.start) && (one.end == other.end)

abbrev pub same_parcel : Parcel → Parcel → Bool
same_parcel one other =
    (one.slot.0 == other.slot.0)
    && ((one.epoch.0 == other.epoch.0) && (same_span one.span other.span && bytes_eq one.payload other.payload))

abbrev pub same_cause : Cause → Cause → Bool
same_cause Acked Acked = true
same_cause (Dropped rule) (Dropped other) = rule.0 == other.0
same_cause one other = false

abbrev pub same_note : Note → Note → Bool
same_note (Begin slot key path epoch base changed) (Begin other_slot other_key other_path other_epoch other_base other_changed) =
    (slot.0 == other_slot.0)
    && (bytes_eq key other_key
    && (bytes_eq path other_path
    && ((epoch.0 == other_epoch.0) && ((base == other_base) && (changed.0 == other_changed.0)))))
same_note (Announce slot epoch) (Announce other_slot other_epoch) = (slot.0 == other_slot.0) && (epoch.0 == other_epoch.0)
same_note (Settle slot epoch span cause) (Settle other_slot other_epoch other_span other_cause) =
    (slot.0 == other_slot.0) && ((epoch.0 == other_epoch.0) && (same_span span other_span && same_cause cause other_cause))
same_note (Rename slot scan path) (Rename other_slot other_scan other_path) =
    (slot.0 == other_slot.0) && ((scan == other_scan) && bytes_eq path other_path)
same_note (Seen slot changed) (Seen other_slot other_changed) = (slot.0 == other_slot.0) && (changed.0 == other_changed.0)
same_note (Forget slot epoch end) (Forget other_slot other_epoch other_end) =
    (slot.0 == other_slot.0) && ((epoch.0 == other_epoch.0) && (end == other_end))
same_note one other = false

-- the test holds of what is the same, and of nothing else
pub record TellsSame {A : Type 0} (same : A → A → Bool) : Type 0 where
  pub tells : (one other : A) → same one other ≡ true → one ≡ other
  pub itself : (one : A) → same one one ≡ true
