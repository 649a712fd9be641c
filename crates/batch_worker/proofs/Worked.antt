-- Rests of one second, two seconds and a minute; a peer that is silent since a window was out, or since a byte came; failures
-- after an acknowledgement; and two parcels of which the first was acknowledged.
use Rattle.std.proofs.Common.{◌≡◌, ℕ, [], ◌∷◌, None, lit<, refl}
use Rattle.lumber_client.specs.Held.{Held, nothing_held}
use Rattle.wire_base.specs.declared.note.Cause.TheVariants.{Acked}
use Rattle.wire_base.specs.declared.note.Note.TheVariants.{Settle}
use Rattle.wire_base.specs.declared.numbers.Moment.{Moment}
use Rattle.wire_base.specs.declared.parcel.Parcel.{Parcel}
use Rattle.batch_worker.specs.Held.{carried_in, owed_by, settled_in}
use Rattle.batch_worker.specs.Keeping.{failures_since, one_failure_more}
use Rattle.batch_worker.specs.Rests.{IsResting, rest_after, rest_end}
use Rattle.batch_worker.specs.Waits.{silent_since}
use Rattle.batch_worker.specs.Working.{Working}

rests : rest_after 1 ≡ 1000
rests = refl

rests_twice : rest_after 2 ≡ 2000
rests_twice = refl

rests_at_most : rest_after 40 ≡ 60000
rests_at_most = refl

abbrev at : ℕ → Moment
at moment = record { 0 = moment }

module _ {L : Type 0} (any : Working L) (a b : Parcel) where
  -- the second failure came at 1,000, and its rest ends at 3,000
  abbrev failed_twice : Working L
  failed_twice = record any { failures = 2; failed = at 1000 }

  ends : rest_end failed_twice ≡ 3000
  ends = refl

  rests_until_then : IsResting failed_twice 2999
  rests_until_then = record { failed = lit< tt; early = lit< tt }

  silent_since_it_was_out : silent_since (record any { outs = at 500 ∷ at 700 ∷ []; heard = at 300 }) ≡ 500
  silent_since_it_was_out = refl

  silent_since_a_byte_came : silent_since (record any { outs = at 500 ∷ at 700 ∷ []; heard = at 600 }) ≡ 600
  silent_since_a_byte_came = refl

  forgotten : failures_since (a ∷ []) 7 ≡ 0
  forgotten = refl

  still_there : one_failure_more (failures_since [] 7) ≡ 8
  still_there = refl

  -- two parcels, of which the first was acknowledged
  abbrev two : Held
  two = record (nothing_held 2 1) { parcels = a ∷ b ∷ []; acknowledged = 1; in_flight = 1 }

  first_is_settled : settled_in two ≡ a ∷ []
  first_is_settled = refl

  second_is_carried : carried_in two ≡ b ∷ []
  second_is_carried = refl

  first_is_owed : owed_by (record any { window = two; refused = None }) ≡ Settle a.slot a.epoch a.span Acked ∷ []
  first_is_owed = refl
