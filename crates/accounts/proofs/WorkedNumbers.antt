-- Three events of one file: one acknowledged, one dropped, and one neither; and a payload that a talk acknowledges.
use Rattle.std.proofs.Common.{◌≡◌, inl, inr, ℕ, zero, suc, ◌+◌, false, List, [], ◌∷◌, ◌++◌, Contains, Option, Some, None, codes, length, refl, sym, ap, subst, ◌∙◌, append-nil, arith, lit≤}
use Rattle.std.specs.List.{slice_get}
use Rattle.kept_rows.proofs.Worked as worked
use Rattle.kept_rows.specs.Account.{AccountedEvent, EpochAccount, Place, SlotAccount}
use Rattle.kept_rows.specs.Acknowledged.{IsAcknowledgedAt, talks_of}
use Rattle.kept_rows.specs.Trace.{WireTold}
use Rattle.lumber_frame.proofs.Settling.{none_in_nothing}
use Rattle.lumber_frame.specs.Acknowledged.{Acknowledges}
use Rattle.lumber_frame.specs.Frame.{frame_bytes}
use Rattle.lumber_frame.specs.Window.{IsWindow, window_bytes}
use Rattle.lumber_frame.specs.declared.frame.Frame.TheVariants.{Ack}
use Rattle.outside.specs.Talks.{Talk}
use Rattle.outside.specs.Wires.{Finished}
use Rattle.ship_core.proofs.Members.{first_there, none_there}
use Rattle.told_events.proofs.Worked.{a_log}
use Rattle.told_events.specs.Fate.{DroppedBy, Fate, ShippedAs}
use Rattle.wire_base.specs.declared.talk.Piece.{Piece}
use Rattle.wire_base.specs.declared.talk.Piece.TheVariants.{In, Out}
use Rattle.accounts.specs.Numbers.{AreAllCounted, AreNumbersOf, ArePlacedIn, IsPlacedAs, all_events}
use Rattle.accounts.proofs.Failures.{one_reading}

-- of one byte
abbrev event : ℕ → Fate → Option Place → AccountedEvent
event start fate place = record { event = record { span = record { start = start; end = start + 1 }; path = a_log; now = 0; fate = fate }; reading = 0; place = place }

abbrev acknowledged : AccountedEvent
acknowledged = event 0 (ShippedAs (codes "a")) (Some (record { wire = 0; connection = 0; number = 0 }))

abbrev dropped : AccountedEvent
dropped = event 1 (DroppedBy 1) None

abbrev neither : AccountedEvent
neither = event 2 (ShippedAs (codes "b")) None

abbrev epoch : ℕ → List AccountedEvent → EpochAccount
epoch number told = record { epoch = number; start = 0; life = number; readings = []; licences = []; told = told }

-- in two epochs
abbrev account : List AccountedEvent → List AccountedEvent → List SlotAccount
account first second = record worked.slot_account { epochs = epoch 0 first ∷ epoch 1 second ∷ [] } ∷ []

pub three_events_are_told : length (all_events (account (acknowledged ∷ dropped ∷ []) (neither ∷ []))) ≡ 3
three_events_are_told = refl

pub one_is_shipped_and_one_dropped : AreNumbersOf (account (acknowledged ∷ dropped ∷ []) (neither ∷ [])) 1 1
one_is_shipped_and_one_dropped = record { shipped_are = refl; dropped_are = refl }

-- which is not all
pub one_is_not_counted : AreAllCounted (account (acknowledged ∷ dropped ∷ []) (neither ∷ [])) → ⊥
one_is_not_counted all = absurd (omega (arith, all.together))

pub two_are_all : AreAllCounted (account (acknowledged ∷ []) (dropped ∷ []))
two_are_all = record { each = (inl refl, (inr refl, tt)); together = refl }

-- ---- places that are refused

-- where no talk was reported
untold_place_is_refused : (payload : List ℕ) (place : Place) → IsPlacedAs [] (ShippedAs payload) (Some place) → ⊥
untold_place_is_refused payload place is = absurd (let q : None ≡ Some is.wire = is.wire_is in cc)

-- of a dropped event
place_of_dropped_is_refused : (wires : List WireTold) (rule : ℕ) (place : Place) → IsPlacedAs wires (DroppedBy rule) (Some place) → ⊥
place_of_dropped_is_refused wires rule place is = absurd (let q : Some place ≡ None = is in cc)

-- ---- the payload that a talk acknowledges is that of an event

abbrev talk : Talk
talk = record { pieces = Out (window_bytes (codes "a" ∷ [])) ∷ In (frame_bytes (Ack 1)) ∷ []; idled = false }

abbrev wire : WireTold
wire = record { outcomes = Finished talk 0 0 ∷ []; open_talk = None }

abbrev first_place : Place
first_place = record { wire = 0; connection = 0; number = 0 }

is_window : IsWindow (codes "a" ∷ [])
is_window = record { some = omega arith; few = omega arith; each = (lit≤ tt, tt) }

answered : Acknowledges talk.pieces (codes "a" ∷ [])
answered = record {
  windows = (codes "a" ∷ []) ∷ [];
  sent = record { each = (is_window, tt); rest = []; whole = sym (append-nil (window_bytes (codes "a" ∷ []) ++ [])); cut = none_in_nothing };
  are = refl;
}

first_stands : IsAcknowledgedAt (wire ∷ []) (codes "a") first_place
first_stands = record { wire = wire; wire_is = refl; talk = talk.pieces; talk_is = refl; acknowledged = codes "a" ∷ []; acknowledges = answered; stands = refl }

one_item : {A : Type 0} (x y : A) (k : ℕ) → slice_get (x ∷ []) k ≡ Some y → k ≡ 0
one_item x y zero at = refl
one_item x y (suc k) at = absurd (let q : None ≡ Some y = at in cc)

first_item : {A : Type 0} (x y : A) (k : ℕ) → slice_get (x ∷ []) k ≡ Some y → x ≡ y
first_item x y zero at = let q : Some x ≡ Some y = at in cc
first_item x y (suc k) at = absurd (let q : None ≡ Some y = at in cc)

only_there : (payload : List ℕ) (place : Place) → IsAcknowledgedAt (wire ∷ []) payload place → place ≡ first_place
only_there payload place at =
    let same : wire ≡ at.wire = first_item wire at.wire place.wire at.wire_is in
    let talk_at : slice_get (Some talk.pieces ∷ []) place.connection ≡ Some (Some at.talk) =
    ap (λ (one : WireTold). slice_get (talks_of one) place.connection) same ∙ at.talk_is in
    let one : Some talk.pieces ≡ Some at.talk = first_item (Some talk.pieces) (Some at.talk) place.connection talk_at in
    let pieces : talk.pieces ≡ at.talk = cc in
    let reading : codes "a" ∷ [] ≡ at.acknowledged =
    one_reading talk.pieces (codes "a" ∷ []) at.acknowledged answered (subst (λ (some : List Piece). Acknowledges some at.acknowledged) (sym pieces) at.acknowledges) in
    let at_wire : place.wire ≡ 0 = one_item wire at.wire place.wire at.wire_is in
    let at_connection : place.connection ≡ 0 = one_item (Some talk.pieces) (Some at.talk) place.connection talk_at in
    let at_number : place.number ≡ 0 = one_item (codes "a") payload place.number (ap (λ (l : List (List ℕ)). slice_get l place.number) reading ∙ at.stands) in
    λ k. record { wire = at_wire k; connection = at_connection k; number = at_number k }

pub one_payload_is_placed : ArePlacedIn (account (acknowledged ∷ []) (dropped ∷ [])) (wire ∷ [])
one_payload_is_placed = record {
  each = (first_stands, (refl, tt));
  apart = (λ there. none_there first_place there, tt);
  all = λ payload place at. subst (λ (one : Place). Contains (first_place ∷ []) one) (sym (only_there payload place at)) (first_there first_place []);
}

-- an event without a place, though a talk acknowledges its payload
pub left_out_is_refused : ArePlacedIn (account (event 0 (ShippedAs (codes "a")) None ∷ []) (dropped ∷ [])) (wire ∷ []) → ⊥
left_out_is_refused are = none_there first_place (are.all (codes "a") first_place first_stands)
