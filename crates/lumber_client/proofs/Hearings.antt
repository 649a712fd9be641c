-- What was given of a peer's bytes, and what one more byte makes of it.
use Rattle.std.proofs.Common.{◌≡◌, ◌≢◌, ℕ, suc, ◌+◌, ◌*◌, ◌-◌, ◌^◌, ◌<◌, ◌≤◌, List, [], ◌∷◌, ◌++◌, length, slice_index, take, refl, sym, ap, subst, ◌∙◌, append_assoc, arith, inl, inr}
use Rattle.std.specs.List.{AllByRecursion, flat_map}
use Rattle.std.proofs.Math.Seq.{get_or-append_seam}
use Rattle.std.proofs.lemmas.Bool.Decides.{leb_tells}
use Rattle.std.proofs.lemmas.List.{append-nil, length-append, map-append, take_at}
use Rattle.std.proofs.lemmas.List.Concat.{flat_map-append}
use Rattle.wire_base.specs.declared.parcel.Parcel.{Parcel}
use Rattle.wire_base.specs.declared.talk.Piece.{Piece}
use Rattle.wire_base.specs.declared.talk.Piece.TheVariants.{Out, In}
use Rattle.lumber_frame.specs.declared.frame.Frame.TheVariants.{Ack}
use Rattle.lumber_frame.specs.Frame.{frame_bytes}
use Rattle.lumber_frame.specs.Talk.{in_bytes, out_bytes, out_before}
use Rattle.lumber_frame.specs.Window.{AreWindows, window_bytes}
use Rattle.lumber_frame.specs.Acknowledged.{Answer, acknowledgements, answers, asked, count_at}
use Rattle.lumber_frame.specs.Settled.{ack_bytes}
use Rattle.lumber_frame.specs.PeerFault.{BeginsNoAcknowledgement, HasPeerFault}
use Rattle.lumber_frame.proofs.Asking.{answers_next, answers_stop, answers_through}
use Rattle.lumber_frame.proofs.Faults.{behind_is, few_read, no_fault, none_begins}
use Rattle.lumber_frame.proofs.GoingOn.{all_both}
use Rattle.lumber_frame.proofs.OneMoreWindow.{length-acks}
use Rattle.lumber_frame.proofs.Staying.{asked_stays, before_most, before_stays, in_append, out_append}
use Rattle.lumber_client.specs.Exchange.{Exchange, payloads_of, windows_of, given_in, with_begun, with_heard, with_sent}
use Rattle.lumber_client.specs.Standing.{Hears}
use Rattle.lumber_client.proofs.Given.{given_begun, given_on, within_others}

-- ---- what was read

pub read : (e : Exchange) (frame : List ℕ) (window : ℕ) (h : Hears e frame window) → acknowledgements (in_bytes e.talk) ≡ h.numbers
read e frame window h = (behind_is (in_bytes e.talk) h.numbers frame h.received h.small (few_read frame h.short)).0

-- the answers that were given
pub given_is : (e : Exchange) (frame : List ℕ) (window : ℕ) (h : Hears e frame window) → given_in e ≡ answers (windows_of e.begun) e.talk [] 0 h.numbers
given_is e frame window h = ap (λ (ns : List ℕ). answers (windows_of e.begun) e.talk [] 0 ns) (read e frame window h)

-- how many bytes were given
pub length_heard : (e : Exchange) (frame : List ℕ) (window : ℕ) (h : Hears e frame window) → length (in_bytes e.talk) ≡ 6 * length h.numbers + length frame
length_heard e frame window h = omega (arith, ap length h.received, length-append (ack_bytes h.numbers) frame, length-acks h.numbers)

-- a frame that has begun began before the talk went on
begun_before : (e : Exchange) (frame : List ℕ) (window : ℕ) (h : Hears e frame window) → frame ≢ [] → 6 * length h.numbers < length (in_bytes e.talk)
begun_before e [] window h some = absurd (some refl)
begun_before e (byte ∷ frame) window h some = omega (arith, length_heard e (byte ∷ frame) window h)

-- what is out as a byte comes
out_now : (talk : List Piece) (byte : ℕ) → out_before (talk ++ In (byte ∷ []) ∷ []) (length (in_bytes talk)) ≡ length (out_bytes talk)
out_now [] byte = refl
out_now (Out bytes ∷ talk) byte = omega (arith, length-append bytes (out_bytes talk), out_now talk byte)
out_now (In bytes ∷ talk) byte =
    elim (leb_tells (suc (length (bytes ++ in_bytes talk))) (length bytes)) [
      | inl is ↦ absurd (omega (arith, is.1, length-append bytes (in_bytes talk)))
      | inr is ↦
          let same : length (bytes ++ in_bytes talk) - length bytes ≡ length (in_bytes talk) = omega (arith, length-append bytes (in_bytes talk)) in
          rw (is.0, same) (out_now talk byte)
    ]

-- ---- what goes out

-- a window is begun
pub hears_begun : (e : Exchange) (parcels : List Parcel) (frame : List ℕ) (window : ℕ) → length (out_bytes e.talk) ≤ length (flat_map window_bytes (windows_of e.begun)) → Hears e frame window → Hears (with_begun e parcels) frame window
hears_begun e parcels frame window sent h =
    let windows = windows_of e.begun in
    let talk = e.talk in
    let more = map-append payloads_of e.begun (parcels ∷ []) in
    let place = 6 * length h.numbers in
    let same = given_begun windows (payloads_of parcels) talk h.numbers sent (omega (arith, length_heard e frame window h)) in
    let given = answers windows talk [] 0 h.numbers in
    record {
      numbers = h.numbers;
      small = h.small;
      received = h.received;
      faultless = ap (λ (ws : List (List (List ℕ))). length (answers ws talk [] 0 h.numbers)) more ∙ ap length same ∙ h.faultless;
      short = h.short;
      begins = h.begins;
      asks = λ some.
          ap (λ (ws : List (List (List ℕ))). asked ws (answers ws talk [] 0 h.numbers) (out_before talk place)) more
          ∙ ap (λ (all : List Answer). asked (windows ++ payloads_of parcels ∷ []) all (out_before talk place)) same
          ∙ asked_stays windows (payloads_of parcels ∷ []) given (out_before talk place) (within_others windows (payloads_of parcels) (out_before talk place) (omega (arith, before_most talk place, sent)))
          ∙ h.asks some;
    }

-- the answers are the same then
pub given_as_begun : (e : Exchange) (parcels : List Parcel) (numbers : List ℕ) → length (out_bytes e.talk) ≤ length (flat_map window_bytes (windows_of e.begun)) → 6 * length numbers ≤ length (in_bytes e.talk) → answers (windows_of (e.begun ++ parcels ∷ [])) e.talk [] 0 numbers ≡ answers (windows_of e.begun) e.talk [] 0 numbers
given_as_begun e parcels numbers sent there =
    ap (λ (ws : List (List (List ℕ))). answers ws e.talk [] 0 numbers) (map-append payloads_of e.begun (parcels ∷ [])) ∙ given_begun (windows_of e.begun) (payloads_of parcels) e.talk numbers sent there

pub in_same : (talk : List Piece) (bytes : List ℕ) → in_bytes (talk ++ Out bytes ∷ []) ≡ in_bytes talk
in_same talk bytes = in_append talk (Out bytes ∷ []) ∙ append-nil (in_bytes talk)

-- bytes go out
pub hears_sent : (e : Exchange) (bytes frame : List ℕ) (window : ℕ) → Hears e frame window → Hears (with_sent e bytes) frame window
hears_sent e bytes frame window h =
    let windows = windows_of e.begun in
    let talk = e.talk in
    let more = talk ++ Out bytes ∷ [] in
    let place = 6 * length h.numbers in
    let same = given_on windows talk (Out bytes ∷ []) h.numbers (omega (arith, length_heard e frame window h)) in
    record {
      numbers = h.numbers;
      small = h.small;
      received = in_same talk bytes ∙ h.received;
      faultless = ap length same ∙ h.faultless;
      short = h.short;
      begins = h.begins;
      asks = λ some.
          ap (λ (all : List Answer). asked windows all (out_before more place)) same
          ∙ ap (asked windows (answers windows talk [] 0 h.numbers)) (before_stays talk (Out bytes ∷ []) place (begun_before e frame window h some))
          ∙ h.asks some;
    }

-- the answers are the same then
pub given_as_sent : (e : Exchange) (bytes : List ℕ) → 6 * length (acknowledgements (in_bytes e.talk)) ≤ length (in_bytes e.talk) → given_in (with_sent e bytes) ≡ given_in e
given_as_sent e bytes there =
    ap (λ (all : List ℕ). answers (windows_of e.begun) (e.talk ++ Out bytes ∷ []) [] 0 (acknowledgements all)) (in_same e.talk bytes)
    ∙ given_on (windows_of e.begun) e.talk (Out bytes ∷ []) (acknowledgements (in_bytes e.talk)) there

-- ---- a byte comes

pub in_more : (talk : List Piece) (byte : ℕ) → in_bytes (talk ++ In (byte ∷ []) ∷ []) ≡ in_bytes talk ++ byte ∷ []
in_more talk byte = in_append talk (In (byte ∷ []) ∷ [])

pub out_same : (talk : List Piece) (byte : ℕ) → out_bytes (talk ++ In (byte ∷ []) ∷ []) ≡ out_bytes talk
out_same talk byte = out_append talk (In (byte ∷ []) ∷ []) ∙ append-nil (out_bytes talk)

-- what was received then
received_more : (e : Exchange) (frame : List ℕ) (window byte : ℕ) (h : Hears e frame window) → in_bytes (with_heard e byte).talk ≡ ack_bytes h.numbers ++ (frame ++ byte ∷ [])
received_more e frame window byte h =
    in_more e.talk byte ∙ ap (λ (all : List ℕ). all ++ byte ∷ []) h.received ∙ append_assoc (ack_bytes h.numbers) frame (byte ∷ [])

-- the answers of the acknowledgements before it
same_before : (e : Exchange) (frame : List ℕ) (window byte : ℕ) (h : Hears e frame window) → answers (windows_of e.begun) (with_heard e byte).talk [] 0 h.numbers ≡ answers (windows_of e.begun) e.talk [] 0 h.numbers
same_before e frame window byte h = given_on (windows_of e.begun) e.talk (In (byte ∷ []) ∷ []) h.numbers (omega (arith, length_heard e frame window h))

-- what it asks of, where it is the first of a frame
pub hears_first : (e : Exchange) (window byte asked_now : ℕ) (h : Hears e [] window) → length (byte ∷ []) < 6 → (BeginsNoAcknowledgement (byte ∷ []) → ⊥) → asked (windows_of e.begun) (given_in e) (length (out_bytes e.talk)) ≡ asked_now → Hears (with_heard e byte) (byte ∷ []) asked_now
hears_first e window byte asked_now h short begins asks =
    let windows = windows_of e.begun in
    let talk = (with_heard e byte).talk in
    let same = same_before e [] window byte h in
    let place : 6 * length h.numbers ≡ length (in_bytes e.talk) = omega (arith, length_heard e [] window h) in
    record {
      numbers = h.numbers;
      small = h.small;
      received = received_more e [] window byte h;
      faultless = ap length same ∙ h.faultless;
      short = short;
      begins = begins;
      asks = λ some.
          ap (λ (all : List Answer). asked windows all (out_before talk (6 * length h.numbers))) (same ∙ sym (given_is e [] window h))
          ∙ ap (λ (p : ℕ). asked windows (given_in e) (out_before talk p)) place
          ∙ ap (asked windows (given_in e)) (out_now e.talk byte)
          ∙ asks;
    }

-- and where it is not
pub hears_next : (e : Exchange) (first : ℕ) (frame : List ℕ) (window byte : ℕ) (h : Hears e (first ∷ frame) window) → length ((first ∷ frame) ++ byte ∷ []) < 6 → (BeginsNoAcknowledgement ((first ∷ frame) ++ byte ∷ []) → ⊥) → Hears (with_heard e byte) ((first ∷ frame) ++ byte ∷ []) window
hears_next e first frame window byte h short begins =
    let windows = windows_of e.begun in
    let talk = (with_heard e byte).talk in
    let place = 6 * length h.numbers in
    let some : first ∷ frame ≢ [] = λ is. absurd cc in
    let same = same_before e (first ∷ frame) window byte h in
    record {
      numbers = h.numbers;
      small = h.small;
      received = received_more e (first ∷ frame) window byte h;
      faultless = ap length same ∙ h.faultless;
      short = short;
      begins = begins;
      asks = λ more.
          ap (λ (all : List Answer). asked windows all (out_before talk place)) same
          ∙ ap (asked windows (answers windows e.talk [] 0 h.numbers)) (before_stays e.talk (In (byte ∷ []) ∷ []) place (begun_before e (first ∷ frame) window h some))
          ∙ h.asks some;
    }

-- the answers are the same as long as no frame is whole
pub given_front : (e : Exchange) (frame : List ℕ) (window byte : ℕ) (h : Hears e frame window) → length (frame ++ byte ∷ []) < 6 → given_in (with_heard e byte) ≡ given_in e
given_front e frame window byte h short =
    let numbers = (behind_is (in_bytes (with_heard e byte).talk) h.numbers (frame ++ byte ∷ []) (received_more e frame window byte h) h.small (few_read (frame ++ byte ∷ []) short)).0 in
    ap (λ (ns : List ℕ). answers (windows_of e.begun) (with_heard e byte).talk [] 0 ns) numbers ∙ same_before e frame window byte h ∙ sym (given_is e frame window h)

-- bytes that begin no acknowledgement are a fault
pub fault_begins : (e : Exchange) (frame : List ℕ) (window byte : ℕ) (h : Hears e frame window) → AreWindows (out_bytes e.talk) (windows_of e.begun) → length (frame ++ byte ∷ []) < 6 → BeginsNoAcknowledgement (frame ++ byte ∷ []) → HasPeerFault (with_heard e byte).talk
fault_begins e frame window byte h sent short none =
    let behind = behind_is (in_bytes (with_heard e byte).talk) h.numbers (frame ++ byte ∷ []) (received_more e frame window byte h) h.small (few_read (frame ++ byte ∷ []) short) in
    record {
      windows = windows_of e.begun;
      sent = subst (λ (bytes : List ℕ). AreWindows bytes (windows_of e.begun)) (sym (out_same e.talk byte)) sent;
      fault = inr (subst (λ (tail : List ℕ). BeginsNoAcknowledgement tail) (sym behind.1) none);
    }

-- a talk that is heard has no fault
pub no_fault_heard : (e : Exchange) (frame : List ℕ) (window : ℕ) (h : Hears e frame window) → AreWindows (out_bytes e.talk) (windows_of e.begun) → HasPeerFault e.talk → ⊥
no_fault_heard e frame window h sent = no_fault e.talk (windows_of e.begun) h.numbers frame sent h.received h.small (few_read frame h.short) h.faultless h.begins

-- ---- a frame is whole

-- it has begun before its last byte
whole_began : (frame : List ℕ) (byte number : ℕ) → frame ++ byte ∷ [] ≡ frame_bytes (Ack number) → frame ≢ []
whole_began [] byte number is = λ none. absurd (omega (arith, ap length is))
whole_began (first ∷ frame) byte number is = λ none. absurd cc

received_whole : (e : Exchange) (frame : List ℕ) (window byte number : ℕ) (h : Hears e frame window) → frame ++ byte ∷ [] ≡ frame_bytes (Ack number) → in_bytes (with_heard e byte).talk ≡ ack_bytes (h.numbers ++ number ∷ [])
received_whole e frame window byte number h is =
    received_more e frame window byte h ∙ ap (λ (tail : List ℕ). ack_bytes h.numbers ++ tail) (is ∙ sym (append-nil (frame_bytes (Ack number)))) ∙ sym (flat_map-append (λ (n : ℕ). frame_bytes (Ack n)) h.numbers (number ∷ []))

all_small : (e : Exchange) (frame : List ℕ) (window number : ℕ) (h : Hears e frame window) → number < 2 ^ 32 → AllByRecursion (λ n. n < 2 ^ 32) (h.numbers ++ number ∷ [])
all_small e frame window number h small = all_both (λ n. n < 2 ^ 32) h.numbers (number ∷ []) h.small (small, tt)

-- the numbers that were read then
read_whole : (e : Exchange) (frame : List ℕ) (window byte number : ℕ) (h : Hears e frame window) → number < 2 ^ 32 → frame ++ byte ∷ [] ≡ frame_bytes (Ack number) → acknowledgements (in_bytes (with_heard e byte).talk) ≡ h.numbers ++ number ∷ []
read_whole e frame window byte number h small is =
    (behind_is (in_bytes (with_heard e byte).talk) (h.numbers ++ number ∷ []) [] (received_whole e frame window byte number h is ∙ sym (append-nil (ack_bytes (h.numbers ++ number ∷ [])))) (all_small e frame window number h small) refl).0

-- the window that it asks of
asks_whole : (e : Exchange) (frame : List ℕ) (window byte number : ℕ) (h : Hears e frame window) → frame ++ byte ∷ [] ≡ frame_bytes (Ack number) → asked (windows_of e.begun) (given_in e) (out_before (with_heard e byte).talk (0 + 6 * length h.numbers)) ≡ window
asks_whole e frame window byte number h is =
    let windows = windows_of e.begun in
    let some = whole_began frame byte number is in
    let place : 0 + 6 * length h.numbers ≡ 6 * length h.numbers = omega arith in
    ap (λ (p : ℕ). asked windows (given_in e) (out_before (with_heard e byte).talk p)) place
    ∙ ap (asked windows (given_in e)) (before_stays e.talk (In (byte ∷ []) ∷ []) (6 * length h.numbers) (begun_before e frame window h some))
    ∙ ap (λ (all : List Answer). asked windows all (out_before e.talk (6 * length h.numbers))) (given_is e frame window h)
    ∙ h.asks some

-- its answer follows those of the acknowledgements before it
answers_whole : (e : Exchange) (frame : List ℕ) (window byte number : ℕ) (h : Hears e frame window) → answers (windows_of e.begun) (with_heard e byte).talk [] 0 (h.numbers ++ number ∷ []) ≡ answers (windows_of e.begun) (with_heard e byte).talk (given_in e) (0 + 6 * length h.numbers) (number ∷ [])
answers_whole e frame window byte number h =
    let windows = windows_of e.begun in
    let talk = (with_heard e byte).talk in
    let same = same_before e frame window byte h in
    answers_through windows talk [] 0 h.numbers (number ∷ []) (omega (arith, ap length same, h.faultless))
    ∙ ap (λ (all : List Answer). answers windows talk all (0 + 6 * length h.numbers) (number ∷ [])) (same ∙ sym (given_is e frame window h))

-- where it is not above the count
pub given_whole : (e : Exchange) (frame : List ℕ) (window byte number : ℕ) (h : Hears e frame window) → number < 2 ^ 32 → frame ++ byte ∷ [] ≡ frame_bytes (Ack number) → number ≤ count_at (windows_of e.begun) window → given_in (with_heard e byte) ≡ given_in e ++ record { window = window; number = number } ∷ []
given_whole e frame window byte number h small is few =
    let windows = windows_of e.begun in
    let talk = (with_heard e byte).talk in
    let asks = asks_whole e frame window byte number h is in
    ap (λ (ns : List ℕ). answers windows talk [] 0 ns) (read_whole e frame window byte number h small is)
    ∙ answers_whole e frame window byte number h
    ∙ answers_next windows talk (given_in e) (0 + 6 * length h.numbers) number [] (omega (arith, few, ap (count_at windows) asks))
    ∙ ap (λ (w : ℕ). given_in e ++ record { window = w; number = number } ∷ []) asks

pub hears_whole : (e : Exchange) (frame : List ℕ) (window byte number next : ℕ) (h : Hears e frame window) → number < 2 ^ 32 → frame ++ byte ∷ [] ≡ frame_bytes (Ack number) → number ≤ count_at (windows_of e.begun) window → Hears (with_heard e byte) [] next
hears_whole e frame window byte number next h small is few =
    let all = h.numbers ++ number ∷ [] in
    let answered = ap (λ (ns : List ℕ). length (answers (windows_of e.begun) (with_heard e byte).talk [] 0 ns)) (sym (read_whole e frame window byte number h small is)) ∙ ap length (given_whole e frame window byte number h small is few) in
    record {
      numbers = all;
      small = all_small e frame window number h small;
      received = received_whole e frame window byte number h is ∙ sym (append-nil (ack_bytes all));
      faultless = omega (arith, answered, length-append (given_in e) (record { window = window; number = number } ∷ []), ap length (given_is e frame window h), h.faultless, length-append h.numbers (number ∷ []));
      short = omega arith;
      begins = none_begins;
      asks = λ some. absurd (some refl);
    }

-- where it is above
pub fault_above : (e : Exchange) (frame : List ℕ) (window byte number : ℕ) (h : Hears e frame window) → AreWindows (out_bytes e.talk) (windows_of e.begun) → number < 2 ^ 32 → frame ++ byte ∷ [] ≡ frame_bytes (Ack number) → count_at (windows_of e.begun) window < number → HasPeerFault (with_heard e byte).talk
fault_above e frame window byte number h sent small is many =
    let windows = windows_of e.begun in
    let talk = (with_heard e byte).talk in
    let index = length h.numbers in
    let numbers = read_whole e frame window byte number h small is in
    let taken : take index (acknowledgements (in_bytes talk)) ≡ h.numbers = ap (take index) numbers ∙ take_at h.numbers (number ∷ []) index refl in
    let same = same_before e frame window byte h in
    let given = ap (λ (ns : List ℕ). answers windows talk [] 0 ns) taken ∙ same in
    let place : 6 * index ≡ 0 + 6 * index = omega arith in
    let asks = ap (λ (all : List Answer). asked windows all (out_before talk (6 * index))) (given ∙ sym (given_is e frame window h)) ∙ ap (λ (p : ℕ). asked windows (given_in e) (out_before talk p)) place ∙ asks_whole e frame window byte number h is in
    record {
      windows = windows;
      sent = subst (λ (bytes : List ℕ). AreWindows bytes windows) (sym (out_same e.talk byte)) sent;
      fault = inl (
        index,
        record {
          there = omega (arith, ap length numbers, length-append h.numbers (number ∷ []));
          earlier = ap length given ∙ h.faultless;
          above = omega (arith, many, ap (count_at windows) asks, ap (λ (ns : List ℕ). slice_index ns index) numbers, get_or-append_seam h.numbers number [] 0);
        },
      );
    }

-- the answers stay then
pub given_above : (e : Exchange) (frame : List ℕ) (window byte number : ℕ) (h : Hears e frame window) → number < 2 ^ 32 → frame ++ byte ∷ [] ≡ frame_bytes (Ack number) → count_at (windows_of e.begun) window < number → given_in (with_heard e byte) ≡ given_in e
given_above e frame window byte number h small is many =
    let windows = windows_of e.begun in
    let talk = (with_heard e byte).talk in
    let asks = asks_whole e frame window byte number h is in
    ap (λ (ns : List ℕ). answers windows talk [] 0 ns) (read_whole e frame window byte number h small is)
    ∙ answers_whole e frame window byte number h
    ∙ answers_stop windows talk (given_in e) (0 + 6 * length h.numbers) number [] (omega (arith, many, ap (count_at windows) asks))

-- the window that is asked next, as the answer names it
pub asked_is_next : (e : Exchange) (frame : List ℕ) (window byte number : ℕ) (h : Hears e frame window) → frame ++ byte ∷ [] ≡ frame_bytes (Ack number) → asked (windows_of e.begun) (given_in e) (out_before (with_heard e byte).talk (6 * length (acknowledgements (in_bytes e.talk)))) ≡ window
asked_is_next e frame window byte number h is =
    let place : 6 * length (acknowledgements (in_bytes e.talk)) ≡ 0 + 6 * length h.numbers = omega (arith, ap length (read e frame window h)) in
    ap (λ (p : ℕ). asked (windows_of e.begun) (given_in e) (out_before (with_heard e byte).talk p)) place ∙ asks_whole e frame window byte number h is
