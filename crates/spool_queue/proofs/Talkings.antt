-- What goes over a link, and what its talk acknowledges.
use Rattle.std.proofs.Common.{◌≡◌, ℕ, ◌<◌, Bool, true, false, List, [], ◌∷◌, ◌++◌, length, take, Option, Some, None, Ok, Err, refl, sym, ap, ◌∙◌, subst, append_assoc, arith}
use Rattle.lumber_client.specs.Exchange.{Exchange, acknowledged_in, payloads_of, with_sent, with_talk}
use Rattle.lumber_client.specs.Held.{Held}
use Rattle.lumber_client.specs.Standing.{StandsFor}
use Rattle.lumber_client.proofs.Acknowledging.{acknowledges}
use Rattle.lumber_client.proofs.Alike.{joined_acknowledges, joined_fault}
use Rattle.lumber_client.proofs.Behind.{nothing_behind}
use Rattle.lumber_client.proofs.Standings.{handed_all}
use Rattle.lumber_frame.specs.Acknowledged.{Acknowledges}
use Rattle.lumber_frame.specs.PeerFault.{HasPeerFault}
use Rattle.lumber_frame.proofs.Faults.{fault_stays}
use Rattle.outside.specs.Talks.{Talk, TellsReceiving, TellsSending, with_sent as sent_over}
use Rattle.outside.specs.declared.failed.Failed.{Failed}
use Rattle.outside.specs.declared.link.Recv.TheVariants.{Got, NotYet, Closed, Failed as RecvFailed}
use Rattle.wire_base.specs.declared.parcel.Parcel.{Parcel}
use Rattle.wire_base.specs.declared.talk.Piece.{Piece}
use Rattle.wire_base.specs.declared.talk.Piece.TheVariants.{In, Out}
use Rattle.settled_parcels.specs.Handing.{settled_in}
use Rattle.spool_queue.specs.SendSoFar.{GoesOut, HasPieces, HearsFault, Hears, TalkAcknowledges, with_bytes}

-- ---- pieces of a talk

sent_piece : (talk : Talk) (sent : List ℕ) → 0 < length sent → (sent_over talk sent).pieces ≡ talk.pieces ++ Out sent ∷ []
sent_piece talk [] some = absurd (omega arith)
sent_piece talk (byte ∷ sent) some = refl

pub sends_piece : (began told after : Option Talk) (pieces : List Piece) (piece : List ℕ) (count : ℕ) → 0 < length (take count piece) → HasPieces began told pieces → TellsSending told piece (Ok count) after → HasPieces began after (pieces ++ Out (take count piece) ∷ [])
sends_piece None told after pieces piece count some has tells = tt
sends_piece (Some began) None after pieces piece count some has tells = absurd has
sends_piece (Some began) (Some talk) after pieces piece count some has tells =
    let H : Option Talk → Type 0 = λ o. HasPieces (Some began) o (pieces ++ Out (take count piece) ∷ []) in
    subst H (sym tells) (sent_piece talk (take count piece) some ∙ ap (λ (l : List Piece). l ++ Out (take count piece) ∷ []) has)

pub sends_nothing : (began told after : Option Talk) (pieces : List Piece) (piece : List ℕ) (failed : Failed) → HasPieces began told pieces → TellsSending told piece (Err failed) after → HasPieces began after pieces
sends_nothing None told after pieces piece failed has tells = tt
sends_nothing (Some began) None after pieces piece failed has tells = absurd has
sends_nothing (Some began) (Some talk) after pieces piece failed has tells = let H : Option Talk → Type 0 = λ o. HasPieces (Some began) o pieces in subst H (sym tells) has

pub receives_piece : (began told after : Option Talk) (pieces : List Piece) (into : List ℕ) (count : ℕ) → HasPieces began told pieces → TellsReceiving told into (Got count) after → HasPieces began after (pieces ++ In (take count into) ∷ [])
receives_piece None told after pieces into count has tells = tt
receives_piece (Some began) None after pieces into count has tells = absurd has
receives_piece (Some began) (Some talk) after pieces into count has tells =
    let H : Option Talk → Type 0 = λ o. HasPieces (Some began) o (pieces ++ In (take count into) ∷ []) in
    subst H (sym tells) (ap (λ (l : List Piece). l ++ In (take count into) ∷ []) has)

pub receives_nothing : (began told after : Option Talk) (pieces : List Piece) (into : List ℕ) → HasPieces began told pieces → TellsReceiving told into NotYet after → HasPieces began after pieces
receives_nothing None told after pieces into has tells = tt
receives_nothing (Some began) None after pieces into has tells = absurd has
receives_nothing (Some began) (Some talk) after pieces into has tells = let H : Option Talk → Type 0 = λ o. HasPieces (Some began) o pieces in subst H (sym tells) has

pub receives_closed : (began told after : Option Talk) (pieces : List Piece) (into : List ℕ) → HasPieces began told pieces → TellsReceiving told into Closed after → HasPieces began after pieces
receives_closed None told after pieces into has tells = tt
receives_closed (Some began) None after pieces into has tells = absurd has
receives_closed (Some began) (Some talk) after pieces into has tells = let H : Option Talk → Type 0 = λ o. HasPieces (Some began) o pieces in subst H (sym tells) has

pub receives_failed : (began told after : Option Talk) (pieces : List Piece) (into : List ℕ) → HasPieces began told pieces → TellsReceiving told into RecvFailed after → HasPieces began after pieces
receives_failed None told after pieces into has tells = tt
receives_failed (Some began) None after pieces into has tells = absurd has
receives_failed (Some began) (Some talk) after pieces into has tells = let H : Option Talk → Type 0 = λ o. HasPieces (Some began) o pieces in subst H (sym tells) has

pub with_some : (talk : List Piece) (bytes : List ℕ) → 0 < length bytes → with_bytes talk bytes ≡ talk ++ In bytes ∷ []
with_some talk [] some = absurd (omega arith)
with_some talk (byte ∷ bytes) some = refl

pub pieces_acknowledge : (began told : Option Talk) (pieces : List Piece) (payloads : List (List ℕ)) → HasPieces began told pieces → Acknowledges pieces payloads → TalkAcknowledges began told payloads
pieces_acknowledge None told pieces payloads has reads = tt
pieces_acknowledge (Some began) None pieces payloads has reads = absurd has
pieces_acknowledge (Some began) (Some talk) pieces payloads has reads = let A : List Piece → Type 0 = λ p. Acknowledges p payloads in subst A (sym has) reads

-- ---- what is acknowledged

-- where nothing waits to be handed out, the talk acknowledges what was handed out
pub all_handed : (w : Held) (e : Exchange) → StandsFor w e → e.earlier ≡ [] → w.acknowledged ≡ 0 → Acknowledges e.talk (payloads_of e.handed)
all_handed w e s first none =
    let A : List Parcel → Type 0 = λ l. Acknowledges e.talk (payloads_of l) in
    subst A (ap (λ (l : List Parcel). l ++ acknowledged_in e) (sym first) ∙ handed_all w e s none) (acknowledges w e s)

-- and else that and what waits
with_waiting : (w : Held) (e : Exchange) → StandsFor w e → e.earlier ≡ [] → Acknowledges e.talk (payloads_of (e.handed ++ settled_in w))
with_waiting w e s first =
    let A : List Parcel → Type 0 = λ l. Acknowledges e.talk (payloads_of l) in
    subst A (ap (λ (l : List Parcel). l ++ acknowledged_in e) (sym first) ∙ sym s.acknowledged) (acknowledges w e s)

snoc_some : (front : List ℕ) (byte : ℕ) → 0 < length (front ++ byte ∷ [])
snoc_some [] byte = omega arith
snoc_some (first ∷ front) byte = omega arith

-- behind a fault the talk with all bytes has it, too, and acknowledges the same
behind_fault : (talk : List Piece) (fed rest : List ℕ) (payloads : List (List ℕ)) → HasPeerFault (talk ++ In fed ∷ []) → Acknowledges (talk ++ In fed ∷ []) payloads → Acknowledges (talk ++ In (fed ++ rest) ∷ []) payloads
behind_fault talk fed rest payloads fault read =
    let one : Piece = In fed in
    let two : Piece = In rest in
    joined_acknowledges talk fed rest payloads (subst (λ (t : List Piece). Acknowledges t payloads) (append_assoc talk (one ∷ []) (two ∷ [])) (nothing_behind (talk ++ one ∷ []) (two ∷ []) payloads fault read))

fault_behind : (talk : List Piece) (fed rest : List ℕ) → HasPeerFault (talk ++ In fed ∷ []) → HasPeerFault (talk ++ In (fed ++ rest) ∷ [])
fault_behind talk fed rest fault =
    let one : Piece = In fed in
    let two : Piece = In rest in
    joined_fault talk fed rest (subst HasPeerFault (append_assoc talk (one ∷ []) (two ∷ [])) (fault_stays (talk ++ one ∷ []) (two ∷ []) fault))

pub heard_acknowledges : (w : Held) (e : Exchange) (bytes : List ℕ) (fine : Bool) → 0 < length bytes → e.earlier ≡ [] → Hears w e bytes fine → Acknowledges (e.talk ++ In bytes ∷ []) (payloads_of (e.handed ++ settled_in w))
heard_acknowledges w e bytes true some first hears =
    let A : List Piece → Type 0 = λ t. Acknowledges t (payloads_of (e.handed ++ settled_in w)) in
    subst A (with_some e.talk bytes some) (with_waiting w (with_talk e (with_bytes e.talk bytes)) hears first)
heard_acknowledges w e bytes false some first hears =
    let fed : List ℕ = hears.front ++ hears.byte ∷ [] in
    let one = with_some e.talk fed (snoc_some hears.front hears.byte) in
    let A : List Piece → Type 0 = λ t. Acknowledges t (payloads_of (e.handed ++ settled_in w)) in
    let B : List ℕ → Type 0 = λ l. Acknowledges (e.talk ++ In l ∷ []) (payloads_of (e.handed ++ settled_in w)) in
    subst B (sym hears.are) (behind_fault e.talk fed hears.rest (payloads_of (e.handed ++ settled_in w)) (subst HasPeerFault one hears.fault) (subst A one (with_waiting w (with_talk e (with_bytes e.talk fed)) hears.stands first)))

pub heard_fault : (w : Held) (e : Exchange) (bytes : List ℕ) → HearsFault w e bytes → HasPeerFault (e.talk ++ In bytes ∷ [])
heard_fault w e bytes hears =
    let fed : List ℕ = hears.front ++ hears.byte ∷ [] in
    let B : List ℕ → Type 0 = λ l. HasPeerFault (e.talk ++ In l ∷ []) in
    subst B (sym hears.are) (fault_behind e.talk fed hears.rest (subst HasPeerFault (with_some e.talk fed (snoc_some hears.front hears.byte)) hears.fault))

-- ---- a piece that goes out

pub goes_out_more : (w u : Held) (began told after : Option Talk) (e : Exchange) (piece : List ℕ) (count : ℕ) → 0 < length (take count piece) → GoesOut w began told e → TellsSending told piece (Ok count) after → ((f : Exchange) → StandsFor w f → StandsFor u (with_sent f (take count piece))) → GoesOut u began after e
goes_out_more w u began told after e piece count some out tells stands = record {
  next = with_sent out.next (take count piece);
  talks = record {
    stands = stands out.next out.talks.stands;
    pieces = sends_piece began told after out.next.talk piece count some out.talks.pieces tells;
    first = out.talks.first;
  };
  handed = out.handed;
}

pub goes_out_no_more : (w : Held) (began told after : Option Talk) (e : Exchange) (piece : List ℕ) (failed : Failed) → GoesOut w began told e → TellsSending told piece (Err failed) after → GoesOut w began after e
goes_out_no_more w began told after e piece failed out tells = record {
  next = out.next;
  talks = record { stands = out.talks.stands; pieces = sends_nothing began told after out.next.talk piece failed out.talks.pieces tells; first = out.talks.first };
  handed = out.handed;
}
