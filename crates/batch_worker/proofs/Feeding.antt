-- Bytes that a window was given one by one.
use Rattle.std.proofs.Common.{◌≡◌, ℕ, ◌+◌, ◌-◌, ◌^◌, ◌≤◌, min, false, List, [], ◌∷◌, ◌++◌, length, take, refl, ap, ◌∙◌, subst, append_assoc, append-nil, length-append, arith}
use Rattle.wire_base.specs.declared.talk.Piece.{Piece}
use Rattle.wire_base.specs.declared.talk.Piece.TheVariants.{In}
use Rattle.lumber_client.specs.Exchange.{Exchange, with_heard, with_talk}
use Rattle.lumber_client.specs.Held.{Held}
use Rattle.lumber_client.specs.Newly.{KeepsParcels, is_fault}
use Rattle.lumber_client.specs.declared.heard.Heard.{Heard}
use Rattle.lumber_client.specs.declared.heard.Heard.TheVariants.{More, Alive, Acked, PeerFault}
use Rattle.lumber_frame.specs.Talk.{in_bytes}
use Rattle.lumber_frame.proofs.Staying.{in_append}
use Rattle.lumber_client.specs.Standing.{StandsFor}
use Rattle.lumber_client.proofs.Alike.{pieces_join}
use Rattle.batch_worker.specs.Feeding.{with_bytes}

-- this many of the first bytes were given, and none of them made a fault
pub record FeedsOn (old new : Held) (bytes : List ℕ) (number : ℕ) : Type 0 where
  pub kept : KeepsParcels old new
  pub fewer : length new.flights ≤ length old.flights
  pub more : old.acknowledged ≤ new.acknowledged
  pub fine : new.hearing.failed ≡ false
  pub fed : (e : Exchange) → StandsFor old e → StandsFor new (with_talk e (with_bytes e.talk (take number bytes)))

pub fed_more : (w : Held) (e : Exchange) (fed : List ℕ) (byte : ℕ) → StandsFor w (with_heard (with_talk e (with_bytes e.talk fed)) byte) → StandsFor w (with_talk e (with_bytes e.talk (fed ++ byte ∷ [])))
fed_more w e [] byte s = s
fed_more w e (first ∷ fed) byte s =
    let one : Piece = In (first ∷ fed) in
    let two : Piece = In (byte ∷ []) in
    pieces_join w e e.talk (first ∷ fed) (byte ∷ []) (subst (λ (talk : List Piece). StandsFor w (with_talk e talk)) (append_assoc e.talk (one ∷ []) (two ∷ [])) s)

pub keeps_on : (a b c : Held) → KeepsParcels a b → KeepsParcels b c → KeepsParcels a c
keeps_on a b c first then = record {
  most = then.most ∙ first.most;
  depth = then.depth ∙ first.depth;
  parcels = then.parcels ∙ first.parcels;
  begun = then.begun ∙ first.begun;
  out = then.out ∙ first.out;
  behind = then.behind ∙ first.behind;
}

pub fine_still : (heard : Heard) → ((at : ℕ) → heard ≡ PeerFault at → ⊥) → is_fault heard ≡ false
fine_still More none = refl
fine_still Alive none = refl
fine_still (Acked from to) none = refl
fine_still (PeerFault at) none = absurd (none at refl)

pub received_with : (talk : List Piece) (front : List ℕ) → min (length (in_bytes (with_bytes talk front))) (2 ^ 64 - 1) ≡ min (length (in_bytes talk) + length front) (2 ^ 64 - 1)
received_with talk [] = omega arith
received_with talk (byte ∷ bytes) =
    let one : Piece = In (byte ∷ bytes) in
    omega (arith, ap length (in_append talk (one ∷ [])), ap length (append-nil (byte ∷ bytes)), length-append (in_bytes talk) ((byte ∷ bytes) ++ []))
