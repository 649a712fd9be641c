-- Bytes that a window was given one by one.
use Rattle.std.proofs.Common.{◌≡◌, ℕ, ◌≤◌, false, List, [], ◌∷◌, ◌++◌, take, refl, ◌∙◌, subst, append_assoc}
use Rattle.wire_base.specs.declared.talk.Piece.{Piece}
use Rattle.wire_base.specs.declared.talk.Piece.TheVariants.{In}
use Rattle.lumber_client.specs.Exchange.{Exchange, with_heard, with_talk}
use Rattle.lumber_client.specs.Held.{Held}
use Rattle.lumber_client.specs.Newly.{KeepsParcels, is_fault}
use Rattle.lumber_client.specs.declared.heard.Heard.{Heard}
use Rattle.lumber_client.specs.declared.heard.Heard.TheVariants.{More, Alive, Acked, PeerFault}
use Rattle.lumber_client.specs.Standing.{StandsFor}
use Rattle.lumber_client.proofs.Alike.{joined_fault, pieces_join}
use Rattle.lumber_frame.specs.PeerFault.{HasPeerFault}
use Rattle.spool_queue.specs.SendSoFar.{with_bytes}

-- ---- hearing

-- the first so many bytes were given, and none of them made a fault
pub record HearsOn (old new : Held) (bytes : List ℕ) (number : ℕ) : Type 0 where
  pub kept : KeepsParcels old new
  pub more : old.acknowledged ≤ new.acknowledged
  pub fine : new.hearing.failed ≡ false
  pub heard : (e : Exchange) → StandsFor old e → StandsFor new (with_talk e (with_bytes e.talk (take number bytes)))

pub heard_more : (window : Held) (e : Exchange) (fed : List ℕ) (byte : ℕ) → StandsFor window (with_heard (with_talk e (with_bytes e.talk fed)) byte) → StandsFor window (with_talk e (with_bytes e.talk (fed ++ byte ∷ [])))
heard_more w e [] byte s = s
heard_more w e (first ∷ fed) byte s =
    let one : Piece = In (first ∷ fed) in
    let two : Piece = In (byte ∷ []) in
    pieces_join w e e.talk (first ∷ fed) (byte ∷ []) (subst (λ (talk : List Piece). StandsFor w (with_talk e talk)) (append_assoc e.talk (one ∷ []) (two ∷ [])) s)

pub fault_more : (talk : List Piece) (fed : List ℕ) (byte : ℕ) → HasPeerFault (with_bytes talk fed ++ In (byte ∷ []) ∷ []) → HasPeerFault (with_bytes talk (fed ++ byte ∷ []))
fault_more talk [] byte fault = fault
fault_more talk (first ∷ fed) byte fault =
    let one : Piece = In (first ∷ fed) in
    let two : Piece = In (byte ∷ []) in
    joined_fault talk (first ∷ fed) (byte ∷ []) (subst HasPeerFault (append_assoc talk (one ∷ []) (two ∷ [])) fault)

pub keeps_on : (old mid new : Held) → KeepsParcels old mid → KeepsParcels mid new → KeepsParcels old new
keeps_on old mid new first then = record {
  most = then.most ∙ first.most;
  depth = then.depth ∙ first.depth;
  parcels = then.parcels ∙ first.parcels;
  begun = then.begun ∙ first.begun;
  out = then.out ∙ first.out;
  behind = then.behind ∙ first.behind;
}

pub fine_still : (heard : Heard) → ((place : ℕ) → heard ≡ PeerFault place → ⊥) → is_fault heard ≡ false
fine_still More none = refl
fine_still Alive none = refl
fine_still (Acked from to) none = refl
fine_still (PeerFault at) none = absurd (none at refl)
