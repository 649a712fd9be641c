-- Windows of the parcels A and B and of C are begun and out. The acknowledgements 1, 2 and 1 acknowledge A, B and C; the byte
-- that ends the first of them tells that one more is acknowledged, and neither that the peer is alive nor that more has to
-- come. A frame whose first byte came before the windows were out acknowledges nothing.
use Rattle.std.proofs.Common.{◌≡◌, ℕ, List, [], ◌∷◌, lit<, refl, arith}
use Rattle.std.specs.List.{flat_map}
use Rattle.wire_base.specs.declared.parcel.Parcel.{Parcel}
use Rattle.wire_base.specs.declared.talk.Piece.{Piece}
use Rattle.wire_base.specs.declared.talk.Piece.TheVariants.{Out, In}
use Rattle.lumber_frame.specs.PeerFault.{HasPeerFault}
use Rattle.lumber_frame.specs.Settled.{ack_bytes}
use Rattle.lumber_frame.specs.Window.{AreWindows, window_bytes}
use Rattle.lumber_frame.specs.Talk.{out_bytes}
use Rattle.lumber_frame.proofs.Faults.{no_fault, none_begins}
use Rattle.lumber_frame.proofs.Settling.{none_in_nothing}
use Rattle.lumber_client.specs.declared.heard.Heard.TheVariants.{More, Alive, Acked}
use Rattle.lumber_client.specs.Answer.{IsAnswerTo}
use Rattle.lumber_client.specs.Exchange.{Exchange, acknowledged_in, with_heard, windows_of}

module _ (any : Parcel) where
  abbrev a : Parcel
  a = record any { payload = 0x61 ∷ [] }

  abbrev b : Parcel
  b = record any { payload = 0x62 ∷ [] }

  abbrev c : Parcel
  c = record any { payload = 0x63 ∷ [] }

  abbrev begun : List (List Parcel)
  begun = (a ∷ b ∷ []) ∷ (c ∷ []) ∷ []

  abbrev with_pieces : List Piece → Exchange
  with_pieces talk = record { talk = talk; begun = begun; earlier = []; handed = [] }

  abbrev sent : List ℕ
  sent = flat_map window_bytes (windows_of begun)

  -- both windows go out, and then these bytes come
  abbrev given : List ℕ → Exchange
  given bytes = with_pieces (Out sent ∷ In bytes ∷ [])

  in_turn : acknowledged_in (given (ack_bytes (1 ∷ 2 ∷ 1 ∷ []))) ≡ a ∷ b ∷ c ∷ []
  in_turn = refl

  a_part : acknowledged_in (given (ack_bytes (1 ∷ []))) ≡ a ∷ []
  a_part = refl

  twice : acknowledged_in (given (ack_bytes (1 ∷ 1 ∷ []))) ≡ a ∷ []
  twice = refl

  too_early : acknowledged_in (with_pieces (In (0x32 ∷ 0x41 ∷ []) ∷ Out sent ∷ In (0 ∷ 0 ∷ 0 ∷ 1 ∷ []) ∷ [])) ≡ []
  too_early = refl

  -- the first five bytes of an acknowledgement came
  abbrev five : Exchange
  five = given (0x32 ∷ 0x41 ∷ 0 ∷ 0 ∷ 0 ∷ [])

  are_sent : AreWindows (out_bytes (with_heard five 1).talk) (windows_of begun)
  are_sent = record {
    each = (
      record { some = lit< tt; few = lit< tt; each = (omega arith, (omega arith, tt)) },
      (record { some = lit< tt; few = lit< tt; each = (omega arith, tt) }, tt),
    );
    rest = [];
    whole = refl;
    cut = none_in_nothing;
  }

  no_fault_yet : HasPeerFault (with_heard five 1).talk → ⊥
  no_fault_yet = no_fault (with_heard five 1).talk (windows_of begun) (1 ∷ []) [] are_sent refl (lit< tt, tt) refl refl none_begins

  is_acked : IsAnswerTo five 1 (Acked 0 1)
  is_acked = record {
    no_fault = no_fault_yet;
    whole = (1, refl);
    more = lit< tt;
    was = refl;
    is = refl;
    parcels = a ∷ [];
    number = refl;
    newly = refl;
  }

  is_no_sign_of_life : IsAnswerTo five 1 Alive → ⊥
  is_no_sign_of_life answer = none_of_some answer.nothing_new
    where
      none_of_some : a ∷ [] ≡ [] → ⊥
      none_of_some same = absurd cc

  is_not_unended : IsAnswerTo five 1 More → ⊥
  is_not_unended answer = answer.cut (1, refl)
