-- Two windows are out, one of the payloads A and B and one of C. The acknowledgements 1, 2 and 1 acknowledge A, B and C;
-- a further 1 changes nothing and is no fault, and a further 2 is a peer's fault; so is 3, if it comes first.
use Rattle.std.proofs.Common.{ℕ, List, [], ◌∷◌, ◌++◌, lit<, refl, arith, inl}
use Rattle.std.specs.List.{flat_map}
use Rattle.wire_base.specs.declared.talk.Piece.{Piece}
use Rattle.wire_base.specs.declared.talk.Piece.TheVariants.{Out, In}
use Rattle.lumber_frame.specs.Acknowledged.{Acknowledges}
use Rattle.lumber_frame.specs.PeerFault.{HasPeerFault}
use Rattle.lumber_frame.specs.Settled.{ack_bytes}
use Rattle.lumber_frame.specs.Talk.{out_bytes}
use Rattle.lumber_frame.specs.Window.{AreWindows, window_bytes}
use Rattle.lumber_frame.proofs.Faults.{no_fault, none_begins}
use Rattle.lumber_frame.proofs.Settling.{none_in_nothing}

abbrev first : List (List ℕ)
first = (0x61 ∷ []) ∷ (0x62 ∷ []) ∷ []

abbrev second : List (List ℕ)
second = (0x63 ∷ []) ∷ []

abbrev windows : List (List (List ℕ))
windows = first ∷ second ∷ []

-- both windows go out, and then the acknowledgements come
abbrev talk_of : List ℕ → List Piece
talk_of numbers = Out (flat_map window_bytes windows) ∷ In (ack_bytes numbers) ∷ []

are_sent : (numbers : List ℕ) → AreWindows (out_bytes (talk_of numbers)) windows
are_sent numbers = record {
  each = (
    record { some = lit< tt; few = lit< tt; each = (omega arith, (omega arith, tt)) },
    (record { some = lit< tt; few = lit< tt; each = (omega arith, tt) }, tt),
  );
  rest = [];
  whole = refl;
  cut = none_in_nothing;
}

in_turn : Acknowledges (talk_of (1 ∷ 2 ∷ 1 ∷ [])) (first ++ second)
in_turn = record { windows = windows; sent = are_sent (1 ∷ 2 ∷ 1 ∷ []); are = refl }

further_one : Acknowledges (talk_of (1 ∷ 2 ∷ 1 ∷ 1 ∷ [])) (first ++ second)
further_one = record { windows = windows; sent = are_sent (1 ∷ 2 ∷ 1 ∷ 1 ∷ []); are = refl }

further_one_is_no_fault : HasPeerFault (talk_of (1 ∷ 2 ∷ 1 ∷ 1 ∷ [])) → ⊥
further_one_is_no_fault = no_fault (talk_of (1 ∷ 2 ∷ 1 ∷ 1 ∷ [])) windows (1 ∷ 2 ∷ 1 ∷ 1 ∷ []) [] (are_sent (1 ∷ 2 ∷ 1 ∷ 1 ∷ [])) refl (lit< tt, (lit< tt, (lit< tt, (lit< tt, tt)))) refl refl none_begins

further_two_is_a_fault : HasPeerFault (talk_of (1 ∷ 2 ∷ 1 ∷ 2 ∷ []))
further_two_is_a_fault =
    record { windows = windows; sent = are_sent (1 ∷ 2 ∷ 1 ∷ 2 ∷ []); fault = inl (3, record { there = lit< tt; earlier = refl; above = lit< tt }) }

three_first_is_a_fault : HasPeerFault (talk_of (3 ∷ []))
three_first_is_a_fault =
    record { windows = windows; sent = are_sent (3 ∷ []); fault = inl (0, record { there = lit< tt; earlier = refl; above = lit< tt }) }
