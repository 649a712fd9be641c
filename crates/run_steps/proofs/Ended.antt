-- Lanes and workers that are let go, from the last one on.
use Rattle.std.proofs.Common.{◌≡◌, All, List, [], ◌∷◌, ◌++◌, length, refl, sym, ap, subst, ◌∙◌, arith}
use Rattle.std.proofs.lemmas.List.{append_assoc, append-nil, map-append}
use Rattle.lanes.specs.Laning.{Laning, laning}
use Rattle.lanes.specs.declared.lane.Lane.{Lane}
use Rattle.rounds.specs.Crewed.{lanings}
use Rattle.rounds.specs.Words.{LinkWords, WireWords}
use Rattle.rounds.specs.declared.carrier.Carrier.{Carrier}
use Rattle.rounds.proofs.Making.{all_but_last, last_of}
use Rattle.run_steps.specs.CarriersEnd.{EndsCarriers, PutsWire}

pub nil_by : {A : Type 0} (xs : List A) → length xs ≡ 0 → xs ≡ []
nil_by [] none = refl
nil_by (x ∷ xs) none = absurd (omega (arith, none))

-- ---- lanes

module _ {T : Type 0} (P : Laning T → Type 0) (all left : List (Lane T)) (one : Lane T) (is : all ≡ left ++ one ∷ []) (each : All P (lanings all)) where
  lanes_are : lanings all ≡ lanings left ++ laning one ∷ []
  lanes_are = ap lanings is ∙ map-append laning left (one ∷ [])

  pub lanes_left : All P (lanings left)
  lanes_left = all_but_last P (lanings all) (lanings left) (laning one) lanes_are each

  pub lane_let_go : P (laning one)
  lane_let_go = last_of P (lanings all) (lanings left) (laning one) lanes_are each

-- ---- workers

module _ {W L : Type 0} (links : LinkWords L) (wires : WireWords W) where
  -- some of them ended
  pub record EndedSome (all left : List (Carrier W L)) (old new : List W) : Type 0 where
    pub ended : List (Carrier W L)
    pub are : all ≡ left ++ ended
    pub ends : EndsCarriers links wires ended old new

  pub none_ended : (all : List (Carrier W L)) (old : List W) → EndedSome all all old old
  none_ended all old = record { ended = []; are = sym (append-nil all); ends = record { ended = []; is = refl; each = tt } }

  pub ended_on : (all left now : List (Carrier W L)) (one : Carrier W L) (old mid new : List W) → EndedSome all left old mid → left ≡ now ++ one ∷ [] → PutsWire links wires one mid new → EndedSome all now old new
  ended_on all left now one old mid new so_far is puts = record {
    ended = one ∷ so_far.ended;
    are = so_far.are ∙ ap (λ (l : List (Carrier W L)). l ++ so_far.ended) is ∙ append_assoc now (one ∷ []) so_far.ended;
    ends = record {
      ended = puts.wire ∷ so_far.ends.ended;
      is = puts.is ∙ ap (λ (l : List W). puts.wire ∷ l) so_far.ends.is;
      each = (puts.ends, so_far.ends.each);
    };
  }

  pub all_ended : (all left : List (Carrier W L)) (old new : List W) → EndedSome all left old new → length left ≡ 0 → EndsCarriers links wires all old new
  all_ended all left old new so_far none =
      subst (λ (l : List (Carrier W L)). EndsCarriers links wires l old new) (sym (so_far.are ∙ ap (λ (l : List (Carrier W L)). l ++ so_far.ended) (nil_by left none))) so_far.ends
