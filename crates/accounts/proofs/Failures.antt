-- Failures in a row: with more moments, with one more of them, and how many of the last ones acknowledge nothing new.
use Rattle.std.proofs.Common.{◌≡◌, ℕ, ◌-◌, ◌≤◌, List, [], ◌∷◌, ◌++◌, length, take, drop, inl, inr, refl, sym, ap, subst, ◌∙◌, append_assoc, arith}
use Rattle.std.specs.List.{AllByRecursion}
use Rattle.std.proofs.lemmas.List.{append_cancel_left, length-drop, take-append-drop}
use Rattle.batch_worker.specs.Acknowledged.{AcknowledgeInAll}
use Rattle.kept_rows.specs.Failures.{AcknowledgesNothing, AreFailures, HasLastFailures, OnlyTheFirstAcknowledges}
use Rattle.lumber_frame.specs.Acknowledged.{Acknowledges, acknowledgements, answers, payloads_by}
use Rattle.lumber_frame.specs.Talk.{in_bytes, out_bytes}
use Rattle.lumber_frame.proofs.WindowBytes.{are_once}
use Rattle.outside.specs.Wires.{Finished, Outcome, Refused}
use Rattle.told_events.specs.Licence.{LieApart}
use Rattle.wire_base.specs.declared.talk.Piece.{Piece}

-- ---- moments

apart_behind : (used own : List ℕ) (distance : ℕ) → LieApart own distance → LieApart (used ++ own) distance
apart_behind used own distance lie = record {
  before = used ++ lie.before;
  earlier = lie.earlier;
  between = lie.between;
  later = lie.later;
  behind = lie.behind;
  are = ap (λ (l : List ℕ). used ++ l) lie.are ∙ sym (append_assoc used lie.before (lie.earlier ∷ (lie.between ++ lie.later ∷ lie.behind)));
  apart = lie.apart;
}

module _ (timeout : ℕ) where
  pub failures_later : (outcomes : List Outcome) (used more : List ℕ) → AreFailures timeout outcomes used → AreFailures timeout outcomes (used ++ more)
  failures_later [] used more fail = tt
  failures_later (Refused ∷ outcomes) used more fail = failures_later outcomes used more fail
  failures_later (Finished talk faults idles ∷ outcomes) used more (inl at_once) = inl (at_once.0, failures_later outcomes used more at_once.1)
  failures_later (Finished talk faults idles ∷ outcomes) used more (inr late) = inr (record {
    unanswered = late.unanswered;
    own = late.own;
    left = late.left ++ more;
    moments_are = ap (λ (l : List ℕ). l ++ more) late.moments_are ∙ append_assoc late.own late.left more;
    apart = late.apart;
    later = failures_later outcomes late.left more late.later;
  })

  one_behind : (one : Outcome) (used own : List ℕ) → AreFailures timeout (one ∷ []) own → AreFailures timeout (one ∷ []) (used ++ own)
  one_behind Refused used own fails = tt
  one_behind (Finished talk faults idles) used own (inl at_once) = inl (at_once.0, tt)
  one_behind (Finished talk faults idles) used own (inr late) = inr (record {
    unanswered = late.unanswered;
    own = used ++ late.own;
    left = late.left;
    moments_are = ap (λ (l : List ℕ). used ++ l) late.moments_are ∙ sym (append_assoc used late.own late.left);
    apart = apart_behind used late.own timeout late.apart;
    later = tt;
  })

  -- with one more, by moments after those of the others
  pub failures_with : (outcomes : List Outcome) (one : Outcome) (used own : List ℕ) → AreFailures timeout outcomes used → AreFailures timeout (one ∷ []) own → AreFailures timeout (outcomes ++ one ∷ []) (used ++ own)
  failures_with [] one used own fail fails = one_behind one used own fails
  failures_with (Refused ∷ outcomes) one used own fail fails = failures_with outcomes one used own fail fails
  failures_with (Finished talk faults idles ∷ outcomes) one used own (inl at_once) fails = inl (at_once.0, failures_with outcomes one used own at_once.1 fails)
  failures_with (Finished talk faults idles ∷ outcomes) one used own (inr late) fails = inr (record {
    unanswered = late.unanswered;
    own = late.own;
    left = late.left ++ own;
    moments_are = ap (λ (l : List ℕ). l ++ own) late.moments_are ∙ append_assoc late.own late.left own;
    apart = late.apart;
    later = failures_with outcomes one late.left own late.later fails;
  })

-- ---- what acknowledges nothing

-- a talk acknowledges one list of payloads
pub one_reading : (talk : List Piece) (p q : List (List ℕ)) → Acknowledges talk p → Acknowledges talk q → p ≡ q
one_reading talk p q first second =
    let windows = are_once (out_bytes talk) first.windows second.windows first.sent second.sent in
    first.are ∙ ap (λ (ws : List (List (List ℕ))). payloads_by (answers ws talk [] 0 (acknowledgements (in_bytes talk))) 1 ws) windows ∙ sym second.are

front_none : {A : Type 0} (front rest : List A) → front ++ rest ≡ [] → front ≡ []
front_none [] rest is = refl
front_none (x ∷ front) rest is = absurd cc

same_rest : (first other rest behind : List (List ℕ)) → first ≡ other → first ++ rest ≡ other ++ behind → rest ≡ behind
same_rest first other rest behind same is = append_cancel_left first rest behind (is ∙ ap (λ (l : List (List ℕ)). l ++ behind) (sym same))

-- the last of outcomes acknowledges nothing where the others acknowledge all
pub nothing_by : (outcomes : List Outcome) (one : Outcome) (payloads : List (List ℕ)) → AcknowledgeInAll outcomes payloads → AcknowledgeInAll (outcomes ++ one ∷ []) payloads → AcknowledgesNothing one
nothing_by [] Refused payloads were are = tt
nothing_by [] (Finished talk faults idles) payloads were are =
    subst (Acknowledges talk.pieces) (front_none are.first are.rest (sym are.are ∙ were)) are.acknowledges
nothing_by (Refused ∷ outcomes) one payloads were are = nothing_by outcomes one payloads were are
nothing_by (Finished talk faults idles ∷ outcomes) one payloads were are =
    let same = one_reading talk.pieces are.first were.first are.acknowledges were.acknowledges in
    nothing_by outcomes one were.rest were.others (subst (AcknowledgeInAll (outcomes ++ one ∷ [])) (same_rest are.first were.first are.rest were.rest same (sym are.are ∙ were.are)) are.others)

nothing_with : (outcomes : List Outcome) (one : Outcome) → AllByRecursion AcknowledgesNothing outcomes → AcknowledgesNothing one → AllByRecursion AcknowledgesNothing (outcomes ++ one ∷ [])
nothing_with [] one each nothing = (nothing, tt)
nothing_with (outcome ∷ outcomes) one each nothing = (each.0, nothing_with outcomes one each.1 nothing)

pub only_first_with : (last : List Outcome) (one : Outcome) → OnlyTheFirstAcknowledges last → AcknowledgesNothing one → OnlyTheFirstAcknowledges (last ++ one ∷ [])
only_first_with [] one only nothing = tt
only_first_with (first ∷ others) one only nothing = nothing_with others one only nothing

nothing_behind : (front back : List Outcome) → AllByRecursion AcknowledgesNothing (front ++ back) → AllByRecursion AcknowledgesNothing back
nothing_behind [] back each = each
nothing_behind (outcome ∷ front) back each = nothing_behind front back each.1

only_first_of : (outcomes : List Outcome) → AllByRecursion AcknowledgesNothing outcomes → OnlyTheFirstAcknowledges outcomes
only_first_of [] each = tt
only_first_of (outcome ∷ outcomes) each = each.1

only_first_behind : (front back : List Outcome) → OnlyTheFirstAcknowledges (front ++ back) → OnlyTheFirstAcknowledges back
only_first_behind [] back only = only
only_first_behind (first ∷ front) back only = only_first_of back (nothing_behind front back only)

-- ---- as many as are asked for

-- the last of failures, if at least this many have nothing new after the first
pub last_so_many : (timeout attempts : ℕ) (moments : List ℕ) (outcomes earlier last : List Outcome) → outcomes ≡ earlier ++ last → attempts ≤ length last → OnlyTheFirstAcknowledges last → AreFailures timeout outcomes moments
    → HasLastFailures timeout attempts moments outcomes
last_so_many timeout attempts moments outcomes earlier last are enough only fail =
    let front = take (length last - attempts) last in
    let back = drop (length last - attempts) last in
    let parts : front ++ back ≡ last = take-append-drop (length last - attempts) last in
    let all : outcomes ≡ (earlier ++ front) ++ back = are ∙ ap (λ (l : List Outcome). earlier ++ l) (sym parts) ∙ sym (append_assoc earlier front back) in
    record {
      earlier = earlier ++ front;
      last = back;
      are = all;
      number = omega (arith, length-drop (length last - attempts) last, enough);
      nothing_new = only_first_behind front back (subst OnlyTheFirstAcknowledges (sym parts) only);
      failures = subst (λ (l : List Outcome). AreFailures timeout l moments) all fail;
    }
