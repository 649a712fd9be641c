-- One more window that is not acknowledged in full.
use Rattle.std.proofs.Common.{◌≡◌, ℕ, suc, ◌+◌, ◌^◌, ◌<◌, List, [], ◌∷◌, ◌++◌, length, take, sym, ap, subst, append_assoc, arith}
use Rattle.std.specs.List.{All, flat_map}
use Rattle.std.proofs.lemmas.List.{length-append, length-take}
use Rattle.std.proofs.lemmas.List.Elements.{recursion_from_All}
use Rattle.wire_base.specs.declared.talk.Piece.{Piece}
use Rattle.lumber_frame.specs.Talk.{in_bytes, out_bytes}
use Rattle.lumber_frame.specs.Window.{window_bytes, IsWindow}
use Rattle.lumber_frame.specs.Acknowledged.{Acknowledges, Answer, answers, greatest, payloads_by}
use Rattle.lumber_frame.specs.Settled.{IsSettled, ack_bytes}
use Rattle.lumber_frame.proofs.GoingOn.{all_both}
use Rattle.lumber_frame.proofs.OneMoreWindow.{below_then, below_too, received_first, sent_first, small_too}
use Rattle.lumber_frame.proofs.Faults.{behind_is, few_read, received_then, windows_then}

-- if the last window has not its count, fewer payloads are given than there are
fewer_given : (given : List Answer) (number : ℕ) (windows : List (List (List ℕ))) (payloads : List (List ℕ)) → greatest (number + length windows) given < length payloads →
    length (payloads_by given number (windows ++ payloads ∷ [])) < length (flat_map (λ window. window) (windows ++ payloads ∷ []))
fewer_given given number [] payloads fewer =
    let here : number + 0 ≡ number = omega arith in
    let most = greatest number given in
    omega (arith, ap (λ (k : ℕ). greatest k given) here, fewer, length-append (take most payloads) [], length-take most payloads, length-append payloads [])
fewer_given given number (window ∷ windows) payloads fewer =
    let next : number + suc (length windows) ≡ suc number + length windows = omega arith in
    let most = greatest number given in
    let others = fewer_given given (suc number) windows payloads (omega (arith, ap (λ (k : ℕ). greatest k given) next, fewer)) in
    let all = windows ++ payloads ∷ [] in
    omega (arith, others, length-append (take most window) (payloads_by given (suc number) all), length-take most window, length-append window (flat_map (λ w. w) all))

-- acknowledgements below the count of one more window, after which another may have begun
pub fewer_acknowledged : (talk sent heard : List Piece) (windows : List (List (List ℕ))) (payloads : List (List ℕ)) (numbers bytes : List ℕ) → IsSettled talk windows → IsWindow payloads → out_bytes sent ≡ window_bytes payloads → in_bytes sent ≡ [] → out_bytes heard ≡ [] → in_bytes heard ≡ ack_bytes numbers ++ bytes → All (λ number. number < length payloads) numbers → length bytes < 6 →
    (acknowledged : List (List ℕ)) × Acknowledges ((talk ++ sent) ++ heard) acknowledged × (length acknowledged < length (flat_map (λ window. window) (windows ++ payloads ∷ [])))
fewer_acknowledged talk sent heard windows payloads numbers bytes settled is out silent quiet received below short =
    let more = sent ++ heard in
    let all = windows ++ payloads ∷ [] in
    let old = settled.numbers ++ numbers in
    let window = sent_first sent heard payloads is out silent quiet in
    let each = recursion_from_All (λ number. number < length payloads) numbers below in
    let small = all_both (λ number. number < 2 ^ 32) settled.numbers numbers settled.small (small_too (length payloads) numbers is.few (below_too (length payloads) numbers each)) in
    let spelled = received_then talk more windows numbers bytes settled (received_first sent heard (ack_bytes numbers ++ bytes) silent received) in
    let read = (behind_is (in_bytes (talk ++ more)) old bytes spelled small (few_read bytes short)).0 in
    let given = answers all (talk ++ more) [] 0 old in
    let acknowledged = payloads_by given 1 all in
    let last : 1 + length windows ≡ suc (length windows) = omega arith in
    let fewer = fewer_given given 1 windows payloads (omega (arith, ap (λ (k : ℕ). greatest k given) last, below_then talk more windows payloads numbers settled window each)) in
    let acknowledges : Acknowledges (talk ++ more) acknowledged = record {
      windows = all;
      sent = windows_then talk more windows payloads settled window;
      are = ap (λ (ns : List ℕ). payloads_by (answers all (talk ++ more) [] 0 ns) 1 all) (sym read);
    } in
    (acknowledged, subst (λ (pieces : List Piece). Acknowledges pieces acknowledged) (sym (append_assoc talk sent heard)) acknowledges, fewer)
