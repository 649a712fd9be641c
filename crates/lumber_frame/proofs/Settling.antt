-- A talk whose windows were acknowledged in full, and what it acknowledges.
use Rattle.std.proofs.Common.{◌≡◌, ℕ, zero, suc, ◌+◌, ◌^◌, ◌<◌, List, [], ◌∷◌, ◌++◌, length, get_or, take, refl, sym, ap, ◌∙◌, arith}
use Rattle.std.specs.List.{AllByRecursion, flat_map}
use Rattle.std.proofs.lemmas.List.{append-nil, take_all}
use Rattle.wire_base.specs.declared.talk.Piece.{Piece}
use Rattle.lumber_frame.specs.declared.frame.Frame.TheVariants.{Ack}
use Rattle.lumber_frame.specs.Frame.{frame_bytes}
use Rattle.lumber_frame.specs.Talk.{in_bytes, out_bytes}
use Rattle.lumber_frame.specs.Window.{AreWindows, BeginsWithWindow, window_bytes}
use Rattle.lumber_frame.specs.Acknowledged.{Answer, Acknowledges, acknowledgements, answers, count_at, greatest, payloads_by}
use Rattle.lumber_frame.specs.Settled.{IsSettled, ack_bytes}
use Rattle.lumber_frame.proofs.Frames.{written}
use Rattle.lumber_frame.proofs.Answering.{ack_step}

-- no bytes begin with a window
pub none_in_nothing : (payloads : List (List ℕ)) (more : List ℕ) → BeginsWithWindow [] payloads more → ⊥
none_in_nothing payloads more begins = absurd cc

-- numbers that are written are read again, and then those of what follows
pub numbers_read : (numbers bytes : List ℕ) → AllByRecursion (λ number. number < 2 ^ 32) numbers → acknowledgements (ack_bytes numbers ++ bytes) ≡ numbers ++ acknowledgements bytes
numbers_read [] bytes small = refl
numbers_read (number ∷ numbers) bytes small =
    let first = ack_step (frame_bytes (Ack number) ++ (ack_bytes numbers ++ bytes)) number 6 (written (Ack number) (ack_bytes numbers ++ bytes) small.0) in
    first.1 ∙ ap (λ (others : List ℕ). number ∷ others) (numbers_read numbers bytes small.1)

-- and no others where nothing follows
pub numbers_back : (numbers : List ℕ) → AllByRecursion (λ number. number < 2 ^ 32) numbers → acknowledgements (ack_bytes numbers) ≡ numbers
numbers_back numbers small = ap acknowledgements (sym (append-nil (ack_bytes numbers))) ∙ numbers_read numbers [] small ∙ append-nil numbers

-- windows that were acknowledged in full give all their payloads
all_given : (given : List Answer) (number : ℕ) (windows : List (List (List ℕ))) → ((i : ℕ) → greatest (number + i) given ≡ length (get_or windows i [])) → payloads_by given number windows ≡ flat_map (λ window. window) windows
all_given given number [] each = refl
all_given given number (window ∷ windows) each =
    let here : number + 0 ≡ number = omega arith in
    let most : greatest number given ≡ length window = ap (λ (k : ℕ). greatest k given) (sym here) ∙ each 0 in
    let whole : take (greatest number given) window ≡ window = take_all (greatest number given) window (omega (arith, most)) in
    let others = all_given given (suc number) windows (λ i.
    let next : suc number + i ≡ number + suc i = omega arith in
    ap (λ (k : ℕ). greatest k given) next ∙ each (suc i)) in
    ap (λ (front : List (List ℕ)). front ++ payloads_by given (suc number) windows) whole ∙ ap (λ (tail : List (List ℕ)). window ++ tail) others

-- the windows that were sent are the windows of the talk
pub windows_are : (talk : List Piece) (windows : List (List (List ℕ))) → IsSettled talk windows → AreWindows (out_bytes talk) windows
windows_are talk windows settled =
    record { each = settled.each; rest = []; whole = settled.sent ∙ sym (append-nil (flat_map window_bytes windows)); cut = none_in_nothing }

-- the numbers that were received are the numbers of the talk
pub numbers_are : (talk : List Piece) (windows : List (List (List ℕ))) (settled : IsSettled talk windows) → acknowledgements (in_bytes talk) ≡ settled.numbers
numbers_are talk windows settled = ap acknowledgements settled.received ∙ numbers_back settled.numbers settled.small

-- what is settled is acknowledged
pub settled_is : (talk : List Piece) (windows : List (List (List ℕ))) → IsSettled talk windows → Acknowledges talk (flat_map (λ window. window) windows)
settled_is talk windows settled =
    let given = answers windows talk [] 0 settled.numbers in
    let all = all_given given 1 windows (λ i.
    let next : 1 + i ≡ suc i = omega arith in
    ap (λ (k : ℕ). greatest k given) next ∙ settled.in_full (suc i)) in
    record {
      windows = windows;
      sent = windows_are talk windows settled;
      are = sym all ∙ ap (λ (ns : List ℕ). payloads_by (answers windows talk [] 0 ns) 1 windows) (sym (numbers_are talk windows settled));
    }

-- nothing is settled in a talk of nothing
pub nothing : IsSettled [] []
nothing = record { each = tt; sent = refl; numbers = []; small = tt; received = refl; faultless = refl; in_full = none }
  where
    none : (window : ℕ) → greatest window [] ≡ count_at [] window
    none zero = refl
    none (suc before) = refl
