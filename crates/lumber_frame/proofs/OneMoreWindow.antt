-- One more window that is acknowledged in full.
use Rattle.std.proofs.Common.{◌≡◌, ℕ, zero, suc, ◌+◌, ◌*◌, ◌-◌, ◌^◌, ◌<◌, ◌≤◌, List, [], ◌∷◌, ◌++◌, length, get_or, refl, sym, ap, subst, ◌∙◌, append_assoc, arith, inl, inr}
use Rattle.std.specs.List.{All, AllByRecursion, Contains, flat_map}
use Rattle.std.proofs.Math.Seq.{get_or-append_seam}
use Rattle.std.proofs.lemmas.Bool.{cases_lt, le-leb}
use Rattle.std.proofs.lemmas.Bool.Decides.{leb_tells, eqb_tells}
use Rattle.std.proofs.lemmas.List.{length-append, append-nil, get_or_past}
use Rattle.std.proofs.lemmas.List.Concat.{flat_map-append}
use Rattle.std.proofs.lemmas.List.Elements.{recursion_from_All}
use Rattle.wire_base.specs.declared.talk.Piece.{Piece}
use Rattle.lumber_frame.specs.declared.frame.Frame.TheVariants.{Ack}
use Rattle.lumber_frame.specs.Frame.{frame_bytes}
use Rattle.lumber_frame.specs.Talk.{in_bytes, out_bytes, out_before}
use Rattle.lumber_frame.specs.Window.{window_bytes, IsWindow}
use Rattle.lumber_frame.specs.Acknowledged.{Answer, answers, asked, count_at, greatest, whole_within}
use Rattle.lumber_frame.specs.Settled.{IsSettled, ack_bytes}
use Rattle.lumber_frame.proofs.Answering.{length-window}
use Rattle.lumber_frame.proofs.GoingOn.{all_both}
use Rattle.lumber_frame.proofs.Staying.{in_append, out_append, before_most, whole_stays, count_stays, answers_stay}
use Rattle.lumber_frame.proofs.Asking.{answers_next, answers_through, asked_last, greatest-append}
use Rattle.wire_base.specs.declared.talk.Piece.TheVariants.{Out, In}

-- ---- places

-- an acknowledgement takes six bytes
pub length-acks : (numbers : List ℕ) → length (ack_bytes numbers) ≡ 6 * length numbers
length-acks [] = refl
length-acks (number ∷ numbers) = omega (arith, length-append (frame_bytes (Ack number)) (ack_bytes numbers), length-acks numbers)

-- what was out before a byte of what follows
before_behind : (talk more : List Piece) (place : ℕ) → out_before (talk ++ more) (length (in_bytes talk) + place) ≡ length (out_bytes talk) + out_before more place
before_behind [] more place =
    let same : 0 + place ≡ place = omega arith in
    omega (arith, ap (out_before more) same)
before_behind (Out bytes ∷ talk) more place = omega (arith, length-append bytes (out_bytes talk), before_behind talk more place)
before_behind (In bytes ∷ talk) more place =
    elim (leb_tells (suc (length (bytes ++ in_bytes talk) + place)) (length bytes)) [
      | inl is ↦ absurd (omega (arith, is.1, length-append bytes (in_bytes talk)))
      | inr is ↦
          let same : length (bytes ++ in_bytes talk) + place - length bytes ≡ length (in_bytes talk) + place = omega (arith, length-append bytes (in_bytes talk)) in
          rw (is.0, same) (before_behind talk more place)
    ]

-- ---- windows

-- all windows are within their bytes, and within more
pub whole_all : (windows : List (List (List ℕ))) (out : ℕ) → length (flat_map window_bytes windows) ≤ out → whole_within windows out ≡ length windows
whole_all [] out is = refl
whole_all (window ∷ windows) out is =
    let size = length-append (window_bytes window) (flat_map window_bytes windows) in
    let others = whole_all windows (out - length (window_bytes window)) (omega (arith, size, is)) in
    rw (le-leb (length (window_bytes window)) out (omega (arith, size, is)), others) refl

-- no window is within no bytes
none_out : (payloads : List (List ℕ)) (out : ℕ) → out ≤ 0 → whole_within (payloads ∷ []) out ≡ 0
none_out payloads out few =
    elim (leb_tells (length (window_bytes payloads)) out) [
      | inl is ↦ absurd (omega (arith, is.1, length-window payloads))
      | inr is ↦ rw (is.0) refl
    ]

count_past : (windows : List (List (List ℕ))) (number : ℕ) → length windows < number → count_at windows number ≡ 0
count_past windows zero past = absurd (omega arith)
count_past windows (suc before) past = ap length (get_or_past windows before [] (omega arith))

pub count_last : (windows : List (List (List ℕ))) (payloads : List (List ℕ)) → count_at (windows ++ payloads ∷ []) (suc (length windows)) ≡ length payloads
count_last windows payloads = ap length (get_or-append_seam windows payloads [] [])

-- ---- answers

-- each number for one window
for_window : ℕ → List ℕ → List Answer
for_window window [] = []
for_window window (number ∷ numbers) = record { window = window; number = number } ∷ for_window window numbers

length-for_window : (window : ℕ) (numbers : List ℕ) → length (for_window window numbers) ≡ length numbers
unfolding for_window
length-for_window window [] = refl
length-for_window window (number ∷ numbers) = ap suc (length-for_window window numbers)

-- if all windows are out and each but the last was acknowledged in full, acknowledgements are for the last
answers_last : (windows : List (List (List ℕ))) (talk : List Piece) (given : List Answer) (place last most : ℕ) (numbers : List ℕ) → ((later : ℕ) → place ≤ later → whole_within windows (out_before talk later) ≡ last) → ((window : ℕ) → window < last → count_at windows window ≤ greatest window given) → count_at windows last ≡ most → AllByRecursion (λ number. number ≤ most) numbers → answers windows talk given place numbers ≡ given ++ for_window last numbers
unfolding for_window
answers_last windows talk given place last most [] whole full count few = sym (append-nil given)
answers_last windows talk given place last most (number ∷ numbers) whole full count few =
    let here = whole place (omega arith) in
    let asks : asked windows given (out_before talk place) ≡ last = asked_last windows given (out_before talk place) (λ window less. full window (omega (arith, less, here))) ∙ here in
    let answer : Answer = record { window = last; number = number } in
    let others = answers_last windows talk (given ++ answer ∷ []) (place + 6) last most numbers (λ later behind. whole later (omega arith)) (λ window less. omega (arith, full window less, greatest-append window given (answer ∷ []))) count few.1 in
    answers_next windows talk given place number numbers (omega (arith, ap (count_at windows) asks, count, few.0))
    ∙ ap (λ (w : ℕ). answers windows talk (given ++ record { window = w; number = number } ∷ []) (place + 6) numbers) asks
    ∙ others ∙ append_assoc given (answer ∷ []) (for_window last numbers)

-- no number is given for another window
greatest_elsewhere : (window last : ℕ) (numbers : List ℕ) → (last ≡ window → ⊥) → greatest window (for_window last numbers) ≡ 0
unfolding for_window
greatest_elsewhere window last [] other = refl
greatest_elsewhere window last (number ∷ numbers) other =
    elim (eqb_tells last window) [
      | inl same ↦ absurd (other same.1)
      | inr is ↦ rw (is.0) (greatest_elsewhere window last numbers other)
    ]

-- the greatest number is not above the count
greatest_few : (last most : ℕ) (numbers : List ℕ) → AllByRecursion (λ number. number ≤ most) numbers → greatest last (for_window last numbers) ≤ most
unfolding for_window
greatest_few last most [] few = omega arith
greatest_few last most (number ∷ numbers) few =
    elim (eqb_tells last last) [
      | inl is ↦ rw (is.0) (omega (arith, few.0, greatest_few last most numbers few.1))
      | inr is ↦ absurd (is.1 refl)
    ]

-- and not below a number that was given
greatest_many : (last : ℕ) (numbers : List ℕ) (i number : ℕ) → i < length numbers → number ≡ get_or numbers i number → number ≤ greatest last (for_window last numbers)
unfolding for_window
greatest_many last [] i number there is = absurd (omega arith)
greatest_many last (first ∷ numbers) zero number there is =
    elim (eqb_tells last last) [
      | inl test ↦ rw (test.0) (omega (arith, is))
      | inr test ↦ absurd (test.1 refl)
    ]
greatest_many last (first ∷ numbers) (suc i) number there is =
    elim (eqb_tells last last) [
      | inl test ↦ rw (test.0) (omega (arith, greatest_many last numbers i number (omega arith) is))
      | inr test ↦ absurd (test.1 refl)
    ]

-- ---- the talk with one more window

-- the pieces that follow are a window, and bytes that come when it is out
pub record IsSent (more : List Piece) (payloads : List (List ℕ)) : Type 0 where
  pub is : IsWindow payloads
  pub sent : out_bytes more ≡ window_bytes payloads
  pub first : (place : ℕ) → out_before more place ≡ length (window_bytes payloads)

pub sent_first : (sent heard : List Piece) (payloads : List (List ℕ)) → IsWindow payloads → out_bytes sent ≡ window_bytes payloads → in_bytes sent ≡ [] → out_bytes heard ≡ [] → IsSent (sent ++ heard) payloads
sent_first sent heard payloads is out silent quiet = record {
  is = is;
  sent = out_append sent heard ∙ ap (λ (tail : List ℕ). out_bytes sent ++ tail) quiet ∙ append-nil (out_bytes sent) ∙ out;
  first = λ place.
      let here : place ≡ length (in_bytes sent) + place = omega (arith, ap length silent) in
      omega (arith, ap (out_before (sent ++ heard)) here, before_behind sent heard place, before_most heard place, ap length quiet, ap length out);
}

-- what is received is received after the window
pub received_first : (sent heard : List Piece) (bytes : List ℕ) → in_bytes sent ≡ [] → in_bytes heard ≡ bytes → in_bytes (sent ++ heard) ≡ bytes
received_first sent heard bytes silent received = in_append sent heard ∙ ap (λ (front : List ℕ). front ++ in_bytes heard) silent ∙ received

-- and these acknowledgements of it
record IsAnswered (more : List Piece) (payloads : List (List ℕ)) (numbers : List ℕ) : Type 0 where
  window : IsSent more payloads
  received : in_bytes more ≡ ack_bytes numbers
  few : AllByRecursion (λ number. number ≤ length payloads) numbers
  full : Contains numbers (length payloads)

pub small_too : (most : ℕ) (numbers : List ℕ) → most < 2 ^ 32 → AllByRecursion (λ number. number ≤ most) numbers → AllByRecursion (λ number. number < 2 ^ 32) numbers
small_too most [] small few = tt
small_too most (number ∷ numbers) small few = (omega (arith, few.0), small_too most numbers small few.1)

-- the window is the last that was sent
pub sent_then : (talk more : List Piece) (windows : List (List (List ℕ))) (payloads : List (List ℕ)) → IsSettled talk windows → IsSent more payloads → out_bytes (talk ++ more) ≡ flat_map window_bytes (windows ++ payloads ∷ [])
sent_then talk more windows payloads settled window =
    out_append talk more ∙ ap (λ (front : List ℕ). front ++ out_bytes more) settled.sent ∙ ap (λ (tail : List ℕ). flat_map window_bytes windows ++ tail) (window.sent ∙ sym (append-nil (window_bytes payloads))) ∙ sym (flat_map-append window_bytes windows (payloads ∷ []))

-- and all windows are out then
pub whole_then : (talk more : List Piece) (windows : List (List (List ℕ))) (payloads : List (List ℕ)) (settled : IsSettled talk windows) → IsSent more payloads → (later : ℕ) → 6 * length settled.numbers ≤ later → whole_within (windows ++ payloads ∷ []) (out_before (talk ++ more) later) ≡ suc (length windows)
whole_then talk more windows payloads settled window later behind =
    let all = windows ++ payloads ∷ [] in
    let received : length (in_bytes talk) ≡ 6 * length settled.numbers = ap length settled.received ∙ length-acks settled.numbers in
    let size = ap length (flat_map-append window_bytes windows (payloads ∷ [])) in
    let bytes_all : length (out_bytes talk) + length (window_bytes payloads) ≡ length (flat_map window_bytes all) = omega (arith, size, length-append (flat_map window_bytes windows) (window_bytes payloads ++ []), length-append (window_bytes payloads) [], ap length settled.sent) in
    let place : later ≡ length (in_bytes talk) + (later - length (in_bytes talk)) = omega (arith, received, behind) in
    let out = ap (out_before (talk ++ more)) place ∙ before_behind talk more (later - length (in_bytes talk)) in
    let windows_out = whole_all all (out_before (talk ++ more) later) (omega (arith, out, window.first (later - length (in_bytes talk)), bytes_all)) in
    omega (arith, windows_out, length-append windows (payloads ∷ []))

-- each window but the last was acknowledged in full
full_before : (talk : List Piece) (windows : List (List (List ℕ))) (payloads : List (List ℕ)) (settled : IsSettled talk windows) (window : ℕ) → window < suc (length windows) → count_at (windows ++ payloads ∷ []) window ≤ greatest window (answers windows talk [] 0 settled.numbers)
full_before talk windows payloads settled window less = omega (arith, count_stays windows (payloads ∷ []) window (omega (arith, less)), settled.in_full window)

-- the answers then are the old ones, and those for the new window
answers_then : (talk more : List Piece) (windows : List (List (List ℕ))) (payloads : List (List ℕ)) (numbers : List ℕ) → (settled : IsSettled talk windows) → IsSent more payloads → AllByRecursion (λ number. number ≤ length payloads) numbers → answers (windows ++ payloads ∷ []) (talk ++ more) [] 0 (settled.numbers ++ numbers) ≡ answers windows talk [] 0 settled.numbers ++ for_window (suc (length windows)) numbers
answers_then talk more windows payloads numbers settled window few =
    let all = windows ++ payloads ∷ [] in
    let old = settled.numbers in
    let given = answers windows talk [] 0 old in
    let last = suc (length windows) in
    let received : length (in_bytes talk) ≡ 6 * length old = ap length settled.received ∙ length-acks old in
    let within : (out : ℕ) → out ≤ length (out_bytes talk) → whole_within all out ≡ whole_within windows out = λ out most.
    whole_stays windows (payloads ∷ []) [] out (none_out payloads) (omega (arith, most, ap length settled.sent, length-append (flat_map window_bytes windows) [])) in
    let before = answers_stay windows (payloads ∷ []) talk more [] 0 old within (omega (arith, received)) in
    let through = answers_through all (talk ++ more) [] 0 old numbers (omega (arith, ap length before, settled.faultless)) in
    let whole : (later : ℕ) → 0 + 6 * length old ≤ later → whole_within all (out_before (talk ++ more) later) ≡ last = λ later behind.
    whole_then talk more windows payloads settled window later (omega (arith, behind)) in
    through ∙ ap (λ (front : List Answer). answers all (talk ++ more) front (0 + 6 * length old) numbers) before
    ∙ answers_last all (talk ++ more) given (0 + 6 * length old) last (length payloads) numbers whole (full_before talk windows payloads settled) (count_last windows payloads) few

-- one more acknowledgement asks of the new window
pub asked_then : (talk more : List Piece) (windows : List (List (List ℕ))) (payloads : List (List ℕ)) (numbers : List ℕ) → (settled : IsSettled talk windows) → IsSent more payloads → AllByRecursion (λ number. number ≤ length payloads) numbers → (later : ℕ) → 6 * length settled.numbers ≤ later → asked (windows ++ payloads ∷ []) (answers (windows ++ payloads ∷ []) (talk ++ more) [] 0 (settled.numbers ++ numbers)) (out_before (talk ++ more) later) ≡ suc (length windows)
asked_then talk more windows payloads numbers settled window few later behind =
    let all = windows ++ payloads ∷ [] in
    let given = answers windows talk [] 0 settled.numbers in
    let new = for_window (suc (length windows)) numbers in
    let are = answers_then talk more windows payloads numbers settled window few in
    let whole = whole_then talk more windows payloads settled window later behind in
    asked_last all (answers all (talk ++ more) [] 0 (settled.numbers ++ numbers)) (out_before (talk ++ more) later) (λ w less. omega (arith, full_before talk windows payloads settled w (omega (arith, less, whole)), ap (greatest w) are, greatest-append w given new)) ∙ whole

-- and each acknowledgement has one
pub faultless_then : (talk more : List Piece) (windows : List (List (List ℕ))) (payloads : List (List ℕ)) (numbers : List ℕ) → (settled : IsSettled talk windows) → IsSent more payloads → AllByRecursion (λ number. number ≤ length payloads) numbers → length (answers (windows ++ payloads ∷ []) (talk ++ more) [] 0 (settled.numbers ++ numbers)) ≡ length (settled.numbers ++ numbers)
faultless_then talk more windows payloads numbers settled window few =
    let given = answers windows talk [] 0 settled.numbers in
    let new = for_window (suc (length windows)) numbers in
    omega (arith, ap length (answers_then talk more windows payloads numbers settled window few), length-append given new, length-for_window (suc (length windows)) numbers, settled.faultless, length-append settled.numbers numbers)

-- each window then has its count
full_then : (windows : List (List (List ℕ))) (payloads : List (List ℕ)) (given : List Answer) (numbers : List ℕ) → ((window : ℕ) → greatest window given ≡ count_at windows window) → AllByRecursion (λ number. number ≤ length payloads) numbers → Contains numbers (length payloads) → (window : ℕ) → greatest window (given ++ for_window (suc (length windows)) numbers) ≡ count_at (windows ++ payloads ∷ []) window
full_then windows payloads given numbers in_full few full window =
    let last = suc (length windows) in
    let both = greatest-append window given (for_window last numbers) in
    elim (cases_lt (length windows) window) [
      | inr old ↦ omega (arith, both, in_full window, greatest_elsewhere window last numbers (λ same. omega (arith, same, old)), count_stays windows (payloads ∷ []) window old)
      | inl past ↦ elim (cases_lt last window) [
        | inl later ↦ omega (arith, both, in_full window, count_past windows window past, greatest_elsewhere window last numbers (λ same. omega (arith, same, later)), count_past (windows ++ payloads ∷ []) window (omega (arith, later, length-append windows (payloads ∷ []))))
        | inr here ↦
            let same : window ≡ last = omega (arith, past, here) in
            let most = greatest_few last (length payloads) numbers few in
            let least = greatest_many last numbers full.0 (length payloads) full.1 (sym full.2) in
            omega (arith, both, in_full window, count_past windows window past, ap (λ (w : ℕ). greatest w (for_window last numbers)) same, ap (count_at (windows ++ payloads ∷ [])) same, count_last windows payloads, most, least)
      ]
    ]

-- numbers below the count are not above it
pub below_too : (most : ℕ) (numbers : List ℕ) → AllByRecursion (λ number. number < most) numbers → AllByRecursion (λ number. number ≤ most) numbers
below_too most [] below = tt
below_too most (number ∷ numbers) below = (omega (arith, below.0), below_too most numbers below.1)

-- the greatest of numbers below the count is below it
greatest_below : (last most : ℕ) (numbers : List ℕ) → 0 < most → AllByRecursion (λ number. number < most) numbers → greatest last (for_window last numbers) < most
unfolding for_window
greatest_below last most [] some below = some
greatest_below last most (number ∷ numbers) some below =
    elim (eqb_tells last last) [
      | inl is ↦ rw (is.0) (omega (arith, below.0, greatest_below last most numbers some below.1))
      | inr is ↦ absurd (is.1 refl)
    ]

-- the new window then has not its count, if all numbers are below it
pub below_then : (talk more : List Piece) (windows : List (List (List ℕ))) (payloads : List (List ℕ)) (numbers : List ℕ) → (settled : IsSettled talk windows) → IsSent more payloads → AllByRecursion (λ number. number < length payloads) numbers → greatest (suc (length windows)) (answers (windows ++ payloads ∷ []) (talk ++ more) [] 0 (settled.numbers ++ numbers)) < length payloads
below_then talk more windows payloads numbers settled window below =
    let last = suc (length windows) in
    let given = answers windows talk [] 0 settled.numbers in
    let are = answers_then talk more windows payloads numbers settled window (below_too (length payloads) numbers below) in
    omega (arith, ap (greatest last) are, greatest-append last given (for_window last numbers), settled.in_full last, count_past windows last (omega arith), greatest_below last (length payloads) numbers window.is.some below)

one_more : (talk more : List Piece) (windows : List (List (List ℕ))) (payloads : List (List ℕ)) (numbers : List ℕ) → IsSettled talk windows → IsAnswered more payloads numbers → IsSettled (talk ++ more) (windows ++ payloads ∷ [])
one_more talk more windows payloads numbers settled answered =
    let given = answers windows talk [] 0 settled.numbers in
    let are = answers_then talk more windows payloads numbers settled answered.window answered.few in
    let full = full_then windows payloads given numbers settled.in_full answered.few answered.full in
    record {
      each = all_both IsWindow windows (payloads ∷ []) settled.each (answered.window.is, tt);
      sent = sent_then talk more windows payloads settled answered.window;
      numbers = settled.numbers ++ numbers;
      small = all_both (λ number. number < 2 ^ 32) settled.numbers numbers settled.small (small_too (length payloads) numbers answered.window.is.few answered.few);
      received = in_append talk more ∙ ap (λ (front : List ℕ). front ++ in_bytes more) settled.received ∙ ap (λ (tail : List ℕ). ack_bytes settled.numbers ++ tail) answered.received ∙ sym (flat_map-append (λ number. frame_bytes (Ack number)) settled.numbers numbers);
      faultless = faultless_then talk more windows payloads numbers settled answered.window answered.few;
      in_full = λ window. ap (greatest window) are ∙ full window;
    }

-- one more window is settled by acknowledgements after it
pub window_is : (talk sent heard : List Piece) (windows : List (List (List ℕ))) (payloads : List (List ℕ)) (numbers : List ℕ) → IsSettled talk windows → IsWindow payloads → out_bytes sent ≡ window_bytes payloads → in_bytes sent ≡ [] → out_bytes heard ≡ [] → in_bytes heard ≡ ack_bytes numbers → All (λ number. number ≤ length payloads) numbers → Contains numbers (length payloads) → IsSettled ((talk ++ sent) ++ heard) (windows ++ payloads ∷ [])
window_is talk sent heard windows payloads numbers settled is out silent quiet received few full =
    let answered : IsAnswered (sent ++ heard) payloads numbers = record {
      window = sent_first sent heard payloads is out silent quiet;
      received = received_first sent heard (ack_bytes numbers) silent received;
      few = recursion_from_All (λ number. number ≤ length payloads) numbers few;
      full = full;
    } in
    subst (λ (all : List Piece). IsSettled all (windows ++ payloads ∷ [])) (sym (append_assoc talk sent heard)) (one_more talk (sent ++ heard) windows payloads numbers settled answered)
