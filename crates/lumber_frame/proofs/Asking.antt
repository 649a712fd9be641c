-- Which window an acknowledgement asks of, and what its answers become as more acknowledgements come.
use Rattle.std.proofs.Common.{◌≡◌, ℕ, zero, suc, ◌+◌, ◌*◌, ◌-◌, ◌<◌, ◌≤◌, ◌⊎◌, Bool, true, false, cond, eqb, leb, max, List, [], ◌∷◌, ◌++◌, length, get_or, take, refl, sym, ap, ◌∙◌, append_assoc, arith, inl, inr}
use Rattle.std.proofs.lemmas.Bool.{le-leb}
use Rattle.std.proofs.lemmas.Bool.Decides.{leb_tells, eqb_tells}
use Rattle.std.proofs.lemmas.List.{append-nil, length-append, length-take, get_or-take}
use Rattle.wire_base.specs.declared.talk.Piece.{Piece}
use Rattle.lumber_frame.specs.Talk.{out_before}
use Rattle.lumber_frame.specs.Window.{window_bytes}
use Rattle.lumber_frame.specs.Acknowledged.{Answer, answers, asked, count_at, greatest, oldest_open, whole_within}

-- ---- the greatest number

-- the greatest number of two lists of answers
pub greatest-append : (window : ℕ) (given more : List Answer) → greatest window (given ++ more) ≡ max (greatest window given) (greatest window more)
greatest-append window [] more = omega arith
greatest-append window (answer ∷ given) more = either (eqb answer.window window) answer.number (greatest window given) (greatest window more) (greatest window (given ++ more)) (greatest-append window given more)
  where
    either : (test : Bool) (number a b all : ℕ) → all ≡ max a b → cond test (max number all) all ≡ max (cond test (max number a) a) b
    either true number a b all is = omega arith
    either false number a b all is = is

-- one more answer for a window, and for another
pub greatest_here : (window number : ℕ) (given : List Answer) → greatest window (given ++ record { window = window; number = number } ∷ []) ≡ max (greatest window given) number
greatest_here window number given =
    let one : greatest window (record { window = window; number = number } ∷ []) ≡ number =
    elim (eqb_tells window window) [
      | inl is ↦ rw (is.0) (omega arith)
      | inr is ↦ absurd (is.1 refl)
    ] in
    omega (arith, greatest-append window given (record { window = window; number = number } ∷ []), one)

pub greatest_elsewhere : (window other number : ℕ) (given : List Answer) → (other ≡ window → ⊥) → greatest window (given ++ record { window = other; number = number } ∷ []) ≡ greatest window given
greatest_elsewhere window other number given apart =
    let none : greatest window (record { window = other; number = number } ∷ []) ≡ 0 =
    elim (eqb_tells other window) [
      | inl is ↦ absurd (apart is.1)
      | inr is ↦ rw (is.0) refl
    ] in
    omega (arith, greatest-append window given (record { window = other; number = number } ∷ []), none)

-- ---- the window that is asked

-- it is one of those after `before` others, or the last of these where there are none
pub oldest_within : (given : List Answer) (before : ℕ) (windows : List (List (List ℕ))) → (before ≤ oldest_open given before windows) × (oldest_open given before windows ≤ before + length windows)
oldest_within given before [] = (omega arith, omega arith)
oldest_within given before (window ∷ windows) =
    let others = oldest_within given (suc before) windows in
    elim (leb_tells (length window) (greatest (suc before) given)) [
      | inl is ↦ rw (is.0) (omega (arith, others.0), omega (arith, others.1))
      | inr is ↦ rw (is.0) (omega arith, omega arith)
    ]

-- each before it was acknowledged in full
pub before_oldest : (given : List Answer) (before : ℕ) (windows : List (List (List ℕ))) (i : ℕ) → before + suc i < oldest_open given before windows → length (get_or windows i []) ≤ greatest (suc (before + i)) given
before_oldest given before [] i less = absurd (omega arith)
before_oldest given before (window ∷ windows) zero less =
    let here : suc (before + 0) ≡ suc before = omega arith in
    elim (leb_tells (length window) (greatest (suc before) given)) [
      | inl is ↦ omega (arith, is.1, ap (λ (k : ℕ). greatest k given) here)
      | inr is ↦
          let first = rw (is.0) at less in
          absurd (omega (arith, first))
    ]
before_oldest given before (window ∷ windows) (suc i) less =
    let next : suc (before + suc i) ≡ suc (suc before + i) = omega arith in
    elim (leb_tells (length window) (greatest (suc before) given)) [
      | inl is ↦
          let others = rw (is.0) at less in
          omega (arith, before_oldest given (suc before) windows i (omega (arith, others)), ap (λ (k : ℕ). greatest k given) next)
      | inr is ↦
          let first = rw (is.0) at less in
          absurd (omega (arith, first))
    ]

-- it was not acknowledged in full, or each was and it is the last
pub oldest_is : (given : List Answer) (before : ℕ) (windows : List (List (List ℕ))) → (oldest_open given before windows ≡ before + length windows) ⊎ ((i : ℕ) × (oldest_open given before windows ≡ suc (before + i)) × (greatest (suc (before + i)) given < length (get_or windows i [])))
oldest_is given before [] = inl (omega arith)
oldest_is given before (window ∷ windows) =
    let here : suc (before + 0) ≡ suc before = omega arith in
    elim (leb_tells (length window) (greatest (suc before) given)) [
      | inl is ↦ rw (is.0) (elim (oldest_is given (suc before) windows) [
        | inl last ↦ inl (omega (arith, last))
        | inr first ↦
            let next : suc (suc before + first.0) ≡ suc (before + suc first.0) = omega arith in
            inr (suc first.0, omega (arith, first.1), omega (arith, first.2, ap (λ (k : ℕ). greatest k given) next))
      ])
      | inr is ↦ rw (is.0) (inr (zero, omega arith, omega (arith, is.1, ap (λ (k : ℕ). greatest k given) here)))
    ]

-- if each but the last was acknowledged in full, it is the last
pub oldest_last : (given : List Answer) (before : ℕ) (windows : List (List (List ℕ))) → ((i : ℕ) → suc i < length windows → length (get_or windows i []) ≤ greatest (suc (before + i)) given) → oldest_open given before windows ≡ before + length windows
oldest_last given before [] full = omega arith
oldest_last given before (window ∷ []) full =
    elim (leb_tells (length window) (greatest (suc before) given)) [
      | inl is ↦ rw (is.0) (omega arith)
      | inr is ↦ rw (is.0) (omega arith)
    ]
oldest_last given before (window ∷ next ∷ windows) full =
    let here : suc (before + 0) ≡ suc before = omega arith in
    let first : length window ≤ greatest (suc before) given = omega (arith, full 0 (omega arith), ap (λ (k : ℕ). greatest k given) here) in
    let others = oldest_last given (suc before) (next ∷ windows) (λ i more.
    let there : suc (before + suc i) ≡ suc (suc before + i) = omega arith in
    omega (arith, full (suc i) (omega arith), ap (λ (k : ℕ). greatest k given) there)) in
    rw (le-leb (length window) (greatest (suc before) given) first) (omega (arith, others))

then_most : (test : Bool) (x most : ℕ) → x ≤ most → cond test (suc x) 0 ≤ suc most
then_most true x most few = omega arith
then_most false x most few = omega arith

-- no more windows are out than there are
pub whole_most : (windows : List (List (List ℕ))) (out : ℕ) → whole_within windows out ≤ length windows
whole_most [] out = omega arith
whole_most (window ∷ windows) out =
    then_most (leb (length (window_bytes window)) out) (whole_within windows (out - length (window_bytes window))) (length windows) (whole_most windows (out - length (window_bytes window)))

-- this many windows in front are as many
pub length_out : (windows : List (List (List ℕ))) (out : ℕ) → length (take (whole_within windows out) windows) ≡ whole_within windows out
length_out windows out = omega (arith, length-take (whole_within windows out) windows, whole_most windows out)

-- the window that is asked is out
pub asked_most : (windows : List (List (List ℕ))) (given : List Answer) (out : ℕ) → asked windows given out ≤ whole_within windows out
asked_most windows given out = omega (arith, (oldest_within given 0 (take (whole_within windows out) windows)).1, length_out windows out)

-- each window before it was acknowledged in full
pub asked_behind : (windows : List (List (List ℕ))) (given : List Answer) (out window : ℕ) → window < asked windows given out → count_at windows window ≤ greatest window given
asked_behind windows given out zero less = omega arith
asked_behind windows given out (suc before) less =
    let whole = whole_within windows out in
    let some : 0 + suc before < oldest_open given 0 (take whole windows) = omega (arith, less) in
    let here : suc (0 + before) ≡ suc before = omega arith in
    omega (arith, before_oldest given 0 (take whole windows) before some, ap (λ (k : ℕ). greatest k given) here, ap length (get_or-take whole windows before [] (omega (arith, less, asked_most windows given out))))

-- it was not, or it is the last that was out
pub asked_is : (windows : List (List (List ℕ))) (given : List Answer) (out : ℕ) → (asked windows given out ≡ whole_within windows out) ⊎ (greatest (asked windows given out) given < count_at windows (asked windows given out))
asked_is windows given out =
    let whole = whole_within windows out in
    elim (oldest_is given 0 (take whole windows)) [
      | inl last ↦ inl (omega (arith, last, length_out windows out))
      | inr first ↦
          let here : suc (0 + first.0) ≡ suc first.0 = omega arith in
          let is : asked windows given out ≡ suc first.0 = first.1 ∙ here in
          let window = ap length (get_or-take whole windows first.0 [] (omega (arith, is, asked_most windows given out))) in
          inr (omega (arith, first.2, window, ap (λ (k : ℕ). greatest k given) here, ap (λ (k : ℕ). greatest k given) is, ap (count_at windows) is))
    ]

-- if each but the last that was out was acknowledged in full, it is the last
pub asked_last : (windows : List (List (List ℕ))) (given : List Answer) (out : ℕ) → ((window : ℕ) → window < whole_within windows out → count_at windows window ≤ greatest window given) → asked windows given out ≡ whole_within windows out
asked_last windows given out full =
    let whole = whole_within windows out in
    let last = oldest_last given 0 (take whole windows) (λ i less.
    let here : suc (0 + i) ≡ suc i = omega arith in
    omega (arith, full (suc i) (omega (arith, less, length_out windows out)), ap (λ (k : ℕ). greatest k given) here, ap length (get_or-take whole windows i [] (omega (arith, less, length_out windows out))))) in
    omega (arith, last, length_out windows out)

-- ---- answers

-- they follow those that were given
pub answers_behind : (windows : List (List (List ℕ))) (talk : List Piece) (given : List Answer) (place : ℕ) (numbers : List ℕ) → (later : List Answer) × (answers windows talk given place numbers ≡ given ++ later)
answers_behind windows talk given place [] = ([], sym (append-nil given))
answers_behind windows talk given place (number ∷ numbers) =
    let window = asked windows given (out_before talk place) in
    let answer : Answer = record { window = window; number = number } in
    let others = answers_behind windows talk (given ++ answer ∷ []) (place + 6) numbers in
    elim (leb_tells number (count_at windows window)) [
      | inl is ↦ (answer ∷ others.0, rw (is.0) (others.1 ∙ append_assoc given (answer ∷ []) others.0))
      | inr is ↦ ([], rw (is.0) (sym (append-nil given)))
    ]

-- no greatest number falls
pub answers_greater : (windows : List (List (List ℕ))) (talk : List Piece) (given : List Answer) (place : ℕ) (numbers : List ℕ) (window : ℕ) → greatest window given ≤ greatest window (answers windows talk given place numbers)
answers_greater windows talk given place numbers window =
    let behind = answers_behind windows talk given place numbers in
    omega (arith, ap (greatest window) behind.1, greatest-append window given behind.0)

-- more acknowledgements give more answers
pub answers_more : (windows : List (List (List ℕ))) (talk : List Piece) (given : List Answer) (place : ℕ) (numbers more : List ℕ) → (later : List Answer) × (answers windows talk given place (numbers ++ more) ≡ answers windows talk given place numbers ++ later)
answers_more windows talk given place [] more = answers_behind windows talk given place more
answers_more windows talk given place (number ∷ numbers) more =
    let window = asked windows given (out_before talk place) in
    let answer : Answer = record { window = window; number = number } in
    let others = answers_more windows talk (given ++ answer ∷ []) (place + 6) numbers more in
    elim (leb_tells number (count_at windows window)) [
      | inl is ↦ (others.0, rw (is.0) others.1)
      | inr is ↦ ([], rw (is.0) (sym (append-nil given)))
    ]

-- an acknowledgement without a fault has its answer, and a fault ends them
pub answers_next : (windows : List (List (List ℕ))) (talk : List Piece) (given : List Answer) (place number : ℕ) (numbers : List ℕ) → number ≤ count_at windows (asked windows given (out_before talk place)) → answers windows talk given place (number ∷ numbers) ≡ answers windows talk (given ++ record { window = asked windows given (out_before talk place); number = number } ∷ []) (place + 6) numbers
answers_next windows talk given place number numbers few = rw (le-leb number (count_at windows (asked windows given (out_before talk place))) few) refl

pub answers_stop : (windows : List (List (List ℕ))) (talk : List Piece) (given : List Answer) (place number : ℕ) (numbers : List ℕ) → count_at windows (asked windows given (out_before talk place)) < number → answers windows talk given place (number ∷ numbers) ≡ given
answers_stop windows talk given place number numbers many =
    elim (leb_tells number (count_at windows (asked windows given (out_before talk place)))) [
      | inl is ↦ absurd (omega (arith, is.1))
      | inr is ↦ rw (is.0) refl
    ]

-- each acknowledgement has its answer exactly if the first has and the others have
pub faultless_next : (windows : List (List (List ℕ))) (talk : List Piece) (given : List Answer) (place number : ℕ) (numbers : List ℕ) → length (answers windows talk given place (number ∷ numbers)) ≡ length given + suc (length numbers) → (number ≤ count_at windows (asked windows given (out_before talk place)))
    × (length (answers windows talk (given ++ record { window = asked windows given (out_before talk place); number = number } ∷ []) (place + 6) numbers) ≡ length (given ++ record { window = asked windows given (out_before talk place); number = number } ∷ []) + length numbers)
faultless_next windows talk given place number numbers faultless =
    let window = asked windows given (out_before talk place) in
    let answer : Answer = record { window = window; number = number } in
    elim (leb_tells number (count_at windows window)) [
      | inl is ↦ (is.1, omega (arith, faultless, ap length (answers_next windows talk given place number numbers is.1), length-append given (answer ∷ [])))
      | inr is ↦ absurd (omega (arith, faultless, ap length (answers_stop windows talk given place number numbers (omega (arith, is.1)))))
    ]

-- after acknowledgements without a fault come the answers of the others
pub answers_through : (windows : List (List (List ℕ))) (talk : List Piece) (given : List Answer) (place : ℕ) (numbers more : List ℕ) → length (answers windows talk given place numbers) ≡ length given + length numbers → answers windows talk given place (numbers ++ more) ≡ answers windows talk (answers windows talk given place numbers) (place + 6 * length numbers) more
answers_through windows talk given place [] more faultless =
    let here : place ≡ place + 6 * 0 = omega arith in
    ap (λ (p : ℕ). answers windows talk given p more) here
answers_through windows talk given place (number ∷ numbers) more faultless =
    let window = asked windows given (out_before talk place) in
    let answer : Answer = record { window = window; number = number } in
    let first = faultless_next windows talk given place number numbers faultless in
    let others = answers_through windows talk (given ++ answer ∷ []) (place + 6) numbers more first.1 in
    let next : place + 6 + 6 * length numbers ≡ place + 6 * suc (length numbers) = omega arith in
    answers_next windows talk given place number (numbers ++ more) first.0 ∙ others ∙ ap (λ (p : ℕ). answers windows talk (answers windows talk (given ++ answer ∷ []) (place + 6) numbers) p more) next ∙ ap (λ (all : List Answer). answers windows talk all (place + 6 * suc (length numbers)) more) (sym (answers_next windows talk given place number numbers first.0))

-- there are no more answers than acknowledgements
pub answers_few : (windows : List (List (List ℕ))) (talk : List Piece) (given : List Answer) (place : ℕ) (numbers : List ℕ) → length (answers windows talk given place numbers) ≤ length given + length numbers
answers_few windows talk given place [] = omega arith
answers_few windows talk given place (number ∷ numbers) =
    let window = asked windows given (out_before talk place) in
    let answer : Answer = record { window = window; number = number } in
    let others = answers_few windows talk (given ++ answer ∷ []) (place + 6) numbers in
    elim (leb_tells number (count_at windows window)) [
      | inl is ↦ rw (is.0) (omega (arith, others, length-append given (answer ∷ [])))
      | inr is ↦ rw (is.0) (omega arith)
    ]

-- if some acknowledgement has none, there is a first with a number above the count
pub first_above : (windows : List (List (List ℕ))) (talk : List Piece) (given : List Answer) (place : ℕ) (numbers : List ℕ) → length (answers windows talk given place numbers) < length given + length numbers
    → (index : ℕ) × (index < length numbers) × (length (answers windows talk given place (take index numbers)) ≡ length given + index) × (count_at windows (asked windows (answers windows talk given place (take index numbers)) (out_before talk (place + 6 * index))) < get_or numbers index 0)
first_above windows talk given place [] less = absurd (omega arith)
first_above windows talk given place (number ∷ numbers) less =
    let window = asked windows given (out_before talk place) in
    let answer : Answer = record { window = window; number = number } in
    let more = given ++ answer ∷ [] in
    let here : place + 6 * 0 ≡ place = omega arith in
    elim (leb_tells number (count_at windows window)) [
      | inl is ↦
          let others = first_above windows talk more (place + 6) numbers (omega (arith, less, ap length (answers_next windows talk given place number numbers is.1), length-append given (answer ∷ []))) in
          let index = others.0 in
          let taken = answers_next windows talk given place number (take index numbers) is.1 in
          let front = answers windows talk more (place + 6) (take index numbers) in
          let next : place + 6 + 6 * index ≡ place + 6 * suc index = omega arith in (
            suc index,
            omega (arith, others.1),
            omega (arith, others.2, ap length taken, length-append given (answer ∷ [])),
            omega (arith, others.3, ap (λ (p : ℕ). count_at windows (asked windows front (out_before talk p))) next, ap (λ (all : List Answer). count_at windows (asked windows all (out_before talk (place + 6 * suc index)))) taken),
          )
      | inr is ↦ (zero, omega arith, omega arith, omega (arith, is.1, ap (λ (p : ℕ). count_at windows (asked windows given (out_before talk p))) here))
    ]
