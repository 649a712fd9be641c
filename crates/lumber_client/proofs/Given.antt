-- The answers that were given: what stays of them as a talk goes on.
use Rattle.std.proofs.Common.{◌≡◌, ℕ, ◌+◌, ◌*◌, ◌<◌, ◌≤◌, List, [], ◌∷◌, ◌++◌, length, refl, ap, subst, ◌∙◌, arith, inl, inr}
use Rattle.std.specs.List.{flat_map}
use Rattle.std.proofs.lemmas.Bool.Decides.{leb_tells, eqb_tells}
use Rattle.std.proofs.lemmas.List.{append-nil, length-append}
use Rattle.wire_base.specs.declared.talk.Piece.{Piece}
use Rattle.lumber_frame.specs.Talk.{in_bytes, out_bytes, out_before}
use Rattle.lumber_frame.specs.Window.{window_bytes}
use Rattle.lumber_frame.specs.Acknowledged.{Answer, answers, asked, count_at, greatest, whole_within}
use Rattle.lumber_frame.proofs.Answering.{length-window}
use Rattle.lumber_frame.proofs.Asking.{asked_most, greatest_elsewhere, greatest_here, whole_most}
use Rattle.lumber_frame.proofs.Staying.{answers_stay, whole_stays}

-- no window is within no bytes
none_out : (payloads : List (List ℕ)) (out : ℕ) → out ≤ 0 → whole_within (payloads ∷ []) out ≡ 0
none_out payloads out few =
    elim (leb_tells (length (window_bytes payloads)) out) [
      | inl is ↦ absurd (omega (arith, is.1, length-window payloads))
      | inr is ↦ rw (is.0) refl
    ]

-- a window that was begun after them is not within the bytes of the others
pub within_others : (windows : List (List (List ℕ))) (payloads : List (List ℕ)) (out : ℕ) → out ≤ length (flat_map window_bytes windows) → whole_within (windows ++ payloads ∷ []) out ≡ whole_within windows out
within_others windows payloads out few =
    whole_stays windows (payloads ∷ []) [] out (none_out payloads) (omega (arith, few, length-append (flat_map window_bytes windows) []))

-- the answers stay as a window is begun
pub given_begun : (windows : List (List (List ℕ))) (payloads : List (List ℕ)) (talk : List Piece) (numbers : List ℕ) → length (out_bytes talk) ≤ length (flat_map window_bytes windows) → 6 * length numbers ≤ length (in_bytes talk) → answers (windows ++ payloads ∷ []) talk [] 0 numbers ≡ answers windows talk [] 0 numbers
given_begun windows payloads talk numbers sent there =
    subst (λ (pieces : List Piece). answers (windows ++ payloads ∷ []) pieces [] 0 numbers ≡ answers windows talk [] 0 numbers) (append-nil talk)
    (answers_stay windows (payloads ∷ []) talk [] [] 0 numbers (λ out few. within_others windows payloads out (omega (arith, few, sent))) (omega (arith, there)))

-- and as the talk goes on
pub given_on : (windows : List (List (List ℕ))) (talk more : List Piece) (numbers : List ℕ) → 6 * length numbers ≤ length (in_bytes talk) → answers windows (talk ++ more) [] 0 numbers ≡ answers windows talk [] 0 numbers
given_on windows talk more numbers there =
    subst (λ (all : List (List (List ℕ))). answers all (talk ++ more) [] 0 numbers ≡ answers windows talk [] 0 numbers) (append-nil windows)
    (answers_stay windows [] talk more [] 0 numbers (λ out few. ap (λ (all : List (List (List ℕ))). whole_within all out) (append-nil windows)) (omega (arith, there)))

-- a number that is not above the greatest changes no greatest number
pub nothing_new : (given : List Answer) (asked_window number window : ℕ) → number ≤ greatest asked_window given → greatest window (given ++ record { window = asked_window; number = number } ∷ []) ≡ greatest window given
nothing_new given asked_window number window few =
    elim (eqb_tells asked_window window) [
      | inl is ↦
          let same = ap (λ (k : ℕ). greatest k given) is.1 in
          let here = ap (λ (k : ℕ). greatest k (given ++ record { window = asked_window; number = number } ∷ [])) is.1 in
          omega (arith, greatest_here asked_window number given, same, here, few)
      | inr is ↦ greatest_elsewhere window asked_window number given is.1
    ]

-- a greater number is the greatest
pub newly_given : (given : List Answer) (window number : ℕ) → greatest window given ≤ number → greatest window (given ++ record { window = window; number = number } ∷ []) ≡ number
newly_given given window number many = omega (arith, greatest_here window number given, many)

-- nothing is given for a window that was not out
pub none_given : (windows : List (List (List ℕ))) (talk : List Piece) (given : List Answer) (place : ℕ) (numbers : List ℕ) (window : ℕ) → length windows < window → greatest window given ≡ 0 → greatest window (answers windows talk given place numbers) ≡ 0
none_given windows talk given place [] window past none = none
none_given windows talk given place (number ∷ numbers) window past none =
    let here = asked windows given (out_before talk place) in
    let more = given ++ record { window = here; number = number } ∷ [] in
    let within : here ≤ length windows = omega (arith, asked_most windows given (out_before talk place), whole_most windows (out_before talk place)) in
    let others = none_given windows talk more (place + 6) numbers window past (greatest_elsewhere window here number given (λ same. absurd (omega (arith, same, within, past))) ∙ none) in
    elim (leb_tells number (count_at windows here)) [
      | inl is ↦ rw (is.0) others
      | inr is ↦ rw (is.0) none
    ]
