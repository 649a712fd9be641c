-- What stays of a talk when it goes on: where bytes are in it, and what its acknowledgements say.
use Rattle.std.proofs.Common.{◌≡◌, ℕ, zero, suc, ◌+◌, ◌*◌, ◌-◌, ◌<◌, ◌≤◌, Bool, true, false, cond, eqb, ltb, ◌&&◌, List, [], ◌∷◌, ◌++◌, length, take, drop, refl, sym, ap, ◌∙◌, append_assoc, arith, inl, inr}
use Rattle.std.specs.List.{All, AllByRecursion, Contains, flat_map}
use Rattle.std.specs.Int.{w32, from_be_bytes}
use Rattle.std.proofs.lemmas.Bool.Decides.{leb_tells}
use Rattle.std.proofs.lemmas.List.{length-append, take_at, take-append-drop, take-append-le, take-take, get_or_append_left}
use Rattle.std.proofs.lemmas.List.Elements.{All-nil, All-append, All-same, All-take, All-weaker, All-contains_itself, Contains-append_left, Contains-append_right}
use Rattle.wire_base.specs.declared.talk.Piece.{Piece}
use Rattle.wire_base.specs.declared.talk.Piece.TheVariants.{Out, In}
use Rattle.lumber_frame.specs.Talk.{in_bytes, out_bytes, out_before}
use Rattle.lumber_frame.specs.Window.{window_bytes, IsWindow, BeginsWithWindow}
use Rattle.lumber_frame.specs.Acknowledged.{Answer, acknowledgements, answers, asked, count_at, greatest, oldest_open, payloads_by, whole_within}
use Rattle.lumber_frame.proofs.Asking.{asked_most, whole_most}

-- ---- two choices by one test

same_else : {A : Type 0} (test : Bool) (first x y : A) → (test ≡ false → x ≡ y) → cond test first x ≡ cond test first y
same_else true first x y same = refl
same_else false first x y same = same refl

-- ---- where bytes are

pub out_append : (talk more : List Piece) → out_bytes (talk ++ more) ≡ out_bytes talk ++ out_bytes more
out_append [] more = refl
out_append (Out bytes ∷ talk) more = ap (λ (tail : List ℕ). bytes ++ tail) (out_append talk more) ∙ sym (append_assoc bytes (out_bytes talk) (out_bytes more))
out_append (In bytes ∷ talk) more = out_append talk more

pub in_append : (talk more : List Piece) → in_bytes (talk ++ more) ≡ in_bytes talk ++ in_bytes more
in_append [] more = refl
in_append (Out bytes ∷ talk) more = in_append talk more
in_append (In bytes ∷ talk) more = ap (λ (tail : List ℕ). bytes ++ tail) (in_append talk more) ∙ sym (append_assoc bytes (in_bytes talk) (in_bytes more))

-- what was out before a byte that came stays
pub before_stays : (talk more : List Piece) (place : ℕ) → place < length (in_bytes talk) → out_before (talk ++ more) place ≡ out_before talk place
before_stays [] more place there = absurd (omega arith)
before_stays (Out bytes ∷ talk) more place there = ap (λ (n : ℕ). length bytes + n) (before_stays talk more place there)
before_stays (In bytes ∷ talk) more place there =
    elim (leb_tells (suc place) (length bytes)) [
      | inl is ↦ rw (is.0) refl
      | inr is ↦ rw (is.0) (before_stays talk more (place - length bytes) (omega (arith, length-append bytes (in_bytes talk), is.1)))
    ]

else_most : (test : Bool) (x most : ℕ) → x ≤ most → cond test 0 x ≤ most
else_most true x most few = omega arith
else_most false x most few = few

-- no more was out before a byte than was sent
pub before_most : (talk : List Piece) (place : ℕ) → out_before talk place ≤ length (out_bytes talk)
before_most [] place = omega arith
before_most (Out bytes ∷ talk) place = omega (arith, length-append bytes (out_bytes talk), before_most talk place)
before_most (In bytes ∷ talk) place = else_most (ltb place (length bytes)) (out_before talk (place - length bytes)) (length (out_bytes talk)) (before_most talk (place - length bytes))

-- ---- windows

-- windows after these bytes are none within them
pub whole_stays : (windows others : List (List (List ℕ))) (rest : List ℕ) (out : ℕ) → ((n : ℕ) → n ≤ length rest → whole_within others n ≡ 0) → out ≤ length (flat_map window_bytes windows ++ rest) → whole_within (windows ++ others) out ≡ whole_within windows out
whole_stays [] others rest out none few = none out few
whole_stays (window ∷ windows) others rest out none few =
    let size = length (window_bytes window) in
    elim (leb_tells (length (window_bytes window)) out) [
      | inl is ↦ rw (is.0) (ap suc (whole_stays windows others rest (out - length (window_bytes window)) none (omega (arith, is.1, few, ap (λ (bytes : List ℕ). length bytes) (append_assoc (window_bytes window) (flat_map window_bytes windows) rest), length-append (window_bytes window) (flat_map window_bytes windows ++ rest)))))
      | inr is ↦ rw (is.0) refl
    ]

-- bytes that begin with no window have none within them, whatever follows
pub none_within : (windows : List (List (List ℕ))) (rest more tail : List ℕ) → AllByRecursion IsWindow windows → ((payloads : List (List ℕ)) (after : List ℕ) → BeginsWithWindow rest payloads after → ⊥) → rest ++ more ≡ flat_map window_bytes windows ++ tail → (out : ℕ) → out ≤ length rest → whole_within windows out ≡ 0
none_within [] rest more tail each cut is out few = refl
none_within (window ∷ windows) rest more tail each cut is out few =
    elim (leb_tells (length (window_bytes window)) out) [
      | inl test ↦
          let size = length (window_bytes window) in
          let behind = flat_map window_bytes windows ++ tail in
          let spelled = is ∙ append_assoc (window_bytes window) (flat_map window_bytes windows) tail in
          let front : take size rest ≡ window_bytes window = sym (take-append-le size rest more (omega (arith, test.1))) ∙ ap (take size) spelled ∙ take_at (window_bytes window) behind size refl in
          absurd (cut window (drop size rest) (record {
            is = each.0;
            front = sym (take-append-drop size rest) ∙ ap (λ (bytes : List ℕ). bytes ++ drop size rest) front;
          }))
      | inr test ↦ rw (test.0) refl
    ]

-- a window's count stays
pub count_stays : (windows others : List (List (List ℕ))) (number : ℕ) → number ≤ length windows → count_at (windows ++ others) number ≡ count_at windows number
count_stays windows others zero there = refl
count_stays windows others (suc before) there = ap length (get_or_append_left windows others [] before (omega arith))

-- ---- answers

-- the window that is asked stays
pub asked_stays : (windows others : List (List (List ℕ))) (given : List Answer) (out : ℕ) → whole_within (windows ++ others) out ≡ whole_within windows out → asked (windows ++ others) given out ≡ asked windows given out
asked_stays windows others given out stays =
    ap (λ (n : ℕ). oldest_open given 0 (take n (windows ++ others))) stays ∙ ap (oldest_open given 0) (take-append-le (whole_within windows out) windows others (whole_most windows out))

-- the answers of acknowledgements that came stay
pub answers_stay : (windows others : List (List (List ℕ))) (talk more : List Piece) (given : List Answer) (place : ℕ) (numbers : List ℕ) → ((out : ℕ) → out ≤ length (out_bytes talk) → whole_within (windows ++ others) out ≡ whole_within windows out) → place + 6 * length numbers ≤ length (in_bytes talk) → answers (windows ++ others) (talk ++ more) given place numbers ≡ answers windows talk given place numbers
answers_stay windows others talk more given place [] stays there = refl
answers_stay windows others talk more given place (number ∷ numbers) stays there =
    let out = out_before talk place in
    let window = asked windows given out in
    let asks = ap (asked (windows ++ others) given) (before_stays talk more place (omega arith)) ∙ asked_stays windows others given out (stays out (before_most talk place)) in
    let count = ap (count_at (windows ++ others)) asks ∙ count_stays windows others window (omega (arith, asked_most windows given out, whole_most windows out)) in
    let later = answers_stay windows others talk more (given ++ record { window = window; number = number } ∷ []) (place + 6) numbers stays (omega arith) in
    rw (count, asks, later) refl

-- what is acknowledged in bytes stays, whatever follows
pub numbers_more : (bytes more : List ℕ) → (later : List ℕ) × (acknowledgements (bytes ++ more) ≡ acknowledgements bytes ++ later)
numbers_more [] more = (acknowledgements more, refl)
numbers_more (v ∷ []) more = (acknowledgements (v ∷ more), refl)
numbers_more (v ∷ k ∷ []) more = (acknowledgements (v ∷ k ∷ more), refl)
numbers_more (v ∷ k ∷ a ∷ []) more = (acknowledgements (v ∷ k ∷ a ∷ more), refl)
numbers_more (v ∷ k ∷ a ∷ b ∷ []) more = (acknowledgements (v ∷ k ∷ a ∷ b ∷ more), refl)
numbers_more (v ∷ k ∷ a ∷ b ∷ c ∷ []) more = (acknowledgements (v ∷ k ∷ a ∷ b ∷ c ∷ more), refl)
numbers_more (v ∷ k ∷ a ∷ b ∷ c ∷ d ∷ bytes) more =
    let others = numbers_more bytes more in
    either (eqb v 0x32 && eqb k 0x41) _ _ others.0 (ap (λ (tail : List ℕ). from_be_bytes w32 (a ∷ b ∷ c ∷ d ∷ []) ∷ tail) others.1)
  where
    either : (test : Bool) (all front : List ℕ) (later : List ℕ) → all ≡ front ++ later → (behind : List ℕ) × (cond test all [] ≡ cond test front [] ++ behind)
    either true all front later is = (later, is)
    either false all front later is = ([], refl)

-- each number takes six bytes
pub numbers_fit : (bytes : List ℕ) → 6 * length (acknowledgements bytes) ≤ length bytes
numbers_fit [] = omega arith
numbers_fit (v ∷ []) = omega arith
numbers_fit (v ∷ k ∷ []) = omega arith
numbers_fit (v ∷ k ∷ a ∷ []) = omega arith
numbers_fit (v ∷ k ∷ a ∷ b ∷ []) = omega arith
numbers_fit (v ∷ k ∷ a ∷ b ∷ c ∷ []) = omega arith
numbers_fit (v ∷ k ∷ a ∷ b ∷ c ∷ d ∷ bytes) = either (eqb v 0x32 && eqb k 0x41) (from_be_bytes w32 (a ∷ b ∷ c ∷ d ∷ [])) (acknowledgements bytes) (length bytes) (numbers_fit bytes)
  where
    either : (test : Bool) (number : ℕ) (numbers : List ℕ) (size : ℕ) → 6 * length numbers ≤ size → 6 * length (cond test (number ∷ numbers) []) ≤ suc (suc (suc (suc (suc (suc size)))))
    either true number numbers size few = omega arith
    either false number numbers size few = omega arith

-- ---- payloads

take_more : (m n : ℕ) (xs : List (List ℕ)) → m ≤ n → All (Contains (take n xs)) (take m xs)
take_more m n xs few =
    let front : take m (take n xs) ≡ take m xs = take-take m n xs few in
    All-same (Contains (take n xs)) (take m xs) (take m (take n xs)) (sym front) (All-take (Contains (take n xs)) m (take n xs) (All-contains_itself (take n xs)))

-- greater numbers for these windows and more take in these payloads
pub payloads_stay : (given more : List Answer) (number : ℕ) (windows others : List (List (List ℕ))) → ((window : ℕ) → greatest window given ≤ greatest window more) → All (Contains (payloads_by more number (windows ++ others))) (payloads_by given number windows)
payloads_stay given more number [] others greater = All-nil (Contains (payloads_by more number others))
payloads_stay given more number (window ∷ windows) others greater =
    let front = take (greatest number more) window in
    let back = payloads_by more (suc number) (windows ++ others) in
    All-append (Contains (front ++ back)) (take (greatest number given) window) (payloads_by given (suc number) windows)
    (All-weaker (Contains front) (Contains (front ++ back)) (λ payload in_front. Contains-append_left front back payload in_front) (take (greatest number given) window) (take_more (greatest number given) (greatest number more) window (greater number)))
    (All-weaker (Contains back) (Contains (front ++ back)) (λ payload in_back. Contains-append_right front back payload in_back) (payloads_by given (suc number) windows) (payloads_stay given more (suc number) windows others greater))
