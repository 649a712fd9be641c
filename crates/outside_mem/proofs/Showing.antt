-- What a buffer shows while a life changes.
use Rattle.std.proofs.Common.{◌≡◌, ◌⊎◌, inl, inr, ℕ, zero, suc, ◌+◌, ◌-◌, ◌<◌, ◌≤◌, min, List, [], ◌∷◌, ◌++◌, length, take, drop, refl, sym, ◌∙◌, ap, subst, arith, rules, length-append, length-drop, length-take}
use Rattle.std.proofs.lemmas.Bool.{cases_lt}
use Rattle.std.proofs.lemmas.List.{take-take, take_all, take_min, drop_all}
use Rattle.std.proofs.lemmas.Slice.{between_is}
use Rattle.outside_mem.specs.Windows.{window, Shows}

take-append : (n : ℕ) (xs ys : List ℕ) → take n (xs ++ ys) ≡ take n xs ++ take (n - length xs) ys
take-append zero xs ys = let none : zero ≡ zero - length xs = omega arith in ap (λ (k : ℕ). take k ys) none
take-append (suc n) [] ys = let all : suc n ≡ suc n - 0 = omega arith in ap (λ (k : ℕ). take k ys) all
take-append (suc n) (x ∷ xs) ys =
    let rest : n - length xs ≡ suc n - suc (length xs) = omega arith in
    ap (λ (l : List ℕ). x ∷ l) (take-append n xs ys) ∙ ap (λ (k : ℕ). x ∷ (take n xs ++ take k ys)) rest

drop-append : (n : ℕ) (xs ys : List ℕ) → drop n (xs ++ ys) ≡ drop n xs ++ drop (n - length xs) ys
drop-append zero xs ys = let none : zero ≡ zero - length xs = omega arith in ap (λ (k : ℕ). xs ++ drop k ys) none
drop-append (suc n) [] ys = let all : suc n ≡ suc n - 0 = omega arith in ap (λ (k : ℕ). drop k ys) all
drop-append (suc n) (x ∷ xs) ys =
    let rest : n - length xs ≡ suc n - suc (length xs) = omega arith in
    drop-append n xs ys ∙ ap (λ (k : ℕ). drop n xs ++ drop k ys) rest

-- the window of more bytes is the window of the old ones and then as many of the new ones as fit
window-append : (n at : ℕ) (bytes blob : List ℕ) → window n at (bytes ++ blob) ≡ window n at bytes ++ take (n - (length bytes - at)) (drop (at - length bytes) blob)
window-append n at bytes blob =
    ap (λ (l : List ℕ). take n l) (drop-append at bytes blob) ∙ take-append n (drop at bytes) (drop (at - length bytes) blob)
    ∙ ap (λ (k : ℕ). take n (drop at bytes) ++ take (n - k) (drop (at - length bytes) blob)) (length-drop at bytes)

-- a buffer that shows the old bytes shows the new ones, too, once these were put after them
pub Shows-append : (at : ℕ) (bytes blob old new part : List ℕ) → length new ≡ length old → part ≡ take (length old - (length bytes - at)) (drop (at - length bytes) blob)
    → take ((length bytes - at) + length part) new ≡ take (length bytes - at) old ++ part → Shows at bytes old → Shows at (bytes ++ blob) new
Shows-append at bytes blob old new part same_length part_is put shows =
    by_case (cases_lt (length old) (length bytes - at))
  where
    wide : window (length new) at (bytes ++ blob) ≡ window (length old) at bytes ++ part
    wide =
        ap (λ (n : ℕ). window n at (bytes ++ blob)) same_length ∙ window-append (length old) at bytes blob
        ∙ ap (λ (l : List ℕ). window (length old) at bytes ++ l) (sym part_is)

    narrow : length (window (length old) at bytes) ≡ min (length old) (length bytes - at)
    narrow = omega (arith, length-take (length old) (drop at bytes), length-drop at bytes)

    shows_wide : take (length (window (length old) at bytes ++ part)) new ≡ window (length old) at bytes ++ part → Shows at (bytes ++ blob) new
    shows_wide is = subst (λ (l : List ℕ). take (length l) new ≡ l) (sym wide) is

    by_case : (length old < length bytes - at) ⊎ (length bytes - at ≤ length old) → Shows at (bytes ++ blob) new
    by_case (inl full) =
        let none : length part ≡ 0 = omega (arith, ap length part_is, length-take (length old - (length bytes - at)) (drop (at - length bytes) blob)) in
        let same : new ≡ old ++ part = sym (take_all _ new (omega arith)) ∙ put ∙ ap (λ (l : List ℕ). l ++ part) (take_all _ old (omega arith)) in
        let all : length (window (length old) at bytes) ≡ length old = omega (arith, narrow) in
        let front : window (length old) at bytes ≡ old = sym shows ∙ take_all _ old (omega (arith, all)) in
        shows_wide (take_all _ new (omega (arith, length-append (window (length old) at bytes) part, all)) ∙ same ∙ ap (λ (l : List ℕ). l ++ part) (sym front))
    by_case (inr room) =
        let all : length (window (length old) at bytes) ≡ length bytes - at = omega (arith, narrow) in
        let ends : length (window (length old) at bytes ++ part) ≡ (length bytes - at) + length part = omega (arith, length-append (window (length old) at bytes) part, all) in
        shows_wide (ap (λ (n : ℕ). take n new) ends ∙ put ∙ ap (λ (n : ℕ). take n old ++ part) (sym all) ∙ ap (λ (l : List ℕ). l ++ part) shows)

-- what shows bytes shows each front of them
shows_front : (whole front into : List ℕ) (n : ℕ) → front ≡ take n whole → take (length whole) into ≡ whole → take (length front) into ≡ front
shows_front whole front into n is shows =
    let count : length front ≡ min n (length whole) = omega (arith, ap length is, length-take n whole) in
    ap (λ (k : ℕ). take k into) count
    ∙ sym (take-take (min n (length whole)) (length whole) into (omega arith))
    ∙ ap (λ (l : List ℕ). take (min n (length whole)) l) shows
    ∙ take_min n whole ∙ sym is

-- a window of the first bytes is a front of the window
pub Shows-take : (at kept : ℕ) (bytes into : List ℕ) → Shows at bytes into → Shows at (take kept bytes) into
Shows-take at kept bytes into shows =
    let n = length into in
    shows_front (window n at bytes) (window n at (take kept bytes)) into (kept - at)
    (ap (λ (l : List ℕ). take n l) (sym (inner at kept bytes)) ∙ swap_takes n (kept - at) (drop at bytes)) shows
  where
    inner : (i j : ℕ) (l : List ℕ) → take (j - i) (drop i l) ≡ drop i (take j l)
    inner i j l = search (rules, between_is)

    swap_takes : (i j : ℕ) (l : List ℕ) → take i (take j l) ≡ take j (take i l)
    swap_takes i j l = elim (cases_lt i j) [
      | inl less ↦ take-take i j l (omega arith) ∙ sym (take_all j (take i l) (omega (arith, length-take i l)))
      | inr more ↦ take_all i (take j l) (omega (arith, length-take j l)) ∙ sym (take-take j i l more)
    ]

pub Shows-nil : (at : ℕ) (into : List ℕ) → Shows at [] into
Shows-nil at into =
    let none : window (length into) at [] ≡ [] = ap (λ (l : List ℕ). take (length into) l) (drop_all at [] (omega arith)) ∙ take_all (length into) [] (omega arith) in
    subst (λ (l : List ℕ). take (length l) into ≡ l) (sym none) refl
