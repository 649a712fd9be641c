-- Where a terminator is in bytes, as facts on single bytes.
use Rattle.std.proofs.Common.{◌≡◌, ℕ, ◌+◌, ◌<◌, ◌≤◌, List, [], ◌∷◌, ◌++◌, length, take, drop, get_or, sym, ap, ◌∙◌, arith, length-take, length-drop, lit<}
use Rattle.std.proofs.lemmas.List.{drop_more, take-append-le, drop-append-le}
use Rattle.line_cutter.specs.Terminator.{StandsAt}

-- ---- of any terminator

module _ (t : List ℕ) (some : 0 < length t) where
  pub fits : (xs : List ℕ) (k : ℕ) → StandsAt t xs k → k + length t ≤ length xs
  fits xs k s =
      let e : length (take (length t) (drop k xs)) ≡ length t = ap length s in
      omega (arith, e, length-take (length t) (drop k xs), length-drop k xs)

  pub stands_longer : (xs ys : List ℕ) (k : ℕ) → StandsAt t xs k → StandsAt t (xs ++ ys) k
  stands_longer xs ys k s =
      let room = fits xs k s in
      let here : k ≤ length xs = omega arith in
      let there : length t ≤ length (drop k xs) = omega (arith, length-drop k xs) in
      ap (take (length t)) (drop-append-le k xs ys here) ∙ take-append-le (length t) (drop k xs) ys there ∙ s

  pub stands_shorter : (xs ys : List ℕ) (k : ℕ) → k + length t ≤ length xs → StandsAt t (xs ++ ys) k → StandsAt t xs k
  stands_shorter xs ys k room s =
      let here : k ≤ length xs = omega arith in
      let there : length t ≤ length (drop k xs) = omega (arith, length-drop k xs) in
      sym (take-append-le (length t) (drop k xs) ys there) ∙ sym (ap (take (length t)) (drop-append-le k xs ys here)) ∙ s

-- ---- of one byte

pub stands_one : (c : ℕ) (xs : List ℕ) (k : ℕ) → k < length xs → get_or xs k 0 ≡ c → StandsAt (c ∷ []) xs k
stands_one c xs k h e = rw (drop_more xs k 0 h) (ap (λ x. x ∷ []) e)

pub one_stands : (c : ℕ) (xs : List ℕ) (k : ℕ) → StandsAt (c ∷ []) xs k → (k < length xs) × (get_or xs k 0 ≡ c)
one_stands c xs k s =
    let h : k < length xs = omega (arith, fits (c ∷ []) (lit< tt) xs k s) in
    let e = rw (drop_more xs k 0 h) at s in (h, cc)

-- ---- of two bytes

pub stands_two : (c d : ℕ) (xs : List ℕ) (k : ℕ) → k + 1 < length xs → get_or xs k 0 ≡ c → get_or xs (k + 1) 0 ≡ d →
    StandsAt (c ∷ d ∷ []) xs k
stands_two c d xs k h e f =
    let here : k < length xs = omega arith in
    rw (drop_more xs k 0 here, drop_more xs (k + 1) 0 h) (ap (λ x. x ∷ get_or xs (k + 1) 0 ∷ []) e ∙ ap (λ x. c ∷ x ∷ []) f)

pub two_stand : (c d : ℕ) (xs : List ℕ) (k : ℕ) → StandsAt (c ∷ d ∷ []) xs k →
    (k + 1 < length xs) × (get_or xs k 0 ≡ c) × (get_or xs (k + 1) 0 ≡ d)
two_stand c d xs k s =
    let room = fits (c ∷ d ∷ []) (lit< tt) xs k s in
    let h : k + 1 < length xs = omega arith in
    let here : k < length xs = omega arith in
    let e = rw (drop_more xs k 0 here, drop_more xs (k + 1) 0 h) at s in (h, cc, cc)
