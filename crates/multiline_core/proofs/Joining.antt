-- Texts that are joined and cut.
use Rattle.std.proofs.Common.{◌≡◌, ℕ, zero, suc, ◌-◌, ◌≤◌, List, [], ◌∷◌, ◌++◌, length, take, refl, ap, ◌∙◌, arith, append_assoc}

-- as much after a text as there is room for
pub taken : (n : ℕ) (xs ys : List ℕ) → length xs ≤ n → xs ++ take (n - length xs) ys ≡ take n (xs ++ ys)
taken n [] ys h = let e : n - 0 ≡ n = omega arith in ap (λ m. take m ys) e
taken zero (x ∷ xs) ys h = absurd (omega arith)
taken (suc n) (x ∷ xs) ys h =
    let e : suc n - suc (length xs) ≡ n - length xs = omega arith in
    ap (λ m. x ∷ (xs ++ take m ys)) e ∙ ap (λ zs. x ∷ zs) (taken n xs ys (omega arith))

-- what is cut away of a text has no place in what follows it
pub cut_before : (n : ℕ) (xs ys : List ℕ) → take n (take n xs ++ ys) ≡ take n (xs ++ ys)
cut_before zero xs ys = refl
cut_before (suc n) [] ys = refl
cut_before (suc n) (x ∷ xs) ys = ap (λ zs. x ∷ zs) (cut_before n xs ys)

pub length-taken : (n : ℕ) (xs ys : List ℕ) → length xs ≤ n → length (xs ++ take (n - length xs) ys) ≤ n
length-taken n xs ys h = rw (taken n xs ys h) (short n (xs ++ ys))
  where
    short : (n : ℕ) (zs : List ℕ) → length (take n zs) ≤ n
    short zero zs = omega arith
    short (suc n) [] = omega arith
    short (suc n) (z ∷ zs) = omega (arith, short n zs)

-- a separator and a head after a text
pub joined_behind : (n : ℕ) (xs s head : List ℕ) → length xs ≤ n → (middle : List ℕ) → middle ≡ xs ++ take (n - length xs) s →
    middle ++ take (n - length middle) head ≡ take n (xs ++ (s ++ head))
joined_behind n xs s head h middle e =
    let joined = e ∙ taken n xs s h in
    let small : length middle ≤ n = rw e (length-taken n xs s h) in
    taken n middle head small ∙ ap (λ ys. take n (ys ++ head)) joined ∙ cut_before n (xs ++ s) head ∙ ap (take n) (append_assoc xs s head)

pub joined_at_once : (n : ℕ) (xs head : List ℕ) → length xs ≤ n → xs ++ take (n - length xs) head ≡ take n (xs ++ ([] ++ head))
joined_at_once n xs head h = taken n xs head h
