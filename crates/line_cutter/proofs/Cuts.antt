-- Bytes cut at their terminators: the first line of bytes, bytes without one, and bytes that go on.
use Rattle.std.proofs.Common.{◌≡◌, ℕ, zero, suc, ◌+◌, ◌-◌, ◌<◌, ◌≤◌, List, [], ◌∷◌, ◌++◌, length, take, drop, refl, sym, ap, ◌∙◌, inl, inr, arith, zero-add, length-take}
use Rattle.std.proofs.lemmas.Bool.{both_ways, cases_Bool, cases_lt, cond-true, cond-false}
use Rattle.std.proofs.lemmas.List.{take-append-drop, take-append-le}
use Rattle.std.proofs.lemmas.Slice.Eq.{bytes_eq-Decides}
use Rattle.std.specs.Str.{bytes_eq}
use Rattle.line_cutter.specs.Cut.{Cut, rest, line, in_front, cut_behind, cut}
use Rattle.line_cutter.specs.Terminator.{StandsAt}
use Rattle.line_cutter.proofs.Standing.{fits}

pub cut_behind-drop : (t : List ℕ) (n : ℕ) (xs : List ℕ) → cut_behind t n xs ≡ cut t (drop n xs)
cut_behind-drop t zero [] = refl
cut_behind-drop t (suc n) [] = refl
cut_behind-drop t zero (x ∷ xs) = refl
cut_behind-drop t (suc n) (x ∷ xs) = cut_behind-drop t n xs

-- the bytes that were cut
abbrev pub bytes_in : List ℕ → Cut → List ℕ
bytes_in t (rest bytes) = bytes
bytes_in t (line body behind) = body ++ (t ++ bytes_in t behind)

-- the same bytes, and others after them
abbrev pub graft : List ℕ → Cut → List ℕ → Cut
graft t (rest bytes) more = cut t (bytes ++ more)
graft t (line body behind) more = line body (graft t behind more)

bytes_in-front : (t : List ℕ) (x : ℕ) (c : Cut) → bytes_in t (in_front x c) ≡ x ∷ bytes_in t c
bytes_in-front t x (rest bytes) = refl
bytes_in-front t x (line body behind) = refl

module _ (t : List ℕ) (some : 0 < length t) where
  -- where the terminator is in front
  at_front : (x : ℕ) (xs : List ℕ) → take (length t) (x ∷ xs) ≡ t → cut t (x ∷ xs) ≡ line [] (cut_behind t (length t - 1) xs)
  at_front x xs s = cond-true _ _ _ ((bytes_eq-Decides (take (length t) (x ∷ xs)) t).1 s)

  -- where it does not
  past_front : (x : ℕ) (xs : List ℕ) → ¬ (take (length t) (x ∷ xs) ≡ t) → cut t (x ∷ xs) ≡ in_front x (cut t xs)
  past_front x xs not_here = elim (cases_Bool (bytes_eq (take (length t) (x ∷ xs)) t))
      [ inl holds ↦ absurd (not_here ((bytes_eq-Decides (take (length t) (x ∷ xs)) t).0 holds)) | inr fails ↦ cond-false _ _ _ fails ]

  behind_front : (x : ℕ) (xs : List ℕ) → drop (length t - 1) xs ≡ drop (length t) (x ∷ xs)
  behind_front x xs = let e : length t ≡ suc (length t - 1) = omega arith in ap (λ n. drop n (x ∷ xs)) (sym e)

  -- no terminator is in the bytes
  pub cut-none : (xs : List ℕ) → ((k : ℕ) → ¬ (StandsAt t xs k)) → cut t xs ≡ rest xs
  cut-none [] none = refl
  cut-none (x ∷ xs) none = past_front x xs (none 0) ∙ ap (in_front x) (cut-none xs (λ k. none (suc k)))

  -- the first terminator is at place k
  pub cut-first : (xs : List ℕ) (k : ℕ) → StandsAt t xs k → ((j : ℕ) → j < k → ¬ (StandsAt t xs j)) →
      cut t xs ≡ line (take k xs) (cut t (drop (k + length t) xs))
  cut-first [] k s first = absurd (omega (arith, fits t some [] k s))
  cut-first (x ∷ xs) zero s first =
      at_front x xs s ∙ ap (line []) (cut_behind-drop t (length t - 1) xs
      ∙ ap (cut t) (behind_front x xs ∙ ap (λ n. drop n (x ∷ xs)) (sym (zero-add (length t)))))
  cut-first (x ∷ xs) (suc k) s first =
      let e : suc k + length t ≡ suc (k + length t) = omega arith in
      past_front x xs (first 0 (omega arith))
      ∙ ap (in_front x) (cut-first xs k s (λ j h. first (suc j) (omega arith)))
      ∙ ap (λ n. line (x ∷ take k xs) (cut t (drop n (x ∷ xs)))) (sym e)

  -- cutting keeps each byte
  bytes_in-cut_behind : (n : ℕ) (xs : List ℕ) → n ≤ length xs → bytes_in t (cut_behind t n xs) ≡ drop n xs
  bytes_in-cut_behind zero [] h = refl
  bytes_in-cut_behind (suc n) [] h = absurd (omega arith)
  bytes_in-cut_behind (suc n) (x ∷ xs) h = bytes_in-cut_behind n xs (omega arith)
  bytes_in-cut_behind zero (x ∷ xs) h = elim (cases_Bool (bytes_eq (take (length t) (x ∷ xs)) t)) [
    | inl holds ↦
        let s = (bytes_eq-Decides (take (length t) (x ∷ xs)) t).0 holds in
        let e : length (take (length t) (x ∷ xs)) ≡ length t = ap length s in
        let fit : length t - 1 ≤ length xs = omega (arith, e, length-take (length t) (x ∷ xs)) in
        ap (bytes_in t) (at_front x xs s)
        ∙ ap (λ ys. t ++ ys) (bytes_in-cut_behind (length t - 1) xs fit ∙ behind_front x xs)
        ∙ ap (λ ys. ys ++ drop (length t) (x ∷ xs)) (sym s) ∙ take-append-drop (length t) (x ∷ xs)
    | inr fails ↦
        ap (bytes_in t) (cond-false _ _ _ fails) ∙ bytes_in-front t x (cut t xs)
        ∙ ap (λ ys. x ∷ ys) (bytes_in-cut_behind zero xs (omega arith))
  ]

  pub bytes_in-cut : (xs : List ℕ) → bytes_in t (cut t xs) ≡ xs
  bytes_in-cut xs = bytes_in-cut_behind 0 xs (omega arith)

  -- bytes with others after them
  front-graft : (x : ℕ) (xs ys : List ℕ) (c : Cut) → bytes_in t c ≡ xs → ¬ (take (length t) (x ∷ (xs ++ ys)) ≡ t) →
      in_front x (graft t c ys) ≡ graft t (in_front x c) ys
  front-graft x xs ys (rest bytes) e not_here =
      sym (past_front x (bytes ++ ys) (λ s. not_here (ap (λ zs. take (length t) (x ∷ (zs ++ ys))) (sym e) ∙ s)))
  front-graft x xs ys (line body behind) e not_here = refl

  too_short : (xs : List ℕ) → length xs < length t → cut t xs ≡ rest xs
  too_short xs h = cut-none xs (λ k s. omega (arith, fits t some xs k s))

  cut_behind-append : (n : ℕ) (xs ys : List ℕ) → n ≤ length xs → cut_behind t n (xs ++ ys) ≡ graft t (cut_behind t n xs) ys
  cut_behind-append zero [] ys h = refl
  cut_behind-append (suc n) [] ys h = absurd (omega arith)
  cut_behind-append (suc n) (x ∷ xs) ys h = cut_behind-append n xs ys (omega arith)
  cut_behind-append zero (x ∷ xs) ys h = elim (cases_lt (length (x ∷ xs)) (length t)) [
    | inl short ↦ sym (ap (λ c. graft t c ys) (too_short (x ∷ xs) short))
    | inr long ↦
        let same = take-append-le (length t) (x ∷ xs) ys long in
        elim (cases_Bool (bytes_eq (take (length t) (x ∷ xs)) t)) [
          | inl holds ↦
              let s = (bytes_eq-Decides (take (length t) (x ∷ xs)) t).0 holds in
              at_front x (xs ++ ys) (same ∙ s)
              ∙ ap (line []) (cut_behind-append (length t - 1) xs ys (omega arith))
              ∙ ap (λ c. graft t c ys) (sym (at_front x xs s))
          | inr fails ↦
              let not_here : ¬ (take (length t) (x ∷ xs) ≡ t) = λ s. both_ways _ fails ((bytes_eq-Decides (take (length t) (x ∷ xs)) t).1 s) in
              let not_longer : ¬ (take (length t) (x ∷ (xs ++ ys)) ≡ t) = λ s. not_here (sym same ∙ s) in
              past_front x (xs ++ ys) not_longer ∙ ap (in_front x) (cut_behind-append zero xs ys (omega arith))
              ∙ front-graft x xs ys (cut t xs) (bytes_in-cut xs) not_longer
              ∙ ap (λ c. graft t c ys) (sym (past_front x xs not_here))
        ]
  ]

  pub cut-append : (xs ys : List ℕ) → cut t (xs ++ ys) ≡ graft t (cut t xs) ys
  cut-append xs ys = cut_behind-append 0 xs ys (omega arith)
