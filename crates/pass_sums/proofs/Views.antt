-- Sums over what all passes know, as one or two of them change.
use Rattle.std.proofs.Common.{◌≡◌, ℕ, zero, suc, ◌+◌, ◌≤◌, ◌≢◌, List, [], ◌∷◌, ◌++◌, set, refl, sym, ap, subst, arith}
use Rattle.std.specs.List.{flat_map}
use mathlib.Core.Option.{some, some-injective, some-ne-none}
use lib.ListN.{get_elem?}
use Rattle.pass_sums.specs.Weight.{weigh}
use Rattle.pass_sums.proofs.Weights.{weigh-append}

module _ {V A : Type 0} (f : V → List A) (h : A → ℕ) where
  -- one view changed
  pub weigh-set : (views : List V) (pass : ℕ) (v w : V) → get_elem? views pass ≡ some v
      → weigh h (flat_map f (set views pass w)) + weigh h (f v) ≡ weigh h (flat_map f views) + weigh h (f w)
  weigh-set [] pass v w at = absurd (some-ne-none v (sym at))
  weigh-set (u ∷ views) zero v w at =
      let is : weigh h (f u) ≡ weigh h (f v) = ap (λ (y : V). weigh h (f y)) (some-injective u v at) in
      omega (arith, weigh-append h (f w) (flat_map f views), weigh-append h (f u) (flat_map f views))
  weigh-set (u ∷ views) (suc pass) v w at =
      omega (arith, weigh-append h (f u) (flat_map f (set views pass w)), weigh-append h (f u) (flat_map f views), weigh-set views pass v w at)

  -- one view came after the others
  pub weigh-snoc : (views : List V) (w : V) → weigh h (flat_map f (views ++ w ∷ [])) ≡ weigh h (flat_map f views) + weigh h (f w)
  weigh-snoc [] w = omega (arith, weigh-append h (f w) [])
  weigh-snoc (u ∷ views) w = omega (arith, weigh-append h (f u) (flat_map f (views ++ w ∷ [])), weigh-append h (f u) (flat_map f views), weigh-snoc views w)

  -- no view weighs more than all
  pub weigh-one : (views : List V) (pass : ℕ) (v : V) → get_elem? views pass ≡ some v → weigh h (f v) ≤ weigh h (flat_map f views)
  weigh-one [] pass v at = absurd (some-ne-none v (sym at))
  weigh-one (u ∷ views) zero v at =
      let is : weigh h (f u) ≡ weigh h (f v) = ap (λ (y : V). weigh h (f y)) (some-injective u v at) in
      omega (arith, weigh-append h (f u) (flat_map f views))
  weigh-one (u ∷ views) (suc pass) v at = omega (arith, weigh-append h (f u) (flat_map f views), weigh-one views pass v at)

  -- two views weigh no more than all
  pub weigh-two : (views : List V) (pass other : ℕ) (v u : V) → get_elem? views pass ≡ some v → get_elem? views other ≡ some u → other ≢ pass
      → weigh h (f v) + weigh h (f u) ≤ weigh h (flat_map f views)
  weigh-two [] pass other v u at there apart = absurd (some-ne-none v (sym at))
  weigh-two (x ∷ views) zero zero v u at there apart = absurd (apart refl)
  weigh-two (x ∷ views) zero (suc other) v u at there apart =
      let is : weigh h (f x) ≡ weigh h (f v) = ap (λ (y : V). weigh h (f y)) (some-injective x v at) in
      omega (arith, weigh-append h (f x) (flat_map f views), weigh-one views other u there)
  weigh-two (x ∷ views) (suc pass) zero v u at there apart =
      let is : weigh h (f x) ≡ weigh h (f u) = ap (λ (y : V). weigh h (f y)) (some-injective x u there) in
      omega (arith, weigh-append h (f x) (flat_map f views), weigh-one views pass v at)
  weigh-two (x ∷ views) (suc pass) (suc other) v u at there apart =
      omega (arith, weigh-append h (f x) (flat_map f views), weigh-two views pass other v u at there (λ same. apart (ap suc same)))

  -- views with empty lists weigh nothing
  weigh-none : (views : List V) → ((pass : ℕ) (v : V) → get_elem? views pass ≡ some v → f v ≡ []) → weigh h (flat_map f views) ≡ 0
  weigh-none [] empty = refl
  weigh-none (x ∷ views) empty =
      let is : weigh h (f x) ≡ 0 = ap (weigh h) (empty zero x refl) in
      omega (arith, weigh-append h (f x) (flat_map f views), weigh-none views (λ pass. empty (suc pass)))

  -- if all others have empty lists, one view has all
  pub weigh-only : (views : List V) (pass : ℕ) (v : V) → get_elem? views pass ≡ some v
      → ((other : ℕ) (u : V) → get_elem? views other ≡ some u → other ≢ pass → f u ≡ []) → weigh h (flat_map f views) ≡ weigh h (f v)
  weigh-only [] pass v at empty = absurd (some-ne-none v (sym at))
  weigh-only (x ∷ views) zero v at empty =
      let is : weigh h (f x) ≡ weigh h (f v) = ap (λ (y : V). weigh h (f y)) (some-injective x v at) in
      omega (arith, weigh-append h (f x) (flat_map f views), weigh-none views (λ other u there. empty (suc other) u there (λ same. omega arith)))
  weigh-only (x ∷ views) (suc pass) v at empty =
      let is : weigh h (f x) ≡ 0 = ap (weigh h) (empty zero x refl (λ same. omega arith)) in
      omega (arith, weigh-append h (f x) (flat_map f views), weigh-only views pass v at (λ other u there apart. empty (suc other) u there (λ same. apart (omega arith))))

-- what holds of each view still holds of each, one of them changed
pub each_set : {V : Type 0} (F : ℕ → V → Type 0) (views : List V) (pass : ℕ) (w : V) → F pass w
    → ((other : ℕ) (u : V) → other ≢ pass → get_elem? views other ≡ some u → F other u)
    → (other : ℕ) (u : V) → get_elem? (set views pass w) other ≡ some u → F other u
each_set F [] pass w here others other u at = absurd (some-ne-none u (sym at))
each_set F (x ∷ views) zero w here others zero u at = subst (F zero) (some-injective w u at) here
each_set F (x ∷ views) zero w here others (suc other) u at = others (suc other) u (λ same. omega arith) at
each_set F (x ∷ views) (suc pass) w here others zero u at = others zero u (λ same. omega arith) at
each_set F (x ∷ views) (suc pass) w here others (suc other) u at =
    each_set (λ k. F (suc k)) views pass w here (λ k y apart. others (suc k) y (λ same. apart (omega arith))) other u at

-- what holds of each view still holds of each, one more after them
pub each_snoc : {V : Type 0} (F : V → Type 0) (views : List V) (w : V) → F w
    → ((pass : ℕ) (u : V) → get_elem? views pass ≡ some u → F u) → (pass : ℕ) (u : V) → get_elem? (views ++ w ∷ []) pass ≡ some u → F u
each_snoc F [] w here others zero u at = subst F (some-injective w u at) here
each_snoc F [] w here others (suc pass) u at = absurd (some-ne-none u (sym at))
each_snoc F (x ∷ views) w here others zero u at = others zero u at
each_snoc F (x ∷ views) w here others (suc pass) u at = each_snoc F views w here (λ k. others (suc k)) pass u at
