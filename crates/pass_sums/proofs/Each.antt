-- What holds of each item of lists, and of lists put together.
use Rattle.std.proofs.Common.{◌≡◌, ℕ, zero, suc, List, [], ◌∷◌, ◌++◌, set, All, refl, sym, ap, ◌∙◌, subst, arith}
use Rattle.std.specs.List.{flat_map}
use mathlib.Core.Option.{some, some-injective, some-ne-none}
use lib.ListN.{get_elem?}

module _ {A : Type 0} (P : A → Type 0) where
  pub all_none : All P []
  all_none k d inside = absurd (omega arith)

  pub all_cons : (x : A) (xs : List A) → P x → All P xs → All P (x ∷ xs)
  all_cons x xs here rest zero d inside = here
  all_cons x xs here rest (suc k) d inside = rest k d (omega arith)

  pub all_head : (x : A) (xs : List A) → All P (x ∷ xs) → P x
  all_head x xs all = all 0 x (omega arith)

  pub all_tail : (x : A) (xs : List A) → All P (x ∷ xs) → All P xs
  all_tail x xs all k d inside = all (suc k) d (omega arith)

  pub all_both : (xs ys : List A) → All P xs → All P ys → All P (xs ++ ys)
  all_both [] ys left right = right
  all_both (x ∷ xs) ys left right = all_cons x (xs ++ ys) (all_head x xs left) (all_both xs ys (all_tail x xs left) right)

  pub all_left : (xs ys : List A) → All P (xs ++ ys) → All P xs
  all_left [] ys all = all_none
  all_left (x ∷ xs) ys all = all_cons x xs (all_head x (xs ++ ys) all) (all_left xs ys (all_tail x (xs ++ ys) all))

  pub all_right : (xs ys : List A) → All P (xs ++ ys) → All P ys
  all_right [] ys all = all
  all_right (x ∷ xs) ys all = all_right xs ys (all_tail x (xs ++ ys) all)

  module _ {V : Type 0} (f : V → List A) where
    -- what holds of all items together holds of those of each view
    pub each_of : (views : List V) → All P (flat_map f views) → (pass : ℕ) (v : V) → get_elem? views pass ≡ some v → All P (f v)
    each_of [] all pass v at = absurd (some-ne-none v (sym at))
    each_of (u ∷ views) all zero v at = subst (λ (y : V). All P (f y)) (some-injective u v at) (all_left (f u) (flat_map f views) all)
    each_of (u ∷ views) all (suc pass) v at = each_of views (all_right (f u) (flat_map f views) all) pass v at

    -- and the other way round
    pub all_of : (views : List V) → ((pass : ℕ) (v : V) → get_elem? views pass ≡ some v → All P (f v)) → All P (flat_map f views)
    all_of [] each = all_none
    all_of (u ∷ views) each = all_both (f u) (flat_map f views) (each zero u refl) (all_of views (λ pass. each (suc pass)))

-- if one follows from the other, it does so for all
pub all_then : {A : Type 0} (P Q : A → Type 0) (xs : List A) → ((x : A) → P x → Q x) → All P xs → All Q xs
all_then P Q xs follows all k d inside = follows _ (all k d inside)

pub all_then_both : {A : Type 0} (P Q R : A → Type 0) (xs : List A) → ((x : A) → P x → Q x → R x) → All P xs → All Q xs → All R xs
all_then_both P Q R xs follows all also k d inside = follows _ (all k d inside) (also k d inside)

-- a view that changes and keeps its list leaves the lists together as they are
pub flat_map_set : {V A : Type 0} (f : V → List A) (views : List V) (pass : ℕ) (v w : V) → get_elem? views pass ≡ some v → f w ≡ f v → flat_map f (set views pass w) ≡ flat_map f views
flat_map_set f [] pass v w at same = refl
flat_map_set f (u ∷ views) zero v w at same = ap (λ (xs : List _). xs ++ flat_map f views) (same ∙ ap f (sym (some-injective u v at)))
flat_map_set f (u ∷ views) (suc pass) v w at same = ap (λ (xs : List _). f u ++ xs) (flat_map_set f views pass v w at same)

-- lists that are empty together
pub both_empty : {A : Type 0} (xs ys : List A) → xs ++ ys ≡ [] → (xs ≡ []) × (ys ≡ [])
both_empty [] ys none = (refl, none)
both_empty (x ∷ xs) ys none = absurd cc

pub none_together : {A : Type 0} (xs ys : List A) → xs ≡ [] → ys ≡ [] → xs ++ ys ≡ []
none_together xs ys none other = ap (λ (zs : List _). zs ++ ys) none ∙ other
