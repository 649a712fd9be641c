-- Lists of which each element keeps its truth values, and lists that grow.
use Rattle.std.proofs.Common.{◌≡◌, ℕ, zero, suc, ◌+◌, ◌<◌, Bool, true, false, List, [], ◌∷◌, ◌++◌, length, map, get_or, set, take, Some, refl, sym, ap, ◌∙◌, arith, add-one}
use Rattle.std.specs.List.{list_all, list_any, slice_get}
use Rattle.std.proofs.lemmas.List.{map-set, set-get_or, map_push, map_more, take_all, get_or-map}
use Rattle.std.proofs.lemmas.List.Folds.{list_all_more, list_any_more}

module _ {X C : Type 0} (f : X → C) where
  -- an element that stands for the same
  pub set_kept : (xs : List X) (i : ℕ) (x new : X) → x ≡ get_or xs i x → f new ≡ f x → map f (set xs i new) ≡ map f xs
  set_kept xs i x new at same =
      map-set f xs i new ∙ ap (λ y. set (map f xs) i y) same ∙ sym (map-set f xs i x) ∙ ap (map f) (ap (λ z. set xs i z) at ∙ set-get_or xs i x)

  -- one more element, made of the next one given
  pub grown : {A : Type 0} (g : A → C) (made : List X) (given : List A) (i : ℕ) (new : X) (one : A) → i < length given → one ≡ get_or given i one → f new ≡ g one →
      map f made ≡ map g (take i given) → map f (made ++ new ∷ []) ≡ map g (take (i + 1) given)
  grown g made given i new one inside at same so_far =
      map_push f made new ∙ (λ k. so_far k ++ same k ∷ []) ∙ ap (λ y. map g (take i given) ++ g y ∷ []) at ∙ sym (map_more g given i one inside)

-- ---- what is at a place

pub take_got : {X : Type 0} (xs : List X) (i : ℕ) (x : X) → slice_get xs i ≡ Some x → take (suc i) xs ≡ take i xs ++ x ∷ []
take_got [] i x got = absurd (cc)
take_got (y ∷ ys) zero x got = ap (λ z. z ∷ []) (cc)
take_got (y ∷ ys) (suc i) x got = ap (λ l. y ∷ l) (take_got ys i x got)
