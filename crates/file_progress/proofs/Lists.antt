-- Lists that are made one element after the other.
use Rattle.std.proofs.Common.{◌≡◌, ℕ, ◌+◌, ◌<◌, List, [], ◌∷◌, ◌++◌, length, map, take, get_or, refl, sym, ap, ◌∙◌, append-nil, append_assoc}
use Rattle.std.specs.Prelude.{flat_map}
use Rattle.std.proofs.lemmas.List.{map-append, take_more}
use Rattle.std.proofs.lemmas.List.Concat.{flat_map-append}

one_more : {X : Type 0} (xs : List X) (i : ℕ) (x : X) → i < length xs → x ≡ get_or xs i x → take (i + 1) xs ≡ take i xs ++ x ∷ []
one_more xs i x below is = take_more xs i x below ∙ ap (λ e. take i xs ++ e ∷ []) (sym is)

module _ {X Y : Type 0} (xs : List X) (i : ℕ) (x : X) (below : i < length xs) (is : x ≡ get_or xs i x) where
  pub mapped_more : (f : X → Y) (made : List Y) → made ≡ map f (take i xs) → made ++ f x ∷ [] ≡ map f (take (i + 1) xs)
  mapped_more f made so_far =
      ap (λ (l : List Y). l ++ f x ∷ []) so_far ∙ sym (ap (map f) (one_more xs i x below is) ∙ map-append f (take i xs) (x ∷ []))

  pub added_more : (f : X → Y) (old made new : List Y) → made ≡ old ++ map f (take i xs) → new ≡ made ++ f x ∷ [] → new ≡ old ++ map f (take (i + 1) xs)
  added_more f old made new so_far more =
      more ∙ ap (λ (l : List Y). l ++ f x ∷ []) so_far ∙ append_assoc old (map f (take i xs)) (f x ∷ [])
      ∙ ap (λ (l : List Y). old ++ l) (mapped_more f (map f (take i xs)) refl)

  pub pieces_more : (f : X → List Y) (old made new : List Y) → made ≡ old ++ flat_map f (take i xs) → new ≡ made ++ f x → new ≡ old ++ flat_map f (take (i + 1) xs)
  pieces_more f old made new so_far more =
      more ∙ ap (λ (l : List Y). l ++ f x) so_far ∙ append_assoc old (flat_map f (take i xs)) (f x)
      ∙ ap (λ (l : List Y). old ++ l)
      (sym (ap (flat_map f) (one_more xs i x below is) ∙ flat_map-append f (take i xs) (x ∷ []) ∙ ap (λ (l : List Y). flat_map f (take i xs) ++ l) (append-nil (f x))))
