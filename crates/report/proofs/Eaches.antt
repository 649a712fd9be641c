-- What is made of each of a list's elements, from a place on.
use Rattle.std.proofs.Common.{◌≡◌, ℕ, ◌+◌, ◌<◌, List, ◌∷◌, ◌++◌, length, drop, get_or, map, slice_get, Some, ap, sym, arith}
use Rattle.std.specs.List.{flat_map}
use Rattle.std.proofs.lemmas.Option.{get_or_from_slice_get, slice_get_within}
use Rattle.std.proofs.lemmas.Grind.{common_steps}

pub flat_map_at : {X : Type 0} (f : X → List ℕ) (xs : List X) (i : ℕ) (x : X) → i < length xs → x ≡ get_or xs i x →
    flat_map f (drop i xs) ≡ f x ++ flat_map f (drop (i + 1) xs)
flat_map_at f xs i x below is =
    let parts : drop i xs ≡ x ∷ drop (i + 1) xs = grind (arith, common_steps) in
    ap (flat_map f) parts

pub flat_map_got : {X : Type 0} (f : X → List ℕ) (xs : List X) (i : ℕ) (x : X) → slice_get xs i ≡ Some x →
    flat_map f (drop i xs) ≡ f x ++ flat_map f (drop (i + 1) xs)
flat_map_got f xs i x got = flat_map_at f xs i x (slice_get_within xs i x got) (sym (get_or_from_slice_get xs i x x got))

pub flat_map-map_at : {X Y : Type 0} (f : Y → List ℕ) (g : X → Y) (xs : List X) (i : ℕ) (x : X) → i < length xs → x ≡ get_or xs i x →
    flat_map f (map g (drop i xs)) ≡ f (g x) ++ flat_map f (map g (drop (i + 1) xs))
flat_map-map_at f g xs i x below is =
    let parts : drop i xs ≡ x ∷ drop (i + 1) xs = grind (arith, common_steps) in
    ap (λ l. flat_map f (map g l)) parts
