-- The harvesters of seats of which one was taken out, the last one in its place.
use Rattle.std.specs.List.{swap_remove}
use Rattle.std.proofs.Common.{◌≡◌, ℕ, ◌-◌, ◌<◌, List, length, take, map, get_or, set, sym, ap, ◌∙◌, arith}
use Rattle.std.specs.List.{take-map}
use Rattle.std.proofs.lemmas.List.{get_or-map, length-map, map-set}

pub map-swap_remove : {A B : Type 0} (f : A → B) (xs : List A) (i : ℕ) (d : A) → i < length xs → map f (swap_remove xs i d) ≡ swap_remove (map f xs) i (f d)
map-swap_remove f xs i d inside =
    sym (take-map f (length xs - 1) (set xs i (get_or xs (length xs - 1) d)))
    ∙ ap (take (length xs - 1)) (map-set f xs i (get_or xs (length xs - 1) d)
    ∙ ap (λ e. set (map f xs) i e) (sym (get_or-map f xs (length xs - 1) d (f d) (omega (arith, inside)))))
    ∙ ap (λ (n : ℕ). take (n - 1) (set (map f xs) i (get_or (map f xs) (n - 1) (f d)))) (sym (length-map xs f))
