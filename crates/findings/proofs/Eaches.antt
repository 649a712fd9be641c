-- Two lists, one for one, with one of each more.
use Rattle.std.proofs.Common.{◌≡◌, List, [], ◌∷◌, ◌++◌, refl, sym, ap, subst}
use Rattle.findings.specs.Each.{Each}

each_more : {X Y : Type 0} (R : X → Y → Type 0) (xs : List X) (ys : List Y) (x : X) (y : Y) → Each R xs ys → R x y → Each R (xs ++ x ∷ []) (ys ++ y ∷ [])
each_more {Y = Y} R [] ys x y are is = (y, [], ap (λ (l : List Y). l ++ y ∷ []) are, is, refl)
each_more {Y = Y} R (first ∷ xs) ys x y are is = (are.0, are.1 ++ y ∷ [], ap (λ (l : List Y). l ++ y ∷ []) are.2, are.3, each_more R xs are.1 x y are.4 is)

pub each_next : {X Y : Type 0} (R : X → Y → Type 0) (xs : List X) (ys new : List Y) (x : X) (y : Y) → Each R xs ys → R x y → new ≡ ys ++ y ∷ [] → Each R (xs ++ x ∷ []) new
each_next {Y = Y} R xs ys new x y are is new_is = subst (λ (l : List Y). Each R (xs ++ x ∷ []) l) (sym new_is) (each_more R xs ys x y are is)
