-- What a list or a map holds is smaller than it.
use Rattle.std.proofs.Common.{◌≡◌, ℕ, zero, suc, ◌<◌, List, [], ◌∷◌, length, get_or, ap, arith}
use Rattle.event_tree.specs.Paths.{map_of}
use Rattle.event_tree.specs.Size.{value_size}
use Rattle.event_tree.specs.Tree.{value_of, values_of, pairs_of}
use Rattle.event_tree.specs.Value.{list, as_values}
use Rattle.event_tree.specs.declared.tree.Tree.{Tree}

pub list_smaller : (ts : List Tree) (i : ℕ) (t : Tree) → i < length ts → t ≡ get_or ts i t → value_size (value_of t) < value_size (list (as_values (values_of ts)))
list_smaller [] i t inside is = absurd (omega arith)
list_smaller (x ∷ xs) zero t inside is =
    let same : value_size (value_of t) ≡ value_size (value_of x) = ap (λ y. value_size (value_of y)) is in omega (arith, same)
list_smaller (x ∷ xs) (suc i) t inside is = omega (arith, list_smaller xs i t (omega arith) is)

pub map_smaller : (ps : List (List ℕ × Tree)) (i : ℕ) (p : List ℕ × Tree) → i < length ps → p ≡ get_or ps i p → value_size (value_of p.1) < value_size (map_of (pairs_of ps))
map_smaller [] i p inside is = absurd (omega arith)
map_smaller (x ∷ xs) zero p inside is =
    let same : value_size (value_of p.1) ≡ value_size (value_of x.1) = ap (λ (y : List ℕ × Tree). value_size (value_of y.1)) is in omega (arith, same)
map_smaller (x ∷ xs) (suc i) p inside is = omega (arith, map_smaller xs i p (omega arith) is)
