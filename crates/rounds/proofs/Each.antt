-- From what holds of two slices to what holds of them member by member, and of two parts of a slice to the whole.
use Rattle.std.proofs.Common.{◌≡◌, ℕ, ◌<◌, All, List, [], ◌∷◌, ◌++◌, length, map, take, drop, sym, ap, subst, ◌∙◌, slice_index_or, arith}
use Rattle.std.proofs.Math.ListN.{get_or-map}
use Rattle.std.proofs.lemmas.List.{drop_at, length-map, take-append-le, take_all}
use Rattle.std.proofs.lemmas.List.Elements.{All-drop, All-head, All-take}
use Rattle.rounds.specs.Pairs.{Pairs}

pub each_mapped : {A B : Type 0} (P : B → Type 0) (f : A → B) (xs : List A) → All P (map f xs) → (i : ℕ) (d : A) → i < length xs → P (f (slice_index_or xs i d))
each_mapped P f xs all i d within = subst P (get_or-map f xs i d) (all i (f d) (omega (arith, length-map xs f)))

-- two parts of a list, one after another
pub paired_parts : {A : Type 0} (R : A → A → Type 0) (old front back : List A) (new more : List A) → old ≡ front ++ back → Pairs R front new → Pairs R back more → Pairs R old (new ++ more)
paired_parts {A} R old front back new more is pairs later = subst (λ (l : List A). Pairs R l (new ++ more)) (sym is) (joined front new pairs)
  where
    joined : (xs ys : List A) → Pairs R xs ys → Pairs R (xs ++ back) (ys ++ more)
    joined [] [] pairs = later
    joined [] (y ∷ ys) pairs = absurd pairs
    joined (x ∷ xs) [] pairs = absurd pairs
    joined (x ∷ xs) (y ∷ ys) pairs = (pairs.0, joined xs ys pairs.1)

pub pairs_mapped : {A B : Type 0} (R : B → B → Type 0) (f : A → B) (xs ys : List A) → Pairs (λ x y. R (f x) (f y)) xs ys → Pairs R (map f xs) (map f ys)
pairs_mapped R f [] [] pairs = tt
pairs_mapped R f [] (y ∷ ys) pairs = absurd pairs
pairs_mapped R f (x ∷ xs) [] pairs = absurd pairs
pairs_mapped R f (x ∷ xs) (y ∷ ys) pairs = (pairs.0, pairs_mapped R f xs ys pairs.1)

-- what holds of each member holds of the first, and of each in two parts
pub first_each : {A : Type 0} (P : A → Type 0) (old : List A) (x : A) (xs : List A) → old ≡ x ∷ xs → All P old → P x
first_each {A} P old x xs is all = All-head P x xs (subst (λ (l : List A). All P l) is all)

pub front_each : {A : Type 0} (P : A → Type 0) (old front back : List A) → old ≡ front ++ back → All P old → All P front
front_each {A} P old front back is all =
    let shorter : take (length front) old ≡ front =
    ap (λ (l : List A). take (length front) l) is ∙ take-append-le (length front) front back (omega arith) ∙ take_all (length front) front (omega arith) in
    subst (λ (l : List A). All P l) shorter (All-take P (length front) old all)

pub back_each : {A : Type 0} (P : A → Type 0) (old front back : List A) → old ≡ front ++ back → All P old → All P back
back_each {A} P old front back is all =
    let later : drop (length front) old ≡ back = ap (λ (l : List A). drop (length front) l) is ∙ drop_at front back (length front) (omega arith) in
    subst (λ (l : List A). All P l) later (All-drop P (length front) old all)

-- what was done to the first member and to the rest was done to all
pub paired_on : {A B : Type 0} (R : A → B → Type 0) (old : List A) (x : A) (xs : List A) (y : B) (ys : List B) → old ≡ x ∷ xs → R x y → Pairs R xs ys → Pairs R old (y ∷ ys)
paired_on {A} R old x xs y ys is one more = subst (λ (l : List A). Pairs R l (y ∷ ys)) (sym is) (one, more)
