-- Lists, one element after the other.
use Rattle.std.proofs.Common.{◌≡◌, ◌⊎◌, inl, inr, zero, suc, List, [], ◌∷◌, ◌++◌, map, Any, Contains, refl, sym, ap, subst, arith, lit<}
use Rattle.std.specs.Prelude.{flat_map}
use Rattle.std.specs.List.{AllByRecursion}

pub contains_none : {X : Type 0} (x : X) → Contains [] x → ⊥
contains_none x (k, within, is) = omega arith

pub contains_one : {X : Type 0} (x : X) → Contains (x ∷ []) x
contains_one x = (0, lit< tt, refl)

pub only_one : {X : Type 0} (x y : X) → Contains (x ∷ []) y → x ≡ y
only_one x y (zero, within, is) = is
only_one x y (suc k, within, is) = absurd (omega arith)

pub contains_later : {X : Type 0} (first x : X) (more : List X) → Contains more x → Contains (first ∷ more) x
contains_later first x more (k, within, is) = (suc k, omega arith, is)

pub any_later : {X : Type 0} (P : X → Type 0) (first : X) (more : List X) → Any P more → Any P (first ∷ more)
any_later P first more (k, x, within, is, holds) = (suc k, x, omega arith, is, holds)

abbrev pub IsIn : {X : Type 0} → List X → X → Type 0
IsIn [] x = ⊥
IsIn (y ∷ ys) x = (y ≡ x) ⊎ IsIn ys x

pub in_contained : {X : Type 0} (xs : List X) (x : X) → Contains xs x → IsIn xs x
in_contained [] x among = absurd (contains_none x among)
in_contained (y ∷ ys) x (zero, within, is) = inl is
in_contained (y ∷ ys) x (suc k, within, is) = inr (in_contained ys x (k, omega arith, is))

pub contains_in : {X : Type 0} (xs : List X) (x : X) → IsIn xs x → Contains xs x
contains_in [] x none = absurd none
contains_in (y ∷ ys) x (inl same) = (0, omega arith, same)
contains_in (y ∷ ys) x (inr later) = contains_later y x ys (contains_in ys x later)

pub any_in : {X : Type 0} (P : X → Type 0) (xs : List X) (x : X) → IsIn xs x → P x → Any P xs
any_in P [] x none holds = absurd none
any_in P (y ∷ ys) x (inl same) holds = (0, y, omega arith, refl, subst P (sym same) holds)
any_in P (y ∷ ys) x (inr later) holds = any_later P y ys (any_in P ys x later holds)

pub in_left : {X : Type 0} (xs ys : List X) (x : X) → IsIn xs x → IsIn (xs ++ ys) x
in_left [] ys x none = absurd none
in_left (first ∷ xs) ys x (inl same) = inl same
in_left (first ∷ xs) ys x (inr later) = inr (in_left xs ys x later)

pub in_right : {X : Type 0} (xs ys : List X) (x : X) → IsIn ys x → IsIn (xs ++ ys) x
in_right [] ys x is = is
in_right (first ∷ xs) ys x is = inr (in_right xs ys x is)

pub in_map : {X Y : Type 0} (f : X → Y) (xs : List X) (x : X) → IsIn xs x → IsIn (map f xs) (f x)
in_map f [] x none = absurd none
in_map f (first ∷ xs) x (inl same) = inl (ap f same)
in_map f (first ∷ xs) x (inr later) = inr (in_map f xs x later)

pub all_append : {X : Type 0} (P : X → Type 0) (xs ys : List X) → AllByRecursion P xs → AllByRecursion P ys → AllByRecursion P (xs ++ ys)
all_append P [] ys first second = second
all_append P (x ∷ xs) ys first second = (first.0, all_append P xs ys first.1 second)

pub all_front : {X : Type 0} (P : X → Type 0) (xs ys : List X) → AllByRecursion P (xs ++ ys) → AllByRecursion P xs
all_front P [] ys all = tt
all_front P (x ∷ xs) ys all = (all.0, all_front P xs ys all.1)

pub all_weaker : {X : Type 0} (P Q : X → Type 0) → ((x : X) → P x → Q x) → (xs : List X) → AllByRecursion P xs → AllByRecursion Q xs
all_weaker P Q step [] all = tt
all_weaker P Q step (x ∷ xs) all = (step x all.0, all_weaker P Q step xs all.1)

pub all_in : {X : Type 0} (P : X → Type 0) (xs : List X) (x : X) → AllByRecursion P xs → IsIn xs x → P x
all_in P [] x all none = absurd none
all_in P (y ∷ ys) x all (inl same) = subst P same all.0
all_in P (y ∷ ys) x all (inr later) = all_in P ys x all.1 later

pub any_of : {X : Type 0} (P : X → Type 0) (xs : List X) (x : X) → Contains xs x → P x → Any P xs
any_of P xs x among holds = (among.0, x, among.1, among.2, holds)

pub one_of_any : {X : Type 0} (P : X → Type 0) (xs : List X) → Any P xs → (x : X) × Contains xs x × P x
one_of_any P xs any = (any.1, (any.0, any.2, any.3), any.4)

pub none_at_all : {X : Type 0} (P : X → Type 0) (xs : List X) → ¬ (Any P xs) → AllByRecursion (λ x. ¬ (P x)) xs
none_at_all P [] none = tt
none_at_all P (x ∷ xs) none = (λ holds. none (any_in P (x ∷ xs) x (inl refl) holds), none_at_all P xs (λ any. none (any_later P x xs any)))

pub all_both : {X : Type 0} (P Q : X → Type 0) (xs : List X) → AllByRecursion P xs → AllByRecursion Q xs → AllByRecursion (λ x. P x × Q x) xs
all_both P Q [] first second = tt
all_both P Q (x ∷ xs) first second = ((first.0, second.0), all_both P Q xs first.1 second.1)

pub all_from_in : {X : Type 0} (P : X → Type 0) (xs : List X) → ((x : X) → IsIn xs x → P x) → AllByRecursion P xs
all_from_in P [] each = tt
all_from_in P (x ∷ xs) each = (each x (inl refl), all_from_in P xs (λ y later. each y (inr later)))

pub all_map : {X Y : Type 0} (P : Y → Type 0) (Q : X → Type 0) (f : X → Y) → ((x : X) → Q x → P (f x)) → (xs : List X) → AllByRecursion Q xs → AllByRecursion P (map f xs)
all_map P Q f step [] all = tt
all_map P Q f step (x ∷ xs) all = (step x all.0, all_map P Q f step xs all.1)

pub all_flat : {X Y : Type 0} (P : Y → Type 0) (Q : X → Type 0) (f : X → List Y) → ((x : X) → Q x → AllByRecursion P (f x)) → (xs : List X) → AllByRecursion Q xs → AllByRecursion P (flat_map f xs)
all_flat P Q f step [] all = tt
all_flat P Q f step (x ∷ xs) all = all_append P (f x) (flat_map f xs) (step x all.0) (all_flat P Q f step xs all.1)

pub in_flat : {X Y : Type 0} (f : X → List Y) (xs : List X) (x : X) (y : Y) → IsIn xs x → IsIn (f x) y → IsIn (flat_map f xs) y
in_flat f [] x y none at = absurd none
in_flat f (first ∷ xs) x y (inl same) at = in_left (f first) (flat_map f xs) y (subst (λ (z : _). IsIn (f z) y) (sym same) at)
in_flat f (first ∷ xs) x y (inr later) at = in_right (f first) (flat_map f xs) y (in_flat f xs x y later at)
