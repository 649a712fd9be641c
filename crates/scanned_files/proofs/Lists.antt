-- Lists that are parted at an item, and what is known of the items after it.
use Rattle.std.proofs.Common.{◌≡◌, ℕ, zero, suc, ◌<◌, List, [], ◌∷◌, ◌++◌, length, map, Some, None, refl, ap, subst, arith}
use Rattle.std.specs.Prelude.{slice_get}
use Rattle.std.specs.List.{AllByRecursion}
use Rattle.told_scans.proofs.Members.{some_is}

-- the items before the one of this number, and those after it
pub record IsPartedAt {A : Type 0} (xs : List A) (number : ℕ) (x : A) : Type 0 where
  pub front : List A
  pub behind : List A
  pub are : xs ≡ front ++ x ∷ behind
  pub number_is : number ≡ length front

pub parted_at : {A : Type 0} (xs : List A) (number : ℕ) (x : A) → slice_get xs number ≡ Some x → IsPartedAt xs number x
parted_at [] number x is = absurd (let q : None ≡ Some x = is in cc)
parted_at (first ∷ xs) zero x is = record { front = []; behind = xs; are = ap (λ (y : _). y ∷ xs) (some_is first x is); number_is = refl }
parted_at (first ∷ xs) (suc number) x is =
    let rest = parted_at xs number x is in
    record { front = first ∷ rest.front; behind = rest.behind; are = ap (λ (l : List _). first ∷ l) rest.are; number_is = ap suc rest.number_is }

pub record IsOfItem {A B : Type 0} (f : A → B) (xs : List A) (number : ℕ) (y : B) : Type 0 where
  pub item : A
  pub there : slice_get xs number ≡ Some item
  pub same : f item ≡ y

pub got_of_map : {A B : Type 0} (f : A → B) (xs : List A) (number : ℕ) (y : B) → slice_get (map f xs) number ≡ Some y → IsOfItem f xs number y
got_of_map f [] number y is = absurd (let q : None ≡ Some y = is in cc)
got_of_map f (x ∷ xs) zero y is = record { item = x; there = refl; same = some_is (f x) y is }
got_of_map f (x ∷ xs) (suc number) y is = let rest = got_of_map f xs number y is in record { item = rest.item; there = rest.there; same = rest.same }

-- where the same list is parted at an item that comes later
pub each_later : {A : Type 0} (P : A → Type 0) (front : List A) (x : A) (behind others : List A) (y : A) (last : List A) → front ++ x ∷ behind ≡ others ++ y ∷ last → length front < length others →
    AllByRecursion P behind → AllByRecursion P (y ∷ last)
each_later P front x behind [] y last are less all = absurd (omega (arith, less))
each_later P [] x behind (other ∷ others) y last are less all = let rest : behind ≡ others ++ y ∷ last = cc in each_last others (y ∷ last) (subst (AllByRecursion P) rest all)
  where
    each_last : (xs ys : List _) → AllByRecursion P (xs ++ ys) → AllByRecursion P ys
    each_last [] ys all = all
    each_last (x ∷ xs) ys all = each_last xs ys all.1
each_later P (first ∷ front) x behind (other ∷ others) y last are less all =
    let rest : front ++ x ∷ behind ≡ others ++ y ∷ last = cc in each_later P front x behind others y last rest (omega (arith, less)) all
