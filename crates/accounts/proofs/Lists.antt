-- Lists that go on.
use Rattle.std.proofs.Common.{◌≡◌, ◌⊎◌, inl, inr, ℕ, List, [], ◌∷◌, ◌++◌, Contains, length, Some, refl, sym, ap, subst, ◌∙◌, append_assoc, append-nil}
use Rattle.std.specs.Prelude.{slice_get}
use Rattle.std.specs.List.{AllByRecursion, flat_map}
use Rattle.harvester.specs.Standing.{EndsAt}
use Rattle.kept_rows.specs.Scans.{StandInOrder}
use Rattle.ship_core.proofs.Members.{first_there, later_there, none_there, there_cases}

pub flat_map_last : {A B : Type 0} (f : A → List B) (xs : List A) (x : A) → flat_map f (xs ++ x ∷ []) ≡ flat_map f xs ++ f x
flat_map_last f [] x = append-nil (f x)
flat_map_last f (y ∷ xs) x = ap (λ zs. f y ++ zs) (flat_map_last f xs x) ∙ sym (append_assoc (f y) (flat_map f xs) (f x))

pub flat_map_both : {A B : Type 0} (f : A → List B) (xs ys : List A) → flat_map f (xs ++ ys) ≡ flat_map f xs ++ flat_map f ys
flat_map_both f [] ys = refl
flat_map_both f (x ∷ xs) ys = ap (λ zs. f x ++ zs) (flat_map_both f xs ys) ∙ sym (append_assoc (f x) (flat_map f xs) (flat_map f ys))

-- ---- what is in both

pub front_there : {A : Type 0} (xs ys : List A) (x : A) → Contains xs x → Contains (xs ++ ys) x
front_there [] ys x there = absurd (none_there x there)
front_there {A} (first ∷ xs) ys x there = by_case (there_cases first x xs there) (front_there xs ys x)
  where
    by_case : (first ≡ x) ⊎ Contains xs x → (Contains xs x → Contains (xs ++ ys) x) → Contains (first ∷ (xs ++ ys)) x
    by_case (inl here) others = subst (λ (y : A). Contains (first ∷ (xs ++ ys)) y) here (first_there first (xs ++ ys))
    by_case (inr later) others = later_there first x (xs ++ ys) (others later)

pub behind_there : {A : Type 0} (xs ys : List A) (y : A) → Contains ys y → Contains (xs ++ ys) y
behind_there [] ys y there = there
behind_there (first ∷ xs) ys y there = later_there first y (xs ++ ys) (behind_there xs ys y there)

pub got_behind : {A : Type 0} (front : List A) (x : A) (behind : List A) → slice_get (front ++ x ∷ behind) (length front) ≡ Some x
got_behind [] x behind = refl
got_behind (first ∷ front) x behind = got_behind front x behind

-- ---- what holds of each

pub each_last : {A : Type 0} (P : A → Type 0) (xs : List A) (x : A) → AllByRecursion P xs → P x → AllByRecursion P (xs ++ x ∷ [])
each_last P [] x all last = (last, tt)
each_last P (y ∷ xs) x all last = (all.0, each_last P xs x all.1 last)

pub each_front : {A : Type 0} (P : A → Type 0) (xs : List A) (x : A) → AllByRecursion P (xs ++ x ∷ []) → AllByRecursion P xs
each_front P [] x all = tt
each_front P (y ∷ xs) x all = (all.0, each_front P xs x all.1)

pub last_of_each : {A : Type 0} (P : A → Type 0) (xs : List A) (x : A) → AllByRecursion P (xs ++ x ∷ []) → P x
last_of_each P [] x all = all.0
last_of_each P (y ∷ xs) x all = last_of_each P xs x all.1

pub each_then : {A : Type 0} (P Q : A → Type 0) (xs : List A) → ((x : A) → P x → Q x) → AllByRecursion P xs → AllByRecursion Q xs
each_then P Q [] follows all = tt
each_then P Q (x ∷ xs) follows all = (follows x all.0, each_then P Q xs follows all.1)

-- ---- moments in order

no_end : (xs : List ℕ) (x : ℕ) (ys : List ℕ) → xs ++ x ∷ ys ≡ [] → ⊥
no_end [] x ys none = cc
no_end (first ∷ xs) x ys none = cc

ends_from : (before : List ℕ) (one : ℕ) (behind earlier : List ℕ) (now : ℕ) → before ++ one ∷ behind ≡ earlier ++ now ∷ [] → EndsAt (one ∷ behind) now
ends_from [] one behind earlier now e = record { earlier = earlier; are = e }
ends_from (first ∷ before) one behind [] now e = absurd (no_end before one behind (let others : before ++ one ∷ behind ≡ [] = cc in others))
ends_from (first ∷ before) one behind (other ∷ earlier) now e =
    ends_from before one behind earlier now (let others : before ++ one ∷ behind ≡ earlier ++ now ∷ [] = cc in others)

-- a list that ends so, from one of its items on
ends_behind : (before : List ℕ) (one : ℕ) (behind moments : List ℕ) (now : ℕ) → moments ≡ before ++ one ∷ behind → EndsAt moments now → EndsAt (one ∷ behind) now
ends_behind before one behind moments now are ends = ends_from before one behind ends.earlier now (sym are ∙ ends.are)

pub ends_there : (moments : List ℕ) (now : ℕ) → EndsAt moments now → Contains moments now
ends_there moments now ends = subst (λ (l : List ℕ). Contains l now) (sym ends.are) (last_there ends.earlier)
  where
    last_there : (earlier : List ℕ) → Contains (earlier ++ now ∷ []) now
    last_there [] = first_there now []
    last_there (first ∷ earlier) = later_there first now (earlier ++ now ∷ []) (last_there earlier)

-- one more, which is the last of them
pub in_order_then : (ones moments : List ℕ) (now : ℕ) → EndsAt moments now → StandInOrder ones moments → StandInOrder (ones ++ now ∷ []) moments
in_order_then [] moments now ends stand = (ends.earlier, [], ends.are, tt)
in_order_then (one ∷ ones) moments now ends stand =
    (stand.0, stand.1, stand.2, in_order_then ones (one ∷ stand.1) now (ends_behind stand.0 one stand.1 moments now stand.2 ends) stand.3)

-- among more of them
pub in_order_on : (ones moments more : List ℕ) → StandInOrder ones moments → StandInOrder ones (moments ++ more)
in_order_on [] moments more stand = tt
in_order_on (one ∷ ones) moments more stand = (
  stand.0,
  stand.1 ++ more,
  ap (λ (l : List ℕ). l ++ more) stand.2 ∙ append_assoc stand.0 (one ∷ stand.1) more,
  in_order_on ones (one ∷ stand.1) more stand.3,
)
