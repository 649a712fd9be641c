-- Of all members of a list what is said of each, as these lemmas ask for it.
use Rattle.std.proofs.Common.{◌≡◌, inl, inr, suc, List, [], ◌∷◌, All, Contains, map, Some, refl, arith}
use Rattle.std.specs.List.{AllByRecursion}
use Rattle.event_tree.specs.declared.input_rule.IdentityRule.{IdentityRule}
use Rattle.file_identity.proofs.AskedOnce.{whole_is_part}
use Rattle.file_identity.specs.AskedAgain.{IsRead}
use Rattle.file_identity.specs.Asking.{IsAsking}
use Rattle.outside.specs.declared.history.Look.{Look}
use Rattle.prospect.proofs.AskedFiles.{only_reads}
use Rattle.prospect.proofs.Lists.{IsIn, all_from_in, all_in, all_weaker, contains_in, in_contained, in_map}

pub some_is : {A : Type 0} (x y : A) → Some x ≡ Some y → x ≡ y
some_is x y is = cc

pub member_is : {A : Type 0} (P : A → Type 0) (xs : List A) (x : A) → AllByRecursion P xs → Contains xs x → P x
member_is P xs x all there = all_in P xs x all (in_contained xs x there)

pub each_member : {A : Type 0} (P : A → Type 0) (xs : List A) → ((x : A) → Contains xs x → P x) → AllByRecursion P xs
each_member P xs each = all_from_in P xs (λ x among. each x (contains_in xs x among))

pub each_then : {A : Type 0} (P Q : A → Type 0) (xs : List A) → ((x : A) → P x → Q x) → AllByRecursion P xs → AllByRecursion Q xs
each_then P Q xs follows all = all_weaker P Q follows xs all

pub each_of : {A : Type 0} (P : A → Type 0) (xs : List A) → All P xs → AllByRecursion P xs
each_of P [] all = tt
each_of P (x ∷ xs) all = (all 0 x (omega arith), each_of P xs (λ k d within. all (suc k) d (omega (arith, within))))

pub mapped_there : {A B : Type 0} (f : A → B) (xs : List A) (x : A) → Contains xs x → Contains (map f xs) (f x)
mapped_there f xs x there = contains_in (map f xs) (f x) (in_map f xs x (in_contained xs x there))

pub record IsMapped {A B : Type 0} (f : A → B) (xs : List A) (y : B) : Type 0 where
  pub item : A
  pub among : Contains xs item
  pub is : f item ≡ y

mapped_in : {A B : Type 0} (f : A → B) (xs : List A) (y : B) → IsIn (map f xs) y → (x : A) × IsIn xs x × (f x ≡ y)
mapped_in f [] y none = absurd none
mapped_in f (x ∷ xs) y (inl here) = (x, inl refl, here)
mapped_in f (x ∷ xs) y (inr later) = let one = mapped_in f xs y later in (one.0, inr one.1, one.2)

pub of_map : {A B : Type 0} (f : A → B) (xs : List A) (y : B) → Contains (map f xs) y → IsMapped f xs y
of_map f xs y there = let one = mapped_in f xs y (in_contained (map f xs) y there) in record { item = one.0; among = contains_in xs one.0 one.1; is = one.2 }

-- the looks of one asking only read
pub asking_reads : (rule : IdentityRule) (looks : List Look) → IsAsking rule looks → AllByRecursion (λ (look : Look). IsRead look.question) looks
asking_reads rule looks is = only_reads rule looks (whole_is_part rule looks is)
