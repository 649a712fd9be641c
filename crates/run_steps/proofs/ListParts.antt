-- Lists in two parts, and the events of a longer list.
use Rattle.std.proofs.Common.{◌≡◌, ◌⊎◌, inl, inr, ℕ, zero, suc, List, [], ◌∷◌, ◌++◌, Contains, Some, subst}
use Rattle.std.specs.Prelude.{slice_get}
use Rattle.std.specs.List.{AllByRecursion}
use Rattle.outside.specs.Folders.{Event}
use Rattle.ship_core.proofs.Members.{first_there, later_there}

pub parts_of : {A : Type 0} (P : A → Type 0) (xs ys : List A) → AllByRecursion P (xs ++ ys) → AllByRecursion P xs × AllByRecursion P ys
parts_of P [] ys each = (tt, each)
parts_of P (x ∷ xs) ys each = let rest = parts_of P xs ys each.1 in ((each.0, rest.0), rest.1)

pub got_first : (events more : List Event) (k : ℕ) (event : Event) → slice_get events k ≡ Some event → slice_get (events ++ more) k ≡ Some event
got_first [] more k event is = absurd cc
got_first (e ∷ events) more zero event is = is
got_first (e ∷ events) more (suc k) event is = got_first events more k event is

pub got_in : (events more : List Event) (k : ℕ) (event : Event) → slice_get (events ++ more) k ≡ Some event → (slice_get events k ≡ Some event) ⊎ Contains more event
got_in [] more k event is = inr (there more k is)
  where
    there : (l : List Event) (n : ℕ) → slice_get l n ≡ Some event → Contains l event
    there [] n got = absurd cc
    there (e ∷ l) zero got = let here : e ≡ event = cc in subst (λ x. Contains (e ∷ l) x) here (first_there e l)
    there (e ∷ l) (suc n) got = later_there e event l (there l n got)
got_in (e ∷ events) more zero event is = inl is
got_in (e ∷ events) more (suc k) event is = got_in events more k event is
