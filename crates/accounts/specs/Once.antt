-- How often an item is in a list, by a test for what is the same (this project's profile).
use Rattle.std.specs.Prelude.{ℕ, ◌≤◌, Bool, false, true, List}
use Rattle.pass_sums.specs.Weight.{weigh}

abbrev pub one_where : Bool → ℕ
one_where true = 1
one_where false = 0

abbrev pub count_of : {A : Type 0} → (A → A → Bool) → A → List A → ℕ
count_of same one items = weigh (λ other. one_where (same other one)) items

-- no item is there twice
abbrev pub AreOnce : {A : Type 0} → (A → A → Bool) → List A → Type 0
AreOnce {A} same items = (one : A) → count_of same one items ≤ 1
