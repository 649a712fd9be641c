-- Two disks at rest (this project's profile).
use Rattle.std.specs.Prelude.{◌≡◌, ℕ, List, Option, Some, IsSome}
use Rattle.outside.specs.DiskImages.{Only}
use Rattle.registry_store.specs.Choice.{Choice, IsChoice}

-- both disks are known, and nothing is pending on them
pub record AreAtRest {D : Type 0} (contents : D → Option (List ℕ)) (images : D → List ℕ → Type 0) (a b : D) : Type 0 where
  pub a_told : IsSome (contents a)
  pub b_told : IsSome (contents b)
  pub a_settled : Only (contents a) (images a)
  pub b_settled : Only (contents b) (images b)

-- both disks are known, nothing is pending on them, and their areas make this choice
pub record AreSettled {D : Type 0} (contents : D → Option (List ℕ)) (images : D → List ℕ → Type 0) (a b : D) (choice : Choice) : Type 0 where
  pub first : List ℕ
  pub second : List ℕ
  pub a_holds : contents a ≡ Some first
  pub b_holds : contents b ≡ Some second
  pub a_settled : Only (contents a) (images a)
  pub b_settled : Only (contents b) (images b)
  pub chosen : IsChoice first second choice
