-- By what a run can be known (this project's profile): as it ends, it is known of its folder, clock and wires what was done.
use Rattle.std.specs.Prelude.{◌≡◌, List, Some, IsSome}
use Rattle.std.specs.List.{AllByRecursion}
use Rattle.rounds.specs.Words.{WireWords}
use Rattle.run_steps.specs.Ends.{Ending}
use Rattle.run_steps.specs.RunOf.{FolderTold}

pub record DoTell {W D : Type 0} (words : WireWords W) (ending : Ending D) (folder : FolderTold) (wires : List W) : Type 0 where
  pub shown : ending.shown ≡ Some folder.ended
  pub clock_tells : IsSome ending.moments
  pub wires_tell : AllByRecursion (λ wire. IsSome (words.outcomes wire)) wires
