-- A wire goes on (this project's profile): what it reported stays the front of what it reports.
use Rattle.std.specs.Prelude.{◌≡◌, List, ◌++◌, Option, Some, IfSome}
use Rattle.outside.specs.Wires.{Outcome}

abbrev pub OutcomesGoOn : Option (List Outcome) → Option (List Outcome) → Type 0
OutcomesGoOn before after = IfSome before (λ list. (more : List Outcome) × (after ≡ Some (list ++ more)))
