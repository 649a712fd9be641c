-- Writing a text to a sink (this project's profile).
use Rattle.std.specs.Prelude.{◌≡◌, ℕ, List, ◌++◌, take, Option, Some, None, Result, MatchResult}
use Rattle.outside.specs.declared.failed.Failed.{Failed}

-- if the sink is known, all of the text comes after what it held, or a front of it if the writing failed
abbrev pub WritesAll : Option (List ℕ) → List ℕ → Result (Unit {0}) Failed → Option (List ℕ) → Type 0
WritesAll None text result after = after ≡ None
WritesAll (Some written) text result after = MatchResult result
    (λ _. after ≡ Some (written ++ text))
    (λ _. (count : ℕ) × (after ≡ Some (written ++ take count text)))
