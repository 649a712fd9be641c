-- The inputs as a scan reads them, each with its place in the settings (this project's profile).
use Rattle.std.specs.Prelude.{ℕ, suc, List, [], ◌∷◌, flat_map}
use Rattle.event_tree.specs.declared.input_rule.IdentityRule.{IdentityRule}
use Rattle.event_tree.specs.declared.input_rule.InputRule.{InputRule}
use Rattle.prospect.specs.declared.scan_input.ScanInput.{ScanInput}

pub record Reading : Type 0 where
  pub number : ℕ
  pub id : List ℕ
  pub identity : IdentityRule
  pub globs : List (List ℕ)

abbrev pub reading : ℕ → InputRule → Reading
reading number input = record { number = number; id = input.id; identity = input.file_identity; globs = input.paths }

-- those of inputs of which the first has this place
abbrev pub readings_from : ℕ → List InputRule → List Reading
readings_from number [] = []
readings_from number (input ∷ inputs) = reading number input ∷ readings_from (suc number) inputs

-- an input as it was read
abbrev pub reading_of : ScanInput → Reading
reading_of read = record { number = read.number; id = read.id; identity = read.identity; globs = read.globs.items }

-- the globs of the inputs, in their order
abbrev pub globs_read : List ScanInput → List (List ℕ)
globs_read inputs = flat_map (λ input. input.globs.items) inputs
