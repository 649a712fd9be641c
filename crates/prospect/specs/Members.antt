-- What the inputs of the settings ask of a scan (Filebeat reference, filestream paths): their globs, and which paths
-- these cover.
use Rattle.std.specs.Prelude.{◌≡◌, ℕ, ◌≤◌, List, length, flat_map, All, Any, None}
use Rattle.event_tree.specs.declared.input_rule.InputRule.{InputRule}
use Rattle.glob_paths.specs.Cover.{Covers}
use Rattle.glob_paths.specs.Fault.{fault_of}

-- some of the globs covers the path
abbrev pub IsCovered : List (List ℕ) → List ℕ → Type 0
IsCovered globs path = Any (λ glob. Covers glob path) globs

-- the globs of the inputs, in the order of the settings
abbrev pub globs_of : List InputRule → List (List ℕ)
globs_of inputs = flat_map (λ input. input.paths) inputs

-- no text has a fault
abbrev pub AreGlobs : List (List ℕ) → Type 0
AreGlobs texts = All (λ text. fault_of text ≡ None) texts

abbrev pub HaveGlobs : List InputRule → Type 0
HaveGlobs inputs = All (λ input. AreGlobs input.paths) inputs

-- each id has at most 64 bytes
abbrev pub HaveShortIds : List InputRule → Type 0
HaveShortIds inputs = All (λ input. length input.id ≤ 64) inputs
