-- Which names the tokens of a part match (Filebeat reference, filestream paths): the tokens take the characters of the
-- name one after another, and a `*` takes any run of them, the empty one too. A name has no slash.
use Rattle.std.specs.Prelude.{◌≡◌, ℕ, ◌≤◌, true, List, [], ◌∷◌, length, drop}
use Rattle.glob_paths.specs.Token.{Token, any_run, takes}

abbrev pub Matches : List Token → List ℕ → Type 0
Matches [] [] = Unit {0}
Matches [] (code ∷ codes) = ⊥
Matches (any_run ∷ tokens) codes = (run : ℕ) × (run ≤ length codes) × Matches tokens (drop run codes)
Matches (token ∷ tokens) [] = ⊥
Matches (token ∷ tokens) (code ∷ codes) = (takes token code ≡ true) × Matches tokens codes
