-- What is known once the tokens up to a `*` were tried (this project's profile).
use Rattle.std.specs.Prelude.{ℕ, ◌<◌, ◌≤◌, ◌↔◌, List, ◌∷◌, length}
use Rattle.std.specs.Str.{chars}
use Rattle.glob_paths.specs.declared.part.Lead.{Lead}
use Rattle.glob_paths.specs.declared.part.Lead.TheVariants.{No, Whole, Star}
use Rattle.glob_paths.specs.Match.{Matches}
use Rattle.glob_paths.specs.Token.{Token, any_run, tokens}

-- the first tokens match their codes if the second match theirs, and a `*` before both keeps that
pub record Comes (first : List Token) (codes : List ℕ) (second : List Token) (rest : List ℕ) : Type 0 where
  pub same : Matches first codes ↔ Matches second rest
  pub later : Matches (any_run ∷ first) codes → Matches (any_run ∷ second) rest

abbrev pub Leads : List Token → List ℕ → Lead → Type 0
Leads first codes No = ¬ (Matches first codes)
Leads first codes Whole = Matches first codes
Leads first codes (Star pattern name) = Comes first codes (any_run ∷ tokens pattern.now) (chars name.now)

abbrev pub IsShorter : List ℕ → List ℕ → Lead → Type 0
IsShorter pattern name No = Unit {0}
IsShorter pattern name Whole = Unit {0}
IsShorter pattern name (Star behind left) = (length behind.now < length pattern) × (length left.now ≤ length name)
