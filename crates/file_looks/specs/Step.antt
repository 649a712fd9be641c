-- How far a tail is as it looks (Filebeat reference, filestream input; this project's profile): up to which place it has
-- read, and whether the look is a read that counts. A read counts only directly after a look at the length that was
-- not below the place where the tail was; every other read only asked which file this is.
use Rattle.std.specs.Prelude.{ℕ, ◌+◌, Bool, false, nat_le, nat_lt, List, [], ◌∷◌, if◌then◌else◌}
use Rattle.outside.specs.declared.history.Look.{Look}
use Rattle.outside.specs.declared.history.Question.{Question}
use Rattle.outside.specs.declared.history.Question.TheVariants.{Length, ReadAt}
use Rattle.outside.specs.declared.history.Sight.{Sight}

-- the length is asked, and is below the place
abbrev pub falls_below : ℕ → Question → Sight → Bool
falls_below place Length sight = nat_lt sight.length place
falls_below place (ReadAt at count) sight = false

-- the length is asked, and is not below the place
abbrev pub reaches : ℕ → Question → Sight → Bool
reaches place Length sight = nat_le place sight.length
reaches place (ReadAt at count) sight = false

-- a look is a read that counts, if `behind` says that it is directly after a look that reaches the place
abbrev pub is_counted : Bool → Question → Bool
is_counted behind Length = false
is_counted behind (ReadAt at count) = behind

-- how many bytes a look gave
abbrev pub given_by : Question → ℕ
given_by Length = 0
given_by (ReadAt at count) = count

pub record Step : Type 0 where
  pub look : Look
  -- up to which place was read before
  pub place : ℕ
  -- it is a read that counts
  pub counts : Bool

abbrev pub step_at : Bool → ℕ → Look → Step
step_at behind place look = record { look = look; place = place; counts = is_counted behind look.question }

-- how many bytes it read
abbrev pub read_by : Step → ℕ
read_by step = if step.counts then given_by step.look.question else 0

-- the steps of looks, of which the first is made at this place
abbrev pub steps_from : Bool → ℕ → List Look → List Step
steps_from behind place [] = []
steps_from behind place (look ∷ looks) =
    step_at behind place look
    ∷ steps_from (reaches place look.question look.sight) (place + read_by (step_at behind place look)) looks

-- up to which place was read after them
abbrev pub place_behind : ℕ → List Step → ℕ
place_behind place [] = place
place_behind place (step ∷ steps) = place_behind (place + read_by step) steps
