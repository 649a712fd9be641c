-- Premise: truncations are seen (this project's profile). At each look, also at one that only asks which file this
-- is, the life that is present is the one that was last read, or it is shorter than the place up to which was read,
-- or that place is the file's first byte. What was last read before may be of an earlier tail or an earlier run.
use Rattle.std.specs.Prelude.{◌≡◌, ◌⊎◌, ℕ, ◌<◌, List, [], ◌∷◌}
use Rattle.outside.specs.declared.history.Sight.{Sight}
use Rattle.file_looks.specs.Reading.{last_life, life_behind}
use Rattle.file_looks.specs.Segment.{Segment, steps_in}
use Rattle.file_looks.specs.Step.{Step}

-- where this life was last read, up to this place
abbrev pub IsSeen : ℕ → ℕ → Sight → Type 0
IsSeen life place present = (present.life ≡ life) ⊎ ((present.length < place) ⊎ (place ≡ 0))

abbrev pub AreSeen : ℕ → List Step → Type 0
AreSeen life [] = Unit {0}
AreSeen life (step ∷ steps) = IsSeen life step.place step.look.sight × AreSeen (life_behind life step) steps

-- by the looks of these segments; a look with which one begins is below the place up to which the one before it read
abbrev pub SeesTruncations : ℕ → List Segment → Type 0
SeesTruncations life [] = Unit {0}
SeesTruncations life (segment ∷ segments) =
    AreSeen life (steps_in segment) × SeesTruncations (last_life life (steps_in segment)) segments
