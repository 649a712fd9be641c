-- Lines one after another (this project's profile).
use Rattle.std.specs.Prelude.{◌≡◌, ℕ, ◌<◌, List, [], ◌∷◌}
use Rattle.line_cutter.specs.declared.line.Line.{Line}

-- the first line begins at this place, and each other where the one before it ended; none is empty, with its terminator
abbrev pub AreAdjoining : ℕ → List Line → Type 0
AreAdjoining start [] = Unit {0}
AreAdjoining start (line ∷ lines) = (line.span.start ≡ start) × (start < line.span.end) × AreAdjoining line.span.end lines
