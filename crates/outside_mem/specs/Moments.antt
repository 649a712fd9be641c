-- The moments of change that a folder in memory lists, by paths (this project's profile).
use Rattle.std.specs.Prelude.{ℕ, List, [], ◌∷◌, if◌then◌else◌}
use Rattle.std.specs.Str.{bytes_eq}
use Rattle.wire_base.specs.declared.numbers.Moment.{Moment}
use Rattle.outside_mem.specs.declared.moments.ToldMoment.{ToldMoment}

-- the moment that was set last for the path, or else this one
abbrev pub moment_from : Moment → List ToldMoment → List ℕ → Moment
moment_from moment [] path = moment
moment_from moment (told ∷ later) path = moment_from (if bytes_eq told.path path then told.moment else moment) later path

-- and 0 if none was set
abbrev pub moment_of : List ToldMoment → List ℕ → Moment
moment_of told path = moment_from (record { 0 = 0 }) told path
