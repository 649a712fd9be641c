use Rattle.std.proofs.Common.{◌+◌, ◌↔◌, ◌∷◌, length}
use Rattle.std.specs.Str.{chars}
use denote.Text.{Utf8}
use denote.Shadow.{shadow}
use Rattle.glob_paths.specs.Token.{any_run, tokens}
use Rattle.glob_paths.specs.Match.{Matches}
use Rattle.glob_paths.proofs.part.star_matches.Given as goal

abbrev pub invariant-loop-behind : goal.invariant-loop-behind
invariant-loop-behind l =
    shadow (Utf8 l.pattern) × shadow (Utf8 l.name)
    × (Matches (any_run ∷ tokens l.fn.pattern) (chars l.fn.name) ↔ Matches (any_run ∷ tokens l.pattern) (chars l.name))

abbrev pub decreases-loop-behind : goal.decreases-loop-behind
decreases-loop-behind l = length l.pattern + length l.name
