use Rattle.std.proofs.Common.{◌≤◌, length}
use Rattle.std.specs.Str.{chars}
use denote.Text.{Utf8}
use denote.Shadow.{shadow}
use Rattle.glob_paths.specs.Token.{tokens}
use Rattle.glob_paths.specs.Lead.{Comes}
use Rattle.glob_paths.proofs.part.try_front.Given as goal

abbrev pub invariant-loop-sign : goal.invariant-loop-sign
invariant-loop-sign l =
    shadow (Utf8 l.pattern) × shadow (Utf8 l.name) × Comes (tokens l.fn.pattern) (chars l.fn.name) (tokens l.pattern) (chars l.name)
    × (length l.pattern ≤ length l.fn.pattern) × (length l.name ≤ length l.fn.name)

abbrev pub decreases-loop-sign : goal.decreases-loop-sign
decreases-loop-sign l = length l.pattern
