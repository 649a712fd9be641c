use Rattle.std.proofs.Common.{◌≡◌, ◌++◌, length, string_bytes}
use denote.Text.{Utf8}
use denote.Shadow.{shadow}
use Rattle.wire_base.specs.Path.{parts_of}
use Rattle.glob_paths.specs.Root.{leading_parts, other_parts, slashed}
use Rattle.glob_paths.proofs.root.leading_folder.Given as goal

abbrev pub invariant-loop-behind : goal.invariant-loop-behind
invariant-loop-behind l =
    shadow (Utf8 l.rest) × (string_bytes l.folder ++ slashed (leading_parts (parts_of l.rest)) ≡ slashed (leading_parts (parts_of l.text)))
    × (other_parts (parts_of l.rest) ≡ other_parts (parts_of l.text))

abbrev pub decreases-loop-behind : goal.decreases-loop-behind
decreases-loop-behind l = length l.rest
