use Rattle.std.proofs.Common.{◌≡◌, ◌+◌, length}
use denote.Text.{Utf8}
use denote.Shadow.{shadow}
use Rattle.wire_base.specs.Path.{parts_of}
use Rattle.glob_paths.specs.Root.{depth_of_parts}
use Rattle.glob_paths.proofs.root.depth_of.Given as goal

abbrev pub invariant-loop-most : goal.invariant-loop-most
invariant-loop-most l =
    shadow (Utf8 l.rest) × (l.depth + depth_of_parts (parts_of l.rest) ≡ depth_of_parts (parts_of l.text))

abbrev pub decreases-loop-most : goal.decreases-loop-most
decreases-loop-most l = length l.rest
