use Rattle.std.proofs.Common.{◌≡◌, ◌≤◌, ◌||◌, true, length}
use denote.Text.{Utf8}
use denote.Shadow.{shadow}
use Rattle.glob_paths.specs.Sign.{signs}
use Rattle.glob_paths.specs.Token.{items_of, tokens_of, some_item_has}
use Rattle.glob_paths.proofs.class.items_have.Given as goal

abbrev pub invariant-loop-low : goal.invariant-loop-low
invariant-loop-low l =
    shadow (Utf8 l.rest) × ((l.found || some_item_has l.code (items_of (signs l.rest))) ≡ some_item_has l.code (items_of (signs l.items)))
    × (tokens_of true (signs l.items) ≡ tokens_of true (signs l.rest)) × (length l.rest ≤ length l.items)

abbrev pub decreases-loop-low : goal.decreases-loop-low
decreases-loop-low l = length l.rest
