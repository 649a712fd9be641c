use Rattle.std.proofs.Common.{◌≡◌, ◌++◌, map, take}
use Rattle.event_tree.specs.Value.{str}
use Rattle.processors_core.proofs.add_tags.with_tags.Given as goal

abbrev pub invariant-loop-tag : goal.invariant-loop-tag
invariant-loop-tag l = l.list ≡ l.fn.list ++ map str (take l.tag-index l.tags)
