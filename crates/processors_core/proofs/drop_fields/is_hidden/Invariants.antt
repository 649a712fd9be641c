use Rattle.std.proofs.Common.{◌≡◌, false, take}
use Rattle.std.specs.List.{list_any}
use Rattle.event_tree.specs.Parts.{parts_of}
use Rattle.processors_core.specs.Missing.{hides}
use Rattle.processors_core.proofs.drop_fields.is_hidden.Given as goal

abbrev pub invariant-loop-one : goal.invariant-loop-one
invariant-loop-one l = list_any (λ one. hides one (parts_of l.path)) (take l.one-index l.earlier) ≡ false
