use Rattle.std.proofs.Common.{◌∙◌}
use Rattle.mem_queue.proofs.Moves.{drains, shows_rest}
use Rattle.mem_queue.proofs.Told.{behind, behind_first, drained}
use Rattle.mem_queue.proofs.left.Left.next.Goals as goal

pub pop_as-requires-clause-rule : goal.pop_as-requires-clause-rule
pop_as-requires-clause-rule g c =
    let known = behind c.self.inside.next c.in_ok-first.first c.self.inside.pass (cc c.in_ok-first.was) c.self.invariant.2 in
    (drains _ _ known.0 known.1, shows_rest _ _ known.0 known.1)

pub invariant_of-self-2 : goal.invariant_of-self-2
invariant_of-self-2 g c =
    let after = drained c.pop_as.result c.self.inside.pass c.pop_as.new.pass _ (behind_first c.self.inside.next c.in_ok-first.first c.self.inside.pass (cc c.in_ok-first.was) c.self.invariant.1) c.pop_as.ensures.rule in
    ((c.pop_as.ensures.queue.0 ∙ c.self.invariant.0.0, c.pop_as.ensures.queue.2 ∙ c.self.invariant.0.1), after.0, after.1)
