use Rattle.std.proofs.Common.{◌∙◌}
use Rattle.wire_base.specs.Ranges.{IsNote}
use Rattle.settle_box.specs.Notes.{IsPostable}
use Rattle.settle_box.proofs.Moves.{drains, shows_rest}
use Rattle.settle_box.proofs.Told.{ahead_is_known, all_ahead, first_is, knows_ahead, still_all}
use Rattle.settle_box.proofs.left.Left.next.Goals as goal

pub pop_as-requires-clause-rule : goal.pop_as-requires-clause-rule
pop_as-requires-clause-rule g c =
    let known = ahead_is_known c.self.inside.next c.in_ok-first.first c.self.inside.pass (cc c.in_ok-first.was) c.self.invariant.1 in
    (drains _ _ known.0 known.1, shows_rest _ _ known.0 known.1)

pub invariant_of-self-2 : goal.invariant_of-self-2
invariant_of-self-2 g c =
    let old = c.self.inside.pass in
    let new = c.pop_as.new.pass in
    let next = c.pop_as.result in
    let told = c.pop_as.ensures.rule in
    let kinds = all_ahead IsPostable c.self.inside.next c.in_ok-first.first old (cc c.in_ok-first.was) c.self.invariant.2.0 in
    let ranges = all_ahead IsNote c.self.inside.next c.in_ok-first.first old (cc c.in_ok-first.was) c.self.invariant.2.1 in (
      (c.pop_as.ensures.queue.0 ∙ c.self.invariant.0.0, c.pop_as.ensures.queue.2 ∙ c.self.invariant.0.1),
      knows_ahead old new next told,
      (still_all old new IsPostable next told kinds, still_all old new IsNote next told ranges),
    )

pub returns-clause-first : goal.returns-clause-first
returns-clause-first g c = rw (← c.self.view_is)
    (first_is c.self.inside.pass c.pop_as.new.pass c.self.inside.next c.in_ok-first.first c.pop_as.result (cc c.in_ok-first.was) c.self.invariant.1 c.pop_as.ensures.rule)
