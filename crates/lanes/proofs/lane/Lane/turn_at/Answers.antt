use Rattle.lanes.specs.Laning.{laning}
use Rattle.lanes.proofs.Keeping.{turns_in_range}
use Rattle.lanes.proofs.Passing.{each_of_changed, each_of_one, each_of_refused}
use Rattle.lanes.proofs.lane.Lane.turn_at.Goals as goal

pub returns-in_default : goal.returns-in_default
returns-in_default g c =
    each_of_changed g.T.Tail.numbers g.T.Tail.told g.T.Tail.faults c.args.outlets.queue.now.capacity c.args.outlets.desk.now.capacity c.args.when tt c.args.index
    (laning c.args.self.now) (laning c.turn.new.self) c.requires.none_held c.in_default.ensures.kept c.in_default.ensures.changed

pub hand-requires-clause-range : goal.hand-requires-clause-range
hand-requires-clause-range g c =
    turns_in_range g.T.Tail.numbers g.T.Tail.told g.T.Tail.faults c.args.when c.args.index (laning c.args.self.now) (laning c.turn.new.self) c.in-Some.given c.requires.known c.in-Some.ensures.turned

pub returns-then-hand : goal.returns-then-hand
returns-then-hand g c =
    each_of_one g.T.Tail.numbers g.T.Tail.told g.T.Tail.faults c.args.outlets.queue.now.capacity c.args.outlets.desk.now.capacity c.args.when tt c.args.index
    (laning c.args.self.now) (laning c.turn.new.self) (laning c.hand.new.self) c.in-Some.given c.requires.none_held c.in-Some.ensures.turned c.hand.ensures.hands_on c.if-hand.ensures.through

pub returns : goal.returns
returns g c =
    each_of_refused g.T.Tail.numbers g.T.Tail.told g.T.Tail.faults c.args.outlets.queue.now.capacity c.args.outlets.desk.now.capacity c.args.when _ c.args.index
    (laning c.args.self.now) (laning c.turn.new.self) (laning c.hand.new.self) c.in-Some.given c.requires.none_held c.in-Some.ensures.turned c.hand.ensures.hands_on
    c.if-hand.ensures.held c.if-hand.ensures.something c.hand.ensures.refused
