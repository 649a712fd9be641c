use Rattle.ship_core.proofs.Working.{committed_by}
use Rattle.ship_core.proofs.world.World.commit.Goals as goal

pub invariant_of-self-2 : goal.invariant_of-self-2
invariant_of-self-2 c =
    committed_by _ _ _ _ c.append.new.self.items c.in_ok-durable.durable c.append.new.other.items c.if-not-self.false c.self.invariant c.in_ok-append.ensures.items c.in_ok-durable.ensures.same c.in_ok-append.ensures.other_items
