use Rattle.std.proofs.Common.{arith}
use Rattle.restart_join.proofs.Ordering.{order_made, places_within}
use Rattle.restart_join.proofs.path_order.path_order.Goals as goal

pub returns-clause-in_order : goal.returns-clause-in_order
returns-clause-in_order c =
    order_made c.args.seen.now c.loop-place.order.items c.sort_places.new.order.items
    (omega (arith, c.loop-place.invariant.long))
    c.loop-place.invariant.places c.sort_places.ensures.permutation c.sort_places.ensures.sorted

pub returns-clause-places : goal.returns-clause-places
returns-clause-places c =
    places_within c.args.seen.now c.loop-place.order.items c.sort_places.new.order.items
    (omega (arith, c.loop-place.invariant.long))
    c.loop-place.invariant.places c.sort_places.ensures.permutation
