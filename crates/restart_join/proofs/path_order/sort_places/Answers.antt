use Rattle.std.proofs.Common.{rules}
use Rattle.std.proofs.lemmas.Fn.{always_returns_same}
use Rattle.std.proofs.lemmas.List.Sorted.{ranks_by}
use Rattle.std.specs.Ordering.{is_lt}
use Rattle.restart_join.specs.PathOrder.{paths_of, place_cmp}
use Rattle.restart_join.proofs.Ordering.{places_total}
use Rattle.restart_join.proofs.path_order.sort_places.Goals as goal

-- the closure compares the paths at two places, and then the places
pub returns-clause-sorted : goal.returns-clause-sorted
returns-clause-sorted c =
    c.sort_unstable_by.ensures.sorted (λ a b. is_lt (place_cmp (paths_of c.args.seen.now) a b))
    (ranks_by (places_total (paths_of c.args.seen.now)) (λ place. place))
    (always_returns_same _ _ _ (λ a r f called. search rules))
