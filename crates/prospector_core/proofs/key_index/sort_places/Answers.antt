use Rattle.std.proofs.Common.{rules}
use Rattle.std.proofs.lemmas.Cmp.{nat_list_cmp_total}
use Rattle.std.proofs.lemmas.Fn.{always_returns_same}
use Rattle.std.proofs.lemmas.List.Sorted.{ranks_by}
use Rattle.std.specs.Ordering.{is_lt}
use Rattle.prospector_core.specs.KeyIndex.{key_at}
use Rattle.prospector_core.specs.Marks.{keys_of}
use Rattle.wire_base.specs.KeyOrder.{compare}
use Rattle.prospector_core.proofs.key_index.sort_places.Goals as goal

-- the closure compares the keys at two places
pub returns-clause-sorted : goal.returns-clause-sorted
returns-clause-sorted c =
    c.sort_unstable_by.ensures.sorted (λ a b. is_lt (compare (key_at (keys_of c.args.watched.now) a) (key_at (keys_of c.args.watched.now) b)))
    (ranks_by nat_list_cmp_total (key_at (keys_of c.args.watched.now)))
    (always_returns_same _ _ _ (λ a r f called. search rules))
