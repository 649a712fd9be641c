use Rattle.std.proofs.Common.{rules}
use Rattle.std.proofs.lemmas.Fn.{always_returns_same}
use Rattle.wire_base.proofs.Keyed.{found, absent}
use Rattle.wire_base.specs.KeyOrder.{compare}
use Rattle.ship_core.specs.Changes.{key_in}
use Rattle.ship_core.proofs.pending.place.Goals as goal

-- the closure compares an operation's key with the key
pub returns-clause-found : goal.returns-clause-found
returns-clause-found c =
    let facts = c.binary_search_by.ensures in
    let by_key = facts.position (λ op. compare (key_in op) c.args.key.now) (always_returns_same _ _ _ (λ a r f called. search rules)) in
    found key_in c.args.ops.now c.requires c.args.key.now c.binary_search_by.result facts.bound by_key

pub returns-clause-absent : goal.returns-clause-absent
returns-clause-absent c =
    let facts = c.binary_search_by.ensures in
    let by_key = facts.position (λ op. compare (key_in op) c.args.key.now) (always_returns_same _ _ _ (λ a r f called. search rules)) in
    absent key_in c.args.ops.now c.requires c.args.key.now c.binary_search_by.result facts.bound by_key
