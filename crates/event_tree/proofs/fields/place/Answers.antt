use Rattle.std.proofs.Common.{rules}
use Rattle.std.proofs.lemmas.Fn.{always_returns_same}
use Rattle.wire_base.specs.KeyOrder.{compare}
use Rattle.event_tree.proofs.Entries.{found, absent}
use Rattle.event_tree.proofs.fields.place.Goals as goal

-- the closure compares an entry's key with the key
pub returns-clause-found : goal.returns-clause-found
returns-clause-found c =
    let facts = c.binary_search_by.ensures in
    let by_key = facts.position (λ entry. compare entry.0 c.args.key.now) (always_returns_same _ _ _ (λ a r f called. search rules)) in
    found c.args.entries.now c.requires c.args.key.now c.binary_search_by.result facts.bound by_key

pub returns-clause-absent : goal.returns-clause-absent
returns-clause-absent c =
    let facts = c.binary_search_by.ensures in
    let by_key = facts.position (λ entry. compare entry.0 c.args.key.now) (always_returns_same _ _ _ (λ a r f called. search rules)) in
    absent c.args.entries.now c.requires c.args.key.now c.binary_search_by.result facts.bound by_key
