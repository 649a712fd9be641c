use Rattle.std.proofs.Common.{rules}
use Rattle.std.proofs.lemmas.Fn.{always_returns_same}
use Rattle.prospector_core.specs.KeyIndex.{key_at}
use Rattle.prospector_core.specs.Marks.{keys_of}
use Rattle.wire_base.specs.KeyOrder.{compare}
use Rattle.prospector_core.proofs.Indexing.{place_absent, place_found}
use Rattle.prospector_core.proofs.key_index.place_of.Goals as goal

-- the closure compares the key at a place with the key
pub returns-in-Ok-clause-found : goal.returns-in-Ok-clause-found
returns-in-Ok-clause-found c =
    place_found (keys_of c.args.watched.now) c.args.order.now c.args.key.now c.in-Ok.i
    (c.in-Ok.ensures.position (λ place. compare (key_at (keys_of c.args.watched.now) place) c.args.key.now) (always_returns_same _ _ _ (λ a r f called. search rules)))

pub returns-in-Err-clause-absent : goal.returns-in-Err-clause-absent
returns-in-Err-clause-absent c =
    place_absent c.args.watched.now c.args.order.now c.args.key.now c.in-Err.field-0 c.requires
    (c.in-Err.ensures.position (λ place. compare (key_at (keys_of c.args.watched.now) place) c.args.key.now) (always_returns_same _ _ _ (λ a r f called. search rules)))
