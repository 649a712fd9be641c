use Rattle.std.proofs.Common.{arith}
use Rattle.std.proofs.lemmas.List.{length-map}
use Rattle.prospector_core.specs.declared.marks.Watched.{Watched}
use Rattle.prospector_core.specs.Marks.{keys_of}
use Rattle.prospector_core.proofs.Indexing.{index_made}
use Rattle.prospector_core.proofs.key_index.index_keys.Goals as goal

pub returns : goal.returns
returns c =
    index_made (keys_of c.args.watched.now) c.loop-place.order.items c.sort_places.new.order.items
    (omega (arith, c.loop-place.invariant.long, length-map c.args.watched.now (λ (one : Watched). one.file.key)))
    c.loop-place.invariant.places c.sort_places.ensures.permutation c.sort_places.ensures.sorted
