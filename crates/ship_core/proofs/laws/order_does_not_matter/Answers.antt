use Rattle.std.proofs.Common.{Contains, sym, ◌∙◌}
use Rattle.std.proofs.lemmas.List.Elements.{All-contains}
use Rattle.wire_base.proofs.Keyed.{same_entries}
use Rattle.ship_core.specs.Rows.{key_of}
use Rattle.ship_core.proofs.Reordered.{same_row, same_row_for}
use Rattle.ship_core.proofs.laws.order_does_not_matter.Goals as goal

pub returns-clause-slot : goal.returns-clause-slot
returns-clause-slot c = λ first second orderly there back.
    same_row first second orderly (λ note at. All-contains (Contains second) first note there at) (λ note at. All-contains (Contains first) second note back at)

pub returns-clause-key : goal.returns-clause-key
returns-clause-key c = λ opening first second orderly there back.
    same_row_for first second orderly (λ note at. All-contains (Contains second) first note there at) (λ note at. All-contains (Contains first) second note back at) opening

pub returns-clause-rows : goal.returns-clause-rows
returns-clause-rows c = λ opening first second rows others orderly there back one other.
    same_entries key_of rows others one.in_order other.in_order (λ key.
    one.each key
    ∙ same_row_for first second orderly (λ note at. All-contains (Contains second) first note there at) (λ note at. All-contains (Contains first) second note back at) opening key
    ∙ sym (other.each key))
