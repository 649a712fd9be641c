use Rattle.std.proofs.Common.{◌∙◌, sym, eqb-true}
use Rattle.std.proofs.lemmas.List.{nil_from_length}
use Rattle.ship_core.specs.RowOver.{notes_of}
use Rattle.memory_tests.proofs.tests.rows.orderly.is_new.Goals as goal

pub returns : goal.returns
returns c = λ yes. nil_from_length (notes_of c.args.slot c.args.notes.now) (sym c.count_of.ensures ∙ eqb-true c.count_of.result 0 yes)
