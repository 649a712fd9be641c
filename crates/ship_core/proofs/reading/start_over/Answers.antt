use Rattle.std.proofs.Common.{◌∙◌, sym, ap}
use Rattle.std.specs.Option.{option_and_then}
use Rattle.ship_core.specs.RowOver.{start_of}
use Rattle.ship_core.proofs.Passes.{start_found}
use Rattle.ship_core.proofs.reading.start_over.Goals as goal

pub returns-in-Some : goal.returns-in-Some
returns-in-Some c = c.begin_in.ensures ∙ sym (start_found c.args.slot c.args.notes.now ∙ ap (option_and_then start_of) (sym c.in-Some.ensures))

pub returns-in-None : goal.returns-in-None
returns-in-None c = sym (start_found c.args.slot c.args.notes.now ∙ ap (option_and_then start_of) (sym c.in-None.ensures))
