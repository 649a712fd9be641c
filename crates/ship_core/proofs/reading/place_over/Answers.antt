use Rattle.std.proofs.Common.{◌∙◌, sym, ap, Some, None, if◌then◌else◌, Bool}
use Rattle.ship_core.specs.Reading.{place_of}
use Rattle.ship_core.proofs.Passes.{no_start, place_is}
use Rattle.ship_core.proofs.reading.place_over.Goals as goal

pub returns-then-is_gone : goal.returns-then-is_gone
returns-then-is_gone c =
    sym (place_is c.args.slot c.args.notes.now _ (sym c.in-Some.ensures) c.greatest_epoch-epoch.result c.base_in-base.result c.covered_end-offset.result c.is_gone.result c.greatest_epoch-epoch.ensures c.base_in-base.ensures c.covered_end-offset.ensures c.is_gone.ensures
    ∙ ap (λ (b : Bool). if b then None else Some (c.greatest_epoch-epoch.result, c.covered_end-offset.result)) c.if-is_gone.true)

pub returns-else-is_gone : goal.returns-else-is_gone
returns-else-is_gone c =
    sym (place_is c.args.slot c.args.notes.now _ (sym c.in-Some.ensures) c.greatest_epoch-epoch.result c.base_in-base.result c.covered_end-offset.result c.is_gone.result c.greatest_epoch-epoch.ensures c.base_in-base.ensures c.covered_end-offset.ensures c.is_gone.ensures
    ∙ ap (λ (b : Bool). if b then None else Some (c.greatest_epoch-epoch.result, c.covered_end-offset.result)) c.if-is_gone.false)

pub returns-in-None : goal.returns-in-None
returns-in-None c = sym (ap place_of (no_start c.args.slot c.args.notes.now (sym c.in-None.ensures)))
