use Rattle.std.proofs.Common.{◌≡◌, ◌∙◌, sym, Option}
use Rattle.std.proofs.lemmas.Result.{IfOk-weaker}
use Rattle.wire_base.specs.declared.row.Row.{Row}
use Rattle.ship_core.specs.RowOver.{row_over}
use Rattle.ship_core.specs.RowsOver.{row_for, slots_for}
use Rattle.ship_core.proofs.Passes.{latest_row, none_stands}
use Rattle.ship_core.proofs.reading.row_for.Goals as goal

pub returns-in-Some-clause-row : goal.returns-in-Some-clause-row
returns-in-Some-clause-row c =
    IfOk-weaker c.row_over.result (λ (row : Option Row). row ≡ row_over c.in-Some.slot c.args.notes.now) (λ (row : Option Row). row ≡ row_for c.args.opening.now c.args.notes.now c.args.key.now)
    (λ row is. is ∙ sym (latest_row c.args.opening.now c.args.notes.now c.args.key.now (slots_for c.args.key.now c.args.notes.now) c.in-Some.slot (sym c.latest.ensures ∙ c.in-Some.is))) c.row_over.ensures.row

pub returns-then-is_named-clause-row : goal.returns-then-is_named-clause-row
returns-then-is_named-clause-row c =
    sym (none_stands c.args.opening.now c.args.notes.now c.args.key.now (slots_for c.args.key.now c.args.notes.now) (sym c.latest.ensures ∙ c.in_default.is) (sym c.is_named.ensures ∙ c.if-is_named.true))
