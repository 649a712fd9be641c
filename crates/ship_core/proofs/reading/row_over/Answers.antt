use Rattle.std.proofs.Common.{◌∙◌, sym, Some}
use Rattle.wire_base.specs.declared.row.Row.{Row}
use Rattle.ship_core.proofs.Passes.{placed_row, row_in_range}
use Rattle.ship_core.proofs.reading.row_over.Goals as goal

pub returns-in_ok-copy-in-Some-start_over-2-clause-in_range : goal.returns-in_ok-copy-in-Some-start_over-2-clause-in_range
returns-in_ok-copy-in-Some-start_over-2-clause-in_range c =
    let row : Row = record { key = c.in_ok-copy-in-Some-start_over.field-0; path = c.in_ok-copy-in-Some-start_over-2.field-0; epoch = record { 0 = c.in-Some.place.0 }; offset = c.in-Some.place.1; changed = record { 0 = c.greatest_moment.result } } in
    row_in_range c.args.slot c.args.notes.now c.requires (Some row)
    (sym (placed_row c.args.slot c.args.notes.now _ (sym c.in-Some-start_over.ensures) c.in-Some.place c.in-Some.ensures
    ∙ (λ k. Some (record { key = sym c.in_ok-copy-in-Some-start_over.ensures k; path = sym (c.in_ok-copy-in-Some-start_over-2.ensures ∙ c.newest_path.ensures) k; epoch = record { 0 = c.in-Some.place.0 }; offset = c.in-Some.place.1; changed = record { 0 = sym c.greatest_moment.ensures k } }))))
