use Rattle.std.proofs.Common.{List, ℕ, Option, OnOk, ap, is_some, subst, ◌∙◌}
use Rattle.ship_core.specs.Rows.{find}
use Rattle.wire_base.specs.declared.row.Row.{Row}
use Rattle.file_table.specs.Events.{Began}
use Rattle.file_table.specs.Tables.{Adds, event_at}
use Rattle.watched_files.specs.Telling.{row_place}
use Rattle.watched_files.proofs.scan_steps.begin_file.Goals as goal

pub returns-in-Some : goal.returns-in-Some
returns-in-Some c =
    subst (λ (row : Option Row). OnOk c.begin.result (Adds (event_at c.args.begin.now.slot (Began (row_place row) (is_some row))) c.args.table.now c.begin.new.self))
    (c.in-Some.ensures.found ∙ ap (λ (key : List ℕ). find key c.args.rows.now) c.bytes.ensures.same) c.begin.ensures.begun

pub returns-in-None : goal.returns-in-None
returns-in-None c =
    subst (λ (row : Option Row). OnOk c.begin-in-None.result (Adds (event_at c.args.begin.now.slot (Began (row_place row) (is_some row))) c.args.table.now c.begin-in-None.new.self))
    (c.in-None.ensures.found ∙ ap (λ (key : List ℕ). find key c.args.rows.now) c.bytes.ensures.same) c.begin-in-None.ensures.begun
