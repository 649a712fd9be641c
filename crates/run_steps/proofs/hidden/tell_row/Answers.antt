use Rattle.std.proofs.Common.{[], ◌∷◌}
use Rattle.accounts.specs.Hidden.{hidden_begin, hidden_forget}
use Rattle.run_steps.specs.HiddenRows.{going_by}
use Rattle.run_steps.specs.Telling.{TellsNotes}
use Rattle.run_steps.proofs.HiddenTold.{on_ok}
use Rattle.run_steps.proofs.Notes.{told_behind}
use Rattle.run_steps.proofs.hidden.tell_row.Goals as goal

pub returns-clause-told : goal.returns-clause-told
returns-clause-told c =
    let begin = hidden_begin (going_by c.args.slot c.args.row) in
    let forget = hidden_forget (going_by c.args.slot c.args.row) in
    on_ok c.tell-2.result (TellsNotes (forget ∷ []) c.tell.new.keeper c.tell-2.new.keeper) (TellsNotes (begin ∷ forget ∷ []) c.args.keeper.now c.tell-2.new.keeper)
    (λ tells. told_behind (begin ∷ []) (forget ∷ []) c.args.keeper.now c.tell.new.keeper c.tell-2.new.keeper c.in_ok-tell.ensures.told tells) c.tell-2.ensures.told
