use Rattle.std.proofs.Common.{◌≤◌, ℕ, List, length, sym, subst, arith}
use Rattle.registry_frame.proofs.Operations.{set_spelled, set_short}
use Rattle.registry_frame.proofs.operation.set_text.Goals as goal

pub returns-clause-spelled : goal.returns-clause-spelled
returns-clause-spelled c = set_spelled c.args.row.now _ _ _ _ c.in_ok-moment.ensures c.in_ok-key.ensures.spelled c.in_ok-path.ensures.spelled c.in_ok-format.ensures.ok

pub returns-clause-short : goal.returns-clause-short
returns-clause-short c =
    let spelled = set_spelled c.args.row.now _ _ _ _ c.in_ok-moment.ensures c.in_ok-key.ensures.spelled c.in_ok-path.ensures.spelled c.in_ok-format.ensures.ok in
    let Short : List ℕ → Type 0 = λ l. length l ≤ 80_000 in
    subst Short (sym spelled) (set_short c.args.row.now c.requires (omega arith))
