use Rattle.std.proofs.Common.{sym, ◌∙◌}
use Rattle.file_progress.proofs.Keys.{known, put_anew}
use Rattle.file_progress.proofs.by_key.add_file.Goals as goal

pub returns-then-contains_key : goal.returns-then-contains_key
returns-then-contains_key c = λ key. known c.args.one c.in-Some.key c.in-Some.is c.args.found.now key (sym c.contains_key.ensures ∙ c.if-contains_key.true)

pub returns : goal.returns
returns c =
    put_anew c.args.one c.in-Some.key c.in-Some.is c.args.found.now c.insert.new.self (sym c.contains_key.ensures ∙ c.if-contains_key.false)
    (rw c.in_ok-key.ensures at c.in_ok-insert.ensures.updates.0)
