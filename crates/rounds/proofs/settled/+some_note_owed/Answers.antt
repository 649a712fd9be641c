use Rattle.std.proofs.Common.{◌≢◌, List, [], subst, sym}
use Rattle.batch_worker.specs.Held.{owed_by}
use Rattle.rounds.specs.Books.{owed_notes}
use Rattle.rounds.specs.declared.carrier.Carrier.{Carrier}
use Rattle.rounds.proofs.Tested.{some_first, some_long, some_rest, true_then, when_true}
use Rattle.rounds.proofs.settled.+some_note_owed.Goals as goal

pub returns-then-owes-clause-some : goal.returns-then-owes-clause-some
returns-then-owes-clause-some g t c =
    let first = c.in-Some.carrier.now in
    let rest = c.in-Some.carriers.now in
    when_true c.owes.result
    (subst (λ (cs : List (Carrier g.row.W.Denot g.row.L.Denot)). owed_notes cs ≢ []) (sym c.in-Some.ensures.cases.0)
    (some_first (owed_by first.worker) (owed_notes rest) (some_long (owed_by first.worker) c.if-owes.ensures.some)))

pub returns-else-owes-clause-some : goal.returns-else-owes-clause-some
returns-else-owes-clause-some g t c =
    let first = c.in-Some.carrier.now in
    let rest = c.in-Some.carriers.now in
    true_then c.some_note_owed.result
    (λ (some : owed_notes rest ≢ []). subst (λ (cs : List (Carrier g.row.W.Denot g.row.L.Denot)). owed_notes cs ≢ []) (sym c.in-Some.ensures.cases.0) (some_rest (owed_by first.worker) (owed_notes rest) some))
    c.some_note_owed.ensures.some
