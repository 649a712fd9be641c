use Rattle.mem_queue.specs.Known.{known}
use Rattle.mem_queue.proofs.Moves.{puts, allows}
use Rattle.mem_queue.proofs.Told.{ok_told}
use Rattle.mem_queue.proofs.queue.EventQueue.put.Goals as goal

pub push_as-requires-clause-rule : goal.push_as-requires-clause-rule
push_as-requires-clause-rule g c = (puts _ _ _ _ c.pass.invariant.may c.requires.range, allows _ _)

pub returns-clause-put_last : goal.returns-clause-put_last
returns-clause-put_last g c = rw (← c.pass.view_is) (ok_told _ _ _ c.push_as.result c.push_as.ensures.rule
    (λ _ told. (told.number, told.before, λ i. known (c.push_as.ensures.queue.0 i) (told.is i).puts (told.is i).put)))
