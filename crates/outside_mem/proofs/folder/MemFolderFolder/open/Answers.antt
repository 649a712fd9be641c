use Rattle.outside_mem.proofs.Opening.{goes_on, opens}
use Rattle.outside_mem.proofs.folder.MemFolderFolder.open.Goals as goal

pub returns-in-Ok-clause-states_go_on : goal.returns-in-Ok-clause-states_go_on
returns-in-Ok-clause-states_go_on c = goes_on _ _ _ c.in-Ok.ensures.ok

pub returns-in-Err-clause-states_go_on : goal.returns-in-Err-clause-states_go_on
returns-in-Err-clause-states_go_on c = goes_on _ _ _ c.in-Err.ensures.err

pub returns-in-Ok-Some-clause-told : goal.returns-in-Ok-Some-clause-told
returns-in-Ok-Some-clause-told c =
    let found = rw c.in-Ok-Some.field-0-is at c.in-Ok-Some.ensures.ok in
    opens _ _ _ _ _ found.1 found.2

pub returns-in-Ok-Some-clause-states_go_on : goal.returns-in-Ok-Some-clause-states_go_on
returns-in-Ok-Some-clause-states_go_on c =
    let found = rw c.in-Ok-Some.field-0-is at c.in-Ok-Some.ensures.ok in
    goes_on _ _ _ found.2.notes

pub returns-in-Ok-None-clause-states_go_on : goal.returns-in-Ok-None-clause-states_go_on
returns-in-Ok-None-clause-states_go_on c =
    let none = rw c.in-Ok-None.field-0-is at c.in-Ok-None.ensures.ok in
    goes_on _ _ _ none.1

pub returns-in-Err-try_open-clause-states_go_on : goal.returns-in-Err-try_open-clause-states_go_on
returns-in-Err-try_open-clause-states_go_on c = goes_on _ _ _ c.in-Err-try_open.ensures.err
