use Rattle.prospect.proofs.Adding.{lists_one}
use Rattle.prospect.proofs.files.list_glob.Goals as goal

pub returns-in-Ok-add_entries-clause-listed : goal.returns-in-Ok-add_entries-clause-listed
returns-in-Ok-add_entries-clause-listed g c =
    lists_one _ c.root.result.now c.depth.result _ _ _ c.in-Ok.shown _ _ _ _ c.root.ensures c.depth.ensures (rw c.in-Ok.is at c.list.ensures.told) c.in-Ok.ensures.in_range
    c.in-Ok-add_entries.ensures
