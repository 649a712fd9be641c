use Rattle.prospect.proofs.Adding.{adds_more, adds_nothing}
use Rattle.prospect.proofs.entries.add_entries.Goals as goal

pub loop-entry-init : goal.loop-entry-init
loop-entry-init c = adds_nothing _

pub loop-entry-preserved : goal.loop-entry-preserved
loop-entry-preserved c = adds_more _ _ _ _ _ c.loop-entry.invariant c.in_ok-add_entry.ensures
