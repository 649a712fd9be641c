use Rattle.keeper.proofs.Few.{few_with_no_begin, no_start}
use Rattle.keeper.proofs.Sounding.{sound_noted}
use Rattle.keeper.proofs.keeper.Keeper.note.Goals as goal

pub returns-in-Ok-clause-gone_stays : goal.returns-in-Ok-clause-gone_stays
returns-in-Ok-clause-gone_stays c = rw (← c.self.view_is) c.note.ensures.gone_stays

pub returns-in-Err-clause-gone_stays : goal.returns-in-Err-clause-gone_stays
returns-in-Err-clause-gone_stays c = rw (← c.self.view_is) c.note.ensures.gone_stays

pub invariant_of-self : goal.invariant_of-self
invariant_of-self c =
    let i = c.self.inside in
    sound_noted i.tracker i.store i.held i.pending c.self.invariant c.note.new.self c.args.note c.orderly_by_one_more.ensures.front c.note.ensures.opening_stays c.note.ensures.committed_stays c.note.ensures.gone_stays
    c.in-Ok.ensures.noted (few_with_no_begin i.store.rows i.tracker.notes i.tracker.gone c.args.note (no_start c.args.note c.requires.kind) c.self.invariant.few)
