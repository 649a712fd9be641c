use Rattle.std.proofs.Common.{sym, subst}
use Rattle.keeper.specs.FewKeys.{HasRoomFor}
use Rattle.keeper.specs.Keeping.{Keeping}
use Rattle.keeper.proofs.Few.{few_with}
use Rattle.keeper.proofs.Sounding.{sound_noted}
use Rattle.keeper.proofs.keeper.Keeper.tell.Goals as goal

pub returns-in_err-note-clause-gone_stays : goal.returns-in_err-note-clause-gone_stays
returns-in_err-note-clause-gone_stays c = rw (← c.self.view_is) c.note.ensures.gone_stays

pub returns-clause-gone_stays : goal.returns-clause-gone_stays
returns-clause-gone_stays c = rw (← c.self.view_is) c.note.ensures.gone_stays

pub invariant_of-self-2 : goal.invariant_of-self-2
invariant_of-self-2 c =
    let i = c.self.inside in
    let room = subst (λ (k : Keeping). HasRoomFor k.store.rows k.tracked c.args.note) (sym c.self.view_is) c.requires.few in
    sound_noted i.tracker i.store i.held i.pending c.self.invariant c.note.new.self c.args.note c.orderly_by_one_more.ensures.front c.note.ensures.opening_stays c.note.ensures.committed_stays c.note.ensures.gone_stays
    c.in_ok-note.ensures.noted (few_with i.store.rows i.tracker c.args.note room c.self.invariant.few)
