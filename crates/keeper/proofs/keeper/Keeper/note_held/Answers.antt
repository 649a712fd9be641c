use Rattle.std.proofs.Common.{◌∙◌, sym}
use Rattle.keeper.specs.Keeping.{Keeping}
use Rattle.keeper.proofs.Gathering.{gathers_held, gathers_none_held}
use Rattle.keeper.proofs.keeper.Keeper.note_held.Goals as goal

pub returns-in-None-clause-gathers : goal.returns-in-None-clause-gathers
returns-in-None-clause-gathers c =
    let i = c.self.inside in
    let was : Keeping = record { tracked = i.tracker; store = i.store; pass = i.pass; held = i.held; shipped = i.shipped; dropped = i.dropped; collected = i.collected } in
    rw (← c.self.view_is) (gathers_none_held was c.take.new.dest (sym c.take.ensures.value ∙ c.in-None.is) c.take.ensures.after)

pub returns-in-Some-clause-gathers : goal.returns-in-Some-clause-gathers
returns-in-Some-clause-gathers c =
    let i = c.self.inside in
    let was : Keeping = record { tracked = i.tracker; store = i.store; pass = i.pass; held = i.held; shipped = i.shipped; dropped = i.dropped; collected = i.collected } in
    rw (← c.self.view_is) (gathers_held c.note.result was c.note.new.self c.take.new.dest c.in-Some.note (sym c.take.ensures.value ∙ c.in-Some.is) c.take.ensures.after
    c.note.ensures.noted c.note.ensures.opening_stays c.note.ensures.committed_stays c.note.ensures.gone_stays c.note.ensures.others_stay c.note.ensures.held)
