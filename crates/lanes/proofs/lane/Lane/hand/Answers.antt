use Rattle.std.proofs.Common.{subst, sym}
use Rattle.lanes.specs.Giving.{IsInRange}
use Rattle.lanes.specs.Handing.{HandsOn}
use Rattle.lanes.specs.Laning.{laning}
use Rattle.lanes.specs.declared.given.Given.{Given}
use Rattle.lanes.proofs.Hands.{hands_note, hands_nothing, hands_parcel}
use Rattle.lanes.proofs.lane.Lane.hand.Goals as goal

pub returns-in-Parcel-clause-hands_on : goal.returns-in-Parcel-clause-hands_on
returns-in-Parcel-clause-hands_on g c =
    let old = laning c.args.self.now in
    let new = laning c.put.new.self in
    let range = subst IsInRange c.in-Parcel.is c.requires.range in
    subst (λ (what : Given). HandsOn what old new) (sym c.in-Parcel.is)
    (hands_parcel c.put.result c.in-Parcel.parcel old new c.requires.none_held range c.put.ensures.put c.put.ensures.held)

pub returns-in-Note-clause-hands_on : goal.returns-in-Note-clause-hands_on
returns-in-Note-clause-hands_on g c =
    let old = laning c.args.self.now in
    let new = laning c.post.new.self in
    let range = subst IsInRange c.in-Note.is c.requires.range in
    subst (λ (what : Given). HandsOn what old new) (sym c.in-Note.is)
    (hands_note c.post.result c.in-Note.note old new c.requires.none_held range c.post.ensures.posted c.post.ensures.held)

pub returns-in-Nothing-clause-hands_on : goal.returns-in-Nothing-clause-hands_on
returns-in-Nothing-clause-hands_on g c =
    let old = laning c.args.self.now in
    subst (λ (what : Given). HandsOn what old old) (sym c.in-Nothing.is) (hands_nothing old c.requires.none_held)
