use Rattle.std.proofs.Common.{◌≡◌, ◌∙◌, true, sym, subst}
use Rattle.ship_core.specs.Machine.{Core}
use Rattle.ship_core.specs.Orderly.{AreOrderly, MayFollow}
use Rattle.ship_core.proofs.InOrder.{one_more_orderly}
use Rattle.ship_core.proofs.Working.{noted_by}
use Rattle.ship_core.proofs.world.World.note.Goals as goal

pub renew-requires-clause-orderly : goal.renew-requires-clause-orderly
renew-requires-clause-orderly c =
    subst AreOrderly (sym (c.deref.ensures.value ∙ c.in_ok-push.ensures.items))
    (one_more_orderly c.self.inside.notes.items c.args.note c.self.invariant.orderly (subst (λ (core : Core). core.runs ≡ true → MayFollow core.notes c.args.note) (sym c.self.view_is) c.requires.follows c.if-not-self.false))

pub invariant_of-self-in-Ok : goal.invariant_of-self-in-Ok
invariant_of-self-in-Ok c =
    noted_by _ c.self.inside.ahead.durable c.self.inside.ahead.rows c.renew.new.self.durable c.renew.new.self.rows c.self.inside.ahead.pending.items c.renew.new.self.pending.items c.args.note c.slot_of-slot.result c.push.new.self.items c.deref.result.now
    c.if-not-self.false (subst (λ (core : Core). core.runs ≡ true → MayFollow core.notes c.args.note) (sym c.self.view_is) c.requires.follows c.if-not-self.false) c.requires.in_range c.self.invariant
    c.slot_of-slot.ensures c.in_ok-push.ensures.items c.deref.ensures.value c.in-Ok.ensures.durable_stays c.in-Ok.ensures.renewed c.in-Ok.ensures.ops
