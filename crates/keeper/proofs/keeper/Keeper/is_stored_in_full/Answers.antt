use Rattle.std.proofs.Common.{◌≡◌, Bool, true, false, not}
use Rattle.std.specs.Bool.{OnFalse}
use Rattle.keeper.specs.Storing.{IsStoredInFull}
use Rattle.keeper.specs.Keeping.{Keeping}
use Rattle.keeper.proofs.Sounding.{something_pending}
use Rattle.keeper.proofs.keeper.Keeper.is_stored_in_full.Goals as goal

not_all : (pending : Bool) (k : Keeping) → pending ≡ true → ¬ IsStoredInFull k → OnFalse (not pending) (¬ IsStoredInFull k)
not_all true k is some = some
not_all false k is some = absurd (let q : false ≡ true = is in cc)

pub returns-else-not-self-clause-not_all : goal.returns-else-not-self-clause-not_all
returns-else-not-self-clause-not_all c =
    let i = c.self.inside in
    let was : Keeping = record { tracked = i.tracker; store = i.store; pass = i.pass; held = i.held; shipped = i.shipped; dropped = i.dropped; collected = i.collected } in
    rw (← c.self.view_is) (not_all c.self.inside.pending was c.if-not-self.false (λ stored.
    something_pending c.self.inside.tracker c.self.inside.store c.self.inside.held c.self.inside.pending c.self.invariant c.if-not-self.false stored.committed))
