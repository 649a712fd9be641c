use Rattle.std.proofs.Common.{◌≡◌, ◌+◌, ◌++◌, false, List, length, subst, arith}
use Rattle.wire_base.specs.declared.row.Op.{Op}
use Rattle.ship_core.specs.Machine.{Core, ArePending}
use Rattle.ship_core.proofs.Working.{all_counted, none_when_stopped}
use Rattle.ship_core.proofs.world.World.updates.Goals as goal

pub returns-clause-all : goal.returns-clause-all
returns-clause-all c =
    subst (λ (core : Core). (pending : List Op) → ArePending core pending → c.len-committed.result + c.len.result ≡ length (core.updates ++ pending)) c.self.view_is
    (λ pending are. all_counted _ _ _ _ pending c.len-committed.result c.len.result c.self.invariant are (omega (arith, c.len-committed.ensures, c.self.inside.updates.ok.0)) (omega (arith, c.len.ensures, c.self.inside.ahead.pending.ok.0)))

pub returns-clause-stopped : goal.returns-clause-stopped
returns-clause-stopped c =
    subst (λ (core : Core). core.runs ≡ false → c.len-committed.result + c.len.result ≡ c.len-committed.result) c.self.view_is
    (λ stopped. none_when_stopped _ _ _ _ c.len-committed.result c.len.result c.self.invariant stopped (omega (arith, c.len.ensures, c.self.inside.ahead.pending.ok.0)))
