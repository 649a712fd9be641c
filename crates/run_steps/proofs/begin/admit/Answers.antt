use Rattle.std.proofs.Common.{arith, ap, refl, sym, subst, ◌%◌, ◌<◌, ◌≡◌, ℕ, length}
use Rattle.std.proofs.Math.Nat.{mod-lt}
use Rattle.run_steps.proofs.Admitted.{admitted_at, kept_at}
use Rattle.run_steps.proofs.begin.admit.Goals as goal

pub returns-clause-admitted : goal.returns-clause-admitted
returns-clause-admitted g c =
    let many : c.len.result ≡ length c.args.crew.now.lanes.items = omega (arith, c.len.ensures, c.args.crew.now.lanes.ok) in
    admitted_at c.args.crew.now.lanes.items (c.args.slot.0 % length c.args.crew.now.lanes.items) (c.args.slot.0 % c.len.result) c.index_mut.result.now c.admit.new.self
    (ap (λ (n : ℕ). c.args.slot.0 % n) many) (subst (λ (n : ℕ). c.args.slot.0 % n < length c.args.crew.now.lanes.items) (sym many) (mod-lt c.args.slot.0 c.requires.some_lanes)) c.index_mut.ensures.value
    c.args.harvester c.admit.result c.admit.ensures.admitted

pub returns-clause-kept : goal.returns-clause-kept
returns-clause-kept g c =
    let many : c.len.result ≡ length c.args.crew.now.lanes.items = omega (arith, c.len.ensures, c.args.crew.now.lanes.ok) in
    kept_at c.args.crew.now.lanes.items (c.args.slot.0 % length c.args.crew.now.lanes.items) (c.args.slot.0 % c.len.result) c.index_mut.result.now c.admit.new.self
    (ap (λ (n : ℕ). c.args.slot.0 % n) many) (subst (λ (n : ℕ). c.args.slot.0 % n < length c.args.crew.now.lanes.items) (sym many) (mod-lt c.args.slot.0 c.requires.some_lanes)) c.index_mut.ensures.value
    c.args.crew.now _ refl refl refl c.admit.result c.admit.ensures.kept
