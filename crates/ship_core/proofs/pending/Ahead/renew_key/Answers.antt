use Rattle.std.proofs.Common.{◌≡◌, ℕ, ◌∙◌, sym, ap, subst, All, IfSome, List, Option}
use Rattle.wire_base.specs.Ranges.{IsOp}
use Rattle.wire_base.specs.declared.row.Op.{Op}
use Rattle.ship_core.specs.Changes.{change_of, key_in, op_for}
use Rattle.ship_core.specs.Rows.{find}
use Rattle.ship_core.specs.Replay.{after_op}
use Rattle.ship_core.specs.Machine.{with_change}
use Rattle.ship_core.proofs.Built.{HasKey, has_key}
use Rattle.ship_core.proofs.Leading.{changed_own, with_in_range}
use Rattle.ship_core.proofs.pending.Ahead.renew_key.Goals as goal

pub replace-requires-clause-own : goal.replace-requires-clause-own
replace-requires-clause-own c =
    subst (λ (o : Option Op). IfSome o (λ (p : Op). key_in p ≡ c.args.key.now)) (sym c.in_ok-op.ensures.change)
    (changed_own c.args.key.now _ c.in_ok-row.row (subst (HasKey c.args.key.now) (sym c.in_ok-row.ensures.row) (has_key c.args.opening.now c.args.notes.now c.requires.orderly c.args.key.now)))

pub returns-clause-ops : goal.returns-clause-ops
returns-clause-ops c =
    subst (λ (ops : List Op). All IsOp ops) (sym c.in_ok-replace.ensures.replaced) (with_in_range c.args.key.now c.in_ok-op.op c.args.self.now.pending.items c.in_ok-op.ensures.in_range c.requires.ops)

pub returns-clause-rows : goal.returns-clause-rows
returns-clause-rows c =
    c.in_ok-put.ensures
    ∙ (λ k. after_op (c.in_ok-rows.ensures.same k) (op_for c.args.key.now ((c.in_ok-copied.ensures ∙ c.as_ref.ensures.value ∙ c.in_ok-row.ensures.row) k)))

pub returns-clause-pending : goal.returns-clause-pending
returns-clause-pending c =
    c.in_ok-replace.ensures.replaced
    ∙ ap (λ (o : Option Op). with_change c.args.key.now o c.args.self.now.pending.items)
    (c.in_ok-op.ensures.change ∙ (λ k. change_of c.args.key.now ((c.get.ensures.found ∙ ap (λ (b : List ℕ). find b c.args.self.now.durable) c.bytes.ensures.same) k) (c.in_ok-row.ensures.row k)))
