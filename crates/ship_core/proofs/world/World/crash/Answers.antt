use Rattle.std.proofs.Common.{◌≡◌, ◌∙◌, ◌+◌, ◌-◌, ◌++◌, ℕ, true, List, length, take, sym, ap, arith, subst}
use Rattle.std.proofs.lemmas.List.{length-take-le}
use Rattle.wire_base.specs.declared.row.Op.{Op}
use Rattle.ship_core.specs.Machine.{Core, IsCut}
use Rattle.ship_core.specs.Replay.{replay_on}
use Rattle.ship_core.proofs.Working.{cut_within, crashed}
use Rattle.ship_core.proofs.world.World.crash.Goals as goal

pub slice_bounds-stored-length : goal.slice_bounds-stored-length
slice_bounds-stored-length c =
    let cut = subst (λ (core : Core). core.runs ≡ true → IsCut core c.args.left) (sym c.self.view_is) c.requires c.if-not-self.false in
    let within = cut_within _ c.self.inside.ahead.durable c.self.inside.ahead.rows c.self.inside.ahead.pending.items c.args.left c.self.invariant cut in
    let value : c.deref.result.now ≡ c.self.inside.ahead.pending.items = c.deref.ensures.value in
    let lengths : length c.deref.result.now ≡ length c.self.inside.ahead.pending.items = ap (length {A = Op}) value in
    sym (length-take-le (c.args.left - c.len.result) c.deref.result.now (omega (arith, within, lengths, cut.least, c.len.ensures, c.self.inside.updates.ok.0)))

pub invariant_of-self-2 : goal.invariant_of-self-2
invariant_of-self-2 c =
    let cut = subst (λ (core : Core). core.runs ≡ true → IsCut core c.args.left) (sym c.self.view_is) c.requires c.if-not-self.false in
    let count : length c.self.inside.updates.items + (c.args.left - c.len.result) ≡ c.args.left = omega (arith, cut.least, c.len.ensures, c.self.inside.updates.ok.0) in
    crashed _ c.self.inside.ahead.durable c.self.inside.ahead.rows c.self.inside.ahead.pending.items (c.args.left - c.len.result) c.truncate.new.self.items c.in_ok-durable.durable c.in_ok-rows.rows c.self.invariant
    (c.truncate.ensures.items ∙ ap (take c.args.left) c.in_ok-append.ensures.items ∙ ap (λ (n : ℕ). take n (c.self.inside.updates.items ++ c.self.inside.ahead.pending.items)) (sym count))
    (c.in_ok-durable.ensures ∙ ap (λ (l : List Op). replay_on c.self.inside.ahead.durable (take (c.args.left - c.len.result) l)) c.deref.ensures.value)
    c.in_ok-rows.ensures.same c.append.new.other.items c.in_ok-append.ensures.other_items c.clear.new.self.items c.clear.ensures.items
