use Rattle.std.proofs.Common.{◌++◌, ℕ, All, List, Option, IfSome, subst, sym, ap, ◌∙◌, append-nil}
use Rattle.std.specs.List.{filter_map}
use Rattle.std.specs.Map.Iter.{deref_pair}
use Rattle.std.proofs.lemmas.Cmp.{nat_list_cmp_total}
use Rattle.std.proofs.lemmas.List.Elements.{All-push}
use Rattle.std.proofs.lemmas.Map.Iter.{btree_map_turn, rest_more}
use Rattle.wire_base.specs.Ranges.{IsOp}
use Rattle.wire_base.specs.declared.row.Op.{Op}
use Rattle.ack_tracker.specs.Keys.{change_kept}
use Rattle.ack_tracker.specs.declared.keyed.Keyed.{Keyed}
use Rattle.ack_tracker.proofs.ByKey.{changes_told, key_in_range}
use Rattle.ack_tracker.proofs.Passing.{one_more_told}
use Rattle.ack_tracker.proofs.keys.Keys.changes.Goals as goal

pub change-requires : goal.change-requires
change-requires c =
    let turn = btree_map_turn deref_pair c.loop-key.yielded c.into_iter-key-iterator.result c.loop-key.key-iterator c.next.new.self c.next.result (c.in-Some.key, c.in-Some.keyed) c.loop-key.yielded_by c.in-Some.is c.next.ensures.steps nat_list_cmp_total c.args.self.now.by_key c.into_iter-key-iterator.ensures.into_iter_gives.0 c.into_iter-key-iterator.ensures.into_iter_gives.5 in
    key_in_range c.args.self.now.by_key.entries c.are_in_order.ensures c.in-Some.key.now c.in-Some.keyed.now turn.1 c.requires

pub loop-key-preserved-in-Continue-branch-3 : goal.loop-key-preserved-in-Continue-branch-3
loop-key-preserved-in-Continue-branch-3 c =
    let op = c.in-Some-2.op in
    record {
      so_far = one_more_told (change_kept c.args.files.now.entries) c.loop-key.ops.items c.push.new.self.items c.loop-key.key-iterator c.next.new.self (c.in-Some.key.now, c.in-Some.keyed.now) op _ c.loop-key.invariant.so_far
          (rest_more deref_pair c.loop-key.key-iterator c.next.new.self c.next.result (c.in-Some.key, c.in-Some.keyed) c.in-Some.is c.next.ensures.steps)
          (sym c.in_ok-op.ensures.change ∙ c.in-Some-2.is) c.in_ok-push.ensures.items;
      in_range = subst (λ (ops : List Op). All IsOp ops) (sym c.in_ok-push.ensures.items) (All-push IsOp c.loop-key.ops.items op c.loop-key.invariant.in_range (subst (λ (o : Option Op). IfSome o IsOp) c.in-Some-2.is c.in_ok-op.ensures.in_range));
    }

pub returns-clause-changes : goal.returns-clause-changes
returns-clause-changes c =
    sym (append-nil c.loop-key.ops.items)
    ∙ ap (λ (left : List (List ℕ × Keyed)). c.loop-key.ops.items ++ filter_map (change_kept c.args.files.now.entries) left) (sym c.in-None.ensures.steps.0)
    ∙ c.loop-key.invariant.so_far
    ∙ changes_told c.args.files.now.entries c.args.self.now.by_key c.are_in_order.ensures
