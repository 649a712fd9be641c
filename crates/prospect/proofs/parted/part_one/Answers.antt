use Rattle.std.proofs.Common.{Bool, List, refl, sym, subst, inl, inr}
use Rattle.prospect.specs.declared.listed.Listed.{Listed}
use Rattle.prospect.specs.Parting.{AddsKey, HasKeysOf}
use Rattle.prospect.proofs.Parting.{is_followed, is_not_followed, keys_grow, keys_stay}
use Rattle.prospect.proofs.parted.part_one.Goals as goal

pub returns-in_ok-push-clause-keys : goal.returns-in_ok-push-clause-keys
returns-in_ok-push-clause-keys c =
    let adds = subst (λ (b : Bool). AddsKey c.args.one.key c.args.keys.now c.add_key.new.keys b) c.if-branch.true c.in_ok-add_key.ensures in
    subst (λ (l : List Listed). HasKeysOf l c.add_key.new.keys) (sym c.in_ok-push.ensures.items)
    (keys_grow c.args.parted.now.files.items c.args.keys.now c.add_key.new.keys c.requires c.args.one adds)

pub returns-in_ok-push-clause-parted : goal.returns-in_ok-push-clause-parted
returns-in_ok-push-clause-parted c =
    let adds = subst (λ (b : Bool). AddsKey c.args.one.key c.args.keys.now c.add_key.new.keys b) c.if-branch.true c.in_ok-add_key.ensures in
    inr (is_not_followed c.args.parted.now.files.items c.args.keys.now c.add_key.new.keys c.requires c.args.one.key adds, c.in_ok-push.ensures.items, refl {A = List Listed})

pub returns-in_ok-push-2-clause-keys : goal.returns-in_ok-push-2-clause-keys
returns-in_ok-push-2-clause-keys c =
    let adds = subst (λ (b : Bool). AddsKey c.args.one.key c.args.keys.now c.add_key.new.keys b) c.if-branch.false c.in_ok-add_key.ensures in
    keys_stay c.args.parted.now.files.items c.args.keys.now c.add_key.new.keys c.requires c.args.one.key adds

pub returns-in_ok-push-2-clause-parted : goal.returns-in_ok-push-2-clause-parted
returns-in_ok-push-2-clause-parted c =
    let adds = subst (λ (b : Bool). AddsKey c.args.one.key c.args.keys.now c.add_key.new.keys b) c.if-branch.false c.in_ok-add_key.ensures in
    inl (is_followed c.args.parted.now.files.items c.args.keys.now c.add_key.new.keys c.requires c.args.one.key adds, refl {A = List Listed}, c.in_ok-push-2.ensures.items)
