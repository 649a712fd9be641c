use Rattle.std.proofs.Common.{◌≡◌, Bool, false, refl, sym, subst, true, ◌∙◌}
use Rattle.std.specs.BTreeSet.{contains}
use Rattle.prospector_core.specs.Told.{ToldStrange}
use Rattle.wire_base.specs.KeyOrder.{compare}
use Rattle.prospector_core.proofs.told.tell_strange.Goals as goal

pub returns-then-contains-clause-told : goal.returns-then-contains-clause-told
returns-then-contains-clause-told c =
    let had : contains compare c.args.told.now.keys c.args.member.now.key ≡ true = sym c.contains.ensures ∙ c.if-contains.true in
    rw had (record {
      changes = rw c.in_ok-path.ensures at c.in_ok-push.ensures.items;
      created = refl;
      keys = λ key. refl;
      next = refl;
      count = refl;
    })

pub returns-clause-told : goal.returns-clause-told
returns-clause-told c =
    let lacking : contains compare c.args.told.now.keys c.args.member.now.key ≡ false = sym c.contains.ensures ∙ c.if-contains.false in
    subst (λ (b : Bool). ToldStrange b c.args.told.now c.args.member.now c.create.new.told) (sym lacking) c.in_ok-create.ensures
