use Rattle.std.proofs.Common.{◌≡◌, ◌++◌, true, codes, IfOk, sym, ap, subst, ◌∙◌}
use Rattle.event_tree.specs.Tree.{value_of}
use Rattle.processors_core.specs.Dropped.{fields_dropped}
use Rattle.processors_core.specs.Missing.{missing_of}
use Rattle.processors_core.proofs.Misses.{misses_one, misses_none, ignores_all}
use Rattle.processors_core.proofs.drop_fields.FieldDrops.run.Goals as goal
use Rattle.processors_core.proofs.drop_fields.FieldDrops.run.Goals.{then-not-self+in_default, else-not-self}

pub returns-in-Some : goal.returns-in-Some
returns-in-Some c =
    let drops = c.args.self.now in
    let tree = value_of c.args.tree in
    subst (λ v. IfOk c.with_error.result (λ after. value_of after ≡ v))
    (misses_one drops.ignore_missing drops.paths.items tree c.in-Some.path.now c.in_ok-text.text c.if-not-self.true
    (sym (c.in-Some.ensures ∙ ap (λ l. missing_of l tree) c.deref.ensures.value))
    (c.in_ok-text.ensures ∙ ap (λ l. codes "drop_fields: no field " ++ l) c.text.ensures)) c.with_error.ensures

pub returns : goal.returns
returns c =
    let drops = c.args.self.now in
    let tree = value_of c.args.tree in
    let removed = ap (λ l. fields_dropped true l tree) (sym c.deref-2.ensures.value) ∙ c.remove_all.ensures in
    elim c.if-not-self.branch [
      | then-not-self+in_default w ↦
          misses_none drops.ignore_missing drops.paths.items tree _ w.if-not-self.true
          (sym (w.in_default.ensures ∙ ap (λ l. missing_of l tree) w.deref.ensures.value)) removed
      | else-not-self w ↦ ignores_all drops.ignore_missing drops.paths.items tree _ w.if-not-self.false removed
    ]
