use Rattle.std.proofs.Common.{◌≡◌, ◌++◌, ◌∷◌, [], ℕ, List, Some, ap, subst, sym, take, ◌∙◌}
use Rattle.prospect.specs.declared.listed.Listed.{Listed}
use Rattle.file_rows.specs.Removed.{HasListedKeys}
use Rattle.file_rows.proofs.ListedKeys.{one_more, with_a_key, without_a_key}
use Rattle.file_rows.proofs.keys.listed_keys.Goals as goal
use Rattle.file_rows.proofs.keys.listed_keys.Goals.{in-Some+in_ok-copy+in_ok-insert, in_default}

pub loop-one-preserved : goal.loop-one-preserved
loop-one-preserved c =
    let one = c.one-item.result in
    let front = take c.loop-one.one-index c.args.listed.now in
    subst (λ (l : List Listed). HasListedKeys l c.match-one.keys) (sym (one_more c.args.listed.now c.loop-one.one-index one c.loop-one-test.true c.one-item.is))
    (elim c.match-one.branch [
      | in-Some+in_ok-copy+in_ok-insert w ↦ (let same : one.key ≡ Some w.in_ok-copy.field-0 = w.in-Some.is ∙ ap (λ (k : List ℕ). Some k) (sym w.in_ok-copy.ensures) in
          subst (HasListedKeys (front ++ one ∷ [])) (sym w.keys-is)
          (with_a_key front one c.loop-one.keys w.insert.new.self w.in_ok-copy.field-0 c.loop-one.invariant same w.in_ok-insert.ensures.updates))
      | in_default w ↦ subst (HasListedKeys (front ++ one ∷ [])) (sym w.keys-is) (without_a_key front one c.loop-one.keys c.loop-one.invariant w.in_default.is)
    ])
