use Rattle.std.proofs.Common.{ap, ◌∷◌}
use Rattle.prospect.proofs.Adding.{adds_new}
use Rattle.prospect.proofs.entries.add_path.Goals as goal

pub returns : goal.returns
returns c = adds_new _ _ _ _ c.requires (rw c.in_ok-path.ensures at c.in_ok-insert.ensures.updates) (ap (λ l. c.args.entry ∷ l) c.new.ensures.items)
