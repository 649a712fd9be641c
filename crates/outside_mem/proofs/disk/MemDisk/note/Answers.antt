use Rattle.std.proofs.Common.{refl, ◌∙◌}
use Rattle.outside_mem.proofs.Changing.{bytes_stay, changes-by_push}
use Rattle.outside_mem.proofs.disk.MemDisk.note.Goals as goal

pub invariant_of-self : goal.invariant_of-self
invariant_of-self c = record {
  as_told =
      c.args.self.now.as_told ∙ bytes_stay c.args.self.now.first.items c.args.self.now.changes.items c.push.new.self.items c.args.change _ c.push.ensures.items c.requires;
}

pub returns-clause-ok : goal.returns-clause-ok
returns-clause-ok c = changes-by_push _ _ c.args.change refl c.in_ok-push.ensures.items refl
