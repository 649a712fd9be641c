use Rattle.std.proofs.Common.{refl, ◌∙◌}
use Rattle.outside_mem.proofs.Changing.{bytes_after, changes-by_push}
use Rattle.outside_mem.proofs.disk.MemDisk.replace.Goals as goal

pub invariant_of-self-2 : goal.invariant_of-self-2
invariant_of-self-2 c = record {
  as_told =
      c.requires ∙ bytes_after c.args.self.now.first.items c.args.self.now.changes.items c.push.new.self.items c.args.change c.in_ok-push.ensures.items;
}

pub returns-clause-ok : goal.returns-clause-ok
returns-clause-ok c = changes-by_push _ _ c.args.change refl c.in_ok-push.ensures.items refl
