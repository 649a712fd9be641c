use Rattle.std.proofs.Common.{refl, ◌∙◌, ap, Some}
use Rattle.std.proofs.lemmas.Result.{IfOk-weaker}
use Rattle.outside_mem.specs.Disks.{now}
use Rattle.outside_mem.specs.Images.{fresh, reads-after}
use Rattle.outside_mem.proofs.disk.MemDisk.image.Goals as goal

pub returns-in-None-clause-image : goal.returns-in-None-clause-image
returns-in-None-clause-image c =
    let disk = c.args.self.now in
    IfOk-weaker c.new.result _ _ (λ made is. ((now disk).bytes, reads-after disk.changes.items (fresh disk.first.items) refl, is ∙ ap Some (c.deref.ensures.value ∙ disk.as_told))) c.new.ensures.contents
