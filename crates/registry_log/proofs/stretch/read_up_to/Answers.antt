use Rattle.std.proofs.Common.{sym, append-nil}
use Rattle.registry_log.proofs.OnlyReads.{no_call}
use Rattle.registry_log.proofs.stretch.read_up_to.Goals as goal

pub pieces-init : goal.pieces-init
pieces-init g c = record {
  in_range = c.requires.in_range;
  goes_on = (_, sym (append-nil c.args.bytes.now.items));
  of_the_area = λ area told is. is;
  only_read = no_call g.D.Disk.contents g.D.Disk.images g.D.Disk.moment g.D.Disk.images_since g.D.Disk.faults c.args.disk.now (g.met.D.Disk.only_now c.args.disk.now);
}
