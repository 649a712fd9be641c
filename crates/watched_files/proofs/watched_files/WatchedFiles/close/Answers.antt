use Rattle.watched_files.proofs.Closing.{keeps_close}
use Rattle.watched_files.proofs.Slots.{watched_later}
use Rattle.watched_files.proofs.watched_files.WatchedFiles.close.Goals as goal

pub invariant_of-self : goal.invariant_of-self
invariant_of-self c = record {
  in_step = watched_later c.args.self.now.prospector c.args.self.now.table c.close.new.self c.args.self.now.in_step
      (keeps_close c.args.slot c.args.look.now c.args.inactive c.args.self.now.table c.close.new.self c.close.result c.close.ensures.closed c.close.ensures.kept);
}
