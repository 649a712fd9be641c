use Rattle.watched_files.proofs.Slots.{keeps_news, watched_later}
use Rattle.watched_files.proofs.watched_files.WatchedFiles.opened.Goals as goal

pub invariant_of-self : goal.invariant_of-self
invariant_of-self c = record {
  in_step = watched_later c.args.self.now.prospector c.args.self.now.table c.opened.new.self c.args.self.now.in_step
      (keeps_news _ _ c.args.self.now.table c.opened.new.self c.opened.ensures);
}
