use Rattle.std.proofs.Common.{ap}
use Rattle.prospector_core.specs.KnownFiles.{KnownFiles}
use Rattle.watched_files.proofs.Composing.{watched_gone}
use Rattle.watched_files.proofs.Creating.{watched_same}
use Rattle.file_table.proofs.Puts.{same_files}
use Rattle.watched_files.proofs.watched_files.WatchedFiles.gone.Goals as goal

pub invariant_of-self : goal.invariant_of-self
invariant_of-self c = record {
  in_step = watched_gone c.args.slot.0 c.args.self.now.prospector c.gone.new.self c.args.self.now.table c.gone-left.new.self c.args.self.now.in_step c.gone.ensures.known
      (ap (λ (k : KnownFiles). k.files) c.gone.ensures.forgotten) c.if-left.ensures.left;
}

pub invariant_of-self-else-left : goal.invariant_of-self-else-left
invariant_of-self-else-left c = record {
  in_step = watched_same c.args.self.now.prospector c.args.self.now.table c.gone-left.new.self c.args.self.now.in_step
      (same_files c.args.self.now.table c.gone-left.new.self c.if-left.ensures.kept);
}
