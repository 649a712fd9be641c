use Rattle.std.proofs.Common.{ap}
use Rattle.prospector_core.specs.KnownFiles.{KnownFiles}
use Rattle.watched_files.proofs.Composing.{begun_stands, watched_begun}
use Rattle.watched_files.proofs.watched_files.WatchedFiles.begin.Goals as goal

pub invariant_of-result : goal.invariant_of-result
invariant_of-result c = record {
  in_step = watched_begun c.args.rows.now c.args.begins.now c.in_ok-prospector.prospector c.begin_files.new.table c.in_ok-prospector.ensures.known
      (ap (λ (k : KnownFiles). k.files) c.in_ok-prospector.ensures.remembers)
      (begun_stands c.args.rows.now c.args.begins.now c.new-table.result c.begin_files.new.table c.new-table.ensures c.in_ok-begin_files.ensures);
}

pub returns-clause-begun : goal.returns-clause-begun
returns-clause-begun c = begun_stands c.args.rows.now c.args.begins.now c.new-table.result c.begin_files.new.table c.new-table.ensures c.in_ok-begin_files.ensures
