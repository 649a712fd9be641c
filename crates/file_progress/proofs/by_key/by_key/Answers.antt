use Rattle.file_progress.proofs.Keys.{one_file_more}
use Rattle.file_progress.proofs.by_key.by_key.Goals as goal

pub loop-one-preserved : goal.loop-one-preserved
loop-one-preserved c = one_file_more c.loop-one.yielded c.in-Some.one c.loop-one.found c.add_file.new.found c.loop-one.invariant c.in_ok-add_file.ensures
