use Rattle.beat_run.proofs.StartEnds.{start_ends}
use Rattle.beat_run.proofs.scan.starts_by_rows.Goals as goal

pub returns-in-Err-clause-refused : goal.returns-in-Err-clause-refused
returns-in-Err-clause-refused c =
    start_ends c.args.rows.now c.args.files.now c.requires.few_rows c.requires.apart c.in-Err.error c.status_of_join.result c.in-Err.ensures.refused c.status_of_join.ensures
