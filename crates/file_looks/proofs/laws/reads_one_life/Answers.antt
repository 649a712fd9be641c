use Rattle.file_looks.proofs.OneLife.{each_reads}
use Rattle.file_looks.proofs.laws.reads_one_life.Goals as goal

pub returns : goal.returns
returns c = each_reads
