use Rattle.file_looks.proofs.Telling.{after_length, after_read}
use Rattle.file_looks.proofs.laws.tails_tell_looks.Goals as goal

pub returns-clause-length : goal.returns-clause-length
returns-clause-length c = after_length

pub returns-clause-read : goal.returns-clause-read
returns-clause-read c = after_read
