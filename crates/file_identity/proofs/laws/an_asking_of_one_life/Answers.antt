use Rattle.file_identity.proofs.OneLife.{key_of_one_life}
use Rattle.file_identity.proofs.laws.an_asking_of_one_life.Goals as goal

pub returns : goal.returns
returns c = key_of_one_life
