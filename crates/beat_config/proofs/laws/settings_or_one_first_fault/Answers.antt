use Rattle.beat_config.proofs.OneAnswer.{settings_without_fault, one_first_fault}
use Rattle.beat_config.proofs.laws.settings_or_one_first_fault.Goals as goal

pub returns-clause-no_fault : goal.returns-clause-no_fault
returns-clause-no_fault c = settings_without_fault

pub returns-clause-one_fault : goal.returns-clause-one_fault
returns-clause-one_fault c = one_first_fault
