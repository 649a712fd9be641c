use Rattle.ship_core.proofs.Living.{life_row, life_place, life_orderly, adjoin_apart}
use Rattle.ship_core.proofs.laws.one_life.Goals as goal

pub returns-clause-row : goal.returns-clause-row
returns-clause-row c = λ slot key path epoch base changed settled. life_row slot epoch key path base changed settled

pub returns-clause-place : goal.returns-clause-place
returns-clause-place c = λ slot key path epoch base changed settled. life_place slot epoch key path base changed settled

pub returns-clause-orderly : goal.returns-clause-orderly
returns-clause-orderly c = life_orderly

pub returns-clause-apart : goal.returns-clause-apart
returns-clause-apart c = adjoin_apart
