use Rattle.std.proofs.Common.{Some, None}
use Rattle.told_events.proofs.Fates.{by_message, by_payload, by_processor}
use Rattle.told_events.proofs.laws.fates_by_rules.Goals as goal

pub returns-clause-by_message : goal.returns-clause-by_message
returns-clause-by_message c = by_message

pub returns-clause-by_processor : goal.returns-clause-by_processor
returns-clause-by_processor c = by_processor

pub returns-clause-by_length : goal.returns-clause-by_length
returns-clause-by_length c = λ rules path start message now tree kept left is. by_payload rules path start message now tree None kept left is

pub returns-clause-shipped : goal.returns-clause-shipped
returns-clause-shipped c = λ rules path start message now tree payload kept left is. by_payload rules path start message now tree (Some payload) kept left is
