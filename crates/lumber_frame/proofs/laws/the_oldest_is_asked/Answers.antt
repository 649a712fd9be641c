use Rattle.lumber_frame.proofs.Asking.{asked_behind, asked_is, asked_most}
use Rattle.lumber_frame.proofs.laws.the_oldest_is_asked.Goals as goal

pub returns-clause-within : goal.returns-clause-within
returns-clause-within c = asked_most

pub returns-clause-earlier_are_in_full : goal.returns-clause-earlier_are_in_full
returns-clause-earlier_are_in_full c = asked_behind

pub returns-clause-not_in_full_or_last : goal.returns-clause-not_in_full_or_last
returns-clause-not_in_full_or_last c = asked_is
