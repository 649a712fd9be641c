use Rattle.std.proofs.Common.{true, false, [], refl}
use Rattle.line_filter.proofs.Rules.{among, by_exclusion, empty_message, not_included}
use Rattle.line_filter.proofs.laws.verdict_by_rules.Goals as goal

pub returns-clause-empty : goal.returns-clause-empty
returns-clause-empty c = empty_message

pub returns-clause-not_included : goal.returns-clause-not_included
returns-clause-not_included c = not_included

pub returns-clause-excluded : goal.returns-clause-excluded
returns-clause-excluded c = λ include exclude message some matched excluded. among include exclude message true some matched excluded

pub returns-clause-excluded_of_all : goal.returns-clause-excluded_of_all
returns-clause-excluded_of_all c = λ exclude message some excluded. by_exclusion [] exclude message true some refl excluded

pub returns-clause-kept : goal.returns-clause-kept
returns-clause-kept c = λ include exclude message some matched left. among include exclude message false some matched left

pub returns-clause-kept_of_all : goal.returns-clause-kept_of_all
returns-clause-kept_of_all c = λ exclude message some left. by_exclusion [] exclude message false some refl left
