use Rattle.accounts.proofs.InARow.{adjoin_by_accounts, known_at_first}
use Rattle.accounts.proofs.laws.accounted_runs_adjoin.Goals as goal

pub returns-clause-adjoin : goal.returns-clause-adjoin
returns-clause-adjoin c = adjoin_by_accounts

pub returns-clause-known_at_first : goal.returns-clause-known_at_first
returns-clause-known_at_first c = λ accounted one had. known_at_first accounted one had.row had.of_account had.found had.none_went
