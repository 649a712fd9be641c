use Rattle.std.proofs.Common.{sym, ◌∙◌}
use Rattle.wire_base.proofs.Keyed.{same_entries}
use Rattle.ship_core.specs.Rows.{key_of}
use Rattle.ship_core.proofs.Built.{rows_there}
use Rattle.ship_core.proofs.laws.rows_by_key.Goals as goal

pub returns-clause-by_key : goal.returns-clause-by_key
returns-clause-by_key c = same_entries key_of

pub returns-clause-there_is_one : goal.returns-clause-there_is_one
returns-clause-there_is_one c = λ opening notes ordered orderly. rows_there opening notes orderly ordered

pub returns-clause-no_other : goal.returns-clause-no_other
returns-clause-no_other c = λ opening notes first second one other.
    same_entries key_of first second one.in_order other.in_order (λ key. one.each key ∙ sym (other.each key))
