use Rattle.std.proofs.Common.{Contains}
use Rattle.std.proofs.lemmas.List.Elements.{All-contains}
use Rattle.ship_core.proofs.Prefixes.{closes, closes_all}
use Rattle.ship_core.proofs.laws.covered_end_closes_a_prefix.Goals as goal

pub returns-clause-prefix : goal.returns-clause-prefix
returns-clause-prefix c = λ told spans base adjoin known.
    closes told spans base adjoin (λ span there le lt. All-contains (Contains told) spans span known there)

pub returns-clause-all : goal.returns-clause-all
returns-clause-all c = λ told spans base adjoin known all.
    closes_all told spans base adjoin (λ span there le lt. All-contains (Contains told) spans span known there) all
