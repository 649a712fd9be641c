use Rattle.conditions.proofs.Texts.{found_there, stands_there}
use Rattle.conditions.proofs.laws.text_within_text.Goals as goal

pub returns-clause-stands : goal.returns-clause-stands
returns-clause-stands c = λ text bytes within. let there = stands_there text bytes within in (there.front, there.behind, there.are)

pub returns-clause-found : goal.returns-clause-found
returns-clause-found c = found_there
