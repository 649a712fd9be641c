use Rattle.std.proofs.Common.{not, sym, rules}
use Rattle.std.proofs.lemmas.Fn.{filter_same}
use Rattle.prospector_core.specs.declared.marks.Watched.{Watched}
use Rattle.prospector_core.proofs.Gone.{here_all}
use Rattle.prospector_core.proofs.prospector.sweep.Goals as goal

pub returns-then-not-some_gone-clause-swept : goal.returns-then-not-some_gone-clause-swept
returns-then-not-some_gone-clause-swept c = sym (here_all c.args.watched.now.items (c.requires c.if-not-some_gone.true))

pub returns-clause-swept : goal.returns-clause-swept
returns-clause-swept c = filter_same _ (λ (one : Watched). not one.gone) _ (λ x b f' k. search rules) _ _ c.retain.ensures.filtered
