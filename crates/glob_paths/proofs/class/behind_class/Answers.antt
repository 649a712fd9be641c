use Rattle.glob_paths.proofs.Items.{tokens_behind, tokens_at_end}
use Rattle.glob_paths.proofs.class.behind_class.Goals as goal

pub returns-in-Some-clause-behind : goal.returns-in-Some-clause-behind
returns-in-Some-clause-behind c = tokens_behind c.args.rest.now _ _ c.in-Some.ensures.cases c.requires

pub returns-in-None-clause-behind : goal.returns-in-None-clause-behind
returns-in-None-clause-behind c = tokens_at_end c.args.rest.now c.in-None.ensures.none_at_the_end
