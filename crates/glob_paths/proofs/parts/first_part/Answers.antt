use Rattle.std.proofs.Common.{Some, None, lit<}
use Rattle.std.proofs.lemmas.Str.Pattern.{split_parts}
use Rattle.glob_paths.proofs.Slashes.{first_of, only_of}
use Rattle.glob_paths.proofs.parts.first_part.Goals as goal

pub returns-in-Some-clause-cases : goal.returns-in-Some-clause-cases
returns-in-Some-clause-cases c =
    first_of _ _ _ (split_parts 47 c.args.text.now (Some (c.in-Some.part, c.in-Some.rest)) c.in-Some.ensures.cases (lit< tt))

pub returns-in-None-clause-cases : goal.returns-in-None-clause-cases
returns-in-None-clause-cases c = only_of _ (split_parts 47 c.args.text.now None c.in-None.ensures.cases (lit< tt))
