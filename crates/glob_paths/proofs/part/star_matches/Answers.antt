use Rattle.std.proofs.Common.{rules}
use Rattle.glob_paths.proofs.Matching.{star_past}
use Rattle.glob_paths.proofs.part.star_matches.Goals as goal

pub loop-behind-preserved : goal.loop-behind-preserved
loop-behind-preserved c =
    (search rules, search rules, star_past _ _ _ _ _ _ c.loop-behind.invariant.2 c.in-No.ensures.leads c.in-Some.ensures.cases)
