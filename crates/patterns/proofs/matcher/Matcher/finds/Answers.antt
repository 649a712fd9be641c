use Rattle.std.proofs.Common.{sym}
use Rattle.regex_meta.proofs.LeftmostLemmas.{are_bytes}
use Rattle.patterns.proofs.Finding.{dfa_finds, dfa_misses}
use Rattle.patterns.proofs.matcher.Matcher.finds.Goals as goal

pub returns-in-At-clause-found : goal.returns-in-At-clause-found
returns-in-At-clause-found c =
    sym (dfa_finds c.args.self.now.program c.args.bytes.now (are_bytes c.args.bytes.now c.type_inv.bytes) _ c.in-At.ensures.end)

pub returns-in-NoMatch-clause-found : goal.returns-in-NoMatch-clause-found
returns-in-NoMatch-clause-found c =
    sym (dfa_misses c.args.self.now.program c.args.bytes.now (are_bytes c.args.bytes.now c.type_inv.bytes) c.in-NoMatch.ensures.end)
