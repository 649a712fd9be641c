use Rattle.std.proofs.Common.{sym}
use Rattle.patterns.proofs.Reading.{read_pattern, refused_pattern}
use Rattle.patterns.proofs.grammar.read.Goals as goal

pub returns-in-Ok-clause-pattern : goal.returns-in-Ok-clause-pattern
returns-in-Ok-clause-pattern c = sym (read_pattern c.args.config.now c.args.text.now c.in-Ok.parsed.hir _ c.in-Ok.ensures.ok)

pub returns-in_default-clause-pattern : goal.returns-in_default-clause-pattern
returns-in_default-clause-pattern c =
    sym (refused_pattern c.args.config.now c.args.text.now c.in-Err.error.kind c.in-Err.ensures.err (λ memory. c.in_default.not-OutOfMemory memory))
