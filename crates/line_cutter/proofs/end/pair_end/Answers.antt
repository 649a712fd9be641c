use Rattle.std.proofs.Common.{sym, ◌∙◌}
use Rattle.line_cutter.proofs.Pairs.{first_pair, no_pair, none_up_to, behind_length}
use Rattle.std.proofs.Common.{subst}
use Rattle.memchr.specs.Find.{Nowhere}
use Rattle.line_cutter.proofs.Pairs.{EndsPair}
use Rattle.line_cutter.proofs.end.pair_end.Goals as goal

pub returns-then-return_before : goal.returns-then-return_before
returns-then-return_before c =
    first_pair c.args.after_return c.args.bytes.now c.loop-found.from c.loop-found.invariant.0 c.loop-found.invariant.1
    c.in-Some.found c.in-Some.ensures.0 c.in-Some.ensures.1 (sym c.return_before.ensures ∙ c.if-return_before.true)

pub loop-found-preserved : goal.loop-found-preserved
loop-found-preserved c =
    no_pair c.args.after_return c.args.bytes.now c.loop-found.from c.loop-found.invariant.0 c.loop-found.invariant.1
    c.in-Some.found c.in-Some.ensures.0 (sym c.return_before.ensures ∙ c.if-return_before.false)

pub returns : goal.returns
returns c =
    subst (Nowhere (EndsPair c.args.after_return c.args.bytes.now) 0)
    (behind_length c.args.after_return c.args.bytes.now c.loop-found.from c.loop-found.invariant.0 c.loop-found.invariant.1)
    (none_up_to c.args.after_return c.args.bytes.now c.loop-found.from c.loop-found.invariant.0 c.loop-found.invariant.1 _ c.in_default.ensures)
