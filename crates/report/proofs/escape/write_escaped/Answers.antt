use Rattle.std.proofs.Common.{rules, arith, sym, ◌∙◌}
use Rattle.report.proofs.Escapes.{escape_step, escaped_next, escapes_front, escapes_next, escapes_plain}
use Rattle.report.proofs.Writings.{continues_failed, continues_last, continues_then}
use Rattle.report.proofs.escape.write_escaped.Goals as goal

pub returns-clause-told : goal.returns-clause-told
returns-clause-told g c =
    continues_last _ _ _ _ _ _ _ c.loop-at.invariant.told (escapes_plain c.loop-at.left.now (sym c.first_escaped.ensures.first ∙ c.in_default.is)) c.write_all-2.ensures.told

pub write_escape-requires : goal.write_escape-requires
write_escape-requires g c =
    (escaped_next c.loop-at.left.now c.split_at.result.1.now c.in-Some.at (sym c.first_escaped.ensures.first ∙ c.in-Some.is) c.split_at.ensures.back).1

pub returns-in_err-write_all-clause-told : goal.returns-in_err-write_all-clause-told
returns-in_err-write_all-clause-told g c =
    let parts = escapes_front c.loop-at.left.now c.split_at.result.0.now c.split_at.result.1.now c.in-Some.at (sym c.first_escaped.ensures.first ∙ c.in-Some.is) c.split_at.ensures.front c.split_at.ensures.back in
    continues_failed _ _ _ _ _ _ _ _ _ c.from_residual.ensures.0 c.loop-at.invariant.told parts (rw c.in_err-write_all.was at c.write_all.ensures.told)

pub returns-in_err-write_escape-clause-told : goal.returns-in_err-write_escape-clause-told
returns-in_err-write_escape-clause-told g c =
    let some = sym c.first_escaped.ensures.first ∙ c.in-Some.is in
    let parts = escapes_front c.loop-at.left.now c.split_at.result.0.now c.split_at.result.1.now c.in-Some.at some c.split_at.ensures.front c.split_at.ensures.back in
    let next = escaped_next c.loop-at.left.now c.split_at.result.1.now c.in-Some.at some c.split_at.ensures.back in
    let plain = continues_then _ _ _ _ _ _ _ c.loop-at.invariant.told parts (rw c.in_ok-write_all.was at c.write_all.ensures.told) in
    continues_failed _ _ _ _ _ _ _ _ _ c.from_residual-in_err-write_escape.ensures.0 plain (escapes_next c.split_at.result.1.now next.0)
    (rw c.in_err-write_escape.was at c.write_escape.ensures.told)

pub loop-at-preserved : goal.loop-at-preserved
loop-at-preserved g c =
    let some = sym c.first_escaped.ensures.first ∙ c.in-Some.is in
    let parts = escapes_front c.loop-at.left.now c.split_at.result.0.now c.split_at.result.1.now c.in-Some.at some c.split_at.ensures.front c.split_at.ensures.back in
    let next = escaped_next c.loop-at.left.now c.split_at.result.1.now c.in-Some.at some c.split_at.ensures.back in
    let plain = continues_then _ _ _ _ _ _ _ c.loop-at.invariant.told parts (rw c.in_ok-write_all.was at c.write_all.ensures.told) in
    record {
      faults = search rules;
      told = escape_step _ _ _ _ c.split_at.result.1.now _ next.0 (omega arith) plain (rw c.in_ok-write_escape.was at c.write_escape.ensures.told);
    }
