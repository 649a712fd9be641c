use Rattle.std.proofs.Common.{◌≡◌, ap, length, string_bytes, subst, arith}
use Rattle.std.proofs.lemmas.Grind.{common_steps}
use Rattle.std.proofs.lemmas.List.Elements.{All-more}
use Rattle.registry_frame.specs.BodyOf.{IsStoredOp}
use Rattle.registry_frame.proofs.Sizes.{front_fits, front_full, front_is, some_left, some_taken, sum_more, texts_are}
use Rattle.registry_frame.proofs.body_text.front_body.Goals as goal

pub returns-then-size-most-clause-body : goal.returns-then-size-most-clause-body
returns-then-size-most-clause-body c =
    let n = c.loop-op.op-index in
    let some = some_taken c.args.ops.now n c.len.result c.args.most (omega (arith, c.in_ok-text.ensures.short)) (omega arith) (omega arith) in
    front_is c.args.ops.now n c.args.most (omega arith) c.front_of.result
    (texts_are c.args.ops.now n c.args.most (omega arith) string_bytes _ c.loop-op.invariant.written c.front_of.result c.front_of.ensures.count) (c.front_of.ensures.body _ c.loop-op.invariant.written) some c.loop-op.invariant.stored

pub returns-then-size-most-clause-fits : goal.returns-then-size-most-clause-fits
returns-then-size-most-clause-fits c =
    let n = c.loop-op.op-index in
    let some = some_taken c.args.ops.now n c.len.result c.args.most (omega (arith, c.in_ok-text.ensures.short)) (omega arith) (omega arith) in
    front_fits c.args.ops.now n c.args.most (omega arith) c.front_of.result (c.front_of.ensures.body _ c.loop-op.invariant.written) some (omega arith)

pub returns-then-size-most-clause-no_room_for_more : goal.returns-then-size-most-clause-no_room_for_more
returns-then-size-most-clause-no_room_for_more c =
    let n = c.loop-op.op-index in
    front_full c.args.ops.now n c.args.most (omega arith) c.front_of.result c.op-item.result
    (texts_are c.args.ops.now n c.args.most (omega arith) string_bytes _ c.loop-op.invariant.written c.front_of.result c.front_of.ensures.count) c.loop-op-test.true c.op-item.is (omega (arith, ap length c.in_ok-text.ensures.spelled))

pub loop-op-preserved : goal.loop-op-preserved
loop-op-preserved c = record {
  written = grind (arith, common_steps);
  stored = All-more IsStoredOp c.args.ops.now c.loop-op.op-index c.op-item.result c.loop-op-test.true c.loop-op.invariant.stored (subst IsStoredOp c.op-item.is c.in_ok-text.ensures.stored);
  so_far = let more = sum_more c.args.ops.now c.loop-op.op-index c.op-item.result c.loop-op-test.true c.op-item.is in omega (arith, more, ap length c.in_ok-text.ensures.spelled, c.loop-op.invariant.so_far);
  fits = omega arith;
}

pub returns-clause-body : goal.returns-clause-body
returns-clause-body c =
    let n = c.loop-op.op-index in
    let all : n ≡ length c.args.ops.now = omega arith in
    let some = some_left c.args.ops.now c.requires.some in
    front_is c.args.ops.now n c.args.most (omega arith) c.front_of-2.result
    (texts_are c.args.ops.now n c.args.most (omega arith) string_bytes _ c.loop-op.invariant.written c.front_of-2.result c.front_of-2.ensures.count) (c.front_of-2.ensures.body _ c.loop-op.invariant.written) (omega (arith, all, some)) c.loop-op.invariant.stored

pub returns-clause-fits : goal.returns-clause-fits
returns-clause-fits c =
    let n = c.loop-op.op-index in
    let all : n ≡ length c.args.ops.now = omega arith in
    let some = some_left c.args.ops.now c.requires.some in
    front_fits c.args.ops.now n c.args.most (omega arith) c.front_of-2.result (c.front_of-2.ensures.body _ c.loop-op.invariant.written) (omega (arith, all, some)) (omega arith)
