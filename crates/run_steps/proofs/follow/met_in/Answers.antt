use Rattle.std.proofs.Common.{◌≡◌, true, false, sym, ◌∙◌}
use Rattle.run_steps.proofs.Attempts.{never_both, was_sending, was_still}
use Rattle.run_steps.proofs.follow.met_in.Goals as goal
use Rattle.run_steps.proofs.follow.met_in.Goals.{else-not-round-via-then-not-round+else-is_done, else-not-round-via-else-not-round}

pub returns-then-not-once : goal.returns-then-not-once
returns-then-not-once g c = (
  was_sending c.args.attempts c.args.crew.now c.args.round c.as_slice.result.now c.if-round.false c.if-round-2.false c.in_default.is c.as_slice.ensures.value c.in_default-unreachable_in.ensures.none,
  λ once. absurd (let no : true ≡ false = sym once ∙ c.if-not-once.true in cc),
)

pub returns-then-is_done : goal.returns-then-is_done
returns-then-is_done g c = (
  was_sending c.args.attempts c.args.crew.now c.args.round c.as_slice.result.now c.if-round.false c.if-round-2.false c.in_default.is c.as_slice.ensures.value c.in_default-unreachable_in.ensures.none,
  c.if-not-once.false,
  was_still c.args.round.moved c.if-not-round.true,
  c.if-is_done.ensures.done,
)

pub returns : goal.returns
returns g c = (
  was_sending c.args.attempts c.args.crew.now c.args.round c.as_slice.result.now c.if-round.false c.if-round-2.false c.in_default.is c.as_slice.ensures.value c.in_default-unreachable_in.ensures.none,
  λ once still. elim c.else-not-round.branch [
    | else-not-round-via-then-not-round+else-is_done w ↦ w.if-is_done.ensures.work
    | else-not-round-via-else-not-round w ↦ absurd (never_both c.args.round.moved still w.if-not-round.false)
  ],
)
