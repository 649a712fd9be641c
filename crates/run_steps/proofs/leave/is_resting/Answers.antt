use Rattle.std.proofs.Common.{inl, inr, sym, ◌∙◌}
use Rattle.lanes.specs.Laning.{laning}
use Rattle.run_steps.proofs.FollowedFiles.{looks_resting}
use Rattle.run_steps.proofs.leave.is_resting.Goals as goal

pub returns-then-look : goal.returns-then-look
returns-then-look g c is = looks_resting c.args.seat (laning c.args.lane.now).harvesters c.look-look.result c.look-look.ensures (inl c.if-look.true)

pub returns-else-look : goal.returns-else-look
returns-else-look g c is = looks_resting c.args.seat (laning c.args.lane.now).harvesters c.look-look.result c.look-look.ensures (inr (sym c.is_some.ensures ∙ is))
