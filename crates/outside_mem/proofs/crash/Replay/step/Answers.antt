use Rattle.std.proofs.Common.{rules, refl}
use Rattle.outside_mem.proofs.Replaying.{follows_write, follows_failed, follows_cut}
use Rattle.outside_mem.proofs.crash.Replay.step.Goals as goal

pub returns-in_ok-self-in-Wrote : goal.returns-in_ok-self-in-Wrote
returns-in_ok-self-in-Wrote c = rw c.in-Wrote.is (follows_write c.args.filler _ _ c.in-Wrote.write (search rules) (search rules) (search rules))

pub returns-in_ok-self-in-WriteFailed : goal.returns-in_ok-self-in-WriteFailed
returns-in_ok-self-in-WriteFailed c =
    rw c.in-WriteFailed.is (follows_failed c.args.filler _ _ c.in-WriteFailed.at c.in-WriteFailed.len refl (search rules) (search rules))

pub returns-in-CutTo : goal.returns-in-CutTo
returns-in-CutTo c = rw c.in-CutTo.is (follows_cut c.args.filler _ _ c.in-CutTo.len (search rules) refl)
