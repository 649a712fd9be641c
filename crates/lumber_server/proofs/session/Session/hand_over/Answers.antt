use Rattle.std.proofs.Common.{inl, inr, refl}
use Rattle.lumber_server.proofs.Turning.{ends_same, fails_end, stop_end}
use Rattle.lumber_server.proofs.session.Session.hand_over.Goals as goal

pub returns-in-Ok-Stop-clause-handed : goal.returns-in-Ok-Stop-clause-handed
returns-in-Ok-Stop-clause-handed g c =
    let taken = c.in-Ok-Stop.ensures.taken in
    ends_same _ _ c.args.self.now.transfer _ _ _ c.bytes-bytes.ensures (stop_end _ _ c.args.self.now.transfer c.take_in.new.self _ _ (rw c.in-Ok-Stop.field-0-is at taken))

pub returns-in-Err-Out-clause-handed : goal.returns-in-Err-Out-clause-handed
returns-in-Err-Out-clause-handed g c = ends_same _ _ c.args.self.now.transfer _ _ _ c.bytes-bytes.ensures (fails_end _ _ _ _ (inr (inl refl)) c.in-Err-Out.ensures.fails)

pub returns-in-Err-Send-clause-handed : goal.returns-in-Err-Send-clause-handed
returns-in-Err-Send-clause-handed g c = ends_same _ _ c.args.self.now.transfer _ _ _ c.bytes-bytes.ensures (fails_end _ _ _ _ (inl refl) c.in-Err-Send.ensures.fails)

pub returns-in-Err-NoMemory-clause-handed : goal.returns-in-Err-NoMemory-clause-handed
returns-in-Err-NoMemory-clause-handed g c = ends_same _ _ c.args.self.now.transfer _ _ _ c.bytes-bytes.ensures (fails_end _ _ _ _ (inr (inr refl)) c.in-Err-NoMemory.ensures.fails)
