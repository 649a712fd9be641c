use Rattle.std.proofs.Common.{sym}
use Rattle.ship_core.proofs.Passes.{standing_in_range}
use Rattle.ship_core.proofs.Working.{renewed}
use Rattle.ship_core.proofs.pending.Ahead.renew.Goals as goal

pub renew_key-requires-clause-key : goal.renew_key-requires-clause-key
renew_key-requires-clause-key c = (standing_in_range c.args.slot c.args.notes.now c.requires.in_range _ (sym c.in-Some.ensures)).key

pub returns-in-Some-clause-renewed : goal.returns-in-Some-clause-renewed
returns-in-Some-clause-renewed c =
    renewed c.renew_key.result c.args.opening.now c.args.notes.now c.args.slot c.args.self.now.durable c.args.self.now.rows c.renew_key.new.self.rows c.args.self.now.pending.items c.renew_key.new.self.pending.items _ (sym c.in-Some.ensures) c.renew_key.ensures.rows c.renew_key.ensures.pending
