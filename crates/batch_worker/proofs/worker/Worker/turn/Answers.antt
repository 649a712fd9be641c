use Rattle.std.proofs.Common.{inl, inr, refl}
use Rattle.batch_worker.specs.Seen.{seen}
use Rattle.batch_worker.proofs.Keeping.{same_keeps_moments}
use Rattle.batch_worker.proofs.Turning.{all_posted}
use Rattle.batch_worker.proofs.worker.Worker.turn.Goals as goal

pub returns-then-hand_on-clause-answers : goal.returns-then-hand_on-clause-answers
returns-then-hand_on-clause-answers g c =
    let wire = c.args.wire.now in
    let s = seen (g.W.Wire.outcomes wire) (g.W.Wire.open_links wire) (g.W.Wire.faults wire) (g.W.Wire.idles wire) in
    let goes = c.hand_on.ensures.goes s in
    record {
      goes = goes;
      link = inl (inl c.hand_on.ensures.link);
      did = inr (inl (all_posted g.L.Link.told g.L.Link.faults g.L.Link.idles s c.args.self.now c.hand_on.new.self goes (c.if-hand_on.ensures.all_posted.0 refl) c.if-owes.ensures.some));
      outcomes = refl;
      moments = same_keeps_moments c.args.now c.args.self.now c.hand_on.new.self c.hand_on.ensures.moments;
    }

pub returns-else-hand_on-clause-answers : goal.returns-else-hand_on-clause-answers
returns-else-hand_on-clause-answers g c =
    let wire = c.args.wire.now in
    let s = seen (g.W.Wire.outcomes wire) (g.W.Wire.open_links wire) (g.W.Wire.faults wire) (g.W.Wire.idles wire) in
    record {
      goes = c.hand_on.ensures.goes s;
      wire = refl;
      moments = same_keeps_moments c.args.now c.args.self.now c.hand_on.new.self c.hand_on.ensures.moments;
      link = c.hand_on.ensures.link;
      full = c.if-hand_on.ensures.left_only_where_full;
    }

pub returns-then-is_going_out-clause-answers : goal.returns-then-is_going_out-clause-answers
returns-then-is_going_out-clause-answers g c = c.send.ensures c.args.desk.now.capacity

pub returns-clause-answers : goal.returns-clause-answers
returns-clause-answers g c = c.go_on.ensures c.args.desk.now.capacity
