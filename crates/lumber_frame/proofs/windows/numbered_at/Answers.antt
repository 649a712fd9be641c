use Rattle.std.proofs.Common.{◌≡◌, ◌+◌, ◌-◌, ◌∷◌, [], ◌++◌, arith, rules}
use Rattle.lumber_frame.proofs.WindowBytes.{one_more, not_ahead, ahead, renumbered}
use Rattle.lumber_frame.proofs.windows.numbered_at.Goals as goal

pub returns-in_default : goal.returns-in_default
returns-in_default c = λ payloads rest is.
    let there = c.loop-before.invariant.ahead payloads rest is in
    not_ahead (c.loop-before.before + 1) (c.args.count - c.loop-before.before) c.loop-before.rest.now there.0 rest (omega arith) (omega arith) c.in_default.ensures there.1

pub loop-before-preserved : goal.loop-before-preserved
loop-before-preserved c =
    let before = c.loop-before.before in
    let items : c.push.new.self.items ≡ c.loop-before.payloads.items ++ c.in-Some.payload.now ∷ [] = search rules in
    record {
      taken = rw items (one_more before c.args.bytes.now c.loop-before.rest.now c.in-Some.after.now c.in-Some.payload.now c.loop-before.payloads.items c.loop-before.invariant.taken c.in-Some.ensures.0 c.in-Some.ensures.1);
      ahead = λ payloads rest is.
          let there = c.loop-before.invariant.ahead payloads rest is in
          let next = ahead (before + 1) (c.args.count - before) c.loop-before.rest.now c.in-Some.after.now c.in-Some.payload.now there.0 rest (omega arith) (omega arith) c.in-Some.ensures.0 c.in-Some.ensures.1 there.1 in
          (next.0, renumbered _ _ _ _ c.in-Some.after.now next.0 rest (omega arith) (omega arith) next.1);
    }
