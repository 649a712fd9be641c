use Rattle.std.proofs.Common.{◌≡◌, ◌+◌, ◌-◌, ◌<◌, ◌^◌, ◌∙◌, ℕ, length, take, drop, ap, subst, arith}
use Rattle.spool_queue.specs.Log.{Log, Then, payloads}
use Rattle.spool_queue.specs.Records.{Event}
use Rattle.spool_queue.specs.Walking.{IsWalkOf}
use Rattle.spool_queue.proofs.Logs.{no_break, one_end}
use Rattle.spool_queue.proofs.walk.Walk.find.Goals as goal

pub returns-then-self-number-clause-told : goal.returns-then-self-number-clause-told
returns-then-self-number-clause-told g c = λ bytes log told is.
    let now = c.records.invariant.walked bytes log told is in
    let size = c.in-Event.size in
    let step = rw c.in-Event.is at (c.in_ok-step.ensures.told bytes now.0 (c.records.invariant.only_read.contents_kept ∙ told) now.1) in
    let goes = rw c.in-Event.is at c.in_ok-step.ensures.goes_on in
    let same : c.records.self.place + 13 ≡ c.step.new.self.place - 1 - size = omega (arith, goes.0) in
    let number : length (payloads now.0) ≡ c.args.number = omega (arith, now.1.events, goes.1, c.records.invariant.before, c.if-self-number.true) in
    let W : ℕ → Type 0 = λ p. IsWalkOf bytes c.step.new.self (Then now.0 (Event (take size (drop p bytes)))) in
    let S : ℕ → Type 0 = λ p. length (take size (drop p bytes)) ≡ size in
    (now.0, subst W same step.0, number, subst S same step.1)

pub returns-in-Closed-clause-never_bad : goal.returns-in-Closed-clause-never_bad
returns-in-Closed-clause-never_bad g c = λ bytes log whole end told is ends there at same.
    let now = c.records.invariant.walked bytes log told is in
    let step = rw c.in-Closed.is at (c.in_ok-step.ensures.told bytes now.0 (c.records.invariant.only_read.contents_kept ∙ told) now.1) in
    let few : length (payloads now.0) < 2 ^ 64 = omega (arith, now.1.events) in
    let all = one_end bytes now.0 whole c.step.new.self.place end step.0 few ends in
    omega (arith, ap (λ (l : Log). length (payloads l)) all, now.1.events, c.records.invariant.before, there)

pub returns-in-Bad-clause-never_bad : goal.returns-in-Bad-clause-never_bad
returns-in-Bad-clause-never_bad g c = λ bytes log whole end told is ends there at same.
    let now = c.records.invariant.walked bytes log told is in
    let step = rw c.in-Bad.is at (c.in_ok-step.ensures.told bytes now.0 (c.records.invariant.only_read.contents_kept ∙ told) now.1) in
    let few : length (payloads now.0) < 2 ^ 64 = omega (arith, now.1.events) in
    no_break bytes now.0 whole c.step.new.self.place end step.0 few ends
