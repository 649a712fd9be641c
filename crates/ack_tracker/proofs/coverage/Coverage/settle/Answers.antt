use Rattle.std.proofs.Common.{◌≡◌, ◌<◌, ℕ, Option, Some, unwrap_or, refl, sym, ap, ◌∙◌, subst, arith}
use Rattle.ack_tracker.specs.Covered.{Covered, AddsSpan, Cuts, IsLastBefore, Joins, interval_at}
use Rattle.ack_tracker.proofs.Settling.{adds_before, adds_within, adds_at, adds_joined, adds_apart, cut_made}
use Rattle.ack_tracker.proofs.coverage.Coverage.settle.Goals as goal
use Rattle.ack_tracker.proofs.coverage.Coverage.settle.Goals.{in_default-via-in-Some-2+else-last-start, in_default-via-in_default}

pub returns-then-start-self-clause-settled : goal.returns-then-start-self-clause-settled
returns-then-start-self-clause-settled c =
    let end_is : c.self.inside.end ≡ c.args.self.now.end = ap (λ (v : Covered). v.end) c.self.view_is in
    adds_before c.args.self.now c.args.span (omega (arith, c.start-start.ensures.start, c.start-start.ensures.before_the_end)) (omega (arith, c.start-start.ensures.start, c.if-start-self.true, end_is))

pub returns-then-start-self-2-clause-settled : goal.returns-then-start-self-2-clause-settled
returns-then-start-self-2-clause-settled c =
    let was : Covered = record { end = c.self.inside.end; ahead = c.self.inside.ahead.entries } in
    let after : Covered = record { end = c.unwrap_or-self-inside.result; ahead = c.remove.new.self.entries } in
    let span = c.args.span in
    let e = c.end-end.ensures in
    let end_is : after.end ≡ unwrap_or (interval_at was.ahead span.end) span.end = c.unwrap_or-self-inside.ensures ∙ ap (λ (o : Option ℕ). unwrap_or o c.end-end.result) c.remove.ensures.value ∙ (λ k. unwrap_or (interval_at was.ahead (e k)) (e k)) in
    let cuts : Cuts was.ahead after.ahead span.end = subst (Cuts was.ahead after.ahead) e (cut_made c.self.inside.ahead c.remove.new.self c.end-end.result c.remove.ensures.updates) in
    subst (λ (v : Covered). AddsSpan v span after) c.self.view_is
    (adds_at was after span (omega (arith, c.start-start.ensures.start, c.start-start.ensures.before_the_end)) (sym c.start-start.ensures.start ∙ c.if-start-self-2.true) end_is cuts c.self.invariant)

pub returns-in-Some-clause-settled : goal.returns-in-Some-clause-settled
returns-in-Some-clause-settled c =
    let was : Covered = record { end = c.self.inside.end; ahead = c.self.inside.ahead.entries } in
    let last = c.in-Some.ensures in
    subst (λ (v : Covered). AddsSpan v c.args.span v) c.self.view_is
    (adds_within was c.args.span (omega (arith, c.start-start.ensures.start, c.start-start.ensures.before_the_end)) c.in-Some.field-0-0 c.in-Some.last last.0 (omega (arith, last.1, c.start-start.ensures.start)) (omega (arith, c.if-start-last.true, c.start-start.ensures.start)))

pub returns-in_ok-join-in-Some-2-clause-settled : goal.returns-in_ok-join-in-Some-2-clause-settled
returns-in_ok-join-in-Some-2-clause-settled c =
    let was : Covered = record { end = c.self.inside.end; ahead = c.self.inside.ahead.entries } in
    let after : Covered = record { end = c.self.inside.end; ahead = c.join.new.ahead.entries } in
    let span = c.args.span in
    let joins : Joins was.ahead after.ahead c.in-Some.field-0-0 span.end = subst (Joins was.ahead after.ahead c.in-Some.field-0-0) c.end-end.ensures c.in_ok-join-in-Some-2.ensures.joined in
    let last = c.in-Some.ensures in
    subst (λ (v : Covered). AddsSpan v span after) c.self.view_is
    (adds_joined was after span (omega (arith, c.start-start.ensures.start, c.start-start.ensures.before_the_end)) (omega (arith, c.if-start-self.false, c.if-start-self-2.false, c.start-start.ensures.start)) refl c.in-Some.field-0-0 c.in-Some.last last.0 (c.if-last-start.true ∙ c.start-start.ensures.start) joins)

last_is : (o : Option (ℕ × ℕ)) (first last : ℕ) (interval : ℕ × ℕ) → o ≡ Some (first, last) → o ≡ Some interval → interval.1 ≡ last
last_is o first last interval is other =
    let q : Some interval ≡ Some (first, last) = sym other ∙ is in
    let same : interval ≡ (first, last) = cc in
    ap (λ (p : ℕ × ℕ). p.1) same

pub returns-in_ok-join-in_default-clause-settled : goal.returns-in_ok-join-in_default-clause-settled
returns-in_ok-join-in_default-clause-settled c =
    let was : Covered = record { end = c.self.inside.end; ahead = c.self.inside.ahead.entries } in
    let after : Covered = record { end = c.self.inside.end; ahead = c.join-in_default.new.ahead.entries } in
    let span = c.args.span in
    let s = c.start-start.ensures.start in
    let joins : Joins was.ahead after.ahead span.start span.end = (let J : ℕ → ℕ → Type 0 = λ (a b : ℕ). Joins was.ahead after.ahead a b in subst (λ (a : ℕ). J a span.end) s (subst (λ (b : ℕ). J c.start-start.result b) c.end-end.ensures c.in_ok-join-in_default.ensures.joined)) in
    let ends : (interval : ℕ × ℕ) → c.last_before.result ≡ Some interval → interval.1 < span.start = λ interval is. elim c.in_default.branch [
      | in_default-via-in-Some-2+else-last-start w ↦ let same = last_is c.last_before.result w.in-Some-2.first w.in-Some-2.last interval w.in-Some-2.is is in let other = last_is c.last_before.result w.in-Some.field-0-0 w.in-Some.last interval w.in-Some.is is in omega (arith, same, other, w.if-start-last.false, w.if-last-start.false, s)
      | in_default-via-in_default w ↦ absurd (w.in_default.not-Some interval is)
    ] in
    subst (λ (v : Covered). AddsSpan v span after) c.self.view_is
    (adds_apart was after span (omega (arith, s, c.start-start.ensures.before_the_end)) (omega (arith, c.if-start-self.false, c.if-start-self-2.false, s)) refl c.last_before.result (subst (λ (p : ℕ). IsLastBefore was.ahead p c.last_before.result) s c.last_before.ensures) ends joins)
