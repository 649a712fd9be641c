use Rattle.std.proofs.Common.{◌≡◌, ℕ, ◌+◌, ◌-◌, take, drop, refl, subst, sym, arith}
use Rattle.registry_frame.specs.Body.{body_bytes}
use Rattle.registry_frame.specs.BodyOf.{IsBodyOf}
use Rattle.registry_log.proofs.Heads.{found, stands_in}
use Rattle.registry_log.proofs.record.read_operations.Goals as goal

pub returns-then-bytes-end-clause-record : goal.returns-then-bytes-end-clause-record
returns-then-bytes-end-clause-record c = λ ops rest is.
    let stands = stands_in ops c.args.bytes.now rest c.args.size c.requires.size c.requires.head is in omega (arith, stands.long)

pub returns-then-bytes-end-ne10-clause-record : goal.returns-then-bytes-end-ne10-clause-record
returns-then-bytes-end-ne10-clause-record c = λ ops rest is.
    let stands = stands_in ops c.args.bytes.now rest c.args.size c.requires.size c.requires.head is in c.if-bytes-end-ne10.true stands.ended

pub returns-in-Ok-clause-record : goal.returns-in-Ok-clause-record
returns-in-Ok-clause-record c =
    let same : 9 + c.args.size - 9 ≡ c.args.size = omega arith in
    let Is : ℕ → Type 0 = λ n. IsBodyOf c.in-Ok.ops.items (take n (drop 9 c.args.bytes.now)) in
    found c.in-Ok.ops.items c.args.bytes.now c.args.size c.requires.size c.requires.head (omega arith) c.if-bytes-end-ne10.false (subst Is same c.in-Ok.ensures.says)

pub returns-in-Err-NotABody-clause-record : goal.returns-in-Err-NotABody-clause-record
returns-in-Err-NotABody-clause-record c = λ ops rest is.
    let stands = stands_in ops c.args.bytes.now rest c.args.size c.requires.size c.requires.head is in
    let same : 9 + c.args.size - 9 ≡ c.args.size = omega arith in
    let Is : ℕ → Type 0 = λ n. take n (drop 9 c.args.bytes.now) ≡ body_bytes ops in
    (rw c.in-Err-NotABody.field-0-is at c.in-Err-NotABody.ensures.refused_only_where_no_body) refl ops (record { spelled = subst Is (sym same) stands.body; some = is.some; each = is.each })
