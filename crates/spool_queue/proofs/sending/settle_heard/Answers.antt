use Rattle.std.proofs.Common.{◌≡◌, ◌≤◌, Bool, Err, length, arith, subst, sym}
use Rattle.std.proofs.lemmas.Result.{err_from_is_err_and}
use Rattle.lumber_client.specs.Exchange.{Exchange}
use Rattle.lumber_client.specs.Standing.{StandsFor}
use Rattle.spool_queue.specs.declared.spool_error.SpoolError.TheVariants.{DiskFault}
use Rattle.spool_queue.specs.declared.stop.Stop.{Stop}
use Rattle.spool_queue.specs.declared.stop.Stop.TheVariants.{Spool}
use Rattle.spool_queue.specs.SendSoFar.{Hears, SettlesSome}
use Rattle.spool_queue.proofs.Windows.{some_faulty, some_settled, some_unsettled}
use Rattle.spool_queue.proofs.sending.settle_heard.Goals as goal

pub returns-in_err-settle-clause-settles : goal.returns-in_err-settle-clause-settles
returns-in_err-settle-clause-settles g c =
    let p = err_from_is_err_and c.from_residual.result c.from_residual.ensures.1 in
    let before = c.args.window.now in
    let heard = c.hear-fine.new.window in
    let kept = c.hear-fine.ensures.kept in
    let few : heard.acknowledged ≤ length before.parcels = omega (arith, kept.begun, c.requires.awaited.begun) in
    let fails = c.in_err-settle.ensures.fails in
    let e : p.0 ≡ Spool DiskFault = cc (p.2, fails.0) in
    let S : Stop → Type 0 = λ stop. SettlesSome g.D.Disk c.args.disk.now c.settle.new.disk c.args.spool.now c.settle.new.spool before c.settle.new.window c.args.bytes.now (Err stop) in
    rw (p.1) (subst S (sym e) (some_unsettled g.D.Disk _ _ _ _ before heard c.settle.new.window c.args.bytes.now c.hear-fine.result c.requires.some kept few c.hear-fine.ensures.hears fails.2 c.settle.ensures.parcels))

pub returns-then-fine-clause-settles : goal.returns-then-fine-clause-settles
returns-then-fine-clause-settles g c =
    let before = c.args.window.now in
    let heard = c.hear-fine.new.window in
    let kept = c.hear-fine.ensures.kept in
    let few : heard.acknowledged ≤ length before.parcels = omega (arith, kept.begun, c.requires.awaited.begun) in
    let H : Bool → Type 0 = λ b. (e : Exchange) → StandsFor before e → Hears heard e c.args.bytes.now b in
    some_settled g.D.Disk _ _ _ _ before heard c.settle.new.window c.args.bytes.now c.requires.some kept few (subst H c.if-fine.true c.hear-fine.ensures.hears) c.in_ok-settle.ensures.settles c.settle.ensures.parcels c.settle.ensures.handed c.in_ok-settle.ensures.places

pub returns-else-fine-clause-settles : goal.returns-else-fine-clause-settles
returns-else-fine-clause-settles g c =
    let before = c.args.window.now in
    let heard = c.hear-fine.new.window in
    let kept = c.hear-fine.ensures.kept in
    let few : heard.acknowledged ≤ length before.parcels = omega (arith, kept.begun, c.requires.awaited.begun) in
    let H : Bool → Type 0 = λ b. (e : Exchange) → StandsFor before e → Hears heard e c.args.bytes.now b in
    some_faulty g.D.Disk _ _ _ _ before heard c.settle.new.window c.args.bytes.now c.requires.some kept few (subst H c.if-fine.false c.hear-fine.ensures.hears) c.in_ok-settle.ensures.settles c.settle.ensures.parcels
