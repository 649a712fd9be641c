use Rattle.std.proofs.Common.{◌≡◌, ℕ, ◌*◌, ◌-◌, ◌^◌, ◌≤◌, min, arith}
use Rattle.std.proofs.Math.Pow.{pow_mono}
use Rattle.batch_worker.proofs.worker.rest_after.Goals as goal

longest : (failures : ℕ) → 7 ≤ failures → 60000 ≡ min 60000 (1000 * 2 ^ (failures - 1))
longest failures many =
    let six : 6 ≤ failures - 1 = omega (arith, many) in
    let long : 2 ^ 6 ≤ 2 ^ (failures - 1) = pow_mono six in
    omega (arith, long)

pub returns-in_default : goal.returns-in_default
returns-in_default c = longest c.args.failures (omega arith)
