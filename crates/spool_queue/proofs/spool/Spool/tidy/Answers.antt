use Rattle.std.proofs.Common.{◌<◌, ◌∷◌, length, refl, ap, arith, length-append}
use Rattle.spool_queue.specs.Log.{log_bytes}
use Rattle.spool_queue.proofs.Standings.{empty_spool}
use Rattle.spool_queue.proofs.spool.Spool.tidy.Goals as goal

pub returns-in-Ok-clause-tidied : goal.returns-in-Ok-clause-tidied
returns-in-Ok-clause-tidied g c = λ bytes list told is.
    let some : 0 < length bytes = omega (arith, ap length is.ends.reaches.bytes, length-append (log_bytes is.log) (is.ends.gate ∷ is.ends.rest)) in
    (c.in-Ok.ensures.emptied bytes told some, empty_spool _ refl refl refl)
