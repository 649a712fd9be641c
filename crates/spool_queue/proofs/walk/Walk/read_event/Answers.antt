use Rattle.std.proofs.Common.{◌≡◌, ◌-◌, ◌≤◌, ◌∙◌, ℕ, List, length, take, drop, sym, ap, subst, arith}
use Rattle.std.proofs.lemmas.List.{take_all, take_at}
use Rattle.std.proofs.lemmas.Result.{err_from_is_err_and}
use Rattle.spool_queue.specs.Log.{Then}
use Rattle.spool_queue.specs.Records.{Event}
use Rattle.spool_queue.specs.Walking.{IsWalkOf}
use Rattle.spool_queue.proofs.walk.Walk.read_event.Goals as goal

pub returns-in_err-size-clause-never_bad : goal.returns-in_err-size-clause-never_bad
returns-in_err-size-clause-never_bad g c = λ bytes log whole end told is ends there at same.
    let p = err_from_is_err_and c.from_residual.result c.from_residual.ensures.1 in
    let no = c.find.ensures.never_bad bytes log whole end told is ends there at in
    no (cc (p.1, p.2, same, c.in_err-size.was))

pub returns-clause-told : goal.returns-clause-told
returns-clause-told g c = λ bytes log told is.
    let found = c.in_ok-size.ensures.told bytes log told is in
    let size = c.in_ok-size.size in
    let into = c.read_full.new.into in
    let count = c.in_ok-count.count in
    let rest : List ℕ = drop (c.find.new.self.place - 1 - size) bytes in
    let vec_long : c.in_ok-payload.payload.len ≡ size = omega (arith, c.in_ok-payload.ensures.len) in
    let long : length into ≡ c.in_ok-payload.payload.len = omega (arith, c.read_full.auto.into, c.deref_mut.ensures.len) in
    let all : length into ≤ count = omega (arith, long, c.len.ensures, c.if-count-len.false) in
    let read : take count into ≡ take (length into) rest = c.in_ok-count.ensures.told bytes (c.in_ok-size.ensures.only_read.contents_kept ∙ told) in
    let payload : c.from_vec.result ≡ take size rest = c.from_vec.ensures ∙ take_at into _ c.in_ok-payload.payload.len long ∙ sym (take_all count into all) ∙ read ∙ ap (λ (n : ℕ). take n rest) (long ∙ vec_long) in
    let W : List ℕ → Type 0 = λ l. IsWalkOf bytes c.find.new.self (Then found.0 (Event l)) in
    (found.0, subst W (sym payload) found.1, found.2)
