use Rattle.std.proofs.Common.{◌≡◌, ◌+◌, ◌++◌, ◌∷◌, [], ℕ, List, take, drop, get_or, sym, ap, subst, ◌∙◌}
use Rattle.std.proofs.lemmas.List.{take_all, take_more, take-append-drop}
use Rattle.std.proofs.lemmas.Result.{err_from_is_err_and}
use Rattle.spool_queue.specs.declared.spool_error.SpoolError.{SpoolError}
use Rattle.spool_queue.specs.PutSoFar.{PutsLines, StopsIn}
use Rattle.spool_queue.proofs.Puttings.{both_put, no_bytes, stops_in_front, then_stops}
use Rattle.spool_queue.proofs.putting.put_piece.Goals as goal

pub bytes-init : goal.bytes-init
bytes-init g c = no_bytes g.D.Disk _ _ _ (g.met.D.Disk.only_now c.args.disk.now)

pub bytes-preserved : goal.bytes-preserved
bytes-preserved g c =
    let piece = c.args.piece.now in
    let n = c.bytes.byte-index in
    let P : List ℕ → Type 0 = λ l. PutsLines g.D.Disk c.args.disk.now c.put_byte.new.disk c.args.spool.now c.put_byte.new.spool c.args.line.now.items l c.put_byte.new.line.items in
    subst P (sym (take_more piece n 0 c.bytes-test.true)) (both_put g.D.Disk _ _ _ _ _ _ _ _ _ _ _ c.bytes.invariant c.in_ok-put_byte.ensures.puts)

pub returns-in_err-put_byte-clause-stops : goal.returns-in_err-put_byte-clause-stops
returns-in_err-put_byte-clause-stops g c =
    let piece = c.args.piece.now in
    let n = c.bytes.byte-index in
    let p = err_from_is_err_and c.from_residual.result c.from_residual.ensures.1 in
    let error = c.in_err-put_byte.field-0.0 in
    let e : p.0 ≡ error = cc (p.2) in
    let S : SpoolError → Type 0 = λ e. StopsIn g.D.Disk c.args.disk.now c.put_byte.new.disk c.args.spool.now c.put_byte.new.spool c.args.line.now.items piece e in
    let B : List ℕ → Type 0 = λ l. StopsIn g.D.Disk c.args.disk.now c.put_byte.new.disk c.args.spool.now c.put_byte.new.spool c.args.line.now.items l error in
    let whole : (take n piece ++ get_or piece n 0 ∷ []) ++ drop (n + 1) piece ≡ piece = ap (λ (l : List ℕ). l ++ drop (n + 1) piece) (sym (take_more piece n 0 c.bytes-test.true)) ∙ take-append-drop (n + 1) piece in
    rw (p.1) (subst S (sym e) (subst B whole (stops_in_front g.D.Disk _ _ _ _ _ (take n piece ++ get_or piece n 0 ∷ []) (drop (n + 1) piece) error
    (then_stops g.D.Disk _ _ _ _ _ _ _ _ _ _ error c.bytes.invariant c.in_err-put_byte.ensures.stops))))

pub returns-clause-puts : goal.returns-clause-puts
returns-clause-puts g c =
    let P : List ℕ → Type 0 = λ l. PutsLines g.D.Disk c.args.disk.now c.bytes.disk c.args.spool.now c.bytes.spool c.args.line.now.items l c.bytes.line.items in
    subst P (take_all c.bytes.byte-index c.args.piece.now c.bytes-test.false) c.bytes.invariant
