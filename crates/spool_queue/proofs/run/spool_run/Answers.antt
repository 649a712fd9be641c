use Rattle.std.proofs.Common.{rules, ◌≡◌, ◌-◌, inl, inr, ℕ, List, [], None, Err, take, refl, sym, ap, subst, ⊎_elim, ◌∙◌}
use Rattle.spool_queue.specs.declared.stop.Stop.TheVariants.{Spool}
use Rattle.spool_queue.specs.declared.spool_error.SpoolError.{SpoolError}
use Rattle.spool_queue.specs.declared.status.SpoolStatus.TheVariants.{DiskFault, Done, OutFault, SpoolBad, Unreachable}
use Rattle.spool_queue.specs.Lines.{lines_of, refusal_of}
use Rattle.spool_queue.specs.Putting.{PutCall, Puts}
use Rattle.spool_queue.specs.Untroubled.{IsRefusedAt}
use Rattle.spool_queue.specs.Words.{IsPut, IsSend}
use Rattle.spool_queue.specs.Stopping.{status_after, status_for}
use Rattle.spool_queue.specs.Printing.{IsSaid, sent_text}
use Rattle.spool_queue.specs.Sent.{AreAcknowledged, IsSendStatus, Sends, send_call}
use Rattle.spool_queue.specs.Standing.{count_of, reserved}
use Rattle.spool_queue.specs.declared.status.SpoolStatus.{SpoolStatus}
use Rattle.spool_queue.proofs.Causes.{rose_behind}
use Rattle.spool_queue.proofs.PutEnds.{said, told_as}
use Rattle.spool_queue.proofs.Links.{no_link}
use Rattle.spool_queue.proofs.SendEnds.{left_from, opened_sent, sends_from, sent_behind, sent_fault, sent_status, was_bad, was_lost}
use Rattle.spool_queue.proofs.Runs.{bad_at, fault_of, goes_on, never_unreachable, opened_put, put_behind, put_never, reserved_by}
use Rattle.spool_queue.proofs.Untroubled.{never_full, never_long, never_lost, put_untroubled, send_untroubled}
use Rattle.spool_queue.proofs.run.spool_run.Goals as goal

pub returns-in-Err-clause-puts : goal.returns-in-Err-clause-puts
returns-in-Err-clause-puts g c = λ put bytes list told is.
    inl (c.status.ensures ∙ ap (λ (e : SpoolError). status_for (Spool e) 0) (c.in-Err.ensures.reads bytes list told is), refl)

pub returns-in-Err-clause-put_at_each_moment : goal.returns-in-Err-clause-put_at_each_moment
returns-in-Err-clause-put_at_each_moment g c = λ put only bytes list told is.
    opened_put g.D.Disk _ _ _ list (c.open.ensures.each_moment only bytes list told is)

pub returns-in-Put-clause-puts : goal.returns-in-Put-clause-puts
returns-in-Put-clause-puts g c = λ put bytes list told is.
    let held = c.in-Ok.ensures.reads bytes list told is in
    let call : PutCall = record {
      source = g.R.Source.left c.args.source.now;
      contents = g.D.Disk.contents c.run_put.new.disk;
      written_before = g.S.Sink.written c.args.out.now;
      written_after = g.S.Sink.written c.run_put.new.out;
    } in
    let Run : ℕ → Type 0 = λ room. Puts call list room c.run_put.result in
    goes_on _ _ _ bytes list Run c.in-Ok.spool (g.D.Disk.contents c.open.new.disk) held (c.in-Ok.ensures.at_its_last_gate bytes told) (c.run_put.ensures.puts list held)

pub returns-in-Put-clause-put_at_each_moment : goal.returns-in-Put-clause-put_at_each_moment
returns-in-Put-clause-put_at_each_moment g c = λ put only bytes list told is.
    let held = c.in-Ok.ensures.reads bytes list told is in
    put_behind g.D.Disk _ _ _ _ list (c.open.ensures.each_moment only bytes list told is) (c.run_put.ensures.each_moment (c.in-Ok.ensures.durable only) list held)

pub returns-in-Err-clause-says_bad_only_where_it_is : goal.returns-in-Err-clause-says_bad_only_where_it_is
returns-in-Err-clause-says_bad_only_where_it_is g c = λ bytes at told same.
    let bad = bad_at c.in-Err.error at (sym c.status.ensures ∙ same) in
    (c.open.ensures.bad bytes at told (c.in-Err.is ∙ ap (λ (e : SpoolError). Err e) bad), c.open.ensures.bad_only_reads at (c.in-Err.is ∙ ap (λ (e : SpoolError). Err e) bad), refl)

pub returns-in-Err-clause-disk_fault_only_where_faults_rose : goal.returns-in-Err-clause-disk_fault_only_where_faults_rose
returns-in-Err-clause-disk_fault_only_where_faults_rose g c = λ same.
    c.open.ensures.disk_fault_only_where_faults_rose (c.in-Err.is ∙ ap (λ (e : SpoolError). Err e) (fault_of c.in-Err.error c.in-Err.ensures.errors (sym c.status.ensures ∙ same)))

pub returns-in-Err-clause-put_is_never_unreachable : goal.returns-in-Err-clause-put_is_never_unreachable
returns-in-Err-clause-put_is_never_unreachable g c = λ put same. never_unreachable c.in-Err.error (sym c.status.ensures ∙ same)

pub returns-in-Put-clause-says_bad_only_where_it_is : goal.returns-in-Put-clause-says_bad_only_where_it_is
returns-in-Put-clause-says_bad_only_where_it_is g c = λ bytes at told same. absurd (put_never c.run_put.result (SpoolBad at) c.run_put.ensures.status same (λ is. is))

pub returns-in-Put-clause-put_is_never_unreachable : goal.returns-in-Put-clause-put_is_never_unreachable
returns-in-Put-clause-put_is_never_unreachable g c = λ put same. put_never c.run_put.result Unreachable c.run_put.ensures.status same (λ is. is)

pub returns-in-Err-clause-sends : goal.returns-in-Err-clause-sends
returns-in-Err-clause-sends g c = λ send bytes list told is.
    inl (c.status.ensures ∙ ap (λ (e : SpoolError). status_for (Spool e) 0) (c.in-Err.ensures.reads bytes list told is), refl)

pub returns-in-Err-clause-sent_at_each_moment : goal.returns-in-Err-clause-sent_at_each_moment
returns-in-Err-clause-sent_at_each_moment g c = λ send only bytes list told is.
    ([], no_link _, opened_sent g.D.Disk _ _ list [] (c.open.ensures.each_moment only bytes list told is))

pub returns-in-Send-clause-sends : goal.returns-in-Send-clause-sends
returns-in-Send-clause-sends g c = λ send bytes list told is.
    let held = c.in-Ok.ensures.reads bytes list told is in
    let s = c.send-answer.ensures.sends in
    let acked = take s.tried list in
    let Run : ℕ → Type 0 = λ room. (acknowledged : List (List ℕ)) × AreAcknowledged (g.W.Wire.outcomes c.args.wire.now) (g.W.Wire.outcomes c.send-answer.new.wire) acknowledged
    × Sends (send_call (g.D.Disk.contents c.send-answer.new.disk) (g.S.Sink.written c.args.out.now) (g.S.Sink.written c.say_sent.new.out)) list acknowledged c.say_sent.result in
    goes_on _ _ _ bytes list Run c.in-Ok.spool (g.D.Disk.contents c.open.new.disk) held (c.in-Ok.ensures.at_its_last_gate bytes told)
    let A : ℕ → Type 0 = λ n. IsSaid (g.S.Sink.written c.args.out.now) (sent_text (n - c.outstanding.result) c.outstanding.result) (g.S.Sink.written c.say_sent.new.out) (status_after c.send-answer.result 0) c.say_sent.result in
    let B : ℕ → Type 0 = λ n. IsSaid (g.S.Sink.written c.args.out.now) (sent_text (count_of c.in-Ok.spool - n) n) (g.S.Sink.written c.say_sent.new.out) (status_after c.send-answer.result 0) c.say_sent.result in
    let printed = subst B c.outstanding.ensures.counted (subst A c.outstanding-before.ensures.counted c.say_sent.ensures.said) in
    (acked, s.acknowledged list held, sends_from g.D.Disk _ _ _ _ _ _ _ _ c.send-answer.result _ s c.send-answer.ensures.done printed list held)

pub returns-in-Send-clause-sent_at_each_moment : goal.returns-in-Send-clause-sent_at_each_moment
returns-in-Send-clause-sent_at_each_moment g c = λ send only bytes list told is.
    let held = c.in-Ok.ensures.reads bytes list told is in
    let s = c.send-answer.ensures.sends in (
      take s.tried list,
      s.acknowledged list held,
      sent_behind g.D.Disk _ _ _ list (take s.tried list) (c.open.ensures.each_moment only bytes list told is)
          (left_from g.D.Disk _ _ _ _ _ _ None None c.send-answer.result Done s (c.in-Ok.ensures.durable only) list held),
    )

pub returns-in-Err-clause-unreachable_only_where_it_is_lost : goal.returns-in-Err-clause-unreachable_only_where_it_is_lost
returns-in-Err-clause-unreachable_only_where_it_is_lost g c = λ same. absurd (never_unreachable c.in-Err.error (sym c.status.ensures ∙ same))

pub returns-in-Put-clause-unreachable_only_where_it_is_lost : goal.returns-in-Put-clause-unreachable_only_where_it_is_lost
returns-in-Put-clause-unreachable_only_where_it_is_lost g c = λ same. absurd (put_never c.run_put.result Unreachable c.run_put.ensures.status same (λ is. is))

pub returns-in-Send-clause-unreachable_only_where_it_is_lost : goal.returns-in-Send-clause-unreachable_only_where_it_is_lost
returns-in-Send-clause-unreachable_only_where_it_is_lost g c = λ same.
    c.send-answer.ensures.unreachable (was_lost c.send-answer.result (told_as _ _ _ _ c.say_sent.result Unreachable c.say_sent.ensures.said same (λ out. absurd cc)))

pub returns-in-Send-clause-says_bad_only_where_it_is : goal.returns-in-Send-clause-says_bad_only_where_it_is
returns-in-Send-clause-says_bad_only_where_it_is g c = λ bytes at told same.
    let opened = c.in-Ok.ensures.opened bytes told in
    absurd (c.send-answer.ensures.never_bad opened.0 opened.2 at (was_bad c.send-answer.result at (told_as _ _ _ _ c.say_sent.result (SpoolBad at) c.say_sent.ensures.said same (λ out. absurd cc))))

pub returns-in-Send-clause-disk_fault_only_where_faults_rose : goal.returns-in-Send-clause-disk_fault_only_where_faults_rose
returns-in-Send-clause-disk_fault_only_where_faults_rose g c = λ same.
    rose_behind _ _ _ c.open.ensures.faults_never_fall (sent_fault c.send-answer.result _ _ c.send-answer.ensures.stops (told_as _ _ _ _ c.say_sent.result DiskFault c.say_sent.ensures.said same (λ out. absurd cc)))

pub returns-in-Send-clause-send_ends : goal.returns-in-Send-clause-send_ends
returns-in-Send-clause-send_ends g c = λ send. said _ _ _ _ c.say_sent.result IsSendStatus c.say_sent.ensures.said tt (sent_status c.send-answer.result _ _ c.send-answer.ensures.stops)

pub returns-in-Err-clause-send_ends : goal.returns-in-Err-clause-send_ends
returns-in-Err-clause-send_ends g c = λ send.
    let S : SpoolStatus → Type 0 = λ s. IsSendStatus s in
    subst S (sym c.status.ensures) (⊎_elim (λ fault. let E : SpoolError → Type 0 = λ e. IsSendStatus (status_for (Spool e) 0) in subst E (sym fault) tt) (λ bad. let E : SpoolError → Type 0 = λ e. IsSendStatus (status_for (Spool e) 0) in subst E (sym bad.1) tt) c.in-Err.ensures.errors)

pub returns-in-Err-clause-bad_spools_are_refused : goal.returns-in-Err-clause-bad_spools_are_refused
returns-in-Err-clause-bad_spools_are_refused g c = λ command bytes at told bad.
    let S : SpoolStatus → Type 0 = λ s. IsRefusedAt at s in
    let E : SpoolError → Type 0 = λ e. IsRefusedAt at (status_for (Spool e) 0) in
    subst S (sym c.status.ensures) (⊎_elim (λ fault. subst E (sym fault) (inr refl)) (λ is. subst E (sym is) (inl refl)) (c.in-Err.ensures.refuses bytes at told bad))

pub returns-in-Err-clause-what_an_untroubled_run_ends_with : goal.returns-in-Err-clause-what_an_untroubled_run_ends_with
returns-in-Err-clause-what_an_untroubled_run_ends_with g c = λ run.
    let fault = c.in-Err.ensures.reads run.spool.bytes run.spool.list run.spool.tells run.spool.reads in
    absurd (run.disk (c.open.ensures.disk_fault_only_where_faults_rose (c.in-Err.is ∙ ap (λ (e : SpoolError). Err e) fault)))

pub returns-in-Put-clause-what_an_untroubled_run_ends_with : goal.returns-in-Put-clause-what_an_untroubled_run_ends_with
returns-in-Put-clause-what_an_untroubled_run_ends_with g c = λ run.
    let put : IsPut c.args.words.now = search rules in
    let fits = run.fits put in
    let held = c.in-Ok.ensures.reads run.spool.bytes run.spool.list run.spool.tells run.spool.reads in
    let gate = c.in-Ok.ensures.at_its_last_gate run.spool.bytes run.spool.tells in
    let met = c.run_put.ensures in
    let puts = met.puts run.spool.list held in
    let R : ℕ → Type 0 = λ n. refusal_of n 0 (lines_of fits.given) ≡ None in
    let none : refusal_of (reserved c.in-Ok.spool) 0 (lines_of fits.given) ≡ None = subst R (sym (reserved_by c.in-Ok.spool _ run.spool.list held)) (fits.fits c.in-Ok.spool.end gate) in
    put_untroubled c.run_put.result met.status (λ same. run.source (met.source_fault_only_where_faults_rose same))
    (λ same. run.disk (rose_behind _ _ _ c.open.ensures.faults_never_fall (met.disk_fault_only_where_faults_rose same)))
    (λ same. run.sink (met.out_fault_only_where_faults_rose same))
    (λ line. never_full (reserved c.in-Ok.spool) _ fits.given c.run_put.result line fits.tells none puts.refused)
    (λ line. never_long (reserved c.in-Ok.spool) _ fits.given c.run_put.result line fits.tells none puts.refused)

pub returns-in-Put-clause-bad_spools_are_refused : goal.returns-in-Put-clause-bad_spools_are_refused
returns-in-Put-clause-bad_spools_are_refused g c = λ command bytes at told bad. absurd (c.in-Ok.ensures.refuses bytes at told bad)

pub returns-in-Send-clause-bad_spools_are_refused : goal.returns-in-Send-clause-bad_spools_are_refused
returns-in-Send-clause-bad_spools_are_refused g c = λ command bytes at told bad. absurd (c.in-Ok.ensures.refuses bytes at told bad)

pub returns-in-Send-clause-what_an_untroubled_run_ends_with : goal.returns-in-Send-clause-what_an_untroubled_run_ends_with
returns-in-Send-clause-what_an_untroubled_run_ends_with g c = λ run.
    let send : IsSend c.args.words.now = search rules in
    let held = c.in-Ok.ensures.reads run.spool.bytes run.spool.list run.spool.tells run.spool.reads in
    let met = c.send-answer.ensures in
    let told = c.say_sent.ensures.said in
    let ends : (one : SpoolStatus) → (one ≡ OutFault → ⊥) → c.say_sent.result ≡ one → status_after c.send-answer.result 0 ≡ one = λ one not same. told_as _ _ _ _ c.say_sent.result one told same not in
    send_untroubled c.say_sent.result (said _ _ _ _ c.say_sent.result IsSendStatus told tt (sent_status c.send-answer.result _ _ met.stops))
    (λ same. run.disk (rose_behind _ _ _ c.open.ensures.faults_never_fall (sent_fault c.send-answer.result _ _ met.stops (ends DiskFault (λ out. absurd cc) same))))
    (λ same. run.sink (c.say_sent.ensures.out_fault_only_where_faults_rose same))
    (λ same. never_lost _ _ (run.served send) run.wire (met.unreachable (was_lost c.send-answer.result (ends Unreachable (λ out. absurd cc) same))))
    (λ at same. met.never_bad run.spool.list held at (was_bad c.send-answer.result at (ends (SpoolBad at) (λ out. absurd cc) same)))
