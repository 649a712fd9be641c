-- A run that sends, from what was settled and what was printed.
use Rattle.std.proofs.Common.{◌≡◌, ◌≢◌, ◌⊎◌, inl, inr, ℕ, ◌+◌, ◌-◌, ◌≤◌, List, [], length, take, drop, Option, Ok, Err, Result, IfErr, OnOk, refl, sym, ap, ◌∙◌, subst, arith, length-drop}
use Rattle.std.proofs.lemmas.List.{length-take, nil_from_length, take-append-drop}
use Rattle.outside.specs.Counts.{Rose}
use Rattle.outside.specs.DiskImages.{LeavesOnly, Only}
use Rattle.outside.specs.Wires.{Outcome}
use Rattle.outside.specs.declared.disk.Disk.{Ghosts as DiskGhosts}
use Rattle.spool_queue.specs.declared.spool.Spool.{Spool}
use Rattle.spool_queue.specs.declared.spool_error.SpoolError.TheVariants as errors
use Rattle.spool_queue.specs.declared.status.SpoolStatus.{SpoolStatus}
use Rattle.spool_queue.specs.declared.status.SpoolStatus.TheVariants as status
use Rattle.spool_queue.specs.declared.stop.Stop.{Stop}
use Rattle.spool_queue.specs.declared.stop.Stop.TheVariants as stop
use Rattle.spool_queue.specs.Printing.{HasTaken, IsSaid, sent_text}
use Rattle.spool_queue.specs.Putting.{LeavesTheDisk}
use Rattle.spool_queue.specs.SendSoFar.{IsDropped, IsSendingStop, SendsAll}
use Rattle.spool_queue.specs.Sent.{IsFrontOf, IsLeftOf, IsSendStatus, Sends}
use Rattle.spool_queue.specs.Spool.{IsReadAs}
use Rattle.spool_queue.specs.Standing.{HoldsList, count_of}
use Rattle.spool_queue.specs.Stopping.{status_after}
use Rattle.spool_queue.proofs.Crashes.{behind, weaker}
use Rattle.spool_queue.proofs.Settlings.{takes_both}
use Rattle.spool_queue.proofs.PutEnds.{holds_reads, told_as}
use Rattle.spool_queue.proofs.Runs.{held_count}

front_taken : (n m : ℕ) (list : List (List ℕ)) → n ≤ m → IsFrontOf (take n list) (take m list)
front_taken n m list le =
    let sum : m ≡ n + (m - n) = omega (arith, le) in
    (take (m - n) (drop n list), ap (λ (k : ℕ). take k list) sum ∙ takes_both n (m - n) list)

-- the disk did not fail
not_fault : (answer : Result Unit Stop) (lines : ℕ) → status_after answer lines ≢ status.DiskFault → answer ≢ Err (stop.Spool errors.DiskFault)
not_fault answer lines not = λ same. not (ap (λ (a : Result Unit Stop). status_after a lines) same)

was_done : (answer : Result Unit Stop) (P : Type 0) → status_after answer 0 ≡ status.Done → OnOk answer P → P
was_done (Ok done) P same is = is
was_done (Err stop.Source) P same is = absurd cc
was_done (Err stop.Unreachable) P same is = absurd cc
was_done (Err (stop.Spool (errors.Bad at))) P same is = absurd cc
was_done (Err (stop.Spool errors.DiskFault)) P same is = absurd cc
was_done (Err (stop.Spool errors.TooLong)) P same is = absurd cc
was_done (Err (stop.Spool errors.Full)) P same is = absurd cc
was_done (Err (stop.Spool errors.Closed)) P same is = absurd cc
was_done (Err (stop.Spool errors.NoMemory)) P same is = absurd cc

module _ {D : Type 0} (d : DiskGhosts D) (old new : D) (was now : Spool) (before after : Option (List Outcome)) (written later : Option (List ℕ)) (answer : Result Unit Stop) (result : SpoolStatus) where
  abbrev Said : Type 0
  Said = IsSaid written (sent_text (count_of was - count_of now) (count_of now)) later (status_after answer 0) result

  fault_not : Said → LeavesTheDisk result → status_after answer 0 ≢ status.DiskFault
  fault_not (inl out) leaves = λ same. absurd (leaves.1 out)
  fault_not (inr (same, text)) leaves = λ fault. leaves.0 (same ∙ fault)

  taken : Said → result ≢ status.OutFault → HasTaken written (sent_text (count_of was - count_of now) (count_of now)) later
  taken (inl out) not = absurd (not out)
  taken (inr (same, text)) not = text

  done_is : Said → result ≡ status.Done → status_after answer 0 ≡ status.Done
  done_is is done = told_as written later (sent_text (count_of was - count_of now) (count_of now)) (status_after answer 0) result status.Done is done (λ same. absurd cc)

  reached_not : Said → (result ≡ status.Done) ⊎ (result ≡ status.Unreachable) → status_after answer 0 ≢ status.DiskFault
  reached_not is (inl done) = λ fault. absurd (other (sym (told_as written later _ (status_after answer 0) result status.Done is done (λ same. absurd cc)) ∙ fault))
    where
      other : status.Done ≡ status.DiskFault → ⊥
      other same = absurd cc
  reached_not is (inr lost) = λ fault. absurd (other (sym (told_as written later _ (status_after answer 0) result status.Unreachable is lost (λ same. absurd cc)) ∙ fault))
    where
      other : status.Unreachable ≡ status.DiskFault → ⊥
      other same = absurd cc

  pub sends_from : (s : SendsAll d old new was now before after answer) → OnOk answer (count_of now ≡ 0) → Said → (list : List (List ℕ)) → HoldsList was list (d.contents old)
      → Sends (record { contents = d.contents new; written_before = written; written_after = later }) list (take s.tried list) result
  sends_from s none is list holds =
      let number : length list ≡ count_of was = sym (held_count was (d.contents old) list holds) in
      let sent : length (take s.done list) ≡ count_of was - count_of now = omega (arith, length-take s.done list, s.settles.counted, number) in
      let left : length (drop s.done list) ≡ count_of now = omega (arith, length-drop s.done list, s.settles.counted, number) in
      record {
        settled = take s.done list;
        left = drop s.done list;
        parts = sym (take-append-drop s.done list);
        only_acknowledged = front_taken s.done s.tried list s.settles.within;
        all_acknowledged = λ reached. ap (λ (k : ℕ). take k list) (sym (s.exact (not_fault answer 0 (reached_not is reached))));
        none_left = λ done. nil_from_length (drop s.done list) (left ∙ was_done answer (count_of now ≡ 0) (done_is is done) none);
        held = λ leaves. holds_reads now (drop s.done list) (d.contents new) (s.settles.whole (s.exact (not_fault answer 0 (fault_not is leaves))) list holds);
        printed = λ not.
            let T : ℕ → Type 0 = λ n. HasTaken written (sent_text n (length (drop s.done list))) later in
            let U : ℕ → Type 0 = λ n. HasTaken written (sent_text (count_of was - count_of now) n) later in
            subst T (sym sent) (subst U (sym left) (taken is not));
      }

  pub left_from : (s : SendsAll d old new was now before after answer) → Only (d.contents old) (d.images old) → (list : List (List ℕ)) → HoldsList was list (d.contents old) → LeavesOnly d.moment d.images_since old new (IsLeftOf list (take s.tried list))
  left_from s only list holds =
      weaker d.moment d.images_since old new (IsDropped s.tried list) (IsLeftOf list (take s.tried list)) (s.settles.crashes only list holds)
      (λ image (k, le, reads). record { settled = take k list; left = drop k list; parts = sym (take-append-drop k list); only_acknowledged = front_taken k s.tried list le; read_as = reads })

-- before anything was settled
pub none_settled : (list acknowledged : List (List ℕ)) (image : List ℕ) → IsReadAs image list → IsLeftOf list acknowledged image
none_settled list acknowledged image reads = record { settled = []; left = list; parts = refl; only_acknowledged = (acknowledged, refl); read_as = reads }

module _ {D : Type 0} (d : DiskGhosts D) where
  pub opened_sent : (old new : D) (list acknowledged : List (List ℕ)) → LeavesOnly d.moment d.images_since old new (λ image. IsReadAs image list) → LeavesOnly d.moment d.images_since old new (IsLeftOf list acknowledged)
  opened_sent old new list acknowledged leaves = weaker d.moment d.images_since old new (λ image. IsReadAs image list) (IsLeftOf list acknowledged) leaves (none_settled list acknowledged)

  pub sent_behind : (old mid new : D) (list acknowledged : List (List ℕ)) → LeavesOnly d.moment d.images_since old mid (λ image. IsReadAs image list) → LeavesOnly d.moment d.images_since mid new (IsLeftOf list acknowledged) → LeavesOnly d.moment d.images_since old new (IsLeftOf list acknowledged)
  sent_behind old mid new list acknowledged first second = behind d.moment d.images_since old mid new (IsLeftOf list acknowledged) (opened_sent old mid list acknowledged first) second

-- ---- the status

pub was_bad : (answer : Result Unit Stop) (at : ℕ) → status_after answer 0 ≡ status.SpoolBad at → answer ≡ Err (stop.Spool (errors.Bad at))
was_bad (Ok done) at same = absurd cc
was_bad (Err stop.Source) at same = absurd cc
was_bad (Err stop.Unreachable) at same = absurd cc
was_bad (Err (stop.Spool (errors.Bad place))) at same = let is : place ≡ at = cc in ap (λ (n : ℕ). Err (stop.Spool (errors.Bad n))) is
was_bad (Err (stop.Spool errors.DiskFault)) at same = absurd cc
was_bad (Err (stop.Spool errors.TooLong)) at same = absurd cc
was_bad (Err (stop.Spool errors.Full)) at same = absurd cc
was_bad (Err (stop.Spool errors.Closed)) at same = absurd cc
was_bad (Err (stop.Spool errors.NoMemory)) at same = absurd cc

pub was_lost : (answer : Result Unit Stop) → status_after answer 0 ≡ status.Unreachable → answer ≡ Err stop.Unreachable
was_lost (Ok done) same = absurd cc
was_lost (Err stop.Source) same = absurd cc
was_lost (Err stop.Unreachable) same = refl
was_lost (Err (stop.Spool (errors.Bad place))) same = absurd cc
was_lost (Err (stop.Spool errors.DiskFault)) same = absurd cc
was_lost (Err (stop.Spool errors.TooLong)) same = absurd cc
was_lost (Err (stop.Spool errors.Full)) same = absurd cc
was_lost (Err (stop.Spool errors.Closed)) same = absurd cc
was_lost (Err (stop.Spool errors.NoMemory)) same = absurd cc

pub sent_fault : (answer : Result Unit Stop) (before now : ℕ) → IfErr answer (IsSendingStop before now) → status_after answer 0 ≡ status.DiskFault → Rose before now
sent_fault (Ok done) before now is same = absurd cc
sent_fault (Err stop.Source) before now is same = absurd is
sent_fault (Err stop.Unreachable) before now is same = absurd cc
sent_fault (Err (stop.Spool (errors.Bad place))) before now is same = absurd cc
sent_fault (Err (stop.Spool errors.DiskFault)) before now is same = is
sent_fault (Err (stop.Spool errors.TooLong)) before now is same = absurd is
sent_fault (Err (stop.Spool errors.Full)) before now is same = absurd is
sent_fault (Err (stop.Spool errors.Closed)) before now is same = absurd is
sent_fault (Err (stop.Spool errors.NoMemory)) before now is same = absurd cc

pub sent_status : (answer : Result Unit Stop) (before now : ℕ) → IfErr answer (IsSendingStop before now) → IsSendStatus (status_after answer 0)
sent_status (Ok done) before now is = tt
sent_status (Err stop.Source) before now is = is
sent_status (Err stop.Unreachable) before now is = tt
sent_status (Err (stop.Spool (errors.Bad place))) before now is = tt
sent_status (Err (stop.Spool errors.DiskFault)) before now is = tt
sent_status (Err (stop.Spool errors.TooLong)) before now is = is
sent_status (Err (stop.Spool errors.Full)) before now is = is
sent_status (Err (stop.Spool errors.Closed)) before now is = absurd is
sent_status (Err (stop.Spool errors.NoMemory)) before now is = tt
