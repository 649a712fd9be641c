-- A run that puts, from what was put and what was printed.
use Rattle.std.proofs.Common.{◌≡◌, ◌≢◌, inl, inr, ℕ, ◌-◌, List, ◌++◌, length, Option, Some, None, Ok, Err, Result, IfSome, OnOk, refl, sym, ap, ◌∙◌, subst, arith, append_assoc}
use Rattle.outside.specs.Counts.{Rose}
use Rattle.outside.specs.DiskImages.{LeavesOnly, Only}
use Rattle.outside.specs.declared.disk.Disk.{Ghosts as DiskGhosts}
use Rattle.spool_queue.specs.declared.spool.Spool.{Spool}
use Rattle.spool_queue.specs.declared.spool_error.SpoolError.TheVariants as errors
use Rattle.spool_queue.specs.declared.status.SpoolStatus.{SpoolStatus}
use Rattle.spool_queue.specs.declared.status.SpoolStatus.TheVariants as status
use Rattle.spool_queue.specs.declared.stop.Stop.{Stop}
use Rattle.spool_queue.specs.declared.stop.Stop.TheVariants as stop
use Rattle.spool_queue.specs.Lines.{AreFirstLines, lines_of, refusal_of}
use Rattle.spool_queue.specs.Printing.{HasTaken, IsSaid, spooled_text}
use Rattle.spool_queue.specs.PutSoFar.{IsFrontPut, PutsAll}
use Rattle.spool_queue.specs.Putting.{IsByRefusal, IsNextLine, IsPutBehind, IsPutStatus, LeavesTheDisk, Puts}
use Rattle.spool_queue.specs.Spool.{IsReadAs}
use Rattle.spool_queue.specs.Standing.{Holds, HoldsList, count_of, reserved}
use Rattle.spool_queue.specs.Stopping.{status_after}
use Rattle.spool_queue.proofs.Crashes.{weaker}
use Rattle.spool_queue.proofs.Standings.{read_as}

-- ---- a status

never_out : {T : Type 0} (answer : Result T Stop) (lines : ℕ) → status_after answer lines ≡ status.OutFault → ⊥
never_out (Ok done) lines same = absurd cc
never_out (Err stop.Source) lines same = absurd cc
never_out (Err stop.Unreachable) lines same = absurd cc
never_out (Err (stop.Spool (errors.Bad at))) lines same = absurd cc
never_out (Err (stop.Spool errors.DiskFault)) lines same = absurd cc
never_out (Err (stop.Spool errors.TooLong)) lines same = absurd cc
never_out (Err (stop.Spool errors.Full)) lines same = absurd cc
never_out (Err (stop.Spool errors.Closed)) lines same = absurd cc
never_out (Err (stop.Spool errors.NoMemory)) lines same = absurd cc

pub no_out_fault : {T : Type 0} (answer : Result T Stop) (lines : ℕ) → status_after answer lines ≢ status.OutFault
no_out_fault answer lines = never_out answer lines

was_done : {T : Type 0} (answer : Result T Stop) (lines : ℕ) (P : Type 0) → status_after answer lines ≡ status.Done → OnOk answer P → P
was_done (Ok done) lines P same is = is
was_done (Err stop.Source) lines P same is = absurd cc
was_done (Err stop.Unreachable) lines P same is = absurd cc
was_done (Err (stop.Spool (errors.Bad at))) lines P same is = absurd cc
was_done (Err (stop.Spool errors.DiskFault)) lines P same is = absurd cc
was_done (Err (stop.Spool errors.TooLong)) lines P same is = absurd cc
was_done (Err (stop.Spool errors.Full)) lines P same is = absurd cc
was_done (Err (stop.Spool errors.Closed)) lines P same is = absurd cc
was_done (Err (stop.Spool errors.NoMemory)) lines P same is = absurd cc

next_line : {T : Type 0} (answer : Result T Stop) (lines : ℕ) → IsNextLine lines (status_after answer lines)
next_line (Ok done) lines = tt
next_line (Err stop.Source) lines = tt
next_line (Err stop.Unreachable) lines = tt
next_line (Err (stop.Spool (errors.Bad at))) lines = tt
next_line (Err (stop.Spool errors.DiskFault)) lines = tt
next_line (Err (stop.Spool errors.TooLong)) lines = refl
next_line (Err (stop.Spool errors.Full)) lines = refl
next_line (Err (stop.Spool errors.Closed)) lines = tt
next_line (Err (stop.Spool errors.NoMemory)) lines = tt

-- ---- what the disk holds

pub holds_reads : (spool : Spool) (list : List (List ℕ)) (contents : Option (List ℕ)) → HoldsList spool list contents → Holds (λ now. IsReadAs now list) contents
holds_reads spool list None holds = absurd holds
holds_reads spool list (Some bytes) holds = read_as bytes holds.log spool.end list holds.ends holds.list_is

fewer_first : (source : Option (List ℕ)) (lines tried : List (List ℕ)) → AreFirstLines source (lines ++ tried) → AreFirstLines source lines
fewer_first None lines tried first = tt
fewer_first (Some bytes) lines tried first = (tried ++ first.0, first.1 ∙ append_assoc lines tried first.0)

-- ---- the end

-- a line that was said with this status
pub said : (before after : Option (List ℕ)) (text : List ℕ) (told result : SpoolStatus) (P : SpoolStatus → Type 0) → IsSaid before text after told result → P status.OutFault → P told → P result
said before after text told result P (inl out) at_fault at_told = subst P (sym out) at_fault
said before after text told result P (inr (same, taken)) at_fault at_told = subst P (sym same) at_told

nothing : (source : Option (List ℕ)) → IfSome source (λ bytes. Unit {0})
nothing None = tt
nothing (Some bytes) = tt

module _ {D : Type 0} (d : DiskGhosts D) where
  pub puts_from : (old new : D) (was now : Spool) (source before after : Option (List ℕ)) (answer : Result Unit Stop) (count : ℕ) (result : SpoolStatus) → (p : PutsAll d old new was now source answer) → count ≡ count_of now - count_of was
      → IsSaid before (spooled_text count) after (status_after answer count) result → (list : List (List ℕ)) → HoldsList was list (d.contents old)
      → Puts (record { source = source; contents = d.contents new; written_before = before; written_after = after }) list (reserved was) result
  puts_from old new was now source before after answer count result p counted says list holds =
      let number : count ≡ length p.lines = omega (arith, counted, p.counted) in
      let S : ℕ → Type 0 = λ n. IsSaid before (spooled_text n) after (status_after answer n) result in
      let told = status_after answer (length p.lines) in
      let is : IsSaid before (spooled_text (length p.lines)) after told result = subst S number says in
      record {
        lines = p.lines;
        first = fewer_first source p.lines p.tried p.first;
        all = λ done. was_done answer (length p.lines) (IfSome source (λ bytes. lines_of bytes ≡ p.lines)) (done_is told result is done) p.all;
        refused = said before after (spooled_text (length p.lines)) told result (λ s. IfSome source (λ bytes. IsByRefusal (refusal_of (reserved was) 0 (lines_of bytes)) s)) is (nothing source) p.refused;
        next = said before after (spooled_text (length p.lines)) told result (λ s. IsNextLine (length p.lines) s) is tt (next_line answer (length p.lines));
        held = λ leaves. holds_reads now (list ++ p.lines) (d.contents new) (p.holds (not_fault told result is leaves) list holds);
        printed = λ not. taken told result is not;
      }
    where
      done_is : (told result : SpoolStatus) → IsSaid before (spooled_text (length p.lines)) after told result → result ≡ status.Done → told ≡ status.Done
      done_is told result (inl out) done = absurd cc
      done_is told result (inr (same, text)) done = cc

      not_fault : (told result : SpoolStatus) → IsSaid before (spooled_text (length p.lines)) after told result → LeavesTheDisk result → told ≢ status.DiskFault
      not_fault told result (inl out) leaves = λ same. absurd (leaves.1 out)
      not_fault told result (inr (same, text)) leaves = λ fault. leaves.0 (same ∙ fault)

      taken : (told result : SpoolStatus) → IsSaid before (spooled_text (length p.lines)) after told result → result ≢ status.OutFault → HasTaken before (spooled_text (length p.lines)) after
      taken told result (inl out) not = absurd (not out)
      taken told result (inr (same, text)) not = text

  pub crashes_from : (old new : D) (was now : Spool) (source : Option (List ℕ)) (answer : Result Unit Stop) → PutsAll d old new was now source answer → Only (d.contents old) (d.images old) → (list : List (List ℕ)) → HoldsList was list (d.contents old)
      → LeavesOnly d.moment d.images_since old new (IsPutBehind source list)
  crashes_from old new was now source answer p only list holds =
      weaker d.moment d.images_since old new (IsFrontPut list (p.lines ++ p.tried)) (IsPutBehind source list) (p.crashes only list holds)
      (λ image (front, back, same, reads). record {
        lines = front;
        first = let F : List (List ℕ) → Type 0 = λ l. AreFirstLines source l in fewer_first source front back (subst F same p.first);
        read_as = reads;
      })

put_status : (answer : Result Unit Stop) (lines : ℕ) → answer ≢ Err stop.Unreachable → ((at : ℕ) → status_after answer lines ≢ status.SpoolBad at) → IsPutStatus (status_after answer lines)
put_status (Ok done) lines never bad = tt
put_status (Err stop.Source) lines never bad = tt
put_status (Err stop.Unreachable) lines never bad = never refl
put_status (Err (stop.Spool (errors.Bad at))) lines never bad = bad at refl
put_status (Err (stop.Spool errors.DiskFault)) lines never bad = tt
put_status (Err (stop.Spool errors.TooLong)) lines never bad = tt
put_status (Err (stop.Spool errors.Full)) lines never bad = tt
put_status (Err (stop.Spool errors.Closed)) lines never bad = tt
put_status (Err (stop.Spool errors.NoMemory)) lines never bad = tt

was_source : (answer : Result Unit Stop) (lines : ℕ) → status_after answer lines ≡ status.SourceFault → answer ≡ Err stop.Source
was_source (Ok done) lines same = absurd cc
was_source (Err stop.Source) lines same = refl
was_source (Err stop.Unreachable) lines same = absurd cc
was_source (Err (stop.Spool (errors.Bad at))) lines same = absurd cc
was_source (Err (stop.Spool errors.DiskFault)) lines same = absurd cc
was_source (Err (stop.Spool errors.TooLong)) lines same = absurd cc
was_source (Err (stop.Spool errors.Full)) lines same = absurd cc
was_source (Err (stop.Spool errors.Closed)) lines same = absurd cc
was_source (Err (stop.Spool errors.NoMemory)) lines same = absurd cc

-- a status that is not the sink's was told
pub told_as : (before after : Option (List ℕ)) (text : List ℕ) (told result other : SpoolStatus) → IsSaid before text after told result → result ≡ other → other ≢ status.OutFault → told ≡ other
told_as before after text told result other (inl out) is not = absurd (not (sym is ∙ out))
told_as before after text told result other (inr (same, taken)) is not = sym same ∙ is

pub put_status_said : (before after : Option (List ℕ)) (text : List ℕ) (answer : Result Unit Stop) (lines : ℕ) (result : SpoolStatus) → IsSaid before text after (status_after answer lines) result → answer ≢ Err stop.Unreachable → ((at : ℕ) → status_after answer lines ≢ status.SpoolBad at)
    → IsPutStatus result
put_status_said before after text answer lines result is never bad = said before after text (status_after answer lines) result IsPutStatus is tt (put_status answer lines never bad)

pub source_said : (before after : Option (List ℕ)) (text : List ℕ) (answer : Result Unit Stop) (lines : ℕ) (result : SpoolStatus) → IsSaid before text after (status_after answer lines) result → result ≡ status.SourceFault → answer ≡ Err stop.Source
source_said before after text answer lines result is same = was_source answer lines (told_as before after text (status_after answer lines) result status.SourceFault is same (λ out. absurd cc))

module _ {D : Type 0} (d : DiskGhosts D) (old new : D) (was now : Spool) (source before after : Option (List ℕ)) (answer : Result Unit Stop) (count : ℕ) (result : SpoolStatus) where
  number : (p : PutsAll d old new was now source answer) → count ≡ count_of now - count_of was → count ≡ length p.lines
  number p counted = omega (arith, counted, p.counted)

  at_count : (p : PutsAll d old new was now source answer) → count ≡ count_of now - count_of was → (other : SpoolStatus) → status_after answer count ≡ other → status_after answer (length p.lines) ≡ other
  at_count p counted other same = ap (λ (n : ℕ). status_after answer n) (sym (number p counted)) ∙ same

  fault_is : IsSaid before (spooled_text count) after (status_after answer count) result → LeavesTheDisk result → status_after answer count ≢ status.DiskFault
  fault_is (inl out) leaves = λ same. absurd (leaves.1 out)
  fault_is (inr (same, text)) leaves = λ fault. leaves.0 (same ∙ fault)

  pub put_durable : PutsAll d old new was now source answer → count ≡ count_of now - count_of was → IsSaid before (spooled_text count) after (status_after answer count) result → LeavesTheDisk result → Only (d.contents old) (d.images old) → Only (d.contents new) (d.images new)
  put_durable p counted is leaves only = p.durable (λ fault. fault_is is leaves (ap (λ (n : ℕ). status_after answer n) (number p counted) ∙ fault)) only

  pub put_ends : PutsAll d old new was now source answer → count ≡ count_of now - count_of was → IsSaid before (spooled_text count) after (status_after answer count) result → answer ≢ Err stop.Unreachable → IsPutStatus result
  put_ends p counted is never = put_status_said before after (spooled_text count) answer count result is never (λ at same. p.never_bad at (at_count p counted (status.SpoolBad at) same))

  pub put_fault : PutsAll d old new was now source answer → count ≡ count_of now - count_of was → IsSaid before (spooled_text count) after (status_after answer count) result → result ≡ status.DiskFault → Rose (d.faults old) (d.faults new)
  put_fault p counted is same = p.cause (at_count p counted status.DiskFault (told_as before after (spooled_text count) (status_after answer count) result status.DiskFault is same (λ out. absurd cc)))
