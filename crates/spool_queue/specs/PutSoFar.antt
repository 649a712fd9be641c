-- For private clauses: lines that were put one after another.
use Rattle.std.specs.Prelude.{◌≡◌, ◌≢◌, ℕ, ◌+◌, ◌≤◌, List, ◌++◌, length, Option, Some, IfSome, OnOk, Result}
use Rattle.outside.specs.Counts.{Rose}
use Rattle.outside.specs.DiskImages.{LeavesOnly, Only}
use Rattle.outside.specs.declared.disk.Disk.{Ghosts as DiskGhosts}
use Rattle.spool_queue.specs.declared.spool.Spool.{Spool}
use Rattle.spool_queue.specs.declared.spool_error.SpoolError.{SpoolError}
use Rattle.spool_queue.specs.declared.spool_error.SpoolError.TheVariants.{Bad, DiskFault, TooLong, Full, Closed, NoMemory}
use Rattle.spool_queue.specs.declared.status.SpoolStatus.{SpoolStatus}
use Rattle.spool_queue.specs.declared.status.SpoolStatus.TheVariants as status
use Rattle.spool_queue.specs.declared.stop.Stop.{Stop}
use Rattle.spool_queue.specs.Lines.{AreFirstLines, lines_behind, lines_of, refusal_of}
use Rattle.spool_queue.specs.Putting.{IsByRefusal}
use Rattle.spool_queue.specs.Spool.{IsReadAs}
use Rattle.spool_queue.specs.Standing.{HoldsList, IsClosed, count_of, reserved}
use Rattle.spool_queue.specs.Stopping.{status_after}

-- some of these lines come after these payloads, from the first one on
abbrev pub IsFrontPut : List (List ℕ) → List (List ℕ) → List ℕ → Type 0
IsFrontPut list lines image = (front : List (List ℕ)) × (back : List (List ℕ)) × (lines ≡ front ++ back) × IsReadAs image (list ++ front)

-- a crash leaves the payloads and a front of these lines
abbrev pub CrashesInLines : {D : Type 0} → DiskGhosts D → D → D → Spool → List (List ℕ) → Type 0
CrashesInLines disk old new was lines =
    Only (disk.contents old) (disk.images old) → (list : List (List ℕ)) → HoldsList was list (disk.contents old) → LeavesOnly disk.moment disk.images_since old new (IsFrontPut list lines)

-- these bytes were taken, if `begun` was the front of a line before and `rest` is it after them: the lines that they
-- end were put
pub record PutsLines {D : Type 0} (disk : DiskGhosts D) (old new : D) (was now : Spool) (begun bytes rest : List ℕ) : Type 0 where
  pub lines : List (List ℕ)
  pub ended : (more : List ℕ) → lines_behind begun (bytes ++ more) ≡ lines ++ lines_behind rest more
  pub counted : count_of now ≡ count_of was + length lines
  pub fits : (number : ℕ) (more : List (List ℕ)) → refusal_of (reserved was) number (lines ++ more) ≡ refusal_of (reserved now) (number + length lines) more
  pub still_open : ¬ (IsClosed was) → ¬ (IsClosed now)
  pub holds : (list : List (List ℕ)) → HoldsList was list (disk.contents old) → HoldsList now (list ++ lines) (disk.contents new)
  pub durable : Only (disk.contents old) (disk.images old) → Only (disk.contents new) (disk.images new)
  pub crashes : CrashesInLines disk old new was lines
  pub faults : disk.faults old ≤ disk.faults new

-- the line of this number is refused so
abbrev pub IsRefused : Option SpoolStatus → SpoolError → ℕ → Type 0
IsRefused refusal (Bad at) number = ⊥
IsRefused refusal DiskFault number = Unit {0}
IsRefused refusal TooLong number = refusal ≡ Some (status.TooLong number)
IsRefused refusal Full number = refusal ≡ Some (status.Full number)
IsRefused refusal Closed number = ⊥
IsRefused refusal NoMemory number = Unit {0}

-- these bytes were taken up to some place: so many of the lines that they end were put, and the next one was tried, where
-- the spool hit the error
pub record StopsIn {D : Type 0} (disk : DiskGhosts D) (old new : D) (was now : Spool) (begun bytes : List ℕ) (error : SpoolError) : Type 0 where
  pub lines : List (List ℕ)
  pub tried : List (List ℕ)
  pub ended : (more : List ℕ) → (later : List (List ℕ)) × (lines_behind begun (bytes ++ more) ≡ lines ++ (tried ++ later))
  pub counted : count_of now ≡ count_of was + length lines
  pub refused : ¬ (IsClosed was) → (number : ℕ) (more : List ℕ) → IsRefused (refusal_of (reserved was) number (lines_behind begun (bytes ++ more))) error (number + length lines)
  pub holds : error ≢ DiskFault → (list : List (List ℕ)) → HoldsList was list (disk.contents old) → HoldsList now (list ++ lines) (disk.contents new)
  pub durable : error ≢ DiskFault → Only (disk.contents old) (disk.images old) → Only (disk.contents new) (disk.images new)
  pub crashes : CrashesInLines disk old new was (lines ++ tried)
  pub cause : error ≡ DiskFault → Rose (disk.faults old) (disk.faults new)
  pub faults : disk.faults old ≤ disk.faults new

-- a source was read up to some place: so many of its lines were put, and the next one was tried
pub record PutsAll {D : Type 0} (disk : DiskGhosts D) (old new : D) (was now : Spool) (source : Option (List ℕ)) (answer : Result Unit Stop) : Type 0 where
  pub lines : List (List ℕ)
  pub tried : List (List ℕ)
  pub first : AreFirstLines source (lines ++ tried)
  pub all : OnOk answer (IfSome source (λ bytes. lines_of bytes ≡ lines))
  pub counted : count_of now ≡ count_of was + length lines
  pub refused : IfSome source (λ bytes. IsByRefusal (refusal_of (reserved was) 0 (lines_of bytes)) (status_after answer (length lines)))
  pub holds : status_after answer (length lines) ≢ status.DiskFault → (list : List (List ℕ)) → HoldsList was list (disk.contents old) → HoldsList now (list ++ lines) (disk.contents new)
  pub durable : status_after answer (length lines) ≢ status.DiskFault → Only (disk.contents old) (disk.images old) → Only (disk.contents new) (disk.images new)
  pub crashes : CrashesInLines disk old new was (lines ++ tried)
  pub cause : status_after answer (length lines) ≡ status.DiskFault → Rose (disk.faults old) (disk.faults new)
  pub never_bad : (at : ℕ) → status_after answer (length lines) ≢ status.SpoolBad at
  pub faults : disk.faults old ≤ disk.faults new
