-- What a run that puts the lines of a source leaves (this project's profile): at every moment the payloads that were
-- outstanding as it began, and after them the first lines of the source; and what it prints.
use Rattle.std.specs.Prelude.{◌≡◌, ◌≢◌, ℕ, List, ◌++◌, length, Option, Some, None, IfSome}
use Rattle.spool_queue.specs.declared.status.SpoolStatus.{SpoolStatus}
use Rattle.spool_queue.specs.declared.status.SpoolStatus.TheVariants.{Done, Usage, SpoolBad, DiskFault, Full, Unreachable, OutFault, TooLong}
use Rattle.spool_queue.specs.Lines.{AreFirstLines, lines_of, refusal_of}
use Rattle.spool_queue.specs.Printing.{HasTaken, spooled_text}
use Rattle.spool_queue.specs.Spool.{IsReadAs}
use Rattle.spool_queue.specs.Standing.{Holds}

-- the first lines of the source come after these payloads
pub record IsPutBehind (source : Option (List ℕ)) (list : List (List ℕ)) (image : List ℕ) : Type 0 where
  pub lines : List (List ℕ)
  pub first : AreFirstLines source lines
  pub read_as : IsReadAs image (list ++ lines)

-- a run that ended by a line says how the spool refuses the first line that it refuses, and one that is done that it
-- refuses none
abbrev pub IsByRefusal : Option SpoolStatus → SpoolStatus → Type 0
IsByRefusal refusal Done = refusal ≡ None
IsByRefusal refusal (Full line) = refusal ≡ Some (Full line)
IsByRefusal refusal (TooLong line) = refusal ≡ Some (TooLong line)
IsByRefusal refusal _ = Unit {0}

-- the line that ended the run is the one after those that were put
abbrev pub IsNextLine : ℕ → SpoolStatus → Type 0
IsNextLine put (Full line) = line ≡ put
IsNextLine put (TooLong line) = line ≡ put
IsNextLine put _ = Unit {0}

-- how a run that puts may end after its opening
abbrev pub IsPutStatus : SpoolStatus → Type 0
IsPutStatus Usage = ⊥
IsPutStatus (SpoolBad at) = ⊥
IsPutStatus Unreachable = ⊥
IsPutStatus _ = Unit {0}

-- the last call on the disk was not refused
abbrev pub LeavesTheDisk : SpoolStatus → Type 0
LeavesTheDisk status = (status ≢ DiskFault) × (status ≢ OutFault)

-- what a source has to give, what a disk holds after a run, and what a sink held before it and holds after it
pub record PutCall : Type 0 where
  pub source : Option (List ℕ)
  pub contents : Option (List ℕ)
  pub written_before : Option (List ℕ)
  pub written_after : Option (List ℕ)

abbrev pub put_call : Option (List ℕ) → Option (List ℕ) → Option (List ℕ) → Option (List ℕ) → PutCall
put_call source contents before after = record { source = source; contents = contents; written_before = before; written_after = after }

-- a run that began with these payloads and so many bytes reserved put these lines, and printed how many
pub record Puts (call : PutCall) (list : List (List ℕ)) (reserved : ℕ) (status : SpoolStatus) : Type 0 where
  pub lines : List (List ℕ)
  pub first : AreFirstLines call.source lines
  pub all : status ≡ Done → IfSome call.source (λ bytes. lines_of bytes ≡ lines)
  pub refused : IfSome call.source (λ bytes. IsByRefusal (refusal_of reserved 0 (lines_of bytes)) status)
  pub next : IsNextLine (length lines) status
  pub held : LeavesTheDisk status → Holds (λ now. IsReadAs now (list ++ lines)) call.contents
  pub printed : status ≢ OutFault → HasTaken call.written_before (spooled_text (length lines)) call.written_after
