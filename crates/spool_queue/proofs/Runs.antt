-- A run behind the opening of its spool.
use Rattle.std.proofs.Common.{◌≡◌, ◌⊎◌, inl, inr, ℕ, ◌+◌, ◌*◌, List, [], ◌∷◌, length, drop, Option, Some, None, refl, sym, ap, ◌∙◌, subst, arith, append-nil, length-drop, codes}
use Rattle.outside.specs.DiskImages.{LeavesOnly}
use Rattle.outside.specs.declared.disk.Disk.{Ghosts as DiskGhosts}
use Rattle.spool_queue.specs.declared.spool.Spool.{Spool}
use Rattle.spool_queue.specs.declared.spool_error.SpoolError.{SpoolError}
use Rattle.spool_queue.specs.declared.spool_error.SpoolError.TheVariants as errors
use Rattle.spool_queue.specs.declared.status.SpoolStatus.{SpoolStatus}
use Rattle.spool_queue.specs.declared.status.SpoolStatus.TheVariants as status
use Rattle.spool_queue.specs.declared.stop.Stop.TheVariants.{Spool as AtSpool}
use Rattle.spool_queue.specs.Lines.{AreFirstLines, lines_of}
use Rattle.spool_queue.specs.Log.{payloads}
use Rattle.spool_queue.specs.Putting.{IsPutBehind, IsPutStatus}
use Rattle.spool_queue.specs.Running.{Others, RunsOn}
use Rattle.spool_queue.specs.Spool.{IsLastGate, IsReadAs}
use Rattle.spool_queue.specs.Stopping.{status_for}
use Rattle.spool_queue.specs.Words.{IsPut, IsSend}
use Rattle.spool_queue.specs.Standing.{HoldsList, IsSpoolOf, count_of, reserved}
use Rattle.spool_queue.proofs.Crashes.{behind, weaker}

count_is : (spool : Spool) (bytes : List ℕ) (list : List (List ℕ)) → IsSpoolOf spool bytes list → count_of spool ≡ length list
count_is spool bytes list is = omega (arith, is.events, is.settlements, ap length is.list_is, length-drop spool.settled (payloads is.log), ap (λ (n : ℕ). length (drop n (payloads is.log))) is.settlements)

pub held_count : (spool : Spool) (contents : Option (List ℕ)) (list : List (List ℕ)) → HoldsList spool list contents → count_of spool ≡ length list
held_count spool None list holds = absurd holds
held_count spool (Some bytes) list holds = count_is spool bytes list holds

-- the spool was opened, and the run went on
pub goes_on : {R W K S : Type 0} (before after : Others R W K S) (status : SpoolStatus) (bytes : List ℕ) (list : List (List ℕ)) (Run : ℕ → Type 0) (spool : Spool) (contents : Option (List ℕ)) → HoldsList spool list contents → IsLastGate bytes spool.end → Run (reserved spool)
    → RunsOn before after status bytes list Run
goes_on before after status bytes list Run spool contents holds gate run =
    let same : reserved spool ≡ spool.end + 34 * length list = omega (arith, held_count spool contents list holds) in
    inr (spool.end, gate, subst Run same run)

pub reserved_by : (spool : Spool) (contents : Option (List ℕ)) (list : List (List ℕ)) → HoldsList spool list contents → reserved spool ≡ spool.end + 34 * length list
reserved_by spool contents list holds = omega (arith, held_count spool contents list holds)

all_lines : (source : Option (List ℕ)) → AreFirstLines source []
all_lines None = tt
all_lines (Some bytes) = (lines_of bytes, refl)

pub still_put : (source : Option (List ℕ)) (list : List (List ℕ)) (image : List ℕ) → IsReadAs image list → IsPutBehind source list image
still_put source list image reads = let R : List (List ℕ) → Type 0 = λ l. IsReadAs image l in record { lines = []; first = all_lines source; read_as = subst R (sym (append-nil list)) reads }

module _ {D : Type 0} (d : DiskGhosts D) where
  pub opened_put : (old new : D) (source : Option (List ℕ)) (list : List (List ℕ)) → LeavesOnly d.moment d.images_since old new (λ image. IsReadAs image list) → LeavesOnly d.moment d.images_since old new (IsPutBehind source list)
  opened_put old new source list leaves = weaker d.moment d.images_since old new (λ image. IsReadAs image list) (IsPutBehind source list) leaves (still_put source list)

  pub put_behind : (old mid new : D) (source : Option (List ℕ)) (list : List (List ℕ)) → LeavesOnly d.moment d.images_since old mid (λ image. IsReadAs image list) → LeavesOnly d.moment d.images_since mid new (IsPutBehind source list) → LeavesOnly d.moment d.images_since old new (IsPutBehind source list)
  put_behind old mid new source list first second = behind d.moment d.images_since old mid new (IsPutBehind source list) (opened_put old mid source list first) second

-- ---- the status of a run

-- an opening failed, for one of its two reasons
pub bad_at : (error : SpoolError) (at : ℕ) → status_for (AtSpool error) 0 ≡ status.SpoolBad at → error ≡ errors.Bad at
bad_at (errors.Bad place) at same = cc
bad_at errors.DiskFault at same = absurd cc
bad_at errors.TooLong at same = absurd cc
bad_at errors.Full at same = absurd cc
bad_at errors.Closed at same = absurd cc
bad_at errors.NoMemory at same = absurd cc

pub fault_of : (error : SpoolError) → (error ≡ errors.DiskFault) ⊎ ((at : ℕ) × (error ≡ errors.Bad at)) → status_for (AtSpool error) 0 ≡ status.DiskFault → error ≡ errors.DiskFault
fault_of error (inl fault) same = fault
fault_of error (inr (at, bad)) same = absurd (never at (sym (ap (λ (e : SpoolError). status_for (AtSpool e) 0) bad) ∙ same))
  where
    never : (at : ℕ) → status.SpoolBad at ≡ status.DiskFault → ⊥
    never at same = absurd cc

pub never_unreachable : (error : SpoolError) → status_for (AtSpool error) 0 ≡ status.Unreachable → ⊥
never_unreachable (errors.Bad place) same = absurd cc
never_unreachable errors.DiskFault same = absurd cc
never_unreachable errors.TooLong same = absurd cc
never_unreachable errors.Full same = absurd cc
never_unreachable errors.Closed same = absurd cc
never_unreachable errors.NoMemory same = absurd cc

pub put_never : (one other : SpoolStatus) → IsPutStatus one → one ≡ other → (IsPutStatus other → ⊥) → ⊥
put_never one other is same never = never (subst IsPutStatus same is)

-- a run that puts does not send
pub put_or_send : {P : Type 0} (words : List (List ℕ)) → IsPut words → IsSend words → P
put_or_send words put (place, send, host) = absurd (two_words (sym put ∙ send))
  where
    two_words : (codes "put") ∷ [] ≡ codes "send" ∷ place ∷ [] → ⊥
    two_words same = absurd (omega (arith, ap length same))
