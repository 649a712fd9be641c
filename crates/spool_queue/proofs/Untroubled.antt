-- A run that nothing troubles ends with no other status.
use Rattle.std.proofs.Common.{◌≡◌, ◌≢◌, ◌⊎◌, inl, inr, ℕ, List, Option, Some, None, IfSome, refl, sym, ◌∙◌, subst}
use Rattle.spool_queue.specs.declared.status.SpoolStatus.{SpoolStatus}
use Rattle.spool_queue.specs.declared.status.SpoolStatus.TheVariants as status
use Rattle.spool_queue.specs.Lines.{lines_of, refusal_of}
use Rattle.spool_queue.specs.Lost.{IsLost, link_counts}
use Rattle.spool_queue.specs.Putting.{IsByRefusal, IsPutStatus}
use Rattle.spool_queue.specs.Sent.{IsSendStatus, PeerFails, PeerIsSilent}
use Rattle.outside.specs.Counts.{Rose}
use Rattle.spool_queue.specs.Silence.{PassesTimeout}
use Rattle.spool_queue.specs.Untroubled.{IsServed, IsUntroubledEnd, RunSigns}

pub put_untroubled : (ends : SpoolStatus) → IsPutStatus ends → ends ≢ status.SourceFault → ends ≢ status.DiskFault → ends ≢ status.OutFault → ((line : ℕ) → ends ≢ status.Full line) → ((line : ℕ) → ends ≢ status.TooLong line) → IsUntroubledEnd ends
put_untroubled status.Done is source disk sink full long = tt
put_untroubled status.Usage is source disk sink full long = is
put_untroubled status.SourceFault is source disk sink full long = source refl
put_untroubled (status.SpoolBad at) is source disk sink full long = is
put_untroubled status.DiskFault is source disk sink full long = disk refl
put_untroubled (status.Full line) is source disk sink full long = full line refl
put_untroubled status.Unreachable is source disk sink full long = is
put_untroubled status.OutFault is source disk sink full long = sink refl
put_untroubled (status.TooLong line) is source disk sink full long = long line refl
put_untroubled status.NoMemory is source disk sink full long = tt

pub send_untroubled : (ends : SpoolStatus) → IsSendStatus ends → ends ≢ status.DiskFault → ends ≢ status.OutFault → ends ≢ status.Unreachable → ((at : ℕ) → ends ≢ status.SpoolBad at) → IsUntroubledEnd ends
send_untroubled status.Done is disk sink lost bad = tt
send_untroubled status.Usage is disk sink lost bad = is
send_untroubled status.SourceFault is disk sink lost bad = is
send_untroubled (status.SpoolBad at) is disk sink lost bad = bad at refl
send_untroubled status.DiskFault is disk sink lost bad = disk refl
send_untroubled (status.Full line) is disk sink lost bad = is
send_untroubled status.Unreachable is disk sink lost bad = lost refl
send_untroubled status.OutFault is disk sink lost bad = sink refl
send_untroubled (status.TooLong line) is disk sink lost bad = is
send_untroubled status.NoMemory is disk sink lost bad = tt

-- ---- lines

by_refusal : (reserved : ℕ) (source : Option (List ℕ)) (given : List ℕ) (ends : SpoolStatus) → source ≡ Some given → IfSome source (λ bytes. IsByRefusal (refusal_of reserved 0 (lines_of bytes)) ends) → IsByRefusal (refusal_of reserved 0 (lines_of given)) ends
by_refusal reserved source given ends same refused =
    let R : Option (List ℕ) → Type 0 = λ o. IfSome o (λ bytes. IsByRefusal (refusal_of reserved 0 (lines_of bytes)) ends) in
    subst R same refused

pub never_full : (reserved : ℕ) (source : Option (List ℕ)) (given : List ℕ) (ends : SpoolStatus) (line : ℕ) → source ≡ Some given → refusal_of reserved 0 (lines_of given) ≡ None → IfSome source (λ bytes. IsByRefusal (refusal_of reserved 0 (lines_of bytes)) ends) → ends ≢ status.Full line
never_full reserved source given ends line tells fits refused same =
    let B : SpoolStatus → Type 0 = λ s. IsByRefusal (refusal_of reserved 0 (lines_of given)) s in
    let is : refusal_of reserved 0 (lines_of given) ≡ Some (status.Full line) = subst B same (by_refusal reserved source given ends tells refused) in
    let no : None ≡ Some (status.Full line) = sym fits ∙ is in
    absurd cc

pub never_long : (reserved : ℕ) (source : Option (List ℕ)) (given : List ℕ) (ends : SpoolStatus) (line : ℕ) → source ≡ Some given → refusal_of reserved 0 (lines_of given) ≡ None → IfSome source (λ bytes. IsByRefusal (refusal_of reserved 0 (lines_of bytes)) ends) → ends ≢ status.TooLong line
never_long reserved source given ends line tells fits refused same =
    let B : SpoolStatus → Type 0 = λ s. IsByRefusal (refusal_of reserved 0 (lines_of given)) s in
    let is : refusal_of reserved 0 (lines_of given) ≡ Some (status.TooLong line) = subst B same (by_refusal reserved source given ends tells refused) in
    let no : None ≡ Some (status.TooLong line) = sym fits ∙ is in
    absurd cc

-- ---- the peer

pub never_lost : (before now : RunSigns) → IsServed before now → ¬ (Rose before.wire_faults now.wire_faults)
    → IsLost (link_counts before.wire_faults now.wire_faults before.wire_idles now.wire_idles) (PeerFails before.outcomes now.outcomes) (PeerIsSilent before.outcomes now.outcomes before.moments now.moments) → ⊥
never_lost before now served wire (inl rose) = wire rose
never_lost before now served wire (inr (inl fails)) = served.faultless fails
never_lost before now served wire (inr (inr (idles, silent))) = late served.in_time
  where
    late : (¬ (Rose before.wire_idles now.wire_idles)) ⊎ (¬ (PassesTimeout before.moments now.moments)) → ⊥
    late (inl never) = never idles
    late (inr never) = never silent.passed
