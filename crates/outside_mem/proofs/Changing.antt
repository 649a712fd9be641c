-- One change more joins those that were made to a disk.
use Rattle.std.proofs.Common.{◌≡◌, ◌⊎◌, inl, inr, ℕ, ◌+◌, ◌≤◌, ◌<◌, List, [], ◌∷◌, ◌++◌, length, take, Bool, true, false, cond, refl, sym, ◌∙◌, ap, subst, arith, length-append}
use Rattle.std.proofs.lemmas.Bool.{cases_lt}
use Rattle.std.proofs.lemmas.List.{take_all, take-append-le}
use Rattle.outside.specs.DiskImages.{Follows, Elapses}
use Rattle.outside_mem.specs.declared.change.Change.{Change}
use Rattle.outside_mem.specs.declared.change.Change.TheVariants.{Wrote, WriteFailed, CutTo, Synced}
use Rattle.outside_mem.specs.declared.disk.MemDisk.{MemDisk}
use Rattle.outside_mem.specs.Disks.{now, Changes}
use Rattle.outside_mem.specs.Images.{Reading, Write, Cut, after, fresh, after_change, IsImageOf, IsImageSince, MayLeaveBy, IsLeft-pop, reads-after}

pub after-push : (changes : List Change) (r : Reading) (change : Change) → after r (changes ++ change ∷ []) ≡ after_change (after r changes) change
after-push [] r change = refl
after-push (c ∷ changes) r change = after-push changes (after_change r c) change

follows-change : (r : Reading) (change : Change) → IsImageOf r r.bytes → Follows (MayLeaveBy change) (IsImageOf r) (IsImageOf (after_change r change))
follows-change r (Wrote write) reads = λ image left. IsLeft-pop r.pending (Write write.at (length write.bytes.items)) r.synced image left
follows-change r (WriteFailed at len) reads = λ image left. IsLeft-pop r.pending (Write at len) r.synced image left
follows-change r (CutTo len) reads = λ image left. IsLeft-pop r.pending (Cut len) r.synced image left
follows-change r Synced reads = λ image left. (r.bytes, reads, left)

module _ (first : List ℕ) (changes : List Change) (change : Change) where
  -- up to the old last moment the changes are the same
  same : (moment : ℕ) → moment ≤ length changes → take moment (changes ++ change ∷ []) ≡ take moment changes
  same moment le = take-append-le moment changes (change ∷ []) le

  more : length (changes ++ change ∷ []) ≡ length changes + 1
  more = length-append changes (change ∷ [])

  past_or_now : (since : ℕ) (image : List ℕ) → IsImageSince first (changes ++ change ∷ []) since image → IsImageSince first changes since image ⊎ IsImageOf (after (fresh first) (changes ++ change ∷ [])) image
  past_or_now since image left = by_case (cases_lt (length changes) left.0)
    where
      by_case : (length changes < left.0) ⊎ (left.0 ≤ length changes) → IsImageSince first changes since image ⊎ IsImageOf (after (fresh first) (changes ++ change ∷ [])) image
      by_case (inl now) = inr (subst (λ (cs : List Change). IsImageOf (after (fresh first) cs) image) (take_all left.0 (changes ++ change ∷ []) (omega (arith, more))) left.3)
      by_case (inr past) = inl (left.0, left.1, past, subst (λ (cs : List Change). IsImageOf (after (fresh first) cs) image) (same left.0 past) left.3)

  kept : (since : ℕ) (image : List ℕ) → IsImageSince first changes since image → IsImageSince first (changes ++ change ∷ []) since image
  kept since image left = (left.0, left.1, omega (arith, left.2, more), subst (λ (cs : List Change). IsImageOf (after (fresh first) cs) image) (sym (same left.0 left.2)) left.3)

  elapses-push : Elapses (length changes) (length (changes ++ change ∷ [])) (IsImageSince first changes) (IsImageSince first (changes ++ change ∷ [])) (IsImageOf (after (fresh first) (changes ++ change ∷ [])))
  elapses-push = record {
    later = omega (arith, more);
    nothing_else = λ since image le left. past_or_now since image left;
    keeps = λ since image le left. kept since image left;
  }

  follows-push : Follows (MayLeaveBy change) (IsImageOf (after (fresh first) changes)) (IsImageOf (after (fresh first) (changes ++ change ∷ [])))
  follows-push =
      subst (λ r. Follows (MayLeaveBy change) (IsImageOf (after (fresh first) changes)) (IsImageOf r)) (sym (after-push changes (fresh first) change))
      (follows-change (after (fresh first) changes) change (reads-after changes (fresh first) refl))

-- the bytes after a change that was made or refused, if it leaves them as they read
pub bytes_stay : (first : List ℕ) (changes next : List Change) (change : Change) (made : Bool) → next ≡ cond made (changes ++ change ∷ []) changes
    → (after_change (after (fresh first) changes) change).bytes ≡ (after (fresh first) changes).bytes → (after (fresh first) changes).bytes ≡ (after (fresh first) next).bytes
bytes_stay first changes next change true is stays =
    sym stays ∙ ap (λ (r : Reading). r.bytes) (sym (after-push changes (fresh first) change)) ∙ ap (λ (cs : List Change). (after (fresh first) cs).bytes) (sym is)
bytes_stay first changes next change false is stays = ap (λ (cs : List Change). (after (fresh first) cs).bytes) (sym is)

-- the bytes after a change that was made
pub bytes_after : (first : List ℕ) (changes next : List Change) (change : Change) → next ≡ changes ++ change ∷ [] → (after_change (after (fresh first) changes) change).bytes ≡ (after (fresh first) next).bytes
bytes_after first changes next change is =
    ap (λ (r : Reading). r.bytes) (sym (after-push changes (fresh first) change)) ∙ ap (λ (cs : List Change). (after (fresh first) cs).bytes) (sym is)

-- the disk has one change more, and is else as it was
pub changes-by_push : (old new : MemDisk) (change : Change) → new.first.items ≡ old.first.items → new.changes.items ≡ old.changes.items ++ change ∷ [] → new.failures ≡ old.failures → Changes old new change
changes-by_push old new change same_first pushed same_failures = record {
  reading =
      ap (λ (f : List ℕ). after (fresh f) new.changes.items) same_first ∙ ap (λ (cs : List Change). after (fresh old.first.items) cs) pushed
      ∙ after-push old.changes.items (fresh old.first.items) change;
  images =
      subst (λ (f : List ℕ). Follows (MayLeaveBy change) (IsImageOf (now old)) (IsImageOf (after (fresh f) new.changes.items))) (sym same_first)
      (subst (λ (cs : List Change). Follows (MayLeaveBy change) (IsImageOf (now old)) (IsImageOf (after (fresh old.first.items) cs))) (sym pushed) (follows-push old.first.items old.changes.items change));
  time =
      subst (λ (f : List ℕ). Elapses (length old.changes.items) (length new.changes.items) (IsImageSince old.first.items old.changes.items) (IsImageSince f new.changes.items) (IsImageOf (after (fresh f) new.changes.items))) (sym same_first)
      (subst (λ (cs : List Change). Elapses (length old.changes.items) (length cs) (IsImageSince old.first.items old.changes.items) (IsImageSince old.first.items cs) (IsImageOf (after (fresh old.first.items) cs))) (sym pushed) (elapses-push old.first.items old.changes.items change));
  failures = same_failures;
}
