-- What two areas may hold over several commits: from one state of the disks to a later one, and on to a third.
use Rattle.std.proofs.Common.{◌≡◌, inl, inr, ℕ, ◌+◌, ◌≤◌, List, ◌++◌, length, take, Option, IfSome, Some, ◌∙◌, ap, subst, arith, length-append}
use Rattle.std.proofs.Math.Seq.{take-append-add}
use Rattle.std.proofs.lemmas.List.{take-append-le}
use Rattle.outside.specs.DiskImages.{LeavesOnly}
use Rattle.wire_base.specs.declared.row.Op.{Op}
use Rattle.wire_base.specs.declared.row.Row.{Row}
use Rattle.ship_core.specs.Replay.{replay_on}
use Rattle.registry_store.specs.Committing.{AreAfterSome, GoesOn, MayHold}
use Rattle.registry_store.proofs.Appended.{replay_in_parts}
use Rattle.registry_store.proofs.Moments.{behind, weaker}

-- rows after some of the first operations are rows after some of all
pub after_first : (rows : List Row) (ops more : List Op) (found : List Row) → AreAfterSome rows ops found → AreAfterSome rows (ops ++ more) found
after_first rows ops more found after = record {
  count = after.count;
  within = omega (arith, after.within, length-append ops more);
  replayed = ap (replay_on rows) (take-append-le after.count ops more after.within) ∙ after.replayed;
}

-- and so are rows after some of the later ones, after all of the first
pub after_later : (rows : List Row) (ops more : List Op) (found : List Row) → AreAfterSome (replay_on rows ops) more found → AreAfterSome rows (ops ++ more) found
after_later rows ops more found after = record {
  count = length ops + after.count;
  within = omega (arith, after.within, length-append ops more);
  replayed = ap (replay_on rows) (take-append-add ops more after.count) ∙ replay_in_parts rows ops (take after.count more) ∙ after.replayed;
}

held_first : (before : Option (List ℕ)) (generation : ℕ) (rows : List Row) (ops more : List Op) (image : List ℕ) → MayHold before generation rows ops image → MayHold before generation rows (ops ++ more) image
held_first before generation rows ops more image (inl same) = inl same
held_first before generation rows ops more image (inr (inl shut)) = inr (inl shut)
held_first before generation rows ops more image (inr (inr is)) =
    inr (inr (record { its_generation = is.its_generation; found = is.found; end = is.end; later = is.later; after = after_first rows ops more is.found is.after; opened = is.opened }))

held_later : (before mid : Option (List ℕ)) (generation next : ℕ) (rows : List Row) (ops more : List Op) (image : List ℕ) → generation ≤ next → (mid ≡ Some image → MayHold before generation rows ops image)
    → MayHold mid next (replay_on rows ops) more image → MayHold before generation rows (ops ++ more) image
held_later before mid generation next rows ops more image later held (inl same) = held_first before generation rows ops more image (held same)
held_later before mid generation next rows ops more image later held (inr (inl shut)) = inr (inl shut)
held_later before mid generation next rows ops more image later held (inr (inr is)) =
    inr (inr (record { its_generation = is.its_generation; found = is.found; end = is.end; later = omega (arith, later, is.later); after = after_later rows ops more is.found is.after; opened = is.opened }))

module _ {D : Type 0} (contents : D → Option (List ℕ)) (images : D → List ℕ → Type 0) (moment : D → ℕ) (images_since : D → ℕ → List ℕ → Type 0)
    (reads : (disk : D) → IfSome (contents disk) (images disk)) (counts : (disk : D) (since : ℕ) (image : List ℕ) → since ≤ moment disk → images disk image → images_since disk since image) where
  one_disk : (disk mid later : D) (generation next : ℕ) (rows : List Row) (ops more : List Op) → generation ≤ next → LeavesOnly moment images_since disk mid (MayHold (contents disk) generation rows ops)
      → LeavesOnly moment images_since mid later (MayHold (contents mid) next (replay_on rows ops) more) → LeavesOnly moment images_since disk later (MayHold (contents disk) generation rows (ops ++ more))
  one_disk disk mid later generation next rows ops more no_less first second =
      behind moment images_since disk mid later (MayHold (contents disk) generation rows (ops ++ more))
      (weaker moment images_since disk mid (MayHold (contents disk) generation rows ops) (MayHold (contents disk) generation rows (ops ++ more)) first (λ image is. held_first (contents disk) generation rows ops more image is))
      (weaker moment images_since mid later (MayHold (contents mid) next (replay_on rows ops) more) (MayHold (contents disk) generation rows (ops ++ more)) second
      (λ image is. held_later (contents disk) (contents mid) generation next rows ops more image no_less
      (λ holds. first.each image (counts mid (moment disk) image first.later (subst (λ (o : Option (List ℕ)). IfSome o (images mid)) holds (reads mid)))) is))

  -- one run of commits after another
  pub in_a_row : (a b mid_a mid_b later_a later_b : D) (generation next : ℕ) (rows : List Row) (ops more : List Op) → generation ≤ next
      → GoesOn contents moment images_since generation rows ops a b mid_a mid_b
      → GoesOn contents moment images_since next (replay_on rows ops) more mid_a mid_b later_a later_b
      → GoesOn contents moment images_since generation rows (ops ++ more) a b later_a later_b
  in_a_row a b mid_a mid_b later_a later_b generation next rows ops more no_less first second = record {
    of_a = one_disk a mid_a later_a generation next rows ops more no_less first.of_a second.of_a;
    of_b = one_disk b mid_b later_b generation next rows ops more no_less first.of_b second.of_b;
  }
