-- What a run opens behind a crash of another one, and what a crash leaves of an area that a run uses.
use Rattle.std.proofs.Common.{◌≡◌, ◌≢◌, ⊎_elim, ℕ, List, Option, Some, IfSome, sym, subst, ◌∙◌, arith}
use Rattle.registry_store.specs.Choice.{Choice, Chosen, IsChoice}
use Rattle.registry_store.specs.Sides.{other_area}
use Rattle.rounds.specs.Words.{DiskWords}
use Rattle.wire_base.specs.declared.limits.Which.{Which}
use Rattle.wire_base.specs.declared.limits.Which.TheVariants.{A, B}
use Rattle.run_steps.specs.AccountedFor.{AreImageRows, GiveImageRows, LostInImage, areas_of}
use Rattle.run_steps.specs.UnusedArea.{IsOfUnusedArea}
use Rattle.told_scans.proofs.Members.{some_is}
use Rattle.run_steps.proofs.RunRows.{OneChoice, same_rows}
use Rattle.run_steps.proofs.Together.{crash_gives, left_at_end}
use Rattle.beat_run.specs.AfterCrash.{FindsAreasAsCrashed}
use Rattle.beat_run.specs.NextRun.{EndedRun, FindsAreasAsLeft}
use Rattle.beat_run.specs.UsedImages.{IsUsedOrLater, KeepsUsedImages}

module _ {D : Type 0} (disks : DiskWords D) where
  -- the rows that it opens are those of an image
  pub opens_image_rows : OneChoice → (earlier later : EndedRun disks) → FindsAreasAsCrashed disks earlier later.objects → AreImageRows earlier.accounted.run earlier.accounted.account LostInImage later.accounted.run.opening
  opens_image_rows one earlier later found =
      let gives = crash_gives disks (GiveImageRows earlier.accounted.run earlier.accounted.account) (areas_of earlier.objects.before) (areas_of earlier.objects.after)
      (earlier.accounted.together found.were_at_rest) found.first found.second found.left in
      subst (AreImageRows earlier.accounted.run earlier.accounted.account LostInImage)
      (same_rows one found.first found.second gives.rows later.accounted.run.opening gives.given (later.accounted.opened found.first found.second found.a_found found.b_found)) gives.are

  pub end_is_a_moment : ((disk : D) → IfSome (disks.contents disk) (disks.images disk)) → (earlier later : EndedRun disks) → FindsAreasAsLeft disks earlier.objects later.objects → FindsAreasAsCrashed disks earlier later.objects
  end_is_a_moment reads earlier later as_left =
      let together = earlier.accounted.together as_left.were_at_rest in
      record {
        were_at_rest = as_left.were_at_rest;
        first = as_left.first;
        second = as_left.second;
        left = left_at_end disks (GiveImageRows earlier.accounted.run earlier.accounted.account) together.writes (areas_of earlier.objects.before) (areas_of earlier.objects.after) together.lead
            as_left.first as_left.second (as_it_reads earlier.objects.after.a as_left.first as_left.a_left) (as_it_reads earlier.objects.after.b as_left.second as_left.b_left);
        a_found = as_left.a_found;
        b_found = as_left.b_found;
      }
    where
      as_it_reads : (disk : D) (area : List ℕ) → disks.contents disk ≡ Some area → disks.images disk area
      as_it_reads disk area is = subst (λ (o : Option (List ℕ)). IfSome o (disks.images disk)) is (reads disk)

  -- ---- one area by itself

  another_area : (area : Which) → area ≢ other_area area
  another_area A same = cc same
  another_area B same = cc same

  pub keeps_used_images : OneChoice → (run : EndedRun disks) → KeepsUsedImages disks run
  keeps_used_images one run rest used = ⊎_elim (λ unused. absurd (never unused)) (λ are. are) (run.accounted.images rest used.area used.image used.generation used.rows used.end used.since used.opened)
    where
      never : IsOfUnusedArea disks (areas_of run.objects.before) used.area used.image used.generation → ⊥
      never unused =
          let by = unused.other_is_chosen in
          let other : Choice = Chosen (other_area used.area) unused.used unused.rows unused.start unused.end in
          let same_first : by.first ≡ used.chosen.first = some_is by.first used.chosen.first (sym by.a_told ∙ used.chosen.a_told) in
          let same_second : by.second ≡ used.chosen.second = some_is by.second used.chosen.second (sym by.b_told ∙ used.chosen.b_told) in
          let same : used.choice ≡ other =
          one used.chosen.first used.chosen.second used.choice other used.chosen.chosen
          (subst (λ (l : List ℕ). IsChoice used.chosen.first l other) same_second (subst (λ (l : List ℕ). IsChoice l by.second other) same_first by.chosen)) in
          ⊎_elim (another_area used.area) (λ later. omega (arith, later, unused.at_least)) (subst (λ (choice : Choice). IsUsedOrLater choice used.area used.generation) same used.used)
