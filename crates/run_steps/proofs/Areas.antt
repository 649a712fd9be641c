-- What the areas may have held at any moment, over several turns of the keeper.
use Rattle.std.proofs.Common.{◌≡◌, inl, inr, ℕ, zero, suc, ◌≤◌, List, ◌++◌, Option, Some, IfSome, sym, subst, arith}
use Rattle.kept_rows.proofs.Images.{fronts_go_on}
use Rattle.outside.specs.DiskImages.{LeavesOnly}
use Rattle.rounds.specs.Images.{GivesFronts, MayHoldFronts, TurnsLeave}
use Rattle.rounds.specs.KeeperTurns.{StoringState}
use Rattle.rounds.specs.Words.{DiskWords}
use Rattle.wire_base.specs.declared.note.Note.{Note}
use Rattle.wire_base.specs.declared.row.Row.{Row}
use Rattle.run_steps.specs.Areas.{HaveHeldFronts, HeldOnlyFronts}
use Rattle.run_steps.proofs.CrashMoments.{behind, weaker}
use Rattle.run_steps.proofs.Together.{areas_at, give_by_one, give_on, give_others}

-- ---- notes

-- rows over first ones of notes are so over first ones of more
holds_on : (opening : List Row) (notes more : List Note) (before : Option (List ℕ)) (area : List ℕ) → MayHoldFronts opening notes before 0 area → MayHoldFronts opening (notes ++ more) before 0 area
holds_on opening notes more before area (inl same) = inl same
holds_on opening notes more before area (inr (inl shut)) = inr (inl shut)
holds_on opening notes more before area (inr (inr is)) = inr (inr (record {
  its_generation = is.its_generation;
  rows = is.rows;
  end = is.end;
  later = is.later;
  opened = is.opened;
  fronts = fronts_go_on opening notes more is.rows is.fronts;
}))

gives_on : (opening : List Row) (notes more : List Note) (first second : List ℕ) → GivesFronts opening notes first second → GivesFronts opening (notes ++ more) first second
gives_on opening notes more first second gives = record { rows = gives.rows; given = gives.given; fronts = fronts_go_on opening notes more gives.rows gives.fronts }

module _ {D : Type 0} (disks : DiskWords D) (reads : (disk : D) → IfSome (disks.contents disk) (disks.images disk))
    (counts : (disk : D) (since : ℕ) (image : List ℕ) → since ≤ disks.moment disk → disks.images disk image → disks.images_since disk since image) where
  module _ (opening : List Row) where
    -- more is noted
    pub areas_on : (notes more : List Note) (start_a start_b a b : D) → HaveHeldFronts disks opening notes start_a start_b a b → HaveHeldFronts disks opening (notes ++ more) start_a start_b a b
    areas_on notes more start_a start_b a b held = record {
      of_a = held_on start_a a held.of_a;
      of_b = held_on start_b b held.of_b;
      both = λ first second one other. gives_on opening notes more first second (held.both first second one other);
      together = give_others disks (GivesFronts opening notes) (GivesFronts opening (notes ++ more)) (gives_on opening notes more) (areas_at start_a start_b) (areas_at a b) held.together;
    }
      where
        held_on : (start now : D) → HeldOnlyFronts disks opening notes start now → HeldOnlyFronts disks opening (notes ++ more) start now
        held_on start now only =
            weaker disks.moment disks.images_since start now (MayHoldFronts opening notes (disks.contents start) 0) (MayHoldFronts opening (notes ++ more) (disks.contents start) 0) only
            (holds_on opening notes more (disks.contents start))

    -- as it reads
    holds_now : (notes : List Note) (start now : D) (area : List ℕ) → HeldOnlyFronts disks opening notes start now → disks.contents now ≡ Some area → MayHoldFronts opening notes (disks.contents start) 0 area
    holds_now notes start now area held holds =
        held.each area (counts now (disks.moment start) area held.later (subst (λ (o : Option (List ℕ)). IfSome o (disks.images now)) holds (reads now)))

    by_turn : (notes : List Note) (start mid new : D) (generation : ℕ) → HeldOnlyFronts disks opening notes start mid →
        LeavesOnly disks.moment disks.images_since mid new (MayHoldFronts opening notes (disks.contents mid) generation) → HeldOnlyFronts disks opening notes start new
    by_turn notes start mid new generation held leaves =
        behind disks.moment disks.images_since start mid new (MayHoldFronts opening notes (disks.contents start) 0) held
        (weaker disks.moment disks.images_since mid new (MayHoldFronts opening notes (disks.contents mid) generation) (MayHoldFronts opening notes (disks.contents start) 0) leaves is)
      where
        is : (area : List ℕ) → MayHoldFronts opening notes (disks.contents mid) generation area → MayHoldFronts opening notes (disks.contents start) 0 area
        is area (inl before) = holds_now notes start mid area held before
        is area (inr (inl shut)) = inr (inl shut)
        is area (inr (inr over)) = inr (inr (record {
          its_generation = over.its_generation;
          rows = over.rows;
          end = over.end;
          later = omega arith;
          opened = over.opened;
          fronts = over.fronts;
        }))

    -- so many turns of the keeper
    pub areas_by_turns : (notes : List Note) (start_a start_b : D) (turns : ℕ) (old new : StoringState D) → TurnsLeave disks opening notes turns old new →
        HaveHeldFronts disks opening notes start_a start_b old.a old.b → HaveHeldFronts disks opening notes start_a start_b new.a new.b
    areas_by_turns notes start_a start_b zero old new leave held = subst (λ (s : StoringState D). HaveHeldFronts disks opening notes start_a start_b s.a s.b) (sym leave) held
    areas_by_turns notes start_a start_b (suc turns) old new leave held =
        areas_by_turns notes start_a start_b turns leave.0 new leave.2 (record {
          of_a = by_turn notes start_a old.a leave.0.a old.keeper.store.generation held.of_a leave.1.of_a;
          of_b = by_turn notes start_b old.b leave.0.b old.keeper.store.generation held.of_b leave.1.of_b;
          both = leave.1.left;
          together = give_on disks (GivesFronts opening notes) (areas_at start_a start_b) (areas_at old.a old.b) (areas_at leave.0.a leave.0.b) held.together
              (give_by_one disks (GivesFronts opening notes) counts (areas_at old.a old.b) (areas_at leave.0.a leave.0.b) leave.1.written
              (record { other_same = leave.1.other_same; leaves = leave.1.leaves }));
        })
