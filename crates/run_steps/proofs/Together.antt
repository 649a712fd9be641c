-- Both areas give rows throughout: over writes one behind the other, rows of a wider kind, and what a crash leaves meanwhile.
use Rattle.std.proofs.Common.{inl, inr, ℕ, ◌≤◌, List, [], ◌∷◌, ◌++◌, refl, sym, subst}
use Rattle.registry_store.specs.Sides.{of_area, other_area}
use Rattle.rounds.specs.Words.{DiskWords}
use Rattle.wire_base.specs.declared.limits.Which.{Which}
use Rattle.wire_base.specs.declared.limits.Which.TheVariants.{A, B}
use Rattle.run_steps.specs.Together.{AreaWrite, Areas, GiveThroughout, Lead, MayLeave, WritesOne, area_in}
use Rattle.run_steps.proofs.CrashMoments.{weaker}

abbrev pub areas_at : {D : Type 0} → D → D → Areas D
areas_at a b = record { a = a; b = b }

module _ {D : Type 0} (disks : DiskWords D) where
  -- ---- rows of a wider kind

  module _ (Gives Others : List ℕ → List ℕ → Type 0) (others : (first second : List ℕ) → Gives first second → Others first second) where
    writes_others : (before : Areas D) (write : AreaWrite D) → WritesOne disks Gives before write → WritesOne disks Others before write
    writes_others before write writes = record {
      other_same = writes.other_same;
      leaves = weaker disks.moment disks.images_since (area_in before write.area) (area_in write.after write.area)
          (λ image. (other : List ℕ) → disks.images (area_in before (other_area write.area)) other → Gives (of_area write.area image other) (of_area write.area other image))
          (λ image. (other : List ℕ) → disks.images (area_in before (other_area write.area)) other → Others (of_area write.area image other) (of_area write.area other image))
          writes.leaves (λ image gives other held. others (of_area write.area image other) (of_area write.area other image) (gives other held));
    }

    lead_others : (writes : List (AreaWrite D)) (before after : Areas D) → Lead disks Gives before writes after → Lead disks Others before writes after
    lead_others [] before after lead = lead
    lead_others (write ∷ writes) before after lead = (writes_others before write lead.0, lead_others writes write.after after lead.1)

    pub give_others : (before after : Areas D) → GiveThroughout disks Gives before after → GiveThroughout disks Others before after
    give_others before after gives = record {
      writes = gives.writes;
      lead = lead_others gives.writes before after gives.lead;
      at_end = λ first second left_a left_b. others first second (gives.at_end first second left_a left_b);
    }

  module _ (Gives : List ℕ → List ℕ → Type 0) where
    -- ---- one behind the other

    lead_on : (writes more : List (AreaWrite D)) (before mid after : Areas D) → Lead disks Gives before writes mid → Lead disks Gives mid more after → Lead disks Gives before (writes ++ more) after
    lead_on [] more before mid after same lead = subst (λ (areas : Areas D). Lead disks Gives areas more after) same lead
    lead_on (write ∷ writes) more before mid after lead further = (lead.0, lead_on writes more write.after mid after lead.1 further)

    pub give_on : (before mid after : Areas D) → GiveThroughout disks Gives before mid → GiveThroughout disks Gives mid after → GiveThroughout disks Gives before after
    give_on before mid after first then = record {
      writes = first.writes ++ then.writes;
      lead = lead_on first.writes then.writes before mid after first.lead then.lead;
      at_end = then.at_end;
    }

    -- one write alone
    module _ (counts : (disk : D) (since : ℕ) (image : List ℕ) → since ≤ disks.moment disk → disks.images disk image → disks.images_since disk since image) where
      behind_it : (before after : Areas D) (area : Which) → WritesOne disks Gives before (record { area = area; after = after }) → (first second : List ℕ) → disks.images after.a first → disks.images after.b second → Gives first second
      behind_it before after A writes first second left_a left_b =
          writes.leaves.each first (counts after.a (disks.moment before.a) first writes.leaves.later left_a) second (subst (λ (disk : D). disks.images disk second) writes.other_same left_b)
      behind_it before after B writes first second left_a left_b =
          writes.leaves.each second (counts after.b (disks.moment before.b) second writes.leaves.later left_b) first (subst (λ (disk : D). disks.images disk first) writes.other_same left_a)

      pub give_by_one : (before after : Areas D) (area : Which) → WritesOne disks Gives before (record { area = area; after = after }) → GiveThroughout disks Gives before after
      give_by_one before after area writes = record {
        writes = record { area = area; after = after } ∷ [];
        lead = (writes, refl);
        at_end = behind_it before after area writes;
      }

    -- ---- what a crash leaves

    by_area : (area : Which) (first second : List ℕ) →
        Gives (of_area area (of_area area first second) (of_area (other_area area) first second)) (of_area area (of_area (other_area area) first second) (of_area area first second)) → Gives first second
    by_area A first second gives = gives
    by_area B first second gives = gives

    left_gives : (writes : List (AreaWrite D)) (before after : Areas D) → Lead disks Gives before writes after → ((first second : List ℕ) → disks.images after.a first → disks.images after.b second → Gives first second) →
        (first second : List ℕ) → MayLeave disks before writes first second → Gives first second
    left_gives [] before after same at_end first second left =
        at_end first second (subst (λ (areas : Areas D). disks.images areas.a first) (sym same) left.0) (subst (λ (areas : Areas D). disks.images areas.b second) (sym same) left.1)
    left_gives (write ∷ writes) before after lead at_end first second (inl meanwhile) =
        by_area write.area first second (lead.0.leaves.each (of_area write.area first second) meanwhile.written (of_area (other_area write.area) first second) meanwhile.other)
    left_gives (write ∷ writes) before after lead at_end first second (inr later) = left_gives writes write.after after lead.1 at_end first second later

    -- what a crash at some moment leaves gives such rows
    pub crash_gives : (before after : Areas D) (gives : GiveThroughout disks Gives before after) (first second : List ℕ) → MayLeave disks before gives.writes first second → Gives first second
    crash_gives before after gives first second left = left_gives gives.writes before after gives.lead gives.at_end first second left

    -- the end is such a moment
    pub left_at_end : (writes : List (AreaWrite D)) (before after : Areas D) → Lead disks Gives before writes after → (first second : List ℕ) → disks.images after.a first → disks.images after.b second → MayLeave disks before writes first second
    left_at_end [] before after same first second left_a left_b =
        (subst (λ (areas : Areas D). disks.images areas.a first) same left_a, subst (λ (areas : Areas D). disks.images areas.b second) same left_b)
    left_at_end (write ∷ writes) before after lead first second left_a left_b = inr (left_at_end writes write.after after lead.1 first second left_a left_b)
