-- What the areas of a run have held since it began to open its registry: where they gave rows they give the same rows still, and each
-- area is as it was, or holds nothing that is read, or is opened with no row.
use Rattle.std.proofs.Common.{◌≡◌, ◌≢◌, ◌⊎◌, inl, inr, ⊎_elim, ℕ, ◌≤◌, Bool, true, false, List, [], ◌∷◌, Option, Some, None, IfSome, IsSome, nat_lt, if◌then◌else◌, refl, sym, ap, subst, ◌∙◌, arith}
use Rattle.kept_rows.specs.Backed.{AreRowsOverFronts}
use Rattle.outside.specs.DiskImages.{LeavesOnly, Only}
use Rattle.registry_log.specs.OnlyRead.{IsOnlyRead}
use Rattle.registry_log.specs.Starting.{IsBlank}
use Rattle.registry_log.specs.State.{Blank, Broken, Closed as ClosedState, IsOpened, IsState, Opened, State, operations_of}
use Rattle.registry_store.specs.Choice.{Choice, Chosen, Fresh, GivesRows, IsChoice, Refused, chosen_area, rows_of}
use Rattle.registry_store.specs.Settled.{AreAtRest}
use Rattle.registry_store.specs.Standing.{IsOpenedBy, Standing}
use Rattle.registry_store.specs.declared.store_error.StoreError.{StoreError}
use Rattle.registry_store.specs.declared.store_error.StoreError.TheVariants.{Bad as StoreBad, Closed, DiskFault as StoreDiskFault, NoMemory as StoreNoMemory}
use Rattle.rounds.specs.Images.{GivesFronts, MayHoldFronts}
use Rattle.rounds.specs.Words.{DiskWords}
use Rattle.ship_core.specs.Rows.{IsInOrder}
use Rattle.wire_base.specs.declared.limits.Which.{Which}
use Rattle.wire_base.specs.declared.limits.Which.TheVariants.{A, B}
use Rattle.wire_base.specs.declared.note.Note.{Note}
use Rattle.wire_base.specs.declared.row.Row.{Row}
use Rattle.run_steps.specs.Areas.{HaveHeldFronts, HeldOnlyFronts}
use Rattle.run_steps.specs.Registry.{RefusesAreas}
use Rattle.run_steps.specs.RegistryErrors.{IsErrorOfStore}
use Rattle.run_steps.specs.Together.{GiveThroughout}
use Rattle.run_steps.specs.declared.registry_error.RegistryError.{RegistryError}
use Rattle.run_steps.proofs.RowsFound.{ordered_after}
use Rattle.run_steps.proofs.CrashMoments.{weaker}
use Rattle.told_scans.proofs.Members.{some_is}
use Rattle.run_steps.proofs.RunRows.{OneChoice}
use Rattle.run_steps.proofs.Together.{areas_at}

pub some_of : {A : Type 0} (o : Option A) → IsSome o → (x : A) × (o ≡ Some x)
some_of None some = cc some
some_of (Some x) some = (x, refl)

-- ---- rows are in order

opened_in_order : (area : List ℕ) (generation : ℕ) (rows : List Row) (end : ℕ) → IsOpened area generation rows end → IsInOrder rows
opened_in_order area generation rows end opened = subst IsInOrder opened.replayed (ordered_after [] (operations_of opened.records) tt)

abbrev IsOrdered : State → Type 0
IsOrdered Blank = Unit {0}
IsOrdered ClosedState = Unit {0}
IsOrdered (Opened generation rows start end) = IsInOrder rows
IsOrdered (Broken at) = Unit {0}

abbrev ChoosesOrdered : Choice → Type 0
ChoosesOrdered Fresh = Unit {0}
ChoosesOrdered (Chosen area generation rows start end) = IsInOrder rows
ChoosesOrdered (Refused area at) = Unit {0}

state_ordered : (area : List ℕ) (s : State) → IsState area s → IsOrdered s
state_ordered area Blank is = tt
state_ordered area ClosedState is = tt
state_ordered area (Opened generation rows start end) is = opened_in_order area generation rows end is.1
state_ordered area (Broken at) is = tt

choice_ordered : (s t : State) → IsOrdered s → IsOrdered t → ChoosesOrdered (chosen_area s t)
choice_ordered (Opened generation rows start end) (Opened other others from to) one two = by_later (nat_lt generation other)
  where
    by_later : (b : Bool) → ChoosesOrdered (if b then Chosen B other others from to else Chosen A generation rows start end)
    by_later true = two
    by_later false = one
choice_ordered (Opened generation rows start end) Blank one two = one
choice_ordered (Opened generation rows start end) ClosedState one two = one
choice_ordered (Opened generation rows start end) (Broken at) one two = one
choice_ordered Blank (Opened generation rows start end) one two = two
choice_ordered ClosedState (Opened generation rows start end) one two = two
choice_ordered (Broken at) (Opened generation rows start end) one two = two
choice_ordered Blank Blank one two = tt
choice_ordered ClosedState Blank one two = tt
choice_ordered (Broken at) Blank one two = tt
choice_ordered (Broken at) ClosedState one two = tt
choice_ordered (Broken at) (Broken other) one two = tt
choice_ordered Blank (Broken at) one two = tt
choice_ordered ClosedState (Broken at) one two = tt
choice_ordered Blank ClosedState one two = tt
choice_ordered ClosedState ClosedState one two = tt

given_ordered : (choice : Choice) (rows : List Row) → ChoosesOrdered choice → rows_of choice ≡ Some rows → IsInOrder rows
given_ordered Fresh rows ordered is = subst IsInOrder (some_is [] rows is) tt
given_ordered (Chosen area generation others start end) rows ordered is = subst IsInOrder (some_is others rows is) ordered
given_ordered (Refused area at) rows ordered is = absurd (let q : None ≡ Some rows = is in cc)

pub rows_in_order : (first second : List ℕ) (rows : List Row) → GivesRows first second rows → IsInOrder rows
rows_in_order first second rows gives =
    given_ordered gives.choice rows
    (subst ChoosesOrdered gives.chosen.chosen (choice_ordered gives.chosen.first_state gives.chosen.second_state
    (state_ordered first gives.chosen.first_state gives.chosen.first_is) (state_ordered second gives.chosen.second_state gives.chosen.second_is))) gives.given

-- opening rows are over none of the notes, whichever follow
pub over_none : (notes : List Note) (rows : List Row) → IsInOrder rows → AreRowsOverFronts rows notes rows
over_none notes rows ordered = record { in_order = ordered; each = λ key. record { front = []; rest = notes; notes_are = refl; is = refl } }

-- ---- an empty registry

fresh_or_not : (choice : Choice) → (choice ≡ Fresh) ⊎ (choice ≢ Fresh)
fresh_or_not Fresh = inl refl
fresh_or_not (Chosen area generation rows start end) = inr (λ is. cc)
fresh_or_not (Refused area at) = inr (λ is. cc)

-- its area B is blank
blank_beside : (s t : State) (area : List ℕ) → chosen_area s t ≡ Fresh → IsState area t → IsBlank area
blank_beside Blank Blank area fresh is = is
blank_beside ClosedState Blank area fresh is = is
blank_beside (Opened generation rows start end) (Opened other others from to) area fresh is = absurd (by_later (nat_lt generation other) fresh)
  where
    by_later : (b : Bool) → (if b then Chosen B other others from to else Chosen A generation rows start end) ≡ Fresh → ⊥
    by_later true never = cc
    by_later false never = cc
blank_beside (Opened generation rows start end) Blank area fresh is = is
blank_beside (Opened generation rows start end) ClosedState area fresh is = absurd (let q : Chosen A generation rows start end ≡ Fresh = fresh in cc)
blank_beside (Opened generation rows start end) (Broken at) area fresh is = absurd (let q : Chosen A generation rows start end ≡ Fresh = fresh in cc)
blank_beside Blank (Opened generation rows start end) area fresh is = absurd (let q : Chosen B generation rows start end ≡ Fresh = fresh in cc)
blank_beside ClosedState (Opened generation rows start end) area fresh is = absurd (let q : Chosen B generation rows start end ≡ Fresh = fresh in cc)
blank_beside (Broken at) (Opened generation rows start end) area fresh is = absurd (let q : Chosen B generation rows start end ≡ Fresh = fresh in cc)
blank_beside (Broken at) Blank area fresh is = is
blank_beside (Broken at) ClosedState area fresh is = absurd (let q : Refused A at ≡ Fresh = fresh in cc)
blank_beside (Broken at) (Broken other) area fresh is = absurd (let q : Refused A at ≡ Fresh = fresh in cc)
blank_beside Blank (Broken at) area fresh is = absurd (let q : Refused B at ≡ Fresh = fresh in cc)
blank_beside ClosedState (Broken at) area fresh is = absurd (let q : Refused B at ≡ Fresh = fresh in cc)
blank_beside Blank ClosedState area fresh is = absurd (let q : Refused B 0 ≡ Fresh = fresh in cc)
blank_beside ClosedState ClosedState area fresh is = absurd (let q : Refused B 0 ≡ Fresh = fresh in cc)

blank_state : (area : List ℕ) (s : State) → IsBlank area → IsState area s → s ≡ Blank
blank_state area Blank blank is = refl
blank_state area ClosedState blank is = absurd (omega (arith, blank, is.0))
blank_state area (Opened generation rows start end) blank is = absurd (omega (arith, blank, is.1.reaches.unclosed.more))
blank_state area (Broken at) blank (inl is) = absurd (omega (arith, blank, is.0.more))
blank_state area (Broken at) blank (inr (inl is)) = absurd (omega (arith, blank, is.reaches.unclosed.more))
blank_state area (Broken at) blank (inr (inr is)) = absurd (omega (arith, blank, is.reaches.unclosed.more))

-- an image that gives these rows beside a blank area holds nothing that is read, or is opened with them
holds_beside : (before : Option (List ℕ)) (image : List ℕ) (rows : List Row) (s : State) → IsInOrder rows → IsState image s → (choice : Choice) → rows_of choice ≡ Some rows → chosen_area s Blank ≡ choice →
    MayHoldFronts rows [] before 0 image
holds_beside before image rows Blank ordered is choice given chosen = inr (inl (inl is))
holds_beside before image rows ClosedState ordered is choice given chosen = inr (inl (inr is.1))
holds_beside before image rows (Opened generation others start end) ordered is choice given chosen =
    let same : others ≡ rows = some_is others rows (ap rows_of chosen ∙ given) in
    inr (inr (record {
      its_generation = generation;
      rows = rows;
      end = end;
      later = omega arith;
      opened = subst (λ (l : List Row). IsOpened image generation l end) same is.1;
      fronts = over_none [] rows ordered;
    }))
holds_beside before image rows (Broken at) ordered is choice given chosen = absurd (let same : None ≡ Some rows = ap rows_of chosen ∙ given in cc)

-- ---- at every moment

module _ {D : Type 0} (disks : DiskWords D) where
  abbrev Read : D → D → Type 0
  Read = IsOnlyRead disks.contents disks.images disks.moment disks.images_since disks.faults

  -- an area that was only read
  held_as_read : (rows : List Row) (before now : D) → Only (disks.contents before) (disks.images before) → Read before now → HeldOnlyFronts disks rows [] before now
  held_as_read rows before now only read =
      weaker disks.moment disks.images_since before now (disks.images before) (MayHoldFronts rows [] (disks.contents before) 0) read.each_moment (λ image is. inl (only image is))

  module _ (a b : D) (rest : AreAtRest disks.contents disks.images a b) (first second : List ℕ) (rows : List Row) (a_is : disks.contents a ≡ Some first) (b_is : disks.contents b ≡ Some second)
      (gives : GivesRows first second rows) where
    ordered : IsInOrder rows
    ordered = rows_in_order first second rows gives

    gives_fronts : (one other : List ℕ) → GivesRows one other rows → GivesFronts rows [] one other
    gives_fronts one other given = record { rows = rows; given = given; fronts = over_none [] rows ordered }

    as_held : (one other : List ℕ) → disks.contents a ≡ Some one → disks.contents b ≡ Some other → GivesFronts rows [] one other
    as_held one other one_is other_is =
        let same_first : first ≡ one = some_is first one (sym a_is ∙ one_is) in
        let same_second : second ≡ other = some_is second other (sym b_is ∙ other_is) in
        gives_fronts one other (subst (λ (l : List ℕ). GivesRows one l rows) same_second (subst (λ (l : List ℕ). GivesRows l second rows) same_first gives))

    -- as a crash leaves both before they are opened
    as_left : (one other : List ℕ) → disks.images a one → disks.images b other → GivesFronts rows [] one other
    as_left one other left_a left_b = as_held one other (rest.a_settled one left_a) (rest.b_settled other left_b)

    -- area A was started or read, and then area B was read
    opened_together : (new_a new_b : D) → Read b new_b →
        LeavesOnly disks.moment disks.images_since a new_a (λ image. (other : List ℕ) → disks.images b other → GivesFronts rows [] image other) →
        ((one other : List ℕ) → disks.images new_a one → disks.images b other → GivesFronts rows [] one other) →
        GiveThroughout disks (GivesFronts rows []) (areas_at a b) (areas_at new_a new_b)
    opened_together new_a new_b read_b leaves behind_a = record {
      writes = record { area = A; after = areas_at new_a b } ∷ record { area = B; after = areas_at new_a new_b } ∷ [];
      lead = (
        record { other_same = refl; leaves = leaves },
        (
          record {
            other_same = refl;
            leaves = weaker disks.moment disks.images_since b new_b (disks.images b) (λ image. (other : List ℕ) → disks.images new_a other → GivesFronts rows [] other image) read_b.each_moment
                (λ image left other beside. behind_a other image beside left);
          },
          refl,
        ),
      );
      at_end = λ one other left_a left_b. behind_a one other left_a (read_b.images_kept other left_b);
    }

    -- both were only read
    pub rows_held_as_read : (new_a new_b : D) → Read a new_a → Read b new_b → HaveHeldFronts disks rows [] a b new_a new_b
    rows_held_as_read new_a new_b read_a read_b = record {
      of_a = held_as_read rows a new_a rest.a_settled read_a;
      of_b = held_as_read rows b new_b rest.b_settled read_b;
      both = λ one other one_is other_is. as_held one other (sym read_a.contents_kept ∙ one_is) (sym read_b.contents_kept ∙ other_is);
      together = opened_together new_a new_b read_b
          (weaker disks.moment disks.images_since a new_a (disks.images a) (λ image. (other : List ℕ) → disks.images b other → GivesFronts rows [] image other) read_a.each_moment
          (λ image left other beside. as_left image other left beside))
          (λ one other left_a left_b. as_left one other (read_a.images_kept one left_a) left_b);
    }

    -- the store was opened, or its opening failed
    module _ (reads : (disk : D) → IfSome (disks.contents disk) (disks.images disk))
        (counts : (disk : D) (since : ℕ) (image : List ℕ) → since ≤ disks.moment disk → disks.images disk image → disks.images_since disk since image)
        (one_choice : OneChoice) (new_a new_b : D) (read_b : Read b new_b)
        (read_a : (one other : List ℕ) → disks.contents a ≡ Some one → disks.contents b ≡ Some other → ¬ (IsChoice one other Fresh) → Read a new_a)
        (each : AreAtRest disks.contents disks.images a b → (one other : List ℕ) (given : List Row) → disks.contents a ≡ Some one → disks.contents b ≡ Some other → GivesRows one other given →
        LeavesOnly disks.moment disks.images_since a new_a (λ image. (beside : List ℕ) → disks.images b beside → GivesRows image beside given)) where
      as_it_reads : (disk : D) (area : List ℕ) → disks.contents disk ≡ Some area → disks.images disk area
      as_it_reads disk area is = subst (λ (o : Option (List ℕ)). IfSome o (disks.images disk)) is (reads disk)

      leaves : LeavesOnly disks.moment disks.images_since a new_a (λ image. (beside : List ℕ) → disks.images b beside → GivesRows image beside rows)
      leaves = each rest first second rows a_is b_is gives

      as_fresh : gives.choice ≡ Fresh → HaveHeldFronts disks rows [] a b new_a new_b
      as_fresh fresh = record {
        of_a = weaker disks.moment disks.images_since a new_a _ (MayHoldFronts rows [] (disks.contents a) 0) leaves
            (λ image given. beside_blank image (given second (as_it_reads b second b_is)));
        of_b = held_as_read rows b new_b rest.b_settled read_b;
        both = λ one other one_is other_is. started one other (as_it_reads new_a one one_is) (as_it_reads b other (sym read_b.contents_kept ∙ other_is));
        together = opened_together new_a new_b read_b
            (weaker disks.moment disks.images_since a new_a (λ image. (beside : List ℕ) → disks.images b beside → GivesRows image beside rows)
            (λ image. (other : List ℕ) → disks.images b other → GivesFronts rows [] image other) leaves (λ image given other beside. gives_fronts image other (given other beside))) started;
      }
        where
          -- once area A is started, beside area B as it was
          started : (one other : List ℕ) → disks.images new_a one → disks.images b other → GivesFronts rows [] one other
          started one other left_a left_b = gives_fronts one other (leaves.each one (counts new_a (disks.moment a) one leaves.later left_a) other left_b)

          blank : IsBlank second
          blank = blank_beside gives.chosen.first_state gives.chosen.second_state second (gives.chosen.chosen ∙ fresh) gives.chosen.second_is

          beside_blank : (image : List ℕ) → GivesRows image second rows → MayHoldFronts rows [] (disks.contents a) 0 image
          beside_blank image given =
              holds_beside (disks.contents a) image rows given.chosen.first_state ordered given.chosen.first_is given.choice given.given
              (ap (λ (s : State). chosen_area given.chosen.first_state s) (sym (blank_state second given.chosen.second_state blank given.chosen.second_is)) ∙ given.chosen.chosen)

      pub rows_held_as_opened : HaveHeldFronts disks rows [] a b new_a new_b
      rows_held_as_opened =
          ⊎_elim as_fresh
          (λ not. rows_held_as_read new_a new_b (read_a first second a_is b_is (λ fresh. not (one_choice first second gives.choice Fresh gives.chosen fresh))) read_b) (fresh_or_not gives.choice)

-- ---- what is answered

-- an opened store has the rows that the areas give
pub store_gives : (first second : List ℕ) (store : Standing) → IsOpenedBy first second store → GivesRows first second store.rows
store_gives first second store (inl chosen) = record { choice = Chosen store.area store.generation store.rows store.start store.end; chosen = chosen; given = refl }
store_gives first second store (inr fresh) = record { choice = Fresh; chosen = fresh.0; given = ap Some (sym fresh.1.rows) }

pub refused_by : (first second : List ℕ) (error : StoreError) (result : RegistryError) → ((area : Which) (at : ℕ) → error ≡ StoreBad area at → IsChoice first second (Refused area at)) →
    IsErrorOfStore error result → RefusesAreas first second result
refused_by first second (StoreBad area at) result bad is = subst (RefusesAreas first second) (sym is) (bad area at refl)
refused_by first second StoreDiskFault result bad is = subst (RefusesAreas first second) (sym is) tt
refused_by first second Closed result bad is = subst (RefusesAreas first second) (sym is) tt
refused_by first second StoreNoMemory result bad is = subst (RefusesAreas first second) (sym is) tt

-- refused areas are not opened
pub never_opened : OneChoice → (first second : List ℕ) (area : Which) (at : ℕ) (store : Standing) → IsChoice first second (Refused area at) → IsOpenedBy first second store → ⊥
never_opened one first second area at store refused (inl chosen) =
    let q : Refused area at ≡ Chosen store.area store.generation store.rows store.start store.end = one first second _ _ refused chosen in cc
never_opened one first second area at store refused (inr fresh) = let q : Refused area at ≡ Fresh = one first second _ _ refused fresh.0 in cc

pub not_fresh : OneChoice → (first second : List ℕ) (area : Which) (at : ℕ) → IsChoice first second (Refused area at) → ¬ (IsChoice first second Fresh)
not_fresh one first second area at refused fresh = let q : Refused area at ≡ Fresh = one first second _ _ refused fresh in cc
