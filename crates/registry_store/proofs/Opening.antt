-- Opening two areas: what is chosen stays, and an empty registry is started.
use Rattle.std.proofs.Common.{◌≡◌, inl, inr, ℕ, ◌≤◌, ◌⊎◌, Bool, true, false, nat_lt, if◌then◌else◌, List, [], ◌∷◌, take, Option, Some, None, IsSome, refl, sym, ◌∙◌, ap, subst, arith}
use Rattle.outside.specs.DiskImages.{LeavesOnly, Only}
use Rattle.wire_base.specs.declared.limits.Which.{Which}
use Rattle.wire_base.specs.declared.limits.Which.TheVariants.{A, B}
use Rattle.wire_base.specs.declared.row.Op.{Op}
use Rattle.wire_base.specs.declared.row.Row.{Row}
use Rattle.ship_core.specs.Replay.{replay_on}
use Rattle.registry_log.specs.OnlyRead.{IsOnlyRead}
use Rattle.registry_log.specs.Starting.{IsBlank, IsClosed}
use Rattle.registry_log.specs.State.{IsOpened, IsState, State, Blank, Closed, Opened, Broken}
use Rattle.registry_store.specs.Answer.{IsPickWithin, choice_of}
use Rattle.registry_store.specs.Appending.{HoldsOpened, IsOpenedWithSome, IsStartedWithSome}
use Rattle.registry_store.specs.Choice.{Choice, Fresh, Chosen, GivesRows, IsChoice, chosen_area, rows_of}
use Rattle.registry_store.specs.Committing.{GoesOn, MayHold}
use Rattle.registry_store.specs.Settled.{AreAtRest, AreSettled}
use Rattle.registry_store.specs.Standing.{IsEmpty, Standing, chosen_by}
use Rattle.registry_store.specs.declared.choice.Pick.{Pick}
use Rattle.registry_store.specs.declared.choice.Pick.TheVariants as answers
use Rattle.registry_store.proofs.Appended.{same_bytes}
use Rattle.registry_store.proofs.Choosing.{chosen_near, shut_yields}
use Rattle.registry_store.proofs.Moments.{behind, weaker}

-- ---- an empty registry

blank_b : (first second : State) → chosen_area first second ≡ Fresh → second ≡ Blank
blank_b Blank Blank same = refl
blank_b Closed Blank same = refl
blank_b (Broken at) Blank same = refl
blank_b (Opened g r s e) Blank same = refl
blank_b Blank Closed same = cc same
blank_b Closed Closed same = cc same
blank_b (Broken at) Closed same = cc same
blank_b (Opened g r s e) Closed same = cc same
blank_b Blank (Broken at) same = cc same
blank_b Closed (Broken at) same = cc same
blank_b (Broken other) (Broken at) same = cc same
blank_b (Opened g r s e) (Broken at) same = cc same
blank_b Blank (Opened h o f t) same = cc same
blank_b Closed (Opened h o f t) same = cc same
blank_b (Broken at) (Opened h o f t) same = cc same
blank_b (Opened g r s e) (Opened h o f t) same = by_test (nat_lt g h) same
  where
    by_test : (later : Bool) → (if later then Chosen B h o f t else Chosen A g r s e) ≡ Fresh → Opened h o f t ≡ Blank
    by_test true same = cc same
    by_test false same = cc same

pub second_is_blank : (first second : List ℕ) → IsChoice first second Fresh → IsBlank second
second_is_blank first second choice = let Is : State → Type 0 = λ s. IsState second s in subst Is (blank_b choice.first_state choice.second_state choice.chosen) choice.second_is

-- the law that two areas make one choice
abbrev pub OneChoice : Type 0
OneChoice = (first second : List ℕ) (choice other : Choice) → IsChoice first second choice → IsChoice first second other → choice ≡ other

no_rows : (first second : List ℕ) (rows : List Row) → OneChoice → IsChoice first second Fresh → GivesRows first second rows → [] ≡ rows
no_rows first second rows one choice gives = let given : Some [] ≡ Some rows = ap rows_of (one first second Fresh gives.choice choice gives.chosen) ∙ gives.given in cc given

shut_beside_blank : (image second : List ℕ) → IsBlank image ⊎ IsClosed image → IsBlank second → IsChoice image second Fresh
shut_beside_blank image second (inl shut) blank = record { first_state = Blank; second_state = Blank; first_is = shut; second_is = blank; chosen = refl }
shut_beside_blank [] second (inr shut) blank = absurd shut
shut_beside_blank (gate ∷ []) second (inr shut) blank = record { first_state = Blank; second_state = Blank; first_is = omega arith; second_is = blank; chosen = refl }
shut_beside_blank (gate ∷ next ∷ rest) second (inr shut) blank = record { first_state = Closed; second_state = Blank; first_is = (omega arith, shut); second_is = blank; chosen = refl }

-- no operation, no row
nothing_replayed : (count : ℕ) → count ≤ 0 → replay_on [] (take {A = Op} count []) ≡ []
nothing_replayed count none = let zero_is : 0 ≡ count = omega (arith, none) in subst (λ (n : ℕ). replay_on [] (take {A = Op} n []) ≡ []) zero_is refl

opened_empty : (image : List ℕ) (is : IsOpenedWithSome 1 [] [] image) → IsOpened image 1 [] is.end
opened_empty image is = subst (λ (l : List Row). IsOpened image 1 l is.end) (nothing_replayed is.count is.within) is.opened

started_gives : (first second image : List ℕ) → IsChoice first second Fresh → IsStartedWithSome 1 [] [] first image → GivesRows image second []
started_gives first second image choice (inl (inl same)) =
    subst (λ (l : List ℕ). GivesRows l second []) (sym same) (record { choice = Fresh; chosen = choice; given = refl })
started_gives first second image choice (inl (inr shut)) = record { choice = Fresh; chosen = shut_beside_blank image second shut (second_is_blank first second choice); given = refl }
started_gives first second image choice (inr is) = record {
  choice = Chosen A 1 [] 29 is.end;
  chosen = chosen_near A image second 1 [] is.end (opened_empty image is) (shut_yields second A 1 (inl (second_is_blank first second choice)));
  given = refl;
}

started_may_hold : (before : Option (List ℕ)) (first image : List ℕ) → before ≡ Some first → IsStartedWithSome 1 [] [] first image → MayHold before 1 [] [] image
started_may_hold before first image holds (inl (inl same)) = inl (holds ∙ ap (λ (l : List ℕ). Some l) (sym same))
started_may_hold before first image holds (inl (inr shut)) = inr (inl shut)
started_may_hold before first image holds (inr is) = inr (inr (record {
  its_generation = 1;
  found = [];
  end = is.end;
  later = omega arith;
  after = record { count = 0; within = omega arith; replayed = refl };
  opened = opened_empty image is;
}))

-- ---- what was picked

pub picked_fresh : (first second : List ℕ) (picked : Pick) → picked ≡ answers.Fresh → IsChoice first second (choice_of picked) → IsChoice first second Fresh
picked_fresh first second picked is choice = subst (λ (p : Pick). IsChoice first second (choice_of p)) is choice

pub picked_chosen : (first second : List ℕ) (picked : Pick) (area : Which) (generation : ℕ) (rows : List Row) (start end : ℕ) → picked ≡ answers.Chosen area generation rows start end → IsChoice first second (choice_of picked)
    → IsChoice first second (Chosen area generation rows start end)
picked_chosen first second picked area generation rows start end is choice = subst (λ (p : Pick). IsChoice first second (choice_of p)) is choice

pub picked_start : (picked : Pick) (area : Which) (generation : ℕ) (rows : List Row) (start end : ℕ) → picked ≡ answers.Chosen area generation rows start end → IsPickWithin picked → start ≡ 29
picked_start picked area generation rows start end is within = (subst IsPickWithin is within).0

empty_choice : (store : Standing) → IsEmpty store → Chosen A 1 [] 29 store.end ≡ chosen_by store
empty_choice store is = λ i. Chosen (sym is.area i) (sym is.generation i) (sym is.rows i) 29 store.end

pub told_bytes : (o : Option (List ℕ)) → IsSome o → (bytes : List ℕ) × (o ≡ Some bytes)
told_bytes None told = cc told
told_bytes (Some bytes) told = (bytes, refl)

-- ---- disks

module _ {D : Type 0} (contents : D → Option (List ℕ)) (images : D → List ℕ → Type 0) (moment : D → ℕ) (images_since : D → ℕ → List ℕ → Type 0) (faults : D → ℕ) where
  abbrev pub Read : D → D → Type 0
  Read = IsOnlyRead contents images moment images_since faults

  still_settled : (old new : D) → Read old new → Only (contents old) (images old) → Only (contents new) (images new)
  still_settled old new read settled = λ image is. read.contents_kept ∙ settled image (read.images_kept image is)

  bytes_are : (disk : D) (bytes image : List ℕ) → contents disk ≡ Some bytes → Only (contents disk) (images disk) → images disk image → bytes ≡ image
  bytes_are disk bytes image holds settled is = same_bytes bytes image (sym holds ∙ settled image is)

  read_may_hold : (old new : D) (generation : ℕ) (rows : List Row) → Read old new → Only (contents old) (images old) → LeavesOnly moment images_since old new (MayHold (contents old) generation rows [])
  read_may_hold old new generation rows read settled =
      weaker moment images_since old new (images old) (MayHold (contents old) generation rows []) read.each_moment (λ image is. inl (settled image is))

  pub fresh_moments : (a mid new b : D) (first second : List ℕ) (rows : List Row) → OneChoice → AreAtRest contents images a b → contents a ≡ Some first → contents b ≡ Some second → IsChoice first second Fresh → GivesRows first second rows
      → Read a mid → ((before : List ℕ) → contents mid ≡ Some before → Only (contents mid) (images mid) → LeavesOnly moment images_since mid new (IsStartedWithSome 1 [] [] before))
      → LeavesOnly moment images_since a new (λ image. (other : List ℕ) → images b other → GivesRows image other rows)
  fresh_moments a mid new b first second rows one rest a_holds b_holds choice gives read starts =
      let P : List ℕ → Type 0 = λ image. (other : List ℕ) → images b other → GivesRows image other rows in
      let none = no_rows first second rows one choice gives in
      behind moment images_since a mid new P
      (weaker moment images_since a mid (images a) P read.each_moment
      (λ image is other left. subst (λ (m : List ℕ). GivesRows image m rows) (bytes_are b second other b_holds rest.b_settled left)
      (subst (λ (l : List ℕ). GivesRows l second rows) (bytes_are a first image a_holds rest.a_settled is) gives)))
      (weaker moment images_since mid new (IsStartedWithSome 1 [] [] first) P (starts first (read.contents_kept ∙ a_holds) (still_settled a mid read rest.a_settled))
      (λ image is other left. subst (λ (m : List ℕ). GivesRows image m rows) (bytes_are b second other b_holds rest.b_settled left)
      (subst (λ (r : List Row). GivesRows image second r) none (started_gives first second image choice is))))

  pub fresh_settled : (a new b later_b : D) (store : Standing) → AreAtRest contents images a b → ((first second : List ℕ) → contents a ≡ Some first → contents b ≡ Some second → IsChoice first second Fresh) → Read b later_b → IsEmpty store
      → HoldsOpened contents images new 1 [] store.end → AreSettled contents images new later_b (chosen_by store)
  fresh_settled a new b later_b store rest fresh read is holds =
      let one = told_bytes (contents a) rest.a_told in
      let two = told_bytes (contents b) rest.b_told in
      subst (λ (c : Choice). AreSettled contents images new later_b c) (empty_choice store is) (record {
        first = holds.area;
        second = two.0;
        a_holds = holds.holds;
        b_holds = read.contents_kept ∙ two.1;
        a_settled = holds.settled;
        b_settled = still_settled b later_b read rest.b_settled;
        chosen = chosen_near A holds.area two.0 1 [] store.end holds.opened (shut_yields two.0 A 1 (inl (second_is_blank one.0 two.0 (fresh one.0 two.0 one.1 two.1))));
      })

  pub fresh_goes_on : (a mid new b later_b : D) (store : Standing) → AreAtRest contents images a b → Read a mid → Read b later_b → IsEmpty store
      → ((before : List ℕ) → contents mid ≡ Some before → Only (contents mid) (images mid) → LeavesOnly moment images_since mid new (IsStartedWithSome 1 [] [] before))
      → GoesOn contents moment images_since store.generation store.rows [] a b new later_b
  fresh_goes_on a mid new b later_b store rest read_a read_b is starts =
      let one = told_bytes (contents a) rest.a_told in
      subst (λ (g : ℕ). GoesOn contents moment images_since g store.rows [] a b new later_b) (sym is.generation)
      (subst (λ (r : List Row). GoesOn contents moment images_since 1 r [] a b new later_b) (sym is.rows) (record {
        of_a = behind moment images_since a mid new (MayHold (contents a) 1 [] []) (read_may_hold a mid 1 [] read_a rest.a_settled)
            (weaker moment images_since mid new (IsStartedWithSome 1 [] [] one.0) (MayHold (contents a) 1 [] []) (starts one.0 (read_a.contents_kept ∙ one.1) (still_settled a mid read_a rest.a_settled))
            (λ image is. started_may_hold (contents a) one.0 image one.1 is));
        of_b = read_may_hold b later_b 1 [] read_b rest.b_settled;
      }))

  pub chosen_settled : (a later_a b later_b : D) (area : Which) (generation : ℕ) (rows : List Row) (start end : ℕ) → AreAtRest contents images a b
      → ((first second : List ℕ) → contents a ≡ Some first → contents b ≡ Some second → IsChoice first second (Chosen area generation rows start end)) → start ≡ 29 → Read a later_a → Read b later_b
      → AreSettled contents images later_a later_b (Chosen area generation rows 29 end)
  chosen_settled a later_a b later_b area generation rows start end rest choice from read_a read_b =
      let one = told_bytes (contents a) rest.a_told in
      let two = told_bytes (contents b) rest.b_told in
      record {
        first = one.0;
        second = two.0;
        a_holds = read_a.contents_kept ∙ one.1;
        b_holds = read_b.contents_kept ∙ two.1;
        a_settled = still_settled a later_a read_a rest.a_settled;
        b_settled = still_settled b later_b read_b rest.b_settled;
        chosen = subst (λ (s : ℕ). IsChoice one.0 two.0 (Chosen area generation rows s end)) from (choice one.0 two.0 one.1 two.1);
      }
