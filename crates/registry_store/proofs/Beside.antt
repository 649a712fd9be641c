-- The area that is written beside the other one, at every moment.
use Rattle.std.proofs.Common.{◌≡◌, inl, inr, ℕ, ◌+◌, ◌≤◌, List, length, take, Option, Some, IfSome, refl, sym, ◌∙◌, ap, subst, arith}
use Rattle.outside.specs.DiskImages.{LeavesOnly, Only}
use Rattle.outside.specs.Moments.{started}
use Rattle.wire_base.specs.declared.limits.Which.{Which}
use Rattle.wire_base.specs.declared.limits.Which.TheVariants.{A, B}
use Rattle.wire_base.specs.declared.row.Op.{Op}
use Rattle.wire_base.specs.declared.row.Row.{Row}
use Rattle.ship_core.specs.Replay.{replay_on}
use Rattle.registry_store.specs.Appending.{HoldsOpened, IsOpenedWithSome, IsStartedWithSome}
use Rattle.registry_store.specs.Beside.{IsSafeBeside}
use Rattle.registry_store.specs.Choice.{Choice, Chosen, GivesRows, IsChoice}
use Rattle.registry_store.specs.Committing.{AreAfterSome, GivesSome, GoesOn, MayHold}
use Rattle.registry_store.specs.Settled.{AreSettled}
use Rattle.registry_store.specs.Sides.{of_area, other_area}
use Rattle.registry_store.proofs.Appended.{same_bytes}
use Rattle.registry_store.proofs.Choosing.{IsYielding, chosen_far, chosen_near, far_yields, near_is_opened, shut_yields}
use Rattle.registry_store.proofs.Moments.{weaker}

-- ---- images

gives_turned : (used : Which) (written other : List ℕ) (rows : List Row) → GivesRows (of_area used other written) (of_area used written other) rows → GivesRows (of_area (other_area used) written other) (of_area (other_area used) other written) rows
gives_turned A written other rows gives = gives
gives_turned B written other rows gives = gives

after_some : (rows : List Row) (ops : List Op) (count : ℕ) → count ≤ length ops → AreAfterSome rows ops (replay_on rows (take count ops))
after_some rows ops count within = record { count = count; within = within; replayed = refl }

-- what is appended to the used area
near_is_safe : (used : Which) (near far image : List ℕ) (before : Option (List ℕ)) (generation : ℕ) (rows : List Row) (ops : List Op) (others : List ℕ → Type 0) → ((other : List ℕ) → others other → far ≡ other)
    → IsYielding far used generation → IsOpenedWithSome generation rows ops image → IsSafeBeside used before others generation rows ops image
near_is_safe used near far image before generation rows ops others only yielding is =
    let after = after_some rows ops is.count is.within in
    let found = replay_on rows (take is.count ops) in
    record {
      may_hold = inr (inr (record { its_generation = generation; found = found; end = is.end; later = omega arith; after = after; opened = is.opened }));
      gives = λ other left.
          let Gives : List ℕ → Type 0 = λ l. GivesSome rows ops (of_area used image l) (of_area used l image) in
          subst Gives (only other left) (record {
            found = found;
            after = after;
            given = record { choice = Chosen used generation found 29 is.end; chosen = chosen_near used image far generation found is.end is.opened yielding; given = refl };
          });
    }

-- what is written to the other area, from the start on
far_is_safe : (used : Which) (near far image : List ℕ) (before : Option (List ℕ)) (generation : ℕ) (rows : List Row) (end : ℕ) (ops : List Op) (others : List ℕ → Type 0) → ((other : List ℕ) → others other → near ≡ other)
    → before ≡ Some far → IsChoice (of_area used near far) (of_area used far near) (Chosen used generation rows 29 end) → IsStartedWithSome (generation + 1) rows ops far image
    → IsSafeBeside (other_area used) before others generation rows ops image
far_is_safe used near far image before generation rows end ops others only holds choice (inl (inl same)) = record {
  may_hold = inl (holds ∙ ap (λ (l : List ℕ). Some l) (sym same));
  gives = λ other left.
      let Gives : List ℕ → List ℕ → Type 0 = λ l m. GivesSome rows ops (of_area (other_area used) l m) (of_area (other_area used) m l) in
      subst (λ (m : List ℕ). Gives image m) (only other left) (subst (λ (l : List ℕ). Gives l near) (sym same) (record {
        found = rows;
        after = after_some rows ops 0 (omega arith);
        given = gives_turned used far near rows (record { choice = Chosen used generation rows 29 end; chosen = choice; given = refl });
      }));
}
far_is_safe used near far image before generation rows end ops others only holds choice (inl (inr shut)) = record {
  may_hold = inr (inl shut);
  gives = λ other left.
      let Gives : List ℕ → Type 0 = λ l. GivesSome rows ops (of_area (other_area used) image l) (of_area (other_area used) l image) in
      let opened = near_is_opened used near far generation rows 29 end choice in
      subst Gives (only other left) (record {
        found = rows;
        after = after_some rows ops 0 (omega arith);
        given = gives_turned used image near rows (record { choice = Chosen used generation rows 29 end; chosen = chosen_near used near image generation rows end opened (shut_yields image used generation shut); given = refl });
      });
}
far_is_safe used near far image before generation rows end ops others only holds choice (inr is) =
    let after = after_some rows ops is.count is.within in
    let found = replay_on rows (take is.count ops) in
    record {
      may_hold = inr (inr (record { its_generation = generation + 1; found = found; end = is.end; later = omega arith; after = after; opened = is.opened }));
      gives = λ other left.
          let Gives : List ℕ → Type 0 = λ l. GivesSome rows ops (of_area (other_area used) image l) (of_area (other_area used) l image) in
          let opened = near_is_opened used near far generation rows 29 end choice in
          subst Gives (only other left) (record {
            found = found;
            after = after;
            given = gives_turned used image near found (record { choice = Chosen (other_area used) (generation + 1) found 29 is.end; chosen = chosen_far used near image generation (generation + 1) rows found end is.end opened is.opened (omega arith); given = refl });
          });
    }

-- ---- disks

module _ {D : Type 0} (contents : D → Option (List ℕ)) (images : D → List ℕ → Type 0) (moment : D → ℕ) (images_since : D → ℕ → List ℕ → Type 0) where
  -- the disk of the area that is used, and the other one
  pub record AreSettledBeside (used : Which) (near far : D) (generation : ℕ) (rows : List Row) (end : ℕ) : Type 0 where
    pub near_bytes : List ℕ
    pub far_bytes : List ℕ
    pub near_holds : contents near ≡ Some near_bytes
    pub far_holds : contents far ≡ Some far_bytes
    pub near_settled : Only (contents near) (images near)
    pub far_settled : Only (contents far) (images far)
    pub chosen : IsChoice (of_area used near_bytes far_bytes) (of_area used far_bytes near_bytes) (Chosen used generation rows 29 end)

  pub apart : (used : Which) (near far : D) (generation : ℕ) (rows : List Row) (end : ℕ) → AreSettled contents images (of_area used near far) (of_area used far near) (Chosen used generation rows 29 end) → AreSettledBeside used near far generation rows end
  apart A near far generation rows end settled = record {
    near_bytes = settled.first;
    far_bytes = settled.second;
    near_holds = settled.a_holds;
    far_holds = settled.b_holds;
    near_settled = settled.a_settled;
    far_settled = settled.b_settled;
    chosen = settled.chosen;
  }
  apart B near far generation rows end settled = record {
    near_bytes = settled.second;
    far_bytes = settled.first;
    near_holds = settled.b_holds;
    far_holds = settled.a_holds;
    near_settled = settled.b_settled;
    far_settled = settled.a_settled;
    chosen = settled.chosen;
  }

  together : (used : Which) (near far : D) (near_bytes far_bytes : List ℕ) (choice : Choice) → contents near ≡ Some near_bytes → contents far ≡ Some far_bytes → Only (contents near) (images near) → Only (contents far) (images far)
      → IsChoice (of_area used near_bytes far_bytes) (of_area used far_bytes near_bytes) choice → AreSettled contents images (of_area used near far) (of_area used far near) choice
  together A near far near_bytes far_bytes choice near_holds far_holds near_settled far_settled chosen = record {
    first = near_bytes;
    second = far_bytes;
    a_holds = near_holds;
    b_holds = far_holds;
    a_settled = near_settled;
    b_settled = far_settled;
    chosen = chosen;
  }
  together B near far near_bytes far_bytes choice near_holds far_holds near_settled far_settled chosen = record {
    first = far_bytes;
    second = near_bytes;
    a_holds = far_holds;
    b_holds = near_holds;
    a_settled = far_settled;
    b_settled = near_settled;
    chosen = chosen;
  }

  pub near_holds : (used : Which) (near far : D) (generation : ℕ) (rows : List Row) (end : ℕ) → AreSettledBeside used near far generation rows end → HoldsOpened contents images near generation rows end
  near_holds used near far generation rows end settled = record {
    area = settled.near_bytes;
    holds = settled.near_holds;
    settled = settled.near_settled;
    opened = near_is_opened used settled.near_bytes settled.far_bytes generation rows 29 end settled.chosen;
  }

  only_bytes : (disk : D) (bytes other : List ℕ) → contents disk ≡ Some bytes → Only (contents disk) (images disk) → images disk other → bytes ≡ other
  only_bytes disk bytes other holds settled left = same_bytes bytes other (sym holds ∙ settled other left)

  pub near_safe : (used : Which) (near later far : D) (generation : ℕ) (rows : List Row) (end : ℕ) (ops : List Op) → AreSettledBeside used near far generation rows end
      → LeavesOnly moment images_since near later (IsOpenedWithSome generation rows ops) → LeavesOnly moment images_since near later (IsSafeBeside used (contents near) (images far) generation rows ops)
  near_safe used near later far generation rows end ops settled leaves =
      weaker moment images_since near later (IsOpenedWithSome generation rows ops) (IsSafeBeside used (contents near) (images far) generation rows ops) leaves
      (λ image is. near_is_safe used settled.near_bytes settled.far_bytes image (contents near) generation rows ops (images far)
      (λ other left. only_bytes far settled.far_bytes other settled.far_holds settled.far_settled left)
      (far_yields used settled.near_bytes settled.far_bytes generation rows 29 end settled.chosen) is)

  pub far_safe : (used : Which) (near far later : D) (generation : ℕ) (rows : List Row) (end : ℕ) (ops : List Op) → AreSettledBeside used near far generation rows end
      → ((before : List ℕ) → contents far ≡ Some before → Only (contents far) (images far) → LeavesOnly moment images_since far later (IsStartedWithSome (generation + 1) rows ops before))
      → LeavesOnly moment images_since far later (IsSafeBeside (other_area used) (contents far) (images near) generation rows ops)
  far_safe used near far later generation rows end ops settled leaves =
      weaker moment images_since far later (IsStartedWithSome (generation + 1) rows ops settled.far_bytes) (IsSafeBeside (other_area used) (contents far) (images near) generation rows ops)
      (leaves settled.far_bytes settled.far_holds settled.far_settled)
      (λ image is. far_is_safe used settled.near_bytes settled.far_bytes image (contents far) generation rows end ops (images near)
      (λ other left. only_bytes near settled.near_bytes other settled.near_holds settled.near_settled left)
      settled.far_holds settled.chosen is)

  pub near_appended : (used : Which) (near later far : D) (generation : ℕ) (rows found : List Row) (end gate : ℕ) → AreSettledBeside used near far generation rows end → HoldsOpened contents images later generation found gate
      → AreSettled contents images (of_area used later far) (of_area used far later) (Chosen used generation found 29 gate)
  near_appended used near later far generation rows found end gate settled holds =
      together used later far holds.area settled.far_bytes (Chosen used generation found 29 gate) holds.holds settled.far_holds holds.settled settled.far_settled
      (chosen_near used holds.area settled.far_bytes generation found gate holds.opened (far_yields used settled.near_bytes settled.far_bytes generation rows 29 end settled.chosen))

  pub far_started : (used after : Which) (near far later : D) (generation : ℕ) (rows found : List Row) (end gate : ℕ) → after ≡ other_area used → AreSettledBeside used near far generation rows end
      → HoldsOpened contents images later (generation + 1) found gate → AreSettled contents images (of_area used near later) (of_area used later near) (Chosen after (generation + 1) found 29 gate)
  far_started used after near far later generation rows found end gate is settled holds =
      let Settled : Which → Type 0 = λ w. AreSettled contents images (of_area used near later) (of_area used later near) (Chosen w (generation + 1) found 29 gate) in
      subst Settled (sym is) (together used near later settled.near_bytes holds.area (Chosen (other_area used) (generation + 1) found 29 gate) settled.near_holds holds.holds settled.near_settled holds.settled
      (chosen_far used settled.near_bytes holds.area generation (generation + 1) rows found end gate (near_is_opened used settled.near_bytes settled.far_bytes generation rows 29 end settled.chosen) holds.opened (omega arith)))

  -- ---- at the end of a commit

  holds_still : (disk : D) (bytes image : List ℕ) → ((image : List ℕ) → images_since disk (moment disk) image → images disk image) → contents disk ≡ Some bytes → Only (contents disk) (images disk) → images_since disk (moment disk) image → bytes ≡ image
  holds_still disk bytes image here holds settled left = only_bytes disk bytes image holds settled (here image left)

  pub still_gives : (written area : Which) (a b : D) (generation : ℕ) (rows : List Row) (end : ℕ) (ops : List Op) → ((disk : D) (image : List ℕ) → images_since disk (moment disk) image → images disk image)
      → AreSettled contents images a b (Chosen area generation rows 29 end)
      → LeavesOnly moment images_since (of_area written a b) (of_area written a b)
      (λ image. (other : List ℕ) → images (of_area (other_area written) a b) other → GivesSome rows ops (of_area written image other) (of_area written other image))
  still_gives A area a b generation rows end ops here settled =
      started moment images_since a (λ image. (other : List ℕ) → images b other → GivesSome rows ops image other)
      (λ image left other stays.
      let Gives : List ℕ → List ℕ → Type 0 = λ l m. GivesSome rows ops l m in
      subst (λ (m : List ℕ). Gives image m) (only_bytes b settled.second other settled.b_holds settled.b_settled stays)
      (subst (λ (l : List ℕ). Gives l settled.second) (holds_still a settled.first image (here a) settled.a_holds settled.a_settled left)
      (record { found = rows; after = after_some rows ops 0 (omega arith); given = record { choice = Chosen area generation rows 29 end; chosen = settled.chosen; given = refl } })))
  still_gives B area a b generation rows end ops here settled =
      started moment images_since b (λ image. (other : List ℕ) → images a other → GivesSome rows ops other image)
      (λ image left other stays.
      let Gives : List ℕ → List ℕ → Type 0 = λ l m. GivesSome rows ops l m in
      subst (λ (l : List ℕ). Gives l image) (only_bytes a settled.first other settled.a_holds settled.a_settled stays)
      (subst (λ (m : List ℕ). Gives settled.first m) (holds_still b settled.second image (here b) settled.b_holds settled.b_settled left)
      (record { found = rows; after = after_some rows ops 0 (omega arith); given = record { choice = Chosen area generation rows 29 end; chosen = settled.chosen; given = refl } })))

  -- a disk that was not touched
  pub left_alone : (disk later : D) (generation : ℕ) (rows : List Row) (ops : List Op) → ((image : List ℕ) → images_since disk (moment disk) image → images disk image) → Only (contents disk) (images disk) → later ≡ disk
      → LeavesOnly moment images_since disk later (MayHold (contents disk) generation rows ops)
  left_alone disk later generation rows ops here settled same =
      let Leaves : D → Type 0 = λ d. LeavesOnly moment images_since disk d (MayHold (contents disk) generation rows ops) in
      subst Leaves (sym same) (started moment images_since disk (MayHold (contents disk) generation rows ops) (λ image left. inl (settled image (here image left))))

  pub goes_on_beside : (written : Which) (a b later_a later_b : D) (choice : Choice) (generation : ℕ) (rows : List Row) (ops : List Op) → ((disk : D) (image : List ℕ) → images_since disk (moment disk) image → images disk image)
      → AreSettled contents images a b choice
      → LeavesOnly moment images_since (of_area written a b) (of_area written later_a later_b) (IsSafeBeside written (contents (of_area written a b)) (images (of_area (other_area written) a b)) generation rows ops)
      → of_area (other_area written) later_a later_b ≡ of_area (other_area written) a b
      → GoesOn contents moment images_since generation rows ops a b later_a later_b
  goes_on_beside A a b later_a later_b choice generation rows ops here settled leaves kept = record {
    of_a = weaker moment images_since a later_a (IsSafeBeside A (contents a) (images b) generation rows ops) (MayHold (contents a) generation rows ops) leaves (λ image is. is.may_hold);
    of_b = left_alone b later_b generation rows ops (here b) settled.b_settled kept;
  }
  goes_on_beside B a b later_a later_b choice generation rows ops here settled leaves kept = record {
    of_a = left_alone a later_a generation rows ops (here a) settled.a_settled kept;
    of_b = weaker moment images_since b later_b (IsSafeBeside B (contents b) (images a) generation rows ops) (MayHold (contents b) generation rows ops) leaves (λ image is. is.may_hold);
  }

  pub gives_beside : (written : Which) (old new other : D) (generation : ℕ) (rows : List Row) (ops : List Op) (before : Option (List ℕ)) → LeavesOnly moment images_since old new (IsSafeBeside written before (images other) generation rows ops)
      → LeavesOnly moment images_since old new (λ image. (beside : List ℕ) → images other beside → GivesSome rows ops (of_area written image beside) (of_area written beside image))
  gives_beside written old new other generation rows ops before leaves =
      weaker moment images_since old new (IsSafeBeside written before (images other) generation rows ops) (λ image. (beside : List ℕ) → images other beside → GivesSome rows ops (of_area written image beside) (of_area written beside image)) leaves
      (λ image is. is.gives)

  -- what is left in the end
  module _ (reads : (disk : D) → IfSome (contents disk) (images disk)) (counts : (disk : D) (since : ℕ) (image : List ℕ) → since ≤ moment disk → images disk image → images_since disk since image) where
    reads_bytes : (disk : D) (bytes : List ℕ) → contents disk ≡ Some bytes → images disk bytes
    reads_bytes disk bytes holds = subst (λ (o : Option (List ℕ)). IfSome o (images disk)) holds (reads disk)

    pub left_gives : (written : Which) (a b later_a later_b : D) (rows : List Row) (ops : List Op)
        → LeavesOnly moment images_since (of_area written a b) (of_area written later_a later_b)
        (λ image. (other : List ℕ) → images (of_area (other_area written) a b) other → GivesSome rows ops (of_area written image other) (of_area written other image))
        → of_area (other_area written) later_a later_b ≡ of_area (other_area written) a b
        → (first second : List ℕ) → contents later_a ≡ Some first → contents later_b ≡ Some second → GivesSome rows ops first second
    left_gives A a b later_a later_b rows ops leaves kept first second a_holds b_holds =
        leaves.each first (counts later_a (moment a) first leaves.later (reads_bytes later_a first a_holds)) second
        (subst (λ (d : D). images d second) kept (reads_bytes later_b second b_holds))
    left_gives B a b later_a later_b rows ops leaves kept first second a_holds b_holds =
        leaves.each second (counts later_b (moment b) second leaves.later (reads_bytes later_b second b_holds)) first
        (subst (λ (d : D). images d first) kept (reads_bytes later_a first a_holds))
