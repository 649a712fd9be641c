-- The images that the keeper's turns leave.
use Rattle.std.proofs.Common.{◌≡◌, ◌⊎◌, ⊎_elim, ℕ, Bool, true, false, List, [], ◌∷◌, ◌++◌, length, Option, inl, inr, sym, ap, subst, ◌∙◌, append_assoc, append-nil}
use Rattle.kept_rows.specs.Backed.{AreRowsOverFronts, IsRowOverAFront}
use Rattle.keeper.specs.Keeping.{Keeping}
use Rattle.keeper.specs.Storing.{AreRowsBetween}
use Rattle.keeper.specs.declared.turn.KeeperTurn.{KeeperTurn}
use Rattle.keeper.specs.declared.turn.KeeperTurn.TheVariants.{Kept, Empty, DiskFault, NoMemory}
use Rattle.outside.specs.DiskImages.{LeavesOnly}
use Rattle.registry_store.specs.Committing.{AreAfterSome, GivesSome, MayHold}
use Rattle.registry_store.specs.Settled.{AreSettled}
use Rattle.registry_store.specs.Sides.{of_area, other_area}
use Rattle.registry_store.specs.Standing.{chosen_by, written_area}
use Rattle.ship_core.specs.Orderly.{AreOrderly}
use Rattle.ship_core.specs.Rows.{find}
use Rattle.ship_core.specs.RowsOver.{row_for}
use Rattle.wire_base.specs.declared.note.Note.{Note}
use Rattle.wire_base.specs.declared.row.Op.{Op}
use Rattle.wire_base.specs.declared.row.Row.{Row}
use Rattle.rounds.specs.Images.{AreAtRest, GivesFronts, ImagesAreFronts, IsFront, MayHoldFronts, TurnLeaves, TurnsLeave}
use Rattle.rounds.specs.KeeperTurns.{AllButLastKept, IsKeeping, KeeperRan, KeeperRun, KeeperTurned, StoringState, begun_stored, stored_of, stored_with, storing_state}
use Rattle.rounds.specs.Words.{DiskWords}
use Rattle.rounds.specs.declared.storing.Stored.{Stored}
use Rattle.rounds.specs.declared.storing.Storing.{Storing}

-- ---- truth

abbrev IsSet : Bool → Type 0
IsSet true = Unit {0}
IsSet false = ⊥

apart : {P : Type 0} → true ≡ false → P
apart is = absurd (subst IsSet is tt)

-- ---- fronts

whole_front : (notes : List Note) → IsFront notes notes
whole_front notes = record { rest = []; are = sym (append-nil notes) }

front_on : (a b c : List Note) → IsFront a b → IsFront b c → IsFront a c
front_on a b c first then = record {
  rest = first.rest ++ then.rest;
  are = then.are ∙ ap (λ (l : List Note). l ++ then.rest) first.are ∙ append_assoc a first.rest then.rest;
}

-- the first of orderly notes are orderly
orderly_front : (front notes : List Note) → IsFront front notes → AreOrderly notes → AreOrderly front
orderly_front front notes of orderly = record {
  each = λ earlier note later are. orderly.each earlier note (later ++ of.rest)
      (of.are ∙ ap (λ (l : List Note). l ++ of.rest) are ∙ append_assoc earlier (note ∷ later) of.rest);
}

row_of : (opening : List Row) (committed now notes : List Note) (rows : List Row) (key : List ℕ) → IsFront committed notes → IsFront now notes
    → (find key rows ≡ row_for opening committed key) ⊎ (find key rows ≡ row_for opening now key) → IsRowOverAFront opening notes rows key
row_of opening committed now notes rows key first then (inl is) = record { front = committed; rest = first.rest; notes_are = first.are; is = is }
row_of opening committed now notes rows key first then (inr is) = record { front = now; rest = then.rest; notes_are = then.are; is = is }

fronts_of : (opening : List Row) (committed now notes : List Note) (rows : List Row) → IsFront committed notes → IsFront now notes → AreRowsBetween opening committed now rows → AreRowsOverFronts opening notes rows
fronts_of opening committed now notes rows first then between = record {
  in_order = between.in_order;
  each = λ key. row_of opening committed now notes rows key first then (between.each key);
}

-- the rows after some of the updates, where they are between those over the committed notes and those over all
module _ (opening : List Row) (committed now notes : List Note) (rows : List Row) (ops : List Op) (first : IsFront committed notes) (then : IsFront now notes)
    (between : (found : List Row) → AreAfterSome rows ops found → AreRowsBetween opening committed now found) where
  gives_fronts : (a b : List ℕ) → GivesSome rows ops a b → GivesFronts opening notes a b
  gives_fronts a b some = record {
    rows = some.found;
    given = some.given;
    fronts = fronts_of opening committed now notes some.found first then (between some.found some.after);
  }

  holds_fronts : (before : Option (List ℕ)) (generation : ℕ) (area : List ℕ) → MayHold before generation rows ops area → MayHoldFronts opening notes before generation area
  holds_fronts before generation area (inl same) = inl same
  holds_fronts before generation area (inr (inl shut)) = inr (inl shut)
  holds_fronts before generation area (inr (inr is)) = inr (inr (record {
    its_generation = is.its_generation;
    rows = is.found;
    end = is.end;
    later = is.later;
    opened = is.opened;
    fronts = fronts_of opening committed now notes is.found first then (between is.found is.after);
  }))

-- ---- moments

leaves_as : {D : Type 0} (moment : D → ℕ) (images_since : D → ℕ → List ℕ → Type 0) (old new : D) (P Q : List ℕ → Type 0) → ((image : List ℕ) → P image → Q image) → LeavesOnly moment images_since old new P → LeavesOnly moment images_since old new Q
leaves_as moment images_since old new P Q implied leaves = record {
  later = leaves.later;
  each = λ image since. implied image (leaves.each image since);
  before = λ start image le since. ⊎_elim (λ past. inl past) (λ now. inr (implied image now)) (leaves.before start image le since);
}

-- ---- turns

module _ {D : Type 0} (disks : DiskWords D) where
  Settled : StoringState D → Type 0
  Settled state = AreSettled disks.contents disks.images state.a state.b (chosen_by state.keeper.store)

  more_noted : (turn : KeeperTurn) (old new : StoringState D) → KeeperTurned disks turn old new → IsFront old.keeper.tracked.notes new.keeper.tracked.notes
  more_noted turn old new turned = record { rest = turned.collected.more; are = turned.collected.noted }

  more_noted_by : (turns : List KeeperTurn) (old new : StoringState D) → KeeperRun disks turns old new → IsFront old.keeper.tracked.notes new.keeper.tracked.notes
  more_noted_by [] old new is = subst (λ (s : StoringState D). IsFront old.keeper.tracked.notes s.keeper.tracked.notes) (sym is) (whole_front old.keeper.tracked.notes)
  more_noted_by (t ∷ ts) old new run = front_on old.keeper.tracked.notes run.0.keeper.tracked.notes new.keeper.tracked.notes (more_noted t old run.0 run.1) (more_noted_by ts run.0 new run.2)

  opening_stays : (turns : List KeeperTurn) (old new : StoringState D) → KeeperRun disks turns old new → new.keeper.tracked.opening ≡ old.keeper.tracked.opening
  opening_stays [] old new is = ap (λ (s : StoringState D). s.keeper.tracked.opening) is
  opening_stays (t ∷ ts) old new run = opening_stays ts run.0 new run.2 ∙ run.1.collected.opening

  -- what is committed after a turn that kept something
  committed_then : (t : KeeperTurn) (old new : StoringState D) → KeeperTurned disks t old new → IsKeeping t → IsFront new.keeper.tracked.committed new.keeper.tracked.notes
  committed_then (Kept count) old new turned kept = record { rest = []; are = sym turned.stored_in_full.committed ∙ sym (append-nil new.keeper.tracked.committed) }
  committed_then Empty old new turned kept = absurd kept
  committed_then DiskFault old new turned kept = absurd kept
  committed_then NoMemory old new turned kept = absurd kept

  settled_then : (t : KeeperTurn) (old new : StoringState D) → KeeperTurned disks t old new → IsKeeping t → Settled old → Settled new
  unfolding Settled
  settled_then (Kept count) old new turned kept settled = turned.settled settled turned.open_where_kept
  settled_then Empty old new turned kept settled = absurd kept
  settled_then DiskFault old new turned kept settled = absurd kept
  settled_then NoMemory old new turned kept settled = absurd kept

  turn_leaves : (t : KeeperTurn) (old new : StoringState D) (notes : List Note) → KeeperTurned disks t old new → Settled old → IsFront old.keeper.tracked.committed notes → IsFront new.keeper.tracked.notes notes → AreOrderly notes
      → TurnLeaves disks old.keeper.tracked.opening notes old new
  unfolding Settled
  turn_leaves t old new notes turned settled committed noted orderly =
      let commits = turned.commits settled in
      let written = written_area old.keeper.store commits.ops in
      let opening = old.keeper.tracked.opening in
      let rows = old.keeper.store.rows in
      let generation = old.keeper.store.generation in
      let before = old.keeper.tracked.committed in
      let now = new.keeper.tracked.notes in
      let between = commits.between (orderly_front now notes noted orderly) in
      record {
        written = written;
        leaves = leaves_as disks.moment disks.images_since (of_area written old.a old.b) (of_area written new.a new.b)
            (λ image. (other : List ℕ) → disks.images (of_area (other_area written) old.a old.b) other → GivesSome rows commits.ops (of_area written image other) (of_area written other image))
            (λ image. (other : List ℕ) → disks.images (of_area (other_area written) old.a old.b) other → GivesFronts opening notes (of_area written image other) (of_area written other image))
            (λ image gives other is. gives_fronts opening before now notes rows commits.ops committed noted between (of_area written image other) (of_area written other image) (gives other is))
            commits.each_moment;
        other_same = commits.other_area_kept;
        of_a = leaves_as disks.moment disks.images_since old.a new.a (MayHold (disks.contents old.a) generation rows commits.ops) (MayHoldFronts opening notes (disks.contents old.a) generation)
            (λ image may. holds_fronts opening before now notes rows commits.ops committed noted between (disks.contents old.a) generation image may)
            commits.goes_on.of_a;
        of_b = leaves_as disks.moment disks.images_since old.b new.b (MayHold (disks.contents old.b) generation rows commits.ops) (MayHoldFronts opening notes (disks.contents old.b) generation)
            (λ image may. holds_fronts opening before now notes rows commits.ops committed noted between (disks.contents old.b) generation image may)
            commits.goes_on.of_b;
        left = λ first second first_is second_is. gives_fronts opening before now notes rows commits.ops committed noted between first second (commits.left first second first_is second_is);
      }

  turns_leave : (turns : List KeeperTurn) (old new : StoringState D) (notes : List Note) → KeeperRun disks turns old new → AllButLastKept turns → Settled old → IsFront old.keeper.tracked.committed old.keeper.tracked.notes
      → IsFront new.keeper.tracked.notes notes → AreOrderly notes → TurnsLeave disks old.keeper.tracked.opening notes (length turns) old new
  turns_leave [] old new notes is kept settled committed noted orderly = is
  turns_leave (t ∷ []) old new notes run kept settled committed noted orderly =
      let first = front_on run.0.keeper.tracked.notes new.keeper.tracked.notes notes (more_noted_by [] run.0 new run.2) noted in
      let earlier = front_on old.keeper.tracked.notes run.0.keeper.tracked.notes notes (more_noted t old run.0 run.1) first in
      (run.0, turn_leaves t old run.0 notes run.1 settled (front_on old.keeper.tracked.committed old.keeper.tracked.notes notes committed earlier) first orderly, run.2)
  turns_leave (t ∷ next ∷ ts) old new notes run kept settled committed noted orderly =
      let first = front_on run.0.keeper.tracked.notes new.keeper.tracked.notes notes (more_noted_by (next ∷ ts) run.0 new run.2) noted in
      let earlier = front_on old.keeper.tracked.notes run.0.keeper.tracked.notes notes (more_noted t old run.0 run.1) first in (
        run.0,
        turn_leaves t old run.0 notes run.1 settled (front_on old.keeper.tracked.committed old.keeper.tracked.notes notes committed earlier) first orderly,
        subst (λ (opening : List Row). TurnsLeave disks opening notes (length (next ∷ ts)) run.0 new) run.1.collected.opening
            (turns_leave (next ∷ ts) run.0 new notes run.2 kept.1 (settled_then t old run.0 run.1 kept.0 settled) (committed_then t old run.0 run.1 kept.0) noted orderly),
      )

  pub images_are_fronts : (old new : Storing D) → KeeperRan disks old new → AreAtRest disks old → AreOrderly new.keeper.now.tracked.notes → ImagesAreFronts disks old new
  unfolding Settled
  images_are_fronts old new ran kept orderly = record {
    turns = length ran.turns;
    leave = subst (λ (opening : List Row). TurnsLeave disks opening new.keeper.now.tracked.notes (length ran.turns) (storing_state old) (storing_state new)) (sym (opening_stays ran.turns (storing_state old) (storing_state new) ran.ran))
        (turns_leave ran.turns (storing_state old) (storing_state new) new.keeper.now.tracked.notes ran.ran ran.kept kept.settled kept.committed (whole_front new.keeper.now.tracked.notes) orderly);
  }

  -- ---- where no turn found a fault or no memory, the areas are as the next round wants them

  same_where_empty : (a b : StoringState D) → KeeperTurned disks Empty a b → b ≡ a
  same_where_empty a b turned =
      ap (λ (k : Keeping). record b { keeper = k }) turned.kept_where_empty ∙ ap (λ (d : D). record { keeper = a.keeper; a = d; b = b.b }) turned.a_kept_where_empty ∙ ap (λ (d : D). record { keeper = a.keeper; a = a.a; b = d }) turned.b_kept_where_empty

  kept_by : (ts : List KeeperTurn) (stored : Stored) (a b : StoringState D) → KeeperRun disks ts a b → AllButLastKept ts → (stored_of stored ts).disk ≡ false → (stored_of stored ts).memory ≡ false
      → Settled a → IsFront a.keeper.tracked.committed a.keeper.tracked.notes → Settled b × IsFront b.keeper.tracked.committed b.keeper.tracked.notes
  unfolding Settled
  kept_by [] stored a b is kept disk memory settled committed = subst (λ (s : StoringState D). AreSettled disks.contents disks.images s.a s.b (chosen_by s.keeper.store) × IsFront s.keeper.tracked.committed s.keeper.tracked.notes) (sym is) (settled, committed)
  kept_by (Kept count ∷ []) stored a b run kept disk memory settled committed =
      kept_by [] (stored_with (Kept count) stored) run.0 b run.2 tt disk memory (settled_then (Kept count) a run.0 run.1 tt settled) (committed_then (Kept count) a run.0 run.1 tt)
  kept_by (Empty ∷ []) stored a b run kept disk memory settled committed =
      kept_by [] (stored_with Empty stored) run.0 b run.2 tt disk memory
      (subst (λ (s : StoringState D). AreSettled disks.contents disks.images s.a s.b (chosen_by s.keeper.store)) (sym (same_where_empty a run.0 run.1)) settled)
      (subst (λ (s : StoringState D). IsFront s.keeper.tracked.committed s.keeper.tracked.notes) (sym (same_where_empty a run.0 run.1)) committed)
  kept_by (DiskFault ∷ []) stored a b run kept disk memory settled committed = apart disk
  kept_by (NoMemory ∷ []) stored a b run kept disk memory settled committed = apart memory
  kept_by (t ∷ next ∷ ts) stored a b run kept disk memory settled committed =
      kept_by (next ∷ ts) (stored_with t stored) run.0 b run.2 kept.1 disk memory (settled_then t a run.0 run.1 kept.0 settled) (committed_then t a run.0 run.1 kept.0)

  pub kept_still : (old new : Storing D) → KeeperRan disks old new → new.stored.disk ≡ false → new.stored.memory ≡ false → AreAtRest disks old → AreAtRest disks new
  unfolding Settled
  kept_still old new ran disk memory kept =
      let still = kept_by ran.turns begun_stored (storing_state old) (storing_state new) ran.ran ran.kept (sym (ap (λ (s : Stored). s.disk) ran.stored) ∙ disk) (sym (ap (λ (s : Stored). s.memory) ran.stored) ∙ memory) kept.settled kept.committed in
      record { settled = still.0; committed = still.1 }

  -- without a turn
  pub rested_images : (old new : Storing D) → new ≡ record old { stored = begun_stored } → ImagesAreFronts disks old new
  rested_images old new is = record { turns = 0; leave = ap (λ (s : Storing D). storing_state s) is }

  pub rested_kept : (old new : Storing D) → new ≡ record old { stored = begun_stored } → AreAtRest disks old → AreAtRest disks new
  rested_kept old new is kept = subst (λ (s : Storing D). AreAtRest disks s) (sym is) (record { settled = kept.settled; committed = kept.committed })
