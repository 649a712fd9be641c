-- Rows between two commits, and areas to which nothing is committed.
use Rattle.std.proofs.Common.{◌≡◌, ◌≢◌, ◌⊎◌, inl, inr, ℕ, false, zero, suc, List, [], ◌∷◌, length, take, Option, Some, unwrap_or, refl, sym, ap, ◌∙◌, subst, arith}
use Rattle.std.proofs.lemmas.List.{take_all}
use Rattle.std.proofs.lemmas.List.Elements.{All-from_recursion, All-take, recursion_from_All}
use Rattle.std.specs.List.{AllByRecursion}
use Rattle.std.specs.declared.cmp.Ordering.{Ordering}
use Rattle.std.specs.declared.cmp.Ordering.TheVariants.{Less, Equal, Greater}
use Rattle.ack_tracker.specs.Tracked.{Tracked}
use Rattle.outside.specs.DiskImages.{LeavesOnly}
use Rattle.registry_store.specs.Choice.{IsChoice}
use Rattle.registry_store.specs.Committing.{AreAfterSome, GivesSome, GoesOn, MayHold}
use Rattle.registry_store.specs.Settled.{AreSettled}
use Rattle.registry_store.specs.Sides.{of_area, other_area}
use Rattle.registry_store.specs.Standing.{Standing, chosen_by, generation_after, written_area}
use Rattle.ship_core.specs.Changes.{AreAscending, LeadTo, key_in}
use Rattle.ship_core.specs.Orderly.{AreOrderly}
use Rattle.ship_core.specs.Replay.{after_op, replay_on}
use Rattle.ship_core.specs.Rows.{IsInOrder, find, key_of}
use Rattle.ship_core.specs.RowsOver.{AreRowsOver}
use Rattle.wire_base.proofs.ByteOrder.{compare_same, same_key}
use Rattle.wire_base.proofs.Keyed.{find-with_not, find-without_not}
use Rattle.wire_base.specs.KeyOrder as entries
use Rattle.wire_base.specs.KeyOrder.{compare}
use Rattle.wire_base.specs.declared.limits.Which.{Which}
use Rattle.wire_base.specs.declared.limits.Which.TheVariants.{A, B}
use Rattle.wire_base.specs.declared.note.Note.{Note}
use Rattle.wire_base.specs.declared.row.Op.{Op}
use Rattle.wire_base.specs.declared.row.Op.TheVariants.{Set, Remove}
use Rattle.wire_base.specs.declared.row.Row.{Row}
use Rattle.keeper.specs.Collecting.{Gathers}
use Rattle.keeper.specs.Keeping.{Keeping}
use Rattle.keeper.specs.Storing.{AreRowsBetween, Commits, Stores}
use Rattle.keeper.proofs.Few.{in_order_after_some}

-- ---- key by key

other_op : (op : Op) (rows : List Row) (key : List ℕ) → key ≢ key_in op → find key (after_op rows op) ≡ find key rows
other_op (Set row) rows key differs = find-with_not key_of row rows key differs
other_op (Remove gone) rows key differs = find-without_not key_of gone key rows differs

Spare : List ℕ → List Op → Type 0
Spare key ops = AllByRecursion (λ (op : Op). key ≢ key_in op) ops

untouched : (ops : List Op) (rows : List Row) (key : List ℕ) → Spare key ops → find key (replay_on rows ops) ≡ find key rows
unfolding Spare
untouched [] rows key spare = refl
untouched (op ∷ ops) rows key spare = untouched ops (after_op rows op) key spare.1 ∙ other_op op rows key spare.0

spared_behind : (key : List ℕ) (ops : List Op) → entries.IsBefore key_in key ops → Spare key ops
unfolding Spare
spared_behind key [] before = tt
spared_behind key (op ∷ ops) before = ((λ same. let q : Less ≡ Equal = sym before.0 ∙ compare_same key (key_in op) same in cc), spared_behind key ops before.1)

spared_first : (key : List ℕ) (ops : List Op) (count : ℕ) → Spare key ops → Spare key (take count ops)
unfolding Spare
spared_first key ops count spare =
    recursion_from_All (λ (op : Op). key ≢ key_in op) (take count ops) (All-take (λ (op : Op). key ≢ key_in op) count ops (All-from_recursion (λ (op : Op). key ≢ key_in op) ops spare))

abbrev Either : Op → List Op → ℕ → List Row → List ℕ → Type 0
Either op ops count rows key =
    (find key (replay_on (after_op rows op) (take count ops)) ≡ find key rows) ⊎ (find key (replay_on (after_op rows op) (take count ops)) ≡ find key (replay_on (after_op rows op) ops))

-- after some of the updates a key has the row that it had, or the one that it has after all
either_row : (ops : List Op) (count : ℕ) (rows : List Row) (key : List ℕ) → AreAscending ops
    → (find key (replay_on rows (take count ops)) ≡ find key rows) ⊎ (find key (replay_on rows (take count ops)) ≡ find key (replay_on rows ops))
either_row ops zero rows key ascending = inl refl
either_row [] (suc count) rows key ascending = inl refl
either_row (op ∷ ops) (suc count) rows key ascending = by_order (compare key (key_in op)) refl (either_row ops count (after_op rows op) key ascending.1)
  where
    elsewhere : key ≢ key_in op → (find key (replay_on (after_op rows op) (take count ops)) ≡ find key (after_op rows op)) ⊎ (find key (replay_on (after_op rows op) (take count ops)) ≡ find key (replay_on (after_op rows op) ops)) → Either op ops count rows key
    elsewhere differs (inl same) = inl (same ∙ other_op op rows key differs)
    elsewhere differs (inr last) = inr last

    by_order : (o : Ordering) → compare key (key_in op) ≡ o → (find key (replay_on (after_op rows op) (take count ops)) ≡ find key (after_op rows op)) ⊎ (find key (replay_on (after_op rows op) (take count ops)) ≡ find key (replay_on (after_op rows op) ops)) → Either op ops count rows key
    by_order Equal at rest =
        let spare = subst (λ (k : List ℕ). Spare k ops) (sym (same_key key (key_in op) at)) (spared_behind (key_in op) ops ascending.0) in
        inr (untouched (take count ops) (after_op rows op) key (spared_first key ops count spare) ∙ sym (untouched ops (after_op rows op) key spare))
    by_order Less at rest = elsewhere (λ same. let q : Less ≡ Equal = sym at ∙ compare_same key (key_in op) same in cc) rest
    by_order Greater at rest = elsewhere (λ same. let q : Greater ≡ Equal = sym at ∙ compare_same key (key_in op) same in cc) rest

pub rows_between : (opening : List Row) (committed notes : List Note) (from to rows : List Row) (ops : List Op)
    → AreRowsOver opening committed from → AreRowsOver opening notes to → LeadTo from to ops → AreAfterSome from ops rows → AreRowsBetween opening committed notes rows
rows_between opening committed notes from to rows ops before behind lead after = record {
  in_order = in_order_after_some ops from rows before.in_order after;
  each = λ key. elim (either_row ops after.count from key lead.ascending) [
    | inl same ↦ inl (ap (find key) (sym after.replayed) ∙ same ∙ before.each key)
    | inr last ↦ inr (ap (find key) (sym after.replayed) ∙ last ∙ ap (find key) lead.replayed ∙ behind.each key)
  ];
}

-- the updates of a tracker lead to the rows over all its notes
pub leads : (tracked : Tracked) (store : Standing) (ops items : List Op) → ops ≡ items → Stores tracked store → store.closed ≡ false → IsInOrder tracked.opening
    → ((opening : List Row) (notes : List Note) → IsInOrder opening → AreOrderly notes → (rows : List Row) × AreRowsOver opening notes rows)
    → (AreOrderly tracked.notes → (from to : List Row) → AreRowsOver tracked.opening tracked.committed from → AreRowsOver tracked.opening tracked.notes to → LeadTo from to items)
    → AreOrderly tracked.notes → (to : List Row) × AreRowsOver tracked.opening tracked.notes to × LeadTo store.rows to ops
leads tracked store ops items is stored closed ordered there_is_one by_the_notes orderly =
    let to = there_is_one tracked.opening tracked.notes ordered orderly in
    (to.0, to.1, subst (LeadTo store.rows to.0) (sym is) (by_the_notes orderly store.rows to.0 (stored orderly closed) to.1))

pub after_all : (rows found : List Row) (ops : List Op) → found ≡ replay_on rows ops → AreAfterSome rows ops found
after_all rows found ops is = record {
  count = length ops;
  within = omega arith;
  replayed = ap (replay_on rows) (take_all (length ops) ops (omega arith)) ∙ sym is;
}

-- ---- nothing is committed

none_taken : (count : ℕ) → take {A = Op} count [] ≡ []
none_taken zero = refl
none_taken (suc count) = refl

rows_still : (rows found : List Row) → AreAfterSome rows [] found → rows ≡ found
rows_still rows found after = ap (replay_on rows) (sym (none_taken after.count)) ∙ after.replayed

after_none : (rows : List Row) → AreAfterSome rows [] rows
after_none rows = record { count = 0; within = omega arith; replayed = refl }

module _ {D : Type 0} (contents : D → Option (List ℕ)) (images : D → List ℕ → Type 0) (moment : D → ℕ) (images_since : D → ℕ → List ℕ → Type 0)
    (only_now : (disk : D) (image : List ℕ) → images_since disk (moment disk) image → images disk image) where
  stays : (disk : D) (P : List ℕ → Type 0) → ((image : List ℕ) → images disk image → P image) → LeavesOnly moment images_since disk disk P
  stays disk P all = record {
    later = omega arith;
    each = λ image since. all image (only_now disk image since);
    before = λ start image early since. inl since;
  }

  module _ (store : Standing) (a b : D) (settled : AreSettled contents images a b (chosen_by store)) where
    still_gives : (first second : List ℕ) → contents a ≡ Some first → contents b ≡ Some second → GivesSome store.rows [] first second
    still_gives first second of_a of_b =
        let one : settled.first ≡ first = ap (λ (o : Option (List ℕ)). unwrap_or o []) (sym settled.a_holds ∙ of_a) in
        let other : settled.second ≡ second = ap (λ (o : Option (List ℕ)). unwrap_or o []) (sym settled.b_holds ∙ of_b) in
        record {
          found = store.rows;
          after = after_none store.rows;
          given = record {
            choice = chosen_by store;
            chosen = subst (λ (l : List ℕ). IsChoice l second (chosen_by store)) one (subst (λ (l : List ℕ). IsChoice settled.first l (chosen_by store)) other settled.chosen);
            given = refl;
          };
        }

    still_each : (area : Which) → LeavesOnly moment images_since (of_area area a b) (of_area area a b)
        (λ image. (other : List ℕ) → images (of_area (other_area area) a b) other → GivesSome store.rows [] (of_area area image other) (of_area area other image))
    still_each A = stays a (λ image. (other : List ℕ) → images b other → GivesSome store.rows [] image other)
        (λ image is other other_is. still_gives image other (settled.a_settled image is) (settled.b_settled other other_is))
    still_each B = stays b (λ image. (other : List ℕ) → images a other → GivesSome store.rows [] other image)
        (λ image is other other_is. still_gives other image (settled.a_settled other other_is) (settled.b_settled image is))

    pub still_commits : (opening : List Row) (committed notes : List Note) → (AreOrderly notes → AreRowsOver opening committed store.rows)
        → Commits contents images moment images_since store store opening committed notes a b a b
    still_commits opening committed notes over = record {
      ops = [];
      lead = λ orderly. inl refl;
      between = λ orderly rows after. let are = subst (AreRowsOver opening committed) (rows_still store.rows rows after) (over orderly) in record {
        in_order = are.in_order;
        each = λ key. inl (are.each key);
      };
      stored = after_none store.rows;
      all_stored = λ stays. refl;
      generation = λ stays. refl;
      each_moment = still_each store.area;
      other_area_kept = refl;
      goes_on = record {
        of_a = stays a (MayHold (contents a) store.generation store.rows []) (λ image is. inl (settled.a_settled image is));
        of_b = stays b (MayHold (contents b) store.generation store.rows []) (λ image is. inl (settled.b_settled image is));
      };
      left = still_gives;
    }

  module _ (tracked : Tracked) (store after : Standing) (ops : List Op) (a b later_a later_b : D) where
    pub some_commits : Stores tracked store → store.closed ≡ false → (AreOrderly tracked.notes → (to : List Row) × AreRowsOver tracked.opening tracked.notes to × LeadTo store.rows to ops)
        → AreAfterSome store.rows ops after.rows → (after.closed ≡ false → after.rows ≡ replay_on store.rows ops) → (after.closed ≡ false → after.generation ≡ generation_after store ops)
        → LeavesOnly moment images_since (of_area (written_area store ops) a b) (of_area (written_area store ops) later_a later_b)
        (λ image. (other : List ℕ) → images (of_area (other_area (written_area store ops)) a b) other → GivesSome store.rows ops (of_area (written_area store ops) image other) (of_area (written_area store ops) other image))
        → of_area (other_area (written_area store ops)) later_a later_b ≡ of_area (other_area (written_area store ops)) a b
        → GoesOn contents moment images_since store.generation store.rows ops a b later_a later_b
        → ((first second : List ℕ) → contents later_a ≡ Some first → contents later_b ≡ Some second → GivesSome store.rows ops first second)
        → Commits contents images moment images_since store after tracked.opening tracked.committed tracked.notes a b later_a later_b
    some_commits stores closed lead stored all generation each other goes left = record {
      ops = ops;
      lead = λ orderly. inr (lead orderly);
      between = λ orderly rows some. let to = lead orderly in rows_between tracked.opening tracked.committed tracked.notes store.rows to.0 rows ops (stores orderly closed) to.1 to.2 some;
      stored = stored;
      all_stored = all;
      generation = generation;
      each_moment = each;
      other_area_kept = other;
      goes_on = goes;
      left = left;
    }

  -- ---- what was collected before changes nothing of it

  module _ (old mid : Keeping) (gathers : Gathers old mid) (a b : D) where
    pub collected_commits : Stores mid.tracked mid.store → old.store.closed ≡ false → AreSettled contents images a b (chosen_by old.store)
        → Commits contents images moment images_since old.store mid.store old.tracked.opening old.tracked.committed mid.tracked.notes a b a b
    collected_commits stored closed settled =
        subst (λ (s : Standing). Commits contents images moment images_since old.store s old.tracked.opening old.tracked.committed mid.tracked.notes a b a b) (sym gathers.store)
        (still_commits old.store a b settled old.tracked.opening old.tracked.committed mid.tracked.notes (λ orderly.
        subst (λ (s : Standing). AreRowsOver old.tracked.opening old.tracked.committed s.rows) gathers.store
        (subst (λ (l : List Note). AreRowsOver old.tracked.opening l mid.store.rows) gathers.committed
        (subst (λ (l : List Row). AreRowsOver l mid.tracked.committed mid.store.rows) gathers.collects.opening
        (stored orderly (ap (λ (s : Standing). s.closed) gathers.store ∙ closed))))))

    pub commits_behind : (after : Standing) (notes : List Note) (later_a later_b : D)
        → (AreSettled contents images a b (chosen_by mid.store) → Commits contents images moment images_since mid.store after mid.tracked.opening mid.tracked.committed notes a b later_a later_b)
        → AreSettled contents images a b (chosen_by old.store) → Commits contents images moment images_since old.store after old.tracked.opening old.tracked.committed notes a b later_a later_b
    commits_behind after notes later_a later_b commits settled =
        subst (λ (l : List Row). Commits contents images moment images_since old.store after l old.tracked.committed notes a b later_a later_b) gathers.collects.opening
        (subst (λ (l : List Note). Commits contents images moment images_since old.store after mid.tracked.opening l notes a b later_a later_b) gathers.committed
        (subst (λ (s : Standing). AreSettled contents images a b (chosen_by s) → Commits contents images moment images_since s after mid.tracked.opening mid.tracked.committed notes a b later_a later_b) gathers.store commits settled))
