-- How many keys rows and Begins have, as notes come and changes are committed.
use Rattle.std.proofs.Common.{◌≡◌, ◌≢◌, inl, inr, ℕ, suc, ◌+◌, ◌≤◌, ◌==◌, Bool, true, false, All, Contains, List, [], ◌∷◌, ◌++◌, length, append-nil, take, map, Option, Some, None, IfSome, if◌then◌else◌, refl, sym, ap, ◌∙◌, subst, arith}
use Rattle.std.proofs.lemmas.List.{length-append, length-map}
use Rattle.std.proofs.lemmas.List.Elements.{All-contains, All-from_recursion, All-take, All-weaker, recursion_from_All, filter-append, filter_map-append}
use Rattle.std.specs.List.{AllByRecursion, cons_option, filter_map}
use Rattle.std.specs.Option.{option_map}
use Rattle.std.specs.declared.cmp.Ordering.TheVariants.{Less, Equal}
use Rattle.wire_base.proofs.ByteOrder.{compare_same}
use Rattle.wire_base.proofs.Keyed.{All-with, All-without, in_order-with, in_order-without}
use Rattle.wire_base.specs.KeyOrder.{compare}
use Rattle.wire_base.specs.declared.note.Note.{Note}
use Rattle.wire_base.specs.declared.note.Note.TheVariants.{Begin, Announce, Settle, Rename, Seen, Forget}
use Rattle.wire_base.specs.declared.row.Row.{Row}
use Rattle.wire_base.specs.declared.row.Op.{Op}
use Rattle.wire_base.specs.declared.row.Op.TheVariants.{Set, Remove}
use Rattle.ack_tracker.specs.Keys.{SetsBegun, key_of_begin}
use Rattle.ack_tracker.specs.Tracked.{Tracked}
use Rattle.registry_store.specs.Committing.{AreAfterSome, AreFewThroughout}
use Rattle.settle_box.specs.Notes.{IsPostable}
use Rattle.ship_core.proofs.Members.{first_there, given_there, later_there, none_there, there_cases, there_given, there_passed}
use Rattle.ship_core.specs.Replay.{after_op, replay_on}
use Rattle.ship_core.specs.RowOver.{Start, first_start, notes_of, slot_of, start_of, start_over}
use Rattle.ship_core.specs.Rows.{IsBefore, IsInOrder, key_of}
use Rattle.keeper.specs.FewKeys.{AreFewKeys, HasRoomFor}

-- ---- rows whose keys are among others are no more than these

-- the keys without one of them
pub record Without (key : List ℕ) (keys : List (List ℕ)) : Type 0 where
  pub rest : List (List ℕ)
  pub shorter : length keys ≡ suc (length rest)
  pub others : (other : List ℕ) → other ≢ key → Contains keys other → Contains rest other

pub take_out : (key : List ℕ) (keys : List (List ℕ)) → Contains keys key → Without key keys
take_out key [] there = absurd (none_there key there)
take_out key (first ∷ keys) there = elim (there_cases first key keys there) [
  | inl same ↦ record {
    rest = keys;
    shorter = refl;
    others = λ other differs found. elim (there_cases first other keys found) [ inl is ↦ absurd (differs (sym is ∙ same)) | inr later ↦ later ];
  }
  | inr later ↦ let without = take_out key keys later in record {
    rest = first ∷ without.rest;
    shorter = ap suc without.shorter;
    others = λ other differs found. elim (there_cases first other keys found) [
      | inl is ↦ subst (λ (k : List ℕ). Contains (first ∷ without.rest) k) is (first_there first without.rest)
      | inr behind ↦ later_there first other without.rest (without.others other differs behind)
    ];
  }
]

abbrev AreAmong : List (List ℕ) → List Row → Type 0
AreAmong keys rows = AllByRecursion (λ (row : Row). Contains keys row.key) rows

other_key : (a b : List ℕ) → compare a b ≡ Less → b ≢ a
other_key a b less same = let q : Less ≡ Equal = sym less ∙ compare_same a b (sym same) in cc

still_among : (key : List ℕ) (keys : List (List ℕ)) (without : Without key keys) (rows : List Row) → IsBefore key rows → AreAmong keys rows → AreAmong without.rest rows
still_among key keys without [] before among = tt
still_among key keys without (row ∷ rows) before among =
    (without.others row.key (other_key key row.key before.0) among.0, still_among key keys without rows before.1 among.1)

no_more_rows : (rows : List Row) (keys : List (List ℕ)) → IsInOrder rows → AreAmong keys rows → length rows ≤ length keys
no_more_rows [] keys ordered among = omega arith
no_more_rows (row ∷ rows) keys ordered among =
    let without = take_out row.key keys among.0 in
    let fewer = no_more_rows rows without.rest ordered.1 (still_among row.key keys without rows ordered.0 among.1) in
    omega (arith, fewer, without.shorter)

-- ---- rows after changes

abbrev HaveKeys : List (List ℕ) → List Row → Type 0
HaveKeys keys rows = All (λ (row : Row). Contains keys row.key) rows

module _ (rows : List Row) (notes : List Note) (gone : List ℕ) (few : AreFewKeys rows notes gone) where
  set_key : (row : Row) → SetsBegun notes gone (Set row) → Contains few.keys row.key
  set_key row (slot, start, begun, same, stands) = subst (λ (k : List ℕ). Contains few.keys k) same (few.of_begins slot start begun stands)

  after_one : (op : Op) (before : List Row) → SetsBegun notes gone op → HaveKeys few.keys before → HaveKeys few.keys (after_op before op)
  after_one (Set row) before begun have = All-with key_of (λ (r : Row). Contains few.keys r.key) row before (set_key row begun) have
  after_one (Remove key) before begun have = All-without key_of (λ (r : Row). Contains few.keys r.key) key before have

  after_all : (ops : List Op) (before : List Row) → AllByRecursion (SetsBegun notes gone) ops → HaveKeys few.keys before → HaveKeys few.keys (replay_on before ops)
  after_all [] before begun have = have
  after_all (op ∷ ops) before begun have = after_all ops (after_op before op) begun.1 (after_one op before begun.0 have)

  pub few_after : (ops : List Op) → All (SetsBegun notes gone) ops → AreFewKeys (replay_on rows ops) notes gone
  few_after ops begun = record {
    keys = few.keys;
    few = few.few;
    of_rows = after_all ops rows (recursion_from_All (SetsBegun notes gone) ops begun) few.of_rows;
    of_begins = few.of_begins;
  }

  pub few_after_some : (ops : List Op) (found : List Row) → All (SetsBegun notes gone) ops → AreAfterSome rows ops found → AreFewKeys found notes gone
  few_after_some ops found begun after =
      subst (λ (l : List Row). AreFewKeys l notes gone) after.replayed (few_after (take after.count ops) (All-take (SetsBegun notes gone) after.count ops begun))

pub in_order_after : (ops : List Op) (rows : List Row) → IsInOrder rows → IsInOrder (replay_on rows ops)
in_order_after [] rows ordered = ordered
in_order_after (Set row ∷ ops) rows ordered = in_order_after ops (after_op rows (Set row)) (in_order-with key_of row rows ordered)
in_order_after (Remove key ∷ ops) rows ordered = in_order_after ops (after_op rows (Remove key)) (in_order-without key_of key rows ordered)

pub in_order_after_some : (ops : List Op) (rows found : List Row) → IsInOrder rows → AreAfterSome rows ops found → IsInOrder found
in_order_after_some ops rows found ordered after =
    subst IsInOrder after.replayed (in_order_after (take after.count ops) rows ordered)

few_rows : (rows : List Row) (notes : List Note) (gone : List ℕ) → IsInOrder rows → AreFewKeys rows notes gone → length rows ≤ 65_536
few_rows rows notes gone ordered few =
    let fewer = no_more_rows rows few.keys ordered (recursion_from_All (λ (row : Row). Contains few.keys row.key) rows few.of_rows) in
    omega (arith, fewer, few.few)

-- the condition of a commit
pub few_throughout : (rows : List Row) (notes : List Note) (gone : List ℕ) (ops : List Op) → IsInOrder rows → AreFewKeys rows notes gone → All (SetsBegun notes gone) ops → AreFewThroughout rows ops
few_throughout rows notes gone ops ordered few begun count within =
    let some = take count ops in
    few_rows (replay_on rows some) notes gone (in_order_after some rows ordered) (few_after rows notes gone few some (All-take (SetsBegun notes gone) count ops begun))

-- ---- one note more

-- more are gone
pub few_while_more_go : (rows : List Row) (notes : List Note) (gone more : List ℕ) → All (Contains more) gone → AreFewKeys rows notes gone → AreFewKeys rows notes more
few_while_more_go rows notes gone more stay few = record {
  keys = few.keys;
  few = few.few;
  of_rows = few.of_rows;
  of_begins = λ slot start begun stands. few.of_begins slot start begun (λ there. stands (All-contains (Contains more) gone slot stay there));
}

no_start_more : (slot : ℕ) (notes : List Note) (note : Note) → start_of note ≡ None → start_over (notes_of slot (notes ++ note ∷ [])) ≡ start_over (notes_of slot notes)
no_start_more slot notes note none =
    ap start_over (filter-append (λ (n : Note). slot_of n == slot) notes (note ∷ [])) ∙ by_slot (slot_of note == slot)
  where
    alone : filter_map start_of (note ∷ []) ≡ []
    alone = rw none refl

    by_slot : (same : Bool) → start_over (notes_of slot notes ++ (if same then note ∷ [] else [])) ≡ start_over (notes_of slot notes)
    by_slot true = ap first_start (filter_map-append start_of (notes_of slot notes) (note ∷ []) ∙ ap (λ (l : List Start). filter_map start_of (notes_of slot notes) ++ l) alone ∙ append-nil (filter_map start_of (notes_of slot notes)))
    by_slot false = ap start_over (append-nil (notes_of slot notes))

pub few_with_no_begin : (rows : List Row) (notes : List Note) (gone : List ℕ) (note : Note) → start_of note ≡ None → AreFewKeys rows notes gone → AreFewKeys rows (notes ++ note ∷ []) gone
few_with_no_begin rows notes gone note none few = record {
  keys = few.keys;
  few = few.few;
  of_rows = few.of_rows;
  of_begins = λ slot start begun stands. few.of_begins slot start (sym (no_start_more slot notes note none) ∙ begun) stands;
}

-- a note that comes from the box begins no file
pub no_start : (note : Note) → IsPostable note → start_of note ≡ None
no_start (Begin slot key path epoch base changed) postable = absurd postable
no_start (Announce slot epoch) postable = refl
no_start (Settle slot epoch span cause) postable = refl
no_start (Rename slot scan path) postable = absurd postable
no_start (Seen slot changed) postable = absurd postable
no_start (Forget slot epoch end) postable = refl

pub few_with : (rows : List Row) (tracked : Tracked) (note : Note) → HasRoomFor rows tracked note → AreFewKeys rows tracked.notes tracked.gone → AreFewKeys rows (tracked.notes ++ note ∷ []) tracked.gone
few_with rows tracked (Begin slot key path epoch base changed) room few = room
few_with rows tracked (Announce slot epoch) room few = few_with_no_begin rows tracked.notes tracked.gone (Announce slot epoch) refl few
few_with rows tracked (Settle slot epoch span cause) room few = few_with_no_begin rows tracked.notes tracked.gone (Settle slot epoch span cause) refl few
few_with rows tracked (Rename slot scan path) room few = few_with_no_begin rows tracked.notes tracked.gone (Rename slot scan path) refl few
few_with rows tracked (Seen slot changed) room few = few_with_no_begin rows tracked.notes tracked.gone (Seen slot changed) refl few
few_with rows tracked (Forget slot epoch end) room few = few_with_no_begin rows tracked.notes tracked.gone (Forget slot epoch end) refl few

-- ---- by their number

there_before : (xs ys : List (List ℕ)) (x : List ℕ) → Contains xs x → Contains (xs ++ ys) x
there_before [] ys x there = absurd (none_there x there)
there_before (first ∷ xs) ys x there = elim (there_cases first x xs there) [
  | inl same ↦ subst (λ (k : List ℕ). Contains (first ∷ (xs ++ ys)) k) same (first_there first (xs ++ ys))
  | inr later ↦ later_there first x (xs ++ ys) (there_before xs ys x later)
]

there_behind : (xs ys : List (List ℕ)) (x : List ℕ) → Contains ys x → Contains (xs ++ ys) x
there_behind [] ys x there = there
there_behind (first ∷ xs) ys x there = later_there first x (xs ++ ys) (there_behind xs ys x there)

row_keys : (rows : List Row) → AllByRecursion (λ (row : Row). Contains (map key_of rows) row.key) rows
row_keys [] = tt
row_keys (row ∷ rows) = (first_there row.key (map key_of rows), later rows (row_keys rows))
  where
    later : (others : List Row) → AllByRecursion (λ (r : Row). Contains (map key_of rows) r.key) others → AllByRecursion (λ (r : Row). Contains (row.key ∷ map key_of rows) r.key) others
    later [] among = tt
    later (other ∷ others) among = (later_there row.key other.key (map key_of rows) among.0, later others among.1)

begun_key : (note : Note) (start : Start) → start_of note ≡ Some start → key_of_begin note ≡ Some start.key
begun_key (Begin slot key path epoch base changed) start e = ap (option_map (λ (s : Start). s.key)) e
begun_key (Announce slot epoch) start e = absurd (let q : None ≡ Some start = e in cc)
begun_key (Settle slot epoch span cause) start e = absurd (let q : None ≡ Some start = e in cc)
begun_key (Rename slot scan path) start e = absurd (let q : None ≡ Some start = e in cc)
begun_key (Seen slot changed) start e = absurd (let q : None ≡ Some start = e in cc)
begun_key (Forget slot epoch end) start e = absurd (let q : None ≡ Some start = e in cc)

first_of_starts : (starts : List Start) (start : Start) → first_start starts ≡ Some start → Contains starts start
first_of_starts [] start e = absurd (let q : None ≡ Some start = e in cc)
first_of_starts (first ∷ starts) start e = subst (λ (o : Option Start). IfSome o (λ s. Contains (first ∷ starts) s)) e (first_there first starts)

begin_keys : (notes : List Note) (slot : ℕ) (start : Start) → start_over (notes_of slot notes) ≡ Some start → Contains (filter_map key_of_begin notes) start.key
begin_keys notes slot start e =
    let starts = there_given start_of (notes_of slot notes) start (first_of_starts (filter_map start_of (notes_of slot notes)) start e) in
    let there = there_passed (λ (n : Note). slot_of n == slot) notes starts.0 starts.1 in
    given_there key_of_begin notes starts.0 start.key there.0 (begun_key starts.0 start starts.2)

no_more_keys : (notes : List Note) → length (filter_map key_of_begin notes) ≤ length notes
no_more_keys [] = omega arith
no_more_keys (note ∷ notes) = by_note (key_of_begin note) (no_more_keys notes)
  where
    by_note : (o : Option (List ℕ)) → length (filter_map key_of_begin notes) ≤ length notes → length (cons_option o (filter_map key_of_begin notes)) ≤ suc (length notes)
    by_note None fewer = omega (arith, fewer)
    by_note (Some key) fewer = omega (arith, fewer)

pub few_keys_by_length : (rows : List Row) (notes : List Note) (gone : List ℕ) → length rows + length notes ≤ 65_536 → AreFewKeys rows notes gone
few_keys_by_length rows notes gone few = record {
  keys = map key_of rows ++ filter_map key_of_begin notes;
  few = let begins = no_more_keys notes in omega (arith, few, begins, length-map rows key_of, length-append (map key_of rows) (filter_map key_of_begin notes));
  of_rows = All-weaker (λ (row : Row). Contains (map key_of rows) row.key) (λ (row : Row). Contains (map key_of rows ++ filter_map key_of_begin notes) row.key) (λ (row : Row) there. there_before (map key_of rows) (filter_map key_of_begin notes) row.key there) rows
      (All-from_recursion (λ (row : Row). Contains (map key_of rows) row.key) rows (row_keys rows));
  of_begins = λ slot start begun stands. there_behind (map key_of rows) (filter_map key_of_begin notes) start.key (begin_keys notes slot start begun);
}
