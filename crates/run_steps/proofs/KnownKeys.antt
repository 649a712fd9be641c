-- Keys that a keeper knows: those of the rows of a registry, and of the files of a scan that have none.
use Rattle.std.proofs.Common.{◌≡◌, ⊎_elim, ℕ, zero, suc, ◌≤◌, ◌==◌, All, Contains, List, [], ◌∷◌, ◌++◌, length, map, take, Option, None, Some, IfSome, is_none, true, false, Bool, refl, sym, ap, subst, arith}
use Rattle.std.proofs.lemmas.List.{length-append, length-map}
use Rattle.std.proofs.lemmas.List.Elements.{All-contains, All-from_recursion, All-weaker, Contains-append_left, Contains-append_right}
use Rattle.std.specs.Prelude.{if◌then◌else◌}
use Rattle.std.specs.List.{AllByRecursion, cons_option, filter, filter_map}
use Rattle.accounts.proofs.Lists.{each_last}
use Rattle.keeper.specs.FewKeys.{HasRoomFor}
use Rattle.keeper.specs.Keeping.{Keeping}
use Rattle.kept_rows.proofs.Showing.{both}
use Rattle.prospect.specs.declared.listed.Listed.{Listed}
use Rattle.restart_join.specs.declared.start.Start.{Start}
use Rattle.ship_core.proofs.Members.{first_there, later_there, none_there, there_cases, there_given, there_passed}
use Rattle.ship_core.specs.RowOver.{Start as Begun, first_start, notes_of, slot_of, start_of, start_over}
use Rattle.ship_core.specs.Rows.{find, key_of}
use Rattle.wire_base.specs.declared.note.Note.{Note}
use Rattle.wire_base.specs.declared.note.Note.TheVariants.{Announce, Begin, Forget, Rename, Seen, Settle}
use Rattle.wire_base.specs.declared.numbers.Epoch.{Epoch}
use Rattle.wire_base.specs.declared.numbers.Moment.{Moment}
use Rattle.wire_base.specs.declared.numbers.Slot.{Slot}
use Rattle.wire_base.specs.declared.row.Row.{Row}
use Rattle.run_steps.specs.BeginFor.{row_of}
use Rattle.run_steps.specs.KnownKeys.{BeginsAmong, HasRoomToBegin, KnowsAmong}
use Rattle.run_steps.specs.Starting.{AreFewFiles, new_files}
use Rattle.run_steps.specs.Telling.{TellsBegin, TellsNotes, begin_note}
use Rattle.accounts.proofs.BegunRows.{found_key, found_there}
use Rattle.accounts.proofs.Orderly.{member_is}

abbrev pub IsOfKeys : List (List ℕ) → Listed → Type 0
IsOfKeys keys listed = IfSome listed.key (Contains keys)

pub of_front : (keys : List (List ℕ)) (count : ℕ) (listed : List Listed) → AllByRecursion (IsOfKeys keys) listed → AllByRecursion (IsOfKeys keys) (take count listed)
of_front keys zero listed of = tt
of_front keys (suc count) [] of = tt
of_front keys (suc count) (one ∷ listed) of = (of.0, of_front keys count listed of.1)

some_key : (keys : List (List ℕ)) (o : Option (List ℕ)) (key : List ℕ) → o ≡ Some key → IfSome o (Contains keys) → Contains keys key
some_key keys None key is of = absurd (let q : None ≡ Some key = is in cc)
some_key keys (Some other) key is of = let same : other ≡ key = cc in subst (Contains keys) same of

-- ---- one Begin more

pub told_knows : (keys : List (List ℕ)) (slot : Slot) (listed : Listed) (start : Start) (old new : Keeping) → IsOfKeys keys listed → TellsBegin slot listed start old new → KnowsAmong keys old → KnowsAmong keys new
told_knows keys slot listed start old new of tells knows = record {
  few = knows.few;
  of_rows = subst (λ (k : Keeping). All (λ (row : Row). Contains keys row.key) k.store.rows) (sym tells.tells.others_stay) knows.of_rows;
  of_begins = subst (AllByRecursion (BeginsAmong keys)) (sym tells.tells.told)
      (each_last (BeginsAmong keys) old.tracked.notes (begin_note slot listed tells.key start) knows.of_begins (some_key keys listed.key tells.key tells.key_is of));
}

-- the key with which a slot begins is one of them
begun_key : (keys : List (List ℕ)) (note : Note) (begun : Begun) → BeginsAmong keys note → start_of note ≡ Some begun → Contains keys begun.key
begun_key keys (Begin slot key path epoch base changed) begun of is =
    let same : key ≡ begun.key = ap (λ (o : Option Begun). key_of o key) is in subst (Contains keys) same of
  where
    key_of : Option Begun → List ℕ → List ℕ
    key_of None other = other
    key_of (Some one) other = one.key
begun_key keys (Announce slot epoch) begun of is = absurd (let q : None ≡ Some begun = is in cc)
begun_key keys (Settle slot epoch span cause) begun of is = absurd (let q : None ≡ Some begun = is in cc)
begun_key keys (Rename slot scan path) begun of is = absurd (let q : None ≡ Some begun = is in cc)
begun_key keys (Seen slot changed) begun of is = absurd (let q : None ≡ Some begun = is in cc)
begun_key keys (Forget slot epoch end) begun of is = absurd (let q : None ≡ Some begun = is in cc)

first_of : (begun : List Begun) (one : Begun) → first_start begun ≡ Some one → Contains begun one
first_of [] one is = absurd (let q : None ≡ Some one = is in cc)
first_of (first ∷ begun) one is = let same : first ≡ one = cc in subst (λ (b : Begun). Contains (first ∷ begun) b) same (first_there first begun)

known_start : (keys : List (List ℕ)) (notes : List Note) (slot : ℕ) (one : Begun) → AllByRecursion (BeginsAmong keys) notes → start_over (notes_of slot notes) ≡ Some one → Contains keys one.key
known_start keys notes slot one of is =
    let starts = there_given start_of (notes_of slot notes) one (first_of (filter_map start_of (notes_of slot notes)) one is) in
    let there = there_passed (λ (n : Note). slot_of n == slot) notes starts.0 starts.1 in
    begun_key keys starts.0 one (member_is (BeginsAmong keys) notes starts.0 of there.0) starts.2

-- there is room for the Begin of a file
pub room_to_begin : (slot : Slot) (listed : Listed) (key : List ℕ) (start : Start) (keeper : Keeping) → listed.key ≡ Some key → HasRoomToBegin listed keeper →
    HasRoomFor keeper.store.rows keeper.tracked (begin_note slot listed key start)
room_to_begin slot listed key start keeper key_is room = record {
  keys = room.keys;
  few = room.knows.few;
  of_rows = room.knows.of_rows;
  of_begins = λ number begun is stands. known_start room.keys (keeper.tracked.notes ++ begin_note slot listed key start ∷ []) number begun
      (each_last (BeginsAmong room.keys) keeper.tracked.notes (begin_note slot listed key start) room.knows.of_begins (some_key room.keys listed.key key key_is room.of_listed)) is;
}

-- ---- and of rows

pub row_known : (keys : List (List ℕ)) (keeper : Keeping) (row : Row) → KnowsAmong keys keeper → Contains keeper.store.rows row → Contains keys row.key
row_known keys keeper row knows there = All-contains (λ (r : Row). Contains keys r.key) keeper.store.rows row knows.of_rows there

pub room_for_begin : (keys : List (List ℕ)) (slot : Slot) (key path : List ℕ) (epoch : Epoch) (base : ℕ) (changed : Moment) (keeper : Keeping) → KnowsAmong keys keeper → Contains keys key →
    HasRoomFor keeper.store.rows keeper.tracked (Begin slot key path epoch base changed)
room_for_begin keys slot key path epoch base changed keeper knows of = record {
  keys = keys;
  few = knows.few;
  of_rows = knows.of_rows;
  of_begins = λ number begun is stands. known_start keys (keeper.tracked.notes ++ Begin slot key path epoch base changed ∷ []) number begun
      (each_last (BeginsAmong keys) keeper.tracked.notes (Begin slot key path epoch base changed) knows.of_begins of) is;
}

-- whatever it was told of which each Begin is of one of them
pub more_known : (keys : List (List ℕ)) (more : List Note) (old new : Keeping) → TellsNotes more old new → AllByRecursion (BeginsAmong keys) more → KnowsAmong keys old → KnowsAmong keys new
more_known keys more old new tells of knows = record {
  few = knows.few;
  of_rows = subst (λ (k : Keeping). All (λ (row : Row). Contains keys row.key) k.store.rows) (sym tells.others_stay) knows.of_rows;
  of_begins = subst (AllByRecursion (BeginsAmong keys)) (sym tells.told) (both (BeginsAmong keys) old.tracked.notes more knows.of_begins of);
}

-- ---- the keys of rows and of files without one

abbrev fresh_key : List Row → Option (List ℕ) → Option (List ℕ)
fresh_key rows key = if is_none (row_of rows key) then key else None

abbrev fresh_keys : List Row → List Listed → List (List ℕ)
fresh_keys rows listed = filter_map (λ (one : Listed). fresh_key rows one.key) listed

abbrev pub keys_in : List Row → List Listed → List (List ℕ)
keys_in rows listed = map key_of rows ++ fresh_keys rows listed

no_more_with : (b : Bool) (key : Option (List ℕ)) (one : Listed) (keys : List (List ℕ)) (others : List Listed) → length keys ≤ length others →
    length (cons_option (if b then key else None) keys) ≤ length (if b then one ∷ others else others)
no_more_with true (Some key) one keys others fewer = omega (arith, fewer)
no_more_with true None one keys others fewer = omega (arith, fewer)
no_more_with false key one keys others fewer = omega (arith, fewer)

no_more_fresh : (rows : List Row) (listed : List Listed) → length (fresh_keys rows listed) ≤ new_files rows listed
no_more_fresh rows [] = omega arith
no_more_fresh rows (one ∷ listed) = no_more_with (is_none (row_of rows one.key)) one.key one (fresh_keys rows listed) (filter (λ (o : Listed). is_none (row_of rows o.key)) listed) (no_more_fresh rows listed)

few_keys : (rows : List Row) (listed : List Listed) → AreFewFiles rows listed → length (keys_in rows listed) ≤ 65_536
few_keys rows listed few = let fewer = no_more_fresh rows listed in omega (arith, few, fewer, length-map rows key_of, length-append (map key_of rows) (fresh_keys rows listed))

pub mapped : (rows : List Row) (row : Row) → Contains rows row → Contains (map key_of rows) row.key
mapped [] row there = absurd (none_there row there)
mapped (first ∷ rows) row there = ⊎_elim
    (λ same. subst (λ (r : Row). Contains (map key_of (first ∷ rows)) r.key) same (first_there first.key (map key_of rows)))
    (λ later. later_there first.key row.key (map key_of rows) (mapped rows row later)) (there_cases first row rows there)

row_keys : (all rows : List Row) → ((row : Row) → Contains rows row → Contains all row) → AllByRecursion (λ (row : Row). Contains (map key_of all) row.key) rows
row_keys all [] within = tt
row_keys all (row ∷ rows) within = (mapped all row (within row (first_there row rows)), row_keys all rows (λ other there. within other (later_there row other rows there)))

module _ (rows : List Row) (keys : List (List ℕ)) (of_rows : (key : List ℕ) → Contains (map key_of rows) key → Contains keys key) where
  of_one : (key : Option (List ℕ)) (rest : List (List ℕ)) → ((other : List ℕ) → Contains (cons_option (fresh_key rows key) rest) other → Contains keys other) → IfSome key (Contains keys)
  of_one None rest of_fresh = tt
  of_one (Some key) rest of_fresh = by_row (find key rows) refl of_fresh
    where
      by_row : (o : Option Row) → find key rows ≡ o → ((other : List ℕ) → Contains (cons_option (if is_none o then Some key else None) rest) other → Contains keys other) → Contains keys key
      by_row None is fresh = fresh key (first_there key rest)
      by_row (Some row) is fresh = of_rows key (subst (Contains (map key_of rows)) (found_key key rows row is) (mapped rows row (found_there key rows row is)))

  later_fresh : (o : Option (List ℕ)) (rest : List (List ℕ)) (key : List ℕ) → Contains rest key → Contains (cons_option o rest) key
  later_fresh None rest key there = there
  later_fresh (Some first) rest key there = later_there first key rest there

  of_each : (listed : List Listed) → ((key : List ℕ) → Contains (fresh_keys rows listed) key → Contains keys key) → AllByRecursion (IsOfKeys keys) listed
  of_each [] of_fresh = tt
  of_each (one ∷ listed) of_fresh =
      (of_one one.key (fresh_keys rows listed) of_fresh, of_each listed (λ key there. of_fresh key (later_fresh (fresh_key rows one.key) (fresh_keys rows listed) key there)))

pub are_of_keys : (rows : List Row) (listed : List Listed) → AllByRecursion (IsOfKeys (keys_in rows listed)) listed
are_of_keys rows listed =
    of_each rows (keys_in rows listed) (λ key there. Contains-append_left (map key_of rows) (fresh_keys rows listed) key there) listed
    (λ key there. Contains-append_right (map key_of rows) (fresh_keys rows listed) key there)

-- a keeper to which nothing was told knows them
pub first_knows : (listed : List Listed) (keeper : Keeping) → AreFewFiles keeper.store.rows listed → keeper.tracked.notes ≡ [] → KnowsAmong (keys_in keeper.store.rows listed) keeper
first_knows listed keeper few none = record {
  few = few_keys keeper.store.rows listed few;
  of_rows = All-weaker (λ (row : Row). Contains (map key_of keeper.store.rows) row.key) (λ (row : Row). Contains (keys_in keeper.store.rows listed) row.key)
      (λ (row : Row) there. Contains-append_left (map key_of keeper.store.rows) (fresh_keys keeper.store.rows listed) row.key there) keeper.store.rows
      (All-from_recursion (λ (row : Row). Contains (map key_of keeper.store.rows) row.key) keeper.store.rows (row_keys keeper.store.rows keeper.store.rows (λ row there. there)));
  of_begins = subst (AllByRecursion (BeginsAmong (keys_in keeper.store.rows listed))) (sym none) tt;
}
