-- Which of the entries the inputs cover, path by path, input by input and entry by entry.
use Rattle.std.proofs.Common.{◌≡◌, inl, inr, ℕ, ◌+◌, ◌<◌, List, [], ◌∷◌, ◌++◌, length, map, take, drop, get_or, Option, Some, refl, sym, ◌∙◌, ap, subst, append-nil, append_assoc}
use Rattle.std.specs.Prelude.{flat_map}
use Rattle.std.specs.Iterator.{Yields}
use Rattle.std.specs.Map.Iter.{TakesFirst}
use Rattle.std.proofs.lemmas.List.{map-append, take_more, take-append-drop}
use Rattle.std.proofs.lemmas.List.Concat.{flat_map-append}
use Rattle.std.proofs.lemmas.Map.Iter.{rest_more, rest_so_far}
use Rattle.event_tree.specs.declared.input_rule.IdentityRule.{IdentityRule}
use Rattle.event_tree.specs.declared.input_rule.IdentityRule.TheVariants.{Fingerprint, Native, Path}
use Rattle.outside.specs.declared.entry.Entry.{Entry}
use Rattle.prospect.specs.declared.listed.Listed.{Listed}
use Rattle.prospect.specs.declared.scan_error.ScanError.{ScanError}
use Rattle.prospect.specs.declared.scan_error.ScanError.TheVariants.{Failed, NoMemory, NoNative}
use Rattle.prospect.specs.declared.scan_input.ScanInput.{ScanInput}
use Rattle.prospect.specs.Covered.{AddsCovered, AreCovered, CoversEntry, IsFileOf, IsKeyless, IsUntold, Pair, Stop, StopsAt, file_of, pair_of, pairs_for, pairs_of, pairs_with}
use Rattle.prospect.specs.declared.showing.Showing.{Showing}
use Rattle.prospect.specs.Readings.{Reading, reading_of}
use Rattle.prospect.specs.Showings.{entries_for, entries_of}

pub covered_append : (pairs others : List Pair) (files more : List Listed) → AreCovered pairs files → AreCovered others more → AreCovered (pairs ++ others) (files ++ more)
covered_append [] others files more first second = subst (λ (l : List Listed). AreCovered others (l ++ more)) (sym first) second
covered_append (pair ∷ pairs) others files more (inl here) second =
    inl (here.0, here.1 ++ more, ap (λ (l : List Listed). l ++ more) here.2, covered_append pairs others here.1 more here.3 second)
covered_append (pair ∷ pairs) others files more (inr there) second = inr (there.0, covered_append pairs others files more there.1 second)

pub adds_no_file : (files : List Listed) → AddsCovered [] files files
adds_no_file files = record { more = []; covered = refl; added = sym (append-nil files) }

pub adds_further : (pairs others : List Pair) (old between new : List Listed) → AddsCovered pairs old between → AddsCovered others between new → AddsCovered (pairs ++ others) old new
adds_further pairs others old between new first second = record {
  more = first.more ++ second.more;
  covered = covered_append pairs others first.more second.more first.covered second.covered;
  added = second.added ∙ ap (λ (l : List Listed). l ++ second.more) first.added ∙ append_assoc old first.more second.more;
}

pub adds_covered : (pair : Pair) (old new : List Listed) → IsFileOf pair → new ≡ old ++ file_of pair ∷ [] → AddsCovered (pair ∷ []) old new
adds_covered pair old new is added = record {
  more = file_of pair ∷ [];
  covered = inl (is, [], refl, refl);
  added = added;
}

pub adds_uncovered : (pair : Pair) (files : List Listed) → ¬ (CoversEntry pair) → AddsCovered (pair ∷ []) files files
adds_uncovered pair files uncovered = record {
  more = [];
  covered = inr (uncovered, refl);
  added = sym (append-nil files);
}

-- ---- where adding stops

abbrev stop_here : (pair : Pair) → Stop (pair ∷ [])
stop_here pair = record { before = []; pair = pair; behind = []; pairs_are = refl; more = []; covered_before = refl }

abbrev stop_later : (pairs others behind : List Pair) (more : List Listed) → AreCovered pairs more → Stop others → Stop (pairs ++ (others ++ behind))
stop_later pairs others behind more covered stop = record {
  before = pairs ++ stop.before;
  pair = stop.pair;
  behind = stop.behind ++ behind;
  pairs_are = ap (λ (l : List Pair). pairs ++ (l ++ behind)) stop.pairs_are
      ∙ ap (λ (l : List Pair). pairs ++ l) (append_assoc stop.before (stop.pair ∷ stop.behind) behind)
      ∙ sym (append_assoc pairs stop.before (stop.pair ∷ stop.behind ++ behind));
  more = more ++ stop.more;
  covered_before = covered_append pairs stop.before more stop.more covered stop.covered_before;
}

-- no key is reported for the pair
pub keyless_here : (pair : Pair) (error : ScanError) → CoversEntry pair → IsKeyless pair error → StopsAt (pair ∷ []) error
keyless_here pair Failed covers keyless = keyless
keyless_here pair NoMemory covers keyless = tt
keyless_here pair (NoNative path) covers keyless = record { stop = stop_here pair; covers = covers; lacks = keyless.0; path_is = keyless.1 }

untold_later : (pairs others behind : List Pair) (old between : List Listed) (path : List ℕ) → AddsCovered pairs old between → IsUntold others path → IsUntold (pairs ++ (others ++ behind)) path
untold_later pairs others behind old between path added untold = record {
  stop = stop_later pairs others behind added.more added.covered untold.stop;
  covers = untold.covers;
  lacks = untold.lacks;
  path_is = untold.path_is;
}

pub stops_later : (pairs others behind all : List Pair) (old between : List Listed) (error : ScanError) → pairs ++ (others ++ behind) ≡ all → AddsCovered pairs old between → StopsAt others error → StopsAt all error
stops_later pairs others behind all old between Failed are added stops = stops
stops_later pairs others behind all old between NoMemory are added stops = tt
stops_later pairs others behind all old between (NoNative path) are added stops =
    subst (λ (l : List Pair). IsUntold l path) are (untold_later pairs others behind old between path added stops)

-- ---- the entries of a path, for one input

abbrev with_reading : Reading → Entry → Pair
with_reading reading entry = pair_of entry reading

-- to an input that does not go by native numbers they are one file
pub adds_first : (rule : IdentityRule) (showing : Showing) (reading : Reading) (old new : List Listed) → reading.identity ≡ rule → (rule ≡ Native → ⊥) →
    AddsCovered (pair_of showing.first reading ∷ []) old new → AddsCovered (pairs_for showing reading) old new
adds_first rule showing reading old new is other adds =
    subst (λ (r : IdentityRule). AddsCovered (map (with_reading reading) (entries_for r showing)) old new) (sym is) (by_rule rule other)
  where
    by_rule : (rule : IdentityRule) → (rule ≡ Native → ⊥) → AddsCovered (map (with_reading reading) (entries_for rule showing)) old new
    by_rule (Fingerprint offset count) other = adds
    by_rule Native other = absurd (other refl)
    by_rule Path other = adds

pub adds_others : (showing : Showing) (reading : Reading) (old between new : List Listed) → reading.identity ≡ Native →
    AddsCovered (pair_of showing.first reading ∷ []) old between → AddsCovered (map (with_reading reading) showing.others.items) between new → AddsCovered (pairs_for showing reading) old new
adds_others showing reading old between new is first others =
    subst (λ (r : IdentityRule). AddsCovered (map (with_reading reading) (entries_for r showing)) old new) (sym is)
    (adds_further (pair_of showing.first reading ∷ []) (map (with_reading reading) showing.others.items) old between new first others)

pub stops_at_first : (showing : Showing) (reading : Reading) (error : ScanError) → StopsAt (pair_of showing.first reading ∷ []) error → StopsAt (pairs_for showing reading) error
stops_at_first showing reading error stops = by_rule reading.identity
  where
    by_rule : (rule : IdentityRule) → StopsAt (map (with_reading reading) (entries_for rule showing)) error
    by_rule (Fingerprint offset count) = stops
    by_rule Native = stops_later [] (pair_of showing.first reading ∷ []) (map (with_reading reading) showing.others.items) (map (with_reading reading) (entries_of showing)) [] [] error refl (adds_no_file []) stops
    by_rule Path = stops

pub stops_at_others : (showing : Showing) (reading : Reading) (old between : List Listed) (error : ScanError) → reading.identity ≡ Native →
    AddsCovered (pair_of showing.first reading ∷ []) old between → StopsAt (map (with_reading reading) showing.others.items) error → StopsAt (pairs_for showing reading) error
stops_at_others showing reading old between error is first stops =
    subst (λ (r : IdentityRule). StopsAt (map (with_reading reading) (entries_for r showing)) error) (sym is)
    (stops_later (pair_of showing.first reading ∷ []) (map (with_reading reading) showing.others.items) [] (map (with_reading reading) (entries_of showing)) old between error
    (ap (λ (l : List Pair). pair_of showing.first reading ∷ l) (append-nil (map (with_reading reading) showing.others.items))) first stops)

-- ---- the next entry of a path

with_one_entry : (reading : Reading) (entries : List Entry) (i : ℕ) (entry : Entry) → i < length entries → entry ≡ get_or entries i entry →
    map (with_reading reading) (take i entries) ++ pair_of entry reading ∷ [] ≡ map (with_reading reading) (take (i + 1) entries)
with_one_entry reading entries i entry within is =
    sym (map-append (with_reading reading) (take i entries) (entry ∷ []))
    ∙ ap (λ (x : Entry). map (with_reading reading) (take i entries ++ x ∷ [])) is
    ∙ ap (λ (l : List Entry). map (with_reading reading) l) (sym (take_more entries i entry within))

pub adds_next_other : (reading : Reading) (entries : List Entry) (i : ℕ) (entry : Entry) (old between new : List Listed) → i < length entries → entry ≡ get_or entries i entry →
    AddsCovered (map (with_reading reading) (take i entries)) old between → AddsCovered (pair_of entry reading ∷ []) between new →
    AddsCovered (map (with_reading reading) (take (i + 1) entries)) old new
adds_next_other reading entries i entry old between new within is before here =
    subst (λ (l : List Pair). AddsCovered l old new) (with_one_entry reading entries i entry within is)
    (adds_further (map (with_reading reading) (take i entries)) (pair_of entry reading ∷ []) old between new before here)

pub stops_at_other : (reading : Reading) (entries : List Entry) (i : ℕ) (entry : Entry) (old between : List Listed) (error : ScanError) → i < length entries → entry ≡ get_or entries i entry →
    AddsCovered (map (with_reading reading) (take i entries)) old between → StopsAt (pair_of entry reading ∷ []) error →
    StopsAt (map (with_reading reading) entries) error
stops_at_other reading entries i entry old between error within is before stops =
    stops_later (pairs (take i entries)) (pair_of entry reading ∷ []) (pairs (drop (i + 1) entries)) (pairs entries) old between error all before stops
  where
    pairs : List Entry → List Pair
    pairs some = map (with_reading reading) some

    all : pairs (take i entries) ++ ((pair_of entry reading ∷ []) ++ pairs (drop (i + 1) entries)) ≡ pairs entries
    all = sym (append_assoc (pairs (take i entries)) (pair_of entry reading ∷ []) (pairs (drop (i + 1) entries)))
        ∙ ap (λ (l : List Pair). l ++ pairs (drop (i + 1) entries)) (with_one_entry reading entries i entry within is)
        ∙ sym (map-append (with_reading reading) (take (i + 1) entries) (drop (i + 1) entries))
        ∙ ap (λ (l : List Entry). map (with_reading reading) l) (take-append-drop (i + 1) entries)

-- ---- the next input

with_one : (showing : Showing) (inputs : List ScanInput) (i : ℕ) (input : ScanInput) → i < length inputs → input ≡ get_or inputs i input →
    pairs_with (map reading_of (take i inputs)) showing ++ pairs_for showing (reading_of input) ≡ pairs_with (map reading_of (take (i + 1) inputs)) showing
with_one showing inputs i input within is =
    ap (λ (l : List Pair). pairs_with (map reading_of (take i inputs)) showing ++ l) (sym (append-nil (pairs_for showing (reading_of input))))
    ∙ sym (flat_map-append (pairs_for showing) (map reading_of (take i inputs)) (reading_of input ∷ []))
    ∙ ap (λ (l : List Reading). flat_map (pairs_for showing) l) (sym (map-append reading_of (take i inputs) (input ∷ [])))
    ∙ ap (λ (x : ScanInput). flat_map (pairs_for showing) (map reading_of (take i inputs ++ x ∷ []))) is
    ∙ ap (λ (l : List ScanInput). flat_map (pairs_for showing) (map reading_of l)) (sym (take_more inputs i input within))

pub adds_next_input : (showing : Showing) (inputs : List ScanInput) (i : ℕ) (input : ScanInput) (old between new : List Listed) → i < length inputs → input ≡ get_or inputs i input →
    AddsCovered (pairs_with (map reading_of (take i inputs)) showing) old between → AddsCovered (pairs_for showing (reading_of input)) between new →
    AddsCovered (pairs_with (map reading_of (take (i + 1) inputs)) showing) old new
adds_next_input showing inputs i input old between new within is before here =
    subst (λ (l : List Pair). AddsCovered l old new) (with_one showing inputs i input within is)
    (adds_further (pairs_with (map reading_of (take i inputs)) showing) (pairs_for showing (reading_of input)) old between new before here)

pub stops_at_input : (showing : Showing) (inputs : List ScanInput) (i : ℕ) (input : ScanInput) (old between : List Listed) (error : ScanError) → i < length inputs → input ≡ get_or inputs i input →
    AddsCovered (pairs_with (map reading_of (take i inputs)) showing) old between → StopsAt (pairs_for showing (reading_of input)) error →
    StopsAt (pairs_with (map reading_of inputs) showing) error
stops_at_input showing inputs i input old between error within is before stops =
    stops_later (pairs (take i inputs)) (pairs_for showing (reading_of input)) (pairs (drop (i + 1) inputs)) (pairs inputs) old between error all before stops
  where
    pairs : List ScanInput → List Pair
    pairs some = pairs_with (map reading_of some) showing

    all : pairs (take i inputs) ++ (pairs_for showing (reading_of input) ++ pairs (drop (i + 1) inputs)) ≡ pairs inputs
    all = sym (append_assoc (pairs (take i inputs)) (pairs_for showing (reading_of input)) (pairs (drop (i + 1) inputs)))
        ∙ ap (λ (l : List Pair). l ++ pairs (drop (i + 1) inputs)) (with_one showing inputs i input within is)
        ∙ sym (flat_map-append (pairs_for showing) (map reading_of (take (i + 1) inputs)) (map reading_of (drop (i + 1) inputs)))
        ∙ ap (λ (l : List Reading). flat_map (pairs_for showing) l) (sym (map-append reading_of (take (i + 1) inputs) (drop (i + 1) inputs)))
        ∙ ap (λ (l : List ScanInput). flat_map (pairs_for showing) (map reading_of l)) (take-append-drop (i + 1) inputs)

-- ---- the next path

abbrev pub showing_by : List ℕ × Showing → Showing
showing_by one = one.1

pub adds_next_path : (readings : List Reading) (yielded : List (List ℕ × Showing)) (one : List ℕ × Showing) (between new : List Listed) →
    AreCovered (pairs_of readings (map showing_by yielded)) between → AddsCovered (pairs_with readings one.1) between new →
    AreCovered (pairs_of readings (map showing_by (yielded ++ one ∷ []))) new
adds_next_path readings yielded one between new before here =
    subst (λ (l : List Listed). AreCovered (pairs_of readings (map showing_by (yielded ++ one ∷ []))) l) (sym here.added)
    (subst (λ (l : List Pair). AreCovered l (between ++ here.more)) all
    (covered_append (pairs_of readings (map showing_by yielded)) (pairs_with readings one.1) between here.more before here.covered))
  where
    all : pairs_of readings (map showing_by yielded) ++ pairs_with readings one.1 ≡ pairs_of readings (map showing_by (yielded ++ one ∷ []))
    all = ap (λ (l : List Pair). pairs_of readings (map showing_by yielded) ++ l) (sym (append-nil (pairs_with readings one.1)))
        ∙ sym (flat_map-append (pairs_with readings) (map showing_by yielded) (one.1 ∷ []))
        ∙ ap (λ (l : List Showing). pairs_of readings l) (sym (map-append showing_by yielded (one ∷ [])))

pub stops_at_path : (readings : List Reading) (yielded left entries : List (List ℕ × Showing)) (one : List ℕ × Showing) (between : List Listed) (error : ScanError) →
    entries ≡ yielded ++ one ∷ left → AreCovered (pairs_of readings (map showing_by yielded)) between → StopsAt (pairs_with readings one.1) error →
    StopsAt (pairs_of readings (map showing_by entries)) error
stops_at_path readings yielded left entries one between error are before stops =
    stops_later (pairs_of readings (map showing_by yielded)) (pairs_with readings one.1) (pairs_of readings (map showing_by left)) (pairs_of readings (map showing_by entries)) [] between error all
    (record { more = between; covered = before; added = refl }) stops
  where
    all : pairs_of readings (map showing_by yielded) ++ (pairs_with readings one.1 ++ pairs_of readings (map showing_by left)) ≡ pairs_of readings (map showing_by entries)
    all = sym (flat_map-append (pairs_with readings) (map showing_by yielded) (map showing_by (one ∷ left)))
        ∙ ap (λ (l : List Showing). pairs_of readings l) (sym (map-append showing_by yielded (one ∷ left)))
        ∙ ap (λ (l : List (List ℕ × Showing)). pairs_of readings (map showing_by l)) (sym are)

same_items : (entries : List (List ℕ × Showing)) → map (λ one. one) entries ≡ entries
same_items [] = refl
same_items (one ∷ entries) = ap (λ (l : List (List ℕ × Showing)). one ∷ l) (same_items entries)

-- what a loop over the entries has yielded, the next one, and what is left
pub left_behind : (all yielded start at left : List (List ℕ × Showing)) (answer : Option (List ℕ × Showing)) (one : List ℕ × Showing) →
    start ≡ all → Yields (TakesFirst (λ x. x)) start yielded at → answer ≡ Some one → TakesFirst (λ x. x) at answer left → all ≡ yielded ++ one ∷ left
left_behind all yielded start at left answer one start_is yields is step =
    sym start_is
    ∙ rest_so_far (λ x. x) yielded start at yields
    ∙ ap (λ (l : List (List ℕ × Showing)). l ++ at) (same_items yielded)
    ∙ ap (λ (l : List (List ℕ × Showing)). yielded ++ l) (rest_more (λ x. x) at left answer one is step)
