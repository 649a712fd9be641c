-- What a scan reports of what it has found.
use Rattle.std.proofs.Common.{◌≡◌, ◌≢◌, ◌⊎◌, inl, inr, ⊎_elim, ℕ, zero, suc, ◌+◌, ◌<◌, ◌≤◌, false, true, List, [], ◌∷◌, ◌++◌, length, map, All, Any, Contains, Option, Some, None, IfSome, slice_get, refl, sym, ◌∙◌, ap, subst, arith, length-append}
use Rattle.std.specs.Prelude.{◌^◌, flat_map, option_map}
use Rattle.std.specs.BTreeMap.{get, is_at, IsOrdered}
use Rattle.std.specs.Cmp.{IsTotalOrder, on_total, then_total, nat_cmp_is, nat_cmp_total}
use Rattle.std.specs.List.{AllByRecursion}
use Rattle.std.specs.List.Sorted.{IsStrictlySortedBy}
use Rattle.std.specs.Map.{keys_of, lookup}
use Rattle.std.specs.Ordering.{nat_cmp, ordering_reverse, ordering_then}
use Rattle.std.specs.declared.cmp.Ordering.{Ordering}
use Rattle.std.specs.declared.cmp.Ordering.TheVariants.{Less, Greater}
use Rattle.std.proofs.lemmas.Cmp.{nat_list_cmp_total}
use Rattle.std.proofs.lemmas.Fmt.{length-decimal-le}
use Rattle.std.proofs.lemmas.List.Elements.{All-contains, All-from_recursion, All-weaker, recursion_from_All}
use Rattle.std.proofs.lemmas.List.Folds.{flat_map-map}
use Rattle.std.proofs.lemmas.Map.Lookups.{exact_bytes}
use Rattle.std.proofs.lemmas.Map.Views.{All-found, Contains-from_lookup, tells_apart}
use Rattle.std.proofs.lemmas.Option.{get_or_from_slice_get, none-some, slice_get_within}
use Rattle.event_tree.specs.declared.input_rule.IdentityRule.{IdentityRule}
use Rattle.event_tree.specs.declared.input_rule.IdentityRule.TheVariants.{Fingerprint, Native, Path}
use Rattle.event_tree.specs.declared.input_rule.InputRule.{InputRule}
use Rattle.file_identity.specs.Key.{listed_key, named_key, native_key, path_key}
use Rattle.outside.specs.declared.entry.Entry.{Entry}
use Rattle.outside.specs.declared.history.Shown.{Shown}
use Rattle.outside.specs.Folders.{FolderHistory, IsListable}
use Rattle.wire_base.specs.KeyOrder.{compare}
use Rattle.wire_base.specs.Ranges.{IsKey, IsPath}
use Rattle.wire_base.proofs.ByteOrder.{compare_same}
use Rattle.prospect.specs.declared.listed.Listed.{Listed}
use Rattle.prospect.specs.declared.scan_error.ScanError.{ScanError}
use Rattle.prospect.specs.declared.scan_error.ScanError.TheVariants.{Failed, NoMemory, NoNative}
use Rattle.prospect.specs.declared.scan_input.ScanInput.{ScanInput}
use Rattle.prospect.specs.declared.showing.Showing.{Showing}
use Rattle.prospect.specs.Covered.{AreCovered, AreNumbers, CoversEntry, IsFileOf, IsUntold, Pair, Stop, StopsAt, file_of, pair_of, pairs_for, pairs_of, pairs_with}
use Rattle.prospect.specs.Entries.{ByPath, IsOne, Lists, ShowEntries, entries_at, entries_in}
use Rattle.prospect.specs.ListedFiles.{AreApart, AreFilesShown, AreInOrder, AreOfShown, EndsAs, HasFile, IsCoveredBy, IsKeyed, IsListedBy, IsListedInRange, KeyIsTold, LacksNumbersFirst, Name, Place, ScansFiles, name_at, name_of, place_at, place_of, place_order, shown_in}
use Rattle.prospect.specs.Members.{globs_of, HaveShortIds, IsCovered}
use Rattle.prospect.specs.PastFaults.{RefusesBy}
use Rattle.prospect.specs.Readings.{Reading, globs_read, reading, reading_of, readings_from}
use Rattle.prospect.specs.Scan.{AreListed, Listing, TellsPath}
use Rattle.prospect.specs.Showings.{DifferInNumbers, HasNumbers, entries_for, entries_of}
use Rattle.prospect.specs.Unfinished.{ListsSome}
use Rattle.prospect.proofs.Covering.{showing_by}
use Rattle.prospect.proofs.Lists.{IsIn, all_append, all_both, all_flat, all_from_in, all_front, all_in, all_map, all_weaker, any_in, contains_in, contains_none, in_contained, in_flat, in_map, in_right, none_at_all, one_of_any}
use Rattle.prospect.proofs.NativeKeys.{same_numbers}
use Rattle.prospect.proofs.Unfinished.{all_listed}

-- ---- the pairs

has_pair : (readings : List Reading) (showings : List Showing) (read : Reading) (showing : Showing) (entry : Entry) → IsIn readings read → IsIn showings showing → IsIn (entries_for read.identity showing) entry →
    IsIn (pairs_of readings showings) (pair_of entry read)
has_pair readings showings read showing entry known shown among =
    in_flat (pairs_with readings) showings showing (pair_of entry read) shown
    (in_flat (pairs_for showing) readings read (pair_of entry read) known
    (in_map (λ (e : Entry). pair_of e read) (entries_for read.identity showing) entry among))

all_for : (R : Entry → Type 0) (rule : IdentityRule) (showing : Showing) → AllByRecursion R (entries_of showing) → AllByRecursion R (entries_for rule showing)
all_for R (Fingerprint offset count) showing all = (all.0, tt)
all_for R Native showing all = all
all_for R Path showing all = (all.0, tt)

all_with : (P : Pair → Type 0) (Q : Reading → Type 0) (R : Entry → Type 0) → ((read : Reading) (entry : Entry) → Q read → R entry → P (pair_of entry read)) →
    (readings : List Reading) → AllByRecursion Q readings → (showing : Showing) → AllByRecursion R (entries_of showing) → AllByRecursion P (pairs_with readings showing)
all_with P Q R step readings reads showing all =
    all_flat P Q (pairs_for showing)
    (λ read holds. all_map P R (λ (e : Entry). pair_of e read) (λ entry has. step read entry holds has) (entries_for read.identity showing) (all_for R read.identity showing all))
    readings reads

all_pairs : (P : Pair → Type 0) (Q : Reading → Type 0) (R : Entry → Type 0) → ((read : Reading) (entry : Entry) → Q read → R entry → P (pair_of entry read)) →
    (readings : List Reading) → AllByRecursion Q readings → (showings : List Showing) → AllByRecursion (λ showing. AllByRecursion R (entries_of showing)) showings → AllByRecursion P (pairs_of readings showings)
all_pairs P Q R step readings reads showings all =
    all_flat P (λ (showing : Showing). AllByRecursion R (entries_of showing)) (pairs_with readings) (λ showing has. all_with P Q R step readings reads showing has) showings all

-- ---- the files of the pairs

covered_all : (P : Listed → Type 0) (Q : Pair → Type 0) → ((pair : Pair) → Q pair → IsFileOf pair → P (file_of pair)) →
    (pairs : List Pair) (files : List Listed) → AreCovered pairs files → AllByRecursion Q pairs → AllByRecursion P files
covered_all P Q step [] files covered all = subst (λ (l : List Listed). AllByRecursion P l) (sym covered) tt
covered_all P Q step (pair ∷ pairs) files (inl here) all =
    subst (λ (l : List Listed). AllByRecursion P l) (sym here.2) (step pair all.0 here.0, covered_all P Q step pairs here.1 here.3 all.1)
covered_all P Q step (pair ∷ pairs) files (inr there) all = covered_all P Q step pairs files there.1 all.1

covered_has : (pairs : List Pair) (files : List Listed) (pair : Pair) → AreCovered pairs files → IsIn pairs pair → CoversEntry pair → IsIn files (file_of pair)
covered_has [] files pair covered none covers = absurd none
covered_has (first ∷ pairs) files pair (inl here) (inl same) covers =
    subst (λ (l : List Listed). IsIn l (file_of pair)) (sym here.2) (inl (ap file_of same))
covered_has (first ∷ pairs) files pair (inl here) (inr later) covers =
    subst (λ (l : List Listed). IsIn l (file_of pair)) (sym here.2) (inr (covered_has pairs here.1 pair here.3 later covers))
covered_has (first ∷ pairs) files pair (inr there) (inl same) covers = absurd (there.0 (subst CoversEntry (sym same) covers))
covered_has (first ∷ pairs) files pair (inr there) (inr later) covers = covered_has pairs files pair there.1 later covers

-- ---- the order

abbrev pair_place : Pair → Place
pair_place pair = place_of (file_of pair)

-- the inputs of both go by native numbers, and theirs differ
record DifferAtPlace (one other : Pair) : Type 0 where
  place_is : pair_place one ≡ pair_place other
  reading_is : one.reading ≡ other.reading
  by_numbers : one.reading.identity ≡ Native
  differ : one.entry.native ≢ other.entry.native

-- of this place or after it, and distinguished
abbrev IsBehind : Pair → Pair → Type 0
IsBehind one other = (place_order (pair_place one) (pair_place other) ≡ Less) ⊎ DifferAtPlace one other

abbrev AreSorted : List Pair → Type 0
AreSorted [] = Unit {0}
AreSorted (pair ∷ pairs) = AllByRecursion (IsBehind pair) pairs × AreSorted pairs

place_total : IsTotalOrder place_order
place_total = then_total (on_total (λ (place : Place). place.path) nat_list_cmp_total) (on_total (λ (place : Place). place.input) nat_cmp_total)

never_both : (one other : Place) → place_order one other ≡ Less → place_order other one ≡ Less → ⊥
never_both one other before after = let wrong : Less ≡ Greater = sym after ∙ place_total.antisymm other one ∙ ap ordering_reverse before in cc

pub never_itself : (one other : Place) → one ≡ other → place_order one other ≡ Less → ⊥
never_itself one other same less =
    let here : place_order one one ≡ Less = subst (λ (p : Place). place_order one p ≡ Less) (sym same) less in
    never_both one one here here

never_before : (one other : Pair) → IsBehind one other → place_order (pair_place other) (pair_place one) ≡ Less → ⊥
never_before one other (inl less) back = never_both (pair_place one) (pair_place other) less back
never_before one other (inr differ) back = never_itself (pair_place other) (pair_place one) (sym differ.place_is) back

-- a file that follows one
record IsFileBehind (one other : Listed) : Type 0 where
  order : place_order (place_of other) (place_of one) ≢ Less
  apart : name_of other ≢ name_of one

same_entry_numbers : (reading : Reading) (one other : Entry) → reading.identity ≡ Native → AreNumbers one.native → AreNumbers other.native →
    listed_key reading.id reading.identity other ≡ listed_key reading.id reading.identity one → one.native ≡ other.native
same_entry_numbers reading one other is fits fit same =
    let keys : listed_key reading.id Native other ≡ listed_key reading.id Native one = subst (λ (r : IdentityRule). listed_key reading.id r other ≡ listed_key reading.id r one) is same in
    sym (same_numbers reading.id other.native one.native fit fits keys)

file_behind : (one other : Pair) → IsFileOf one → IsBehind one other → IsFileOf other → IsFileBehind (file_of one) (file_of other)
file_behind one other file (inl less) another = record {
  order = never_both (pair_place one) (pair_place other) less;
  apart = λ same. never_itself (pair_place one) (pair_place other) (sym (ap (λ (n : Name). n.place) same)) less;
}
file_behind one other file (inr differ) another = record {
  order = never_itself (pair_place other) (pair_place one) (sym differ.place_is);
  apart = λ same. differ.differ
      (same_entry_numbers one.reading one.entry other.entry differ.by_numbers file.numbers another.numbers
      (ap (λ (r : Reading). listed_key r.id r.identity other.entry) differ.reading_is ∙ ap (λ (n : Name). n.key) same));
}

abbrev AreFilesSorted : List Listed → Type 0
AreFilesSorted files = AreInOrder files × AreApart files

one_more_sorted : (file : Listed) (files : List Listed) → AllByRecursion (IsFileBehind file) files → AreFilesSorted files → AreFilesSorted (file ∷ files)
one_more_sorted file files behind sorted = (
  (all_weaker (IsFileBehind file) (λ (later : Listed). place_order (place_of later) (place_of file) ≢ Less) (λ later is. is.order) files behind, sorted.0),
  (
    λ has.
        let one = one_of_any (λ (later : Listed). name_of later ≡ name_of file) files has in
        (all_in (IsFileBehind file) files one.0 behind (in_contained files one.0 one.1)).apart one.2,
    sorted.1,
  ),
)

files_sorted : (pairs : List Pair) (files : List Listed) → AreCovered pairs files → AreSorted pairs → AreFilesSorted files
files_sorted [] files covered sorted = subst AreFilesSorted (sym covered) (tt, tt)
files_sorted (pair ∷ pairs) files (inl here) sorted =
    subst AreFilesSorted (sym here.2)
    (one_more_sorted (file_of pair) here.1
    (covered_all (IsFileBehind (file_of pair)) (IsBehind pair) (λ other behind file. file_behind pair other here.0 behind file) pairs here.1 here.3 sorted.0)
    (files_sorted pairs here.1 here.3 sorted.1))
files_sorted (pair ∷ pairs) files (inr there) sorted = files_sorted pairs files there.1 sorted.1

sorted_append : (pairs others : List Pair) → AreSorted pairs → AreSorted others → AllByRecursion (λ pair. AllByRecursion (IsBehind pair) others) pairs → AreSorted (pairs ++ others)
sorted_append [] others first second across = second
sorted_append (pair ∷ pairs) others first second across =
    (all_append (IsBehind pair) pairs others first.0 across.0, sorted_append pairs others first.1 second across.1)

-- a pair that comes before this one is before it
in_before : (before : List Pair) (pair : Pair) (behind : List Pair) (other : Pair) → AreSorted (before ++ pair ∷ behind) → IsIn (before ++ pair ∷ behind) other →
    place_order (pair_place other) (pair_place pair) ≡ Less → IsIn before other
in_before [] pair behind other sorted (inl same) less = absurd (never_itself (pair_place other) (pair_place pair) (ap pair_place (sym same)) less)
in_before [] pair behind other sorted (inr later) less =
    absurd (never_before pair other (all_in (IsBehind pair) behind other sorted.0 later) less)
in_before (first ∷ before) pair behind other sorted (inl same) less = inl same
in_before (first ∷ before) pair behind other sorted (inr later) less = inr (in_before before pair behind other sorted.1 later less)

numbers_above : (least number : ℕ) (inputs : List InputRule) → least < number → AllByRecursion (λ read. least < read.number) (readings_from number inputs)
numbers_above least number [] less = tt
numbers_above least number (input ∷ inputs) less = (less, numbers_above least (suc number) inputs (omega (arith, less)))

is_less : (least number : ℕ) → least < number → nat_cmp least number ≡ Less
is_less least number less = sym (nat_cmp_is least number Less less)

abbrev HasPath : List ℕ → Entry → Type 0
HasPath path entry = entry.path ≡ path

-- with the same path the inputs decide
same_path : (path : List ℕ) (one other : Entry) (number later : ℕ) → HasPath path one → HasPath path other → number < later →
    ordering_then (compare one.path other.path) (nat_cmp number later) ≡ Less
same_path path one other number later here there less =
    ap (λ (o : Ordering). ordering_then o (nat_cmp number later)) (compare_same one.path other.path (here ∙ sym there)) ∙ is_less number later less

-- for an input that goes by native numbers
by_numbers_sorted : (reading : Reading) (path : List ℕ) (entries : List Entry) → reading.identity ≡ Native → AllByRecursion (HasPath path) entries → DifferInNumbers entries →
    AreSorted (map (λ entry. pair_of entry reading) entries)
by_numbers_sorted reading path [] is paths differ = tt
by_numbers_sorted reading path (entry ∷ entries) is paths differ = (
  all_map (IsBehind (pair_of entry reading)) (λ (e : Entry). HasPath path e × (e.native ≡ entry.native → ⊥)) (λ (e : Entry). pair_of e reading)
      (λ e both. inr (record {
        place_is = ap (λ (p : List ℕ). record { path = p; input = reading.number }) (paths.0 ∙ sym both.0);
        reading_is = refl;
        by_numbers = is;
        differ = λ same. both.1 (sym same);
      }))
      entries (all_both (HasPath path) (λ (e : Entry). e.native ≡ entry.native → ⊥) entries paths.1 (none_at_all (λ (e : Entry). e.native ≡ entry.native) entries differ.0)),
  by_numbers_sorted reading path entries is paths.1 differ.1,
)

for_sorted : (rule : IdentityRule) (reading : Reading) (path : List ℕ) (showing : Showing) → reading.identity ≡ rule → AllByRecursion (HasPath path) (entries_of showing) → DifferInNumbers (entries_of showing) →
    AreSorted (map (λ entry. pair_of entry reading) (entries_for rule showing))
for_sorted (Fingerprint offset count) reading path showing is paths differ = (tt, tt)
for_sorted Native reading path showing is paths differ = by_numbers_sorted reading path (entries_of showing) is paths differ
for_sorted Path reading path showing is paths differ = (tt, tt)

showing_sorted : (path : List ℕ) (showing : Showing) (number : ℕ) (inputs : List InputRule) → AllByRecursion (HasPath path) (entries_of showing) → DifferInNumbers (entries_of showing) →
    AreSorted (pairs_with (readings_from number inputs) showing)
showing_sorted path showing number [] paths differ = tt
showing_sorted path showing number (input ∷ inputs) paths differ =
    let here : Reading = reading number input in
    let later : List Reading = readings_from (suc number) inputs in
    sorted_append (pairs_for showing here) (pairs_with later showing)
    (for_sorted input.file_identity here path showing refl paths differ)
    (showing_sorted path showing (suc number) inputs paths differ)
    (all_map (λ (pair : Pair). AllByRecursion (IsBehind pair) (pairs_with later showing)) (HasPath path) (λ (e : Entry). pair_of e here)
    (λ one has. all_with (IsBehind (pair_of one here)) (λ read. number < read.number) (HasPath path)
    (λ read other less its. inl (same_path path one other number read.number has its less))
    later (numbers_above number (suc number) inputs (omega arith)) showing paths)
    (entries_for input.file_identity showing) (all_for (HasPath path) input.file_identity showing paths))

all_true : (readings : List Reading) → AllByRecursion (λ read. Unit {0}) readings
all_true [] = tt
all_true (read ∷ readings) = (tt, all_true readings)

abbrev IsAfter : List ℕ → Entry → Type 0
IsAfter path entry = compare path entry.path ≡ Less

-- with a lesser path it comes before all pairs of these
before_paths : (pair : Pair) (readings : List Reading) (showings : List Showing) → AllByRecursion (λ showing. AllByRecursion (IsAfter pair.entry.path) (entries_of showing)) showings →
    AllByRecursion (IsBehind pair) (pairs_of readings showings)
before_paths pair readings showings all =
    all_pairs (IsBehind pair) (λ read. Unit {0}) (IsAfter pair.entry.path)
    (λ read entry true less. inl (ap (λ (o : Ordering). ordering_then o (nat_cmp pair.reading.number read.number)) less))
    readings (all_true readings) showings all

record IsShownAt (path : List ℕ) (showing : Showing) : Type 0 where
  paths : AllByRecursion (HasPath path) (entries_of showing)
  differ : DifferInNumbers (entries_of showing)

abbrev IsShown : List ℕ × Showing → Type 0
IsShown one = IsShownAt one.0 one.1

paths_behind : (path key : List ℕ) (found : List (List ℕ × Showing)) → path ≡ key → AllByRecursion (λ other. compare key other ≡ Less) (keys_of found) → AllByRecursion IsShown found →
    AllByRecursion (λ showing. AllByRecursion (IsAfter path) (entries_of showing)) (map showing_by found)
paths_behind path key [] is behind all = tt
paths_behind path key (one ∷ found) is behind all = (
  all_weaker (HasPath one.0) (IsAfter path)
      (λ entry has. ap (λ (p : List ℕ). compare p entry.path) is ∙ ap (λ (p : List ℕ). compare key p) has ∙ behind.0)
      (entries_of one.1) all.0.paths,
  paths_behind path key found is behind.1 all.1,
)

pairs_sorted : (inputs : List InputRule) (found : List (List ℕ × Showing)) → IsStrictlySortedBy compare (keys_of found) → AllByRecursion IsShown found → AreSorted (pairs_of (readings_from 0 inputs) (map showing_by found))
unfolding IsStrictlySortedBy
pairs_sorted inputs [] ordered all = tt
pairs_sorted inputs (one ∷ found) ordered all =
    let readings : List Reading = readings_from 0 inputs in
    sorted_append (pairs_with readings one.1) (pairs_of readings (map showing_by found))
    (showing_sorted one.0 one.1 0 inputs all.0.paths all.0.differ) (pairs_sorted inputs found ordered.1 all.1)
    (all_with (λ (pair : Pair). AllByRecursion (IsBehind pair) (pairs_of readings (map showing_by found))) (λ read. Unit {0}) (HasPath one.0)
    (λ read entry true has. before_paths (pair_of entry read) readings (map showing_by found) (paths_behind entry.path one.0 found has ordered.0 all.1))
    readings (all_true readings) one.1 all.0.paths)

-- ---- the readings

record ReadsInput (number : ℕ) (inputs : List InputRule) (read : Reading) : Type 0 where
  place : ℕ
  rule : InputRule
  rule_is : slice_get inputs place ≡ Some rule
  reading_is : read ≡ reading (number + place) rule

reads_inputs : (number : ℕ) (inputs : List InputRule) → AllByRecursion (ReadsInput number inputs) (readings_from number inputs)
reads_inputs number [] = tt
reads_inputs number (input ∷ inputs) = (
  record { place = 0; rule = input; rule_is = refl; reading_is = ap (λ (n : ℕ). reading n input) (omega arith) },
  all_weaker (ReadsInput (suc number) inputs) (ReadsInput number (input ∷ inputs)) later (readings_from (suc number) inputs) (reads_inputs (suc number) inputs),
)
  where
    later : (read : Reading) → ReadsInput (suc number) inputs read → ReadsInput number (input ∷ inputs) read
    later read is = record { place = suc is.place; rule = is.rule; rule_is = is.rule_is; reading_is = is.reading_is ∙ ap (λ (n : ℕ). reading n is.rule) (omega arith) }

own_reading : (inputs : List InputRule) (read : Reading) (is : ReadsInput 0 inputs read) → read ≡ reading is.place is.rule
own_reading inputs read is = is.reading_is ∙ ap (λ (n : ℕ). reading n is.rule) (omega arith)

has_reading : (number : ℕ) (inputs : List InputRule) (place : ℕ) (rule : InputRule) → slice_get inputs place ≡ Some rule → IsIn (readings_from number inputs) (reading (number + place) rule)
has_reading number [] place rule is = absurd (none-some rule is)
has_reading number (input ∷ inputs) zero rule is =
    let same : input ≡ rule = cc in
    inl (ap (λ (r : InputRule). reading number r) same ∙ ap (λ (n : ℕ). reading n rule) (omega arith))
has_reading number (input ∷ inputs) (suc place) rule is =
    inr (subst (λ (n : ℕ). IsIn (readings_from (suc number) inputs) (reading n rule)) (omega arith) (has_reading (suc number) inputs place rule is))

globs_from : (number : ℕ) (inputs : List InputRule) → flat_map (λ read. read.globs) (readings_from number inputs) ≡ globs_of inputs
globs_from number [] = refl
globs_from number (input ∷ inputs) = ap (λ (l : List (List ℕ)). input.paths ++ l) (globs_from (suc number) inputs)

pub globs_are : (inputs : List InputRule) (reads : List ScanInput) → map reading_of reads ≡ readings_from 0 inputs → globs_read reads ≡ globs_of inputs
globs_are inputs reads numbered =
    sym (flat_map-map (λ (read : Reading). read.globs) reading_of reads)
    ∙ ap (λ (l : List Reading). flat_map (λ read. read.globs) l) numbered
    ∙ globs_from 0 inputs

-- ---- ranges

short_native : (id : List ℕ) (numbers : ℕ × ℕ) → length id ≤ 64 → numbers.0 < 2 ^ 64 → numbers.1 < 2 ^ 64 → IsKey (native_key id numbers)
short_native id numbers short first second =
    let inode = length-decimal-le 20 numbers.0 (omega arith) (omega (arith, first)) first in
    let device = length-decimal-le 20 numbers.1 (omega arith) (omega (arith, second)) second in
    simp length-append (omega (arith, inode, device, short))

short_path : (id path : List ℕ) → length id ≤ 64 → IsPath path → IsKey (path_key id path)
short_path id path short in_range = simp length-append (omega (arith, short, in_range))

short_key : (id : List ℕ) (rule : IdentityRule) (entry : Entry) → length id ≤ 64 → IsPath entry.path → AreNumbers entry.native → IfSome (listed_key id rule entry) IsKey
short_key id (Fingerprint offset count) entry short path numbers = tt
short_key id Native entry short path numbers = by_numbers entry.native numbers
  where
    by_numbers : (native : Option (ℕ × ℕ)) → AreNumbers native → IfSome (option_map (native_key id) native) IsKey
    by_numbers None numbers = tt
    by_numbers (Some both) numbers = short_native id both short numbers.0 numbers.1
short_key id Path entry short path numbers = short_path id entry.path short path

-- ---- what a scan answers

-- a shown file of this entry
shown_of : (shown : List Shown) (entry : Entry) → IsIn (map (λ one. one.entry) shown) entry → (one : Shown) × IsIn shown one × (one.entry ≡ entry)
shown_of [] entry none = absurd none
shown_of (first ∷ shown) entry (inl same) = (first, inl refl, same)
shown_of (first ∷ shown) entry (inr later) = let found = shown_of shown entry later in (found.0, inr found.1, found.2)

listed_by : (inputs : List InputRule) (shown : Shown) (place : ℕ) (rule : InputRule) → slice_get inputs place ≡ Some rule → IsCovered rule.paths shown.entry.path →
    IsListedBy inputs (file_of (pair_of shown.entry (reading place rule))) shown
listed_by inputs shown place rule rule_is covered = record {
  rule = rule;
  rule_is = rule_is;
  covered = covered;
  path_is = refl;
  size_is = refl;
  changed_is = refl;
  key_is = refl;
}

-- what is known of each pair
record IsKnown (inputs : List InputRule) (entries : List Entry) (pair : Pair) : Type 0 where
  reads : ReadsInput 0 inputs pair.reading
  among : Contains entries pair.entry

-- a pair whose input covers what was shown, with its name
record IsPairOf (pairs : List Pair) (name : Name) : Type 0 where
  pair : Pair
  among : IsIn pairs pair
  covers : CoversEntry pair
  name_is : name_of (file_of pair) ≡ name

file_named : (files : List Listed) (name : Name) (pair : Pair) → IsIn files (file_of pair) → name_of (file_of pair) ≡ name → HasFile files name
file_named files name pair among is = any_in (λ (one : Listed). name_of one ≡ name) files (file_of pair) among is

-- the entries of a path that an input distinguishes have the key of each
keyed_as : (rule : IdentityRule) (id path : List ℕ) (showing : Showing) (numbers : Option (ℕ × ℕ)) → AllByRecursion (HasPath path) (entries_of showing) → HasNumbers (entries_of showing) numbers →
    (entry : Entry) × IsIn (entries_for rule showing) entry × (entry.path ≡ path) × (listed_key id rule entry ≡ named_key id rule path numbers)
keyed_as (Fingerprint offset count) id path showing numbers paths has = (showing.first, inl refl, paths.0, refl)
keyed_as Native id path showing numbers paths has =
    let one = one_of_any (λ (e : Entry). e.native ≡ numbers) (entries_of showing) has in
    let among = in_contained (entries_of showing) one.0 one.1 in
    (one.0, among, all_in (HasPath path) (entries_of showing) one.0 paths among, ap (λ (n : Option (ℕ × ℕ)). option_map (native_key id) n) one.2)
keyed_as Path id path showing numbers paths has = (showing.first, inl refl, paths.0, ap (λ (p : List ℕ). Some (path_key id p)) paths.0)

-- without its numbers an entry has no key of them
no_key : (rule : IdentityRule) (id path : List ℕ) (numbers : Option (ℕ × ℕ)) → rule ≡ Native → numbers ≡ None → KeyIsTold rule (named_key id rule path numbers) → ⊥
no_key rule id path numbers by_numbers none told =
    let native : KeyIsTold Native (named_key id Native path numbers) = subst (λ (r : IdentityRule). KeyIsTold r (named_key id r path numbers)) by_numbers told in
    let wrong : false ≡ true = subst (λ (n : Option (ℕ × ℕ)). KeyIsTold Native (named_key id Native path n)) none native in
    cc

module _ (inputs : List InputRule) (reads : List ScanInput) (told after : Option FolderHistory) (none found : ByPath) (numbered : map reading_of reads ≡ readings_from 0 inputs)
    (empty : none.entries ≡ []) (ordered : IsOrdered compare found) (lists : Lists (globs_read reads) told none found after) where
  abbrev pairs : List Pair
  pairs = pairs_of (readings_from 0 inputs) (map showing_by found.entries)

  nothing : (path : List ℕ) → entries_at none path ≡ []
  nothing path = ap (λ (entries : List (List ℕ × Showing)). entries_in (lookup (is_at (compare path)) entries)) empty

  one_of : (path : List ℕ) (entry : Entry) → Contains (entries_at found path) entry → IsOne lists.entries path entry
  one_of path entry among = ⊎_elim
      (λ before. absurd (contains_none entry (subst (λ (l : List Entry). Contains l entry) (nothing path) before)))
      (λ one. one)
      (lists.added.only path entry among)

  -- what is known of each path
  record IsFound (one : List ℕ × Showing) : Type 0 where
    ones : AllByRecursion (IsOne lists.entries one.0) (entries_of one.1)
    differ : DifferInNumbers (entries_of one.1)

  is_found : (one : List ℕ × Showing) → get compare found one.0 ≡ Some one.1 → IsFound one
  is_found one is = record {
    ones = all_from_in (IsOne lists.entries one.0) (entries_of one.1)
        (λ entry among. one_of one.0 entry (subst (λ (l : List Entry). Contains l entry) (sym (ap entries_in is)) (contains_in (entries_of one.1) entry among)));
    differ = subst DifferInNumbers (ap entries_in is) (lists.added.apart one.0 (subst DifferInNumbers (sym (nothing one.0)) tt));
  }

  each_found : AllByRecursion IsFound found.entries
  each_found = recursion_from_All IsFound found.entries
      (All-weaker (λ (e : List ℕ × Showing). get compare found e.0 ≡ Some e.1) IsFound is_found found.entries (All-found nat_list_cmp_total found ordered))

  paths_of : (one : List ℕ × Showing) → IsFound one → AllByRecursion (HasPath one.0) (entries_of one.1)
  paths_of one is = all_weaker (IsOne lists.entries one.0) (HasPath one.0) (λ entry one. one.path_is) (entries_of one.1) is.ones

  sorted : AreSorted pairs
  sorted = pairs_sorted inputs found.entries ordered
      (all_weaker IsFound IsShown (λ one is. record { paths = paths_of one is; differ = is.differ }) found.entries each_found)

  known : AllByRecursion (IsKnown inputs lists.entries) pairs
  known = all_pairs (IsKnown inputs lists.entries) (ReadsInput 0 inputs) (Contains lists.entries) (λ read entry reads among. record { reads = reads; among = among })
      (readings_from 0 inputs) (reads_inputs 0 inputs) (map showing_by found.entries)
      (all_map (λ (showing : Showing). AllByRecursion (Contains lists.entries) (entries_of showing)) IsFound showing_by
      (λ one is. all_weaker (IsOne lists.entries one.0) (Contains lists.entries) (λ entry one. one.among) (entries_of one.1) is.ones)
      found.entries each_found)

  covered_pairs : (files : List Listed) → AreCovered (pairs_of (map reading_of reads) (map showing_by found.entries)) files → AreCovered pairs files
  covered_pairs files covered = subst (λ (l : List Reading). AreCovered (pairs_of l (map showing_by found.entries)) files) numbered covered

  -- ---- ranges

  range_of : HaveShortIds inputs → (pair : Pair) → IsKnown inputs lists.entries pair → IsFileOf pair → IsListedInRange (file_of pair)
  range_of short pair is file =
      let listable : IsListable pair.entry = All-contains IsListable lists.entries pair.entry lists.in_range is.among in
      let rule_in : Contains inputs is.reads.rule = (is.reads.place, slice_get_within inputs is.reads.place is.reads.rule is.reads.rule_is, get_or_from_slice_get inputs is.reads.place is.reads.rule is.reads.rule is.reads.rule_is) in
      let id : length is.reads.rule.id ≤ 64 = All-contains (λ (input : InputRule). length input.id ≤ 64) inputs is.reads.rule short rule_in in
      let own : length pair.reading.id ≤ 64 = subst (λ (r : Reading). length r.id ≤ 64) (sym (own_reading inputs pair.reading is.reads)) id in
      record {
        key = short_key pair.reading.id pair.reading.identity pair.entry own listable.path file.numbers;
        path = listable.path;
        size = listable.size;
      }

  pub in_range : (files : List Listed) → AreCovered (pairs_of (map reading_of reads) (map showing_by found.entries)) files → HaveShortIds inputs → All IsListedInRange files
  in_range files covered short =
      All-from_recursion IsListedInRange files
      (covered_all IsListedInRange (IsKnown inputs lists.entries) (λ pair is file. range_of short pair is file) pairs files (covered_pairs files covered) known)

  pub in_order : (files : List Listed) → AreCovered (pairs_of (map reading_of reads) (map showing_by found.entries)) files → AreInOrder files
  in_order files covered = (files_sorted pairs files (covered_pairs files covered) sorted).0

  pub apart : (files : List Listed) → AreCovered (pairs_of (map reading_of reads) (map showing_by found.entries)) files → AreApart files
  apart files covered = (files_sorted pairs files (covered_pairs files covered) sorted).1

  key_of : (pair : Pair) → IsKnown inputs lists.entries pair → IsFileOf pair → IsKeyed inputs (file_of pair)
  key_of pair is file rule rule_is =
      let own : pair.reading ≡ reading is.reads.place is.reads.rule = own_reading inputs pair.reading is.reads in
      let there : slice_get inputs is.reads.place ≡ Some rule = ap (λ (r : Reading). slice_get inputs r.number) (sym own) ∙ rule_is in
      let some : Some is.reads.rule ≡ Some rule = sym is.reads.rule_is ∙ there in
      let same : is.reads.rule ≡ rule = cc in
      let identity : pair.reading.identity ≡ rule.file_identity = ap (λ (r : Reading). r.identity) own ∙ ap (λ (r : InputRule). r.file_identity) same in
      subst (λ (r : IdentityRule). KeyIsTold r (file_of pair).key) identity file.told

  pub keyed : (files : List Listed) → AreCovered (pairs_of (map reading_of reads) (map showing_by found.entries)) files → All (IsKeyed inputs) files
  keyed files covered =
      All-from_recursion (IsKeyed inputs) files
      (covered_all (IsKeyed inputs) (IsKnown inputs lists.entries) key_of pairs files (covered_pairs files covered) known)

  input_of : (pair : Pair) → IsKnown inputs lists.entries pair → IsFileOf pair → (file_of pair).input < length inputs
  input_of pair is file =
      subst (λ (r : Reading). r.number < length inputs) (sym (own_reading inputs pair.reading is.reads))
      (slice_get_within inputs is.reads.place is.reads.rule is.reads.rule_is)

  pub of_inputs : (files : List Listed) → AreCovered (pairs_of (map reading_of reads) (map showing_by found.entries)) files → All (λ one. one.input < length inputs) files
  of_inputs files covered =
      All-from_recursion (λ (one : Listed). one.input < length inputs) files
      (covered_all (λ (one : Listed). one.input < length inputs) (IsKnown inputs lists.entries) (λ pair is file. input_of pair is file) pairs files (covered_pairs files covered) known)

  untold_in_pairs : (path : List ℕ) → IsUntold (pairs_of (map reading_of reads) (map showing_by found.entries)) path → IsUntold pairs path
  untold_in_pairs path untold = subst (λ (l : List Reading). IsUntold (pairs_of l (map showing_by found.entries)) path) numbered untold

  stop_known : (stop : Stop pairs) → IsKnown inputs lists.entries stop.pair
  stop_known stop = all_in (IsKnown inputs lists.entries) pairs stop.pair known
      (subst (λ (l : List Pair). IsIn l stop.pair) (sym stop.pairs_are) (in_right stop.before (stop.pair ∷ stop.behind) stop.pair (inl refl)))

  keyed_before : (stop : Stop pairs) → AllByRecursion (IsKeyed inputs) stop.more
  keyed_before stop =
      covered_all (IsKeyed inputs) (IsKnown inputs lists.entries) key_of stop.before stop.more stop.covered_before
      (all_front (IsKnown inputs lists.entries) stop.before (stop.pair ∷ stop.behind) (subst (λ (l : List Pair). AllByRecursion (IsKnown inputs lists.entries) l) stop.pairs_are known))

  path_listable : (pair : Pair) → IsKnown inputs lists.entries pair → IsPath pair.entry.path
  path_listable pair is = (All-contains IsListable lists.entries pair.entry lists.in_range is.among).path

  pub tells_path : (error : ScanError) → StopsAt (pairs_of (map reading_of reads) (map showing_by found.entries)) error → TellsPath error
  tells_path Failed stops = tt
  tells_path NoMemory stops = tt
  tells_path (NoNative path) stops =
      let untold : IsUntold pairs path = untold_in_pairs path stops in
      subst (λ (p : List ℕ). IsPath p) untold.path_is (path_listable untold.stop.pair (stop_known untold.stop))

  -- ---- where the folder reports

  module _ (listings : List Listing) (entries_are : lists.entries ≡ map (λ one. one.entry) (shown_in listings)) where
    -- what was shown of a pair
    record IsShownPair (pair : Pair) (is : IsKnown inputs lists.entries pair) : Type 0 where
      shown : Shown
      among : IsIn (shown_in listings) shown
      entry_is : shown.entry ≡ pair.entry
      covered : IsCovered is.reads.rule.paths shown.entry.path

    shown_pair : (pair : Pair) (is : IsKnown inputs lists.entries pair) → CoversEntry pair → IsShownPair pair is
    shown_pair pair is covers =
        let entries : Contains (map (λ one. one.entry) (shown_in listings)) pair.entry = subst (λ (l : List Entry). Contains l pair.entry) entries_are is.among in
        let one = shown_of (shown_in listings) pair.entry (in_contained (map (λ one. one.entry) (shown_in listings)) pair.entry entries) in
        let covered : IsCovered is.reads.rule.paths pair.entry.path = subst (λ (r : Reading). IsCovered r.globs pair.entry.path) (own_reading inputs pair.reading is.reads) covers in
        record {
          shown = one.0;
          among = one.1;
          entry_is = one.2;
          covered = subst (λ (e : Entry). IsCovered is.reads.rule.paths e.path) (sym one.2) covered;
        }

    of_shown : (pair : Pair) → IsKnown inputs lists.entries pair → IsFileOf pair → Any (λ one. IsListedBy inputs (file_of pair) one) (shown_in listings)
    of_shown pair is file =
        let one : IsShownPair pair is = shown_pair pair is file.covers in
        let by : IsListedBy inputs (file_of (pair_of one.shown.entry (reading is.reads.place is.reads.rule))) one.shown = listed_by inputs one.shown is.reads.place is.reads.rule is.reads.rule_is one.covered in
        let by_reading : IsListedBy inputs (file_of (pair_of one.shown.entry pair.reading)) one.shown = subst (λ (r : Reading). IsListedBy inputs (file_of (pair_of one.shown.entry r)) one.shown) (sym (own_reading inputs pair.reading is.reads)) by in
        any_in (λ s. IsListedBy inputs (file_of pair) s) (shown_in listings) one.shown one.among
        (subst (λ (e : Entry). IsListedBy inputs (file_of (pair_of e pair.reading)) one.shown) one.entry_is by_reading)

    all_shown : (some : List Pair) (files : List Listed) → AreCovered some files → AllByRecursion (IsKnown inputs lists.entries) some → AreOfShown inputs listings files
    all_shown some files covered all =
        All-from_recursion (λ one. Any (λ s. IsListedBy inputs one s) (shown_in listings)) files
        (covered_all (λ one. Any (λ s. IsListedBy inputs one s) (shown_in listings)) (IsKnown inputs lists.entries) of_shown some files covered all)

    showing_at : (one : Shown) → IsIn (shown_in listings) one →
        (showing : Showing) × IsIn (map showing_by found.entries) showing × AllByRecursion (HasPath one.entry.path) (entries_of showing) × HasNumbers (entries_of showing) one.entry.native
    showing_at one among =
        let entries : Contains lists.entries one.entry = subst (λ (l : List Entry). Contains l one.entry) (sym entries_are)
        (contains_in (map (λ one. one.entry) (shown_in listings)) one.entry (in_map (λ (s : Shown). s.entry) (shown_in listings) one among)) in
        by_value (get compare found one.entry.path) refl (lists.added.every one.entry entries)
      where
        by_value : (value : Option Showing) → get compare found one.entry.path ≡ value → HasNumbers (entries_in value) one.entry.native →
            (showing : Showing) × IsIn (map showing_by found.entries) showing × AllByRecursion (HasPath one.entry.path) (entries_of showing) × HasNumbers (entries_of showing) one.entry.native
        by_value None is has = absurd (let none = one_of_any (λ (e : Entry). e.native ≡ one.entry.native) [] has in contains_none none.0 none.1)
        by_value (Some showing) is has = (
          showing,
          in_map showing_by found.entries (one.entry.path, showing) (in_contained found.entries (one.entry.path, showing) (Contains-from_lookup (tells_apart exact_bytes) one.entry.path showing found.entries is)),
          paths_of (one.entry.path, showing) (is_found (one.entry.path, showing) is),
          has,
        )

    pair_at : (one : Shown) (input : ℕ) (is : IsCoveredBy inputs listings one input) → IsPairOf pairs (name_at is.rule one input)
    pair_at one input is =
        let (showing, among, paths, has) = showing_at one (in_contained (shown_in listings) one is.among) in
        let (entry, told_apart, path_is, key_is) = keyed_as is.rule.file_identity is.rule.id one.entry.path showing one.entry.native paths has in
        let read : Reading = reading (0 + input) is.rule in
        record {
          pair = pair_of entry read;
          among = has_pair (readings_from 0 inputs) (map showing_by found.entries) read showing entry (has_reading 0 inputs input is.rule is.rule_is) among told_apart;
          covers = subst (λ (path : List ℕ). IsCovered is.rule.paths path) (sym path_is) is.covered;
          name_is = ap (λ (path : List ℕ). record { place = record { path = path; input = 0 + input }; key = listed_key is.rule.id is.rule.file_identity entry }) path_is
              ∙ ap (λ (n : ℕ). record { place = record { path = one.entry.path; input = n }; key = listed_key is.rule.id is.rule.file_identity entry }) (omega arith)
              ∙ ap (λ (key : Option (List ℕ)). record { place = place_at one input; key = key }) key_is;
        }

    has_before : (stop : Stop pairs) (s : Shown) (input : ℕ) (of : IsCoveredBy inputs listings s input) → place_order (place_at s input) (pair_place stop.pair) ≡ Less →
        HasFile stop.more (name_at of.rule s input)
    has_before stop s input of less =
        let at = pair_at s input of in
        let stands : IsIn stop.before at.pair = in_before stop.before stop.pair stop.behind at.pair (subst AreSorted stop.pairs_are sorted)
        (subst (λ (l : List Pair). IsIn l at.pair) stop.pairs_are at.among)
        (subst (λ (n : Name). place_order n.place (pair_place stop.pair) ≡ Less) (sym at.name_is) less) in
        file_named stop.more (name_at of.rule s input) at.pair (covered_has stop.before stop.more at.pair stop.covered_before stands at.covers) at.name_is

    never_untold_before : (stop : Stop pairs) (s : Shown) (input : ℕ) (of : IsCoveredBy inputs listings s input) → of.rule.file_identity ≡ Native → s.entry.native ≡ None →
        place_order (place_at s input) (pair_place stop.pair) ≡ Less → ⊥
    never_untold_before stop s input of by_numbers none less =
        let name : Name = name_at of.rule s input in
        let one = one_of_any (λ (f : Listed). name_of f ≡ name) stop.more (has_before stop s input of less) in
        let is : name_of one.0 ≡ name = one.2 in
        let rule_is : slice_get inputs one.0.input ≡ Some of.rule = ap (λ (n : Name). slice_get inputs n.place.input) is ∙ of.rule_is in
        let told : KeyIsTold of.rule.file_identity one.0.key = all_in (IsKeyed inputs) stop.more one.0 (keyed_before stop) (in_contained stop.more one.0 one.1) of.rule rule_is in
        no_key of.rule.file_identity of.rule.id s.entry.path s.entry.native by_numbers none
        (subst (λ (n : Name). KeyIsTold of.rule.file_identity n.key) is told)

    lacks_numbers : (path : List ℕ) → IsUntold pairs path → LacksNumbersFirst inputs listings path
    lacks_numbers path untold =
        let stop : Stop pairs = untold.stop in
        let is : IsKnown inputs lists.entries stop.pair = stop_known stop in
        let one : IsShownPair stop.pair is = shown_pair stop.pair is untold.covers in
        let own : stop.pair.reading ≡ reading is.reads.place is.reads.rule = own_reading inputs stop.pair.reading is.reads in
        let place_is : place_at one.shown is.reads.place ≡ pair_place stop.pair =
        ap (λ (e : Entry). record { path = e.path; input = is.reads.place }) one.entry_is
        ∙ ap (λ (r : Reading). record { path = stop.pair.entry.path; input = r.number }) (sym own) in
        record {
          shown = one.shown;
          input = is.reads.place;
          covered = record {
            among = contains_in (shown_in listings) one.shown one.among;
            rule = is.reads.rule;
            rule_is = is.reads.rule_is;
            covered = one.covered;
          };
          by_numbers = ap (λ (r : Reading). r.identity) (sym own) ∙ untold.lacks.0;
          path_is = ap (λ (e : Entry). e.path) one.entry_is ∙ untold.path_is;
          none = ap (λ (e : Entry). e.native) one.entry_is ∙ untold.lacks.1;
          first = λ other at of by_numbers none less.
              never_untold_before stop other at of by_numbers none (subst (λ (place : Place). place_order (place_at other at) place ≡ Less) place_is less);
        }

    files_shown : (files : List Listed) → AreCovered pairs files → AreFilesShown inputs listings files
    files_shown files covered = record {
      only = all_shown pairs files covered known;
      every = λ one input is. let at = pair_at one input is in file_named files (name_at is.rule one input) at.pair (covered_has pairs files at.pair covered at.among at.covers) at.name_is;
      in_order = (files_sorted pairs files covered sorted).0;
      apart = (files_sorted pairs files covered sorted).1;
    }

    pub shows_files : (files : List Listed) → AreCovered (pairs_of (map reading_of reads) (map showing_by found.entries)) files → AreFilesShown inputs listings files
    shows_files files covered = files_shown files (covered_pairs files covered)

    pub refuses : (error : ScanError) → error ≢ NoMemory → StopsAt (pairs_of (map reading_of reads) (map showing_by found.entries)) error → RefusesBy inputs listings error
    refuses Failed some stops = stops
    refuses NoMemory some stops = some refl
    refuses (NoNative path) some stops = lacks_numbers path (untold_in_pairs path stops)

  -- one listing for each glob
  listed_by_globs : (history : FolderHistory) (shows : ShowEntries (globs_read reads) lists.entries history after) → AreListed (globs_of inputs) history shows.listings after
  listed_by_globs history shows = subst (λ (globs : List (List ℕ)). AreListed globs history shows.listings after) (globs_are inputs reads numbered) shows.listed

  pub scanned : (files : List Listed) → AreCovered (pairs_of (map reading_of reads) (map showing_by found.entries)) files → IfSome told (λ history. ScansFiles inputs history files after)
  scanned files covered = by_told told lists.shown
    where
      by_told : (o : Option FolderHistory) → IfSome o (λ history. ShowEntries (globs_read reads) lists.entries history after) → IfSome o (λ history. ScansFiles inputs history files after)
      by_told None shows = tt
      by_told (Some history) shows = record {
        listings = shows.listings;
        listed_is = listed_by_globs history shows;
        shown = shows_files shows.listings shows.entries_are files covered;
      }

  pub refused : (error : ScanError) → StopsAt (pairs_of (map reading_of reads) (map showing_by found.entries)) error → IfSome told (λ history. EndsAs inputs history error after)
  refused Failed stops = absurd stops
  refused NoMemory stops =
      subst (λ (globs : List (List ℕ)). IfSome told (λ history. ListsSome globs history after)) (globs_are inputs reads numbered)
      (all_listed (globs_read reads) told after none found lists)
  refused (NoNative path) stops = by_told told lists.shown
    where
      by_told : (o : Option FolderHistory) → IfSome o (λ history. ShowEntries (globs_read reads) lists.entries history after) → IfSome o (λ history. EndsAs inputs history (NoNative path) after)
      by_told None shows = tt
      by_told (Some history) shows = record {
        listings = shows.listings;
        listed_is = listed_by_globs history shows;
        lacks = lacks_numbers shows.listings shows.entries_are path (untold_in_pairs path stops);
      }
