-- A started area is opened, with exactly the rows and the generation that it was started with.
use Rattle.std.proofs.Common.{◌≡◌, ◌≢◌, inl, inr, ℕ, zero, suc, ◌+◌, ◌-◌, ◌^◌, ◌<◌, ◌≤◌, Bool, true, false, if◌then◌else◌, List, [], ◌∷◌, ◌++◌, length, take, drop, get_or, Some, refl, sym, ap, ◌∙◌, subst, arith, codes, decimal, append_assoc, append-nil, length-append}
use Rattle.std.specs.Prelude.{All, ◌&&◌, replicate, slice_get}
use Rattle.std.specs.Char.{IsAsciiDigit, digit_value}
use Rattle.std.specs.List.{list_all, range_with_len}
use Rattle.std.specs.Ordering.{is_eq, match_ordering}
use Rattle.std.specs.Str.Parse.{AllDigits, digits_value}
use Rattle.std.specs.declared.cmp.Ordering.{Ordering}
use Rattle.std.specs.declared.cmp.Ordering.TheVariants.{Less, Equal, Greater}
use Rattle.std.proofs.Math.Seq.{drop-append-add, take-append_seam, get_or-append_seam}
use Rattle.std.proofs.lemmas.Bool.{cases_lt}
use Rattle.std.proofs.lemmas.Bool.Decides.{eqb_tells, nat_tests}
use Rattle.std.proofs.lemmas.Fmt.{decimal_is_IsNumeral, length-decimal-le}
use Rattle.std.proofs.lemmas.List.{get_or_append_left, get_or-drop, length-map}
use Rattle.std.proofs.lemmas.List.Elements.{All-append, All-cons, All-head, All-map, All-nil, All-replicate, All-tail}
use Rattle.std.proofs.lemmas.Option.{slice_get-get_or}
use Rattle.wire_base.proofs.ByteOrder.{compare_greater}
use Rattle.wire_base.specs.KeyOrder.{compare}
use Rattle.wire_base.specs.declared.row.Row.{Row}
use Rattle.wire_base.specs.declared.row.Op.{Op}
use Rattle.wire_base.specs.declared.row.Op.TheVariants.{Set, Remove}
use Rattle.ship_core.specs.Replay.{after_op, replay, replay_on, with_row, without_row}
use Rattle.ship_core.specs.Rows.{IsBefore, IsInOrder}
use Rattle.registry_frame.specs.BodyOf.{IsStoredOp, IsStoredRow}
use Rattle.registry_frame.proofs.Operations.{remove_short, set_short}
use Rattle.registry_log.specs.Area.{area_bytes, sets}
use Rattle.registry_log.specs.Header.{HasHeader, fits, generation_of, may_stand}
use Rattle.registry_log.specs.Reading.{AreRecords, MayBeRecord}
use Rattle.registry_log.specs.Records.{fit_in_a_record, grouped, groups, padded, records_bytes}
use Rattle.registry_log.specs.State.{IsState, Opened, operations_of}
use Rattle.registry_log.proofs.Groups.{FitsIn, alone_fits, test_true}
use Rattle.registry_log.proofs.Headers.{FitsBefore, IsGeneration, none_is_wrong}
use Rattle.registry_log.proofs.RecordsEnd.{padded_length, padded_value}

-- ---- the rows after operations that set them

lesser : (key : List ℕ) (front rows : List Row) (row : Row) → IsBefore key (front ++ row ∷ rows) → compare key row.key ≡ Less
lesser key [] rows row before = before.0
lesser key (other ∷ front) rows row before = lesser key front rows row before.1

set_behind : (front rows : List Row) (row : Row) → IsInOrder (front ++ row ∷ rows) → with_row row front ≡ front ++ row ∷ []
set_behind [] rows row ordered = refl
set_behind (other ∷ front) rows row ordered =
    rw (compare_greater other.key row.key (lesser other.key front rows row ordered.0)) (ap (λ (l : List Row). other ∷ l) (set_behind front rows row ordered.1))

replay_sets : (front rows : List Row) → IsInOrder (front ++ rows) → replay_on front (sets rows) ≡ front ++ rows
replay_sets front [] ordered = sym (append-nil front)
replay_sets front (row ∷ rows) ordered =
    let moved = append_assoc front (row ∷ []) rows in
    ap (λ (l : List Row). replay_on l (sets rows)) (set_behind front rows row ordered) ∙ replay_sets (front ++ row ∷ []) rows (subst IsInOrder (sym moved) ordered) ∙ moved

-- ---- an operation adds at most one row

with_row_adds : (row : Row) (rows : List Row) → length (with_row row rows) ≤ length rows + 1
with_row_adds row [] = omega arith
with_row_adds row (other ∷ rows) = by_order (compare row.key other.key) (with_row_adds row rows)
  where
    by_order : (o : Ordering) → length (with_row row rows) ≤ length rows + 1 → length (match_ordering o (row ∷ other ∷ rows) (row ∷ rows) (other ∷ with_row row rows)) ≤ suc (length rows) + 1
    by_order Less later = omega arith
    by_order Equal later = omega arith
    by_order Greater later = omega (arith, later)

without_row_adds_none : (key : List ℕ) (rows : List Row) → length (without_row key rows) ≤ length rows
without_row_adds_none key [] = omega arith
without_row_adds_none key (row ∷ rows) = by_test (is_eq (compare key row.key)) (without_row_adds_none key rows)
  where
    by_test : (same : Bool) → length (without_row key rows) ≤ length rows → length (if same then without_row key rows else row ∷ without_row key rows) ≤ suc (length rows)
    by_test true later = omega (arith, later)
    by_test false later = omega (arith, later)

after_op_adds : (rows : List Row) (op : Op) → length (after_op rows op) ≤ length rows + 1
after_op_adds rows (Set row) = with_row_adds row rows
after_op_adds rows (Remove key) = let fewer = without_row_adds_none key rows in omega (arith, fewer)

replay_adds : (rows : List Row) (ops : List Op) → length (replay_on rows ops) ≤ length rows + length ops
replay_adds rows [] = omega arith
replay_adds rows (op ∷ ops) = let first = after_op_adds rows op in let later = replay_adds (after_op rows op) ops in omega (arith, first, later)

-- ---- the groups

abbrev AreStored : List Op → Type 0
AreStored ops = All IsStoredOp ops

group_may_follow : (before group rest : List Op) → group ≢ [] → AreStored group → FitsIn group → length before + (length group + length rest) ≤ 65_536 → MayBeRecord before group
group_may_follow before group rest some stored fits few =
    let rows = replay_adds [] (before ++ group) in
    let all = length-append before group in
    record { some = some; each = stored; body = fits; rows = omega (arith, rows, all, few) }

not_empty : (group : List Op) (op : Op) → group ++ op ∷ [] ≢ []
not_empty group op same = let n = ap length same in omega (arith, n, length-append group (op ∷ []))

pub grouped_are_records : (before group ops : List Op) → group ≢ [] → AreStored group → AreStored ops → FitsIn group → ((op : Op) → IsStoredOp op → FitsIn (op ∷ []))
    → length before + (length group + length ops) ≤ 65_536 → AreRecords before (grouped group ops)
grouped_are_records before group [] some stored later fits alone few = (group_may_follow before group [] some stored fits few, tt)
grouped_are_records before group (op ∷ ops) some stored later fits alone few =
    let head = All-head IsStoredOp op ops later in
    let tail = All-tail IsStoredOp op ops later in
    let one = All-cons IsStoredOp op [] head (All-nil IsStoredOp) in
    let longer = length-append group (op ∷ []) in
    let moved = length-append before group in
    by_test (fit_in_a_record (group ++ op ∷ []))
    (λ is. grouped_are_records before (group ++ op ∷ []) ops (not_empty group op) (All-append IsStoredOp group (op ∷ []) stored one) tail (test_true _ _ is) alone (omega (arith, few, longer)))
    (group_may_follow before group (op ∷ ops) some stored fits few)
    (grouped_are_records (before ++ group) (op ∷ []) ops (λ same. cc same) one tail (alone op head) alone (omega (arith, few, moved)))
  where
    by_test : (there : Bool) → (there ≡ true → AreRecords before (grouped (group ++ op ∷ []) ops)) → MayBeRecord before group → AreRecords (before ++ group) (grouped (op ∷ []) ops)
        → AreRecords before (if there then grouped (group ++ op ∷ []) ops else group ∷ grouped (op ∷ []) ops)
    by_test true together may parted = together refl
    by_test false together may parted = (may, parted)

grouped_operations : (group ops : List Op) → operations_of (grouped group ops) ≡ group ++ ops
grouped_operations group [] = refl
grouped_operations group (op ∷ ops) = by_test (fit_in_a_record (group ++ op ∷ [])) (grouped_operations (group ++ op ∷ []) ops ∙ append_assoc group (op ∷ []) ops) (ap (λ (l : List Op). group ++ l) (grouped_operations (op ∷ []) ops))
  where
    by_test : (there : Bool) → operations_of (grouped (group ++ op ∷ []) ops) ≡ group ++ op ∷ ops → group ++ operations_of (grouped (op ∷ []) ops) ≡ group ++ op ∷ ops
        → operations_of (if there then grouped (group ++ op ∷ []) ops else group ∷ grouped (op ∷ []) ops) ≡ group ++ op ∷ ops
    by_test true together parted = together
    by_test false together parted = parted

pub groups_operations : (ops : List Op) → operations_of (groups ops) ≡ ops
groups_operations [] = refl
groups_operations (op ∷ ops) = grouped_operations (op ∷ []) ops

-- ---- the header

is_a_digit : (c : ℕ) → digit_value c < 10 → IsAsciiDigit c
is_a_digit c small = elim (cases_lt c 48) [
  | inl low ↦ absurd (let value : digit_value c ≡ 36 = grind (arith, nat_tests) in omega (arith, small, value))
  | inr high ↦ elim (cases_lt c 58) [
    | inl inside ↦ (high, omega (arith, inside))
    | inr above ↦ absurd (let value : 10 ≤ digit_value c = grind (arith, nat_tests) in omega (arith, small, value))
  ]
]

ascii_digits : (ds : List ℕ) → AllDigits 10 ds → All IsAsciiDigit ds
ascii_digits [] are = All-nil IsAsciiDigit
ascii_digits (d ∷ ds) are = All-cons IsAsciiDigit d ds (is_a_digit d are.0) (ascii_digits ds are.1)

pub padded_digits : (width number : ℕ) → number < 2 ^ 64 → All IsAsciiDigit (padded width number)
padded_digits width number short =
    All-append IsAsciiDigit (replicate (width - length (decimal number)) 48) (decimal number)
    (All-replicate IsAsciiDigit (width - length (decimal number)) 48 (omega arith, omega arith)) (ascii_digits (decimal number) (decimal_is_IsNumeral number short).0.1)

both_pass : (a b : Bool) → (a && b) ≡ true → (a ≡ true) × (b ≡ true)
both_pass true b both = (refl, both)
both_pass false b both = cc both

passing_range : (test : ℕ → Bool) (from n : ℕ) → list_all test (range_with_len from n) ≡ true → (q : ℕ) → from ≤ q → q < from + n → test q ≡ true
passing_range test from zero all q low high = absurd (omega (arith, low, high))
passing_range test from (suc n) all q low high =
    let first = both_pass (test from) (list_all test (range_with_len (from + 1) n)) all in
    elim (eqb_tells from q) [
      | inl here ↦ let Passes : ℕ → Type 0 = λ k. test k ≡ true in subst Passes here.1 first.0
      | inr later ↦ passing_range test (from + 1) n first.1 q (omega (arith, later.1, low)) (omega (arith, high))
    ]

-- the area's bytes: the version, twenty digits, a line feed, and what follows
module _ (ds tail : List ℕ) (twenty : length ds ≡ 20) where
  abbrev pub spelled : List ℕ
  spelled = codes "{beat 2 " ++ (ds ++ 10 ∷ tail)

  digit_at : (k : ℕ) → k < 20 → slice_get spelled (8 + k) ≡ Some (get_or ds k 0)
  digit_at k low =
      let long : 8 + k < length spelled = omega (arith, low, twenty, length-append ds (10 ∷ tail)) in
      slice_get-get_or spelled (8 + k) 0 long ∙ ap (λ (b : ℕ). Some b) (sym (get_or-drop 8 spelled k 0) ∙ get_or_append_left ds (10 ∷ tail) 0 k (omega (arith, low, twenty)))

  line_feed_at : slice_get spelled 28 ≡ Some 10
  line_feed_at =
      let long : 28 < length spelled = omega (arith, twenty, length-append ds (10 ∷ tail)) in
      let At : ℕ → Type 0 = λ n. get_or (ds ++ 10 ∷ tail) n 0 ≡ 10 in
      slice_get-get_or spelled 28 0 long ∙ ap (λ (b : ℕ). Some b) (sym (get_or-drop 8 spelled 20 0) ∙ subst At twenty (get_or-append_seam ds 10 tail 0))

  digit_stands : (place byte : ℕ) → 8 ≤ place → place < 28 → IsAsciiDigit byte → may_stand place byte ≡ true
  digit_stands place byte low high is = grind (arith, nat_tests)

  version_there : (place : ℕ) → 1 ≤ place → place < 8 → fits spelled place ≡ true
  version_there place some low = passing_range (fits spelled) 1 7 refl place some low

  digit_there : (place : ℕ) → All IsAsciiDigit ds → 8 ≤ place → place < 28 → fits spelled place ≡ true
  digit_there place are low high =
      let k : ℕ = place - 8 in
      let is : 8 + k ≡ place = omega (arith, low) in
      let At : ℕ → Type 0 = λ n. slice_get spelled n ≡ Some (get_or ds k 0) in
      rw (subst At is (digit_at k (omega (arith, high, low)))) (digit_stands place (get_or ds k 0) low high (are k 0 (omega (arith, high, low, twenty))))

  pub all_there : All IsAsciiDigit ds → FitsBefore spelled 28
  all_there are place some low = elim (cases_lt place 8) [
    | inl version ↦ version_there place some version
    | inr digit ↦ digit_there place are digit low
  ]

  pub generation_there : generation_of spelled ≡ digits_value 10 ds
  generation_there = let Takes : ℕ → Type 0 = λ n. take n (ds ++ 10 ∷ tail) ≡ ds in ap (digits_value 10) (subst Takes twenty (take-append_seam ds (10 ∷ tail)))

  pub behind_header : drop 29 spelled ≡ tail
  behind_header = let Drops : ℕ → Type 0 = λ n. drop (n + 1) (ds ++ 10 ∷ tail) ≡ tail in subst Drops twenty (drop-append-add ds (10 ∷ tail) 1)

  pub header_there : (generation : ℕ) → IsGeneration generation → digits_value 10 ds ≡ generation → All IsAsciiDigit ds → HasHeader spelled generation
  header_there generation is value are =
      let number : generation_of spelled ≡ generation = generation_there ∙ value in
      let last : fits spelled 28 ≡ true = rw line_feed_at refl in
      record { right = none_is_wrong spelled (all_there are) (subst IsGeneration (sym number) is) last; number = number }

  pub spelled_length : length spelled ≡ 29 + length tail
  spelled_length = omega (arith, twenty, length-append ds (10 ∷ tail))

-- ---- the whole area

stored_fits : (op : Op) → IsStoredOp op → FitsIn (op ∷ [])
stored_fits (Set row) stored = alone_fits (Set row) (set_short row stored.ranges stored.epoch)
stored_fits (Remove key) stored = alone_fits (Remove key) (remove_short key stored.0)

groups_are_records : (ops : List Op) → AreStored ops → length ops ≤ 65_536 → AreRecords [] (groups ops)
groups_are_records [] stored few = tt
groups_are_records (op ∷ ops) stored few =
    let first = All-head IsStoredOp op ops stored in
    grouped_are_records [] (op ∷ []) ops (λ same. cc same) (All-cons IsStoredOp op [] first (All-nil IsStoredOp)) (All-tail IsStoredOp op ops stored) (stored_fits op first) stored_fits (omega (arith, few))

area_parts : (generation : ℕ) (rows : List Row) (twenty : length (padded 20 generation) ≡ 20) → area_bytes generation rows ≡ spelled (padded 20 generation) (records_bytes (sets rows) ++ codes ".") twenty
area_parts generation rows twenty =
    ap (λ (l : List ℕ). codes "{beat 2 " ++ l)
    (append_assoc (padded 20 generation ++ codes "\n") (records_bytes (sets rows)) (codes ".") ∙ append_assoc (padded 20 generation) (codes "\n") (records_bytes (sets rows) ++ codes "."))

pub started_is_opened : (generation : ℕ) (rows : List Row) → 0 < generation → generation < 2 ^ 64 → IsInOrder rows → All IsStoredRow rows → length rows ≤ 65_536
    → IsState (area_bytes generation rows) (Opened generation rows 29 (length (area_bytes generation rows) - 1))
started_is_opened generation rows some short ordered stored few =
    let twenty = padded_length 20 generation (length-decimal-le 20 generation (omega arith) (omega (arith, short)) short) in
    let tail : List ℕ = records_bytes (sets rows) ++ codes "." in
    let parts = area_parts generation rows twenty in
    let whole : length (area_bytes generation rows) ≡ 29 + length tail = ap length parts ∙ spelled_length (padded 20 generation) tail twenty in
    let Says : List ℕ → Type 0 = λ area. IsState area (Opened generation rows 29 (length (area_bytes generation rows) - 1)) in
    let ops : All IsStoredOp (sets rows) = All-map IsStoredOp Set rows stored in
    subst Says (sym parts) (
      refl,
      record {
        records = groups (sets rows);
        gate = 46;
        rest = [];
        reaches = record {
          unclosed = record { gate = refl; more = omega arith };
          header = header_there (padded 20 generation) tail twenty generation (some, short) (padded_value 20 generation short) (padded_digits 20 generation short);
          each = groups_are_records (sets rows) ops (omega (arith, few, length-map rows Set));
          bytes = behind_header (padded 20 generation) tail twenty;
          begins = omega (arith, whole, length-append (records_bytes (sets rows)) (codes "."));
        };
        closed = λ same. omega (arith, same);
        replayed = ap replay (groups_operations (sets rows)) ∙ replay_sets [] rows ordered;
      },
    )
