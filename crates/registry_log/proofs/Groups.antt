-- Records that are written operation by operation are those of the groups, and each body fits in its record.
use Rattle.std.proofs.Common.{◌≡◌, inl, inr, ℕ, ◌+◌, ◌≤◌, Bool, true, false, if◌then◌else◌, nat_le, List, [], ◌∷◌, ◌++◌, All, length, take, drop, get_or, Some, refl, sym, ap, ◌∙◌, subst, arith, codes, append-nil, append_assoc, length-append}
use Rattle.std.proofs.lemmas.Bool.Decides.{leb_tells}
use Rattle.std.proofs.lemmas.List.Concat.{flat_map-append}
use Rattle.std.proofs.lemmas.List.{drop_more, take_all}
use Rattle.std.proofs.lemmas.List.Elements.{All-nil, All-cons, All-head, All-map, All-more, All-same, All-tail}
use Rattle.std.proofs.lemmas.Option.{slice_get_within, get_or_from_slice_get}
use Rattle.std.specs.List.{flat_map, join_by}
use Rattle.std.specs.Prelude.{slice_get}
use Rattle.wire_base.specs.declared.row.Op.{Op}
use Rattle.wire_base.specs.declared.row.Op.TheVariants.{Set}
use Rattle.wire_base.specs.declared.row.Row.{Row}
use Rattle.registry_frame.specs.Body.{body_bytes, operation_bytes}
use Rattle.registry_frame.specs.BodyOf.{IsStoredRow}
use Rattle.registry_frame.proofs.Operations.{set_short}
use Rattle.registry_log.specs.declared.area_text.TheConstants.{MAX_BODY}
use Rattle.registry_log.specs.Area.{sets}
use Rattle.registry_log.specs.Records.{fit_in_a_record, grouped, groups, record_bytes, records_behind, records_bytes}

-- a body without its last bracket
abbrev draft : Op → List Op → List ℕ
draft first group = codes "[" ++ join_by operation_bytes (codes ",") (first ∷ group)

draft_more : (first : Op) (group : List Op) (op : Op) → draft first (group ++ op ∷ []) ≡ draft first group ++ codes "," ++ operation_bytes op
draft_more first group op = simp (flat_map-append, append-nil, append_assoc)

length_more : (first : Op) (group : List Op) (op : Op) → length (body_bytes (first ∷ group ++ op ∷ [])) ≡ length (draft first group) + length (operation_bytes op) + 2
length_more first group op =
    ap (λ (l : List ℕ). length (l ++ codes "]")) (draft_more first group op) ∙ simp length-append (omega arith)

by_test : (here there : Bool) → here ≡ there → (group : List Op) (joined parted : List (List Op)) (with without : List ℕ)
    → with ≡ flat_map record_bytes joined → without ≡ flat_map record_bytes parted
    → (if here then with else record_bytes group ++ without) ≡ flat_map record_bytes (if there then joined else group ∷ parted)
by_test true true same group joined parted with without together alone = together
by_test true false same group joined parted with without together alone = cc
by_test false true same group joined parted with without together alone = cc
by_test false false same group joined parted with without together alone = ap (λ (l : List ℕ). record_bytes group ++ l) alone

pub groups_written : (first : Op) (group ops : List Op) → records_behind (draft first group) ops ≡ flat_map record_bytes (grouped (first ∷ group) ops)
groups_written first group [] = sym (append-nil (record_bytes (first ∷ group)))
groups_written first group (op ∷ ops) =
    let same : nat_le (length (draft first group) + length (operation_bytes op) + 2) MAX_BODY ≡ fit_in_a_record (first ∷ group ++ op ∷ []) =
    ap (λ (n : ℕ). nat_le n MAX_BODY) (sym (length_more first group op)) in
    let alone : records_behind (codes "[" ++ operation_bytes op) ops ≡ flat_map record_bytes (grouped (op ∷ []) ops) =
    ap (λ (l : List ℕ). records_behind (codes "[" ++ l) ops) (sym (append-nil (operation_bytes op))) ∙ groups_written op [] ops in
    let together : records_behind (draft first group ++ codes "," ++ operation_bytes op) ops ≡ flat_map record_bytes (grouped (first ∷ group ++ op ∷ []) ops) =
    ap (λ (l : List ℕ). records_behind l ops) (sym (draft_more first group op)) ∙ groups_written first (group ++ op ∷ []) ops in
    by_test _ _ same (first ∷ group) (grouped (first ∷ group ++ op ∷ []) ops) (grouped (op ∷ []) ops) _ _ together alone

-- ---- each body fits

abbrev pub FitsIn : List Op → Type 0
FitsIn ops = length (body_bytes ops) ≤ MAX_BODY

abbrev pub IsShort : Op → Type 0
IsShort op = length (operation_bytes op) ≤ 80_000

bracketed_fits : (text : List ℕ) → length text ≤ 80_000 → length (codes "[" ++ (text ++ []) ++ codes "]") ≤ MAX_BODY
bracketed_fits text short =
    let same : length (text ++ []) ≡ length text = ap length (append-nil text) in
    omega (arith, same, short, length-append (text ++ []) (codes "]"))

pub alone_fits : (op : Op) → IsShort op → FitsIn (op ∷ [])
alone_fits op short = bracketed_fits (operation_bytes op) short

fits_by_test : (there : Bool) (group : List Op) (joined parted : List (List Op)) → (there ≡ true → All FitsIn joined) → FitsIn group → All FitsIn parted
    → All FitsIn (if there then joined else group ∷ parted)
fits_by_test true group joined parted together fits alone = together refl
fits_by_test false group joined parted together fits alone = All-cons FitsIn group parted fits alone

pub test_true : (n m : ℕ) → nat_le n m ≡ true → n ≤ m
test_true n m is = elim (leb_tells n m) [
  | inl holds ↦ holds.1
  | inr fails ↦ cc (is, fails.0)
]

all_fit : (first : Op) (group ops : List Op) → FitsIn (first ∷ group) → All IsShort ops → All FitsIn (grouped (first ∷ group) ops)
all_fit first group [] fits short = All-cons FitsIn (first ∷ group) [] fits (All-nil FitsIn)
all_fit first group (op ∷ ops) fits short =
    let rest = All-tail IsShort op ops short in
    fits_by_test (fit_in_a_record (first ∷ group ++ op ∷ [])) (first ∷ group) _ _
    (λ is. all_fit first (group ++ op ∷ []) ops (test_true _ _ is) rest) fits (all_fit op [] ops (alone_fits op (All-head IsShort op ops short)) rest)

pub groups_fit : (ops : List Op) → All IsShort ops → All FitsIn (groups ops)
groups_fit [] short = All-nil FitsIn
groups_fit (op ∷ ops) short = all_fit op [] ops (alone_fits op (All-head IsShort op ops short)) (All-tail IsShort op ops short)

-- ---- the rows one by one

pub first_written : (rows : List Row) (row : Row) (body : List ℕ) → slice_get rows 0 ≡ Some row → body ≡ codes "[" ++ operation_bytes (Set row)
    → records_behind body (sets (drop 1 rows)) ≡ records_bytes (sets rows)
first_written [] row body at is = cc at
first_written (first ∷ rows) row body at is =
    let same : first ≡ row = cc at in
    let begun : body ≡ draft (Set first) [] =
    is ∙ ap (λ (r : Row). codes "[" ++ operation_bytes (Set r)) (sym same) ∙ ap (λ (l : List ℕ). codes "[" ++ l) (sym (append-nil (operation_bytes (Set first)))) in
    ap (λ (l : List ℕ). records_behind l (sets rows)) begun ∙ groups_written (Set first) [] (sets rows)

pub next_row : (rows : List Row) (i : ℕ) (row : Row) → slice_get rows i ≡ Some row → sets (drop i rows) ≡ Set row ∷ sets (drop (i + 1) rows)
next_row rows i row at =
    ap sets (drop_more rows i row (slice_get_within rows i row at) ∙ ap (λ (r : Row). r ∷ drop (i + 1) rows) (get_or_from_slice_get rows i row row at))

pub more_stored : (rows : List Row) (i : ℕ) (row : Row) → slice_get rows i ≡ Some row → All IsStoredRow (take i rows) → IsStoredRow row → All IsStoredRow (take (i + 1) rows)
more_stored rows i row at all stored =
    All-more IsStoredRow rows i row (slice_get_within rows i row at) all (subst IsStoredRow (sym (get_or_from_slice_get rows i row row at)) stored)

pub all_stored : (rows : List Row) (i : ℕ) → length rows ≤ i → All IsStoredRow (take i rows) → All IsStoredRow rows
all_stored rows i past all = All-same IsStoredRow rows (take i rows) (sym (take_all i rows past)) all

pub rows_fit : (rows : List Row) → All IsStoredRow rows → All FitsIn (groups (sets rows))
rows_fit rows stored =
    groups_fit (sets rows) (All-map IsShort Set rows (λ k fallback inside. let row = stored k fallback inside in set_short (get_or rows k fallback) row.ranges row.epoch))
