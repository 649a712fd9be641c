-- A body has one reading: what is before the rest of a text is read in one way, part for part.
use Rattle.std.proofs.Common.{◌≡◌, ℕ, suc, ◌+◌, ◌*◌, ◌-◌, ◌/◌, ◌%◌, ◌^◌, ◌<◌, ◌≤◌, Bool, true, false, List, [], ◌∷◌, ◌++◌, get_or, drop, Option, Some, None, refl, sym, ◌∙◌, ap, subst, inl, inr, append_assoc, arith, codes, decimal}
use Rattle.std.specs.Prelude.{All, ◌==◌, nat_lt, if◌then◌else◌}
use Rattle.std.specs.List.{flat_map}
use Rattle.std.specs.Char.{digit_value}
use Rattle.std.specs.Str.Parse.{AllDigits, digits_value}
use Rattle.std.proofs.lemmas.Bool.Decides.{eqb_tells, leb_tells, nat_tests}
use Rattle.std.proofs.lemmas.Fmt.{decimal_is_IsNumeral}
use Rattle.std.proofs.lemmas.List.Elements.{All-head, All-tail}
use Rattle.event_json.specs.Json.{escape, hexadecimal_digit, quoted}
use Rattle.wire_base.specs.declared.row.Row.{Row}
use Rattle.wire_base.specs.declared.row.Op.{Op}
use Rattle.wire_base.specs.declared.row.Op.TheVariants.{Set, Remove}
use Rattle.registry_frame.specs.Body.{body_bytes, moment_bytes, operation_bytes}
use Rattle.registry_frame.specs.BodyOf.{IsStoredOp, IsStoredRow}
use Rattle.registry_frame.proofs.Operations.{before_epoch, before_key, before_offset, before_path}

-- ---- numbers

same_tail : (x y : ℕ) (xs ys : List ℕ) → x ∷ xs ≡ y ∷ ys → xs ≡ ys
same_tail x y xs ys same = ap (drop 1) same

same_head : (x y : ℕ) (xs ys : List ℕ) → x ∷ xs ≡ y ∷ ys → x ≡ y
same_head x y xs ys same = ap (λ (l : List ℕ). get_or l 0 0) same

not_a_digit : (c d : ℕ) → 10 ≤ digit_value c → digit_value d < 10 → c ≡ d → ⊥
not_a_digit c d stop digit same = let Small : ℕ → Type 0 = λ n. digit_value n < 10 in let small = subst Small (sym same) digit in omega (arith, stop, small)

digits_end : (ds es : List ℕ) (c d : ℕ) (rest other : List ℕ) → AllDigits 10 ds → AllDigits 10 es → 10 ≤ digit_value c → 10 ≤ digit_value d
    → ds ++ c ∷ rest ≡ es ++ d ∷ other → (ds ≡ es) × (c ∷ rest ≡ d ∷ other)
digits_end [] [] c d rest other all alls stop stops same = (refl, same)
digits_end [] (b ∷ es) c d rest other all alls stop stops same = absurd (not_a_digit c b stop alls.0 (same_head _ _ _ _ same))
digits_end (a ∷ ds) [] c d rest other all alls stop stops same = absurd (not_a_digit d a stops all.0 (sym (same_head _ _ _ _ same)))
digits_end (a ∷ ds) (b ∷ es) c d rest other all alls stop stops same =
    let behind = digits_end ds es c d rest other all.1 alls.1 stop stops (same_tail _ _ _ _ same) in
    (λ i. same_head _ _ _ _ same i ∷ behind.0 i, behind.1)

decimal_end : (m n c d : ℕ) (rest other : List ℕ) → m < 2 ^ 64 → n < 2 ^ 64 → 10 ≤ digit_value c → 10 ≤ digit_value d
    → decimal m ++ c ∷ rest ≡ decimal n ++ d ∷ other → (m ≡ n) × (c ∷ rest ≡ d ∷ other)
decimal_end m n c d rest other short shorter stop stops same =
    let one = decimal_is_IsNumeral m short in
    let two = decimal_is_IsNumeral n shorter in
    let ends = digits_end (decimal m) (decimal n) c d rest other one.0.1 two.0.1 stop stops same in
    (sym one.1 ∙ ap (digits_value 10) ends.0 ∙ two.1, ends.1)

-- ---- texts

-- the number of a hexadecimal digit
abbrev digit_of : ℕ → ℕ
digit_of c = if nat_lt c 58 then c - 48 else c - 87

digit_back : (n : ℕ) → n < 16 → digit_of (hexadecimal_digit n) ≡ n
digit_back n small = grind (arith, nat_tests)

-- the byte that two hexadecimal digits stand for, and what follows
abbrev coded : List ℕ → Option (ℕ × List ℕ)
coded [] = None
coded (a ∷ []) = None
coded (a ∷ b ∷ rest) = Some (digit_of a * 16 + digit_of b, rest)

-- the same of what follows a backslash
abbrev behind_backslash : List ℕ → Option (ℕ × List ℕ)
behind_backslash [] = None
behind_backslash (c ∷ rest) =
    if c == 0x22 then Some (0x22, rest)
    else (if c == 0x5C then Some (0x5C, rest)
    else (if c == 0x62 then Some (0x08, rest)
    else (if c == 0x74 then Some (0x09, rest)
    else (if c == 0x6E then Some (0x0A, rest)
    else (if c == 0x66 then Some (0x0C, rest)
    else (if c == 0x72 then Some (0x0D, rest) else coded (drop 2 rest)))))))

-- the first byte that is in a text, and what follows it there; none at the text's end
abbrev first_byte : List ℕ → Option (ℕ × List ℕ)
first_byte [] = None
first_byte (c ∷ rest) = if c == 0x22 then None else (if c == 0x5C then behind_backslash rest else Some (c, rest))

-- of the byte it is what was written
abbrev IsBack : ℕ → Type 0
IsBack byte = (rest : List ℕ) → first_byte (escape byte ++ rest) ≡ Some (byte, rest)

plain_back : (byte : ℕ) → (byte ≡ 0x22 → ⊥) → (byte ≡ 0x5C → ⊥) → escape byte ≡ byte ∷ [] → IsBack byte
plain_back byte no_quote no_backslash is rest =
    rw is (elim (eqb_tells byte 0x22) [
      | inl quote ↦ absurd (no_quote quote.1)
      | inr differs ↦ rw differs.0 (elim (eqb_tells byte 0x5C) [
        | inl backslash ↦ absurd (no_backslash backslash.1)
        | inr other ↦ rw other.0 refl
      ])
    ])

coded_back : (byte : ℕ) → byte < 32 → escape byte ≡ codes "\\u00" ++ (hexadecimal_digit (byte / 16) ∷ hexadecimal_digit (byte % 16) ∷ []) → IsBack byte
coded_back byte small is rest =
    let high : byte / 16 < 16 = omega arith in
    let low : byte % 16 < 16 = omega arith in
    let whole : byte / 16 * 16 + byte % 16 ≡ byte = omega arith in
    rw is (rw (digit_back (byte / 16) high, digit_back (byte % 16) low, whole) refl)

-- what is written of a byte, by its tests
escape_back : (byte : ℕ) → IsBack byte
unfolding escape
escape_back byte = elim (eqb_tells byte 0x22) [
  | inl is ↦ subst IsBack (sym is.1) (λ rest. refl)
  | inr t1 ↦ elim (eqb_tells byte 0x5C) [
    | inl is ↦ subst IsBack (sym is.1) (λ rest. refl)
    | inr t2 ↦ elim (eqb_tells byte 0x08) [
      | inl is ↦ subst IsBack (sym is.1) (λ rest. refl)
      | inr t3 ↦ elim (eqb_tells byte 0x09) [
        | inl is ↦ subst IsBack (sym is.1) (λ rest. refl)
        | inr t4 ↦ elim (eqb_tells byte 0x0A) [
          | inl is ↦ subst IsBack (sym is.1) (λ rest. refl)
          | inr t5 ↦ elim (eqb_tells byte 0x0C) [
            | inl is ↦ subst IsBack (sym is.1) (λ rest. refl)
            | inr t6 ↦ elim (eqb_tells byte 0x0D) [
              | inl is ↦ subst IsBack (sym is.1) (λ rest. refl)
              | inr t7 ↦ elim (leb_tells (suc byte) 0x20) [
                | inl is ↦ coded_back byte is.1 (rw (t1.0, t2.0, t3.0, t4.0, t5.0, t6.0, t7.0, is.0) refl)
                | inr t8 ↦ plain_back byte t1.1 t2.1 (rw (t1.0, t2.0, t3.0, t4.0, t5.0, t6.0, t7.0, t8.0) refl)
              ]
            ]
          ]
        ]
      ]
    ]
  ]
]

escaped_end : (text other rest more : List ℕ) → flat_map escape text ++ 0x22 ∷ rest ≡ flat_map escape other ++ 0x22 ∷ more → (text ≡ other) × (rest ≡ more)
escaped_end [] [] rest more same = (refl, same_tail _ _ _ _ same)
escaped_end [] (b ∷ other) rest more same =
    let back = escape_back b (flat_map escape other ++ 0x22 ∷ more) in
    let none : None ≡ Some (b, flat_map escape other ++ 0x22 ∷ more) = ap first_byte (same ∙ append_assoc (escape b) _ _) ∙ back in
    cc none
escaped_end (a ∷ text) [] rest more same =
    let back = escape_back a (flat_map escape text ++ 0x22 ∷ rest) in
    let none : None ≡ Some (a, flat_map escape text ++ 0x22 ∷ rest) = ap first_byte (sym same ∙ append_assoc (escape a) _ _) ∙ back in
    cc none
escaped_end (a ∷ text) (b ∷ other) rest more same =
    let read : Some (a, flat_map escape text ++ 0x22 ∷ rest) ≡ Some (b, flat_map escape other ++ 0x22 ∷ more) =
    sym (escape_back a _) ∙ ap first_byte (sym (append_assoc (escape a) _ _) ∙ same ∙ append_assoc (escape b) _ _) ∙ escape_back b _ in
    let pairs : (a, flat_map escape text ++ 0x22 ∷ rest) ≡ (b, flat_map escape other ++ 0x22 ∷ more) = cc read in
    let behind = escaped_end text other rest more (ap (λ (p : ℕ × List ℕ). p.1) pairs) in
    (λ i. (pairs i).0 ∷ behind.0 i, behind.1)

quoted_end : (text other rest more : List ℕ) → quoted text ++ rest ≡ quoted other ++ more → (text ≡ other) × (rest ≡ more)
quoted_end text other rest more same =
    escaped_end text other rest more
    (sym (append_assoc (flat_map escape text) (0x22 ∷ []) rest) ∙ same_tail _ _ _ _ same ∙ append_assoc (flat_map escape other) (0x22 ∷ []) more)

-- ---- operations

abbrev pub field : ℕ → List ℕ
field moment = codes "\"changed\":" ++ decimal moment ++ codes ","

moments_by_test : (here there : Bool) (m n : ℕ) (rest more : List ℕ) → (here ≡ true → m ≡ 0) → (there ≡ true → n ≡ 0) → m < 2 ^ 64 → n < 2 ^ 64
    → (if here then [] else field m) ++ (before_epoch ++ rest) ≡ (if there then [] else field n) ++ (before_epoch ++ more) → (m ≡ n) × (rest ≡ more)
moments_by_test true true m n rest more none nor short shorter same = (none refl ∙ sym (nor refl), ap (drop 8) same)
moments_by_test true false m n rest more none nor short shorter same =
    let letters : 101 ≡ 99 = ap (λ (l : List ℕ). get_or l 1 0) same in absurd (omega (arith, letters))
moments_by_test false true m n rest more none nor short shorter same =
    let letters : 99 ≡ 101 = ap (λ (l : List ℕ). get_or l 1 0) same in absurd (omega (arith, letters))
moments_by_test false false m n rest more none nor short shorter same =
    let ends = decimal_end m n 44 44 (before_epoch ++ rest) (before_epoch ++ more) short shorter (omega arith) (omega arith)
    (sym (append_assoc (decimal m) (codes ",") (before_epoch ++ rest)) ∙ ap (drop 10) same ∙ append_assoc (decimal n) (codes ",") (before_epoch ++ more)) in
    (ends.0, ap (drop 9) ends.1)

pub is_zero : (n : ℕ) → (n == 0) ≡ true → n ≡ 0
is_zero n test = elim (eqb_tells n 0) [
  | inl is ↦ is.1
  | inr other ↦ cc (test, other.0)
]

flat_set : (a b c d e f g h i j rest : List ℕ) → (codes "{" ++ a ++ b ++ c ++ d ++ e ++ f ++ g ++ h ++ i ++ j) ++ rest ≡ 123 ∷ (a ++ (b ++ (c ++ (d ++ (e ++ (f ++ (g ++ (h ++ (i ++ (j ++ rest))))))))))
flat_set a b c d e f g h i j rest = simp append_assoc refl

abbrev pub behind_moment : Row → List ℕ → List ℕ
behind_moment row rest = decimal row.epoch.0 ++ (before_key ++ (quoted row.key ++ (before_offset ++ (decimal row.offset ++ (before_path ++ (quoted row.path ++ (codes "}" ++ rest)))))))

pub set_parts : (row : Row) (rest : List ℕ) → operation_bytes (Set row) ++ rest ≡ 123 ∷ (moment_bytes row.changed.0 ++ (before_epoch ++ behind_moment row rest))
set_parts row rest = flat_set (moment_bytes row.changed.0) before_epoch (decimal row.epoch.0) before_key (quoted row.key) before_offset (decimal row.offset) before_path (quoted row.path) (codes "}") rest

set_end : (row other : Row) (rest more : List ℕ) → IsStoredRow row → IsStoredRow other → operation_bytes (Set row) ++ rest ≡ operation_bytes (Set other) ++ more
    → (row ≡ other) × (rest ≡ more)
set_end row other rest more stored too same =
    let moments = moments_by_test (row.changed.0 == 0) (other.changed.0 == 0) row.changed.0 other.changed.0 (behind_moment row rest) (behind_moment other more)
    (is_zero row.changed.0) (is_zero other.changed.0) (omega (arith, stored.ranges.changed)) (omega (arith, too.ranges.changed))
    (same_tail _ _ _ _ (sym (set_parts row rest) ∙ same ∙ set_parts other more)) in
    let epochs = decimal_end row.epoch.0 other.epoch.0 44 44 _ _ (omega (arith, stored.epoch)) (omega (arith, too.epoch)) (omega arith) (omega arith) moments.1 in
    let keys = quoted_end row.key other.key _ _ (ap (drop 7) epochs.1) in
    let offsets = decimal_end row.offset other.offset 44 44 _ _ (omega (arith, stored.ranges.offset)) (omega (arith, too.ranges.offset)) (omega arith) (omega arith) (ap (drop 10) keys.1) in
    let paths = quoted_end row.path other.path _ _ (ap (drop 19) offsets.1) in
    (λ i. record { key = keys.0 i; path = paths.0 i; epoch = record { 0 = epochs.0 i }; offset = offsets.0 i; changed = record { 0 = moments.0 i } }, same_tail _ _ _ _ paths.1)

abbrev pub remove_ending : List ℕ
remove_ending = codes ",\"op\":\"remove\"}"

pub remove_parts : (key rest : List ℕ) → operation_bytes (Remove key) ++ rest ≡ codes "{\"key\":" ++ (quoted key ++ (remove_ending ++ rest))
remove_parts key rest =
    append_assoc (codes "{\"key\":" ++ quoted key) remove_ending rest ∙ append_assoc (codes "{\"key\":") (quoted key) (remove_ending ++ rest)

remove_end : (key other rest more : List ℕ) → operation_bytes (Remove key) ++ rest ≡ operation_bytes (Remove other) ++ more → (key ≡ other) × (rest ≡ more)
remove_end key other rest more same =
    let keys = quoted_end key other _ _ (ap (drop 7) (sym (remove_parts key rest) ∙ same ∙ remove_parts other more)) in
    (keys.0, ap (drop 15) keys.1)

-- the first letter tells which operation it is
no_moment_in_remove : (here : Bool) (m : ℕ) (rest more : List ℕ) → (if here then [] else field m) ++ (before_epoch ++ rest) ≡ 34 ∷ 107 ∷ more → ⊥
no_moment_in_remove true m rest more same = let letters : 101 ≡ 107 = ap (λ (l : List ℕ). get_or l 1 0) same in omega (arith, letters)
no_moment_in_remove false m rest more same = let letters : 99 ≡ 107 = ap (λ (l : List ℕ). get_or l 1 0) same in omega (arith, letters)

set_is_no_remove : (row : Row) (key rest more : List ℕ) → operation_bytes (Set row) ++ rest ≡ operation_bytes (Remove key) ++ more → ⊥
set_is_no_remove row key rest more same =
    no_moment_in_remove (row.changed.0 == 0) row.changed.0 (behind_moment row rest) _ (same_tail _ _ _ _ (sym (set_parts row rest) ∙ same ∙ remove_parts key more))

operation_end : (op other : Op) (rest more : List ℕ) → IsStoredOp op → IsStoredOp other → operation_bytes op ++ rest ≡ operation_bytes other ++ more → (op ≡ other) × (rest ≡ more)
operation_end (Set row) (Set other) rest more stored too same = let ends = set_end row other rest more stored too same in (ap Set ends.0, ends.1)
operation_end (Set row) (Remove key) rest more stored too same = absurd (set_is_no_remove row key rest more same)
operation_end (Remove key) (Set row) rest more stored too same = absurd (set_is_no_remove row key more rest (sym same))
operation_end (Remove key) (Remove other) rest more stored too same = let ends = remove_end key other rest more same in (ap Remove ends.0, ends.1)

-- ---- the whole body

abbrev pub behind_comma : Op → List ℕ
behind_comma op = codes "," ++ operation_bytes op

later_end : (ops others : List Op) (rest more : List ℕ) → All IsStoredOp ops → All IsStoredOp others → flat_map behind_comma ops ++ 93 ∷ rest ≡ flat_map behind_comma others ++ 93 ∷ more
    → (ops ≡ others) × (rest ≡ more)
later_end [] [] rest more stored too same = (refl, same_tail _ _ _ _ same)
later_end [] (other ∷ others) rest more stored too same = let bytes : 93 ≡ 44 = same_head _ _ _ _ same in absurd (omega (arith, bytes))
later_end (op ∷ ops) [] rest more stored too same = let bytes : 44 ≡ 93 = same_head _ _ _ _ same in absurd (omega (arith, bytes))
later_end (op ∷ ops) (other ∷ others) rest more stored too same =
    let first = operation_end op other (flat_map behind_comma ops ++ 93 ∷ rest) (flat_map behind_comma others ++ 93 ∷ more)
    (All-head IsStoredOp op ops stored) (All-head IsStoredOp other others too)
    (sym (append_assoc (operation_bytes op) (flat_map behind_comma ops) (93 ∷ rest)) ∙ same_tail _ _ _ _ same ∙ append_assoc (operation_bytes other) (flat_map behind_comma others) (93 ∷ more)) in
    let later = later_end ops others rest more (All-tail IsStoredOp op ops stored) (All-tail IsStoredOp other others too) first.1 in
    (λ i. first.0 i ∷ later.0 i, later.1)

pub body_parts : (op : Op) (ops : List Op) (rest : List ℕ) → body_bytes (op ∷ ops) ++ rest ≡ 91 ∷ (operation_bytes op ++ (flat_map behind_comma ops ++ 93 ∷ rest))
body_parts op ops rest =
    ap (λ (l : List ℕ). 91 ∷ l)
    (append_assoc (operation_bytes op ++ flat_map behind_comma ops) (93 ∷ []) rest ∙ append_assoc (operation_bytes op) (flat_map behind_comma ops) (93 ∷ rest))

body_end : (ops others : List Op) (rest more : List ℕ) → All IsStoredOp ops → All IsStoredOp others → body_bytes ops ++ rest ≡ body_bytes others ++ more → (ops ≡ others) × (rest ≡ more)
body_end [] [] rest more stored too same = (refl, ap (drop 2) same)
body_end [] (Set row ∷ others) rest more stored too same = let bytes : 93 ≡ 123 = ap (λ (l : List ℕ). get_or l 1 0) same in absurd (omega (arith, bytes))
body_end [] (Remove key ∷ others) rest more stored too same = let bytes : 93 ≡ 123 = ap (λ (l : List ℕ). get_or l 1 0) same in absurd (omega (arith, bytes))
body_end (Set row ∷ ops) [] rest more stored too same = let bytes : 123 ≡ 93 = ap (λ (l : List ℕ). get_or l 1 0) same in absurd (omega (arith, bytes))
body_end (Remove key ∷ ops) [] rest more stored too same = let bytes : 123 ≡ 93 = ap (λ (l : List ℕ). get_or l 1 0) same in absurd (omega (arith, bytes))
body_end (op ∷ ops) (other ∷ others) rest more stored too same =
    let first = operation_end op other (flat_map behind_comma ops ++ 93 ∷ rest) (flat_map behind_comma others ++ 93 ∷ more)
    (All-head IsStoredOp op ops stored) (All-head IsStoredOp other others too)
    (same_tail _ _ _ _ (sym (body_parts op ops rest) ∙ same ∙ body_parts other others more)) in
    let later = later_end ops others rest more (All-tail IsStoredOp op ops stored) (All-tail IsStoredOp other others too) first.1 in
    (λ i. first.0 i ∷ later.0 i, later.1)

pub same_operations : (ops others : List Op) → All IsStoredOp ops → All IsStoredOp others → body_bytes ops ≡ body_bytes others → ops ≡ others
same_operations ops others stored too same = (body_end ops others [] [] stored too (ap (λ (l : List ℕ). l ++ []) same)).0
