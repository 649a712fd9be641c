-- The text of an operation, from its parts; it is not long.
use Rattle.std.proofs.Common.{◌≡◌, ℕ, ◌+◌, ◌^◌, ◌<◌, ◌≤◌, true, false, List, [], ◌++◌, length, refl, arith, codes, decimal, length-append, append_assoc}
use Rattle.std.specs.Prelude.{◌==◌, if◌then◌else◌}
use Rattle.std.proofs.lemmas.Fmt.{length-decimal-le}
use Rattle.event_json.specs.Json.{quoted}
use Rattle.wire_base.specs.Ranges.{IsRow}
use Rattle.wire_base.specs.declared.row.Row.{Row}
use Rattle.wire_base.specs.declared.row.Op.TheVariants.{Set, Remove}
use Rattle.registry_frame.specs.Body.{moment_bytes, operation_bytes}
use Rattle.registry_frame.proofs.Escapes.{quoted_short}

abbrev pub before_epoch : List ℕ
before_epoch = codes "\"epoch\":"

abbrev pub before_key : List ℕ
before_key = codes ",\"key\":"

abbrev pub before_offset : List ℕ
before_offset = codes ",\"offset\":"

abbrev pub before_path : List ℕ
before_path = codes ",\"op\":\"set\",\"path\":"

-- the parts of a text of ten after its first byte, one after the other
ten_parts : (a b c d e f g h i j : List ℕ) → codes "{" ++ (a ++ (b ++ (c ++ (d ++ (e ++ (f ++ (g ++ (h ++ (i ++ j))))))))) ≡ codes "{" ++ a ++ b ++ c ++ d ++ e ++ f ++ g ++ h ++ i ++ j
ten_parts a b c d e f g h i j = simp append_assoc refl

pub set_spelled : (row : Row) (text moment key path : List ℕ) → moment ≡ moment_bytes row.changed.0 → key ≡ quoted row.key → path ≡ quoted row.path
    → text ≡ codes "{" ++ (moment ++ (before_epoch ++ (decimal row.epoch.0 ++ (before_key ++ (key ++ (before_offset ++ (decimal row.offset ++ (before_path ++ (path ++ codes "}")))))))))
    → text ≡ operation_bytes (Set row)
set_spelled row text moment key path moment_is key_is path_is text_is =
    rw (text_is, moment_is, key_is, path_is)
    (ten_parts (moment_bytes row.changed.0) before_epoch (decimal row.epoch.0) before_key (quoted row.key) before_offset (decimal row.offset) before_path (quoted row.path) (codes "}"))

ten_short : (a b c d e f g h i j : List ℕ) → 1 + length a + length b + length c + length d + length e + length f + length g + length h + length i + length j ≤ 80_000
    → length (codes "{" ++ a ++ b ++ c ++ d ++ e ++ f ++ g ++ h ++ i ++ j) ≤ 80_000
ten_short a b c d e f g h i j short = simp length-append short

field_short : (digits : List ℕ) → length digits ≤ 15 → length (codes "\"changed\":" ++ digits ++ codes ",") ≤ 26
field_short digits short = simp length-append (omega (arith, short))

moment_short : (moment : ℕ) → moment ≤ 250_000_000_000_000 → length (moment_bytes moment) ≤ 26
moment_short moment most =
    let short : length (decimal moment) ≤ 15 = length-decimal-le 15 moment (omega arith) (omega arith) (omega arith) in
    elim (moment == 0) as (λ none. length (if none then [] else codes "\"changed\":" ++ decimal moment ++ codes ",") ≤ 26) [
      | true ↦ omega arith
      | false ↦ field_short (decimal moment) short
    ]

pub set_short : (row : Row) → IsRow row → row.epoch.0 < 2 ^ 32 → length (operation_bytes (Set row)) ≤ 80_000
set_short row ranges epoch =
    let moment = moment_short row.changed.0 ranges.changed in
    let epoch_short : length (decimal row.epoch.0) ≤ 10 = length-decimal-le 10 row.epoch.0 (omega arith) (omega arith) (omega arith) in
    let offset_short : length (decimal row.offset) ≤ 19 = length-decimal-le 19 row.offset (omega arith) (omega (arith, ranges.offset)) (omega (arith, ranges.offset)) in
    let key_short = quoted_short row.key in
    let path_short = quoted_short row.path in
    ten_short (moment_bytes row.changed.0) before_epoch (decimal row.epoch.0) before_key (quoted row.key) before_offset (decimal row.offset) before_path (quoted row.path) (codes "}")
    (omega (arith, moment, key_short, path_short, ranges.key, ranges.path))

pub remove_short : (key : List ℕ) → length key ≤ 8_192 → length (operation_bytes (Remove key)) ≤ 80_000
remove_short key short =
    let end : length (codes ",\"op\":\"remove\"}") ≡ 15 = refl in
    let key_short = quoted_short key in
    let all : length (operation_bytes (Remove key)) ≡ 7 + length (quoted key) + length (codes ",\"op\":\"remove\"}") = simp length-append (omega arith) in
    omega (arith, end, all, key_short)
