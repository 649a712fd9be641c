-- The bytes of a body are UTF-8, and their tokens are those of its operations.
use Rattle.std.proofs.Common.{◌≡◌, ◌≢◌, ℕ, ◌^◌, ◌<◌, Bool, true, false, List, [], ◌∷◌, ◌++◌, refl, sym, ap, ◌∙◌, subst, arith, codes, decimal, append_assoc, append-nil}
use Rattle.std.specs.Prelude.{All, ◌==◌, if◌then◌else◌}
use Rattle.std.specs.List.{flat_map, join_by}
use Rattle.std.specs.Str.{IsUtf8}
use Rattle.std.proofs.lemmas.Fmt.{IsAscii-decimal}
use Rattle.std.proofs.lemmas.List.Elements.{All-head, All-tail}
use Rattle.std.proofs.lemmas.Str.{IsUtf8-append, IsUtf8-from_ascii, IsUtf8-nil}
use Rattle.event_json.specs.Json.{quoted}
use Rattle.json.proofs.Printed.Decimals.{IsNumber-decimal}
use Rattle.json.proofs.Printed.Tokens.{tokens-print}
use Rattle.json.proofs.Printed.Utf8.{IsUtf8-are_ascii, IsUtf8-quoted}
use Rattle.json.specs.Lex.{tokens}
use Rattle.json.specs.Print.{ArePrintable, escape_byte, print, print_from}
use Rattle.json.specs.Token as json
use Rattle.json.specs.Token.{Token}
use Rattle.wire_base.specs.declared.row.Row.{Row}
use Rattle.wire_base.specs.declared.row.Op.{Op}
use Rattle.wire_base.specs.declared.row.Op.TheVariants.{Set, Remove}
use Rattle.registry_frame.specs.Body.{body_bytes, moment_bytes, operation_bytes}
use Rattle.registry_frame.specs.BodyOf.{IsBodyOf, IsStoredOp, IsStoredRow}
use Rattle.registry_frame.specs.Tokens.{body_tokens, field_tokens, list_tokens, removal_tokens, row_tokens}
use Rattle.registry_frame.proofs.Escapes.{quoted_same}
use Rattle.registry_frame.proofs.OneReading.{behind_comma, behind_moment, body_parts, field, remove_ending, remove_parts, set_parts}
use Rattle.registry_frame.proofs.Operations.{before_epoch, before_key, before_offset, before_path}

-- ---- what `json` prints for the tokens

print_removal : (key : List ℕ) (rest : List Token) → print_from false (json.begin_object ∷ json.key (codes "key") ∷ removal_tokens key rest) ≡ operation_bytes (Remove key) ++ print_from true rest
unfolding print_from escape_byte
print_removal key rest =
    ap (λ (q : List ℕ). codes "{\"key\":" ++ (q ++ (remove_ending ++ print_from true rest))) (quoted_same key) ∙ sym (remove_parts key (print_from true rest))

print_row : (row : Row) (rest : List Token) → print_from false (json.key (codes "epoch") ∷ row_tokens row rest) ≡ before_epoch ++ behind_moment row (print_from true rest)
unfolding print_from escape_byte
print_row row rest =
    λ i. before_epoch ++ (decimal row.epoch.0 ++ (before_key ++ (quoted_same row.key i ++ (before_offset ++ (decimal row.offset ++ (before_path ++ (quoted_same row.path i ++ (codes "}" ++ print_from true rest))))))))

print_set : (none : Bool) (row : Row) (rest : List Token)
    → print_from false (json.begin_object ∷ ((if none then [] else (json.key (codes "changed") ∷ json.number (decimal row.changed.0) ∷ [])) ++ (json.key (codes "epoch") ∷ row_tokens row rest)))
    ≡ 123 ∷ ((if none then [] else field row.changed.0) ++ (before_epoch ++ behind_moment row (print_from true rest)))
unfolding print_from escape_byte
print_set true row rest = ap (λ (l : List ℕ). 123 ∷ l) (print_row row rest)
print_set false row rest =
    ap (λ (l : List ℕ). codes "{\"changed\":" ++ (decimal row.changed.0 ++ 44 ∷ l)) (print_row row rest)
    ∙ ap (λ (l : List ℕ). codes "{\"changed\":" ++ l) (sym (append_assoc (decimal row.changed.0) (44 ∷ []) (before_epoch ++ behind_moment row (print_from true rest))))

print_operation : (op : Op) (rest : List Token) → print_from false (json.begin_object ∷ field_tokens op rest) ≡ operation_bytes op ++ print_from true rest
print_operation (Set row) rest = print_set (row.changed.0 == 0) row rest ∙ sym (set_parts row (print_from true rest))
print_operation (Remove key) rest = print_removal key rest

-- a comma is before an operation that follows another
print_next : (op : Op) (rest : List Token) → print_from true (json.begin_object ∷ field_tokens op rest) ≡ 44 ∷ print_from false (json.begin_object ∷ field_tokens op rest)
unfolding print_from
print_next op rest = refl

print_later : (ops : List Op) → print_from true (list_tokens ops) ≡ flat_map behind_comma ops ++ 93 ∷ []
unfolding print_from
print_later [] = refl
print_later (op ∷ ops) =
    print_next op (list_tokens ops)
    ∙ ap (λ (l : List ℕ). 44 ∷ l)
    (print_operation op (list_tokens ops) ∙ ap (λ (l : List ℕ). operation_bytes op ++ l) (print_later ops) ∙ sym (append_assoc (operation_bytes op) (flat_map behind_comma ops) (93 ∷ [])))

print_first : (ops : List Op) → print (body_tokens ops) ≡ 91 ∷ print_from false (list_tokens ops)
unfolding print_from
print_first ops = refl

body_printed : (ops : List Op) → ops ≢ [] → print (body_tokens ops) ≡ body_bytes ops
body_printed [] some = absurd (some refl)
body_printed (op ∷ ops) some =
    print_first (op ∷ ops)
    ∙ ap (λ (l : List ℕ). 91 ∷ l) (print_operation op (list_tokens ops) ∙ ap (λ (l : List ℕ). operation_bytes op ++ l) (print_later ops))
    ∙ sym (body_parts op ops []) ∙ append-nil (body_bytes (op ∷ ops))

-- ---- each token can be printed

printable_row : (row : Row) (rest : List Token) → IsStoredRow row → ArePrintable rest → ArePrintable (json.key (codes "epoch") ∷ row_tokens row rest)
unfolding ArePrintable
printable_row row rest stored more =
    let epoch = IsNumber-decimal row.epoch.0 (omega (arith, stored.epoch)) in
    let offset = IsNumber-decimal row.offset (omega (arith, stored.ranges.offset)) in
    (tt, (epoch, (tt, (tt, (tt, (offset, (tt, (tt, (tt, (tt, (tt, more)))))))))))

printable_set : (none : Bool) (row : Row) (rest : List Token) → IsStoredRow row → ArePrintable rest
    → ArePrintable ((if none then [] else (json.key (codes "changed") ∷ json.number (decimal row.changed.0) ∷ [])) ++ (json.key (codes "epoch") ∷ row_tokens row rest))
unfolding ArePrintable
printable_set true row rest stored more = printable_row row rest stored more
printable_set false row rest stored more =
    (tt, (IsNumber-decimal row.changed.0 (omega (arith, stored.ranges.changed)), printable_row row rest stored more))

printable_list : (ops : List Op) → All IsStoredOp ops → ArePrintable (list_tokens ops)
unfolding ArePrintable
printable_list [] stored = (tt, tt)
printable_list (Set row ∷ ops) stored =
    (tt, printable_set (row.changed.0 == 0) row (list_tokens ops) (All-head IsStoredOp (Set row) ops stored) (printable_list ops (All-tail IsStoredOp (Set row) ops stored)))
printable_list (Remove key ∷ ops) stored =
    (tt, (tt, (tt, (tt, (tt, (tt, printable_list ops (All-tail IsStoredOp (Remove key) ops stored)))))))

printable_body : (ops : List Op) → All IsStoredOp ops → ArePrintable (body_tokens ops)
unfolding ArePrintable
printable_body ops stored = (tt, printable_list ops stored)

pub tokens_of_body : (ops : List Op) (bytes : List ℕ) → IsBodyOf ops bytes → tokens bytes ≡ body_tokens ops
tokens_of_body ops bytes is =
    ap tokens (is.spelled ∙ sym (body_printed ops is.some)) ∙ tokens-print (body_tokens ops) (printable_body ops is.each)

-- ---- UTF-8

quoted_text : (text : List ℕ) → IsUtf8 text → IsUtf8 (quoted text)
quoted_text text is = subst IsUtf8 (quoted_same text) (IsUtf8-quoted text is)

number_text : (number : ℕ) → number < 2 ^ 64 → IsUtf8 (decimal number)
number_text number short = IsUtf8-from_ascii (decimal number) (IsAscii-decimal number short)

moment_text : (none : Bool) (moment : ℕ) → moment < 2 ^ 64 → IsUtf8 (if none then [] else codes "\"changed\":" ++ decimal moment ++ codes ",")
moment_text true moment short = IsUtf8-nil
moment_text false moment short =
    IsUtf8-append (codes "\"changed\":" ++ decimal moment) (codes ",") (IsUtf8-append (codes "\"changed\":") (decimal moment) (IsUtf8-are_ascii (codes "\"changed\":") refl) (number_text moment short))
    (IsUtf8-are_ascii (codes ",") refl)

operation_text : (op : Op) → IsStoredOp op → IsUtf8 (operation_bytes op)
operation_text (Set row) stored =
    IsUtf8-append _ (codes "}")
    (IsUtf8-append _ (quoted row.path)
    (IsUtf8-append _ before_path
    (IsUtf8-append _ (decimal row.offset)
    (IsUtf8-append _ before_offset
    (IsUtf8-append _ (quoted row.key)
    (IsUtf8-append _ before_key
    (IsUtf8-append _ (decimal row.epoch.0)
    (IsUtf8-append _ before_epoch
    (IsUtf8-append (codes "{") (moment_bytes row.changed.0) (IsUtf8-are_ascii (codes "{") refl) (moment_text (row.changed.0 == 0) row.changed.0 (omega (arith, stored.ranges.changed))))
    (IsUtf8-are_ascii before_epoch refl))
    (number_text row.epoch.0 (omega (arith, stored.epoch))))
    (IsUtf8-are_ascii before_key refl))
    (quoted_text row.key stored.key))
    (IsUtf8-are_ascii before_offset refl))
    (number_text row.offset (omega (arith, stored.ranges.offset))))
    (IsUtf8-are_ascii before_path refl))
    (quoted_text row.path stored.path))
    (IsUtf8-are_ascii (codes "}") refl)
operation_text (Remove key) stored =
    IsUtf8-append _ remove_ending (IsUtf8-append (codes "{\"key\":") (quoted key) (IsUtf8-are_ascii (codes "{\"key\":") refl) (quoted_text key stored.1))
    (IsUtf8-are_ascii remove_ending refl)

later_text : (ops : List Op) → All IsStoredOp ops → IsUtf8 (flat_map behind_comma ops)
later_text [] stored = IsUtf8-nil
later_text (op ∷ ops) stored =
    IsUtf8-append (behind_comma op) (flat_map behind_comma ops)
    (IsUtf8-append (codes ",") (operation_bytes op) (IsUtf8-are_ascii (codes ",") refl) (operation_text op (All-head IsStoredOp op ops stored)))
    (later_text ops (All-tail IsStoredOp op ops stored))

joined_text : (ops : List Op) → All IsStoredOp ops → IsUtf8 (join_by operation_bytes (codes ",") ops)
joined_text [] stored = IsUtf8-nil
joined_text (op ∷ ops) stored =
    IsUtf8-append (operation_bytes op) (flat_map behind_comma ops) (operation_text op (All-head IsStoredOp op ops stored)) (later_text ops (All-tail IsStoredOp op ops stored))

pub body_text : (ops : List Op) (bytes : List ℕ) → IsBodyOf ops bytes → IsUtf8 bytes
body_text ops bytes is =
    subst IsUtf8 (sym is.spelled)
    (IsUtf8-append (codes "[" ++ join_by operation_bytes (codes ",") ops) (codes "]")
    (IsUtf8-append (codes "[") (join_by operation_bytes (codes ",") ops) (IsUtf8-are_ascii (codes "[") refl) (joined_text ops is.each)) (IsUtf8-are_ascii (codes "]") refl))
