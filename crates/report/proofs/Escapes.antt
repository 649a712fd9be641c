-- What is written of a text between its quotation marks.
use Rattle.std.proofs.Common.{◌≡◌, ◌≢◌, ℕ, ◌+◌, ◌/◌, ◌%◌, ◌<◌, ◌≤◌, List, [], ◌∷◌, ◌++◌, length, take, drop, get_or, suc, Bool, true, false, cond, IsTrue, Option, Some, None, Ok, refl, sym, ap, subst, ◌∙◌, arith}
use Rattle.std.specs.List.{flat_map, position, position_or_len}
use Rattle.std.proofs.lemmas.Bool.Decides.{nat_tests}
use Rattle.std.proofs.lemmas.Grind.{common_steps, flat_map-append}
use Rattle.std.proofs.lemmas.List.{length-drop, take_all}
use Rattle.std.proofs.lemmas.List.Quantifiers.{position-Some}
use Rattle.std.proofs.lemmas.List.Sums.{fails_before_first}
use Rattle.event_json.specs.Json.{escape, hexadecimal_digit}
use Rattle.report.specs.Escape.{is_escaped}
use Rattle.report.specs.Writing.{WritesAll}
use Rattle.report.proofs.Writings.{Continues, continues_then}

plain_escape : (byte : ℕ) → is_escaped byte ≡ false → escape byte ≡ byte ∷ []
unfolding escape
plain_escape byte plain = grind (arith, nat_tests)

pub code_escape : (byte : ℕ) → IsTrue (is_escaped byte) → byte ≢ 0x22 → byte ≢ 0x5C → byte ≢ 8 → byte ≢ 9 → byte ≢ 10 → byte ≢ 12 → byte ≢ 13 →
    escape byte ≡ 0x5C ∷ 0x75 ∷ 0x30 ∷ 0x30 ∷ hexadecimal_digit (byte / 16) ∷ hexadecimal_digit (byte % 16) ∷ []
unfolding escape
code_escape byte is a b d e f h k = grind (arith, nat_tests)

-- bytes that are as they are
plain_bytes : (bytes : List ℕ) → ((k : ℕ) → k < length bytes → is_escaped (get_or bytes k 0) ≡ false) → flat_map escape bytes ≡ bytes
plain_bytes [] plain = refl
plain_bytes (x ∷ xs) plain =
    let first : escape x ≡ x ∷ [] = plain_escape x (plain 0 (omega arith)) in
    let rest : flat_map escape xs ≡ xs = plain_bytes xs (λ k below. plain (suc k) (omega arith)) in
    rw (first, rest)

none_from : (b : Bool) (n : ℕ) → cond b (Some n) None ≡ None → b ≡ false
none_from true n none = cc
none_from false n none = refl

pub escapes_plain : (bytes : List ℕ) → position is_escaped bytes ≡ None → flat_map escape bytes ≡ bytes
escapes_plain bytes none =
    let all_before : length bytes ≤ position_or_len is_escaped bytes = grind (arith, nat_tests, none_from _ _ none) in
    plain_bytes bytes (λ k below. fails_before_first is_escaped bytes k 0 (omega arith))

-- the byte after those that are as they are
pub escaped_next : (bytes rest : List ℕ) (at : ℕ) → position is_escaped bytes ≡ Some at → rest ≡ drop at bytes →
    (0 < length rest) × IsTrue (is_escaped (get_or rest 0 0))
escaped_next bytes rest at some is_rest =
    let found = position-Some is_escaped bytes at 0 some in
    let same : get_or (drop at bytes) 0 0 ≡ get_or bytes at 0 = grind (arith, common_steps) in
    let some_left : 0 < length (drop at bytes) = omega (arith, length-drop at bytes, found.0) in
    rw is_rest (some_left, rw same found.1)

pub escapes_front : (bytes plain rest : List ℕ) (at : ℕ) → position is_escaped bytes ≡ Some at → plain ≡ take at bytes → rest ≡ drop at bytes →
    flat_map escape bytes ≡ plain ++ flat_map escape rest
escapes_front bytes plain rest at some is_plain is_rest =
    let found = position-Some is_escaped bytes at 0 some in
    let same : flat_map escape (take at bytes) ≡ take at bytes = plain_bytes (take at bytes) (λ k below. grind (arith, common_steps, found.2 k)) in
    let parts : bytes ≡ take at bytes ++ drop at bytes = grind (arith, common_steps) in
    rw (is_plain, is_rest) (ap (λ (l : List ℕ). flat_map escape l) parts ∙ flat_map-append escape (take at bytes) (drop at bytes)
    ∙ ap (λ (l : List ℕ). l ++ flat_map escape (drop at bytes)) same)

pub escapes_next : (rest : List ℕ) → 0 < length rest → flat_map escape rest ≡ escape (get_or rest 0 0) ++ flat_map escape (drop 1 rest)
escapes_next [] some = absurd (omega arith)
escapes_next (x ∷ xs) some = refl

-- one turn of the loop: the bytes that are as they are, and the escape of the byte after them
pub escape_step : (old : Option (List ℕ)) (text : List ℕ) (between after : Option (List ℕ)) (rest : List ℕ) (most : ℕ) →
    0 < length rest → length rest ≤ 1 + most → Continues old text between (flat_map escape rest) →
    WritesAll between (escape (get_or rest 0 0)) (Ok tt) after → Continues old text after (flat_map escape (take most (drop 1 rest)))
escape_step old text between after rest most some all was escaped =
    let behind : take most (drop 1 rest) ≡ drop 1 rest = take_all most (drop 1 rest) (omega (arith, length-drop 1 rest)) in
    let P : List ℕ → Type 0 = λ l. Continues old text after (flat_map escape l) in
    subst P (sym behind) (continues_then old text between after (flat_map escape rest) (escape (get_or rest 0 0)) _ was (escapes_next rest some) escaped)
