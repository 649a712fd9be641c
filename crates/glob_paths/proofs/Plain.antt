-- The parts of a text are texts without a slash, and a plain part of a glob matches the name that it spells alone.
use Rattle.std.proofs.Common.{◌≡◌, ◌≢◌, ℕ, ◌<◌, ◌≤◌, Bool, true, false, not, ◌&&◌, List, [], ◌∷◌, ◌++◌, map, refl, sym, ap, ◌∙◌, subst, ⊎_elim, eqb, lit<, arith}
use Rattle.std.proofs.lemmas.Bool.{cases_lt, false≢true}
use Rattle.std.proofs.lemmas.Bool.Decides.{nat_tests}
use Rattle.std.proofs.lemmas.List.{append-nil}
use Rattle.std.proofs.lemmas.Str.{IsUtf8-append, IsUtf8-encode, IsUtf8-nil, inside_one, encode_ascii, encodes-chars}
use Rattle.std.specs.Char.{encode_utf8, IsScalar}
use Rattle.std.specs.List.{AllByRecursion, list_all}
use Rattle.std.specs.Str.{IsUtf8, chars, encode_utf8_all, all_scalars}
use Rattle.wire_base.specs.Path.{parts_of, on_first_part}
use Rattle.glob_paths.specs.Sign.{signs_of, signs}
use Rattle.glob_paths.specs.Token.{Token, exactly, tokens, tokens_of}
use Rattle.glob_paths.specs.Match.{Matches}
use Rattle.glob_paths.specs.Root.{is_plain, is_plain_byte}
use Rattle.glob_paths.proofs.Signs.{plain_first}
use Rattle.glob_paths.proofs.Slashes.{NoSlash, NoSlash-by_index, some_part}

-- a text before the first part
abbrev put_front : List ℕ → List (List ℕ) → List (List ℕ)
put_front text [] = text ∷ []
put_front text (part ∷ parts) = (text ++ part) ∷ parts

front_byte : (byte : ℕ) (text : List ℕ) (parts : List (List ℕ)) → parts ≢ [] → on_first_part byte (put_front text parts) ≡ put_front (byte ∷ text) parts
front_byte byte text [] some = absurd (some refl)
front_byte byte text (part ∷ parts) some = refl

parts_of-front : (text rest : List ℕ) → NoSlash text → parts_of (text ++ rest) ≡ put_front text (parts_of rest)
parts_of-front [] rest none = at_none (parts_of rest) (some_part rest)
  where
    at_none : (parts : List (List ℕ)) → parts ≢ [] → parts ≡ put_front [] parts
    at_none [] some = absurd (some refl)
    at_none (part ∷ parts) some = refl
parts_of-front (byte ∷ bytes) rest none =
    rw (none.0, parts_of-front bytes rest none.1) (front_byte byte bytes (parts_of rest) (some_part rest))

encode_no_slash : (code : ℕ) → code ≢ 47 → NoSlash (encode_utf8 code)
encode_no_slash code other = NoSlash-by_index (encode_utf8 code) (λ i inside e.
    other (inside_one code [] (encode_utf8 code) i (sym (append-nil (encode_utf8 code))) inside (omega (arith, e)) ∙ e))

abbrev pub AllTexts : List (List ℕ) → Type 0
AllTexts parts = AllByRecursion IsUtf8 parts

both : (a b : Bool) → (a && b) ≡ true → (a ≡ true) × (b ≡ true)
both true b h = (refl, h)
both false b h = absurd (false≢true h)

texts_front : (code : ℕ) (parts : List (List ℕ)) → IsScalar code → AllTexts parts → AllTexts (put_front (encode_utf8 code) parts)
texts_front code [] scalar all = (IsUtf8-encode code scalar, tt)
texts_front code (part ∷ parts) scalar all = (IsUtf8-append (encode_utf8 code) part (IsUtf8-encode code scalar) all.0, all.1)

texts_step : (code : ℕ) (codes : List ℕ) → IsScalar code → AllTexts (parts_of (encode_utf8_all codes)) → (slash : Bool) → eqb code 47 ≡ slash → AllTexts (parts_of (encode_utf8 code ++ encode_utf8_all codes))
texts_step code codes scalar rest true is =
    let same : code ≡ 47 = grind (arith, nat_tests) in
    let P : List ℕ → Type 0 = λ front. AllTexts (parts_of (front ++ encode_utf8_all codes)) in
    subst P (sym (ap encode_utf8 same ∙ encode_ascii 47 (lit< tt))) (IsUtf8-nil, rest)
texts_step code codes scalar rest false is =
    let other : code ≢ 47 = grind (arith, nat_tests) in
    let P : List (List ℕ) → Type 0 = AllTexts in
    subst P (sym (parts_of-front (encode_utf8 code) (encode_utf8_all codes) (encode_no_slash code other))) (texts_front code _ scalar rest)

texts_of_codes : (codes : List ℕ) → all_scalars codes ≡ true → AllTexts (parts_of (encode_utf8_all codes))
texts_of_codes [] scalar = (IsUtf8-nil, tt)
texts_of_codes (code ∷ codes) scalar =
    let are = both _ (all_scalars codes) scalar in
    texts_step code codes are.0 (texts_of_codes codes are.1) (eqb code 47) refl

pub texts_of : (text : List ℕ) → IsUtf8 text → AllTexts (parts_of text)
texts_of text utf8 = let P : List ℕ → Type 0 = λ bytes. AllTexts (parts_of bytes) in subst P utf8.1.1 (texts_of_codes utf8.0 utf8.1.0)

-- the characters of a plain text are plain
all_front : (xs ys : List ℕ) → list_all is_plain_byte (xs ++ ys) ≡ true → (list_all is_plain_byte xs ≡ true) × (list_all is_plain_byte ys ≡ true)
all_front [] ys all = (refl, all)
all_front (x ∷ xs) ys all =
    let head = both (is_plain_byte x) (list_all is_plain_byte (xs ++ ys)) all in
    let rest = all_front xs ys head.1 in
    (ap (λ b. b && list_all is_plain_byte xs) head.0 ∙ rest.0, rest.1)

plain_code : (code : ℕ) → list_all is_plain_byte (encode_utf8 code) ≡ true → is_plain_byte code ≡ true
plain_code code all = ⊎_elim low high (cases_lt code 128)
  where
    low : code < 128 → is_plain_byte code ≡ true
    low small = (both (is_plain_byte code) true (ap (list_all is_plain_byte) (sym (encode_ascii code small)) ∙ all)).0

    high : 128 ≤ code → is_plain_byte code ≡ true
    high large =
        let a : eqb code 42 ≡ false = grind (arith, nat_tests) in
        let b : eqb code 63 ≡ false = grind (arith, nat_tests) in
        let c : eqb code 91 ≡ false = grind (arith, nat_tests) in
        let d : eqb code 92 ≡ false = grind (arith, nat_tests) in
        rw (a, b, c, d) refl

plain_codes : (codes : List ℕ) → list_all is_plain_byte (encode_utf8_all codes) ≡ true → list_all is_plain_byte codes ≡ true
plain_codes [] all = refl
plain_codes (code ∷ codes) all =
    let parts = all_front (encode_utf8 code) (encode_utf8_all codes) all in
    ap (λ b. b && list_all is_plain_byte codes) (plain_code code parts.0) ∙ plain_codes codes parts.1

-- and each is a token of its own
plain_tests : (code : ℕ) → is_plain_byte code ≡ true → (eqb code 42 ≡ false) × (eqb code 63 ≡ false) × (eqb code 91 ≡ false) × (eqb code 92 ≡ false)
plain_tests code plain = by_tests (eqb code 42) (eqb code 63) (eqb code 91) (eqb code 92) plain
  where
    by_tests : (a b c d : Bool) → (not a && (not b && (not c && not d))) ≡ true → (a ≡ false) × (b ≡ false) × (c ≡ false) × (d ≡ false)
    by_tests false false false false h = (refl, refl, refl, refl)
    by_tests true b c d h = absurd (false≢true h)
    by_tests false true c d h = absurd (false≢true h)
    by_tests false false true d h = absurd (false≢true h)
    by_tests false false false true h = absurd (false≢true h)

plain_tokens : (codes : List ℕ) → list_all is_plain_byte codes ≡ true → tokens_of false (signs_of codes) ≡ map exactly codes
plain_tokens [] plain = refl
plain_tokens (code ∷ codes) plain =
    let are = both (is_plain_byte code) (list_all is_plain_byte codes) plain in
    let tests = plain_tests code are.0 in
    ap (tokens_of false) (plain_first code codes tests.3) ∙ rw (tests.0, tests.1, tests.2) (ap (λ more. exactly code ∷ more) (plain_tokens codes are.1))

same_codes : (codes names : List ℕ) → Matches (map exactly codes) names → names ≡ codes
same_codes [] [] m = refl
same_codes [] (name ∷ names) m = absurd m
same_codes (code ∷ codes) [] m = absurd m
same_codes (code ∷ codes) (name ∷ names) m =
    let same : code ≡ name = grind (arith, nat_tests, m.0) in
    ap (λ first. first ∷ names) (sym same) ∙ ap (λ rest. code ∷ rest) (same_codes codes names m.1)

pub plain_part : (part name : List ℕ) → IsUtf8 part → IsUtf8 name → is_plain part ≡ true → Matches (tokens part) (chars name) → name ≡ part
unfolding tokens signs
plain_part part name utf8 utf8' plain m =
    let P : List Token → Type 0 = λ tokens. Matches tokens (chars name) in
    let plain_chars = plain_codes (chars part) (ap (list_all is_plain_byte) (encodes-chars part utf8) ∙ plain) in
    let same = same_codes (chars part) (chars name) (subst P (plain_tokens (chars part) plain_chars) m) in
    sym (encodes-chars name utf8') ∙ ap encode_utf8_all same ∙ encodes-chars part utf8
