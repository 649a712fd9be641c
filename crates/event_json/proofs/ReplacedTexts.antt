-- std's `from_utf8_lossy` gives the text of bytes.
use Rattle.std.proofs.Common.{◌≡◌, ℕ, zero, suc, ◌+◌, ◌<◌, ◌≤◌, true, false, nat_lt, inl, inr, List, [], ◌∷◌, ◌++◌, length, take, drop, Option, Some, None, refl, sym, ap, ◌∙◌, arith, encode_utf8, encode_utf8_all, length-drop}
use Rattle.std.proofs.lemmas.Bool.{cases_lt, cond-true, cond-false}
use Rattle.std.specs.Prelude.{◌&&◌, ◌==◌, is_some}
use Rattle.std.proofs.lemmas.Bool.Decides.{nat_tests}
use Rattle.std.proofs.Math.Seq.{take-append_seam}
use Rattle.std.specs.Str.{IsUtf8}
use Rattle.std.specs.Str.Lossy.{utf8_lossy}
use Rattle.std.proofs.lemmas.Str.{utf8_lossy-IsUtf8}
use Rattle.bstr.specs.Utf8.{Decoded, bad, good, decoded, continues, second as second_of, or_replacement, lossy_chars}
use Rattle.bstr.proofs.lemmas.PieceLemmas.{by-shape, piece-bounds, lossy_chars-step, lossy_chars-nil}
use Rattle.bstr.proofs.lemmas.SoundLemmas.{SpellsChar-decoded}
use Rattle.bstr.proofs.lemmas.UnicodeLemmas.{replacement_bytes}
use Rattle.bstr.proofs.lemmas.LossyLemmas.{lossy_chars-utf8_lossy}
use Rattle.event_json.specs.Replaced.{Range, lies_in, later, second, behind, is_first, fitting, piece_length, is_character, piece, text_within, text_of}

later_same : (c : ℕ) → lies_in later c ≡ continues c
later_same c = grind (arith, nat_tests)

second_same : (b c : ℕ) → lies_in (second b) c ≡ second_of b c
second_same b c = grind (arith, nat_tests)

-- one piece is as long as the other, and is a character where the other is one
pub record Same (first : ℕ) (rest : List ℕ) (read : Decoded) : Type 0 where
  pub size : piece_length first rest ≡ read.size
  pub whole : is_character first rest ≡ is_some read.char

same_0 : (b : ℕ) → Same b [] (decoded (b ∷ []))
same_0 b = record { size = grind (arith, nat_tests); whole = grind (arith, nat_tests) }

same_1 : (b c : ℕ) → Same b (c ∷ []) (decoded (b ∷ c ∷ []))
same_1 b c = record { size = grind (arith, nat_tests, second_same); whole = grind (arith, nat_tests, second_same) }

-- what goes on with a character, by its first byte
one_behind : (b : ℕ) → b < 0x80 → behind b ≡ []
one_behind b high = let ascii : nat_lt b 0x80 ≡ true = grind (arith, nat_tests) in cond-true _ _ _ ascii

two_behind : (b : ℕ) → 0x80 ≤ b → b < 0xE0 → behind b ≡ second b ∷ []
two_behind b low high =
    let ascii : nat_lt b 0x80 ≡ false = grind (arith, nat_tests) in
    let two : nat_lt b 0xE0 ≡ true = grind (arith, nat_tests) in
    cond-false _ _ _ ascii ∙ cond-true _ _ _ two

three_behind : (b : ℕ) → 0xE0 ≤ b → b < 0xF0 → behind b ≡ second b ∷ later ∷ []
three_behind b low high =
    let ascii : nat_lt b 0x80 ≡ false = grind (arith, nat_tests) in
    let two : nat_lt b 0xE0 ≡ false = grind (arith, nat_tests) in
    let three : nat_lt b 0xF0 ≡ true = grind (arith, nat_tests) in
    cond-false _ _ _ ascii ∙ cond-false _ _ _ two ∙ cond-true _ _ _ three

four_behind : (b : ℕ) → 0xF0 ≤ b → behind b ≡ second b ∷ later ∷ later ∷ []
four_behind b low =
    let ascii : nat_lt b 0x80 ≡ false = grind (arith, nat_tests) in
    let two : nat_lt b 0xE0 ≡ false = grind (arith, nat_tests) in
    let three : nat_lt b 0xF0 ≡ false = grind (arith, nat_tests) in
    cond-false _ _ _ ascii ∙ cond-false _ _ _ two ∙ cond-false _ _ _ three

lead : (b : ℕ) → 0xC2 ≤ b → b ≤ 0xF4 → is_first b ≡ true
lead b low high = grind (arith, nat_tests)

fits : (range : Range) (ranges : List Range) (c : ℕ) (bytes : List ℕ) → lies_in range c ≡ true → fitting (range ∷ ranges) (c ∷ bytes) ≡ suc (fitting ranges bytes)
fits range ranges c bytes inside = cond-true _ _ _ inside

fits_not : (range : Range) (ranges : List Range) (c : ℕ) (bytes : List ℕ) → lies_in range c ≡ false → fitting (range ∷ ranges) (c ∷ bytes) ≡ 0
fits_not range ranges c bytes outside = cond-false _ _ _ outside

-- of this many bytes that fit
same_by : (b : ℕ) (rest : List ℕ) (ranges : List Range) (k : ℕ) (read given : Decoded) → is_first b ≡ true → behind b ≡ ranges → fitting ranges rest ≡ k
    → suc k ≡ given.size → (k == length ranges) ≡ is_some given.char → read ≡ given → Same b rest read
same_by b rest ranges k read given first is fit size whole e = record {
  size = cond-true _ _ _ first ∙ ap (λ rs. suc (fitting rs rest)) is ∙ ap suc fit ∙ size ∙ sym (ap (λ (r : Decoded). r.size) e);
  whole = ap (λ f. f && (fitting (behind b) rest == length (behind b))) first ∙ ap (λ rs. fitting rs rest == length rs) is ∙ ap (λ n. n == length ranges) fit
      ∙ whole ∙ sym (ap (λ (r : Decoded). is_some r.char) e);
}

-- no byte of the rest counts
same_ascii : (b : ℕ) (rest : List ℕ) (read : Decoded) → b < 0x80 → read ≡ good b 1 → Same b rest read
same_ascii b rest read high e = same_by b rest [] 0 read (good b 1) (let ascii : nat_lt b 0x80 ≡ true = grind (arith, nat_tests) in cond-true _ _ _ ascii) (one_behind b high) (no_range rest) refl refl e
  where
    no_range : (bytes : List ℕ) → fitting [] bytes ≡ 0
    no_range bytes = refl

same_none : (b : ℕ) (rest : List ℕ) (read : Decoded) → is_first b ≡ false → read ≡ bad 1 → Same b rest read
same_none b rest read none e = record {
  size = cond-false _ _ _ none ∙ sym (ap (λ (r : Decoded). r.size) e);
  whole = ap (λ f. f && (fitting (behind b) rest == length (behind b))) none ∙ sym (ap (λ (r : Decoded). is_some r.char) e);
}

abbrev Behind : ℕ → Type 0
Behind b = (ranges : List Range) × (behind b ≡ second b ∷ ranges)

some_behind : (b : ℕ) → 0xC2 ≤ b → Behind b
some_behind b low =
    elim (cases_lt b 0xE0) [
      | inl two ↦ ([], two_behind b (omega arith) two)
      | inr more ↦ elim (cases_lt b 0xF0) [
        | inl three ↦ (later ∷ [], three_behind b more three)
        | inr four ↦ (later ∷ later ∷ [], four_behind b four)
      ]
    ]

same_broken : (b c : ℕ) (bytes : List ℕ) (read : Decoded) → 0xC2 ≤ b → b ≤ 0xF4 → second_of b c ≡ false → read ≡ bad 1 → Same b (c ∷ bytes) read
same_broken b c bytes read low high outside e =
    let some = some_behind b low in
    let none : 0 == length (second b ∷ some.0) ≡ false = grind (arith, nat_tests) in
    same_by b (c ∷ bytes) (second b ∷ some.0) 0 read (bad 1) (lead b low high) some.1 (fits_not (second b) some.0 c bytes (second_same b c ∙ outside)) refl none e

same_two : (b c : ℕ) (bytes : List ℕ) (code : ℕ) (read : Decoded) → 0xC2 ≤ b → b < 0xE0 → second_of b c ≡ true → read ≡ good code 2 → Same b (c ∷ bytes) read
same_two b c bytes code read low high inside e =
    same_by b (c ∷ bytes) (second b ∷ []) 1 read (good code 2) (lead b low (omega arith)) (two_behind b (omega arith) high) (fits (second b) [] c bytes (second_same b c ∙ inside)) refl refl e

-- three bytes and more: the third ends it
same_third : (b c d : ℕ) (bytes : List ℕ) (read : Decoded) → 0xE0 ≤ b → b ≤ 0xF4 → second_of b c ≡ true → continues d ≡ false → read ≡ bad 2 → Same b (c ∷ d ∷ bytes) read
same_third b c d bytes read low high inside outside e =
    let begins = lead b (omega arith) high in
    let one = λ (ranges : List Range). fits (second b) (later ∷ ranges) c (d ∷ bytes) (second_same b c ∙ inside) ∙ ap suc (fits_not later ranges d bytes (later_same d ∙ outside)) in
    elim (cases_lt b 0xF0) [
      | inl three ↦ same_by b (c ∷ d ∷ bytes) (second b ∷ later ∷ []) 1 read (bad 2) begins (three_behind b low three) (one []) refl refl e
      | inr four ↦ same_by b (c ∷ d ∷ bytes) (second b ∷ later ∷ later ∷ []) 1 read (bad 2) begins (four_behind b four) (one (later ∷ [])) refl refl e
    ]

same_three : (b c d : ℕ) (bytes : List ℕ) (code : ℕ) (read : Decoded) → 0xE0 ≤ b → b < 0xF0 → second_of b c ≡ true → continues d ≡ true → read ≡ good code 3 → Same b (c ∷ d ∷ bytes) read
same_three b c d bytes code read low high inside more e =
    same_by b (c ∷ d ∷ bytes) (second b ∷ later ∷ []) 2 read (good code 3) (lead b (omega arith) (omega arith)) (three_behind b low high)
    (fits (second b) (later ∷ []) c (d ∷ bytes) (second_same b c ∙ inside) ∙ ap suc (fits later [] d bytes (later_same d ∙ more))) refl refl e

-- a first byte of four, and what goes on with it
four_by : (b c d : ℕ) (bytes : List ℕ) (k : ℕ) (read given : Decoded) → 0xF0 ≤ b → b ≤ 0xF4 → second_of b c ≡ true → continues d ≡ true
    → fitting (later ∷ []) bytes ≡ k → 3 + k ≡ given.size → (2 + k == 3) ≡ is_some given.char → read ≡ given → Same b (c ∷ d ∷ bytes) read
four_by b c d bytes k read given low high inside more fit size whole e =
    let two : 2 + k ≡ suc (suc k) = omega arith in
    same_by b (c ∷ d ∷ bytes) (second b ∷ later ∷ later ∷ []) (2 + k) read given (lead b (omega arith) high) (four_behind b low)
    (fits (second b) (later ∷ later ∷ []) c (d ∷ bytes) (second_same b c ∙ inside) ∙ ap suc (fits later (later ∷ []) d bytes (later_same d ∙ more) ∙ ap suc fit) ∙ sym two)
    (omega arith) whole e

same_2 : (b c d : ℕ) → Same b (c ∷ d ∷ []) (decoded (b ∷ c ∷ d ∷ []))
same_2 b c d =
    by-shape 3 b c d 0
    (λ h. absurd (omega arith))
    (λ h. same_ascii b _ _ h.1 h.2)
    (λ h. same_none b _ _ (grind (arith, nat_tests)) h.3)
    (λ h. same_none b _ _ (grind (arith, nat_tests)) h.2)
    (λ h. absurd (omega arith))
    (λ h. same_broken b c _ _ h.1 h.2 h.3 h.4)
    (λ h. same_two b c _ _ _ h.1 h.2 h.3 h.4)
    (λ h. absurd (omega arith))
    (λ h. same_third b c d _ _ h.1 h.2 h.3 h.4 h.5)
    (λ h. same_three b c d _ _ _ h.1 h.2 h.3 h.4 h.5)
    (λ h. four_by b c d [] 0 _ _ h.1 h.2 h.3 h.4 refl refl refl h.6)
    (λ h. absurd (omega arith))
    (λ h. absurd (omega arith))

same_more : (b c d e : ℕ) (rest : List ℕ) → Same b (c ∷ d ∷ e ∷ rest) (decoded (b ∷ c ∷ d ∷ e ∷ rest))
same_more b c d e rest =
    by-shape (length (b ∷ c ∷ d ∷ e ∷ rest)) b c d e
    (λ h. absurd (omega arith))
    (λ h. same_ascii b _ _ h.1 h.2)
    (λ h. same_none b _ _ (grind (arith, nat_tests)) h.3)
    (λ h. same_none b _ _ (grind (arith, nat_tests)) h.2)
    (λ h. absurd (omega arith))
    (λ h. same_broken b c _ _ h.1 h.2 h.3 h.4)
    (λ h. same_two b c _ _ _ h.1 h.2 h.3 h.4)
    (λ h. absurd (omega arith))
    (λ h. same_third b c d _ _ h.1 h.2 h.3 h.4 h.5)
    (λ h. same_three b c d _ _ _ h.1 h.2 h.3 h.4 h.5)
    (λ h. absurd (omega arith))
    (λ h. four_by b c d (e ∷ rest) 0 _ _ h.1 h.2 h.3 h.4 (fits_not later [] e rest (later_same e ∙ h.5)) refl refl h.6)
    (λ h. four_by b c d (e ∷ rest) 1 _ _ h.1 h.2 h.3 h.4 (fits later [] e rest (later_same e ∙ h.5)) refl refl h.6)

same_piece : (b : ℕ) (rest : List ℕ) → Same b rest (decoded (b ∷ rest))
same_piece b [] = same_0 b
same_piece b (c ∷ []) = same_1 b c
same_piece b (c ∷ d ∷ []) = same_2 b c d
same_piece b (c ∷ d ∷ e ∷ rest) = same_more b c d e rest

-- what stands for a piece is its character, or U+FFFD
piece_by : (b : ℕ) (rest : List ℕ) (char : Option ℕ) → (decoded (b ∷ rest)).char ≡ char → piece b rest ≡ encode_utf8 (or_replacement char)
piece_by b rest None is =
    let whole : is_character b rest ≡ false = (same_piece b rest).whole ∙ ap is_some is in
    cond-false _ _ _ whole ∙ sym replacement_bytes
piece_by b rest (Some c) is =
    let whole : is_character b rest ≡ true = (same_piece b rest).whole ∙ ap is_some is in
    let spelled = SpellsChar-decoded (b ∷ rest) c is in
    let size = (decoded (b ∷ rest)).size in
    cond-true _ _ _ whole
    ∙ ap (λ n. take n (b ∷ rest)) ((same_piece b rest).size ∙ sym spelled.width)
    ∙ ap (take (length (encode_utf8 c))) spelled.bytes
    ∙ take-append_seam (encode_utf8 c) (drop size (b ∷ rest))

within_same : (pieces : ℕ) (bytes : List ℕ) → length bytes ≤ pieces → text_within pieces bytes ≡ encode_utf8_all (lossy_chars bytes)
within_same zero [] short = sym (ap encode_utf8_all lossy_chars-nil)
within_same zero (b ∷ rest) short = absurd (omega arith)
within_same (suc pieces) [] short = sym (ap encode_utf8_all lossy_chars-nil)
within_same (suc pieces) (b ∷ rest) short =
    let all = b ∷ rest in
    let read = decoded all in
    let shorter : length (drop read.size all) ≤ pieces = omega (arith, (piece-bounds all (omega arith)).0, length-drop read.size all) in
    ap (λ t. t ++ text_within pieces (drop (piece_length b rest) all)) (piece_by b rest read.char refl)
    ∙ ap (λ n. encode_utf8 (or_replacement read.char) ++ text_within pieces (drop n all)) (same_piece b rest).size
    ∙ ap (λ t. encode_utf8 (or_replacement read.char) ++ t) (within_same pieces (drop read.size all) shorter)
    ∙ sym (ap encode_utf8_all (lossy_chars-step all (omega arith)))

pub lossy_same : (bytes : List ℕ) → utf8_lossy bytes ≡ text_of bytes
unfolding text_of
lossy_same bytes = sym (within_same (length bytes) bytes (omega arith) ∙ lossy_chars-utf8_lossy bytes)

pub text_of-utf8 : (bytes : List ℕ) → IsUtf8 bytes → text_of bytes ≡ bytes
text_of-utf8 bytes utf8 = sym (lossy_same bytes) ∙ utf8_lossy-IsUtf8 bytes utf8
