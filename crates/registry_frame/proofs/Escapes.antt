-- What `serde_json` writes for a text, and how long it may be.
use Rattle.std.proofs.Common.{◌≡◌, ℕ, ◌+◌, ◌*◌, ◌≤◌, List, [], ◌∷◌, ◌++◌, length, refl, ap, ◌∙◌, arith, Some, length-append}
use Rattle.std.specs.Prelude.{flat_map}
use Rattle.std.proofs.lemmas.Bool.Decides.{nat_tests}
use Rattle.json.specs.Print.{escape_byte}
use Rattle.serde.specs.Event as event
use Rattle.serde.specs.Event.{Log, Logs}
use Rattle.serde_json.specs.Sent.{IsTextOf}
use Rattle.serde_json.proofs.FreeTexts.{text_of_str}
use Rattle.event_json.specs.Json.{escape, quoted}

escape_same : (byte : ℕ) → escape_byte byte ≡ escape byte
unfolding escape escape_byte
escape_same byte = grind (arith, nat_tests)

escapes_same : (text : List ℕ) → flat_map escape_byte text ≡ flat_map escape text
escapes_same [] = refl
escapes_same (byte ∷ text) = λ i. escape_same byte i ++ escapes_same text i

-- `json` and this repository have one escape for each byte
pub quoted_same : (text : List ℕ) → 0x22 ∷ (flat_map escape_byte text ++ 0x22 ∷ []) ≡ quoted text
quoted_same text = ap (λ (t : List ℕ). 0x22 ∷ (t ++ 0x22 ∷ [])) (escapes_same text)

pub text_quoted : (text : List ℕ) (log : Log) (written : List ℕ) → Logs (Some []) log (event.text text) → IsTextOf log written → written ≡ quoted text
text_quoted text log written sent printed =
    text_of_str text log written sent printed ∙ quoted_same text

escape_short : (byte : ℕ) → length (escape byte) ≤ 6
unfolding escape
escape_short byte = grind (arith, nat_tests)

escapes_short : (text : List ℕ) → length (flat_map escape text) ≤ 6 * length text
escapes_short [] = omega arith
escapes_short (byte ∷ text) =
    simp length-append (omega (arith, escape_short byte, escapes_short text))

pub quoted_short : (text : List ℕ) → length (quoted text) ≤ 6 * length text + 2
quoted_short text = simp length-append (omega (arith, escapes_short text))
