-- How the signs of a text begin.
use Rattle.std.proofs.Common.{◌≡◌, ◌≢◌, ℕ, ◌+◌, List, [], ◌∷◌, ◌++◌, length, length-append, refl, ap, ◌∙◌, eqb, false, arith}
use Rattle.std.proofs.lemmas.Bool.Decides.{nat_tests}
use Rattle.std.proofs.lemmas.Str.{chars-nil, length-encode}
use Rattle.std.specs.Char.{len_utf8, encode_utf8}
use Rattle.std.specs.Str.{chars}
use Rattle.glob_paths.specs.declared.sign.Sign.{Sign}
use Rattle.glob_paths.specs.Sign.{bare, signs_of, signs}

-- a character that is no backslash is a sign of its own
pub plain_first : (code : ℕ) (codes : List ℕ) → eqb code 92 ≡ false → signs_of (code ∷ codes) ≡ bare code ∷ signs_of codes
plain_first code [] other = refl
plain_first code (next ∷ codes) other = rw other refl

pub signs_nil : signs [] ≡ []
unfolding signs
signs_nil = rw chars-nil refl

pub signs_plain : (text rest : List ℕ) (code : ℕ) → chars text ≡ code ∷ chars rest → code ≢ 92 → signs text ≡ bare code ∷ signs rest
unfolding signs
signs_plain text rest code first other =
    let apart : eqb code 92 ≡ false = grind (arith, nat_tests) in
    rw first (plain_first code (chars rest) apart)

pub signs_backslash : (text rest behind : List ℕ) (code : ℕ) (sign : Sign) → chars text ≡ code ∷ chars rest → code ≡ 92 → signs_of (92 ∷ chars rest) ≡ sign ∷ signs behind → signs text ≡ sign ∷ signs behind
unfolding signs
signs_backslash text rest behind code sign first is begins = ap signs_of first ∙ ap (λ c. signs_of (c ∷ chars rest)) is ∙ begins

pub chars_empty : (text : List ℕ) → length text ≡ 0 → chars text ≡ []
chars_empty [] none = chars-nil
chars_empty (byte ∷ bytes) none = absurd (omega arith)

pub signs_none : (text : List ℕ) → chars text ≡ [] → signs text ≡ []
unfolding signs
signs_none text none = rw none refl

-- the places of a first character
pub places_of : (text rest : List ℕ) (code : ℕ) → text ≡ encode_utf8 code ++ rest → length text ≡ len_utf8 code + length rest
places_of text rest code spelled = ap length spelled ∙ length-append (encode_utf8 code) rest ∙ ap (λ n. n + length rest) (length-encode code)
