-- Bytes as text (the Unicode Standard: table 3-7 and the replacement of maximal subparts). At each place, if the
-- bytes begin a well-formed character, it is taken; else the longest front that some character begins with, or one byte
-- if there is none, is replaced by U+FFFD.
use Rattle.std.specs.Prelude.{ℕ, zero, suc, Bool, true, ◌&&◌, ◌==◌, nat_lt, nat_le, if◌then◌else◌, List, [], ◌∷◌, ◌++◌, length, take, drop}

-- the bytes from the first up to the second, both included
abbrev pub Range : Type 0
Range = ℕ × ℕ

abbrev pub lies_in : Range → ℕ → Bool
lies_in range byte = nat_le range.0 byte && nat_le byte range.1

-- any byte that goes on with a character
abbrev pub later : Range
later = (0x80, 0xBF)

-- the byte after the first one; after four first bytes the table allows fewer
abbrev pub second : ℕ → Range
second first =
    if first == 0xE0 then (0xA0, 0xBF)
    else (if first == 0xED then (0x80, 0x9F)
    else (if first == 0xF0 then (0x90, 0xBF)
    else (if first == 0xF4 then (0x80, 0x8F) else later)))

-- the bytes that go on with a character, by its first byte
abbrev pub behind : ℕ → List Range
behind first =
    if nat_lt first 0x80 then []
    else (if nat_lt first 0xE0 then second first ∷ []
    else (if nat_lt first 0xF0 then second first ∷ later ∷ [] else second first ∷ later ∷ later ∷ []))

-- a character may begin with the byte
abbrev pub is_first : ℕ → Bool
is_first byte = if nat_lt byte 0x80 then true else lies_in (0xC2, 0xF4) byte

-- how many bytes, from the front on, lie each in its range
abbrev pub fitting : List Range → List ℕ → ℕ
fitting [] bytes = 0
fitting (range ∷ ranges) [] = 0
fitting (range ∷ ranges) (byte ∷ bytes) = if lies_in range byte then suc (fitting ranges bytes) else 0

-- how many bytes one character, or one U+FFFD, stands for
abbrev pub piece_length : ℕ → List ℕ → ℕ
piece_length first rest = if is_first first then suc (fitting (behind first) rest) else 1

-- a whole character
abbrev pub is_character : ℕ → List ℕ → Bool
is_character first rest = is_first first && (fitting (behind first) rest == length (behind first))

-- U+FFFD
abbrev pub replacement : List ℕ
replacement = 0xEF ∷ 0xBF ∷ 0xBD ∷ []

-- what is in the text for the bytes before it
abbrev pub piece : ℕ → List ℕ → List ℕ
piece first rest = if is_character first rest then take (piece_length first rest) (first ∷ rest) else replacement

-- the text of at most this many pieces
abbrev pub text_within : ℕ → List ℕ → List ℕ
text_within zero bytes = []
text_within (suc pieces) [] = []
text_within (suc pieces) (first ∷ rest) = piece first rest ++ text_within pieces (drop (piece_length first rest) (first ∷ rest))

-- the text of all the bytes; each piece has at least one
unfoldable pub text_of : List ℕ → List ℕ
text_of bytes = text_within (length bytes) bytes
