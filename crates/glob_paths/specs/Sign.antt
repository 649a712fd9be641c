-- The characters of a part of a glob, and what a backslash makes of them (Filebeat reference, filestream paths;
-- backslashes are this project's profile): one after a backslash is plain, and a backslash at the end is a sign of its own.
use Rattle.std.specs.Prelude.{ℕ, ◌+◌, Bool, true, false, ◌&&◌, ◌==◌, List, [], ◌∷◌, if◌then◌else◌}
use Rattle.std.specs.Char.{len_utf8}
use Rattle.std.specs.Str.{chars}
use Rattle.glob_paths.specs.declared.sign.Sign.{Sign}

abbrev pub bare : ℕ → Sign
bare code = record { code = code; bare = true }

-- the character after a backslash
abbrev pub kept : ℕ → Sign
kept code = record { code = code; bare = false }

-- it is this character, with its own meaning
abbrev pub is : ℕ → Sign → Bool
is code sign = sign.bare && (sign.code == code)

-- how many bytes of the text it takes
abbrev pub width : Sign → ℕ
width sign = len_utf8 sign.code + (if sign.bare then 0 else 1)

-- the signs of these characters; 92 is the backslash
abbrev pub signs_of : List ℕ → List Sign
signs_of [] = []
signs_of (code ∷ []) = bare code ∷ []
signs_of (code ∷ next ∷ codes) = if code == 92 then kept next ∷ signs_of codes else bare code ∷ signs_of (next ∷ codes)

-- the signs of a text
unfoldable pub signs : List ℕ → List Sign
signs text = signs_of (chars text)
