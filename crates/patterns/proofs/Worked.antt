-- Worked values of patterns and of what they match, computed by the definitions.
use Rattle.std.proofs.Common.{◌≡◌, ℕ, true, false, List, [], ◌∷◌, refl, codes}
use Rattle.regex_hir.specs.Find.{find, find_str, first_from}
use Rattle.regex_hir.specs.Looks.{holds, holds_between}
use Rattle.regex_hir.specs.Re.{attempt}
use Rattle.regex_hir.specs.Text.{byte_before, has_bytes_at, is_boundary}
use Rattle.regex.specs.Patterns.{in_range, in_ranges}
use Rattle.regex_syntax.proofs.Written.{grammar}
use Rattle.patterns.specs.Matching.{matches, matches_text}
use Rattle.patterns.specs.Pattern.{is_pattern, is_line_pattern, is_text_pattern}

bracket_is_one : is_line_pattern (codes "^\\[") ≡ true
unfolding grammar is_pattern
bracket_is_one = refl

open_class_is_none : is_line_pattern (codes "[") ≡ false
unfolding grammar is_pattern
open_class_is_none = refl

-- a byte that is no character is one for lines alone
byte_of_lines : is_line_pattern (codes "(?-u)\\xff") ≡ true
unfolding grammar is_pattern
byte_of_lines = refl

no_byte_of_texts : is_text_pattern (codes "(?-u)\\xff") ≡ false
unfolding grammar is_pattern
no_byte_of_texts = refl

pub bracket_begins : matches (codes "^\\[") (codes "[1") ≡ true
unfolding grammar find first_from attempt holds holds_between byte_before has_bytes_at in_range in_ranges
bracket_begins = refl

pub bracket_does_not_begin : matches (codes "^\\[") (codes " x") ≡ false
unfolding grammar find first_from attempt holds holds_between byte_before has_bytes_at in_range in_ranges
bracket_does_not_begin = refl

pub backslash_ends : matches (codes "\\\\$") (codes "a\\") ≡ true
unfolding grammar find first_from attempt holds holds_between byte_before has_bytes_at in_range in_ranges
backslash_ends = refl

pub letter_ends : matches (codes "\\\\$") (codes "b") ≡ false
unfolding grammar find first_from attempt holds holds_between byte_before has_bytes_at in_range in_ranges
letter_ends = refl

-- `a`, `é` and `a`: between two bytes that are in no word there is only the inside of a character
abbrev accented : List ℕ
accented = 97 ∷ 0xC3 ∷ 0xA9 ∷ 97 ∷ []

inside_for_lines : matches (codes "(?-u:\\B)") accented ≡ true
unfolding grammar find first_from attempt holds holds_between byte_before has_bytes_at in_range in_ranges
inside_for_lines = refl

not_inside_for_texts : matches_text (codes "(?-u:\\B)") accented ≡ false
unfolding grammar find_str first_from attempt holds holds_between byte_before has_bytes_at is_boundary in_range in_ranges
not_inside_for_texts = refl
