-- Worked verdicts, computed by the definitions.
use Rattle.std.proofs.Common.{◌≡◌, [], ◌∷◌, Some, None, codes, refl}
use Rattle.regex.specs.Patterns.{in_range, in_ranges}
use Rattle.regex_hir.specs.Find.{find, first_from}
use Rattle.regex_hir.specs.Looks.{holds, holds_between}
use Rattle.regex_hir.specs.Re.{attempt}
use Rattle.regex_hir.specs.Text.{byte_before, has_bytes_at}
use Rattle.regex_syntax.proofs.Written.{grammar}
use Rattle.line_filter.specs.Verdict.{verdict_of}

-- a message without a byte is dropped by rule 0, whatever there is to include or to exclude
empty_message_is_dropped : verdict_of [] [] [] ≡ Some 0
unfolding verdict_of
empty_message_is_dropped = refl

empty_before_excluded : verdict_of (codes "a" ∷ []) (codes "^$" ∷ []) [] ≡ Some 0
unfolding verdict_of
empty_before_excluded = refl

-- without patterns each other message is kept
kept_without_patterns : verdict_of [] [] (codes "a") ≡ None
unfolding verdict_of
kept_without_patterns = refl

-- a pattern that matches everywhere excludes all lines
all_excluded : verdict_of [] (codes "^" ∷ []) (codes "a") ≡ Some 2
unfolding verdict_of grammar find first_from attempt holds holds_between byte_before has_bytes_at in_range in_ranges
all_excluded = refl

-- of the patterns to include one is enough
second_includes : verdict_of (codes "a" ∷ codes "b" ∷ []) [] (codes "cb") ≡ None
unfolding verdict_of grammar find first_from attempt holds holds_between byte_before has_bytes_at in_range in_ranges
second_includes = refl

none_includes : verdict_of (codes "a" ∷ codes "b" ∷ []) [] (codes "c") ≡ Some 1
unfolding verdict_of grammar find first_from attempt holds holds_between byte_before has_bytes_at in_range in_ranges
none_includes = refl

-- what is to include is asked before what is to exclude
include_before_exclude : verdict_of (codes "a" ∷ []) (codes "b" ∷ []) (codes "b") ≡ Some 1
unfolding verdict_of grammar find first_from attempt holds holds_between byte_before has_bytes_at in_range in_ranges
include_before_exclude = refl

included_and_excluded : verdict_of (codes "a" ∷ []) (codes "b" ∷ []) (codes "ab") ≡ Some 2
unfolding verdict_of grammar find first_from attempt holds holds_between byte_before has_bytes_at in_range in_ranges
included_and_excluded = refl

-- a byte that is no character
byte_excluded : verdict_of [] (codes "(?-u)\\xff" ∷ []) (97 ∷ 0xFF ∷ []) ≡ Some 2
unfolding verdict_of grammar find first_from attempt holds holds_between byte_before has_bytes_at in_range in_ranges
byte_excluded = refl
