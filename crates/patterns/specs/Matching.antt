-- Whether a pattern matches somewhere: one of lines in bytes of any kind, one of texts in a text, where no match starts
-- inside a character (Filebeat reference, regular expressions; the grammar and what it means are those of Rust's crate
-- `regex`). A text that is no pattern matches nothing.
use Rattle.std.specs.Prelude.{ℕ, Bool, false, List, Option, Some, None, IsSomeAnd, is_some}
use Rattle.std.specs.Str.{chars}
use Rattle.regex_hir.specs.Re.{Re}
use Rattle.regex_hir.specs.Find.{find, find_str}
use Rattle.regex_syntax.specs.Brackets.{Nested}
use Rattle.regex_syntax.specs.Captures.{SameCaptures}
use Rattle.regex_syntax.specs.Grammar.{Names, read}
use Rattle.regex_syntax.specs.declared.Config.{Config}
use Rattle.patterns.specs.Pattern.{line_config, text_config}

-- the tree is found somewhere in the bytes
abbrev pub is_found : Re → List ℕ → Bool
is_found tree bytes = is_some (find tree bytes 0)

-- the tree is found somewhere in the text
abbrev pub is_found_in_text : Re → List ℕ → Bool
is_found_in_text tree text = is_some (find_str tree text 0)

-- the same of what the grammar read
abbrev pub finds : (Re → List ℕ → Bool) → Option (Nested Re × Names) → List ℕ → Bool
finds is_there None bytes = false
finds is_there (Some (pattern, names)) bytes = is_there pattern.value bytes

-- the pattern of lines matches somewhere in the bytes
abbrev pub matches : List ℕ → List ℕ → Bool
matches pattern bytes = finds is_found (read line_config (chars pattern)) bytes

-- the pattern of texts matches somewhere in the text
abbrev pub matches_text : List ℕ → List ℕ → Bool
matches_text pattern text = finds is_found_in_text (read text_config (chars pattern)) text

-- the tree matches as what the grammar reads in the pattern
abbrev pub IsReadAs : Config → List ℕ → Re → Type 0
IsReadAs config pattern tree = IsSomeAnd (read config (chars pattern)) (λ (found, names). SameCaptures tree found.value)
