-- A pattern: a text that the grammar of the regular expressions reads, nested no deeper than its limit. A pattern of lines
-- may match any bytes, one of texts whole characters (the syntax is that of Rust's crate `regex`).
use Rattle.std.specs.Prelude.{ℕ, Bool, false, nat_le, List, Option, Some, None, IsTrue, chars}
use Rattle.regex_hir.specs.Re.{Re}
use Rattle.regex_syntax.specs.Brackets.{Nested}
use Rattle.regex_syntax.specs.Grammar.{Names, read}
use Rattle.regex_syntax.specs.Verdict.{default_config}
use Rattle.regex_syntax.specs.declared.Config.{Config}

-- the options of a pattern of lines
abbrev pub line_config : Config
line_config = record default_config { utf8 = false }

-- the options of a pattern of texts
abbrev pub text_config : Config
text_config = default_config

-- what was read is nested at most so deep
abbrev pub is_within : ℕ → Option (Nested Re × Names) → Bool
is_within limit None = false
is_within limit (Some found) = nat_le found.0.depth limit

-- the grammar reads the text, nested at most as deep as the options allow
unfoldable pub is_pattern : Config → List ℕ → Bool
is_pattern config text = is_within config.nest_limit (read config (chars text))

abbrev pub is_line_pattern : List ℕ → Bool
is_line_pattern text = is_pattern line_config text

abbrev pub is_text_pattern : List ℕ → Bool
is_text_pattern text = is_pattern text_config text

abbrev pub IsLinePattern : List ℕ → Type 0
IsLinePattern text = IsTrue (is_line_pattern text)

abbrev pub IsTextPattern : List ℕ → Type 0
IsTextPattern text = IsTrue (is_text_pattern text)
