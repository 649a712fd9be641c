-- How deep a document nests, found from its bytes before they are read as TOML: each open bracket is a level, and so is each
-- dot of a key (this project's profile; texts and comments by the grammar of TOML 1.0).
use Rattle.std.specs.Prelude.{◌≡◌, ℕ, ◌+◌, zero, suc, Bool, false, ◌==◌, ◌&&◌, ◌||◌, nat_lt, List, [], ◌∷◌, length, sum, slice_index, if◌then◌else◌}
use Rattle.beat_config.specs.declared.nesting.Quote.{Quote}
use Rattle.beat_config.specs.declared.nesting.Quote.TheVariants.{Basic, Literal}
use Rattle.beat_config.specs.declared.nesting.Place.{Place}
use Rattle.beat_config.specs.declared.nesting.Place.TheVariants.{Plain, Comment, Opened, OpenedTwice, Line, LineEscape, Block, BlockEscape}
use Rattle.beat_config.specs.declared.nesting.Levels.{Levels}

-- the byte of a quote
abbrev pub quote_byte : Quote → ℕ
quote_byte Basic = 34
quote_byte Literal = 39

-- a byte outside of texts and comments: `#` begins a comment, a quote opens a text
abbrev pub after_plain : ℕ → Place
after_plain byte =
    if byte == 35 then Comment
    else if byte == 34 then Opened Basic
    else if byte == 39 then Opened Literal
    else Plain

-- a byte within a text of one line, which a second quote ends; in a basic one a backslash takes the next byte's meaning
abbrev pub after_in_line : Quote → ℕ → Place
after_in_line Basic byte = if byte == 34 then Plain else if byte == 92 then LineEscape else Line Basic
after_in_line Literal byte = if byte == 39 then Plain else Line Literal

-- a byte within a text of many lines that is none of its quotes
abbrev pub after_in_block : Quote → ℕ → Place
after_in_block Basic byte = if byte == 92 then BlockEscape else Block Basic 0
after_in_block Literal byte = Block Literal 0

-- a byte after this many quotes in a row within a text of many lines: three end it, and so do four and five, of which the
-- first ones belong to the text
abbrev pub after_quotes : Quote → ℕ → ℕ → Place
after_quotes quote quotes byte =
    if nat_lt quotes 5 && byte == quote_byte quote then Block quote (quotes + 1)
    else if nat_lt quotes 3 then after_in_block quote byte
    else after_plain byte

-- where the bytes end after one more
abbrev pub place_after : Place → ℕ → Place
place_after Plain byte = after_plain byte
place_after Comment byte = if byte == 10 then Plain else Comment
place_after (Opened quote) byte = if byte == quote_byte quote then OpenedTwice quote else after_in_line quote byte
place_after (OpenedTwice quote) byte = if byte == quote_byte quote then Block quote 0 else after_plain byte
place_after (Line quote) byte = after_in_line quote byte
place_after LineEscape byte = Line Basic
place_after (Block quote quotes) byte = after_quotes quote quotes byte
place_after BlockEscape byte = Block Basic 0

-- the dots at a place since its innermost open bracket or the last comma in it, outside of all brackets since the last line
-- feed; and the same of each bracket around, and of what is outside of all, where the next one opened
pub record Nesting : Type 0 where
  pub dots : ℕ
  pub outer : List ℕ

-- the levels at a place: the dots, and the open brackets
abbrev pub level_count : Nesting → ℕ
level_count nesting = nesting.dots + sum nesting.outer + length nesting.outer

abbrev pub no_levels : Nesting
no_levels = record { dots = 0; outer = [] }

abbrev pub after_opening : Nesting → Nesting
after_opening nesting = record { dots = 0; outer = nesting.dots ∷ nesting.outer }

abbrev pub closed_to : ℕ → List ℕ → Nesting
closed_to dots [] = record { dots = dots; outer = [] }
closed_to dots (around ∷ outer) = record { dots = around; outer = outer }

abbrev pub after_closing : Nesting → Nesting
after_closing nesting = closed_to nesting.dots nesting.outer

abbrev pub after_dot : Nesting → Nesting
after_dot nesting = record { dots = nesting.dots + 1; outer = nesting.outer }

abbrev pub after_comma : Nesting → Nesting
after_comma nesting = record { dots = 0; outer = nesting.outer }

abbrev pub dots_after_line_feed : ℕ → List ℕ → ℕ
dots_after_line_feed dots [] = 0
dots_after_line_feed dots (around ∷ outer) = dots

abbrev pub after_line_feed : Nesting → Nesting
after_line_feed nesting = record { dots = dots_after_line_feed nesting.dots nesting.outer; outer = nesting.outer }

-- the levels after a byte outside of texts and comments
abbrev pub after_mark : ℕ → Nesting → Nesting
after_mark byte nesting =
    if byte == 91 || byte == 123 then after_opening nesting
    else if byte == 93 || byte == 125 then after_closing nesting
    else if byte == 46 then after_dot nesting
    else if byte == 44 then after_comma nesting
    else if byte == 10 then after_line_feed nesting
    else nesting

-- the levels after a byte that leads to this place; what ends a comment or a text is a line feed or a quote
abbrev pub nesting_after : Place → ℕ → Nesting → Nesting
nesting_after Plain byte nesting = after_mark byte nesting
nesting_after _ byte nesting = nesting

-- somewhere in the bytes that follow there are more than 80 levels
abbrev pub goes_too_deep : Place → Nesting → List ℕ → Bool
goes_too_deep place nesting [] = false
goes_too_deep place nesting (byte ∷ bytes) =
    let next = place_after place byte in
    let levels = nesting_after next byte nesting in
    nat_lt 80 (level_count levels) || goes_too_deep next levels bytes

-- somewhere in the bytes there are more than 80 levels
abbrev pub nests_too_deep : List ℕ → Bool
nests_too_deep bytes = goes_too_deep Plain no_levels bytes

-- this many of the first numbers, the last of them first
abbrev pub last_first : ℕ → List ℕ → List ℕ
last_first zero numbers = []
last_first (suc count) numbers = slice_index numbers count ∷ last_first count numbers

-- the levels that the pass over the bytes keeps stand for these
abbrev pub nesting_of : Levels → Nesting
nesting_of levels = record { dots = levels.dots; outer = last_first levels.brackets levels.outer }

-- their number is kept beside them
abbrev pub IsCounted : Levels → Type 0
IsCounted levels = levels.count ≡ level_count (nesting_of levels)
