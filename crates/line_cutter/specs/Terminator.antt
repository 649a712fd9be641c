-- What ends a line (Filebeat reference, filestream input, `line_terminator`): a line feed for `auto` and `line_feed`, a
-- carriage return and a line feed for `carriage_return_line_feed`, the byte 0 for `null_terminator`.
use Rattle.std.specs.Prelude.{◌≡◌, ℕ, List, [], ◌∷◌, length, take, drop}
use Rattle.event_tree.specs.declared.line_rule.Terminator.{Terminator}
use Rattle.event_tree.specs.declared.line_rule.Terminator.TheVariants.{Auto, LineFeed, CarriageReturnLineFeed, NullTerminator}

abbrev pub terminator_of : Terminator → List ℕ
terminator_of Auto = 10 ∷ []
terminator_of LineFeed = 10 ∷ []
terminator_of CarriageReturnLineFeed = 13 ∷ 10 ∷ []
terminator_of NullTerminator = 0 ∷ []

-- the bytes of the terminator are in these bytes from the place on
abbrev pub StandsAt : List ℕ → List ℕ → ℕ → Type 0
StandsAt terminator bytes place = take (length terminator) (drop place bytes) ≡ terminator
