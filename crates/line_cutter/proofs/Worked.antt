-- The worked values of complete lines, computed by the definition.
use Rattle.std.proofs.Common.{◌≡◌, ℕ, List, [], ◌∷◌, refl}
use Rattle.event_tree.specs.declared.line_rule.LineRule.{LineRule}
use Rattle.event_tree.specs.declared.line_rule.Terminator.{Terminator}
use Rattle.event_tree.specs.declared.line_rule.Terminator.TheVariants.{Auto, LineFeed, CarriageReturnLineFeed, NullTerminator}
use Rattle.line_cutter.specs.declared.line.Line.{Line}
use Rattle.line_cutter.specs.Lines.{complete_lines, unended}

abbrev keeping : Terminator → ℕ → LineRule
keeping terminator bytes = record { terminator = terminator; message_max_bytes = bytes }

abbrev from_to : ℕ → ℕ → List ℕ → ℕ → Line
from_to start end head full = record { span = record { start = start; end = end }; head = head; full = full }

-- `a b` with the return of `auto` left out, and a return within the content
carriage_return : complete_lines (keeping Auto 10485760) 0 (97 ∷ 13 ∷ 10 ∷ []) ≡ from_to 0 3 (97 ∷ []) 1 ∷ []
carriage_return = refl

return_within : complete_lines (keeping Auto 10485760) 0 (97 ∷ 13 ∷ 98 ∷ 10 ∷ []) ≡ from_to 0 4 (97 ∷ 13 ∷ 98 ∷ []) 3 ∷ []
return_within = refl

-- one return alone is left out, before the head is cut
one_return : complete_lines (keeping Auto 2) 7 (97 ∷ 13 ∷ 13 ∷ 10 ∷ []) ≡ from_to 7 11 (97 ∷ 13 ∷ []) 2 ∷ []
one_return = refl

return_behind_the_head : complete_lines (keeping Auto 1) 0 (97 ∷ 13 ∷ 10 ∷ []) ≡ from_to 0 3 (97 ∷ []) 1 ∷ []
return_behind_the_head = refl

unterminated_rest_waits : complete_lines (keeping Auto 10485760) 0 (97 ∷ 10 ∷ 98 ∷ []) ≡ from_to 0 2 (97 ∷ []) 1 ∷ []
unterminated_rest_waits = refl

rest_waits : unended (keeping Auto 10485760) (97 ∷ 10 ∷ 98 ∷ []) ≡ 98 ∷ []
rest_waits = refl

-- both bytes are wanted; the content may hold each alone
both_bytes : complete_lines (keeping CarriageReturnLineFeed 10485760) 0 (10 ∷ 13 ∷ 13 ∷ 10 ∷ 98 ∷ 13 ∷ []) ≡
    from_to 0 4 (10 ∷ 13 ∷ []) 2 ∷ []
both_bytes = refl

zero_byte : complete_lines (keeping NullTerminator 10485760) 0 (13 ∷ 10 ∷ 0 ∷ 0 ∷ []) ≡
    from_to 0 3 (13 ∷ 10 ∷ []) 2 ∷ from_to 3 4 [] 0 ∷ []
zero_byte = refl

return_kept : complete_lines (keeping LineFeed 10485760) 0 (97 ∷ 13 ∷ 10 ∷ []) ≡ from_to 0 3 (97 ∷ 13 ∷ []) 2 ∷ []
return_kept = refl

empty_lines_are_lines : complete_lines (keeping Auto 10485760) 0 (10 ∷ 10 ∷ 120 ∷ 10 ∷ []) ≡
    from_to 0 1 [] 0 ∷ from_to 1 2 [] 0 ∷ from_to 2 4 (120 ∷ []) 1 ∷ []
empty_lines_are_lines = refl
