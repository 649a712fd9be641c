-- The first rules by which an event is dropped (Filebeat reference, filestream input, `include_lines` and
-- `exclude_lines`; that a message without a byte is dropped, and the rules' numbers, are this project's profile).
-- Patterns are matched on the message's bytes.
use Rattle.std.specs.Prelude.{ℕ, Bool, false, not, List, [], ◌∷◌, Option, Some, None, if◌then◌else◌}
use Rattle.std.specs.List.{list_any}
use Rattle.patterns.specs.Matching.{matches}

-- some pattern matches the message
abbrev pub is_matched : List (List ℕ) → List ℕ → Bool
is_matched patterns message = list_any (λ pattern. matches pattern message) patterns

-- there are patterns, and none of them matches
abbrev pub is_not_included : List (List ℕ) → List ℕ → Bool
is_not_included [] message = false
is_not_included (pattern ∷ patterns) message = not (is_matched (pattern ∷ patterns) message)

-- the number of the rule that drops the message: 0 if it has no byte; else 1 if there are patterns to include and
-- none of them matches; else 2 if some pattern to exclude matches. None if it is kept
unfoldable pub verdict_of : List (List ℕ) → List (List ℕ) → List ℕ → Option ℕ
verdict_of include exclude [] = Some 0
verdict_of include exclude (byte ∷ bytes) =
    if is_not_included include (byte ∷ bytes) then Some 1
    else if is_matched exclude (byte ∷ bytes) then Some 2
    else None
