-- Whether a line continues an event, and whether it ends one (Filebeat reference, multiline: `pattern`, `negate`,
-- `flush_pattern`): patterns see the head of a line; whether one matches is turned round by `negate`.
use Rattle.std.specs.Prelude.{◌≡◌, ℕ, Bool, true, false, not, List, Option, Some, None, if◌then◌else◌}
use Rattle.std.specs.List.{AllByRecursion}
use Rattle.line_cutter.specs.declared.line.Line.{Line}
use Rattle.patterns.specs.Matching.{matches}

abbrev pub continues : List ℕ → Bool → Line → Bool
continues pattern negate line = if negate then not (matches pattern line.head) else matches pattern line.head

abbrev pub flushes : Option (List ℕ) → Line → Bool
flushes None line = false
flushes (Some pattern) line = matches pattern line.head

abbrev pub AllContinue : List ℕ → Bool → List Line → Type 0
AllContinue pattern negate lines = AllByRecursion (λ line. continues pattern negate line ≡ true) lines
