-- The paths that the last scan skipped (this project's profile): a set of pairs of a path and a reason, reported in byte
-- order of the paths and then of the reasons, so that a path is reported once for each of its reasons.
use Rattle.std.specs.Prelude.{ℕ, List, All, Contains, codes}
use Rattle.std.specs.List.Sorted.{IsStrictlySortedBy}
use Rattle.std.specs.Ordering.{ordering_then}
use Rattle.std.specs.declared.cmp.Ordering.{Ordering}
use Rattle.wire_base.specs.KeyOrder.{compare}
use Rattle.report.specs.declared.passing.Passing.{Passing}
use Rattle.report.specs.declared.passing.Why.{Why}
use Rattle.report.specs.declared.passing.Why.TheVariants.{Doubled, Gone, Moved, Old, Small}

abbrev pub why_text : Why → List ℕ
why_text Doubled = codes "doubled"
why_text Gone = codes "gone"
why_text Moved = codes "moved"
why_text Old = codes "old"
why_text Small = codes "small"

-- byte order of the paths, and for one path of the reasons
abbrev pub compare_passings : Passing → Passing → Ordering
compare_passings one other = ordering_then (compare one.path other.path) (compare (why_text one.why) (why_text other.why))

-- the skipped paths of `passed`, each once and in order
pub record ArePassings (passed ordered : List Passing) : Type 0 where
  pub in_order : IsStrictlySortedBy compare_passings ordered
  pub each : All (Contains passed) ordered
  pub every : All (Contains ordered) passed
