-- What a tail reported by paths that the run shows.
use Rattle.std.proofs.Common.{ℕ, ◌+◌, List, [], ◌∷◌}
use Rattle.std.specs.List.{AllByRecursion}
use Rattle.event_tree.specs.declared.group_rule.GroupRule.{GroupRule}
use Rattle.file_looks.specs.Segment.{Segment}
use Rattle.harvester.specs.History.{Telling}
use Rattle.kept_rows.specs.Account.{SlotAccount}
use Rattle.kept_rows.specs.Run.{Run}
use Rattle.slot_parts.specs.Account.{IsShownBy, IsShownPart}
use Rattle.slot_parts.specs.Tellings.{parts_of, untold_parts}

module _ (run : Run) (one : SlotAccount) (opening : ℕ) where
  untold_shown : (before : ℕ) (segments : List Segment) → AllByRecursion (IsShownPart run one) (untold_parts opening before segments)
  untold_shown before [] = tt
  untold_shown before (segment ∷ segments) = (tt, untold_shown (before + 1) segments)

  pub parts_shown : (rule : GroupRule) (before : ℕ) (tellings : List Telling) (segments : List Segment) →
      AllByRecursion (λ (telling : Telling). AllByRecursion (IsShownBy run one opening) telling.told) tellings →
      AllByRecursion (IsShownPart run one) (parts_of opening rule before tellings segments)
  parts_shown rule before [] segments by = untold_shown before segments
  parts_shown rule before (telling ∷ tellings) [] by = tt
  parts_shown rule before (telling ∷ tellings) (segment ∷ segments) by = (by.0, parts_shown rule telling.epoch tellings segments by.1)
