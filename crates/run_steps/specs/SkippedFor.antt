-- Why a listed file is skipped as it is opened (Filebeat reference, filestream input, file identity; this project's profile): nothing has its
-- path, or the file that is there gives another key than the listed one, or has too few bytes for its fingerprint.
use Rattle.std.specs.Prelude.{◌≡◌, ◌≢◌, ℕ, List, slice_get, Option, None, Some}
use Rattle.event_tree.specs.declared.input_rule.InputRule.{InputRule}
use Rattle.file_identity.specs.Answers.{IsFingerprint}
use Rattle.kept_rows.specs.Scans.{GaveByTail}
use Rattle.kept_rows.specs.Trace.{Trace, WasGone}
use Rattle.prospect.specs.declared.listed.Listed.{Listed}
use Rattle.report.specs.declared.passing.Why.{Why}
use Rattle.report.specs.declared.passing.Why.TheVariants.{Doubled, Gone, Moved, Old, Small}

module _ (inputs : List InputRule) (trace : Trace) (one : Listed) (opening : ℕ) where
  -- the tail that was opened there by its path gave this key, or none, by the rule of its input
  pub record GaveAsOpened (key : Option (List ℕ)) : Type 0 where
    pub rule : InputRule
    pub rule_is : slice_get inputs one.input ≡ Some rule
    pub number : ℕ
    pub gave : GaveByTail trace rule one.path opening key number

  -- another key than it was listed with
  pub record WasMoved : Type 0 where
    pub other : List ℕ
    pub opened : GaveAsOpened (Some other)
    pub other_key : one.key ≢ Some other

  -- none, since not all bytes of its fingerprint were there
  pub record WasTooSmall : Type 0 where
    pub opened : GaveAsOpened None
    pub by_bytes : IsFingerprint opened.rule.file_identity

  -- what its opening at this place of the folder's list showed is this reason
  abbrev pub IsSkippedFor : Why → Type 0
  IsSkippedFor Gone = WasGone trace opening one.path
  IsSkippedFor Moved = WasMoved
  IsSkippedFor Small = WasTooSmall
  IsSkippedFor Doubled = ⊥
  IsSkippedFor Old = ⊥
