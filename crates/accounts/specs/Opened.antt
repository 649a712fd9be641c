-- A tail that was opened to be followed (this project's profile): with what its harvester began, by the rule of which input, at
-- which place of the folder's list, which file that found, and what its tail reported as it was asked for its key.
use Rattle.std.specs.Prelude.{◌≡◌, ℕ, List}
use Rattle.event_tree.specs.declared.input_rule.InputRule.{InputRule}
use Rattle.outside.specs.Files.{File}
use Rattle.outside.specs.Tails.{TailHistory}
use Rattle.outside.specs.declared.history.Look.{Look}
use Rattle.outside.specs.declared.history.Sight.{Sight}
use Rattle.wire_base.specs.declared.note.Begin.{Begin}

pub record Opened : Type 0 where
  -- with its slot and the number of its input
  pub begin : Begin
  pub rule : InputRule
  pub opening : ℕ
  -- the number of its file, what was there of it then, and its lives
  pub number : ℕ
  pub begun : Sight
  pub file : File
  -- before its harvester had it; none if the key is not asked of the open file
  pub asked : List Look

-- the tail reports that it is this one
pub record IsTailOf (opened : Opened) (told : TailHistory) : Type 0 where
  pub opening : told.opening ≡ opened.opening
  pub number : told.number ≡ opened.number
  pub begun : told.begun ≡ opened.begun
  pub file : told.file ≡ opened.file
