-- For which histories a harvester stands, the looks of its tail included (Filebeat reference, filestream input; this
-- project's profile).
use Rattle.std.specs.Prelude.{◌≡◌, ◌⊎◌, ℕ, List, [], Option, Some, None}
use Rattle.outside.specs.declared.history.Look.{Look}
use Rattle.outside.specs.Tails.{TailHistory}
use Rattle.wire_base.specs.declared.note.Begin.{Begin}
use Rattle.harvester.specs.declared.harvester.Harvester.{Harvester}
use Rattle.harvester.specs.declared.stage.Stage.TheVariants.{Changed, Over}
use Rattle.harvester.specs.Deciding.{Decides}
use Rattle.harvester.specs.History.{History, rules_in}
use Rattle.harvester.specs.Looked.{AreLookedAt}
use Rattle.harvester.specs.Standing.{StandsFor}

pub record HasTold {T : Type 0} (numbers : T → Option (ℕ × ℕ)) (told : T → Option TailHistory) (history : History) (harvester : Harvester T) : Type 0 where
  pub held : StandsFor history harvester.reader
  pub decides : Decides (rules_in history) harvester.rules
  pub looked : AreLookedAt (numbers harvester.tail) history (told harvester.tail)

-- with which it was opened
abbrev pub begin_of : {T : Type 0} → Harvester T → Begin
begin_of harvester = harvester.reader.begin

-- a turn found that the file has another key, or that the last epoch is over
abbrev pub IsChanged : {T : Type 0} → Harvester T → Type 0
IsChanged harvester = (harvester.reader.stage ≡ Changed) ⊎ (harvester.reader.stage ≡ Over)

-- the looks of the tail so far, if they are known
abbrev pub looks_so_far : Option TailHistory → List Look
looks_so_far None = []
looks_so_far (Some told) = told.looks
