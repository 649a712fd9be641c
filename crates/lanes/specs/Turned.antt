-- One turn of a harvester that is in a lane, as its contract says (Filebeat reference, filestream input; this project's
-- profile).
use Rattle.std.specs.Prelude.{◌≡◌, ◌↔◌, ◌||◌, ◌≤◌, ℕ, Bool, Option, IsTrue}
use Rattle.outside.specs.Counts.{Rose}
use Rattle.outside.specs.Tails.{TailHistory}
use Rattle.wire_base.specs.declared.numbers.Moment.{Moment}
use Rattle.harvester.specs.declared.harvester.Harvester.{Harvester}
use Rattle.harvester.specs.declared.turn.Turn.{Turn}
use Rattle.harvester.specs.declared.turn.Turn.TheVariants.{AtEnd, ReadFault}
use Rattle.harvester.specs.HasTold.{HasTold, IsChanged, begin_of}
use Rattle.harvester.specs.History.{History}
use Rattle.harvester.specs.TurnLooks.{LooksInTurn}
use Rattle.harvester.specs.Turned.{IsOfFile, with_turn}
use Rattle.harvester.specs.Turns.{Goes, IsLast}

pub record HasTurned {T : Type 0} (numbers : T → Option (ℕ × ℕ)) (told : T → Option TailHistory) (faults : T → ℕ) (now : Moment) (last : Bool) (old : Harvester T) (turn : Turn) (new : Harvester T) : Type 0 where
  pub goes : (history : History) → HasTold numbers told history old → Goes numbers told 16_384 now.0 (last || history.ends) (with_turn now.0 last history) old turn new
  pub of_file : (history : History) → HasTold numbers told history old → IsOfFile (begin_of old).slot old.reader.epoch turn
  pub changed : (history : History) → HasTold numbers told history old → IsChanged new ↔ IsLast turn
  pub looks : LooksInTurn numbers told old turn new
  pub numbers_kept : numbers new.tail ≡ numbers old.tail
  pub rests : IsTrue new.rests ↔ (turn ≡ AtEnd)
  pub begin_kept : begin_of new ≡ begin_of old
  pub faults_never_fall : faults old.tail ≤ faults new.tail
  pub read_fault_only_where_faults_rose : (history : History) → HasTold numbers told history old → turn ≡ ReadFault → Rose (faults old.tail) (faults new.tail)

-- what it reported is known
abbrev pub IsKnown : {T : Type 0} → (T → Option (ℕ × ℕ)) → (T → Option TailHistory) → Harvester T → Type 0
IsKnown numbers told harvester = (history : History) × HasTold numbers told history harvester
