-- One of a lane's harvesters between two rounds, by its slot or its seat (this project's profile): what is reported of its file
-- reaches it, nothing else changes, and what a look at it gives.
use Rattle.std.specs.Prelude.{◌≡◌, ◌⊎◌, ◌↔◌, ℕ, Bool, false, List, Option, Some, IfSome, IsNone, IsTrue, slice_get, slice_set}
use Rattle.outside.specs.Tails.{TailHistory}
use Rattle.harvester.specs.declared.harvester.Harvester.{Harvester}
use Rattle.harvester.specs.HasTold.{HasTold, IsChanged, begin_of}
use Rattle.harvester.specs.History.{History, read_to, told_to, with_ending, with_path}
use Rattle.harvester.specs.Turns.{IsWaiting, last_line_of}
use Rattle.wire_base.specs.declared.numbers.Slot.{Slot}
use Rattle.lanes.specs.Laning.{IsOfSlot, Laning}
use Rattle.lanes.specs.declared.seat_look.SeatLook.{SeatLook}

-- only what it reads by changed, and neither its begin nor the events that it gathers
pub record KeepsOthers {T : Type 0} (old new : Harvester T) : Type 0 where
  pub others : new ≡ record old { reader = new.reader }
  pub events_kept : new.reader.events ≡ old.reader.events
  pub begin_kept : begin_of new ≡ begin_of old
  pub changed_kept : IsChanged new → IsChanged old

-- what it reports later has this path
pub record HasRenamed {T : Type 0} (numbers : T → Option (ℕ × ℕ)) (told : T → Option TailHistory) (path : List ℕ) (old new : Harvester T) : Type 0 where
  pub renamed : (history : History) → HasTold numbers told history old → HasTold numbers told (with_path path history) new
  pub keeps : KeepsOthers old new

-- its later turns may find the end; whether its file is to be forgotten then
pub record HasEnding {T : Type 0} (numbers : T → Option (ℕ × ℕ)) (told : T → Option TailHistory) (forget : Bool) (old new : Harvester T) : Type 0 where
  pub ends : (history : History) → HasTold numbers told history old → HasTold numbers told (with_ending forget history) new
  pub keeps : KeepsOthers old new

-- it is not at rest
abbrev pub HasStirred : {T : Type 0} → Harvester T → Harvester T → Type 0
HasStirred old new = new ≡ record old { rests = false }

-- one of this slot changed so, at its place
pub record ChangesOne {T : Type 0} (slot : Slot) (Changes : Harvester T → Harvester T → Type 0) (old new : Laning T) : Type 0 where
  pub index : ℕ
  pub before : Harvester T
  pub after : Harvester T
  pub was : slice_get old.harvesters index ≡ Some before
  pub of_slot : IsOfSlot slot before
  pub changes : Changes before after
  pub is : new ≡ record old { harvesters = slice_set old.harvesters index after }

-- what a look at the harvester of a seat gives
pub record LooksAt {T : Type 0} (numbers : T → Option (ℕ × ℕ)) (told : T → Option TailHistory) (seat : ℕ) (harvesters : List (Harvester T)) (look : SeatLook) : Type 0 where
  pub one : Harvester T
  pub is : slice_get harvesters seat ≡ Some one
  pub slot : look.slot ≡ (begin_of one).slot
  pub epoch : (history : History) → HasTold numbers told history one → look.epoch.0 ≡ history.present.epoch
  pub told_place : (history : History) → HasTold numbers told history one → look.told_to ≡ told_to history.present
  pub read_place : (history : History) → HasTold numbers told history one → look.read_to ≡ read_to history.present
  pub changed : IsTrue look.changed ↔ IsChanged one
  pub not_idle : IsNone look.idle_since ↔ (IsWaiting one ⊎ (one.rests ≡ false))
  pub idle : IfSome look.idle_since (λ since. since.0 ≡ last_line_of one)
