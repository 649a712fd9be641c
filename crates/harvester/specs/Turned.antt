-- What one turn adds to the history of a harvester (this project's profile).
use Rattle.std.specs.Prelude.{◌≡◌, ℕ, ◌+◌, Bool, ◌||◌, List, [], ◌∷◌, ◌++◌}
use Rattle.told_events.specs.Fate.{DroppedBy, ShippedAs}
use Rattle.told_events.specs.Told.{ToldEvent}
use Rattle.wire_base.specs.Ranges.{IsParcel, IsPlace}
use Rattle.wire_base.specs.declared.numbers.Epoch.{Epoch}
use Rattle.wire_base.specs.declared.numbers.Slot.{Slot}
use Rattle.harvester.specs.History.{Changed, History, Over, with_epoch, with_stage}
use Rattle.harvester.specs.declared.turn.Turn.{Turn}
use Rattle.harvester.specs.declared.turn.Turn.TheVariants.{Issued, Passed, NewLife, EpochsOut, ReadFault, NoMemory}

-- the event that the turn reported of the file of this path
abbrev pub events_told : List ℕ → ℕ → Turn → List ToldEvent
events_told path now (Issued parcel) = record { span = parcel.span; path = path; now = now; fate = ShippedAs parcel.payload } ∷ []
events_told path now (Passed span rule) = record { span = span; path = path; now = now; fate = DroppedBy rule.0 } ∷ []
events_told path now turn = []

-- a parcel is of this slot and epoch, and may be sent
abbrev pub IsOfFile : Slot → Epoch → Turn → Type 0
IsOfFile slot epoch (Issued parcel) = (parcel.slot ≡ slot) × (parcel.epoch ≡ epoch) × IsParcel parcel
IsOfFile slot epoch (Passed span rule) = IsPlace span.end
IsOfFile slot epoch turn = Unit {0}

-- a step of a turn has this answer, which is no fault
abbrev pub IsAnswerFor : Slot → Epoch → Turn → Type 0
IsAnswerFor slot epoch (Issued parcel) = (parcel.slot ≡ slot) × (parcel.epoch ≡ epoch) × IsParcel parcel
IsAnswerFor slot epoch (Passed span rule) = IsPlace span.end
IsAnswerFor slot epoch ReadFault = ⊥
IsAnswerFor slot epoch NoMemory = ⊥
IsAnswerFor slot epoch turn = Unit {0}

-- the history once the key was asked when the length had fallen
abbrev pub after_asking : Turn → History → History
after_asking (NewLife epoch) history = with_epoch history
after_asking EpochsOut history = with_stage Over history
after_asking turn history = with_stage Changed history

-- what asking comes to in this epoch: the next epoch, or that it was the last one
abbrev pub IsAskedIn : ℕ → Turn → Type 0
IsAskedIn before (NewLife epoch) = epoch.0 ≡ before + 1
IsAskedIn before EpochsOut = before ≡ 4294967295
IsAskedIn before Turn.Changed = Unit {0}
IsAskedIn before turn = ⊥

-- at this moment; `last` says that its end may be found
abbrev pub with_turn : ℕ → Bool → History → History
with_turn now last history = record history { moments = history.moments ++ now ∷ []; may_end = history.may_end || (last || history.ends) }

-- an event was reported
abbrev pub HasOneEvent : Turn → Type 0
HasOneEvent (Issued parcel) = Unit {0}
HasOneEvent (Passed span rule) = Unit {0}
HasOneEvent turn = ⊥

-- none was reported: the key was asked
abbrev pub IsByKey : Turn → Type 0
IsByKey (NewLife epoch) = Unit {0}
IsByKey Turn.Changed = Unit {0}
IsByKey EpochsOut = Unit {0}
IsByKey turn = ⊥
