-- What the turns of a round come to (this project's profile).
use Rattle.std.specs.Prelude.{Bool, true, false, Option, Some, None}
use Rattle.outside.specs.Counts.{added_counts}
use Rattle.harvester.specs.declared.turn.Turn.{Turn}
use Rattle.harvester.specs.declared.turn.Turn.TheVariants.{Issued, Passed, More, AtEnd, NewLife, Changed, EpochsOut, ReadFault, NoMemory}
use Rattle.wire_base.specs.declared.numbers.Slot.{Slot}
use Rattle.lanes.specs.declared.tally.Tally.{Tally}

-- before any turn; whether what was held went through
abbrev pub begun_tally : Bool → Tally
begun_tally moved = record { moved = moved; memory = false; tail_faults = 0; failed = None; epochs = None }

abbrev pub first_slot : Option Slot → Slot → Option Slot
first_slot None slot = Some slot
first_slot (Some first) slot = Some first

-- with one turn more, of the file of this slot
abbrev pub tally_with : Slot → Turn → Tally → Tally
tally_with slot (Issued parcel) tally = record tally { moved = true }
tally_with slot (Passed span rule) tally = record tally { moved = true }
tally_with slot More tally = record tally { moved = true }
tally_with slot AtEnd tally = tally
tally_with slot (NewLife epoch) tally = record tally { moved = true }
tally_with slot Changed tally = record tally { moved = true }
tally_with slot EpochsOut tally = record tally { moved = true; epochs = first_slot tally.epochs slot }
tally_with slot ReadFault tally = record tally { tail_faults = added_counts tally.tail_faults 1; failed = first_slot tally.failed slot }
tally_with slot NoMemory tally = record tally { memory = true }
