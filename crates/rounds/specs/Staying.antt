-- What stays of a crew, whatever its rounds come to (this project's profile): how many lanes and workers it has, and with what
-- the harvesters of each lane were opened.
use Rattle.std.specs.Prelude.{◌≡◌, List, length, map}
use Rattle.harvester.specs.HasTold.{begin_of}
use Rattle.lanes.specs.Laning.{Laning}
use Rattle.wire_base.specs.declared.note.Begin.{Begin}
use Rattle.wire_base.specs.declared.numbers.Slot.{Slot}
use Rattle.rounds.specs.Crewing.{Crewing}
use Rattle.rounds.specs.Pairs.{SomeOf}

-- as many lanes and workers
pub record AreAsMany {T W L D : Type 0} (old new : Crewing T W L D) : Type 0 where
  pub lanes : length new.lanes.items ≡ length old.lanes.items
  pub carriers : length new.carriers.items ≡ length old.carriers.items

-- with what each harvester of a lane was opened, and lane by lane
abbrev pub begins_in : {T : Type 0} → Laning T → List Begin
begins_in lane = map begin_of lane.harvesters

abbrev pub begins_of : {T : Type 0} → List (Laning T) → List (List Begin)
begins_of lanes = map begins_in lanes

-- some lane has a harvester of this slot
abbrev pub HaveSlot : {T : Type 0} → Slot → List (Laning T) → Type 0
HaveSlot slot lanes = SomeOf (SomeOf (λ begin. begin.slot ≡ slot)) (begins_of lanes)
