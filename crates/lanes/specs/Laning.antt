-- What contracts see of a lane (this project's profile): its passes, its harvesters, and what the queue and the box refused.
use Rattle.std.specs.Prelude.{◌≡◌, ◌≢◌, ℕ, List, [], ◌∷◌, ◌++◌, Option, Some, None, map, false, slice_get}
use Rattle.std.specs.List.{swap_remove}
use Rattle.mem_queue.specs.Known.{Known}
use Rattle.settle_box.specs.Poster.{Poster}
use Rattle.harvester.specs.declared.harvester.Harvester.{Harvester}
use Rattle.harvester.specs.HasTold.{begin_of}
use Rattle.wire_base.specs.declared.numbers.Slot.{Slot}
use Rattle.lanes.specs.Tallies.{begun_tally}
use Rattle.lanes.specs.declared.given.Given.{Given}
use Rattle.lanes.specs.declared.given.Given.TheVariants.{Nothing}
use Rattle.lanes.specs.declared.lane.Lane.{Lane}
use Rattle.lanes.specs.declared.seat.Seat.{Seat}
use Rattle.lanes.specs.declared.tally.Tally.{Tally}

pub record Laning (T : Type 0) : Type 0 where
  -- what it puts by, and what it posts by; none if they are laid down
  pub put : Option Known
  pub post : Option Poster
  pub harvesters : List (Harvester T)
  -- what was refused
  pub held : Given
  -- how many spans its harvesters reported here
  pub spans : ℕ
  -- what the turns of the last round came to
  pub tally : Tally

abbrev pub begun_with : {T : Type 0} → Known → Poster → Laning T
begun_with put post = record { put = Some put; post = Some post; harvesters = []; held = Nothing; spans = 0; tally = begun_tally false }

abbrev pub without_passes : {T : Type 0} → Laning T → Laning T
without_passes lane = record lane { put = None; post = None }

abbrev pub with_passes : {T : Type 0} → Laning T → Known → Poster → Laning T
with_passes lane put post = record lane { put = Some put; post = Some post }

abbrev pub laning : {T : Type 0} → Lane T → Laning T
laning {T} lane = record {
  put = lane.put;
  post = lane.post;
  harvesters = map (λ (s : Seat T). s.harvester) lane.seats.items;
  held = lane.held;
  spans = lane.spans;
  tally = lane.tally;
}

-- ---- harvesters by their slots

abbrev pub IsOfSlot : {T : Type 0} → Slot → Harvester T → Type 0
IsOfSlot slot harvester = (begin_of harvester).slot ≡ slot

abbrev pub IsOfAnother : {T : Type 0} → Slot → Harvester T → Type 0
IsOfAnother slot harvester = (begin_of harvester).slot ≢ slot

-- it is there
pub record StandsAt {T : Type 0} (slot : Slot) (harvesters : List (Harvester T)) (index : ℕ) : Type 0 where
  pub one : Harvester T
  pub is : slice_get harvesters index ≡ Some one
  pub of_slot : IsOfSlot slot one

-- the one of this seat was released, and the last one takes the seat
pub record ReleasesAt {T : Type 0} (seat : ℕ) (old new : Laning T) (harvester : Harvester T) : Type 0 where
  pub was : slice_get old.harvesters seat ≡ Some harvester
  pub is : new ≡ record old { harvesters = swap_remove old.harvesters seat harvester }

-- one of this slot was released
pub record Releases {T : Type 0} (slot : Slot) (old new : Laning T) (harvester : Harvester T) : Type 0 where
  pub of_slot : IsOfSlot slot harvester
  pub seat : ℕ
  pub released : ReleasesAt seat old new harvester

-- the last one was released
pub record Pops {T : Type 0} (old new : Laning T) (harvester : Harvester T) : Type 0 where
  pub were : old.harvesters ≡ new.harvesters ++ harvester ∷ []
  pub others : new ≡ record old { harvesters = new.harvesters }
