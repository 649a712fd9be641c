-- The step that closes a tail (this project's profile): a lane lets one harvester go, whose tail the folder takes back. All other
-- harvesters stay, and so do the passes, what lanes hold and what they count.
use Rattle.std.specs.Prelude.{◌≡◌, ◌⊎◌, ℕ, ◌-◌, ◌≤◌, ◌||◌, Bool, false, All, IsSome, IsTrue, is_some, List, [], ◌∷◌, ◌++◌, length, Option, Some, None, slice_get}
use Rattle.harvester.specs.HasTold.{IsChanged}
use Rattle.harvester.specs.declared.harvester.Harvester.{Harvester}
use Rattle.lanes.specs.Laning.{IsOfAnother, Laning, Releases, ReleasesAt}
use Rattle.outside.specs.Folders.{Event}
use Rattle.outside.specs.declared.folder.Folder.{Ghosts as FolderGhosts}
use Rattle.rounds.specs.Pairs.{Pairs}
use Rattle.rounds.specs.Staying.{HaveSlot}
use Rattle.rounds.specs.Words.{TailWords}
use Rattle.wire_base.specs.declared.numbers.Slot.{Slot}
use Rattle.run_steps.specs.FolderSeen.{Closes, FolderSeen, seen_in}
use Rattle.run_steps.specs.LastEpoch.{IsInEpoch}
use Rattle.run_steps.specs.MetBy.{HasMetFault}
use Rattle.run_steps.specs.Releasing.{harvesters_of, with_events}

-- the lanes, and what the folder of their tails shows
pub record Readers (T : Type 0) : Type 0 where
  pub folder : FolderSeen
  pub lanes : List (Laning T)

abbrev pub readers : {F T : Type 0} → FolderGhosts F T → F → List (Laning T) → Readers T
readers words folder lanes = record { folder = seen_in words folder; lanes = lanes }

-- ---- a tail

-- one of the lanes let the harvester of this seat go
pub record LetsGoAt {T : Type 0} (one : Harvester T) (old new : List (Laning T)) : Type 0 where
  pub front : List (Laning T)
  pub lane : Laning T
  pub back : List (Laning T)
  pub were : old ≡ front ++ lane ∷ back
  pub after : Laning T
  pub seat : ℕ
  pub released : ReleasesAt seat lane after one
  pub are : new ≡ front ++ after ∷ back

pub record ClosesTail {T : Type 0} (tails : TailWords T) (one : Harvester T) (old new : Readers T) : Type 0 where
  pub lets_go : LetsGoAt one old.lanes new.lanes
  pub closes : Closes tails one.tail old.folder new.folder
  pub in_epoch : IsInEpoch tails one

-- it is at rest, or is turned no more: its file has another key or none, or its last epoch is over
abbrev pub IsResting : {T : Type 0} → Harvester T → Type 0
IsResting harvester = IsTrue harvester.rests ⊎ IsChanged harvester

-- so is the one of this seat
pub record RestsAt {T : Type 0} (seat : ℕ) (harvesters : List (Harvester T)) : Type 0 where
  pub one : Harvester T
  pub is : slice_get harvesters seat ≡ Some one
  pub rests : IsResting one

-- these, one after another
abbrev pub ClosesTails : {T : Type 0} → TailWords T → List (Harvester T) → Readers T → Readers T → Type 0
ClosesTails tails [] old new = new ≡ old
ClosesTails {T} tails (one ∷ more) old new = (mid : Readers T) × ClosesTail tails one old mid × ClosesTails tails more mid new

-- one that is at rest, or whose file changed
pub record ClosesResting {T : Type 0} (tails : TailWords T) (old new : Readers T) : Type 0 where
  pub one : Harvester T
  pub rests : IsResting one
  pub closes : ClosesTail tails one old new

-- one of them, and some in a row
abbrev pub ClosesOne : {T : Type 0} → TailWords T → Readers T → Readers T → Type 0
ClosesOne {T} tails old new = (one : Harvester T) × ClosesTail tails one old new

pub record ClosesSome {T : Type 0} (tails : TailWords T) (old new : Readers T) : Type 0 where
  pub closed : List (Harvester T)
  pub each : ClosesTails tails closed old new

-- ---- those that a round calls failed

-- the lane's turns hit a read fault of some file
abbrev pub HasFailedFile : {T : Type 0} → Laning T → Type 0
HasFailedFile lane = IsSome lane.tally.failed

-- whether those of some lane did
abbrev pub some_failed : {T : Type 0} → List (Laning T) → Bool
some_failed [] = false
some_failed (lane ∷ lanes) = is_some lane.tally.failed || some_failed lanes

-- a harvester of this slot was released, if there was one
abbrev pub LetsSlotGo : {T : Type 0} → Option Slot → Laning T → Laning T → Type 0
LetsSlotGo None old new = new ≡ old
LetsSlotGo {T} (Some slot) old new = ((one : Harvester T) × Releases slot old new one) ⊎ (All (IsOfAnother slot) old.harvesters × (new ≡ old))

-- the first of which a read failed
abbrev pub LetsFailedGo : {T : Type 0} → Laning T → Laning T → Type 0
LetsFailedGo old new = LetsSlotGo old.tally.failed old new

-- lane by lane, and whether there was one
pub record ClosesFailed {T : Type 0} (tails : TailWords T) (failed : Bool) (old new : Readers T) : Type 0 where
  pub closes : ClosesSome tails old new
  pub lets_go : Pairs LetsFailedGo old.lanes new.lanes
  pub failed_is : failed ≡ some_failed old.lanes
  pub none : failed ≡ false → new ≡ old

-- ---- what steps keep of them

pub record ReadersGo {T : Type 0} (tails : TailWords T) (old new : Readers T) : Type 0 where
  -- the folder's list grows
  pub more : List Event
  pub told : new.folder.told ≡ with_events more old.folder.told
  pub faults_never_fall : old.folder.faults ≤ new.folder.faults
  -- no harvester comes, and with each that goes a tail is closed
  pub fewer : length (harvesters_of new.lanes) ≤ length (harvesters_of old.lanes)
  pub open_tails : new.folder.open_tails ≡ old.folder.open_tails - (length (harvesters_of old.lanes) - length (harvesters_of new.lanes))
  pub slots : (slot : Slot) → HaveSlot slot new.lanes → HaveSlot slot old.lanes
  -- a fault that was hit is counted still
  pub fault_stays : (since : ℕ) → since ≤ old.folder.faults → HasMetFault tails since old.folder.faults old.lanes →
      HasMetFault tails since new.folder.faults new.lanes
