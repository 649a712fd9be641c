-- What the harvester of a file is told between two rounds (this project's profile): that something was heard of the file, that it was removed, or that
-- it has another path. It is in the lane of its slot. All other harvesters stay, and so do the passes, what lanes hold and what they count.
use Rattle.std.specs.Prelude.{◌≡◌, ◌⊎◌, ℕ, ◌%◌, false, All, Bool, true, List, [], ◌∷◌, ◌++◌, length, slice_get, Some}
use Rattle.harvester.specs.declared.harvester.Harvester.{Harvester}
use Rattle.keeper.specs.Keeping.{Keeping}
use Rattle.lanes.specs.Changing.{ChangesOne, HasEnding, HasRenamed, HasStirred}
use Rattle.lanes.specs.Laning.{IsOfAnother, Laning}
use Rattle.rounds.specs.Words.{TailWords}
use Rattle.wire_base.specs.declared.note.Note.{Note}
use Rattle.wire_base.specs.declared.note.Note.TheVariants.{Rename}
use Rattle.wire_base.specs.declared.numbers.Slot.{Slot}
use Rattle.run_steps.specs.Telling.{IsFollowed, IsNotFollowed, TellsNotes}
use Rattle.run_steps.specs.declared.changing.NewName.{NewName}

-- ---- one of the lanes

-- a harvester of the slot changed so in the lane of this number
pub record ChangesAt {T : Type 0} (number : ℕ) (slot : Slot) (Changes : Harvester T → Harvester T → Type 0) (old new : List (Laning T)) : Type 0 where
  pub front : List (Laning T)
  pub lane : Laning T
  pub back : List (Laning T)
  pub were : old ≡ front ++ lane ∷ back
  pub at : length front ≡ number
  pub after : Laning T
  pub changes : ChangesOne slot Changes lane after
  pub are : new ≡ front ++ after ∷ back

-- the lane of the slot is that of the slot's number, modulo how many lanes there are
abbrev pub ChangesOf : {T : Type 0} → Slot → (Harvester T → Harvester T → Type 0) → List (Laning T) → List (Laning T) → Type 0
ChangesOf slot Changes old new = ChangesAt (slot.0 % length old) slot Changes old new

-- that lane has no harvester of the slot
pub record HasNone {T : Type 0} (slot : Slot) (lanes : List (Laning T)) : Type 0 where
  pub lane : Laning T
  pub is : slice_get lanes (slot.0 % length lanes) ≡ Some lane
  pub none : All (IsOfAnother slot) lane.harvesters

-- ---- what it is told

-- something was heard of it, so it is not at rest
abbrev pub StirsFile : {T : Type 0} → Slot → List (Laning T) → List (Laning T) → Type 0
StirsFile slot old new = ChangesOf slot HasStirred old new

module _ {T : Type 0} (tails : TailWords T) (slot : Slot) (old new : List (Laning T)) where
  -- its turns may find the end of its file, which is not forgotten then, and it is not at rest
  pub record EndsFile : Type 0 where
    pub mid : List (Laning T)
    pub stirred : StirsFile slot old mid
    pub ended : ChangesOf slot (HasEnding tails.numbers tails.told false) mid new

  -- the one of the slot, if there is one, tells later events with this path
  abbrev pub RenamesIfThere : List ℕ → Type 0
  RenamesIfThere path = ChangesOf slot (HasRenamed tails.numbers tails.told path) old new ⊎ (HasNone slot old × (new ≡ old))

-- ---- a new path

pub record LanesAndKeeper (T : Type 0) : Type 0 where
  pub lanes : List (Laning T)
  pub keeper : Keeping

abbrev pub rename_note : NewName → Note
rename_note name = Rename name.slot name.scan name.path

module _ {T : Type 0} (tails : TailWords T) (name : NewName) (old new : LanesAndKeeper T) where
  -- the keeper is told of it, and the harvester of the slot has it, if there is one
  pub record NamesFile : Type 0 where
    pub followed : IsFollowed name.slot.0 old.keeper.tracked
    pub tells : TellsNotes (rename_note name ∷ []) old.keeper new.keeper
    pub renames : RenamesIfThere tails name.slot old.lanes new.lanes name.path

  -- a slot without a Begin, or whose row is gone, has no note
  pub record NamesNothing : Type 0 where
    pub not_followed : IsNotFollowed name.slot.0 old.keeper.tracked
    pub same_lanes : new.lanes ≡ old.lanes
    pub same_keeper : new.keeper ≡ old.keeper

  -- by whether the keeper was told
  abbrev pub NamesBy : Bool → Type 0
  NamesBy true = NamesFile
  NamesBy false = NamesNothing
