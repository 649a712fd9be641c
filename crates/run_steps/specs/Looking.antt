-- How steps lead to a first look (this project's profile): of lanes that hold nothing, one round without a fault leads to lanes of which some
-- file was asked for its length, if there is one; and what was asked stays so until its tail is closed, and then in the folder's list.
use Rattle.std.specs.Prelude.{◌≡◌, ◌⊎◌, ℕ, ◌+◌, ◌≤◌, List, [], length, slice_get, Option, Some, IfSome}
use Rattle.std.specs.List.{AllByRecursion}
use Rattle.lanes.specs.Laning.{Laning}
use Rattle.lanes.specs.declared.given.Given.TheVariants.{Nothing}
use Rattle.outside.specs.Folders.{FolderHistory, Opened}
use Rattle.outside.specs.Tails.{TailHistory}
use Rattle.outside.specs.declared.bell.Bell.{Ghosts as BellGhosts}
use Rattle.outside.specs.declared.history.Look.{Look}
use Rattle.outside.specs.declared.history.Sight.{Sight}
use Rattle.rounds.specs.Pairs.{SomeOf}
use Rattle.rounds.specs.Words.{TailWords}
use Rattle.told_scans.specs.OnlyAsked.{WasClosedWith}
use Rattle.run_steps.specs.FirstLook.{IsLengthLook}
use Rattle.run_steps.specs.MetBy.{SomeHarvester}
use Rattle.run_steps.specs.Releasing.{harvesters_of}

-- ---- open tails

-- a tail whose looks are known was asked for its file's length
abbrev pub HasLooked : Option TailHistory → Type 0
HasLooked told = IfSome told (λ tail. SomeOf IsLengthLook tail.looks)

abbrev pub SomeHasLooked : {T : Type 0} → TailWords T → List (Laning T) → Type 0
SomeHasLooked tails lanes = SomeHarvester (λ harvester. HasLooked (tails.told harvester.tail)) lanes

abbrev pub HoldNothing : {T : Type 0} → List (Laning T) → Type 0
HoldNothing lanes = AllByRecursion (λ lane. lane.held ≡ Nothing) lanes

-- the first lanes had no file, or some file of the second was asked
abbrev pub IsFirstLook : {T : Type 0} → TailWords T → List (Laning T) → List (Laning T) → Type 0
IsFirstLook tails old new = (harvesters_of old ≡ []) ⊎ SomeHasLooked tails new

-- what a round does that is refused nothing
pub record LooksInRound {T : Type 0} (tails : TailWords T) (old new : List (Laning T)) : Type 0 where
  pub first : HoldNothing old → IsFirstLook tails old new
  pub stays : SomeHasLooked tails old → SomeHasLooked tails new

-- ---- and how often the bell was asked

-- the lanes at one moment, and the questions of the bell so far
pub record Asked (T : Type 0) : Type 0 where
  pub bell : ℕ
  pub lanes : List (Laning T)

abbrev pub asked_at : {B T : Type 0} → BellGhosts B → B → List (Laning T) → Asked T
asked_at words bell lanes = record { bell = words.questions bell; lanes = lanes }

-- between two questions of the bell
abbrev pub LooksByNow : {T : Type 0} → TailWords T → Asked T → Asked T → Type 0
LooksByNow tails before after = HoldNothing before.lanes → before.bell + 2 ≤ after.bell → IsFirstLook tails before.lanes after.lanes

-- before a question of the bell: it is the first one, or some file was asked
abbrev pub LooksSoFar : {T : Type 0} → TailWords T → Asked T → Asked T → Type 0
LooksSoFar tails before now =
    HoldNothing before.lanes → ((now.bell ≡ before.bell) × (now.lanes ≡ before.lanes)) ⊎ IsFirstLook tails before.lanes now.lanes

-- ---- closed tails

-- one that was opened after the first things that the folder did, as many as this, reported such a look, and was closed
pub record HasLookedSince (before after : FolderHistory) : Type 0 where
  pub opening : ℕ
  pub path : List ℕ
  pub number : ℕ
  pub begun : Sight
  pub since : length before.events ≤ opening
  pub opened : slice_get after.events opening ≡ Some (Opened path number begun)
  pub looks : List Look
  pub closed : WasClosedWith after opening looks
  pub asked : SomeOf IsLengthLook looks

-- if the folder is known
abbrev pub LooksSince : Option FolderHistory → Option FolderHistory → Type 0
LooksSince first last = (before after : FolderHistory) → first ≡ Some before → last ≡ Some after → HasLookedSince before after
