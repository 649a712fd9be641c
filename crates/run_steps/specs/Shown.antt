-- What a run does with the folder after its first scan (this project's profile): it opens files and closes them, and scans again.
-- Each opening is of a file that was begun, or its tail was closed when it had been asked for its key, or unread.
use Rattle.std.specs.Prelude.{◌≡◌, ◌⊎◌, ℕ, suc, ◌<◌, ◌≤◌, drop, List, [], ◌∷◌, ◌++◌, Contains, length, map, slice_get, Option, Some, None, IfSome}
use Rattle.std.specs.List.{AllByRecursion, flat_map}
use Rattle.accounts.specs.Opened.{Opened as OpenedFile}
use Rattle.event_tree.specs.declared.settings.Settings.{Settings}
use Rattle.kept_rows.specs.Scans.{AreDistinct, StandInOrder}
use Rattle.kept_rows.specs.Trace.{closing_in}
use Rattle.outside.specs.Folders.{Closed, Event, FolderHistory, Opened}
use Rattle.outside.specs.Tails.{TailHistory}
use Rattle.outside.specs.Times.{EndsWith}
use Rattle.outside.specs.declared.history.Sight.{Sight}
use Rattle.told_scans.specs.OnlyAsked.{WasClosedWith, WasOnlyAsked}
use Rattle.told_scans.specs.ToldScan.{ToldScan}
use Rattle.told_scans.specs.ToldScans.{AreToldFrom, LiesBetween}
use Rattle.run_steps.specs.LaterScans.{told_in}
use Rattle.run_steps.specs.SoFar.{Earlier, FilesSoFar, Left, openings_within}

abbrev pub IsStillOpen : FolderHistory → ℕ → Type 0
IsStillOpen told opening = closing_in opening (drop (suc opening) told.events) ≡ None

-- it is in the folder's list, after the first scan and within none of these later ones
pub record WasOpenedSince (before : FolderHistory) (scans : List ToldScan) (after : FolderHistory) (one : OpenedFile) : Type 0 where
  pub between : LiesBetween one.opening before scans after
  pub stands : slice_get after.events one.opening ≡ Some (Opened one.begin.path one.number one.begun)
  pub file_is : slice_get after.files one.number ≡ Some one.file

abbrev pub openings_of : List OpenedFile → List ℕ
openings_of files = map (λ one. one.opening) files

-- the slots of the files that harvesters turn
abbrev pub IsTurnedIn : FilesSoFar → OpenedFile → Type 0
IsTurnedIn so_far one = Contains (map (λ turned. turned.slot) (flat_map (λ turned. turned) so_far.lanes)) one.begin.slot

-- its tail was closed with what it told, if it tells
abbrev pub WasClosedAs : FolderHistory → Left → Type 0
WasClosedAs told one = IfSome one.told (λ tail. WasClosedWith told tail.opening tail.looks)

-- the tail was closed with what it told at a place of the folder's list: after its own opening, and before this next one
pub record WasClosedBy (told : FolderHistory) (tail : TailHistory) (next : ℕ) : Type 0 where
  pub place : ℕ
  pub faults : ℕ
  pub closed : slice_get told.events place ≡ Some (Closed tail.opening tail.looks faults)
  pub since : tail.opening < place
  pub before : place < next

-- the tail of an opening that came before was closed, and before the next one of its file was opened
pub record WasClosedInTurn (told : FolderHistory) (one : Earlier) : Type 0 where
  pub closed : WasClosedAs told one.left
  pub in_turn : IfSome one.left.told (λ tail. WasClosedBy told tail one.next.opening)

pub record HasDone (settings : Settings) (before after : FolderHistory) (so_far : FilesSoFar) : Type 0 where
  pub files : after.files ≡ before.files
  pub more : List Event
  pub events : after.events ≡ before.events ++ more
  -- all that it listed since was for its later scans
  pub scans : AreToldFrom settings before (told_in so_far.scans) after
  pub opened : AllByRecursion (WasOpenedSince before (told_in so_far.scans) after) (openings_within so_far)
  pub apart : AreDistinct (openings_of (openings_within so_far))
  pub serve : (opening : ℕ) (path : List ℕ) (number : ℕ) (begun : Sight) → length before.events ≤ opening →
      slice_get after.events opening ≡ Some (Opened path number begun) → Contains (openings_of (openings_within so_far)) opening ⊎ WasOnlyAsked after opening
  pub closed : AllByRecursion (WasClosedAs after) so_far.left
  pub closed_before : AllByRecursion (WasClosedInTurn after) so_far.earlier
  pub still_open : (one : OpenedFile) → Contains so_far.opened one → IsTurnedIn so_far one → IsStillOpen after one.opening

abbrev pub HasShown : Settings → Option FolderHistory → Option FolderHistory → FilesSoFar → Type 0
HasShown settings None after so_far = after ≡ None
HasShown settings (Some before) None so_far = ⊥
HasShown settings (Some before) (Some after) so_far = HasDone settings before after so_far

-- ---- the clock

-- it gave this moment, and then the later ones: it had given the moment last before, or appended it
abbrev pub GaveSince : List ℕ → Option (List ℕ) → ℕ → List ℕ → Type 0
GaveSince earlier after moment later =
    (EndsWith earlier moment × (after ≡ Some (earlier ++ later)))
    ⊎ ((¬ (EndsWith earlier moment)) × (after ≡ Some (earlier ++ moment ∷ later)))

-- these are the moments that it gave since then, of which this is the first
pub record HasGiven (before after : Option (List ℕ)) (moment : ℕ) (since : List ℕ) : Type 0 where
  pub told : IfSome before (λ earlier. (later : List ℕ) × (since ≡ moment ∷ later) × GaveSince earlier after moment later)
  pub untold : before ≡ None → after ≡ None
  pub among : StandInOrder (moment ∷ []) since
