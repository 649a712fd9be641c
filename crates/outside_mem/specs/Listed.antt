-- What a listing of a folder in memory shows (this project's profile).
use Rattle.std.specs.Prelude.{◌≡◌, ◌⊎◌, ℕ, ◌<◌, List, [], ◌∷◌, ◌++◌, length, map, All, slice_get, Option, Some, None}
use Rattle.outside.specs.declared.entry.Entry.{Entry}
use Rattle.outside.specs.declared.history.Shown.{Shown}
use Rattle.outside.specs.Folders.{Listed, IsListed, IsListable, ShowsPresent}
use Rattle.outside_mem.specs.declared.moments.ToldMoment.{ToldMoment}
use Rattle.outside_mem.specs.declared.tracked.Tracked.{Tracked}
use Rattle.outside_mem.specs.declared.tracked.Listing.{Listing}
use Rattle.outside_mem.specs.Happenings.{event_of}
use Rattle.outside_mem.specs.Logs.{happened_in}
use Rattle.outside_mem.specs.Tracking.{path_of, present_from, states_of, files_of}

-- the listing shows what is present below the root, and the log is to say the same
pub record Lists (moments : List ToldMoment) (files : List Tracked) (listings : ℕ) (root : List ℕ) (depth : ℕ) (listing : Listing) : Type 0 where
  pub shown : List Shown
  pub entries_shown : map (λ one. one.entry) shown ≡ listing.entries.items
  pub shows : ShowsPresent (files_of files) (states_of listings files) (present_from moments 0 listings files) root depth shown
  pub event : event_of (happened_in listing.room) ≡ Listed root depth shown
  pub in_range : All IsListable listing.entries.items

-- one file more is in both lists if it is to be listed, and else in none
abbrev pub AddsListed : List ℕ → ℕ → Shown → List Entry → List Shown → List Entry → List Shown → Type 0
AddsListed root depth one entries shown more_entries more_shown =
    (IsListed root depth one × (more_entries ≡ entries ++ one.entry ∷ []) × (more_shown ≡ shown ++ one ∷ []))
    ⊎ ((¬ (IsListed root depth one)) × (more_entries ≡ entries) × (more_shown ≡ shown))

-- if a file was found it is added
abbrev pub AddsFound : List ℕ → ℕ → Option Shown → List Entry → List Shown → List Entry → List Shown → Type 0
AddsFound root depth None entries shown more_entries more_shown = (more_entries ≡ entries) × (more_shown ≡ shown)
AddsFound root depth (Some one) entries shown more_entries more_shown = AddsListed root depth one entries shown more_entries more_shown

-- the file of this number is found by the path
pub record FindsAt (files : List Tracked) (listings : ℕ) (path : List ℕ) (number : ℕ) : Type 0 where
  pub tracked : Tracked
  pub there : slice_get files number ≡ Some tracked
  pub known : number < length files
  pub named : path_of listings tracked ≡ Some path
