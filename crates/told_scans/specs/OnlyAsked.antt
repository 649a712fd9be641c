-- What a folder's list shows of tails that were opened only for a key (this project's profile): each reported nothing but reads, and was
-- closed.
use Rattle.std.specs.Prelude.{◌≡◌, ℕ, suc, ◌≤◌, drop, List, ◌++◌, length, slice_get, Some}
use Rattle.std.specs.List.{AllByRecursion}
use Rattle.file_identity.specs.AskedAgain.{IsRead}
use Rattle.kept_rows.specs.Trace.{closing_in}
use Rattle.outside.specs.Folders.{Closed, Event, FolderHistory, Listed, ListingFailed, NotThere, Opened, OpeningFailed}
use Rattle.outside.specs.declared.history.Look.{Look}
use Rattle.outside.specs.declared.history.Sight.{Sight}

abbrev pub IsNoListing : Event → Type 0
IsNoListing (Listed root depth shown) = ⊥
IsNoListing ListingFailed = ⊥
IsNoListing (Opened path number begun) = Unit {0}
IsNoListing (NotThere path) = Unit {0}
IsNoListing (OpeningFailed path) = Unit {0}
IsNoListing (Closed opening looks faults) = Unit {0}

-- the tail of this opening was closed with these looks
pub record WasClosedWith (told : FolderHistory) (opening : ℕ) (looks : List Look) : Type 0 where
  pub faults : ℕ
  pub closing : closing_in opening (drop (suc opening) told.events) ≡ Some (record { looks = looks; faults = faults })

-- it reported nothing but reads, as if it was asked for its key
pub record WasOnlyAsked (told : FolderHistory) (opening : ℕ) : Type 0 where
  pub looks : List Look
  pub closed : WasClosedWith told opening looks
  pub reads : AllByRecursion (λ look. IsRead look.question) looks

-- the same holds for each tail that was opened after the first things that were done, as many as this
abbrev pub AreOnlyAsked : ℕ → FolderHistory → Type 0
AreOnlyAsked since told = (opening : ℕ) (path : List ℕ) (number : ℕ) (begun : Sight) → since ≤ opening →
    slice_get told.events opening ≡ Some (Opened path number begun) → WasOnlyAsked told opening

-- files were opened, asked for their keys and closed, and nothing was listed
pub record HasOnlyAsked (before after : FolderHistory) : Type 0 where
  pub files : after.files ≡ before.files
  pub more : List Event
  pub events : after.events ≡ before.events ++ more
  pub no_listing : AllByRecursion IsNoListing more
  pub only_asked : AreOnlyAsked (length before.events) after
