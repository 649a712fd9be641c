-- What was listed when a scan ends before it reports its files (this project's profile): the roots of the first globs, in
-- the order of the settings; a listing that failed is the last.
use Rattle.std.specs.Prelude.{◌≡◌, ◌⊎◌, ℕ, List, [], ◌∷◌, Option, Some}
use Rattle.glob_paths.specs.Root.{root_of, depth_of}
use Rattle.outside.specs.declared.history.Shown.{Shown}
use Rattle.outside.specs.Folders.{Event, FolderHistory, Listed, ListingFailed}
use Rattle.prospect.specs.Scan.{with_events}

-- the root of the glob was listed with its depth
abbrev pub IsListingFor : List ℕ → Event → Type 0
IsListingFor glob event = (shown : List Shown) × (event ≡ Listed (root_of glob) (depth_of glob) shown)

-- one listing for each of the first globs, in their order; a failed one is the last
abbrev pub ListSome : List (List ℕ) → List Event → Type 0
ListSome globs [] = Unit {0}
ListSome [] (event ∷ events) = ⊥
ListSome (glob ∷ globs) (event ∷ events) =
    (IsListingFor glob event × ListSome globs events)
    ⊎ ((event ≡ ListingFailed) × (events ≡ []))

-- nothing else was done
pub record ListsSome (globs : List (List ℕ)) (told : FolderHistory) (after : Option FolderHistory) : Type 0 where
  pub more : List Event
  pub in_order : ListSome globs more
  pub kept : after ≡ Some (with_events told more)
