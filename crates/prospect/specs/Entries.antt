-- What the listings of a scan showed, by the paths, one listing after the other (this project's profile).
use Rattle.std.specs.Prelude.{◌≡◌, ◌⊎◌, ℕ, List, [], map, All, Contains, Option, None, Some, IfSome}
use Rattle.std.specs.BTreeMap.{BTreeMap, get}
use Rattle.outside.specs.declared.entry.Entry.{Entry}
use Rattle.outside.specs.Folders.{FolderHistory, IsListable}
use Rattle.wire_base.specs.KeyOrder.{compare}
use Rattle.prospect.specs.declared.showing.Showing.{Showing}
use Rattle.prospect.specs.ListedFiles.{shown_in}
use Rattle.prospect.specs.Scan.{AreListed, Listing}
use Rattle.prospect.specs.Showings.{DifferInNumbers, HasNumbers, entries_of}

abbrev pub ByPath : Type 0
ByPath = BTreeMap (List ℕ) Showing

abbrev pub entries_in : Option Showing → List Entry
entries_in None = []
entries_in (Some showing) = entries_of showing

-- what was shown of the path
abbrev pub entries_at : ByPath → List ℕ → List Entry
entries_at found path = entries_in (get compare found path)

-- the entry is one of these, and this is its path
pub record IsOne (shown : List Entry) (path : List ℕ) (entry : Entry) : Type 0 where
  pub among : Contains shown entry
  pub path_is : entry.path ≡ path

-- each path of these is there with each of its native numbers, and nothing else was added
pub record Adds (shown : List Entry) (old new : ByPath) : Type 0 where
  pub kept : (path : List ℕ) (numbers : Option (ℕ × ℕ)) → HasNumbers (entries_at old path) numbers → HasNumbers (entries_at new path) numbers
  pub only : (path : List ℕ) (entry : Entry) → Contains (entries_at new path) entry →
      Contains (entries_at old path) entry ⊎ IsOne shown path entry
  pub every : (entry : Entry) → Contains shown entry → HasNumbers (entries_at new entry.path) entry.native
  pub apart : (path : List ℕ) → DifferInNumbers (entries_at old path) → DifferInNumbers (entries_at new path)

-- the entries are those that a listing for each glob showed
pub record ShowEntries (globs : List (List ℕ)) (entries : List Entry) (told : FolderHistory) (after : Option FolderHistory) : Type 0 where
  pub listings : List Listing
  pub listed : AreListed globs told listings after
  pub entries_are : entries ≡ map (λ one. one.entry) (shown_in listings)

-- a listing was made for each glob, and what it showed was added
pub record Lists (globs : List (List ℕ)) (told : Option FolderHistory) (old new : ByPath) (after : Option FolderHistory) : Type 0 where
  pub entries : List Entry
  pub in_range : All IsListable entries
  pub added : Adds entries old new
  pub shown : IfSome told (λ history. ShowEntries globs entries history after)
