-- What the calls of a folder show: the list of its listings, openings and closings in their order (Filebeat reference,
-- filestream input; this project's profile).
use Rattle.std.specs.Prelude.{◌≡◌, ◌≢◌, ◌⊎◌, ℕ, List, [], ◌∷◌, ◌++◌, length, map, All, Contains, slice_get, Option, Some, None, IfSome, IfOk, Result, Ok, Err, MatchResult, MatchOption, Vec}
use Rattle.std.specs.List.{AllByRecursion}
use Rattle.std.specs.declared.alloc.Global.{Global}
use Rattle.outside.specs.declared.entry.Entry.{Entry}
use Rattle.outside.specs.declared.failed.FolderError.{FolderError}
use Rattle.outside.specs.declared.failed.FolderError.TheVariants.{Failed, NoMemory}
use Rattle.outside.specs.Counts.{IsAtEnd, next_count}
use Rattle.outside.specs.declared.history.Sight.{Sight}
use Rattle.outside.specs.declared.history.Look.{Look}
use Rattle.outside.specs.declared.history.Shown.{Shown}
use Rattle.outside.specs.Files.{File, IsShownOf, sight_of}
use Rattle.outside.specs.Tails.{TailHistory}
use Rattle.wire_base.specs.Path.{IsBelow}
use Rattle.wire_base.specs.Ranges.{IsPath, IsPlace}

-- one thing that was done with a folder
pub data Event : Type 0 where
  -- a listing of a root with a depth, and what it showed
  Listed : List ℕ → ℕ → List Shown → Event
  ListingFailed : Event
  -- an opening by a path, and the number of the file that was found, with what was there of it
  Opened : List ℕ → ℕ → Sight → Event
  NotThere : List ℕ → Event
  OpeningFailed : List ℕ → Event
  -- the closing of the tail of an opening, by that opening's place in the list, with its looks and its count of faults
  Closed : ℕ → List Look → ℕ → Event

-- the files, reported whole from the start, and what was done so far
pub record FolderHistory : Type 0 where
  pub files : List File
  pub events : List Event

abbrev pub with_event : FolderHistory → Event → FolderHistory
with_event told event = record told { events = told.events ++ event ∷ [] }

-- an entry that a listing may have
pub record IsListable (entry : Entry) : Type 0 where
  pub path : IsPath entry.path
  pub size : IsPlace entry.size

-- a path that a listing of this root with this depth shows
abbrev pub IsListed : List ℕ → ℕ → Shown → Type 0
IsListed root depth shown = IsBelow root depth shown.entry.path × IsPath shown.entry.path

-- no file is shown twice by one path
abbrev pub EachOnce : List Shown → Type 0
EachOnce [] = Unit {0}
EachOnce (one ∷ shown) = AllByRecursion (λ other. (other.file ≢ one.file) ⊎ (other.entry.path ≢ one.entry.path)) shown × EachOnce shown

-- the listing shows each present file below the root once by each of its paths, and no other
pub record ShowsPresent (files : List File) (states : List Sight) (present : List Shown) (root : List ℕ) (depth : ℕ) (shown : List Shown) : Type 0 where
  pub of_files : All (IsShownOf files states) shown
  pub only : All (λ one. Contains present one × IsListed root depth one) shown
  pub every : All (λ one. IsListed root depth one → Contains shown one) present
  pub once : EachOnce shown

pub record ListsFiles (told : FolderHistory) (states : List Sight) (present : List Shown) (root : List ℕ) (depth : ℕ) (entries : List Entry) (after : Option FolderHistory) : Type 0 where
  pub shown : List Shown
  pub entries_shown : map (λ one. one.entry) shown ≡ entries
  pub shows : ShowsPresent told.files states present root depth shown
  pub kept : after ≡ Some (with_event told (Listed root depth shown))

-- a listing that failed is in the list, also if it was out of memory, until the count of faults is at its end
abbrev pub KeepsFailure : FolderHistory → Option FolderHistory → ℕ → Type 0
KeepsFailure told after faults = (after ≡ Some (with_event told ListingFailed)) ⊎ (IsAtEnd faults × (after ≡ Some told))

abbrev pub TellsListing : Option FolderHistory → List Sight → List Shown → List ℕ → ℕ → Result (Vec Entry Global) FolderError → Option FolderHistory → ℕ → Type 0
TellsListing None states present root depth result after faults = after ≡ None
TellsListing (Some told) states present root depth result after faults = MatchResult result
    (λ entries. ListsFiles told states present root depth entries.items after)
    (λ _. KeepsFailure told after faults)

-- the tail is of the present file with this path, and nothing was looked at yet
pub record OpensFile {T : Type 0} (tail_told : T → Option TailHistory) (tail_numbers : T → Option (ℕ × ℕ)) (told : FolderHistory) (states : List Sight) (present : List Shown) (path : List ℕ) (tail : T) (after : Option FolderHistory) : Type 0 where
  pub one : Shown
  pub there : Contains present one
  pub path_is : one.entry.path ≡ path
  pub of_files : IsShownOf told.files states one
  pub file : File
  pub file_is : slice_get told.files one.file ≡ Some file
  pub begins : tail_told tail ≡ Some (record { opening = length told.events; number = one.file; file = file; begun = sight_of one; looks = [] })
  pub numbers : tail_numbers tail ≡ file.numbers
  pub kept : after ≡ Some (with_event told (Opened path one.file (sight_of one)))

-- no present file has this path
pub record FindsNone (told : FolderHistory) (present : List Shown) (path : List ℕ) (after : Option FolderHistory) : Type 0 where
  pub none : All (λ one. ¬ (one.entry.path ≡ path)) present
  pub kept : after ≡ Some (with_event told (NotThere path))

abbrev pub KeepsError : FolderHistory → List ℕ → FolderError → Option FolderHistory → Type 0
KeepsError told path Failed after = after ≡ Some (with_event told (OpeningFailed path))
KeepsError told path NoMemory after = after ≡ Some told

-- a tail of a folder that reports nothing reports nothing
abbrev pub OpensUntold : {T : Type 0} → (T → Option TailHistory) → Result (Option T) FolderError → Type 0
OpensUntold tail_told result = IfOk result (λ found. IfSome found (λ tail. tail_told tail ≡ None))

abbrev pub TellsOpening : {T : Type 0} → (T → Option TailHistory) → (T → Option (ℕ × ℕ)) → Option FolderHistory → List Sight → List Shown → List ℕ → Result (Option T) FolderError → Option FolderHistory → Type 0
TellsOpening tail_told tail_numbers None states present path result after = (after ≡ None) × OpensUntold tail_told result
TellsOpening tail_told tail_numbers (Some told) states present path result after = MatchResult result
    (λ found. MatchOption found
    (FindsNone told present path after)
    (λ tail. OpensFile tail_told tail_numbers told states present path tail after))
    (λ error. KeepsError told path error after)

-- an opened tail has hit no fault yet
abbrev pub StartsFresh : {T : Type 0} → (T → ℕ) → Result (Option T) FolderError → Type 0
StartsFresh tail_faults result = IfOk result (λ found. IfSome found (λ tail. tail_faults tail ≡ 0))

-- the closing is in the list with the tail's looks; of a tail that reports nothing, nothing is
abbrev pub TellsClosing : Option FolderHistory → Option TailHistory → ℕ → Option FolderHistory → Type 0
TellsClosing None tail faults after = after ≡ None
TellsClosing (Some told) None faults after = after ≡ Some told
TellsClosing (Some told) (Some tail) faults after = after ≡ Some (with_event told (Closed tail.opening tail.looks faults))

-- how many tails are open after an opening
abbrev pub count_after_opening : {T : Type 0} → ℕ → Result (Option T) FolderError → ℕ
count_after_opening count (Ok (Some tail)) = next_count count
count_after_opening count (Ok None) = count
count_after_opening count (Err error) = count
