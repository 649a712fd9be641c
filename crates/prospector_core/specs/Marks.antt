-- What the members of a scan so far show of each known file, kept beside it while the scan is compared.
use Rattle.std.specs.Prelude.{◌≡◌, ℕ, ◌-◌, ◌==◌, Bool, true, false, not, List, [], ◌∷◌, length, map, filter, AllPairs, Option, Some, None, unwrap_or, if◌then◌else◌}
use Rattle.std.specs.Str.{bytes_eq}
use Rattle.prospector_core.specs.declared.change.Change.{Change}
use Rattle.prospector_core.specs.declared.change.Change.TheVariants.{Doubled, Removed}
use Rattle.prospector_core.specs.declared.known.Known.{Known}
use Rattle.prospector_core.specs.declared.marks.Mark.{Mark}
use Rattle.prospector_core.specs.declared.marks.Mark.TheVariants.{Unseen, Held, Shown}
use Rattle.prospector_core.specs.declared.marks.Watched.{Watched}
use Rattle.prospector_core.specs.declared.seen.Seen.{Seen}
use Rattle.prospector_core.specs.Changes.{is_held, known_changes}
use Rattle.prospector_core.specs.KnownFiles.{KnownFiles, StandsBefore, first_with}

abbrev pub file_of : Watched → Known
file_of watched = watched.file

abbrev pub files_of : List Watched → List Known
files_of watched = map file_of watched

abbrev pub keys_of : List Watched → List (List ℕ)
keys_of watched = map (λ one. one.file.key) watched

-- the member's path if it is another
abbrev pub other_path : Known → Seen → Option (List ℕ)
other_path file member = if bytes_eq file.path member.path then None else Some member.path

-- by the first member that shows the file
abbrev pub first_mark : List Bool → Known → Seen → Mark
first_mark clean file member = if is_held clean file then Held else Shown member.size (other_path file member)

abbrev pub mark_by : List Bool → Known → Option Seen → Mark
mark_by clean file None = Unseen
mark_by clean file (Some member) = first_mark clean file member

-- a file with what these members show of it
abbrev pub watched_by : List Bool → List Seen → Known → Watched
watched_by clean seen file = record { file = file; mark = mark_by clean file (first_with file.key seen); gone = false }

-- ---- one member more of the file's key

abbrev pub next_mark : List Bool → Known → Seen → Mark → Mark
next_mark clean file member Unseen = first_mark clean file member
next_mark clean file member Held = Held
next_mark clean file member (Shown size path) = Shown size path

abbrev pub marked_changes : List Bool → Known → Seen → Mark → List Change
marked_changes clean file member Unseen = known_changes clean file member
marked_changes clean file member Held = Doubled member.path ∷ []
marked_changes clean file member (Shown size path) = Doubled member.path ∷ []

-- ---- once all members were looked at

abbrev pub settled_file : Bool → Known → Mark → Known
settled_file whole file Unseen = if whole then record file { present = false } else file
settled_file whole file Held = file
settled_file whole file (Shown size path) = record file { path = unwrap_or path file.path; size = size; present = true }

abbrev pub settled : Bool → Watched → Known
settled whole watched = settled_file whole watched.file watched.mark

abbrev pub settled_one : Bool → Watched → Watched
settled_one whole watched = record watched { file = settled whole watched; mark = Unseen }

abbrev pub cleared : Watched → Watched
cleared watched = record { file = watched.file; mark = Unseen; gone = false }

-- ---- what is known of them

-- this many files count together, those of other inputs among them
abbrev pub known_in : List Watched → ℕ → ℕ → KnownFiles
known_in watched next count = record { files = files_of watched; next = next; others = count - length watched }

abbrev pub removal_by : Known → Mark → List Change
removal_by file Unseen = if file.present then Removed file.slot ∷ [] else []
removal_by file Held = []
removal_by file (Shown size path) = []

-- of a file that no member showed
abbrev pub unseen_removal : Watched → List Change
unseen_removal watched = removal_by watched.file watched.mark

-- ---- those that are gone

abbrev pub is_here : Watched → Bool
is_here one = not one.gone

abbrev pub Stays : Watched → Type 0
Stays one = one.gone ≡ false

-- those that are not gone
abbrev pub here : List Watched → List Watched
here watched = filter is_here watched

-- one of this slot is gone
abbrev pub forgotten : ℕ → Watched → Watched
forgotten slot one = if one.file.slot.0 == slot then record one { gone = true } else one

abbrev pub slots_of : List Watched → List ℕ
slots_of watched = map (λ one. one.file.slot.0) watched

-- the slots of all of them rise, and no two keys are the same
abbrev pub AreApart : List Watched → Type 0
AreApart watched = AllPairs StandsBefore (files_of watched)
