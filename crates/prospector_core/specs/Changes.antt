-- Listing changes (Filebeat reference, filestream input; this project's profile): what each member of a scan says of the
-- known files, by the first case that applies, and what is known afterwards.
--
--   an earlier member has its key                    Doubled
--   its key is not known                             Created with the next slot
--   known, removed, and its input cleans             nothing
--   known, removed, and its input does not clean     Returned
--   known and present, under another path            Renamed, and then as in the next case
--   known and present                                Written if it is larger, Truncated if smaller, else nothing
--
-- Then each present file that no member showed is Removed, if the scan is whole.
use Rattle.std.specs.Prelude.{ℕ, ◌+◌, nat_lt, Bool, true, false, not, ◌&&◌, List, [], ◌∷◌, ◌++◌, length, map, flat_map, slice_index_or, Option, Some, None, is_some, is_none, if◌then◌else◌}
use Rattle.std.specs.Str.{bytes_eq}
use Rattle.prospector_core.specs.declared.change.Change.{Change}
use Rattle.prospector_core.specs.declared.change.Change.TheVariants.{Created, Returned, Renamed, Written, Truncated, Removed, Doubled}
use Rattle.prospector_core.specs.declared.known.Known.{Known}
use Rattle.prospector_core.specs.declared.seen.Seen.{Seen}
use Rattle.prospector_core.specs.Earlier.{flat_map_with_earlier}
use Rattle.prospector_core.specs.KnownFiles.{KnownFiles, first_with, known_with}
use Rattle.wire_base.specs.declared.numbers.Slot.{Slot}

abbrev pub slot_of : ℕ → Slot
slot_of number = record { 0 = number }

-- whether removed files of the input are to be forgotten; an input without an entry keeps them
abbrev pub cleans : List Bool → ℕ → Bool
cleans clean input = slice_index_or clean input false

-- the file was removed and waits for its row to go
abbrev pub is_held : List Bool → Known → Bool
is_held clean file = not file.present && cleans clean file.input

-- ---- which members are new

-- neither the known files nor the earlier members have the key
abbrev pub is_new : List Known → List Seen → Seen → Bool
is_new files earlier member = is_none (first_with member.key earlier) && is_none (known_with member.key files)

abbrev pub new_one : List Known → List Seen → Seen → List Seen
new_one files earlier member = if is_new files earlier member then member ∷ [] else []

-- the members of which a file begins
abbrev pub new_members : List Known → List Seen → List Seen
new_members files members = flat_map_with_earlier (new_one files) [] members

-- ---- what is reported

abbrev pub path_changes : Known → Seen → List Change
path_changes file member = if bytes_eq file.path member.path then [] else Renamed file.slot file.path member.path ∷ []

abbrev pub size_changes : Known → Seen → List Change
size_changes file member =
    if nat_lt file.size member.size then Written file.slot member.size ∷ []
    else (if nat_lt member.size file.size then Truncated file.slot member.size ∷ [] else [])

-- of a known file, by the first member that shows it
abbrev pub known_changes : List Bool → Known → Seen → List Change
known_changes clean file member =
    if file.present then path_changes file member ++ size_changes file member
    else (if cleans clean file.input then [] else Returned file.slot member.path member.size ∷ [])

-- of the file with the member's key, by the first member that has it
abbrev pub first_changes : List Bool → ℕ → Seen → Option Known → List Change
first_changes clean next member None = Created (slot_of next) member.input member.key member.path member.size ∷ []
first_changes clean next member (Some file) = known_changes clean file member

-- of one member, by those before it
abbrev pub member_changes : List Bool → KnownFiles → List Seen → Seen → List Change
member_changes clean known earlier member =
    if is_some (first_with member.key earlier) then Doubled member.path ∷ []
    else first_changes clean (known.next + length (new_members known.files earlier)) member (known_with member.key known.files)

-- of the files that no member showed
abbrev pub removal : List Seen → Known → List Change
removal seen file = if file.present && is_none (first_with file.key seen) then Removed file.slot ∷ [] else []

abbrev pub removals : Bool → List Seen → List Known → List Change
removals whole seen files = if whole then flat_map (removal seen) files else []

abbrev pub changes_between : List Bool → Bool → KnownFiles → List Seen → List Change
changes_between clean whole known seen = flat_map_with_earlier (member_changes clean known) [] seen ++ removals whole seen known.files

-- ---- what is known afterwards

-- of a file, by the first member that shows it
abbrev pub file_shown : List Bool → Bool → Known → Option Seen → Known
file_shown clean whole file None = if whole then record file { present = false } else file
file_shown clean whole file (Some member) =
    if is_held clean file then file else record file { path = member.path; size = member.size; present = true }

abbrev pub file_after : List Bool → Bool → List Seen → Known → Known
file_after clean whole seen file = file_shown clean whole file (first_with file.key seen)

abbrev pub created_file : ℕ → Seen → Known
created_file slot member = record {
  slot = slot_of slot;
  input = member.input;
  key = member.key;
  path = member.path;
  size = member.size;
  present = true;
}

-- a file of each member, with slots from this number on
abbrev pub created_files : ℕ → List Seen → List Known
created_files next [] = []
created_files next (member ∷ members) = created_file next member ∷ created_files (next + 1) members

abbrev pub known_after : List Bool → Bool → KnownFiles → List Seen → KnownFiles
known_after clean whole known seen = record {
  files = map (file_after clean whole seen) known.files ++ created_files known.next (new_members known.files seen);
  next = known.next + length (new_members known.files seen);
  others = known.others;
}
