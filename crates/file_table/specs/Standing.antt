-- The state of a file, by the events of its slot (Filebeat reference, filestream input: `clean_removed`, `close_inactive`; this
-- project's profile):
--
--   it has an open tail          it was opened, and its tail was not closed since
--   it is removed                a whole scan did not show it, and none showed it again since
--   it ends                      it has an open tail, and was removed since that was opened
--   it is closed                 its tail was closed as idle, and nothing was heard of it since
--   it waits to be opened        it is present, has no open tail, and is not closed
--   it goes on                   from the newest of these: its begin, its opening, the last span of a closed tail
--
-- A removed file without a tail is forgotten if its input forgets such files, or if the registry has nothing of it; but one
-- whose tail found another file after it was removed, only after a whole scan that shows no file with its key.
use Rattle.std.specs.Prelude.{◌≡◌, ◌⊎◌, ℕ, Bool, true, false, not, ◌&&◌, ◌||◌, List, [], ◌∷◌, Option, Some, None, if◌then◌else◌}
use Rattle.file_table.specs.declared.at.At.{At}
use Rattle.file_table.specs.declared.deed.Deed.{Deed}
use Rattle.file_table.specs.declared.deed.Deed.TheVariants as deed
use Rattle.file_table.specs.declared.file_entry.FileEntry.{FileEntry}
use Rattle.file_table.specs.declared.file_entry.Registered.{Registered}
use Rattle.file_table.specs.declared.file_entry.Registered.TheVariants as registered
use Rattle.file_table.specs.declared.news.FileNews.{FileNews}
use Rattle.file_table.specs.declared.news.FileNews.TheVariants as news
use Rattle.file_table.specs.declared.closing.Closing.{Closing}
use Rattle.file_table.specs.declared.closing.Closing.TheVariants as closing
use Rattle.file_table.specs.declared.stand.AfterEnd.{AfterEnd}
use Rattle.file_table.specs.declared.stand.AfterEnd.TheVariants.{Opens, Stays, Goes}
use Rattle.file_table.specs.declared.stand.Stand.{Stand}
use Rattle.file_table.specs.declared.stand.Stand.TheVariants.{Waits, Open, Ending, Closed, Removed, Lost, Forgotten}
use Rattle.file_table.specs.Events.{FileEvent, begins, goes, has, has_row, heard, is_changed, cleans, is_idle, misses, opens, removes, returns, shuts, shuts_for, life, place_by, shown_by, since, stirs}
use Rattle.file_table.specs.Entries.{at_of}

-- ---- words of one file's events, from its beginning on

abbrev pub is_known : List FileEvent → Bool
is_known events = since begins goes events

abbrev pub is_open : List FileEvent → Bool
is_open events = since (heard opens) (heard shuts) events

abbrev pub is_removed : List FileEvent → Bool
is_removed events = since (heard removes) (heard returns) events

-- it was removed since its tail was opened
abbrev pub is_ending : List FileEvent → Bool
is_ending events = since (heard removes) (heard opens) events

-- of the input of a file that was removed last, such files are to be forgotten
abbrev pub is_cleaned : List FileEvent → Bool
is_cleaned events = since (heard cleans) (heard (λ one. removes one || returns one)) events

abbrev pub is_rested : List FileEvent → Bool
is_rested events = since (heard (shuts_for is_idle)) (heard stirs) events

-- its tail found another file, and since then no whole scan missed it
abbrev pub is_lost : List FileEvent → Bool
is_lost events = since (heard (shuts_for is_changed)) (heard (λ one. removes one || (shuts one || misses one))) events

-- a Begin of it was noted: at its first opening, or, if a row of it was stored, at its removal
abbrev pub is_begun : List FileEvent → Bool
is_begun events = has (heard opens) events || (has has_row events && has (heard removes) events)

abbrev pub first_place : Option At → At → At
first_place None later = later
first_place (Some at) later = at

-- the newest place that an event names
abbrev pub place_in : List FileEvent → At
place_in [] = at_of 0 0
place_in (newest ∷ earlier) = first_place (place_by newest) (place_in earlier)

abbrev pub first_scan : Option ℕ → Option ℕ → Option ℕ
first_scan None later = later
first_scan (Some scan) later = Some scan

-- the scan that showed its key last
abbrev pub shown_in : List FileEvent → Option ℕ
shown_in [] = None
shown_in (newest ∷ earlier) = first_scan (shown_by newest) (shown_in earlier)

-- ---- its state

-- the tail is open or not, and the file removed or present
abbrev pub IsSo : List FileEvent → Bool → Bool → Type 0
IsSo events tail gone = (is_open events ≡ tail) × (is_removed events ≡ gone)

abbrev pub StandsSo : List FileEvent → Stand → Type 0
StandsSo events Waits = IsSo events false false × (is_rested events ≡ false)
StandsSo events Closed = IsSo events false false × (is_rested events ≡ true)
StandsSo events Open = IsSo events true false × (is_ending events ≡ false)
StandsSo events (Ending Opens) = IsSo events true false × (is_ending events ≡ true) × (is_cleaned events ≡ false)
StandsSo events (Ending Stays) = IsSo events true true × (is_ending events ≡ true) × (is_cleaned events ≡ false)
StandsSo events (Ending Goes) = IsSo events true true × (is_ending events ≡ true) × (is_cleaned events ≡ true)
StandsSo events Removed = IsSo events false true × (is_cleaned events ≡ false) × (is_begun events ≡ true)
StandsSo events Lost = IsSo events false true × (is_cleaned events ≡ true) × (is_lost events ≡ true)
StandsSo events Forgotten = IsSo events false true × (is_lost events ≡ false) × ((is_cleaned events ≡ true) ⊎ (is_begun events ≡ false))

abbrev pub IsRegistered : List FileEvent → Registered → Type 0
IsRegistered events registered.Nothing = (has (heard opens) events ≡ false) × (has has_row events ≡ false)
IsRegistered events registered.Row = (has (heard opens) events ≡ false) × (has has_row events ≡ true) × (has (heard removes) events ≡ false)
IsRegistered events registered.Begin = is_begun events ≡ true

-- the entry of a known slot
pub record IsFileOf (events : List FileEvent) (entry : FileEntry) : Type 0 where
  pub known_is : is_known events ≡ true
  pub registered_is : IsRegistered (life events) entry.registered
  pub goes_on : entry.at ≡ place_in (life events)
  pub shown_is : entry.shown ≡ shown_in (life events)
  pub stands : StandsSo (life events) entry.stand

abbrev pub IsFile : List FileEvent → Option FileEntry → Type 0
IsFile events None = is_known events ≡ false
IsFile events (Some entry) = IsFileOf events entry

-- ---- what news asks for, by the events before it

abbrev pub deed_of_removed : Bool → List FileEvent → Deed
deed_of_removed clean events =
    if is_open events then deed.End
    else (if is_begun events then (if clean then deed.Forget (place_in events) else deed.Nothing)
    else (if has has_row events then deed.BeginRemoved clean else deed.Drop))

-- a tail that is closed at its end look, of a file that is to be forgotten
abbrev pub deed_of_shut : At → Closing → List FileEvent → Deed
deed_of_shut at closing.Ended events = if is_cleaned events then deed.Forget at else deed.Nothing
deed_of_shut at closing.Changed events = deed.Nothing
deed_of_shut at closing.Unread events = deed.Nothing
deed_of_shut at closing.Idle events = deed.Nothing

abbrev pub deed_for : List FileEvent → FileNews → Deed
deed_for events news.Returned = deed.Nothing
deed_for events (news.Renamed scan) = if is_begun events then deed.Rename scan else deed.Nothing
deed_for events news.Resized = if is_open events then deed.Stir else deed.Nothing
deed_for events (news.Removed clean) = deed_of_removed clean events
deed_for events (news.Shown scan) = deed.Nothing
deed_for events news.Missed = if not (is_open events) && (is_removed events && (is_cleaned events && is_lost events)) then deed.Forget (place_in events) else deed.Nothing
deed_for events (news.Opened at) = deed.Nothing
deed_for events (news.Shut at why) = deed_of_shut at why events

-- of a slot that the table does not know, nothing is asked
abbrev pub deed_in : List FileEvent → FileNews → Deed
deed_in events one = if is_known events then deed_for (life events) one else deed.Nothing
