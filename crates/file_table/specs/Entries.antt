-- The entries of a table (this project's profile): with which a file begins, at which place it is opened (Filebeat reference,
-- filestream input and its registry), and what news makes of one. Only private calls cite the last: its meaning is in Standing.
use Rattle.std.specs.Prelude.{◌≡◌, ℕ, ◌+◌, ◌==◌, nat_le, nat_lt, Bool, true, false, ◌&&◌, Option, Some, None, if◌then◌else◌}
use Rattle.file_table.specs.declared.at.At.{At}
use Rattle.file_table.specs.declared.closing.Closing.{Closing}
use Rattle.file_table.specs.declared.closing.Closing.TheVariants as closing
use Rattle.file_table.specs.declared.deed.Deed.{Deed}
use Rattle.file_table.specs.declared.deed.Deed.TheVariants as deed
use Rattle.file_table.specs.declared.file_entry.FileEntry.{FileEntry}
use Rattle.file_table.specs.declared.file_entry.Registered.{Registered}
use Rattle.file_table.specs.declared.file_entry.Registered.TheVariants as registered
use Rattle.file_table.specs.declared.news.FileNews.{FileNews}
use Rattle.file_table.specs.declared.news.FileNews.TheVariants as news
use Rattle.file_table.specs.declared.stand.AfterEnd.{AfterEnd}
use Rattle.file_table.specs.declared.stand.AfterEnd.TheVariants.{Opens, Stays, Goes}
use Rattle.file_table.specs.declared.stand.Stand.{Stand}
use Rattle.file_table.specs.declared.stand.Stand.TheVariants.{Waits, Open, Ending, Closed, Removed, Lost, Forgotten}
use Rattle.file_table.specs.Closings.{FitsClosing}

-- ---- the place from which a file goes on

abbrev pub at_of : ℕ → ℕ → At
at_of epoch place = record { epoch = record { 0 = epoch }; place = place }

-- its place if the listed size is at least that, else the next epoch and 0, if there is one
abbrev pub opening_at : At → ℕ → Option At
opening_at at size =
    if nat_le at.place size then Some at
    else (if nat_lt at.epoch.0 4_294_967_295 then Some (at_of (at.epoch.0 + 1) 0) else None)

-- ---- one entry

abbrev pub has_tail : Stand → Bool
has_tail Waits = false
has_tail Open = true
has_tail (Ending after) = true
has_tail Closed = false
has_tail Removed = false
has_tail Lost = false
has_tail Forgotten = false

abbrev pub is_waiting : Stand → Bool
is_waiting Waits = true
is_waiting Open = false
is_waiting (Ending after) = false
is_waiting Closed = false
is_waiting Removed = false
is_waiting Lost = false
is_waiting Forgotten = false

abbrev pub is_forgotten : Stand → Bool
is_forgotten Waits = false
is_forgotten Open = false
is_forgotten (Ending after) = false
is_forgotten Closed = false
is_forgotten Removed = false
is_forgotten Lost = false
is_forgotten Forgotten = true

-- a file with which the run begins; whether a row of it is stored
abbrev pub begun_entry : At → Bool → FileEntry
begun_entry at row = record { registered = if row then registered.Row else registered.Nothing; at = at; shown = None; stand = Waits }

-- a file that a scan shows for the first time
abbrev pub created_entry : FileEntry
created_entry = begun_entry (at_of 0 0) false

abbrev pub is_scan : ℕ → Option ℕ → Bool
is_scan scan None = false
is_scan scan (Some other) = other == scan

-- it is to be opened after this scan
abbrev pub waits_in : ℕ → FileEntry → Bool
waits_in scan entry = is_waiting entry.stand && is_scan scan entry.shown

-- ---- what news makes of it

abbrev pub after_removal : Bool → AfterEnd
after_removal true = Goes
after_removal false = Stays

abbrev pub removed_stand : Bool → Stand
removed_stand true = Forgotten
removed_stand false = Removed

abbrev pub returned_stand : Stand → Stand
returned_stand Waits = Waits
returned_stand Open = Open
returned_stand (Ending after) = Ending Opens
returned_stand Closed = Waits
returned_stand Removed = Waits
returned_stand Lost = Waits
returned_stand Forgotten = Waits

abbrev pub resized_stand : Stand → Stand
resized_stand Waits = Waits
resized_stand Open = Open
resized_stand (Ending after) = Ending after
resized_stand Closed = Waits
resized_stand Removed = Removed
resized_stand Lost = Lost
resized_stand Forgotten = Forgotten

abbrev pub missed_stand : Stand → Stand
missed_stand Waits = Waits
missed_stand Open = Open
missed_stand (Ending after) = Ending after
missed_stand Closed = Closed
missed_stand Removed = Removed
missed_stand Lost = Forgotten
missed_stand Forgotten = Forgotten

abbrev pub shut_clean : Closing → Stand
shut_clean closing.Changed = Lost
shut_clean closing.Ended = Forgotten
shut_clean closing.Unread = Forgotten
shut_clean closing.Idle = Forgotten

abbrev pub shut_present : Closing → Stand
shut_present closing.Changed = Waits
shut_present closing.Ended = Waits
shut_present closing.Unread = Waits
shut_present closing.Idle = Closed

abbrev pub shut_stand : Closing → Stand → Stand
shut_stand why (Ending Opens) = Waits
shut_stand why (Ending Stays) = Removed
shut_stand why (Ending Goes) = shut_clean why
shut_stand why Waits = shut_present why
shut_stand why Open = shut_present why
shut_stand why Closed = shut_present why
shut_stand why Removed = shut_present why
shut_stand why Lost = shut_present why
shut_stand why Forgotten = shut_present why

-- of a file without a tail, by what the registry has of it
abbrev pub untailed_entry : Bool → Registered → FileEntry → FileEntry
untailed_entry clean registered.Nothing entry = record entry { stand = Forgotten }
untailed_entry clean registered.Row entry = record entry { registered = registered.Begin; stand = removed_stand clean }
untailed_entry clean registered.Begin entry = record entry { stand = removed_stand clean }

abbrev pub removed_entry : Bool → FileEntry → FileEntry
removed_entry clean entry =
    if has_tail entry.stand then record entry { stand = Ending (after_removal clean) } else untailed_entry clean entry.registered entry

abbrev pub next_entry : FileNews → FileEntry → FileEntry
next_entry news.Returned entry = record entry { stand = returned_stand entry.stand }
next_entry (news.Renamed scan) entry = entry
next_entry news.Resized entry = record entry { stand = resized_stand entry.stand }
next_entry (news.Removed clean) entry = removed_entry clean entry
next_entry (news.Shown scan) entry = record entry { shown = Some scan }
next_entry news.Missed entry = record entry { stand = missed_stand entry.stand }
next_entry (news.Opened at) entry = record entry { registered = registered.Begin; at = at; stand = Open }
next_entry (news.Shut at why) entry = record entry { at = at; stand = shut_stand why entry.stand }

-- ---- what it asks for

abbrev pub forget_where : Stand → At → Deed
forget_where Waits at = deed.Nothing
forget_where Open at = deed.Nothing
forget_where (Ending after) at = deed.Nothing
forget_where Closed at = deed.Nothing
forget_where Removed at = deed.Nothing
forget_where Lost at = deed.Nothing
forget_where Forgotten at = deed.Forget at

abbrev pub missed_deed : Stand → At → Deed
missed_deed Waits at = deed.Nothing
missed_deed Open at = deed.Nothing
missed_deed (Ending after) at = deed.Nothing
missed_deed Closed at = deed.Nothing
missed_deed Removed at = deed.Nothing
missed_deed Lost at = deed.Forget at
missed_deed Forgotten at = deed.Nothing

abbrev pub untailed_deed : Bool → Registered → At → Deed
untailed_deed clean registered.Nothing at = deed.Drop
untailed_deed clean registered.Row at = deed.BeginRemoved clean
untailed_deed clean registered.Begin at = if clean then deed.Forget at else deed.Nothing

abbrev pub renamed_deed : ℕ → Registered → Deed
renamed_deed scan registered.Nothing = deed.Nothing
renamed_deed scan registered.Row = deed.Nothing
renamed_deed scan registered.Begin = deed.Rename scan

abbrev pub deed_of : FileNews → FileEntry → Deed
deed_of news.Returned entry = deed.Nothing
deed_of (news.Renamed scan) entry = renamed_deed scan entry.registered
deed_of news.Resized entry = if has_tail entry.stand then deed.Stir else deed.Nothing
deed_of (news.Removed clean) entry = if has_tail entry.stand then deed.End else untailed_deed clean entry.registered entry.at
deed_of (news.Shown scan) entry = deed.Nothing
deed_of news.Missed entry = missed_deed entry.stand entry.at
deed_of (news.Opened at) entry = deed.Nothing
deed_of (news.Shut at why) entry = forget_where (shut_stand why entry.stand) at

-- ---- which news a file in a state may have

abbrev pub FitsNews : FileNews → Stand → Type 0
FitsNews news.Returned stand = Unit {0}
FitsNews (news.Renamed scan) stand = Unit {0}
FitsNews news.Resized stand = Unit {0}
FitsNews (news.Removed clean) stand = Unit {0}
FitsNews (news.Shown scan) stand = Unit {0}
FitsNews news.Missed stand = Unit {0}
FitsNews (news.Opened at) stand = stand ≡ Waits
FitsNews (news.Shut at why) stand = FitsClosing why stand
