-- What a table took in of files so far (this project's profile): that the run begins with a file, that a scan shows one for
-- the first time, news of one, and that one is gone. Lists of these have the newest first.
use Rattle.std.specs.Prelude.{ℕ, ◌==◌, Bool, true, false, not, ◌&&◌, ◌||◌, List, [], ◌∷◌, Option, Some, None, if◌then◌else◌}
use Rattle.prospector_core.specs.declared.change.Change.{Change}
use Rattle.prospector_core.specs.declared.change.Change.TheVariants as change
use Rattle.file_table.specs.declared.at.At.{At}
use Rattle.file_table.specs.declared.closing.Closing.{Closing}
use Rattle.file_table.specs.declared.closing.Closing.TheVariants as closing
use Rattle.file_table.specs.declared.news.FileNews.{FileNews}
use Rattle.file_table.specs.declared.news.FileNews.TheVariants.{Returned, Renamed, Resized, Removed, Shown, Missed, Opened, Shut}
use Rattle.file_table.specs.Entries.{at_of}

pub data FileEvent : Type 0 where
  -- the run begins with the file, which goes on at this place; whether a row of it is stored
  Began : At → Bool → FileEvent
  Created : FileEvent
  News : FileNews → FileEvent
  Gone : FileEvent

pub record SlotEvent : Type 0 where
  pub slot : ℕ
  pub event : FileEvent

-- those of one slot
abbrev pub events_of : ℕ → List SlotEvent → List FileEvent
events_of slot [] = []
events_of slot (one ∷ others) = if slot == one.slot then one.event ∷ events_of slot others else events_of slot others

-- what a change says of the slot that it names, by its scan and by whether removed files of the input are to be forgotten
abbrev pub news_of : ℕ → Bool → Change → Option SlotEvent
news_of scan clean (change.Created slot input key path size) = Some (record { slot = slot.0; event = Created })
news_of scan clean (change.Returned slot path size) = Some (record { slot = slot.0; event = News Returned })
news_of scan clean (change.Renamed slot from to) = Some (record { slot = slot.0; event = News (Renamed scan) })
news_of scan clean (change.Written slot size) = Some (record { slot = slot.0; event = News Resized })
news_of scan clean (change.Truncated slot size) = Some (record { slot = slot.0; event = News Resized })
news_of scan clean (change.Removed slot) = Some (record { slot = slot.0; event = News (Removed clean) })
news_of scan clean (change.Doubled path) = None

abbrev pub IsCreated : Change → Type 0
IsCreated (change.Created slot input key path size) = Unit {0}
IsCreated (change.Returned slot path size) = ⊥
IsCreated (change.Renamed slot from to) = ⊥
IsCreated (change.Written slot size) = ⊥
IsCreated (change.Truncated slot size) = ⊥
IsCreated (change.Removed slot) = ⊥
IsCreated (change.Doubled path) = ⊥

-- ---- words about such a list

-- some such event, and after it none that ends it
abbrev pub since : (FileEvent → Bool) → (FileEvent → Bool) → List FileEvent → Bool
since is ends [] = false
since is ends (newest ∷ earlier) = is newest || (not (ends newest) && since is ends earlier)

abbrev pub none : FileEvent → Bool
none event = false

abbrev pub has : (FileEvent → Bool) → List FileEvent → Bool
has is events = since is none events

-- the events from the newest one on that begins a file
abbrev pub life : List FileEvent → List FileEvent
life [] = []
life (Began at row ∷ earlier) = Began at row ∷ []
life (Created ∷ earlier) = Created ∷ []
life (News news ∷ earlier) = News news ∷ life earlier
life (Gone ∷ earlier) = Gone ∷ life earlier

-- ---- kinds of events

abbrev pub begins : FileEvent → Bool
begins (Began at row) = true
begins Created = true
begins (News news) = false
begins Gone = false

abbrev pub goes : FileEvent → Bool
goes (Began at row) = false
goes Created = false
goes (News news) = false
goes Gone = true

abbrev pub has_row : FileEvent → Bool
has_row (Began at row) = row
has_row Created = false
has_row (News news) = false
has_row Gone = false

-- an event that is such news
abbrev pub heard : (FileNews → Bool) → FileEvent → Bool
heard is (Began at row) = false
heard is Created = false
heard is (News news) = is news
heard is Gone = false

abbrev pub opens : FileNews → Bool
opens Returned = false
opens (Renamed scan) = false
opens Resized = false
opens (Removed clean) = false
opens (Shown scan) = false
opens Missed = false
opens (Opened at) = true
opens (Shut at why) = false

abbrev pub shuts : FileNews → Bool
shuts Returned = false
shuts (Renamed scan) = false
shuts Resized = false
shuts (Removed clean) = false
shuts (Shown scan) = false
shuts Missed = false
shuts (Opened at) = false
shuts (Shut at why) = true

abbrev pub returns : FileNews → Bool
returns Returned = true
returns (Renamed scan) = false
returns Resized = false
returns (Removed clean) = false
returns (Shown scan) = false
returns Missed = false
returns (Opened at) = false
returns (Shut at why) = false

abbrev pub removes : FileNews → Bool
removes Returned = false
removes (Renamed scan) = false
removes Resized = false
removes (Removed clean) = true
removes (Shown scan) = false
removes Missed = false
removes (Opened at) = false
removes (Shut at why) = false

-- removed, and such files of its input are to be forgotten
abbrev pub cleans : FileNews → Bool
cleans Returned = false
cleans (Renamed scan) = false
cleans Resized = false
cleans (Removed clean) = clean
cleans (Shown scan) = false
cleans Missed = false
cleans (Opened at) = false
cleans (Shut at why) = false

abbrev pub shuts_for : (Closing → Bool) → FileNews → Bool
shuts_for is Returned = false
shuts_for is (Renamed scan) = false
shuts_for is Resized = false
shuts_for is (Removed clean) = false
shuts_for is (Shown scan) = false
shuts_for is Missed = false
shuts_for is (Opened at) = false
shuts_for is (Shut at why) = is why

abbrev pub is_idle : Closing → Bool
is_idle closing.Changed = false
is_idle closing.Ended = false
is_idle closing.Unread = false
is_idle closing.Idle = true

abbrev pub is_changed : Closing → Bool
is_changed closing.Changed = true
is_changed closing.Ended = false
is_changed closing.Unread = false
is_changed closing.Idle = false

-- a change of the file, an opening or a closing: all but a new name, and what scans show of its key
abbrev pub stirs : FileNews → Bool
stirs Returned = true
stirs (Renamed scan) = false
stirs Resized = true
stirs (Removed clean) = true
stirs (Shown scan) = false
stirs Missed = false
stirs (Opened at) = true
stirs (Shut at why) = true

abbrev pub misses : FileNews → Bool
misses Returned = false
misses (Renamed scan) = false
misses Resized = false
misses (Removed clean) = false
misses (Shown scan) = false
misses Missed = true
misses (Opened at) = false
misses (Shut at why) = false

-- the place from which the file goes on, if it names one
abbrev pub place_by : FileEvent → Option At
place_by (Began at row) = Some at
place_by Created = Some (at_of 0 0)
place_by (News Returned) = None
place_by (News (Renamed scan)) = None
place_by (News Resized) = None
place_by (News (Removed clean)) = None
place_by (News (Shown scan)) = None
place_by (News Missed) = None
place_by (News (Opened at)) = Some at
place_by (News (Shut at why)) = Some at
place_by Gone = None

-- the scan by which it was shown
abbrev pub shown_by : FileEvent → Option ℕ
shown_by (Began at row) = None
shown_by Created = None
shown_by (News Returned) = None
shown_by (News (Renamed scan)) = None
shown_by (News Resized) = None
shown_by (News (Removed clean)) = None
shown_by (News (Shown scan)) = Some scan
shown_by (News Missed) = None
shown_by (News (Opened at)) = None
shown_by (News (Shut at why)) = None
shown_by Gone = None
