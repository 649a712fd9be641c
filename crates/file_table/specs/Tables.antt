-- Which events a table has taken in (this project's profile): it has an entry of each slot that began and is not gone since, as
-- the slot's events say.
use Rattle.std.specs.Prelude.{◌≡◌, ◌≢◌, ℕ, ◌≤◌, ◌<◌, Bool, true, false, not, ◌&&◌, List, ◌∷◌, Option, Some, None, IfSome}
use Rattle.std.specs.Borrow.{Bor}
use Rattle.std.specs.Option.{option_copied}
use Rattle.std.specs.BTreeMap.{get}
use Rattle.std.specs.Ordering.{nat_cmp}
use Rattle.wire_base.specs.declared.numbers.Slot.{Slot}
use Rattle.file_table.specs.declared.closing.Closing.{Closing}
use Rattle.file_table.specs.declared.closing.Inactive.{Inactive}
use Rattle.file_table.specs.declared.closing.TailLook.{TailLook}
use Rattle.file_table.specs.declared.deed.Deed.{Deed}
use Rattle.file_table.specs.declared.deed.Deed.TheVariants as deed
use Rattle.file_table.specs.declared.file_entry.FileEntry.{FileEntry}
use Rattle.file_table.specs.declared.news.FileNews.{FileNews}
use Rattle.file_table.specs.declared.news.FileNews.TheVariants.{Missed, Shut}
use Rattle.file_table.specs.declared.table.FileTable.{FileTable}
use Rattle.file_table.specs.Closings.{closing_of}
use Rattle.file_table.specs.Entries.{FitsNews, is_forgotten, is_scan}
use Rattle.file_table.specs.Events.{Began, Created, FileEvent, Gone, News, SlotEvent, events_of}
use Rattle.file_table.specs.Standing.{IsFile, deed_in}

abbrev pub file_of : FileTable → ℕ → Option FileEntry
file_of table slot = get nat_cmp table.files slot

-- the entry is lent, if there is one
abbrev pub Finds : Option FileEntry → Option (Bor FileEntry) → Type 0
Finds entry lent = option_copied lent ≡ entry

-- only a file that waits is opened, and a tail is closed for a reason that fits its file's state
abbrev pub MayHear : FileNews → Option FileEntry → Type 0
MayHear one entry = IfSome entry (λ known. FitsNews one known.stand)

-- the same entries
abbrev pub AreSame : FileTable → FileTable → Type 0
AreSame old new = new.files.entries ≡ old.files.entries

-- this is the entry of the slot now, and each other slot has the entry that it had
pub record Puts (old new : FileTable) (slot : ℕ) (entry : Option FileEntry) : Type 0 where
  pub here : file_of new slot ≡ entry
  pub others : (other : ℕ) → other ≢ slot → file_of new other ≡ file_of old other

abbrev pub StandsFor : List SlotEvent → FileTable → Type 0
StandsFor told table = (slot : ℕ) → IsFile (events_of slot told) (file_of table slot)

abbrev pub event_at : Slot → FileEvent → SlotEvent
event_at slot event = record { slot = slot.0; event = event }

-- one event more
abbrev pub Adds : SlotEvent → FileTable → FileTable → Type 0
Adds event old new = (told : List SlotEvent) → StandsFor told old → StandsFor (event ∷ told) new

abbrev pub deed_at : FileEvent → List FileEvent → Deed
deed_at (Began at row) events = deed.Nothing
deed_at Created events = deed.Nothing
deed_at (News news) events = deed_in events news
deed_at Gone events = deed.Nothing

-- what it asks for, by the events of its slot before it
abbrev pub AsksFor : SlotEvent → FileTable → Deed → Type 0
AsksFor event old asked = (told : List SlotEvent) → StandsFor told old → asked ≡ deed_at event.event (events_of event.slot told)

pub record Hears (event : SlotEvent) (old : FileTable) (asked : Deed) (new : FileTable) : Type 0 where
  pub adds : Adds event old new
  pub asks : AsksFor event old asked

-- nothing is heard, and nothing asked for
pub record HearsNone (old : FileTable) (asked : Deed) (new : FileTable) : Type 0 where
  pub same : AreSame old new
  pub none : asked ≡ deed.Nothing

-- by what a change says of a slot
abbrev pub Takes : Option SlotEvent → FileTable → Deed → FileTable → Type 0
Takes None old asked new = HearsNone old asked new
Takes (Some event) old asked new = Hears event old asked new

-- after a whole scan that showed no file with its key; after another scan nothing is known of that
abbrev pub was_missed : ℕ → Bool → Option FileEntry → Bool
was_missed scan whole None = false
was_missed scan whole (Some entry) = whole && not (is_scan scan entry.shown)

abbrev pub EndsScan : Bool → Slot → FileTable → Deed → FileTable → Type 0
EndsScan true slot old asked new = Hears (event_at slot (News Missed)) old asked new
EndsScan false slot old asked new = HearsNone old asked new

-- ---- closings

abbrev pub closing_at : Option FileEntry → TailLook → Inactive → Option Closing
closing_at None look inactive = None
closing_at (Some entry) look inactive = closing_of entry.stand look inactive

-- the tail is closed for this reason, and the file goes on from the end of its last span
pub record Closes (slot : Slot) (look : TailLook) (inactive : Inactive) (old : FileTable) (asked : Deed) (new : FileTable) : Type 0 where
  pub why : Closing
  pub is_why : closing_at (file_of old slot.0) look inactive ≡ Some why
  pub hears : Hears (event_at slot (News (Shut look.told why))) old asked new

-- ---- what leaves, and what there is

abbrev pub may_go : Bool → Option FileEntry → Bool
may_go stored None = false
may_go stored (Some entry) = not stored && is_forgotten entry.stand

-- the first entry from this slot on, if there is one
abbrev pub IsFirstFrom : ℕ → FileTable → Option (Slot × Bor FileEntry) → Type 0
IsFirstFrom from table None = (slot : ℕ) → from ≤ slot → file_of table slot ≡ None
IsFirstFrom from table (Some (slot, entry)) =
    (from ≤ slot.0) × (file_of table slot.0 ≡ Some entry.now) × ((other : ℕ) → from ≤ other → other < slot.0 → file_of table other ≡ None)
