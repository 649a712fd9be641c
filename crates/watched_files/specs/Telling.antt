-- What a scan tells the table of files, and what that asks for (this project's profile). In this order: each file that it shows
-- for the first time is created; each further change is told; each listed file is shown; and, if the scan is whole, each
-- known file that it did not show is missed. Lists of events that were told have the newest first.
use Rattle.std.specs.Prelude.{ℕ, ◌==◌, Bool, true, false, List, [], ◌∷◌, ◌++◌, flat_map, map, Option, Some, None, is_some, if◌then◌else◌}
use Rattle.prospector_core.specs.declared.change.Change.{Change}
use Rattle.prospector_core.specs.declared.change.Change.TheVariants as change
use Rattle.prospector_core.specs.declared.known.Known.{Known}
use Rattle.prospector_core.specs.declared.seen.Seen.{Seen}
use Rattle.prospector_core.specs.Changes.{changes_between, cleans, created_files, known_after, new_members, slot_of}
use Rattle.prospector_core.specs.KnownFiles.{KnownFiles, slot_with}
use Rattle.ship_core.specs.Rows.{find}
use Rattle.wire_base.specs.declared.note.Begin.{Begin}
use Rattle.wire_base.specs.declared.numbers.Slot.{Slot}
use Rattle.wire_base.specs.declared.row.Row.{Row}
use Rattle.file_table.specs.declared.at.At.{At}
use Rattle.file_table.specs.declared.deed.Deed.{Deed}
use Rattle.file_table.specs.declared.deed.Deed.TheVariants as deed
use Rattle.file_table.specs.declared.news.FileNews.TheVariants.{Returned, Renamed, Resized, Removed, Shown, Missed}
use Rattle.file_table.specs.Entries.{at_of, is_scan}
use Rattle.file_table.specs.Events.{Began, Created, News, SlotEvent, events_of, life}
use Rattle.file_table.specs.Standing.{shown_in}
use Rattle.file_table.specs.Tables.{deed_at}
use Rattle.watched_files.specs.declared.slot_deed.SlotDeed.{SlotDeed}

-- these events, the first of them first
abbrev pub tell : List SlotEvent → List SlotEvent → List SlotEvent
tell told [] = told
tell told (event ∷ events) = tell (event ∷ told) events

-- whether something is asked for
abbrev pub asks : Deed → Bool
asks deed.Nothing = false
asks (deed.Rename scan) = true
asks deed.Stir = true
asks deed.End = true
asks (deed.BeginRemoved forget) = true
asks (deed.Forget at) = true
asks deed.Drop = true

abbrev pub asked : ℕ → Deed → List SlotDeed
asked slot one = if asks one then record { slot = slot_of slot; deed = one } ∷ [] else []

-- what these events ask for, each by those before it
abbrev pub deeds_by : List SlotEvent → List SlotEvent → List SlotDeed
deeds_by told [] = []
deeds_by told (event ∷ events) = asked event.slot (deed_at event.event (events_of event.slot told)) ++ deeds_by (event ∷ told) events

-- ---- the files with which a run begins

-- the place of the row, and epoch 0 and 0 without one
abbrev pub row_place : Option Row → At
row_place None = at_of 0 0
row_place (Some row) = at_of row.epoch.0 row.offset

abbrev pub began_event : List Row → Begin → SlotEvent
began_event rows begin = record { slot = begin.slot.0; event = Began (row_place (find begin.key rows)) (is_some (find begin.key rows)) }

abbrev pub began_events : List Row → List Begin → List SlotEvent
began_events rows begins = map (began_event rows) begins

-- ---- the events of a scan

abbrev pub created_event : Known → SlotEvent
created_event file = record { slot = file.slot.0; event = Created }

-- of the files that the scan shows for the first time, in the order of their slots
abbrev pub created_events : KnownFiles → List Seen → List SlotEvent
created_events known seen = map created_event (created_files known.next (new_members known.files seen))

-- whether removed files of the input of this slot's file are to be forgotten
abbrev pub cleans_at : List Bool → List Known → ℕ → Bool
cleans_at clean [] slot = false
cleans_at clean (file ∷ files) slot = if file.slot.0 == slot then cleans clean file.input else cleans_at clean files slot

-- of a change in the scan of this number, by the files known after it
abbrev pub change_events : ℕ → List Bool → List Known → Change → List SlotEvent
change_events number clean files (change.Created slot input key path size) = []
change_events number clean files (change.Returned slot path size) = record { slot = slot.0; event = News Returned } ∷ []
change_events number clean files (change.Renamed slot from to) = record { slot = slot.0; event = News (Renamed number) } ∷ []
change_events number clean files (change.Written slot size) = record { slot = slot.0; event = News Resized } ∷ []
change_events number clean files (change.Truncated slot size) = record { slot = slot.0; event = News Resized } ∷ []
change_events number clean files (change.Removed slot) = record { slot = slot.0; event = News (Removed (cleans_at clean files slot.0)) } ∷ []
change_events number clean files (change.Doubled path) = []

abbrev pub shown_at : ℕ → Option Slot → List SlotEvent
shown_at number None = []
shown_at number (Some slot) = record { slot = slot.0; event = News (Shown number) } ∷ []

-- of a listed file
abbrev pub shown_events : ℕ → List Known → Seen → List SlotEvent
shown_events number files member = shown_at number (slot_with member.key files)

-- of a known file that no event so far says was shown by the scan of this number
abbrev pub missed_one : ℕ → List SlotEvent → Known → List SlotEvent
missed_one number told file =
    if is_scan number (shown_in (life (events_of file.slot.0 told))) then [] else record { slot = file.slot.0; event = News Missed } ∷ []

-- of these files, in the order of their slots
abbrev pub missed_events : ℕ → List SlotEvent → List Known → List SlotEvent
missed_events number told [] = []
missed_events number told (file ∷ files) =
    missed_one number told file ++ missed_events number (tell told (missed_one number told file)) files

-- ---- what was told after each part of it

abbrev pub told_created : KnownFiles → List Seen → List SlotEvent → List SlotEvent
told_created known seen told = tell told (created_events known seen)

abbrev pub told_changes : ℕ → List Bool → Bool → KnownFiles → List Seen → List SlotEvent
told_changes number clean whole known seen =
    flat_map (change_events number clean (known_after clean whole known seen).files) (changes_between clean whole known seen)

abbrev pub told_shown : ℕ → List Bool → Bool → KnownFiles → List Seen → List SlotEvent
told_shown number clean whole known seen = flat_map (shown_events number (known_after clean whole known seen).files) seen

-- only a whole scan misses files
abbrev pub missed_if : Bool → ℕ → List SlotEvent → List Known → List SlotEvent
missed_if whole number told files = if whole then missed_events number told files else []

abbrev pub told_missed : ℕ → List Bool → Bool → KnownFiles → List Seen → List SlotEvent → List SlotEvent
told_missed number clean whole known seen told = missed_if whole number told (known_after clean whole known seen).files

-- once all that it lists was told
abbrev pub before_missed : ℕ → List Bool → Bool → KnownFiles → List Seen → List SlotEvent → List SlotEvent
before_missed number clean whole known seen told =
    tell (tell (told_created known seen told) (told_changes number clean whole known seen)) (told_shown number clean whole known seen)

-- all that was told once the scan is taken
abbrev pub after_scan : ℕ → List Bool → Bool → KnownFiles → List Seen → List SlotEvent → List SlotEvent
after_scan number clean whole known seen told =
    tell (before_missed number clean whole known seen told)
    (told_missed number clean whole known seen (before_missed number clean whole known seen told))

-- what the scan asks for; that a file is created or shown asks for nothing
abbrev pub scan_deeds : ℕ → List Bool → Bool → KnownFiles → List Seen → List SlotEvent → List SlotDeed
scan_deeds number clean whole known seen told =
    deeds_by (told_created known seen told) (told_changes number clean whole known seen)
    ++ deeds_by (before_missed number clean whole known seen told)
    (told_missed number clean whole known seen (before_missed number clean whole known seen told))
