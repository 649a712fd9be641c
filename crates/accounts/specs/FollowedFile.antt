-- The files that a run follows, each by tails that were opened one by one (this project's profile): a scan listed them, the folder
-- opened them by their paths and found their keys, and what their tails told stands in the folder's list. The first tail begins where the
-- slot does, or from the first byte in the next epoch, if its file was listed with less than that by then. A tail is opened again only
-- after the one before it was closed; it goes on from the end of the last event that was told, in the same epoch where the file was listed
-- with at least that size, else from the first byte in the next one. By the last scan before an opening that showed the key it is known
-- with which size and by which path the file was listed.
use Rattle.std.specs.Prelude.{◌≡◌, ◌≢◌, ◌⊎◌, ℕ, zero, suc, ◌+◌, ◌<◌, ◌≤◌, max, length, List, [], ◌∷◌, ◌++◌, Contains, flat_map, map, slice_get, Option, None, Some, IfSome, true}
use Rattle.std.specs.List.{AllByRecursion}
use Rattle.file_identity.specs.AskedAgain.{GivesKey}
use Rattle.file_looks.specs.EndLook.{HasEndLook}
use Rattle.file_looks.specs.Segment.{Segment, segments_of}
use Rattle.harvester.specs.History.{Asks, Changed, Ended, History, Over, Reads, Stage, read_to, told_to}
use Rattle.kept_rows.specs.Followed.{IsBegun, IsClosedBefore, OnlyReads, Start, asked_openings, start_by}
use Rattle.kept_rows.specs.Lost.{WasClosedBefore}
use Rattle.kept_rows.specs.Run.{Run, Scan}
use Rattle.kept_rows.specs.Scans.{AreDistinct, IsBefore, IsBehind, IsFirstPath, IsWhole, ShowsFileTo, ShowsKey, moment_in}
use Rattle.kept_rows.specs.Telling.{begun_moment}
use Rattle.kept_rows.specs.Trace.{IsTail}
use Rattle.multiline_core.specs.Rule.{IsGroupRule}
use Rattle.outside.specs.Folders.{Opened as OpenedAs}
use Rattle.outside.specs.Tails.{TailHistory}
use Rattle.outside.specs.declared.history.Look.{Look}
use Rattle.outside.specs.declared.history.Shown.{Shown}
use Rattle.outside.specs.declared.history.Sight.{Sight}
use Rattle.ship_core.specs.Rows.{find}
use Rattle.slot_parts.specs.Account.{goes_on}
use Rattle.wire_base.specs.declared.row.Row.{Row}
use Rattle.accounts.specs.Filed.{Filed, Opening, Removal, first_opening, following_of, last_opening, left_in, slot_in, tail_by, told_both}
use Rattle.accounts.specs.Opened.{Opened}
use Rattle.accounts.specs.ToldFile.{IsToldFile, IsToldToItsEnd}
use Rattle.accounts.specs.Watch.{Name}
use Rattle.accounts.specs.Watched.{watch_in}

-- what the tail itself reported; the folder's closing has its looks once it is closed
abbrev pub tail_with : Opened → List Look → TailHistory
tail_with opened looks = record { opening = opened.opening; number = opened.number; file = opened.file; begun = opened.begun; looks = looks }

abbrev pub tail_of : Filed → TailHistory
tail_of file = tail_with file.opened file.looks

abbrev pub openings_in : Filed → List ℕ
openings_in file = file.opened.opening ∷ map (λ (one : Opening). one.opened.opening) file.later

abbrev pub key_in : Filed → List ℕ
key_in file = file.opened.begin.key

-- its epoch and place, as it was begun
abbrev pub start_in : Opened → Start
start_in opened = record { epoch = opened.begin.epoch.0; base = opened.begin.base }

-- ---- how it was listed

-- the last scan before the opening that showed the key showed it by this path first
pub record WasShownLast (run : Run) (opened : Opened) : Type 0 where
  pub front : List Scan
  pub scan : Scan
  pub behind : List Scan
  pub scans_are : run.scans ≡ front ++ scan ∷ behind
  pub made_before : IsBefore opened.opening scan
  pub none_nearer : AllByRecursion (λ other. ShowsKey run other opened.begin.key → ¬ (IsBefore opened.opening other)) behind
  pub number : ℕ
  pub shown : Shown
  pub shows : ShowsFileTo run scan opened.begin.input opened.begin.key number shown
  pub path_is : shown.entry.path ≡ opened.begin.path
  pub first : IsFirstPath run scan opened.begin.key number opened.begin.path

-- with what a slot begins by the scan of this number, from which on its key is known: from the registry's row and the listed size by the first
-- scan of the run, from the first byte by a later one
abbrev pub begins_by : ℕ → Option Row → ℕ → Start
begins_by zero row size = start_by row size
begins_by (suc earlier) row size = record { epoch = 0; base = 0 }

-- its key is known from the scan on that listed it as it was opened first, and by that entry it began
pub record BeginsThere (run : Run) (file : Filed) (shown : WasShownLast run file.opened) : Type 0 where
  pub number_is : file.known_from ≡ length shown.front
  pub starts : start_in file.opened ≡ begins_by file.known_from (find file.opened.begin.key run.opening) shown.shown.entry.size

-- its key was known before: an earlier scan showed it, or the registry had its row. It was not opened until this scan listed it, with no less than the
-- place at which it begins
pub record BeganEarlier (run : Run) (file : Filed) (shown : WasShownLast run file.opened) : Type 0 where
  pub earlier : file.known_from < length shown.front
  pub begun : IsBegun run (following_of file)
  pub within : file.opened.begin.base ≤ shown.shown.entry.size

-- its key was known before, and its slot began so; but this scan listed it with less than the place at which it begins, so its first tail reads the next
-- epoch, from the first byte
pub record ShrankBefore (run : Run) (file : Filed) (shown : WasShownLast run file.opened) (start : Start) : Type 0 where
  pub earlier : file.known_from < length shown.front
  pub begun : IsBegun run (following_of file)
  pub below : shown.shown.entry.size < start.base
  pub starts : start_in file.opened ≡ record { epoch = start.epoch + 1; base = 0 }

abbrev pub BeginsAs : (run : Run) (file : Filed) → WasShownLast run file.opened → Option Start → Type 0
BeginsAs run file shown None = BeginsThere run file shown ⊎ BeganEarlier run file shown
BeginsAs run file shown (Some start) = ShrankBefore run file shown start

-- as it was opened first
pub record IsListedAs (run : Run) (file : Filed) : Type 0 where
  pub last : WasShownLast run file.opened
  pub begins : BeginsAs run file last file.shrank_from

-- ---- the moment of its last change

-- the greater of the moment with which the slot begins and the one with which the entry was shown
abbrev pub moment_by : Run → Filed → Shown → ℕ
moment_by run file shown = max (begun_moment run (following_of file)) (moment_in shown)

-- another scan since its key is known showed it by this entry, whose path was the first
pub record WasShownAlso (run : Run) (file : Filed) (listed : IsListedAs run file) (shown : Shown) : Type 0 where
  pub place : ℕ
  pub scan : Scan
  pub scan_is : slice_get run.scans place ≡ Some scan
  pub since : file.known_from ≤ place
  pub another : place ≢ length listed.last.front
  pub number : ℕ
  pub shows : ShowsFileTo run scan file.opened.begin.input file.opened.begin.key number shown
  pub first : IsFirstPath run scan file.opened.begin.key number shown.entry.path

-- the greatest that was noted: the one with which the slot begins, or one with which a scan listed it
abbrev pub IsMomentOf : (run : Run) (file : Filed) → IsListedAs run file → Type 0
IsMomentOf run file listed =
    (file.changed ≡ begun_moment run (following_of file))
    ⊎ ((file.changed ≡ moment_by run file listed.last.shown)
    ⊎ ((shown : Shown) × WasShownAlso run file listed shown × (file.changed ≡ moment_by run file shown)))

-- ---- opened again

-- the tail was closed while it read on, at its file's end, or when the file had another key
abbrev pub MayReopenAt : Stage → Type 0
MayReopenAt Reads = Unit {0}
MayReopenAt Asks = ⊥
MayReopenAt Ended = Unit {0}
MayReopenAt Changed = Unit {0}
MayReopenAt Over = ⊥

-- its slot's file, by the settings and the folder's list, with what its tail reported
pub record IsOpeningOf (run : Run) (first : Opened) (one : Opening) : Type 0 where
  pub same_slot : one.opened.begin.slot ≡ first.begin.slot
  pub same_input : one.opened.begin.input ≡ first.begin.input
  pub same_key : one.opened.begin.key ≡ first.begin.key
  pub same_rule : one.opened.rule ≡ first.rule
  pub gave : GivesKey one.opened.rule one.opened.begin.key one.opened.begin.path one.opened.file one.opened.asked
  pub file_is : slice_get run.trace.files one.opened.number ≡ Some one.opened.file
  pub tail : IsTail run.trace one.opened.opening one.opened.begin.path one.opened.number one.looks
  pub told : IsToldFile (watch_in run) one.opened run.trace.moments (record { slot = first.begin.slot; history = one.history }) (Some (tail_with one.opened one.looks))

-- after the opening before it, when this much was reported so far
pub record IsReopened (run : Run) (first : Opened) (last : Opening) (so_far : History) (next : Opening) : Type 0 where
  pub is : IsOpeningOf run first next
  pub shown : WasShownLast run next.opened
  pub starts : start_in next.opened ≡ goes_on so_far.present.epoch (told_to so_far.present) shown.shown.entry.size
  pub may : MayReopenAt last.history.stage
  pub closed : IsClosedBefore run.trace (tail_by last).tail (tail_by next).tail

abbrev pub AreReopened : Run → Opened → Opening → History → List Opening → Type 0
AreReopened run first last so_far [] = Unit {0}
AreReopened run first last so_far (next ∷ later) = IsReopened run first last so_far next × AreReopened run first next (told_both so_far next.history) later

-- ---- removed

-- its looks end with its end look, up to which all complete lines are reported
pub record EndsAtItsEndLook (one : Opening) : Type 0 where
  pub told : IsToldToItsEnd one.history
  pub before : List Segment
  pub last : Segment
  pub segments_are : segments_of one.opened.begin.base one.looks ≡ before ++ last ∷ []
  pub found : HasEndLook last (read_to one.history.present)
  pub nothing_behind : found.behind ≡ []

-- it was opened before the scan, and read to its end
pub record IsReadBehind (run : Run) (scan : Scan) (one : Opening) : Type 0 where
  pub opened_before : IsBehind one.opened.opening scan
  pub ends : EndsAtItsEndLook one

-- a whole scan since its key is known showed no file with it. Either each of its tails was closed before that scan, the last one where it
-- could be opened again; or the last one was opened before it and read to its end. It left only later
pub record WasRemovedBy (run : Run) (file : Filed) (removal : Removal) : Type 0 where
  pub cleans : file.opened.rule.clean_removed ≡ true
  pub scan : Scan
  pub scan_is : slice_get run.scans removal.hidden_by ≡ Some scan
  pub since : file.known_from ≤ removal.hidden_by
  pub whole : IsWhole run scan
  pub not_shown : ¬ (ShowsKey run scan (key_in file))
  pub rests : MayReopenAt (last_opening file).history.stage
  pub done : AllByRecursion (WasClosedBefore run scan) (following_of file).tails ⊎ IsReadBehind run scan (last_opening file)
  pub left : IfSome removal.left_after (λ last. removal.hidden_by ≤ last)

-- an opening of a file that was known up to the scan of this number: it was listed for it by no later scan, and none named it since
pub record IsKnownTo (run : Run) (last : ℕ) (opened : Opened) (shown : WasShownLast run opened) (names : List Name) : Type 0 where
  pub listed : length shown.front ≤ last
  pub named : AllByRecursion (λ (name : Name). name.scan ≤ last) names

abbrev pub AreKnownTo : (run : Run) (last : ℕ) (first : Opened) (one : Opening) (so_far : History) (later : List Opening) → AreReopened run first one so_far later → Type 0
AreKnownTo run last first one so_far [] are = Unit {0}
AreKnownTo run last first one so_far (next ∷ later) are =
    IsKnownTo run last next.opened are.0.shown are.0.is.told.history.names × AreKnownTo run last first next (told_both so_far next.history) later are.1

-- ---- together

-- `told` is what outlives its first harvester; the others are in the settings, the scans and the folder's list
pub record IsFollowedFile (run : Run) (file : Filed) : Type 0 where
  pub rule_is : slice_get run.settings.inputs file.opened.begin.input ≡ Some file.opened.rule
  pub gave : GivesKey file.opened.rule file.opened.begin.key file.opened.begin.path file.opened.file file.opened.asked
  pub in_range : IsGroupRule file.opened.rule.multiline
  pub file_is : slice_get run.trace.files file.opened.number ≡ Some file.opened.file
  pub tail : IsTail run.trace file.opened.opening file.opened.begin.path file.opened.number file.looks
  pub told : IsToldFile (watch_in run) file.opened run.trace.moments file.turned (Some (tail_of file))
  pub listed : IsListedAs run file
  pub moment : IsMomentOf run file listed
  pub reopened : AreReopened run file.opened (first_opening file) file.turned.history file.later
  -- if it left, it was known up to then
  pub first_known : IfSome (left_in file) (λ last. IsKnownTo run last file.opened listed.last told.history.names)
  pub later_known : IfSome (left_in file) (λ last. AreKnownTo run last file.opened (first_opening file) file.turned.history file.later reopened)
  pub removed : IfSome file.removed (WasRemovedBy run file)

-- the slots rise from this one on
abbrev pub AreInSlots : ℕ → List Filed → Type 0
AreInSlots least [] = Unit {0}
AreInSlots least (file ∷ files) = (least ≤ slot_in file) × AreInSlots (slot_in file + 1) files

-- each opening of the run is that of one of the files, or its tail was not followed and reported no looks but reads
abbrev pub EachOpeningIsOne : Run → List Filed → Type 0
EachOpeningIsOne run files = (opening : ℕ) (path : List ℕ) (number : ℕ) (begun : Sight) → run.trace.began ≤ opening →
    slice_get run.trace.events opening ≡ Some (OpenedAs path number begun) →
    Contains (flat_map openings_in files) opening ⊎ OnlyReads run.trace opening

-- in the order of their slots; and each opening, those that only asked with them
pub record AreFollowedFiles (run : Run) (files : List Filed) : Type 0 where
  pub each : AllByRecursion (IsFollowedFile run) files
  pub slots : AreInSlots 0 files
  pub openings_apart : AreDistinct (asked_openings run ++ flat_map openings_in files)
  pub openings_serve : EachOpeningIsOne run files
