-- How files are begun (this project's profile): the one of a slot is the one that the first scan listed at its place, from where its row stood on, or one
-- that a later scan lists.
-- Its Begin and the moment of its change are told to the keeper, and so are the paths by which later scans list it.
-- Slots of hidden rows stand behind those of the files.
use Rattle.std.specs.Prelude.{◌≡◌, ◌⊎◌, ℕ, ◌+◌, ◌≤◌, ◌<◌, List, [], ◌∷◌, Contains, slice_get, Option, Some, IfSome}
use Rattle.std.specs.List.{AllByRecursion}
use Rattle.accounts.specs.Hidden.{Hidden, hidden_begin}
use Rattle.accounts.specs.Opened.{Opened}
use Rattle.accounts.specs.ToldNotes.{IsOfHidden}
use Rattle.event_tree.specs.declared.settings.Settings.{Settings}
use Rattle.file_identity.specs.AskedAgain.{GivesKey}
use Rattle.multiline_core.specs.Rule.{IsGroupRule}
use Rattle.outside.specs.Folders.{FolderHistory}
use Rattle.prospect.specs.declared.listed.Listed.{Listed}
use Rattle.wire_base.specs.declared.note.Begin.{Begin as Beginning}
use Rattle.wire_base.specs.declared.note.Note.{Note}
use Rattle.wire_base.specs.declared.note.Note.TheVariants.{Begin, Seen}
use Rattle.wire_base.specs.declared.row.Row.{Row}
use Rattle.run_steps.specs.BeginFor.{begin_for, start_among}
use Rattle.run_steps.specs.LaterScans.{LaterScan}
use Rattle.run_steps.specs.ListedLater.{GaveEntry, IsOpenedAsListedLater}
use Rattle.run_steps.specs.Renamed.{IsRenameOf}
use Rattle.run_steps.specs.Telling.{moment_noted}

-- what is reported to the keeper of it; its change is noted after all Begins
abbrev pub noted_begin : Beginning → Note
noted_begin begin = Begin begin.slot begin.key begin.path begin.epoch begin.base (record { 0 = 0 })

-- it was opened as the first scan listed it, by its path
pub record IsOpenedAsListedFirst (settings : Settings) (rows : List Row) (listed : List Listed) (opened : Opened) : Type 0 where
  pub one : Listed
  pub listed_there : slice_get listed opened.begin.slot.0 ≡ Some one
  pub keyed : one.key ≡ Some opened.begin.key
  pub begin_is : opened.begin ≡ begin_for opened.begin.slot one opened.begin.key (start_among rows one)
  pub rule_is : slice_get settings.inputs one.input ≡ Some opened.rule
  pub in_range : IsGroupRule opened.rule.multiline

-- it was opened first by the first scan's entry, or by one of a later scan
abbrev pub IsOpenedAsListed : Settings → Option FolderHistory → List Row → List Listed → List LaterScan → Opened → Type 0
IsOpenedAsListed settings shown rows listed scans opened =
    IsOpenedAsListedFirst settings rows listed opened ⊎ IsOpenedAsListedLater settings shown rows listed scans opened

-- as it was opened, its file gave its key
abbrev pub IsKeyed : Opened → Type 0
IsKeyed opened = GivesKey opened.rule opened.begin.key opened.begin.path opened.file opened.asked

-- its rule is that of its input, and in range
pub record IsRuled (settings : Settings) (opened : Opened) : Type 0 where
  pub rule_is : slice_get settings.inputs opened.begin.input ≡ Some opened.rule
  pub in_range : IsGroupRule opened.rule.multiline

-- the slots rise from this one on
abbrev pub AreSlotsFrom : ℕ → List Opened → Type 0
AreSlotsFrom least [] = Unit {0}
AreSlotsFrom least (one ∷ others) = (least ≤ one.begin.slot.0) × AreSlotsFrom (one.begin.slot.0 + 1) others

-- the entry is of the file: the first scan gave it at the place that is its slot, or a later one gave it, with its key
abbrev pub IsEntryOf : List LaterScan → List Listed → Opened → Listed → Type 0
IsEntryOf scans listed file one =
    (slice_get listed file.begin.slot.0 ≡ Some one) ⊎ (GaveEntry scans one × (one.key ≡ Some file.begin.key))

-- the note says when one of these was changed
pub record IsSeenOf (scans : List LaterScan) (rows : List Row) (listed : List Listed) (opened : List Opened) (note : Note) : Type 0 where
  pub file : Opened
  pub among : Contains opened file
  pub one : Listed
  pub listed_there : IsEntryOf scans listed file one
  pub is : note ≡ Seen file.begin.slot (moment_noted rows one)

-- the note is the Begin of one of these
pub record IsBeginOfFile (opened : List Opened) (note : Note) : Type 0 where
  pub file : Opened
  pub among : Contains opened file
  pub is : note ≡ noted_begin file.begin

-- what the run may tell the keeper itself: the Begin of one of these, when one of them was changed, of hidden rows, and by which path a later scan shows
-- one of these
abbrev pub MayBegin : List LaterScan → List Row → List Listed → List Opened → List Hidden → Note → Type 0
MayBegin scans rows listed opened hiddens note =
    IsBeginOfFile opened note ⊎ (IsSeenOf scans rows listed opened note ⊎ (IsOfHidden hiddens note ⊎ IsRenameOf scans opened note))

-- the notes that it gave, in whichever order: the Begin of each is among them
pub record AreBeginNotes (scans : List LaterScan) (rows : List Row) (listed : List Listed) (opened : List Opened) (hiddens : List Hidden) (notes : List Note) : Type 0 where
  pub each : AllByRecursion (MayBegin scans rows listed opened hiddens) notes
  pub begun : AllByRecursion (λ one. Contains notes (noted_begin one.begin)) opened
  pub hidden_begun : AllByRecursion (λ hidden. Contains notes (hidden_begin hidden)) hiddens

-- it was reported to the keeper when each file was changed that was begun; a moment of 0 need not be noted
abbrev pub AreAllSeen : List Row → List Listed → List Note → Type 0
AreAllSeen rows listed notes = (begin : Beginning) → Contains notes (noted_begin begin) →
    IfSome (slice_get listed begin.slot.0) (λ one. 0 < (moment_noted rows one).0 → Contains notes (Seen begin.slot (moment_noted rows one)))
