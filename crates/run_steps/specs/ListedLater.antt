-- The files that later scans list (Filebeat reference, filestream input, prospector and registry; this project's profile): by which entries a run opens
-- a file for the first time after one of them, in which slot, and from where it is read.
use Rattle.std.specs.Prelude.{◌≡◌, ◌⊎◌, ℕ, ◌≤◌, List, [], ◌∷◌, ◌++◌, Contains, length, slice_get, Option, None, Some, IfSome, IsSome}
use Rattle.accounts.specs.Opened.{Opened}
use Rattle.event_tree.specs.declared.settings.Settings.{Settings}
use Rattle.multiline_core.specs.Rule.{IsGroupRule}
use Rattle.outside.specs.Folders.{FolderHistory}
use Rattle.prospect.specs.Doubled.{HaveKey}
use Rattle.prospect.specs.declared.listed.Listed.{Listed}
use Rattle.restart_join.specs.declared.start.Start.{Start}
use Rattle.ship_core.specs.Rows.{find}
use Rattle.wire_base.specs.declared.numbers.Slot.{Slot}
use Rattle.wire_base.specs.declared.row.Row.{Row}
use Rattle.run_steps.specs.BeginFor.{begin_for, start_among}
use Rattle.run_steps.specs.LaterScans.{LaterScan}
use Rattle.run_steps.specs.SoFar.{Earlier, opened_before}

-- one of these scans gave the entry
pub record GaveEntry (scans : List LaterScan) (entry : Listed) : Type 0 where
  pub scan : LaterScan
  pub of_scans : Contains scans scan
  pub among : Contains scan.files entry

-- the newest one gave it
pub record GaveEntryLast (scans : List LaterScan) (entry : Listed) : Type 0 where
  pub before : List LaterScan
  pub scan : LaterScan
  pub scans_are : scans ≡ before ++ scan ∷ []
  pub among : Contains scan.files entry

-- the opening is after all that the folder reported for the scan
abbrev pub WasOpenedAfter : LaterScan → Opened → Type 0
WasOpenedAfter scan opened = IfSome scan.told (λ told. length told.scanned.events ≤ opened.opening)

-- ---- the slot, and where the file begins

-- without an entry in the first scan: at the epoch and the offset of its row, and without a row at its first byte in epoch 0
abbrev pub start_unlisted : Option Row → Start
start_unlisted None = record { epoch = 0; base = 0 }
start_unlisted (Some row) = record { epoch = row.epoch.0; base = row.offset }

-- the first scan listed the key at the place that is the slot: the file begins by that entry and by the row of the key
pub record StartsByFirst (rows : List Row) (listed : List Listed) (slot : Slot) (key : List ℕ) (start : Start) : Type 0 where
  pub first : Listed
  pub listed_there : slice_get listed slot.0 ≡ Some first
  pub keyed : first.key ≡ Some key
  pub start_is : start ≡ start_among rows first

-- the first scan did not list the key, and the slot is after all places of its list: the file begins by the row of the key, if there is one
pub record StartsUnlisted (rows : List Row) (listed : List Listed) (slot : Slot) (key : List ℕ) (start : Start) : Type 0 where
  pub unlisted : ¬ (HaveKey listed (Some key))
  pub behind : length listed ≤ slot.0
  pub start_is : start ≡ start_unlisted (find key rows)

-- a file of this key that a later scan lists has this slot and begins there
abbrev pub IsKnownStart : List Row → List Listed → Slot → List ℕ → Start → Type 0
IsKnownStart rows listed slot key start = StartsByFirst rows listed slot key start ⊎ StartsUnlisted rows listed slot key start

-- ---- of a file that was opened first after a later scan

-- it was opened by an entry that a later scan gave, by its path; that entry has at least the size of the place from which the file is read. If the folder
-- showed what it reported by the first scan, the opening is after that later scan
pub record IsOpenedAsListedLater (settings : Settings) (shown : Option FolderHistory) (rows : List Row) (listed : List Listed) (scans : List LaterScan) (opened : Opened) : Type 0 where
  pub scan : LaterScan
  pub of_scans : Contains scans scan
  pub one : Listed
  pub among : Contains scan.files one
  pub keyed : one.key ≡ Some opened.begin.key
  pub start : Start
  pub starts : IsKnownStart rows listed opened.begin.slot opened.begin.key start
  pub begin_is : opened.begin ≡ begin_for opened.begin.slot one opened.begin.key start
  pub long_enough : start.base ≤ one.size
  pub after : IsSome shown → WasOpenedAfter scan opened
  pub rule_is : slice_get settings.inputs one.input ≡ Some opened.rule
  pub in_range : IsGroupRule opened.rule.multiline

-- ---- what a step supposes of the scans so far, and of the openings, those before the last ones first

-- the slot is that of a file, of whose key the newest scan gave the entry
pub record IsListedAnew (slot : Slot) (entry : Listed) (scans : List LaterScan) (earlier : List Earlier) (opened : List Opened) : Type 0 where
  pub file : Opened
  pub among : Contains opened file
  pub slot_is : file.begin.slot ≡ slot
  pub newest : GaveEntryLast scans entry
  pub keyed : (one : Opened) → Contains (opened_before earlier ++ opened) one → one.begin.slot ≡ slot → entry.key ≡ Some one.begin.key
