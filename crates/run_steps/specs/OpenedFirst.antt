-- A file that is opened for the first time after a later scan (Filebeat reference, filestream input; this project's profile): its opening is put among
-- those of the other files in the order of the slots, the keeper is told its Begin, and a lane has one more harvester, of which nothing was told yet.
use Rattle.std.specs.Prelude.{◌≡◌, ◌≢◌, ℕ, nat_le, List, [], ◌∷◌, ◌++◌, Contains, Some, if◌then◌else◌}
use Rattle.accounts.specs.Hidden.{Hidden}
use Rattle.accounts.specs.Opened.{Opened}
use Rattle.event_tree.specs.declared.processor_rule.ProcessorRule.{ProcessorRule}
use Rattle.wire_base.specs.declared.numbers.Slot.{Slot}
use Rattle.run_steps.specs.Began.{Began}
use Rattle.run_steps.specs.Beginning.{ListedFile}
use Rattle.run_steps.specs.Begun.{noted_begin}
use Rattle.run_steps.specs.ListedLater.{GaveEntryLast, IsKnownStart}
use Rattle.run_steps.specs.OpenedAgain.{HasOneMore, just_opened}
use Rattle.run_steps.specs.SoFar.{SoFar}

-- before the first opening of a slot that is not below its own
abbrev pub put_opened : Opened → List Opened → List Opened
put_opened one [] = one ∷ []
put_opened one (other ∷ opened) = if nat_le one.begin.slot.0 other.begin.slot.0 then one ∷ other ∷ opened else other ∷ put_opened one opened

-- no file that was opened has the slot, and no hidden row has it
pub record IsFreeSlot (slot : Slot) (so_far : SoFar) : Type 0 where
  pub no_file : (one : Opened) → Contains so_far.opened one → one.begin.slot ≢ slot
  pub no_hidden : (hidden : Hidden) → Contains so_far.hidden hidden → hidden.slot ≢ slot

-- no file that was opened has the key, and no hidden row has it
pub record IsNewKey (key : List ℕ) (so_far : SoFar) : Type 0 where
  pub no_file : (one : Opened) → Contains so_far.opened one → one.begin.key ≢ key
  pub no_hidden : (hidden : Hidden) → Contains so_far.hidden hidden → hidden.row.key ≢ key

-- the newest scan gave the entry of the file, whose key is that of no other one, and which begins in a free slot where a file of its key begins
pub record IsListedUnopened {D : Type 0} (start : Began D) (file : ListedFile) (so_far : SoFar) : Type 0 where
  pub newest : GaveEntryLast so_far.scans file.listed
  pub key : List ℕ
  pub keyed : file.listed.key ≡ Some key
  pub new_key : IsNewKey key so_far
  pub starts : IsKnownStart start.opening start.listed file.slot key file.start
  pub free : IsFreeSlot file.slot so_far

-- this opening was put among them, at this moment
pub record IsOpenedFirst (processors : List ProcessorRule) (now : ℕ) (one : Opened) (before after : SoFar) : Type 0 where
  pub opened : after.opened ≡ put_opened one before.opened
  pub begun : after.begun ≡ before.begun ++ noted_begin one.begin ∷ []
  pub lanes : HasOneMore (just_opened processors one now) before.lanes after.lanes
  -- and all else is as it was
  pub others : after ≡ record before { opened = after.opened; lanes = after.lanes; begun = after.begun }
