-- The files of a run with what was reported of them (this project's profile), and their account as a whole. A file is opened again after its
-- tail was closed: what its tails reported, one by one, is joined in one account.
use Rattle.std.specs.Prelude.{◌≡◌, ℕ, ◌-◌, ◌==◌, List, [], ◌∷◌, ◌++◌, Contains, map, take, Option, None, Some, if◌then◌else◌}
use Rattle.harvester.specs.History.{History, Telling, told_to}
use Rattle.kept_rows.specs.Account.{Following, Place, SlotAccount}
use Rattle.kept_rows.specs.Followed.{Start}
use Rattle.outside.specs.declared.history.Look.{Look}
use Rattle.slot_parts.specs.Account.{slot_account}
use Rattle.slot_parts.specs.Parts.{EpochParts, Part, epochs_of, told_in}
use Rattle.slot_parts.specs.Tails.{ToldTail, parts_in, tails_of}
use Rattle.slot_parts.specs.Tellings.{tellings_in}
use Rattle.wire_base.specs.declared.note.Note.{Note}
use Rattle.wire_base.specs.declared.note.Note.TheVariants.{Begin}
use Rattle.wire_base.specs.declared.numbers.Moment.{Moment}
use Rattle.wire_base.specs.declared.parcel.Parcel.{Parcel}
use Rattle.accounts.specs.Accounted.{place_in, told_tail}
use Rattle.accounts.specs.Opened.{Opened}
use Rattle.accounts.specs.ToldFile.{AreEpochsFrom}
use Rattle.accounts.specs.Turned.{Turned}

-- an opening of a slot's file: what its tail reported, and what its harvester reported of it
pub record Opening : Type 0 where
  pub opened : Opened
  pub history : History
  pub looks : List Look

-- of a file whose key a whole scan did not show: the number of that scan, by which its row may go; and if the file left what the run knows,
-- the number of the last scan before
pub record Removal : Type 0 where
  pub hidden_by : ℕ
  pub left_after : Option ℕ

-- what its first tail told, the greatest moment of change that was noted of it, the number of the scan from which on its key is known, the
-- openings behind its first one, in order, how it was removed, if it was and the run told that its row goes; and with what its slot begins, if it was
-- listed with less than that before its first tail was opened, which then read the next epoch
pub record Filed : Type 0 where
  pub opened : Opened
  pub turned : Turned
  pub looks : List Look
  pub changed : ℕ
  pub known_from : ℕ
  pub later : List Opening
  pub removed : Option Removal
  pub shrank_from : Option Start

abbrev pub slot_in : Filed → ℕ
slot_in file = file.opened.begin.slot.0

-- with what its slot begins: with the epoch and the place of its first tail, if it did not shrink before
abbrev pub begun_by : Opened → Option Start → Start
begun_by opened None = record { epoch = opened.begin.epoch.0; base = opened.begin.base }
begun_by opened (Some start) = start

abbrev pub begun_in : Filed → Start
begun_in file = begun_by file.opened file.shrank_from

-- the note that tells so, with this path and this moment
abbrev pub its_begin : Filed → List ℕ → Moment → Note
its_begin file path changed = Begin file.opened.begin.slot file.opened.begin.key path (record { 0 = (begun_in file).epoch }) (begun_in file).base changed

abbrev pub first_opening : Filed → Opening
first_opening file = record { opened = file.opened; history = file.turned.history; looks = file.looks }

abbrev pub last_of : Opening → List Opening → Opening
last_of first [] = first
last_of first (next ∷ later) = last_of next later

abbrev pub last_opening : Filed → Opening
last_opening file = last_of (first_opening file) file.later

-- the number of the scan after which it left
abbrev pub left_by : Option Removal → Option ℕ
left_by None = None
left_by (Some removal) = removal.left_after

abbrev pub left_in : Filed → Option ℕ
left_in file = left_by file.removed

-- ---- what was reported of it over all its openings

-- an epoch that a later tail goes on to report, from where it was reported so far
abbrev pub told_on : Telling → Telling → Telling
told_on before telling = record {
  epoch = before.epoch;
  start = before.start;
  bytes = take (told_to before - before.start) before.bytes ++ telling.bytes;
  licences = before.licences ++ telling.licences;
  told = before.told ++ telling.told;
}

-- the first of the later epochs goes on with the present one if it has its number
abbrev pub epochs_behind : List Telling → Telling → History → List Telling → History
epochs_behind past present next [] =
    if next.present.epoch == present.epoch then record next { past = past; present = told_on present next.present }
    else record next { past = past ++ present ∷ [] }
epochs_behind past present next (first ∷ later) =
    if first.epoch == present.epoch then record next { past = past ++ told_on present first ∷ later }
    else record next { past = past ++ present ∷ first ∷ later }

-- the history of the later tail, after the epochs that were reported before
abbrev pub told_both : History → History → History
told_both before next = epochs_behind before.past before.present next next.past

abbrev pub told_over : History → List Opening → History
told_over so_far [] = so_far
told_over so_far (next ∷ later) = told_over (told_both so_far next.history) later

-- if it shrank before its first tail was opened, nothing was told of the epoch with which its slot begins
abbrev pub untold_by : Option Start → List Telling
untold_by None = []
untold_by (Some start) = record { epoch = start.epoch; start = start.base; bytes = []; licences = []; told = [] } ∷ []

abbrev pub told_behind : List Telling → History → History
told_behind earlier history = record history { past = earlier ++ history.past }

-- an epoch that rose as the file was opened is announced as any other
abbrev pub turned_in : Filed → Turned
turned_in file = record { slot = file.turned.slot; history = told_behind (untold_by file.shrank_from) (told_over file.turned.history file.later) }

-- its last epoch
abbrev pub last_told : Filed → Telling
last_told file = (turned_in file).history.present

abbrev pub turned_of : List Filed → List Turned
turned_of files = map turned_in files

-- ---- its account

abbrev pub tail_by : Opening → ToldTail
tail_by one = told_tail one.opened one.looks one.history

abbrev pub tails_in : Filed → List ToldTail
tails_in file = tail_by (first_opening file) ∷ map tail_by file.later

abbrev pub following_of : Filed → Following
following_of file = record {
  slot = file.opened.begin.slot.0;
  input = file.opened.begin.input;
  key = file.opened.begin.key;
  epoch = (begun_in file).epoch;
  base = (begun_in file).base;
  known_from = file.known_from;
  gone_after = left_in file;
  tails = tails_of (tails_in file);
}

abbrev pub parts_told : Filed → List Part
parts_told file = parts_in file.opened.rule.multiline (tails_in file)

-- each of its events, if `placed` has its parcel
abbrev pub account_of : (Parcel → Option Place) → Filed → SlotAccount
account_of placed file =
    slot_account (place_in placed file.opened.begin.slot) (following_of file) file.opened.number file.changed (parts_told file)

abbrev pub accounts_of : (Parcel → Option Place) → List Filed → List SlotAccount
accounts_of placed files = map (account_of placed) files

-- what was reported of it was reported of its slot
abbrev pub HasItsSlot : Filed → Type 0
HasItsSlot file = file.turned.slot ≡ file.opened.begin.slot

-- the parts of the epoch reported what the harvesters reported of it
pub record TellEpoch (parts : EpochParts) (telling : Telling) : Type 0 where
  pub epoch : parts.epoch ≡ telling.epoch
  pub start : parts.start ≡ telling.start
  pub told : told_in parts.parts ≡ telling.told

-- epoch by epoch; in those after them nothing was reported
abbrev pub TellEpochs : List EpochParts → List Telling → Type 0
TellEpochs [] [] = Unit {0}
TellEpochs [] (telling ∷ tellings) = ⊥
TellEpochs (one ∷ epochs) [] = (told_in one.parts ≡ []) × TellEpochs epochs []
TellEpochs (one ∷ epochs) (telling ∷ tellings) = TellEpoch one telling × TellEpochs epochs tellings

-- the epochs of its account are those that were reported of it
pub record IsFiled (file : Filed) : Type 0 where
  pub slot : file.turned.slot ≡ file.opened.begin.slot
  pub epochs : AreEpochsFrom (begun_in file).epoch (begun_in file).base (tellings_in (turned_in file).history)
  pub tell : TellEpochs (epochs_of (begun_in file).epoch (begun_in file).base (parts_told file)) (tellings_in (turned_in file).history)

-- its Begin is among the notes
pub record IsNoted (notes : List Note) (file : Filed) : Type 0 where
  pub path : List ℕ
  pub changed : Moment
  pub there : Contains notes (its_begin file path changed)
