-- Rows that the scans of a run hide (Filebeat reference, filestream input, `clean_removed`; this project's profile): a row of the registry, of an
-- input that cleans the rows of removed files, whose key a whole scan did not show. Earlier scans may have shown it, as long as no tail of it was
-- opened. It has a slot of its own, which it got as it went: begun as the first scan lists it, or where the row stood, by the path by which it was
-- listed last, read by no tail, and gone by that scan.
use Rattle.std.specs.Prelude.{◌≡◌, ◌≢◌, ◌⊎◌, ℕ, ◌+◌, ◌<◌, ◌≤◌, nat_lt, true, Contains, List, [], ◌∷◌, map, slice_get, Some, if◌then◌else◌}
use Rattle.std.specs.List.{AllByRecursion}
use Rattle.event_tree.specs.declared.input_rule.InputRule.{InputRule}
use Rattle.kept_rows.specs.Account.{Following, SlotAccount, slot_of}
use Rattle.kept_rows.specs.Followed.{IsBegun, IsKeyOf, Start, WasHidden}
use Rattle.kept_rows.specs.Run.{Run, Scan}
use Rattle.kept_rows.specs.Scans.{AreDistinct, IsFirstPath, IsWhole, ShowsKey}
use Rattle.ship_core.specs.Rows.{find}
use Rattle.wire_base.specs.declared.note.Note.{Note}
use Rattle.wire_base.specs.declared.note.Note.TheVariants.{Begin, Forget}
use Rattle.wire_base.specs.declared.numbers.Slot.{Slot}
use Rattle.wire_base.specs.declared.row.Row.{Row}
use Rattle.accounts.specs.Filed.{Filed, slot_in}

-- with the number of its input, the path, the epoch and the place with which it is begun, and the number of the scan by which it goes
pub record Hidden : Type 0 where
  pub slot : Slot
  pub row : Row
  pub input : ℕ
  pub path : List ℕ
  pub start : Start
  pub hidden_by : ℕ

abbrev pub hidden_key : Hidden → List ℕ
hidden_key hidden = hidden.row.key

abbrev pub hidden_slot : Hidden → ℕ
hidden_slot hidden = hidden.slot.0

-- ---- what is reported to the keeper of it: how it begins, and the Forget removes it

abbrev pub hidden_begin : Hidden → Note
hidden_begin hidden = Begin hidden.slot hidden.row.key hidden.path (record { 0 = hidden.start.epoch }) hidden.start.base hidden.row.changed

abbrev pub hidden_forget : Hidden → Note
hidden_forget hidden = Forget hidden.slot (record { 0 = hidden.start.epoch }) hidden.start.base

-- ---- its account

abbrev pub hidden_following : Hidden → Following
hidden_following hidden = record {
  slot = hidden_slot hidden;
  input = hidden.input;
  key = hidden_key hidden;
  epoch = hidden.start.epoch;
  base = hidden.start.base;
  known_from = 0;
  gone_after = Some hidden.hidden_by;
  tails = [];
}

abbrev pub hidden_account : Hidden → SlotAccount
hidden_account hidden = record {
  following = hidden_following hidden;
  number = 0;
  changed = hidden.row.changed.0;
  epochs = record { epoch = hidden.start.epoch; start = hidden.start.base; life = 0; readings = []; licences = []; told = [] } ∷ [];
}

-- a slot among those of an account that rise
abbrev pub put_slot : SlotAccount → List SlotAccount → List SlotAccount
put_slot one [] = one ∷ []
put_slot one (first ∷ others) = if nat_lt (slot_of one) (slot_of first) then one ∷ first ∷ others else first ∷ put_slot one others

-- the account with their slots, in the order of all slots
abbrev pub with_hidden : List SlotAccount → List Hidden → List SlotAccount
with_hidden account [] = account
with_hidden account (hidden ∷ hiddens) = put_slot (hidden_account hidden) (with_hidden account hiddens)

-- ---- why they may go

-- of the scans before the one of this number, the last one that showed the key showed it by this path first
pub record WasShownBy (run : Run) (key path : List ℕ) (until : ℕ) : Type 0 where
  pub place : ℕ
  pub earlier : place < until
  pub scan : Scan
  pub scan_is : slice_get run.scans place ≡ Some scan
  pub number : ℕ
  pub first : IsFirstPath run scan key number path
  pub none_nearer : WasHidden run key (place + 1) until

-- the path of its Begin: that of the row, if no scan before the one by which it goes showed the key; else the one by which it was listed last before
abbrev pub HasItsPath : Run → Hidden → Type 0
HasItsPath run hidden =
    (WasHidden run (hidden_key hidden) 0 hidden.hidden_by × (hidden.path ≡ hidden.row.path))
    ⊎ WasShownBy run (hidden_key hidden) hidden.path hidden.hidden_by

-- it is the opening row of its key, of an input of the settings that cleans, and begins as the first scan lists it, or as the row stood; the scan by
-- which it goes was whole and did not show the key
pub record MayGo (run : Run) (hidden : Hidden) : Type 0 where
  pub rule : InputRule
  pub rule_is : slice_get run.settings.inputs hidden.input ≡ Some rule
  pub cleans : rule.clean_removed ≡ true
  pub key_of_input : IsKeyOf rule.id (hidden_key hidden)
  pub found : find (hidden_key hidden) run.opening ≡ Some hidden.row
  pub begun : IsBegun run (hidden_following hidden)
  pub path : HasItsPath run hidden
  pub scan : Scan
  pub scan_is : slice_get run.scans hidden.hidden_by ≡ Some scan
  pub whole : IsWhole run scan
  pub not_shown : ¬ (ShowsKey run scan (hidden_key hidden))

-- all of them, no two of one key
pub record MayAllGo (run : Run) (hiddens : List Hidden) : Type 0 where
  pub each : AllByRecursion (MayGo run) hiddens
  pub apart : AreDistinct (map hidden_key hiddens)

-- ---- their slots

-- they rise from this one on
abbrev pub AreHiddenFrom : ℕ → List Hidden → Type 0
AreHiddenFrom least [] = Unit {0}
AreHiddenFrom least (hidden ∷ hiddens) = (least ≤ hidden_slot hidden) × AreHiddenFrom (hidden_slot hidden + 1) hiddens

-- none of them is that of a file
pub record AreBeside (files : List Filed) (hiddens : List Hidden) : Type 0 where
  pub slots : AreHiddenFrom 0 hiddens
  pub other_slots : (file : Filed) → Contains files file → (hidden : Hidden) → Contains hiddens hidden → slot_in file ≢ hidden_slot hidden
