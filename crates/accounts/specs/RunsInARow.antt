-- Runs in a row, by their accounts (this project's profile): if a run opens the row that the run before left, with the same
-- settings and in the same life, the events up to its own row of that epoch are those of both, adjoining from the place from which
-- the earlier run reported them; each was dropped by its rule or acknowledged in one of the two runs.
use Rattle.std.specs.Prelude.{◌≡◌, ◌≢◌, ◌⊎◌, ℕ, ◌<◌, Contains, List, [], map, slice_get, Some, None}
use Rattle.std.specs.List.{AllByRecursion}
use Rattle.event_tree.specs.declared.input_rule.InputRule.{InputRule}
use Rattle.kept_rows.specs.Account.{EpochAccount, SlotAccount, key_of, slot_of}
use Rattle.kept_rows.specs.Followed.{AreFollowed, IsKeyOf}
use Rattle.kept_rows.specs.InARow.{Adjoined, Part}
use Rattle.kept_rows.specs.Kept.{IsToldRow, StandsAsOpened}
use Rattle.kept_rows.specs.Run.{Run}
use Rattle.kept_rows.specs.Scans.{AreDistinct}
use Rattle.kept_rows.specs.Telling.{IsSlotAccount}
use Rattle.outside.specs.Files.{File, life_of}
use Rattle.ship_core.specs.Rows.{find}
use Rattle.told_events.specs.Rules.{rules_of}
use Rattle.wire_base.specs.declared.row.Row.{Row}

-- a run with an account that follows its files so
pub record AccountedRun : Type 0 where
  pub run : Run
  pub account : List SlotAccount
  pub followed : AreFollowed run (map (λ one. one.following) account)

-- no colon, which is byte 58, is in the id of an input, and no two have one id: so a key is of one input. The settings' ranges
-- give it
pub record HaveOwnIds (inputs : List InputRule) : Type 0 where
  pub no_colon : AllByRecursion (λ rule. AllByRecursion (λ byte. byte ≢ 58) rule.id) inputs
  pub ids_apart : AreDistinct (map (λ rule. rule.id) inputs)

-- the run reported the row's epoch up to its offset, by the account of a slot
abbrev pub IsRowOf : AccountedRun → Row → Type 0
IsRowOf accounted row = IsToldRow accounted.account accounted.run.trace.wires row

-- ---- one life

-- the file of this number has these bytes as the life of that number
pub record HasLife (run : Run) (number life : ℕ) (bytes : List ℕ) : Type 0 where
  pub file : File
  pub file_is : slice_get run.trace.files number ≡ Some file
  pub bytes_are : life_of file life ≡ bytes

-- the bytes of which the epoch was reported, if anything was reported of it
abbrev pub IsOfLife : Run → SlotAccount → EpochAccount → List ℕ → Type 0
IsOfLife run one epoch life = (epoch.told ≡ []) ⊎ HasLife run one.number epoch.life life

-- ---- what is given of the two runs

-- the later run takes up the row that the earlier one left, and its own row is of the same epoch
pub record TakesUp (earlier later : AccountedRun) (life : List ℕ) (left reached : Row) : Type 0 where
  pub same_settings : later.run.settings ≡ earlier.run.settings
  pub own_ids : HaveOwnIds earlier.run.settings.inputs
  pub left_is : IsRowOf earlier left
  -- the row was this as the later run opened its registry, also if runs between the two left it as it was
  pub found : StandsAsOpened later.run.opening left
  pub reached_is : IsRowOf later reached
  -- the slots of both rows are as the runs reported them
  pub slot_before : IsSlotAccount earlier.run left_is.one
  pub slot_after : IsSlotAccount later.run reached_is.one
  pub same_key : reached.key ≡ left.key
  pub same_epoch : reached.epoch.0 ≡ left.epoch.0
  -- its slot was known from the first scan on: a key whose row went is begun anew, from the first byte
  pub known_at_first : reached_is.one.following.known_from ≡ 0
  -- both reported the epoch of one life
  pub life_before : IsOfLife earlier.run left_is.one left_is.epoch life
  pub life_after : IsOfLife later.run reached_is.one reached_is.epoch life

-- no slot of the key that comes before this one went
abbrev pub NoneWentBefore : List SlotAccount → SlotAccount → Type 0
NoneWentBefore account one =
    AllByRecursion (λ other. key_of other ≡ key_of one → slot_of other < slot_of one → other.following.gone_after ≡ None) account

-- the slot of a key that had a row as the registry was opened, before which none of the key went
pub record HadFirstRow (accounted : AccountedRun) (one : SlotAccount) : Type 0 where
  pub of_account : Contains accounted.account one
  pub row : Row
  pub found : find (key_of one) accounted.run.opening ≡ Some row
  pub none_went : NoneWentBefore accounted.account one

-- it was known from the first scan on
abbrev pub IsKnownAtFirst : SlotAccount → Type 0
IsKnownAtFirst one = one.following.known_from ≡ 0

-- ---- what follows

-- the part of the run of which the row is, by the account of its slot
abbrev pub part_of : (accounted : AccountedRun) (row : Row) → IsRowOf accounted row → Part
part_of accounted row is = record { epoch = is.epoch; wires = accounted.run.trace.wires }

-- both slots are of one input, whose key it is; the later run reported from where the earlier one's row was; and the events of both
-- adjoin by the input's rules
pub record AdjoinInARow (earlier later : AccountedRun) (life : List ℕ) (left reached : Row) (up : TakesUp earlier later life left reached) : Type 0 where
  pub rule : InputRule
  pub rule_before : slice_get earlier.run.settings.inputs up.left_is.one.following.input ≡ Some rule
  pub rule_after : slice_get later.run.settings.inputs up.reached_is.one.following.input ≡ Some rule
  pub key_of_input : IsKeyOf rule.id reached.key
  pub from_there : up.reached_is.epoch.start ≡ left.offset
  pub adjoined : Adjoined (rules_of rule earlier.run.settings.processors) life (part_of earlier left up.left_is) (part_of later reached up.reached_is) reached.offset
