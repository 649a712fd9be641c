-- A run that an account accounts for (this project's profile): its files are followed so, each slot is as the run reported it if its file
-- keeps its identity and its truncations are seen, only reported events were sent, and rows over its notes are kept, one for each key that
-- was begun and has not lost it rightly. The notes are those of its keeper.
use Rattle.std.specs.Prelude.{◌≡◌, ◌⊎◌, Contains, List, map}
use Rattle.std.specs.List.{AllByRecursion}
use Rattle.kept_rows.specs.Account.{Following, SlotAccount, key_of}
use Rattle.kept_rows.specs.Backed.{AreRowsOverFronts}
use Rattle.kept_rows.specs.Followed.{AreFollowed}
use Rattle.kept_rows.specs.Kept.{IsKept, IsKeptInImage}
use Rattle.kept_rows.specs.Lost.{IsRightlyLost}
use Rattle.kept_rows.specs.Run.{Run}
use Rattle.kept_rows.specs.Sent.{SendOnlyTold}
use Rattle.kept_rows.specs.Telling.{AreSlotAccounts}
use Rattle.ship_core.specs.Orderly.{AreOrderly}
use Rattle.ship_core.specs.RowsOver.{AreRowsOver}
use Rattle.wire_base.specs.declared.note.Note.{Note}
use Rattle.wire_base.specs.declared.row.Row.{Row}

-- the key of the slot has a row among these
pub record HasItsRow (rows : List Row) (one : SlotAccount) : Type 0 where
  pub row : Row
  pub of_rows : Contains rows row
  pub key_is : row.key ≡ key_of one

abbrev pub followings_in : List SlotAccount → List Following
followings_in account = map (λ (one : SlotAccount). one.following) account

pub record AccountsFor (run : Run) (account : List SlotAccount) (notes : List Note) : Type 0 where
  pub followed : AreFollowed run (followings_in account)
  pub slots : AreSlotAccounts run account
  pub sent : SendOnlyTold account run.trace.wires
  pub orderly : AreOrderly notes
  -- rows over all the notes, with which a run ends
  pub ends : (rows : List Row) → AreRowsOver run.opening notes rows → AllByRecursion (IsKept account run.opening run.trace.wires) rows
  pub begun : (rows : List Row) → AreRowsOver run.opening notes rows →
      AllByRecursion (λ one. HasItsRow rows one ⊎ IsRightlyLost run account run.trace.wires (key_of one)) account
  -- rows over some first of them, key by key, which an image may hold
  pub images : (rows : List Row) → AreRowsOverFronts run.opening notes rows → AllByRecursion (IsKeptInImage account run.opening run.trace.wires) rows
