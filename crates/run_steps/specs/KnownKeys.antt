-- Few keys (this project's profile): all keys that a keeper has to do with are among these, which are no more than it may know.
use Rattle.std.specs.Prelude.{ℕ, ◌≤◌, All, Contains, List, length, IfSome}
use Rattle.std.specs.List.{AllByRecursion}
use Rattle.keeper.specs.Keeping.{Keeping}
use Rattle.prospect.specs.declared.listed.Listed.{Listed}
use Rattle.wire_base.specs.declared.note.Note.{Note}
use Rattle.wire_base.specs.declared.note.Note.TheVariants.{Announce, Begin, Forget, Rename, Seen, Settle}

-- a Begin is of one of these keys
abbrev pub BeginsAmong : List (List ℕ) → Note → Type 0
BeginsAmong keys (Begin slot key path epoch base changed) = Contains keys key
BeginsAmong keys (Announce slot epoch) = Unit {0}
BeginsAmong keys (Settle slot epoch span cause) = Unit {0}
BeginsAmong keys (Rename slot scan path) = Unit {0}
BeginsAmong keys (Seen slot changed) = Unit {0}
BeginsAmong keys (Forget slot epoch end) = Unit {0}

-- its stored rows and the Begins that it noted have these keys
pub record KnowsAmong (keys : List (List ℕ)) (keeper : Keeping) : Type 0 where
  pub few : length keys ≤ 65_536
  pub of_rows : All (λ row. Contains keys row.key) keeper.store.rows
  pub of_begins : AllByRecursion (BeginsAmong keys) keeper.tracked.notes

-- so it is with the Begin of this file
pub record HasRoomToBegin (listed : Listed) (keeper : Keeping) : Type 0 where
  pub keys : List (List ℕ)
  pub knows : KnowsAmong keys keeper
  pub of_listed : IfSome listed.key (Contains keys)
