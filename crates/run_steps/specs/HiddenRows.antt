-- Which rows of the registry a scan hides (Filebeat reference, filestream input, `clean_removed`; this project's profile), and what the keeper
-- is noted of them: of each row that is removed, in their order and by slots after those of the listed files, how its slot begins, where the
-- row is, and that it goes.
use Rattle.std.specs.Prelude.{◌≡◌, ◌⊎◌, ℕ, suc, Contains, List, [], ◌∷◌, ◌++◌, length, slice_get, take, Option, None, Some, Result, Ok, Err}
use Rattle.std.specs.BTreeSet.{BTreeSet}
use Rattle.std.specs.List.{AllByRecursion, flat_map}
use Rattle.accounts.specs.Hidden.{Hidden, hidden_begin, hidden_forget}
use Rattle.event_tree.specs.declared.input_rule.InputRule.{InputRule}
use Rattle.file_rows.specs.Removed.{IsCleaned, IsCleanedBeside, IsRemoved}
use Rattle.kept_rows.specs.Followed.{start_unlisted}
use Rattle.keeper.specs.Keeping.{Keeping}
use Rattle.prospect.specs.declared.listed.Listed.{Listed}
use Rattle.ship_core.specs.Rows.{IsInOrder}
use Rattle.wire_base.specs.declared.note.Note.{Note}
use Rattle.wire_base.specs.declared.numbers.Slot.{Slot}
use Rattle.wire_base.specs.declared.row.Row.{Row}
use Rattle.run_steps.specs.KnownKeys.{KnowsAmong}
use Rattle.run_steps.specs.Telling.{TellsNotes}
use Rattle.run_steps.specs.declared.begin_error.BeginError.{BeginError}
use Rattle.run_steps.specs.declared.begin_error.BeginError.TheVariants.{NoMemory}
use Rattle.run_steps.specs.declared.beginning.BegunFiles.{BegunFiles}

-- the slot and the row, with the numbers of an input that cleans it, and of the scan that hides it, the first one
abbrev pub hidden_as : (inputs : List InputRule) → ℕ → (row : Row) → IsCleaned inputs row.key → Hidden
hidden_as inputs slot row cleaned = record { slot = record { 0 = slot }; row = row; input = cleaned.0; path = row.path; start = start_unlisted row; hidden_by = 0 }

-- the same, of whichever input it is
abbrev pub going_by : Slot → Row → Hidden
going_by slot row = record { slot = slot; row = row; input = 0; path = row.path; start = start_unlisted row; hidden_by = 0 }

module _ (inputs : List InputRule) (listed : List Listed) where
  -- the row goes, and then of the rest
  pub record GoesFirst (slot : ℕ) (row : Row) (Rest : List Hidden → Type 0) (hiddens : List Hidden) : Type 0 where
    pub removed : IsRemoved inputs listed row.key
    pub later : List Hidden
    pub are : hiddens ≡ hidden_as inputs slot row removed.cleaned ∷ later
    pub rest : Rest later

  -- those of these rows that are removed, from this slot on
  abbrev pub AreHiddenAmong : ℕ → List Row → List Hidden → Type 0
  AreHiddenAmong slot [] hiddens = hiddens ≡ []
  AreHiddenAmong slot (row ∷ rows) hiddens =
      ((¬ (IsRemoved inputs listed row.key)) × AreHiddenAmong slot rows hiddens)
      ⊎ GoesFirst slot row (λ later. AreHiddenAmong (suc slot) rows later) hiddens

  -- those of the first of these rows, after the slots of the listed files
  pub record AreHiddenSoFar (rows : List Row) (hiddens : List Hidden) : Type 0 where
    pub ordered : IsInOrder rows
    pub count : ℕ
    pub are : AreHiddenAmong (length listed) (take count rows) hiddens

-- ---- what is noted of them

abbrev pub hidden_notes : List Hidden → List Note
hidden_notes hiddens = flat_map (λ hidden. hidden_begin hidden ∷ hidden_forget hidden ∷ []) hiddens

module _ (inputs : List InputRule) (listed : List Listed) (rows : List Row) (old new : Keeping) where
  -- of all of them
  pub record TellsHidden : Type 0 where
    pub hiddens : List Hidden
    pub ordered : IsInOrder rows
    pub are : AreHiddenAmong inputs listed (length listed) rows hiddens
    pub tells : TellsNotes (hidden_notes hiddens) old new

  -- of the first of them; of the last one perhaps only the Begin
  pub record TellsSomeHidden : Type 0 where
    pub hiddens : List Hidden
    pub so_far : AreHiddenSoFar inputs listed rows hiddens
    pub told : List Note
    pub left : List Note
    pub told_are : hidden_notes hiddens ≡ told ++ left
    pub begun : AllByRecursion (λ hidden. Contains told (hidden_begin hidden)) hiddens
    pub tells : TellsNotes told old new

-- once files were begun: all of them were noted, or memory ran out after some; if files could not all be begun, none was
abbrev pub HidesBegun : List InputRule → List Listed → Result BegunFiles BeginError → Result BegunFiles BeginError → Keeping → Keeping → Type 0
HidesBegun inputs listed (Ok files) (Ok same) old new = (same ≡ files) × TellsHidden inputs listed old.store.rows old new
HidesBegun inputs listed (Ok files) (Err what) old new = (what ≡ NoMemory) × TellsSomeHidden inputs listed old.store.rows old new
HidesBegun inputs listed (Err what) (Ok files) old new = ⊥
HidesBegun inputs listed (Err what) (Err other) old new = (other ≡ what) × (new ≡ old)

-- the row was noted this way: its slot begins where it was
pub record WasTold (notes : List Note) (row : Row) : Type 0 where
  pub hidden : Hidden
  pub row_is : hidden.row ≡ row
  pub starts : hidden.start ≡ start_unlisted hidden.row
  pub begun : Contains notes (hidden_begin hidden)
  pub forgotten : Contains notes (hidden_forget hidden)

abbrev pub AreAllForgotten : List InputRule → List Listed → List Row → List Note → Type 0
AreAllForgotten inputs listed rows notes = AllByRecursion (λ row. IsRemoved inputs listed row.key → WasTold notes row) rows

-- ---- for private clauses, by the set of the keys of listed files

module _ (inputs : List InputRule) (keys : BTreeSet (List ℕ)) (slot : ℕ) (row : Row) (old new : Keeping) where
  -- it was noted, and the next slot is the one after it
  pub record TellsRow (next : ℕ) : Type 0 where
    pub beside : IsCleanedBeside inputs keys row.key
    pub next_is : next ≡ suc slot
    pub tells : TellsNotes (hidden_begin (hidden_as inputs slot row beside.cleaned) ∷ hidden_forget (hidden_as inputs slot row beside.cleaned) ∷ []) old new

  -- or it stays
  pub record LeavesRow (next : ℕ) : Type 0 where
    pub stays : ¬ (IsCleanedBeside inputs keys row.key)
    pub next_is : next ≡ slot
    pub same : new ≡ old

  abbrev pub TellsOrLeaves : ℕ → Type 0
  TellsOrLeaves next = TellsRow next ⊎ LeavesRow next

  -- out of memory after its Begin, or before it
  pub record BeginsRow : Type 0 where
    pub beside : IsCleanedBeside inputs keys row.key
    pub tells : TellsNotes (hidden_begin (hidden_as inputs slot row beside.cleaned) ∷ []) old new

  abbrev pub BeginsOrNothing : Type 0
  BeginsOrNothing = BeginsRow ⊎ (new ≡ old)

-- a row that goes, or one that stays
abbrev pub IsGoingRow : List InputRule → BTreeSet (List ℕ) → Row → Option Row → Type 0
IsGoingRow inputs keys row (Some copy) = (copy ≡ row) × IsCleanedBeside inputs keys row.key
IsGoingRow inputs keys row None = ¬ (IsCleanedBeside inputs keys row.key)

-- all its keys are known
pub record KnowsItsKeys (keeper : Keeping) : Type 0 where
  pub keys : List (List ℕ)
  pub knows : KnowsAmong keys keeper

-- the row at the place is one of which this holds
pub record RowAt (rows : List Row) (place : ℕ) (P : Row → Type 0) : Type 0 where
  pub row : Row
  pub at : slice_get rows place ≡ Some row
  pub holds : P row
