-- What is reported to a keeper of a run's files (this project's profile): how each begins, and when each was changed.
use Rattle.std.specs.Prelude.{◌≡◌, ◌⊎◌, ℕ, suc, ◌<◌, max, min, List, [], ◌∷◌, ◌++◌, All, Contains, IsSome, None, Some, take}
use Rattle.std.specs.Option.{option_map_or}
use Rattle.ack_tracker.specs.Tracked.{Tracked}
use Rattle.keeper.specs.Keeping.{Keeping}
use Rattle.prospect.specs.declared.listed.Listed.{Listed}
use Rattle.restart_join.specs.declared.start.Start.{Start}
use Rattle.ship_core.specs.Orderly.{AreOrderly, IsBegun}
use Rattle.ship_core.specs.RowOver.{place_over}
use Rattle.wire_base.specs.declared.note.Note.{Note}
use Rattle.wire_base.specs.declared.note.Note.TheVariants.{Begin, Seen}
use Rattle.wire_base.specs.declared.numbers.Moment.{Moment}
use Rattle.wire_base.specs.declared.numbers.Slot.{Slot}
use Rattle.wire_base.specs.declared.numbers.TheConstants.{MAX_MOMENT}
use Rattle.wire_base.specs.declared.row.Row.{Row}
use Rattle.run_steps.specs.BeginFor.{row_of}

-- these notes were given to it, and nothing else of it changed
pub record TellsNotes (notes : List Note) (old new : Keeping) : Type 0 where
  pub told : new.tracked.notes ≡ old.tracked.notes ++ notes
  pub opening_stays : new.tracked.opening ≡ old.tracked.opening
  pub committed_stays : new.tracked.committed ≡ old.tracked.committed
  pub gone_stays : All (Contains new.tracked.gone) old.tracked.gone
  pub others_stay : new ≡ record old { tracked = new.tracked }

-- ---- how a file begins, with no moment of change yet

abbrev pub begin_note : Slot → Listed → List ℕ → Start → Note
begin_note slot listed key start = Begin slot key listed.path (record { 0 = start.epoch }) start.base (record { 0 = 0 })

pub record TellsBegin (slot : Slot) (listed : Listed) (start : Start) (old new : Keeping) : Type 0 where
  pub key : List ℕ
  pub key_is : listed.key ≡ Some key
  pub tells : TellsNotes (begin_note slot listed key start ∷ []) old new

-- ---- when it was changed: as its row has it or as the scan listed it, whichever is later

abbrev pub moment_noted : List Row → Listed → Moment
moment_noted rows listed = record { 0 = max (option_map_or (λ (row : Row). row.changed.0) (row_of rows listed.key) 0) (min listed.changed.0 MAX_MOMENT) }

-- the slot has a Begin, and its row is not gone
pub record IsFollowed (slot : ℕ) (tracked : Tracked) : Type 0 where
  pub begun : IsBegun slot tracked.notes
  pub not_gone : ¬ (Contains tracked.gone slot)
  pub place : AreOrderly tracked.notes → IsSome (place_over slot tracked.notes)

pub record IsNotFollowed (slot : ℕ) (tracked : Tracked) : Type 0 where
  pub gone : IsBegun slot tracked.notes → Contains tracked.gone slot
  pub no_place : AreOrderly tracked.notes → place_over slot tracked.notes ≡ None

abbrev pub seen_note : Slot → Moment → Note
seen_note slot changed = Seen slot changed

-- of a file that is followed, a moment above 0 is noted
pub record TellsSeen (slot : Slot) (changed : Moment) (old new : Keeping) : Type 0 where
  pub later : 0 < changed.0
  pub followed : IsFollowed slot.0 old.tracked
  pub tells : TellsNotes (seen_note slot changed ∷ []) old new

-- else nothing is
pub record TellsNothing (slot : Slot) (changed : Moment) (old new : Keeping) : Type 0 where
  pub why : (changed.0 ≡ 0) ⊎ IsNotFollowed slot.0 old.tracked
  pub same : new ≡ old

abbrev pub TellsMoment : Slot → Moment → Keeping → Keeping → Type 0
TellsMoment slot changed old new = TellsSeen slot changed old new ⊎ TellsNothing slot changed old new

-- of a file, and then of the rest
pub record TellsFirst (slot : ℕ) (changed : Moment) (Rest : Keeping → Type 0) (old : Keeping) : Type 0 where
  pub mid : Keeping
  pub first : TellsMoment (record { 0 = slot }) changed old mid
  pub rest : Rest mid

-- of these files, in the order of their slots from this one on
abbrev pub TellMoments : List Row → ℕ → List Listed → Keeping → Keeping → Type 0
TellMoments rows slot [] old new = new ≡ old
TellMoments rows slot (one ∷ listed) old new = TellsFirst slot (moment_noted rows one) (λ mid. TellMoments rows (suc slot) listed mid new) old

-- of some of them, from the first one on
pub record TellSomeMoments (rows : List Row) (listed : List Listed) (old new : Keeping) : Type 0 where
  pub count : ℕ
  pub tell : TellMoments rows 0 (take count listed) old new
