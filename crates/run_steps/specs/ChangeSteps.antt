-- What a run does with one of its files between two rounds, as a step of it (this project's profile): by which notes it tells its keeper of it, and what
-- it supposes of the scans so far and of the files that were opened. What stood before it stands after it, with those notes, and with some histories
-- of its lanes. If it tells nothing and supposes nothing, it is a step as each other one, too.
use Rattle.std.specs.Prelude.{List, [], ◌∷◌, ◌++◌, Vec, None}
use Rattle.std.specs.declared.alloc.Global.{Global}
use Rattle.accounts.specs.Opened.{Opened}
use Rattle.accounts.specs.Turned.{Turned}
use Rattle.keeper.specs.Keeping.{Keeping}
use Rattle.lanes.specs.declared.lane.Lane.{Lane}
use Rattle.prospect.specs.declared.listed.Listed.{Listed}
use Rattle.rounds.specs.Crewed.{lanings}
use Rattle.rounds.specs.Crewing.{crewing}
use Rattle.wire_base.specs.declared.note.Note.{Note}
use Rattle.wire_base.specs.declared.numbers.Moment.{Moment}
use Rattle.wire_base.specs.declared.numbers.Slot.{Slot}
use Rattle.run_steps.specs.Began.{Began}
use Rattle.run_steps.specs.Changing.{EndsFile, LanesAndKeeper, NamesFile, StirsFile, rename_note}
use Rattle.run_steps.specs.Goes.{Goes, Keeps, StepWords, Stop, state_at}
use Rattle.run_steps.specs.LaterScans.{LaterScan}
use Rattle.run_steps.specs.ListedLater.{IsListedAnew}
use Rattle.run_steps.specs.Onward.{BeganBy, rules_of}
use Rattle.run_steps.specs.Readiness.{IsReadyIn}
use Rattle.run_steps.specs.Renamed.{IsNamedAnew, IsRemovedSince}
use Rattle.run_steps.specs.SoFar.{Earlier, SoFar}
use Rattle.run_steps.specs.Stands.{Stands}
use Rattle.run_steps.specs.Telling.{TellsNotes, TellsSeen, moment_noted, seen_note}
use Rattle.run_steps.specs.declared.changing.NewName.{NewName}
use Rattle.run_steps.specs.declared.context.Context.{Context}

module _ {T W L D F K B : Type 0} where
  -- all else is as it was
  abbrev pub with_lanes : Stop T W L D F K B → Vec (Lane T) Global → Stop T W L D F K B
  with_lanes stop lanes = record stop { crew = record stop.crew { lanes = lanes } }

  abbrev pub with_keeper : Stop T W L D F K B → Keeping → Stop T W L D F K B
  with_keeper stop keeper = record stop { storing = record stop.storing { keeper = record stop.storing.keeper { now = keeper } } }

  -- when a file was changed, by this entry or by the row that the registry had of its key as the run began
  abbrev pub moment_at : Stop T W L D F K B → Listed → Moment
  moment_at stop entry = moment_noted stop.storing.keeper.now.tracked.opening entry

  -- what is said of the lanes, and of the keeper
  abbrev pub lanes_and_keeper : Stop T W L D F K B → LanesAndKeeper T
  lanes_and_keeper stop = record { lanes = lanings stop.crew.lanes.items; keeper = stop.storing.keeper.now }

module _ {T W L D F K B : Type 0} (words : StepWords T W L D F K B) (context : Context) where
  -- what stands with these notes told, whatever the histories of the lanes are
  pub record StandsWith (start : Began D) (now : Stop T W L D F K B) (so_far : SoFar) (notes : List Note) : Type 0 where
    pub lanes : List (List Turned)
    pub stands : Stands words.all start (state_at words now) (record so_far { lanes = lanes; begun = so_far.begun ++ notes })

  pub record IsChange (Supposes : List LaterScan → List Earlier → List Opened → Type 0) (notes : List Note) (before after : Stop T W L D F K B) : Type 0 where
    pub keeps : Keeps words context (TellsNotes notes) None before after
    pub changed : (start : Began D) (so_far : SoFar) → BeganBy (rules_of context) start → Stands words.all start (state_at words before) so_far →
        Supposes so_far.scans so_far.earlier so_far.opened → StandsWith start after so_far notes

  abbrev pub IsReadyAt : Stop T W L D F K B → Type 0
  IsReadyAt now = IsReadyIn words.all.tails context (crewing now.crew now.storing)

-- it supposes nothing
abbrev pub SupposesNothing : List LaterScan → List Earlier → List Opened → Type 0
SupposesNothing scans earlier opened = Unit {0}

module _ {T W L D F K B : Type 0} (words : StepWords T W L D F K B) where
  -- a file of which something was heard
  abbrev pub StirsAreChanges : Type 0
  StirsAreChanges = (context : Context) (slot : Slot) (now : Stop T W L D F K B) (lanes : Vec (Lane T) Global) → IsReadyAt words context now →
      StirsFile slot (lanings now.crew.lanes.items) (lanings lanes.items) → IsChange words context SupposesNothing [] now (with_lanes now lanes)

  -- which is a step as each other one, too
  abbrev pub StirsAreSteps : Type 0
  StirsAreSteps = (context : Context) (slot : Slot) (now : Stop T W L D F K B) (lanes : Vec (Lane T) Global) → IsReadyAt words context now →
      StirsFile slot (lanings now.crew.lanes.items) (lanings lanes.items) → Goes words context None now (with_lanes now lanes)

  -- one that was removed
  abbrev pub EndsAreChanges : Type 0
  EndsAreChanges = (context : Context) (slot : Slot) (now : Stop T W L D F K B) (lanes : Vec (Lane T) Global) → IsReadyAt words context now →
      EndsFile words.all.tails slot (lanings now.crew.lanes.items) (lanings lanes.items) → IsChange words context (IsRemovedSince slot) [] now (with_lanes now lanes)

  -- one that has another path
  abbrev pub RenamesAreChanges : Type 0
  RenamesAreChanges = (context : Context) (name : NewName) (now : Stop T W L D F K B) (lanes : Vec (Lane T) Global) (keeper : Keeping) → IsReadyAt words context now →
      NamesFile words.all.tails name (lanes_and_keeper now) (lanes_and_keeper (with_keeper (with_lanes now lanes) keeper)) →
      IsChange words context (IsNamedAnew name.slot (record { scan = name.scan; path = name.path })) (rename_note name ∷ []) now (with_keeper (with_lanes now lanes) keeper)

  -- one that the newest scan listed, of which the keeper is told when it was changed
  abbrev pub MomentsAreChanges : Type 0
  MomentsAreChanges = (context : Context) (slot : Slot) (entry : Listed) (now : Stop T W L D F K B) (keeper : Keeping) → IsReadyAt words context now →
      TellsSeen slot (moment_at now entry) now.storing.keeper.now keeper → IsChange words context (IsListedAnew slot entry) (seen_note slot (moment_at now entry) ∷ []) now (with_keeper now keeper)
