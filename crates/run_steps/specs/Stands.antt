-- What a run keeps from step to step (this project's profile): what it has reported of its files, where each event of it is, what the
-- keeper noted of it, and what the areas may hold. Each step leads from a state for which this holds to another one.
use Rattle.std.specs.Prelude.{◌≡◌, ◌≢◌, ℕ, suc, ◌^◌, ◌-◌, ◌<◌, min, false, drop, List, [], ◌++◌, Contains, Option, IfSome, IsSome, Some, count_by, length, map}
use Rattle.std.specs.List.{AllByRecursion, flat_map}
use Rattle.accounts.specs.Ground.{HasGround}
use Rattle.accounts.specs.Opened.{Opened}
use Rattle.accounts.specs.ToldFile.{IsReadThrough, IsToldFile}
use Rattle.accounts.specs.ToldNotes.{AreMixed}
use Rattle.accounts.specs.Turned.{Turned, notes_told, parcels_told, spans_in}
use Rattle.accounts.specs.Turning.{IsTurnedSo, Pairs}
use Rattle.accounts.specs.Watch.{Watch}
use Rattle.harvester.specs.declared.stage.Stage.TheVariants.{Over}
use Rattle.keeper.specs.Collecting.{is_dropped, is_shipped}
use Rattle.keeper.specs.Keeping.{Keeping, held_in}
use Rattle.keeper.specs.Storing.{Stores}
use Rattle.kept_rows.specs.Trace.{closing_in}
use Rattle.lanes.specs.Laning.{Laning}
use Rattle.outside.specs.Folders.{FolderHistory}
use Rattle.outside.specs.Tails.{TailHistory}
use Rattle.pass_sums.specs.Weight.{AsOften}
use Rattle.rounds.specs.Books.{AreBooked, ArePlaced, Heard, Told, flat, held_notes, owed_notes}
use Rattle.rounds.specs.Crewed.{lanings}
use Rattle.rounds.specs.Settled.{spans_told}
use Rattle.rounds.specs.Words.{LinkWords, TailWords, WireWords, Words}
use Rattle.rounds.specs.declared.carrier.Carrier.{Carrier}
use Rattle.settle_box.specs.Senders.{notes}
use Rattle.slot_parts.specs.Tellings.{tellings_in}
use Rattle.wire_base.specs.declared.note.Note.{Note}
use Rattle.wire_base.specs.declared.row.Row.{Row}
use Rattle.run_steps.specs.Areas.{BeganAtRest, HaveHeldFronts}
use Rattle.run_steps.specs.Began.{Began}
use Rattle.run_steps.specs.Begun.{AreBeginNotes, AreSlotsFrom, IsKeyed, IsOpenedAsListed, IsRuled}
use Rattle.run_steps.specs.Earlier.{AreEarlier}
use Rattle.run_steps.specs.Forgotten.{AreForgotten}
use Rattle.run_steps.specs.HiddenRows.{AreHiddenSoFar}
use Rattle.run_steps.specs.LastEpoch.{AreToldInEpochs, HasAnswered, HasAnsweredWhereNoFault, HaveOneOver, IsAnswered}
use Rattle.run_steps.specs.LaterScans.{AreLaterScans, LaterScan, WasMissed, WasNamed}
use Rattle.run_steps.specs.ReadBehind.{ReadsBehind, ReadsWhereNoFault}
use Rattle.run_steps.specs.RunState.{Finished, Following, Halted, HaltedFollowing, Leaving, OutOfEpochs, Phase, Reading, RunState}
use Rattle.run_steps.specs.ListedSo.{WasListedSo}
use Rattle.run_steps.specs.Shown.{HasGiven, HasShown}
use Rattle.run_steps.specs.SoFar.{BooksSoFar, FilesSoFar, Left, NotesSoFar, SoFar, books_of, files_of, files_within, first_opened, notes_of, openings_within}

-- ---- the files

-- how the run watches them: by its later scans
abbrev pub watch_of : {D : Type 0} → Began D → List LaterScan → Watch
watch_of start scans = record { processors = start.settings.processors; once = start.once; removed = WasMissed scans; renamed = WasNamed scans }

-- a lane's harvesters stand for these files, one by one
abbrev pub AreTurnedIn : {T : Type 0} → TailWords T → Watch → List Opened → List ℕ → List Turned → Laning T → Type 0
AreTurnedIn tails watch opened moments turned lane =
    Pairs (IsTurnedSo tails.numbers tails.told watch opened moments) turned lane.harvesters

-- its tail reports
abbrev pub TellIn : {T : Type 0} → TailWords T → Laning T → Type 0
TellIn tails lane = AllByRecursion (λ harvester. IsSome (tails.told harvester.tail)) lane.harvesters

-- of a file whose tail was closed: one of these was reported so
pub record IsLeftSo (watch : Watch) (opened : List Opened) (moments : List ℕ) (one : Left) : Type 0 where
  pub file : Opened
  pub among : Contains opened file
  pub is_told : IsToldFile watch file moments one.turned one.told
  pub in_epochs : AreToldInEpochs (tellings_in one.turned.history)

-- each file was begun once, and is turned or left
pub record AreEachOnce (opened : List Opened) (files : List Turned) : Type 0 where
  pub rise : AreSlotsFrom 0 opened
  pub are : AsOften (map (λ turned. turned.slot) files) (map (λ one. one.begin.slot) opened)

-- of none that is turned the last epoch is over
abbrev pub NoneOver : {T : Type 0} → List (Laning T) → Type 0
NoneOver lanes = AllByRecursion (λ lane. AllByRecursion (λ harvester. harvester.reader.stage ≢ Over) lane.harvesters) lanes

-- while files are read, no tail was closed, and none is out of epochs
pub record IsReading {T : Type 0} (lanes : List (Laning T)) (so_far : FilesSoFar) : Type 0 where
  pub none_left : so_far.left ≡ []
  pub none_over : NoneOver lanes

-- the run reads or follows its files, or was stopped as it did
abbrev pub ReadsYet : Phase → Type 0
ReadsYet Reading = Unit {0}
ReadsYet Halted = Unit {0}
ReadsYet Following = Unit {0}
ReadsYet HaltedFollowing = Unit {0}
ReadsYet Finished = ⊥
ReadsYet Leaving = ⊥
ReadsYet (OutOfEpochs slot) = ⊥

-- the tail was closed, and if it counted no fault then this holds of it
abbrev pub HoldsWhereNoFault : (Left → TailHistory → Type 0) → FolderHistory → Left → Type 0
HoldsWhereNoFault Holds now one =
    IfSome one.told (λ tail. closing_in tail.opening (drop (suc tail.opening) now.events) ≡ Some (record { looks = tail.looks; faults = 0 }) → Holds one tail)

-- then it was read after each look at its length
abbrev pub IsLeftRead : FolderHistory → Left → Type 0
IsLeftRead now one = HoldsWhereNoFault (λ closed tail. ReadsBehind false closed.turned.history.begin.base tail.looks) now one

-- and each fall of its length was answered
abbrev pub IsLeftAnswered : FolderHistory → Left → Type 0
IsLeftAnswered now one = HoldsWhereNoFault (λ closed tail. IsAnswered closed.turned.history) now one

-- so are those that are turned, and those that were closed
pub record AreRead {T : Type 0} (tails : TailWords T) (shown : Option FolderHistory) (lanes : List (Laning T)) (left : List Left) : Type 0 where
  pub in_lanes : AllByRecursion (λ lane. AllByRecursion (ReadsWhereNoFault tails.told tails.faults) lane.harvesters) lanes
  pub in_left : IfSome shown (λ now. AllByRecursion (IsLeftRead now) left)

-- the run may give a report as one that reads its files once: it reads on, was stopped as it did, or read each file to its end
abbrev pub MayTell : Phase → Type 0
MayTell Reading = Unit {0}
MayTell Finished = Unit {0}
MayTell Halted = Unit {0}
MayTell Leaving = ⊥
MayTell (OutOfEpochs slot) = ⊥
MayTell Following = ⊥
MayTell HaltedFollowing = ⊥

-- it follows its files, or was stopped as it did
abbrev pub Follows : Phase → Type 0
Follows Following = Unit {0}
Follows HaltedFollowing = Unit {0}
Follows Reading = ⊥
Follows Finished = ⊥
Follows Leaving = ⊥
Follows (OutOfEpochs slot) = ⊥
Follows Halted = ⊥

-- each fall of a file's length was answered: of those that are turned, and of those whose tails were closed
pub record AreAnswered {T : Type 0} (lanes : List (Laning T)) (left : List Left) : Type 0 where
  pub in_lanes : AllByRecursion (λ lane. AllByRecursion HasAnswered lane.harvesters) lanes
  pub in_left : AllByRecursion (λ one. IsAnswered one.turned.history) left

-- ---- what was reported of them

-- what lanes gave is what was reported of the files, each once
pub record HaveGiven (told : Told) (files : List Turned) : Type 0 where
  pub parcels : AsOften told.issued (flat_map parcels_told files)
  pub notes_are : AsOften told.noted (flat_map notes_told files)

-- the keeper's counts, which saturate at 2^64 - 1
pub record AreCounted (keeper : Keeping) : Type 0 where
  pub shipped : keeper.shipped ≡ min (count_by is_shipped (notes keeper.pass.got)) (2 ^ 64 - 1)
  pub dropped : keeper.dropped ≡ min (count_by is_dropped (notes keeper.pass.got)) (2 ^ 64 - 1)
  pub collected : keeper.collected ≡ min (length keeper.pass.got) (2 ^ 64 - 1)

-- the keeper's notes are, as often, those that the run gave it and those that it collected, and orderly, over the rows that the registry gave
pub record AreNoted (opening : List Row) (keeper : Keeping) (begun collected : List Note) : Type 0 where
  pub opening_is : keeper.tracked.opening ≡ opening
  pub mixed : AreMixed begun collected keeper.tracked.notes
  pub got : notes keeper.pass.got ≡ collected ++ held_in keeper.held

-- ---- all of it, in parts: a step that leaves what a part reads as it was keeps the part

-- folder, clock and lanes, and how far the run is
pub record FilesNow (T : Type 0) : Type 0 where
  pub shown : Option FolderHistory
  pub moments : Option (List ℕ)
  pub lanes : List (Laning T)
  pub phase : Phase

-- of a run that follows its files, and began with this known of its folder
pub record IsFollowing {T : Type 0} (tails : TailWords T) (began : Option FolderHistory) (now : FilesNow T) (left : List Left) : Type 0 where
  pub none_over : NoneOver now.lanes
  -- until it is stopped, each file whose tail was closed may be opened again
  pub may : now.phase ≡ Following → AllByRecursion (λ one. IsAnswered one.turned.history) left
  -- each fall of a file's length was answered, if its tail counted no fault
  pub in_lanes : IsSome began → AllByRecursion (λ lane. AllByRecursion (HasAnsweredWhereNoFault tails.faults) lane.harvesters) now.lanes
  pub in_left : IsSome began → IfSome now.shown (λ folder. AllByRecursion (IsLeftAnswered folder) left)

pub record Files {T D : Type 0} (tails : TailWords T) (start : Began D) (now : FilesNow T) (so_far : FilesSoFar) : Type 0 where
  pub opened : AllByRecursion (IsOpenedAsListed start.settings start.shown start.opening start.listed so_far.scans) (first_opened so_far.earlier so_far.opened)
  pub ruled : AllByRecursion (IsRuled start.settings) so_far.opened
  pub keyed : IsSome start.shown → AllByRecursion IsKeyed so_far.opened
  pub each_once : AreEachOnce so_far.opened (files_within so_far)
  pub turned : Pairs (AreTurnedIn tails (watch_of start so_far.scans) so_far.opened so_far.moments) so_far.lanes now.lanes
  pub left : AllByRecursion (IsLeftSo (watch_of start so_far.scans) so_far.opened so_far.moments) so_far.left
  pub earlier : AreEarlier (watch_of start so_far.scans) start.shown so_far.opened so_far.moments so_far.earlier
  pub forgotten : AreForgotten so_far.scans so_far.opened so_far.left so_far.forgotten
  pub reading : now.phase ≡ Reading → IsReading now.lanes so_far
  pub finished : now.phase ≡ Finished → IsSome start.shown → AllByRecursion (λ turned. IsReadThrough turned.history) (files_within so_far)
  pub over : HaveOneOver now.phase (files_within so_far)
  pub read : ReadsYet now.phase → IsSome start.shown → AreRead tails now.shown now.lanes so_far.left
  pub answered : MayTell now.phase → IsSome start.shown → AreAnswered now.lanes so_far.left
  pub following : Follows now.phase → IsFollowing tails start.shown now so_far.left
  -- if the folder is known, so are the tails
  pub tell : IsSome start.shown → AllByRecursion (TellIn tails) now.lanes
  pub left_tell : IsSome start.shown → AllByRecursion (λ (one : Left). IsSome one.told) so_far.left
  pub scans : AreLaterScans start so_far.moments so_far.scans
  -- each opening, the first ones and those that came later, was listed by a scan
  pub listed : IsSome start.shown → AllByRecursion (WasListedSo start.listed so_far.scans) (openings_within so_far)
  pub shown : HasShown start.settings start.shown now.shown so_far
  pub given : HasGiven start.moments now.moments start.moment so_far.moments

-- lanes and workers, and what the keeper's pass collected
pub record BooksNow (T W L : Type 0) : Type 0 where
  pub lanes : List (Laning T)
  pub carriers : List (Carrier W L)
  pub got : List Note

-- notes are backed: each one that was collected, is in the box, or is held or owed has its ground in what was reported of files, or in what
-- was acknowledged
abbrev pub AreAllBacked : {T W L : Type 0} → BooksNow T W L → BooksSoFar → Type 0
AreAllBacked now so_far =
    AllByRecursion (HasGround so_far.files (flat so_far.told.acknowledged)) (now.got ++ (so_far.boxed ++ (held_notes now.lanes ++ owed_notes now.carriers)))

-- each event is in one place
pub record Books {T W L : Type 0} (links : LinkWords L) (wires : WireWords W) (starts : List ℕ) (now : BooksNow T W L) (so_far : BooksSoFar) : Type 0 where
  pub gave : HaveGiven so_far.told so_far.files
  pub booked : AreBooked links wires so_far.told now.lanes now.carriers
  pub heard : map (λ (heard : Heard). heard.start) so_far.told.acknowledged ≡ starts
  pub placed : ArePlaced so_far.told now.lanes now.carriers so_far.queued now.got so_far.boxed
  pub backed : AreAllBacked now so_far
  -- a count that saturates at 2^64 - 1
  pub spans : spans_told now.lanes < 2 ^ 64 - 1 → spans_in so_far.files ≡ spans_told now.lanes

-- what is noted and stored
pub record Notes {D : Type 0} (start : Began D) (keeper : Keeping) (so_far : NotesSoFar) : Type 0 where
  pub counted : AreCounted keeper
  pub begun : AreBeginNotes so_far.scans start.opening start.listed so_far.opened so_far.hidden so_far.begun
  pub hidden : AreHiddenSoFar start.settings.inputs start.listed start.opening so_far.hidden
  pub noted : AreNoted start.opening keeper (so_far.since ++ so_far.begun) so_far.collected
  pub stores : Stores keeper.tracked keeper.store

module _ {T W L D : Type 0} where
  abbrev pub files_now : RunState T W L D → FilesNow T
  files_now state = record { shown = state.shown; moments = state.moments; lanes = lanings state.crew.lanes.items; phase = state.phase }

  abbrev pub books_now : RunState T W L D → BooksNow T W L
  books_now state = record { lanes = lanings state.crew.lanes.items; carriers = state.crew.carriers.items; got = notes state.keeper.pass.got }

pub record Stands {T W L D : Type 0} (words : Words T W L D) (start : Began D) (state : RunState T W L D) (so_far : SoFar) : Type 0 where
  pub files : Files words.tails start (files_now state) (files_of so_far)
  pub books : Books words.links words.wires start.heard (books_now state) (books_of so_far)
  pub notes : Notes start state.keeper (notes_of so_far)
  pub areas : BeganAtRest words.disks start → HaveHeldFronts words.disks start.opening state.keeper.tracked.notes start.a start.b state.a state.b

-- it holds, whatever was done
pub record Further {T W L D : Type 0} (words : Words T W L D) (start : Began D) (state : RunState T W L D) : Type 0 where
  pub so_far : SoFar
  pub stands : Stands words start state so_far
