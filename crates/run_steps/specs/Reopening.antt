-- How a known file is opened again (Filebeat reference, filestream input, file identity; this project's profile): it is opened by its path and asked for its
-- key as before; if it is still the file of that key, then the keeper is told its epoch, if that is another one than was told last, and the
-- lane of its slot has its harvester.
use Rattle.std.specs.Prelude.{◌≡◌, ◌≢◌, ◌⊎◌, ℕ, ◌+◌, ◌%◌, ◌<◌, ◌≤◌, nat_le, [], ◌∷◌, length, if◌then◌else◌, Result, Ok, Err}
use Rattle.beat_config.specs.InRange.{AreInRange}
use Rattle.event_tree.specs.declared.settings.Settings.{Settings}
use Rattle.file_identity.specs.declared.identity_error.IdentityError.TheVariants.{NoNative as WithoutNumbers, ReadFault}
use Rattle.harvester.specs.declared.harvester.Harvester.{Harvester}
use Rattle.keeper.specs.Keeping.{Keeping}
use Rattle.outside.specs.declared.failed.FolderError.TheVariants.{NoMemory as WithoutMemory}
use Rattle.prospect.specs.ListedFiles.{IsListedInRange}
use Rattle.report.specs.declared.passing.Why.TheVariants.{Doubled, Gone, Moved, Old, Small}
use Rattle.restart_join.specs.declared.start.Start.{Start}
use Rattle.rounds.specs.Crewed.{lanings}
use Rattle.rounds.specs.Words.{TailWords}
use Rattle.rounds.specs.declared.crew.Crew.{Crew}
use Rattle.wire_base.specs.Ranges.{IsMoment}
use Rattle.wire_base.specs.declared.note.Note.TheVariants.{Announce}
use Rattle.wire_base.specs.declared.numbers.Epoch.{Epoch}
use Rattle.run_steps.specs.Beginning.{AdmitsAt, Beginning, BeginsOne, ClosesAsked, ClosesFile, FailsToTell, ForSomeReason, HasListedKey, HasOpened, HasOtherKey, IsOpenedFor, IsTooSmall, ListedFile, OpensNone, SameLanes, file_of}
use Rattle.run_steps.specs.FolderSeen.{Closes}
use Rattle.run_steps.specs.Telling.{TellsNotes}
use Rattle.run_steps.specs.declared.begin_error.BeginError.{BeginError}
use Rattle.run_steps.specs.declared.begin_error.BeginError.TheVariants.{FolderFault, NoMemory, NoNative}
use Rattle.run_steps.specs.declared.begin.Admission.{Admission}
use Rattle.run_steps.specs.declared.begin.Admission.TheVariants.{Failed, Followed, Skipped}
use Rattle.run_steps.specs.declared.reopening.Reopening.{Reopening}

-- where it goes on, if it was told up to this place of its epoch and is listed with this size
abbrev pub goes_on_at : Start → ℕ → Start
goes_on_at told size = if nat_le told.base size then told else record { epoch = told.epoch + 1; base = 0 }

-- the file as it was listed last, and the epoch in which its last tail was closed
pub record KnownFile : Type 0 where
  pub file : ListedFile
  pub last : Epoch

abbrev pub reopened_of : Reopening → KnownFile
reopened_of reopening = record { file = file_of reopening.opening; last = reopening.last }

-- the settings and what was listed are in their ranges, there is a lane, and the file goes on within its size
pub record IsReopenable {T W L : Type 0} (settings : Settings) (known : KnownFile) (crew : Crew T W L) : Type 0 where
  pub settings_in_range : AreInRange settings
  pub in_range : IsListedInRange known.file.listed
  pub input : known.file.listed.input < length settings.inputs
  pub moment : IsMoment known.file.now
  pub some_lanes : 0 < length crew.lanes.items
  pub start : known.file.start.base ≤ known.file.listed.size

-- ---- the keeper, and the lane

-- it was told the epoch if that is another one, and nothing else
abbrev pub AnnouncesRise : KnownFile → Keeping → Keeping → Type 0
AnnouncesRise known old new =
    ((known.file.start.epoch ≡ known.last.0) × (new ≡ old))
    ⊎ ((known.file.start.epoch ≢ known.last.0) × TellsNotes (Announce known.file.slot (record { 0 = known.file.start.epoch }) ∷ []) old new)

-- and then the lane of its slot got its harvester
pub record TakesInAgain {T W L : Type 0} (known : KnownFile) (harvester : Harvester T) (old new : Beginning T W L) : Type 0 where
  pub announces : AnnouncesRise known old.keeper new.keeper
  pub admits : AdmitsAt (known.file.slot.0 % length old.crew.lanes.items) harvester (lanings old.crew.lanes.items) (lanings new.crew.lanes.items)
  pub others : new.crew ≡ record old.crew { lanes = new.crew.lanes }
  pub folder : new.folder ≡ old.folder

-- the file is followed
pub record FollowsAgain {T W L : Type 0} (tails : TailWords T) (settings : Settings) (known : KnownFile) (tail : T) (old new : Beginning T W L) : Type 0 where
  pub harvester : Harvester T
  pub opened : IsOpenedFor tails settings known.file tail harvester
  pub taken : TakesInAgain known harvester old new

-- out of memory, its tail was closed, and no lane has it; it may be that the keeper was told its epoch
pub record GivesUpAgain {T W L : Type 0} (tails : TailWords T) (known : KnownFile) (tail : T) (old new : Beginning T W L) : Type 0 where
  pub closes : Closes tails tail old.folder new.folder
  pub lanes : SameLanes old.crew new.crew
  pub keeper : (new.keeper ≡ old.keeper) ⊎ AnnouncesRise known old.keeper new.keeper

-- ---- by what its tail told of its key

-- it has still the key, and is followed
pub record FollowsKnown {T W L : Type 0} (tails : TailWords T) (settings : Settings) (known : KnownFile) (fresh : T) (old new : Beginning T W L) : Type 0 where
  pub tail : T
  pub keyed : HasListedKey tails settings known.file fresh tail
  pub follows : FollowsAgain tails settings known tail old new

-- or its tail was closed again
pub record GivesKnownUp {T W L : Type 0} (tails : TailWords T) (settings : Settings) (known : KnownFile) (fresh : T) (old new : Beginning T W L) : Type 0 where
  pub tail : T
  pub keyed : HasListedKey tails settings known.file fresh tail
  pub gives_up : GivesUpAgain tails known tail old new

module _ {T W L : Type 0} (tails : TailWords T) (settings : Settings) (known : KnownFile) where
  -- the file of this tail is followed, or was skipped for this reason, or failed, or the call ended
  abbrev pub FollowsListedAgain : T → Result Admission BeginError → Beginning T W L → Beginning T W L → Type 0
  FollowsListedAgain fresh (Ok Followed) old new = FollowsKnown tails settings known fresh old new
  FollowsListedAgain fresh (Ok (Skipped Moved)) old new = ClosesAsked tails settings known.file fresh (HasOtherKey tails settings known.file) old new
  FollowsListedAgain fresh (Ok (Skipped Small)) old new = ClosesAsked tails settings known.file fresh (IsTooSmall tails settings known.file) old new
  FollowsListedAgain fresh (Ok (Skipped Doubled)) old new = ⊥
  FollowsListedAgain fresh (Ok (Skipped Gone)) old new = ⊥
  FollowsListedAgain fresh (Ok (Skipped Old)) old new = ⊥
  FollowsListedAgain fresh (Ok Failed) old new = ClosesAsked tails settings known.file fresh (λ fresh asked. FailsToTell tails settings known.file fresh asked ReadFault) old new
  FollowsListedAgain fresh (Err NoMemory) old new = GivesKnownUp tails settings known fresh old new ⊎ ClosesAsked tails settings known.file fresh ForSomeReason old new
  FollowsListedAgain fresh (Err FolderFault) old new = ⊥
  FollowsListedAgain fresh (Err (NoNative slot)) old new =
      (slot ≡ known.file.slot) × ClosesAsked tails settings known.file fresh (λ fresh asked. FailsToTell tails settings known.file fresh asked WithoutNumbers) old new

  -- ---- by what the folder answered

  -- a file had the path, and is followed
  pub record ReopensFile (old new : Beginning T W L) : Type 0 where
    pub fresh : T
    pub mid : Beginning T W L
    pub opened : HasOpened tails known.file fresh old mid
    pub follows : FollowsKnown tails settings known fresh mid new

  -- or was closed again
  pub record GivesReopenedUp (old new : Beginning T W L) : Type 0 where
    pub fresh : T
    pub mid : Beginning T W L
    pub opened : HasOpened tails known.file fresh old mid
    pub gives_up : GivesKnownUp tails settings known fresh mid new

  -- where it is not followed, it is as with a first opening
  abbrev pub ReopensOne : Result Admission BeginError → Beginning T W L → Beginning T W L → Type 0
  ReopensOne (Ok Followed) old new = ReopensFile old new
  ReopensOne (Ok (Skipped why)) old new = BeginsOne tails settings known.file (Ok (Skipped why)) old new
  ReopensOne (Ok Failed) old new = BeginsOne tails settings known.file (Ok Failed) old new
  ReopensOne (Err FolderFault) old new = ⊥
  ReopensOne (Err NoMemory) old new =
      OpensNone tails known.file (Err WithoutMemory) old new ⊎ (GivesReopenedUp old new ⊎ ClosesFile tails settings known.file ForSomeReason old new)
  ReopensOne (Err (NoNative slot)) old new = BeginsOne tails settings known.file (Err (NoNative slot)) old new
