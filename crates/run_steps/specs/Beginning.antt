-- How a listed file begins (Filebeat reference, filestream input, file identity; this project's profile): it is opened and asked for its
-- key, the keeper notes its begin, and the lane of its slot has its harvester.
use Rattle.std.specs.Prelude.{◌≡◌, ◌≢◌, ◌⊎◌, ℕ, ◌%◌, ◌≤◌, false, List, [], ◌∷◌, ◌++◌, length, slice_get, Option, Some, None, Result, Ok, Err, IfErr, IfOk, IfSome, IsErrOf, IsNone, IsSome}
use Rattle.event_tree.specs.declared.input_rule.InputRule.{InputRule}
use Rattle.event_tree.specs.declared.settings.Settings.{Settings}
use Rattle.file_identity.specs.Answers.{IsAnswer, IsAsked, IsRefusedOpened}
use Rattle.file_identity.specs.declared.identity.Identity.{Identity}
use Rattle.file_identity.specs.declared.identity.Identity.TheVariants.{Key, TooSmall}
use Rattle.file_identity.specs.declared.identity_error.IdentityError.{IdentityError}
use Rattle.file_identity.specs.declared.identity_error.IdentityError.TheVariants.{NoNative as WithoutNumbers, ReadFault}
use Rattle.harvester.specs.HasTold.{HasTold, begin_of, looks_so_far}
use Rattle.harvester.specs.History.{opened}
use Rattle.harvester.specs.declared.harvester.Harvester.{Harvester}
use Rattle.keeper.specs.Keeping.{Keeping}
use Rattle.lanes.specs.Laning.{Laning}
use Rattle.outside.specs.Counts.{Rose}
use Rattle.outside.specs.declared.failed.FolderError.{FolderError}
use Rattle.outside.specs.declared.failed.FolderError.TheVariants.{Failed as Failing, NoMemory as WithoutMemory}
use Rattle.outside.specs.declared.folder.Folder.{Ghosts as FolderGhosts}
use Rattle.prospect.specs.declared.listed.Listed.{Listed}
use Rattle.report.specs.declared.passing.Why.TheVariants.{Doubled, Gone, Moved, Old, Small}
use Rattle.restart_join.specs.declared.start.Start.{Start}
use Rattle.rounds.specs.Crewed.{lanings}
use Rattle.rounds.specs.Words.{TailWords}
use Rattle.rounds.specs.declared.crew.Crew.{Crew}
use Rattle.wire_base.specs.declared.note.Begin.{Begin}
use Rattle.wire_base.specs.declared.numbers.Moment.{Moment}
use Rattle.wire_base.specs.declared.numbers.Slot.{Slot}
use Rattle.run_steps.specs.BeginFor.{IsBeginFor}
use Rattle.run_steps.specs.FolderSeen.{Closes, FolderSeen, OpensBy, seen_in}
use Rattle.run_steps.specs.Telling.{TellsBegin}
use Rattle.run_steps.specs.declared.begin_error.BeginError.{BeginError}
use Rattle.run_steps.specs.declared.begin_error.BeginError.TheVariants.{FolderFault, NoMemory, NoNative}
use Rattle.run_steps.specs.declared.opening.Opening.{Opening}
use Rattle.run_steps.specs.declared.begin.Admission.{Admission}
use Rattle.run_steps.specs.declared.begin.Admission.TheVariants.{Failed, Followed, Skipped}

-- a listed file, its slot, where it starts, and the moment of the scan
pub record ListedFile : Type 0 where
  pub slot : Slot
  pub listed : Listed
  pub start : Start
  pub now : Moment

abbrev pub listed_file : Slot → Listed → Start → Moment → ListedFile
listed_file slot listed start now = record { slot = slot; listed = listed; start = start; now = now }

abbrev pub file_of : Opening → ListedFile
file_of opening = listed_file opening.slot opening.listed.now opening.start opening.now

-- a harvester over the open file, by the rule of its input
pub record IsOpenedFor {T : Type 0} (tails : TailWords T) (settings : Settings) (file : ListedFile) (tail : T) (harvester : Harvester T) : Type 0 where
  pub rule : InputRule
  pub rule_is : slice_get settings.inputs file.listed.input ≡ Some rule
  pub begin : Begin
  pub begins : IsBeginFor file.slot file.listed file.start begin
  pub told : HasTold tails.numbers tails.told (opened rule settings.processors begin (looks_so_far (tails.told tail)) file.now.0) harvester
  pub begun : begin_of harvester ≡ begin
  pub at_work : harvester.rests ≡ false
  pub tail_kept : harvester.tail ≡ tail

-- the lane of this number has one more harvester, after its others; the other lanes are as they were
pub record AdmitsAt {T : Type 0} (number : ℕ) (harvester : Harvester T) (old new : List (Laning T)) : Type 0 where
  pub front : List (Laning T)
  pub lane : Laning T
  pub back : List (Laning T)
  pub were : old ≡ front ++ lane ∷ back
  pub at : length front ≡ number
  pub are : new ≡ front ++ (record lane { harvesters = lane.harvesters ++ harvester ∷ [] }) ∷ back

-- ---- what opening files changes: what the folder shows, the lanes and the keeper

pub record Beginning (T W L : Type 0) : Type 0 where
  pub folder : FolderSeen
  pub crew : Crew T W L
  pub keeper : Keeping

abbrev pub beginning : {F T W L : Type 0} → FolderGhosts F T → F → Crew T W L → Keeping → Beginning T W L
beginning words folder crew keeper = record { folder = seen_in words folder; crew = crew; keeper = keeper }

-- the crew is the same but for its lanes, and these have the same harvesters
pub record SameLanes {T W L : Type 0} (old new : Crew T W L) : Type 0 where
  pub lanes : lanings new.lanes.items ≡ lanings old.lanes.items
  pub others : new ≡ record old { lanes = new.lanes }

-- the begin of the file was reported to the keeper, and then the lane of its slot got its harvester
pub record TakesIn {T W L : Type 0} (file : ListedFile) (harvester : Harvester T) (old new : Beginning T W L) : Type 0 where
  pub tells : TellsBegin file.slot file.listed file.start old.keeper new.keeper
  pub admits : AdmitsAt (file.slot.0 % length old.crew.lanes.items) harvester (lanings old.crew.lanes.items) (lanings new.crew.lanes.items)
  pub others : new.crew ≡ record old.crew { lanes = new.crew.lanes }
  pub folder : new.folder ≡ old.folder

-- the file is followed
pub record Follows {T W L : Type 0} (tails : TailWords T) (settings : Settings) (file : ListedFile) (tail : T) (old new : Beginning T W L) : Type 0 where
  pub harvester : Harvester T
  pub opened : IsOpenedFor tails settings file tail harvester
  pub taken : TakesIn file harvester old new

-- out of memory, its tail was closed, and no lane has it; it may be that its begin was reported to the keeper
pub record GivesUp {T W L : Type 0} (tails : TailWords T) (file : ListedFile) (tail : T) (old new : Beginning T W L) : Type 0 where
  pub closes : Closes tails tail old.folder new.folder
  pub lanes : SameLanes old.crew new.crew
  pub keeper : (new.keeper ≡ old.keeper) ⊎ TellsBegin file.slot file.listed file.start old.keeper new.keeper

-- ---- the key of the file that was opened

module _ {T : Type 0} (tails : TailWords T) (settings : Settings) (file : ListedFile) where
  -- the tail was asked for its key, by the rule of the file's input
  pub record AsksKey (fresh asked : T) (result : Result Identity IdentityError) : Type 0 where
    pub rule : InputRule
    pub rule_is : slice_get settings.inputs file.listed.input ≡ Some rule
    pub answer : IfOk result (IsAnswer rule.id rule.file_identity file.listed.path (tails.numbers fresh))
    pub told : IfSome (tails.told fresh) (λ told. IsAsked rule.id rule.file_identity file.listed.path (tails.numbers fresh) told result (tails.told asked))
    pub untold : IsNone (tails.told fresh) → IsNone (tails.told asked)
    pub refused : IfErr result (IsRefusedOpened rule.file_identity (tails.numbers fresh))
    pub numbers_kept : tails.numbers asked ≡ tails.numbers fresh
    pub faults_never_fall : tails.faults fresh ≤ tails.faults asked
    pub failed_only_where_faults_rose : IsErrOf result ReadFault → Rose (tails.faults fresh) (tails.faults asked)

  module _ (fresh asked : T) where
    -- it is the one that was listed
    pub record HasListedKey : Type 0 where
      pub key : List ℕ
      pub asks : AsksKey fresh asked (Ok (Key key))
      pub listed : file.listed.key ≡ Some key

    -- it is another
    pub record HasOtherKey : Type 0 where
      pub key : List ℕ
      pub asks : AsksKey fresh asked (Ok (Key key))
      pub other : file.listed.key ≢ Some key
      pub no_fault : IsSome (tails.told fresh) → tails.faults asked ≡ tails.faults fresh

    -- not all bytes of its fingerprint were there
    pub record IsTooSmall : Type 0 where
      pub place : ℕ
      pub asks : AsksKey fresh asked (Ok (TooSmall place))
      pub no_fault : IsSome (tails.told fresh) → tails.faults asked ≡ tails.faults fresh

    -- or this is not known
    pub record FailsToTell (error : IdentityError) : Type 0 where
      pub asks : AsksKey fresh asked (Err error)

    -- what comes of the file, if it is not followed; or why that is not known
    abbrev pub TellsKey : Result (Option Admission) BeginError → Type 0
    TellsKey (Ok None) = HasListedKey
    TellsKey (Ok (Some Followed)) = ⊥
    TellsKey (Ok (Some (Skipped Moved))) = HasOtherKey
    TellsKey (Ok (Some (Skipped Small))) = IsTooSmall
    TellsKey (Ok (Some (Skipped Doubled))) = ⊥
    TellsKey (Ok (Some (Skipped Gone))) = ⊥
    TellsKey (Ok (Some (Skipped Old))) = ⊥
    TellsKey (Ok (Some Failed)) = FailsToTell ReadFault
    TellsKey (Err NoMemory) = (result : Result Identity IdentityError) × AsksKey fresh asked result
    TellsKey (Err FolderFault) = ⊥
    TellsKey (Err (NoNative slot)) = (slot ≡ file.slot) × FailsToTell WithoutNumbers

-- ---- by what the folder answered

-- a file had the path, and was opened
pub record HasOpened {T W L : Type 0} (tails : TailWords T) (file : ListedFile) (tail : T) (old mid : Beginning T W L) : Type 0 where
  pub opens : OpensBy tails file.listed.path (Ok (Some tail)) old.folder mid.folder
  pub crew : mid.crew ≡ old.crew
  pub keeper : mid.keeper ≡ old.keeper

-- it is the listed one, and is followed
pub record BeginsFile {T W L : Type 0} (tails : TailWords T) (settings : Settings) (file : ListedFile) (old new : Beginning T W L) : Type 0 where
  pub fresh : T
  pub tail : T
  pub mid : Beginning T W L
  pub opened : HasOpened tails file fresh old mid
  pub keyed : HasListedKey tails settings file fresh tail
  pub follows : Follows tails settings file tail mid new

-- or was closed again
pub record GivesFileUp {T W L : Type 0} (tails : TailWords T) (settings : Settings) (file : ListedFile) (old new : Beginning T W L) : Type 0 where
  pub fresh : T
  pub tail : T
  pub mid : Beginning T W L
  pub opened : HasOpened tails file fresh old mid
  pub keyed : HasListedKey tails settings file fresh tail
  pub gives_up : GivesUp tails file tail mid new

-- its tail was closed, and nothing was reported to the keeper
pub record ClosesUntold {T W L : Type 0} (tails : TailWords T) (tail : T) (old new : Beginning T W L) : Type 0 where
  pub closes : Closes tails tail old.folder new.folder
  pub crew : new.crew ≡ old.crew
  pub keeper : new.keeper ≡ old.keeper

-- it was asked for its key, and so closed again
pub record ClosesAsked {T W L : Type 0} (tails : TailWords T) (settings : Settings) (file : ListedFile) (fresh : T) (Why : T → T → Type 0) (old new : Beginning T W L) : Type 0 where
  pub asked : T
  pub result : Result Identity IdentityError
  pub asks : AsksKey tails settings file fresh asked result
  pub closed : ClosesUntold tails asked old new
  pub why : Why fresh asked

-- it was opened, asked, and so closed again for this reason
pub record ClosesFile {T W L : Type 0} (tails : TailWords T) (settings : Settings) (file : ListedFile) (Why : T → T → Type 0) (old new : Beginning T W L) : Type 0 where
  pub fresh : T
  pub mid : Beginning T W L
  pub opened : HasOpened tails file fresh old mid
  pub closed : ClosesAsked tails settings file fresh Why mid new

-- no file was opened, and nothing but the folder's list has changed
pub record OpensNone {T W L : Type 0} (tails : TailWords T) (file : ListedFile) (result : Result (Option T) FolderError) (old new : Beginning T W L) : Type 0 where
  pub opens : OpensBy tails file.listed.path result old.folder new.folder
  pub crew : new.crew ≡ old.crew
  pub keeper : new.keeper ≡ old.keeper

-- the listed file was found by this tail, and is followed
pub record FollowsAsked {T W L : Type 0} (tails : TailWords T) (settings : Settings) (file : ListedFile) (fresh : T) (old new : Beginning T W L) : Type 0 where
  pub tail : T
  pub keyed : HasListedKey tails settings file fresh tail
  pub follows : Follows tails settings file tail old new

-- or its tail was closed again
pub record GivesAskedUp {T W L : Type 0} (tails : TailWords T) (settings : Settings) (file : ListedFile) (fresh : T) (old new : Beginning T W L) : Type 0 where
  pub tail : T
  pub keyed : HasListedKey tails settings file fresh tail
  pub gives_up : GivesUp tails file tail old new

-- any reason
abbrev pub ForSomeReason : {T : Type 0} → T → T → Type 0
ForSomeReason fresh asked = Unit {0}

-- the file of this tail is followed, or was skipped for this reason, or failed, or ended the beginning of files
abbrev pub FollowsListed : {T W L : Type 0} → TailWords T → Settings → ListedFile → T → Result Admission BeginError → Beginning T W L → Beginning T W L → Type 0
FollowsListed tails settings file fresh (Ok Followed) old new = FollowsAsked tails settings file fresh old new
FollowsListed tails settings file fresh (Ok (Skipped Moved)) old new = ClosesAsked tails settings file fresh (HasOtherKey tails settings file) old new
FollowsListed tails settings file fresh (Ok (Skipped Small)) old new = ClosesAsked tails settings file fresh (IsTooSmall tails settings file) old new
FollowsListed tails settings file fresh (Ok (Skipped Doubled)) old new = ⊥
FollowsListed tails settings file fresh (Ok (Skipped Gone)) old new = ⊥
FollowsListed tails settings file fresh (Ok (Skipped Old)) old new = ⊥
FollowsListed tails settings file fresh (Ok Failed) old new =
    ClosesAsked tails settings file fresh (λ fresh asked. FailsToTell tails settings file fresh asked ReadFault) old new
FollowsListed tails settings file fresh (Err NoMemory) old new = GivesAskedUp tails settings file fresh old new ⊎ ClosesAsked tails settings file fresh ForSomeReason old new
FollowsListed tails settings file fresh (Err FolderFault) old new = ⊥
FollowsListed tails settings file fresh (Err (NoNative slot)) old new =
    (slot ≡ file.slot) × ClosesAsked tails settings file fresh (λ fresh asked. FailsToTell tails settings file fresh asked WithoutNumbers) old new

abbrev pub BeginsOne : {T W L : Type 0} → TailWords T → Settings → ListedFile → Result Admission BeginError → Beginning T W L → Beginning T W L → Type 0
BeginsOne tails settings file (Ok Followed) old new = BeginsFile tails settings file old new
BeginsOne tails settings file (Ok (Skipped Gone)) old new = OpensNone tails file (Ok None) old new
BeginsOne tails settings file (Ok (Skipped Moved)) old new = ClosesFile tails settings file (HasOtherKey tails settings file) old new
BeginsOne tails settings file (Ok (Skipped Small)) old new = ClosesFile tails settings file (IsTooSmall tails settings file) old new
BeginsOne tails settings file (Ok (Skipped Doubled)) old new = ⊥
BeginsOne tails settings file (Ok (Skipped Old)) old new = ⊥
BeginsOne tails settings file (Ok Failed) old new =
    OpensNone tails file (Err Failing) old new ⊎ ClosesFile tails settings file (λ fresh asked. FailsToTell tails settings file fresh asked ReadFault) old new
BeginsOne tails settings file (Err FolderFault) old new = ⊥
BeginsOne tails settings file (Err NoMemory) old new =
    OpensNone tails file (Err WithoutMemory) old new ⊎ (GivesFileUp tails settings file old new ⊎ ClosesFile tails settings file ForSomeReason old new)
BeginsOne tails settings file (Err (NoNative slot)) old new =
    (slot ≡ file.slot) × ClosesFile tails settings file (λ fresh asked. FailsToTell tails settings file fresh asked WithoutNumbers) old new
