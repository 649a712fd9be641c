-- A run that is accounted for (this project's profile): a run by its settings that fits what its objects reported before and after it, and
-- an account of it. Its opening rows are those that its areas gave. Its files are followed so, only reported events were sent, rows that
-- its areas give are kept. So are those that both areas gave together since it began, in one order of its writes, and those of each image of one
-- area by itself, but for an area that it did not use then and that is as it was. A key that had a row has one or lost it rightly, the same one if it was not
-- begun; and so has one that was begun, if the last steps were made. Each slot is as the run reported it if its own file keeps its identity
-- and its own truncations are seen, and a run that is done drained its folder. Its events are of epochs
-- that there are, and a run that gives a report needed no other. It is said if the folder, the clock and each wire are known.
use Rattle.std.specs.Prelude.{◌≡◌, ◌⊎◌, ℕ, ◌+◌, ◌≤◌, true, Contains, List, [], ◌∷◌, ◌++◌, length, map, Option, Some, None}
use Rattle.std.specs.List.{AllByRecursion}
use Rattle.accounts.specs.AccountedFor.{HasItsRow, followings_in}
use Rattle.batch_worker.specs.Standing.{length_of}
use Rattle.event_tree.specs.declared.settings.Settings.{Settings}
use Rattle.kept_rows.specs.Account.{SlotAccount, key_of}
use Rattle.kept_rows.specs.Drained.{IsDrainedBySlots}
use Rattle.kept_rows.specs.Followed.{AreFollowed}
use Rattle.kept_rows.specs.Kept.{IsKept, IsKeptInImage, IsUnbegun}
use Rattle.kept_rows.specs.Lost.{IsRightlyLost, IsRightlyLostInImage}
use Rattle.kept_rows.specs.Run.{Run}
use Rattle.kept_rows.specs.Sent.{SendOnlyTold}
use Rattle.kept_rows.specs.Stored.{IsStored}
use Rattle.kept_rows.specs.Telling.{AreSlotAccounts}
use Rattle.kept_rows.specs.Trace.{Trace}
use Rattle.outside.specs.Folders.{FolderHistory}
use Rattle.outside.specs.Times.{EndsWith}
use Rattle.outside.specs.Wires.{Outcome}
use Rattle.registry_log.specs.State.{IsOpened}
use Rattle.registry_store.specs.Choice.{GivesRows}
use Rattle.registry_store.specs.Settled.{AreAtRest}
use Rattle.rounds.specs.Pairs.{Pairs}
use Rattle.rounds.specs.Words.{DiskWords}
use Rattle.wire_base.specs.declared.limits.Which.{Which}
use Rattle.wire_base.specs.declared.row.Row.{Row}
use Rattle.run_steps.specs.Areas.{GiveTheRows}
use Rattle.run_steps.specs.LastEpoch.{HasItsEpochs, IsToldInEpochs}
use Rattle.told_scans.specs.FolderOn.{FolderGoesOn}
use Rattle.run_steps.specs.FirstLook.{HasFirstLook}
use Rattle.run_steps.specs.Met.{AreLeft, IsTelling}
use Rattle.run_steps.specs.Questions.{Questions}
use Rattle.run_steps.specs.ReadBehind.{HasReadBehind}
use Rattle.run_steps.specs.RunOf.{wires_behind}
use Rattle.run_steps.specs.WireOn.{OutcomesGoOn}
use Rattle.run_steps.specs.TakenUp.{HasTakenUp}
use Rattle.run_steps.specs.Together.{Areas, GiveThroughout, area_in}
use Rattle.run_steps.specs.UnusedArea.{IsOfUnusedArea}
use Rattle.run_steps.specs.declared.met.Met.{Met}
use Rattle.run_steps.specs.declared.met.Met.TheVariants.{Done, Stopped}

-- ---- the run that it is

-- what is known of a run's objects at one moment: its folder, its clock, how often clock and bell were asked, each wire's outcomes, and the
-- areas
pub record Objects (D : Type 0) : Type 0 where
  pub folder : Option FolderHistory
  pub moments : Option (List ℕ)
  pub questions : Questions
  pub outcomes : List (Option (List Outcome))
  pub a : D
  pub b : D

abbrev pub areas_of : {D : Type 0} → Objects D → Areas D
areas_of objects = record { a = objects.a; b = objects.b }

-- as the run began and as it ended
pub record RunObjects (D : Type 0) : Type 0 where
  pub before : Objects D
  pub after : Objects D

-- the trace has what the folder reported, and that the run began after what it had reported before, which it reports still
pub record FitsFolder (before after : FolderHistory) (trace : Trace) : Type 0 where
  pub goes_on : FolderGoesOn before after
  pub files : trace.files ≡ after.files
  pub events : trace.events ≡ after.events
  pub began : trace.began ≡ length before.events
  pub none_open : trace.open_tails ≡ []

abbrev pub FitsFolders : Option FolderHistory → Option FolderHistory → Trace → Type 0
FitsFolders None after trace = ⊥
FitsFolders (Some before) None trace = ⊥
FitsFolders (Some before) (Some after) trace = FitsFolder before after trace

-- these are the moments that the clock gave since then. The first of them it had given last before, or else appended; the others it
-- appended
pub record AreGivenSince (before after moments : List ℕ) : Type 0 where
  pub first : ℕ
  pub later : List ℕ
  pub moments_are : moments ≡ first ∷ later
  pub first_is : (EndsWith before first × (after ≡ before ++ later)) ⊎ ((¬ (EndsWith before first)) × (after ≡ before ++ first ∷ later))

-- or it was not asked
abbrev pub AreMomentsSince : Option (List ℕ) → Option (List ℕ) → List ℕ → Type 0
AreMomentsSince None after moments = ⊥
AreMomentsSince (Some before) None moments = ⊥
AreMomentsSince (Some before) (Some after) moments = ((moments ≡ []) × (after ≡ before)) ⊎ AreGivenSince before after moments

-- the moments begin with this one
pub record BeginWith (moment : ℕ) (moments : List ℕ) : Type 0 where
  pub later : List ℕ
  pub are : moments ≡ moment ∷ later

-- the run reads its files once, by one scan if it made one, and is what its objects reported
pub record FitsObjects {D : Type 0} (objects : RunObjects D) (run : Run) : Type 0 where
  pub once : run.once ≡ true
  pub one_scan : length run.scans ≤ 1
  pub folder : FitsFolders objects.before.folder objects.after.folder run.trace
  pub moments : AreMomentsSince objects.before.moments objects.after.moments run.trace.moments
  -- the moment of its scan is the first
  pub scan_first : AllByRecursion (λ scan. BeginWith scan.moment run.trace.moments) run.scans
  pub wires_go_on : Pairs OutcomesGoOn objects.before.outcomes objects.after.outcomes
  pub wires : run.trace.wires ≡ wires_behind (map length_of objects.before.outcomes) objects.after.outcomes

-- ---- its rows

-- which keys may be without a row
abbrev pub Absences : Type 1
Absences = Run → List SlotAccount → List ℕ → Type 0

-- at the end: those whose newest slot lost it rightly
abbrev pub LostKey : Absences
LostKey run account key = IsRightlyLost run account run.trace.wires key

-- in an image: those of which a slot lost it rightly
abbrev pub LostInImage : Absences
LostInImage run account key = IsRightlyLostInImage run account run.trace.wires key

-- the key has one of these
pub record HasRowOf (rows : List Row) (key : List ℕ) : Type 0 where
  pub row : Row
  pub of_rows : Contains rows row
  pub key_is : row.key ≡ key

module _ (run : Run) (account : List SlotAccount) where
  -- the rows of an image, or with which a run ends: each is kept as images keep them, and each key that had one before has one, or may be
  -- without; one of a key that was not begun is as it was
  pub record AreImageRows (Absent : Absences) (rows : List Row) : Type 0 where
    pub kept : AllByRecursion (IsKeptInImage account run.opening run.trace.wires) rows
    pub stay : AllByRecursion (λ row. HasRowOf rows row.key ⊎ Absent run account row.key) run.opening
    pub unbegun : AllByRecursion (λ row. IsUnbegun account row.key → Contains rows row) run.opening

  -- the bytes of both areas give such rows
  pub record GiveImageRows (first second : List ℕ) : Type 0 where
    pub rows : List Row
    pub given : GivesRows first second rows
    pub are : AreImageRows LostInImage rows

  -- the rows that the bytes of both areas give: as those of an image, whatever was hit, but that keys without a row have lost it for good;
  -- if the last steps were made, kept as a run ends with them, one for each key that was begun, or rightly lost, and stored as far as
  -- events are settled
  pub record RowsBy (met : Met) (rows : List Row) : Type 0 where
    pub in_image : AreImageRows LostKey rows
    pub kept : AreLeft met → AllByRecursion (IsKept account run.opening run.trace.wires) rows
    pub begun : AreLeft met → AllByRecursion (λ one. HasItsRow rows one ⊎ LostKey run account (key_of one)) account
    pub stored : AreLeft met → AllByRecursion (IsStored account run.trace.wires) rows

-- what both areas hold now gives rows
abbrev pub GiveRows : {D : Type 0} → DiskWords D → Objects D → Type 0
GiveRows disks objects = (first second : List ℕ) → disks.contents objects.a ≡ Some first → disks.contents objects.b ≡ Some second → (rows : List Row) × GivesRows first second rows

-- and those are such
abbrev pub AreRowsBy : {D : Type 0} → DiskWords D → Objects D → (List Row → Type 0) → Type 0
AreRowsBy disks objects P = (first second : List ℕ) (rows : List Row) → disks.contents objects.a ≡ Some first → disks.contents objects.b ≡ Some second →
    GivesRows first second rows → P rows

-- each image of an area since the run began that is opened has such rows, or the run did not use the area, and it is as it was before
abbrev pub ImagesHoldKeptRows : {D : Type 0} → DiskWords D → RunObjects D → Run → List SlotAccount → Which → Type 0
ImagesHoldKeptRows disks objects run account area = (image : List ℕ) (generation : ℕ) (rows : List Row) (end : ℕ) →
    disks.images_since (area_in (areas_of objects.after) area) (disks.moment (area_in (areas_of objects.before) area)) image → IsOpened image generation rows end →
    IsOfUnusedArea disks (areas_of objects.before) area image generation ⊎ AreImageRows run account LostInImage rows

-- and both areas gave such rows together since then
abbrev pub TogetherHoldKeptRows : {D : Type 0} → DiskWords D → RunObjects D → Run → List SlotAccount → Type 0
TogetherHoldKeptRows disks objects run account = GiveThroughout disks (GiveImageRows run account) (areas_of objects.before) (areas_of objects.after)

-- as the run began, the contents of both areas were known, and nothing was pending on them
abbrev pub WereAtRest : {D : Type 0} → DiskWords D → RunObjects D → Type 0
WereAtRest disks objects = AreAtRest disks.contents disks.images objects.before.a objects.before.b

-- ---- together

pub record AccountedFor {D : Type 0} (disks : DiskWords D) (settings : Settings) (objects : RunObjects D) (met : Met) : Type 0 where
  pub run : Run
  pub by_settings : run.settings ≡ settings
  pub account : List SlotAccount
  pub fits : FitsObjects objects run
  pub followed : AreFollowed run (followings_in account)
  pub slots : AreSlotAccounts run account
  pub sent : SendOnlyTold account run.trace.wires
  pub opened : GiveTheRows disks objects.before.a objects.before.b run.opening
  pub given : WereAtRest disks objects → GiveRows disks objects.after
  pub rows : WereAtRest disks objects → AreRowsBy disks objects.after (RowsBy run account met)
  pub images : WereAtRest disks objects → (area : Which) → ImagesHoldKeptRows disks objects run account area
  pub together : WereAtRest disks objects → TogetherHoldKeptRows disks objects run account
  -- a run that is done drained its folder
  pub drained : WereAtRest disks objects → met ≡ Done → AreRowsBy disks objects.after (IsDrainedBySlots run account)
  -- if it gives a report, it took up what its first scan showed; if it was stopped, each file was read after each look at its length
  pub taken_up : IsTelling met → HasTakenUp run account
  pub read : met ≡ Stopped → AllByRecursion (λ one. AllByRecursion (HasReadBehind run.trace) one.following.tails) account
  -- and if it asked its bell at least twice it looked at some file
  pub looked : met ≡ Stopped → objects.before.questions.bell + 2 ≤ objects.after.questions.bell → HasFirstLook run account
  -- each event was reported in an epoch that there is; if it gives a report, no file that a tail followed needed one above the last
  pub told_in_epochs : AllByRecursion IsToldInEpochs account
  pub epochs : IsTelling met → AllByRecursion (λ one. AllByRecursion (HasItsEpochs one) one.following.tails) account
