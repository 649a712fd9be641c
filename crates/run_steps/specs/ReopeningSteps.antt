-- Opening a file again as a step of a run (this project's profile): only the folder, the lanes and the keeper are used, at the moment that the clock gave
-- last, in a run that goes on whatever was told of its files. What stood before it stands after it, with the moment among those of the run: with one
-- more opening before the last ones if the file is followed, and no other change if it is skipped or fails. If the call ends, something stands.
use Rattle.std.specs.Prelude.{◌≡◌, ℕ, ◌++◌, false, length, List, Contains, IfSome, Result, Ok, Err, Some}
use Rattle.accounts.specs.Opened.{Opened}
use Rattle.harvester.specs.History.{told_to}
use Rattle.keeper.specs.Keeping.{Keeping}
use Rattle.outside.specs.Times.{GivesMoment}
use Rattle.rounds.specs.declared.crew.Crew.{Crew}
use Rattle.run_steps.specs.Began.{Began}
use Rattle.run_steps.specs.BeginFor.{begin_for}
use Rattle.run_steps.specs.Beginning.{Beginning}
use Rattle.run_steps.specs.Goes.{StepWords, Stop, moments_at, state_at}
use Rattle.run_steps.specs.ListedSo.{newest_files}
use Rattle.run_steps.specs.OpenedAgain.{IsClosedLast, IsOpenedAgain}
use Rattle.run_steps.specs.Onward.{BeganBy, rules_of}
use Rattle.run_steps.specs.Reopening.{KnownFile, ReopensOne, goes_on_at}
use Rattle.run_steps.specs.RunState.{Leaving}
use Rattle.run_steps.specs.SoFar.{SoFar, files_of}
use Rattle.run_steps.specs.Stands.{Further, Stands}
use Rattle.run_steps.specs.declared.begin_error.BeginError.{BeginError}
use Rattle.run_steps.specs.declared.begin.Admission.{Admission}
use Rattle.run_steps.specs.declared.begin.Admission.TheVariants.{Failed, Followed, Skipped}
use Rattle.run_steps.specs.declared.context.Context.{Context}

-- where tails may be closed, and others are turned on
abbrev pub leaving : {T W L D F K B : Type 0} → Stop T W L D F K B → Stop T W L D F K B
leaving stop = record stop { phase = Leaving }

-- all else is as it was
abbrev pub with_opened : {T W L D F K B : Type 0} → Stop T W L D F K B → F → Crew T W L → Keeping → Stop T W L D F K B
with_opened stop folder crew keeper = record stop {
  crew = crew;
  storing = record stop.storing { keeper = record stop.storing.keeper { now = keeper } };
  system = record stop.system { folder = record stop.system.folder { now = folder } };
}

abbrev pub beginning_at : {T W L D F K B : Type 0} → StepWords T W L D F K B → Stop T W L D F K B → Beginning T W L
beginning_at words stop = record { folder = words.seen stop.system.folder.now; crew = stop.crew; keeper = stop.storing.keeper.now }

-- the file is the one of this last opening, whose tail was closed, from where that was told to
pub record IsKnownAs (known : KnownFile) (so_far : SoFar) (last : Opened) (closed : IsClosedLast (files_of so_far) last) : Type 0 where
  pub slot : known.file.slot ≡ last.begin.slot
  pub input : known.file.listed.input ≡ last.begin.input
  pub key : known.file.listed.key ≡ Some last.begin.key
  pub epoch : known.last.0 ≡ closed.left.turned.history.present.epoch
  pub start : known.file.start
      ≡ goes_on_at (record { epoch = closed.left.turned.history.present.epoch; base = told_to closed.left.turned.history.present }) known.file.listed.size

module _ {T W L D F K B : Type 0} (words : StepWords T W L D F K B) (context : Context) (known : KnownFile) where
  -- with the moment among those of the run; it may be a new one of a clock that tells none
  pub record StandsLater (start : Began D) (so_far : SoFar) (now : Stop T W L D F K B) : Type 0 where
    pub more : List ℕ
    pub stands : Stands words.all start (state_at words now) (record so_far { moments = so_far.moments ++ more })

  -- the file is followed: it begins as it is listed now, with the key that it had, and its opening comes after all that the folder reported before the step
  pub record StandsAgain (start : Began D) (so_far : SoFar) (last : Opened) (closed : IsClosedLast (files_of so_far) last) (before now : Stop T W L D F K B) : Type 0 where
    pub more : List ℕ
    pub next : Opened
    pub later : SoFar
    pub begin_is : next.begin ≡ begin_for known.file.slot known.file.listed last.begin.key known.file.start
    pub place : IfSome (words.seen before.system.folder.now).told (λ told. next.opening ≡ length told.events)
    pub again : IsOpenedAgain context.settings.now.processors known.file.now.0 last next (record so_far { moments = so_far.moments ++ more }) later closed.left
    pub stands : Stands words.all start (state_at words now) later

  -- by what the step answered
  abbrev pub StandsBehind : Result Admission BeginError → (start : Began D) (so_far : SoFar) (last : Opened) → IsClosedLast (files_of so_far) last → Stop T W L D F K B → Stop T W L D F K B → Type 0
  StandsBehind (Ok Followed) start so_far last closed before now = StandsAgain start so_far last closed before now
  StandsBehind (Ok (Skipped why)) start so_far last closed before now = StandsLater start so_far now
  StandsBehind (Ok Failed) start so_far last closed before now = StandsLater start so_far now
  StandsBehind (Err error) start so_far last closed before now = Further words.all start (state_at words now)

  -- for each run of these settings that stands so, that closed the last tail of the file, and whose newest scan listed it so
  abbrev pub IsReopeningStep : Result Admission BeginError → Stop T W L D F K B → Stop T W L D F K B → Type 0
  IsReopeningStep result before after =
      (start : Began D) (so_far : SoFar) → BeganBy (rules_of context) start → Stands words.all start (state_at words before) so_far → (last : Opened) (closed : IsClosedLast (files_of so_far) last) →
      IsKnownAs known so_far last closed → Contains (newest_files start.listed so_far.scans) known.file.listed → StandsBehind result start so_far last closed before after

  -- the run does not read its files once, the clock would give this moment again, and the step was made so
  pub record MayOpenAgain (result : Result Admission BeginError) (before after : Stop T W L D F K B) : Type 0 where
    pub follows : context.once ≡ false
    pub moment : GivesMoment (moments_at words before) known.file.now.0 (moments_at words before)
    pub reopens : ReopensOne words.all.tails context.settings.now known result (beginning_at words before) (beginning_at words after)

-- each such step keeps what stands
abbrev pub OpeningsAgainAreSteps : {T W L D F K B : Type 0} → StepWords T W L D F K B → Type 0
OpeningsAgainAreSteps {T} {W} {L} {D} {F} {K} {B} words = (context : Context) (known : KnownFile) (result : Result Admission BeginError) (now : Stop T W L D F K B) (folder : F) (crew : Crew T W L) (keeper : Keeping) →
    MayOpenAgain words context known result (leaving now) (leaving (with_opened now folder crew keeper)) →
    IsReopeningStep words context known result (leaving now) (leaving (with_opened now folder crew keeper))
