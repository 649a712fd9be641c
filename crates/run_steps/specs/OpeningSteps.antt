-- Opening a file for the first time after a later scan as a step of a run (this project's profile): only the folder, the lanes and the keeper are used, at
-- the moment that the clock gave last, in a run that goes on whatever was told of its files. What stood before it stands after it, with the moment among
-- those of the run: with one more file if it is followed, and no other change if it is skipped or fails. If the call ends, something stands.
use Rattle.std.specs.Prelude.{◌≡◌, ◌≤◌, ℕ, ◌++◌, false, List, Result, Ok, Err}
use Rattle.accounts.specs.Opened.{Opened}
use Rattle.keeper.specs.Keeping.{Keeping}
use Rattle.outside.specs.Times.{GivesMoment}
use Rattle.rounds.specs.declared.crew.Crew.{Crew}
use Rattle.run_steps.specs.Began.{Began}
use Rattle.run_steps.specs.BeginFor.{IsBeginFor}
use Rattle.run_steps.specs.Beginning.{BeginsOne, ListedFile}
use Rattle.run_steps.specs.BeginsAll.{IsOfRuledInput}
use Rattle.run_steps.specs.ChangeSteps.{IsReadyAt}
use Rattle.run_steps.specs.Goes.{StepWords, Stop, moments_at, state_at}
use Rattle.run_steps.specs.Onward.{BeganBy, rules_of}
use Rattle.run_steps.specs.OpenedFirst.{IsListedUnopened, IsOpenedFirst}
use Rattle.run_steps.specs.ReopeningSteps.{beginning_at, leaving, with_opened}
use Rattle.run_steps.specs.SoFar.{SoFar}
use Rattle.run_steps.specs.Stands.{Further, Stands}
use Rattle.run_steps.specs.declared.begin_error.BeginError.{BeginError}
use Rattle.run_steps.specs.declared.begin.Admission.{Admission}
use Rattle.run_steps.specs.declared.begin.Admission.TheVariants.{Failed, Followed, Skipped}
use Rattle.run_steps.specs.declared.context.Context.{Context}

module _ {T W L D F K B : Type 0} (words : StepWords T W L D F K B) (context : Context) (file : ListedFile) where
  -- with the moment among those of the run; it may be a new one of a clock that tells none
  pub record StandsUnopened (start : Began D) (so_far : SoFar) (now : Stop T W L D F K B) : Type 0 where
    pub more : List ℕ
    pub stands : Stands words.all start (state_at words now) (record so_far { moments = so_far.moments ++ more })

  -- the file is followed: it was opened by its entry
  pub record StandsOpened (start : Began D) (so_far : SoFar) (now : Stop T W L D F K B) : Type 0 where
    pub more : List ℕ
    pub one : Opened
    pub begins : IsBeginFor file.slot file.listed file.start one.begin
    pub later : SoFar
    pub first : IsOpenedFirst context.settings.now.processors file.now.0 one (record so_far { moments = so_far.moments ++ more }) later
    pub stands : Stands words.all start (state_at words now) later

  -- by what the step answered
  abbrev pub StandsOnceOpened : Result Admission BeginError → Began D → SoFar → Stop T W L D F K B → Type 0
  StandsOnceOpened (Ok Followed) start so_far now = StandsOpened start so_far now
  StandsOnceOpened (Ok (Skipped why)) start so_far now = StandsUnopened start so_far now
  StandsOnceOpened (Ok Failed) start so_far now = StandsUnopened start so_far now
  StandsOnceOpened (Err error) start so_far now = Further words.all start (state_at words now)

  -- for each run of these settings that stands so, whose newest scan gave the file
  abbrev pub IsOpeningStep : Result Admission BeginError → Stop T W L D F K B → Stop T W L D F K B → Type 0
  IsOpeningStep result before after =
      (start : Began D) (so_far : SoFar) → BeganBy (rules_of context) start → Stands words.all start (state_at words before) so_far → IsListedUnopened start file so_far →
      StandsOnceOpened result start so_far after

  -- the run does not read its files once, the clock would give this moment again, the file was listed with at least the size of the place from which it is
  -- read, by an input whose rules are in their ranges, and the step was made so
  pub record MayOpenFirst (result : Result Admission BeginError) (before after : Stop T W L D F K B) : Type 0 where
    pub follows : context.once ≡ false
    pub moment : GivesMoment (moments_at words before) file.now.0 (moments_at words before)
    pub long_enough : file.start.base ≤ file.listed.size
    pub of_input : IsOfRuledInput context.settings.now file.listed
    pub begins : BeginsOne words.all.tails context.settings.now file result (beginning_at words before) (beginning_at words after)

-- each such step keeps what stands
abbrev pub OpeningsAreSteps : {T W L D F K B : Type 0} → StepWords T W L D F K B → Type 0
OpeningsAreSteps {T} {W} {L} {D} {F} {K} {B} words = (context : Context) (file : ListedFile) (result : Result Admission BeginError) (now : Stop T W L D F K B) (folder : F) (crew : Crew T W L) (keeper : Keeping) →
    MayOpenFirst words context file result (leaving now) (leaving (with_opened now folder crew keeper)) →
    IsOpeningStep words context file result (leaving now) (leaving (with_opened now folder crew keeper))

-- whatever the step answered, rounds may follow it if they might before it
abbrev pub OpeningsKeepReady : {T W L D F K B : Type 0} → StepWords T W L D F K B → Type 0
OpeningsKeepReady {T} {W} {L} {D} {F} {K} {B} words = (context : Context) (file : ListedFile) (result : Result Admission BeginError) (now : Stop T W L D F K B) (folder : F) (crew : Crew T W L) (keeper : Keeping) →
    BeginsOne words.all.tails context.settings.now file result (beginning_at words now) (beginning_at words (with_opened now folder crew keeper)) →
    IsReadyAt words context now → IsReadyAt words context (with_opened now folder crew keeper)
