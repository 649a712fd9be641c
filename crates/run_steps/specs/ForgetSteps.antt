-- Telling the keeper that a removed file is forgotten, as a step of a run (this project's profile). It supposes that a later whole scan missed the file
-- after it was opened last, that its last tail is closed, and that the note has the epoch and the place to which it was told. What was known of the
-- run is known after it, with one more file that is forgotten.
use Rattle.std.specs.Prelude.{◌≡◌, [], ◌∷◌, ◌++◌, None}
use Rattle.keeper.specs.Keeping.{Keeping}
use Rattle.run_steps.specs.Began.{Began}
use Rattle.run_steps.specs.ChangeSteps.{IsReadyAt, with_keeper}
use Rattle.run_steps.specs.Forgetting.{ForgetsFile, forget_note}
use Rattle.run_steps.specs.Forgotten.{IsForgottenSo}
use Rattle.run_steps.specs.Goes.{Keeps, StepWords, Stop, state_at}
use Rattle.run_steps.specs.Onward.{BeganBy, rules_of}
use Rattle.run_steps.specs.SoFar.{Forgotten, SoFar, forget_of}
use Rattle.run_steps.specs.Stands.{Stands}
use Rattle.run_steps.specs.Telling.{TellsNotes}
use Rattle.run_steps.specs.declared.context.Context.{Context}
use Rattle.run_steps.specs.declared.forgetting.RemovedFile.{RemovedFile}

-- all else is as it was
abbrev pub with_forgotten : Forgotten → SoFar → SoFar
with_forgotten one so_far = record so_far { forgotten = so_far.forgotten ++ one ∷ [] }

-- the run may forget it, and the note is its Forget
pub record IsToForget (file : RemovedFile) (so_far : SoFar) (one : Forgotten) : Type 0 where
  pub so : IsForgottenSo so_far.scans so_far.opened so_far.left one
  pub is : forget_of one ≡ forget_note file

module _ {T W L D F K B : Type 0} (words : StepWords T W L D F K B) where
  pub record IsForgetting (context : Context) (file : RemovedFile) (before after : Stop T W L D F K B) : Type 0 where
    pub keeps : Keeps words context (TellsNotes (forget_note file ∷ [])) None before after
    pub forgotten : (start : Began D) (so_far : SoFar) (one : Forgotten) → BeganBy (rules_of context) start → Stands words.all start (state_at words before) so_far →
        IsToForget file so_far one → Stands words.all start (state_at words after) (with_forgotten one so_far)

  abbrev pub ForgetsAreSteps : Type 0
  ForgetsAreSteps = (context : Context) (file : RemovedFile) (now : Stop T W L D F K B) (keeper : Keeping) → IsReadyAt words context now →
      ForgetsFile file now.storing.keeper.now keeper → IsForgetting context file now (with_keeper now keeper)
