-- The one relation that each step of a run keeps (this project's profile): if it holds of a run before the step, it holds after it, of the same run: what
-- is known of it has grown from what was known before. The steps are those of runs with these settings, that read their files once, or of runs that do not.
use Rattle.std.specs.Prelude.{◌≡◌, Bool}
use Rattle.event_tree.specs.declared.settings.Settings.{Settings}
use Rattle.run_steps.specs.Areas.{BeganAtRest, IsAtRest}
use Rattle.run_steps.specs.Began.{Began}
use Rattle.run_steps.specs.Growing.{StandsGrown}
use Rattle.run_steps.specs.RunState.{RunState}
use Rattle.run_steps.specs.SoFar.{SoFar}
use Rattle.run_steps.specs.Stands.{Stands}
use Rattle.run_steps.specs.declared.context.Context.{Context}
use Rattle.rounds.specs.Words.{Words}

-- by what the steps of a run go
pub record RunRules : Type 0 where
  pub settings : Settings
  -- whether files are read once: each turn may find the end of its file
  pub once : Bool

abbrev pub rules_of : Context → RunRules
rules_of context = record { settings = context.settings.now; once = context.once }

-- the run began by these
pub record BeganBy {D : Type 0} (rules : RunRules) (start : Began D) : Type 0 where
  pub settings : start.settings ≡ rules.settings
  pub once : start.once ≡ rules.once

-- a word, so that no search takes it apart
unfoldable pub Onward : {T W L D : Type 0} → Words T W L D → RunRules → RunState T W L D → RunState T W L D → Type 0
Onward {T = T} {W = W} {L = L} {D = D} words rules before after = (start : Began D) (so_far : SoFar) → BeganBy rules start → Stands words start before so_far →
    (BeganAtRest words.disks start → IsAtRest words.disks before.keeper before.a before.b) → StandsGrown words start so_far after
