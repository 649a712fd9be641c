-- How what is known of a run grows in a step that tells its keeper nothing itself (this project's profile): it is the same run, of which more
-- moments and scans may be known, more tails that were closed, and more notes that the keeper collected. What it opened, and what it told its keeper,
-- is as it was. Nothing is said of what lanes and workers have.
use Rattle.std.specs.Prelude.{◌≡◌, List, ◌++◌}
use Rattle.rounds.specs.Words.{Words}
use Rattle.run_steps.specs.Began.{Began}
use Rattle.run_steps.specs.RunState.{RunState}
use Rattle.run_steps.specs.SoFar.{SoFar}
use Rattle.run_steps.specs.Stands.{Stands}

-- the second list begins with the first one
pub record IsPrefix {A : Type 0} (before after : List A) : Type 0 where
  pub more : List A
  pub are : after ≡ before ++ more

pub record IsGrownFrom (before after : SoFar) : Type 0 where
  pub moments : IsPrefix before.moments after.moments
  pub scans : IsPrefix before.scans after.scans
  -- the same files, each as it was opened last, and the same hidden rows
  pub opened : after.opened ≡ before.opened
  pub hidden : after.hidden ≡ before.hidden
  -- no file was forgotten
  pub forgotten : after.forgotten ≡ before.forgotten
  -- none was opened again
  pub earlier : after.earlier ≡ before.earlier
  -- each tail that was closed is closed still, with what it told then
  pub left : IsPrefix before.left after.left
  -- the run told its keeper nothing itself
  pub begun : after.begun ≡ before.begun
  pub collected : IsPrefix before.collected after.collected

-- what is known of the run in this state has grown from what was known of it before
pub record StandsGrown {T W L D : Type 0} (words : Words T W L D) (start : Began D) (before : SoFar) (state : RunState T W L D) : Type 0 where
  pub so_far : SoFar
  pub stands : Stands words start state so_far
  pub grown : IsGrownFrom before so_far
