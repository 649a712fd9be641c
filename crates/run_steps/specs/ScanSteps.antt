-- A scan after the first one as a step of a run (this project's profile): only the folder is used, at the moment that the clock gave last. What held
-- before it holds after it, with that scan as the run's last one.
use Rattle.std.specs.Prelude.{◌≡◌, ◌-◌, ◌^◌, ◌<◌, ◌++◌, [], ◌∷◌, ℕ, false, List, None, Option}
use Rattle.outside.specs.Times.{GivesMoment}
use Rattle.rounds.specs.Crewing.{crewing}
use Rattle.told_scans.specs.ToldScan.{ToldScan}
use Rattle.run_steps.specs.Began.{Began}
use Rattle.run_steps.specs.Goes.{Goes, StepWords, Stop, moments_at, state_at}
use Rattle.run_steps.specs.Onward.{BeganBy, rules_of}
use Rattle.run_steps.specs.Readiness.{IsReadyIn}
use Rattle.run_steps.specs.ScansAgain.{IsCounted, ScansAgain, later_scan}
use Rattle.run_steps.specs.SoFar.{SoFar}
use Rattle.run_steps.specs.Stands.{Stands}
use Rattle.run_steps.specs.declared.context.Context.{Context}
use Rattle.run_steps.specs.declared.scanning.Rescan.{Rescan}

-- all else is as it was
abbrev pub with_folder : {T W L D F K B : Type 0} → Stop T W L D F K B → F → Stop T W L D F K B
with_folder stop folder = record stop { system = record stop.system { folder = record stop.system.folder { now = folder } } }

module _ {T W L D F K B : Type 0} (words : StepWords T W L D F K B) (context : Context) (scan : Rescan) where
  -- the run does not read its files once, another round may follow, and the clock would give this moment again
  pub record MayScanAgain (now : Stop T W L D F K B) (folder : F) : Type 0 where
    pub follows : context.once ≡ false
    pub ready : IsReadyIn words.all.tails context (crewing now.crew now.storing)
    pub moment : GivesMoment (moments_at words now) scan.now.0 (moments_at words now)
    -- the folder's counts are not at their ends: one more open tail is counted, and each failed listing is listed
    pub open_tails : (words.seen now.system.folder.now).open_tails < 2 ^ 64 - 1
    pub counted : IsCounted scan (words.seen folder).faults
    pub scans : ScansAgain context.settings.now scan (words.seen now.system.folder.now) (words.seen folder)

  -- with this scan as its last one; the moment may be a new one of a clock whose moments are not known
  pub record StandsOneMore (start : Began D) (now : Stop T W L D F K B) (so_far : SoFar) : Type 0 where
    pub told : Option ToldScan
    pub more : List ℕ
    pub stands : Stands words.all start (state_at words now)
        (record so_far { moments = so_far.moments ++ more; scans = so_far.scans ++ later_scan scan told ∷ [] })

  pub record IsScanStep (before after : Stop T W L D F K B) : Type 0 where
    pub goes : Goes words context None before after
    pub one_more : (start : Began D) (so_far : SoFar) → BeganBy (rules_of context) start → Stands words.all start (state_at words before) so_far →
        StandsOneMore start after so_far

-- each such scan is a step
abbrev pub ScansAreSteps : {T W L D F K B : Type 0} → StepWords T W L D F K B → Type 0
ScansAreSteps {T} {W} {L} {D} {F} {K} {B} words = (context : Context) (scan : Rescan) (now : Stop T W L D F K B) (folder : F) →
    MayScanAgain words context scan now folder → IsScanStep words context scan now (with_folder now folder)
