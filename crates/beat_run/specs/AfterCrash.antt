-- A run after a crash (this project's profile): at some moment of the writes of a run before, in the order that its account names, a crash
-- left both areas, and this one found them so. It is judged by that run's account at its end, wherever it would have ended: each row that this
-- one opened is kept by it, and each key that had a row before has one, or some slot of it lost it rightly.
use Rattle.std.specs.Prelude.{◌≡◌, ◌⊎◌, ℕ, List, Some}
use Rattle.std.specs.List.{AllByRecursion}
use Rattle.rounds.specs.Words.{DiskWords}
use Rattle.run_steps.specs.AccountedFor.{HasRowOf, LostInImage, RunObjects, WereAtRest, areas_of}
use Rattle.run_steps.specs.Together.{MayLeave}
use Rattle.beat_run.specs.NextRun.{EndedRun}

module _ {D : Type 0} (disks : DiskWords D) where
  pub record FindsAreasAsCrashed (earlier : EndedRun disks) (later : RunObjects D) : Type 0 where
    pub were_at_rest : WereAtRest disks earlier.objects
    pub first : List ℕ
    pub second : List ℕ
    pub left : MayLeave disks (areas_of earlier.objects.before) (earlier.accounted.together were_at_rest).writes first second
    pub a_found : disks.contents later.before.a ≡ Some first
    pub b_found : disks.contents later.before.b ≡ Some second

  -- each key of a row that the one opened has a row among those that the other opened, or lost it rightly
  abbrev pub FindsKeys : EndedRun disks → EndedRun disks → Type 0
  FindsKeys earlier later =
      AllByRecursion (λ row. HasRowOf later.accounted.run.opening row.key ⊎ LostInImage earlier.accounted.run earlier.accounted.account row.key) earlier.accounted.run.opening
