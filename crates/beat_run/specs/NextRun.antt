-- A run after another one (this project's profile), both accounted for: it found both areas as the other left them, and each row that it
-- opened was reported by the other, whatever that hit, or was as the other opened it; if the other made its last steps, only a row of a
-- key that it did not begin was so. Each key that had a row has one, or lost it rightly.
use Rattle.std.specs.Prelude.{◌≡◌, ◌⊎◌, ℕ, List, Some}
use Rattle.std.specs.List.{AllByRecursion}
use Rattle.event_tree.specs.declared.settings.Settings.{Settings}
use Rattle.kept_rows.specs.Kept.{IsKept, IsKeptInImage}
use Rattle.rounds.specs.Words.{DiskWords}
use Rattle.run_steps.specs.AccountedFor.{AccountedFor, HasRowOf, LostKey, RunObjects, WereAtRest}
use Rattle.run_steps.specs.Met.{AreLeft}
use Rattle.run_steps.specs.declared.met.Met.{Met}

module _ {D : Type 0} (disks : DiskWords D) where
  pub record EndedRun : Type 0 where
    pub settings : Settings
    pub objects : RunObjects D
    pub met : Met
    pub accounted : AccountedFor disks settings objects met

  pub record FindsAreasAsLeft (earlier later : RunObjects D) : Type 0 where
    pub were_at_rest : WereAtRest disks earlier
    pub first : List ℕ
    pub second : List ℕ
    pub a_left : disks.contents earlier.after.a ≡ Some first
    pub b_left : disks.contents earlier.after.b ≡ Some second
    pub a_found : disks.contents later.before.a ≡ Some first
    pub b_found : disks.contents later.before.b ≡ Some second

  abbrev pub OpensKeptRows : EndedRun → EndedRun → Type 0
  OpensKeptRows earlier later =
      AllByRecursion (IsKeptInImage earlier.accounted.account earlier.accounted.run.opening earlier.accounted.run.trace.wires) later.accounted.run.opening

  abbrev pub OpensLastRows : EndedRun → EndedRun → Type 0
  OpensLastRows earlier later =
      AreLeft earlier.met → AllByRecursion (IsKept earlier.accounted.account earlier.accounted.run.opening earlier.accounted.run.trace.wires) later.accounted.run.opening

  -- each key of a row that the one opened has a row among those that the other opened, or its newest slot lost it rightly
  abbrev pub FindsLastKeys : EndedRun → EndedRun → Type 0
  FindsLastKeys earlier later =
      AllByRecursion (λ row. HasRowOf later.accounted.run.opening row.key ⊎ LostKey earlier.accounted.run earlier.accounted.account row.key) earlier.accounted.run.opening
