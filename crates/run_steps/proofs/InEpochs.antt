-- A file whose present epoch is one that there is was told in such epochs alone.
use Rattle.std.proofs.Common.{inr, ℕ, ◌≤◌, List, [], ◌∷◌, ◌++◌, arith}
use Rattle.std.specs.List.{AllByRecursion}
use Rattle.accounts.proofs.Grounded.{each_member}
use Rattle.accounts.proofs.LastNotes.{epochs_within}
use Rattle.accounts.specs.ToldFile.{AreEpochsFrom}
use Rattle.harvester.specs.History.{Telling}
use Rattle.restart_join.specs.declared.start.TheConstants.{MAX_EPOCH}
use Rattle.run_steps.specs.LastEpoch.{AreToldInEpochs}

module _ (epoch base : ℕ) (past : List Telling) (present : Telling) (from : AreEpochsFrom epoch base (past ++ present ∷ [])) (last : present.epoch ≤ MAX_EPOCH) where
  pub each_there : AllByRecursion (λ (telling : Telling). telling.epoch ≤ MAX_EPOCH) (past ++ present ∷ [])
  each_there = each_member (λ (telling : Telling). telling.epoch ≤ MAX_EPOCH) (past ++ present ∷ [])
      (λ telling there. let within = epochs_within epoch base past present telling from there in omega (arith, within, last))

  pub told_in_epochs : AreToldInEpochs (past ++ present ∷ [])
  told_in_epochs = each_so (past ++ present ∷ []) each_there
    where
      each_so : (tellings : List Telling) → AllByRecursion (λ (telling : Telling). telling.epoch ≤ MAX_EPOCH) tellings → AreToldInEpochs tellings
      each_so [] each = tt
      each_so (telling ∷ tellings) each = (inr each.0, each_so tellings each.1)
