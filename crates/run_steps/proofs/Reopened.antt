-- How a file is opened again, from what each call answered.
use Rattle.std.proofs.Common.{◌≡◌, ◌⊎◌, inl, inr, Option, Some, Result, Ok, Err, OnOk, ap, subst, ◌∙◌}
use Rattle.event_tree.specs.declared.settings.Settings.{Settings}
use Rattle.file_identity.specs.declared.identity_error.IdentityError.TheVariants.{NoNative as WithoutNumbers, ReadFault}
use Rattle.harvester.specs.declared.harvester.Harvester.{Harvester}
use Rattle.outside.specs.declared.failed.FolderError.{FolderError}
use Rattle.report.specs.declared.passing.Why.TheVariants.{Doubled, Gone, Moved, Old, Small}
use Rattle.rounds.specs.Words.{TailWords}
use Rattle.run_steps.specs.Beginning.{Beginning, ClosesAsked, ClosesFile, ClosesUntold, FailsToTell, ForSomeReason, HasOpened, HasOtherKey, IsOpenedFor, IsTooSmall, SameLanes, TellsKey}
use Rattle.run_steps.specs.FolderSeen.{Closes, FolderSeen, OpensBy}
use Rattle.run_steps.specs.Reopening.{AnnouncesRise, FollowsAgain, FollowsListedAgain, GivesUpAgain, KnownFile, ReopensOne, TakesInAgain}
use Rattle.run_steps.specs.declared.begin_error.BeginError.{BeginError}
use Rattle.run_steps.specs.declared.begin_error.BeginError.TheVariants.{FolderFault, NoMemory, NoNative}
use Rattle.run_steps.specs.declared.begin.Admission.{Admission}
use Rattle.run_steps.specs.declared.begin.Admission.TheVariants.{Failed, Followed, Skipped}
use Rattle.run_steps.proofs.Begun.{has_opened, key_skips, key_unknown, opened_so}

module _ {T W L : Type 0} (tails : TailWords T) (settings : Settings) (known : KnownFile) where
  pub gives_up_again : (tail back : T) (old new : Beginning T W L) → back ≡ tail → Closes tails back old.folder new.folder → SameLanes old.crew new.crew →
      (new.keeper ≡ old.keeper) ⊎ AnnouncesRise known old.keeper new.keeper → GivesUpAgain tails known tail old new
  gives_up_again tail back old new same closes lanes keeper = record {
    closes = subst (λ (t : T). Closes tails t old.folder new.folder) same closes;
    lanes = lanes;
    keeper = keeper;
  }

  pub follows_again_by : {E : Type 0} (result : Result (Unit {0}) E) (tail : T) (harvester : Harvester T) (old new : Beginning T W L) → IsOpenedFor tails settings known.file tail harvester →
      OnOk result (TakesInAgain known harvester old new) → OnOk result (FollowsAgain tails settings known tail old new)
  follows_again_by (Ok done) tail harvester old new opened taken = record { harvester = harvester; opened = opened; taken = taken }
  follows_again_by (Err error) tail harvester old new opened taken = tt

  -- as its key was found
  pub followed_known : (tail : T) (old new : Beginning T W L) (folder : FolderSeen) (opened : Result (Option T) FolderError) → OpensBy tails known.file.listed.path opened old.folder folder → (found : Option T) →
      opened ≡ Ok found → found ≡ Some tail → (result : Result Admission BeginError) → FollowsListedAgain tails settings known tail result (opened_so tails settings known.file old folder) new →
      ReopensOne tails settings known result old new
  followed_known tail old new folder opened opens found is found_is result follows = by_result result follows
    where
      has : HasOpened tails known.file tail old (opened_so tails settings known.file old folder)
      has = has_opened tails settings known.file tail old folder opened opens (is ∙ ap Ok found_is)

      closes_so : (Why : T → T → Type 0) → ClosesAsked tails settings known.file tail Why (opened_so tails settings known.file old folder) new → ClosesFile tails settings known.file Why old new
      closes_so Why closed = record { fresh = tail; mid = opened_so tails settings known.file old folder; opened = has; closed = closed }

      by_result : (r : Result Admission BeginError) → FollowsListedAgain tails settings known tail r (opened_so tails settings known.file old folder) new → ReopensOne tails settings known r old new
      by_result (Ok Followed) of = record { fresh = tail; mid = opened_so tails settings known.file old folder; opened = has; follows = of }
      by_result (Ok (Skipped Moved)) of = closes_so (HasOtherKey tails settings known.file) of
      by_result (Ok (Skipped Small)) of = closes_so (IsTooSmall tails settings known.file) of
      by_result (Ok (Skipped Doubled)) of = absurd of
      by_result (Ok (Skipped Gone)) of = absurd of
      by_result (Ok (Skipped Old)) of = absurd of
      by_result (Ok Failed) of = inr (closes_so (λ fresh asked. FailsToTell tails settings known.file fresh asked ReadFault) of)
      by_result (Err NoMemory) (inl up) = inr (inl (record { fresh = tail; mid = opened_so tails settings known.file old folder; opened = has; gives_up = up }))
      by_result (Err NoMemory) (inr closed) = inr (inr (closes_so ForSomeReason closed))
      by_result (Err (NoNative slot)) of = (of.0, closes_so (λ fresh asked. FailsToTell tails settings known.file fresh asked WithoutNumbers) of.1)
      by_result (Err FolderFault) of = absurd of

  -- where it is closed again, it is as with a first opening
  module _ (fresh asked : T) (old new : Beginning T W L) (closed : ClosesUntold tails asked old new) where
    pub known_skips : (other : Admission) → TellsKey tails settings known.file fresh asked (Ok (Some other)) → FollowsListedAgain tails settings known fresh (Ok other) old new
    known_skips Followed of = absurd of
    known_skips (Skipped Moved) of = key_skips tails settings known.file fresh asked old new closed (Skipped Moved) of
    known_skips (Skipped Small) of = key_skips tails settings known.file fresh asked old new closed (Skipped Small) of
    known_skips (Skipped Doubled) of = absurd of
    known_skips (Skipped Gone) of = absurd of
    known_skips (Skipped Old) of = absurd of
    known_skips Failed of = key_skips tails settings known.file fresh asked old new closed Failed of

    pub known_unknown : (error : BeginError) → TellsKey tails settings known.file fresh asked (Err error) → FollowsListedAgain tails settings known fresh (Err error) old new
    known_unknown NoMemory of = inr (record { asked = asked; result = of.0; asks = of.1; closed = closed; why = tt })
    known_unknown (NoNative slot) of = key_unknown tails settings known.file fresh asked old new closed (NoNative slot) of
    known_unknown FolderFault of = absurd of
