-- How a listed file begins, from what each call answered.
use Rattle.std.proofs.Common.{◌≡◌, ◌⊎◌, ◌↔◌, inl, inr, ℕ, List, IsTrue, Bool, true, Option, None, Some, Result, Ok, Err, OnOk, refl, ap, subst, ◌∙◌}
use Rattle.event_tree.specs.declared.settings.Settings.{Settings}
use Rattle.file_identity.specs.declared.identity.Identity.{Identity}
use Rattle.file_identity.specs.declared.identity.Identity.TheVariants.{Key, TooSmall}
use Rattle.file_identity.specs.declared.identity_error.IdentityError.{IdentityError}
use Rattle.file_identity.specs.declared.identity_error.IdentityError.TheVariants.{NoNative as WithoutNumbers, ReadFault}
use Rattle.harvester.specs.declared.harvester.Harvester.{Harvester}
use Rattle.outside.specs.declared.failed.FolderError.{FolderError}
use Rattle.outside.specs.declared.failed.FolderError.TheVariants.{Failed as Failing, NoMemory as WithoutMemory}
use Rattle.rounds.specs.Words.{TailWords}
use Rattle.report.specs.declared.passing.Why.{Why}
use Rattle.report.specs.declared.passing.Why.TheVariants.{Doubled, Gone, Moved, Old, Small}
use Rattle.run_steps.specs.Beginning.{AsksKey, Beginning, BeginsOne, ClosesAsked, ClosesFile, ClosesUntold, FailsToTell, Follows, FollowsListed, ForSomeReason, GivesUp, HasOpened, HasOtherKey, IsOpenedFor, IsTooSmall, ListedFile, OpensNone, SameLanes, TakesIn, TellsKey}
use Rattle.run_steps.specs.FolderSeen.{Closes, FolderSeen, OpensBy}
use Rattle.run_steps.specs.Telling.{TellsBegin}
use Rattle.run_steps.specs.declared.begin_error.BeginError.{BeginError}
use Rattle.run_steps.specs.declared.begin_error.BeginError.TheVariants.{FolderFault, NoMemory, NoNative}
use Rattle.run_steps.specs.declared.begin.Admission.{Admission}
use Rattle.run_steps.specs.declared.begin.Admission.TheVariants.{Failed, Followed, Skipped}

-- ---- by what its tail told of its key

module _ {T : Type 0} (tails : TailWords T) (settings : Settings) (file : ListedFile) (fresh asked : T) where
  abbrev Asks : Result Identity IdentityError → Type 0
  Asks = AsksKey tails settings file fresh asked

  pub asks_for : (result : Result Identity IdentityError) (answer : Result Identity IdentityError) → Asks result → result ≡ answer → Asks answer
  asks_for result answer asks is = subst Asks is asks

  -- the first of the reasons that stands
  pub key_is_listed : (key : List ℕ) (same : Bool) → Asks (Ok (Key key)) → (IsTrue same ↔ (file.listed.key ≡ Some key)) → same ≡ true → TellsKey tails settings file fresh asked (Ok None)
  key_is_listed key same asks of is = record { key = key; asks = asks; listed = of.0 is }

  -- whatever came of it, the tail was asked
  pub told_of_key : (result : Result (Option Admission) BeginError) → TellsKey tails settings file fresh asked result → (answer : Result Identity IdentityError) × Asks answer
  told_of_key (Ok None) of = (Ok (Key of.key), of.asks)
  told_of_key (Ok (Some Followed)) of = absurd of
  told_of_key (Ok (Some (Skipped Moved))) of = (Ok (Key of.key), of.asks)
  told_of_key (Ok (Some (Skipped Small))) of = (Ok (TooSmall of.place), of.asks)
  told_of_key (Ok (Some (Skipped Doubled))) of = absurd of
  told_of_key (Ok (Some (Skipped Gone))) of = absurd of
  told_of_key (Ok (Some (Skipped Old))) of = absurd of
  told_of_key (Ok (Some Failed)) of = (Err ReadFault, of.asks)
  told_of_key (Err NoMemory) of = of
  told_of_key (Err FolderFault) of = absurd of
  told_of_key (Err (NoNative slot)) of = (Err WithoutNumbers, of.1.asks)

module _ {T W L : Type 0} (tails : TailWords T) (settings : Settings) (file : ListedFile) where
  pub gives_up : (tail back : T) (old new : Beginning T W L) → back ≡ tail → Closes tails back old.folder new.folder → SameLanes old.crew new.crew
      → (new.keeper ≡ old.keeper) ⊎ TellsBegin file.slot file.listed file.start old.keeper new.keeper → GivesUp tails file tail old new
  gives_up tail back old new same closes lanes keeper = record {
    closes = subst (λ (t : T). Closes tails t old.folder new.folder) same closes;
    lanes = lanes;
    keeper = keeper;
  }

  pub follows_by : {E : Type 0} (result : Result (Unit {0}) E) (tail : T) (harvester : Harvester T) (old new : Beginning T W L) → IsOpenedFor tails settings file tail harvester → OnOk result (TakesIn file harvester old new)
      → OnOk result (Follows tails settings file tail old new)
  follows_by (Ok done) tail harvester old new opened taken = record { harvester = harvester; opened = opened; taken = taken }
  follows_by (Err error) tail harvester old new opened taken = tt

  -- with what the folder showed once the file was open
  abbrev pub opened_so : Beginning T W L → FolderSeen → Beginning T W L
  opened_so old folder = record old { folder = folder }

  pub has_opened : (tail : T) (old : Beginning T W L) (folder : FolderSeen) (result : Result (Option T) FolderError) → OpensBy tails file.listed.path result old.folder folder → result ≡ Ok (Some tail)
      → HasOpened tails file tail old (opened_so old folder)
  has_opened tail old folder result opens is = record { opens = subst (λ (r : Result (Option T) FolderError). OpensBy tails file.listed.path r old.folder folder) is opens; crew = refl; keeper = refl }

  -- as its key was found
  pub followed_listed : (tail : T) (old new : Beginning T W L) (folder : FolderSeen) (opened : Result (Option T) FolderError) → OpensBy tails file.listed.path opened old.folder folder → (found : Option T) → opened ≡ Ok found → found ≡ Some tail
      → (result : Result Admission BeginError) → FollowsListed tails settings file tail result (opened_so old folder) new → BeginsOne tails settings file result old new
  followed_listed tail old new folder opened opens found is found_is result follows = by_result result follows
    where
      has : HasOpened tails file tail old (opened_so old folder)
      has = has_opened tail old folder opened opens (is ∙ ap Ok found_is)

      closes_so : (Why : T → T → Type 0) → ClosesAsked tails settings file tail Why (opened_so old folder) new → ClosesFile tails settings file Why old new
      closes_so Why closed = record { fresh = tail; mid = opened_so old folder; opened = has; closed = closed }

      by_result : (r : Result Admission BeginError) → FollowsListed tails settings file tail r (opened_so old folder) new → BeginsOne tails settings file r old new
      by_result (Ok Followed) of = record { fresh = tail; tail = of.tail; mid = opened_so old folder; opened = has; keyed = of.keyed; follows = of.follows }
      by_result (Ok (Skipped Moved)) of = closes_so (HasOtherKey tails settings file) of
      by_result (Ok (Skipped Small)) of = closes_so (IsTooSmall tails settings file) of
      by_result (Ok (Skipped Doubled)) of = absurd of
      by_result (Ok (Skipped Gone)) of = absurd of
      by_result (Ok (Skipped Old)) of = absurd of
      by_result (Ok Failed) of = inr (closes_so (λ fresh asked. FailsToTell tails settings file fresh asked ReadFault) of)
      by_result (Err NoMemory) (inl up) = inr (inl (record { fresh = tail; tail = up.tail; mid = opened_so old folder; opened = has; keyed = up.keyed; gives_up = up.gives_up }))
      by_result (Err NoMemory) (inr closed) = inr (inr (closes_so ForSomeReason closed))
      by_result (Err (NoNative slot)) of = (of.0, closes_so (λ fresh asked. FailsToTell tails settings file fresh asked WithoutNumbers) of.1)
      by_result (Err FolderFault) of = absurd of

  -- ---- closed again

  pub closed_untold : (tail back : T) (old new : Beginning T W L) → back ≡ tail → Closes tails back old.folder new.folder → new.crew ≡ old.crew → new.keeper ≡ old.keeper → ClosesUntold tails tail old new
  closed_untold tail back old new same closes crew keeper = record { closes = subst (λ (t : T). Closes tails t old.folder new.folder) same closes; crew = crew; keeper = keeper }

  module _ (fresh asked : T) (old new : Beginning T W L) (closed : ClosesUntold tails asked old new) where
    closes_asked : (Why : T → T → Type 0) (answer : Result Identity IdentityError) → AsksKey tails settings file fresh asked answer → Why fresh asked → ClosesAsked tails settings file fresh Why old new
    closes_asked Why answer asks why = record { asked = asked; result = answer; asks = asks; closed = closed; why = why }

    pub key_skips : (other : Admission) → TellsKey tails settings file fresh asked (Ok (Some other)) → FollowsListed tails settings file fresh (Ok other) old new
    key_skips Followed of = absurd of
    key_skips (Skipped Moved) of = closes_asked (HasOtherKey tails settings file) (Ok (Key of.key)) of.asks of
    key_skips (Skipped Small) of = closes_asked (IsTooSmall tails settings file) (Ok (TooSmall of.place)) of.asks of
    key_skips (Skipped Doubled) of = absurd of
    key_skips (Skipped Gone) of = absurd of
    key_skips (Skipped Old) of = absurd of
    key_skips Failed of = closes_asked (λ fresh asked. FailsToTell tails settings file fresh asked ReadFault) (Err ReadFault) of.asks of

    pub key_unknown : (error : BeginError) → TellsKey tails settings file fresh asked (Err error) → FollowsListed tails settings file fresh (Err error) old new
    key_unknown NoMemory of = inr (closes_asked ForSomeReason of.0 of.1 tt)
    key_unknown (NoNative slot) of = (of.0, closes_asked (λ fresh asked. FailsToTell tails settings file fresh asked WithoutNumbers) (Err WithoutNumbers) of.1.asks of.1)
    key_unknown FolderFault of = absurd of

  -- ---- followed, or given up

  pub asked_follows : (fresh tail : T) (old new : Beginning T W L) → TellsKey tails settings file fresh tail (Ok None) → Follows tails settings file tail old new → FollowsListed tails settings file fresh (Ok Followed) old new
  asked_follows fresh tail old new keyed follows = record { tail = tail; keyed = keyed; follows = follows }

  pub asked_gives_up : (fresh tail : T) (old new : Beginning T W L) → TellsKey tails settings file fresh tail (Ok None) → GivesUp tails file tail old new → FollowsListed tails settings file fresh (Err NoMemory) old new
  asked_gives_up fresh tail old new keyed up = inl (record { tail = tail; keyed = keyed; gives_up = up })

  pub failed_opening : (old new : Beginning T W L) → OpensNone tails file (Err Failing) old new → BeginsOne tails settings file (Ok Failed) old new
  failed_opening old new opens = inl opens

  pub none_opened : (old new : Beginning T W L) → OpensNone tails file (Err WithoutMemory) old new → BeginsOne tails settings file (Err NoMemory) old new
  none_opened old new opens = inl opens
