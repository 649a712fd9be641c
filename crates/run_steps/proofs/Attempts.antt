-- Which worker failed as often as it may, one worker after the other.
use Rattle.std.proofs.Common.{ℕ, ◌≡◌, ◌+◌, ◌<◌, ◌≤◌, Bool, true, false, not, All, None, List, [], ◌∷◌, get_or, length, take, refl, sym, subst}
use Rattle.std.proofs.lemmas.List.{take_all, take_more}
use Rattle.std.proofs.lemmas.List.Elements.{All-append, All-cons, All-nil}
use Rattle.std.proofs.lemmas.Option.{slice_get-get_or}
use Rattle.rounds.specs.declared.answer.Round.{Round}
use Rattle.rounds.specs.declared.carrier.Carrier.{Carrier}
use Rattle.rounds.specs.declared.crew.Crew.{Crew}
use Rattle.run_steps.specs.MetIn.{HasFailed, HasTriesLeft, NoneFailed, WasSending}

module _ {W L : Type 0} (attempts : ℕ) (carriers : List (Carrier W L)) (number : ℕ) where
  pub failed_at : (some : Carrier W L) → number < length carriers → All (HasTriesLeft attempts) (take number carriers) → attempts ≤ (get_or carriers number some).worker.failures → HasFailed attempts carriers number
  failed_at some inside none failed = record {
    one = get_or carriers number some;
    is = slice_get-get_or carriers number some inside;
    failed = failed;
    first = none;
  }

  pub none_on : (some : Carrier W L) → number < length carriers → All (HasTriesLeft attempts) (take number carriers) → (get_or carriers number some).worker.failures < attempts → All (HasTriesLeft attempts) (take (number + 1) carriers)
  none_on some inside none left =
      subst (All (HasTriesLeft attempts)) (sym (take_more carriers number some inside))
      (All-append (HasTriesLeft attempts) (take number carriers) (get_or carriers number some ∷ []) none
      (All-cons (HasTriesLeft attempts) (get_or carriers number some) [] left (All-nil (HasTriesLeft attempts))))

  pub none_of_all : length carriers ≤ number → All (HasTriesLeft attempts) (take number carriers) → NoneFailed attempts carriers
  none_of_all all none = subst (All (HasTriesLeft attempts)) (take_all number carriers all) none

pub was_sending : {T W L : Type 0} (attempts : ℕ) (crew : Crew T W L) (round : Round) (carriers : List (Carrier W L)) → round.memory ≡ false → round.disk ≡ false → round.epochs ≡ None
    → carriers ≡ crew.carriers.items → NoneFailed attempts carriers → WasSending attempts crew round
was_sending attempts crew round carriers memory disk epochs same none = record {
  reading = record { storing = record { memory = memory; disk = disk }; no_epochs = epochs };
  none_failed = subst (NoneFailed attempts) same none;
}

pub was_still : (moved : Bool) → not moved ≡ true → moved ≡ false
was_still true is = cc is
was_still false is = refl

pub never_both : (moved : Bool) → moved ≡ false → not moved ≡ false → ⊥
never_both true still is = cc still
never_both false still is = cc is
