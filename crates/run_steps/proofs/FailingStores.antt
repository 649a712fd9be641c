-- The steps that store leave the workers' failures in a row as they were.
use Rattle.std.proofs.Common.{◌≡◌, ◌⊎◌, ⊎_elim, inl, inr, ℕ, List, [], ◌∷◌, drop, Option, Some, None, is_some, true, false, refl, sym, subst, arith}
use Rattle.std.specs.List.{AllByRecursion}
use Rattle.std.proofs.lemmas.List.Elements.{All-from_recursion, recursion_from_All}
use Rattle.accounts.proofs.Failing.{handed_so}
use Rattle.accounts.specs.Failing.{IsFailing}
use Rattle.mem_queue.specs.BoundedQueue.{BoundedQueue}
use Rattle.rounds.specs.CarrierTurns.{seen_of}
use Rattle.rounds.specs.Crewed.{bare_carriers}
use Rattle.rounds.specs.Crewing.{Crewing}
use Rattle.rounds.specs.Pairs.{Pairs}
use Rattle.rounds.specs.Settling.{CarrierHandedOn, Settles}
use Rattle.rounds.specs.Words.{LinkWords, WireWords, Words}
use Rattle.rounds.specs.declared.answer.Round.{Round}
use Rattle.rounds.specs.declared.carrier.Carrier.{Carrier}
use Rattle.settle_box.specs.BoundedBox.{BoundedBox}
use Rattle.run_steps.specs.CarriersFail.{AreFailing, CarrierFails, FailOn, sending}
use Rattle.run_steps.specs.MetIn.{HasTriesLeft, NoneFailed}
use Rattle.run_steps.proofs.FailingRounds.{met_fail}
use Rattle.run_steps.proofs.LinksStay.{handed_stays}

-- ---- all of them

module _ {W L : Type 0} (links : LinkWords L) (wires : WireWords W) (box attempts : ℕ) where
  none_unlinked : (link other : Option L) → is_some other ≡ is_some link → link ≡ None → other ≡ None
  none_unlinked None None linked none = refl
  none_unlinked None (Some l) linked none = absurd (let q : true ≡ false = linked in cc)
  none_unlinked (Some l) other linked none = absurd (let q : Some l ≡ None = none in cc)

  one_left : (x y : Carrier W L) → CarrierHandedOn links box x y → HasTriesLeft attempts x → HasTriesLeft attempts y
  one_left x y handed left = let same = handed.failures in omega (arith, same, left)

  all_left : (xs ys : List (Carrier W L)) → Pairs (CarrierHandedOn links box) xs ys → AllByRecursion (HasTriesLeft attempts) xs → AllByRecursion (HasTriesLeft attempts) ys
  all_left [] [] handed left = tt
  all_left [] (y ∷ ys) handed left = absurd handed
  all_left (x ∷ xs) [] handed left = absurd handed
  all_left (x ∷ xs) (y ∷ ys) handed left = (one_left x y handed.0 left.0, all_left xs ys handed.1 left.1)

  module _ (timeout : ℕ) (moments : List ℕ) where
    abbrev Fails : Option ℕ → Carrier W L → Type 0
    Fails start carrier = CarrierFails links wires attempts timeout moments start carrier

    tries : (x y : Carrier W L) → CarrierHandedOn links box x y → HasTriesLeft attempts x ⊎ (x.worker.link ≡ None) → HasTriesLeft attempts y ⊎ (y.worker.link ≡ None)
    tries x y handed (inl left) = inl (one_left x y handed left)
    tries x y handed (inr none) = inr (none_unlinked x.worker.link y.worker.link (handed_stays links box x y handed).linked none)

    one_handed : (start : Option ℕ) (x y : Carrier W L) → CarrierHandedOn links box x y → Fails start x → Fails start y
    one_handed None x y handed fails = record { fails = tt; tries = tries x y handed fails.tries }
    one_handed (Some start) x y handed fails = record {
      fails = subst (λ (w : W). IsFailing links.told timeout start moments (seen_of wires w) y.worker) (sym (handed_stays links box x y handed).wire) (record {
        all = fails.fails.all;
        tells = fails.fails.tells;
        is = ⊎_elim (λ end. inl end)
            (λ so. inr (handed_so links.told timeout start moments fails.fails.all (seen_of wires x.wire) fails.fails.tells x.worker y.worker
            (handed.goes (seen_of wires x.wire)) handed.moments handed.failures so)) fails.fails.is;
      });
      tries = tries x y handed fails.tries;
    }

    all_handed : (starts : List (Option ℕ)) (xs ys : List (Carrier W L)) → Pairs (CarrierHandedOn links box) xs ys → Pairs Fails starts xs → Pairs Fails starts ys
    all_handed [] [] [] handed fail = tt
    all_handed [] [] (y ∷ ys) handed fail = absurd handed
    all_handed [] (x ∷ xs) ys handed fail = absurd fail
    all_handed (s ∷ starts) [] ys handed fail = absurd fail
    all_handed (s ∷ starts) (x ∷ xs) [] handed fail = absurd handed
    all_handed (s ∷ starts) (x ∷ xs) (y ∷ ys) handed fail = (one_handed s x y handed.0 fail.0, all_handed starts xs ys handed.1 fail.1)

-- ---- one step that stores

module _ {T W L D : Type 0} (words : Words T W L D) (queue : BoundedQueue) (desk : BoundedBox) (old new : Crewing T W L D) (round : Round)
    (settles : Settles words queue desk old new round) (attempts : ℕ) where
  fails_settled : (timeout earlier : ℕ) (starts : List (Option ℕ)) (moments : Option (List ℕ)) →
      AreFailing words.links words.wires attempts timeout earlier starts (sending moments old.carriers.items) →
      AreFailing words.links words.wires attempts timeout earlier starts (sending moments new.carriers.items)
  fails_settled timeout earlier starts None failing = tt
  fails_settled timeout earlier starts (Some moments) failing = (
    failing.0,
    met_fail words.links words.wires attempts timeout (drop earlier moments) starts settles.mid.carriers.items new.carriers.items settles.meets.met.carriers_same
        (all_handed words.links words.wires desk.capacity attempts timeout (drop earlier moments) starts old.carriers.items settles.mid.carriers.items settles.handed.carriers failing.1),
  )

  pub fail_by_settling : (moments : Option (List ℕ)) → FailOn words.links words.wires attempts (sending moments old.carriers.items) (sending moments new.carriers.items)
  unfolding FailOn
  fail_by_settling moments = λ timeout earlier starts some none failing. fails_settled timeout earlier starts moments failing

  pub none_failed_by_settling : NoneFailed attempts old.carriers.items → NoneFailed attempts new.carriers.items
  none_failed_by_settling none =
      from_bare_left new.carriers.items (subst (λ (cs : List (Carrier W L)). AllByRecursion (HasTriesLeft attempts) cs) (sym settles.meets.met.carriers_same)
      (to_bare_left settles.mid.carriers.items (all_left words.links words.wires desk.capacity attempts old.carriers.items settles.mid.carriers.items settles.handed.carriers
      (recursion_from_All (HasTriesLeft attempts) old.carriers.items none))))
    where
      to_bare_left : (xs : List (Carrier W L)) → AllByRecursion (HasTriesLeft attempts) xs → AllByRecursion (HasTriesLeft attempts) (bare_carriers xs)
      to_bare_left [] left = tt
      to_bare_left (x ∷ xs) left = (left.0, to_bare_left xs left.1)

      from_bare_left : (xs : List (Carrier W L)) → AllByRecursion (HasTriesLeft attempts) (bare_carriers xs) → NoneFailed attempts xs
      from_bare_left xs left = All-from_recursion (HasTriesLeft attempts) xs (each xs left)
        where
          each : (ys : List (Carrier W L)) → AllByRecursion (HasTriesLeft attempts) (bare_carriers ys) → AllByRecursion (HasTriesLeft attempts) ys
          each [] left = tt
          each (y ∷ ys) left = (left.0, each ys left.1)
