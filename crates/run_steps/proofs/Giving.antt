-- The moments that a clock gives go on, and end with the last one.
use Rattle.std.proofs.Common.{◌≡◌, inl, inr, ℕ, suc, ◌+◌, ◌-◌, ◌<◌, drop, List, [], ◌∷◌, ◌++◌, length, append-nil, append_assoc, length-append, Option, Some, None, slice_get, refl, sym, ap, subst, ◌∙◌, arith, unwrap_or}
use Rattle.std.proofs.Math.Seq.{drop-append_seam}
use Rattle.std.proofs.lemmas.List.{drop-append-le}
use Rattle.accounts.proofs.Lists.{in_order_on}
use Rattle.harvester.specs.Standing.{EndsAt}
use Rattle.kept_rows.specs.Scans.{StandInOrder}
use Rattle.outside.specs.Times.{EndsWith, GivesMoment}
use Rattle.run_steps.specs.Shown.{GaveSince, HasGiven}

pub ends_at : (moments : List ℕ) (now : ℕ) → EndsWith moments now → EndsAt moments now
ends_at [] now ends = absurd cc
ends_at (one ∷ []) now ends = record { earlier = []; are = ap (λ (o : Option ℕ). unwrap_or o now ∷ []) ends }
ends_at (one ∷ next ∷ moments) now ends =
    let long : length (one ∷ next ∷ moments) - 1 ≡ suc (length (next ∷ moments) - 1) = omega arith in
    let later = ends_at (next ∷ moments) now (subst (λ (n : ℕ). slice_get (one ∷ next ∷ moments) n ≡ Some now) long ends) in
    record { earlier = one ∷ later.earlier; are = ap (λ (l : List ℕ). one ∷ l) later.are }

some_there : (moments : List ℕ) (now : ℕ) → EndsWith moments now → 0 < length moments
some_there [] now ends = absurd cc
some_there (one ∷ moments) now ends = omega arith

-- the last ones end so, too
pub ends_behind : (moments : List ℕ) (now n : ℕ) → n < length moments → EndsAt moments now → EndsAt (drop n moments) now
ends_behind moments now n few ends =
    let long : length moments ≡ length ends.earlier + 1 = ap length ends.are ∙ length-append ends.earlier (now ∷ []) in
    record {
      earlier = drop n ends.earlier;
      are = ap (drop n) ends.are ∙ drop-append-le n ends.earlier (now ∷ []) (omega (arith, few, long));
    }

-- with a moment that the clock gave now
pub record GivenOn (start after : Option (List ℕ)) (moment now : ℕ) (since : List ℕ) : Type 0 where
  pub more : List ℕ
  pub ends : EndsAt (since ++ more) now
  pub given : HasGiven start after moment (since ++ more)

-- the last one of all that it gave is the last one since then
ends_since : (front later all : List ℕ) (moment now : ℕ) → all ≡ front ++ moment ∷ later → EndsWith all now → EndsAt (moment ∷ later) now
ends_since front later all moment now are ends =
    let long : length all ≡ length front + length (moment ∷ later) = ap length are ∙ length-append front (moment ∷ later) in
    subst (λ (l : List ℕ). EndsAt l now) (ap (drop (length front)) are ∙ drop-append_seam front (moment ∷ later))
    (ends_behind all now (length front) (omega (arith, long)) (ends_at all now ends))

module _ (moment now : ℕ) (since : List ℕ) where
  -- of which the first one stands in a list that it had given by then, or behind it
  module _ (earlier later : List ℕ) (since_is : since ≡ moment ∷ later) (all : List ℕ) (Gave : Option (List ℕ) → List ℕ → Type 0)
      (gave_none : Gave (Some all) later) (gave_now : Gave (Some (all ++ now ∷ [])) (later ++ now ∷ [])) (ends : EndsWith all now → EndsAt (moment ∷ later) now) where
    -- what it has given by now
    record GivenNow (after : Option (List ℕ)) : Type 0 where
      more : List ℕ
      end : EndsAt (since ++ more) now
      rest : List ℕ
      rest_is : since ++ more ≡ moment ∷ rest
      gave : Gave after rest

    given_now : (after : Option (List ℕ)) → GivesMoment (Some all) now after → GivenNow after
    given_now after (inl same) = record {
      more = [];
      end = subst (λ (l : List ℕ). EndsAt l now) (sym (append-nil since ∙ since_is)) (ends same.0);
      rest = later;
      rest_is = append-nil since ∙ since_is;
      gave = subst (λ (o : Option (List ℕ)). Gave o later) (sym same.1) gave_none;
    }
    given_now after (inr grows) = record {
      more = now ∷ [];
      end = record { earlier = since; are = refl };
      rest = later ++ now ∷ [];
      rest_is = ap (λ (l : List ℕ). l ++ now ∷ []) since_is;
      gave = subst (λ (o : Option (List ℕ)). Gave o (later ++ now ∷ [])) (sym grows.1) gave_now;
    }

  pub given_on : (start before after : Option (List ℕ)) → HasGiven start before moment since → GivesMoment before now after → GivenOn start after moment now since
  given_on None before after given gives = record {
    more = now ∷ [];
    ends = record { earlier = since; are = refl };
    given = record {
      told = tt;
      untold = λ _. subst (λ (o : Option (List ℕ)). GivesMoment o now after) (given.untold refl) gives;
      among = in_order_on (moment ∷ []) since (now ∷ []) given.among;
    };
  }
  given_on (Some earlier) before after given gives = by_first given.told.2
    where
      later : List ℕ
      later = given.told.0

      since_is : since ≡ moment ∷ later
      since_is = given.told.1

      on : (more : List ℕ) → StandInOrder (moment ∷ []) (since ++ more)
      on more = in_order_on (moment ∷ []) since more given.among

      by_first : GaveSince earlier before moment later → GivenOn (Some earlier) after moment now since
      by_first (inl last) =
          let front = ends_at earlier moment last.0 in
          let Gave : Option (List ℕ) → List ℕ → Type 0 = λ o rest. o ≡ Some (earlier ++ rest) in
          let of = given_now earlier later since_is (earlier ++ later) Gave refl (ap (λ (l : List ℕ). Some l) (append_assoc earlier later (now ∷ [])))
          (ends_since front.earlier later (earlier ++ later) moment now (ap (λ (l : List ℕ). l ++ later) front.are ∙ append_assoc front.earlier (moment ∷ []) later))
          after (subst (λ (o : Option (List ℕ)). GivesMoment o now after) last.1 gives) in
          record { more = of.more; ends = of.end; given = record { told = (of.rest, of.rest_is, inl (last.0, of.gave)); untold = λ none. absurd cc; among = on of.more } }
      by_first (inr appended) =
          let Gave : Option (List ℕ) → List ℕ → Type 0 = λ o rest. o ≡ Some (earlier ++ moment ∷ rest) in
          let of = given_now earlier later since_is (earlier ++ moment ∷ later) Gave refl (ap (λ (l : List ℕ). Some l) (append_assoc earlier (moment ∷ later) (now ∷ [])))
          (ends_since earlier later (earlier ++ moment ∷ later) moment now refl) after (subst (λ (o : Option (List ℕ)). GivesMoment o now after) appended.1 gives) in
          record { more = of.more; ends = of.end; given = record { told = (of.rest, of.rest_is, inr (appended.0, of.gave)); untold = λ none. absurd cc; among = on of.more } }

-- ---- the first one

-- the moments that the clock gave, as the first was given
pub record FirstGiven (before after : Option (List ℕ)) (moment : ℕ) : Type 0 where
  pub since : List ℕ
  pub ends : EndsAt since moment
  pub given : HasGiven before after moment since

module _ (moment : ℕ) where
  alone : EndsAt (moment ∷ []) moment
  alone = record { earlier = []; are = refl }

  pub first_given : (before after : Option (List ℕ)) → GivesMoment before moment after → FirstGiven before after moment
  first_given None after gives =
      record { since = moment ∷ []; ends = alone; given = record { told = tt; untold = λ _. gives; among = ([], [], refl, tt) } }
  first_given (Some earlier) after (inl same) = record {
    since = moment ∷ [];
    ends = alone;
    given = record {
      told = ([], refl, inl (same.0, same.1 ∙ ap (λ (l : List ℕ). Some l) (sym (append-nil earlier))));
      untold = λ none. absurd cc;
      among = ([], [], refl, tt);
    };
  }
  first_given (Some earlier) after (inr grows) = record {
    since = moment ∷ [];
    ends = alone;
    given = record { told = ([], refl, inr (grows.0, grows.1)); untold = λ none. absurd cc; among = ([], [], refl, tt) };
  }
