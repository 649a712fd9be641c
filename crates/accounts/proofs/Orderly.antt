-- Events of one slot and one epoch are the same or lie apart, and in each account they are in one row.
use Rattle.std.proofs.Common.{◌≡◌, ◌⊎◌, inl, inr, ℕ, ◌≤◌, List, [], ◌∷◌, Contains, map, Option, refl, sym, ap, subst, ◌∙◌, arith}
use Rattle.std.specs.List.{AllByRecursion}
use Rattle.harvester.specs.History.{Telling}
use Rattle.kept_rows.specs.Account.{AccountedEvent, EpochAccount, Place, events_of}
use Rattle.kept_rows.specs.Account as account
use Rattle.kept_rows.specs.Backed.{AreInRows}
use Rattle.kept_rows.specs.Epochs.{AreNumbered}
use Rattle.kept_rows.specs.Scans.{AreDistinct}
use Rattle.ship_core.proofs.Members.{none_there, there_cases}
use Rattle.ship_core.specs.CoveredEnd.{Adjoin, AreEqualOrApart}
use Rattle.told_events.specs.Told.{ToldEvent, spans_of}
use Rattle.wire_base.specs.Extent.{Extent}
use Rattle.wire_base.specs.declared.parcel.Parcel.{Parcel}
use Rattle.slot_parts.proofs.Accounted.{events_back}
use Rattle.slot_parts.specs.Account.{epoch_account}
use Rattle.slot_parts.specs.Parts.{EpochParts, epochs_of, told_in}
use Rattle.slot_parts.specs.Tellings.{tellings_in}
use Rattle.accounts.specs.Accounted.{place_in}
use Rattle.accounts.specs.Filed.{Filed, IsFiled, TellEpochs, accounts_of, begun_in, parts_told, turned_in}
use Rattle.accounts.specs.Ground.{IsEpochOf}
use Rattle.accounts.specs.Turned.{Turned}
use Rattle.accounts.proofs.Apart.{EachAdjoins, IsInEpochs, epochs_apart}
use Rattle.accounts.proofs.Backing.{mapped_there}

-- ---- apart

-- an item is known by what is distinct
pub same_item : {A B : Type 0} (f : A → B) (xs : List A) (x y : A) → AreDistinct (map f xs) → Contains xs x → Contains xs y → f x ≡ f y → x ≡ y
same_item f [] x y apart there other same = absurd (none_there x there)
same_item f (first ∷ xs) x y apart there other same = by_case (there_cases first x xs there) (there_cases first y xs other) (λ one two. same_item f xs x y apart.1 one two same)
  where
    by_case : (first ≡ x) ⊎ Contains xs x → (first ≡ y) ⊎ Contains xs y → (Contains xs x → Contains xs y → x ≡ y) → x ≡ y
    by_case (inl one) (inl two) later = sym one ∙ two
    by_case (inl one) (inr two) later = absurd (apart.0 (subst (λ n. Contains (map f xs) n) (sym same ∙ ap f (sym one)) (mapped_there f xs y two)))
    by_case (inr one) (inl two) later = absurd (apart.0 (subst (λ n. Contains (map f xs) n) (same ∙ ap f (sym two)) (mapped_there f xs x one)))
    by_case (inr one) (inr two) later = later one two

pub begins_later : (place : ℕ) (told : List ToldEvent) (one : ToldEvent) → Adjoin place (spans_of told) → Contains told one → place ≤ one.span.start
begins_later place [] one adjoin there = absurd (none_there one there)
begins_later place (first ∷ told) one adjoin there = by_case (there_cases first one told there) (begins_later first.span.end told one adjoin.2)
  where
    by_case : (first ≡ one) ⊎ Contains told one → (Contains told one → first.span.end ≤ one.span.start) → place ≤ one.span.start
    by_case (inl same) later = let start = adjoin.0 in let here : first.span.start ≡ one.span.start = ap (λ (e : ToldEvent). e.span.start) same in omega (arith, start, here)
    by_case (inr behind) later = let end = later behind in let some = adjoin.1 in omega (arith, end, some)

-- of one epoch
pub spans_apart : (place : ℕ) (told : List ToldEvent) (one other : ToldEvent) → Adjoin place (spans_of told) → Contains told one → Contains told other → AreEqualOrApart one.span other.span
spans_apart place [] one other adjoin there also = absurd (none_there one there)
spans_apart place (first ∷ told) one other adjoin there also =
    by_case (there_cases first one told there) (there_cases first other told also) (λ x y. spans_apart first.span.end told one other adjoin.2 x y)
  where
    by_case : (first ≡ one) ⊎ Contains told one → (first ≡ other) ⊎ Contains told other → (Contains told one → Contains told other → AreEqualOrApart one.span other.span) →
        AreEqualOrApart one.span other.span
    by_case (inl x) (inl y) later = inl (ap (λ (e : ToldEvent). e.span) (sym x ∙ y))
    by_case (inl x) (inr y) later =
        let behind = begins_later first.span.end told other adjoin.2 y in
        let end : first.span.end ≡ one.span.end = ap (λ (e : ToldEvent). e.span.end) x in inr (inl (omega (arith, behind, end)))
    by_case (inr x) (inl y) later =
        let behind = begins_later first.span.end told one adjoin.2 x in
        let end : first.span.end ≡ other.span.end = ap (λ (e : ToldEvent). e.span.end) y in inr (inr (omega (arith, behind, end)))
    by_case (inr x) (inr y) later = later x y

pub member_is : {A : Type 0} (P : A → Type 0) (xs : List A) (x : A) → AllByRecursion P xs → Contains xs x → P x
member_is P [] x all there = absurd (none_there x there)
member_is P (first ∷ xs) x all there = by_case (there_cases first x xs there) (member_is P xs x all.1)
  where
    by_case : (first ≡ x) ⊎ Contains xs x → (Contains xs x → P x) → P x
    by_case (inl same) later = subst P same all.0
    by_case (inr behind) later = later behind

module _ (files : List Turned) (apart : AreDistinct (map (λ (turned : Turned). turned.slot.0) files)) (each : AllByRecursion IsInEpochs files) where
  -- the slot and the number name the epoch
  pub one_epoch : (turned other : Turned) (telling another : Telling) → IsEpochOf files turned telling → IsEpochOf files other another → turned.slot.0 ≡ other.slot.0 →
      telling.epoch ≡ another.epoch → telling ≡ another
  one_epoch turned other telling another of also slots numbers =
      let same : turned ≡ other = same_item (λ (t : Turned). t.slot.0) files turned other apart of.of_files also.of_files slots in
      let is = member_is IsInEpochs files turned each of.of_files in
      same_item (λ (t : Telling). t.epoch) (tellings_in turned.history) telling another (epochs_apart is.epoch is.base (tellings_in turned.history) is.epochs) of.of_file
      (subst (λ (t : Turned). Contains (tellings_in t.history) another) (sym same) also.of_file) numbers

  pub events_apart : (turned other : Turned) (telling another : Telling) (one event : ToldEvent) → IsEpochOf files turned telling → IsEpochOf files other another →
      Contains telling.told one → Contains another.told event → turned.slot.0 ≡ other.slot.0 → telling.epoch ≡ another.epoch → AreEqualOrApart one.span event.span
  events_apart turned other telling another one event of also told there slots numbers =
      let same : telling ≡ another = one_epoch turned other telling another of also slots numbers in
      let is = member_is IsInEpochs files turned each of.of_files in
      let adjoin = member_is (λ (t : Telling). Adjoin t.start (spans_of t.told)) (tellings_in turned.history) telling is.adjoin of.of_file in
      spans_apart telling.start telling.told one event adjoin told (subst (λ (t : Telling). Contains t.told event) (sym same) there)

-- ---- in one row

pub spans_back : (told : List AccountedEvent) → account.spans_of told ≡ spans_of (events_of told)
spans_back [] = refl
spans_back (one ∷ told) = ap (λ (l : List Extent). one.event.span ∷ l) (spans_back told)

module _ (place_of : ℕ → ToldEvent → Option Place) where
  epoch_adjoins : (one : EpochParts) (start : ℕ) (told : List ToldEvent) → one.start ≡ start → told_in one.parts ≡ told → Adjoin start (spans_of told) →
      Adjoin one.start (account.spans_of (epoch_account place_of one).told)
  epoch_adjoins one start told from is adjoin =
      subst (Adjoin one.start) (sym (spans_back (epoch_account place_of one).told ∙ ap spans_of (events_back place_of 0 (place_of one.epoch) one.parts ∙ is)))
      (subst (λ (n : ℕ). Adjoin n (spans_of told)) (sym from) adjoin)

  epochs_adjoin : (epochs : List EpochParts) (tellings : List Telling) → TellEpochs epochs tellings → EachAdjoins tellings →
      AllByRecursion (λ (e : EpochAccount). Adjoin e.start (account.spans_of e.told)) (map (epoch_account place_of) epochs)
  epochs_adjoin [] [] tell adjoin = tt
  epochs_adjoin [] (telling ∷ tellings) tell adjoin = absurd tell
  epochs_adjoin (one ∷ epochs) [] tell adjoin = (epoch_adjoins one one.start [] refl tell.0 tt, epochs_adjoin epochs [] tell.1 tt)
  epochs_adjoin (one ∷ epochs) (telling ∷ tellings) tell adjoin =
      (epoch_adjoins one telling.start telling.told tell.0.start tell.0.told adjoin.0, epochs_adjoin epochs tellings tell.1 adjoin.1)

pub are_in_rows : (placed : Parcel → Option Place) (files : List Filed) → AllByRecursion IsFiled files →
    AllByRecursion (λ (file : Filed). EachAdjoins (tellings_in (turned_in file).history)) files → AllByRecursion AreNumbered (accounts_of placed files) → AreInRows (accounts_of placed files)
are_in_rows placed [] filed adjoin numbered = tt
are_in_rows placed (file ∷ files) filed adjoin numbered = (
  record {
    numbered = numbered.0;
    adjoin = epochs_adjoin (place_in placed file.opened.begin.slot) (epochs_of (begun_in file).epoch (begun_in file).base (parts_told file)) (tellings_in (turned_in file).history)
        filed.0.tell adjoin.0;
  },
  are_in_rows placed files filed.1 adjoin.1 numbered.1,
)
