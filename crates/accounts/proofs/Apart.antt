-- No parcel is given twice: files have slots of their own, epochs numbers of their own, and the spans of an epoch adjoin.
use Rattle.std.proofs.Common.{◌≡◌, ◌⊎◌, inl, inr, ℕ, ◌+◌, ◌<◌, ◌≤◌, Bool, List, [], ◌∷◌, Contains, map, sym, ap, subst, arith}
use Rattle.std.specs.List.{AllByRecursion, flat_map}
use Rattle.std.proofs.lemmas.List.Elements.{Contains-append_cases}
use Rattle.harvester.specs.History.{Telling}
use Rattle.kept_rows.specs.Scans.{AreDistinct}
use Rattle.ship_core.proofs.Members.{first_there, later_there, none_there, there_cases}
use Rattle.ship_core.specs.CoveredEnd.{Adjoin}
use Rattle.told_events.specs.Fate.{DroppedBy, Fate, ShippedAs}
use Rattle.told_events.specs.Told.{ToldEvent, spans_of}
use Rattle.wire_base.specs.Extent.{Extent}
use Rattle.wire_base.specs.declared.numbers.Slot.{Slot}
use Rattle.wire_base.specs.declared.parcel.Parcel.{Parcel}
use Rattle.accounts.specs.Once.{AreOnce}
use Rattle.accounts.specs.Same.{TellsSame, same_parcel}
use Rattle.slot_parts.specs.Tellings.{AreNumberedFrom, tellings_in}
use Rattle.accounts.specs.ToldFile.{AreEpochsFrom}
use Rattle.accounts.specs.Turned.{Turned, parcels_by, parcels_in, parcels_told}
use Rattle.accounts.proofs.Ground.{item_of, parcel_by}
use Rattle.accounts.proofs.Often.{once_both, once_more, once_none}
use Rattle.accounts.proofs.Same.{tells_parcels}

-- ---- lists of lists

module _ {A B : Type 0} (same : B → B → Bool) (is : TellsSame same) (f : A → List B) (key : B → ℕ) (rank : A → ℕ) where
  -- what the item has is known by its rank
  abbrev HasKey : A → Type 0
  HasKey x = (y : B) → Contains (f x) y → key y ≡ rank x

  key_among : (xs : List A) (y : B) → AllByRecursion HasKey xs → Contains (flat_map f xs) y → Contains (map rank xs) (key y)
  key_among [] y keys there = absurd (none_there y there)
  key_among (x ∷ xs) y keys there = by_case (Contains-append_cases (f x) (flat_map f xs) y there) (key_among xs y keys.1)
    where
      by_case : Contains (f x) y ⊎ Contains (flat_map f xs) y → (Contains (flat_map f xs) y → Contains (map rank xs) (key y)) → Contains (rank x ∷ map rank xs) (key y)
      by_case (inl here) others = subst (λ (n : ℕ). Contains (rank x ∷ map rank xs) n) (sym (keys.0 y here)) (first_there (rank x) (map rank xs))
      by_case (inr later) others = later_there (rank x) (key y) (map rank xs) (others later)

  pub once_in_all : (xs : List A) → AllByRecursion HasKey xs → AllByRecursion (λ x. AreOnce same (f x)) xs → AreDistinct (map rank xs) → AreOnce same (flat_map f xs)
  once_in_all [] keys each apart = once_none same is
  once_in_all (x ∷ xs) keys each apart =
      once_both same is (f x) (flat_map f xs) each.0 (once_in_all xs keys.1 each.1 apart.1)
      (λ y here there. apart.0 (subst (λ (n : ℕ). Contains (map rank xs) n) (keys.0 y here) (key_among xs y keys.1 there)))

-- ---- the events of an epoch

abbrev pub starts_of : List ToldEvent → List ℕ
starts_of told = map (λ (one : ToldEvent). one.span.start) told

starts_later : (place : ℕ) (told : List ToldEvent) (start : ℕ) → Adjoin place (spans_of told) → Contains (starts_of told) start → place ≤ start
starts_later place [] start adjoin there = absurd (none_there start there)
starts_later place (one ∷ told) start adjoin there = by_case (there_cases one.span.start start (starts_of told) there) (starts_later one.span.end told start adjoin.2)
  where
    by_case : (one.span.start ≡ start) ⊎ Contains (starts_of told) start → (Contains (starts_of told) start → one.span.end ≤ start) → place ≤ start
    by_case (inl here) later = let first = adjoin.0 in omega (arith, first, here)
    by_case (inr behind) later = let end = later behind in let some = adjoin.1 in omega (arith, end, some)

pub starts_apart : (place : ℕ) (told : List ToldEvent) → Adjoin place (spans_of told) → AreDistinct (starts_of told)
starts_apart place [] adjoin = tt
starts_apart place (one ∷ told) adjoin = (
  λ there. let first = adjoin.0 in let some = adjoin.1 in let later = starts_later one.span.end told one.span.start adjoin.2 there in omega (arith, first, some, later),
  starts_apart one.span.end told adjoin.2,
)

module _ (slot : Slot) (epoch : ℕ) where
  abbrev parcels_for : ToldEvent → List Parcel
  parcels_for one = parcels_by slot epoch one.span one.fate

  known_by_start : (told : List ToldEvent) → AllByRecursion (λ (one : ToldEvent). (p : Parcel) → Contains (parcels_for one) p → p.span.start ≡ one.span.start) told
  known_by_start [] = tt
  known_by_start (one ∷ told) = (λ p there. ap (λ (e : Extent). e.start) (parcel_by slot epoch one.span one.fate p there).span_is, known_by_start told)

  one_by : (span : Extent) (fate : Fate) → AreOnce same_parcel (parcels_by slot epoch span fate)
  one_by span (DroppedBy rule) = once_none same_parcel tells_parcels
  one_by span (ShippedAs payload) = once_more same_parcel tells_parcels _ [] (none_there _) (once_none same_parcel tells_parcels)

  one_each : (told : List ToldEvent) → AllByRecursion (λ (one : ToldEvent). AreOnce same_parcel (parcels_for one)) told
  one_each [] = tt
  one_each (one ∷ told) = (one_by one.span one.fate, one_each told)

  once_in_epoch : (place : ℕ) (told : List ToldEvent) → Adjoin place (spans_of told) → AreOnce same_parcel (flat_map parcels_for told)
  once_in_epoch place told adjoin =
      once_in_all same_parcel tells_parcels parcels_for (λ (p : Parcel). p.span.start) (λ (one : ToldEvent). one.span.start) told
      (known_by_start told) (one_each told) (starts_apart place told adjoin)

-- ---- the epochs of a file

abbrev pub numbers_of : List Telling → List ℕ
numbers_of tellings = map (λ (telling : Telling). telling.epoch) tellings

pub numbers_later : (before : ℕ) (tellings : List Telling) (number : ℕ) → AreNumberedFrom before tellings → Contains (numbers_of tellings) number → before < number
numbers_later before [] number are there = absurd (none_there number there)
numbers_later before (telling ∷ later) number are there = by_case (there_cases telling.epoch number (numbers_of later) there) (numbers_later (before + 1) later number are.2)
  where
    by_case : (telling.epoch ≡ number) ⊎ Contains (numbers_of later) number → (Contains (numbers_of later) number → before + 1 < number) → before < number
    by_case (inl here) behind = let first = are.0 in omega (arith, first, here)
    by_case (inr others) behind = let more = behind others in omega (arith, more)

numbers_apart : (before : ℕ) (tellings : List Telling) → AreNumberedFrom before tellings → AreDistinct (numbers_of tellings)
numbers_apart before [] are = tt
numbers_apart before (telling ∷ later) are = (
  λ there. let first = are.0 in let more = numbers_later (before + 1) later telling.epoch are.2 there in omega (arith, first, more),
  numbers_apart (before + 1) later are.2,
)

pub epochs_apart : (epoch base : ℕ) (tellings : List Telling) → AreEpochsFrom epoch base tellings → AreDistinct (numbers_of tellings)
epochs_apart epoch base [] are = absurd are
epochs_apart epoch base (first ∷ later) are = (
  λ there. let number = are.0 in let more = numbers_later epoch later first.epoch are.2 there in omega (arith, number, more),
  numbers_apart epoch later are.2,
)

-- in each epoch the reported spans adjoin from its start on
abbrev pub EachAdjoins : List Telling → Type 0
EachAdjoins tellings = AllByRecursion (λ (telling : Telling). Adjoin telling.start (spans_of telling.told)) tellings

module _ (slot : Slot) where
  known_by_epoch : (tellings : List Telling) → AllByRecursion (λ (telling : Telling). (p : Parcel) → Contains (parcels_in slot telling) p → p.epoch.0 ≡ telling.epoch) tellings
  known_by_epoch [] = tt
  known_by_epoch (telling ∷ tellings) = (
    λ p there.
        let of = item_of (λ (one : ToldEvent). parcels_by slot telling.epoch one.span one.fate) telling.told p there in
        (parcel_by slot telling.epoch of.item.span of.item.fate p of.there).epoch_is,
    known_by_epoch tellings,
  )

  once_each : (tellings : List Telling) → EachAdjoins tellings → AllByRecursion (λ (telling : Telling). AreOnce same_parcel (parcels_in slot telling)) tellings
  once_each [] adjoin = tt
  once_each (telling ∷ tellings) adjoin = (once_in_epoch slot telling.epoch telling.start telling.told adjoin.0, once_each tellings adjoin.1)

  once_in_file : (epoch base : ℕ) (tellings : List Telling) → AreEpochsFrom epoch base tellings → EachAdjoins tellings → AreOnce same_parcel (flat_map (parcels_in slot) tellings)
  once_in_file epoch base tellings are adjoin =
      once_in_all same_parcel tells_parcels (parcels_in slot) (λ (p : Parcel). p.epoch.0) (λ (telling : Telling). telling.epoch) tellings
      (known_by_epoch tellings) (once_each tellings adjoin) (epochs_apart epoch base tellings are)

-- ---- files

pub record IsInEpochs (turned : Turned) : Type 0 where
  pub epoch : ℕ
  pub base : ℕ
  pub epochs : AreEpochsFrom epoch base (tellings_in turned.history)
  pub adjoin : EachAdjoins (tellings_in turned.history)

known_by_slot : (files : List Turned) → AllByRecursion (λ (turned : Turned). (p : Parcel) → Contains (parcels_told turned) p → p.slot.0 ≡ turned.slot.0) files
known_by_slot [] = tt
known_by_slot (turned ∷ files) = (
  λ p there.
      let of_telling = item_of (parcels_in turned.slot) (tellings_in turned.history) p there in
      let of = item_of (λ (one : ToldEvent). parcels_by turned.slot of_telling.item.epoch one.span one.fate) of_telling.item.told p of_telling.there in
      ap (λ (s : Slot). s.0) (parcel_by turned.slot of_telling.item.epoch of.item.span of.item.fate p of.there).slot_is,
  known_by_slot files,
)

once_each_file : (files : List Turned) → AllByRecursion IsInEpochs files → AllByRecursion (λ (turned : Turned). AreOnce same_parcel (parcels_told turned)) files
once_each_file [] are = tt
once_each_file (turned ∷ files) are =
    (once_in_file turned.slot are.0.epoch are.0.base (tellings_in turned.history) are.0.epochs are.0.adjoin, once_each_file files are.1)

pub parcels_are_once : (files : List Turned) → AreDistinct (map (λ (turned : Turned). turned.slot.0) files) → AllByRecursion IsInEpochs files → AreOnce same_parcel (flat_map parcels_told files)
parcels_are_once files apart are =
    once_in_all same_parcel tells_parcels parcels_told (λ (p : Parcel). p.slot.0) (λ (turned : Turned). turned.slot.0) files
    (known_by_slot files) (once_each_file files are) apart
