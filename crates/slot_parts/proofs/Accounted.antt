-- The epochs of a slot's account are reported, if its parts are.
use Rattle.std.specs.Prelude.{slice_get}
use Rattle.std.proofs.Common.{◌≡◌, inr, ℕ, suc, ◌+◌, ◌<◌, ◌≤◌, eqb, Bool, true, false, Any, List, [], ◌∷◌, ◌++◌, map, Option, Some, refl, sym, ap, subst, ◌∙◌, arith, if◌then◌else◌}
use Rattle.std.specs.List.{AllByRecursion, flat_map}
use Rattle.std.specs.Option.{option_map_or}
use Rattle.file_looks.proofs.OneLife.{each_reads}
use Rattle.file_looks.specs.Reading.{EachReadsLife, last_life, life_behind}
use Rattle.file_looks.specs.Segment.{Segment, read_to, segments_of, steps_in}
use Rattle.file_looks.specs.Step.{Step}
use Rattle.file_looks.specs.Truncation.{SeesTruncations}
use Rattle.kept_rows.proofs.Showing.{each_on}
use Rattle.kept_rows.specs.Account.{EpochAccount, FollowedTail, Following, Place, Reading, SlotAccount, events_of, readings_of}
use Rattle.kept_rows.specs.Epochs.{AreReadInOrder, IsLifeOf, first_sight_of, life_read}
use Rattle.kept_rows.specs.Premises.{segments_in as segments_of_tails}
use Rattle.kept_rows.specs.Run.{Run}
use Rattle.kept_rows.specs.Telling.{IsEpochTold, IsToldOf, MayEnd}
use Rattle.multiline_core.specs.Rule.{IsGroupRule, timeout_of}
use Rattle.outside.specs.Files.{File, life_of}
use Rattle.outside.specs.declared.history.Sight.{Sight}
use Rattle.told_events.proofs.Going.{all_behind}
use Rattle.told_events.specs.Licence.{IsLicensed, LieApart}
use Rattle.told_events.specs.Rules.{Rules}
use Rattle.told_events.specs.Told.{AreTold, ToldEvent}
use Rattle.slot_parts.specs.Account.{ArePartsOf, IsLookedTail, IsShownBy, IsShownPart, epoch_account, epoch_accounts, events_from, life_by, reading_of}
use Rattle.slot_parts.specs.Parts.{AreChained, EpochParts, IsLicensedFrom, IsToldEpoch, IsToldPart, Part, Runs, epochs_of, last_life_of, licences_in, runs_from, segments_in, told_in, with_epoch, with_part}
use Rattle.slot_parts.proofs.Epochs.{epochs_together}
use Rattle.slot_parts.proofs.Seen.{read_both, seen_apart}

-- ---- the tails read so

segments_apart : (tails : List FollowedTail) → map (λ (reading : Reading). reading.segment) (flat_map readings_of tails) ≡ flat_map (λ (tail : FollowedTail). segments_of tail.place tail.looks) tails
segments_apart [] = refl
segments_apart (tail ∷ tails) = both (segments_of tail.place tail.looks) ∙ ap (λ (l : List Segment). segments_of tail.place tail.looks ++ l) (segments_apart tails)
  where
    both : (segments : List Segment) →
        map (λ (reading : Reading). reading.segment) (map (λ (segment : Segment). record { opening = tail.opening; segment = segment }) segments ++ flat_map readings_of tails)
        ≡ segments ++ map (λ (reading : Reading). reading.segment) (flat_map readings_of tails)
    both [] = refl
    both (segment ∷ segments) = ap (λ (l : List Segment). segment ∷ l) (both segments)

segments_of_parts : (parts : List Part) → segments_in parts ≡ map (λ (reading : Reading). reading.segment) (map reading_of parts)
segments_of_parts [] = refl
segments_of_parts (part ∷ parts) = ap (λ (l : List Segment). part.segment ∷ l) (segments_of_parts parts)

same_segments : (following : Following) (parts : List Part) → ArePartsOf following parts → segments_in parts ≡ segments_of_tails following
same_segments following parts are =
    segments_of_parts parts ∙ ap (map (λ (reading : Reading). reading.segment)) are ∙ segments_apart following.tails

pub tails_read : (file : File) (life : ℕ) (tails : List FollowedTail) → AllByRecursion (IsLookedTail file) tails →
    SeesTruncations life (flat_map (λ (tail : FollowedTail). segments_of tail.place tail.looks) tails) →
    EachReadsLife file life (flat_map (λ (tail : FollowedTail). segments_of tail.place tail.looks) tails)
tails_read file life [] looked seen = tt
tails_read file life (tail ∷ tails) looked seen =
    let segments = segments_of tail.place tail.looks in
    let others = flat_map (λ (tail : FollowedTail). segments_of tail.place tail.looks) tails in
    let apart = seen_apart life segments others seen in
    read_both file life segments others
    (each_reads file looked.0.begun tail.place life tail.looks looked.0.looks looked.0.on apart.here)
    (tails_read file (last_life_of life segments) tails looked.1 apart.behind)

-- ---- lists

any_later : {A : Type 0} (P : A → Type 0) (y : A) (xs : List A) → Any P xs → Any P (y ∷ xs)
any_later P y xs there = (suc there.0, there.1, omega (arith, there.2), there.3, there.4)

each_mapped : {A B : Type 0} (f : A → B) (P : B → Type 0) (xs : List A) → AllByRecursion (λ (x : A). P (f x)) xs → AllByRecursion P (map f xs)
each_mapped f P [] all = tt
each_mapped f P (x ∷ xs) all = (all.0, each_mapped f P xs all.1)

-- ---- its life

last_life_behind : (life : ℕ) (steps more : List Step) → last_life life (steps ++ more) ≡ last_life (last_life life steps) more
last_life_behind life [] more = refl
last_life_behind life (step ∷ steps) more = last_life_behind (life_behind life step) steps more

pub life_read_is : (life : ℕ) (parts : List Part) → life_read life (map reading_of parts) ≡ last_life_of life (segments_in parts)
life_read_is life [] = refl
life_read_is life (part ∷ parts) =
    last_life_behind life (steps_in part.segment) (flat_map (λ (reading : Reading). steps_in reading.segment) (map reading_of parts))
    ∙ life_read_is (last_life life (steps_in part.segment)) parts

module _ (placed : ℕ → ToldEvent → Option Place) where
  pub is_life_of : (one : EpochParts) → IsLifeOf (epoch_account placed one)
  is_life_of one sight is =
      ap (λ (o : Option Sight). life_read (option_map_or (λ (s : Sight). s.life) o 0) (map reading_of one.parts)) is

  -- ---- its events

  pub events_back : (number : ℕ) (place_of : ToldEvent → Option Place) (parts : List Part) → events_of (events_from place_of number parts) ≡ told_in parts
  events_back number place_of [] = refl
  events_back number place_of (part ∷ parts) = both part.told ∙ ap (λ (l : List ToldEvent). part.told ++ l) (events_back (suc number) place_of parts)
    where
      both : (told : List ToldEvent) →
          events_of (map (λ (event : ToldEvent). record { event = event; reading = number; place = place_of event }) told ++ events_from place_of (suc number) parts)
          ≡ told ++ events_of (events_from place_of (suc number) parts)
      both [] = refl
      both (event ∷ told) = ap (λ (l : List ToldEvent). event ∷ l) (both told)

  in_order_from : (least number : ℕ) (place_of : ToldEvent → Option Place) (parts : List Part) → least ≤ number → AreReadInOrder least (events_from place_of number parts)
  in_order_from least number place_of [] few = tt
  in_order_from least number place_of (part ∷ parts) few = both least few part.told (λ from less. in_order_from from (suc number) place_of parts (omega (arith, less)))
    where
      both : (from : ℕ) → from ≤ number → (told : List ToldEvent) → ((least : ℕ) → least ≤ number → AreReadInOrder least (events_from place_of (suc number) parts)) →
          AreReadInOrder from (map (λ (event : ToldEvent). record { event = event; reading = number; place = place_of event }) told ++ events_from place_of (suc number) parts)
      both from few [] later = later from few
      both from few (event ∷ told) later = (few, both number (omega arith) told later)

  pub are_in_order : (one : EpochParts) → AreReadInOrder 0 (epoch_account placed one).told
  are_in_order one = in_order_from 0 0 (placed one.epoch) one.parts (omega arith)

-- ---- what holds of all parts holds of those of each epoch

module _ (P : Part → Type 0) where
  record OfRuns (runs : Runs) : Type 0 where
    present : AllByRecursion P runs.present
    later : AllByRecursion (λ (one : EpochParts). AllByRecursion P one.parts) runs.later

  of_runs : (epoch : ℕ) (parts : List Part) → AllByRecursion P parts → OfRuns (runs_from epoch parts)
  of_runs epoch [] all = record { present = tt; later = tt }
  of_runs epoch (part ∷ parts) all = by_case (eqb part.epoch epoch) (of_runs epoch parts all.1) (of_runs part.epoch parts all.1)
    where
      by_case : (b : Bool) → OfRuns (runs_from epoch parts) → OfRuns (runs_from part.epoch parts) →
          OfRuns (if b then with_part part (runs_from epoch parts) else with_epoch part (runs_from part.epoch parts))
      by_case true same next = record { present = (all.0, same.present); later = same.later }
      by_case false same next = record { present = tt; later = ((all.0, next.present), next.later) }

  pub of_epochs : (epoch base : ℕ) (parts : List Part) → AllByRecursion P parts →
      AllByRecursion (λ (one : EpochParts). AllByRecursion P one.parts) (epochs_of epoch base parts)
  of_epochs epoch base parts all = let runs = of_runs epoch parts all in (runs.present, runs.later)

-- ---- an epoch

module _ (run : Run) (rules : Rules) (one : SlotAccount) (file : File) (placed : ℕ → ToldEvent → Option Place) where
  abbrev Waited : Type 0
  Waited = LieApart run.trace.moments (timeout_of rules.events)

  abbrev IsTold : Part → Type 0
  IsTold part = IsToldPart rules file (MayEnd run one) Waited part

  abbrev Read : ℕ → List ℕ → ℕ → Reading → Type 0
  Read start life place reading = IsLicensed rules.lines life start reading.segment (MayEnd run one reading.opening) Waited place

  licences_given : (start : ℕ) (life : List ℕ) (parts : List Part) → AllByRecursion (IsLicensedFrom rules life start (MayEnd run one) Waited) parts →
      AllByRecursion (λ (place : ℕ). Any (Read start life place) (map reading_of parts)) (licences_in parts)
  licences_given start life [] all = tt
  licences_given start life (part ∷ parts) all =
      all_behind (λ (place : ℕ). Any (Read start life place) (map reading_of (part ∷ parts))) part.licences (licences_in parts)
      (each_on (λ (place : ℕ). Read start life place (reading_of part)) (λ (place : ℕ). Any (Read start life place) (map reading_of (part ∷ parts)))
      (λ place is. (0, reading_of part, omega arith, refl, is)) part.licences all.0.licensed)
      (each_on (λ (place : ℕ). Any (Read start life place) (map reading_of parts)) (λ (place : ℕ). Any (Read start life place) (map reading_of (part ∷ parts)))
      (λ place there. any_later (Read start life place) (reading_of part) (map reading_of parts) there) (licences_in parts) (licences_given start life parts all.1))

  module _ (epoch : EpochAccount) (place_of : ToldEvent → Option Place) where
    part_is_told : (number : ℕ) (part : Part) → slice_get epoch.readings number ≡ Some (reading_of part) → (told : List ToldEvent) →
        AllByRecursion (IsShownBy run one part.opening) told →
        AllByRecursion (λ (event : ToldEvent). (part.segment.place < event.span.end) × (event.span.end ≤ read_to part.segment)) told →
        AllByRecursion (IsToldOf run one epoch) (map (λ (event : ToldEvent). record { event = event; reading = number; place = place_of event }) told)
    part_is_told number part at [] shown within = tt
    part_is_told number part at (event ∷ told) shown within = (
      record {
        path = record {
          reading = reading_of part;
          reading_is = at;
          behind_its_start = within.0.0;
          read = within.0.1;
          before = shown.0.path.before;
          scan = shown.0.path.scan;
          behind = shown.0.path.behind;
          scans_are = shown.0.path.scans_are;
          first = shown.0.path.first;
          none_nearer = shown.0.path.none_nearer;
        };
        given = shown.0.given;
      },
      part_is_told number part at told shown.1 within.1,
    )

    parts_are_told : (number : ℕ) (parts : List Part) → ((k : ℕ) → slice_get epoch.readings (number + k) ≡ slice_get (map reading_of parts) k) →
        AllByRecursion IsTold parts → AllByRecursion (IsShownPart run one) parts → AllByRecursion (IsToldOf run one epoch) (events_from place_of number parts)
    parts_are_told number [] at told shown = tt
    parts_are_told number (part ∷ parts) at told shown =
        let here : slice_get epoch.readings number ≡ Some (reading_of part) =
        let n : number ≡ number + 0 = omega arith in ap (slice_get epoch.readings) n ∙ at 0 in
        all_behind (IsToldOf run one epoch) (map (λ (event : ToldEvent). record { event = event; reading = number; place = place_of event }) part.told)
        (events_from place_of (suc number) parts)
        (part_is_told number part here part.told shown.0 told.0.within)
        (parts_are_told (suc number) parts (λ k. let n : suc number + k ≡ number + suc k = omega arith in ap (slice_get epoch.readings) n ∙ at (suc k)) told.1 shown.1)

  module _ (file_is : slice_get run.trace.files one.number ≡ Some file) where
    epoch_is_told : (epoch : EpochParts) → IsToldEpoch rules file (MayEnd run one) Waited epoch → AllByRecursion IsTold epoch.parts →
        AllByRecursion (IsShownPart run one) epoch.parts → IsEpochTold run rules one (epoch_account placed epoch)
    epoch_is_told epoch together told shown =
        let before = option_map_or (λ (sight : Sight). sight.life) (first_sight_of (map reading_of epoch.parts)) 0 in
        let life : life_by epoch.parts ≡ last_life_of before (segments_in epoch.parts) = life_read_is before epoch.parts in
        inr (record {
          file = file;
          file_is = file_is;
          licensed = subst (λ (n : ℕ). AllByRecursion (λ (place : ℕ). Any (Read epoch.start (life_of file n) place) (map reading_of epoch.parts)) (licences_in epoch.parts)) (sym life)
              (licences_given epoch.start (life_of file (last_life_of before (segments_in epoch.parts))) epoch.parts (together.licensed before));
          told = subst (λ (n : ℕ). AreTold rules (licences_in epoch.parts) (life_of file n) epoch.start (events_of (epoch_account placed epoch).told)) (sym life)
              (subst (AreTold rules (licences_in epoch.parts) (life_of file (last_life_of before (segments_in epoch.parts))) epoch.start)
              (sym (events_back placed 0 (placed epoch.epoch) epoch.parts)) (together.told before));
          each = parts_are_told (epoch_account placed epoch) (placed epoch.epoch) 0 epoch.parts
              (λ k. let n : 0 + k ≡ k = omega arith in ap (slice_get (map reading_of epoch.parts)) n) told shown;
        })

    each_epoch_is_told : (epochs : List EpochParts) → AllByRecursion (IsToldEpoch rules file (MayEnd run one) Waited) epochs →
        AllByRecursion (λ (epoch : EpochParts). AllByRecursion IsTold epoch.parts) epochs →
        AllByRecursion (λ (epoch : EpochParts). AllByRecursion (IsShownPart run one) epoch.parts) epochs →
        AllByRecursion (IsEpochTold run rules one) (map (epoch_account placed) epochs)
    each_epoch_is_told [] together told shown = tt
    each_epoch_is_told (epoch ∷ epochs) together told shown =
        (epoch_is_told epoch together.0 told.0 shown.0, each_epoch_is_told epochs together.1 told.1 shown.1)

    -- the epochs of a slot, from the parts of all its tails
    pub epochs_are_told : IsGroupRule rules.events → (following : Following) (last_read : ℕ) (parts : List Part) →
        AreChained following.epoch following.base parts → ArePartsOf following parts → AllByRecursion (IsLookedTail file) following.tails →
        SeesTruncations last_read (segments_of_tails following) → AllByRecursion IsTold parts → AllByRecursion (IsShownPart run one) parts →
        AllByRecursion (IsEpochTold run rules one) (epoch_accounts placed following.epoch following.base parts)
    epochs_are_told in_range following last_read parts chained are looked seen told shown =
        let reads : EachReadsLife file last_read (segments_in parts) =
        subst (EachReadsLife file last_read) (sym (same_segments following parts are)) (tails_read file last_read following.tails looked seen) in
        each_epoch_is_told (epochs_of following.epoch following.base parts)
        (epochs_together rules file (MayEnd run one) Waited in_range following.epoch following.base last_read parts chained reads told)
        (of_epochs IsTold following.epoch following.base parts told) (of_epochs (IsShownPart run one) following.epoch following.base parts shown)
