-- Where the openings of a run lie whose scans come one after another: those that a scan asked for keys within that scan, no two at one place; each
-- other one between scans, or it only asked for a key, too.
use Rattle.std.proofs.Common.{◌≡◌, ◌⊎◌, inl, inr, ⊎_elim, ℕ, ◌≤◌, ◌<◌, true, List, [], ◌∷◌, ◌++◌, Contains, length, map, Some, arith}
use Rattle.std.proofs.lemmas.Bool.{cases_lt}
use Rattle.std.proofs.lemmas.List.Elements.{Contains-append_cases}
use Rattle.std.proofs.lemmas.Option.{slice_get_within}
use Rattle.std.specs.Prelude.{slice_get}
use Rattle.std.specs.List.{AllByRecursion, flat_map}
use Rattle.event_tree.specs.declared.settings.Settings.{Settings}
use Rattle.kept_rows.specs.Run.{Scan}
use Rattle.kept_rows.specs.Scans.{AreDistinct}
use Rattle.outside.specs.Folders.{FolderHistory, Opened as OpenedAs}
use Rattle.outside.specs.declared.history.Sight.{Sight}
use Rattle.ship_core.proofs.Members.{none_there}
use Rattle.told_scans.proofs.AskedEvents.{goes_on_asking, longer}
use Rattle.told_scans.proofs.Members.{each_member}
use Rattle.told_scans.proofs.ScanList.{asked_within, behind_listings}
use Rattle.told_scans.proofs.ToldScans.{asks_alone, go_on, goes_on_unlisted, scans_later, since_listings}
use Rattle.told_scans.proofs.TriedAskings.{all_placed, distinct_both, each_asking, openings_distinct, openings_in, openings_within}
use Rattle.told_scans.specs.OnlyAsked.{WasOnlyAsked}
use Rattle.told_scans.specs.ToldScan.{IsAround, IsTold, RunAround, ToldScan, scan_by}
use Rattle.told_scans.specs.ToldScans.{AreToldFrom, IsAskedWithin, IsWithin, LiesBetween, LiesWithin}

abbrev pub openings_asked_in : List ToldScan → List ℕ
openings_asked_in scans = flat_map (λ (scan : Scan). openings_in scan.askings) (map scan_by scans)

-- those of one scan lie within it
pub each_placed : (told : ToldScan) → IsTold told → AllByRecursion (IsAskedWithin told) told.askings
each_placed told has = all_placed told.settings.inputs (length told.listed.events) told.scanned has.trials told.askings
    (each_asking told.settings.inputs has.trials told.askings told.listed told.scanned has.asks)

placed_within : (told : ToldScan) → IsTold told → (opening : ℕ) → Contains (openings_in told.askings) opening → IsWithin told opening
placed_within told has opening there = openings_within (length told.listed.events) told.scanned told.askings (each_placed told has) opening there

pub between_later : (place : ℕ) (before : FolderHistory) (scans : List ToldScan) (now later : FolderHistory) → LiesBetween place before scans later →
    LiesBetween place before scans now ⊎ (length now.events ≤ place)
between_later place before [] now later lies = ⊎_elim (λ less. inl (lies.0, less)) inr (cases_lt place (length now.events))
between_later place before (told ∷ scans) now later (inl here) = inl (inl here)
between_later place before (told ∷ scans) now later (inr rest) = ⊎_elim (λ lies. inl (inr lies)) inr (between_later place told.scanned scans now later rest)

-- what lay between them does so when more is done, and when one more scan is made
pub between_on : (place : ℕ) (before : FolderHistory) (scans : List ToldScan) (now later : FolderHistory) → length now.events ≤ length later.events → LiesBetween place before scans now →
    LiesBetween place before scans later
between_on place before [] now later on lies = let less = lies.1 in (lies.0, omega (arith, on, less))
between_on place before (told ∷ scans) now later on (inl here) = inl here
between_on place before (told ∷ scans) now later on (inr rest) = inr (between_on place told.scanned scans now later on rest)

pub between_scanned : (place : ℕ) (before : FolderHistory) (scans : List ToldScan) (told : ToldScan) → LiesBetween place before scans told.earlier →
    LiesBetween place before (scans ++ told ∷ []) told.scanned
between_scanned place before [] told lies = inl lies
between_scanned place before (first ∷ scans) told (inl here) = inl here
between_scanned place before (first ∷ scans) told (inr rest) = inr (between_scanned place first.scanned scans told rest)

-- what was done after all of them
pub between_last : (settings : Settings) (place : ℕ) (before : FolderHistory) (scans : List ToldScan) (now later : FolderHistory) → AreToldFrom settings before scans now →
    length now.events ≤ place → place < length later.events → LiesBetween place before scans later
between_last settings place before [] now later are since less = let long = longer before now (goes_on_unlisted before now are) in (omega (arith, long, since), less)
between_last settings place before (told ∷ scans) now later are since less = inr (between_last settings place told.scanned scans now later are.1 since less)

-- a scan at the end has none between it and itself
pub between_appended : (place : ℕ) (before : FolderHistory) (scans : List ToldScan) (told : ToldScan) → LiesBetween place before (scans ++ told ∷ []) told.scanned →
    LiesBetween place before scans told.earlier
between_appended place before [] told (inl here) = here
between_appended place before [] told (inr none) = let since = none.0 in let less = none.1 in absurd (omega (arith, since, less))
between_appended place before (first ∷ scans) told (inl here) = inl here
between_appended place before (first ∷ scans) told (inr rest) = inr (between_appended place first.scanned scans told rest)

module _ (settings : Settings) where
  since_start : (before : FolderHistory) (told : ToldScan) (scans : List ToldScan) (now : FolderHistory) → AreToldFrom settings before (told ∷ scans) now →
      (length before.events ≤ length told.earlier.events) × (length told.earlier.events ≤ length told.listed.events) × (length told.listed.events ≤ length told.scanned.events)
  since_start before told scans now are = (
    longer before told.earlier (goes_on_unlisted before told.earlier are.0.between),
    since_listings told are.0.is,
    longer told.listed told.scanned (goes_on_asking told.listed told.scanned (asks_alone told are.0.is)),
  )

  -- ---- those that asked for keys

  asked_since : (before : FolderHistory) (scans : List ToldScan) (now : FolderHistory) → AreToldFrom settings before scans now → (opening : ℕ) → Contains (openings_asked_in scans) opening →
      length before.events ≤ opening
  asked_since before [] now are opening there = absurd (none_there opening there)
  asked_since before (told ∷ scans) now are opening there = by_case (Contains-append_cases (openings_in told.askings) (openings_asked_in scans) opening there) (asked_since told.scanned scans now are.1 opening)
    where
      by_case : Contains (openings_in told.askings) opening ⊎ Contains (openings_asked_in scans) opening → (Contains (openings_asked_in scans) opening → length told.scanned.events ≤ opening) →
          length before.events ≤ opening
      by_case (inl here) later = let long = since_start before told scans now are in let its = placed_within told are.0.is opening here in omega (arith, long.0, long.1, its.0)
      by_case (inr there) later = let long = since_start before told scans now are in let its = later there in omega (arith, long.0, long.1, long.2, its)

  pub asked_apart_in_all : (before : FolderHistory) (scans : List ToldScan) (now : FolderHistory) → AreToldFrom settings before scans now → AreDistinct (openings_asked_in scans)
  asked_apart_in_all before [] now are = tt
  asked_apart_in_all before (told ∷ scans) now are =
      distinct_both (openings_in told.askings) (openings_asked_in scans)
      (openings_distinct told.settings.inputs are.0.is.trials told.askings told.listed told.scanned are.0.is.asks) (asked_apart_in_all told.scanned scans now are.1)
      (λ opening here there.
      let its = placed_within told are.0.is opening here in
      let later = asked_since told.scanned scans now are.1 opening there in
      omega (arith, its.1, later))

  asked_lies : (before : FolderHistory) (scans : List ToldScan) (now : FolderHistory) → AreToldFrom settings before scans now → (opening : ℕ) → Contains (openings_asked_in scans) opening →
      LiesWithin opening scans
  asked_lies before [] now are opening there = absurd (none_there opening there)
  asked_lies before (told ∷ scans) now are opening there =
      ⊎_elim (λ here. inl (placed_within told are.0.is opening here)) (λ later. inr (asked_lies told.scanned scans now are.1 opening later))
      (Contains-append_cases (openings_in told.askings) (openings_asked_in scans) opening there)

  pub asked_within_scans : (before : FolderHistory) (scans : List ToldScan) (now : FolderHistory) → AreToldFrom settings before scans now →
      AllByRecursion (λ (opening : ℕ). LiesWithin opening scans) (openings_asked_in scans)
  asked_within_scans before scans now are = each_member (λ (opening : ℕ). LiesWithin opening scans) (openings_asked_in scans) (asked_lies before scans now are)

  -- ---- none lies in both

  pub between_since : (place : ℕ) (before : FolderHistory) (scans : List ToldScan) (now : FolderHistory) → AreToldFrom settings before scans now → LiesBetween place before scans now →
      length before.events ≤ place
  between_since place before [] now are lies = lies.0
  between_since place before (told ∷ scans) now are (inl here) = here.0
  between_since place before (told ∷ scans) now are (inr rest) =
      let later = between_since place told.scanned scans now are.1 rest in
      let long = since_start before told scans now are in
      omega (arith, long.0, long.1, long.2, later)

  within_since : (place : ℕ) (before : FolderHistory) (scans : List ToldScan) (now : FolderHistory) → AreToldFrom settings before scans now → LiesWithin place scans → length before.events ≤ place
  within_since place before [] now are lies = absurd lies
  within_since place before (told ∷ scans) now are (inl here) = let long = since_start before told scans now are in omega (arith, long.0, long.1, here.0)
  within_since place before (told ∷ scans) now are (inr rest) =
      let later = within_since place told.scanned scans now are.1 rest in
      let long = since_start before told scans now are in
      omega (arith, long.0, long.1, long.2, later)

  pub not_also_between : (place : ℕ) (before : FolderHistory) (scans : List ToldScan) (now : FolderHistory) → AreToldFrom settings before scans now → LiesWithin place scans →
      LiesBetween place before scans now → ⊥
  not_also_between place before [] now are within lies = within
  not_also_between place before (told ∷ scans) now are (inl within) (inl lies) = let long = since_start before told scans now are in omega (arith, long.1, within.0, lies.1)
  not_also_between place before (told ∷ scans) now are (inl within) (inr lies) = let later = between_since place told.scanned scans now are.1 lies in omega (arith, within.1, later)
  not_also_between place before (told ∷ scans) now are (inr within) (inl lies) =
      let later = within_since place told.scanned scans now are.1 within in
      let long = since_start before told scans now are in
      omega (arith, long.1, long.2, lies.1, later)
  not_also_between place before (told ∷ scans) now are (inr within) (inr lies) = not_also_between place told.scanned scans now are.1 within lies

-- ---- each other one

-- a run that ends so, around the first of these scans
abbrev around_first : ToldScan → List ToldScan → FolderHistory → RunAround
around_first told scans now = record {
  once = true;
  opening = [];
  ended = now;
  began = length told.earlier.events;
  open_tails = [];
  moments = [];
  wires = [];
  before = [];
  behind = map scan_by scans;
}

is_around_first : (settings : Settings) (told : ToldScan) (scans : List ToldScan) (now : FolderHistory) → AreToldFrom settings told.scanned scans now → IsAround told (around_first told scans now)
is_around_first settings told scans now are = record {
  goes_on = go_on settings told.scanned scans now are;
  since = omega arith;
  until = λ place less. scans_later settings place told.scanned scans now are less;
}

module _ (settings : Settings) (now : FolderHistory) (opening : ℕ) (path : List ℕ) (number : ℕ) (begun : Sight) (is : slice_get now.events opening ≡ Some (OpenedAs path number begun)) where
  pub placed : (before : FolderHistory) (scans : List ToldScan) → AreToldFrom settings before scans now → length before.events ≤ opening → LiesBetween opening before scans now ⊎ LiesWithin opening scans
  placed before [] are since = inl (since, slice_get_within now.events opening (OpenedAs path number begun) is)
  placed before (told ∷ scans) are since =
      ⊎_elim (λ less. inl (inl (since, less))) (λ later. by_end (listed later) (cases_lt opening (length told.scanned.events)) (placed told.scanned scans are.1))
      (cases_lt opening (length told.earlier.events))
    where
      listed : length told.earlier.events ≤ opening → length told.listed.events ≤ opening
      listed later = behind_listings told are.0.is (around_first told scans now) (is_around_first settings told scans now are.1) opening path number begun later is

      by_end : length told.listed.events ≤ opening → (opening < length told.scanned.events) ⊎ (length told.scanned.events ≤ opening) →
          (length told.scanned.events ≤ opening → LiesBetween opening told.scanned scans now ⊎ LiesWithin opening scans) →
          LiesBetween opening before (told ∷ scans) now ⊎ LiesWithin opening (told ∷ scans)
      by_end listed (inl less) rest = inr (inl (listed, less))
      by_end listed (inr later) rest = ⊎_elim (λ lies. inl (inr lies)) (λ lies. inr (inr lies)) (rest later)

  pub only_asked : (before : FolderHistory) (scans : List ToldScan) → AreToldFrom settings before scans now → LiesWithin opening scans → WasOnlyAsked now opening
  only_asked before [] are lies = absurd lies
  only_asked before (told ∷ scans) are (inl here) =
      asked_within told are.0.is (around_first told scans now) (is_around_first settings told scans now are.1) opening path number begun here.0 here.1 is
  only_asked before (told ∷ scans) are (inr later) = only_asked told.scanned scans are.1 later

  pub placed_or_asked : (before : FolderHistory) (scans : List ToldScan) → AreToldFrom settings before scans now → length before.events ≤ opening →
      LiesBetween opening before scans now ⊎ WasOnlyAsked now opening
  placed_or_asked before scans are since = ⊎_elim inl (λ lies. inr (only_asked before scans are lies)) (placed before scans are since)
