-- The listings of a scan stand one behind the other in the folder's list, one for each glob, those that failed with them, and the served ones show just
-- what was listed.
use Rattle.std.proofs.Common.{◌≡◌, ◌⊎◌, inl, inr, ⊎_elim, ℕ, suc, ◌+◌, ◌≤◌, ◌<◌, List, [], ◌∷◌, ◌++◌, Contains, length, map, append_assoc, length-append, Some, refl, sym, ap, subst, ◌∙◌, arith}
use Rattle.std.proofs.Math.Nat.{eq-or-lt_of_le}
use Rattle.std.proofs.lemmas.List.Elements.{Contains-append_cases, Contains-append_left, Contains-append_right}
use Rattle.std.specs.Prelude.{flat_map, slice_get}
use Rattle.std.specs.List.{AllByRecursion}
use Rattle.kept_rows.specs.Scans.{IsGoodListing, ListGlobs, listings_from}
use Rattle.kept_rows.specs.Trace.{Trace}
use Rattle.outside.specs.Folders.{Closed, Event, Listed, ListingFailed, NotThere, Opened, OpeningFailed}
use Rattle.outside.specs.declared.history.Shown.{Shown}
use Rattle.outside.specs.declared.history.Sight.{Sight}
use Rattle.prospect.specs.ListedFiles.{shown_in}
use Rattle.prospect.specs.PastFaults.{Attempt, Served, Unserved, glob_tried, served_in, unserved_by}
use Rattle.ship_core.proofs.Members.{first_there, later_there, none_there, there_cases}
use Rattle.told_scans.specs.OnlyAsked.{IsNoListing}
use Rattle.told_scans.specs.ToldScan.{event_tried}
use Rattle.told_scans.proofs.Events.{got_at_end}
use Rattle.told_scans.specs.Partial.{AreAt}

-- ---- places in a list

pub are_at : (xs front back : List Event) → AreAt (front ++ (xs ++ back)) (length front) xs
are_at [] front back = tt
are_at (x ∷ xs) front back = (
  got_at_end front x (xs ++ back),
  subst (λ (l : List Event). AreAt l (suc (length front)) xs) (append_assoc front (x ∷ []) (xs ++ back))
      (subst (λ (n : ℕ). AreAt ((front ++ x ∷ []) ++ (xs ++ back)) n xs) one_more (are_at xs (front ++ x ∷ []) back)),
)
  where
    one_more : length (front ++ x ∷ []) ≡ suc (length front)
    one_more = let both = length-append front (x ∷ []) in omega (arith, both)

-- ---- which of them are listings

no_listings : (place : ℕ) (more : List Event) → AllByRecursion IsNoListing more → listings_from place more ≡ []
no_listings place [] none = refl
no_listings place (Listed root depth shown ∷ more) none = absurd none.0
no_listings place (ListingFailed ∷ more) none = absurd none.0
no_listings place (Opened path number begun ∷ more) none = no_listings (suc place) more none.1
no_listings place (NotThere path ∷ more) none = no_listings (suc place) more none.1
no_listings place (OpeningFailed path ∷ more) none = no_listings (suc place) more none.1
no_listings place (Closed opening looks faults ∷ more) none = no_listings (suc place) more none.1

pub no_more_listings : (events more : List Event) (place : ℕ) → AllByRecursion IsNoListing more → listings_from place (events ++ more) ≡ listings_from place events
no_more_listings [] more place none = no_listings place more none
no_more_listings (Listed root depth shown ∷ events) more place none = ap (λ (l : List ℕ). place ∷ l) (no_more_listings events more (suc place) none)
no_more_listings (ListingFailed ∷ events) more place none = ap (λ (l : List ℕ). place ∷ l) (no_more_listings events more (suc place) none)
no_more_listings (Opened path number begun ∷ events) more place none = no_more_listings events more (suc place) none
no_more_listings (NotThere path ∷ events) more place none = no_more_listings events more (suc place) none
no_more_listings (OpeningFailed path ∷ events) more place none = no_more_listings events more (suc place) none
no_more_listings (Closed opening looks faults ∷ events) more place none = no_more_listings events more (suc place) none

pub as_many_listings : (attempts : List Attempt) (place : ℕ) → length (listings_from place (map event_tried attempts)) ≡ length attempts
as_many_listings [] place = refl
as_many_listings (Served listing ∷ attempts) place = ap suc (as_many_listings attempts (suc place))
as_many_listings (Unserved glob ∷ attempts) place = ap suc (as_many_listings attempts (suc place))

pub listings_before : (attempts : List Attempt) (place end : ℕ) → place + length (map event_tried attempts) ≤ end →
    AllByRecursion (λ listing. listing < end) (listings_from place (map event_tried attempts))
listings_before [] place end within = tt
listings_before (Served listing ∷ attempts) place end within = (omega (arith, within), listings_before attempts (suc place) end (omega (arith, within)))
listings_before (Unserved glob ∷ attempts) place end within = (omega (arith, within), listings_before attempts (suc place) end (omega (arith, within)))

-- ---- what they are

module _ (trace : Trace) where
  pub list_globs : (attempts : List Attempt) (place : ℕ) → AreAt trace.events place (map event_tried attempts) →
      ListGlobs trace (map glob_tried attempts) (listings_from place (map event_tried attempts))
  list_globs [] place at = tt
  list_globs (Served listing ∷ attempts) place at = (inl (listing.shown, at.0), list_globs attempts (suc place) at.1)
  list_globs (Unserved glob ∷ attempts) place at = (inr at.0, list_globs attempts (suc place) at.1)

  -- where none failed
  pub good_listings : (attempts : List Attempt) (place : ℕ) → flat_map unserved_by attempts ≡ [] → AreAt trace.events place (map event_tried attempts) →
      AllByRecursion (IsGoodListing trace) (listings_from place (map event_tried attempts))
  good_listings [] place none at = tt
  good_listings (Served listing ∷ attempts) place none at = (
    record { root = _; depth = _; entries = listing.shown; listed = at.0 },
    good_listings attempts (suc place) none at.1,
  )
  good_listings (Unserved glob ∷ attempts) place none at = absurd (let q : _ ∷ flat_map unserved_by attempts ≡ [] = none in cc)

-- none of them is an opening
pub no_opening : (events : List Event) (attempts : List Attempt) (place opening : ℕ) (path : List ℕ) (number : ℕ) (begun : Sight) → AreAt events place (map event_tried attempts) →
    place ≤ opening → opening < place + length (map event_tried attempts) → slice_get events opening ≡ Some (Opened path number begun) → ⊥
no_opening events [] place opening path number begun at since within is = omega (arith, since, within)
no_opening events (attempt ∷ attempts) place opening path number begun at since within is =
    ⊎_elim (λ (here : place ≡ opening). no_listing attempt (sym at.0 ∙ ap (slice_get events) here ∙ is))
    (λ later. no_opening events attempts (suc place) opening path number begun at.1 (omega (arith, later)) (omega (arith, within)) is) (eq-or-lt_of_le since)
  where
    no_listing : (one : Attempt) → Some (event_tried one) ≡ Some (Opened path number begun) → ⊥
    no_listing (Served listing) same = cc
    no_listing (Unserved glob) same = cc

-- ---- what they show

-- one of these listings has the entry
pub record ShowsAt (trace : Trace) (listings : List ℕ) (shown : Shown) : Type 0 where
  pub listing : ℕ
  pub of_listings : Contains listings listing
  pub root : List ℕ
  pub depth : ℕ
  pub entries : List Shown
  pub listed : slice_get trace.events listing ≡ Some (Listed root depth entries)
  pub among : Contains entries shown

listed_entries : (root other : List ℕ) (depth another : ℕ) (entries more : List Shown) → Some (Listed root depth entries) ≡ Some (Listed other another more) → entries ≡ more
listed_entries root other depth another entries more is = cc

module _ (trace : Trace) (shown : Shown) where
  shows_later : (place : ℕ) (listings : List ℕ) → ShowsAt trace listings shown → ShowsAt trace (place ∷ listings) shown
  shows_later place listings of = record {
    listing = of.listing;
    of_listings = later_there place of.listing listings of.of_listings;
    root = of.root;
    depth = of.depth;
    entries = of.entries;
    listed = of.listed;
    among = of.among;
  }

  pub shows_at : (attempts : List Attempt) (place : ℕ) → AreAt trace.events place (map event_tried attempts) → Contains (shown_in (served_in attempts)) shown →
      ShowsAt trace (listings_from place (map event_tried attempts)) shown
  shows_at [] place at there = absurd (none_there shown there)
  shows_at (Served listing ∷ attempts) place at there =
      by_case (Contains-append_cases listing.shown (shown_in (served_in attempts)) shown there) (shows_at attempts (suc place) at.1)
    where
      behind : List ℕ
      behind = listings_from (suc place) (map event_tried attempts)

      by_case : Contains listing.shown shown ⊎ Contains (shown_in (served_in attempts)) shown → (Contains (shown_in (served_in attempts)) shown → ShowsAt trace behind shown) →
          ShowsAt trace (place ∷ behind) shown
      by_case (inl here) later = record {
        listing = place;
        of_listings = first_there place behind;
        root = _;
        depth = _;
        entries = listing.shown;
        listed = at.0;
        among = here;
      }
      by_case (inr there) later = shows_later place behind (later there)
  shows_at (Unserved glob ∷ attempts) place at there =
      shows_later place (listings_from (suc place) (map event_tried attempts)) (shows_at attempts (suc place) at.1 there)

  pub shown_by : (attempts : List Attempt) (place : ℕ) → AreAt trace.events place (map event_tried attempts) →
      ShowsAt trace (listings_from place (map event_tried attempts)) shown → Contains (shown_in (served_in attempts)) shown
  shown_by [] place at shows = absurd (none_there shows.listing shows.of_listings)
  shown_by (Served listing ∷ attempts) place at shows =
      by_case (there_cases place shows.listing (listings_from (suc place) (map event_tried attempts)) shows.of_listings) (shown_by attempts (suc place) at.1)
    where
      by_case : (place ≡ shows.listing) ⊎ Contains (listings_from (suc place) (map event_tried attempts)) shows.listing →
          (ShowsAt trace (listings_from (suc place) (map event_tried attempts)) shown → Contains (shown_in (served_in attempts)) shown) →
          Contains (shown_in (served_in (Served listing ∷ attempts))) shown
      by_case (inl here) later =
          let same : listing.shown ≡ shows.entries =
          listed_entries _ shows.root _ shows.depth listing.shown shows.entries
          (sym at.0 ∙ ap (slice_get trace.events) here ∙ shows.listed) in
          Contains-append_left listing.shown (shown_in (served_in attempts)) shown (subst (λ (l : List Shown). Contains l shown) (sym same) shows.among)
      by_case (inr there) later =
          Contains-append_right listing.shown (shown_in (served_in attempts)) shown
          (later (record {
            listing = shows.listing;
            of_listings = there;
            root = shows.root;
            depth = shows.depth;
            entries = shows.entries;
            listed = shows.listed;
            among = shows.among;
          }))
  shown_by (Unserved glob ∷ attempts) place at shows =
      by_case (there_cases place shows.listing (listings_from (suc place) (map event_tried attempts)) shows.of_listings) (shown_by attempts (suc place) at.1)
    where
      by_case : (place ≡ shows.listing) ⊎ Contains (listings_from (suc place) (map event_tried attempts)) shows.listing →
          (ShowsAt trace (listings_from (suc place) (map event_tried attempts)) shown → Contains (shown_in (served_in attempts)) shown) →
          Contains (shown_in (served_in attempts)) shown
      by_case (inl here) later =
          absurd (let q : Some ListingFailed ≡ Some (Listed shows.root shows.depth shows.entries) = sym at.0 ∙ ap (slice_get trace.events) here ∙ shows.listed in cc)
      by_case (inr there) later = later (record {
        listing = shows.listing;
        of_listings = there;
        root = shows.root;
        depth = shows.depth;
        entries = shows.entries;
        listed = shows.listed;
        among = shows.among;
      })
