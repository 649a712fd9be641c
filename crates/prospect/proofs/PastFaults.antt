-- What a scan reports that goes on past what fails: where nothing failed it is a whole one, and else it is none.
use Rattle.std.proofs.Common.{◌≡◌, ◌≢◌, inl, inr, ℕ, ◌≤◌, List, [], ◌∷◌, ◌++◌, length, map, Option, Some, None, IfSome, refl, sym, ◌∙◌, ap, subst, arith}
use Rattle.std.specs.Prelude.{flat_map}
use Rattle.std.specs.BTreeMap.{IsOrdered}
use Rattle.std.proofs.lemmas.List.{append_cancel_left, length-map}
use Rattle.event_tree.specs.declared.input_rule.InputRule.{InputRule}
use Rattle.glob_paths.specs.Root.{root_of}
use Rattle.outside.specs.Folders.{Event, FolderHistory, ListingFailed}
use Rattle.wire_base.specs.KeyOrder.{compare}
use Rattle.prospect.specs.declared.listed.Listed.{Listed}
use Rattle.prospect.specs.declared.listings.Tried.{Tried}
use Rattle.prospect.specs.declared.scan_error.ScanError.{ScanError}
use Rattle.prospect.specs.declared.scan_error.ScanError.TheVariants.{Failed, NoMemory, NoNative}
use Rattle.prospect.specs.declared.scan_input.ScanInput.{ScanInput}
use Rattle.prospect.specs.Covered.{AreCovered, StopsAt, pairs_of}
use Rattle.prospect.specs.Entries.{Lists}
use Rattle.prospect.specs.ListedFiles.{EndsAs, ScansFiles}
use Rattle.prospect.specs.Members.{globs_of}
use Rattle.prospect.specs.PastFaults.{Attempt, IsNoWholeList, RefusesBy, Served, ServesFiles, ServesNoFiles, StandSo, TriesGlobs, Unserved, glob_tried, served_in, unserved_by}
use Rattle.prospect.specs.Readings.{globs_read, reading_of, readings_from}
use Rattle.prospect.specs.Scan.{AreListed, Listing, event_of, with_events}
use Rattle.prospect.specs.Trying.{ServeEntries, TriesMore}
use Rattle.prospect.proofs.Covering.{showing_by}
use Rattle.prospect.proofs.Telling.{globs_are, refuses, shows_files}

-- ---- a scan of which nothing failed

abbrev glob_in : Listing → List ℕ
glob_in listing = listing.glob

all_served : (faults : ℕ) (attempts : List Attempt) (events : List Event) → flat_map unserved_by attempts ≡ [] → StandSo faults attempts events →
    (events ≡ map event_of (served_in attempts)) × (map glob_tried attempts ≡ map glob_in (served_in attempts))
all_served faults [] events none stand = (stand, refl)
all_served faults (Served listing ∷ attempts) events none stand =
    let others = all_served faults attempts stand.0 none stand.2 in
    (stand.1 ∙ ap (λ (l : List Event). event_of listing ∷ l) others.0, ap (λ (l : List (List ℕ)). listing.glob ∷ l) others.1)
all_served faults (Unserved glob ∷ attempts) events none stand =
    let wrong : root_of glob ∷ flat_map unserved_by attempts ≡ [] = none in cc

pub whole_listed : (globs : List (List ℕ)) (told : FolderHistory) (failed : List (List ℕ)) (faults : ℕ) (after : Option FolderHistory) (tries : TriesGlobs globs told failed faults after) → failed ≡ [] →
    AreListed globs told (served_in tries.attempts) after
whole_listed globs told failed faults after tries none =
    let served = all_served faults tries.attempts tries.makes.more (sym tries.failed_are ∙ none) tries.makes.stand in
    record {
      one_for_each_glob = sym served.1 ∙ tries.one_for_each_glob;
      kept = tries.makes.kept ∙ ap (λ (l : List Event). Some (with_events told l)) served.0;
    }

-- ---- and one of which something did

pub not_more : (faults : ℕ) (attempts : List Attempt) (events : List Event) → StandSo faults attempts events → length events ≤ length attempts
not_more faults [] events stand = omega (arith, ap (λ (l : List Event). length l) stand)
not_more faults (Served listing ∷ attempts) events stand =
    omega (arith, ap (λ (l : List Event). length l) stand.1, not_more faults attempts stand.0 stand.2)
not_more faults (Unserved glob ∷ attempts) events (inl stand) =
    omega (arith, ap (λ (l : List Event). length l) stand.1, not_more faults attempts stand.0 stand.2)
not_more faults (Unserved glob ∷ attempts) events (inr stand) = omega (arith, not_more faults attempts events stand.1)

abbrev tail_of : List Event → List Event
tail_of [] = []
tail_of (event ∷ events) = events

none_failed : (faults : ℕ) (attempts : List Attempt) (listings : List Listing) → StandSo faults attempts (map event_of listings) → length attempts ≤ length listings → flat_map unserved_by attempts ≡ []
none_failed faults [] listings stand long = refl
none_failed faults (Served listing ∷ attempts) [] stand long = absurd (omega (arith, long))
none_failed faults (Served listing ∷ attempts) (first ∷ listings) stand long =
    none_failed faults attempts listings (subst (StandSo faults attempts) (sym (ap tail_of stand.1)) stand.2) (omega (arith, long))
none_failed faults (Unserved glob ∷ attempts) [] stand long = absurd (omega (arith, long))
none_failed faults (Unserved glob ∷ attempts) (first ∷ listings) (inl stand) long =
    let wrong : event_of first ∷ map event_of listings ≡ ListingFailed ∷ stand.0 = stand.1 in cc
none_failed faults (Unserved glob ∷ attempts) (first ∷ listings) (inr stand) long =
    let short = not_more faults attempts (map event_of (first ∷ listings)) stand.1 in
    let many = length-map (first ∷ listings) event_of in
    absurd (omega (arith, long, short, many))

pub never_whole : (globs : List (List ℕ)) (told : FolderHistory) (failed : List (List ℕ)) (faults : ℕ) (after : Option FolderHistory) → TriesGlobs globs told failed faults after → failed ≢ [] → IsNoWholeList globs told after
never_whole globs told failed faults after tries some listings are =
    some (tries.failed_are ∙ none_failed faults tries.attempts listings stand long)
  where
    same : Some (with_events told tries.makes.more) ≡ Some (with_events told (map event_of listings))
    same = sym tries.makes.kept ∙ are.kept

    events_of : Option FolderHistory → List Event
    events_of None = []
    events_of (Some history) = history.events

    stand : StandSo faults tries.attempts (map event_of listings)
    stand = subst (StandSo faults tries.attempts) (append_cancel_left told.events tries.makes.more (map event_of listings) (ap events_of same)) tries.makes.stand

    long : length tries.attempts ≤ length listings
    long =
        let globs_long = ap (λ (l : List (List ℕ)). length l) (tries.one_for_each_glob ∙ sym are.one_for_each_glob) in
        omega (arith, globs_long, length-map tries.attempts glob_tried, length-map listings glob_in)

-- ---- what the listings came to

-- what was added, whatever the folder reports
abbrev pub lists_of : (globs : List (List ℕ)) (told after : Option FolderHistory) (old new : Tried) (faults : ℕ) → TriesMore globs told old new faults after → Lists globs None old.entries new.entries None
lists_of globs told after old new faults tries = record { entries = tries.entries; in_range = tries.in_range; added = tries.added; shown = tt }

module _ (inputs : List InputRule) (reads : List ScanInput) (told after : Option FolderHistory) (none tried : Tried) (faults : ℕ) (numbered : map reading_of reads ≡ readings_from 0 inputs)
    (empty : none.entries.entries ≡ []) (none_yet : none.failed.items ≡ []) (ordered : IsOrdered compare tried.entries) (tries : TriesMore (globs_read reads) told none tried faults after) where
  module _ (history : FolderHistory) (serves : ServeEntries (globs_read reads) tries.failed tries.entries history faults after) where
    abbrev tries_globs : TriesGlobs (globs_of inputs) history tried.failed.items faults after
    tries_globs = record {
      attempts = serves.tries.attempts;
      one_for_each_glob = serves.tries.one_for_each_glob ∙ globs_are inputs reads numbered;
      failed_are = tries.failed_more ∙ ap (λ (l : List (List ℕ)). l ++ tries.failed) none_yet ∙ serves.tries.failed_are;
      makes = serves.tries.makes;
    }

  if_told : (P : FolderHistory → Type 0) → ((history : FolderHistory) → ServeEntries (globs_read reads) tries.failed tries.entries history faults after → P history) → IfSome told P
  if_told P step = by_told told tries.served
    where
      by_told : (o : Option FolderHistory) → IfSome o (λ history. ServeEntries (globs_read reads) tries.failed tries.entries history faults after) → IfSome o P
      by_told None serves = tt
      by_told (Some history) serves = step history serves

  pub served : (files : List Listed) → AreCovered (pairs_of (map reading_of reads) (map showing_by tried.entries.entries)) files → IfSome told (λ history. ServesFiles inputs history tried.failed.items files faults after)
  served files covered = if_told (λ history. ServesFiles inputs history tried.failed.items files faults after) (λ history serves. record {
    tries = tries_globs history serves;
    shown = shows_files inputs reads None None none.entries tried.entries numbered empty ordered (lists_of (globs_read reads) told after none tried faults tries)
        (served_in serves.tries.attempts) serves.entries_are files covered;
  })

  pub refused : (error : ScanError) → error ≢ NoMemory → StopsAt (pairs_of (map reading_of reads) (map showing_by tried.entries.entries)) error →
      IfSome told (λ history. ServesNoFiles inputs history tried.failed.items error faults after)
  refused error some stops = if_told (λ history. ServesNoFiles inputs history tried.failed.items error faults after) (λ history serves. record {
    tries = tries_globs history serves;
    refuses = refuses inputs reads None None none.entries tried.entries numbered empty ordered (lists_of (globs_read reads) told after none tried faults tries)
        (served_in serves.tries.attempts) serves.entries_are error some stops;
  })

  pub partial : tried.failed.items ≢ [] → IfSome told (λ history. IsNoWholeList (globs_of inputs) history after)
  partial some = if_told (λ history. IsNoWholeList (globs_of inputs) history after)
      (λ history serves. never_whole (globs_of inputs) history tried.failed.items faults after (tries_globs history serves) some)

-- ---- where none failed

whole_one : (inputs : List InputRule) (told : FolderHistory) (failed : List (List ℕ)) (files : List Listed) (faults : ℕ) (after : Option FolderHistory) → ServesFiles inputs told failed files faults after → failed ≡ [] →
    ScansFiles inputs told files after
whole_one inputs told failed files faults after serves none = record {
  listings = served_in serves.tries.attempts;
  listed_is = whole_listed (globs_of inputs) told failed faults after serves.tries none;
  shown = serves.shown;
}

pub whole : (inputs : List InputRule) (told : Option FolderHistory) (failed : List (List ℕ)) (files : List Listed) (faults : ℕ) (after : Option FolderHistory) →
    IfSome told (λ history. ServesFiles inputs history failed files faults after) → failed ≡ [] → IfSome told (λ history. ScansFiles inputs history files after)
whole inputs None failed files faults after serves none = tt
whole inputs (Some told) failed files faults after serves none = whole_one inputs told failed files faults after serves none

ends_so : (inputs : List InputRule) (told : FolderHistory) (failed : List (List ℕ)) (error : ScanError) (faults : ℕ) (after : Option FolderHistory) → ServesNoFiles inputs told failed error faults after → failed ≡ [] →
    EndsAs inputs told error after
ends_so inputs told failed error faults after serves none = by_error error serves.refuses
  where
    its : List Listing
    its = served_in serves.tries.attempts

    listed_is : AreListed (globs_of inputs) told its after
    listed_is = whole_listed (globs_of inputs) told failed faults after serves.tries none

    by_error : (e : ScanError) → RefusesBy inputs its e → EndsAs inputs told e after
    by_error Failed refuses = absurd refuses
    by_error NoMemory refuses = absurd refuses
    by_error (NoNative path) refuses = record { listings = its; listed_is = listed_is; lacks = refuses }

pub whole_refused : (inputs : List InputRule) (told : Option FolderHistory) (failed : List (List ℕ)) (error : ScanError) (faults : ℕ) (after : Option FolderHistory) →
    IfSome told (λ history. ServesNoFiles inputs history failed error faults after) → failed ≡ [] → IfSome told (λ history. EndsAs inputs history error after)
whole_refused inputs None failed error faults after serves none = tt
whole_refused inputs (Some told) failed error faults after serves none = ends_so inputs told failed error faults after serves none
