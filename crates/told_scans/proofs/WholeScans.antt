-- A scan of which no listing failed and no asking: as calls tell it that end with the first fault, and as calls that go on past faults do.
use Rattle.std.proofs.Common.{◌≡◌, ◌⊎◌, inl, inr, ℕ, List, [], ◌∷◌, Contains, map, Some, refl, sym, ap, ◌∙◌}
use Rattle.std.specs.Prelude.{flat_map}
use Rattle.event_tree.specs.declared.input_rule.InputRule.{InputRule}
use Rattle.outside.specs.Folders.{Event, FolderHistory}
use Rattle.prospect.specs.AskedFiles.{AskedFile, AsksFrom}
use Rattle.prospect.specs.ListedFiles.{ScansFiles}
use Rattle.prospect.specs.PastFaults.{Answered, Faulted, Served, Trial, answered_in, faulted_by, file_tried, glob_tried, served_in, unserved_by}
use Rattle.prospect.specs.Scan.{Listing, event_of, with_events}
use Rattle.prospect.specs.declared.listed.Listed.{Listed}
use Rattle.ship_core.proofs.Members.{none_there, there_cases}
use Rattle.told_scans.specs.ToldScan.{AsksSo, asking_of, event_tried}
use Rattle.told_scans.proofs.Members.{some_is}

-- ---- of trials

-- none of them failed
pub none_faulted : (trials : List Trial) → flat_map faulted_by trials ≡ [] → (one : Listed) → Contains trials (Faulted one) → ⊥
none_faulted [] none one there = none_there (Faulted one) there
none_faulted (Answered first ∷ trials) none one there = by_case (there_cases (Answered first) (Faulted one) trials there) (none_faulted trials none one)
  where
    by_case : (Answered first ≡ Faulted one) ⊎ Contains trials (Faulted one) → (Contains trials (Faulted one) → ⊥) → ⊥
    by_case (inl here) others = cc
    by_case (inr later) others = others later
none_faulted (Faulted first ∷ trials) none one there = let q : first ∷ flat_map faulted_by trials ≡ [] = none in cc

-- ---- where each was answered

pub files_answered : (asked : List AskedFile) → map file_tried (map Answered asked) ≡ map (λ (one : AskedFile). one.listed) asked
files_answered [] = refl
files_answered (one ∷ asked) = ap (λ (l : List Listed). one.listed ∷ l) (files_answered asked)

pub answers_are : (asked : List AskedFile) → answered_in (map Answered asked) ≡ asked
answers_are [] = refl
answers_are (one ∷ asked) = ap (λ (l : List AskedFile). one ∷ l) (answers_are asked)

pub answered_whole : (asked : List AskedFile) → flat_map faulted_by (map Answered asked) ≡ []
answered_whole [] = refl
answered_whole (one ∷ asked) = answered_whole asked

pub asks_so : (inputs : List InputRule) (asked : List AskedFile) (before after : FolderHistory) → AsksFrom inputs asked before after →
    AsksSo inputs (map Answered asked) (map asking_of asked) before after
asks_so inputs [] before after asks = asks
asks_so inputs (one ∷ asked) before after asks = (asks.0, asks.1, refl, asks_so inputs asked asks.0 after asks.2)

-- ---- where each was served

pub globs_served : (listings : List Listing) → map glob_tried (map Served listings) ≡ map (λ listing. listing.glob) listings
globs_served [] = refl
globs_served (listing ∷ listings) = ap (λ (l : List (List ℕ)). listing.glob ∷ l) (globs_served listings)

pub served_are : (listings : List Listing) → served_in (map Served listings) ≡ listings
served_are [] = refl
served_are (listing ∷ listings) = ap (λ (l : List Listing). listing ∷ l) (served_are listings)

pub served_whole : (listings : List Listing) → flat_map unserved_by (map Served listings) ≡ []
served_whole [] = refl
served_whole (listing ∷ listings) = served_whole listings

pub events_served : (listings : List Listing) → map event_tried (map Served listings) ≡ map event_of listings
events_served [] = refl
events_served (listing ∷ listings) = ap (λ (l : List Event). event_of listing ∷ l) (events_served listings)

pub listed_served : (inputs : List InputRule) (told : FolderHistory) (all : List Listed) (listed : FolderHistory) (scans : ScansFiles inputs told all (Some listed)) →
    listed ≡ with_events told (map event_tried (map Served scans.listings))
listed_served inputs told all listed scans =
    some_is listed (with_events told (map event_of scans.listings)) scans.listed_is.kept ∙ ap (with_events told) (sym (events_served scans.listings))
