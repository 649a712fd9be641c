-- The files of a run were opened between its scans, and within a scan files were opened to be asked for their keys: so no opening is both, and each that
-- is no file's told nothing but reads.
use Rattle.std.proofs.Common.{inl, inr, ⊎_elim, ℕ, ◌≤◌, ◌<◌, List, [], ◌∷◌, ◌++◌, Contains, length, Option, sym, ap, subst}
use Rattle.std.specs.Prelude.{flat_map, option_map}
use Rattle.std.specs.List.{AllByRecursion}
use Rattle.accounts.specs.Filed.{Filed}
use Rattle.accounts.specs.FollowedFile.{EachOpeningIsOne, openings_in}
use Rattle.accounts.specs.Opened.{Opened}
use Rattle.kept_rows.specs.Followed.{OnlyReads, asked_openings}
use Rattle.kept_rows.specs.Run.{Run}
use Rattle.kept_rows.specs.Scans.{AreDistinct}
use Rattle.kept_rows.specs.Trace.{Closing, first_of_two, open_looks_in}
use Rattle.outside.specs.Folders.{FolderHistory}
use Rattle.told_scans.proofs.Members.{member_is}
use Rattle.told_scans.proofs.ScansPlaced.{asked_apart_in_all, asked_within_scans, not_also_between, placed_or_asked}
use Rattle.told_scans.proofs.TriedAskings.{distinct_both}
use Rattle.told_scans.specs.OnlyAsked.{WasOnlyAsked}
use Rattle.told_scans.specs.ToldScan.{ToldScan}
use Rattle.told_scans.specs.ToldScans.{AreOpenedFor, AreToldIn, LiesBetween, LiesWithin, ToldRun, run_by}
use Rattle.scanned_files.specs.Listings.{WasListedBy}

-- after one of the scans, and before each that comes after it
lies_after : (place : ℕ) (before : FolderHistory) (front : List ToldScan) (told : ToldScan) (behind : List ToldScan) (now : FolderHistory) → length told.scanned.events ≤ place →
    AllByRecursion (λ (later : ToldScan). place < length later.earlier.events) behind → place < length now.events → LiesBetween place before (front ++ told ∷ behind) now
lies_after place before [] told [] now since until less = inr (since, less)
lies_after place before [] told (next ∷ behind) now since until less = inr (inl (since, until.0))
lies_after place before (first ∷ front) told behind now since until less = inr (lies_after place first.scanned front told behind now since until less)

module _ (run : ToldRun) where
  pub lies_between : (opened : Opened) → WasListedBy run.scans opened → opened.opening < length run.ended.events → LiesBetween opened.opening run.earlier run.scans run.ended
  lies_between opened listed less = subst (λ (l : List ToldScan). LiesBetween opened.opening run.earlier l run.ended) (sym listed.scans_are)
      (lies_after opened.opening run.earlier listed.front listed.told listed.behind run.ended listed.since listed.until less)

module _ (run : ToldRun) (are : AreToldIn run) where
  abbrev its_run : Run
  its_run = run_by run

  only_reads : (opening : ℕ) → WasOnlyAsked run.ended opening → OnlyReads its_run.trace opening
  only_reads opening was = record {
    looks = was.looks;
    tells = ap (λ (o : Option Closing). first_of_two (option_map (λ (c : Closing). c.looks) o) (open_looks_in opening run.open_tails)) was.closed.closing;
    none_at_length = was.reads;
  }

  -- of the openings between scans each is a file's, or it only asked for a key
  pub openings_serve : (files : List Filed) → AreOpenedFor run (flat_map openings_in files) → EachOpeningIsOne its_run files
  openings_serve files serve opening path number begun since is =
      ⊎_elim (λ lies. ⊎_elim inl (λ was. inr (only_reads opening was)) (serve opening path number begun lies is)) (λ was. inr (only_reads opening was))
      (placed_or_asked run.settings run.ended opening path number begun is run.earlier run.scans are since)

  pub openings_apart : (openings : List ℕ) → AreDistinct openings → ((opening : ℕ) → Contains openings opening → LiesBetween opening run.earlier run.scans run.ended) →
      AreDistinct (asked_openings its_run ++ openings)
  openings_apart openings apart lies =
      distinct_both (asked_openings its_run) openings (asked_apart_in_all run.settings run.earlier run.scans run.ended are) apart
      (λ opening asked followed.
      not_also_between run.settings opening run.earlier run.scans run.ended are
      (member_is (λ (o : ℕ). LiesWithin o run.scans) (asked_openings its_run) opening (asked_within_scans run.settings run.earlier run.scans run.ended are) asked) (lies opening followed))
