-- The run whose scans come one after another is a run around each of them: so all that is known of a scan of a run is known of each of its scans, and
-- its listings are those of all.
use Rattle.std.proofs.Common.{◌≡◌, ℕ, ◌≤◌, List, [], ◌∷◌, ◌++◌, length, map, refl, sym, ap, subst, ◌∙◌, arith}
use Rattle.std.proofs.lemmas.List.{length-map, map-append}
use Rattle.std.specs.List.{AllByRecursion}
use Rattle.event_tree.specs.declared.settings.Settings.{Settings}
use Rattle.kept_rows.specs.Askings.{AsksInOrder}
use Rattle.kept_rows.specs.Run.{Run, Scan}
use Rattle.kept_rows.specs.Scans.{AllButTheLast, AreAsked, AreScans, IsBefore, IsWhole, ListGlobs, StandInOrder, WasAskedSo, globs_in}
use Rattle.prospect.proofs.Lists.{all_map}
use Rattle.prospect.specs.PastFaults.{glob_tried}
use Rattle.told_scans.proofs.AskedEvents.{longer}
use Rattle.told_scans.proofs.PastFaults.{shows_exactly}
use Rattle.told_scans.proofs.ScanAsked.{asked_so, in_this_run}
use Rattle.told_scans.proofs.ScanAskings.{asks_in_order}
use Rattle.told_scans.proofs.ScanList.{is_before, listed_globs, listings_are, since_listed}
use Rattle.told_scans.proofs.ScanOf.{each_asked}
use Rattle.told_scans.proofs.ScanWhole.{is_whole}
use Rattle.told_scans.proofs.Scanning.{as_many_listings}
use Rattle.told_scans.proofs.ScansPlaced.{asked_apart_in_all, each_placed, placed_or_asked}
use Rattle.told_scans.proofs.ToldScans.{IsToldBetween, go_on, listings_together, nothing_appended, scan_appended, scans_later, told_between}
use Rattle.told_scans.specs.Exact.{ShowsExactly}
use Rattle.told_scans.specs.ToldScan.{IsAround, IsToldWithoutFault, RunAround, ToldScan, run_around, scan_by}
use Rattle.told_scans.specs.ToldScans.{AreExactScans, AreToldFrom, AreToldIn, IsExactScan, MayGoOn, ToldRun, moments_in, run_by}

-- ---- lists

-- wherever a list is parted
pub each_parted : {A : Type 0} (P : A → Type 0) (xs : List A) → ((front : List A) (x : A) (behind : List A) → xs ≡ front ++ x ∷ behind → P x) → AllByRecursion P xs
each_parted P [] each = tt
each_parted P (x ∷ xs) each = (each [] x xs refl, each_parted P xs (λ front y behind are. each (x ∷ front) y behind (ap (λ (l : List _). x ∷ l) are)))

all_but_the_last : {A : Type 0} (P : A → Type 0) (xs : List A) → AllByRecursion P xs → AllButTheLast P xs
all_but_the_last P [] all = tt
all_but_the_last P (x ∷ []) all = tt
all_but_the_last P (x ∷ next ∷ xs) all = (all.0, all_but_the_last P (next ∷ xs) all.1)

same_moments : (scans : List ToldScan) → moments_in scans ≡ map (λ (scan : Scan). scan.moment) (map scan_by scans)
same_moments [] = refl
same_moments (told ∷ scans) = ap (λ (l : List ℕ). told.moment ∷ l) (same_moments scans)

module _ (run : ToldRun) (are : AreToldIn run) where
  abbrev scans : List ToldScan
  scans = run.scans

  abbrev its_run : Run
  its_run = run_by run

  -- ---- one of the scans

  module _ (front : List ToldScan) (told : ToldScan) (behind : List ToldScan) (scans_are : scans ≡ front ++ told ∷ behind) where
    pub between : IsToldBetween run.settings run.earlier front told behind run.ended
    between = told_between run.settings run.earlier front told behind run.ended (subst (λ (l : List ToldScan). AreToldFrom run.settings run.earlier l run.ended) scans_are are)

    abbrev pub around : RunAround
    around = record {
      once = run.once;
      opening = run.opening;
      ended = run.ended;
      began = length run.earlier.events;
      open_tails = run.open_tails;
      moments = run.moments;
      wires = run.wires;
      before = map scan_by front;
      behind = map scan_by behind;
    }

    pub is_around : IsAround told around
    is_around = record {
      goes_on = go_on run.settings told.scanned behind run.ended between.behind_told;
      since = longer run.earlier told.earlier (go_on run.settings run.earlier front told.earlier between.front_told);
      until = λ place less. scans_later run.settings place told.scanned behind run.ended between.behind_told less;
    }

    pub scans_around : map scan_by scans ≡ map scan_by front ++ scan_by told ∷ map scan_by behind
    scans_around = ap (map scan_by) scans_are ∙ map-append scan_by front (told ∷ behind)

    pub same_run : run_around told around ≡ its_run
    same_run = λ k. record { settings = between.settings_are k; once = run.once; opening = run.opening; trace = its_run.trace; scans = (sym scans_around) k }

    pub shows_listed : ShowsExactly its_run (scan_by told) told.files
    shows_listed = subst (λ (r : Run). ShowsExactly r (scan_by told) told.files) same_run (shows_exactly told between.is around is_around)

    pub is_exact : IsExactScan its_run told
    is_exact = record {
      asked = subst (λ (r : Run). AreAsked r (scan_by told)) same_run (each_asked told between.is around is_around);
      asked_so = subst (λ (r : Run). AllByRecursion (WasAskedSo r (scan_by told)) told.askings) same_run (asked_so told between.is around is_around);
      asks_in_order = subst (λ (r : Run). AsksInOrder r (scan_by told)) same_run (asks_in_order told between.is around is_around);
      asked_within = each_placed told between.is;
      shows = shows_listed;
    }

    -- without a fault it is whole
    pub is_whole_in_run : IsToldWithoutFault told → IsWhole its_run (scan_by told)
    is_whole_in_run whole = subst (λ (r : Run). IsWhole r (scan_by told)) same_run (is_whole told whole around is_around)

    -- it was made before each place behind its listings
    pub made_before : (place : ℕ) → length told.listed.events ≤ place → IsBefore place (scan_by told)
    made_before place since = is_before told between.is around is_around place since

    -- a place after its end is one after its listings
    pub listings_ended : (place : ℕ) → length told.scanned.events ≤ place → length told.listed.events ≤ place
    listings_ended place since = let long = since_listed told between.is around is_around in omega (arith, long, since)

    -- and one of this run
    pub in_the_run : (place : ℕ) → length told.listed.events ≤ place → length run.earlier.events ≤ place
    in_the_run place since = in_this_run told between.is around is_around place since

    by_globs : ListGlobs its_run.trace (globs_in run.settings.inputs) (scan_by told).listings
    by_globs = subst (λ (s : Settings). ListGlobs its_run.trace (globs_in s.inputs) (scan_by told).listings) between.settings_are (listed_globs told between.is around is_around)

    in_full : length (scan_by told).listings ≡ length (globs_in run.settings.inputs)
    in_full =
        ap length (listings_are told between.is around is_around) ∙ as_many_listings between.is.attempts (length told.earlier.events)
        ∙ sym (length-map between.is.attempts glob_tried) ∙ ap length between.is.for_each_glob
        ∙ ap (λ (s : Settings). length (globs_in s.inputs)) between.settings_are

  -- ---- all of them

  each_scan : (P : Scan → Type 0) → ((front : List ToldScan) (told : ToldScan) (behind : List ToldScan) → scans ≡ front ++ told ∷ behind → P (scan_by told)) → AllByRecursion P its_run.scans
  each_scan P each = all_map P (λ (told : ToldScan). P (scan_by told)) scan_by (λ told is. is) scans (each_parted (λ (told : ToldScan). P (scan_by told)) scans each)

  pub are_scans : StandInOrder (moments_in scans) run.moments → AreScans its_run
  are_scans moments = record {
    together = listings_together run.settings run.earlier scans run.ended are;
    by_globs = each_scan (λ (scan : Scan). ListGlobs its_run.trace (globs_in run.settings.inputs) scan.listings) by_globs;
    full = all_but_the_last (λ (scan : Scan). length scan.listings ≡ length (globs_in run.settings.inputs)) its_run.scans
        (each_scan (λ (scan : Scan). length scan.listings ≡ length (globs_in run.settings.inputs)) in_full);
    moments = subst (λ (l : List ℕ). StandInOrder l run.moments) (same_moments scans) moments;
  }

  each_exact : AllByRecursion (IsExactScan its_run) scans
  each_exact = each_parted (IsExactScan its_run) scans is_exact

  -- each covered entry was asked for its key, also in the last scan
  pub all_asked : AllButTheLast (AreAsked its_run) its_run.scans
  all_asked = all_but_the_last (AreAsked its_run) its_run.scans (each_scan (AreAsked its_run) (λ front told behind scans_are. (is_exact front told behind scans_are).asked))

  pub are_exact_scans : AreExactScans run
  are_exact_scans = record {
    are_scans = are_scans;
    each = each_exact;
    asked_apart = asked_apart_in_all run.settings run.earlier scans run.ended are;
    each_opening = λ opening path number begun since is. placed_or_asked run.settings run.ended opening path number begun is run.earlier scans are since;
  }

  -- ---- it goes on

  pub may_go_on : MayGoOn run
  may_go_on = record {
    by_scan = λ told from same is.
        scan_appended run.settings run.earlier scans told (subst (AreToldFrom run.settings run.earlier scans) (sym from) are) same is;
    unlisted = λ ended nothing. nothing_appended run.settings run.earlier scans run.ended ended are nothing;
  }
