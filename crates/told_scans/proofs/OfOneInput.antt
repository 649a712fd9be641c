-- An opening by which a scan asked for a key was made for one input alone, also among several scans, and one that lies between scans for no asking.
use Rattle.std.proofs.Common.{◌≡◌, inl, inr, ⊎_elim, ℕ, List, [], ◌∷◌, ◌++◌, Contains, Some, refl, sym, ap, subst, ◌∙◌}
use Rattle.std.proofs.lemmas.List.Elements.{Contains-append_left, Contains-append_right, filter_map-append}
use Rattle.std.specs.List.{AllByRecursion, flat_map}
use Rattle.kept_rows.specs.Drained.{IsOfNoOther}
use Rattle.kept_rows.specs.Run.{Asking, Run, Scan}
use Rattle.kept_rows.specs.Scans.{AreDistinct}
use Rattle.prospect.proofs.Lists.{all_map}
use Rattle.ship_core.proofs.Members.{none_there, there_cases}
use Rattle.told_scans.proofs.ExactScans.{are_exact_scans}
use Rattle.told_scans.proofs.Members.{each_member, each_then, member_is}
use Rattle.told_scans.proofs.ScansPlaced.{asked_apart_in_all, not_also_between, openings_asked_in}
use Rattle.told_scans.proofs.TriedAskings.{one_of_opening, openings_in}
use Rattle.told_scans.specs.ToldScan.{ToldScan, scan_by}
use Rattle.told_scans.specs.ToldScans.{AreToldIn, IsAskedWithin, IsExactScan, IsWithin, LiesBetween, LiesWithin, ToldRun, run_by}

-- ---- all askings

abbrev all_askings : List ToldScan → List Asking
all_askings scans = flat_map (λ (told : ToldScan). told.askings) scans

same_openings : (scans : List ToldScan) → openings_in (all_askings scans) ≡ openings_asked_in scans
same_openings [] = refl
same_openings (told ∷ scans) =
    filter_map-append (λ (asking : Asking). asking.opening) told.askings (all_askings scans) ∙ ap (λ (l : List ℕ). openings_in told.askings ++ l) (same_openings scans)

among_all : (scans : List ToldScan) (told : ToldScan) (asking : Asking) → Contains scans told → Contains told.askings asking → Contains (all_askings scans) asking
among_all [] told asking there among = absurd (none_there told there)
among_all (first ∷ scans) told asking there among =
    ⊎_elim (λ here. Contains-append_left first.askings (all_askings scans) asking (subst (λ (t : ToldScan). Contains t.askings asking) (sym here) among))
    (λ later. Contains-append_right first.askings (all_askings scans) asking (among_all scans told asking later among)) (there_cases first told scans there)

within_there : (place : ℕ) (scans : List ToldScan) (told : ToldScan) → Contains scans told → IsWithin told place → LiesWithin place scans
within_there place [] told there within = absurd (none_there told there)
within_there place (first ∷ scans) told there within =
    ⊎_elim (λ here. inl (subst (λ (t : ToldScan). IsWithin t place) (sym here) within)) (λ later. inr (within_there place scans told later within)) (there_cases first told scans there)

module _ (run : ToldRun) (are : AreToldIn run) where
  abbrev its_run : Run
  its_run = run_by run

  -- what is said of each asking of each scan
  each_asking : (P : Asking → Type 0) → ((told : ToldScan) → Contains run.scans told → (asking : Asking) → Contains told.askings asking → P asking) →
      AllByRecursion (λ (scan : Scan). AllByRecursion P scan.askings) its_run.scans
  each_asking P each =
      all_map (λ (scan : Scan). AllByRecursion P scan.askings) (λ (told : ToldScan). AllByRecursion P told.askings) scan_by (λ told all. all) run.scans
      (each_member (λ (told : ToldScan). AllByRecursion P told.askings) run.scans (λ told there. each_member P told.askings (each told there)))

  pub of_one_input : (told : ToldScan) → Contains run.scans told → (one : Asking) → Contains told.askings one → (opening : ℕ) → one.opening ≡ Some opening → IsOfNoOther its_run one.input opening
  of_one_input told there one among opening at = each_asking (λ (asking : Asking). asking.opening ≡ Some opening → asking.input ≡ one.input) (λ other its asking its_own is.
      ap (λ (a : Asking). a.input)
      (one_of_opening (all_askings run.scans) asking one opening
      (subst AreDistinct (sym (same_openings run.scans)) (asked_apart_in_all run.settings run.earlier run.scans run.ended are))
      (among_all run.scans other asking its its_own) (among_all run.scans told one there among) is at))

  pub of_no_input : (opening input : ℕ) → LiesBetween opening run.earlier run.scans run.ended → IsOfNoOther its_run input opening
  of_no_input opening input lies = each_asking (λ (asking : Asking). asking.opening ≡ Some opening → asking.input ≡ input) (λ told there asking among is.
      absurd (not_also_between run.settings opening run.earlier run.scans run.ended are (within_there opening run.scans told there (placed told there asking among opening is)) lies))
    where
      placed : (told : ToldScan) → Contains run.scans told → (asking : Asking) → Contains told.askings asking → IsAskedWithin told asking
      placed told there asking among =
          member_is (IsAskedWithin told) told.askings asking (member_is (λ (t : ToldScan). AllByRecursion (IsAskedWithin t) t.askings) run.scans told all_placed there) among
        where
          all_placed : AllByRecursion (λ (t : ToldScan). AllByRecursion (IsAskedWithin t) t.askings) run.scans
          all_placed = each_then (IsExactScan its_run) (λ (t : ToldScan). AllByRecursion (IsAskedWithin t) t.askings) run.scans (λ t is. is.asked_within) (are_exact_scans run are).each
