-- A partial scan is not whole.
use Rattle.std.proofs.Common.{◌≡◌, inl, inr, ℕ, suc, ◌≤◌, List, [], ◌∷◌, length, Option, Some, None, refl, sym, ap, subst, ◌∙◌, arith}
use Rattle.std.specs.Prelude.{flat_map, slice_get}
use Rattle.std.specs.List.{AllByRecursion}
use Rattle.std.proofs.lemmas.List.{length-map}
use Rattle.event_tree.specs.declared.input_rule.IdentityRule.{IdentityRule}
use Rattle.kept_rows.specs.Run.{Run, Scan}
use Rattle.kept_rows.specs.Scans.{IsGoodListing, IsWhole, MetFault, MetNoFault, WasAskedWell, WasClosedWithFaults, listings_from}
use Rattle.kept_rows.specs.Trace.{Closing, Trace}
use Rattle.outside.specs.Folders.{Closed, Event, Listed, ListingFailed, NotThere, Opened, OpeningFailed}
use Rattle.prospect.proofs.PastFaults.{not_more}
use Rattle.prospect.specs.PastFaults.{Attempt, Served, StandSo, Unserved, glob_tried, unserved_by}
use Rattle.told_scans.proofs.Members.{member_is}
use Rattle.told_scans.specs.Partial.{AreAt, HasFailedAsking, HasFailedListing, IsPartial}

-- ---- its listings

few_listings : (events : List Event) (place : ℕ) → length (listings_from place events) ≤ length events
few_listings [] place = omega arith
few_listings (Listed root depth shown ∷ events) place = omega (arith, few_listings events (suc place))
few_listings (ListingFailed ∷ events) place = omega (arith, few_listings events (suc place))
few_listings (Opened path number begun ∷ events) place = omega (arith, few_listings events (suc place))
few_listings (NotThere path ∷ events) place = omega (arith, few_listings events (suc place))
few_listings (OpeningFailed path ∷ events) place = omega (arith, few_listings events (suc place))
few_listings (Closed opening looks faults ∷ events) place = omega (arith, few_listings events (suc place))

module _ (trace : Trace) (faults : ℕ) where
  -- as many good listings as there were attempts
  abbrev AreGood : List Attempt → ℕ → List Event → Type 0
  AreGood attempts place events = AreAt trace.events place events → AllByRecursion (IsGoodListing trace) (listings_from place events) → length attempts ≤ length (listings_from place events) →
      flat_map unserved_by attempts ≡ []

  none_failed : (attempts : List Attempt) (place : ℕ) (events : List Event) → StandSo faults attempts events → AreGood attempts place events
  none_failed [] place events stand = λ there good long. refl
  none_failed (Served listing ∷ attempts) place events stand =
      subst (AreGood (Served listing ∷ attempts) place) (sym stand.1) (λ there good long. none_failed attempts (suc place) stand.0 stand.2 there.1 good.1 (omega (arith, long)))
  none_failed (Unserved glob ∷ attempts) place events (inl stand) =
      subst (AreGood (Unserved glob ∷ attempts) place) (sym stand.1)
      (λ there good long. absurd (not_listed good.0 there.0))
    where
      not_listed : IsGoodListing trace place → slice_get trace.events place ≡ Some ListingFailed → ⊥
      not_listed is failed = let wrong : Some (Listed is.root is.depth is.entries) ≡ Some ListingFailed = sym is.listed ∙ failed in cc
  none_failed (Unserved glob ∷ attempts) place events (inr stand) = λ there good long.
      absurd (omega (arith, long, few_listings events place, not_more faults attempts events stand.1))

listing_never_whole : (run : Run) (scan : Scan) → HasFailedListing run scan → IsWhole run scan → ⊥
listing_never_whole run scan has whole =
    has.failed (none_failed run.trace has.faults has.attempts has.place has.events has.stand has.there
    (subst (AllByRecursion (IsGoodListing run.trace)) has.listings_are whole.none_failed) as_many)
  where
    as_many : length has.attempts ≤ length (listings_from has.place has.events)
    as_many =
        let globs = ap (λ (l : List (List ℕ)). length l) has.for_each_glob in
        let its = ap (λ (l : List ℕ). length l) has.listings_are in
        omega (arith, globs, its, whole.not_cut_off, length-map has.attempts glob_tried)

-- ---- its askings

abbrev pub faults_of : Option Closing → ℕ
faults_of None = 0
faults_of (Some closing) = closing.faults

module _ (trace : Trace) (path : List ℕ) (opening : ℕ) where
  never_opened : slice_get trace.events opening ≡ Some (OpeningFailed path) → (rule : IdentityRule) → MetNoFault trace rule path (Some opening) → ⊥
  never_opened failed rule (reads, inl asked) =
      let wrong : Some (Opened path asked.number asked.tail.begun) ≡ Some (OpeningFailed path) = sym asked.tail.opened ∙ failed in cc
  never_opened failed rule (reads, inr gone) = let wrong : Some (NotThere path) ≡ Some (OpeningFailed path) = sym gone.not_there ∙ failed in cc

  never_read : WasClosedWithFaults trace path opening → (rule : IdentityRule) → MetNoFault trace rule path (Some opening) → ⊥
  never_read failed rule (reads, inl asked) =
      let same = ap faults_of (sym failed.closing ∙ asked.closed) in
      omega (arith, same, failed.some)
  never_read failed rule (reads, inr gone) = let wrong : Some (NotThere path) ≡ Some (Opened path failed.number failed.begun) = sym gone.not_there ∙ failed.opened in cc

asking_never_whole : (run : Run) (scan : Scan) → HasFailedAsking run scan → IsWhole run scan → ⊥
asking_never_whole run scan has whole =
    let was : WasAskedWell run scan has.asking = member_is (WasAskedWell run scan) scan.askings has.asking whole.none_faulty has.among in
    let well : MetNoFault run.trace was.rule.file_identity has.asking.path (Some has.opening) =
    subst (MetNoFault run.trace was.rule.file_identity has.asking.path) has.opening_is was.well in
    by_case has.failed was.rule.file_identity well
  where
    by_case : MetFault run.trace has.asking.path has.opening → (rule : IdentityRule) →
        MetNoFault run.trace rule has.asking.path (Some has.opening) → ⊥
    by_case (inl failed) rule well = never_opened run.trace has.asking.path has.opening failed rule well
    by_case (inr failed) rule well = never_read run.trace has.asking.path has.opening failed rule well

pub never_whole : (run : Run) (scan : Scan) → IsPartial run scan → IsWhole run scan → ⊥
never_whole run scan (inl has) whole = listing_never_whole run scan has whole
never_whole run scan (inr has) whole = asking_never_whole run scan has whole
