-- A worker that is called unreachable failed as often in a row as it may, by what its wire and the clock told since before the run.
use Rattle.std.proofs.Common.{◌≡◌, inl, inr, ℕ, zero, suc, ◌+◌, ◌-◌, ◌^◌, ◌<◌, ◌≤◌, List, [], ◌∷◌, ◌++◌, append_assoc, drop, length, map, take, Option, Some, None, IfSome, IsSome, refl, sym, ap, subst, ◌∙◌, arith, length-append}
use Rattle.std.proofs.Math.Seq.{drop-append_seam}
use Rattle.std.specs.Prelude.{slice_get}
use Rattle.batch_worker.specs.Seen.{Seen, seen}
use Rattle.event_tree.specs.declared.settings.Settings.{Settings}
use Rattle.outside.specs.Counts.{next_count}
use Rattle.outside.specs.Times.{GivesMoment}
use Rattle.outside.specs.Wires.{Outcome}
use Rattle.rounds.specs.Making.{all_seen}
use Rattle.rounds.specs.Words.{WireWords}
use Rattle.run_steps.specs.AccountedFor.{AreMomentsSince, BeginWith}
use Rattle.run_steps.specs.CarriersFail.{FailedAsMet, HasFailedAt as FailsAt, count_told, counts_told}
use Rattle.run_steps.specs.ClockOn.{MomentsGoOn}
use Rattle.run_steps.specs.Questions.{count_given}
use Rattle.run_steps.specs.Worked.{IsMetByRun, Tolls}
use Rattle.run_steps.specs.declared.met.Met.{Met}
use Rattle.run_steps.specs.declared.met.Met.TheVariants as met
use Rattle.told_scans.proofs.Members.{some_is}
use Rattle.run_steps.proofs.Giving.{ends_at}
use Rattle.run_steps.proofs.Questions.{was_asked_for}
use Rattle.beat_run.specs.Cause.{HasFailedAt, HasFailedSince, Signs}
use Rattle.beat_run.proofs.Causes.{FailedIn}
use Rattle.accounts.proofs.Places.{got_mapped}

item_mapped : {A B : Type 0} (f : A → B) (xs : List A) (k : ℕ) (y : B) → slice_get (map f xs) k ≡ Some y → (x : A) × (slice_get xs k ≡ Some x) × (f x ≡ y)
item_mapped f [] k y is = absurd cc
item_mapped f (x ∷ xs) zero y is = (x, refl, let same : Some (f x) ≡ Some y = is in cc)
item_mapped f (x ∷ xs) (suc k) y is = item_mapped f xs k y is

take_got : {A : Type 0} (count : ℕ) (xs : List A) (k : ℕ) (x : A) → k < count → slice_get xs k ≡ Some x → slice_get (take count xs) k ≡ Some x
take_got zero xs k x within is = absurd (omega (arith, within))
take_got (suc count) [] k x within is = absurd cc
take_got (suc count) (y ∷ xs) zero x within is = is
take_got (suc count) (y ∷ xs) (suc k) x within is = take_got count xs k x (omega (arith, within)) is

-- ---- the moments that the clock gave the run

module _ (moment : ℕ) (later : Option (List ℕ)) where
  -- they are those from this place of its list on, and begin with this one
  record RunMoments (first after : Option (List ℕ)) : Type 0 where
    all : List ℕ
    are : after ≡ Some all
    earlier : ℕ
    within : IfSome later (λ moments. earlier < length moments)
    begin : BeginWith moment (drop earlier all)
    since : AreMomentsSince first after (drop earlier all)

  -- those behind so many are known
  dropped : (all front more : List ℕ) → all ≡ front ++ moment ∷ more → drop (length front) all ≡ moment ∷ more
  dropped all front more are = ap (drop (length front)) are ∙ drop-append_seam front (moment ∷ more)

  run_moments : (first after : Option (List ℕ)) → GivesMoment first moment later → MomentsGoOn later after → IsSome first → IsSome after → RunMoments first after
  run_moments None after gives on told tells = absurd cc
  run_moments (Some first) None gives on told tells = absurd cc
  run_moments (Some first) (Some all) (inl same) on told tells =
      let front = ends_at first moment same.0 in
      let more = subst (λ (o : Option (List ℕ)). MomentsGoOn o (Some all)) same.1 on in
      let all_is = some_is all (first ++ more.0) more.1 in
      let parted = all_is ∙ ap (λ (l : List ℕ). l ++ more.0) front.are ∙ append_assoc front.earlier (moment ∷ []) more.0 in
      let long = ap length front.are ∙ length-append front.earlier (moment ∷ []) in
      record {
        all = all;
        are = refl;
        earlier = length front.earlier;
        within = subst (λ (o : Option (List ℕ)). IfSome o (λ moments. length front.earlier < length moments)) (sym same.1) (omega (arith, long));
        begin = record { later = more.0; are = dropped all front.earlier more.0 parted };
        since = inr (record { first = moment; later = more.0; moments_are = dropped all front.earlier more.0 parted; first_is = inl (same.0, all_is) });
      }
  run_moments (Some first) (Some all) (inr grows) on told tells =
      let more = subst (λ (o : Option (List ℕ)). MomentsGoOn o (Some all)) grows.1 on in
      let parted = some_is all ((first ++ moment ∷ []) ++ more.0) more.1 ∙ append_assoc first (moment ∷ []) more.0 in
      let long = length-append first (moment ∷ []) in
      record {
        all = all;
        are = refl;
        earlier = length first;
        within = subst (λ (o : Option (List ℕ)). IfSome o (λ moments. length first < length moments)) (sym grows.1) (omega (arith, long));
        begin = record { later = more.0; are = dropped all first more.0 parted };
        since = inr (record { first = moment; later = more.0; moments_are = dropped all first more.0 parted; first_is = inr (grows.0, parted) });
      }

-- ---- the wires

module _ {W : Type 0} (wires : WireWords W) (settings : Settings) (old new : List W) where
  abbrev its_seen : W → Seen
  its_seen wire = seen (wires.outcomes wire) (wires.open_links wire) (wires.faults wire) (wires.idles wire)

  module _ (earlier : ℕ) (moments : List ℕ) (place : ℕ) (within : place < settings.output.workers)
      (fails : FailsAt wires settings.output.attempts settings.output.timeout earlier (counts_told wires settings.output.workers old) (Some moments) new place) where
    by_wires : (before after : W) → slice_get old place ≡ Some before → slice_get new place ≡ Some after → (told : Option (List Outcome)) → wires.outcomes before ≡ told →
        IfSome told (λ list. HasFailedSince settings (drop earlier moments) list (its_seen after))
    by_wires before after before_is after_is None told_is = tt
    by_wires before after before_is after_is (Some list) told_is =
        let start : slice_get (counts_told wires settings.output.workers old) place ≡ Some (Some (length list)) =
        got_mapped (λ (w : W). count_told (wires.outcomes w)) (take settings.output.workers old) place before (take_got settings.output.workers old place before within before_is)
        ∙ ap (λ (o : Option (List Outcome)). Some (count_told o)) told_is in
        let failed = fails (Some (length list)) after start after_is in
        record { all = failed.all; tells = failed.tells; failures = failed.failures }

    pub failed_since : (before after : Seen) → slice_get (all_seen wires old) place ≡ Some before → slice_get (all_seen wires new) place ≡ Some after →
        IfSome before.outcomes (λ list. HasFailedSince settings (drop earlier moments) list after)
    failed_since before after before_is after_is =
        let one = item_mapped its_seen old place before before_is in
        let other = item_mapped its_seen new place after after_is in
        subst (λ (s : Seen). IfSome s.outcomes (λ list. HasFailedSince settings (drop earlier moments) list after)) one.2
        (subst (λ (s : Seen). IfSome (wires.outcomes one.0) (λ list. HasFailedSince settings (drop earlier moments) list s)) other.2
        (by_wires one.0 other.0 one.1 other.1 (wires.outcomes one.0) refl))

  -- of the run
  module _ (before now : Signs) (before_wires : before.wires ≡ all_seen wires old) (now_wires : now.wires ≡ all_seen wires new) (moment : ℕ) (later : Option (List ℕ))
      (gives : GivesMoment before.moments moment later) (on : MomentsGoOn later now.moments) (mid : ℕ) (once : mid ≡ next_count before.questions.clock) (no_less : mid ≤ now.questions.clock)
      (asks : now.questions.clock < 2 ^ 64 - 1 → count_given now.moments + mid ≤ now.questions.clock + count_given later) where
    by_moments : (place : ℕ) → place < settings.output.workers →
        ((earlier : ℕ) → IfSome later (λ moments. earlier < length moments) → FailsAt wires settings.output.attempts settings.output.timeout earlier (counts_told wires settings.output.workers old) now.moments new place) →
        HasFailedAt settings place before now
    by_moments place within fails told tells =
        let of = run_moments moment later before.moments now.moments gives on told tells in
        record {
          moments = drop of.earlier of.all;
          given = record {
            since = of.since;
            asked = was_asked_for before.questions.clock mid now.questions.clock once no_less before.moments later now.moments moment (drop of.earlier of.all) gives of.begin of.since asks;
          };
          failed = λ one other one_is other_is.
              failed_since of.earlier of.all place within
              (subst (λ (o : Option (List ℕ)). FailsAt wires settings.output.attempts settings.output.timeout of.earlier (counts_told wires settings.output.workers old) o new place) of.are (fails of.earlier of.within)) one other
              (ap (λ (l : List Seen). slice_get l place) (sym before_wires) ∙ one_is) (ap (λ (l : List Seen). slice_get l place) (sym now_wires) ∙ other_is);
        }

    pub failed_by : (files : ℕ) (counts later_counts : Tolls) (what : Met) → IsMetByRun settings.output.workers files counts later_counts what →
        ((earlier : ℕ) → IfSome later (λ moments. earlier < length moments) → FailedAsMet wires settings.output.attempts settings.output.timeout earlier (counts_told wires settings.output.workers old) now.moments new what) →
        FailedIn settings before now what
    failed_by files counts later_counts met.Done by fails = tt
    failed_by files counts later_counts met.Stopped by fails = tt
    failed_by files counts later_counts met.NoMemory by fails = tt
    failed_by files counts later_counts met.DiskFault by fails = tt
    failed_by files counts later_counts met.FolderFault by fails = tt
    failed_by files counts later_counts (met.Unreachable worker) by fails = by_moments worker by fails
    failed_by files counts later_counts (met.Epochs slot) by fails = tt
    failed_by files counts later_counts (met.NoNative slot) by fails = tt
