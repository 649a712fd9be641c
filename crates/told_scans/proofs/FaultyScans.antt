-- A scan of which a listing failed as it was told, or an asking, is partial in each run around it.
use Rattle.std.proofs.Common.{◌≢◌, inl, inr, ℕ, List, [], ◌∷◌, Contains, length, map, refl}
use Rattle.std.specs.Prelude.{flat_map}
use Rattle.kept_rows.specs.Run.{Run, Scan}
use Rattle.prospect.specs.PastFaults.{Answered, Attempt, Faulted, Served, StandSo, Trial, Unserved, faulted_by, unserved_by}
use Rattle.prospect.specs.declared.listed.Listed.{Listed}
use Rattle.ship_core.proofs.Members.{first_there, later_there}
use Rattle.told_scans.proofs.ScanAsked.{was_asked_in_vain}
use Rattle.told_scans.proofs.ScanList.{asking_for, at, listings_are}
use Rattle.told_scans.specs.Partial.{HasFailedAsking, HasFailedListing, IsPartial}
use Rattle.told_scans.specs.ToldScan.{IsAround, IsTold, IsToldWithFault, RunAround, ToldScan, event_tried, run_around, scan_by}

-- each attempt is in the list
stand_tried : (faults : ℕ) (attempts : List Attempt) → StandSo faults attempts (map event_tried attempts)
stand_tried faults [] = refl
stand_tried faults (Served listing ∷ attempts) = (map event_tried attempts, refl, stand_tried faults attempts)
stand_tried faults (Unserved glob ∷ attempts) = inl (map event_tried attempts, refl, stand_tried faults attempts)

-- the asking of some file failed
record HasFaulted (trials : List Trial) : Type 0 where
  one : Listed
  among : Contains trials (Faulted one)

some_faulted : (trials : List Trial) → flat_map faulted_by trials ≢ [] → HasFaulted trials
some_faulted [] some = absurd (some refl)
some_faulted (Answered asked ∷ trials) some =
    let its = some_faulted trials some in
    record { one = its.one; among = later_there (Answered asked) (Faulted its.one) trials its.among }
some_faulted (Faulted one ∷ trials) some = record { one = one; among = first_there (Faulted one) trials }

module _ (told : ToldScan) (has : IsTold told) (around : RunAround) (on : IsAround told around) where
  abbrev run : Run
  run = run_around told around

  abbrev scan : Scan
  scan = scan_by told

  failed_listing : flat_map unserved_by has.attempts ≢ [] → HasFailedListing run scan
  failed_listing some = record {
    attempts = has.attempts;
    for_each_glob = has.for_each_glob;
    faults = 0;
    events = map event_tried has.attempts;
    stand = stand_tried 0 has.attempts;
    place = length told.earlier.events;
    there = at told has around on;
    listings_are = listings_are told has around on;
    failed = some;
  }

  failed_asking : flat_map faulted_by has.trials ≢ [] → HasFailedAsking run scan
  failed_asking some =
      let of = some_faulted has.trials some in
      let its = asking_for told has around on (Faulted of.one) of.among in
      let vain = was_asked_in_vain told has around on its.asking its.among of.one its.is in
      record { asking = its.asking; among = its.among; opening = vain.opening; opening_is = vain.opening_is; failed = vain.failed }

pub is_partial : (told : ToldScan) → IsToldWithFault told → (around : RunAround) → IsAround told around → IsPartial (run_around told around) (scan_by told)
is_partial told faulty around on = elim faulty.some [
  | inl listing ↦ inl (failed_listing told faulty.is around on listing)
  | inr asking ↦ inr (failed_asking told faulty.is around on asking)
]
