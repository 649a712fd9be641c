-- A step that stores, before the first round.
use Rattle.std.proofs.Common.{◌≡◌, ℕ, Bool, true, false, IfNone, IfSome, List, [], ◌∷◌, Option, None, Some, refl, ap, arith}
use Rattle.outside.specs.Folders.{FolderHistory}
use Rattle.rounds.specs.CarrierTurns.{seen_of}
use Rattle.rounds.specs.Crewed.{lanings}
use Rattle.rounds.specs.Crewing.{crewing}
use Rattle.rounds.specs.Pairs.{Pairs}
use Rattle.rounds.specs.Words.{WireWords}
use Rattle.rounds.specs.declared.carrier.Carrier.{Carrier}
use Rattle.rounds.specs.declared.crew.Crew.{Crew}
use Rattle.rounds.specs.declared.storing.Storing.{Storing}
use Rattle.run_steps.specs.CarriersFail.{KeepsLink, LinksStay}
use Rattle.run_steps.specs.CarriersGoOn.{CarrierGoesOn, CarriersGoOn}
use Rattle.run_steps.specs.Goes.{Goes, StepWords, stop_at}
use Rattle.run_steps.specs.LastSteps.{StoresAll, written_by}
use Rattle.run_steps.specs.Met.{IsTelling}
use Rattle.run_steps.specs.MetBy.{IsEndedBy, IsEndedRound, phase_after, phase_met, phase_reading}
use Rattle.run_steps.specs.MetIn.{NoneFailed}
use Rattle.run_steps.specs.Onward.{Onward, rules_of}
use Rattle.run_steps.specs.RunState.{Leaving, Reading, within}
use Rattle.run_steps.specs.Settling.{IsMetByStoring}
use Rattle.run_steps.specs.declared.context.Context.{Context}
use Rattle.run_steps.specs.declared.context.System.{System}
use Rattle.run_steps.specs.declared.met.Met.{Met}
use Rattle.run_steps.specs.declared.met.Met.TheVariants.{DiskFault, Done, Epochs, FolderFault, NoMemory, NoNative, Stopped, Unreachable}
use Rattle.run_steps.proofs.CarriersGoOn.{goes_unseen}
use Rattle.run_steps.proofs.Clocks.{clock_stays}
use Rattle.run_steps.proofs.ReadersGo.{readers_stay}
use Rattle.run_steps.proofs.TailsLeft.{leaving_onward, onward_then}

-- no wire was touched
links_go_on : {W L : Type 0} (wires : WireWords W) (xs ys : List (Carrier W L)) → Pairs KeepsLink xs ys → Pairs (CarrierGoesOn wires) xs ys
links_go_on wires [] [] stay = tt
links_go_on wires [] (y ∷ ys) stay = absurd stay
links_go_on wires (x ∷ xs) [] stay = absurd stay
links_go_on wires (x ∷ xs) (y ∷ ys) stay = (
  goes_unseen (seen_of wires x.wire) (seen_of wires y.wire) x.worker.link y.worker.link (ap (seen_of wires) stay.0.wire) stay.0.linked,
  links_go_on wires xs ys stay.1,
)

pub carriers_by_links : {W L : Type 0} (wires : WireWords W) (xs ys : List (Carrier W L)) → LinksStay xs ys → CarriersGoOn wires xs ys
unfolding LinksStay CarriersGoOn
carriers_by_links wires xs ys stay = links_go_on wires xs ys stay

module _ {T W L D F K B : Type 0} (words : StepWords T W L D F K B) (context : Context) (system : System F K B) (old new : Crew T W L) (before after : Storing D) where
  abbrev moments : Option (List ℕ)
  moments = words.moments system.clock.now

  abbrev shown : Option FolderHistory
  shown = (words.seen system.folder.now).told

  module _ (met : Option Met) (stores : StoresAll words.all context met (crewing old before) (crewing new after)) where
    leaves : Onward words.all (rules_of context) (within shown moments old before Reading) (within shown moments new after Leaving)
    leaves = onward_then words.all (rules_of context) (within shown moments old before Reading) (within shown moments new after Reading) (within shown moments new after Leaving)
        (stores.hands_on.onward shown moments Reading) (leaving_onward words.all shown moments new after Reading)

    stored_onward : (faulty : Bool) (ended : Option Met) → IfSome ended (IsMetByStoring words.all.disks (written_by (crewing old before) (crewing new after))) →
        Onward words.all (rules_of context) (within shown moments old before (phase_reading faulty)) (within shown moments new after (phase_after faulty ended))
    stored_onward false None by = stores.hands_on.onward shown moments Reading
    stored_onward true ended by = stores.hands_on.onward shown moments Leaving
    stored_onward false (Some NoMemory) by = leaves
    stored_onward false (Some DiskFault) by = leaves
    stored_onward false (Some Done) by = absurd by
    stored_onward false (Some Stopped) by = absurd by
    stored_onward false (Some FolderFault) by = absurd by
    stored_onward false (Some (Unreachable worker)) by = absurd by
    stored_onward false (Some (Epochs slot)) by = absurd by
    stored_onward false (Some (NoNative slot)) by = absurd by

    -- lanes and workers rest meanwhile, and nothing is asked of the system
    goes_by_storing : (faulty : Bool) → Goes words context met (stop_at (phase_reading faulty) old before system) (stop_at (phase_after faulty met) new after system)
    goes_by_storing faulty = record {
      keeps = record {
        at_rest = stores.hands_on.at_rest;
        ready = stores.hands_on.ready;
        able = stores.hands_on.able;
        failing = stores.hands_on.failing moments;
        none_failed = if_none met;
        carriers_go_on = carriers_by_links words.all.wires old.carriers.items new.carriers.items stores.hands_on.links_stay;
        as_many = stores.hands_on.as_many;
        a_faults_never_fall = stores.hands_on.a_faults_never_fall;
        b_faults_never_fall = stores.hands_on.b_faults_never_fall;
        rings_never_fall = omega arith;
        clock_goes_on = clock_stays moments;
        keeper = stores.hands_on.collects;
        same_objects = stores.hands_on.same_objects;
        still_tell = stores.hands_on.still_tell;
        readers = readers_stay words.all.tails (words.seen system.folder.now) (lanings old.lanes.items) (lanings new.lanes.items) stores.hands_on.slots
            stores.hands_on.faults_stay;
        same_folder = refl;
        same_clock = refl;
        same_bell = refl;
      };
      onward = stored_onward faulty met stores.by;
    } where
      if_none : (ended : Option Met) → IfNone ended (NoneFailed context.settings.now.output.attempts old.carriers.items → NoneFailed context.settings.now.output.attempts new.carriers.items)
      if_none None = stores.hands_on.none_failed
      if_none (Some ended) = tt

  -- the rounds follow
  pub goes_stored : (faulty : Bool) → StoresAll words.all context None (crewing old before) (crewing new after) →
      Goes words context None (stop_at (phase_reading faulty) old before system) (stop_at (phase_reading faulty) new after system)
  goes_stored false stores = goes_by_storing None stores false
  goes_stored true stores = goes_by_storing None stores true

  -- or it met this
  pub goes_met : (faulty : Bool) (met : Met) → StoresAll words.all context (Some met) (crewing old before) (crewing new after) →
      Goes words context (Some met) (stop_at (phase_reading faulty) old before system) (stop_at (phase_met met) new after system)
  goes_met false met stores = goes_by_storing (Some met) stores false
  goes_met true NoMemory stores = goes_by_storing (Some NoMemory) stores true
  goes_met true DiskFault stores = goes_by_storing (Some DiskFault) stores true
  goes_met true Done stores = absurd stores.by
  goes_met true Stopped stores = absurd stores.by
  goes_met true FolderFault stores = absurd stores.by
  goes_met true (Unreachable worker) stores = absurd stores.by
  goes_met true (Epochs slot) stores = absurd stores.by
  goes_met true (NoNative slot) stores = absurd stores.by

  -- what it met ends the run
  pub met_by_storing : (met : Met) (faulty : Bool) (faults later_faults : ℕ) → IsMetByStoring words.all.disks (written_by (crewing old before) (crewing new after)) met →
      IsEndedBy words.all.tails words.all.disks context.settings.now.output.attempts faulty
      (record { a = before.a.now; b = before.b.now; faults = faults; later_faults = later_faults; now = crewing new after }) met
  met_by_storing NoMemory faulty faults later_faults by = tt
  met_by_storing DiskFault faulty faults later_faults by = by
  met_by_storing Done faulty faults later_faults by = absurd by
  met_by_storing Stopped faulty faults later_faults by = absurd by
  met_by_storing FolderFault faulty faults later_faults by = absurd by
  met_by_storing (Unreachable worker) faulty faults later_faults by = absurd by
  met_by_storing (Epochs slot) faulty faults later_faults by = absurd by
  met_by_storing (NoNative slot) faulty faults later_faults by = absurd by

  -- in place of a round
  pub round_by_storing : (met : Met) (faults later_faults : ℕ) → IsMetByStoring words.all.disks (written_by (crewing old before) (crewing new after)) met →
      IsEndedRound words.all.tails words.all.disks context.settings.now.output.attempts
      (record { a = before.a.now; b = before.b.now; faults = faults; later_faults = later_faults; now = crewing new after }) met
  round_by_storing NoMemory faults later_faults by = record { by = NoMemory; no_fault = λ is. cc; faulty = false; met_is = refl; lanes = new.lanes; is = tt }
  round_by_storing DiskFault faults later_faults by = record { by = DiskFault; no_fault = λ is. cc; faulty = false; met_is = refl; lanes = new.lanes; is = by }
  round_by_storing Done faults later_faults by = absurd by
  round_by_storing Stopped faults later_faults by = absurd by
  round_by_storing FolderFault faults later_faults by = absurd by
  round_by_storing (Unreachable worker) faults later_faults by = absurd by
  round_by_storing (Epochs slot) faults later_faults by = absurd by
  round_by_storing (NoNative slot) faults later_faults by = absurd by

  -- and tells no report
  pub none_told : (met : Met) → IsMetByStoring words.all.disks (written_by (crewing old before) (crewing new after)) met → ¬ (IsTelling met)
  none_told NoMemory by telling = telling
  none_told DiskFault by telling = telling
  none_told Done by telling = absurd by
  none_told Stopped by telling = absurd by
  none_told FolderFault by telling = absurd by
  none_told (Unreachable worker) by telling = absurd by
  none_told (Epochs slot) by telling = absurd by
  none_told (NoNative slot) by telling = absurd by

  pub not_stopped : (met : Met) → IsMetByStoring words.all.disks (written_by (crewing old before) (crewing new after)) met → met ≡ Stopped → ⊥
  not_stopped NoMemory by is = let no : NoMemory ≡ Stopped = is in cc
  not_stopped DiskFault by is = let no : DiskFault ≡ Stopped = is in cc
  not_stopped Done by is = absurd by
  not_stopped Stopped by is = absurd by
  not_stopped FolderFault by is = absurd by
  not_stopped (Unreachable worker) by is = absurd by
  not_stopped (Epochs slot) by is = absurd by
  not_stopped (NoNative slot) by is = absurd by
