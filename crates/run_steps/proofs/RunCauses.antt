-- Why a run met what ended it: its beginning did, or what came behind it.
use Rattle.std.proofs.Common.{◌≡◌, ◌⊎◌, inl, inr, ℕ, ◌≤◌, ◌<◌, List, [], ◌∷◌, length, true, Result, Ok, Err, IfErr, IfOk, sym, ap, subst, arith}
use Rattle.std.specs.List.{AllByRecursion}
use Rattle.lanes.specs.Laning.{Laning}
use Rattle.outside.specs.Counts.{Rose}
use Rattle.rounds.specs.Crewed.{lanings}
use Rattle.rounds.specs.Making.{IsBegunLane}
use Rattle.rounds.specs.declared.crew.Crew.{Crew}
use Rattle.run_steps.specs.BeginErrors.{met_of}
use Rattle.run_steps.specs.Beginning.{Beginning}
use Rattle.run_steps.specs.BeginsAll.{AreSlotsBelow, EndsBeginning, IsSlotBelow}
use Rattle.run_steps.specs.Worked.{IsBegunWith, IsMetByRun, IsWorkedBy, Tolls}
use Rattle.run_steps.specs.declared.begin_error.BeginError.{BeginError}
use Rattle.run_steps.specs.declared.begin_error.BeginError.TheVariants as begin
use Rattle.run_steps.specs.declared.beginning.BegunFiles.{BegunFiles}
use Rattle.run_steps.specs.declared.met.Met.{Met}
use Rattle.run_steps.specs.declared.met.Met.TheVariants.{Done, Stopped, NoMemory, DiskFault, FolderFault, Unreachable, Epochs, NoNative}
use Rattle.run_steps.proofs.OfInputs.{slot_below}
use Rattle.run_steps.proofs.MetBy.{rose_since}

pub no_slots : {T : Type 0} (count : ℕ) (lanes : List (Laning T)) → AllByRecursion IsBegunLane lanes → AreSlotsBelow count lanes
no_slots count [] begun = tt
no_slots {T} count (lane ∷ lanes) begun = (subst (AllByRecursion (IsSlotBelow count)) (sym (ap (λ (l : Laning T). l.harvesters) begun.0.is)) tt, no_slots count lanes begun.1)

pub rose_still : (x y z : ℕ) → Rose x y → y ≤ z → Rose x z
rose_still x y z (inl rose) more = inl (omega (arith, rose, more))
rose_still x y z (inr at_end) more = inr (omega (arith, at_end, more))

module _ {T W L : Type 0} (workers files : ℕ) (crew : Crew T W L) (a_faults b_faults rings : ℕ) (old new : Beginning T W L) (after : Tolls) where
  -- as the run set out, and once its files were begun
  abbrev set_out : Tolls
  set_out = record { a_faults = a_faults; b_faults = b_faults; folder_faults = old.folder.faults; rings = rings }

  abbrev begun_by : Tolls
  begun_by = record { a_faults = a_faults; b_faults = b_faults; folder_faults = new.folder.faults; rings = rings }

  by_beginning : (error : BeginError) → EndsBeginning files error old new → new.folder.faults ≤ after.folder_faults → IsMetByRun workers files set_out after (met_of error)
  by_beginning begin.NoMemory ends more = tt
  by_beginning begin.FolderFault ends more = rose_still old.folder.faults new.folder.faults after.folder_faults ends more
  by_beginning (begin.NoNative slot) ends more = ends

  module _ (never_fall : old.folder.faults ≤ new.folder.faults) (many : length crew.carriers.items ≡ workers) (below : AreSlotsBelow files (lanings crew.lanes.items)) where
    by_working : (met : Met) → IsWorkedBy crew begun_by after met → IsMetByRun workers files set_out after met
    by_working Done by = tt
    by_working Stopped by = by
    by_working NoMemory by = tt
    by_working DiskFault by = by
    by_working FolderFault by = rose_since old.folder.faults new.folder.faults after.folder_faults never_fall by
    by_working (Unreachable worker) by = subst (λ (n : ℕ). worker < n) many by
    by_working (Epochs slot) by = slot_below slot files (lanings crew.lanes.items) below by
    by_working (NoNative slot) by = absurd by

    pub met_by_run : (begun : Result BegunFiles BeginError) (met : Met) → IfErr begun (λ error. EndsBeginning files error old new) →
        IfOk begun (λ all. all.faulty ≡ true → Rose old.folder.faults new.folder.faults) → new.folder.faults ≤ after.folder_faults →
        IsBegunWith begun met ⊎ IsWorkedBy crew begun_by after met → IsMetByRun workers files set_out after met
    met_by_run (Ok all) met ends rose more (inl is) = subst (IsMetByRun workers files set_out after) (sym is.1) (rose_still old.folder.faults new.folder.faults after.folder_faults (rose is.0) more)
    met_by_run (Err error) met ends rose more (inl is) = subst (IsMetByRun workers files set_out after) (sym is) (by_beginning error ends more)
    met_by_run begun met ends rose more (inr by) = by_working met by
