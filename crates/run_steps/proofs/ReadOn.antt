-- A round behind which files that failed are closed: the run goes on without them, or has met a fault.
use Rattle.std.proofs.Common.{◌≡◌, ◌≢◌, ◌⊎◌, inl, inr, ⊎_elim, ℕ, ◌||◌, ◌≤◌, Bool, true, false, List, [], ◌∷◌, IfErr, IfNone, IfOk, IfSome, Option, None, Some, Vec, refl, sym, ap, subst, ◌∙◌}
use Rattle.std.proofs.lemmas.Bool.{or_parts}
use Rattle.std.specs.Borrow.{MutBor}
use Rattle.std.specs.Option.{is_some}
use Rattle.std.specs.declared.alloc.Global.{Global}
use Rattle.lanes.specs.Laning.{Laning}
use Rattle.lanes.specs.declared.lane.Lane.{Lane}
use Rattle.rounds.specs.Crewed.{lanings}
use Rattle.rounds.specs.Crewing.{crewing}
use Rattle.rounds.specs.Pairs.{SomeOf}
use Rattle.rounds.specs.Words.{TailWords, Words}
use Rattle.rounds.specs.declared.crew.Crew.{Crew}
use Rattle.rounds.specs.declared.storing.Storing.{Storing}
use Rattle.run_steps.specs.ClosesTail.{ClosesFailed, HasFailedFile, Readers, ReadersGo, some_failed}
use Rattle.run_steps.specs.Goes.{Goes, StepWords, Stop, stop_at}
use Rattle.run_steps.specs.Looking.{LooksInRound}
use Rattle.run_steps.specs.Met.{IsTelling}
use Rattle.run_steps.specs.MetBy.{HasFaults, HasMetFault, IsEndedBy, IsEndedRound, IsMetBy, Since, SomeHarvester, phase_after, phase_met, phase_reading}
use Rattle.run_steps.specs.MetIn.{met_behind, read_by}
use Rattle.run_steps.specs.RunState.{Leaving, Phase, Reading}
use Rattle.run_steps.specs.declared.context.Context.{Context}
use Rattle.run_steps.specs.declared.context.System.{System}
use Rattle.run_steps.specs.declared.met.Met.{Met}
use Rattle.run_steps.specs.declared.met.Met.TheVariants.{DiskFault, Done, Epochs, FolderFault, NoMemory, NoNative, Stopped, Unreachable}
use Rattle.run_steps.proofs.GoesOn.{goes_as, goes_by_asking, goes_by_two, goes_then_closes, goes_then_stays}
use Rattle.run_steps.proofs.MetBy.{ended_behind, ended_round, goes_on_behind, leaves_by_fault}
use Rattle.run_steps.proofs.ReadersGo.{readers_go_by_some}

pub if_some : {A : Type 0} (P : A → Type 0) (o : Option A) → IfSome o P → (x : A) → o ≡ Some x → P x
if_some P None some x is = absurd (let no : None ≡ Some x = is in cc)
if_some P (Some y) some x is = let same : y ≡ x = cc in subst P same some

-- one of the lanes names a failed file
pub names_failed : {T : Type 0} (lanes : List (Laning T)) → some_failed lanes ≡ true → SomeOf HasFailedFile lanes
names_failed [] is = absurd (let no : false ≡ true = is in cc)
names_failed (lane ∷ lanes) is = by_case (is_some lane.tally.failed) refl is (names_failed lanes)
  where
    by_case : (b : Bool) → is_some lane.tally.failed ≡ b → (b || some_failed lanes) ≡ true → (some_failed lanes ≡ true → SomeOf HasFailedFile lanes) → SomeOf HasFailedFile (lane ∷ lanes)
    by_case true here is later = inl here
    by_case false here is later = inr (later is)

-- a run in which some file met a fault tells no report
untold_behind : (met : Met) → ¬ (IsTelling (met_behind true met))
untold_behind Done telling = telling
untold_behind Stopped telling = telling
untold_behind NoMemory telling = telling
untold_behind DiskFault telling = telling
untold_behind FolderFault telling = telling
untold_behind (Unreachable worker) telling = telling
untold_behind (Epochs slot) telling = telling
untold_behind (NoNative slot) telling = telling

pub told_behind : (faulty : Bool) (met : Met) → IsTelling (met_behind faulty met) → faulty ≡ false
told_behind false met telling = refl
told_behind true met telling = absurd (untold_behind met telling)

pub read_untold : (faulty failed : Bool) (met : Option Met) → IfErr (read_by (faulty || failed) met) (λ by. IsTelling by → faulty ≡ false)
read_untold faulty failed None = tt
read_untold faulty failed (Some met) = λ telling. (or_parts faulty failed (told_behind (faulty || failed) met telling)).0

-- none did before, if none did by now
pub none_before : (before now : Bool) → (before ≡ true → now ≡ true) → now ≡ false → before ≡ false
none_before false now stays none = refl
none_before true now stays none = let q : true ≡ false = sym (stays refl) ∙ none in cc

module _ {T W L D F K B : Type 0} (words : StepWords T W L D F K B) (context : Context) (faulty failed : Bool) (old crew : Crew T W L) (before storing : Storing D) (first system : System F K B)
    (folder : MutBor F) (lanes : Vec (Lane T) Global) (same : folder.ghost_name ≡ system.folder.ghost_name) where
  abbrev start : Stop T W L D F K B
  start = stop_at (phase_reading faulty) old before first

  abbrev at_end : Phase → Stop T W L D F K B
  at_end phase = stop_at phase (record crew { lanes = lanes }) storing (record system { folder = folder })

  module _ (closes : ClosesFailed words.all.tails failed (record { folder = words.seen system.folder.now; lanes = lanings crew.lanes.items }) (record { folder = words.seen folder.now; lanes = lanings lanes.items })) where
    -- it goes on
    goes_none : (now late : Bool) → failed ≡ late → Goes words context None start (stop_at (phase_after (now || late) None) crew storing system) →
        Goes words context None start (at_end (phase_reading (now || late)))
    goes_none true late fails goes = goes_then_closes closes.closes.closed folder lanes goes closes.closes.each same
    goes_none false true fails goes = goes_then_closes closes.closes.closed folder lanes goes closes.closes.each same
    goes_none false false fails goes = goes_then_stays closes.closes.closed folder lanes goes closes.closes.each same (closes.none fails)

    -- it has met this
    goes_some : (now late : Bool) (met : Met) → failed ≡ late → Goes words context (Some met) start (stop_at (phase_after (now || late) (Some met)) crew storing system) →
        Goes words context (Some (met_behind (now || late) met)) start (at_end (phase_met (met_behind (now || late) met)))
    goes_some true late met fails goes = subst (λ (p : Phase). Goes words context (Some (met_behind true met)) start (at_end p)) (sym (leaves_by_fault met))
        (goes_as (met_behind true met) (goes_on_behind true met) (goes_then_closes closes.closes.closed folder lanes goes closes.closes.each same))
    goes_some false true met fails goes = subst (λ (p : Phase). Goes words context (Some (met_behind true met)) start (at_end p)) (sym (leaves_by_fault met))
        (goes_as (met_behind true met) (goes_on_behind true met) (goes_then_closes closes.closes.closed folder lanes goes closes.closes.each same))
    goes_some false false met fails goes = goes_then_stays closes.closes.closed folder lanes goes closes.closes.each same (closes.none fails)

    module _ (met : Option Met) (goes : (now : Bool) → Goes words context met (stop_at (phase_reading now) old before first) (stop_at (phase_after (now || some_failed (lanings crew.lanes.items)) met) crew storing system)) where
      goes_so : Goes words context met start (stop_at (phase_after (faulty || failed) met) crew storing system)
      goes_so = subst (λ (late : Bool). Goes words context met start (stop_at (phase_after (faulty || late) met) crew storing system)) (sym closes.failed_is) (goes faulty)

      pub goes_on_so : IfOk (read_by (faulty || failed) met) (λ now. Goes words context None start (at_end (phase_reading now)))
      goes_on_so = by_case met goes_so
        where
          by_case : (o : Option Met) → Goes words context o start (stop_at (phase_after (faulty || failed) o) crew storing system) → IfOk (read_by (faulty || failed) o) (λ now. Goes words context None start (at_end (phase_reading now)))
          by_case None is = goes_none faulty failed refl is
          by_case (Some met) is = tt

      pub ends_so : IfErr (read_by (faulty || failed) met) (λ by. Goes words context (Some by) start (at_end (phase_met by)))
      ends_so = by_case met goes_so
        where
          by_case : (o : Option Met) → Goes words context o start (stop_at (phase_after (faulty || failed) o) crew storing system) → IfErr (read_by (faulty || failed) o) (λ by. Goes words context (Some by) start (at_end (phase_met by)))
          by_case None is = tt
          by_case (Some met) is = goes_some faulty failed met refl is

    -- where none failed, the lanes are as the round left them
    pub looks_so : (met : Option Met) → IfNone met (some_failed (lanings crew.lanes.items) ≡ false → LooksInRound words.all.tails (lanings old.lanes.items) (lanings crew.lanes.items)) →
        IfOk (read_by (faulty || failed) met) (λ now. now ≡ false → LooksInRound words.all.tails (lanings old.lanes.items) (lanings lanes.items))
    looks_so (Some met) looks = tt
    looks_so None looks = λ none.
        let late = (or_parts faulty failed none).1 in
        subst (LooksInRound words.all.tails (lanings old.lanes.items)) (sym (ap (λ (r : Readers T). r.lanes) (closes.none late))) (looks (sym closes.failed_is ∙ late))

    -- a fault that was found is counted
    module _ (shows : SomeOf HasFailedFile (lanings crew.lanes.items) → SomeHarvester (HasFaults words.all.tails) (lanings crew.lanes.items)) (since : ℕ)
        (le : since ≤ (words.seen system.folder.now).faults) where
      pub met_fault : failed ≡ true → HasMetFault words.all.tails since (words.seen folder.now).faults (lanings lanes.items)
      met_fault is =
          let before : Readers T = record { folder = words.seen system.folder.now; lanes = lanings crew.lanes.items } in
          let after : Readers T = record { folder = words.seen folder.now; lanes = lanings lanes.items } in
          (readers_go_by_some words.all.tails closes.closes.closed before after closes.closes.each).fault_stays since le (inr (shows (names_failed (lanings crew.lanes.items) (sym closes.failed_is ∙ is))))

      pub found_so : (met : Option Met) → IfOk (read_by (faulty || failed) met) (λ now. (faulty ≡ true → now ≡ true) ×
          (now ≡ true → (faulty ≡ true) ⊎ HasMetFault words.all.tails since (words.seen folder.now).faults (lanings lanes.items)))
      found_so (Some met) = tt
      found_so None = by_case faulty failed met_fault
        where
          by_case : (now late : Bool) → (late ≡ true → HasMetFault words.all.tails since (words.seen folder.now).faults (lanings lanes.items)) → (now ≡ true → (now || late) ≡ true) ×
              ((now || late) ≡ true → (now ≡ true) ⊎ HasMetFault words.all.tails since (words.seen folder.now).faults (lanings lanes.items))
          by_case true late met = (λ is. refl, λ is. inl refl)
          by_case false late met = (λ is. absurd (let no : false ≡ true = is in cc), λ is. inr (met is))

      pub met_so : (attempts : ℕ) (a b : D) (met : Option Met) → (met ≡ Some FolderFault → ⊥) →
          ((one : Met) → met ≡ Some one → IsMetBy words.all.tails words.all.disks attempts
          (record { a = a; b = b; faults = since; later_faults = (words.seen system.folder.now).faults; now = crewing crew storing }) one) →
          IfErr (read_by (faulty || failed) met) (IsEndedBy words.all.tails words.all.disks attempts faulty
          (record { a = a; b = b; faults = since; later_faults = (words.seen folder.now).faults; now = crewing (record crew { lanes = lanes }) storing }))
      met_so attempts a b None other is = tt
      met_so attempts a b (Some met) other is =
          ended_behind words.all attempts a b since (words.seen system.folder.now).faults (words.seen folder.now).faults (crewing crew storing) lanes faulty failed met met_fault
          (λ none. ap (λ (r : Readers T). r.lanes) (closes.none none)) (λ (e : met ≡ FolderFault). other (ap (λ (m : Met). Some m) e)) (is met refl)

      pub round_so : (attempts : ℕ) (a b : D) (met : Option Met) → (met ≡ Some FolderFault → ⊥) →
          ((one : Met) → met ≡ Some one → IsMetBy words.all.tails words.all.disks attempts
          (record { a = a; b = b; faults = since; later_faults = (words.seen system.folder.now).faults; now = crewing crew storing }) one) →
          IfErr (read_by (faulty || failed) met) (IsEndedRound words.all.tails words.all.disks attempts
          (record { a = a; b = b; faults = since; later_faults = (words.seen folder.now).faults; now = crewing (record crew { lanes = lanes }) storing }))
      round_so attempts a b None other is = tt
      round_so attempts a b (Some met) other is =
          ended_round words.all attempts a b since (words.seen system.folder.now).faults (words.seen folder.now).faults (crewing crew storing) lanes (faulty || failed) met
          (λ (e : met ≡ FolderFault). other (ap (λ (m : Met). Some m) e)) (is met refl)

-- the bell rang
module _ {T W L D F K B : Type 0} (words : StepWords T W L D F K B) (context : Context) where
  pub goes_asked : (first : Stop T W L D F K B) (faulty : Bool) (crew : Crew T W L) (storing : Storing D) (system : System F K B) (bell : MutBor B) →
      Goes words context None first (stop_at (phase_reading faulty) crew storing system) → words.rings system.bell.now ≤ words.rings bell.now → bell.ghost_name ≡ system.bell.ghost_name →
      Goes words context (Some (met_behind faulty Stopped)) first (stop_at (phase_met (met_behind faulty Stopped)) crew storing (record system { bell = bell }))
  goes_asked first false crew storing system bell goes rings same =
      goes_by_two goes (goes_by_asking (Some Stopped) (stop_at Reading crew storing system) bell (goes.keeps.ready tt) rings same)
  goes_asked first true crew storing system bell goes rings same =
      goes_by_two goes (goes_by_asking (Some FolderFault) (stop_at Leaving crew storing system) bell (goes.keeps.ready tt) rings same)

-- it is a stop, or a fault that was met before
pub stopped_or_fault : {T W L D : Type 0} (words : Words T W L D) (attempts : ℕ) (faulty so_far : Bool) (since : Since T W L D) →
    (so_far ≡ true → (faulty ≡ true) ⊎ HasMetFault words.tails since.faults since.later_faults (lanings since.now.lanes.items)) → met_behind so_far Stopped ≢ Stopped →
    IsEndedBy words.tails words.disks attempts faulty since (met_behind so_far Stopped)
stopped_or_fault words attempts faulty false since found other = absurd (other refl)
stopped_or_fault words attempts faulty true since found other = found refl

-- a fault that was known is known behind a step
pub fault_known : {T : Type 0} (tails : TailWords T) (faulty so_far : Bool) (since : ℕ) (old new : Readers T) → ReadersGo tails old new → since ≤ old.folder.faults →
    (so_far ≡ true → (faulty ≡ true) ⊎ HasMetFault tails since old.folder.faults old.lanes) → so_far ≡ true → (faulty ≡ true) ⊎ HasMetFault tails since new.folder.faults new.lanes
fault_known tails faulty so_far since old new go le found is = ⊎_elim (λ first. inl first) (λ met. inr (go.fault_stays since le met)) (found is)

-- rounds in a row: one more, or one that ends them
module _ {T W L D F K B : Type 0} (words : StepWords T W L D F K B) (context : Context) (first : Stop T W L D F K B) (so_far : Bool) (crew : Crew T W L) (storing : Storing D) (system : System F K B) (bell : MutBor B)
    (goes : Goes words context None first (stop_at (phase_reading so_far) crew storing system)) (rings : words.rings system.bell.now ≤ words.rings bell.now) (same : bell.ghost_name ≡ system.bell.ghost_name) where
  pub asked_then : {met : Option Met} {last : Stop T W L D F K B} → Goes words context met (stop_at (phase_reading so_far) crew storing (record system { bell = bell })) last → Goes words context met first last
  asked_then then = goes_by_two goes (goes_by_two (goes_by_asking None (stop_at (phase_reading so_far) crew storing system) bell (goes.keeps.ready tt) rings same) then)
