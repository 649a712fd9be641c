-- What a run does behind the beginning of its files, step by step.
use Rattle.std.proofs.Common.{◌≡◌, ◌⊎◌, inl, inr, ⊎_elim, ℕ, zero, suc, ◌≤◌, ◌<◌, false, All, List, [], ◌∷◌, length, map, Option, Some, IfErr, IfOk, Result, Ok, Err, refl, sym, ap, subst, ◌∙◌, arith}
use Rattle.std.proofs.lemmas.List.Elements.{recursion_from_All}
use Rattle.std.specs.Prelude.{slice_get}
use Rattle.std.specs.List.{AllByRecursion}
use Rattle.harvester.specs.HasTold.{begin_of}
use Rattle.harvester.specs.declared.harvester.Harvester.{Harvester}
use Rattle.lanes.specs.Laning.{Laning}
use Rattle.outside.specs.Counts.{Rose}
use Rattle.outside.specs.Folders.{FolderHistory}
use Rattle.rounds.specs.Crewed.{lanings}
use Rattle.rounds.specs.Crewing.{crew_of, crewing}
use Rattle.rounds.specs.Pairs.{SomeOf}
use Rattle.rounds.specs.Settled.{AreSettledIn, IsDoneIn, spans_told}
use Rattle.rounds.specs.Settling.{ArePostsCounted}
use Rattle.rounds.specs.Staying.{AreAsMany, HaveSlot}
use Rattle.rounds.specs.Words.{DiskWords, TailWords, Words}
use Rattle.rounds.specs.declared.carrier.Carrier.{Carrier}
use Rattle.rounds.specs.declared.crew.Crew.{Crew}
use Rattle.rounds.specs.declared.storing.Storing.{Storing}
use Rattle.wire_base.specs.declared.note.Begin.{Begin}
use Rattle.wire_base.specs.declared.numbers.Slot.{Slot}
use Rattle.run_steps.specs.Areas.{BeganAtRest, IsAtRest}
use Rattle.run_steps.specs.Began.{Began}
use Rattle.run_steps.specs.BeginErrors.{met_of}
use Rattle.run_steps.specs.CarriersEnd.{EndsCarriers}
use Rattle.run_steps.specs.Ends.{IsAllSettled}
use Rattle.run_steps.specs.Met.{AreLeft, IsTelling}
use Rattle.run_steps.specs.MetBy.{HasFaults, HasMetFault, IsEndedBy, IsMetBy, IsOverOf, Since, SomeHarvester, phase_met}
use Rattle.run_steps.specs.Onward.{BeganBy, Onward, RunRules}
use Rattle.run_steps.specs.Releasing.{HasNoHarvesters}
use Rattle.run_steps.specs.RunEnds.{HasEnded}
use Rattle.run_steps.specs.RunState.{Finished, Halted, Phase, phase_left, within, OutOfEpochs}
use Rattle.run_steps.specs.Settling.{IsMetByStoring, Written}
use Rattle.run_steps.specs.SoFar.{SoFar}
use Rattle.run_steps.specs.Stands.{Further, Stands}
use Rattle.run_steps.specs.Worked.{AreAllBegun, IsBegunWith, IsFollowedBy, IsWorkedBy, Tolls, phase_begun, phase_worked}
use Rattle.run_steps.specs.declared.begin_error.BeginError.{BeginError}
use Rattle.run_steps.specs.declared.begin_error.BeginError.TheVariants as begin
use Rattle.run_steps.specs.declared.beginning.BegunFiles.{BegunFiles}
use Rattle.run_steps.specs.declared.met.Met.{Met}
use Rattle.run_steps.specs.declared.met.Met.TheVariants.{DiskFault, Done, Epochs, FolderFault, NoMemory, Stopped, Unreachable, NoNative}
use Rattle.run_steps.proofs.Growing.{further}
use Rattle.run_steps.proofs.ReadersGo.{rose_on, rose_since}

-- ---- whether the last steps are left

pub left_or_not : (met : Met) → AreLeft met ⊎ (¬ AreLeft met)
left_or_not Done = inl tt
left_or_not Stopped = inl tt
left_or_not NoMemory = inr (λ left. left)
left_or_not DiskFault = inr (λ left. left)
left_or_not FolderFault = inl tt
left_or_not (Unreachable worker) = inl tt
left_or_not (Epochs slot) = inl tt
left_or_not (NoNative slot) = inl tt

-- what the last steps met is none of these
pub done_before : {D : Type 0} (disks : DiskWords D) (written : Written D) (met now : Met) → (now ≡ met) ⊎ IsMetByStoring disks written now → now ≡ Done → met ≡ Done
done_before disks written met now (inl same) is = sym same ∙ is
done_before disks written met now (inr by) is = absurd (subst (IsMetByStoring disks written) is by)

pub epochs_before : {D : Type 0} (disks : DiskWords D) (written : Written D) (met now : Met) (slot : Slot) → (now ≡ met) ⊎ IsMetByStoring disks written now → now ≡ Epochs slot → met ≡ Epochs slot
epochs_before disks written met now slot (inl same) is = sym same ∙ is
epochs_before disks written met now slot (inr by) is = absurd (subst (IsMetByStoring disks written) is by)

pub stopped_before : {D : Type 0} (disks : DiskWords D) (written : Written D) (met now : Met) → (now ≡ met) ⊎ IsMetByStoring disks written now → now ≡ Stopped → met ≡ Stopped
stopped_before disks written met now (inl same) is = sym same ∙ is
stopped_before disks written met now (inr by) is = absurd (subst (IsMetByStoring disks written) is by)

-- what the last steps met leaves none to be made
pub left_still : {D : Type 0} (disks : DiskWords D) (written : Written D) (met now : Met) → (now ≡ met) ⊎ IsMetByStoring disks written now → AreLeft now → AreLeft met
left_still disks written met now (inl same) left = subst AreLeft same left
left_still disks written met Done (inr by) left = absurd by
left_still disks written met Stopped (inr by) left = absurd by
left_still disks written met NoMemory (inr by) left = absurd left
left_still disks written met DiskFault (inr by) left = absurd left
left_still disks written met FolderFault (inr by) left = absurd by
left_still disks written met (Unreachable worker) (inr by) left = absurd by
left_still disks written met (Epochs slot) (inr by) left = absurd by
left_still disks written met (NoNative slot) (inr by) left = absurd by

-- what ended the beginning of files is neither of these, and tells no report
not_done : (error : BeginError) → met_of error ≡ Done → ⊥
not_done begin.FolderFault is = let no : FolderFault ≡ Done = is in cc
not_done begin.NoMemory is = let no : NoMemory ≡ Done = is in cc
not_done (begin.NoNative slot) is = let no : NoNative slot ≡ Done = is in cc

not_epochs : (error : BeginError) (slot : Slot) → met_of error ≡ Epochs slot → ⊥
not_epochs begin.FolderFault slot is = let no : FolderFault ≡ Epochs slot = is in cc
not_epochs begin.NoMemory slot is = let no : NoMemory ≡ Epochs slot = is in cc
not_epochs (begin.NoNative other) slot is = let no : NoNative other ≡ Epochs slot = is in cc

pub not_stopped_so : (error : BeginError) → met_of error ≡ Stopped → ⊥
not_stopped_so begin.FolderFault is = let no : FolderFault ≡ Stopped = is in cc
not_stopped_so begin.NoMemory is = let no : NoMemory ≡ Stopped = is in cc
not_stopped_so (begin.NoNative slot) is = let no : NoNative slot ≡ Stopped = is in cc

ends_untold : (error : BeginError) → ¬ (IsTelling (met_of error))
ends_untold begin.FolderFault telling = telling
ends_untold begin.NoMemory telling = telling
ends_untold (begin.NoNative slot) telling = telling

pub finished_by : (begun : Result BegunFiles BeginError) (met : Met) → IfErr begun (λ error. met ≡ met_of error) → met ≡ Done → phase_left (phase_worked begun met) ≡ Finished
finished_by (Ok files) met first is = ap (λ (m : Met). phase_left (phase_met m)) is
finished_by (Err error) met first is = absurd (not_done error (sym first ∙ is))

pub halted_by : (begun : Result BegunFiles BeginError) (met : Met) → IfErr begun (λ error. met ≡ met_of error) → met ≡ Stopped → phase_left (phase_worked begun met) ≡ Halted
halted_by (Ok files) met first is = ap (λ (m : Met). phase_left (phase_met m)) is
halted_by (Err error) met first is = absurd (not_stopped_so error (sym first ∙ is))

-- nor does what the last steps met
pub telling_before : {D : Type 0} (disks : DiskWords D) (written : Written D) (met now : Met) → (now ≡ met) ⊎ IsMetByStoring disks written now → IsTelling now → IsTelling met
telling_before disks written met now (inl same) telling = subst IsTelling same telling
telling_before disks written met Done (inr by) telling = absurd by
telling_before disks written met Stopped (inr by) telling = absurd by
telling_before disks written met NoMemory (inr by) telling = absurd telling
telling_before disks written met DiskFault (inr by) telling = absurd telling
telling_before disks written met FolderFault (inr by) telling = absurd by
telling_before disks written met (Unreachable worker) (inr by) telling = absurd by
telling_before disks written met (Epochs slot) (inr by) telling = absurd by
telling_before disks written met (NoNative slot) (inr by) telling = absurd by

-- what ended the beginning of files tells no report
pub none_told : (begun : Result BegunFiles BeginError) (error : BeginError) (met : Met) → begun ≡ Err error → met ≡ met_of error → IsTelling met → AreAllBegun begun
none_told begun error met is first telling = absurd (ends_untold error (subst IsTelling first telling))

pub all_begun_where_told : (begun : Result BegunFiles BeginError) (files : BegunFiles) (met : Met) → begun ≡ Ok files → (IsTelling met → files.faulty ≡ false) → IsTelling met → AreAllBegun begun
all_begun_where_told begun files met is none_failed telling = subst AreAllBegun (sym is) (none_failed telling)

pub out_by : (begun : Result BegunFiles BeginError) (met : Met) (slot : Slot) → IfErr begun (λ error. met ≡ met_of error) → met ≡ Epochs slot → phase_left (phase_worked begun met) ≡ OutOfEpochs slot
out_by (Ok files) met slot first is = ap (λ (m : Met). phase_left (phase_met m)) is
out_by (Err error) met slot first is = absurd (not_epochs error slot (sym first ∙ is))

-- ---- the end

module _ {T W L D : Type 0} (words : Words T W L D) (start : Began D) (begun : Result BegunFiles BeginError) (rules : RunRules)
    (shown later : Option FolderHistory) (moments then : Option (List ℕ)) (crew one two three : Crew T W L) (storing first second : Storing D) (met now : Met) (old new : List W) where
  -- what each step gave
  pub record Steps : Type 0 where
    pub followed : Onward words rules (within shown moments crew storing (phase_begun begun)) (within later then two first (phase_left (phase_worked begun met)))
    pub at_rest : AreLeft met → IsAtRest words.disks storing.keeper.now storing.a.now storing.b.now → IsAtRest words.disks first.keeper.now first.a.now first.b.now
    pub as_many_spans : spans_told (lanings two.lanes.items) ≡ spans_told (lanings one.lanes.items)
    pub settled : (at : Option FolderHistory) (given : Option (List ℕ)) (phase : Phase) → Onward words rules (within at given two first phase) (within at given three second phase)
    pub still : (¬ AreLeft met) → (three ≡ two) × (second ≡ first)
    pub left_before : AreLeft now → AreLeft met
    pub stored : AreLeft now → AreSettledIn three second.keeper.now
    pub counted : AreLeft now → ArePostsCounted three
    pub is_open : AreLeft now → second.keeper.now.store.closed ≡ false
    pub then_at_rest : AreLeft now → IsAtRest words.disks first.keeper.now first.a.now first.b.now → IsAtRest words.disks second.keeper.now second.a.now second.b.now
    pub none_left : All HasNoHarvesters (lanings three.lanes.items)
    pub all_settled : IsAllSettled (lanings two.lanes.items) first.keeper.now → IsAllSettled (lanings three.lanes.items) second.keeper.now
    pub ended : EndsCarriers words.links words.wires three.carriers.items old new
    pub done : now ≡ Done → IsDoneIn one first.keeper.now
    pub finished : now ≡ Done → phase_left (phase_worked begun met) ≡ Finished
    pub out_of_epochs : (slot : Slot) → now ≡ Epochs slot → phase_left (phase_worked begun met) ≡ OutOfEpochs slot
    pub stopped : now ≡ Stopped → phase_left (phase_worked begun met) ≡ Halted

  module _ (steps : Steps) (so_far : SoFar) (same : BeganBy rules start) (stands : Stands words start (within shown moments crew storing (phase_begun begun)) so_far)
      (began : BeganAtRest words.disks start → IsAtRest words.disks storing.keeper.now storing.a.now storing.b.now) where
    abbrev phase : Phase
    phase = phase_left (phase_worked begun met)

    after_rounds : Further words start (within later then two first phase)
    unfolding Onward
    after_rounds = further words start (within later then two first phase) so_far (steps.followed start so_far same stands began)

    after_all : Further words start (within later then three second phase)
    unfolding Onward
    after_all = ⊎_elim (λ left. further words start (within later then three second phase) after_rounds.so_far
        (steps.settled later then phase start after_rounds.so_far same after_rounds.stands (λ at_start. steps.at_rest left (began at_start))))
        (λ not. let same = steps.still not in
        subst (λ (s : Storing D). Further words start (within later then three s phase)) (sym same.1)
        (subst (λ (c : Crew T W L). Further words start (within later then c first phase)) (sym same.0) after_rounds)) (left_or_not met)

    told_all : now ≡ Done → IsAllSettled (lanings two.lanes.items) first.keeper.now
    told_all is =
        let done = steps.done is in
        let same = steps.as_many_spans in
        let few = done.spans.below in
        let each = done.spans.settled in
        record { below = omega (arith, same, few); settled = omega (arith, same, each) }

    pub has_ended : HasEnded words start (record { shown = later; moments = then; keeper = second.keeper.now; a = second.a.now; b = second.b.now; phase = phase }) now old new
    has_ended = record {
      ends = record {
        crew = three;
        so_far = after_all.so_far;
        stands = after_all.stands;
        ended = steps.ended;
        finished = steps.finished;
        out_of_epochs = steps.out_of_epochs;
        stopped = steps.stopped;
        all_settled = λ is. steps.all_settled (told_all is);
        stored = steps.stored;
      };
      left = record {
        released = steps.none_left;
        posts = steps.counted;
        is_open = steps.is_open;
        at_rest = λ left at_start. steps.then_at_rest left (steps.at_rest (steps.left_before left) (began at_start));
      };
    }

-- ---- why

-- the phase by what was met as rounds were made
pub first_met : {T W L D : Type 0} (words : Words T W L D) (attempts : ℕ) (since : Since T W L D) (begun : Result BegunFiles BeginError) (met : Met) →
    IsFollowedBy words.tails words.disks attempts since begun met → IfErr begun (λ error. met ≡ met_of error)
first_met words attempts since (Ok files) met is = tt
first_met words attempts since (Err first) met is = is

not_stopped : Done ≡ Stopped → ⊥
not_stopped is = cc

pub done_in : {T W L D : Type 0} (words : Words T W L D) (attempts : ℕ) (since : Since T W L D) (begun : Result BegunFiles BeginError) (met : Met) →
    IsFollowedBy words.tails words.disks attempts since begun met → met ≡ Done → IsDoneIn (crew_of since.now) since.now.storing.keeper.now
done_in words attempts since (Ok files) met by is =
    subst (IsEndedBy words.tails words.disks attempts files.faulty since) is (by (λ stopped. not_stopped (sym is ∙ stopped)))
done_in words attempts since (Err error) met by is = absurd (not_done error (sym by ∙ is))

some_mapped : {A B : Type 0} (P : B → Type 0) (f : A → B) (xs : List A) → SomeOf (λ x. P (f x)) xs → SomeOf P (map f xs)
some_mapped P f [] some = absurd some
some_mapped P f (x ∷ xs) some = ⊎_elim (λ here. inl here) (λ later. inr (some_mapped P f xs later)) some

some_as : {A : Type 0} (P Q : A → Type 0) (xs : List A) → ((x : A) → P x → Q x) → SomeOf P xs → SomeOf Q xs
some_as P Q [] into some = absurd some
some_as P Q (x ∷ xs) into some = ⊎_elim (λ here. inl (into x here)) (λ later. inr (some_as P Q xs into later)) some

has_slot : {T : Type 0} (slot : Slot) (lanes : List (Laning T)) → SomeHarvester (IsOverOf slot) lanes → HaveSlot slot lanes
has_slot {T} slot [] some = absurd some
has_slot {T} slot (lane ∷ lanes) some =
    ⊎_elim (λ here. inl (some_mapped (λ (b : Begin). b.slot ≡ slot) begin_of lane.harvesters
    (some_as (IsOverOf slot) (λ (h : Harvester T). (begin_of h).slot ≡ slot) lane.harvesters (λ h is. is.of_slot) here))) (λ later. inr (has_slot slot lanes later)) some

pub none_in : {T : Type 0} (P : Harvester T → Type 0) (lanes : List (Laning T)) → AllByRecursion HasNoHarvesters lanes → SomeHarvester P lanes → ⊥
none_in P [] none some = some
none_in P (lane ∷ lanes) none some =
    ⊎_elim (λ here. subst (λ (hs : List (Harvester _)). SomeOf P hs) none.0 here) (λ later. none_in P lanes none.1 later) some

-- where all tails are closed, the folder has counted each fault
pub all_counted : {T : Type 0} (tails : TailWords T) (before faults : ℕ) (lanes : List (Laning T)) → All HasNoHarvesters lanes → HasMetFault tails before faults lanes → Rose before faults
all_counted tails before faults lanes none met = ⊎_elim (λ rose. rose) (λ some. absurd (none_in (HasFaults tails) lanes (recursion_from_All HasNoHarvesters lanes none) some)) met

module _ {T W L D : Type 0} (words : Words T W L D) (attempts mid_faults : ℕ) (crew one : Crew T W L) (storing first second : Storing D) (before after : Tolls) where
  -- what each step tells of its counts
  pub record Counts : Type 0 where
    pub a_before : before.a_faults ≡ words.disks.faults storing.a.now
    pub b_before : before.b_faults ≡ words.disks.faults storing.b.now
    pub a_after : after.a_faults ≡ words.disks.faults second.a.now
    pub b_after : after.b_faults ≡ words.disks.faults second.b.now
    pub a_first : words.disks.faults storing.a.now ≤ words.disks.faults first.a.now
    pub b_first : words.disks.faults storing.b.now ≤ words.disks.faults first.b.now
    pub a_then : words.disks.faults first.a.now ≤ words.disks.faults second.a.now
    pub b_then : words.disks.faults first.b.now ≤ words.disks.faults second.b.now
    pub folder : HasMetFault words.tails before.folder_faults mid_faults (lanings one.lanes.items) → Rose before.folder_faults after.folder_faults
    pub as_many : AreAsMany (crewing crew storing) (crewing one first)
    pub slots : (slot : Slot) → HaveSlot slot (lanings one.lanes.items) → HaveSlot slot (lanings crew.lanes.items)

  abbrev since : Since T W L D
  since = record { a = storing.a.now; b = storing.b.now; faults = before.folder_faults; later_faults = mid_faults; now = crewing one first }

  module _ (counts : Counts) where
    rose_as : (x y x' y' : ℕ) → x' ≡ x → y' ≡ y → Rose x y → Rose x' y'
    rose_as x y x' y' same also rose = subst (λ (n : ℕ). Rose n y') (sym same) (subst (Rose x) (sym also) rose)

    by_rounds : (met : Met) → IsMetBy words.tails words.disks attempts since met → IsWorkedBy crew before after met
    by_rounds Done is = tt
    by_rounds Stopped is = absurd is
    by_rounds NoMemory is = tt
    by_rounds DiskFault is = ⊎_elim
        (λ rose. inl (rose_as (words.disks.faults storing.a.now) (words.disks.faults second.a.now) before.a_faults after.a_faults counts.a_before counts.a_after
        (rose_on (words.disks.faults storing.a.now) (words.disks.faults first.a.now) (words.disks.faults second.a.now) rose counts.a_then)))
        (λ rose. inr (rose_as (words.disks.faults storing.b.now) (words.disks.faults second.b.now) before.b_faults after.b_faults counts.b_before counts.b_after
        (rose_on (words.disks.faults storing.b.now) (words.disks.faults first.b.now) (words.disks.faults second.b.now) rose counts.b_then))) is
    by_rounds FolderFault is = counts.folder is
    by_rounds (Unreachable worker) is =
        let within = got_within one.carriers.items worker is.one is.is in
        let many = counts.as_many.carriers in
        omega (arith, within, many)
      where
        got_within : (cs : List (Carrier W L)) (k : ℕ) (c : Carrier W L) → slice_get cs k ≡ Some c → k < length cs
        got_within [] k c got = absurd cc
        got_within (x ∷ cs) zero c got = omega arith
        got_within (x ∷ cs) (suc k) c got = let more = got_within cs k c got in omega (arith, more)
    by_rounds (Epochs slot) is = counts.slots slot (has_slot slot (lanings one.lanes.items) is)
    by_rounds (NoNative slot) is = is

    by_storing : (met : Met) → IsMetByStoring words.disks (record { a = first.a.now; b = first.b.now; new_a = second.a.now; new_b = second.b.now }) met → IsWorkedBy crew before after met
    by_storing Done is = absurd is
    by_storing Stopped is = absurd is
    by_storing NoMemory is = tt
    by_storing DiskFault is = ⊎_elim
        (λ rose. inl (rose_as (words.disks.faults storing.a.now) (words.disks.faults second.a.now) before.a_faults after.a_faults counts.a_before counts.a_after
        (rose_since (words.disks.faults storing.a.now) (words.disks.faults first.a.now) (words.disks.faults second.a.now) counts.a_first rose)))
        (λ rose. inr (rose_as (words.disks.faults storing.b.now) (words.disks.faults second.b.now) before.b_faults after.b_faults counts.b_before counts.b_after
        (rose_since (words.disks.faults storing.b.now) (words.disks.faults first.b.now) (words.disks.faults second.b.now) counts.b_first rose))) is
    by_storing FolderFault is = absurd is
    by_storing (Unreachable worker) is = absurd is
    by_storing (Epochs slot) is = absurd is
    by_storing (NoNative slot) is = absurd is

    by_following : (begun : Result BegunFiles BeginError) (met : Met) →
        IsFollowedBy words.tails words.disks attempts since begun met →
        IfOk begun (λ _. met ≡ Stopped → Rose before.rings after.rings) → IsBegunWith begun met ⊎ IsWorkedBy crew before after met
    by_following (Err other) met is rang = inl is
    by_following (Ok files) Stopped is rang = inr (rang refl)
    by_following (Ok files) Done is rang = inr tt
    by_following (Ok files) NoMemory is rang = inr tt
    by_following (Ok files) DiskFault is rang = inr (by_rounds DiskFault (is (λ e. cc)))
    by_following (Ok files) FolderFault is rang = ⊎_elim (λ faulty. inl (faulty, refl)) (λ met. inr (by_rounds FolderFault met)) (is (λ e. cc))
    by_following (Ok files) (Unreachable worker) is rang = inr (by_rounds (Unreachable worker) (is (λ e. cc)))
    by_following (Ok files) (Epochs slot) is rang = inr (by_rounds (Epochs slot) (is (λ e. cc)))
    by_following (Ok files) (NoNative slot) is rang = inr (by_rounds (NoNative slot) (is (λ e. cc)))

    pub cause : (begun : Result BegunFiles BeginError) (met now : Met) →
        IsFollowedBy words.tails words.disks attempts since begun met →
        IfOk begun (λ _. met ≡ Stopped → Rose before.rings after.rings) →
        (now ≡ met) ⊎ IsMetByStoring words.disks (record { a = first.a.now; b = first.b.now; new_a = second.a.now; new_b = second.b.now }) now →
        IsBegunWith begun now ⊎ IsWorkedBy crew before after now
    cause begun met now follows rang (inl same) = subst (λ (m : Met). IsBegunWith begun m ⊎ IsWorkedBy crew before after m) (sym same) (by_following begun met follows rang)
    cause begun met now follows rang (inr stored) = inr (by_storing now stored)
