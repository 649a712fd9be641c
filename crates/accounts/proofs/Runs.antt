-- The epochs of a file's account are those that its harvesters reported, epoch by epoch: runs of parts with one number tell what the epochs of
-- that number reported, one after another.
use Rattle.std.proofs.Common.{◌≡◌, ◌⊎◌, inl, inr, ℕ, ◌+◌, ◌≤◌, ◌==◌, Bool, true, false, List, [], ◌∷◌, ◌++◌, length, refl, sym, ap, subst, ◌∙◌, append-nil, append_assoc, arith, if◌then◌else◌}
use Rattle.std.proofs.lemmas.Bool.{eq-eqb, eqb-true, ne_eqb}
use Rattle.event_tree.specs.declared.group_rule.GroupRule.{GroupRule}
use Rattle.file_looks.specs.Segment.{Segment}
use Rattle.harvester.specs.History.{Telling}
use Rattle.slot_parts.specs.Parts.{EpochParts, Part, Runs, epochs_of, runs_from, told_in, with_epoch, with_part}
use Rattle.slot_parts.specs.Tellings.{AreNumberedFrom, parts_of, untold_parts}
use Rattle.told_events.specs.Told.{ToldEvent}
use Rattle.accounts.specs.Filed.{TellEpochs, told_on}
use Rattle.accounts.proofs.Reopened.{merged}

-- ---- parts, and what was reported by them

-- part by part; by those after them nothing was reported
abbrev pub PartsTell : List Part → List Telling → Type 0
PartsTell [] [] = Unit {0}
PartsTell [] (telling ∷ tellings) = ⊥
PartsTell (part ∷ parts) [] = (part.told ≡ []) × PartsTell parts []
PartsTell (part ∷ parts) (telling ∷ tellings) = (part.epoch ≡ telling.epoch) × (part.told ≡ telling.told) × PartsTell parts tellings

-- one that has not the number of the epoch before it begins at the first byte
abbrev pub StartFrom : ℕ → List Telling → Type 0
StartFrom epoch [] = Unit {0}
StartFrom epoch (telling ∷ later) = ((telling.epoch ≡ epoch) ⊎ (telling.start ≡ 0)) × StartFrom telling.epoch later

pub start_behind : (epoch number : ℕ) (past : List Telling) (last : Telling) (rest : List Telling) → AreNumberedFrom number (past ++ last ∷ []) → StartFrom last.epoch rest →
    StartFrom epoch ((past ++ last ∷ []) ++ rest)
start_behind epoch number [] last rest are later = (inr are.1, later)
start_behind epoch number (one ∷ past) last rest are later = (inr are.1, start_behind one.epoch (number + 1) past last rest are.2 later)

-- ---- the parts of a tail

module _ (opening : ℕ) (rule : GroupRule) where
  pub parts_tell : (before : ℕ) (tellings : List Telling) (segments : List Segment) (more : List Part) (rest : List Telling) → length tellings ≡ length segments → PartsTell more rest →
      PartsTell (parts_of opening rule before tellings segments ++ more) (tellings ++ rest)
  parts_tell before [] [] more rest as_long tell = tell
  parts_tell before [] (segment ∷ segments) more rest as_long tell = absurd (omega (arith, as_long))
  parts_tell before (telling ∷ tellings) [] more rest as_long tell = absurd (omega (arith, as_long))
  parts_tell before (telling ∷ tellings) (segment ∷ segments) more rest as_long tell =
      (refl, refl, parts_tell telling.epoch tellings segments more rest (omega (arith, as_long)) tell)

  untold_tell : (before : ℕ) (segments : List Segment) → PartsTell (untold_parts opening before segments ++ []) []
  untold_tell before [] = tt
  untold_tell before (segment ∷ segments) = (refl, untold_tell (before + 1) segments)

  -- after the last tail's epochs nothing was reported
  pub last_tell : (before : ℕ) (tellings : List Telling) (segments : List Segment) → length tellings ≤ length segments →
      PartsTell (parts_of opening rule before tellings segments ++ []) (tellings ++ [])
  last_tell before [] segments few = untold_tell before segments
  last_tell before (telling ∷ tellings) [] few = absurd (omega (arith, few))
  last_tell before (telling ∷ tellings) (segment ∷ segments) few = (refl, refl, last_tell telling.epoch tellings segments (omega (arith, few)))

-- ---- runs of parts

-- with what was reported before of the present epoch
abbrev RunsTell : ℕ → ℕ → List ToldEvent → Runs → List Telling → Type 0
RunsTell epoch start told runs [] = ⊥
RunsTell epoch start told runs (telling ∷ tellings) =
    (epoch ≡ telling.epoch) × (start ≡ telling.start) × (told ++ told_in runs.present ≡ telling.told) × TellEpochs runs.later tellings

record TellNothing (runs : Runs) : Type 0 where
  present : told_in runs.present ≡ []
  later : TellEpochs runs.later []

tell_nothing : (epoch : ℕ) (parts : List Part) → PartsTell parts [] → TellNothing (runs_from epoch parts)
tell_nothing epoch [] tell = record { present = refl; later = tt }
tell_nothing epoch (part ∷ parts) tell = by_case (part.epoch == epoch) (tell_nothing epoch parts tell.1) (tell_nothing part.epoch parts tell.1)
  where
    by_case : (b : Bool) → TellNothing (runs_from epoch parts) → TellNothing (runs_from part.epoch parts) →
        TellNothing (if b then with_part part (runs_from epoch parts) else with_epoch part (runs_from part.epoch parts))
    by_case true same next = record { present = (λ k. tell.0 k ++ told_in (runs_from epoch parts).present) ∙ same.present; later = same.later }
    by_case false same next = record { present = refl; later = ((λ k. tell.0 k ++ told_in (runs_from part.epoch parts).present) ∙ next.present, next.later) }

-- a part of the present epoch
with_more : (epoch start : ℕ) (told : List ToldEvent) (part : Part) (more : List ToldEvent) (runs : Runs) (tellings : List Telling) → part.told ≡ more →
    RunsTell epoch start (told ++ more) runs tellings → RunsTell epoch start told (with_part part runs) tellings
with_more epoch start told part more runs [] is tell = absurd tell
with_more epoch start told part more runs (telling ∷ tellings) is tell = (
  tell.0,
  tell.1,
  (λ k. told ++ (is k ++ told_in runs.present)) ∙ sym (append_assoc told more (told_in runs.present)) ∙ tell.2,
  tell.3,
)

-- a part of the next one
as_epoch : (part : Part) (start : ℕ) (told : List ToldEvent) (runs : Runs) (tellings : List Telling) → part.told ≡ told → start ≡ 0 → RunsTell part.epoch start told runs tellings →
    TellEpochs (record { epoch = part.epoch; start = 0; parts = part ∷ runs.present } ∷ runs.later) tellings
as_epoch part start told runs [] is from tell = absurd tell
as_epoch part start told runs (telling ∷ tellings) is from tell =
    (record { epoch = tell.0; start = sym from ∙ tell.1; told = (λ k. is k ++ told_in runs.present) ∙ tell.2 }, tell.3)

runs_tell : (present : Telling) (parts : List Part) (tellings : List Telling) (epoch : ℕ) → epoch ≡ present.epoch → PartsTell parts tellings → StartFrom epoch tellings →
    RunsTell epoch present.start present.told (runs_from epoch parts) (merged present tellings)
runs_tell present [] [] epoch is tell start = (is, refl, append-nil present.told, tt)
runs_tell present [] (telling ∷ tellings) epoch is tell start = absurd tell
runs_tell present (part ∷ parts) [] epoch is tell start =
    let none = tell_nothing epoch (part ∷ parts) tell in
    (is, refl, ap (λ (l : List ToldEvent). present.told ++ l) none.present ∙ append-nil present.told, none.later)
runs_tell present (part ∷ parts) (telling ∷ tellings) epoch is tell start =
    subst (λ (b : Bool). RunsTell epoch present.start present.told (runs_from epoch (part ∷ parts)) (if b then merged (told_on present telling) tellings else present ∷ merged telling tellings))
    (λ k. tell.0 k == is k)
    (by_case (part.epoch == epoch) refl
    (λ same. runs_tell (told_on present telling) parts tellings epoch is tell.2 (subst (λ (n : ℕ). StartFrom n tellings) (sym tell.0 ∙ same) start.1))
    (runs_tell telling parts tellings part.epoch tell.0 tell.2 (subst (λ (n : ℕ). StartFrom n tellings) (sym tell.0) start.1)))
  where
    by_case : (b : Bool) → (part.epoch == epoch) ≡ b →
        (part.epoch ≡ epoch → RunsTell epoch present.start (present.told ++ telling.told) (runs_from epoch parts) (merged (told_on present telling) tellings)) →
        RunsTell part.epoch telling.start telling.told (runs_from part.epoch parts) (merged telling tellings) →
        RunsTell epoch present.start present.told (if b then with_part part (runs_from epoch parts) else with_epoch part (runs_from part.epoch parts))
        (if b then merged (told_on present telling) tellings else present ∷ merged telling tellings)
    by_case true e same next =
        with_more epoch present.start present.told part telling.told (runs_from epoch parts) (merged (told_on present telling) tellings) tell.1 (same (eqb-true part.epoch epoch e))
    by_case false e same next =
        (is, refl, append-nil present.told, as_epoch part telling.start telling.told (runs_from part.epoch parts) (merged telling tellings) tell.1 (from start.0) next)
      where
        from : (telling.epoch ≡ epoch) ⊎ (telling.start ≡ 0) → telling.start ≡ 0
        from (inl here) = absurd (let no : true ≡ false = sym (eq-eqb part.epoch epoch (tell.0 ∙ here)) ∙ e in cc)
        from (inr first) = first

-- ---- all epochs

as_epochs : (epoch base start : ℕ) (runs : Runs) (tellings : List Telling) → base ≡ start → RunsTell epoch start [] runs tellings →
    TellEpochs (record { epoch = epoch; start = base; parts = runs.present } ∷ runs.later) tellings
as_epochs epoch base start runs [] is tell = absurd tell
as_epochs epoch base start runs (telling ∷ tellings) is tell = (record { epoch = tell.0; start = is ∙ tell.1; told = tell.2 }, tell.3)

-- the first part is of the first epoch
pub epochs_tell : (epoch base : ℕ) (parts : List Part) (first : Telling) (tellings : List Telling) → first.epoch ≡ epoch → first.start ≡ base → PartsTell parts (first ∷ tellings) →
    StartFrom epoch tellings → TellEpochs (epochs_of epoch base parts) (merged first tellings)
epochs_tell epoch base [] first tellings number place tell start = absurd tell
epochs_tell epoch base (part ∷ parts) first tellings number place tell start =
    as_epochs epoch base first.start (runs_from epoch (part ∷ parts)) (merged first tellings) (sym place)
    (subst (λ (b : Bool). RunsTell epoch first.start [] (if b then with_part part (runs_from epoch parts) else with_epoch part (runs_from part.epoch parts)) (merged first tellings))
    (sym (eq-eqb part.epoch epoch (tell.0 ∙ number)))
    (with_more epoch first.start [] part first.told (runs_from epoch parts) (merged first tellings) tell.1
    (runs_tell first parts tellings epoch (sym number) tell.2 start)))

-- ---- where the first tail tells the epoch behind the first one

abbrev pub StartsWith : ℕ → List Telling → Type 0
StartsWith epoch [] = ⊥
StartsWith epoch (first ∷ later) = first.epoch ≡ epoch

abbrev epochs_in : ℕ → ℕ → Runs → List EpochParts
epochs_in number start runs = record { epoch = number; start = start; parts = runs.present } ∷ runs.later

-- nothing was told of the first
pub risen_tell : (epoch base next : ℕ) (parts : List Part) (tellings all : List Telling) → next ≡ epoch + 1 → StartsWith next tellings → PartsTell parts tellings →
    TellEpochs (epochs_of next 0 parts) all → TellEpochs (epochs_of epoch base parts) (record { epoch = epoch; start = base; bytes = []; licences = []; told = [] } ∷ all)
risen_tell epoch base next parts [] all rises starts tell has = absurd starts
risen_tell epoch base next [] (first ∷ later) all rises starts tell has = absurd tell
risen_tell epoch base next (part ∷ parts) (first ∷ later) all rises starts tell has =
    let number : part.epoch ≡ next = tell.0 ∙ starts in
    let none : Telling = record { epoch = epoch; start = base; bytes = []; licences = []; told = [] } in
    let own : TellEpochs (epochs_of part.epoch 0 (part ∷ parts)) all = subst (λ (n : ℕ). TellEpochs (epochs_of n 0 (part ∷ parts)) all) (sym number) has in
    subst (λ (b : Bool). TellEpochs (epochs_in epoch base (if b then with_part part (runs_from epoch parts) else with_epoch part (runs_from part.epoch parts))) (none ∷ all))
    (sym (ne_eqb part.epoch epoch (λ same. omega (arith, same, number, rises)))) (
      record { epoch = refl; start = refl; told = refl },
      subst (λ (b : Bool). TellEpochs (epochs_in part.epoch 0 (if b then with_part part (runs_from part.epoch parts) else with_epoch part (runs_from part.epoch parts))) all)
          (eq-eqb part.epoch part.epoch refl) own,
    )
