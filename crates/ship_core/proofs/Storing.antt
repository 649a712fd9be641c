-- What any steps of the registry machine store.
use Rattle.std.proofs.Common.{◌≡◌, ◌≢◌, ◌⊎◌, inl, inr, ℕ, Bool, true, false, List, [], ◌∷◌, ◌++◌, take, drop, max, All, Contains, Option, Some, None, if◌then◌else◌, refl, sym, ap, ◌∙◌, subst, append_assoc}
use Rattle.std.specs.List.{filter, fold, AllByRecursion}
use Rattle.std.specs.Option.{is_some}
use Rattle.std.proofs.lemmas.List.{append-nil, take-append-drop}
use Rattle.std.proofs.lemmas.List.Elements.{recursion_from_All, Contains-append_cases, Contains-append_left, filter_map-append}
use Rattle.wire_base.specs.declared.row.Row.{Row}
use Rattle.wire_base.specs.declared.row.Op.{Op}
use Rattle.wire_base.specs.declared.row.Op.TheVariants.{Set, Remove}
use Rattle.wire_base.specs.declared.note.Note.{Note}
use Rattle.ship_core.specs.declared.step.CoreStep.{CoreStep}
use Rattle.ship_core.specs.declared.step.CoreStep.TheVariants.{Noted, Commit, Crash, Restart}
use Rattle.ship_core.specs.Changes.{change_of, op_for}
use Rattle.ship_core.specs.Forward.{RowGoesOn}
use Rattle.ship_core.specs.Machine.{Core, ArePending, Steps, Runs, IsQuiet, IsStoring, IsStoredBy, at_start}
use Rattle.ship_core.specs.Orderly.{IsBegun}
use Rattle.ship_core.specs.Replay.{replay}
use Rattle.ship_core.specs.RowOver.{row_over}
use Rattle.ship_core.specs.Rows.{find}
use Rattle.ship_core.specs.RowsOver.{AreRowsOver, slot_for, slots_for, row_of_greatest, row_among, row_for}
use Rattle.ship_core.proofs.Leading.{changed, found_member, in_order-replay, told_by_key}
use Rattle.ship_core.proofs.Members.{none_there}
use Rattle.ship_core.proofs.MoreNotes.{row_goes_on}
use Rattle.ship_core.proofs.Working.{replay_more}

-- ---- notes and commits

step_notes : (core new : Core) (step : CoreStep) → Steps core step new → IsQuiet step → (more : List Note) × (new.notes ≡ core.notes ++ more)
step_notes core new (Noted note) steps quiet = by_case core.runs steps.is
  where
    by_case : (b : Bool) → new ≡ (if b then record core { notes = core.notes ++ note ∷ [] } else core) → (more : List Note) × (new.notes ≡ core.notes ++ more)
    by_case true is = (note ∷ [], ap (λ (c : Core). c.notes) is)
    by_case false is = ([], ap (λ (c : Core). c.notes) is ∙ sym (append-nil core.notes))
step_notes core new Commit steps quiet = by_case core.runs steps.is
  where
    by_case : (b : Bool) → new ≡ (if b then record core { updates = core.updates ++ steps.pending } else core) → (more : List Note) × (new.notes ≡ core.notes ++ more)
    by_case true is = ([], ap (λ (c : Core). c.notes) is ∙ sym (append-nil core.notes))
    by_case false is = ([], ap (λ (c : Core). c.notes) is ∙ sym (append-nil core.notes))
step_notes core new (Crash left) steps quiet = absurd quiet
step_notes core new Restart steps quiet = absurd quiet

quiet_notes : (core new : Core) (steps : List CoreStep) → Runs core steps new → AllByRecursion IsQuiet steps → (more : List Note) × (new.notes ≡ core.notes ++ more)
quiet_notes core new [] run quiet = ([], ap (λ (c : Core). c.notes) (sym run) ∙ sym (append-nil core.notes))
quiet_notes core new (step ∷ steps) run quiet =
    let first = step_notes core run.0 step run.1 quiet.0 in
    let rest = quiet_notes run.0 new steps run.2 quiet.1 in
    (first.0 ++ rest.0, rest.1 ∙ ap (λ (l : List Note). l ++ rest.0) first.1 ∙ append_assoc core.notes first.0 rest.0)

pub goes_on_while_it_runs : (core new : Core) (steps : List CoreStep) → Runs core steps new → All IsQuiet steps → (slot : ℕ) → IsBegun slot core.notes → RowGoesOn (row_over slot core.notes) (row_over slot new.notes)
goes_on_while_it_runs core new steps run quiet slot begun =
    let more = quiet_notes core new steps run (recursion_from_All IsQuiet steps quiet) in
    subst (λ (l : List Note). RowGoesOn (row_over slot core.notes) (row_over slot l)) (sym more.1) (row_goes_on slot core.notes more.0 begun)

-- ---- what the updates make is the rows over a front of the notes

record IsLed (core : Core) : Type 0 where
  pub front : List Note
  pub rest : List Note
  pub parts : core.notes ≡ front ++ rest
  pub over : AreRowsOver core.opening front (replay core.updates)

abbrev LedWhileItRuns : Core → Type 0
LedWhileItRuns core = core.runs ≡ true → IsLed core

none_stopped : {X : Type 0} → false ≡ true → X
none_stopped e = absurd (let q : false ≡ true = e in cc)

led_step : (core new : Core) (step : CoreStep) → LedWhileItRuns core → Steps core step new → LedWhileItRuns new
led_step core new (Noted note) led steps = by_case core.runs refl steps.is
  where
    by_case : (b : Bool) → core.runs ≡ b → new ≡ (if b then record core { notes = core.notes ++ note ∷ [] } else core) → LedWhileItRuns new
    by_case true runs is = subst LedWhileItRuns (sym is) (λ _. let was = led runs in record { front = was.front; rest = was.rest ++ note ∷ []; parts = ap (λ (l : List Note). l ++ note ∷ []) was.parts ∙ append_assoc was.front was.rest (note ∷ []); over = was.over })
    by_case false runs is = subst LedWhileItRuns (sym is) led
led_step core new Commit led steps = by_case core.runs refl steps.is
  where
    by_case : (b : Bool) → core.runs ≡ b → new ≡ (if b then record core { updates = core.updates ++ steps.pending } else core) → LedWhileItRuns new
    by_case true runs is = subst LedWhileItRuns (sym is) (λ _. record {
      front = core.notes;
      rest = [];
      parts = sym (append-nil core.notes);
      over = subst (AreRowsOver core.opening core.notes) (sym (replay_more [] core.updates steps.pending ∙ steps.are.lead.replayed)) (steps.are.are.running runs);
    })
    by_case false runs is = subst LedWhileItRuns (sym is) led
led_step core new (Crash left) led steps = by_case core.runs refl steps.is
  where
    by_case : (b : Bool) → core.runs ≡ b → new ≡ (if b then record core { notes = []; updates = take left (core.updates ++ steps.pending); runs = false } else core) → LedWhileItRuns new
    by_case true runs is = subst LedWhileItRuns (sym is) (λ e. none_stopped e)
    by_case false runs is = subst LedWhileItRuns (sym is) led
led_step core new Restart led steps = subst LedWhileItRuns (sym steps.is) (λ _. record {
  front = [];
  rest = [];
  parts = refl;
  over = record { in_order = in_order-replay [] core.updates tt; each = λ key. refl };
})

-- ---- a row that is stored

append_nothing : {X : Type 0} (xs ys : List X) → xs ++ ys ≡ [] → xs ≡ []
append_nothing [] ys e = refl
append_nothing {X} (x ∷ xs) ys e = absurd (let q : x ∷ (xs ++ ys) ≡ [] = e in cc)

set_row : (key : List ℕ) (row : Row) (now : Option Row) → Set row ≡ op_for key now → now ≡ Some row
set_row key row None e = absurd (let q : Set row ≡ Remove key = e in cc)
set_row key row (Some other) e = let q : Set row ≡ Set other = e in let same : row ≡ other = cc in ap Some (sym same)

module _ (core : Core) (pending : List Op) (row : Row) (runs : core.runs ≡ true) (led : IsLed core) (are : ArePending core pending) (there : Contains pending (Set row)) where
  change_is : change_of row.key (find row.key (replay core.updates)) (find row.key are.rows) ≡ Some (Set row)
  change_is = sym (told_by_key (replay core.updates) are.rows pending are.lead row.key) ∙ found_member (Set row) pending are.lead.ascending there

  row_then : row_for core.opening core.notes row.key ≡ Some row
  row_then =
      sym ((are.are.running runs).each row.key)
      ∙ set_row row.key row (find row.key are.rows) (changed row.key (find row.key (replay core.updates)) (find row.key are.rows) (Set row) change_is).1

  differs : row_for core.opening led.front row.key ≢ row_for core.opening core.notes row.key
  differs same =
      (changed row.key (find row.key (replay core.updates)) (find row.key are.rows) (Set row) change_is).0
      (led.over.each row.key ∙ same ∙ sym ((are.are.running runs).each row.key))

  from_slot : (slot : ℕ) × (row_over slot core.notes ≡ Some row)
  from_slot = by_slots (slots_for row.key core.notes) refl row_then
    where
      by_standing : (standing : List ℕ) → row_of_greatest core.notes standing ≡ Some row → (slot : ℕ) × (row_over slot core.notes ≡ Some row)
      by_standing [] e = absurd (let q : None ≡ Some row = e in cc)
      by_standing (slot ∷ slots) e = (fold max slot slots, e)

      by_slots : (slots : List ℕ) → slots_for row.key core.notes ≡ slots → row_among core.opening core.notes row.key slots ≡ Some row → (slot : ℕ) × (row_over slot core.notes ≡ Some row)
      by_slots [] is e =
          let none : slots_for row.key led.front ≡ [] = append_nothing (slots_for row.key led.front) (slots_for row.key led.rest) (sym (filter_map-append (slot_for row.key) led.front led.rest) ∙ ap (slots_for row.key) (sym led.parts) ∙ is) in
          absurd (differs (ap (row_among core.opening led.front row.key) none ∙ sym (ap (row_among core.opening core.notes row.key) is)))
      by_slots (slot ∷ slots) is e = by_standing (filter (λ (given : ℕ). is_some (row_over given core.notes)) (slot ∷ slots)) e

pub record IsStoredHere (core : Core) (step : CoreStep) (row : Row) : Type 0 where
  pub stores : IsStoring step
  pub slot : ℕ
  pub is : row_over slot core.notes ≡ Some row

stored_step : (core new : Core) (step : CoreStep) (row : Row) → LedWhileItRuns core → Steps core step new → Contains new.updates (Set row) → Contains core.updates (Set row) ⊎ IsStoredHere core step row
stored_step core new (Noted note) row led steps there = by_case core.runs steps.is
  where
    by_case : (b : Bool) → new ≡ (if b then record core { notes = core.notes ++ note ∷ [] } else core) → Contains core.updates (Set row) ⊎ IsStoredHere core (Noted note) row
    by_case true is = inl (subst (λ (c : Core). Contains c.updates (Set row)) is there)
    by_case false is = inl (subst (λ (c : Core). Contains c.updates (Set row)) is there)
stored_step core new Commit row led steps there = by_case core.runs refl steps.is
  where
    by_case : (b : Bool) → core.runs ≡ b → new ≡ (if b then record core { updates = core.updates ++ steps.pending } else core) → Contains core.updates (Set row) ⊎ IsStoredHere core Commit row
    by_case true runs is = elim (Contains-append_cases core.updates steps.pending (Set row) (subst (λ (c : Core). Contains c.updates (Set row)) is there)) [
      | inl before ↦ inl before
      | inr now ↦ let slot = from_slot core steps.pending row runs (led runs) steps.are now in inr (record { stores = tt; slot = slot.0; is = slot.1 })
    ]
    by_case false runs is = inl (subst (λ (c : Core). Contains c.updates (Set row)) is there)
stored_step core new (Crash left) row led steps there = by_case core.runs refl steps.is
  where
    within : Contains (take left (core.updates ++ steps.pending)) (Set row) → Contains (core.updates ++ steps.pending) (Set row)
    within at = subst (λ (l : List Op). Contains l (Set row)) (take-append-drop left (core.updates ++ steps.pending)) (Contains-append_left (take left (core.updates ++ steps.pending)) (drop left (core.updates ++ steps.pending)) (Set row) at)

    by_case : (b : Bool) → core.runs ≡ b → new ≡ (if b then record core { notes = []; updates = take left (core.updates ++ steps.pending); runs = false } else core) → Contains core.updates (Set row) ⊎ IsStoredHere core (Crash left) row
    by_case true runs is = elim (Contains-append_cases core.updates steps.pending (Set row) (within (subst (λ (c : Core). Contains c.updates (Set row)) is there))) [
      | inl before ↦ inl before
      | inr now ↦ let slot = from_slot core steps.pending row runs (led runs) steps.are now in inr (record { stores = tt; slot = slot.0; is = slot.1 })
    ]
    by_case false runs is = inl (subst (λ (c : Core). Contains c.updates (Set row)) is there)
stored_step core new Restart row led steps there = inl (subst (λ (c : Core). Contains c.updates (Set row)) steps.is there)

stored : (core new : Core) (steps : List CoreStep) (row : Row) → LedWhileItRuns core → Runs core steps new → Contains new.updates (Set row) → Contains core.updates (Set row) ⊎ IsStoredBy core steps row
stored core new [] row led run there = inl (subst (λ (c : Core). Contains c.updates (Set row)) (sym run) there)
stored core new (step ∷ steps) row led run there = elim (stored run.0 new steps row (led_step core run.0 step led run.1) run.2 there) [
  | inl then_there ↦ elim (stored_step core run.0 step row led run.1 then_there) [
    | inl before ↦ inl before
    | inr here ↦ inr (record { front = []; step = step; rest = steps; parts = refl; stores = here.stores; before = core; run = refl; slot = here.slot; is = here.is })
  ]
  | inr later ↦ inr (record { front = step ∷ later.front; step = later.step; rest = later.rest; parts = ap (λ (l : List CoreStep). step ∷ l) later.parts; stores = later.stores; before = later.before; run = (run.0, run.1, later.run); slot = later.slot; is = later.is })
]

pub come_from_notes : (steps : List CoreStep) (core : Core) (row : Row) → Runs at_start steps core → Contains core.updates (Set row) → IsStoredBy at_start steps row
come_from_notes steps core row run there = elim (stored at_start core steps row at_first run there) [
  | inl none ↦ absurd (none_there (Set row) none)
  | inr by ↦ by
]
  where
    at_first : LedWhileItRuns at_start
    at_first _ = record { front = []; rest = []; parts = refl; over = record { in_order = tt; each = λ key. refl } }
