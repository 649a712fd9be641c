-- The registry machine's program: each step keeps what it keeps beside its state.
use Rattle.std.proofs.Common.{◌≡◌, ◌≢◌, inl, inr, ℕ, ◌+◌, ◌≤◌, Bool, true, false, List, [], ◌∷◌, ◌++◌, length, length-append, take, All, Option, Some, None, Result, Ok, Err, OnOk, refl, sym, ap, ◌∙◌, subst, arith}
use Rattle.std.specs.Option.{IsSome}
use Rattle.std.proofs.lemmas.Bool.{eq-eqb}
use Rattle.std.proofs.Math.Seq.{take-append-add}
use Rattle.std.proofs.lemmas.List.Elements.{All-push, All-nil}
use Rattle.wire_base.specs.Ranges.{IsNote, IsOp}
use Rattle.wire_base.specs.declared.row.Row.{Row}
use Rattle.wire_base.specs.declared.row.Op.{Op}
use Rattle.wire_base.specs.declared.note.Note.{Note}
use Rattle.wire_base.specs.declared.note.Note.TheVariants.{Begin, Announce, Settle, Rename, Seen, Forget}
use Rattle.ship_core.specs.Changes.{LeadTo, change_of, op_for}
use Rattle.wire_base.proofs.Keyed.{same_entries}
use Rattle.ship_core.specs.Machine.{Core, AreRowsOf, ArePending, IsCut, Renews, with_change}
use Rattle.ship_core.specs.Standing.{IsWorld}
use Rattle.ship_core.specs.Orderly.{AreOrderly, IsBegun, MayFollow}
use Rattle.ship_core.specs.Replay.{after_op, replay, replay_on}
use Rattle.ship_core.specs.RowOver.{Start, slot_of, notes_of, start_over}
use Rattle.ship_core.specs.Rows.{IsInOrder, find, key_of}
use Rattle.ship_core.specs.RowsOver.{AreRowsOver, row_for}
use Rattle.ship_core.proofs.Applied.{in_order-op}
use Rattle.ship_core.proofs.Built.{HasKey, has_key, put_here, put_others}
use Rattle.ship_core.proofs.InOrder.{none_orderly, one_more_orderly}
use Rattle.ship_core.proofs.Leading.{in_order-replay, key_cases, lead_with, no_other, nothing_leads}
use Rattle.ship_core.proofs.MoreNotes.{this_slot, start_still}
use Rattle.ship_core.proofs.Slots.{given, other_key}

pub replay_more : (rows : List Row) (ops more : List Op) → replay_on rows (ops ++ more) ≡ replay_on (replay_on rows ops) more
replay_more rows [] more = refl
replay_more rows (op ∷ ops) more = replay_more (after_op rows op) ops more

ordered_replay : (ops : List Op) → IsInOrder (replay ops)
ordered_replay ops = in_order-replay [] ops tt

-- ---- a note

still : (notes : List Note) (note : Note) → IsBegun (slot_of note) notes → (start : Start) × (start_over (notes_of (slot_of note) (notes ++ note ∷ [])) ≡ Some start)
still notes note begun = by_start (start_over (notes_of (slot_of note) notes)) refl begun
  where
    by_start : (o : Option Start) → start_over (notes_of (slot_of note) notes) ≡ o → IsSome o → (start : Start) × (start_over (notes_of (slot_of note) (notes ++ note ∷ [])) ≡ Some start)
    by_start None e some = absurd (let q : false ≡ true = some in cc)
    by_start (Some start) e some = (start, ap start_over (this_slot (slot_of note) notes note (eq-eqb (slot_of note) (slot_of note) refl)) ∙ start_still (notes_of (slot_of note) notes) (note ∷ []) start e)

-- an orderly list's last note has a slot that began
last_begun : (notes : List Note) (note : Note) → MayFollow notes note → (start : Start) × (start_over (notes_of (slot_of note) (notes ++ note ∷ [])) ≡ Some start)
last_begun notes (Begin slot key path epoch base changed) may = (
  record { key = key; path = path; epoch = epoch.0; base = base },
  ap start_over (this_slot slot.0 notes (Begin slot key path epoch base changed) (eq-eqb slot.0 slot.0 refl) ∙ ap (λ (l : List Note). l ++ Begin slot key path epoch base changed ∷ []) may),
)
last_begun notes (Announce slot epoch) may = still notes (Announce slot epoch) may
last_begun notes (Settle slot epoch span cause) may = still notes (Settle slot epoch span cause) may.0
last_begun notes (Rename slot scan path) may = still notes (Rename slot scan path) may.0
last_begun notes (Seen slot changed) may = still notes (Seen slot changed) may
last_begun notes (Forget slot epoch end) may = still notes (Forget slot epoch end) may

module _ (core : Core) (durable rows new_rows : List Row) (ops new_ops : List Op) (note : Note) (runs : core.runs ≡ true) (may : MayFollow core.notes note) (is : IsNote note) (was : IsWorld core durable rows ops) (renews : Renews core.opening (core.notes ++ note ∷ []) (slot_of note) durable rows new_rows ops new_ops) (in_range : All IsOp new_ops) where
  abbrev longer : List Note
  longer = core.notes ++ note ∷ []

  orderly : AreOrderly longer
  orderly = one_more_orderly core.notes note was.orderly may

  start : Start
  start = (last_begun core.notes note may).0

  begun : start_over (notes_of (slot_of note) longer) ≡ Some start
  unfolding start
  begun = (last_begun core.notes note may).1

  over : AreRowsOver core.opening core.notes rows
  over = was.are.running runs

  key_row : HasKey start.key (row_for core.opening longer start.key)
  key_row = has_key core.opening longer orderly start.key

  here : find start.key new_rows ≡ row_for core.opening longer start.key
  here = ap (find start.key) (renews.rows_are start begun) ∙ put_here start.key (row_for core.opening longer start.key) rows key_row

  others : (key : List ℕ) → key ≢ start.key → find key new_rows ≡ find key rows
  others key differs = ap (find key) (renews.rows_are start begun) ∙ put_others start.key key (row_for core.opening longer start.key) rows key_row differs

  in_order : IsInOrder new_rows
  in_order = subst IsInOrder (sym (renews.rows_are start begun)) (in_order-op rows (op_for start.key (row_for core.opening longer start.key)) over.in_order)

  -- another key is not the note's slot's
  same_row : (key : List ℕ) → key ≢ start.key → row_for core.opening longer key ≡ row_for core.opening core.notes key
  same_row key differs = other_key core.opening core.notes note key (λ there.
      let first = given longer key (slot_of note) orderly there in
      let q : Some first.0 ≡ Some start = sym first.1 ∙ begun in
      let same : first.0 ≡ start = cc in
      differs (sym first.2 ∙ ap (λ (s : Start). s.key) same))

  each : (key : List ℕ) → find key new_rows ≡ row_for core.opening longer key
  each key = elim (key_cases key start.key) [
    | inl same ↦ subst (λ (k : List ℕ). find k new_rows ≡ row_for core.opening longer k) (sym same) here
    | inr differs ↦ others key differs ∙ over.each key ∙ sym (same_row key differs)
  ]

  durable_ordered : IsInOrder durable
  durable_ordered = subst IsInOrder (sym was.stored) (ordered_replay core.updates)

  pub noted : IsWorld (record core { notes = longer }) durable new_rows new_ops
  noted = record {
    opening = was.opening;
    orderly = orderly;
    notes = All-push IsNote core.notes note was.notes is;
    stored = was.stored;
    are = record { running = λ e. record { in_order = in_order; each = each }; stopped = λ e. absurd (let q : true ≡ false = sym runs ∙ e in cc) };
    lead = subst (LeadTo durable new_rows) (sym (renews.ops_are start begun)) (lead_with durable rows new_rows ops start.key (row_for core.opening longer start.key) durable_ordered in_order was.lead key_row here others);
    ops = in_range;
  }

-- ---- what is pending

pub are_pending : (core : Core) (durable rows : List Row) (ops : List Op) → IsWorld core durable rows ops → ArePending core ops
are_pending core durable rows ops was = record { rows = rows; are = was.are; lead = subst (λ (d : List Row). LeadTo d rows ops) was.stored was.lead }

same_rows : (core : Core) (first second : List Row) → AreRowsOf core first → AreRowsOf core second → first ≡ second
same_rows core first second one other = by_case core.runs refl
  where
    by_case : (b : Bool) → core.runs ≡ b → first ≡ second
    by_case true is = let a = one.running is in let b = other.running is in same_entries key_of first second a.in_order b.in_order (λ key. a.each key ∙ sym (b.each key))
    by_case false is = one.stopped is ∙ sym (other.stopped is)

pub same_pending : (core : Core) (first second : List Op) → ArePending core first → ArePending core second → first ≡ second
same_pending core first second one other =
    no_other (replay core.updates) other.rows first second (subst (λ (rows : List Row). LeadTo (replay core.updates) rows first) (same_rows core one.rows other.rows one.are other.are) one.lead) other.lead

pub all_counted : (core : Core) (durable rows : List Row) (ops pending : List Op) (n m : ℕ) → IsWorld core durable rows ops → ArePending core pending → n ≡ length core.updates → m ≡ length ops → n + m ≡ length (core.updates ++ pending)
all_counted core durable rows ops pending n m was are committed ahead =
    let same = ap (length {A = Op}) (same_pending core ops pending (are_pending core durable rows ops was) are) in
    omega (arith, length-append core.updates pending, same, committed, ahead)

pub none_when_stopped : (core : Core) (durable rows : List Row) (ops : List Op) (n m : ℕ) → IsWorld core durable rows ops → core.runs ≡ false → m ≡ length ops → n + m ≡ n
none_when_stopped core durable rows ops n m was stopped ahead =
    let at_rest : rows ≡ durable = was.are.stopped stopped ∙ sym was.stored in
    let none = ap (length {A = Op}) (no_other durable durable ops [] (subst (λ (r : List Row). LeadTo durable r ops) at_rest was.lead) (nothing_leads durable)) in
    omega (arith, none, ahead)

-- a crash keeps no more than there is
pub cut_within : (core : Core) (durable rows : List Row) (ops : List Op) (left : ℕ) → IsWorld core durable rows ops → IsCut core left → left ≤ length core.updates + length ops
cut_within core durable rows ops left was cut = let most = cut.most ops (are_pending core durable rows ops was) in omega (arith, length-append core.updates ops, most)

-- ---- a commit, a crash and a restart

pub committed : (core : Core) (durable rows : List Row) (ops : List Op) → core.runs ≡ true → IsWorld core durable rows ops → IsWorld (record core { updates = core.updates ++ ops }) rows rows []
committed core durable rows ops runs was = record {
  opening = was.opening;
  orderly = was.orderly;
  notes = was.notes;
  stored = sym (replay_more [] core.updates ops ∙ ap (λ (d : List Row). replay_on d ops) (sym was.stored) ∙ was.lead.replayed);
  are = record { running = was.are.running; stopped = λ e. absurd (let q : true ≡ false = sym runs ∙ e in cc) };
  lead = nothing_leads rows;
  ops = All-nil IsOp;
}

pub committed_by : (core : Core) (durable rows : List Row) (ops updates : List Op) (new_durable : List Row) (left : List Op) → core.runs ≡ true → IsWorld core durable rows ops → updates ≡ core.updates ++ ops → new_durable ≡ rows → left ≡ [] → IsWorld (record core { updates = updates }) new_durable rows left
committed_by core durable rows ops updates new_durable left runs was updates_are durable_is left_is =
    let P : List Op → List Row → List Op → Type 0 = λ u d l. IsWorld (record core { updates = u }) d rows l in
    subst (λ (u : List Op). P u new_durable left) (sym updates_are)
    (subst (λ (d : List Row). P (core.updates ++ ops) d left) (sym durable_is)
    (subst (λ (l : List Op). P (core.updates ++ ops) rows l) (sym left_is) (committed core durable rows ops runs was)))

pub stopped_at : (core : Core) (durable rows left : List Row) (ops updates : List Op) → IsWorld core durable rows ops → left ≡ replay updates → IsWorld (record core { notes = []; updates = updates; runs = false }) left left []
stopped_at core durable rows left ops updates was stored = record {
  opening = was.opening;
  orderly = none_orderly;
  notes = All-nil IsNote;
  stored = stored;
  are = record { running = λ e. absurd (let q : false ≡ true = e in cc); stopped = λ e. stored };
  lead = nothing_leads left;
  ops = All-nil IsOp;
}

pub restarted : (core : Core) (durable rows : List Row) (ops : List Op) → IsWorld core durable rows ops → IsWorld (record { opening = durable; notes = []; updates = core.updates; runs = true }) durable durable []
restarted core durable rows ops was = record {
  opening = subst IsInOrder (sym was.stored) (ordered_replay core.updates);
  orderly = none_orderly;
  notes = All-nil IsNote;
  stored = was.stored;
  are = record { running = λ e. record { in_order = subst IsInOrder (sym was.stored) (ordered_replay core.updates); each = λ key. refl }; stopped = λ e. absurd (let q : true ≡ false = e in cc) };
  lead = nothing_leads durable;
  ops = All-nil IsOp;
}

pub crashed : (core : Core) (durable rows : List Row) (ops : List Op) (count : ℕ) (updates : List Op) (left also : List Row) → IsWorld core durable rows ops → updates ≡ take (length core.updates + count) (core.updates ++ ops) → left ≡ replay_on durable (take count ops) → also ≡ left → (none : List Op) → none ≡ [] → (notes : List Note) → notes ≡ [] → IsWorld (record core { notes = notes; updates = updates; runs = false }) left also none
crashed core durable rows ops count updates left also was updates_are left_is also_is none none_is notes notes_are =
    let stored : left ≡ replay updates =
    left_is ∙ ap (λ (d : List Row). replay_on d (take count ops)) was.stored
    ∙ sym (ap replay (updates_are ∙ take-append-add core.updates ops count) ∙ replay_more [] core.updates (take count ops)) in
    subst (λ (n : List Note). IsWorld (record core { notes = n; updates = updates; runs = false }) left also none) (sym notes_are)
    (subst (λ (l : List Op). IsWorld (record core { notes = []; updates = updates; runs = false }) left also l) (sym none_is)
    (subst (λ (a : List Row). IsWorld (record core { notes = []; updates = updates; runs = false }) left a []) (sym also_is)
    (stopped_at core durable rows left ops updates was stored)))

-- by the slot's key
pub renewed : {A E : Type 0} (r : Result A E) (opening : List Row) (notes : List Note) (slot : ℕ) (durable rows new_rows : List Row) (ops new_ops : List Op) (start : Start) → start_over (notes_of slot notes) ≡ Some start →
    OnOk r (new_rows ≡ after_op rows (op_for start.key (row_for opening notes start.key))) → OnOk r (new_ops ≡ with_change start.key (change_of start.key (find start.key durable) (row_for opening notes start.key)) ops) → OnOk r (Renews opening notes slot durable rows new_rows ops new_ops)
renewed (Ok a) opening notes slot durable rows new_rows ops new_ops start begun rows_are ops_are = record {
  rows_are = λ other e. let same = same_key_of other e in rows_are ∙ ap (λ (k : List ℕ). after_op rows (op_for k (row_for opening notes k))) same;
  ops_are = λ other e. let same = same_key_of other e in ops_are ∙ ap (λ (k : List ℕ). with_change k (change_of k (find k durable) (row_for opening notes k)) ops) same;
}
  where
    same_key_of : (other : Start) → start_over (notes_of slot notes) ≡ Some other → start.key ≡ other.key
    same_key_of other e = let q : Some start ≡ Some other = sym begun ∙ e in let same : start ≡ other = cc in ap (λ (s : Start). s.key) same
renewed (Err e) opening notes slot durable rows new_rows ops new_ops start begun rows_are ops_are = tt

-- with what a call's clauses say of its arguments
pub noted_by : (core : Core) (durable rows new_durable new_rows : List Row) (ops new_ops : List Op) (note : Note) (slot : ℕ) (notes given_notes : List Note) → core.runs ≡ true → MayFollow core.notes note → IsNote note → IsWorld core durable rows ops →
    slot ≡ slot_of note → notes ≡ core.notes ++ note ∷ [] → given_notes ≡ notes → new_durable ≡ durable → Renews core.opening given_notes slot durable rows new_rows ops new_ops → All IsOp new_ops → IsWorld (record core { notes = notes }) new_durable new_rows new_ops
noted_by core durable rows new_durable new_rows ops new_ops note slot notes given_notes runs may is was slot_is notes_are given_are durable_is renews in_range =
    let here : Renews core.opening (core.notes ++ note ∷ []) (slot_of note) durable rows new_rows ops new_ops =
    subst (λ (n : List Note). Renews core.opening n (slot_of note) durable rows new_rows ops new_ops) (given_are ∙ notes_are)
    (subst (λ (s : ℕ). Renews core.opening given_notes s durable rows new_rows ops new_ops) slot_is renews) in
    subst (λ (n : List Note). IsWorld (record core { notes = n }) new_durable new_rows new_ops) (sym notes_are)
    (subst (λ (d : List Row). IsWorld (record core { notes = core.notes ++ note ∷ [] }) d new_rows new_ops) (sym durable_is)
    (noted core durable rows new_rows ops new_ops note runs may is was here in_range))
