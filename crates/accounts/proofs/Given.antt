-- What one turn adds to what a file gave.
use Rattle.std.proofs.Common.{◌≡◌, ℕ, ◌+◌, List, [], ◌∷◌, ◌++◌, length, refl, sym, ap, ◌∙◌, append_assoc, append-nil, length-append, arith}
use Rattle.std.specs.List.{flat_map}
use Rattle.harvester.specs.History.{History, Telling, beginning, with_epoch}
use Rattle.harvester.specs.Turns.{Did, after_did, did_with}
use Rattle.harvester.specs.Turned.{events_told}
use Rattle.harvester.specs.declared.turn.Turn.{Turn}
use Rattle.harvester.specs.declared.turn.Turn.TheVariants as turn
use Rattle.told_events.specs.Told.{ToldEvent}
use Rattle.wire_base.specs.declared.note.Note.{Note}
use Rattle.wire_base.specs.declared.note.Note.TheVariants.{Announce}
use Rattle.wire_base.specs.declared.numbers.Slot.{Slot}
use Rattle.wire_base.specs.declared.parcel.Parcel.{Parcel}
use Rattle.slot_parts.specs.Tellings.{AreNumberedFrom, tellings_in}
use Rattle.accounts.specs.ToldFile.{AreEpochsFrom}
use Rattle.accounts.specs.Turned.{Turned, announced_in, events_in, notes_in, notes_told, parcels_by, parcels_in, parcels_of, parcels_told, settlements_by, settlements_in, settlements_of, spans_told}
use Rattle.accounts.proofs.Lists.{flat_map_both, flat_map_last}

-- ---- of tellings

module _ (slot : Slot) where
  parcels_last : (past : List Telling) (last : Telling) → flat_map (parcels_in slot) (past ++ last ∷ []) ≡ flat_map (parcels_in slot) past ++ parcels_in slot last
  parcels_last past last = flat_map_last (parcels_in slot) past last

  -- the last one goes on
  parcels_more : (past : List Telling) (last after : Telling) (more : List Parcel) → parcels_in slot after ≡ parcels_in slot last ++ more →
      flat_map (parcels_in slot) (past ++ after ∷ []) ≡ flat_map (parcels_in slot) (past ++ last ∷ []) ++ more
  parcels_more past last after more on =
      parcels_last past after ∙ ap (λ (l : List Parcel). flat_map (parcels_in slot) past ++ l) on
      ∙ sym (append_assoc (flat_map (parcels_in slot) past) (parcels_in slot last) more)
      ∙ ap (λ (l : List Parcel). l ++ more) (sym (parcels_last past last))

  notes_more : (past : List Telling) (last after : Telling) (more : List Note) → after.epoch ≡ last.epoch →
      settlements_in slot after ≡ settlements_in slot last ++ more → notes_in slot (past ++ after ∷ []) ≡ notes_in slot (past ++ last ∷ []) ++ more
  notes_more [] last after more same on =
      append-nil (settlements_in slot after) ∙ on ∙ ap (λ (l : List Note). l ++ more) (sym (append-nil (settlements_in slot last)))
  notes_more (first ∷ past) last after more same on =
      let front = settlements_in slot first in
      let announced : announced_in slot after ≡ announced_in slot last ++ more =
      ap (λ (n : ℕ). Announce slot (record { 0 = n }) ∷ settlements_in slot after) same ∙ ap (λ (l : List Note). Announce slot (record { 0 = last.epoch }) ∷ l) on in
      ap (λ (l : List Note). front ++ l) (
      flat_map_last (announced_in slot) past after
      ∙ ap (λ (l : List Note). flat_map (announced_in slot) past ++ l) announced
      ∙ sym (append_assoc (flat_map (announced_in slot) past) (announced_in slot last) more)
      ∙ ap (λ (l : List Note). l ++ more) (sym (flat_map_last (announced_in slot) past last))
      )
      ∙ sym (append_assoc front (flat_map (announced_in slot) (past ++ last ∷ [])) more)

  -- one more after it
  notes_next : (past : List Telling) (last next : Telling) → notes_in slot ((past ++ last ∷ []) ++ next ∷ []) ≡ notes_in slot (past ++ last ∷ []) ++ announced_in slot next
  notes_next [] last next =
      ap (λ (l : List Note). settlements_in slot last ++ l) (append-nil (announced_in slot next))
      ∙ ap (λ (l : List Note). l ++ announced_in slot next) (sym (append-nil (settlements_in slot last)))
  notes_next (first ∷ past) last next =
      ap (λ (l : List Note). settlements_in slot first ++ l) (flat_map_last (announced_in slot) (past ++ last ∷ []) next)
      ∙ sym (append_assoc (settlements_in slot first) (flat_map (announced_in slot) (past ++ last ∷ [])) (announced_in slot next))

events_more : (past : List Telling) (last after : Telling) (more : ℕ) → length after.told ≡ length last.told + more →
    events_in (past ++ after ∷ []) ≡ events_in (past ++ last ∷ []) + more
events_more [] last after more on = omega (arith, on)
events_more (first ∷ past) last after more on = omega (arith, events_more past last after more on)

events_next : (past : List Telling) (last next : Telling) → next.told ≡ [] → events_in ((past ++ last ∷ []) ++ next ∷ []) ≡ events_in (past ++ last ∷ [])
events_next [] last next none = let no : length next.told ≡ 0 = ap length none in omega (arith, no)
events_next (first ∷ past) last next none = omega (arith, events_next past last next none)

-- ---- their numbers

numbered_more : (before : ℕ) (past : List Telling) (last after : Telling) → after.epoch ≡ last.epoch → after.start ≡ last.start →
    AreNumberedFrom before (past ++ last ∷ []) → AreNumberedFrom before (past ++ after ∷ [])
numbered_more before [] last after epoch start are = (epoch ∙ are.0, start ∙ are.1, tt)
numbered_more before (first ∷ past) last after epoch start are = (are.0, are.1, numbered_more (before + 1) past last after epoch start are.2)

pub epochs_more : (epoch base : ℕ) (past : List Telling) (last after : Telling) → after.epoch ≡ last.epoch → after.start ≡ last.start →
    AreEpochsFrom epoch base (past ++ last ∷ []) → AreEpochsFrom epoch base (past ++ after ∷ [])
epochs_more epoch base [] last after same start are = (same ∙ are.0, start ∙ are.1, tt)
epochs_more epoch base (first ∷ past) last after same start are = (are.0, are.1, numbered_more epoch past last after same start are.2)

numbered_next : (before : ℕ) (past : List Telling) (last next : Telling) → next.epoch ≡ last.epoch + 1 → next.start ≡ 0 →
    AreNumberedFrom before (past ++ last ∷ []) → AreNumberedFrom before ((past ++ last ∷ []) ++ next ∷ [])
numbered_next before [] last next epoch start are = (are.0, are.1, (epoch ∙ ap (λ (n : ℕ). n + 1) are.0, start, tt))
numbered_next before (first ∷ past) last next epoch start are = (are.0, are.1, numbered_next (before + 1) past last next epoch start are.2)

pub epochs_next : (epoch base : ℕ) (past : List Telling) (last next : Telling) → next.epoch ≡ last.epoch + 1 → next.start ≡ 0 →
    AreEpochsFrom epoch base (past ++ last ∷ []) → AreEpochsFrom epoch base ((past ++ last ∷ []) ++ next ∷ [])
epochs_next epoch base [] last next one start are = (are.0, are.1, (one ∙ ap (λ (n : ℕ). n + 1) are.0, start, tt))
epochs_next epoch base (first ∷ past) last next one start are = (are.0, are.1, numbered_next epoch past last next one start are.2)

-- ---- of a history

abbrev pub of_slot : Slot → History → Turned
of_slot slot history = record { slot = slot; history = history }

module _ (slot : Slot) (now : ℕ) (did : Did) (history : History) where
  -- these events were reported
  module _ (events : List ToldEvent) where
    parcels_by_events : parcels_told (of_slot slot (did_with now events did history)) ≡ parcels_told (of_slot slot history) ++ parcels_of slot history.present.epoch events
    parcels_by_events =
        parcels_more slot history.past history.present (did_with now events did history).present (parcels_of slot history.present.epoch events)
        (flat_map_both (λ one. parcels_by slot history.present.epoch one.span one.fate) history.present.told events)

    notes_by_events : notes_told (of_slot slot (did_with now events did history)) ≡ notes_told (of_slot slot history) ++ settlements_of slot history.present.epoch events
    notes_by_events =
        notes_more slot history.past history.present (did_with now events did history).present (settlements_of slot history.present.epoch events) refl
        (flat_map_both (λ one. settlements_by slot history.present.epoch one.span one.fate) history.present.told events)

    spans_by_events : spans_told (of_slot slot (did_with now events did history)) ≡ spans_told (of_slot slot history) + length events
    spans_by_events =
        events_more history.past history.present (did_with now events did history).present (length events) (length-append history.present.told events)

  -- a new life
  parcels_by_epoch : parcels_told (of_slot slot (with_epoch history)) ≡ parcels_told (of_slot slot history) ++ []
  parcels_by_epoch = flat_map_last (parcels_in slot) (tellings_in history) (beginning (history.present.epoch + 1) 0)

  notes_by_epoch : notes_told (of_slot slot (with_epoch history)) ≡ notes_told (of_slot slot history) ++ Announce slot (record { 0 = history.present.epoch + 1 }) ∷ []
  notes_by_epoch = notes_next slot history.past history.present (beginning (history.present.epoch + 1) 0)

  spans_by_epoch : spans_told (of_slot slot (with_epoch history)) ≡ spans_told (of_slot slot history) + 0
  spans_by_epoch = let same = events_next history.past history.present (beginning (history.present.epoch + 1) 0) refl in omega (arith, same)

  -- ---- by what a turn answered

  abbrev pub notes_by : Turn → List Note
  notes_by (turn.NewLife epoch) = Announce slot (record { 0 = history.present.epoch + 1 }) ∷ []
  notes_by answer = settlements_of slot history.present.epoch (events_told history.path now answer)

  pub parcels_on : (answer : Turn) → parcels_told (of_slot slot (after_did now answer did history))
      ≡ parcels_told (of_slot slot history) ++ parcels_of slot history.present.epoch (events_told history.path now answer)
  parcels_on (turn.NewLife epoch) = parcels_by_epoch
  parcels_on answer = parcels_by_events (events_told history.path now answer)

  pub notes_on : (answer : Turn) → notes_told (of_slot slot (after_did now answer did history)) ≡ notes_told (of_slot slot history) ++ notes_by answer
  notes_on (turn.NewLife epoch) = notes_by_epoch
  notes_on answer = notes_by_events (events_told history.path now answer)

  pub spans_on : (answer : Turn) → spans_told (of_slot slot (after_did now answer did history)) ≡ spans_told (of_slot slot history) + length (events_told history.path now answer)
  spans_on (turn.NewLife epoch) = spans_by_epoch
  spans_on answer = spans_by_events (events_told history.path now answer)
