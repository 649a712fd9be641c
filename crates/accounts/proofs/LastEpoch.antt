-- Where a file of a done run stands by its notes: its last epoch is the greatest that they name, and what they settle of it is all
-- that was reported.
use Rattle.std.proofs.Common.{◌≡◌, ◌⊎◌, inl, inr, ℕ, ◌==◌, ◌≤◌, Bool, List, [], ◌∷◌, ◌++◌, Contains, map, None, Some, refl, sym, ap, subst, ◌∙◌, arith, if◌then◌else◌}
use Rattle.std.specs.List.{AllByRecursion, filter_map, flat_map}
use Rattle.std.proofs.lemmas.Bool.{eq-eqb, eqb-true, ne_eqb}
use Rattle.std.proofs.lemmas.List.Elements.{All-from_recursion, Contains-append_left, Contains-append_right}
use Rattle.batch_worker.specs.Held.{note_of, notes_of as settlements_of}
use Rattle.harvester.specs.History.{Telling, told_to}
use Rattle.kept_rows.specs.Scans.{AreDistinct}
use Rattle.kept_rows.specs.Run.{Run}
use Rattle.ship_core.proofs.Members.{first_there, given_there, greatest_least, later_there, member_within, passed_there, there_given, there_passed}
use Rattle.ship_core.proofs.Prefixes.{closes_all}
use Rattle.ship_core.specs.CoveredEnd.{Adjoin, covered_end}
use Rattle.ship_core.specs.RowOver.{Start, base_in, epoch_of, greatest_epoch, notes_of, offset_over, slot_of, span_in, spans_in}
use Rattle.told_events.specs.Fate.{DroppedBy, Fate, ShippedAs, cause_of_fate}
use Rattle.told_events.specs.Told.{ToldEvent, spans_of}
use Rattle.wire_base.specs.Extent.{Extent}
use Rattle.wire_base.specs.declared.note.Cause.{Cause}
use Rattle.wire_base.specs.declared.note.Cause.TheVariants.{Acked}
use Rattle.wire_base.specs.declared.note.Note.{Note}
use Rattle.wire_base.specs.declared.note.Note.TheVariants.{Announce, Begin, Settle}
use Rattle.wire_base.specs.declared.numbers.Epoch.{Epoch}
use Rattle.wire_base.specs.declared.numbers.Slot.{Slot}
use Rattle.wire_base.specs.declared.parcel.Parcel.{Parcel}
use Rattle.slot_parts.specs.Tellings.{tellings_in}
use Rattle.accounts.specs.RunDone.{AreAllCollected}
use Rattle.accounts.specs.Filed.{Filed, HasItsSlot, IsNoted, begun_in, its_begin, slot_in, turned_in, turned_of}
use Rattle.accounts.specs.Ground.{HasGround, IsEpochOf, IsNoteBy}
use Rattle.accounts.specs.Hidden.{AreBeside, Hidden}
use Rattle.accounts.specs.ToldNotes.{AreNotesOf}
use Rattle.accounts.specs.Same.{same_note, same_parcel}
use Rattle.accounts.specs.Taken.{Taken, acknowledged_in}
use Rattle.accounts.specs.ToldFile.{AreEpochsFrom}
use Rattle.accounts.specs.Turned.{Turned, notes_told, parcels_by, parcels_in, parcels_told, settlements_by}
use Rattle.accounts.proofs.Apart.{IsInEpochs}
use Rattle.accounts.proofs.Backing.{mapped_there}
use Rattle.accounts.proofs.LastNotes.{epochs_within, first_within, flat_there, last_there, numbered_to_last, own_note, present_is_named, settlement_there, starts_at_none}
use Rattle.accounts.proofs.Lists.{last_of_each}
use Rattle.accounts.proofs.Often.{often_back, often_contains}
use Rattle.accounts.proofs.Ordered.{settled_span}
use Rattle.accounts.proofs.Orderly.{member_is, one_epoch, same_item}
use Rattle.accounts.proofs.Same.{tells_notes, tells_parcels}

-- ---- of which epoch a collected note is

record IsOfEpoch (files : List Turned) (note : Note) : Type 0 where
  turned : Turned
  telling : Telling
  of : IsEpochOf files turned telling
  slot_is : slot_of note ≡ turned.slot.0
  epoch_is : epoch_of note ≡ Some telling.epoch

of_epoch : (files : List Turned) (acknowledged : List Parcel) (note : Note) → HasGround files acknowledged note → IsOfEpoch files note
of_epoch files acknowledged note (inl told) = by_kind told.is
  where
    by_kind : IsNoteBy told.turned told.telling note → IsOfEpoch files note
    by_kind (inl announced) = record { turned = told.turned; telling = told.telling; of = told.epoch; slot_is = ap slot_of announced; epoch_is = ap epoch_of announced }
    by_kind (inr settled) = record { turned = told.turned; telling = told.telling; of = told.epoch; slot_is = ap slot_of settled.is; epoch_is = ap epoch_of settled.is }
of_epoch files acknowledged note (inr settled) = record {
  turned = settled.of.turned;
  telling = settled.of.telling;
  of = settled.of.epoch;
  slot_is = ap slot_of settled.is ∙ ap (λ (s : Slot). s.0) settled.of.slot_is;
  epoch_is = ap epoch_of settled.is ∙ ap Some settled.of.epoch_is;
}

-- ---- where the present epoch begins

present_begins : (start : Start) (epoch base : ℕ) (past : List Telling) (present : Telling) → start.epoch ≡ epoch → start.base ≡ base → AreEpochsFrom epoch base (past ++ present ∷ []) →
    base_in start present.epoch ≡ present.start
present_begins start epoch base [] present number place are =
    ap (λ (b : Bool). if b then start.base else 0) (eq-eqb present.epoch start.epoch (are.0 ∙ sym number)) ∙ place ∙ sym are.1
present_begins start epoch base (first ∷ past) present number place are =
    let later = numbered_to_last epoch past present are.2 in
    ap (λ (b : Bool). if b then start.base else 0) (ne_eqb present.epoch start.epoch (λ same. omega (arith, later, same, number)))
    ∙ sym (last_of_each (λ (t : Telling). t.start ≡ 0) past present (starts_at_none epoch (past ++ present ∷ []) are.2))

module _ (run : Run) (files : List Filed) (hiddens : List Hidden) (workers : List Taken) (notes collected : List Note) (apart : AreDistinct (map slot_in files)) (beside : AreBeside files hiddens)
    (turned_apart : AreDistinct (map (λ (turned : Turned). turned.slot.0) (turned_of files))) (epochs : AllByRecursion IsInEpochs (turned_of files))
    (own : AllByRecursion HasItsSlot files) (are : AreNotesOf run files hiddens (acknowledged_in workers) notes) (within : (note : Note) → Contains collected note → Contains notes note)
    (settled : AreAllCollected (turned_of files) workers collected) where
  -- ---- what was reported is collected

  told_is_collected : (turned : Turned) (note : Note) → Contains (turned_of files) turned → Contains (notes_told turned) note → Contains collected note
  told_is_collected turned note among there =
      let all = flat_map notes_told (turned_of files) ++ settlements_of (acknowledged_in workers) in
      often_contains same_note tells_notes collected all note (often_back all collected settled.notes_are)
      (Contains-append_left (flat_map notes_told (turned_of files)) (settlements_of (acknowledged_in workers)) note (flat_there notes_told (turned_of files) turned note among there))

  parcel_is_settled : (turned : Turned) (parcel : Parcel) → Contains (turned_of files) turned → Contains (parcels_told turned) parcel → Contains collected (note_of parcel)
  parcel_is_settled turned parcel among there =
      let acknowledged : Contains (acknowledged_in workers) parcel =
      often_contains same_parcel tells_parcels (acknowledged_in workers) (flat_map parcels_told (turned_of files)) parcel
      (often_back (flat_map parcels_told (turned_of files)) (acknowledged_in workers) settled.parcels_are) (flat_there parcels_told (turned_of files) turned parcel among there) in
      let all = flat_map notes_told (turned_of files) ++ settlements_of (acknowledged_in workers) in
      often_contains same_note tells_notes collected all (note_of parcel) (often_back all collected settled.notes_are)
      (Contains-append_right (flat_map notes_told (turned_of files)) (settlements_of (acknowledged_in workers)) (note_of parcel)
      (mapped_there note_of (acknowledged_in workers) parcel acknowledged))

  pub record IsEventSettled (slot epoch : ℕ) (span : Extent) : Type 0 where
    pub of_slot : Slot
    pub of_epoch : Epoch
    pub cause : Cause
    pub slot_is : of_slot.0 ≡ slot
    pub epoch_is : of_epoch.0 ≡ epoch
    pub there : Contains collected (Settle of_slot of_epoch span cause)

  event_is_settled : (turned : Turned) (telling : Telling) (event : ToldEvent) → Contains (turned_of files) turned → Contains (tellings_in turned.history) telling →
      Contains telling.told event → IsEventSettled turned.slot.0 telling.epoch event.span
  event_is_settled turned telling event among there told = by_fate event.fate refl
    where
      by_fate : (fate : Fate) → event.fate ≡ fate → IsEventSettled turned.slot.0 telling.epoch event.span
      by_fate (DroppedBy rule) is =
          let note = Settle turned.slot (record { 0 = telling.epoch }) event.span (cause_of_fate (DroppedBy rule)) in
          let given : Contains (settlements_by turned.slot telling.epoch event.span event.fate) note =
          subst (λ (fate : Fate). Contains (settlements_by turned.slot telling.epoch event.span fate) note) (sym is) (first_there note []) in
          record {
            of_slot = turned.slot;
            of_epoch = record { 0 = telling.epoch };
            cause = cause_of_fate (DroppedBy rule);
            slot_is = refl;
            epoch_is = refl;
            there = told_is_collected turned note among
                (settlement_there turned.slot (tellings_in turned.history) telling note there
                (flat_there (λ (one : ToldEvent). settlements_by turned.slot telling.epoch one.span one.fate) telling.told event note told given));
          }
      by_fate (ShippedAs payload) is =
          let parcel : Parcel = record { slot = turned.slot; epoch = record { 0 = telling.epoch }; span = event.span; payload = payload } in
          let given : Contains (parcels_by turned.slot telling.epoch event.span event.fate) parcel =
          subst (λ (fate : Fate). Contains (parcels_by turned.slot telling.epoch event.span fate) parcel) (sym is) (first_there parcel []) in
          record {
            of_slot = turned.slot;
            of_epoch = record { 0 = telling.epoch };
            cause = Acked;
            slot_is = refl;
            epoch_is = refl;
            there = parcel_is_settled turned parcel among
                (flat_there (parcels_in turned.slot) (tellings_in turned.history) telling parcel there
                (flat_there (λ (one : ToldEvent). parcels_by turned.slot telling.epoch one.span one.fate) telling.told event parcel told given));
          }

  -- ---- a file

  module _ (file : Filed) (among : Contains files file) where
    abbrev present : Telling
    present = (turned_in file).history.present

    abbrev own_notes : List Note
    own_notes = notes_of (slot_in file) notes

    turned_there : Contains (turned_of files) (turned_in file)
    turned_there = mapped_there turned_in files file among

    slot_is : (turned_in file).slot.0 ≡ slot_in file
    slot_is = ap (λ (s : Slot). s.0) (member_is HasItsSlot files file own among)

    of_its_slot : (turned : Turned) → Contains (turned_of files) turned → turned.slot.0 ≡ slot_in file → turned ≡ (turned_in file)
    of_its_slot turned there same =
        same_item (λ (t : Turned). t.slot.0) (turned_of files) turned (turned_in file) turned_apart there turned_there (same ∙ sym slot_is)

    collected_own : (note : Note) → Contains collected note → slot_of note ≡ slot_in file → Contains own_notes note
    collected_own note there same =
        passed_there (λ (n : Note). slot_of n == slot_in file) notes note (within note there) (eq-eqb (slot_of note) (slot_in file) same)

    -- ---- the greatest epoch

    module _ (numbered : AreEpochsFrom (begun_in file).epoch (begun_in file).base (tellings_in (turned_in file).history)) where
      some_is : (given epoch : ℕ) → Some given ≡ Some epoch → given ≡ epoch
      some_is given epoch e = cc

      epoch_within : (note : Note) (epoch : ℕ) → Contains notes note → slot_of note ≡ slot_in file → epoch_of note ≡ Some epoch → epoch ≤ present.epoch
      epoch_within note epoch there slot names =
          own_note run files hiddens (acknowledged_in workers) notes apart beside are file among (λ (n : Note). epoch_of n ≡ Some epoch → slot_of n ≡ slot_in file → epoch ≤ present.epoch)
          (λ n begin e of_slot.
          let is = some_is (begun_in file).epoch epoch (sym (ap epoch_of begin.is) ∙ e) in
          let least = first_within (begun_in file).epoch (begun_in file).base (turned_in file).history.past present numbered in
          omega (arith, is, least))
          (λ n seen same e of_slot. absurd (let q : None ≡ Some epoch = sym (ap epoch_of seen.is) ∙ e in cc))
          (λ n ground e of_slot.
          let of = of_epoch (turned_of files) (acknowledged_in workers) n ground in
          let same = of_its_slot of.turned of.of.of_files (sym of.slot_is ∙ of_slot) in
          let is = some_is of.telling.epoch epoch (sym of.epoch_is ∙ e) in
          let most = epochs_within (begun_in file).epoch (begun_in file).base (turned_in file).history.past present of.telling numbered
          (subst (λ (t : Turned). Contains (tellings_in t.history) of.telling) same of.of.of_file) in
          omega (arith, is, most))
          (λ n named e of_slot. absurd (let q : None ≡ Some epoch = sym (ap epoch_of named.is) ∙ e in cc))
          (λ n forget e of_slot. let is = some_is present.epoch epoch (sym (ap epoch_of forget.is) ∙ e) in omega (arith, is))
          note there slot names slot

      present_named : (noted : IsNoted notes file) → Contains (filter_map epoch_of own_notes) present.epoch
      present_named noted = by_case (present_is_named (turned_in file).slot (begun_in file).epoch (begun_in file).base (turned_in file).history.past present numbered)
        where
          by_case : (present.epoch ≡ (begun_in file).epoch) ⊎ Contains (notes_told (turned_in file)) (Announce (turned_in file).slot (record { 0 = present.epoch })) →
              Contains (filter_map epoch_of own_notes) present.epoch
          by_case (inl is) =
              let begin = its_begin file noted.path noted.changed in
              let there = passed_there (λ (n : Note). slot_of n == slot_in file) notes begin noted.there (eq-eqb (slot_in file) (slot_in file) refl) in
              subst (λ (n : ℕ). Contains (filter_map epoch_of own_notes) n) (sym is) (given_there epoch_of own_notes begin (begun_in file).epoch there refl)
          by_case (inr announced) =
              let note = Announce (turned_in file).slot (record { 0 = present.epoch }) in
              given_there epoch_of own_notes note present.epoch (collected_own note (told_is_collected (turned_in file) note turned_there announced) slot_is) refl

      pub epoch_is : greatest_epoch own_notes ≡ present.epoch
      epoch_is =
          let most = greatest_least 0 present.epoch (filter_map epoch_of own_notes) (omega arith) (λ epoch given.
          let found = there_given epoch_of own_notes epoch given in
          let passed = there_passed (λ (n : Note). slot_of n == slot_in file) notes found.0 found.1 in
          epoch_within found.0 epoch passed.0 (eqb-true (slot_of found.0) (slot_in file) passed.1) found.2) in
          let least = member_within 0 (filter_map epoch_of own_notes) present.epoch (present_named (member_is (IsNoted notes) files file are.begun among)) in
          omega (arith, most, least)

    -- ---- its offset

    present_there : Contains (tellings_in (turned_in file).history) present
    present_there = last_there (turned_in file).history.past present

    event_known : (event : ToldEvent) → Contains present.told event → Contains (spans_in present.epoch own_notes) event.span
    event_known event told =
        let is = event_is_settled (turned_in file) present event turned_there present_there told in
        let note = Settle is.of_slot is.of_epoch event.span is.cause in
        given_there (span_in present.epoch) own_notes note event.span (collected_own note is.there (is.slot_is ∙ slot_is))
        (ap (λ (b : Bool). if b then Some event.span else None) (eq-eqb is.of_epoch.0 present.epoch is.epoch_is))

    span_known : (span : Extent) → Contains (spans_in present.epoch own_notes) span → Contains (spans_of present.told) span
    span_known span there =
        let found = there_given (span_in present.epoch) own_notes span there in
        let passed = there_passed (λ (n : Note). slot_of n == slot_in file) notes found.0 found.1 in
        let slot = eqb-true (slot_of found.0) (slot_in file) passed.1 in
        own_note run files hiddens (acknowledged_in workers) notes apart beside are file among
        (λ (n : Note). span_in present.epoch n ≡ Some span → slot_of n ≡ slot_in file → Contains (spans_of present.told) span)
        (λ n begin is of_slot. absurd (let q : None ≡ Some span = sym (ap (span_in present.epoch) begin.is) ∙ is in cc))
        (λ n seen same is of_slot. absurd (let q : None ≡ Some span = sym (ap (span_in present.epoch) seen.is) ∙ is in cc))
        (λ n ground is of_slot.
        let of = settled_span (turned_of files) (acknowledged_in workers) (slot_in file) present.epoch span n ground of_slot is in
        let telling : of.telling ≡ present =
        one_epoch (turned_of files) turned_apart epochs of.turned (turned_in file) of.telling present of.of (record { of_files = turned_there; of_file = present_there })
        (of.slot_is ∙ sym slot_is) of.epoch_is in
        subst (λ (e : Extent). Contains (spans_of present.told) e) of.span_is
        (mapped_there (λ (one : ToldEvent). one.span) present.told of.event (subst (λ (t : Telling). Contains t.told of.event) telling of.told)))
        (λ n named is of_slot. absurd (let q : None ≡ Some span = sym (ap (span_in present.epoch) named.is) ∙ is in cc))
        (λ n forget is of_slot. absurd (let q : None ≡ Some span = sym (ap (span_in present.epoch) forget.is) ∙ is in cc))
        found.0 passed.0 slot found.2 slot

    -- the covered end of what its notes settle is where the last event ends
    pub covers_all : Adjoin present.start (spans_of present.told) → covered_end (spans_in present.epoch own_notes) present.start ≡ told_to present
    covers_all adjoin =
        closes_all (spans_of present.told) (spans_in present.epoch own_notes) present.start adjoin (λ span there from some. span_known span there)
        (All-from_recursion (Contains (spans_in present.epoch own_notes)) (spans_of present.told) (all_known present.told event_known))
      where
        all_known : (told : List ToldEvent) → ((event : ToldEvent) → Contains told event → Contains (spans_in present.epoch own_notes) event.span) →
            AllByRecursion (Contains (spans_in present.epoch own_notes)) (spans_of told)
        all_known [] known = tt
        all_known (event ∷ told) known = (known event (first_there event told), all_known told (λ other there. known other (later_there event other told there)))

    -- it begins at the base of its Begin, or at the first byte
    pub offset_is : (start : Start) → start.epoch ≡ (begun_in file).epoch → start.base ≡ (begun_in file).base →
        AreEpochsFrom (begun_in file).epoch (begun_in file).base (tellings_in (turned_in file).history) → greatest_epoch own_notes ≡ present.epoch →
        Adjoin present.start (spans_of present.told) → offset_over start own_notes ≡ told_to present
    offset_is start number base numbered epoch adjoin =
        let base_is : base_in start (greatest_epoch own_notes) ≡ present.start =
        ap (base_in start) epoch ∙ present_begins start (begun_in file).epoch (begun_in file).base (turned_in file).history.past present number base numbered in
        ap (covered_end (spans_in (greatest_epoch own_notes) own_notes)) base_is
        ∙ ap (λ (n : ℕ). covered_end (spans_in n own_notes) present.start) epoch
        ∙ covers_all adjoin
