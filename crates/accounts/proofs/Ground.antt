-- What is in lists of what files gave.
use Rattle.std.proofs.Common.{◌≡◌, ◌⊎◌, inl, inr, ℕ, List, [], ◌∷◌, Contains, refl, sym, ap, ◌∙◌}
use Rattle.std.specs.List.{flat_map}
use Rattle.std.proofs.lemmas.List.Elements.{Contains-append_cases}
use Rattle.harvester.specs.History.{Telling}
use Rattle.ship_core.proofs.Members.{first_there, later_there, none_there, there_cases}
use Rattle.told_events.specs.Fate.{DroppedBy, Fate, ShippedAs, cause_of_fate}
use Rattle.told_events.specs.Told.{ToldEvent}
use Rattle.wire_base.specs.Extent.{Extent}
use Rattle.wire_base.specs.declared.note.Note.{Note}
use Rattle.wire_base.specs.declared.note.Note.TheVariants.{Announce, Settle}
use Rattle.wire_base.specs.declared.numbers.Slot.{Slot}
use Rattle.wire_base.specs.declared.parcel.Parcel.{Parcel}
use Rattle.slot_parts.specs.Tellings.{tellings_in}
use Rattle.accounts.specs.Ground.{IsNoteBy, IsNoteOf, IsParcelOf, IsSettlementOf}
use Rattle.accounts.specs.Turned.{Turned, announced_in, notes_in, notes_told, parcels_by, parcels_in, parcels_told, settlements_by, settlements_in}

-- of which item
pub record IsOfItem {A B : Type 0} (f : A → List B) (xs : List A) (y : B) : Type 0 where
  pub item : A
  pub among : Contains xs item
  pub there : Contains (f item) y

pub item_of : {A B : Type 0} (f : A → List B) (xs : List A) (y : B) → Contains (flat_map f xs) y → IsOfItem f xs y
item_of f [] y there = absurd (none_there y there)
item_of f (x ∷ xs) y there = by_case (Contains-append_cases (f x) (flat_map f xs) y there) (item_of f xs y)
  where
    by_case : Contains (f x) y ⊎ Contains (flat_map f xs) y → (Contains (flat_map f xs) y → IsOfItem f xs y) → IsOfItem f (x ∷ xs) y
    by_case (inl here) others = record { item = x; among = first_there x xs; there = here }
    by_case (inr later) others = let of = others later in record { item = of.item; among = later_there x of.item xs of.among; there = of.there }

-- ---- parcels

pub record IsParcelBy (slot : Slot) (epoch : ℕ) (span : Extent) (fate : Fate) (parcel : Parcel) : Type 0 where
  pub slot_is : parcel.slot ≡ slot
  pub epoch_is : parcel.epoch.0 ≡ epoch
  pub span_is : parcel.span ≡ span
  pub fate_is : fate ≡ ShippedAs parcel.payload

pub parcel_by : (slot : Slot) (epoch : ℕ) (span : Extent) (fate : Fate) (parcel : Parcel) → Contains (parcels_by slot epoch span fate) parcel → IsParcelBy slot epoch span fate parcel
parcel_by slot epoch span (DroppedBy rule) parcel there = absurd (none_there parcel there)
parcel_by slot epoch span (ShippedAs payload) parcel there =
    let made : Parcel = record { slot = slot; epoch = record { 0 = epoch }; span = span; payload = payload } in
    by_case made (there_cases made parcel [] there) refl refl refl refl
  where
    by_case : (made : Parcel) → (made ≡ parcel) ⊎ Contains [] parcel → made.slot ≡ slot → made.epoch.0 ≡ epoch → made.span ≡ span → ShippedAs payload ≡ ShippedAs made.payload →
        IsParcelBy slot epoch span (ShippedAs payload) parcel
    by_case made (inr nothing) slot_is epoch_is span_is fate_is = absurd (none_there parcel nothing)
    by_case made (inl same) slot_is epoch_is span_is fate_is = record {
      slot_is = ap (λ (p : Parcel). p.slot) (sym same) ∙ slot_is;
      epoch_is = ap (λ (p : Parcel). p.epoch.0) (sym same) ∙ epoch_is;
      span_is = ap (λ (p : Parcel). p.span) (sym same) ∙ span_is;
      fate_is = fate_is ∙ ap (λ (p : Parcel). ShippedAs p.payload) same;
    }

pub parcels_have_ground : (files : List Turned) (parcel : Parcel) → Contains (flat_map parcels_told files) parcel → IsParcelOf files parcel
parcels_have_ground files parcel there =
    let of_file = item_of parcels_told files parcel there in
    let of_telling = item_of (parcels_in of_file.item.slot) (tellings_in of_file.item.history) parcel of_file.there in
    let of_event = item_of (λ (one : ToldEvent). parcels_by of_file.item.slot of_telling.item.epoch one.span one.fate) of_telling.item.told parcel of_telling.there in
    let by = parcel_by of_file.item.slot of_telling.item.epoch of_event.item.span of_event.item.fate parcel of_event.there in
    record {
      turned = of_file.item;
      telling = of_telling.item;
      epoch = record { of_files = of_file.among; of_file = of_telling.among };
      event = of_event.item;
      told = of_event.among;
      slot_is = by.slot_is;
      epoch_is = by.epoch_is;
      span_is = by.span_is;
      fate_is = by.fate_is;
    }

-- ---- notes

settlement_by : (turned : Turned) (telling : Telling) (event : ToldEvent) (fate : Fate) (note : Note) → event.fate ≡ fate → Contains telling.told event →
    Contains (settlements_by turned.slot telling.epoch event.span fate) note → IsSettlementOf turned telling note
settlement_by turned telling event (ShippedAs payload) note is told there = absurd (none_there note there)
settlement_by turned telling event (DroppedBy rule) note is told there =
    by_case (there_cases (Settle turned.slot (record { 0 = telling.epoch }) event.span (cause_of_fate (DroppedBy rule))) note [] there)
  where
    by_case : (Settle turned.slot (record { 0 = telling.epoch }) event.span (cause_of_fate (DroppedBy rule)) ≡ note) ⊎ Contains [] note → IsSettlementOf turned telling note
    by_case (inl same) = record { event = event; told = told; rule = rule; fate_is = is; is = sym same }
    by_case (inr nothing) = absurd (none_there note nothing)

settlement_of : (turned : Turned) (telling : Telling) (note : Note) → Contains (settlements_in turned.slot telling) note → IsSettlementOf turned telling note
settlement_of turned telling note there =
    let of_event = item_of (λ (one : ToldEvent). settlements_by turned.slot telling.epoch one.span one.fate) telling.told note there in
    settlement_by turned telling of_event.item of_event.item.fate note refl of_event.among of_event.there

announced_by : (turned : Turned) (telling : Telling) (note : Note) → Contains (announced_in turned.slot telling) note → IsNoteBy turned telling note
announced_by turned telling note there = by_case (there_cases (Announce turned.slot (record { 0 = telling.epoch })) note (settlements_in turned.slot telling) there)
  where
    by_case : (Announce turned.slot (record { 0 = telling.epoch }) ≡ note) ⊎ Contains (settlements_in turned.slot telling) note → IsNoteBy turned telling note
    by_case (inl same) = inl (sym same)
    by_case (inr later) = inr (settlement_of turned telling note later)

record IsByTelling (turned : Turned) (tellings : List Telling) (note : Note) : Type 0 where
  telling : Telling
  among : Contains tellings telling
  is : IsNoteBy turned telling note

note_by : (turned : Turned) (tellings : List Telling) (note : Note) → Contains (notes_in turned.slot tellings) note → IsByTelling turned tellings note
note_by turned [] note there = absurd (none_there note there)
note_by turned (first ∷ later) note there =
    by_case (Contains-append_cases (settlements_in turned.slot first) (flat_map (announced_in turned.slot) later) note there)
  where
    by_case : Contains (settlements_in turned.slot first) note ⊎ Contains (flat_map (announced_in turned.slot) later) note → IsByTelling turned (first ∷ later) note
    by_case (inl here) = record { telling = first; among = first_there first later; is = inr (settlement_of turned first note here) }
    by_case (inr behind) =
        let of = item_of (announced_in turned.slot) later note behind in
        record { telling = of.item; among = later_there first of.item later of.among; is = announced_by turned of.item note of.there }

pub notes_have_ground : (files : List Turned) (note : Note) → Contains (flat_map notes_told files) note → IsNoteOf files note
notes_have_ground files note there =
    let of_file = item_of notes_told files note there in
    let by = note_by of_file.item (tellings_in of_file.item.history) note of_file.there in
    record { turned = of_file.item; telling = by.telling; epoch = record { of_files = of_file.among; of_file = by.among }; is = by.is }
