-- Each note that is collected may follow the orderly notes before it, in whichever order those were reported and collected: it is of one of the
-- files, whose Begin is among them, and no two events of one epoch overlap.
use Rattle.std.proofs.Common.{◌≡◌, ◌⊎◌, inl, inr, ℕ, ◌+◌, ◌==◌, ◌<◌, ◌≤◌, Bool, true, false, All, List, [], ◌∷◌, ◌++◌, Contains, map, Some, None, refl, sym, ap, subst, ◌∙◌, append-nil, arith, if◌then◌else◌}
use Rattle.std.specs.List.{AllByRecursion}
use Rattle.std.proofs.lemmas.Bool.{eqb-true, ne_eqb}
use Rattle.std.proofs.lemmas.List.Elements.{All-from_recursion, Contains-append_right}
use Rattle.harvester.specs.History.{Telling}
use Rattle.kept_rows.proofs.Showing.{both}
use Rattle.kept_rows.specs.Scans.{AreDistinct}
use Rattle.kept_rows.specs.Run.{Run}
use Rattle.ship_core.proofs.Members.{first_there, none_there, there_cases, there_given, there_passed}
use Rattle.ship_core.specs.CoveredEnd.{AreEqualOrApart}
use Rattle.ship_core.specs.Orderly.{AreOrderly, IsBegun, MayFollow}
use Rattle.ship_core.specs.RowOver.{notes_of, slot_of, span_in, spans_in}
use Rattle.told_events.proofs.Going.{all_front}
use Rattle.told_events.specs.Fate.{DroppedBy, cause_of_fate}
use Rattle.told_events.specs.Told.{ToldEvent}
use Rattle.wire_base.specs.Extent.{Extent}
use Rattle.wire_base.specs.declared.note.Cause.{Cause}
use Rattle.wire_base.specs.declared.note.Cause.TheVariants.{Acked}
use Rattle.wire_base.specs.declared.note.Note.{Note}
use Rattle.wire_base.specs.declared.note.Note.TheVariants.{Announce, Begin, Forget, Rename, Seen, Settle}
use Rattle.wire_base.specs.declared.numbers.Epoch.{Epoch}
use Rattle.wire_base.specs.declared.numbers.Slot.{Slot}
use Rattle.wire_base.specs.declared.parcel.Parcel.{Parcel}
use Rattle.accounts.specs.Filed.{Filed, HasItsSlot, slot_in, turned_of}
use Rattle.accounts.specs.FollowedFile.{AreInSlots}
use Rattle.accounts.specs.Ground.{HasGround, IsEpochOf, IsNoteBy}
use Rattle.accounts.specs.Hidden.{Hidden, hidden_begin, hidden_forget}
use Rattle.accounts.specs.ToldNotes.{IsForgetOf, IsNamingOf, MayTell}
use Rattle.accounts.specs.Turned.{Turned}
use Rattle.accounts.proofs.Begins.{HasItsBegin, begin_begins, begins_still}
use Rattle.accounts.proofs.Lists.{each_then}
use Rattle.accounts.proofs.Grounded.{each_member}
use Rattle.accounts.proofs.Orderly.{member_is}

-- ---- one after another

-- where two lists are parted before an item: within the first, or within the second
parted : (front more before : List Note) (note : Note) (behind : List Note) → front ++ more ≡ before ++ note ∷ behind →
    ((rest : List Note) × (front ≡ before ++ note ∷ rest)) ⊎ ((own : List Note) × (before ≡ front ++ own) × (more ≡ own ++ note ∷ behind))
parted [] more before note behind e = inr (before, refl, e)
parted (first ∷ front) more [] note behind e =
    let q : first ∷ (front ++ more) ≡ note ∷ behind = e in
    let same : first ≡ note = cc in
    inl (front, ap (λ (n : Note). n ∷ front) same)
parted (first ∷ front) more (other ∷ before) note behind e =
    let q : first ∷ (front ++ more) ≡ other ∷ (before ++ note ∷ behind) = e in
    let same : first ≡ other = cc in
    let later : front ++ more ≡ before ++ note ∷ behind = cc in
    by_case same (parted front more before note behind later)
  where
    by_case : first ≡ other → ((rest : List Note) × (front ≡ before ++ note ∷ rest)) ⊎ ((own : List Note) × (before ≡ front ++ own) × (more ≡ own ++ note ∷ behind)) →
        ((rest : List Note) × (first ∷ front ≡ other ∷ (before ++ note ∷ rest))) ⊎ ((own : List Note) × (other ∷ before ≡ first ∷ (front ++ own)) × (more ≡ own ++ note ∷ behind))
    by_case same (inl within) = inl (within.0, λ k. same k ∷ within.1 k)
    by_case same (inr at) = inr (at.0, (λ k. sym same k ∷ at.1 k), at.2)

pub none_orderly : AreOrderly []
none_orderly = record { each = λ front note rest e. absurd (nothing front note rest e) }
  where
    nothing : (front : List Note) (note : Note) (rest : List Note) → [] ≡ front ++ note ∷ rest → ⊥
    nothing [] note rest e = cc
    nothing (first ∷ front) note rest e = cc

orderly_on : (front more : List Note) → AreOrderly front → ((before : List Note) (note : Note) (behind : List Note) → more ≡ before ++ note ∷ behind → MayFollow (front ++ before) note) →
    AreOrderly (front ++ more)
orderly_on front more is each = record { each = λ before note behind e. by_case before note behind (parted front more before note behind e) }
  where
    by_case : (before : List Note) (note : Note) (behind : List Note) →
        ((rest : List Note) × (front ≡ before ++ note ∷ rest)) ⊎ ((own : List Note) × (before ≡ front ++ own) × (more ≡ own ++ note ∷ behind)) → MayFollow before note
    by_case before note behind (inl within) = is.each before note within.0 within.1
    by_case before note behind (inr at) = subst (λ (l : List Note). MayFollow l note) (sym at.1) (each at.0 note behind at.2)

pub one_more_orderly : (front : List Note) (note : Note) → AreOrderly front → MayFollow front note → AreOrderly (front ++ note ∷ [])
one_more_orderly front note is may = orderly_on front (note ∷ []) is by_case
  where
    by_case : (before : List Note) (next : Note) (behind : List Note) → note ∷ [] ≡ before ++ next ∷ behind → MayFollow (front ++ before) next
    by_case [] next behind e =
        let same : note ≡ next = cc in
        subst (MayFollow (front ++ [])) same (subst (λ (l : List Note). MayFollow l note) (sym (append-nil front)) may)
    by_case (first ∷ []) next behind e = absurd cc
    by_case (first ∷ second ∷ before) next behind e = absurd cc

-- ---- Begins

abbrev pub HasSlotBelow : ℕ → Note → Type 0
HasSlotBelow slot note = slot_of note < slot

pub none_of_slot : (slot : ℕ) (notes : List Note) → AllByRecursion (HasSlotBelow slot) notes → notes_of slot notes ≡ []
none_of_slot slot [] below = refl
none_of_slot slot (note ∷ notes) below =
    let other : (slot_of note == slot) ≡ false = ne_eqb (slot_of note) slot (λ same. let less = below.0 in omega (arith, less, same)) in
    ap (λ (b : Bool). if b then note ∷ notes_of slot notes else notes_of slot notes) other ∙ none_of_slot slot notes below.1

pub below_more : (least more : ℕ) (notes : List Note) → least ≤ more → AllByRecursion (HasSlotBelow least) notes → AllByRecursion (HasSlotBelow more) notes
below_more least more [] le below = tt
below_more least more (note ∷ notes) le below = (let less = below.0 in omega (arith, le, less), below_more least more notes le below.1)

pub below_then : (slot : ℕ) (notes : List Note) (note : Note) → AllByRecursion (HasSlotBelow slot) notes → slot_of note < slot → AllByRecursion (HasSlotBelow slot) (notes ++ note ∷ [])
below_then slot [] note below less = (less, tt)
below_then slot (first ∷ notes) note below less = (below.0, below_then slot notes note below.1 less)

-- ---- what was collected

-- it announces or settles
abbrev pub IsCollectable : Note → Type 0
IsCollectable (Begin slot key path epoch base changed) = ⊥
IsCollectable (Announce slot epoch) = Unit {0}
IsCollectable (Settle slot epoch span cause) = Unit {0}
IsCollectable (Rename slot scan path) = ⊥
IsCollectable (Seen slot changed) = ⊥
IsCollectable (Forget slot epoch end) = ⊥

pub record IsSettledEvent (files : List Turned) (slot epoch : ℕ) (span : Extent) : Type 0 where
  pub turned : Turned
  pub telling : Telling
  pub of : IsEpochOf files turned telling
  pub event : ToldEvent
  pub told : Contains telling.told event
  pub slot_is : turned.slot.0 ≡ slot
  pub epoch_is : telling.epoch ≡ epoch
  pub span_is : event.span ≡ span

module _ (files : List Turned) (acknowledged : List Parcel) where
  settled_event : (slot : Slot) (epoch : Epoch) (span : Extent) (cause : Cause) → HasGround files acknowledged (Settle slot epoch span cause) → IsSettledEvent files slot.0 epoch.0 span
  settled_event slot epoch span cause (inl told) = by_kind told.is
    where
      by_kind : IsNoteBy told.turned told.telling (Settle slot epoch span cause) → IsSettledEvent files slot.0 epoch.0 span
      by_kind (inl announced) = absurd cc
      by_kind (inr settled) =
          let q : Settle slot epoch span cause ≡ Settle told.turned.slot (record { 0 = told.telling.epoch }) settled.event.span (cause_of_fate (DroppedBy settled.rule)) = settled.is in
          let slots : slot ≡ told.turned.slot = cc in
          let epochs : epoch ≡ record { 0 = told.telling.epoch } = cc in
          let spans : span ≡ settled.event.span = cc in
          record {
            turned = told.turned;
            telling = told.telling;
            of = told.epoch;
            event = settled.event;
            told = settled.told;
            slot_is = ap (λ (s : Slot). s.0) (sym slots);
            epoch_is = ap (λ (e : Epoch). e.0) (sym epochs);
            span_is = sym spans;
          }
  settled_event slot epoch span cause (inr settled) =
      let q : Settle slot epoch span cause ≡ Settle settled.parcel.slot settled.parcel.epoch settled.parcel.span Acked = settled.is in
      let slots : slot ≡ settled.parcel.slot = cc in
      let epochs : epoch ≡ settled.parcel.epoch = cc in
      let spans : span ≡ settled.parcel.span = cc in
      record {
        turned = settled.of.turned;
        telling = settled.of.telling;
        of = settled.of.epoch;
        event = settled.of.event;
        told = settled.of.told;
        slot_is = ap (λ (s : Slot). s.0) (sym settled.of.slot_is ∙ sym slots);
        epoch_is = sym settled.of.epoch_is ∙ ap (λ (e : Epoch). e.0) (sym epochs);
        span_is = sym settled.of.span_is ∙ sym spans;
      }

  -- no other note has ground
  announced_slot : (slot : Slot) (epoch : Epoch) → HasGround files acknowledged (Announce slot epoch) → (turned : Turned) × Contains files turned × (turned.slot.0 ≡ slot.0)
  announced_slot slot epoch (inl told) = by_kind told.is
    where
      by_kind : IsNoteBy told.turned told.telling (Announce slot epoch) → (turned : Turned) × Contains files turned × (turned.slot.0 ≡ slot.0)
      by_kind (inl announced) =
          let q : Announce slot epoch ≡ Announce told.turned.slot (record { 0 = told.telling.epoch }) = announced in
          let slots : slot ≡ told.turned.slot = cc in
          (told.turned, told.epoch.of_files, ap (λ (s : Slot). s.0) (sym slots))
      by_kind (inr settled) = absurd (let q : Announce slot epoch ≡ Settle told.turned.slot (record { 0 = told.telling.epoch }) settled.event.span (cause_of_fate (DroppedBy settled.rule)) = settled.is in cc)
  announced_slot slot epoch (inr settled) = absurd (let q : Announce slot epoch ≡ Settle settled.parcel.slot settled.parcel.epoch settled.parcel.span Acked = settled.is in cc)

  pub is_collectable : (note : Note) → HasGround files acknowledged note → IsCollectable note
  is_collectable note (inl told) = by_kind told.is
    where
      by_kind : IsNoteBy told.turned told.telling note → IsCollectable note
      by_kind (inl announced) = subst IsCollectable (sym announced) tt
      by_kind (inr settled) = subst IsCollectable (sym settled.is) tt
  is_collectable note (inr settled) = subst IsCollectable (sym settled.is) tt

-- a settlement is none of those with which files are begun
abbrev pub SettlesNothing : Note → Type 0
SettlesNothing note = (epoch : ℕ) → span_in epoch note ≡ None

pub told_settles_nothing : (run : Run) (files : List Filed) (hiddens : List Hidden) (note : Note) → MayTell run files hiddens note → SettlesNothing note
told_settles_nothing run files hiddens note (inl of) = λ epoch. ap (span_in epoch) of.begins.is
told_settles_nothing run files hiddens note (inr (inl of)) = λ epoch. ap (span_in epoch) of.is
told_settles_nothing run files hiddens note (inr (inr (inl of))) = by_kind of.is
  where
    by_kind : (note ≡ hidden_begin of.hidden) ⊎ (note ≡ hidden_forget of.hidden) → SettlesNothing note
    by_kind (inl is) = λ epoch. ap (span_in epoch) is
    by_kind (inr is) = λ epoch. ap (span_in epoch) is
told_settles_nothing run files hiddens note (inr (inr (inr of))) = by_kind of.is
  where
    by_kind : IsNamingOf run of.file note ⊎ IsForgetOf of.file note → SettlesNothing note
    by_kind (inl named) = λ epoch. ap (span_in epoch) named.is
    by_kind (inr forget) = λ epoch. ap (span_in epoch) forget.is

-- settled spans of one epoch are one or apart
abbrev pub SettleApart : List Turned → Type 0
SettleApart files = (slot epoch : ℕ) (span other : Extent) → IsSettledEvent files slot epoch span → IsSettledEvent files slot epoch other → AreEqualOrApart span other

module _ (files : List Turned) (acknowledged : List Parcel) where
  abbrev pub Grounded : Note → Type 0
  Grounded = HasGround files acknowledged

  pub settled_span : (slot epoch : ℕ) (other : Extent) (note : Note) → Grounded note → slot_of note ≡ slot → span_in epoch note ≡ Some other → IsSettledEvent files slot epoch other
  settled_span slot epoch other (Settle of named span cause) ground slots spans = by_epoch (named.0 == epoch) refl spans
    where
      by_epoch : (b : Bool) → (named.0 == epoch) ≡ b → (if b then Some span else None) ≡ Some other → IsSettledEvent files slot epoch other
      by_epoch true e q =
          let same : span ≡ other = cc in
          let of_epoch : named.0 ≡ epoch = eqb-true named.0 epoch e in
          subst (IsSettledEvent files slot epoch) same
          (subst (λ (n : ℕ). IsSettledEvent files slot n span) of_epoch
          (subst (λ (n : ℕ). IsSettledEvent files n named.0 span) slots (settled_event files acknowledged of named span cause ground)))
      by_epoch false e q = absurd cc
  settled_span slot epoch other (Begin of key path named base changed) ground slots spans = absurd (let q : None ≡ Some other = spans in cc)
  settled_span slot epoch other (Announce of named) ground slots spans = absurd (let q : None ≡ Some other = spans in cc)
  settled_span slot epoch other (Rename of scan path) ground slots spans = absurd (let q : None ≡ Some other = spans in cc)
  settled_span slot epoch other (Seen of changed) ground slots spans = absurd (let q : None ≡ Some other = spans in cc)
  settled_span slot epoch other (Forget of named end) ground slots spans = absurd (let q : None ≡ Some other = spans in cc)

  -- ---- one note more

  abbrev pub SettlesSo : Note → Type 0
  SettlesSo note = SettlesNothing note ⊎ Grounded note

  module _ (span_is_apart : SettleApart files) where
    spans_are_apart : (notes : List Note) (slot epoch : ℕ) (span : Extent) → AllByRecursion SettlesSo notes → IsSettledEvent files slot epoch span →
        All (AreEqualOrApart span) (spans_in epoch (notes_of slot notes))
    spans_are_apart notes slot epoch span each settled =
        All-from_recursion (AreEqualOrApart span) (spans_in epoch (notes_of slot notes))
        (each_member (AreEqualOrApart span) (spans_in epoch (notes_of slot notes)) is_apart)
      where
        by_kind : (other : Extent) (note : Note) → slot_of note ≡ slot → span_in epoch note ≡ Some other → SettlesSo note → AreEqualOrApart span other
        by_kind other note slots spans (inl none) = absurd (let q : None ≡ Some other = sym (none epoch) ∙ spans in cc)
        by_kind other note slots spans (inr ground) = span_is_apart slot epoch span other settled (settled_span slot epoch other note ground slots spans)

        is_apart : (other : Extent) → Contains (spans_in epoch (notes_of slot notes)) other → AreEqualOrApart span other
        is_apart other there =
            let found = there_given (span_in epoch) (notes_of slot notes) other there in
            let own = there_passed (λ (note : Note). slot_of note == slot) notes found.0 found.1 in
            by_kind other found.0 (eqb-true (slot_of found.0) slot own.1) found.2 (member_is SettlesSo notes found.0 each own.0)

    abbrev AreBegunIn : List Note → Type 0
    AreBegunIn notes = AllByRecursion (λ (turned : Turned). HasItsBegin notes turned.slot) files

    slot_is_begun : (notes : List Note) (turned : Turned) (slot : ℕ) → AreBegunIn notes → Contains files turned → turned.slot.0 ≡ slot → IsBegun slot notes
    slot_is_begun notes turned slot begun there is =
        subst (λ (n : ℕ). IsBegun n notes) is (begin_begins notes turned.slot (member_is (λ (t : Turned). HasItsBegin notes t.slot) files turned begun there))

    may_follow : (notes : List Note) (note : Note) → AllByRecursion SettlesSo notes → AreBegunIn notes → Grounded note → MayFollow notes note
    may_follow notes (Announce slot epoch) all begun ground =
        let of = announced_slot files acknowledged slot epoch ground in slot_is_begun notes of.0 slot.0 begun of.1 of.2
    may_follow notes (Settle slot epoch span cause) all begun ground =
        let settled = settled_event files acknowledged slot epoch span cause ground in (
          slot_is_begun notes settled.turned slot.0 begun settled.of.of_files settled.slot_is,
          spans_are_apart notes slot.0 epoch.0 span all settled,
        )
    may_follow notes (Begin slot key path epoch base changed) all begun ground = absurd (is_collectable files acknowledged (Begin slot key path epoch base changed) ground)
    may_follow notes (Rename slot scan path) all begun ground = absurd (is_collectable files acknowledged (Rename slot scan path) ground)
    may_follow notes (Seen slot changed) all begun ground = absurd (is_collectable files acknowledged (Seen slot changed) ground)
    may_follow notes (Forget slot epoch end) all begun ground = absurd (is_collectable files acknowledged (Forget slot epoch end) ground)

    -- ---- as more is collected

    -- whatever notes are orderly so far, in whichever order they were reported and collected
    pub orderly_more : (notes more : List Note) → AreOrderly notes → AllByRecursion SettlesSo notes → AreBegunIn notes → AllByRecursion Grounded more → AreOrderly (notes ++ more)
    orderly_more notes more is each begun ground = orderly_on notes more is one
      where
        one : (before : List Note) (note : Note) (behind : List Note) → more ≡ before ++ note ∷ behind → MayFollow (notes ++ before) note
        one before note behind parts =
            let all = subst (AllByRecursion Grounded) parts ground in
            may_follow (notes ++ before) note
            (both SettlesSo notes before each (each_then Grounded SettlesSo before (λ n has. inr has) (all_front Grounded before (note ∷ behind) all)))
            (each_then (λ (t : Turned). HasItsBegin notes t.slot) (λ (t : Turned). HasItsBegin (notes ++ before) t.slot) files (λ t has. begins_still notes before t.slot has) begun)
            (member_is Grounded (before ++ note ∷ behind) note all (Contains-append_right before (note ∷ behind) note (first_there note behind)))

-- ---- slots

slot_later : (least : ℕ) (files : List Filed) (slot : ℕ) → AreInSlots least files → Contains (map slot_in files) slot → least ≤ slot
slot_later least [] slot slots there = absurd (none_there slot there)
slot_later least (file ∷ files) slot slots there = by_case (there_cases (slot_in file) slot (map slot_in files) there) (slot_later (slot_in file + 1) files slot slots.1)
  where
    by_case : (slot_in file ≡ slot) ⊎ Contains (map slot_in files) slot → (Contains (map slot_in files) slot → slot_in file + 1 ≤ slot) → least ≤ slot
    by_case (inl same) later = let first = slots.0 in omega (arith, first, same)
    by_case (inr behind) later = let first = slots.0 in let more = later behind in omega (arith, first, more)

pub slots_apart : (least : ℕ) (files : List Filed) → AreInSlots least files → AreDistinct (map slot_in files)
slots_apart least [] slots = tt
slots_apart least (file ∷ files) slots = (
  λ there. let more = slot_later (slot_in file + 1) files (slot_in file) slots.1 there in omega (arith, more),
  slots_apart (slot_in file + 1) files slots.1,
)

turned_slots : (files : List Filed) → AllByRecursion HasItsSlot files → map (λ (turned : Turned). turned.slot.0) (turned_of files) ≡ map slot_in files
turned_slots [] own = refl
turned_slots (file ∷ files) own =
    ap (λ (s : Slot). s.0 ∷ map (λ (turned : Turned). turned.slot.0) (turned_of files)) own.0 ∙ ap (λ (l : List ℕ). slot_in file ∷ l) (turned_slots files own.1)

pub turned_apart : (files : List Filed) → AreInSlots 0 files → AllByRecursion HasItsSlot files → AreDistinct (map (λ (turned : Turned). turned.slot.0) (turned_of files))
turned_apart files slots own = subst AreDistinct (sym (turned_slots files own)) (slots_apart 0 files slots)
