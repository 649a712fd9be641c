-- Rows over backed notes are stored as far as events are settled, if each settlement is noted.
use Rattle.std.proofs.Common.{◌≡◌, ◌⊎◌, inl, inr, ℕ, ◌<◌, ◌≤◌, eqb, List, [], ◌∷◌, Option, Some, None, refl, sym, ap, ◌∙◌, subst, arith}
use Rattle.std.specs.List.{AllByRecursion, Contains}
use Rattle.std.proofs.lemmas.Bool.{eq-eqb}
use Rattle.std.proofs.lemmas.List.Elements.{All-contains, All-from_recursion}
use Rattle.ship_core.proofs.Members.{given_there, none_there, passed_there, there_cases}
use Rattle.ship_core.proofs.Prefixes.{IsFound, adjoining_behind, found_span, member_found}
use Rattle.ship_core.specs.CoveredEnd.{Adjoin, covered_end, next_end}
use Rattle.ship_core.specs.RowOver.{base_in, greatest_epoch, notes_of, row_over, slot_of as slot_named, span_in, spans_in}
use Rattle.ship_core.specs.Rows.{find}
use Rattle.ship_core.specs.RowsOver.{AreRowsOver}
use Rattle.wire_base.specs.Extent.{Extent}
use Rattle.wire_base.specs.declared.note.Note.{Note}
use Rattle.wire_base.specs.declared.row.Row.{Row}
use Rattle.kept_rows.specs.Account.{AccountedEvent, EpochAccount, SlotAccount, slot_of, spans_of}
use Rattle.kept_rows.specs.Backed.{AreBacked, AreBegun, AreInRows}
use Rattle.kept_rows.specs.Kept.{IsSettled, IsUnbegun}
use Rattle.kept_rows.specs.Stored.{AreAllNoted, IsAllSettledBy, IsStored, IsStoredSoFar, WaitsAt, settlement_of}
use Rattle.kept_rows.specs.Trace.{WireTold}
use Rattle.kept_rows.proofs.Backing.{ClosesBy, epoch_found, epoch_in, row_stands, settled_is_told, slot_in, standing_of, standing_told}
use Rattle.kept_rows.proofs.Images.{found_key, row_for_cases, unbegun}

-- by what ship_core says of covered ends
pub record Covers : Type 0 where
  pub none : (spans : List Extent) (place : ℕ) → next_end spans place ≡ None → covered_end spans place ≡ place
  pub some : (spans : List Extent) (place end : ℕ) → next_end spans place ≡ Some end → covered_end spans place ≡ covered_end spans end

-- each of the spans that begins from this place on was reported
abbrev KnownFrom : List Extent → List Extent → ℕ → Type 0
KnownFrom spans told place = (span : Extent) → Contains spans span → place ≤ span.start → span.start < span.end → Contains told span

known_later : (spans told : List Extent) (first : Extent) (place : ℕ) → Adjoin place (first ∷ told) → KnownFrom spans (first ∷ told) place → KnownFrom spans told first.end
known_later spans told first place adjoin known span there behind some = by_case (there_cases first span told (known span there (omega (arith, behind, adjoin.0, adjoin.1)) some))
  where
    by_case : (first ≡ span) ⊎ Contains told span → Contains told span
    by_case (inl same) = absurd (let start : first.start ≡ span.start = ap (λ (s : Extent). s.start) same in omega (arith, start, behind, adjoin.0, adjoin.1))
    by_case (inr there) = there

-- the first of those reported is what is found at its place
found_first : (spans told : List Extent) (first : Extent) (place end : ℕ) → Adjoin place (first ∷ told) → KnownFrom spans (first ∷ told) place → IsFound spans place end → first.end ≡ end
found_first spans told first place end adjoin known found =
    by_case (there_cases first found.span told (known found.span found.there (omega (arith, found.start)) (omega (arith, found.start, found.end_is, found.behind))))
  where
    by_case : (first ≡ found.span) ⊎ Contains told found.span → first.end ≡ end
    by_case (inl same) = ap (λ (s : Extent). s.end) same ∙ found.end_is
    by_case (inr later) = absurd (omega (arith, adjoining_behind first.end told found.span adjoin.2 later, found.start, adjoin.1, adjoin.0))

-- no span of those reported begins at a covered end
covered_in_full : Covers → (spans told : List Extent) (place : ℕ) → Adjoin place told → KnownFrom spans told place → next_end spans (covered_end spans place) ≡ None
covered_in_full covers spans [] place adjoin known = by_next (next_end spans place) refl
  where
    by_next : (o : Option ℕ) → next_end spans place ≡ o → next_end spans (covered_end spans place) ≡ None
    by_next None none = ap (next_end spans) (covers.none spans place none) ∙ none
    by_next (Some end) some =
        let found = found_span spans place end some in
        absurd (none_there found.span (known found.span found.there (omega (arith, found.start)) (omega (arith, found.start, found.end_is, found.behind))))
covered_in_full covers spans (first ∷ told) place adjoin known =
    by_next (next_end spans place) refl (covered_in_full covers spans told first.end adjoin.2 (known_later spans told first place adjoin known))
  where
    by_next : (o : Option ℕ) → next_end spans place ≡ o → next_end spans (covered_end spans first.end) ≡ None → next_end spans (covered_end spans place) ≡ None
    by_next None none later = ap (next_end spans) (covers.none spans place none) ∙ none
    by_next (Some end) some later =
        ap (next_end spans) (covers.some spans place end some ∙ ap (covered_end spans) (sym (found_first spans told first place end adjoin known (found_span spans place end some)))) ∙ later

-- reported events are not empty
some_told : (start : ℕ) (told : List AccountedEvent) → Adjoin start (spans_of told) → AllByRecursion (λ one. one.event.span.start < one.event.span.end) told
some_told start [] adjoin = tt
some_told start (one ∷ told) adjoin = (let begins = adjoin.0 in let some = adjoin.1 in omega (arith, begins, some), some_told one.event.span.end told adjoin.2)

module _ (account : List SlotAccount) (wires : List WireTold) (notes : List Note) (all : IsAllSettledBy notes wires account) where
  noted_in : (one : SlotAccount) (epoch : EpochAccount) → Contains account one → Contains one.epochs epoch → AreAllNoted notes wires one epoch
  noted_in one epoch there within =
      let of_slot = All-contains (λ (s : SlotAccount). AllByRecursion (AreAllNoted notes wires s) s.epochs) account one
      (All-from_recursion (λ (s : SlotAccount). AllByRecursion (AreAllNoted notes wires s) s.epochs) account all) there in
      All-contains (AreAllNoted notes wires one) one.epochs epoch (All-from_recursion (AreAllNoted notes wires one) one.epochs of_slot) within

  -- its span is among those that the slot's notes settle
  span_there : (slot epoch : ℕ) (one : SlotAccount) (found : EpochAccount) (event : AccountedEvent) → slot_of one ≡ slot → found.epoch ≡ epoch →
      Contains notes (settlement_of one found event) → Contains (spans_in epoch (notes_of slot notes)) event.event.span
  span_there slot epoch one found event slot_is epoch_is there =
      given_there (span_in epoch) (notes_of slot notes) (settlement_of one found event) event.event.span
      (passed_there (λ (n : Note). eqb (slot_named n) slot) notes (settlement_of one found event) there (eq-eqb (slot_of one) slot slot_is))
      (rw (eq-eqb found.epoch epoch epoch_is) refl)

  module _ (covers : Covers) (slot epoch base : ℕ) (one : SlotAccount) (found : EpochAccount) (slot_is : slot_of one ≡ slot) (epoch_is : found.epoch ≡ epoch) where
    abbrev spans : List Extent
    spans = spans_in epoch (notes_of slot notes)

    each_waits : next_end spans (covered_end spans base) ≡ None → (told : List AccountedEvent) → AllByRecursion (λ one. one.event.span.start < one.event.span.end) told →
        AllByRecursion (λ event. IsSettled wires event → Contains notes (settlement_of one found event)) told → AllByRecursion (WaitsAt wires (covered_end spans base)) told
    each_waits in_full [] some noted = tt
    each_waits in_full (event ∷ told) some noted = (
      λ begins settled.
          member_found spans event.event.span (span_there slot epoch one found event slot_is epoch_is (noted.0 settled)) some.0
          (ap (next_end spans) begins ∙ in_full),
      each_waits in_full told some.1 noted.1,
    )

  module _ (covers : Covers) (closes : ClosesBy) (in_rows : AreInRows account) (backed : AreBacked account wires notes) where
    row_is_stored : (slot : ℕ) (row : Row) → row_over slot notes ≡ Some row → IsStoredSoFar account wires row
    row_is_stored slot row is =
        let row_is = row_stands notes slot row is in
        let stands = standing_of account wires notes slot row_is.start in_rows backed row_is.begins in
        let of = slot_in account slot stands.one stands.slot_is in
        let epoch = greatest_epoch (notes_of slot notes) in
        subst (IsStoredSoFar account wires) row_is.is (record {
          told = standing_told closes account wires notes slot row_is.start backed stands;
          next = each_waits covers slot epoch (base_in row_is.start epoch) stands.one stands.epoch of.1 (epoch_found epoch stands.one.epochs stands.epoch stands.epoch_is)
              (covered_in_full covers (spans_in epoch (notes_of slot notes)) (spans_of stands.epoch.told) (base_in row_is.start epoch)
              (subst (λ (n : ℕ). Adjoin n (spans_of stands.epoch.told)) stands.starts stands.adjoin)
              (λ span there from some. settled_is_told account wires notes slot epoch stands.epoch backed stands.found span there))
              stands.epoch.told
              (some_told stands.epoch.start stands.epoch.told stands.adjoin) (noted_in stands.one stands.epoch of.0 (epoch_in epoch stands.one.epochs stands.epoch stands.epoch_is));
        })

    pub stored_at_the_end : (opening rows : List Row) → AreBegun account notes → AreRowsOver opening notes rows → (key : List ℕ) (row : Row) → find key rows ≡ Some row → IsStored account wires row
    stored_at_the_end opening rows begun over key row is =
        elim (row_for_cases opening notes key row (sym (over.each key) ∙ is)) [
          | inl of ↦ inl (row_is_stored of.slot row of.is)
          | inr opened ↦ inr (subst (IsUnbegun account) (found_key key opening row opened.1) (unbegun account notes key begun opened.0))
        ]
