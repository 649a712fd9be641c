-- The notes of one life: the row that they give, and that they are orderly.
use Rattle.std.proofs.Common.{◌≡◌, ◌⊎◌, inl, inr, ℕ, ◌≤◌, Bool, true, false, List, [], ◌∷◌, ◌++◌, max, get_or, All, Contains, Option, Some, None, unwrap_or, if◌then◌else◌, ◌==◌, refl, sym, ap, ◌∙◌, subst, arith, append_assoc}
use Rattle.std.specs.List.{filter_map, fold, list_any}
use Rattle.std.specs.Option.{option_map, option_and_then, IsSome}
use Rattle.std.proofs.lemmas.Bool.{eq-eqb}
use Rattle.std.proofs.lemmas.List.{append-nil, map-append}
use Rattle.std.proofs.lemmas.List.Elements.{Contains-get_or, Contains-append_left, Contains-append_right}
use Rattle.wire_base.specs.Extent.{Extent}
use Rattle.wire_base.specs.declared.numbers.Slot.{Slot}
use Rattle.wire_base.specs.declared.numbers.Epoch.{Epoch}
use Rattle.wire_base.specs.declared.numbers.Moment.{Moment}
use Rattle.wire_base.specs.declared.row.Row.{Row}
use Rattle.wire_base.specs.declared.note.Note.{Note}
use Rattle.wire_base.specs.declared.note.Note.TheVariants.{Begin, Settle}
use Rattle.ship_core.specs.CoveredEnd.{AreEqualOrApart, AreApart, Adjoin, covered_end}
use Rattle.ship_core.specs.OneLife.{Settlement, settles, spans_of, life_notes}
use Rattle.ship_core.specs.Orderly.{AreOrderly, IsBegun, MayFollow}
use Rattle.ship_core.specs.RowOver.{Start, Naming, epoch_of, moment_of, naming_of, newer, forgets, notes_of, start_over, greatest_epoch, greatest_moment, base_in, spans_in, offset_over, path_over, is_gone, standing_row, row_of, row_over, place_over}
use Rattle.ship_core.proofs.InOrder.{none_orderly, one_more_orderly}
use Rattle.ship_core.proofs.Members.{first_there, there_cases}
use Rattle.ship_core.proofs.Prefixes.{adjoining_behind}

module _ (slot : Slot) (epoch : Epoch) where
  same_slot : (slot.0 == slot.0) ≡ true
  same_slot = eq-eqb slot.0 slot.0 refl

  same_epoch : (epoch.0 == epoch.0) ≡ true
  same_epoch = eq-eqb epoch.0 epoch.0 refl

  -- all of them are the slot's
  own_settles : (settled : List Settlement) → notes_of slot.0 (settles slot epoch settled) ≡ settles slot epoch settled
  own_settles [] = refl
  own_settles (s ∷ settled) = rw same_slot (ap (λ (l : List Note). Settle slot epoch s.span s.cause ∷ l) (own_settles settled))

  none_told : {Y : Type 0} (h : Note → Option Y) → ((s : Settlement) → h (Settle slot epoch s.span s.cause) ≡ None) → (settled : List Settlement) → filter_map h (settles slot epoch settled) ≡ []
  none_told h none [] = refl
  none_told h none (s ∷ settled) = rw (none s) (none_told h none settled)

  settled_epochs : (settled : List Settlement) → fold max epoch.0 (filter_map epoch_of (settles slot epoch settled)) ≡ epoch.0
  settled_epochs [] = refl
  settled_epochs (s ∷ settled) = let most : max epoch.0 epoch.0 ≡ epoch.0 = omega arith in rw most (settled_epochs settled)

  settled_spans : (settled : List Settlement) → spans_in epoch.0 (settles slot epoch settled) ≡ spans_of settled
  settled_spans [] = refl
  settled_spans (s ∷ settled) = rw same_epoch (ap (λ (l : List Extent). s.span ∷ l) (settled_spans settled))

  none_forgets : (named offset : ℕ) (settled : List Settlement) → list_any (forgets named offset) (settles slot epoch settled) ≡ false
  none_forgets named offset [] = refl
  none_forgets named offset (s ∷ settled) = none_forgets named offset settled

  module _ (key path : List ℕ) (base : ℕ) (changed : Moment) (settled : List Settlement) where
    abbrev pub life : List Note
    life = life_notes slot key path epoch base changed settled

    abbrev pub start : Start
    start = record { key = key; path = path; epoch = epoch.0; base = base }

    own_life : notes_of slot.0 life ≡ life
    own_life = rw same_slot (ap (λ (l : List Note). Begin slot key path epoch base changed ∷ l) (own_settles settled))

    life_epoch : greatest_epoch life ≡ epoch.0
    life_epoch =
        let most : max 0 epoch.0 ≡ epoch.0 = omega arith in
        ap (λ (least : ℕ). fold max least (filter_map epoch_of (settles slot epoch settled))) most ∙ settled_epochs settled

    life_moment : greatest_moment life ≡ changed.0
    life_moment =
        let most : max 0 changed.0 ≡ changed.0 = omega arith in
        ap (fold max (max 0 changed.0)) (none_told moment_of (λ s. refl) settled) ∙ most

    life_path : path_over start life ≡ path
    life_path = ap (λ (l : List Naming). unwrap_or (option_map (λ (naming : Naming). naming.path) (fold newer None l)) path) (none_told naming_of (λ s. refl) settled)

    life_spans : spans_in epoch.0 life ≡ spans_of settled
    life_spans = settled_spans settled

    life_offset : offset_over start life ≡ covered_end (spans_of settled) base
    life_offset =
        (λ k. covered_end (spans_in (life_epoch k) life) (base_in start (life_epoch k)))
        ∙ (λ k. covered_end (life_spans k) (if same_epoch k then base else 0))

    stays : (b : Bool) (row : Row) → b ≡ false → (if b then None else Some row) ≡ Some row
    stays true row e = absurd (let q : true ≡ false = e in cc)
    stays false row e = refl

    pub life_row : row_over slot.0 life ≡ Some (record { key = key; path = path; epoch = epoch; offset = covered_end (spans_of settled) base; changed = changed })
    life_row =
        ap (λ (l : List Note). option_and_then (row_of l) (start_over l)) own_life
        ∙ stays (is_gone start life) (standing_row life start) (none_forgets (greatest_epoch life) (offset_over start life) settled)
        ∙ (λ k. Some (record { key = key; path = life_path k; epoch = record { 0 = life_epoch k }; offset = life_offset k; changed = record { 0 = life_moment k } }))

    pub life_place : place_over slot.0 life ≡ Some (epoch, covered_end (spans_of settled) base)
    life_place = ap (option_map (λ (row : Row). let p : Epoch × ℕ = (row.epoch, row.offset) in p)) life_row

-- ---- one life is orderly

-- spans that adjoin each other are apart
pub adjoin_apart : (place : ℕ) (spans : List Extent) → Adjoin place spans → AreApart spans
adjoin_apart place [] adjoin a b there other = absurd (omega (arith, there.1))
adjoin_apart place (first ∷ spans) adjoin a b there other = by_case (there_cases first a spans there) (there_cases first b spans other) (adjoin_apart first.end spans adjoin.2 a b)
  where
    by_case : (first ≡ a) ⊎ Contains spans a → (first ≡ b) ⊎ Contains spans b → (Contains spans a → Contains spans b → AreEqualOrApart a b) → AreEqualOrApart a b
    by_case (inl is) (inl same) h = inl (sym is ∙ same)
    by_case (inl is) (inr later) h = inr (inl (subst (λ (s : Extent). s.end ≤ b.start) is (adjoining_behind first.end spans b adjoin.2 later)))
    by_case (inr later) (inl same) h = inr (inr (subst (λ (s : Extent). s.end ≤ a.start) same (adjoining_behind first.end spans a adjoin.2 later)))
    by_case (inr one) (inr two) h = h one two

module _ (slot : Slot) (key path : List ℕ) (epoch : Epoch) (base : ℕ) (changed : Moment) where
  begun : (settled : List Settlement) → IsBegun slot.0 (life_notes slot key path epoch base changed settled)
  begun settled = subst (λ (l : List Note). IsSome (start_over l)) (sym (own_life slot epoch key path base changed settled)) refl

  may_settle : (done : List Settlement) (s : Settlement) (left : List Settlement) → AreApart (spans_of (done ++ s ∷ left)) → MayFollow (life_notes slot key path epoch base changed done) (Settle slot epoch s.span s.cause)
  may_settle done s left apart = (begun done, subst (All (AreEqualOrApart s.span)) (sym own) each)
    where
      own : spans_in epoch.0 (notes_of slot.0 (life_notes slot key path epoch base changed done)) ≡ spans_of done
      own = ap (spans_in epoch.0) (own_life slot epoch key path base changed done) ∙ life_spans slot epoch key path base changed done

      all_spans : spans_of (done ++ s ∷ left) ≡ spans_of done ++ s.span ∷ spans_of left
      all_spans = map-append (λ (x : Settlement). x.span) done (s ∷ left)

      each : All (AreEqualOrApart s.span) (spans_of done)
      each k d inside =
          apart s.span (get_or (spans_of done) k d)
          (subst (λ (l : List Extent). Contains l s.span) (sym all_spans) (Contains-append_right (spans_of done) (s.span ∷ spans_of left) s.span (first_there s.span (spans_of left))))
          (subst (λ (l : List Extent). Contains l (get_or (spans_of done) k d)) (sym all_spans) (Contains-append_left (spans_of done) (s.span ∷ spans_of left) (get_or (spans_of done) k d) (Contains-get_or (spans_of done) k d inside)))

  live : (done left : List Settlement) → AreApart (spans_of (done ++ left)) → AreOrderly (life_notes slot key path epoch base changed done) → AreOrderly (life_notes slot key path epoch base changed (done ++ left))
  live done [] apart orderly = subst (λ (l : List Settlement). AreOrderly (life_notes slot key path epoch base changed l)) (sym (append-nil done)) orderly
  live done (s ∷ left) apart orderly =
      let next : AreOrderly (life_notes slot key path epoch base changed (done ++ s ∷ [])) =
      subst (λ (l : List Note). AreOrderly (Begin slot key path epoch base changed ∷ l)) (sym (map-append (λ (x : Settlement). Settle slot epoch x.span x.cause) done (s ∷ [])))
      (one_more_orderly (life_notes slot key path epoch base changed done) (Settle slot epoch s.span s.cause) orderly (may_settle done s left apart)) in
      let same : (done ++ s ∷ []) ++ left ≡ done ++ s ∷ left = append_assoc done (s ∷ []) left in
      subst (λ (l : List Settlement). AreOrderly (life_notes slot key path epoch base changed l)) same
      (live (done ++ s ∷ []) left (subst (λ (l : List Settlement). AreApart (spans_of l)) (sym same) apart) next)

  pub life_orderly : (settled : List Settlement) → AreApart (spans_of settled) → AreOrderly (life_notes slot key path epoch base changed settled)
  life_orderly settled apart = live [] settled apart (one_more_orderly [] (Begin slot key path epoch base changed) none_orderly refl)
