-- What a harvester reported of an epoch is a part of its slot.
use Rattle.std.proofs.Common.{◌≡◌, inl, inr, ℕ, ◌-◌, ◌<◌, ◌≤◌, true, List, [], ◌∷◌, ◌++◌, length, take, drop, refl, sym, ap, subst, ◌∙◌, take-append-drop, arith}
use Rattle.std.specs.List.{AllByRecursion}
use Rattle.event_tree.specs.declared.group_rule.GroupRule.{GroupRule}
use Rattle.event_tree.specs.declared.group_rule.GroupRule.TheVariants.{Count, Pattern, Single}
use Rattle.event_tree.specs.declared.line_rule.LineRule.{LineRule}
use Rattle.file_looks.specs.Reading.{ReadsLife}
use Rattle.file_looks.specs.Segment.{Segment, read_to}
use Rattle.harvester.specs.History.{HasBytes, History, IsTelling, Telling, timeout_in}
use Rattle.harvester.specs.History as history
use Rattle.harvester.specs.Looked.{IsLicensedIn, IsReadBy}
use Rattle.multiline_core.specs.Rule.{IsGroupRule, timeout_of}
use Rattle.outside.specs.Files.{File, life_of}
use Rattle.ship_core.specs.CoveredEnd.{Adjoin}
use Rattle.told_events.specs.Licence.{IsLicensed, LieApart}
use Rattle.told_events.specs.Rules.{Rules}
use Rattle.told_events.specs.Told.{AreTold, ToldEvent, spans_of}
use Rattle.slot_parts.specs.Parts.{IsToldPart}
use Rattle.slot_parts.specs.Tellings.{licences_by, licences_where, part_of, untold_part}
use Rattle.slot_parts.proofs.Adjoining.{none_told, told_spans_adjoin}
use Rattle.slot_parts.proofs.Singles.{single_needs_no_licence}
use Rattle.slot_parts.proofs.Within.{none_of_nothing, told_within_read}

-- a segment by which nothing was reported
pub untold_is_part : (rules : Rules) (file : File) (MayEnd : ℕ → Type 0) (HasWaited : Type 0) (opening epoch : ℕ) (segment : Segment) →
    IsToldPart rules file MayEnd HasWaited (untold_part opening epoch segment)
untold_is_part rules file MayEnd HasWaited opening epoch segment = record {
  told = λ life reads. none_told rules [] (life_of file life) segment.place;
  within = tt;
  licensed = λ life reads. tt;
  none = λ none. refl;
}

ends_later : (least place : ℕ) (told : List ToldEvent) → least ≤ place → Adjoin place (spans_of told) → AllByRecursion (λ (one : ToldEvent). least < one.span.end) told
ends_later least place [] from adjoin = tt
ends_later least place (one ∷ told) from adjoin = (
  let some = adjoin.1 in omega (arith, from, some),
  ends_later least one.span.end told (let some = adjoin.1 in omega (arith, from, some)) adjoin.2,
)

licensed_then : (lines : LineRule) (life : List ℕ) (start : ℕ) (segment : Segment) (may others waited others_waited : Type 0) (end : ℕ) →
    (may → others) → (waited → others_waited) → IsLicensed lines life start segment may waited end → IsLicensed lines life start segment others others_waited end
licensed_then lines life start segment may others waited others_waited end first second (inl ended) = inl (first ended.0, ended.1)
licensed_then lines life start segment may others waited others_waited end first second (inr flushed) = inr (second flushed.0, flushed.1)

module _ (rules : Rules) (in_range : IsGroupRule rules.events) (h : History) (file : File) (telling : Telling) (segment : Segment)
    (read : IsReadBy h file telling segment) (tells : IsTelling rules telling) where
  some_bytes : (one : ToldEvent) (told : List ToldEvent) → telling.told ≡ one ∷ told → segment.place < read_to segment
  some_bytes one told are = by_case telling.bytes refl
    where
      by_case : (bytes : List ℕ) → telling.bytes ≡ bytes → segment.place < read_to segment
      by_case [] none = absurd (let no : one ∷ told ≡ [] = sym are ∙ none_of_nothing rules telling in_range none tells in cc)
      by_case (byte ∷ bytes) some =
          let to = read.to in let place = read.place in let long : length telling.bytes ≡ length (byte ∷ bytes) = ap length some in omega (arith, to, place, long)

  pub has_bytes : (life : ℕ) → ReadsLife file life segment → segment.place < read_to segment → HasBytes telling.start telling.bytes (life_of file life)
  has_bytes life reads some = record {
    within = let to = reads.within some in let place = read.place in omega (arith, to, place, some);
    more = drop (read_to segment - segment.place) (drop telling.start (life_of file life));
    behind = sym (take-append-drop (read_to segment - segment.place) (drop telling.start (life_of file life)))
        ∙ ap (λ (l : List ℕ). l ++ drop (read_to segment - segment.place) (drop telling.start (life_of file life))) bytes;
  }
    where
      bytes : take (read_to segment - segment.place) (drop telling.start (life_of file life)) ≡ telling.bytes
      bytes = ap (λ (n : ℕ). take (read_to segment - segment.place) (drop n (life_of file life))) (sym read.place) ∙ sym reads.bytes ∙ read.bytes

  -- ---- with the licences that it needs

  by_rule : (rule : GroupRule) (life : List ℕ) → rules.events ≡ rule → AreTold rules telling.licences life telling.start telling.told →
      AreTold rules (licences_by rule telling.licences) life telling.start telling.told
  by_rule (Single most) life is are = single_needs_no_licence rules most telling.licences [] life telling.start telling.told is are
  by_rule (Count count_lines max_lines timeout skip_newline most) life is are = are
  by_rule (Pattern pattern negate side flush max_lines timeout skip_newline most) life is are = are

  told_so : (life : ℕ) → ReadsLife file life segment →
      AreTold rules (licences_where telling.told (licences_by rules.events telling.licences)) (life_of file life) segment.place telling.told
  told_so life reads = by_case telling.told refl
    where
      by_case : (told : List ToldEvent) → telling.told ≡ told → AreTold rules (licences_where telling.told (licences_by rules.events telling.licences)) (life_of file life) segment.place telling.told
      by_case [] none =
          subst (AreTold rules (licences_where telling.told (licences_by rules.events telling.licences)) (life_of file life) segment.place) (sym none)
          (none_told rules (licences_where telling.told (licences_by rules.events telling.licences)) (life_of file life) segment.place)
      by_case (one ∷ told) are =
          let has = has_bytes life reads (some_bytes one told are) in
          let from_start : AreTold rules (licences_by rules.events telling.licences) (life_of file life) telling.start telling.told =
          by_rule rules.events (life_of file life) refl (tells (life_of file life) has) in
          let from_place : AreTold rules (licences_by rules.events telling.licences) (life_of file life) segment.place telling.told =
          subst (λ (n : ℕ). AreTold rules (licences_by rules.events telling.licences) (life_of file life) n telling.told) (sym read.place) from_start in
          subst (λ (l : List ToldEvent). AreTold rules (licences_where l (licences_by rules.events telling.licences)) (life_of file life) segment.place telling.told) (sym are) from_place

  lie_within : AllByRecursion (λ (one : ToldEvent). (segment.place < one.span.end) × (one.span.end ≤ read_to segment)) telling.told
  lie_within =
      both telling.told
      (ends_later telling.start telling.start telling.told (omega arith) (told_spans_adjoin rules telling in_range tells))
      (told_within_read rules telling tells)
    where
      both : (told : List ToldEvent) → AllByRecursion (λ (one : ToldEvent). telling.start < one.span.end) told →
          AllByRecursion (λ (one : ToldEvent). (telling.start ≤ one.span.end) × (one.span.end ≤ history.read_to telling)) told →
          AllByRecursion (λ (one : ToldEvent). (segment.place < one.span.end) × (one.span.end ≤ read_to segment)) told
      both [] first second = tt
      both (one ∷ told) first second = (
        (
          let place = read.place in let some = first.0 in omega (arith, place, some),
          let to = read.to in let most = second.0.1 in omega (arith, to, most),
        ),
        both told first.1 second.1,
      )

  -- ---- licences

  module _ (lines : h.rule.lines ≡ rules.lines) (opening : ℕ) (MayEnd : ℕ → Type 0) (HasWaited : Type 0) (may : h.may_end ≡ true → MayEnd opening)
      (apart : 0 < timeout_of rules.events → LieApart h.moments (timeout_in h) → HasWaited) where
    abbrev Licensed : List ℕ → ℕ → Type 0
    Licensed life place = IsLicensed rules.lines life segment.place segment (MayEnd opening) HasWaited place

    each_licensed : (life : List ℕ) → HasBytes telling.start telling.bytes life → 0 < timeout_of rules.events → (places : List ℕ) →
        AllByRecursion (IsLicensedIn h telling segment) places → AllByRecursion (Licensed life) places
    each_licensed life has some [] all = tt
    each_licensed life has some (place ∷ places) all =
        let here : IsLicensed h.rule.lines life telling.start segment (MayEnd opening) HasWaited place =
        licensed_then h.rule.lines life telling.start segment (h.may_end ≡ true) (MayEnd opening) (LieApart h.moments (timeout_in h)) HasWaited place may (apart some) (all.0 life has) in (
          subst (λ (n : ℕ). IsLicensed rules.lines life n segment (MayEnd opening) HasWaited place) (sym read.place)
              (subst (λ (l : LineRule). IsLicensed l life telling.start segment (MayEnd opening) HasWaited place) lines here),
          each_licensed life has some places all.1,
        )

    licensed_by : (rule : GroupRule) (life : List ℕ) → IsGroupRule rule → (0 < timeout_of rule → AllByRecursion (Licensed life) telling.licences) →
        AllByRecursion (Licensed life) (licences_by rule telling.licences)
    licensed_by (Single most) life in_range all = tt
    licensed_by (Count count_lines max_lines timeout skip_newline most) life in_range all = all (let some = in_range.2.0 in omega (arith, some))
    licensed_by (Pattern pattern negate side flush max_lines timeout skip_newline most) life in_range all = all (let some = in_range.2.0 in omega (arith, some))

    licensed_so : (life : ℕ) → ReadsLife file life segment → AllByRecursion (Licensed (life_of file life)) (licences_where telling.told (licences_by rules.events telling.licences))
    licensed_so life reads = by_case telling.told refl
      where
        by_case : (told : List ToldEvent) → telling.told ≡ told →
            AllByRecursion (Licensed (life_of file life)) (licences_where telling.told (licences_by rules.events telling.licences))
        by_case [] none =
            subst (λ (l : List ToldEvent). AllByRecursion (Licensed (life_of file life)) (licences_where l (licences_by rules.events telling.licences))) (sym none) tt
        by_case (one ∷ told) are =
            let has = has_bytes life reads (some_bytes one told are) in
            subst (λ (l : List ToldEvent). AllByRecursion (Licensed (life_of file life)) (licences_where l (licences_by rules.events telling.licences))) (sym are)
            (licensed_by rules.events (life_of file life) in_range (λ some. each_licensed (life_of file life) has some telling.licences read.licensed))

    pub telling_is_part : IsToldPart rules file MayEnd HasWaited (part_of opening rules.events telling segment)
    telling_is_part = record {
      told = told_so;
      within = lie_within;
      licensed = licensed_so;
      none = λ none. ap (λ (l : List ToldEvent). licences_where l (licences_by rules.events telling.licences)) none;
    }
