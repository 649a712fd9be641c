-- The parts of an epoch, one after another, are reported of one life.
use Rattle.std.proofs.Common.{◌≡◌, ◌⊎◌, inl, inr, ℕ, zero, suc, ◌+◌, ◌<◌, ◌≤◌, List, [], ◌∷◌, ◌++◌, refl, sym, ap, subst, ◌∙◌, arith}
use Rattle.std.specs.List.{All, AllByRecursion, Contains}
use Rattle.std.proofs.lemmas.List.Elements.{All-from_recursion, Contains-append_left, Contains-append_right}
use Rattle.event_tree.specs.declared.line_rule.LineRule.{LineRule}
use Rattle.file_looks.proofs.Going.{no_step_back}
use Rattle.file_looks.specs.EndLook.{with_looks}
use Rattle.file_looks.specs.Reading.{EachReadsLife, ReadsLife, last_life, life_with}
use Rattle.file_looks.specs.Segment.{Segment, read_to, steps_in}
use Rattle.file_looks.specs.Step.{Step, place_behind, read_by}
use Rattle.multiline_core.specs.Rule.{IsGroupRule}
use Rattle.outside.specs.Files.{File, life_of}
use Rattle.ship_core.proofs.Members.{first_there, later_there}
use Rattle.ship_core.specs.CoveredEnd.{Adjoin, last_end}
use Rattle.told_events.proofs.Going.{behind, stay_told}
use Rattle.told_events.specs.Licence.{IsLicensed, whole_lines_end}
use Rattle.told_events.specs.Rules.{Rules}
use Rattle.told_events.specs.Told.{AreTold, ToldEvent, spans_of}
use Rattle.wire_base.specs.Extent.{Extent}
use Rattle.slot_parts.specs.Parts.{AreToldTogether, GoOnWithin, IsLicensedFrom, IsToldPart, Part, last_life_of, licences_in, segments_in, told_in, told_to}
use Rattle.slot_parts.proofs.Adjoining.{events_adjoin, none_told}
use Rattle.slot_parts.proofs.Rows.{same_whole_end}

ends_behind : (place : ℕ) (spans : List Extent) → Adjoin place spans → place ≤ last_end place spans
ends_behind place [] adjoin = omega arith
ends_behind place (span ∷ spans) adjoin = let some = adjoin.1 in let later = ends_behind span.end spans adjoin.2 in omega (arith, some, later)

each_among : (xs ys : List ℕ) → ((x : ℕ) → Contains xs x → Contains ys x) → AllByRecursion (Contains ys) xs
each_among [] ys each = tt
each_among (x ∷ xs) ys each = (each x (first_there x xs), each_among xs ys (λ y there. each y (later_there x y xs there)))

all_among : (xs ys : List ℕ) → ((x : ℕ) → Contains xs x → Contains ys x) → All (Contains ys) xs
all_among xs ys each = All-from_recursion (Contains ys) xs (each_among xs ys each)

-- ---- licences, from an earlier place on

module _ (lines : LineRule) (life : List ℕ) (start next : ℕ) (segment : Segment) (MayEnd HasWaited : Type 0) (later : next ≤ segment.place)
    (same : (place : ℕ) → next ≤ place → whole_lines_end lines life start place ≡ whole_lines_end lines life next place) where
  earlier : (end : ℕ) → IsLicensed lines life next segment MayEnd HasWaited end → IsLicensed lines life start segment MayEnd HasWaited end
  earlier end (inl ended) =
      let found = ended.1.found in
      let onward = no_step_back segment.place (steps_in (with_looks segment found.front)) in
      let stands = found.stands_there in
      inl (ended.0, record { place = ended.1.place; found = found; last = same ended.1.place (omega (arith, later, onward, stands)) ∙ ended.1.last })
  earlier end (inr waited) =
      let had = waited.1.had_read in
      let onward = no_step_back segment.place (steps_in (with_looks segment had.front)) in
      let stands = had.stands_there in
      inr (waited.0, record { place = waited.1.place; had_read = had; last = same waited.1.place (omega (arith, later, onward, stands)) ∙ waited.1.last })

  pub each_earlier : (licences : List ℕ) → AllByRecursion (IsLicensed lines life next segment MayEnd HasWaited) licences →
      AllByRecursion (IsLicensed lines life start segment MayEnd HasWaited) licences
  each_earlier [] all = tt
  each_earlier (one ∷ licences) all = (earlier one all.0, each_earlier licences all.1)

-- ---- the life that is last read, if some byte was

pub last_same : (first other place : ℕ) (steps : List Step) → place < place_behind place steps → last_life first steps ≡ last_life other steps
last_same first other place [] some = absurd (omega (arith, some))
last_same first other place (step ∷ steps) some = by_case (read_by step) refl (last_same first other (place + read_by step) steps)
  where
    by_case : (n : ℕ) → read_by step ≡ n → (place + read_by step < place_behind (place + read_by step) steps → last_life first steps ≡ last_life other steps) →
        last_life (life_with first step.look.sight.life n) steps ≡ last_life (life_with other step.look.sight.life n) steps
    by_case zero none later = later (omega (arith, none, some))
    by_case (suc n) is later = refl

-- ---- the parts of an epoch

module _ (rules : Rules) (file : File) (MayEnd : ℕ → Type 0) (HasWaited : Type 0) (in_range : IsGroupRule rules.events) where
  abbrev IsTold : Part → Type 0
  IsTold part = IsToldPart rules file MayEnd HasWaited part

  abbrev Licensed : ℕ → ℕ → Part → Type 0
  Licensed life start part = IsLicensedFrom rules (life_of file life) start MayEnd HasWaited part

  spans_adjoin : (part : Part) (life : ℕ) → ReadsLife file life part.segment → IsTold part → Adjoin part.segment.place (spans_of part.told)
  spans_adjoin part life reads is = events_adjoin rules part.licences (life_of file life) part.segment.place part.told in_range (is.told life reads)

  onward : (part : Part) (life : ℕ) → ReadsLife file life part.segment → IsTold part → part.segment.place ≤ told_to part
  onward part life reads is = ends_behind part.segment.place (spans_of part.told) (spans_adjoin part life reads is)

  -- after a place that is not the first byte the life stays
  life_stays : (place life : ℕ) (parts : List Part) → 0 < place → GoOnWithin place parts → EachReadsLife file life (segments_in parts) → AllByRecursion IsTold parts →
      last_life_of life (segments_in parts) ≡ life
  life_stays place life [] some on reads told = refl
  life_stays place life (part ∷ parts) some on reads told =
      let here : 0 < part.segment.place = let at = on.0 in omega (arith, at, some) in
      let same : last_life life (steps_in part.segment) ≡ life = reads.1 here in
      let later = onward part (last_life life (steps_in part.segment)) reads.0 told.0 in
      life_stays (told_to part) (last_life life (steps_in part.segment)) parts (omega (arith, later, here)) on.1 reads.2 told.1 ∙ same

  -- a part that reported something did so of the life that is last read after all parts
  module _ (life last : ℕ) (part : Part) (reads : ReadsLife file life part.segment) (is : IsTold part) (same : 0 < told_to part → last ≡ life) where
    some_told : (one : ToldEvent) (told : List ToldEvent) → part.told ≡ one ∷ told → last ≡ life
    some_told one told are =
        let adjoin : Adjoin part.segment.place (spans_of (one ∷ told)) =
        subst (λ (l : List ToldEvent). Adjoin part.segment.place (spans_of l)) are (spans_adjoin part life reads is) in
        let later = ends_behind one.span.end (spans_of told) adjoin.2 in
        let first = adjoin.1 in
        let some : 0 < last_end part.segment.place (spans_of (one ∷ told)) = omega (arith, later, first) in
        same (subst (λ (l : List ToldEvent). 0 < last_end part.segment.place (spans_of l)) (sym are) some)

    told_of_last : AreTold rules part.licences (life_of file last) part.segment.place part.told
    told_of_last = by_case part.told refl
      where
        by_case : (told : List ToldEvent) → part.told ≡ told → AreTold rules part.licences (life_of file last) part.segment.place part.told
        by_case [] are = subst (AreTold rules part.licences (life_of file last) part.segment.place) (sym are) (none_told rules part.licences (life_of file last) part.segment.place)
        by_case (one ∷ told) are =
            subst (λ (n : ℕ). AreTold rules part.licences (life_of file n) part.segment.place part.told) (sym (some_told one told are)) (is.told life reads)

    licensed_of_last : AllByRecursion (IsLicensed rules.lines (life_of file last) part.segment.place part.segment (MayEnd part.opening) HasWaited) part.licences
    licensed_of_last = by_case part.told refl
      where
        by_case : (told : List ToldEvent) → part.told ≡ told →
            AllByRecursion (IsLicensed rules.lines (life_of file last) part.segment.place part.segment (MayEnd part.opening) HasWaited) part.licences
        by_case [] are =
            subst (λ (l : List ℕ). AllByRecursion (IsLicensed rules.lines (life_of file last) part.segment.place part.segment (MayEnd part.opening) HasWaited) l)
            (sym (is.none are)) tt
        by_case (one ∷ told) are =
            subst (λ (n : ℕ). AllByRecursion (IsLicensed rules.lines (life_of file n) part.segment.place part.segment (MayEnd part.opening) HasWaited) part.licences)
            (sym (some_told one told are)) (is.licensed life reads)

  told_so : (place life : ℕ) (parts : List Part) → GoOnWithin place parts → EachReadsLife file life (segments_in parts) → AllByRecursion IsTold parts →
      AreTold rules (licences_in parts) (life_of file (last_life_of life (segments_in parts))) place (told_in parts)
  told_so place life [] on reads told = none_told rules [] (life_of file life) place
  told_so place life (part ∷ parts) on reads told =
      let now = last_life life (steps_in part.segment) in
      let last = last_life_of now (segments_in parts) in
      let first = told_of_last now last part reads.0 told.0 (λ some. life_stays (told_to part) now parts some on.1 reads.2 told.1) in
      let others = told_so (told_to part) now parts on.1 reads.2 told.1 in
      subst (λ (n : ℕ). AreTold rules (licences_in (part ∷ parts)) (life_of file last) n (told_in (part ∷ parts))) on.0
      (behind rules (licences_in (part ∷ parts)) (life_of file last) part.segment.place part.told (told_in parts)
      (stay_told rules part.licences (licences_in (part ∷ parts)) (life_of file last) part.segment.place part.told
      (all_among part.licences (licences_in (part ∷ parts)) (Contains-append_left part.licences (licences_in parts))) first)
      (stay_told rules (licences_in parts) (licences_in (part ∷ parts)) (life_of file last) (told_to part) (told_in parts)
      (all_among (licences_in parts) (licences_in (part ∷ parts)) (Contains-append_right part.licences (licences_in parts))) others))

  -- what is licensed after the events of a part is licensed from its place on
  all_from : (last start next : ℕ) → start ≤ next → ((place : ℕ) → next ≤ place →
      whole_lines_end rules.lines (life_of file last) start place ≡ whole_lines_end rules.lines (life_of file last) next place) →
      (parts : List Part) → AllByRecursion (Licensed last next) parts → AllByRecursion (Licensed last start) parts
  all_from last start next from same [] all = tt
  all_from last start next from same (part ∷ parts) all = (
    record {
      onward = let later = all.0.onward in omega (arith, from, later);
      licensed = each_earlier rules.lines (life_of file last) start next part.segment (MayEnd part.opening) HasWaited all.0.onward same part.licences all.0.licensed;
    },
    all_from last start next from same parts all.1,
  )

  licensed_so : (place life : ℕ) (parts : List Part) → GoOnWithin place parts → EachReadsLife file life (segments_in parts) → AllByRecursion IsTold parts →
      AllByRecursion (Licensed (last_life_of life (segments_in parts)) place) parts
  licensed_so place life [] on reads told = tt
  licensed_so place life (part ∷ parts) on reads told =
      let now = last_life life (steps_in part.segment) in
      let last = last_life_of now (segments_in parts) in
      let stays : 0 < told_to part → last ≡ now = λ some. life_stays (told_to part) now parts some on.1 reads.2 told.1 in
      let first = told_of_last now last part reads.0 told.0 stays in
      let from = onward part now reads.0 told.0 in
      subst (λ (n : ℕ). AllByRecursion (Licensed last n) (part ∷ parts)) on.0 (
        record { onward = omega arith; licensed = licensed_of_last now last part reads.0 told.0 stays },
        all_from last part.segment.place (told_to part) from
            (λ place beyond. same_whole_end rules.lines rules.events (λ place. Contains part.licences place) (life_of file last) part.segment.place place (spans_of part.told) first.partition beyond)
            parts (licensed_so (told_to part) now parts on.1 reads.2 told.1),
      )

  -- ---- whichever life was read before

  some_read : (part : Part) (life : ℕ) → ReadsLife file life part.segment → IsTold part → (part.told ≡ []) ⊎ (part.segment.place < read_to part.segment)
  some_read part life reads is = by_case part.told refl
    where
      by_case : (told : List ToldEvent) → part.told ≡ told → (part.told ≡ []) ⊎ (part.segment.place < read_to part.segment)
      by_case [] are = inl are
      by_case (one ∷ told) are =
          let within : AllByRecursion (λ (it : ToldEvent). (part.segment.place < it.span.end) × (it.span.end ≤ read_to part.segment)) (one ∷ told) =
          subst (AllByRecursion (λ (it : ToldEvent). (part.segment.place < it.span.end) × (it.span.end ≤ read_to part.segment))) are is.within in
          let first = within.0.0 in
          let here = within.0.1 in
          inr (omega (arith, first, here))

  record IsSameLast (parts : List Part) (first other : ℕ) : Type 0 where
    is : ((told_in parts ≡ []) × (licences_in parts ≡ [])) ⊎ (last_life_of first (segments_in parts) ≡ last_life_of other (segments_in parts))

  same_last : (first other life : ℕ) (parts : List Part) → EachReadsLife file life (segments_in parts) → AllByRecursion IsTold parts → IsSameLast parts first other
  same_last first other life [] reads told = record { is = inl (refl, refl) }
  same_last first other life (part ∷ parts) reads told =
      by_case (some_read part (last_life life (steps_in part.segment)) reads.0 told.0)
      (same_last (last_life first (steps_in part.segment)) (last_life other (steps_in part.segment)) (last_life life (steps_in part.segment)) parts reads.2 told.1)
    where
      by_case : (part.told ≡ []) ⊎ (part.segment.place < read_to part.segment) →
          IsSameLast parts (last_life first (steps_in part.segment)) (last_life other (steps_in part.segment)) → IsSameLast (part ∷ parts) first other
      by_case (inr some) later =
          record { is = inr (ap (λ (n : ℕ). last_life_of n (segments_in parts)) (last_same first other part.segment.place (steps_in part.segment) some)) }
      by_case (inl none) later = by_later later.is
        where
          by_later : ((told_in parts ≡ []) × (licences_in parts ≡ []))
              ⊎ (last_life_of (last_life first (steps_in part.segment)) (segments_in parts) ≡ last_life_of (last_life other (steps_in part.segment)) (segments_in parts)) →
              IsSameLast (part ∷ parts) first other
          by_later (inl none_later) = record {
            is = inl (
              ap (λ (l : List ToldEvent). l ++ told_in parts) none ∙ none_later.0,
              ap (λ (l : List ℕ). l ++ licences_in parts) (told.0.none none) ∙ none_later.1,
            );
          }
          by_later (inr same) = record { is = inr same }

  -- if no licence is given, the parts are licensed from any place that is not after theirs
  none_licensed : (last start : ℕ) (parts : List Part) (other : ℕ) → licences_in parts ≡ [] → AllByRecursion (Licensed other start) parts → AllByRecursion (Licensed last start) parts
  none_licensed last start [] other none all = tt
  none_licensed last start (part ∷ parts) other none all = by_case part.licences refl none (none_licensed last start parts other)
    where
      by_case : (licences : List ℕ) → part.licences ≡ licences → part.licences ++ licences_in parts ≡ [] →
          (licences_in parts ≡ [] → AllByRecursion (Licensed other start) parts → AllByRecursion (Licensed last start) parts) → AllByRecursion (Licensed last start) (part ∷ parts)
      by_case [] are is later = (
        record {
          onward = all.0.onward;
          licensed = subst (λ (l : List ℕ). AllByRecursion (IsLicensed rules.lines (life_of file last) start part.segment (MayEnd part.opening) HasWaited) l) (sym are) tt;
        },
        later (sym (ap (λ (l : List ℕ). l ++ licences_in parts) are) ∙ is) all.1,
      )
      by_case (one ∷ licences) are is later = absurd (let e : one ∷ (licences ++ licences_in parts) ≡ [] = sym (ap (λ (l : List ℕ). l ++ licences_in parts) are) ∙ is in cc)

  pub told_together : (place life : ℕ) (parts : List Part) → GoOnWithin place parts → EachReadsLife file life (segments_in parts) → AllByRecursion IsTold parts →
      AreToldTogether rules file MayEnd HasWaited place parts
  told_together place life parts on reads told =
      let told_here = told_so place life parts on reads told in
      let licensed_here = licensed_so place life parts on reads told in
      record {
        told = λ before. of_told before told_here (same_last life before life parts reads told).is;
        licensed = λ before. of_licensed before licensed_here (same_last life before life parts reads told).is;
      }
    where
      of_told : (before : ℕ) → AreTold rules (licences_in parts) (life_of file (last_life_of life (segments_in parts))) place (told_in parts) → ((told_in parts ≡ []) × (licences_in parts ≡ [])) ⊎ (last_life_of life (segments_in parts) ≡ last_life_of before (segments_in parts)) →
          AreTold rules (licences_in parts) (life_of file (last_life_of before (segments_in parts))) place (told_in parts)
      of_told before is (inl none) =
          subst (AreTold rules (licences_in parts) (life_of file (last_life_of before (segments_in parts))) place) (sym none.0)
          (none_told rules (licences_in parts) (life_of file (last_life_of before (segments_in parts))) place)
      of_told before is (inr same) = subst (λ (n : ℕ). AreTold rules (licences_in parts) (life_of file n) place (told_in parts)) same is

      of_licensed : (before : ℕ) → AllByRecursion (Licensed (last_life_of life (segments_in parts)) place) parts → ((told_in parts ≡ []) × (licences_in parts ≡ [])) ⊎ (last_life_of life (segments_in parts) ≡ last_life_of before (segments_in parts)) →
          AllByRecursion (Licensed (last_life_of before (segments_in parts)) place) parts
      of_licensed before is (inl none) = none_licensed (last_life_of before (segments_in parts)) place parts (last_life_of life (segments_in parts)) none.1 is
      of_licensed before is (inr same) = subst (λ (n : ℕ). AllByRecursion (Licensed n place) parts) same is
