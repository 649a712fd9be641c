-- Covered ends by the spans that a list contains, whatever their order, and the prefix that a covered end closes.
use Rattle.std.proofs.Common.{◌≡◌, ◌≢◌, ◌⊎◌, inl, inr, ℕ, ◌≤◌, ◌<◌, Bool, true, false, List, [], ◌∷◌, ◌++◌, All, Contains, Some, None, if◌then◌else◌, refl, sym, ap, ◌∙◌, subst, arith}
use Rattle.std.proofs.lemmas.List.Elements.{All-nil, All-cons, All-head, All-tail, All-contains}
use Rattle.wire_base.specs.Extent.{Extent}
use Rattle.ship_core.specs.CoveredEnd.{next_end, covered_end, AreEqualOrApart, AreApart, Adjoin, last_end, ClosesPrefix}
use Rattle.ship_core.proofs.Members.{first_there, later_there, there_cases}
use Rattle.ship_core.proofs.Covering.{goes_on, begins_there, passes, by_next, stays, goes, along, covers}

-- ---- what is found is a member, and a member is found

-- the span whose end was found
pub record IsFound (spans : List Extent) (place end : ℕ) : Type 0 where
  pub span : Extent
  pub there : Contains spans span
  pub start : span.start ≡ place
  pub end_is : span.end ≡ end
  pub behind : place < end

pub found_span : (spans : List Extent) (place end : ℕ) → next_end spans place ≡ Some end → IsFound spans place end
found_span [] place end e = absurd (let q : None ≡ Some end = e in cc)
found_span (span ∷ spans) place end e = by_case (goes_on span place) refl (found_span spans place end) e
  where
    by_case : (b : Bool) → goes_on span place ≡ b → (next_end spans place ≡ Some end → IsFound spans place end) → (if b then Some span.end else next_end spans place) ≡ Some end → IsFound (span ∷ spans) place end
    by_case true e h is =
        let there = begins_there span place e in
        let same : span.end ≡ end = cc in
        record { span = span; there = first_there span spans; start = there.0; end_is = same; behind = subst (λ z. place < z) same there.1 }
    by_case false e h is =
        let found = h is in
        record { span = found.span; there = later_there span found.span spans found.there; start = found.start; end_is = found.end_is; behind = found.behind }

-- a member that begins at a place is found there, or another that does
pub member_found : (spans : List Extent) (span : Extent) → Contains spans span → span.start < span.end → next_end spans span.start ≢ None
member_found [] span there lt none = absurd (omega (arith, there.1))
member_found (first ∷ spans) span there lt none = by_case (goes_on first span.start) refl (member_found spans span) none (there_cases first span spans there)
  where
    by_case : (b : Bool) → goes_on first span.start ≡ b → (Contains spans span → span.start < span.end → next_end spans span.start ≢ None) → (if b then Some first.end else next_end spans span.start) ≡ None → (first ≡ span) ⊎ Contains spans span → ⊥
    by_case true e h none which = let q : Some first.end ≡ None = none in cc
    by_case false e h none (inl same) =
        let yes : goes_on first span.start ≡ true = passes first span.start (ap (λ (s : Extent). s.start) same) (subst (λ (s : Extent). span.start < s.end) (sym same) lt) in
        let q : true ≡ false = sym yes ∙ e in
        cc
    by_case false e h none (inr later) = h later lt none

-- ---- spans that are equal or apart

-- two of them that begin at one place end at one
one_end : (a b : Extent) → AreEqualOrApart a b → a.start ≡ b.start → a.start < a.end → b.start < b.end → a.end ≡ b.end
one_end a b (inl same) start first second = ap (λ (s : Extent). s.end) same
one_end a b (inr (inl before)) start first second = absurd (omega arith)
one_end a b (inr (inr behind)) start first second = absurd (omega arith)

-- at a member's start its end is found
pub goes_by_member : (spans : List Extent) (span : Extent) → AreApart spans → Contains spans span → span.start < span.end → next_end spans span.start ≡ Some span.end
goes_by_member spans span apart there lt =
    by_next spans span.start
    (λ none. absurd (member_found spans span there lt none))
    (λ end some.
    let found = found_span spans span.start end some in
    let same : found.span.end ≡ span.end = one_end found.span span (apart found.span span found.there there) found.start (omega (arith, found.start, found.end_is, found.behind)) lt in
    some ∙ ap Some (sym found.end_is ∙ same))

-- lists of the same spans have the same covered ends
pub same_spans : (first second : List Extent) → AreApart second → ((span : Extent) → Contains first span → Contains second span) → ((span : Extent) → Contains second span → Contains first span) → (place : ℕ) → covered_end first place ≡ covered_end second place
same_spans first second apart there back =
    along (λ place. covered_end first place ≡ covered_end second place) first
    (λ place none. stays first place none ∙ sym (stays second place (no_more place none)))
    (λ place end some h. goes first place end some ∙ h ∙ sym (goes second place end (further place end some)))
  where
    no_more : (place : ℕ) → next_end first place ≡ None → next_end second place ≡ None
    no_more place none = by_next second place (λ e. e) (λ end some.
        let found = found_span second place end some in
        absurd (member_found first found.span (back found.span found.there) (omega (arith, found.start, found.end_is, found.behind)) (ap (next_end first) found.start ∙ none)))

    further : (place end : ℕ) → next_end first place ≡ Some end → next_end second place ≡ Some end
    further place end some =
        let found = found_span first place end some in
        ap (next_end second) (sym found.start) ∙ goes_by_member second found.span apart (there found.span found.there) (omega (arith, found.start, found.end_is, found.behind)) ∙ ap Some found.end_is

-- ---- the prefix of reported spans

pub adjoining_behind : (place : ℕ) (told : List Extent) (span : Extent) → Adjoin place told → Contains told span → place ≤ span.start
adjoining_behind place [] span adjoin there = absurd (omega (arith, there.1))
adjoining_behind place (first ∷ told) span adjoin there = by_case (there_cases first span told there) (adjoining_behind first.end told span adjoin.2)
  where
    by_case : (first ≡ span) ⊎ Contains told span → (Contains told span → first.end ≤ span.start) → place ≤ span.start
    by_case (inl same) h = let start : first.start ≡ span.start = ap (λ (s : Extent). s.start) same in omega (arith, start, adjoin.0)
    by_case (inr later) h = omega (arith, h later, adjoin.1)

-- the reported span that begins at the place is the first
told_first : (place : ℕ) (first : Extent) (told : List Extent) (span : Extent) → Adjoin place (first ∷ told) → Contains (first ∷ told) span → span.start ≡ place → first ≡ span
told_first place first told span adjoin there at = by_case (there_cases first span told there)
  where
    by_case : (first ≡ span) ⊎ Contains told span → first ≡ span
    by_case (inl same) = same
    by_case (inr later) = absurd (omega (arith, adjoining_behind first.end told span adjoin.2 later, adjoin.1, at))

-- what is settled after the first reported span is reported after it
later_told : (place : ℕ) (first : Extent) (told spans : List Extent) → Adjoin place (first ∷ told) → ((span : Extent) → Contains spans span → place ≤ span.start → span.start < span.end → Contains (first ∷ told) span) → (span : Extent) → Contains spans span → first.end ≤ span.start → span.start < span.end → Contains told span
later_told place first told spans adjoin known span there le lt = by_case (there_cases first span told (known span there (omega (arith, adjoin.1)) lt))
  where
    by_case : (first ≡ span) ⊎ Contains told span → Contains told span
    by_case (inl same) = absurd (let start : first.start ≡ span.start = ap (λ (s : Extent). s.start) same in omega (arith, start, adjoin.0, adjoin.1))
    by_case (inr later) = later

-- what is found at the place of the first reported span is its end
first_end : (place : ℕ) (first : Extent) (told spans : List Extent) → Adjoin place (first ∷ told) → ((span : Extent) → Contains spans span → place ≤ span.start → span.start < span.end → Contains (first ∷ told) span) → (end : ℕ) → next_end spans place ≡ Some end → (end ≡ first.end) × Contains spans first
first_end place first told spans adjoin known end some =
    let found = found_span spans place end some in
    let same = told_first place first told found.span adjoin (known found.span found.there (omega (arith, found.start)) (omega (arith, found.start, found.end_is, found.behind))) found.start in
    (sym found.end_is ∙ sym (ap (λ (s : Extent). s.end) same), subst (Contains spans) (sym same) found.there)

-- a covered end by spans that were reported closes a prefix of what was reported
pub closes : (told spans : List Extent) (base : ℕ) → Adjoin base told → ((span : Extent) → Contains spans span → base ≤ span.start → span.start < span.end → Contains told span) → ClosesPrefix told spans base
closes [] spans base adjoin known = record {
  front = [];
  rest = [];
  parts = refl;
  settled = All-nil (Contains spans);
  end_is = stays spans base (by_next spans base (λ e. e) (λ end some.
      let found = found_span spans base end some in
      absurd (let none = known found.span found.there (omega (arith, found.start)) (omega (arith, found.start, found.end_is, found.behind)) in omega (arith, none.1))));
}
closes (first ∷ told) spans base adjoin known = by_next spans base stop (more (λ _. closes told spans first.end adjoin.2 (later_told base first told spans adjoin known)))
  where
    stop : next_end spans base ≡ None → ClosesPrefix (first ∷ told) spans base
    stop none = record { front = []; rest = first ∷ told; parts = refl; settled = All-nil (Contains spans); end_is = stays spans base none }

    more : (ℕ → ClosesPrefix told spans first.end) → (end : ℕ) → next_end spans base ≡ Some end → ClosesPrefix (first ∷ told) spans base
    more h end some =
        let first_is = first_end base first told spans adjoin known end some in
        let others = h 0 in
        record {
          front = first ∷ others.front;
          rest = others.rest;
          parts = ap (λ (l : List Extent). first ∷ l) others.parts;
          settled = All-cons (Contains spans) first others.front first_is.1 others.settled;
          end_is = goes spans base end some ∙ ap (covered_end spans) first_is.0 ∙ others.end_is;
        }

-- and where all that was reported is settled, it is the end of all
pub closes_all : (told spans : List Extent) (base : ℕ) → Adjoin base told → ((span : Extent) → Contains spans span → base ≤ span.start → span.start < span.end → Contains told span) → All (Contains spans) told → covered_end spans base ≡ last_end base told
closes_all [] spans base adjoin known all = stays spans base (by_next spans base (λ e. e) (λ end some.
    let found = found_span spans base end some in
    absurd (let none = known found.span found.there (omega (arith, found.start)) (omega (arith, found.start, found.end_is, found.behind)) in omega (arith, none.1))))
closes_all (first ∷ told) spans base adjoin known all =
    by_next spans base
    (λ none. absurd (member_found spans first (All-head (Contains spans) first told all) (omega (arith, adjoin.0, adjoin.1)) (ap (next_end spans) adjoin.0 ∙ none)))
    (λ end some.
    let first_is = first_end base first told spans adjoin known end some in
    goes spans base end some ∙ ap (covered_end spans) first_is.0 ∙ closes_all told spans first.end adjoin.2 (later_told base first told spans adjoin known) (All-tail (Contains spans) first told all))

-- ---- more spans, and bounds

more_found : (spans more : List Extent) (place end : ℕ) → next_end spans place ≡ Some end → next_end (spans ++ more) place ≡ Some end
more_found [] more place end some = absurd (let q : None ≡ Some end = some in cc)
more_found (span ∷ spans) more place end some = by_case (goes_on span place) (more_found spans more place end) some
  where
    by_case : (b : Bool) → (next_end spans place ≡ Some end → next_end (spans ++ more) place ≡ Some end) → (if b then Some span.end else next_end spans place) ≡ Some end → (if b then Some span.end else next_end (spans ++ more) place) ≡ Some end
    by_case true h is = is
    by_case false h is = h is

-- with more spans after it a covered end does not go back
pub no_nearer : (spans more : List Extent) (place : ℕ) → covered_end spans place ≤ covered_end (spans ++ more) place
no_nearer spans more = along (λ place. covered_end spans place ≤ covered_end (spans ++ more) place) spans
    (λ place none. rw (stays spans place none) (covers (spans ++ more) place))
    (λ place end some h. rw (goes spans place end some, goes (spans ++ more) place end (more_found spans more place end some)) h)

-- no covered end lies after its place and all ends
pub no_further : (spans : List Extent) (most place : ℕ) → All (λ span. span.end ≤ most) spans → place ≤ most → covered_end spans place ≤ most
no_further spans most place ends = along (λ place. place ≤ most → covered_end spans place ≤ most) spans
    (λ place none le. rw (stays spans place none) le)
    (λ place end some h le. rw (goes spans place end some) (h (within place end some)))
    place
  where
    within : (place end : ℕ) → next_end spans place ≡ Some end → end ≤ most
    within place end some =
        let found = found_span spans place end some in
        subst (λ z. z ≤ most) found.end_is (All-contains (λ (span : Extent). span.end ≤ most) spans found.span ends found.there)
