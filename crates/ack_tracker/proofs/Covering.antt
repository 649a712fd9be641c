-- What is covered, with one span more.
use Rattle.std.proofs.Common.{◌≡◌, ◌≢◌, ◌⊎◌, inl, inr, ℕ, ◌<◌, ◌≤◌, List, [], ◌∷◌, ◌++◌, All, Contains, Option, Some, None, unwrap_or, refl, sym, ap, ◌∙◌, subst, arith}
use Rattle.std.proofs.lemmas.Bool.{cases_lt, cases_eq, cases_order}
use Rattle.std.proofs.lemmas.List.Elements.{All-contains, Contains-append_right}
use Rattle.wire_base.specs.Extent.{Extent}
use Rattle.ship_core.specs.CoveredEnd.{AreEqualOrApart, AreApart, covered_end}
use Rattle.ack_tracker.specs.Covered.{Covered, interval_at, IsLed, Holds, Covers, Cuts, Joins, IsLastBefore}
use Rattle.ack_tracker.proofs.Contained.{first_there, none_there, one_more_cases}
use Rattle.ack_tracker.proofs.Leads.{lead_on, lead_more, lead_at, lead_first, IsMet, Stays, GoesOn, led_end}

-- the end is the covered end of the base
pub covers_end : Stays → GoesOn → (spans : List Extent) (base : ℕ) (covered : Covered) → Covers spans base covered → covered_end spans base ≡ covered.end
covers_end stays goes spans base covered covers =
    led_end goes spans covers.apart base covers.reached.via covered.end covers.reached.lead
    ∙ stays spans covered.end (λ span there at. none_at span there at (cases_lt span.start span.end))
  where
    none_at : (span : Extent) → Contains spans span → span.start ≡ covered.end → (span.start < span.end) ⊎ (span.end ≤ span.start) → span.end ≤ covered.end
    none_at span there at (inr none) = omega (arith, at, none)
    none_at span there at (inl some) =
        let held = covers.held span there some (omega (arith, at)) in
        let interval = covers.settled held.start held.end held.interval in
        absurd (omega (arith, at, held.after, interval.0))

-- nothing is covered by no spans
pub covers_none : (base : ℕ) → Covers [] base (record { end = base; ahead = [] })
covers_none base = record {
  apart = λ a b there other. absurd (none_there a there);
  reached = record { via = []; lead = refl };
  settled = λ start end is. absurd (let q : None ≡ Some end = is in cc);
  disjoint = λ start end next last is other lt. absurd (let q : None ≡ Some end = is in cc);
  held = λ span there some le. absurd (none_there span there);
}

same_some : {X : Type 0} (o : Option X) (a b : X) → o ≡ Some a → o ≡ Some b → a ≡ b
same_some o a b one other = let q : Some a ≡ Some b = sym one ∙ other in cc

none_some : {X G : Type 0} (o : Option X) (a : X) → o ≡ None → o ≡ Some a → G
none_some o a none some = absurd (let q : None ≡ Some a = sym none ∙ some in cc)

turned : (a b : Extent) → AreEqualOrApart a b → AreEqualOrApart b a
turned a b (inl same) = inl (sym same)
turned a b (inr (inl before)) = inr (inr before)
turned a b (inr (inr behind)) = inr (inl behind)

module _ (spans : List Extent) (base : ℕ) (covered : Covered) (span : Extent) (fits : All (AreEqualOrApart span) spans) (some : span.start < span.end) (covers : Covers spans base covered) where
  abbrev longer : List Extent
  longer = spans ++ span ∷ []

  fits_to : (other : Extent) → Contains spans other → AreEqualOrApart span other
  fits_to other there = All-contains (AreEqualOrApart span) spans other fits there

  apart_longer : AreApart longer
  apart_longer a b there other = by_case (one_more_cases spans span a there) (one_more_cases spans span b other)
    where
      by_case : (span ≡ a) ⊎ Contains spans a → (span ≡ b) ⊎ Contains spans b → AreEqualOrApart a b
      by_case (inl is) (inl same) = inl (sym is ∙ same)
      by_case (inl is) (inr old) = subst (λ (s : Extent). AreEqualOrApart s b) is (fits_to b old)
      by_case (inr old) (inl same) = subst (λ (s : Extent). AreEqualOrApart a s) same (turned span a (fits_to a old))
      by_case (inr one) (inr two) = covers.apart a b one two

  led_longer : (start end : ℕ) → IsLed spans start end → IsLed longer start end
  led_longer start end led = record { via = led.via; lead = lead_more spans span start led.via end led.lead }

  led_over : IsLed longer span.start span.end
  led_over = record { via = span ∷ []; lead = (Contains-append_right spans (span ∷ []) span (first_there span []), refl, some, refl) }

  led_on : (start middle end : ℕ) → IsLed longer start middle → IsLed longer middle end → IsLed longer start end
  led_on start middle end one two = record { via = one.via ++ two.via; lead = lead_on longer start one.via middle two.via end one.lead two.lead }

  -- an interval that begins after the span's start begins after the span
  behind : (start end : ℕ) → interval_at covered.ahead start ≡ Some end → span.start < start → span.end ≤ start
  behind start end is lt =
      let interval = covers.settled start end is in
      let first = lead_first spans start interval.2.via end interval.2.lead interval.1 in
      by_case first.0 first.2 first.3 (fits_to first.0 first.1)
    where
      by_case : (first : Extent) → first.start ≡ start → start < first.end → AreEqualOrApart span first → span.end ≤ start
      by_case first at more (inl same) = absurd (let start_is : span.start ≡ first.start = ap (λ (s : Extent). s.start) same in omega (arith, start_is, at, lt))
      by_case first at more (inr (inl before)) = omega (arith, before, at)
      by_case first at more (inr (inr after)) = absurd (omega (arith, after, at, more, lt))

  -- what a member of the longer list has: it is the span, or it is held
  held_by : (ahead : List (ℕ × ℕ)) (place : ℕ) → covered.end ≤ place → (place ≤ span.start → Holds ahead span) → ((other : Extent) → Contains spans other → other.start < other.end → place ≤ other.start → Holds covered.ahead other → Holds ahead other) → (other : Extent) → Contains longer other → other.start < other.end → place ≤ other.start → Holds ahead other
  held_by ahead place further this each other there long le = by_case (one_more_cases spans span other there)
    where
      by_case : (span ≡ other) ⊎ Contains spans other → Holds ahead other
      by_case (inl same) = subst (λ (s : Extent). place ≤ s.start → Holds ahead s) same this le
      by_case (inr old) = each other old long le (covers.held other old long (omega (arith, further, le)))

  -- ---- a span before the end, or within an interval

  pub settled_before : span.start < covered.end → Covers longer base covered
  settled_before lt = record {
    apart = apart_longer;
    reached = led_longer base covered.end covers.reached;
    settled = λ start end is. let interval = covers.settled start end is in (interval.0, interval.1, led_longer start end interval.2);
    disjoint = covers.disjoint;
    held = held_by covered.ahead covered.end (omega arith) (λ le. absurd (omega (arith, lt, le))) (λ other there long le held. held);
  }

  pub settled_within : (start end : ℕ) → interval_at covered.ahead start ≡ Some end → start ≤ span.start → span.start < end → Covers longer base covered
  settled_within start end is le lt =
      let interval = covers.settled start end is in
      let met = lead_at spans start interval.2.via end interval.2.lead span.start le lt in
      record {
        apart = apart_longer;
        reached = led_longer base covered.end covers.reached;
        settled = λ from to there. let other = covers.settled from to there in (other.0, other.1, led_longer from to other.2);
        disjoint = covers.disjoint;
        held = held_by covered.ahead covered.end (omega arith) (λ further. record { start = start; end = end; interval = is; after = le; before = inside met (fits_to met.span met.there) }) (λ other there long further held. held);
      }
    where
      inside : (met : IsMet spans span.start end) → AreEqualOrApart span met.span → span.end ≤ end
      inside met (inl same) = let end_is : span.end ≡ met.span.end = ap (λ (s : Extent). s.end) same in omega (arith, end_is, met.inside)
      inside met (inr (inl before)) = absurd (omega (arith, before, met.start, some))
      inside met (inr (inr after)) = absurd (omega (arith, after, met.behind))

  -- ---- a span at the end

  module _ (after : Covered) (at : span.start ≡ covered.end) (cuts : Cuts covered.ahead after.ahead span.end) where
    kept : (start end : ℕ) → interval_at after.ahead start ≡ Some end → (start ≢ span.end) × (interval_at covered.ahead start ≡ Some end)
    kept start end is = by_case (cases_eq start span.end)
      where
        by_case : (start ≡ span.end) ⊎ (start ≡ span.end → ⊥) → (start ≢ span.end) × (interval_at covered.ahead start ≡ Some end)
        by_case (inl same) = none_some (interval_at after.ahead start) end (ap (interval_at after.ahead) same ∙ cuts.gone) is
        by_case (inr other) = (other, sym (cuts.others start other) ∙ is)

    further : (start end : ℕ) → interval_at after.ahead start ≡ Some end → span.end < start
    further start end is =
        let old = kept start end is in
        let interval = covers.settled start end old.1 in
        let le = behind start end old.1 (omega (arith, at, interval.0)) in
        by_case old.0 le (cases_lt span.end start)
      where
        by_case : (start ≢ span.end) → span.end ≤ start → (span.end < start) ⊎ (start ≤ span.end) → span.end < start
        by_case other le (inl lt) = lt
        by_case other le (inr ge) = absurd (other (omega (arith, le, ge)))

    -- with the place to which the end has come
    moved : after.end ≡ unwrap_or (interval_at covered.ahead span.end) span.end → (span.end ≤ after.end) → IsLed longer span.end after.end → ((start end : ℕ) → interval_at after.ahead start ≡ Some end → after.end < start) → ((other : Extent) → other.start < other.end → after.end ≤ other.start → (held : Holds covered.ahead other) → held.start ≢ span.end) → Covers longer base after
    moved is no_nearer led past elsewhere = record {
      apart = apart_longer;
      reached = led_on base span.end after.end (led_on base span.start span.end (subst (λ (z : ℕ). IsLed longer base z) (sym at) (led_longer base covered.end covers.reached)) led_over) led;
      settled = λ start end there. let old = kept start end there in let interval = covers.settled start end old.1 in (past start end there, interval.1, led_longer start end interval.2);
      disjoint = λ start end next last one two lt. covers.disjoint start end next last (kept start end one).1 (kept next last two).1 lt;
      held = held_by after.ahead after.end (omega (arith, at, some, no_nearer)) (λ le. absurd (omega (arith, le, some, no_nearer))) (λ other there long le held. record {
        start = held.start;
        end = held.end;
        interval = cuts.others held.start (elsewhere other long le held) ∙ held.interval;
        after = held.after;
        before = held.before;
      });
    }

    pub settled_at : after.end ≡ unwrap_or (interval_at covered.ahead span.end) span.end → Covers longer base after
    settled_at is = by_case (interval_at covered.ahead span.end) refl
      where
        by_case : (o : Option ℕ) → interval_at covered.ahead span.end ≡ o → Covers longer base after
        by_case None none =
            let end_is : after.end ≡ span.end = is ∙ ap (λ (o : Option ℕ). unwrap_or o span.end) none in
            moved is (omega (arith, end_is)) (record { via = []; lead = sym end_is })
            (λ start end there. let lt = further start end there in omega (arith, lt, end_is))
            (λ other long le held same. none_some (interval_at covered.ahead span.end) held.end none (ap (interval_at covered.ahead) (sym same) ∙ held.interval))
        by_case (Some last) there =
            let end_is : after.end ≡ last = is ∙ ap (λ (o : Option ℕ). unwrap_or o span.end) there in
            let interval = covers.settled span.end last there in
            moved is (omega (arith, end_is, interval.1)) (subst (λ (z : ℕ). IsLed longer span.end z) (sym end_is) (led_longer span.end last interval.2))
            (λ start end one. let apart = covers.disjoint span.end last start end there (kept start end one).1 (further start end one) in omega (arith, apart, end_is))
            (λ other long le held same. let held_end : held.end ≡ last = same_some (interval_at covered.ahead span.end) held.end last (ap (interval_at covered.ahead) (sym same) ∙ held.interval) there in omega (arith, held_end, held.before, end_is, le, long))

  -- ---- a span ahead of the end, from where it begins or from where the interval begins that ends there

  abbrev pub Begins : ℕ → Type 0
  Begins start = ((start ≡ span.start) × ((other end : ℕ) → interval_at covered.ahead other ≡ Some end → other ≤ span.start → end < span.start)) ⊎ (interval_at covered.ahead start ≡ Some span.start)

  module _ (after : Covered) (start : ℕ) (same_end : after.end ≡ covered.end) (lies_ahead : covered.end < span.start) (begins : Begins start) (joins : Joins covered.ahead after.ahead start span.end) where
    abbrev last : ℕ
    last = unwrap_or (interval_at covered.ahead span.end) span.end

    -- where the joined interval begins
    record Low : Type 0 where
      behind_end : covered.end < start
      at_most : start ≤ span.start
      led : IsLed longer start span.end

    low : Low
    low = by_case begins
      where
        by_case : Begins start → Low
        by_case (inl at) = record { behind_end = omega (arith, at.0, lies_ahead); at_most = omega (arith, at.0); led = subst (λ (z : ℕ). IsLed longer z span.end) (sym at.0) led_over }
        by_case (inr is) =
            let interval = covers.settled start span.start is in
            record { behind_end = interval.0; at_most = omega (arith, interval.1); led = led_on start span.start span.end (led_longer start span.start interval.2) led_over }

    below : (other end : ℕ) → interval_at covered.ahead other ≡ Some end → other < start → end < start
    below other end is lt = by_case begins
      where
        by_case : Begins start → end < start
        by_case (inl at) = let less = at.1 other end is (omega (arith, at.0, lt)) in omega (arith, less, at.0)
        by_case (inr there) = covers.disjoint other end start span.start is there lt

    above : (other end : ℕ) → interval_at covered.ahead other ≡ Some end → start < other → span.end ≤ other
    above other end is lt = by_case begins
      where
        by_case : Begins start → span.end ≤ other
        by_case (inl at) = behind other end is (omega (arith, at.0, lt))
        by_case (inr there) = behind other end is (covers.disjoint start span.start other end there is lt)

    -- where it ends
    record High : Type 0 where
      no_nearer : span.end ≤ last
      led : IsLed longer span.end last
      past : (other end : ℕ) → interval_at covered.ahead other ≡ Some end → start < other → other ≢ span.end → last < other
      ends : (end : ℕ) → interval_at covered.ahead span.end ≡ Some end → end ≡ last

    high : High
    high = by_case (interval_at covered.ahead span.end) refl
      where
        strictly : (other : ℕ) → span.end ≤ other → other ≢ span.end → (span.end < other) ⊎ (other ≤ span.end) → span.end < other
        strictly other le differs (inl lt) = lt
        strictly other le differs (inr ge) = absurd (differs (omega (arith, le, ge)))

        by_case : (o : Option ℕ) → interval_at covered.ahead span.end ≡ o → High
        by_case None none =
            let last_is : last ≡ span.end = ap (λ (o : Option ℕ). unwrap_or o span.end) none in
            record {
              no_nearer = omega (arith, last_is);
              led = record { via = []; lead = sym last_is };
              past = λ other end is lt differs. let more = strictly other (above other end is lt) differs (cases_lt span.end other) in omega (arith, more, last_is);
              ends = λ end is. none_some (interval_at covered.ahead span.end) end none is;
            }
        by_case (Some z) there =
            let last_is : last ≡ z = ap (λ (o : Option ℕ). unwrap_or o span.end) there in
            let interval = covers.settled span.end z there in
            record {
              no_nearer = omega (arith, last_is, interval.1);
              led = subst (λ (y : ℕ). IsLed longer span.end y) (sym last_is) (led_longer span.end z interval.2);
              past = λ other end is lt differs. let apart = covers.disjoint span.end z other end there is (strictly other (above other end is lt) differs (cases_lt span.end other)) in omega (arith, apart, last_is);
              ends = λ end is. same_some (interval_at covered.ahead span.end) end z is there ∙ sym last_is;
            }

    -- an interval that there is now: the joined one, or one of the old
    abbrev IsNow : ℕ → ℕ → Type 0
    IsNow other end = ((other ≡ start) × (end ≡ last)) ⊎ ((other ≢ start) × (other ≢ span.end) × (interval_at covered.ahead other ≡ Some end))

    now : (other end : ℕ) → interval_at after.ahead other ≡ Some end → IsNow other end
    now other end is = by_start (cases_eq other start)
      where
        by_end : (other ≢ start) → (other ≡ span.end) ⊎ (other ≡ span.end → ⊥) → IsNow other end
        by_end differs (inl same) = none_some (interval_at after.ahead other) end (ap (interval_at after.ahead) same ∙ joins.gone) is
        by_end differs (inr elsewhere) = inr (differs, elsewhere, sym (joins.others other differs elsewhere) ∙ is)

        by_start : (other ≡ start) ⊎ (other ≡ start → ⊥) → IsNow other end
        by_start (inl same) = inl (same, same_some (interval_at after.ahead start) end last (ap (interval_at after.ahead) (sym same) ∙ is) joins.here)
        by_start (inr differs) = by_end differs (cases_eq other span.end)

    settled_now : (other end : ℕ) → IsNow other end → (after.end < other) × (other < end) × IsLed longer other end
    settled_now other end (inl new) = (
      omega (arith, same_end, new.0, low.behind_end),
      omega (arith, new.0, new.1, low.at_most, some, high.no_nearer),
      subst (λ (z : ℕ). IsLed longer z end) (sym new.0) (subst (λ (z : ℕ). IsLed longer start z) (sym new.1) (led_on start span.end last low.led high.led)),
    )
    settled_now other end (inr old) =
        let interval = covers.settled other end old.2 in
        (omega (arith, same_end, interval.0), interval.1, led_longer other end interval.2)

    disjoint_now : (one end next over : ℕ) → IsNow one end → IsNow next over → one < next → end < next
    disjoint_now one end next over (inl new) (inl same) lt = absurd (omega (arith, new.0, same.0, lt))
    disjoint_now one end next over (inl new) (inr old) lt = let past = high.past next over old.2 (omega (arith, new.0, lt)) old.1 in omega (arith, past, new.1)
    disjoint_now one end next over (inr old) (inl new) lt = let less = below one end old.2 (omega (arith, new.0, lt)) in omega (arith, less, new.0)
    disjoint_now one end next over (inr old) (inr other) lt = covers.disjoint one end next over old.2 other.2 lt

    -- what lies within the joined interval
    joined : (other : Extent) → start ≤ other.start → other.end ≤ last → Holds after.ahead other
    joined other le within = record { start = start; end = last; interval = joins.here; after = le; before = within }

    held_now : (other : Extent) → other.start < other.end → Holds covered.ahead other → Holds after.ahead other
    held_now other long held = by_start (cases_eq held.start start)
      where
        at_start : Begins start → held.start ≡ start → Holds after.ahead other
        at_start (inl at) same =
            let less = at.1 held.start held.end held.interval (omega (arith, same, at.0)) in
            absurd (omega (arith, less, held.before, held.after, long, same, at.0))
        at_start (inr there) same =
            let end_is : held.end ≡ span.start = same_some (interval_at covered.ahead start) held.end span.start (ap (interval_at covered.ahead) (sym same) ∙ held.interval) there in
            joined other (omega (arith, same, held.after)) (omega (arith, end_is, held.before, some, high.no_nearer))

        by_end : (held.start ≢ start) → (held.start ≡ span.end) ⊎ (held.start ≡ span.end → ⊥) → Holds after.ahead other
        by_end differs (inl same) =
            let end_is : held.end ≡ last = high.ends held.end (ap (interval_at covered.ahead) (sym same) ∙ held.interval) in
            joined other (omega (arith, same, held.after, low.at_most, some)) (omega (arith, end_is, held.before))
        by_end differs (inr elsewhere) = record { start = held.start; end = held.end; interval = joins.others held.start differs elsewhere ∙ held.interval; after = held.after; before = held.before }

        by_start : (held.start ≡ start) ⊎ (held.start ≡ start → ⊥) → Holds after.ahead other
        by_start (inl same) = at_start begins same
        by_start (inr differs) = by_end differs (cases_eq held.start span.end)

    pub settled_ahead : Covers longer base after
    settled_ahead = record {
      apart = apart_longer;
      reached = subst (λ (z : ℕ). IsLed longer base z) (sym same_end) (led_longer base covered.end covers.reached);
      settled = λ other end is. settled_now other end (now other end is);
      disjoint = λ one end next over is there lt. disjoint_now one end next over (now one end is) (now next over there) lt;
      held = held_by after.ahead after.end (omega (arith, same_end)) (λ le. joined span low.at_most high.no_nearer) (λ other there long le held. held_now other long held);
    }

  -- where the span begins, if the last interval before it ends before
  pub begins_here : (o : Option (ℕ × ℕ)) → IsLastBefore covered.ahead span.start o → ((interval : ℕ × ℕ) → o ≡ Some interval → interval.1 < span.start) → Begins span.start
  begins_here None last ends = inl (refl, λ other end is le. none_some (interval_at covered.ahead other) end (last other le) is)
  begins_here (Some interval) last ends = inl (refl, λ other end is le. by_order other end is le (cases_order other interval.0))
    where
      by_order : (other end : ℕ) → interval_at covered.ahead other ≡ Some end → other ≤ span.start → (other ≡ interval.0) ⊎ ((other < interval.0) ⊎ (interval.0 < other)) → end < span.start
      by_order other end is le (inl same) =
          let end_is : end ≡ interval.1 = same_some (interval_at covered.ahead interval.0) end interval.1 (ap (interval_at covered.ahead) (sym same) ∙ is) last.0 in
          let less = ends interval refl in
          omega (arith, end_is, less)
      by_order other end is le (inr (inl lt)) = let apart = covers.disjoint other end interval.0 interval.1 is last.0 lt in omega (arith, apart, last.1)
      by_order other end is le (inr (inr gt)) = none_some (interval_at covered.ahead other) end (last.2 other le gt) is
