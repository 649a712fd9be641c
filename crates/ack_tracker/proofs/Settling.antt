-- One span more, by what a tree of intervals says.
use Rattle.std.proofs.Common.{◌≡◌, ◌≢◌, ◌⊎◌, inl, inr, ℕ, ◌<◌, ◌≤◌, List, [], ◌∷◌, ◌++◌, Option, Some, None, unwrap_or, true, false, refl, sym, ap, ◌∙◌, subst, arith}
use Rattle.std.specs.BTreeMap.{BTreeMap, get, Updates, UpdatesBy}
use Rattle.std.specs.BTreeMap.Range.{IsRangeOf}
use Rattle.std.specs.Option.{IsSome}
use Rattle.std.specs.Ordering.{nat_cmp, is_gt, is_lt}
use Rattle.std.specs.declared.cmp.Ordering.{Ordering}
use Rattle.std.specs.declared.cmp.Ordering.TheVariants.{Less, Equal, Greater}
use Rattle.std.specs.declared.ops.Bound.TheVariants.{Included, Unbounded}
use Rattle.std.proofs.lemmas.Bool.{cases_eq}
use Rattle.std.proofs.lemmas.Cmp.{ranked}
use Rattle.wire_base.specs.Extent.{Extent}
use Rattle.wire_base.specs.Ranges.{IsPlace}
use Rattle.ack_tracker.specs.Covered.{Covered, interval_at, AddsSpan, Cuts, IsInRange, IsLastBefore, Joins}
use Rattle.ack_tracker.proofs.ByNumber.{not_at}
use Rattle.ack_tracker.proofs.Covering.{settled_before, settled_at, settled_within, settled_ahead, begins_here}

-- ---- what was added

pub adds_before : (old : Covered) (span : Extent) → span.start < span.end → span.start < old.end → AddsSpan old span old
adds_before old span some lt = record {
  covers = λ spans base fits covers. settled_before spans base old span fits some covers lt;
  no_nearer = omega arith;
}

pub adds_within : (old : Covered) (span : Extent) → span.start < span.end → (start end : ℕ) → interval_at old.ahead start ≡ Some end → start ≤ span.start → span.start < end → AddsSpan old span old
adds_within old span some start end is le lt = record {
  covers = λ spans base fits covers. settled_within spans base old span fits some covers start end is le lt;
  no_nearer = omega arith;
}

pub adds_at : (old new : Covered) (span : Extent) → span.start < span.end → span.start ≡ old.end → new.end ≡ unwrap_or (interval_at old.ahead span.end) span.end → Cuts old.ahead new.ahead span.end → IsInRange old → AddsSpan old span new
adds_at old new span some at end_is cuts within = record {
  covers = λ spans base fits covers. settled_at spans base old span fits some covers new at cuts end_is;
  no_nearer = by_interval (interval_at old.ahead span.end) refl;
}
  where
    by_interval : (o : Option ℕ) → interval_at old.ahead span.end ≡ o → old.end ≤ new.end
    by_interval None is = let e : new.end ≡ span.end = end_is ∙ ap (λ (o : Option ℕ). unwrap_or o span.end) is in omega (arith, e, at, some)
    by_interval (Some last) is =
        let e : new.end ≡ last = end_is ∙ ap (λ (o : Option ℕ). unwrap_or o span.end) is in
        let interval = within.intervals span.end last is in
        omega (arith, e, interval.0, at, some)

pub adds_joined : (old new : Covered) (span : Extent) → span.start < span.end → old.end < span.start → new.end ≡ old.end → (start end : ℕ) → interval_at old.ahead start ≡ Some end → end ≡ span.start → Joins old.ahead new.ahead start span.end → AddsSpan old span new
adds_joined old new span some ahead same start end is ends joins = record {
  covers = λ spans base fits covers. settled_ahead spans base old span fits some covers new start same ahead (inr (is ∙ ap Some ends)) joins;
  no_nearer = omega (arith, same);
}

pub adds_apart : (old new : Covered) (span : Extent) → span.start < span.end → old.end < span.start → new.end ≡ old.end → (last : Option (ℕ × ℕ)) → IsLastBefore old.ahead span.start last → ((interval : ℕ × ℕ) → last ≡ Some interval → interval.1 < span.start) → Joins old.ahead new.ahead span.start span.end → AddsSpan old span new
adds_apart old new span some ahead same last is ends joins = record {
  covers = λ spans base fits covers. settled_ahead spans base old span fits some covers new span.start same ahead (begins_here spans base old span fits some covers last is ends) joins;
  no_nearer = omega (arith, same);
}

-- ---- ranges stay

pub range_none : (base : ℕ) (ahead : List (ℕ × ℕ)) → IsPlace base → ahead ≡ [] → IsInRange (record { end = base; ahead = ahead })
range_none base ahead within none = record {
  end = within;
  intervals = λ start end is. absurd (let q : None ≡ Some end = ap (λ (l : List (ℕ × ℕ)). interval_at l start) (sym none) ∙ is in cc);
}

pub range_at : (old new : Covered) (place : ℕ) → IsPlace place → new.end ≡ unwrap_or (interval_at old.ahead place) place → Cuts old.ahead new.ahead place → IsInRange old → IsInRange new
range_at old new place fits end_is cuts within = record {
  end = by_interval (interval_at old.ahead place) refl;
  intervals = λ start end is. interval start end is (cases_eq start place);
}
  where
    by_interval : (o : Option ℕ) → interval_at old.ahead place ≡ o → IsPlace new.end
    by_interval None is = let e : new.end ≡ place = end_is ∙ ap (λ (o : Option ℕ). unwrap_or o place) is in subst IsPlace (sym e) fits
    by_interval (Some last) is = let e : new.end ≡ last = end_is ∙ ap (λ (o : Option ℕ). unwrap_or o place) is in subst IsPlace (sym e) (within.intervals place last is).1

    interval : (start end : ℕ) → interval_at new.ahead start ≡ Some end → (start ≡ place) ⊎ (start ≡ place → ⊥) → (start < end) × IsPlace end
    interval start end is (inl same) = absurd (let q : None ≡ Some end = sym (ap (interval_at new.ahead) same ∙ cuts.gone) ∙ is in cc)
    interval start end is (inr other) = within.intervals start end (sym (cuts.others start other) ∙ is)

pub range_joined : (old new : Covered) (start place : ℕ) → start < place → IsPlace place → new.end ≡ old.end → Joins old.ahead new.ahead start place → IsInRange old → IsInRange new
range_joined old new start place lt fits same joins within = record {
  end = subst IsPlace (sym same) within.end;
  intervals = λ other end is. interval other end is (cases_eq other start);
}
  where
    last_within : (o : Option ℕ) → interval_at old.ahead place ≡ o → (start < unwrap_or o place) × IsPlace (unwrap_or o place)
    last_within None is = (lt, fits)
    last_within (Some last) is = let old_interval = within.intervals place last is in (omega (arith, lt, old_interval.0), old_interval.1)

    elsewhere : (other end : ℕ) → interval_at new.ahead other ≡ Some end → (other ≢ start) → (other ≡ place) ⊎ (other ≡ place → ⊥) → (other < end) × IsPlace end
    elsewhere other end is differs (inl at) = absurd (let q : None ≡ Some end = sym (ap (interval_at new.ahead) at ∙ joins.gone) ∙ is in cc)
    elsewhere other end is differs (inr apart) = within.intervals other end (sym (joins.others other differs apart) ∙ is)

    interval : (other end : ℕ) → interval_at new.ahead other ≡ Some end → (other ≡ start) ⊎ (other ≡ start → ⊥) → (other < end) × IsPlace end
    interval other end is (inl at) =
        let end_is : end ≡ unwrap_or (interval_at old.ahead place) place = let q : Some end ≡ Some (unwrap_or (interval_at old.ahead place) place) = sym is ∙ ap (interval_at new.ahead) at ∙ joins.here in cc in
        let last = last_within (interval_at old.ahead place) refl in
        (omega (arith, at, end_is, last.0), subst IsPlace (sym end_is) last.1)
    interval other end is (inr differs) = elsewhere other end is differs (cases_eq other place)

-- ---- what calls of the tree say

pub cut_made : (old new : BTreeMap ℕ ℕ) (place : ℕ) → UpdatesBy nat_cmp (nat_cmp place) old new None → Cuts old.entries new.entries place
cut_made old new place updates = record {
  gone = updates.1;
  others = λ other differs. updates.2 other (not_at place other (λ same. differs (sym same)));
}

pub joins_made : (old between new : BTreeMap ℕ ℕ) (start end last : ℕ) → start < end → last ≡ unwrap_or (interval_at old.entries end) end → Updates nat_cmp old between start (Some last) → UpdatesBy nat_cmp (nat_cmp end) between new None → Joins old.entries new.entries start end
joins_made old between new start end last lt last_is inserted removed = record {
  here = removed.2 start (not_at end start (λ same. omega (arith, same, lt))) ∙ inserted.1 ∙ ap Some last_is;
  gone = removed.1;
  others = λ other differs apart. removed.2 other (not_at end other (λ same. apart (sym same))) ∙ inserted.2 other (not_at start other (λ same. differs (sym same)));
}

not_greater : (a b : ℕ) → a ≤ b → is_gt (nat_cmp a b) ≡ false
not_greater a b le = by_order (nat_cmp a b) refl
  where
    by_order : (o : Ordering) → o ≡ nat_cmp a b → is_gt o ≡ false
    by_order Less is = refl
    by_order Equal is = refl
    by_order Greater is = absurd (let above : b < a = ranked a b Greater is in omega (arith, above, le))

greater_not : (a b : ℕ) → is_gt (nat_cmp a b) ≡ false → a ≤ b
greater_not a b e = by_order (nat_cmp a b) refl e
  where
    by_order : (o : Ordering) → o ≡ nat_cmp a b → is_gt o ≡ false → a ≤ b
    by_order Less is e = let below : a < b = ranked a b Less is in omega (arith, below)
    by_order Equal is e = let same : a ≡ b = ranked a b Equal is in omega (arith, same)
    by_order Greater is e = absurd (let q : true ≡ false = e in cc)

less_not : (a b : ℕ) → is_lt (nat_cmp a b) ≡ false → b ≤ a
less_not a b e = by_order (nat_cmp a b) refl e
  where
    by_order : (o : Ordering) → o ≡ nat_cmp a b → is_lt o ≡ false → b ≤ a
    by_order Less is e = absurd (let q : true ≡ false = e in cc)
    by_order Equal is e = let same : a ≡ b = ranked a b Equal is in omega (arith, same)
    by_order Greater is e = let above : b < a = ranked a b Greater is in omega (arith, above)

nothing_found : (o : Option ℕ) → (IsSome o → ⊥) → o ≡ None
nothing_found None none = refl
nothing_found (Some x) none = absurd (none refl)

-- the last entry of the range up to a place, and none
pub last_found : (m : BTreeMap ℕ ℕ) (place : ℕ) (range : List (ℕ × ℕ)) → IsRangeOf nat_cmp Unbounded (Included place) m range → (interval : ℕ × ℕ) (front : List (ℕ × ℕ)) → range ≡ front ++ interval ∷ [] → IsLastBefore m.entries place (Some interval)
last_found m place range is interval front ends =
    let entry = is.3 interval front ends in
    (entry.1, greater_not interval.0 place entry.0.1, λ start le lt. nothing_found (get nat_cmp m start) (λ some. let most = less_not interval.0 start (is.4 interval front ends start (tt, not_greater start place le) some) in omega (arith, most, lt)))

pub none_found : (m : BTreeMap ℕ ℕ) (place : ℕ) (range : List (ℕ × ℕ)) → IsRangeOf nat_cmp Unbounded (Included place) m range → range ≡ [] → IsLastBefore m.entries place None
none_found m place range is empty = λ start le. is.5 empty start (tt, not_greater start place le)
