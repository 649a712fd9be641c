-- Where the last complete line of some first bytes ends: counted from a place, and counted from where events end that
-- were reported from that place on, it is the same. So a licence of a later part is one of the epoch.
use Rattle.std.proofs.Common.{◌≡◌, inl, inr, ℕ, zero, suc, ◌+◌, ◌-◌, ◌<◌, ◌≤◌, false, List, [], ◌∷◌, ◌++◌, length, take, drop, refl, sym, ap, subst, ◌∙◌, arith}
use Rattle.std.proofs.lemmas.Bool.{cases_Bool, cond-true, cond-false}
use Rattle.std.proofs.lemmas.List.{drop-take}
use Rattle.std.specs.Str.{bytes_eq}
use Rattle.event_tree.specs.declared.group_rule.GroupRule.{GroupRule}
use Rattle.event_tree.specs.declared.line_rule.LineRule.{LineRule}
use Rattle.line_cutter.specs.Cut.{Cut, cut, cut_behind, in_front, line, rest}
use Rattle.line_cutter.specs.Lines.{complete_lines, end_of, line_at, lines_in}
use Rattle.line_cutter.specs.Terminator.{terminator_of}
use Rattle.line_cutter.specs.declared.line.Line.{Line}
use Rattle.multiline_core.specs.Message.{row_end}
use Rattle.multiline_core.specs.Partition.{IsPartition}
use Rattle.ship_core.specs.CoveredEnd.{last_end}
use Rattle.told_events.specs.Licence.{whole_lines_end}
use Rattle.wire_base.specs.Extent.{Extent}
use Rattle.slot_parts.proofs.Cuts.{BeginsWith, begins, behind_first, row_end_both, row_ends_behind, some_byte}
use Rattle.slot_parts.proofs.Within.{HasRow, end_from, lines_behind, row_from, row_of}

-- ---- a line of some bytes is one of as many of them as it takes

take_of_take : (n k : ℕ) (xs : List ℕ) → n ≤ k → take n (take k xs) ≡ take n xs
take_of_take zero k xs few = refl
take_of_take (suc n) zero xs few = absurd (omega (arith, few))
take_of_take (suc n) (suc k) [] few = refl
take_of_take (suc n) (suc k) (x ∷ xs) few = ap (λ (l : List ℕ). x ∷ l) (take_of_take n k xs (omega (arith, few)))

front_begins : (x : ℕ) (c : Cut) (first : List ℕ) (after : Cut) → BeginsWith c first after → BeginsWith (in_front x c) (x ∷ first) after
front_begins x (rest bytes) first after begin = absurd begin
front_begins x (line body behind) first after begin = (ap (λ (l : List ℕ). x ∷ l) begin.0, begin.1)

begun : (c : Cut) (body : List ℕ) (behind : Cut) → BeginsWith c body behind → c ≡ line body behind
begun (rest bytes) body behind begin = absurd begin
begun (line first later) body behind begin = ap (λ (l : List ℕ). line l later) begin.0 ∙ ap (line body) begin.1

module _ (t : List ℕ) (some : 0 < length t) where
  abbrev Begins : List ℕ → List ℕ → Type 0
  Begins xs body = (after : Cut) × BeginsWith (cut t xs) body after

  begins_among : (xs body : List ℕ) (behind : Cut) (m : ℕ) → BeginsWith (cut t xs) body behind → length body + length t ≤ m → Begins (take m xs) body
  begins_among [] body behind m begin within = absurd begin
  begins_among (x ∷ xs) body behind zero begin within = absurd (omega (arith, within, some))
  begins_among (x ∷ xs) body behind (suc m) begin within = elim (cases_Bool (bytes_eq (take (length t) (x ∷ xs)) t)) [
    | inl holds ↦
        let here = subst (λ c. BeginsWith c body behind) (cond-true _ (line [] (cut_behind t (length t - 1) xs)) (in_front x (cut t xs)) holds) begin in (
          cut_behind t (length t - 1) (take m xs),
          subst (λ c. BeginsWith c body (cut_behind t (length t - 1) (take m xs)))
              (sym (cond-true _ (line [] (cut_behind t (length t - 1) (take m xs))) (in_front x (cut t (take m xs))) (same ∙ holds)))
              (here.0, refl),
        )
    | inr fails ↦
        let there = subst (λ c. BeginsWith c body behind) (cond-false _ (line [] (cut_behind t (length t - 1) xs)) (in_front x (cut t xs)) fails) begin in
        past (λ first begin few. begins_among xs first behind m begin few) body (cut t xs) refl within there (same ∙ fails)
  ]
    where
      same : bytes_eq (take (length t) (x ∷ take m xs)) t ≡ bytes_eq (take (length t) (x ∷ xs)) t
      same = ap (λ (l : List ℕ). bytes_eq l t) (take_of_take (length t) (suc m) (x ∷ xs) (omega (arith, within)))

      past : ((first : List ℕ) → BeginsWith (cut t xs) first behind → length first + length t ≤ m → Begins (take m xs) first) → (body : List ℕ) (c : Cut) → cut t xs ≡ c →
          length body + length t ≤ suc m → BeginsWith (in_front x c) body behind → bytes_eq (take (length t) (x ∷ take m xs)) t ≡ false → Begins (x ∷ take m xs) body
      past before body (rest bytes) is few there fails = absurd there
      past before body (line first later) is few there fails =
          let long : suc (length first) ≡ length body = ap length there.0 in
          let b = before first (subst (λ d. BeginsWith d first behind) (sym is) (refl, there.1)) (omega (arith, long, few)) in (
            b.0,
            subst (λ c. BeginsWith c body b.0) (sym (cond-false _ (line [] (cut_behind t (length t - 1) (take m xs))) (in_front x (cut t (take m xs))) fails))
                (subst (λ (l : List ℕ). BeginsWith (in_front x (cut t (take m xs))) l b.0) there.0 (front_begins x (cut t (take m xs)) first b.0 b.1)),
          )

-- ---- so is a row

module _ (rule : LineRule) where
  abbrev HasRowFirst : ℕ → List ℕ → List Line → Type 0
  HasRowFirst start xs row = (later : List Line) × (complete_lines rule start xs ≡ row ++ later)

  pub row_among : (row : List Line) (start : ℕ) (xs : List ℕ) (behind : List Line) (m : ℕ) → complete_lines rule start xs ≡ row ++ behind → row_end start row ≤ start + m →
      HasRowFirst start (take m xs) row
  row_among [] start xs behind m are within = (complete_lines rule start (take m xs), refl)
  row_among (first ∷ row) start xs behind m are within = by_cut (cut (terminator_of rule.terminator) xs) refl are (λ from ys n. row_among row from ys behind n)
    where
      by_cut : (c : Cut) → cut (terminator_of rule.terminator) xs ≡ c → lines_in rule start c ≡ first ∷ (row ++ behind) →
          ((from : ℕ) (ys : List ℕ) (n : ℕ) → complete_lines rule from ys ≡ row ++ behind → row_end from row ≤ from + n → HasRowFirst from (take n ys) row) →
          HasRowFirst start (take m xs) (first ∷ row)
      by_cut (rest bytes) is e further = absurd cc
      by_cut (line body after) is e further =
          let t = terminator_of rule.terminator in
          let some = some_byte rule.terminator in
          let k = length body + length t in
          let ys = drop k xs in
          let same : line_at rule start body ≡ first = cc in
          let others : lines_in rule (end_of rule start body) after ≡ row ++ behind = cc in
          let place : end_of rule start body ≡ first.span.end = ap (λ (l : Line). l.span.end) same in
          let there : after ≡ cut t ys = behind_first t some xs body after (begins (cut t xs) body after is) in
          let later : complete_lines rule first.span.end ys ≡ row ++ behind =
          ap (λ (n : ℕ). lines_in rule n (cut t ys)) (sym place) ∙ ap (lines_in rule (end_of rule start body)) (sym there) ∙ others in
          let beyond = row_ends_behind rule first.span.end ys row behind later in
          let fits : k ≤ m = omega (arith, within, beyond, place) in
          let all : k + (m - k) ≡ m = omega (arith, fits) in
          let b = begins_among t some xs body after m (begins (cut t xs) body after is) fits in
          let front : cut t (take m xs) ≡ line body b.0 = begun (cut t (take m xs)) body b.0 b.1 in
          let left : drop k (take m xs) ≡ take (m - k) ys = ap (λ (n : ℕ). drop k (take n xs)) (sym all) ∙ drop-take k (m - k) xs in
          let behind_it : b.0 ≡ cut t (take (m - k) ys) = behind_first t some (take m xs) body b.0 b.1 ∙ ap (cut t) left in
          let f = further first.span.end ys (m - k) later (omega (arith, within, place, all)) in
          let tail : lines_in rule (end_of rule start body) b.0 ≡ row ++ f.0 =
          ap (λ (n : ℕ). lines_in rule n b.0) place ∙ ap (lines_in rule first.span.end) behind_it ∙ f.1 in (
            f.0,
            ap (lines_in rule start) front ∙ ap (λ (l : List Line). line_at rule start body ∷ l) tail ∙ ap (λ (one : Line). one ∷ (row ++ f.0)) same,
          )

-- ---- an event's lines

-- it has them also if only the first bytes are there, up to its end or beyond
row_there : (lines : LineRule) (life : List ℕ) (start end place : ℕ) → HasRow lines life start end → end ≤ place → HasRow lines (take place life) start end
row_there lines life start end place r within =
    let from = row_from lines life start end r in
    let n : start + (place - start) ≡ place = omega (arith, from, within) in
    let e = r.ends in
    let there = row_among lines r.row start (drop start life) r.behind (place - start) r.are (omega (arith, e, within, n)) in
    record {
      row = r.row;
      behind = there.0;
      are = ap (complete_lines lines start) (ap (λ (m : ℕ). drop start (take m life)) (sym n) ∙ drop-take start (place - start) life) ∙ there.1;
      ends = r.ends;
    }

-- ---- all events

module _ (lines : LineRule) (rule : GroupRule) (licensed : ℕ → Type 0) (life : List ℕ) where
  pub same_whole_end : (start place : ℕ) (spans : List Extent) → IsPartition lines rule licensed life start spans → last_end start spans ≤ place →
      whole_lines_end lines life start place ≡ whole_lines_end lines life (last_end start spans) place
  same_whole_end start place [] are within = refl
  same_whole_end start place (span ∷ spans) are within =
      let end = end_from lines life rule licensed span.end spans are.2 in
      let r = row_there lines life start span.end place (row_of lines life rule licensed start span.end are.1) (omega (arith, end, within)) in
      ap (row_end start) r.are
      ∙ row_end_both start r.row r.behind
      ∙ ap (λ (n : ℕ). row_end n r.behind) r.ends
      ∙ ap (row_end span.end) (sym (lines_behind lines (take place life) start span.end r))
      ∙ same_whole_end span.end place spans are.2 within
