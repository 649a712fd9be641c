-- Events by rule are unique and stay, and the spans of a partition adjoin.
use Rattle.std.proofs.Common.{◌≡◌, ◌≢◌, ◌⊎◌, ℕ, ◌<◌, List, [], ◌∷◌, ◌++◌, length, drop, refl, sym, ap, subst, ◌∙◌, inl, inr, ⊎_elim, arith, append_assoc, append-nil}
use Rattle.std.proofs.lemmas.Bool.{cases_lt}
use Rattle.std.proofs.lemmas.List.{drop-append-le, drop_all}
use Rattle.wire_base.specs.Extent.{Extent}
use Rattle.event_tree.specs.declared.group_rule.GroupRule.{GroupRule}
use Rattle.event_tree.specs.declared.group_rule.GroupRule.TheVariants.{Single, Count, Pattern}
use Rattle.event_tree.specs.declared.group_rule.Side.TheVariants.{After, Before}
use Rattle.event_tree.specs.declared.line_rule.LineRule.{LineRule}
use Rattle.line_cutter.specs.declared.line.Line.{Line}
use Rattle.line_cutter.specs.Lines.{complete_lines}
use Rattle.line_cutter.specs.Row.{AreAdjoining}
use Rattle.multiline_core.specs.Event.{IsEvent, IsNatural}
use Rattle.multiline_core.specs.Message.{row_end}
use Rattle.multiline_core.specs.Rule.{IsGroupRule}
use Rattle.multiline_core.proofs.Closing.{push_is_some}
use Rattle.multiline_core.specs.Partition.{lines_from, IsNaturalEvent, IsFlushedEvent, IsPartition, AreAdjoiningSpans}

-- two fronts of one list: one is a front of the other
fronts : {A : Type 0} (xs ys us vs : List A) → xs ++ ys ≡ us ++ vs →
    ((left : List A) × (us ≡ xs ++ left) × (ys ≡ left ++ vs)) ⊎ ((left : List A) × (xs ≡ us ++ left) × (vs ≡ left ++ ys))
fronts [] ys us vs e = inl (us, refl, e)
fronts (x ∷ xs) ys [] vs e = inr (x ∷ xs, refl, sym e)
fronts (x ∷ xs) ys (u ∷ us) vs e =
    let same : x ≡ u = cc in
    let later : xs ++ ys ≡ us ++ vs = cc in
    ⊎_elim
    (λ (l : (left : List _) × (us ≡ xs ++ left) × (ys ≡ left ++ vs)). inl (l.0, cc (l.1), l.2))
    (λ (r : (left : List _) × (xs ≡ us ++ left) × (vs ≡ left ++ ys)). inr (r.0, cc (r.1), r.2))
    (fronts xs ys us vs later)

-- a row with a shorter event in front is not natural
no_shorter : (rule : GroupRule) (lines row other left : List Line) (n : IsNatural rule lines row) (m : IsNatural rule lines other) →
    row ≡ other ++ left → m.behind ≡ left ++ n.behind → left ≡ []
no_shorter rule lines row other [] n m e behind = refl
no_shorter rule lines row other (x ∷ left) n m e behind =
    absurd (n.shortest other (x ∷ left) e (λ none. cc) (subst (IsEvent rule other) behind m.event))

pub one_row : (rule : GroupRule) (lines row other : List Line) → IsNatural rule lines row → IsNatural rule lines other → row ≡ other
one_row rule lines row other n m =
    ⊎_elim
    (λ (l : (left : List Line) × (other ≡ row ++ left) × (n.behind ≡ left ++ m.behind)).
    sym (l.1 ∙ ap (λ xs. row ++ xs) (no_shorter rule lines other row l.0 m n l.1 l.2) ∙ append-nil row))
    (λ (r : (left : List Line) × (row ≡ other ++ left) × (m.behind ≡ left ++ n.behind)).
    r.1 ∙ ap (λ xs. other ++ xs) (no_shorter rule lines row other r.0 n m r.1 r.2) ∙ append-nil other)
    (fronts row n.behind other m.behind (sym n.lines_are ∙ m.lines_are))

-- more lines after
event_stays : (rule : GroupRule) (row behind more : List Line) → IsEvent rule row behind → IsEvent rule row (behind ++ more)
event_stays (Single most) row behind more e = e
event_stays (Count count_lines max_lines timeout skip_newline most) row behind more e = e
event_stays (Pattern pattern negate side flush max_lines timeout skip_newline most) row behind more (inr e) = inr e
event_stays (Pattern pattern negate Before flush max_lines timeout skip_newline most) row behind more (inl e) = inl e
event_stays (Pattern pattern negate After flush max_lines timeout skip_newline most) row behind more (inl e) = inl (record {
  first = e.first;
  others = e.others;
  next = e.next;
  later = e.later ++ more;
  row_is = e.row_is;
  behind_is = ap (λ xs. xs ++ more) e.behind_is;
  continue = e.continue;
  starts_anew = e.starts_anew;
  is_no_flush = e.is_no_flush;
})

-- fewer lines, of which there is one
event_back : (rule : GroupRule) (row left more : List Line) → left ≢ [] → IsEvent rule row (left ++ more) → IsEvent rule row left
event_back rule row [] more some e = absurd (some refl)
event_back (Single most) row (x ∷ left) more some e = e
event_back (Count count_lines max_lines timeout skip_newline most) row (x ∷ left) more some e = e
event_back (Pattern pattern negate side flush max_lines timeout skip_newline most) row (x ∷ left) more some (inr e) = inr e
event_back (Pattern pattern negate Before flush max_lines timeout skip_newline most) row (x ∷ left) more some (inl e) = inl e
event_back (Pattern pattern negate After flush max_lines timeout skip_newline most) row (x ∷ left) more some (inl e) = inl (record {
  first = e.first;
  others = e.others;
  next = e.next;
  later = left;
  row_is = e.row_is;
  behind_is = let h : x ≡ e.next = head_is x (left ++ more) e.next e.later e.behind_is in ap (λ y. y ∷ left) h;
  continue = e.continue;
  starts_anew = e.starts_anew;
  is_no_flush = e.is_no_flush;
})
  where
    head_is : (x : Line) (xs : List Line) (y : Line) (ys : List Line) → x ∷ xs ≡ y ∷ ys → x ≡ y
    head_is x xs y ys e = cc

some_in_front : (left behind : List Line) → left ≢ [] → left ++ behind ≢ []
some_in_front [] behind some = absurd (some refl)
some_in_front (x ∷ left) behind some = λ e. cc

pub row_stays : (rule : GroupRule) (lines more row : List Line) → IsNatural rule lines row → IsNatural rule (lines ++ more) row
row_stays rule lines more row n = record {
  behind = n.behind ++ more;
  lines_are = ap (λ xs. xs ++ more) n.lines_are ∙ append_assoc row n.behind more;
  event = event_stays rule row n.behind more n.event;
  shortest = λ front left e some event.
      n.shortest front left e some
      (event_back rule front (left ++ n.behind) more (some_in_front left n.behind some)
      (subst (IsEvent rule front) (sym (append_assoc left n.behind more)) event));
}

-- an event has a line
some_line : (rule : GroupRule) (behind : List Line) → IsGroupRule rule → ¬ (IsEvent rule [] behind)
some_line (Single most) behind in_range e = omega arith
some_line (Count count_lines max_lines timeout skip_newline most) behind in_range e = omega (arith, e, in_range.3.0)
some_line (Pattern pattern negate After flush max_lines timeout skip_newline most) behind in_range (inl e) =
    let none : [] ≡ e.first ∷ e.others = e.row_is in cc
some_line (Pattern pattern negate Before flush max_lines timeout skip_newline most) behind in_range (inl e) =
    push_is_some e.others e.last (sym e.row_is)
some_line (Pattern pattern negate side flush max_lines timeout skip_newline most) behind in_range (inr e) =
    let none : [] ≡ e.first ∷ (e.between ++ e.last ∷ []) = e.row_is in cc

-- ---- over the bytes of a file; `stays` says that the lines of bytes stay their first lines

abbrev pub LinesStay : Type 0
LinesStay = (rule : LineRule) (start : ℕ) (bytes more : List ℕ) →
    (later : List Line) × (complete_lines rule start (bytes ++ more) ≡ complete_lines rule start bytes ++ later)

abbrev pub LinesAdjoin : Type 0
LinesAdjoin = (rule : LineRule) (start : ℕ) (bytes : List ℕ) → AreAdjoining start (complete_lines rule start bytes)

lines_grow : LinesStay → (lines : LineRule) (bytes more : List ℕ) (start : ℕ) →
    (later : List Line) × (lines_from lines (bytes ++ more) start ≡ lines_from lines bytes start ++ later)
lines_grow stays lines bytes more start = elim (cases_lt (length bytes) start) [
  | inl past ↦ (
    lines_from lines (bytes ++ more) start,
    ap (λ xs. complete_lines lines start xs ++ lines_from lines (bytes ++ more) start) (sym (drop_all start bytes (omega arith))),
  )
  | inr within ↦
      let grown = stays lines start (drop start bytes) more in
      (grown.0, ap (complete_lines lines start) (drop-append-le start bytes more within) ∙ grown.1)
]

pub event_of_front : LinesStay → (lines : LineRule) (rule : GroupRule) (bytes more : List ℕ) (start end : ℕ) →
    IsNaturalEvent lines rule bytes start end → IsNaturalEvent lines rule (bytes ++ more) start end
event_of_front stays lines rule bytes more start end n =
    let grown = lines_grow stays lines bytes more start in
    record {
      row = n.row;
      natural = subst (λ xs. IsNatural rule xs n.row) (sym grown.1) (row_stays rule (lines_from lines bytes start) grown.0 n.row n.natural);
      ends = n.ends;
    }

pub one_end : (lines : LineRule) (rule : GroupRule) (bytes : List ℕ) (start end other : ℕ) →
    IsNaturalEvent lines rule bytes start end → IsNaturalEvent lines rule bytes start other → end ≡ other
one_end lines rule bytes start end other n m =
    sym n.ends ∙ ap (row_end start) (one_row rule (lines_from lines bytes start) n.row m.row n.natural m.natural) ∙ m.ends

ends_later : (start : ℕ) (row behind : List Line) → AreAdjoining start (row ++ behind) → row ≢ [] → start < row_end start row
ends_later start [] behind adjoin some = absurd (some refl)
ends_later start (x ∷ []) behind adjoin some = adjoin.1
ends_later start (x ∷ y ∷ row) behind adjoin some =
    let later = ends_later x.span.end (y ∷ row) behind adjoin.2 (λ e. cc) in
    let first = adjoin.1 in
    omega arith

module _ (adjoin : LinesAdjoin) (lines : LineRule) (rule : GroupRule) (in_range : IsGroupRule rule) (bytes : List ℕ) where
  pub natural_has_bytes : (start end : ℕ) → IsNaturalEvent lines rule bytes start end → start < end
  natural_has_bytes start end n =
      subst (λ e. start < e) n.ends (ends_later start n.row n.natural.behind
      (subst (AreAdjoining start) n.natural.lines_are (adjoin lines start (drop start bytes)))
      (λ none. some_line rule n.natural.behind in_range (subst (λ row. IsEvent rule row n.natural.behind) none n.natural.event)))

  pub flushed_has_bytes : (start end : ℕ) → IsFlushedEvent lines rule bytes start end → start < end
  flushed_has_bytes start end f =
      subst (λ e. start < e) f.ends (ends_later start f.row f.open_row.behind
      (subst (AreAdjoining start) f.open_row.lines_are (adjoin lines start (drop start bytes))) f.open_row.some)

  pub partition_adjoins : (licensed : ℕ → Type 0) (start : ℕ) (spans : List Extent) → IsPartition lines rule licensed bytes start spans →
      AreAdjoiningSpans start spans
  partition_adjoins licensed start [] p = tt
  partition_adjoins licensed start (span ∷ spans) p = (
    p.0,
    ⊎_elim (natural_has_bytes start span.end)
        (λ (f : IsFlushedEvent lines rule bytes start span.end × licensed span.end). flushed_has_bytes start span.end f.0) p.1,
    partition_adjoins licensed span.end spans p.2,
  )
