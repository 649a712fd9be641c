-- Without a rule for events each complete line is an event.
use Rattle.std.proofs.Common.{◌≡◌, ℕ, ◌+◌, ◌-◌, ◌<◌, ◌≤◌, List, [], ◌∷◌, ◌++◌, length, map, take, drop, refl, sym, ap, subst, ◌∙◌, inl, arith, append-nil}
use Rattle.std.proofs.lemmas.List.{drop-drop, take_all}
use Rattle.event_tree.specs.declared.group_rule.GroupRule.TheVariants.{Single}
use Rattle.event_tree.specs.declared.line_rule.LineRule.{LineRule}
use Rattle.line_cutter.specs.declared.line.Line.{Line}
use Rattle.line_cutter.specs.Lines.{complete_lines}
use Rattle.line_cutter.specs.Row.{AreAdjoining}
use Rattle.multiline_core.specs.Event.{IsNatural}
use Rattle.multiline_core.specs.Message.{message_of}
use Rattle.multiline_core.specs.Partition.{lines_from, IsPartition}
use Rattle.multiline_core.proofs.Natural.{LinesAdjoin}

-- the lines after one are those of the bytes after it
abbrev pub LaterLines : Type 0
LaterLines = (rule : LineRule) (start : ℕ) (bytes : List ℕ) (given : List Line) (line : Line) (more : List Line) →
    complete_lines rule start bytes ≡ given ++ line ∷ more →
    complete_lines rule line.span.end (drop (line.span.end - start) bytes) ≡ more

-- of one line, a front that has a line is all
none_left : (line : Line) (front left : List Line) → line ∷ [] ≡ front ++ left → length front ≡ 1 → left ≡ []
none_left line [] left e one = absurd (omega (arith, one))
none_left line (x ∷ []) left e one = cc
none_left line (x ∷ y ∷ front) left e one = absurd (omega (arith, one))

one_line : (most : ℕ) (line : Line) (more : List Line) → IsNatural (Single most) (line ∷ more) (line ∷ [])
one_line most line more = record {
  behind = more;
  lines_are = refl;
  event = refl;
  shortest = λ front left e some event. some (none_left line front left e event);
}

pub message_is_head : (most : ℕ) (line : Line) → length line.head ≤ most → message_of (Single most) (line ∷ []) ≡ line.head
message_is_head most line short = ap (take most) (append-nil line.head) ∙ take_all most line.head short

module _ (lines : LineRule) (most : ℕ) (bytes : List ℕ) where
  pub first_is_event : (start : ℕ) (line : Line) (more : List Line) → lines_from lines bytes start ≡ line ∷ more →
      IsNatural (Single most) (lines_from lines bytes start) (line ∷ [])
  first_is_event start line more e = subst (λ xs. IsNatural (Single most) xs (line ∷ [])) (sym e) (one_line most line more)

  module _ (later : LaterLines) (adjoin : LinesAdjoin) (licensed : ℕ → Type 0) where
    partition_in : (start : ℕ) (row : List Line) → lines_from lines bytes start ≡ row →
        IsPartition lines (Single most) licensed bytes start (map (λ line. line.span) row)
    partition_in start [] e = tt
    partition_in start (line ∷ more) e =
        let adjoins : AreAdjoining start (line ∷ more) = subst (AreAdjoining start) e (adjoin lines start (drop start bytes)) in
        let first : start < line.span.end = adjoins.1 in
        let place : start + (line.span.end - start) ≡ line.span.end = omega arith in
        let behind : drop line.span.end bytes ≡ drop (line.span.end - start) (drop start bytes) =
        sym (drop-drop (line.span.end - start) start bytes ∙ ap (λ n. drop n bytes) place) in (
          adjoins.0,
          inl (record { row = line ∷ []; natural = first_is_event start line more e; ends = refl }),
          partition_in line.span.end more (ap (complete_lines lines line.span.end) behind ∙ later lines start (drop start bytes) [] line more e),
        )

    pub partition : (start : ℕ) → IsPartition lines (Single most) licensed bytes start (map (λ line. line.span) (lines_from lines bytes start))
    partition start = partition_in start (lines_from lines bytes start) refl
