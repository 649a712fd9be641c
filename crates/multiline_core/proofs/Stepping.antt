-- What a line does to the lines that wait, against the definition of events.
use Rattle.std.proofs.Common.{◌≡◌, ◌≢◌, ℕ, ◌+◌, ◌<◌, ◌≤◌, Bool, true, false, cond, not, ◌&&◌, ◌==◌, List, [], ◌∷◌, ◌++◌, length, Option, refl, sym, ap, subst, ◌∙◌, inl, inr, arith}
use Rattle.std.proofs.lemmas.Bool.{eqb-true, eqb-false, ne_eqb, cond-false}
use Rattle.std.proofs.lemmas.List.{length_push}
use Rattle.event_tree.specs.declared.group_rule.GroupRule.{GroupRule}
use Rattle.event_tree.specs.declared.group_rule.GroupRule.TheVariants.{Single, Count, Pattern}
use Rattle.event_tree.specs.declared.group_rule.Side.{Side}
use Rattle.event_tree.specs.declared.group_rule.Side.TheVariants.{After, Before}
use Rattle.line_cutter.specs.declared.line.Line.{Line}
use Rattle.multiline_core.specs.declared.step.Step.{Step}
use Rattle.multiline_core.specs.declared.step.Step.TheVariants.{Join, Last, Next}
use Rattle.multiline_core.specs.Continuing.{continues, flushes}
use Rattle.multiline_core.specs.Event.{IsEvent}
use Rattle.multiline_core.specs.Gathering.{BeginEvent, MayGoOn}
use Rattle.multiline_core.specs.Rule.{IsGroupRule}
use Rattle.multiline_core.specs.Step.{step_of, pattern_step, unflushed_step}
use Rattle.multiline_core.proofs.Going.{Stays, goes_on_push, goes_on_continue}

-- what each step says of the lines and the line
abbrev pub Does : GroupRule → List Line → Line → Step → Type 0
Does rule row line Join = MayGoOn rule (row ++ line ∷ [])
Does rule row line Last = Stays rule (line ∷ []) × IsEvent rule (row ++ line ∷ []) [] × MayGoOn rule []
Does rule row line Next = IsEvent rule row (line ∷ []) × MayGoOn rule (line ∷ []) × (row ≢ [])

module _ (pattern : List ℕ) (negate : Bool) (flush : Option (List ℕ)) (max_lines timeout : ℕ) (skip_newline : Bool) (most : ℕ) where
  first_does : (side : Side) (line : Line) → Does (Pattern pattern negate side flush max_lines timeout skip_newline most) [] line
      (pattern_step pattern negate side flush 0 line)
  first_does After line = tt
  first_does Before line = go (continues pattern negate line) refl
    where
      go : (on : Bool) → continues pattern negate line ≡ on →
          Does (Pattern pattern negate Before flush max_lines timeout skip_newline most) [] line (cond on Join Last)
      go true e = (e, tt)
      go false e = (tt, inl (record { others = []; last = line; row_is = refl; continue = tt; stops = e }), tt)

  -- the line flushes
  flush_does : (side : Side) (first : Line) (others : List Line) (line : Line) → BeginEvent pattern negate side flush (first ∷ others) →
      flushes flush line ≡ true → Does (Pattern pattern negate side flush max_lines timeout skip_newline most) (first ∷ others) line Last
  flush_does After first others line goes e = (
    inr e,
    inr (record {
      first = first;
      between = others;
      last = line;
      row_is = refl;
      continue = goes_on_continue pattern negate flush others goes;
      first_continues = λ before. absurd (cc);
      last_flushes = e;
    }),
    tt,
  )
  flush_does Before first others line goes e = (
    tt,
    inr (record {
      first = first;
      between = others;
      last = line;
      row_is = refl;
      continue = goes_on_continue pattern negate flush others goes.1;
      first_continues = λ before. goes.0;
      last_flushes = e;
    }),
    tt,
  )

  -- it does not, and this says whether it continues
  plain_does : (side : Side) (first : Line) (others : List Line) (line : Line) → BeginEvent pattern negate side flush (first ∷ others) →
      flushes flush line ≡ false → (on : Bool) → continues pattern negate line ≡ on → (waiting : ℕ) → 0 < waiting →
      Does (Pattern pattern negate side flush max_lines timeout skip_newline most) (first ∷ others) line (unflushed_step waiting on side)
  plain_does After first others line goes f true e waiting some =
      subst (Does (Pattern pattern negate After flush max_lines timeout skip_newline most) (first ∷ others) line)
      (sym (cond-false (waiting == 0) Join Join (ne_eqb waiting 0 (omega arith)))) (goes_on_push pattern negate flush others line goes e f)
  plain_does After first others line goes f false e waiting some =
      subst (Does (Pattern pattern negate After flush max_lines timeout skip_newline most) (first ∷ others) line)
      (sym (cond-false (waiting == 0) Join Next (ne_eqb waiting 0 (omega arith)))) (
        inl (record {
          first = first;
          others = others;
          next = line;
          later = [];
          row_is = refl;
          behind_is = refl;
          continue = goes_on_continue pattern negate flush others goes;
          starts_anew = e;
          is_no_flush = f;
        }),
        tt,
        λ none. cc,
      )
  plain_does Before first others line goes f true e waiting some = (goes.0, goes_on_push pattern negate flush others line goes.1 e f)
  plain_does Before first others line goes f false e waiting some = (
    tt,
    inl (record {
      others = first ∷ others;
      last = line;
      row_is = refl;
      continue = (goes.0, goes_on_continue pattern negate flush others goes.1);
      stops = e;
    }),
    tt,
  )

  later_does : (side : Side) (first : Line) (others : List Line) (line : Line) → BeginEvent pattern negate side flush (first ∷ others) →
      (on : Bool) → flushes flush line ≡ on → (waiting : ℕ) → 0 < waiting →
      Does (Pattern pattern negate side flush max_lines timeout skip_newline most) (first ∷ others) line
      (cond (not (waiting == 0) && on) Last (unflushed_step waiting (continues pattern negate line) side))
  later_does side first others line goes true f waiting some =
      subst (λ w. Does (Pattern pattern negate side flush max_lines timeout skip_newline most) (first ∷ others) line
      (cond (not w && true) Last (unflushed_step waiting (continues pattern negate line) side)))
      (sym (ne_eqb waiting 0 (omega arith))) (flush_does side first others line goes f)
  later_does side first others line goes false f waiting some =
      subst (λ w. Does (Pattern pattern negate side flush max_lines timeout skip_newline most) (first ∷ others) line
      (cond (not w && false) Last (unflushed_step waiting (continues pattern negate line) side)))
      (sym (ne_eqb waiting 0 (omega arith))) (plain_does side first others line goes f (continues pattern negate line) refl waiting some)

counted : (count_lines max_lines timeout : ℕ) (skip_newline : Bool) (most : ℕ) (row : List Line) (line : Line) → 1 ≤ count_lines →
    length row < count_lines → (all : Bool) → (length row + 1 == count_lines) ≡ all →
    Does (Count count_lines max_lines timeout skip_newline most) row line (cond all Last Join)
counted count_lines max_lines timeout skip_newline most row line some goes true e =
    (tt, length_push row line ∙ eqb-true _ _ e, omega arith)
counted count_lines max_lines timeout skip_newline most row line some goes false e =
    omega (arith, length_push row line, eqb-false _ _ e)

pub step_does : (rule : GroupRule) (row : List Line) (line : Line) → IsGroupRule rule → MayGoOn rule row → Does rule row line (step_of rule (length row) line)
step_does (Single most) row line in_range goes = (tt, length_push row line ∙ ap (λ xs. length xs + 1) goes, refl)
step_does (Count count_lines max_lines timeout skip_newline most) row line in_range goes =
    counted count_lines max_lines timeout skip_newline most row line in_range.3.0 goes (length row + 1 == count_lines) refl
step_does (Pattern pattern negate side flush max_lines timeout skip_newline most) [] line in_range goes =
    first_does pattern negate flush max_lines timeout skip_newline most side line
step_does (Pattern pattern negate side flush max_lines timeout skip_newline most) (first ∷ others) line in_range goes =
    later_does pattern negate flush max_lines timeout skip_newline most side first others line goes (flushes flush line) refl
    (length (first ∷ others)) (omega arith)
