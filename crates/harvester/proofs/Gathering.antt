-- What is gathered, step by step.
use Rattle.std.proofs.Common.{◌≡◌, inl, inr, ℕ, ◌+◌, ◌<◌, ◌≤◌, Bool, true, false, List, [], ◌∷◌, ◌++◌, length, Contains, Option, Some, None, IfSome, IfNone, IfOk, OnOk, Result, Ok, Err, IsErr, IsTrue, IsSome, is_some, ◌↔◌, option_to_list, refl, sym, ap, subst, ◌∙◌, append_assoc, append-nil, length-append, arith}
use Rattle.std.specs.Option.{ForSome}
use Rattle.std.proofs.lemmas.List.Elements.{Contains-append_right}
use Rattle.event_tree.specs.declared.group_rule.GroupRule.{GroupRule}
use Rattle.event_tree.specs.declared.line_rule.LineRule.{LineRule}
use Rattle.line_cutter.specs.Cutting.{Cutting, HasCut, fed_to}
use Rattle.line_cutter.specs.Lines.{complete_lines}
use Rattle.line_cutter.specs.Row.{AreAdjoining}
use Rattle.line_cutter.specs.declared.line.Line.{Line}
use Rattle.multiline_core.specs.Event.{IsNatural}
use Rattle.multiline_core.specs.Gathering.{Closes, Gathered as GatheredLines, Gathers, Grouping, IsFlushable, gathered_of}
use Rattle.multiline_core.specs.Message.{group_of, row_end}
use Rattle.multiline_core.specs.declared.group.Group.{Group}
use Rattle.told_events.specs.Rules.{Rules}
use Rattle.wire_base.specs.declared.memory.NoMemory.{NoMemory}
use Rattle.wire_base.specs.declared.numbers.Moment.{Moment}
use Rattle.harvester.specs.declared.events.Events.{Events}
use Rattle.harvester.specs.Gathered.{AreClosed, AreCut, Gathered, HasMoved, IsGathered, IsGatheredBut, Moved, all_flushed, all_told, flushed_at, lines_of}

pub on_ok : (r : Result (Unit {0}) NoMemory) (P Q : Type 0) → (P → Q) → OnOk r P → OnOk r Q
on_ok (Ok done) P Q so here = so here
on_ok (Err error) P Q so here = tt

-- what is none if the other is none
pub none_too : (one : Option Group) (other : Option GatheredLines) → (IsSome one ↔ IsSome other) → one ≡ None → other ≡ None
none_too one None both none = refl
none_too one (Some gathered) both none =
    absurd (let some : is_some one ≡ true = both.1 refl in let no : Option Group = None in let e : is_some no ≡ true = ap (λ (o : Option Group). is_some o) (sym none) ∙ some in cc)

pub none_where_false : (b : Bool) (o : Option Group) → (IsTrue b ↔ IsSome o) → b ≡ false → o ≡ None
none_where_false b None both is_false = refl
none_where_false b (Some group) both is_false = absurd (let is_true : b ≡ true = both.1 refl in let e : true ≡ false = sym is_true ∙ is_false in cc)

pub where_err : {A : Type 0} (r : Result A NoMemory) (P : A → Type 0) → IsErr r → IfOk r P
where_err (Ok value) P err = absurd cc
where_err (Err error) P err = tt

-- ---- rows of lines

pub row_end-append : (place : ℕ) (xs ys : List Line) → row_end place (xs ++ ys) ≡ row_end (row_end place xs) ys
row_end-append place [] ys = refl
row_end-append place (x ∷ xs) ys = row_end-append x.span.end xs ys

pub last_begins : (start : ℕ) (xs : List Line) (line : Line) → AreAdjoining start (xs ++ line ∷ []) → line.span.start ≡ row_end start xs
last_begins start [] line are = are.0
last_begins start (x ∷ xs) line are = last_begins x.span.end xs line are.2

pub is_no_empty_line : (start : ℕ) (xs : List Line) (line : Line) (more : List Line) → AreAdjoining start (xs ++ line ∷ more) → line.span.start < line.span.end
is_no_empty_line start [] line more are = subst (λ (n : ℕ). n < line.span.end) (sym are.0) are.1
is_no_empty_line start (x ∷ xs) line more are = is_no_empty_line x.span.end xs line more are.2

-- what waits ends where the next line begins
waits_to : (rule : GroupRule) (row : List Line) (at : Moment) (place : ℕ) (gathered : GatheredLines) → gathered_of rule row at ≡ Some gathered →
    gathered.end ≡ row_end place row
waits_to rule [] at place gathered is = absurd cc
waits_to rule (first ∷ others) at place gathered is =
    ap (λ (o : Option GatheredLines). end_of o) (sym is)
  where
    end_of : Option GatheredLines → ℕ
    end_of None = 0
    end_of (Some one) = one.end

module _ (rules : Rules) (start : ℕ) (fed licences : List ℕ) (of : Gathered) where
  -- ---- one more line

  pub adjoins : (line : Line) (events : Events) → IsGatheredBut rules start fed licences of (line ∷ []) events →
      ForSome events.grouper.gathered (λ gathered. gathered.end ≡ line.span.start)
  adjoins line events is gathered has =
      let begins : line.span.start ≡ row_end start (lines_of of) = last_begins start (lines_of of) line is.cut.adjoin in
      let front : row_end start (lines_of of) ≡ row_end (row_end (row_end start of.told) of.closed) of.waiting =
      row_end-append start of.told (of.closed ++ of.waiting) ∙ row_end-append (row_end start of.told) of.closed of.waiting in
      waits_to rules.events of.waiting events.last_line (row_end (row_end start of.told) of.closed) gathered (sym is.gathers.kept ∙ has)
      ∙ sym front ∙ sym begins

  -- the closed event is none
  pub none_closed : (rest : List Line) (events : Events) → events.closed ≡ None → IsGatheredBut rules start fed licences of rest events → of.closed ≡ []
  none_closed rest events none is = subst (λ (o : Option Group). AreClosed rules licences of.closed of.waiting o) none is.closed

  lines_without : of.closed ≡ [] → (rest : List Line) → lines_of of ++ rest ≡ of.told ++ (of.waiting ++ rest)
  lines_without none rest =
      ap (λ (l : List Line). (of.told ++ (l ++ of.waiting)) ++ rest) none ∙ append_assoc of.told of.waiting rest

  -- by that line
  one_longer : (lines : List Line) (line : Line) → lines_of of ++ line ∷ [] ≡ lines ++ [] → length (lines_of of) < length lines
  one_longer lines line are =
      let long : length (lines_of of) + 1 ≡ length lines =
      sym (length-append (lines_of of) (line ∷ [])) ∙ ap (λ (l : List Line). length l) are ∙ ap (λ (l : List Line). length l) (append-nil lines) in
      omega (arith, long)

  -- the line joins those that wait, or closes an event
  pub gathers_line : (line : Line) (now : Moment) (old : Events) (grouper : Grouping) (found : Option Group) → old.line ≡ None → of.closed ≡ [] →
      IsGatheredBut rules start fed licences of (line ∷ []) old → IfSome found (Closes rules.events of.waiting line now grouper) →
      IfNone found (Gathers rules.events (of.waiting ++ line ∷ []) now grouper) →
      Moved rules start fed licences of old.last_line now (record old { grouper = grouper; closed = found; last_line = now })
  gathers_line line now old grouper None no_line none is closing joining =
      let after : Gathered = record { told = of.told; closed = []; waiting = of.waiting ++ line ∷ [] } in
      let spelled : lines_of of ++ line ∷ [] ≡ (of.told ++ ([] ++ (of.waiting ++ line ∷ []))) ++ [] =
      lines_without none (line ∷ []) ∙ sym (append-nil (of.told ++ (of.waiting ++ line ∷ []))) in
      record {
        after = after;
        same_told = refl;
        is = record {
          lines = is.lines;
          cut = subst (λ (o : Option Line). AreCut rules.lines start fed (lines_of after ++ option_to_list o) old.cutter) (sym no_line)
              (subst (λ (l : List Line). AreCut rules.lines start fed l old.cutter) spelled is.cut);
          gathers = joining;
          closed = refl;
        };
        last_line = inr (one_longer (lines_of after) line spelled, refl);
      }
  gathers_line line now old grouper (Some group) no_line none is closing joining =
      let after : Gathered = record { told = of.told; closed = closing.closed; waiting = closing.left } in
      let spelled : lines_of of ++ line ∷ [] ≡ (of.told ++ (closing.closed ++ closing.left)) ++ [] =
      lines_without none (line ∷ []) ∙ ap (λ (l : List Line). of.told ++ l) closing.split
      ∙ sym (append-nil (of.told ++ (closing.closed ++ closing.left))) in
      let natural : IsNatural rules.events (closing.closed ++ closing.left) closing.closed =
      subst (λ (l : List Line). IsNatural rules.events l closing.closed) closing.split closing.natural in
      record {
        after = after;
        same_told = refl;
        is = record {
          lines = is.lines;
          cut = subst (λ (o : Option Line). AreCut rules.lines start fed (lines_of after ++ option_to_list o) old.cutter) (sym no_line)
              (subst (λ (l : List Line). AreCut rules.lines start fed l old.cutter) spelled is.cut);
          gathers = closing.gathers;
          closed = record { group_is = closing.same_group; ended = inl natural };
        };
        last_line = inr (one_longer (lines_of after) line spelled, refl);
      }

  -- the line is kept
  pub kept : (line : Line) (now : Moment) (old : Events) → IsGatheredBut rules start fed licences of (line ∷ []) old →
      Moved rules start fed licences of old.last_line now (record old { line = Some line })
  kept line now old is = record {
    after = of;
    same_told = refl;
    is = record { lines = is.lines; cut = is.cut; gathers = is.gathers; closed = is.closed };
    last_line = inl (refl, refl);
  }

  -- nothing was gathered
  pub unmoved : (now : Moment) (events : Events) → IsGathered rules start fed licences of events → Moved rules start fed licences of events.last_line now events
  unmoved now events is = record { after = of; same_told = refl; is = is; last_line = inl (refl, refl) }

  -- further lines are gathered
  pub moves_on : (last now between : Moment) (first second : Events) (m : Moved rules start fed licences of last now first) → between ≡ first.last_line →
      Moved rules start fed licences m.after between now second → Moved rules start fed licences of last now second
  moves_on last now between first second m same g = record {
    after = g.after;
    same_told = g.same_told ∙ m.same_told;
    is = g.is;
    last_line = on g.last_line m.last_line;
  }
    where
      on : HasMoved m.after g.after between now second.last_line → HasMoved of m.after last now first.last_line → HasMoved of g.after last now second.last_line
      on (inl stays) (inl before) = inl (stays.0 ∙ before.0, stays.1 ∙ same ∙ before.1)
      on (inl stays) (inr before) =
          let long : length (lines_of g.after) ≡ length (lines_of m.after) = ap (λ (l : List Line). length l) stays.0 in
          inr (omega (arith, long, before.0), stays.1 ∙ same ∙ before.1)
      on (inr is_now) (inl before) =
          let long : length (lines_of m.after) ≡ length (lines_of of) = ap (λ (l : List Line). length l) before.0 in
          inr (omega (arith, long, is_now.0), is_now.1)
      on (inr is_now) (inr before) = inr (omega (arith, is_now.0, before.0), is_now.1)

  -- ---- the event that waits, and the one that is closed

  pub flushed : (old : Events) (grouper : Grouping) (closed : Option Group) → of.closed ≡ [] → IsGathered rules start fed licences of old →
      Gathers rules.events [] old.last_line grouper → (closed ≡ None → old.grouper.gathered ≡ None) →
      IfSome closed (λ group. (group ≡ group_of rules.events of.waiting) × IsFlushable rules.events of.waiting) →
      IsGathered rules start fed (licences ++ flushed_at closed) (all_flushed of) (record old { grouper = grouper; closed = closed })
  flushed old grouper closed none is gathers nothing group =
      let spelled : lines_of of ≡ lines_of (all_flushed of) =
      ap (λ (l : List Line). of.told ++ (l ++ of.waiting)) none ∙ ap (λ (l : List Line). of.told ++ l) (sym (append-nil of.waiting)) in
      record {
        lines = is.lines;
        cut = subst (λ (l : List Line). AreCut rules.lines start fed (l ++ option_to_list old.line) old.cutter) spelled is.cut;
        gathers = gathers;
        closed = closed_now closed nothing group;
      }
    where
      none_waits : (row : List Line) → None ≡ gathered_of rules.events row old.last_line → row ≡ []
      none_waits [] is_none = refl
      none_waits (first ∷ others) is_none = absurd cc

      last_there : (xs : List ℕ) (x : ℕ) → Contains (xs ++ x ∷ []) x
      last_there xs x = Contains-append_right xs (x ∷ []) x (0, omega arith, refl)

      there : (one : Group) → one ≡ group_of rules.events of.waiting → Contains (licences ++ one.span.end ∷ []) (row_end 0 of.waiting)
      there one same = subst (λ (n : ℕ). Contains (licences ++ one.span.end ∷ []) n) (ap (λ (g : Group). g.span.end) same) (last_there licences one.span.end)

      closed_now : (closed : Option Group) → (closed ≡ None → old.grouper.gathered ≡ None) →
          IfSome closed (λ group. (group ≡ group_of rules.events of.waiting) × IsFlushable rules.events of.waiting) →
          AreClosed rules (licences ++ flushed_at closed) of.waiting [] closed
      closed_now None nothing group = none_waits of.waiting (sym (nothing refl) ∙ is.gathers.kept)
      closed_now (Some one) nothing group = record { group_is = group.0; ended = inr (group.1, there one group.0) }

  pub passed : (old : Events) → IsGathered rules start fed licences of old → IsGathered rules start fed licences (all_told of) (record old { closed = None })
  passed old is =
      let spelled : lines_of of ≡ lines_of (all_told of) = sym (append_assoc of.told of.closed of.waiting) in
      record {
        lines = is.lines;
        cut = subst (λ (l : List Line). AreCut rules.lines start fed (l ++ option_to_list old.line) old.cutter) spelled is.cut;
        gathers = is.gathers;
        closed = refl;
      }

  -- ---- more is fed, and more is cut

  pub feeds : (piece : List ℕ) (cutter : Cutting) (old : Events) → IsGathered rules start fed licences of old →
      (HasCut rules.lines start fed (lines_of of ++ option_to_list old.line) old.cutter → HasCut rules.lines start (fed ++ piece) (lines_of of ++ option_to_list old.line) cutter) →
      fed_to cutter ≡ fed_to old.cutter + length piece → IsGathered rules start (fed ++ piece) licences of (record old { cutter = cutter })
  feeds piece cutter old is feeding place = record {
    lines = is.lines;
    cut = record { cut = feeding is.cut.cut; adjoin = is.cut.adjoin; within = omega (arith, is.cut.within, place) };
    gathers = is.gathers;
    closed = is.closed;
  }

  -- the cutter cut one line more, or had no other
  pub cuts_line : (found line : Option Line) (cutter : Cutting) (old : Events) →
      ((rule : LineRule) (start : ℕ) (bytes : List ℕ) → AreAdjoining start (complete_lines rule start bytes)) →
      old.line ≡ None → IsGathered rules start fed licences of old → HasCut rules.lines start fed ((lines_of of ++ []) ++ option_to_list found) cutter →
      IfSome found (λ line. line.span.end ≡ cutter.start) → fed_to cutter ≡ fed_to old.cutter →
      IsGatheredBut rules start fed licences of (option_to_list found) (record old { cutter = cutter; line = line })
  cuts_line found line cutter old adjoining no_line is cut ends place = record {
    lines = is.lines;
    cut = record { cut = cut_now; adjoin = subst (λ (l : List Line). AreAdjoining start l) cut_now.lines (adjoining rules.lines start cut_now.lined); within = within found ends };
    gathers = is.gathers;
    closed = is.closed;
  }
    where
      cut_now : HasCut rules.lines start fed (lines_of of ++ option_to_list found) cutter
      cut_now = subst (λ (l : List Line). HasCut rules.lines start fed (l ++ option_to_list found) cutter) (append-nil (lines_of of)) cut

      within : (found : Option Line) → IfSome found (λ line. line.span.end ≡ cutter.start) → row_end start (lines_of of ++ option_to_list found) ≤ fed_to cutter
      within None ends =
          let before = subst (λ (o : Option Line). row_end start (lines_of of ++ option_to_list o) ≤ fed_to old.cutter) no_line is.cut.within in
          omega (arith, before, place)
      within (Some line) ends =
          let last : row_end start (lines_of of ++ line ∷ []) ≡ line.span.end = row_end-append start (lines_of of) (line ∷ []) in
          omega (arith, last, ends)

-- ---- what a call of the cutter gave

pub fed_one : (r : Result (Unit {0}) NoMemory) (piece : List ℕ) (cutter : Cutting) (old : Events) →
    OnOk r ((rule : LineRule) (start : ℕ) (fed : List ℕ) (given : List Line) → HasCut rule start fed given old.cutter → HasCut rule start (fed ++ piece) given cutter) →
    OnOk r (fed_to cutter ≡ fed_to old.cutter + length piece) →
    OnOk r ((rules : Rules) (start : ℕ) (fed licences : List ℕ) (of : Gathered) → IsGathered rules start fed licences of old →
    IsGathered rules start (fed ++ piece) licences of (record old { cutter = cutter }))
fed_one (Ok done) piece cutter old feeding place = λ rules start fed licences of is.
    feeds rules start fed licences of piece cutter old is (feeding rules.lines start fed (lines_of of ++ option_to_list old.line)) place
fed_one (Err error) piece cutter old feeding place = tt

pub cut_one : (r : Result (Option Line) NoMemory) (line : Option Line) (cutter : Cutting) (old : Events) →
    ((rule : LineRule) (start : ℕ) (bytes : List ℕ) → AreAdjoining start (complete_lines rule start bytes)) → old.line ≡ None →
    IfOk r (λ found. (rule : LineRule) (start : ℕ) (fed : List ℕ) (given : List Line) → HasCut rule start fed given old.cutter →
    HasCut rule start fed (given ++ option_to_list found) cutter) →
    IfOk r (λ found. IfSome found (λ one. (one.span.start ≡ old.cutter.start) × (one.span.end ≡ cutter.start))) → fed_to cutter ≡ fed_to old.cutter →
    IfOk r (λ found. (rules : Rules) (start : ℕ) (fed licences : List ℕ) (of : Gathered) → IsGathered rules start fed licences of old →
    IsGatheredBut rules start fed licences of (option_to_list found) (record old { cutter = cutter; line = line }))
cut_one (Ok found) line cutter old adjoining none cut ends place = λ rules start fed licences of is.
    cuts_line rules start fed licences of found line cutter old adjoining none is
    (cut rules.lines start fed (lines_of of ++ []) (subst (λ (o : Option Line). HasCut rules.lines start fed (lines_of of ++ option_to_list o) old.cutter) none is.cut.cut))
    (end_of found ends) place
  where
    end_of : (found : Option Line) → IfSome found (λ one. (one.span.start ≡ old.cutter.start) × (one.span.end ≡ cutter.start)) →
        IfSome found (λ one. one.span.end ≡ cutter.start)
    end_of None ends = tt
    end_of (Some one) ends = ends.1
cut_one (Err error) line cutter old adjoining none cut ends place = tt
