-- The closed event is reported of each life that has what was read.
use Rattle.std.proofs.Common.{◌≡◌, ◌≢◌, ◌⊎◌, inl, inr, ℕ, ◌+◌, ◌-◌, ◌<◌, ◌≤◌, List, [], ◌∷◌, ◌++◌, length, drop, Contains, refl, sym, ap, subst, ◌∙◌, append_assoc, drop-drop, length-append, le_refl, arith}
use Rattle.event_tree.specs.declared.group_rule.GroupRule.{GroupRule}
use Rattle.event_tree.specs.declared.line_rule.LineRule.{LineRule}
use Rattle.line_cutter.specs.Cutting.{Cutting}
use Rattle.line_cutter.specs.Lines.{complete_lines}
use Rattle.line_cutter.specs.Row.{AreAdjoining}
use Rattle.line_cutter.specs.declared.line.Line.{Line}
use Rattle.multiline_core.specs.Event.{IsNatural, IsUnended}
use Rattle.multiline_core.specs.Message.{group_of, message_of, row_end, row_start}
use Rattle.multiline_core.specs.Partition.{IsFlushedEvent, IsNaturalEvent, lines_from}
use Rattle.multiline_core.specs.declared.group.Group.{Group}
use Rattle.ship_core.specs.CoveredEnd.{last_end}
use Rattle.told_events.specs.Fate.{fate_of}
use Rattle.told_events.specs.Rules.{Rules}
use Rattle.told_events.specs.Told.{AreTold, ToldEvent, spans_of}
use Rattle.wire_base.specs.Extent.{Extent}
use Rattle.harvester.specs.Gathered.{AreCut, IsClosedEvent, IsEnded}
use Rattle.harvester.specs.History.{HasBytes}
use Rattle.harvester.proofs.Gathering.{row_end-append}

pub last_end-append : (place : ℕ) (xs ys : List Extent) → last_end place (xs ++ ys) ≡ last_end (last_end place xs) ys
last_end-append place [] ys = refl
last_end-append place (x ∷ xs) ys = last_end-append x.end xs ys

pub spans_of-append : (xs ys : List ToldEvent) → spans_of (xs ++ ys) ≡ spans_of xs ++ spans_of ys
spans_of-append [] ys = refl
spans_of-append (x ∷ xs) ys = ap (λ (l : List Extent). x.span ∷ l) (spans_of-append xs ys)

pub grows : (start : ℕ) (xs : List Line) → AreAdjoining start xs → start ≤ row_end start xs
grows start [] are = le_refl start
grows start (x ∷ xs) are = omega (arith, are.1, grows x.span.end xs are.2)

pub adjoining_front : (start : ℕ) (xs ys : List Line) → AreAdjoining start (xs ++ ys) → AreAdjoining start xs
adjoining_front start [] ys are = tt
adjoining_front start (x ∷ xs) ys are = (are.0, are.1, adjoining_front x.span.end xs ys are.2)

pub adjoining_behind : (start : ℕ) (xs ys : List Line) → AreAdjoining start (xs ++ ys) → AreAdjoining (row_end start xs) ys
adjoining_behind start [] ys are = are
adjoining_behind start (x ∷ xs) ys are = adjoining_behind x.span.end xs ys are.2

-- lines after the first ones are those of the bytes after these
module _ (later : (rule : LineRule) (start : ℕ) (bytes : List ℕ) (given : List Line) (line : Line) (more : List Line) →
    complete_lines rule start bytes ≡ given ++ line ∷ more → complete_lines rule line.span.end (drop (line.span.end - start) bytes) ≡ more)
    (rule : LineRule) (start : ℕ) (bytes : List ℕ) (rest : List Line) where
  from_one : (given : List Line) (x : Line) (xs : List Line) → complete_lines rule start bytes ≡ (given ++ x ∷ xs) ++ rest →
      complete_lines rule (row_end x.span.end xs) (drop (row_end x.span.end xs - start) bytes) ≡ rest
  from_one given x [] are = later rule start bytes given x rest (are ∙ append_assoc given (x ∷ []) rest)
  from_one given x (y ∷ ys) are =
      from_one (given ++ x ∷ []) y ys (are ∙ ap (λ (l : List Line). l ++ rest) (sym (append_assoc given (x ∷ []) (y ∷ ys))))

  pub lines_behind : (told : List Line) → complete_lines rule start bytes ≡ told ++ rest →
      complete_lines rule (row_end start told) (drop (row_end start told - start) bytes) ≡ rest
  lines_behind [] are =
      let none : 0 ≡ start - start = omega arith in
      ap (λ (n : ℕ). complete_lines rule start (drop n bytes)) (sym none) ∙ are
  lines_behind (x ∷ xs) are = from_one [] x xs are

module _ (stay : (rule : LineRule) (start : ℕ) (bytes more : List ℕ) →
    (later : List Line) × (complete_lines rule start (bytes ++ more) ≡ complete_lines rule start bytes ++ later))
    (later : (rule : LineRule) (start : ℕ) (bytes : List ℕ) (given : List Line) (line : Line) (more : List Line) →
    complete_lines rule start bytes ≡ given ++ line ∷ more → complete_lines rule line.span.end (drop (line.span.end - start) bytes) ≡ more)
    (rule : LineRule) (start : ℕ) (fed bytes life : List ℕ) where
  -- the lines that were cut are the first ones of each life that has the bytes
  pub record CutOf (given : List Line) : Type 0 where
    pub more : List Line
    pub are : complete_lines rule start (drop start life) ≡ given ++ more

  pub cut_of_life : (given : List Line) (cutter : Cutting) (unfed : List ℕ) → bytes ≡ fed ++ unfed → HasBytes start bytes life →
      AreCut rule start fed given cutter → CutOf given
  cut_of_life given cutter unfed bytes_are has cut =
      let c = cut.cut in
      let rest = (c.passed ++ cutter.unread) ++ (unfed ++ has.more) in
      let spelled : drop start life ≡ c.lined ++ rest =
      has.behind ∙ ap (λ (l : List ℕ). l ++ has.more) bytes_are ∙ append_assoc fed unfed has.more
      ∙ ap (λ (l : List ℕ). l ++ (unfed ++ has.more)) c.spelled ∙ append_assoc c.lined (c.passed ++ cutter.unread) (unfed ++ has.more) in
      let on = stay rule start c.lined rest in
      record {
        more = on.0;
        are = ap (λ (l : List ℕ). complete_lines rule start l) spelled ∙ on.1 ∙ ap (λ (l : List Line). l ++ on.0) c.lines;
      }

  pub lines_ahead : (told ahead : List Line) (cutter : Cutting) (unfed : List ℕ) → bytes ≡ fed ++ unfed → HasBytes start bytes life →
      AreCut rule start fed (told ++ ahead) cutter → (more : List Line) × (lines_from rule life (row_end start told) ≡ ahead ++ more)
  lines_ahead told ahead cutter unfed bytes_are has cut =
      let of_life = cut_of_life (told ++ ahead) cutter unfed bytes_are has cut in
      let onward : start ≤ row_end start told = grows start told (adjoining_front start told ahead cut.adjoin) in
      let place : start + (row_end start told - start) ≡ row_end start told = omega arith in (
        of_life.more,
        ap (λ (l : List ℕ). complete_lines rule (row_end start told) l)
            (ap (λ (n : ℕ). drop n life) (sym place) ∙ sym (drop-drop (row_end start told - start) start life))
            ∙ lines_behind later rule start (drop start life) (ahead ++ of_life.more) told
            (of_life.are ∙ append_assoc told ahead of_life.more),
      )

-- ---- where lines end

end_grows : (start : ℕ) (xs ys : List Line) → AreAdjoining start (xs ++ ys) → row_end start xs ≤ row_end start (xs ++ ys)
end_grows start xs ys are =
    subst (λ (n : ℕ). row_end start xs ≤ n) (sym (row_end-append start xs ys)) (grows (row_end start xs) ys (adjoining_behind start xs ys are))

ends_within : (rule : LineRule) (start : ℕ) (fed : List ℕ) (given : List Line) (cutter : Cutting) → AreCut rule start fed given cutter →
    row_end start given ≤ start + length fed
ends_within rule start fed given cutter are =
    let cut = are.cut in
    let long : length fed ≡ length cut.lined + length (cut.passed ++ cutter.unread) =
    ap (λ (l : List ℕ). length l) cut.spelled ∙ length-append cut.lined (cut.passed ++ cutter.unread) in
    omega (arith, are.within, cut.place, cut.passing.number, long, length-append cut.passed cutter.unread)

front_within : (rule : LineRule) (start : ℕ) (fed : List ℕ) (xs ys : List Line) (cutter : Cutting) → AreCut rule start fed (xs ++ ys) cutter →
    row_end start xs ≤ start + length fed
front_within rule start fed xs ys cutter are =
    omega (arith, end_grows start xs ys are.adjoin, ends_within rule start fed (xs ++ ys) cutter are)

-- the span of the closed event lies within what was fed
pub record SpanWithin (start most : ℕ) (closed : List Line) : Type 0 where
  pub begins : row_start 0 closed ≤ most
  pub ends : row_end 0 closed ≤ most

pub span_within : (rule : LineRule) (start : ℕ) (fed : List ℕ) (told closed ys : List Line) (cutter : Cutting) →
    AreCut rule start fed ((told ++ closed) ++ ys) cutter → SpanWithin start (start + length fed) closed
span_within rule start fed told [] ys cutter are = record { begins = omega arith; ends = omega arith }
span_within rule start fed told (first ∷ others) ys cutter are =
    let all = front_within rule start fed (told ++ first ∷ others) ys cutter are in
    let end : row_end start (told ++ first ∷ others) ≡ row_end first.span.end others = row_end-append start told (first ∷ others) in
    let ahead = adjoining_behind start told (first ∷ others) (adjoining_front start (told ++ first ∷ others) ys are.adjoin) in
    record {
      begins = omega (arith, ahead.0, ahead.1, grows first.span.end others ahead.2, end, all);
      ends = omega (arith, end, all);
    }

-- ---- one event more

module _ (stay : (rule : LineRule) (start : ℕ) (bytes more : List ℕ) →
    (later : List Line) × (complete_lines rule start (bytes ++ more) ≡ complete_lines rule start bytes ++ later))
    (later : (rule : LineRule) (start : ℕ) (bytes : List ℕ) (given : List Line) (line : Line) (more : List Line) →
    complete_lines rule start bytes ≡ given ++ line ∷ more → complete_lines rule line.span.end (drop (line.span.end - start) bytes) ≡ more)
    (natural_stays : (rule : GroupRule) (lines more row : List Line) → IsNatural rule lines row → IsNatural rule (lines ++ more) row)
    (rules : Rules) (licences : List ℕ) (event : ToldEvent) (group : Group)
    (span : event.span ≡ group.span) (some : group.span.start < group.span.end)
    (fate : event.fate ≡ fate_of rules event.path group.span.start group.message event.now) where
  pub not_empty : (closed waiting : List Line) → IsClosedEvent rules licences closed waiting group → closed ≢ []
  not_empty closed waiting is none =
      let same : group ≡ group_of rules.events [] = is.group_is ∙ ap (λ (l : List Line). group_of rules.events l) none in
      let S : Group → Type 0 = λ g. g.span.start < g.span.end in
      absurd (let no : 0 < 0 = subst S same some in omega (arith, no))

  pub any_place : (closed : List Line) → closed ≢ [] → (place other : ℕ) → row_end place closed ≡ row_end other closed
  any_place [] none place other = absurd (none refl)
  any_place (first ∷ others) none place other = refl

  -- alone, from where the reported ones end
  pub one_told : (start : ℕ) (fed bytes life unfed : List ℕ) (told closed waiting rest : List Line) (cutter : Cutting) → bytes ≡ fed ++ unfed →
      HasBytes start bytes life → AreCut rules.lines start fed ((told ++ (closed ++ waiting)) ++ rest) cutter →
      IsClosedEvent rules licences closed waiting group → AreTold rules licences life (row_end start told) (event ∷ [])
  one_told start fed bytes life unfed told closed waiting rest cutter bytes_are has cut is =
      let spelled : (told ++ (closed ++ waiting)) ++ rest ≡ told ++ (closed ++ (waiting ++ rest)) =
      append_assoc told (closed ++ waiting) rest ∙ ap (λ (l : List Line). told ++ l) (append_assoc closed waiting rest) in
      let ahead = lines_ahead stay later rules.lines start fed bytes life told (closed ++ (waiting ++ rest)) cutter unfed bytes_are has
      (subst (λ (l : List Line). AreCut rules.lines start fed l cutter) spelled cut) in
      let place = row_end start told in
      let lines : lines_from rules.lines life place ≡ (closed ++ waiting) ++ (rest ++ ahead.0) =
      ahead.1 ∙ append_assoc closed (waiting ++ rest) ahead.0 ∙ ap (λ (l : List Line). closed ++ l) (append_assoc waiting rest ahead.0)
      ∙ sym (append_assoc closed waiting (rest ++ ahead.0)) in
      let begins : row_start 0 closed ≡ place = begins_at closed (not_empty closed waiting is)
      (adjoining_front place closed waiting (adjoining_behind start told (closed ++ waiting)
      (adjoining_front start (told ++ (closed ++ waiting)) rest cut.adjoin))) in
      let spans : event.span ≡ record { start = row_start 0 closed; end = row_end 0 closed } = span ∙ ap (λ (g : Group). g.span) is.group_is in
      let start_is : event.span.start ≡ place = ap (λ (e : Extent). e.start) spans ∙ begins in
      let end_is : row_end place closed ≡ event.span.end = any_place closed (not_empty closed waiting is) place 0 ∙ sym (ap (λ (e : Extent). e.end) spans) in
      let here : lines_from rules.lines life event.span.start ≡ closed ++ (waiting ++ (rest ++ ahead.0)) =
      ap (λ (n : ℕ). lines_from rules.lines life n) start_is ∙ lines ∙ append_assoc closed waiting (rest ++ ahead.0) in
      record {
        partition = (start_is, ends place closed waiting (rest ++ ahead.0) (sym lines) end_is (sym (ap (λ (e : Extent). e.end) spans)) is.ended, tt);
        fates = (
          record {
            row = closed;
            behind = waiting ++ (rest ++ ahead.0);
            lines = here;
            ends = any_place closed (not_empty closed waiting is) event.span.start place ∙ end_is;
            is = fate ∙ ap (λ (g : Group). fate_of rules event.path g.span.start g.message event.now) is.group_is
                ∙ ap (λ (n : ℕ). fate_of rules event.path n (message_of rules.events closed) event.now) (sym (ap (λ (e : Extent). e.start) spans));
          },
          tt,
        );
      }
    where
      begins_at : (xs : List Line) → xs ≢ [] → AreAdjoining (row_end start told) xs → row_start 0 xs ≡ row_end start told
      begins_at [] none are = absurd (none refl)
      begins_at (first ∷ others) none are = are.0

      ends : (place : ℕ) (xs ys more : List Line) → (xs ++ ys) ++ more ≡ lines_from rules.lines life place → row_end place xs ≡ event.span.end →
          row_end 0 xs ≡ event.span.end → IsEnded rules licences xs ys →
          IsNaturalEvent rules.lines rules.events life place event.span.end
          ⊎ (IsFlushedEvent rules.lines rules.events life place event.span.end × Contains licences event.span.end)
      ends place xs ys more lines end last (inl natural) = inl (record {
        row = xs;
        natural = subst (λ (l : List Line). IsNatural rules.events l xs) lines (natural_stays rules.events (xs ++ ys) more xs natural);
        ends = end;
      })
      ends place xs ys more lines end last (inr flushed) = inr (
        record {
          row = xs;
          open_row = subst (λ (l : List Line). IsUnended rules.events l xs) (sym (append_assoc xs ys more) ∙ lines) (flushed.0 (ys ++ more));
          ends = end;
        },
        subst (λ (n : ℕ). Contains licences n) last flushed.1,
      )
