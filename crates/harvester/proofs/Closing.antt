-- The event that waits is closed as it is: what stands then, and why it may be.
use Rattle.std.proofs.Common.{◌≡◌, ◌⊎◌, inl, inr, ℕ, ◌-◌, ◌<◌, ◌≤◌, Bool, true, false, All, List, [], ◌∷◌, ◌++◌, length, take, drop, Contains, ◌↔◌, IsSomeAnd, Option, Some, None, IsSome, is_some, slice_index_or, refl, sym, ap, subst, ◌∙◌, append_assoc, append-nil, arith}
use Rattle.std.specs.List.{AllByRecursion}
use Rattle.std.proofs.lemmas.List.{drop-take}
use Rattle.std.proofs.lemmas.List.Elements.{All-contains_itself, Contains-append_cases, Contains-append_left}
use Rattle.std.proofs.Math.Seq.{take-append_seam}
use Rattle.event_tree.specs.declared.group_rule.GroupRule.{GroupRule}
use Rattle.event_tree.specs.declared.group_rule.GroupRule.TheVariants.{Count, Pattern, Single}
use Rattle.event_tree.specs.declared.line_rule.LineRule.{LineRule}
use Rattle.line_cutter.specs.Lines.{complete_lines}
use Rattle.line_cutter.specs.declared.line.Line.{Line}
use Rattle.multiline_core.specs.Gathering.{Gathered as GatheredLines, Gathers, Grouping, IsDue, MayGoOn, gathered_of}
use Rattle.multiline_core.specs.Message.{row_end}
use Rattle.multiline_core.specs.Rule.{IsGroupRule, timeout_of}
use Rattle.multiline_core.specs.declared.group.Group.{Group}
use Rattle.ship_core.proofs.Members.{none_there, there_cases}
use Rattle.told_events.proofs.Going.{stay_told}
use Rattle.told_events.specs.Licence.{LieApart}
use Rattle.wire_base.specs.declared.numbers.Moment.{Moment}
use Rattle.harvester.specs.declared.events.Events.{Events}
use Rattle.harvester.specs.declared.stage.Stage.{Stage as ReaderStage}
use Rattle.harvester.specs.Gathered.{AreClosed, Gathered, IsGathered, all_flushed, flushed_at, lines_of}
use Rattle.harvester.specs.Held.{Held}
use Rattle.harvester.specs.History.{Ended, History, IsPast, Stage, complete_in, left_to_tell, read_to, rules_in, timeout_in, told_to, with_licences, with_present}
use Rattle.harvester.specs.Standing.{AllGathered, EndsAt, EndsLines, Holds, IsGatheredAt, StandsFor, WasClosed, stage_behind_end, stage_of}
use Rattle.harvester.specs.Turns.{NoneCloses, NoneDue}
use Rattle.harvester.proofs.Gathering.{row_end-append}
use Rattle.harvester.proofs.Lasting.{last_where_all, same_lines_at}
use Rattle.harvester.proofs.Telling.{lines_behind}

all_there : (xs ys : List ℕ) → All (Contains (xs ++ ys)) xs
all_there xs ys = λ k d inside. Contains-append_left xs ys (slice_index_or xs k d) (All-contains_itself xs k d inside)

-- no licence more
abbrev same_licences : (h : History) → with_present (with_licences [] h.present) h ≡ h
same_licences h = ap (λ (l : List ℕ). with_present (record h.present { licences = l }) h) (append-nil h.present.licences)

-- ---- the timeout has passed

waits_since : (rule : GroupRule) (row : List Line) (at : Moment) (gathered : GatheredLines) → Some gathered ≡ gathered_of rule row at → gathered.read_at ≡ at
waits_since rule [] at gathered is = absurd cc
waits_since rule (first ∷ others) at gathered is =
    ap (λ (o : Option GatheredLines). since o) is
  where
    since : Option GatheredLines → Moment
    since None = at
    since (Some one) = one.read_at

-- where a moment is among others
record Stands (xs : List ℕ) (x : ℕ) : Type 0 where
  before : List ℕ
  behind : List ℕ
  are : xs ≡ before ++ x ∷ behind

stands_in : (xs : List ℕ) (x : ℕ) → Contains xs x → Stands xs x
stands_in [] x there = absurd (none_there x there)
stands_in (first ∷ xs) x there = elim (there_cases first x xs there) [
  | inl here ↦ record { before = []; behind = xs; are = ap (λ (n : ℕ). n ∷ xs) here }
  | inr later ↦ let s = stands_in xs x later in record { before = first ∷ s.before; behind = s.behind; are = ap (λ (l : List ℕ). first ∷ l) s.are }
]

-- the later moment is the last one
lies_apart : (moments : List ℕ) (at now distance : ℕ) → EndsAt moments now → Contains moments at → 0 < distance → distance ≤ now - at → LieApart moments distance
lies_apart moments at now distance ends there some apart =
    elim (Contains-append_cases ends.earlier (now ∷ []) at (subst (λ (l : List ℕ). Contains l at) ends.are there)) [
      | inl earlier ↦ let s = stands_in ends.earlier at earlier in record {
        before = s.before;
        earlier = at;
        between = s.behind;
        later = now;
        behind = [];
        are = ends.are ∙ ap (λ (l : List ℕ). l ++ now ∷ []) s.are ∙ append_assoc s.before (at ∷ s.behind) (now ∷ []);
        apart = omega arith;
      }
      | inr here ↦ absurd (elim (there_cases now at [] here) [
        | inl same ↦ let no : 0 < 0 = omega arith in omega arith
        | inr later ↦ none_there at later
      ])
    ]

-- an event that waits has a rule with a timeout
some_timeout : (rule : GroupRule) (row : List Line) (at : Moment) → IsGroupRule rule → MayGoOn rule row → IsSome (gathered_of rule row at) → 0 < timeout_of rule
some_timeout (Single message_max_bytes) row at in_range none some =
    absurd (let e : IsSome (gathered_of (Single message_max_bytes) [] at) = subst (λ (l : List Line). IsSome (gathered_of (Single message_max_bytes) l at)) none some in let no : false ≡ true = e in cc)
some_timeout (Count count_lines max_lines timeout skip_newline message_max_bytes) row at in_range goes some = omega (arith, in_range.2.0)
some_timeout (Pattern pattern negate side flush max_lines timeout skip_newline message_max_bytes) row at in_range goes some = omega (arith, in_range.2.0)

pub due_apart : (rule : GroupRule) (row : List Line) (at now : Moment) (grouper : Grouping) (moments : List ℕ) → Gathers rule row at grouper → EndsAt moments now.0 →
    Contains moments at.0 → IsDue grouper now → LieApart moments (timeout_of rule)
due_apart rule row at now grouper moments gathers ends there due = go grouper.gathered refl due
  where
    go : (o : Option GatheredLines) → grouper.gathered ≡ o → IsSomeAnd o (λ gathered. timeout_of grouper.rule ≤ now.0 - gathered.read_at.0) → LieApart moments (timeout_of rule)
    go None is due = absurd due
    go (Some gathered) is due =
        let kept : Some gathered ≡ gathered_of rule row at = sym is ∙ gathers.kept in
        let since : gathered.read_at ≡ at = waits_since rule row at gathered kept in
        let some : IsSome (gathered_of rule row at) = subst (λ (o : Option GatheredLines). IsSome o) kept refl in
        let rule_is : timeout_of grouper.rule ≡ timeout_of rule = ap timeout_of gathers.same_rule in
        let read : gathered.read_at.0 ≡ at.0 = ap (λ (m : Moment). m.0) since in
        lies_apart moments at.0 now.0 (timeout_of rule) ends there (some_timeout rule row at gathers.in_range gathers.goes_on some) (omega arith)

any_start : (rule : GroupRule) (row : List Line) (at : Moment) → IsSome (gathered_of rule row at) → (place other : ℕ) → row_end place row ≡ row_end other row
any_start rule [] at some place other = absurd (let e : false ≡ true = some in cc)
any_start rule (first ∷ others) at some place other = refl

-- the timeout has passed since the last line of the event that waits, or has not
pub due_past : (rule : GroupRule) (row : List Line) (at now : Moment) (grouper : Grouping) → Gathers rule row at grouper → IsDue grouper now → timeout_of rule ≤ now.0 - at.0
due_past rule row at now grouper gathers due = go grouper.gathered refl due
  where
    go : (o : Option GatheredLines) → grouper.gathered ≡ o → IsSomeAnd o (λ gathered. timeout_of grouper.rule ≤ now.0 - gathered.read_at.0) → timeout_of rule ≤ now.0 - at.0
    go None is due = absurd due
    go (Some gathered) is due =
        let read : gathered.read_at.0 ≡ at.0 = ap (λ (m : Moment). m.0) (waits_since rule row at gathered (sym is ∙ gathers.kept)) in
        let rule_is : timeout_of grouper.rule ≡ timeout_of rule = ap timeout_of gathers.same_rule in
        omega (arith, read, rule_is, due)

pub none_due : (rule : GroupRule) (row : List Line) (at now : Moment) (grouper : Grouping) → Gathers rule row at grouper → (¬ (IsDue grouper now)) →
    (row ≡ []) ⊎ (¬ (timeout_of rule ≤ now.0 - at.0))
none_due rule [] at now grouper gathers not = inl refl
none_due rule (first ∷ others) at now grouper gathers not = inr (λ past. not (due past))
  where
    due : timeout_of rule ≤ now.0 - at.0 → IsDue grouper now
    due past =
        let rule_is : timeout_of grouper.rule ≡ timeout_of rule = ap timeout_of gathers.same_rule in
        subst (λ (o : Option GatheredLines). IsSomeAnd o (λ gathered. timeout_of grouper.rule ≤ now.0 - gathered.read_at.0)) (sym gathers.kept) (omega (arith, rule_is, past))

lines_are : (h : History) (held : Held) (a : AllGathered h held) → complete_in h ≡ a.stands.of.told ++ a.stands.of.waiting
lines_are h held a = a.all ∙ ap (λ (l : List Line). a.stands.of.told ++ (l ++ a.stands.of.waiting)) a.none_closed

-- the event that waited is closed
pub closed_stands : (h : History) (held : Held) (of : Gathered) (t : Holds h held of) (events : Events) →
    IsGathered (rules_in h) h.present.start t.has.fed (h.present.licences ++ flushed_at events.closed) (all_flushed of) events →
    events.last_line ≡ held.events.last_line →
    Holds (with_present (with_licences (flushed_at events.closed) h.present) h) (record held { events = events }) (all_flushed of)
closed_stands h held of t events flushed last = record {
  follows = record {
    begin = t.follows.begin;
    path = t.follows.path;
    input = t.follows.input;
    identity = t.follows.identity;
    askable = t.follows.askable;
    limit = t.follows.limit;
    epoch = t.follows.epoch;
    stage = t.follows.stage;
    ends = t.follows.ends;
    forgets = t.follows.forgets;
  };
  moments = record {
    read_at = t.moments.read_at;
    last_line = subst (λ (m : Moment). Contains h.moments m.0) (sym last) t.moments.last_line;
    in_range = t.moments.in_range;
  };
  position = record { position = t.position.position; in_range = t.position.in_range; some_room = t.position.some_room; within = t.position.within };
  has = record { fed = t.has.fed; bytes = t.has.bytes; gathered = flushed; told_to = t.has.told_to };
  told_place = t.told_place;
  past = t.past;
  present = λ life over.
      stay_told (rules_in h) h.present.licences (h.present.licences ++ flushed_at events.closed) life h.present.start h.present.told
      (all_there h.present.licences (flushed_at events.closed)) (t.present life over);
}

module _ (h : History) (held : Held) (a : AllGathered h held) where
  gathers : Gathers h.rule.multiline a.stands.of.waiting held.events.last_line held.events.grouper
  gathers = a.stands.holds.has.gathered.gathers

  last_is : held.events.last_line.0 ≡ h.last_line
  last_is = last_where_all h held a.stands.of a.all a.stands.last_line

  -- the last line that waits is the last complete one of what was read
  module _ (some : IsSome held.events.grouper.gathered) where
    pub ends_lines : EndsLines h (row_end 0 a.stands.of.waiting)
    ends_lines life has =
        let start = h.present.start in
        let bytes = h.present.bytes in
        let front : drop start (take (read_to h.present) life) ≡ bytes =
        drop-take start (length bytes) life ∙ ap (λ (l : List ℕ). take (length bytes) l) has.behind ∙ take-append_seam bytes has.more in
        let some_waits : IsSome (gathered_of h.rule.multiline a.stands.of.waiting held.events.last_line) =
        subst (λ (o : Option GatheredLines). IsSome o) gathers.kept some in
        ap (λ (l : List ℕ). row_end start (complete_lines h.rule.lines start l)) front
        ∙ ap (λ (l : List Line). row_end start l) (lines_are h held a)
        ∙ row_end-append start a.stands.of.told a.stands.of.waiting
        ∙ any_start h.rule.multiline a.stands.of.waiting held.events.last_line some_waits (row_end start a.stands.of.told) 0

    ends_at : (closed : Option Group) → AreClosed (rules_in h) (h.present.licences ++ flushed_at closed) a.stands.of.waiting [] closed →
        AllByRecursion (EndsLines h) (flushed_at closed)
    ends_at None is = tt
    ends_at (Some group) is =
        (subst (λ (n : ℕ). EndsLines h n) (sym (ap (λ (g : Group). g.span.end) is.group_is)) ends_lines, tt)

  module _ (events : Events)
      (flushed : IsGathered (rules_in h) h.present.start a.stands.holds.has.fed (h.present.licences ++ flushed_at events.closed) (all_flushed a.stands.of) events)
      (last : events.last_line ≡ held.events.last_line) where
    same_lines : lines_of (all_flushed a.stands.of) ≡ lines_of a.stands.of
    same_lines =
        ap (λ (l : List Line). a.stands.of.told ++ l) (append-nil a.stands.of.waiting)
        ∙ sym (ap (λ (l : List Line). a.stands.of.told ++ (l ++ a.stands.of.waiting)) a.none_closed)

    was_closed : (ended : Bool) (now : ℕ) → AllByRecursion (EndsLines h) (flushed_at events.closed) →
        (flushed_at events.closed ≡ []) ⊎ ((ended ≡ true) ⊎ LieApart h.moments (timeout_in h)) →
        (flushed_at events.closed ≡ []) ⊎ ((ended ≡ true) ⊎ IsPast h now) → WasClosed h now ended (record held { events = events })
    was_closed ended now end_lines why where_due =
        let after = with_present (with_licences (flushed_at events.closed) h.present) h in
        record {
          licences = flushed_at events.closed;
          stands = record {
            of = all_flushed a.stands.of;
            holds = closed_stands h held a.stands.of a.stands.holds events flushed last;
            last_line = inl (a.all ∙ sym same_lines, ap (λ (m : Moment). m.0) last ∙ last_is);
            at_stage = same_lines_at h.stage h after a.stands.of (all_flushed a.stands.of) refl same_lines (λ none. refl) a.stands.at_stage;
          };
          end_lines = end_lines;
          why = why;
          where_due = where_due;
          all = a.all ∙ sym same_lines;
          none_at_end = λ is. refl;
          none_due = λ none. inl refl;
        }

  -- by its timeout, or where the file's end was found
  pub closes : (ended : Bool) (now : Moment) (events : Events) → EndsAt h.moments now.0 → ((ended ≡ true) ⊎ IsDue held.events.grouper now) →
      IsGathered (rules_in h) h.present.start a.stands.holds.has.fed (h.present.licences ++ flushed_at events.closed) (all_flushed a.stands.of) events →
      events.last_line ≡ held.events.last_line → (IsSome events.closed ↔ IsSome held.events.grouper.gathered) → WasClosed h now.0 ended (record held { events = events })
  closes ended now events ends why flushed last one = go events.closed refl
    where
      apart : ((ended ≡ true) ⊎ IsDue held.events.grouper now) → (ended ≡ true) ⊎ LieApart h.moments (timeout_in h)
      apart (inl at_end) = inl at_end
      apart (inr passed) =
          inr (due_apart h.rule.multiline a.stands.of.waiting held.events.last_line now held.events.grouper h.moments gathers ends a.stands.holds.moments.last_line passed)

      past : ((ended ≡ true) ⊎ IsDue held.events.grouper now) → (ended ≡ true) ⊎ IsPast h now.0
      past (inl at_end) = inl at_end
      past (inr passed) =
          inr (subst (λ (n : ℕ). timeout_in h ≤ now.0 - n) last_is
          (due_past h.rule.multiline a.stands.of.waiting held.events.last_line now held.events.grouper gathers passed))

      go : (closed : Option Group) → events.closed ≡ closed → WasClosed h now.0 ended (record held { events = events })
      go None none =
          let no : flushed_at events.closed ≡ [] = ap (λ (o : Option Group). flushed_at o) none in
          was_closed events flushed last ended now.0 (subst (λ (l : List ℕ). AllByRecursion (EndsLines h) l) (sym no) tt) (inl no) (inl no)
      go (Some group) some =
          was_closed events flushed last ended now.0
          (ends_at (one.0 (ap (λ (o : Option Group). is_some o) some)) events.closed flushed.closed) (inr (apart why)) (inr (past why))

  -- nothing was closed
  pub not_closed : (ended : Bool) (now : Moment) → ended ≡ false → (¬ (IsDue held.events.grouper now)) → WasClosed h now.0 ended held
  not_closed ended now goes not =
      let after = with_present (with_licences [] h.present) h in
      record {
        licences = [];
        stands = record {
          of = a.stands.of;
          holds = subst (λ (g : History). Holds g held a.stands.of) (sym (same_licences h)) a.stands.holds;
          last_line = inl (a.all, last_is);
          at_stage = same_lines_at h.stage h after a.stands.of a.stands.of refl refl (λ none. none) a.stands.at_stage;
        };
        end_lines = tt;
        why = inl refl;
        where_due = inl refl;
        all = a.all;
        none_at_end = λ is. absurd (let no : true ≡ false = sym is ∙ goes in cc);
        none_due = λ none. waits (none_due h.rule.multiline a.stands.of.waiting held.events.last_line now held.events.grouper gathers not);
      }
    where
      waits : (a.stands.of.waiting ≡ []) ⊎ (¬ (timeout_of h.rule.multiline ≤ now.0 - held.events.last_line.0)) → (a.stands.of.waiting ≡ []) ⊎ (¬ (IsPast h now.0))
      waits (inl none) = inl none
      waits (inr past) = inr (subst (λ (n : ℕ). ¬ (timeout_of h.rule.multiline ≤ now.0 - n)) last_is past)

-- ---- none closes

module _ (h : History) (later : (rule : LineRule) (start : ℕ) (bytes : List ℕ) (given : List Line) (line : Line) (more : List Line) →
    complete_lines rule start bytes ≡ given ++ line ∷ more → complete_lines rule line.span.end (drop (line.span.end - start) bytes) ≡ more) where
  -- after the lines of the events that were reported
  pub left_behind : (held : Held) (of : Gathered) → Holds h held of → (rest : List Line) → complete_in h ≡ of.told ++ rest → left_to_tell h ≡ rest
  left_behind held of t rest are =
      let place : row_end h.present.start of.told ≡ told_to h.present = t.has.told_to ∙ t.told_place in
      subst (λ (n : ℕ). complete_lines h.rule.lines n (drop (n - h.present.start) h.present.bytes) ≡ rest) place
      (lines_behind later h.rule.lines h.present.start h.present.bytes rest of.told are)

  pub none_closes : (held : Held) → AllGathered h held → NoneCloses h
  none_closes held a =
      subst (λ (l : List Line). MayGoOn h.rule.multiline l) (sym (left_behind held a.stands.of a.stands.holds a.stands.of.waiting (lines_are h held a)))
      a.stands.holds.has.gathered.gathers.goes_on

  -- at the end none is left once none is closed
  pub none_left : (held : Held) (t : StandsFor h held) → h.stage ≡ Ended → held.events.closed ≡ None → left_to_tell h ≡ []
  none_left held t ended none =
      let at : IsGatheredAt Ended h t.of = subst (λ (s : Stage). IsGatheredAt s h t.of) ended t.at_stage in
      let closed : t.of.closed ≡ [] = subst (λ (o : Option Group). AreClosed (rules_in h) h.present.licences t.of.closed t.of.waiting o) none t.holds.has.gathered.closed in
      left_behind held t.of t.holds []
      (at.0 ∙ ap (λ (l : List Line). t.of.told ++ (l ++ t.of.waiting)) closed ∙ ap (λ (l : List Line). t.of.told ++ l) at.1)

pub ended_last_line : (h : History) (held : Held) (t : StandsFor h held) → h.stage ≡ Ended → held.events.last_line.0 ≡ h.last_line
ended_last_line h held t ended =
    let at : IsGatheredAt Ended h t.of = subst (λ (s : Stage). IsGatheredAt s h t.of) ended t.at_stage in
    last_where_all h held t.of at.0 t.last_line

-- where nothing was closed then
module _ (h : History) (now : ℕ) (ended : Bool) (closed : Held) (w : WasClosed h now ended closed) (none : closed.events.closed ≡ None)
    (later : (rule : LineRule) (start : ℕ) (bytes : List ℕ) (given : List Line) (line : Line) (more : List Line) →
    complete_lines rule start bytes ≡ given ++ line ∷ more → complete_lines rule line.span.end (drop (line.span.end - start) bytes) ≡ more) where
  waits_alone : left_to_tell h ≡ w.stands.of.waiting
  waits_alone =
      let after = with_present (with_licences w.licences h.present) h in
      let no : w.stands.of.closed ≡ [] =
      subst (λ (o : Option Group). AreClosed (rules_in h) after.present.licences w.stands.of.closed w.stands.of.waiting o) none w.stands.holds.has.gathered.closed in
      left_behind after later closed w.stands.of w.stands.holds w.stands.of.waiting
      (w.all ∙ ap (λ (l : List Line). w.stands.of.told ++ (l ++ w.stands.of.waiting)) no)

  pub settled_none_due : NoneDue h now
  settled_none_due = go (w.none_due none)
    where
      go : (w.stands.of.waiting ≡ []) ⊎ (¬ (IsPast h now)) → NoneDue h now
      go (inl waiting) = inl (waits_alone ∙ waiting)
      go (inr past) = inr past

  pub settled_all_told : ended ≡ true → left_to_tell h ≡ []
  settled_all_told is = waits_alone ∙ w.none_at_end is

-- an event that waits was closed, too
pub settled_none_waits : (h : History) (now : ℕ) (ended : Bool) (closed : Held) (w : WasClosed h now ended closed) → closed.events.closed ≡ None →
    ((rule : LineRule) (start : ℕ) (bytes : List ℕ) (given : List Line) (line : Line) (more : List Line) →
    complete_lines rule start bytes ≡ given ++ line ∷ more → complete_lines rule line.span.end (drop (line.span.end - start) bytes) ≡ more) →
    (¬ (IsSome closed.events.grouper.gathered)) → left_to_tell h ≡ []
settled_none_waits h now ended closed w none later waits =
    waits_alone h now ended closed w none later ∙ no_lines w.stands.of.waiting w.stands.holds.has.gathered.gathers.kept
  where
    no_lines : (row : List Line) → closed.events.grouper.gathered ≡ gathered_of h.rule.multiline row closed.events.last_line → row ≡ []
    no_lines [] kept = refl
    no_lines (first ∷ others) kept = absurd (waits (subst (λ (o : Option GatheredLines). IsSome o) (sym kept) refl))

pub closed_last_line : (h : History) (now : ℕ) (ended : Bool) (closed : Held) (w : WasClosed h now ended closed) → closed.events.last_line.0 ≡ h.last_line
closed_last_line h now ended closed w =
    last_where_all (with_present (with_licences w.licences h.present) h) closed w.stands.of w.all w.stands.last_line

-- where the file stands then
pub gathered_behind : (h : History) (now : ℕ) (ended : Bool) (closed : Held) (w : WasClosed h now ended closed) (stage : ReaderStage) → stage ≡ stage_behind_end ended →
    IsGatheredAt (stage_of stage) (with_present (with_licences w.licences h.present) h) w.stands.of
gathered_behind h now ended closed w stage is =
    subst (λ (s : ReaderStage). IsGatheredAt (stage_of s) (with_present (with_licences w.licences h.present) h) w.stands.of) (sym is) (go ended w.none_at_end)
  where
    go : (e : Bool) → (e ≡ true → w.stands.of.waiting ≡ []) → IsGatheredAt (stage_of (stage_behind_end e)) (with_present (with_licences w.licences h.present) h) w.stands.of
    go true none = (w.all, none refl)
    go false none = tt
