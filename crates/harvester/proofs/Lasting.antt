-- For which histories a harvester stands, step by step: with the moment of its last line, and what was gathered where the
-- file is read no further.
use Rattle.std.proofs.Common.{◌≡◌, inl, inr, ℕ, ◌+◌, ◌-◌, ◌<◌, ◌≤◌, ltb, cond, Bool, true, false, IfOk, IsSome, IsTrue, ◌↔◌, List, [], ◌∷◌, ◌++◌, length, take, drop, Contains, Option, Some, None, option_to_list, refl, sym, ap, subst, ◌∙◌, append_assoc, append-nil, length-append, Result, Ok, Err, arith}
use Rattle.std.proofs.lemmas.Bool.{lt-ltb, le-ltb}
use Rattle.event_tree.specs.declared.group_rule.GroupRule.{GroupRule}
use Rattle.event_tree.specs.declared.line_rule.LineRule.{LineRule}
use Rattle.event_tree.specs.declared.input_rule.InputRule.{InputRule}
use Rattle.event_tree.specs.declared.processor_rule.ProcessorRule.{ProcessorRule}
use Rattle.line_cutter.specs.Lines.{complete_lines}
use Rattle.line_cutter.specs.declared.line.Line.{Line}
use Rattle.multiline_core.specs.Event.{IsNatural}
use Rattle.multiline_core.specs.declared.group.Group.{Group}
use Rattle.told_events.specs.Fate.{fate_of}
use Rattle.told_events.specs.Rules.{Rules}
use Rattle.told_events.specs.Told.{ToldEvent}
use Rattle.outside.specs.declared.history.Look.{Look}
use Rattle.wire_base.specs.Ranges.{IsMoment, IsPlace}
use Rattle.wire_base.specs.declared.note.Begin.{Begin}
use Rattle.wire_base.specs.declared.memory.NoMemory.{NoMemory}
use Rattle.wire_base.specs.declared.numbers.Epoch.{Epoch}
use Rattle.wire_base.specs.declared.numbers.Moment.{Moment}
use Rattle.harvester.specs.declared.events.Events.{Events}
use Rattle.harvester.specs.declared.stage.Stage.{Stage as ReaderStage}
use Rattle.harvester.specs.declared.stage.Stage.TheVariants.{Reading}
use Rattle.harvester.specs.Gathered.{AreClosed, Found, Gathered, HasMoved, IsGathered, all_told, lines_of, none_gathered}
use Rattle.harvester.specs.Held.{Held}
use Rattle.harvester.specs.InRange.{IsReadable}
use Rattle.harvester.specs.History.{Asks, Ended, Changed, Over, History, Reads, Stage, complete_in, opened, rules_in, with_bytes, with_ending, with_epoch, with_events, with_path, with_present, with_read, with_stage}
use Rattle.harvester.specs.Standing.{AllGathered, AreAll, HasLastLine, Holds, IsGatheredAt, StandsFor, stage_of}
use Rattle.harvester.proofs.Gathering.{none_where_false}
use Rattle.harvester.proofs.Standings.{ending_stands, epoch_stands, fed_stands, found_stands, opened_stands, path_stands, read_on, rebuffered, staged, told_stands, turned_stands}

-- ---- the complete lines of what was read

-- those that were gathered are the first ones
gathered_first : (h : History) (held : Held) (of : Gathered) → Holds h held of →
    ((rule : LineRule) (start : ℕ) (bytes more : List ℕ) →
    (later : List Line) × (complete_lines rule start (bytes ++ more) ≡ complete_lines rule start bytes ++ later)) →
    (later : List Line) × (complete_in h ≡ lines_of of ++ later)
gathered_first h held of t stay =
    let cut = t.has.gathered.cut.cut in
    let line = option_to_list held.events.line in
    let rest = cut.passed ++ held.events.cutter.unread in
    let unfed = take held.filled held.buffer in
    let bytes : h.present.bytes ≡ cut.lined ++ (rest ++ unfed) =
    t.has.bytes ∙ ap (λ (l : List ℕ). l ++ unfed) cut.spelled ∙ append_assoc cut.lined rest unfed in
    let more = stay h.rule.lines h.present.start cut.lined (rest ++ unfed) in (
      line ++ more.0,
      ap (λ (l : List ℕ). complete_lines h.rule.lines h.present.start l) bytes ∙ more.1
          ∙ ap (λ (l : List Line). l ++ more.0) cut.lines ∙ append_assoc (lines_of of) line more.0,
    )

-- by a read
module _ (now : ℕ) (bytes : List ℕ) (h : History) (later : List Line) (on : complete_in (with_present (with_bytes bytes h.present) h) ≡ complete_in h ++ later) where
  longer : length (complete_in (with_present (with_bytes bytes h.present) h)) ≡ length (complete_in h) + length later
  longer = ap (λ (l : List Line). length l) on ∙ length-append (complete_in h) later

  chosen : (b : Bool) → ltb (length (complete_in h)) (length (complete_in (with_present (with_bytes bytes h.present) h))) ≡ b →
      (with_read now bytes h).last_line ≡ cond b now h.last_line
  chosen b is = ap (λ (one : Bool). cond one now h.last_line) is

  pub no_line_read : later ≡ [] → (with_read now bytes h).last_line ≡ h.last_line
  no_line_read none =
      let l = longer in
      let no : length later ≡ 0 = ap (λ (x : List Line). length x) none in
      chosen false (le-ltb (length (complete_in h)) (length (complete_in (with_present (with_bytes bytes h.present) h))) (omega (arith, l, no)))

  pub line_read : 0 < length later → (with_read now bytes h).last_line ≡ now
  line_read some =
      let l = longer in
      chosen true (lt-ltb (length (complete_in h)) (length (complete_in (with_present (with_bytes bytes h.present) h))) (omega (arith, l, some)))

-- nothing was read
pub same_read : (now : ℕ) (h : History) → with_read now [] h ≡ h
same_read now h =
    let same : with_bytes [] h.present ≡ h.present = ap (λ (l : List ℕ). record h.present { bytes = l }) (append-nil h.present.bytes) in
    let none : complete_in (with_present (with_bytes [] h.present) h) ≡ complete_in h ++ [] =
    ap (λ (l : List ℕ). complete_lines h.rule.lines h.present.start l) (append-nil h.present.bytes) ∙ sym (append-nil (complete_in h)) in
    ap (λ (n : ℕ). record h { present = with_bytes [] h.present; last_line = n }) (no_line_read now [] h [] none refl)
    ∙ ap (λ (l : List ℕ). record h { present = record h.present { bytes = l } }) (append-nil h.present.bytes)

-- if all are gathered, the last one is that of the history
pub last_where_all : (h : History) (held : Held) (of : Gathered) → AreAll h of → HasLastLine h held of → held.events.last_line.0 ≡ h.last_line
last_where_all h held of all (inl last) = last.1
last_where_all h held of all (inr fewer) =
    let same : length (complete_in h) ≡ length (lines_of of) = ap (λ (l : List Line). length l) all in absurd (omega (arith, same, fewer.0))

-- ---- the lines stay

same_lines_last : (h after : History) (held now : Held) (of then : Gathered) → complete_in after ≡ complete_in h → after.last_line ≡ h.last_line →
    lines_of then ≡ lines_of of → now.events.last_line ≡ held.events.last_line → now.read_at ≡ held.read_at → HasLastLine h held of → HasLastLine after now then
same_lines_last h after held now of then complete last lines line read (inl all) =
    inl (complete ∙ all.0 ∙ sym lines, ap (λ (m : Moment). m.0) line ∙ all.1 ∙ sym last)
same_lines_last h after held now of then complete last lines line read (inr fewer) =
    let few : length (lines_of then) ≡ length (lines_of of) = ap (λ (l : List Line). length l) lines in
    let many : length (complete_in after) ≡ length (complete_in h) = ap (λ (l : List Line). length l) complete in
    inr (omega (arith, few, many, fewer.0), ap (λ (m : Moment). m.0) read ∙ fewer.1 ∙ sym last)

pub same_lines_at : (stage : Stage) (h after : History) (of then : Gathered) → complete_in after ≡ complete_in h → lines_of then ≡ lines_of of →
    (of.waiting ≡ [] → then.waiting ≡ []) → IsGatheredAt stage h of → IsGatheredAt stage after then
same_lines_at Reads h after of then complete lines waiting is = tt
same_lines_at Asks h after of then complete lines waiting is = complete ∙ is ∙ sym lines
same_lines_at Ended h after of then complete lines waiting is = (complete ∙ is.0 ∙ sym lines, waiting is.1)
same_lines_at Changed h after of then complete lines waiting is = tt
same_lines_at Over h after of then complete lines waiting is = tt

at_reading : (stage : Stage) → stage ≡ Reads → (h : History) (of : Gathered) → IsGatheredAt stage h of
at_reading stage is h of = subst (λ (s : Stage). IsGatheredAt s h of) (sym is) tt

pub reads_where_reading : (h : History) (held : Held) → StandsFor h held → held.stage ≡ Reading → h.stage ≡ Reads
reads_where_reading h held t reading = sym t.holds.follows.stage ∙ ap stage_of reading

module _ (h : History) (held : Held) (t : StandsFor h held) where
  -- what was read is fed
  pub feeds_on : held.stage ≡ Reading → (events : Events) → ((rules : Rules) (start : ℕ) (fed licences : List ℕ) (of : Gathered) →
      IsGathered rules start fed licences of held.events → IsGathered rules start (fed ++ take held.filled held.buffer) licences of events) →
      events.last_line ≡ held.events.last_line → StandsFor h (record held { events = events; filled = 0 })
  feeds_on reading events feeds last = record {
    of = t.of;
    holds = fed_stands h held t.of t.holds events feeds last;
    last_line = same_lines_last h h held (record held { events = events; filled = 0 }) t.of t.of refl refl refl last refl t.last_line;
    at_stage = at_reading h.stage (reads_where_reading h held t reading) h t.of;
  }

  -- lines were gathered
  module _ (reading : held.stage ≡ Reading) (stay : (rule : LineRule) (start : ℕ) (bytes more : List ℕ) →
      (later : List Line) × (complete_lines rule start (bytes ++ more) ≡ complete_lines rule start bytes ++ later))
      (events : Events) (result : Result Bool NoMemory)
      (found : Found (rules_in h) h.present.start t.holds.has.fed h.present.licences t.of held.events.last_line held.read_at result events) where
    found_last : HasMoved t.of found.moved.after held.events.last_line held.read_at events.last_line → HasLastLine h held t.of →
        (later : List Line) → complete_in h ≡ lines_of found.moved.after ++ later → HasLastLine h (record held { events = events }) found.moved.after
    found_last (inl same) last later are =
        same_lines_last h h held (record held { events = events }) t.of found.moved.after refl refl same.0 same.1 refl last
    found_last (inr now) (inl all) later are =
        let long : length (complete_in h) ≡ length (lines_of found.moved.after) + length later = ap (λ (l : List Line). length l) are ∙ length-append (lines_of found.moved.after) later in
        let was : length (complete_in h) ≡ length (lines_of t.of) = ap (λ (l : List Line). length l) all.0 in
        absurd (omega (arith, long, was, now.0))
    found_last (inr now) (inr fewer) [] are =
        inl (are ∙ append-nil (lines_of found.moved.after), ap (λ (m : Moment). m.0) now.1 ∙ fewer.1)
    found_last (inr now) (inr fewer) (line ∷ later) are =
        let long : length (complete_in h) ≡ length (lines_of found.moved.after) + length (line ∷ later) =
        ap (λ (l : List Line). length l) are ∙ length-append (lines_of found.moved.after) (line ∷ later) in
        inr (omega (arith, long), fewer.1)

    holds_now : Holds h (record held { events = events }) found.moved.after
    holds_now = found_stands h held t.of t.holds events result found

    pub finds_on : StandsFor h (record held { events = events })
    finds_on =
        let first = gathered_first h (record held { events = events }) found.moved.after holds_now stay in
        record {
          of = found.moved.after;
          holds = holds_now;
          last_line = found_last found.moved.last_line t.last_line first.0 first.1;
          at_stage = at_reading h.stage (reads_where_reading h held t reading) h found.moved.after;
        }

    pub finds_all : held.filled ≡ 0 → events.closed ≡ None → complete_lines h.rule.lines h.present.start t.holds.has.fed ≡ lines_of found.moved.after →
        AllGathered h (record held { events = events })
    finds_all none closed all =
        let first = gathered_first h (record held { events = events }) found.moved.after holds_now stay in
        let bytes : h.present.bytes ≡ t.holds.has.fed =
        t.holds.has.bytes ∙ ap (λ (n : ℕ). t.holds.has.fed ++ take n held.buffer) none ∙ append-nil t.holds.has.fed in
        record {
          stands = record {
            of = found.moved.after;
            holds = holds_now;
            last_line = found_last found.moved.last_line t.last_line first.0 first.1;
            at_stage = at_reading h.stage (reads_where_reading h held t reading) h found.moved.after;
          };
          all = ap (λ (l : List ℕ). complete_lines h.rule.lines h.present.start l) bytes ∙ all;
          none_unfed = none;
          none_closed = subst (λ (o : Option Group). AreClosed (rules_in h) h.present.licences found.moved.after.closed found.moved.after.waiting o) closed found.moved.is.closed;
        }

  -- ---- where the file is, and with a small buffer

  pub stages : (stage : ReaderStage) → IsGatheredAt (stage_of stage) h t.of → StandsFor (with_stage (stage_of stage) h) (record held { stage = stage })
  stages stage at = record {
    of = t.of;
    holds = staged h held t.of t.holds stage;
    last_line = same_lines_last h (with_stage (stage_of stage) h) held (record held { stage = stage }) t.of t.of refl refl refl refl refl t.last_line;
    at_stage = same_lines_at (stage_of stage) h (with_stage (stage_of stage) h) t.of t.of refl refl (λ none. none) at;
  }

  pub turns_on : (now : ℕ) (may_end : Bool) → StandsFor (record h { moments = h.moments ++ now ∷ []; may_end = may_end }) held
  turns_on now may_end = record {
    of = t.of;
    holds = turned_stands h held t.of t.holds now may_end;
    last_line = same_lines_last h (record h { moments = h.moments ++ now ∷ []; may_end = may_end }) held held t.of t.of refl refl refl refl refl t.last_line;
    at_stage = same_lines_at h.stage h (record h { moments = h.moments ++ now ∷ []; may_end = may_end }) t.of t.of refl refl (λ none. none) t.at_stage;
  }

  pub renames : (path : List ℕ) → StandsFor (with_path path h) (record held { renamed = Some path })
  renames path = record {
    of = t.of;
    holds = path_stands h held t.of t.holds path;
    last_line = same_lines_last h (with_path path h) held (record held { renamed = Some path }) t.of t.of refl refl refl refl refl t.last_line;
    at_stage = same_lines_at h.stage h (with_path path h) t.of t.of refl refl (λ none. none) t.at_stage;
  }

  pub may_be_ending : (forget : Bool) → StandsFor (with_ending forget h) (record held { ends = true; forgets = forget })
  may_be_ending forget = record {
    of = t.of;
    holds = ending_stands h held t.of t.holds forget;
    last_line = same_lines_last h (with_ending forget h) held (record held { ends = true; forgets = forget }) t.of t.of refl refl refl refl refl t.last_line;
    at_stage = same_lines_at h.stage h (with_ending forget h) t.of t.of refl refl (λ none. none) t.at_stage;
  }

  pub rebuffers : (buffer : List ℕ) → held.filled ≡ 0 → 0 < length buffer → StandsFor h (record held { buffer = buffer })
  rebuffers buffer none some = record {
    of = t.of;
    holds = rebuffered h held t.of t.holds buffer none some;
    last_line = same_lines_last h h held (record held { buffer = buffer }) t.of t.of refl refl refl refl refl t.last_line;
    at_stage = t.at_stage;
  }

  -- a new epoch begins
  pub begins_epoch_on : h.stage ≡ Asks → (epoch : Epoch) (events : Events) → epoch.0 ≡ held.epoch.0 + 1 →
      IsGathered (rules_in h) 0 [] [] none_gathered events → events.last_line ≡ held.events.last_line →
      StandsFor (with_epoch h) (record held { epoch = epoch; told_to = 0; position = 0; filled = 0; events = events; stage = Reading })
  begins_epoch_on asks epoch events next gathered last =
      let all : AreAll h t.of = subst (λ (s : Stage). IsGatheredAt s h t.of) asks t.at_stage in
      record {
        of = none_gathered;
        holds = epoch_stands h held t.of t.holds epoch events next gathered last;
        last_line = inl (refl, ap (λ (m : Moment). m.0) last ∙ last_where_all h held t.of all t.last_line);
        at_stage = tt;
      }

pub rebuffers_all : (h : History) (held : Held) (a : AllGathered h held) (buffer : List ℕ) → 0 < length buffer → AllGathered h (record held { buffer = buffer })
rebuffers_all h held a buffer some = record {
  stands = record {
    of = a.stands.of;
    holds = rebuffered h held a.stands.of a.stands.holds buffer a.none_unfed some;
    last_line = same_lines_last h h held (record held { buffer = buffer }) a.stands.of a.stands.of refl refl refl refl refl a.stands.last_line;
    at_stage = a.stands.at_stage;
  };
  all = a.all;
  none_unfed = a.none_unfed;
  none_closed = a.none_closed;
}

-- ---- more bytes are read

module _ (h : History) (held : Held) (a : AllGathered h held) (reading : held.stage ≡ Reading) (stay : (rule : LineRule) (start : ℕ) (bytes more : List ℕ) →
    (later : List Line) × (complete_lines rule start (bytes ++ more) ≡ complete_lines rule start bytes ++ later)) where
  read_last : (now : Moment) (bytes : List ℕ) (next : Held) → next.events ≡ held.events → next.read_at ≡ now → (later : List Line) →
      complete_in (with_present (with_bytes bytes h.present) h) ≡ complete_in h ++ later → HasLastLine (with_read now.0 bytes h) next a.stands.of
  read_last now bytes next events at [] on =
      let last = last_where_all h held a.stands.of a.all a.stands.last_line in
      inl (on ∙ append-nil (complete_in h) ∙ a.all, ap (λ (e : Events). e.last_line.0) events ∙ last ∙ sym (no_line_read now.0 bytes h [] on refl))
  read_last now bytes next events at (line ∷ later) on =
      let long = longer now.0 bytes h (line ∷ later) on in
      let was : length (complete_in h) ≡ length (lines_of a.stands.of) = ap (λ (l : List Line). length l) a.all in
      inr (omega (arith, long, was), ap (λ (m : Moment). m.0) at ∙ sym (line_read now.0 bytes h (line ∷ later) on (omega arith)))

  pub reads_on : (buffer : List ℕ) (count : ℕ) (now : Moment) → length buffer ≡ length held.buffer → count ≤ length buffer →
      (0 < count → IsPlace (held.position + count)) → Contains h.moments now.0 → IsMoment now →
      StandsFor (with_read now.0 (take count buffer) h) (record held { buffer = buffer; filled = count; position = held.position + count; read_at = now })
  reads_on buffer count now room within in_range given moment =
      let more = stay h.rule.lines h.present.start h.present.bytes (take count buffer) in
      record {
        of = a.stands.of;
        holds = read_on h held a.stands.of a.stands.holds buffer count now a.none_unfed room within in_range given moment;
        last_line = read_last now (take count buffer) (record held { buffer = buffer; filled = count; position = held.position + count; read_at = now }) refl refl more.0 more.1;
        at_stage = at_reading h.stage (reads_where_reading h held a.stands reading) (with_read now.0 (take count buffer) h) a.stands.of;
      }

-- ---- steps one after another

-- if no event is found, all complete lines are gathered
pub all_where_found : (held old : Held) → held ≡ old → ((rule : LineRule) (start : ℕ) (bytes more : List ℕ) →
    (later : List Line) × (complete_lines rule start (bytes ++ more) ≡ complete_lines rule start bytes ++ later)) → (events : Events) (r : Result Bool NoMemory) →
    ((rules : Rules) (start : ℕ) (fed licences : List ℕ) (of : Gathered) → IsGathered rules start fed licences of held.events →
    Found rules start fed licences of held.events.last_line held.read_at r events) → old.stage ≡ Reading → held.filled ≡ 0 →
    IfOk r (λ (found : Bool). IsTrue found ↔ IsSome events.closed) →
    IfOk r (λ (found : Bool). found ≡ false → (h : History) → StandsFor h old → AllGathered h (record held { events = events }))
all_where_found held old same stay events (Ok b) finds reading none closed = λ no h stands.
    let t = subst (λ (v : Held). StandsFor h v) (sym same) stands in
    let found = finds (rules_in h) h.present.start t.holds.has.fed h.present.licences t.of t.holds.has.gathered in
    finds_all h held t (ap (λ (v : Held). v.stage) same ∙ reading) stay events (Ok b) found none (none_where_false b events.closed closed no) (found.all no)
all_where_found held old same stay events (Err error) finds reading none closed = tt

pub all_through : (r : Result Bool NoMemory) (old mid new : Held) → ((h : History) → StandsFor h old → StandsFor h mid) →
    IfOk r (λ (found : Bool). found ≡ false → (h : History) → StandsFor h mid → AllGathered h new) →
    IfOk r (λ (found : Bool). found ≡ false → (h : History) → StandsFor h old → AllGathered h new)
all_through (Ok b) old mid new stands all = λ no h t. all no h (stands h t)
all_through (Err error) old mid new stands all = tt

-- the closed event was reported, and it ends at this place
module _ (h : History) (held : Held) (group : Group) (closed : held.events.closed ≡ Some group)
    (stay : (rule : LineRule) (start : ℕ) (bytes more : List ℕ) →
    (later : List Line) × (complete_lines rule start (bytes ++ more) ≡ complete_lines rule start bytes ++ later))
    (later : (rule : LineRule) (start : ℕ) (bytes : List ℕ) (given : List Line) (line : Line) (more : List Line) →
    complete_lines rule start bytes ≡ given ++ line ∷ more → complete_lines rule line.span.end (drop (line.span.end - start) bytes) ≡ more)
    (natural : (rule : GroupRule) (lines more row : List Line) → IsNatural rule lines row → IsNatural rule (lines ++ more) row)
    (event : ToldEvent) (span : event.span ≡ group.span) (some : group.span.start < group.span.end)
    (fate : event.fate ≡ fate_of (rules_in h) event.path group.span.start group.message event.now) (events : Events) (place : ℕ) (at : place ≡ group.span.end)
    (passed : (rules : Rules) (start : ℕ) (fed licences : List ℕ) (of : Gathered) → IsGathered rules start fed licences of held.events →
    IsGathered rules start fed licences (all_told of) events) (last : events.last_line ≡ held.events.last_line) where
  pub passes : (of : Gathered) → Holds h held of → Holds (with_present (with_events (event ∷ []) h.present) h) (record held { events = events; told_to = place }) (all_told of)
  passes of t =
      subst (λ (n : ℕ). Holds (with_present (with_events (event ∷ []) h.present) h) (record held { events = events; told_to = n }) (all_told of)) (sym at)
      (told_stands h held of t group closed stay later natural event span some fate events
      (passed (rules_in h) h.present.start t.has.fed h.present.licences of t.has.gathered) last)

  pub passes_on : StandsFor h held → StandsFor (with_present (with_events (event ∷ []) h.present) h) (record held { events = events; told_to = place })
  passes_on t =
      let after = with_present (with_events (event ∷ []) h.present) h in
      let same : lines_of (all_told t.of) ≡ lines_of t.of = append_assoc t.of.told t.of.closed t.of.waiting in
      record {
        of = all_told t.of;
        holds = passes t.of t.holds;
        last_line = same_lines_last h after held (record held { events = events; told_to = place }) t.of (all_told t.of) refl refl same last refl t.last_line;
        at_stage = same_lines_at h.stage h after t.of (all_told t.of) refl same (λ none. none) t.at_stage;
      }

-- where what is held is seen as this
pub stages_from : (h : History) (held seen : Held) → held ≡ seen → (stood : StandsFor h seen) (stage : ReaderStage) → IsGatheredAt (stage_of stage) h stood.of →
    StandsFor (with_stage (stage_of stage) h) (record held { stage = stage })
stages_from h held seen same stood stage at =
    subst (λ (v : Held). StandsFor (with_stage (stage_of stage) h) (record v { stage = stage })) (sym same) (stages h seen stood stage at)

-- ---- as it is opened

pub opens : (rule : InputRule) (processors : List ProcessorRule) (begin : Begin) (before : List Look) (now : Moment) (held : Held) →
    IsReadable rule → IsPlace begin.base → IsMoment now → held.begin ≡ begin → held.renamed ≡ None → held.input ≡ rule.id →
    held.identity ≡ rule.file_identity → held.epoch ≡ begin.epoch → held.told_to ≡ begin.base → held.position ≡ begin.base → held.buffer ≡ 0 ∷ [] →
    held.filled ≡ 0 → held.read_at ≡ now → held.stage ≡ Reading → held.ends ≡ false → held.forgets ≡ false → held.events.last_line ≡ now →
    IsGathered (rules_in (opened rule processors begin before now.0)) begin.base [] [] none_gathered held.events →
    StandsFor (opened rule processors begin before now.0) held
opens rule processors begin before now held readable base moment is_begin renamed input identity epoch told position buffer filled read_at stage ends forgets last gathered = record {
  of = none_gathered;
  holds = opened_stands rule processors begin before now held readable base moment is_begin renamed input identity epoch told position buffer filled read_at stage ends forgets last gathered;
  last_line = inl (refl, ap (λ (m : Moment). m.0) last);
  at_stage = tt;
}
