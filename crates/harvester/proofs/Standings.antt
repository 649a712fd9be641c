-- For which histories a harvester stands, step by step.
use Rattle.std.proofs.Common.{◌≡◌, inl, inr, ℕ, zero, suc, ◌+◌, ◌-◌, ◌<◌, ◌≤◌, Bool, true, false, IfSome, OnErr, List, [], ◌∷◌, ◌++◌, length, take, drop, Contains, Option, Some, None, option_to_list, refl, sym, ap, subst, ◌∙◌, append_assoc, append-nil, length-append, le_refl, add-zero, Result, Ok, Err, arith}
use Rattle.std.proofs.lemmas.List.{length-take-le}
use Rattle.std.proofs.lemmas.List.Elements.{Contains-append_left}
use Rattle.event_tree.specs.declared.input_rule.IdentityRule.{IdentityRule}
use Rattle.event_tree.specs.declared.input_rule.InputRule.{InputRule}
use Rattle.event_tree.specs.declared.processor_rule.ProcessorRule.{ProcessorRule}
use Rattle.event_tree.specs.declared.group_rule.GroupRule.{GroupRule}
use Rattle.event_tree.specs.declared.line_rule.LineRule.{LineRule}
use Rattle.line_cutter.specs.Lines.{complete_lines}
use Rattle.line_cutter.specs.declared.line.Line.{Line}
use Rattle.multiline_core.specs.Event.{IsNatural}
use Rattle.multiline_core.specs.Message.{row_end, row_start}
use Rattle.multiline_core.specs.declared.group.Group.{Group}
use Rattle.ship_core.specs.CoveredEnd.{last_end}
use Rattle.told_events.specs.Fate.{fate_of}
use Rattle.told_events.specs.Rules.{Rules}
use Rattle.told_events.specs.Told.{AreTold, ToldEvent, spans_of}
use Rattle.told_events.proofs.Going.{all_behind, behind}
use Rattle.wire_base.specs.Extent.{Extent}
use Rattle.wire_base.specs.Ranges.{IsMoment, IsPlace}
use Rattle.wire_base.specs.declared.memory.NoMemory.{NoMemory}
use Rattle.wire_base.specs.declared.numbers.Moment.{Moment}
use Rattle.file_identity.specs.Answers.{IsAskable}
use Rattle.outside.specs.declared.history.Look.{Look}
use Rattle.wire_base.specs.declared.note.Begin.{Begin}
use Rattle.wire_base.specs.declared.numbers.Epoch.{Epoch}
use Rattle.harvester.specs.declared.stage.Stage.{Stage as ReaderStage}
use Rattle.harvester.specs.declared.stage.Stage.TheVariants.{Reading}
use Rattle.harvester.specs.InRange.{IsReadable}
use Rattle.harvester.specs.declared.events.Events.{Events}
use Rattle.harvester.specs.Gathered.{AreClosed, AreCut, Found, Gathered, HasMoved, IsClosedEvent, IsGathered, all_told, none_gathered}
use Rattle.harvester.specs.Held.{Held}
use Rattle.harvester.specs.History.{History, IsTelling, opened, rules_in, told_to, with_ending, with_epoch, with_events, with_path, with_present, with_read, with_stage}
use Rattle.harvester.specs.Standing.{Holds, given_path, stage_of}
use Rattle.harvester.proofs.Gathering.{row_end-append}
use Rattle.harvester.proofs.Looking.{shorter}
use Rattle.harvester.proofs.Telling.{any_place, last_end-append, not_empty, one_told, span_within, spans_of-append}

-- ---- the closed event

module _ (h : History) (held : Held) (of : Gathered) (t : Holds h held of) (group : Group) (closed_is : held.events.closed ≡ Some group) where
  closed_event : IsClosedEvent (rules_in h) h.present.licences of.closed of.waiting group
  closed_event = subst (λ (o : Option Group). AreClosed (rules_in h) h.present.licences of.closed of.waiting o) closed_is t.has.gathered.closed

  -- its span lies within what was read
  pub span_in_range : IsPlace group.span.start × IsPlace group.span.end
  span_in_range =
      let rest = option_to_list held.events.line in
      let spelled : (of.told ++ (of.closed ++ of.waiting)) ++ rest ≡ (of.told ++ of.closed) ++ (of.waiting ++ rest) =
      ap (λ (l : List Line). l ++ rest) (sym (append_assoc of.told of.closed of.waiting)) ∙ append_assoc (of.told ++ of.closed) of.waiting rest in
      let within = span_within h.rule.lines h.present.start t.has.fed of.told of.closed (of.waiting ++ rest) held.events.cutter
      (subst (λ (l : List Line). AreCut h.rule.lines h.present.start t.has.fed l held.events.cutter) spelled t.has.gathered.cut) in
      let long : length h.present.bytes ≡ length t.has.fed + length (take held.filled held.buffer) =
      ap (λ (l : List ℕ). length l) t.has.bytes ∙ length-append t.has.fed (take held.filled held.buffer) in
      let start_is : group.span.start ≡ row_start 0 of.closed = ap (λ (g : Group). g.span.start) closed_event.group_is in
      let end_is : group.span.end ≡ row_end 0 of.closed = ap (λ (g : Group). g.span.end) closed_event.group_is in (
        omega (arith, start_is, within.begins, long, t.position.position, t.position.in_range),
        omega (arith, end_is, within.ends, long, t.position.position, t.position.in_range),
      )

  -- and it is reported
  module _ (stay : (rule : LineRule) (start : ℕ) (bytes more : List ℕ) →
      (later : List Line) × (complete_lines rule start (bytes ++ more) ≡ complete_lines rule start bytes ++ later))
      (later : (rule : LineRule) (start : ℕ) (bytes : List ℕ) (given : List Line) (line : Line) (more : List Line) →
      complete_lines rule start bytes ≡ given ++ line ∷ more → complete_lines rule line.span.end (drop (line.span.end - start) bytes) ≡ more)
      (natural_stays : (rule : GroupRule) (lines more row : List Line) → IsNatural rule lines row → IsNatural rule (lines ++ more) row)
      (event : ToldEvent) (span : event.span ≡ group.span) (some : group.span.start < group.span.end)
      (fate : event.fate ≡ fate_of (rules_in h) event.path group.span.start group.message event.now) where
    present_told : IsTelling (rules_in h) (with_events (event ∷ []) h.present)
    present_told life has =
        let rules = rules_in h in
        let alone : AreTold rules h.present.licences life (row_end h.present.start of.told) (event ∷ []) =
        one_told stay later natural_stays rules h.present.licences event group span some fate h.present.start t.has.fed h.present.bytes life
        (take held.filled held.buffer) of.told of.closed of.waiting (option_to_list held.events.line) held.events.cutter t.has.bytes has
        t.has.gathered.cut closed_event in
        behind rules h.present.licences life h.present.start h.present.told (event ∷ []) (t.present life has)
        (subst (λ (n : ℕ). AreTold rules h.present.licences life n (event ∷ [])) (t.has.told_to ∙ t.told_place) alone)

    pub told_stands : (events : Events) →
        IsGathered (rules_in h) h.present.start t.has.fed h.present.licences (all_told of) events → events.last_line ≡ held.events.last_line →
        Holds (with_present (with_events (event ∷ []) h.present) h) (record held { events = events; told_to = group.span.end }) (all_told of)
    told_stands events gathered last =
        let end_is : group.span.end ≡ row_end 0 of.closed = ap (λ (g : Group). g.span.end) closed_event.group_is in
        let told_end : row_end h.present.start (of.told ++ of.closed) ≡ group.span.end =
        row_end-append h.present.start of.told of.closed ∙ any_place stay later natural_stays (rules_in h) h.present.licences event group span some fate of.closed
        (not_empty stay later natural_stays (rules_in h) h.present.licences event group span some fate of.closed of.waiting closed_event) (row_end h.present.start of.told) 0 ∙ sym end_is in
        let place : told_to (with_events (event ∷ []) h.present) ≡ group.span.end =
        ap (λ (l : List Extent). last_end h.present.start l) (spans_of-append h.present.told (event ∷ []))
        ∙ last_end-append h.present.start (spans_of h.present.told) (event.span ∷ []) ∙ ap (λ (e : Extent). e.end) span in
        record {
          follows = record {
            begin = t.follows.begin;
            path = t.follows.path;
            input = t.follows.input;
            identity = t.follows.identity;
            askable = t.follows.askable;
            limit = t.follows.limit;
            epoch = t.follows.epoch;
            stage = t.follows.stage;
            ends = t.follows.ends;
            forgets = t.follows.forgets;
          };
          moments = record {
            read_at = t.moments.read_at;
            last_line = subst (λ (m : Moment). Contains h.moments m.0) (sym last) t.moments.last_line;
            in_range = t.moments.in_range;
          };
          position = record { position = t.position.position; in_range = t.position.in_range; some_room = t.position.some_room; within = t.position.within };
          has = record { fed = t.has.fed; bytes = t.has.bytes; gathered = gathered; told_to = told_end };
          told_place = sym place;
          past = t.past;
          present = present_told;
        }

-- ---- what is gathered changes

module _ (h : History) (held : Held) (of : Gathered) (t : Holds h held of) where
  -- the events are gathered further, by what was fed or with what was read
  pub gathers_stand : (events : Events) (filled : ℕ) (fed : List ℕ) (after : Gathered) → filled ≤ held.filled →
      h.present.bytes ≡ fed ++ take filled held.buffer → IsGathered (rules_in h) h.present.start fed h.present.licences after events → after.told ≡ of.told →
      Contains h.moments events.last_line.0 → Holds h (record held { events = events; filled = filled }) after
  gathers_stand events filled fed after fewer bytes gathered told last = record {
    follows = record {
      begin = t.follows.begin;
      path = t.follows.path;
      input = t.follows.input;
      identity = t.follows.identity;
      askable = t.follows.askable;
      limit = t.follows.limit;
      epoch = t.follows.epoch;
      stage = t.follows.stage;
      ends = t.follows.ends;
      forgets = t.follows.forgets;
    };
    moments = record { read_at = t.moments.read_at; last_line = last; in_range = t.moments.in_range };
    position = record {
      position = t.position.position;
      in_range = t.position.in_range;
      some_room = t.position.some_room;
      within = omega (arith, fewer, t.position.within);
    };
    has = record {
      fed = fed;
      bytes = bytes;
      gathered = gathered;
      told_to = ap (λ (l : List Line). row_end h.present.start l) told ∙ t.has.told_to;
    };
    told_place = t.told_place;
    past = t.past;
    present = t.present;
  }

  -- what was read is fed
  pub fed_stands : (events : Events) → ((rules : Rules) (start : ℕ) (fed licences : List ℕ) (of : Gathered) →
      IsGathered rules start fed licences of held.events → IsGathered rules start (fed ++ take held.filled held.buffer) licences of events) →
      events.last_line ≡ held.events.last_line → Holds h (record held { events = events; filled = 0 }) of
  fed_stands events feeds last =
      let all : h.present.bytes ≡ (t.has.fed ++ take held.filled held.buffer) ++ take 0 held.buffer =
      t.has.bytes ∙ sym (append-nil (t.has.fed ++ take held.filled held.buffer)) in
      gathers_stand events 0 (t.has.fed ++ take held.filled held.buffer) of (omega arith) all
      (feeds (rules_in h) h.present.start t.has.fed h.present.licences of t.has.gathered) refl
      (subst (λ (m : Moment). Contains h.moments m.0) (sym last) t.moments.last_line)

  -- lines were gathered
  pub found_stands : (events : Events) (result : Result Bool NoMemory)
      (found : Found (rules_in h) h.present.start t.has.fed h.present.licences of held.events.last_line held.read_at result events) →
      Holds h (record held { events = events }) found.moved.after
  found_stands events result found =
      gathers_stand events held.filled t.has.fed found.moved.after (le_refl held.filled) t.has.bytes found.moved.is found.moved.same_told
      (given found.moved.last_line)
    where
      given : HasMoved of found.moved.after held.events.last_line held.read_at events.last_line → Contains h.moments events.last_line.0
      given (inl same) = subst (λ (m : Moment). Contains h.moments m.0) (sym same.1) t.moments.last_line
      given (inr now) = subst (λ (m : Moment). Contains h.moments m.0) (sym now.1) t.moments.read_at

  -- ---- more bytes are read

  pub read_stands : (buffer : List ℕ) (count : ℕ) (read_at : Moment) → held.filled ≡ 0 → 0 < length buffer → count ≤ length buffer →
      IsPlace (held.position + count) → Contains h.moments read_at.0 → IsMoment read_at →
      Holds (with_read read_at.0 (take count buffer) h)
      (record held { buffer = buffer; filled = count; position = held.position + count; read_at = read_at }) of
  read_stands buffer count read_at none some within in_range given moment =
      let fed_all : h.present.bytes ≡ t.has.fed =
      t.has.bytes ∙ ap (λ (n : ℕ). t.has.fed ++ take n held.buffer) none ∙ append-nil t.has.fed in
      let long : length (take count buffer) ≡ count = length-take-le count buffer within in
      record {
        follows = record {
          begin = t.follows.begin;
          path = t.follows.path;
          input = t.follows.input;
          identity = t.follows.identity;
          askable = t.follows.askable;
          limit = t.follows.limit;
          epoch = t.follows.epoch;
          stage = t.follows.stage;
          ends = t.follows.ends;
          forgets = t.follows.forgets;
        };
        moments = record { read_at = given; last_line = t.moments.last_line; in_range = moment };
        position = record {
          position = omega (arith, t.position.position, length-append h.present.bytes (take count buffer), long);
          in_range = in_range;
          some_room = some;
          within = within;
        };
        has = record {
          fed = t.has.fed;
          bytes = ap (λ (l : List ℕ). l ++ take count buffer) fed_all;
          gathered = t.has.gathered;
          told_to = t.has.told_to;
        };
        told_place = t.told_place;
        past = t.past;
        present = λ life has. t.present life (shorter h.present.start h.present.bytes (take count buffer) life has);
      }

place_on : (at count : ℕ) → IsPlace at → (0 < count → IsPlace (at + count)) → IsPlace (at + count)
place_on at zero here there = omega (arith, here)
place_on at (suc count) here there = there (omega arith)

-- bytes were read into the front of the buffer
pub read_on : (h : History) (held : Held) (of : Gathered) → Holds h held of → (buffer : List ℕ) (count : ℕ) (now : Moment) → held.filled ≡ 0 →
    length buffer ≡ length held.buffer → count ≤ length buffer → (0 < count → IsPlace (held.position + count)) → Contains h.moments now.0 → IsMoment now →
    Holds (with_read now.0 (take count buffer) h)
    (record held { buffer = buffer; filled = count; position = held.position + count; read_at = now }) of
read_on h held of t buffer count now none room within in_range given moment =
    read_stands h held of t buffer count now none (omega (arith, room, t.position.some_room)) within
    (place_on held.position count t.position.in_range in_range) given moment

-- ---- where the file is, and with a small buffer

module _ (h : History) (held : Held) (of : Gathered) (t : Holds h held of) where
  pub staged : (stage : ReaderStage) → Holds (with_stage (stage_of stage) h) (record held { stage = stage }) of
  staged stage = record {
    follows = record {
      begin = t.follows.begin;
      path = t.follows.path;
      input = t.follows.input;
      identity = t.follows.identity;
      askable = t.follows.askable;
      limit = t.follows.limit;
      epoch = t.follows.epoch;
      stage = refl;
      ends = t.follows.ends;
      forgets = t.follows.forgets;
    };
    moments = record { read_at = t.moments.read_at; last_line = t.moments.last_line; in_range = t.moments.in_range };
    position = record { position = t.position.position; in_range = t.position.in_range; some_room = t.position.some_room; within = t.position.within };
    has = record { fed = t.has.fed; bytes = t.has.bytes; gathered = t.has.gathered; told_to = t.has.told_to };
    told_place = t.told_place;
    past = t.past;
    present = t.present;
  }

  -- with a further moment
  pub turned_stands : (now : ℕ) (may_end : Bool) → Holds (record h { moments = h.moments ++ now ∷ []; may_end = may_end }) held of
  turned_stands now may_end = record {
    follows = record {
      begin = t.follows.begin;
      path = t.follows.path;
      input = t.follows.input;
      identity = t.follows.identity;
      askable = t.follows.askable;
      limit = t.follows.limit;
      epoch = t.follows.epoch;
      stage = t.follows.stage;
      ends = t.follows.ends;
      forgets = t.follows.forgets;
    };
    moments = record {
      read_at = Contains-append_left h.moments (now ∷ []) held.read_at.0 t.moments.read_at;
      last_line = Contains-append_left h.moments (now ∷ []) held.events.last_line.0 t.moments.last_line;
      in_range = t.moments.in_range;
    };
    position = record { position = t.position.position; in_range = t.position.in_range; some_room = t.position.some_room; within = t.position.within };
    has = record { fed = t.has.fed; bytes = t.has.bytes; gathered = t.has.gathered; told_to = t.has.told_to };
    told_place = t.told_place;
    past = t.past;
    present = t.present;
  }

  pub path_stands : (path : List ℕ) → Holds (with_path path h) (record held { renamed = Some path }) of
  path_stands path = record {
    follows = record {
      begin = t.follows.begin;
      path = refl;
      input = t.follows.input;
      identity = t.follows.identity;
      askable = t.follows.askable;
      limit = t.follows.limit;
      epoch = t.follows.epoch;
      stage = t.follows.stage;
      ends = t.follows.ends;
      forgets = t.follows.forgets;
    };
    moments = record { read_at = t.moments.read_at; last_line = t.moments.last_line; in_range = t.moments.in_range };
    position = record { position = t.position.position; in_range = t.position.in_range; some_room = t.position.some_room; within = t.position.within };
    has = record { fed = t.has.fed; bytes = t.has.bytes; gathered = t.has.gathered; told_to = t.has.told_to };
    told_place = t.told_place;
    past = t.past;
    present = t.present;
  }

  pub ending_stands : (forget : Bool) → Holds (with_ending forget h) (record held { ends = true; forgets = forget }) of
  ending_stands forget = record {
    follows = record {
      begin = t.follows.begin;
      path = t.follows.path;
      input = t.follows.input;
      identity = t.follows.identity;
      askable = t.follows.askable;
      limit = t.follows.limit;
      epoch = t.follows.epoch;
      stage = t.follows.stage;
      ends = refl;
      forgets = refl;
    };
    moments = record { read_at = t.moments.read_at; last_line = t.moments.last_line; in_range = t.moments.in_range };
    position = record { position = t.position.position; in_range = t.position.in_range; some_room = t.position.some_room; within = t.position.within };
    has = record { fed = t.has.fed; bytes = t.has.bytes; gathered = t.has.gathered; told_to = t.has.told_to };
    told_place = t.told_place;
    past = t.past;
    present = t.present;
  }

  -- with another buffer while nothing waits in it
  pub rebuffered : (buffer : List ℕ) → held.filled ≡ 0 → 0 < length buffer → Holds h (record held { buffer = buffer }) of
  rebuffered buffer none some =
      let all : h.present.bytes ≡ t.has.fed ++ take held.filled buffer =
      t.has.bytes ∙ ap (λ (n : ℕ). t.has.fed ++ take n held.buffer) none ∙ sym (ap (λ (n : ℕ). t.has.fed ++ take n buffer) none) in
      record {
        follows = record {
          begin = t.follows.begin;
          path = t.follows.path;
          input = t.follows.input;
          identity = t.follows.identity;
          askable = t.follows.askable;
          limit = t.follows.limit;
          epoch = t.follows.epoch;
          stage = t.follows.stage;
          ends = t.follows.ends;
          forgets = t.follows.forgets;
        };
        moments = record { read_at = t.moments.read_at; last_line = t.moments.last_line; in_range = t.moments.in_range };
        position = record { position = t.position.position; in_range = t.position.in_range; some_room = some; within = omega (arith, none, some) };
        has = record { fed = t.has.fed; bytes = all; gathered = t.has.gathered; told_to = t.has.told_to };
        told_place = t.told_place;
        past = t.past;
        present = t.present;
      }

  -- a new epoch begins
  pub epoch_stands : (epoch : Epoch) (events : Events) → epoch.0 ≡ held.epoch.0 + 1 →
      IsGathered (rules_in h) 0 [] [] none_gathered events → events.last_line ≡ held.events.last_line →
      Holds (with_epoch h) (record held { epoch = epoch; told_to = 0; position = 0; filled = 0; events = events; stage = Reading }) none_gathered
  epoch_stands epoch events next gathered last = record {
    follows = record {
      begin = t.follows.begin;
      path = t.follows.path;
      input = t.follows.input;
      identity = t.follows.identity;
      askable = t.follows.askable;
      limit = t.follows.limit;
      epoch = next ∙ ap (λ (n : ℕ). n + 1) t.follows.epoch;
      stage = refl;
      ends = t.follows.ends;
      forgets = t.follows.forgets;
    };
    moments = record {
      read_at = t.moments.read_at;
      last_line = subst (λ (m : Moment). Contains h.moments m.0) (sym last) t.moments.last_line;
      in_range = t.moments.in_range;
    };
    position = record { position = refl; in_range = omega arith; some_room = t.position.some_room; within = omega arith };
    has = record { fed = []; bytes = refl; gathered = gathered; told_to = refl };
    told_place = refl;
    past = all_behind (IsTelling (rules_in h)) h.past (h.present ∷ []) t.past (t.present, tt);
    present = λ life has. record { partition = tt; fates = tt };
  }

-- ---- as it is opened

pub opened_stands : (rule : InputRule) (processors : List ProcessorRule) (begin : Begin) (before : List Look) (now : Moment) (held : Held) →
    IsReadable rule → IsPlace begin.base → IsMoment now → held.begin ≡ begin → held.renamed ≡ None → held.input ≡ rule.id →
    held.identity ≡ rule.file_identity → held.epoch ≡ begin.epoch → held.told_to ≡ begin.base → held.position ≡ begin.base → held.buffer ≡ 0 ∷ [] →
    held.filled ≡ 0 → held.read_at ≡ now → held.stage ≡ Reading → held.ends ≡ false → held.forgets ≡ false → held.events.last_line ≡ now →
    IsGathered (rules_in (opened rule processors begin before now.0)) begin.base [] [] none_gathered held.events →
    Holds (opened rule processors begin before now.0) held none_gathered
opened_stands rule processors begin before now held readable base moment is_begin renamed input identity epoch told position buffer filled read_at stage ends forgets last gathered =
    let here : Contains (now.0 ∷ []) now.0 = (0, omega arith, refl) in
    record {
      follows = record {
        begin = is_begin;
        path = ap (λ (o : Option (List ℕ)). given_path held.begin.path o) renamed ∙ ap (λ (b : Begin). b.path) is_begin;
        input = input;
        identity = identity;
        askable = subst (λ (r : IdentityRule). IsAskable r) (sym identity) readable.identity;
        limit = readable.limit;
        epoch = ap (λ (e : Epoch). e.0) epoch;
        stage = ap (λ (s : ReaderStage). stage_of s) stage;
        ends = ends;
        forgets = forgets;
      };
      moments = record {
        read_at = subst (λ (m : Moment). Contains (now.0 ∷ []) m.0) (sym read_at) here;
        last_line = subst (λ (m : Moment). Contains (now.0 ∷ []) m.0) (sym last) here;
        in_range = subst (λ (m : Moment). IsMoment m) (sym read_at) moment;
      };
      position = record {
        position = position ∙ sym (add-zero begin.base);
        in_range = omega (arith, position, base);
        some_room = omega (arith, ap (λ (l : List ℕ). length l) buffer);
        within = omega (arith, filled);
      };
      has = record {
        fed = [];
        bytes = sym (ap (λ (n : ℕ). take n held.buffer) filled);
        gathered = gathered;
        told_to = sym told;
      };
      told_place = told;
      past = tt;
      present = λ life has. record { partition = tt; fates = tt };
    }

-- ---- steps one after another

pub on_err : {A E : Type 0} (r : Result A E) (P : Type 0) → P → OnErr r P
on_err (Ok value) P is = tt
on_err (Err error) P is = is

pub told_of : {A : Type 0} (o : Option A) (value : A) (P : A → Type 0) → o ≡ Some value → P value → IfSome o P
told_of {A} o value P is holds = subst (λ (p : Option A). IfSome p P) (sym is) holds
