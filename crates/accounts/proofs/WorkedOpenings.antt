-- What worked accounts of a file that was opened twice share: two scans list it. Its first tail reported one line, and was closed where it
-- read on, before the second scan; its second tail reported one line, and reads on at its file's end.
use Rattle.std.proofs.Common.{◌≡◌, ◌≢◌, inl, inr, ℕ, ◌==◌, ◌<◌, List, [], ◌∷◌, ◌++◌, Contains, drop, length, Option, None, Some, codes, if◌then◌else◌, refl, sym, ap, subst, take, false, ◌∙◌, arith, lit≤, length-append, true}
use Rattle.std.specs.Option.{unwrap_or}
use Rattle.std.specs.Prelude.{slice_get}
use Rattle.std.specs.declared.cmp.Ordering.TheVariants.{Less}
use Rattle.event_tree.specs.declared.input_rule.IdentityRule.{IdentityRule}
use Rattle.event_tree.specs.declared.input_rule.IdentityRule.TheVariants.{Fingerprint, Native, Path}
use Rattle.event_tree.specs.declared.input_rule.InputRule.{InputRule}
use Rattle.file_identity.specs.AskedAgain.{GivesKey}
use Rattle.file_identity.specs.Key.{named_key}
use Rattle.file_looks.specs.Looks.{IsAnswered, IsLook, TellsLooks}
use Rattle.harvester.specs.History.{History, IsTelling, Reads, rules_in}
use Rattle.harvester.specs.Looked.{IsLookedAt}
use Rattle.kept_rows.proofs.Worked as worked
use Rattle.kept_rows.specs.Account.{AccountedEvent, Place, Reading}
use Rattle.kept_rows.specs.Followed.{Start}
use Rattle.kept_rows.specs.Run.{Run, Scan}
use Rattle.kept_rows.specs.Scans.{IsCovered, IsFirstPath, IsNoFingerprint, ShowsEntry, ShowsFileTo}
use Rattle.kept_rows.specs.Trace.{Trace}
use Rattle.line_cutter.specs.Lines.{complete_lines}
use Rattle.line_cutter.specs.declared.line.Line.{Line}
use Rattle.multiline_core.specs.Message.{message_of, row_end}
use Rattle.multiline_core.specs.Partition.{lines_from}
use Rattle.outside.specs.Files.{File}
use Rattle.outside.specs.Folders.{Closed, Event, Listed, ListingFailed, Opened as OpenedAs}
use Rattle.outside.specs.Tails.{TailHistory}
use Rattle.outside.specs.declared.history.Look.{Look}
use Rattle.outside.specs.declared.history.Question.{Question}
use Rattle.outside.specs.declared.history.Question.TheVariants.{Length, ReadAt}
use Rattle.outside.specs.declared.history.Shown.{Shown}
use Rattle.outside.specs.declared.history.Sight.{Sight}
use Rattle.ship_core.proofs.Members.{none_there, there_cases}
use Rattle.slot_parts.specs.Account.{goes_on}
use Rattle.told_events.proofs.Worked.{a_log, event_of, first_fate, first_line, life, lines, payload, plain, second_line}
use Rattle.told_events.specs.Fate.{Fate, fate_of}
use Rattle.told_events.specs.Told.{AreTold, ToldEvent}
use Rattle.wire_base.specs.KeyOrder.{compare}
use Rattle.wire_base.specs.declared.note.Begin.{Begin}
use Rattle.wire_base.specs.declared.parcel.Parcel.{Parcel}
use Rattle.accounts.specs.Filed.{Filed, Opening}
use Rattle.accounts.specs.FollowedFile.{IsFollowedFile, start_in, tail_with}
use Rattle.accounts.specs.Opened.{Opened}
use Rattle.accounts.specs.ToldFile.{IsToldFile}
use Rattle.accounts.specs.Turned.{Turned}
use Rattle.accounts.specs.Watched.{watch_in}
use Rattle.accounts.proofs.Worked as accounted
use Rattle.accounts.proofs.WorkedNative.{entries_in, root_in}

-- what each of them has of its own
pub record Twice : Type 0 where
  -- how its input knows files, its native numbers, and its key
  pub identity : IdentityRule
  pub numbers : Option (ℕ × ℕ)
  pub key : List ℕ
  -- its lives after that of two lines
  pub later_lives : List (List ℕ)
  -- how the second scan lists it
  pub path : List ℕ
  pub life : ℕ
  pub size : ℕ
  -- with what its second tail began, what was there then, its looks and what they gave, and its line with its fate
  pub start : Start
  pub begun : Sight
  pub looks : List Look
  pub bytes : List ℕ
  pub line : Line
  pub fate : Fate

-- ---- the first tail

abbrev pub look_at : Sight → Question → Look
look_at sight question = record { question = question; sight = sight }

abbrev pub first_looks : List Look
first_looks = look_at worked.sight Length ∷ look_at worked.sight (ReadAt 0 2) ∷ []

abbrev pub first_event : ToldEvent
first_event = event_of first_line (payload (codes "0") (codes "a"))

abbrev pub first_accounted : AccountedEvent
first_accounted = record { event = first_event; reading = 0; place = Some (record { wire = 0; connection = 0; number = 0 }) }

abbrev pub first_reading : Reading
first_reading = record { opening = 2; segment = record { place = 0; fall = None; looks = first_looks } }

abbrev pub placed : Parcel → Option Place
placed parcel = Some (record { wire = 0; connection = 0; number = if parcel.span.start == 0 then 0 else 1 })

-- ---- the run

abbrev pub paths : List (List ℕ)
paths = codes "/w/**" ∷ []

-- the folder of the worked run, and those in it, eight deep
abbrev root : List ℕ
root = root_in (unwrap_or (slice_get worked.trace.events 1) ListingFailed)

abbrev lists : Shown → Event
lists shown = Listed root 8 (shown ∷ [])

pub a_is_covered : IsCovered paths a_log
a_is_covered = (0, codes "/w/**", omega arith, refl, (worked.covered.0, refl, (worked.covered.2.0, (worked.covered.2.1.0, (1, lit≤ tt, lit≤ tt, ((λ none. cc), tt), tt)))))

abbrev pub scan_at : ℕ → List ℕ → Scan
scan_at listing path = record { moment = 0; listings = listing ∷ []; askings = record { input = 0; path = path; opening = None } ∷ [] }

module _ (own : Twice) where
  abbrev rule : InputRule
  rule = record worked.input { paths = paths; file_identity = own.identity }

  abbrev pub file : File
  file = record { numbers = own.numbers; lives = life ∷ own.later_lives }

  abbrev first_begin : Begin
  first_begin = record accounted.begin { key = own.key }

  abbrev pub first_opened : Opened
  first_opened = record accounted.opened { begin = first_begin; rule = rule; file = file }

  abbrev pub first_history : History
  first_history = record accounted.history {
    rule = rule;
    begin = first_begin;
    present = record { epoch = 0; start = 0; bytes = codes "a\n"; licences = []; told = first_event ∷ [] };
    stage = Reads;
    may_end = false;
  }

  abbrev first_turned : Turned
  first_turned = record { slot = record { 0 = 0 }; history = first_history }

  -- the second one, with what it reported
  abbrev pub next_event : ToldEvent
  next_event = record first_event { span = own.line.span; path = own.path; fate = own.fate }

  abbrev next_begin : Begin
  next_begin = record first_begin { path = own.path; size = own.size; epoch = record { 0 = own.start.epoch }; base = own.start.base }

  abbrev pub next_history : History
  next_history = record accounted.history {
    rule = rule;
    begin = next_begin;
    path = own.path;
    present = record { epoch = own.start.epoch; start = own.start.base; bytes = own.bytes; licences = []; told = next_event ∷ [] };
    stage = Reads;
    may_end = false;
  }

  abbrev pub next_opened : Opened
  next_opened = record first_opened { begin = next_begin; opening = 5; begun = own.begun }

  abbrev pub next_opening : Opening
  next_opening = record { opened = next_opened; history = next_history; looks = own.looks }

  abbrev pub next_tail : TailHistory
  next_tail = tail_with next_opened own.looks

  abbrev pub filed : Filed
  filed = record { opened = first_opened; turned = first_turned; looks = first_looks; changed = 0; known_from = 0; later = next_opening ∷ []; removed = None; shrank_from = None }

  abbrev shown_by : List ℕ → ℕ → ℕ → Shown
  shown_by path in_life size =
      record { entry = record { path = path; size = size; native = own.numbers; changed = record { 0 = 0 } }; file = 0; life = in_life }

  abbrev trace : Trace
  trace = record worked.trace {
    files = file ∷ [];
    events =
        take 1 worked.trace.events
        ++ (lists (shown_by a_log 0 4)
        ∷ OpenedAs a_log 0 worked.sight
        ∷ Closed 2 first_looks 0
        ∷ lists (shown_by own.path own.life own.size)
        ∷ OpenedAs own.path 0 own.begun
        ∷ Closed 5 own.looks 0
        ∷ []);
  }

  abbrev pub run : Run
  run = record worked.run {
    settings = record worked.settings { inputs = rule ∷ [] };
    once = false;
    trace = trace;
    scans = worked.scan ∷ scan_at 4 own.path ∷ [];
  }

-- ---- what a scan shows that lists it alone

only_of : (trace : Trace) (listing : ℕ) (path : List ℕ) (shown other : Shown) → slice_get trace.events listing ≡ Some (lists shown) →
    ShowsEntry trace (scan_at listing path) other → shown ≡ other
only_of trace listing path shown other is shows = elim (there_cases listing shows.listing [] shows.of_scan) [
  | inr nothing ↦ absurd (none_there shows.listing nothing)
  | inl first ↦
      let event : Some (lists shown) ≡ Some (Listed shows.root shows.depth shows.entries) = sym is ∙ ap (slice_get trace.events) first ∙ shows.listed in
      let entries : shown ∷ [] ≡ shows.entries = ap (λ (o : Option Event). entries_in (unwrap_or o ListingFailed)) event in
      elim (there_cases shown other [] (subst (λ (l : List Shown). Contains l other) (sym entries) shows.among)) [
        | inl same ↦ same
        | inr nothing ↦ absurd (none_there other nothing)
      ]
]

module _ (own : Twice) (no_bytes : IsNoFingerprint own.identity) (path : List ℕ) (in_life size listing : ℕ)
    (listed : slice_get (trace own).events listing ≡ Some (lists (shown_by own path in_life size)))
    (covered : IsCovered paths path) (named : named_key (codes "w") own.identity path own.numbers ≡ Some own.key) where
  shows_to : ShowsFileTo (run own) (scan_at listing path) 0 own.key 0 (shown_by own path in_life size)
  shows_to = record {
    asking = record { input = 0; path = path; opening = None };
    asks = record {
      entry = record {
        listing = listing;
        of_scan = (0, omega arith, refl);
        root = root;
        depth = 8;
        entries = shown_by own path in_life size ∷ [];
        listed = listed;
        among = (0, omega arith, refl);
      };
      asked_in = tt;
      of_scan = (0, omega arith, refl);
      input_is = refl;
      path_is = refl;
    };
    rule = rule own;
    rule_is = refl;
    covered = covered;
    gave = record { no_bytes = no_bytes; number_is = refl; gave = sym named };
  }

  pub first_path : compare path path ≢ Less → IsFirstPath (run own) (scan_at listing path) own.key 0 path
  first_path not_before_itself = record {
    shows = record { shown = shown_by own path in_life size; path_is = refl; shows = (0, shows_to) };
    first = λ other shows less.
        let entry : shown_by own path in_life size ≡ shows.shown = only_of (trace own) listing path (shown_by own path in_life size) shows.shown listed shows.shows.1.asks.entry in
        let same : path ≡ other = ap (λ (s : Shown). s.entry.path) entry ∙ shows.path_is in
        not_before_itself (ap (λ (p : List ℕ). compare p path) same ∙ less);
  }

-- if no byte is read for the key, it is the one that the entry names
gives_key : (identity : IdentityRule) (numbers : Option (ℕ × ℕ)) (lives : List (List ℕ)) (key path : List ℕ) → IsNoFingerprint identity →
    named_key (codes "w") identity path numbers ≡ Some key →
    GivesKey (record worked.input { paths = paths; file_identity = identity }) key path (record { numbers = numbers; lives = lives }) []
gives_key (Fingerprint offset count) numbers lives key path no_bytes named = absurd no_bytes
gives_key Native numbers lives key path no_bytes named = record { asking = refl; gave = named }
gives_key Path numbers lives key path no_bytes named = record { asking = refl; gave = named }

-- ---- what its tails reported

-- one line of bytes that are at a place of a life
module _ (path : List ℕ) (in_life : List ℕ) (line : Line) (more : List ℕ) (fate : Fate) (bytes : List ℕ)
    (there : drop line.span.start in_life ≡ bytes ++ more) (cut : complete_lines lines line.span.start (bytes ++ more) ≡ line ∷ complete_lines lines line.span.end more)
    (ends : row_end line.span.start (line ∷ []) ≡ line.span.end) (fate_is : fate_of plain path line.span.start (message_of plain.events (line ∷ [])) 0 ≡ fate) where
  line_is : lines_from lines in_life line.span.start ≡ line ∷ complete_lines lines line.span.end more
  line_is = ap (complete_lines lines line.span.start) there ∙ cut

  one_is_shortest : (front left : List Line) → line ∷ [] ≡ front ++ left → left ≢ [] → length front ≡ 1 → ⊥
  one_is_shortest front [] same some size = some refl
  one_is_shortest front (next ∷ left) same some size = absurd (omega (arith, size, length-append front (next ∷ left), ap (λ (l : List Line). length l) same))

  pub one_line_is_told : AreTold plain [] in_life line.span.start (record { span = line.span; path = path; now = 0; fate = fate } ∷ [])
  one_line_is_told = record {
    partition = (
      refl,
      inl (record {
        row = line ∷ [];
        natural = record { behind = complete_lines lines line.span.end more; lines_are = line_is; event = refl; shortest = one_is_shortest };
        ends = ends;
      }),
      tt,
    );
    fates = (record { row = line ∷ []; behind = complete_lines lines line.span.end more; lines = line_is; ends = ends; is = sym fate_is }, tt);
  }

module _ (own : Twice) where
  -- of the life of two lines, all of which is there
  pub is_look : (question : Question) → IsAnswered question worked.sight → IsLook (file own) worked.sight (look_at worked.sight question)
  is_look question answered = record {
    of_file = record { known = omega arith; within = lit≤ tt; in_range = lit≤ tt };
    no_earlier = record { life = omega arith; length = λ same. omega arith };
    answered = answered;
  }

  first_is_telling : IsTelling (rules_in (first_history own)) (first_history own).present
  first_is_telling in_life has =
      one_line_is_told a_log in_life first_line has.more first_event.fate (codes "a\n") has.behind refl refl first_fate

  first_told : IsToldFile (watch_in (run own)) (first_opened own) (0 ∷ []) (first_turned own) (Some (tail_with (first_opened own) first_looks))
  first_told = record {
    slot = refl;
    history = record {
      rule = refl;
      processors_are = refl;
      begin = refl;
      asked_before = refl;
      names = [];
      rise = tt;
      renamed = tt;
      path = refl;
      ends = λ ends. absurd (let no : false ≡ true = ends in cc);
      may_end = λ may. absurd (let no : false ≡ true = may in cc);
      not_forgotten = refl;
      epochs = (refl, refl, tt);
      at = ([], [], refl, tt);
      told = (record { path_is = refl; given = (0, omega arith, refl) }, tt);
    };
    epochs = (first_is_telling, tt);
    looked = record {
      since = first_looks;
      beyond = [];
      looks_are = refl;
      front = [];
      last = record { place = 0; fall = None; looks = first_looks };
      segments = refl;
      past = tt;
      present = record { place = refl; to = refl; bytes = refl; on = (λ e. tt, (λ e. refl, tt)); kept_key = inl refl; licensed = tt };
      stand_behind = refl;
      end_look = λ ended. absurd cc;
    };
    tail = record { opening = refl; number = refl; begun = refl; file = refl };
    tells = (is_look Length tt, (is_look (ReadAt 0 2) (λ some. lit≤ tt, λ none. cc), tt));
  }

  abbrev pub IsToldAgain : Type 0
  IsToldAgain = IsToldFile (watch_in (run own)) (next_opened own) (0 ∷ []) (record { slot = record { 0 = 0 }; history = next_history own }) (Some (next_tail own))

  pub next_told : IsTelling (rules_in (next_history own)) (next_history own).present → IsLookedAt own.numbers (next_history own) (next_tail own) →
      TellsLooks (next_tail own) → IsToldAgain
  next_told telling looked tells = record {
    slot = refl;
    history = record {
      rule = refl;
      processors_are = refl;
      begin = refl;
      asked_before = refl;
      names = [];
      rise = tt;
      renamed = tt;
      path = refl;
      ends = λ ends. absurd (let no : false ≡ true = ends in cc);
      may_end = λ may. absurd (let no : false ≡ true = may in cc);
      not_forgotten = refl;
      epochs = (refl, refl, tt);
      at = ([], [], refl, tt);
      told = (record { path_is = refl; given = (0, omega arith, refl) }, tt);
    };
    epochs = (telling, tt);
    looked = looked;
    tail = record { opening = refl; number = refl; begun = refl; file = refl };
    tells = tells;
  }

-- ---- so it is followed

module _ (own : Twice) (no_bytes : IsNoFingerprint own.identity) (named : named_key (codes "w") own.identity a_log own.numbers ≡ Some own.key)
    (named_again : named_key (codes "w") own.identity own.path own.numbers ≡ Some own.key) (covered : IsCovered paths own.path)
    (not_before_itself : compare own.path own.path ≢ Less) (told : IsToldAgain own)
    (starts : start_in (next_opened own) ≡ goes_on 0 2 own.size) where
  pub opened_twice : IsFollowedFile (run own) (filed own)
  opened_twice = record {
    rule_is = refl;
    gave = gives_key own.identity own.numbers (file own).lives own.key a_log no_bytes named;
    in_range = (lit≤ tt, lit≤ tt);
    file_is = refl;
    tail = record { in_this_run = lit≤ tt; begun = worked.sight; opened = refl; tells = refl };
    told = first_told own;
    listed = record {
      last = record {
        front = [];
        scan = worked.scan;
        behind = scan_at 4 own.path ∷ [];
        scans_are = refl;
        made_before = (lit≤ tt, tt);
        none_nearer = (λ shows before. absurd (let less : 4 < 2 = before.0 in omega (arith, less)), tt);
        number = 0;
        shown = shown_by own a_log 0 4;
        shows = shows_to own no_bytes a_log 0 4 1 refl a_is_covered named;
        path_is = refl;
        first = first_path own no_bytes a_log 0 4 1 refl a_is_covered named worked.not_before_itself;
      };
      begins = inl (record { number_is = refl; starts = refl });
    };
    moment = inl refl;
    reopened = (
      record {
        is = record {
          same_slot = refl;
          same_input = refl;
          same_key = refl;
          same_rule = refl;
          gave = gives_key own.identity own.numbers (file own).lives own.key own.path no_bytes named_again;
          file_is = refl;
          tail = record { in_this_run = lit≤ tt; begun = own.begun; opened = refl; tells = refl };
          told = told;
        };
        shown = record {
          front = worked.scan ∷ [];
          scan = scan_at 4 own.path;
          behind = [];
          scans_are = refl;
          made_before = (lit≤ tt, tt);
          none_nearer = tt;
          number = 0;
          shown = shown_by own own.path own.life own.size;
          shows = shows_to own no_bytes own.path own.life own.size 4 refl covered named_again;
          path_is = refl;
          first = first_path own no_bytes own.path own.life own.size 4 refl covered named_again not_before_itself;
        };
        starts = starts;
        may = tt;
        closed = record { place = 3; looks = first_looks; faults = 0; closed = refl; since = lit≤ tt; before = lit≤ tt };
      },
      tt,
    );
    first_known = tt;
    later_known = tt;
    removed = tt;
  }

-- ---- where it goes on from the reported end, in the same epoch

abbrev pub next_looks : List Look
next_looks = look_at worked.sight Length ∷ look_at worked.sight (ReadAt 2 2) ∷ look_at worked.sight Length ∷ look_at worked.sight (ReadAt 4 0) ∷ []

-- listed with four bytes, of which two were reported
abbrev pub going_on : IdentityRule → Option (ℕ × ℕ) → List ℕ → List ℕ → Fate → Twice
going_on identity numbers key path fate = record {
  identity = identity;
  numbers = numbers;
  key = key;
  later_lives = [];
  path = path;
  life = 0;
  size = 4;
  start = record { epoch = 0; base = 2 };
  begun = worked.sight;
  looks = next_looks;
  bytes = codes "b\n";
  line = second_line;
  fate = fate;
}

module _ (identity : IdentityRule) (numbers : Option (ℕ × ℕ)) (key path : List ℕ) (fate : Fate)
    (no_bytes : IsNoFingerprint identity) (named : named_key (codes "w") identity a_log numbers ≡ Some key)
    (named_again : named_key (codes "w") identity path numbers ≡ Some key) (covered : IsCovered paths path)
    (not_before_itself : compare path path ≢ Less) (fate_is : fate_of plain path 2 (codes "b") 0 ≡ fate) where
  abbrev own : Twice
  own = going_on identity numbers key path fate

  going_on_is_telling : IsTelling (rules_in (next_history own)) (next_history own).present
  going_on_is_telling in_life has = one_line_is_told path in_life second_line has.more fate (codes "b\n") has.behind refl refl fate_is

  going_on_looked : IsLookedAt numbers (next_history own) (next_tail own)
  going_on_looked = record {
    since = next_looks;
    beyond = [];
    looks_are = refl;
    front = [];
    last = record { place = 2; fall = None; looks = next_looks };
    segments = refl;
    past = tt;
    present = record { place = refl; to = refl; bytes = refl; on = (λ e. tt, (λ e. refl, (λ e. tt, (λ e. refl, tt)))); kept_key = inl refl; licensed = tt };
    stand_behind = refl;
    end_look = λ ended. absurd cc;
  }

  going_on_tells : TellsLooks (next_tail own)
  going_on_tells = (
    is_look own Length tt,
    (
      is_look own (ReadAt 2 2) (λ some. lit≤ tt, λ none. cc),
      (is_look own Length tt, (is_look own (ReadAt 4 0) (λ some. lit≤ tt, λ none. lit≤ tt), tt)),
    ),
  )

  pub goes_on_from_the_told_end : IsFollowedFile (run own) (filed own)
  goes_on_from_the_told_end =
      opened_twice own no_bytes named named_again covered not_before_itself (next_told own going_on_is_telling going_on_looked going_on_tells) refl
