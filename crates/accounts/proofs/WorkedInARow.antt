-- Two worked runs in a row: a crash left the row after the first of two plain lines, though both were acknowledged; the run after it
-- read the second line again and ended with the row after that. A row within a line is none of it, and a run that reports from the
-- first byte again takes nothing up.
use Rattle.std.proofs.Common.{◌≡◌, inl, inr, ℕ, zero, suc, ◌≤◌, true, false, List, [], ◌∷◌, ◌++◌, Contains, Option, Some, None, unwrap_or, refl, sym, ap, ◌∙◌, subst, arith, append-nil, lit≤, codes}
use Rattle.std.specs.Prelude.{slice_get}
use Rattle.file_identity.proofs.CutAskings.{none_cut}
use Rattle.file_identity.specs.AskedAgain.{StillHasKey}
use Rattle.file_looks.specs.Segment.{Segment}
use Rattle.kept_rows.proofs.Backing.{epoch_in, slot_in}
use Rattle.kept_rows.proofs.Worked as worked
use Rattle.kept_rows.specs.Account.{AccountedEvent, EpochAccount, FollowedTail, Following, Place, Reading, SlotAccount, spans_of}
use Rattle.kept_rows.specs.Acknowledged.{IsAcknowledgedAt}
use Rattle.kept_rows.specs.Epochs.{WasListedWith}
use Rattle.kept_rows.specs.Followed.{AreFollowed, EachOpeningServes}
use Rattle.kept_rows.specs.Run.{Asking, Run, Scan}
use Rattle.kept_rows.specs.Scans.{AllButTheLast, AreAsked, IsFirstPath, ShowsEntry, ShowsFileTo}
use Rattle.kept_rows.specs.Telling.{AreToldIn, IsAccount, IsPathOf}
use Rattle.kept_rows.specs.Trace.{IsTail, Trace, WireTold}
use Rattle.lumber_frame.proofs.Settling.{none_in_nothing}
use Rattle.lumber_frame.specs.Acknowledged.{Acknowledges}
use Rattle.lumber_frame.specs.Frame.{frame_bytes}
use Rattle.lumber_frame.specs.Window.{IsWindow, window_bytes}
use Rattle.lumber_frame.specs.declared.frame.Frame.TheVariants.{Ack}
use Rattle.outside.specs.declared.history.Look.{Look}
use Rattle.outside.specs.declared.history.Question.{Question}
use Rattle.outside.specs.declared.history.Question.TheVariants.{Length, ReadAt}
use Rattle.outside.specs.declared.history.Shown.{Shown}
use Rattle.outside.specs.Folders.{Closed, Event, Listed, ListingFailed, Opened}
use Rattle.outside.specs.Talks.{Talk}
use Rattle.outside.specs.Wires.{Finished}
use Rattle.ship_core.proofs.Members.{none_there, there_cases}
use Rattle.ship_core.specs.CoveredEnd.{last_end}
use Rattle.told_events.proofs.Going.{others}
use Rattle.told_events.proofs.Worked.{a_log, event_of, first_line, life, payload, plain, second_line, two_plain_lines}
use Rattle.told_events.specs.Rules.{rules_of}
use Rattle.told_events.specs.Told.{AreTold}
use Rattle.wire_base.specs.declared.row.Row.{Row}
use Rattle.wire_base.specs.declared.talk.Piece.TheVariants.{In, Out}
use Rattle.wire_base.specs.KeyOrder.{compare}
use Rattle.accounts.specs.RunsInARow.{AccountedRun, AdjoinInARow, IsRowOf, TakesUp}
use Rattle.accounts.proofs.InARow.{adjoin_by_accounts}
use Rattle.accounts.proofs.WorkedRun.{acknowledged}

-- ---- the earlier run, and the row that its crash left

abbrev earlier : AccountedRun
earlier = record { run = worked.run; account = worked.slot_account ∷ []; followed = worked.is_account.followed }

abbrev left : Row
left = record worked.row { offset = 2 }

abbrev at : ℕ → Place
at number = record { wire = 0; connection = 0; number = number }

abbrev first_event : AccountedEvent
first_event = record { event = event_of first_line (payload (codes "0") (codes "a")); reading = 0; place = Some (at 0) }

first_stands : IsAcknowledgedAt worked.wires (payload (codes "0") (codes "a")) (at 0)
first_stands = record {
  wire = record { outcomes = Finished worked.talk 0 0 ∷ []; open_talk = None };
  wire_is = refl;
  talk = worked.talk.pieces;
  talk_is = refl;
  acknowledged = worked.payloads;
  acknowledges = acknowledged;
  stands = refl;
}

left_is : IsRowOf earlier left
left_is = record {
  slot = 0;
  one = worked.slot_account;
  slot_is = refl;
  key_is = refl;
  epoch = worked.epoch_account;
  epoch_is = refl;
  closes = record {
    front = first_event ∷ [];
    rest = record { event = event_of second_line (payload (codes "2") (codes "b")); reading = 0; place = Some (at 1) } ∷ [];
    told_is = refl;
    each = (first_stands, tt);
    ends = refl;
  };
}

-- ---- the later run: it listed the file, read it from the row's offset to its end, and had the second line acknowledged

abbrev look : Question → Look
look question = record { question = question; sight = worked.sight }

abbrev looks : List Look
looks = look Length ∷ look (ReadAt 2 2) ∷ look Length ∷ look (ReadAt 4 0) ∷ []

abbrev payloads : List (List ℕ)
payloads = payload (codes "2") (codes "b") ∷ []

abbrev talk : Talk
talk = record { pieces = Out (window_bytes payloads) ∷ In (frame_bytes (Ack 1)) ∷ []; idled = false }

abbrev wires : List WireTold
wires = record { outcomes = Finished talk 0 0 ∷ []; open_talk = None } ∷ []

-- what the earlier run's listing reported
abbrev listing : Event
listing = unwrap_or (slice_get worked.trace.events 1) ListingFailed

abbrev root_in : Event → List ℕ
root_in (Listed root depth entries) = root
root_in _ = []

abbrev depth_in : Event → ℕ
depth_in (Listed root depth entries) = depth
depth_in _ = 0

abbrev entries_in : Event → List Shown
entries_in (Listed root depth entries) = entries
entries_in _ = []

abbrev trace : Trace
trace = record {
  files = worked.file ∷ [];
  events = worked.trace.events ++ listing ∷ Opened a_log 0 worked.sight ∷ Closed 5 looks 0 ∷ [];
  began = 4;
  open_tails = [];
  moments = 0 ∷ [];
  wires = wires;
}

abbrev asking : Asking
asking = record { input = 0; path = a_log; opening = None }

abbrev scan : Scan
scan = record { moment = 0; listings = 4 ∷ []; askings = asking ∷ [] }

abbrev run : Run
run = record { settings = worked.settings; once = true; opening = left ∷ []; trace = trace; scans = scan ∷ [] }

-- ---- its account

abbrev second_event : AccountedEvent
second_event = record { event = event_of second_line (payload (codes "2") (codes "b")); reading = 0; place = Some (at 0) }

abbrev segment : Segment
segment = record { place = 2; fall = None; looks = looks }

abbrev reading : Reading
reading = record { opening = 5; segment = segment }

abbrev epoch_account : EpochAccount
epoch_account = record { epoch = 0; start = 2; life = 0; readings = reading ∷ []; licences = []; told = second_event ∷ [] }

abbrev tail : FollowedTail
tail = record { opening = 5; place = 2; looks = looks; beyond = [] }

abbrev following : Following
following = record { slot = 0; input = 0; key = worked.key; epoch = 0; base = 2; known_from = 0; gone_after = None; tails = tail ∷ [] }

abbrev slot_account : SlotAccount
slot_account = record { following = following; number = 0; changed = 0; epochs = epoch_account ∷ [] }

-- ---- what its scan shows

entry : ShowsEntry trace scan worked.shown
entry = record {
  listing = 4;
  of_scan = (0, omega arith, refl);
  root = root_in listing;
  depth = depth_in listing;
  entries = worked.shown ∷ [];
  listed = refl;
  among = (0, omega arith, refl);
}

shows_to : ShowsFileTo run scan 0 worked.key 0 worked.shown
shows_to = record {
  asking = asking;
  asks = record { entry = entry; asked_in = tt; of_scan = (0, omega arith, refl); input_is = refl; path_is = refl };
  rule = worked.input;
  rule_is = refl;
  covered = worked.is_covered;
  gave = record { no_bytes = tt; number_is = refl; gave = refl };
}

only_entry : (other : Shown) → ShowsEntry trace scan other → worked.shown ≡ other
only_entry other shows = elim (there_cases 4 shows.listing [] shows.of_scan) [
  | inr nothing ↦ absurd (none_there shows.listing nothing)
  | inl first ↦
      let event : Some listing ≡ Some (Listed shows.root shows.depth shows.entries) = ap (slice_get trace.events) first ∙ shows.listed in
      let entries : worked.shown ∷ [] ≡ shows.entries = ap (λ (o : Option Event). entries_in (unwrap_or o ListingFailed)) event in
      let among = subst (λ (l : List Shown). Contains l other) (sym entries) shows.among in
      elim (there_cases worked.shown other [] among) [
        | inl same ↦ same
        | inr nothing ↦ absurd (none_there other nothing)
      ]
]

first_path : IsFirstPath run scan worked.key 0 a_log
first_path = record {
  shows = record { shown = worked.shown; path_is = refl; shows = (0, shows_to) };
  first = λ other shows less.
      let same : a_log ≡ other = ap (λ (s : Shown). s.entry.path) (only_entry shows.shown (shows.shows.1.asks.entry)) ∙ shows.path_is in
      worked.not_before_itself (ap (λ (p : List ℕ). compare p a_log) same ∙ less);
}

-- ---- the account is one of it

is_tail : IsTail trace 5 a_log 0 (looks ++ [])
is_tail = record { in_this_run = lit≤ tt; begun = worked.sight; opened = refl; tells = refl }

gives : StillHasKey worked.input worked.key a_log worked.file looks
gives = record { before = []; asked = []; behind = looks; looks_are = refl; cut = none_cut worked.input.file_identity; gives = record { asking = refl; gave = refl } }

second_is_told : AreTold plain [] life 2 (event_of second_line (payload (codes "2") (codes "b")) ∷ [])
second_is_told = others plain [] life 0 (event_of first_line (payload (codes "0") (codes "a")) ∷ []) (event_of second_line (payload (codes "2") (codes "b")) ∷ []) two_plain_lines

path_of : IsPathOf run slot_account epoch_account second_event
path_of = record {
  reading = reading;
  reading_is = refl;
  behind_its_start = lit≤ tt;
  read = lit≤ tt;
  before = [];
  scan = scan;
  behind = [];
  scans_are = refl;
  first = first_path;
  none_nearer = tt;
}

told_in : AreToldIn run (rules_of worked.input []) slot_account epoch_account
told_in = record {
  file = worked.file;
  file_is = refl;
  licensed = tt;
  told = second_is_told;
  each = (record { path = path_of; given = (0, omega arith, refl) }, tt);
}

listed_before : WasListedWith run worked.key 5 (λ size. 2 ≤ size)
listed_before = record {
  front = [];
  scan = scan;
  behind = [];
  scans_are = refl;
  made_before = (lit≤ tt, tt);
  none_nearer = tt;
  number = 0;
  shown = worked.shown;
  shows = (0, shows_to);
  first = first_path;
  size = lit≤ tt;
}

serves : EachOpeningServes run (following ∷ [])
serves zero path number begun since is = absurd (omega (arith, since))
serves (suc zero) path number begun since is = absurd (omega (arith, since))
serves (suc (suc zero)) path number begun since is = absurd (omega (arith, since))
serves (suc (suc (suc zero))) path number begun since is = absurd (omega (arith, since))
serves (suc (suc (suc (suc zero)))) path number begun since is = absurd cc
serves (suc (suc (suc (suc (suc zero))))) path number begun since is = inl (0, omega arith, refl)
serves (suc (suc (suc (suc (suc (suc zero)))))) path number begun since is = absurd cc
serves (suc (suc (suc (suc (suc (suc (suc later))))))) path number begun since is = absurd (let q : None ≡ Some (Opened path number begun) = is in cc)

asked_each : AllButTheLast (AreAsked run) (scan ∷ [])
asked_each = tt

is_followed : AreFollowed run (following ∷ [])
is_followed = record {
  scans = record { together = refl; by_globs = ((inl (worked.shown ∷ [], refl), tt), tt); full = tt; moments = ([], [], refl, tt) };
  asked = asked_each;
  asks_in_order = (
    record {
      each = (record { shown = worked.shown; entry = entry; path_is = refl; rule = worked.input; rule_is = refl; covered = worked.is_covered; opening = tt }, tt);
      in_order = (tt, tt);
      made = (5, refl, tt);
    },
    tt,
  );
  each = (
    record {
      rule = worked.input;
      rule_is = refl;
      key_of_input = record { rest = codes "path::" ++ a_log; spelled = refl };
      begun = record { scan = scan; scan_is = refl; starts = inl (record { number = 0; shown = worked.shown; shows = (0, shows_to); first = first_path; starts = refl }) };
      tails = (
        record {
          path = a_log;
          number = 0;
          file = worked.file;
          file_is = refl;
          told = is_tail;
          opened_with_key = gives;
          kept_key = (inl refl, tt);
          reads_on = ((λ e. tt, (λ e. refl, (λ e. tt, (λ e. refl, tt)))), tt);
          end = inl refl;
        },
        tt,
      );
      one_by_one = tt;
    },
    tt,
  );
  slots_rise = (omega arith, tt);
  in_turn = (tt, tt);
  newly_known = ((λ later. absurd (omega (arith, later))), tt);
  openings_apart = (none_there 5, tt);
  openings_serve = serves;
}

pub is_account : IsAccount run (slot_account ∷ [])
is_account = record {
  followed = is_followed;
  each = (
    record {
      rule = worked.input;
      rule_is = refl;
      moment = inl refl;
      of_one_file = ((a_log, is_tail), tt);
      epochs = record {
        numbered = record { first = epoch_account; later = []; epochs_are = refl; first_epoch = refl; first_start = refl; numbered = tt };
        rises = tt;
        go_on = ((inr (record { no_fall = refl; told_place = refl; listed = listed_before }), tt), tt);
        in_order = ((lit≤ tt, tt), tt);
        lives = (λ first is. refl, tt);
        together = refl;
      };
      told = (inr told_in, tt);
      went = tt;
    },
    tt,
  );
  places_apart = (none_there (at 0), tt);
}

abbrev later : AccountedRun
later = record { run = run; account = slot_account ∷ []; followed = is_account.followed }

-- ---- its row at the end

window : IsWindow payloads
window = record { some = omega arith; few = omega arith; each = (omega arith, tt) }

second_acknowledged : Acknowledges talk.pieces payloads
second_acknowledged = record { windows = payloads ∷ []; sent = record { each = (window, tt); rest = []; whole = sym (append-nil (window_bytes payloads ++ [])); cut = none_in_nothing }; are = refl }

second_stands : IsAcknowledgedAt wires (payload (codes "2") (codes "b")) (at 0)
second_stands = record {
  wire = record { outcomes = Finished talk 0 0 ∷ []; open_talk = None };
  wire_is = refl;
  talk = talk.pieces;
  talk_is = refl;
  acknowledged = payloads;
  acknowledges = second_acknowledged;
  stands = refl;
}

reached_is : IsRowOf later worked.row
reached_is = record {
  slot = 0;
  one = slot_account;
  slot_is = refl;
  key_is = refl;
  epoch = epoch_account;
  epoch_is = refl;
  closes = record { front = second_event ∷ []; rest = []; told_is = refl; each = (second_stands, tt); ends = refl };
}

-- ---- it takes the row up, and the first line of the one run and the second of the other adjoin

pub takes_up : TakesUp earlier later life left worked.row
unfolding reached_is left_is
takes_up = record {
  same_settings = refl;
  own_ids = record { no_colon = ((λ e. cc, tt), tt); ids_apart = (none_there worked.input.id, tt) };
  left_is = left_is;
  found = record { opened = left; found = refl; same_epoch = refl; same_offset = refl };
  reached_is = reached_is;
  slot_before = worked.is_account.each.0;
  slot_after = is_account.each.0;
  same_key = refl;
  same_epoch = refl;
  known_at_first = refl;
  life_before = inr (record { file = worked.file; file_is = refl; bytes_are = refl });
  life_after = inr (record { file = worked.file; file_is = refl; bytes_are = refl });
}

pub both_lines_adjoin : AdjoinInARow earlier later life left worked.row takes_up
both_lines_adjoin = adjoin_by_accounts earlier later life left worked.row takes_up

-- ---- what is refused

only_one : {A : Type 0} (one other : A) → Contains (one ∷ []) other → one ≡ other
only_one one other there = elim (there_cases one other [] there) [
  | inl same ↦ same
  | inr nothing ↦ absurd (none_there other nothing)
]

-- the later run has no row within the second line, so none takes the row up there
pub none_within_a_line : (bytes : List ℕ) → TakesUp earlier later bytes left (record worked.row { offset = 3 }) → ⊥
none_within_a_line bytes up = closes_nowhere up.reached_is
  where
    by_front : (front rest : List AccountedEvent) → second_event ∷ [] ≡ front ++ rest → last_end 2 (spans_of front) ≡ 3 → ⊥
    by_front [] rest are ends = omega (arith, ends)
    by_front (one ∷ []) rest are ends =
        let same : second_event ≡ one = cc in
        let end : 4 ≡ 3 = ap (λ (event : AccountedEvent). event.event.span.end) same ∙ ends in
        omega (arith, end)
    by_front (one ∷ (other ∷ front)) rest are ends = let none : [] ≡ other ∷ (front ++ rest) = cc in cc

    closes_nowhere : IsRowOf later (record worked.row { offset = 3 }) → ⊥
    closes_nowhere is =
        let slot = only_one slot_account is.one (slot_in later.account is.slot is.one is.slot_is).0 in
        let among = subst (λ (one : SlotAccount). Contains one.epochs is.epoch) (sym slot) (epoch_in 0 is.one.epochs is.epoch is.epoch_is) in
        let same = only_one epoch_account is.epoch among in
        by_front is.closes.front is.closes.rest (ap (λ (epoch : EpochAccount). epoch.told) same ∙ is.closes.told_is)
        (subst (λ (epoch : EpochAccount). last_end epoch.start (spans_of is.closes.front) ≡ 3) (sym same) is.closes.ends)

-- a run that reports the row's epoch from the first byte again, whatever its account
pub none_from_the_first_byte : (again : AccountedRun) (bytes : List ℕ) (reached : Row) → (up : TakesUp earlier again bytes left reached) → up.reached_is.epoch.start ≡ 0 → ⊥
none_from_the_first_byte again bytes reached up from_zero =
    let there = (adjoin_by_accounts earlier again bytes left reached up).from_there in
    omega (arith, there, from_zero)
