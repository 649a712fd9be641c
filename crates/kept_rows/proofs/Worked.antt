-- A worked account: the file of two plain lines, read once, both events acknowledged. The row at its end is kept, the
-- folder is drained, only reported events were sent, and the premises hold. Before the run the folder took a tail of another
-- folder back, which had the number that the run's own opening gets only later.
use Rattle.std.proofs.Common.{◌≡◌, ◌≢◌, inl, inr, ℕ, zero, suc, ◌<◌, ◌≤◌, true, false, List, [], ◌∷◌, ◌++◌, Some, None, refl, sym, ap, ◌∙◌, subst, arith, append-nil, lit≤, codes}
use Rattle.std.specs.Char.{encode_utf8}
use Rattle.std.specs.List.{AllByRecursion, Contains, slice_get, slice_index_or}
use Rattle.std.specs.Str.{chars, is_utf8}
use Rattle.std.proofs.lemmas.Str.{IsUtf8-from_is_utf8}
use Rattle.std.specs.declared.cmp.Ordering.TheVariants.{Less}
use Rattle.event_tree.specs.declared.group_rule.GroupRule.TheVariants.{Single}
use Rattle.event_tree.specs.declared.input_rule.IdentityRule.TheVariants.{Path}
use Rattle.event_tree.specs.declared.input_rule.InputRule.{InputRule}
use Rattle.event_tree.specs.declared.settings.Settings.{Settings}
use Rattle.file_identity.proofs.CutAskings.{none_cut}
use Rattle.file_identity.specs.Key.{path_key}
use Rattle.file_looks.specs.EndLook.{HasEndLook}
use Rattle.file_looks.specs.Segment.{Segment}
use Rattle.glob_paths.specs.Cover.{Covers}
use Rattle.glob_paths.specs.Root.{depth_of, root_of}
use Rattle.glob_paths.specs.Sign.{signs}
use Rattle.glob_paths.specs.Token.{tokens}
use Rattle.lumber_frame.specs.declared.frame.Frame.TheVariants.{Ack}
use Rattle.lumber_frame.specs.Acknowledged.{Acknowledges}
use Rattle.lumber_frame.specs.Frame.{frame_bytes}
use Rattle.lumber_frame.specs.Window.{IsWindow, window_bytes}
use Rattle.lumber_frame.proofs.Settling.{none_in_nothing}
use Rattle.outside.specs.declared.history.Look.{Look}
use Rattle.outside.specs.declared.history.Question.{Question}
use Rattle.outside.specs.declared.history.Question.TheVariants.{Length, ReadAt}
use Rattle.outside.specs.declared.history.Shown.{Shown}
use Rattle.outside.specs.declared.history.Sight.{Sight}
use Rattle.outside.specs.Files.{File}
use Rattle.outside.specs.Folders.{Closed, Event, Listed, Opened}
use Rattle.outside.specs.Talks.{Talk}
use Rattle.outside.specs.Wires.{Finished}
use Rattle.ship_core.proofs.Members.{none_there, there_cases}
use Rattle.told_events.proofs.Worked.{a_log, event_of, first_line, life, lines, payload, second_line, two_plain_lines}
use Rattle.told_events.specs.Rules.{rules_of}
use Rattle.wire_base.specs.declared.row.Row.{Row}
use Rattle.wire_base.specs.declared.talk.Piece.TheVariants.{In, Out}
use Rattle.wire_base.specs.KeyOrder.{compare}
use Rattle.kept_rows.proofs.Backing.{slot_in}
use Rattle.kept_rows.specs.Account.{AccountedEvent, EpochAccount, FollowedTail, Following, Place, Reading, SlotAccount, slot_of}
use Rattle.kept_rows.specs.Acknowledged.{IsAcknowledgedAt}
use Rattle.kept_rows.specs.Askings.{AsksInOrder}
use Rattle.kept_rows.specs.Drained.{IsDoneWith, IsDrained, IsDrainedBySlots, NothingSupposed}
use Rattle.kept_rows.specs.Epochs.{GoesOnFrom, WasListedWith}
use Rattle.file_identity.specs.AskedAgain.{StillHasKey}
use Rattle.kept_rows.specs.Followed.{AreFollowed, EachOpeningServes}
use Rattle.kept_rows.specs.Kept.{IsKept, IsNewestRow, IsNewestSlot, IsToldRow}
use Rattle.kept_rows.specs.Premises.{Premises, SeesTruncationsOf, TailKeepsIdentity, WasKnown}
use Rattle.kept_rows.specs.Run.{Asking, Run, Scan}
use Rattle.kept_rows.specs.Scans.{AllButTheLast, AreAsked, AsksFor, Gave, IsAsked, IsCovered, IsFirstPath, IsNoFingerprint, IsWhole, ShowsEntry, ShowsFile, ShowsFileTo}
use Rattle.kept_rows.specs.Sent.{SendOnlyTold, Sending, ToldAt}
use Rattle.kept_rows.specs.Telling.{AreSlotAccounts, AreToldIn, IsAccount, IsPathOf, IsToldOf}
use Rattle.kept_rows.specs.Trace.{IsTail, Trace, WireTold}
use Rattle.kept_rows.proofs.Supposing.{still_drained}

-- ---- the run

abbrev pub input : InputRule
input = record {
  id = codes "w";
  paths = codes "/w/*" ∷ [];
  file_identity = Path;
  check_interval = 10000;
  clean_removed = true;
  close_inactive = 300000;
  ignore_older = 0;
  clean_inactive = 0;
  lines = lines;
  include_lines = [];
  exclude_lines = [];
  multiline = Single 10485760;
}

abbrev pub settings : Settings
settings = record {
  inputs = input ∷ [];
  output = record { hosts = record { name = codes "localhost"; port = 5044 } ∷ []; workers = 1; bulk_max_size = 2048; pipelining = 2; timeout = 30000; attempts = 3 };
  processors = [];
  events = 3200;
  lanes = 2;
}

abbrev pub file : File
file = record { numbers = None; lives = life ∷ [] }

abbrev pub sight : Sight
sight = record { life = 0; length = 4 }

abbrev look : Question → Look
look question = record { question = question; sight = sight }

abbrev pub looks : List Look
looks = look Length ∷ look (ReadAt 0 4) ∷ look Length ∷ look (ReadAt 4 0) ∷ []

-- what the other folder's tail reported
abbrev pub older_looks : List Look
older_looks = look Length ∷ []

abbrev pub shown : Shown
shown = record { entry = record { path = a_log; size = 4; native = None; changed = record { 0 = 0 } }; file = 0; life = 0 }

abbrev pub payloads : List (List ℕ)
payloads = payload (codes "0") (codes "a") ∷ payload (codes "2") (codes "b") ∷ []

abbrev pub talk : Talk
talk = record { pieces = Out (window_bytes payloads) ∷ In (frame_bytes (Ack 2)) ∷ []; idled = false }

abbrev pub wires : List WireTold
wires = record { outcomes = Finished talk 0 0 ∷ []; open_talk = None } ∷ []

abbrev pub trace : Trace
trace = record {
  files = file ∷ [];
  events = Closed 2 older_looks 1 ∷ Listed (root_of (codes "/w/*")) (depth_of (codes "/w/*")) (shown ∷ []) ∷ Opened a_log 0 sight ∷ Closed 2 looks 0 ∷ [];
  began = 1;
  open_tails = [];
  moments = 0 ∷ [];
  wires = wires;
}

abbrev pub scan : Scan
scan = record { moment = 0; listings = 1 ∷ []; askings = record { input = 0; path = a_log; opening = None } ∷ [] }

abbrev pub run : Run
run = record { settings = settings; once = true; opening = []; trace = trace; scans = scan ∷ [] }

-- ---- the account

abbrev pub key : List ℕ
key = path_key (codes "w") a_log

abbrev at : ℕ → Place
at number = record { wire = 0; connection = 0; number = number }

abbrev pub accounted : List AccountedEvent
accounted =
    record { event = event_of first_line (payload (codes "0") (codes "a")); reading = 0; place = Some (at 0) }
    ∷ record { event = event_of second_line (payload (codes "2") (codes "b")); reading = 0; place = Some (at 1) }
    ∷ []

abbrev pub segment : Segment
segment = record { place = 0; fall = None; looks = looks }

abbrev pub reading : Reading
reading = record { opening = 2; segment = segment }

abbrev pub epoch_account : EpochAccount
epoch_account = record { epoch = 0; start = 0; life = 0; readings = reading ∷ []; licences = []; told = accounted }

abbrev pub tail : FollowedTail
tail = record { opening = 2; place = 0; looks = looks; beyond = [] }

abbrev pub following : Following
following = record { slot = 0; input = 0; key = key; epoch = 0; base = 0; known_from = 0; gone_after = None; tails = tail ∷ [] }

abbrev pub slot_account : SlotAccount
slot_account = record { following = following; number = 0; changed = 0; epochs = epoch_account ∷ [] }

abbrev pub row : Row
row = record { key = key; path = a_log; epoch = record { 0 = 0 }; offset = 4; changed = record { 0 = 0 } }

-- ---- what the scan shows

pub covered : Covers (codes "/w/*") a_log
unfolding is_utf8 encode_utf8 tokens signs chars
covered = (IsUtf8-from_is_utf8 a_log refl, refl, (tt, ((refl, tt), ((5, omega arith, tt), tt))))

pub is_covered : IsCovered input.paths a_log
is_covered = (0, codes "/w/*", omega arith, refl, covered)

-- a path below a folder that the glob covers
abbrev pub deeper : List ℕ
deeper = codes "/w/x/a.log"

pub deeper_is_not_covered : IsCovered input.paths deeper → ⊥
deeper_is_not_covered in_glob = by_glob in_glob.0 in_glob.1 in_glob.2 in_glob.3 in_glob.4
  where
    by_glob : (number : ℕ) (glob : List ℕ) → number < 1 → slice_index_or input.paths number glob ≡ glob → Covers glob deeper → ⊥
    by_glob zero glob within is covers = (subst (λ (g : List ℕ). Covers g deeper) (sym is) covers).2.1.1.1
    by_glob (suc number) glob within is covers = omega (arith, within)

pub entry : ShowsEntry trace scan shown
entry = record { listing = 1; of_scan = (0, omega arith, refl); root = root_of (codes "/w/*"); depth = depth_of (codes "/w/*"); entries = shown ∷ []; listed = refl; among = (0, omega arith, refl) }

pub asks : AsksFor run scan shown 0 (record { input = 0; path = a_log; opening = None })
asks = record { entry = entry; asked_in = tt; of_scan = (0, omega arith, refl); input_is = refl; path_is = refl }

pub shows_to : ShowsFileTo run scan 0 key 0 shown
shows_to = record {
  asking = record { input = 0; path = a_log; opening = None };
  asks = asks;
  rule = input;
  rule_is = refl;
  covered = is_covered;
  gave = record { no_bytes = tt; number_is = refl; gave = refl };
}

pub shows_file : ShowsFile run scan key 0 a_log
shows_file = record { shown = shown; path_is = refl; shows = (0, shows_to) }

-- it shows nothing else
abbrev entries_in : Event → List Shown
entries_in (Listed root depth entries) = entries
entries_in _ = []

abbrev number_in : Event → ℕ
number_in (Opened path number begun) = number
number_in _ = 0

abbrev path_in : Event → List ℕ
path_in (Opened path number begun) = path
path_in _ = []

pub only_entry : (other : Shown) → ShowsEntry trace scan other → shown ≡ other
only_entry other shows = elim (there_cases 1 shows.listing [] shows.of_scan) [
  | inr nothing ↦ absurd (none_there shows.listing nothing)
  | inl first ↦
      let q : Some (Listed (root_of (codes "/w/*")) (depth_of (codes "/w/*")) (shown ∷ [])) ≡ Some (Listed shows.root shows.depth shows.entries) =
      ap (slice_get trace.events) first ∙ shows.listed in
      let event : Listed (root_of (codes "/w/*")) (depth_of (codes "/w/*")) (shown ∷ []) ≡ Listed shows.root shows.depth shows.entries = cc in
      let among = subst (λ (l : List Shown). Contains l other) (sym (ap entries_in event)) shows.among in
      elim (there_cases shown other [] among) [
        | inl same ↦ same
        | inr nothing ↦ absurd (none_there other nothing)
      ]
]

pub not_before_itself : compare a_log a_log ≢ Less
not_before_itself less = absurd cc

pub first_path : IsFirstPath run scan key 0 a_log
first_path = record {
  shows = shows_file;
  first = λ other shows less.
      let same : a_log ≡ other = ap (λ (s : Shown). s.entry.path) (only_entry shows.shown (shows.shows.1.asks.entry)) ∙ shows.path_is in
      not_before_itself (ap (λ (p : List ℕ). compare p a_log) same ∙ less);
}

pub whole : IsWhole run scan
whole = record {
  not_cut_off = refl;
  none_failed = (record { root = root_of (codes "/w/*"); depth = depth_of (codes "/w/*"); entries = shown ∷ []; listed = refl }, tt);
  each_asked = by_input;
  none_faulty = (record { asked_in = tt; rule = input; rule_is = refl; well = tt }, tt);
}
  where
    by_input : (other : Shown) (number : ℕ) (rule : InputRule) → ShowsEntry trace scan other → slice_get settings.inputs number ≡ Some rule →
        IsCovered rule.paths other.entry.path → IsAsked run scan other number
    by_input other zero rule shows is in_glob =
        record { asking = record { input = 0; path = a_log; opening = None }; asks = subst (λ (s : Shown). AsksFor run scan s 0 (record { input = 0; path = a_log; opening = None })) (only_entry other shows) asks }
    by_input other (suc number) rule shows is in_glob = absurd (let q : None ≡ Some rule = is in cc)

-- a scan that names an opening for the key of a path is not whole, whatever that opening reported
opened_scan_is_refused : IsWhole run (record scan { askings = record { input = 0; path = a_log; opening = Some 1 } ∷ [] }) → ⊥
opened_scan_is_refused is =
    let asked = is.none_faulty.0 in
    let q : Some input ≡ Some asked.rule = asked.rule_is in
    let same : input ≡ asked.rule = cc in
    let reads = subst (λ (r : InputRule). ¬ (IsNoFingerprint r.file_identity)) (sym same) asked.well.0 in
    reads tt

-- ---- the account is one of the run

is_tail : IsTail trace 2 a_log 0 (looks ++ [])
is_tail = record { in_this_run = omega arith; begun = sight; opened = refl; tells = refl }

gives : StillHasKey input key a_log file looks
gives = record { before = []; asked = []; behind = looks; looks_are = refl; cut = none_cut input.file_identity; gives = record { asking = refl; gave = refl } }

path_of : (told : AccountedEvent) → told.reading ≡ 0 → told.event.path ≡ a_log → 0 < told.event.span.end → told.event.span.end ≤ 4 → IsPathOf run slot_account epoch_account told
path_of told reading_is path_is some within = record {
  reading = reading;
  reading_is = ap (slice_get epoch_account.readings) reading_is;
  behind_its_start = some;
  read = within;
  before = [];
  scan = scan;
  behind = [];
  scans_are = refl;
  first = subst (λ (p : List ℕ). IsFirstPath run scan key 0 p) (sym path_is) first_path;
  none_nearer = tt;
}

told_of : (told : AccountedEvent) → told.reading ≡ 0 → told.event.path ≡ a_log → told.event.now ≡ 0 → 0 < told.event.span.end → told.event.span.end ≤ 4 → IsToldOf run slot_account epoch_account told
told_of told reading_is path_is now_is some within = record { path = path_of told reading_is path_is some within; given = (0, omega arith, sym now_is) }

abbrev first_told : AccountedEvent
first_told = record { event = event_of first_line (payload (codes "0") (codes "a")); reading = 0; place = Some (at 0) }

abbrev second_told : AccountedEvent
second_told = record { event = event_of second_line (payload (codes "2") (codes "b")); reading = 0; place = Some (at 1) }

pub told_in : AreToldIn run (rules_of input []) slot_account epoch_account
told_in = record {
  file = file;
  file_is = refl;
  licensed = tt;
  told = two_plain_lines;
  each = (
    told_of first_told refl refl refl (lit≤ tt) (lit≤ tt),
    (told_of second_told refl refl refl (lit≤ tt) (lit≤ tt), tt),
  );
}

pub listed_before : WasListedWith run key 2 (λ size. 0 ≤ size)
listed_before = record {
  front = [];
  scan = scan;
  behind = [];
  scans_are = refl;
  made_before = (lit≤ tt, tt);
  none_nearer = tt;
  number = 0;
  shown = shown;
  shows = (0, shows_to);
  first = first_path;
  size = omega arith;
}

goes_on_from_its_start : GoesOnFrom run key epoch_account 0 reading
goes_on_from_its_start = record { no_fall = refl; told_place = refl; listed = listed_before }

serves : EachOpeningServes run (following ∷ [])
serves zero path number begun since is = absurd cc
serves (suc zero) path number begun since is = absurd cc
serves (suc (suc zero)) path number begun since is = inl (0, omega arith, refl)
serves (suc (suc (suc zero))) path number begun since is = absurd cc
serves (suc (suc (suc (suc later)))) path number begun since is = absurd (let q : None ≡ Some (Opened path number begun) = is in cc)

asked_each : AllButTheLast (AreAsked run) (scan ∷ [])
asked_each = tt

pub asks_in_order : AsksInOrder run scan
asks_in_order = record {
  each = (record { shown = shown; entry = entry; path_is = refl; rule = input; rule_is = refl; covered = is_covered; opening = tt }, tt);
  in_order = (tt, tt);
  made = (2, refl, tt);
}

is_followed : AreFollowed run (following ∷ [])
is_followed = record {
  scans = record { together = refl; by_globs = ((inl (shown ∷ [], refl), tt), tt); full = tt; moments = ([], [], refl, tt) };
  asked = asked_each;
  asks_in_order = (asks_in_order, tt);
  each = (
    record {
      rule = input;
      rule_is = refl;
      key_of_input = record { rest = codes "path::" ++ a_log; spelled = refl };
      begun = record { scan = scan; scan_is = refl; starts = inl (record { number = 0; shown = shown; shows = (0, shows_to); first = first_path; starts = refl }) };
      tails = (
        record {
          path = a_log;
          number = 0;
          file = file;
          file_is = refl;
          told = is_tail;
          opened_with_key = gives;
          kept_key = (inl refl, tt);
          reads_on = ((λ e. tt, (λ e. refl, (λ e. tt, (λ e. refl, tt)))), tt);
          end = inl refl;
        },
        tt,
      );
      one_by_one = tt;
    },
    tt,
  );
  slots_rise = (omega arith, tt);
  in_turn = (tt, tt);
  newly_known = ((λ later. absurd (omega (arith, later))), tt);
  openings_apart = (none_there 2, tt);
  openings_serve = serves;
}

pub is_account : IsAccount run (slot_account ∷ [])
is_account = record {
  followed = is_followed;
  each = (
    record {
      rule = input;
      rule_is = refl;
      moment = inl refl;
      of_one_file = ((a_log, is_tail), tt);
      epochs = record {
        numbered = record { first = epoch_account; later = []; epochs_are = refl; first_epoch = refl; first_start = refl; numbered = tt };
        rises = tt;
        go_on = ((inr goes_on_from_its_start, tt), tt);
        in_order = ((lit≤ tt, (lit≤ tt, tt)), tt);
        lives = (λ first is. let q : Some sight ≡ Some first = is in let same : sight ≡ first = cc in refl, tt);
        together = refl;
      };
      told = (inr told_in, tt);
      went = tt;
    },
    tt,
  );
  places_apart = (one_is_not_two, (none_there (at 1), tt));
}
  where
    one_is_not_two : Contains (at 1 ∷ []) (at 0) → ⊥
    one_is_not_two there = elim (there_cases (at 1) (at 0) [] there) [
      | inl same ↦ let n : 1 ≡ 0 = ap (λ (p : Place). p.number) same in absurd (omega (arith, n))
      | inr nothing ↦ none_there (at 0) nothing
    ]

-- the same holds slot by slot
pub are_slot_accounts : AreSlotAccounts run (slot_account ∷ [])
are_slot_accounts = record { epochs = (is_account.each.0.epochs, tt); each = ((λ supposed. is_account.each.0), tt); places_apart = is_account.places_apart }

-- ---- the row at the end is kept

pub window : IsWindow payloads
window = record { some = omega arith; few = omega arith; each = (omega arith, (omega arith, tt)) }

acknowledged : Acknowledges talk.pieces payloads
acknowledged = record { windows = payloads ∷ []; sent = record { each = (window, tt); rest = []; whole = sym (append-nil (window_bytes payloads ++ [])); cut = none_in_nothing }; are = refl }

pub stands_at : (number : ℕ) (text : List ℕ) → slice_get payloads number ≡ Some text → IsAcknowledgedAt wires text (at number)
stands_at number text is = record { wire = record { outcomes = Finished talk 0 0 ∷ []; open_talk = None }; wire_is = refl; talk = talk.pieces; talk_is = refl; acknowledged = payloads; acknowledges = acknowledged; stands = is }

abbrev pub both_lines_are_told : IsToldRow (slot_account ∷ []) wires row
both_lines_are_told = record {
  slot = 0;
  one = slot_account;
  slot_is = refl;
  key_is = refl;
  epoch = epoch_account;
  epoch_is = refl;
  closes = record { front = accounted; rest = []; told_is = refl; each = (stands_at 0 (payload (codes "0") (codes "a")) refl, (stands_at 1 (payload (codes "2") (codes "b")) refl, tt)); ends = refl };
}

only_slot : IsNewestSlot (slot_account ∷ []) key 0
only_slot other one is same =
    let of = slot_in (slot_account ∷ []) other one is in
    elim (there_cases slot_account one [] of.0) [
      | inl here ↦ let slot : 0 ≡ other = ap slot_of here ∙ of.1 in omega (arith, slot)
      | inr nothing ↦ absurd (none_there one nothing)
    ]

pub both_lines_are_kept : IsKept (slot_account ∷ []) [] wires row
both_lines_are_kept = inl (record { told = both_lines_are_told; newest = only_slot })

-- if the key has a newer slot, no row of this one is kept
abbrev newer : SlotAccount
newer = record slot_account { following = record following { slot = 1; known_from = 1; tails = [] } }

older_slot_is_refused : (is : IsNewestRow (slot_account ∷ newer ∷ []) wires row) → is.told.slot ≡ 0 → ⊥
older_slot_is_refused is older = let within = is.newest 1 newer refl refl in omega (arith, older, within)

-- ---- the folder is drained

pub end_look : HasEndLook segment 4
end_look = record {
  front = look Length ∷ look (ReadAt 0 4) ∷ [];
  asked = look Length;
  read = look (ReadAt 4 0);
  behind = [];
  looks_are = refl;
  asks = refl;
  not_below = lit≤ tt;
  gives_nothing = refl;
  stands_there = refl;
}

done_with : IsDoneWith NothingSupposed run (slot_account ∷ []) (row ∷ []) input scan shown 0
done_with = inr (inr (record {
  key = key;
  number = 0;
  shows = shows_to;
  row = row;
  of_rows = (0, omega arith, refl);
  key_is = refl;
  listed = shown;
  lists = entry;
  same_path = refl;
  moment_is = refl;
  read = record {
    slot = 0;
    one = slot_account;
    slot_is = refl;
    key_is = refl;
    epoch = epoch_account;
    epoch_is = refl;
    reading = reading;
    of_epoch = (0, omega arith, refl);
    place = 4;
    found = end_look;
    file = file;
    file_is = refl;
    offset_is = λ none. refl;
  };
}))

pub is_drained : IsDrained run (slot_account ∷ []) (row ∷ [])
is_drained = record { scan = scan; first = refl; whole = whole; each = by_input }
  where
    by_input : (other : Shown) (number : ℕ) (rule : InputRule) → ShowsEntry trace scan other → slice_get settings.inputs number ≡ Some rule →
        IsCovered rule.paths other.entry.path → IsDoneWith NothingSupposed run (slot_account ∷ []) (row ∷ []) rule scan other number
    by_input other zero rule shows is in_glob =
        let q : Some input ≡ Some rule = is in
        let same : input ≡ rule = cc in
        subst (λ (s : Shown). IsDoneWith NothingSupposed run (slot_account ∷ []) (row ∷ []) rule scan s 0) (only_entry other shows)
        (subst (λ (r : InputRule). IsDoneWith NothingSupposed run (slot_account ∷ []) (row ∷ []) r scan shown 0) same done_with)
    by_input other (suc number) rule shows is in_glob = absurd (let q : None ≡ Some rule = is in cc)

-- the same holds slot by slot
pub drained_by_slots : IsDrainedBySlots run (slot_account ∷ []) (row ∷ [])
drained_by_slots = still_drained NothingSupposed SeesTruncationsOf run (slot_account ∷ []) (row ∷ []) (λ one there sees. tt) is_drained

-- ---- only reported events were sent

abbrev at_zero : ToldAt
at_zero = record { slot = 0; epoch = 0; start = 0 }

abbrev at_two : ToldAt
at_two = record { slot = 0; epoch = 0; start = 2 }

abbrev sending : ℕ → List ℕ → Sending
sending start text = record { of = record { slot = 0; epoch = 0; start = start }; payload = text }

pub sends_only_told : SendOnlyTold (slot_account ∷ []) wires
sends_only_told = (
  (
    record {
      windows = (sending 0 (payload (codes "0") (codes "a")) ∷ sending 2 (payload (codes "2") (codes "b")) ∷ []) ∷ [];
      are = (window, tt);
      shipped = (
        (
          record { epoch = epoch_account; epoch_is = refl; one = first_told; told = (0, omega arith, refl); starts = refl; shipped = refl },
          (record { epoch = epoch_account; epoch_is = refl; one = second_told; told = (1, omega arith, refl); starts = refl; shipped = refl }, tt),
        ),
        tt,
      );
      different = (zero_is_not_two, (none_there at_two, tt));
      left = [];
      front = append-nil (window_bytes payloads ++ []);
    },
    tt,
  ),
  tt,
)
  where
    zero_is_not_two : Contains (at_two ∷ []) at_zero → ⊥
    zero_is_not_two there = elim (there_cases at_two at_zero [] there) [
      | inl same ↦ let n : 2 ≡ 0 = ap (λ (t : ToldAt). t.start) same in absurd (omega (arith, n))
      | inr nothing ↦ none_there at_zero nothing
    ]

-- ---- the premises hold

pub premises : Premises run (following ∷ [])
premises = record {
  identities = (record { number = 0; listed = listed; tails = by_rule }, tt);
  truncations = (record { last_read = 0; seen = ((inl refl, (inl refl, (inl refl, (inl refl, tt)))), tt) }, tt);
}
  where
    by_entry : (other : ℕ) (path : List ℕ) → ShowsFile run scan key other path → other ≡ 0
    by_entry other path shows =
        let to = shows.shows.1 in
        let rule = to.rule in
        elim (there_cases (record { input = 0; path = a_log; opening = None }) to.asking [] to.asks.of_scan) [
          | inr nothing ↦ absurd (none_there to.asking nothing)
          | inl same ↦
              let gave = subst (λ (a : Asking). Gave trace rule shows.shown a.opening (Some key) other) (sym same) to.gave in
              gave.number_is ∙ ap (λ (s : Shown). s.file) (sym (only_entry shows.shown to.asks.entry))
        ]

    listed : (one : Scan) (place other : ℕ) (path : List ℕ) → slice_get run.scans place ≡ Some one → WasKnown following place → ShowsFile run one key other path → other ≡ 0
    listed one zero other path is known shows =
        let q : Some scan ≡ Some one = is in
        let same : scan ≡ one = cc in
        by_entry other path (subst (λ (s : Scan). ShowsFile run s key other path) (sym same) shows)
    listed one (suc place) other path is known shows = absurd (let q : None ≡ Some one = is in cc)

    opened_as : (path : List ℕ) (other : ℕ) → IsTail trace 2 path other (looks ++ []) → (other ≡ 0) × (path ≡ a_log)
    opened_as path other told =
        let q : Some (Opened a_log 0 sight) ≡ Some (Opened path other told.begun) = told.opened in
        let event : Opened a_log 0 sight ≡ Opened path other told.begun = cc in
        (sym (ap number_in event), sym (ap path_in event))

    by_rule : (rule : InputRule) → slice_get settings.inputs 0 ≡ Some rule → AllByRecursion (TailKeepsIdentity run rule key 0) (tail ∷ [])
    by_rule rule is =
        let q : Some input ≡ Some rule = is in
        let same : input ≡ rule = cc in (
          subst (λ (r : InputRule). TailKeepsIdentity run r key 0 tail) same (record {
            one_file = λ path other opened told is_file has_key. (opened_as path other told).0;
            read = λ path opened told is_file.
                let by_path : Some (path_key (codes "w") path) ≡ Some key = ap (λ (p : List ℕ). Some (path_key (codes "w") p)) (opened_as path 0 told).1 in
                (((λ some. by_path), ((λ some. by_path), ((λ some. by_path), ((λ some. by_path), tt)))), tt);
          }),
          tt,
        )
