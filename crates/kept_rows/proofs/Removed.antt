-- Worked scans: a row whose file is no longer there goes rightly, and one whose file is listed does not; a file that was
-- renamed while it was open is reported by the path of a scan that showed it.
use Rattle.std.proofs.Common.{◌≡◌, ◌≢◌, inl, inr, ℕ, zero, suc, ◌<◌, true, false, List, [], ◌∷◌, Some, None, refl, sym, ap, ◌∙◌, subst, arith, append-nil, lit≤, codes}
use Rattle.std.specs.Char.{encode_utf8}
use Rattle.std.specs.List.{Contains, slice_get}
use Rattle.std.specs.Str.{chars, is_utf8}
use Rattle.std.proofs.lemmas.Str.{IsUtf8-from_is_utf8}
use Rattle.std.specs.declared.cmp.Ordering.TheVariants.{Less}
use Rattle.event_tree.specs.declared.input_rule.IdentityRule.TheVariants.{Native}
use Rattle.event_tree.specs.declared.input_rule.InputRule.{InputRule}
use Rattle.file_identity.specs.Key.{native_key}
use Rattle.glob_paths.specs.Cover.{Covers}
use Rattle.glob_paths.specs.Root.{depth_of, root_of}
use Rattle.glob_paths.specs.Sign.{signs}
use Rattle.glob_paths.specs.Token.{tokens}
use Rattle.outside.specs.declared.history.Shown.{Shown}
use Rattle.outside.specs.Files.{life_of}
use Rattle.outside.specs.Folders.{Event, Listed, Opened}
use Rattle.ship_core.proofs.Members.{none_there, there_cases}
use Rattle.told_events.proofs.Worked.{a_log, event_of, first_line, life, payload}
use Rattle.told_events.specs.Licence.{whole_lines_end}
use Rattle.told_events.specs.Told.{ToldEvent}
use Rattle.wire_base.specs.declared.row.Row.{Row}
use Rattle.wire_base.specs.KeyOrder.{compare}
use Rattle.kept_rows.specs.Account.{EpochAccount, Reading, SlotAccount}
use Rattle.kept_rows.specs.Kept.{ClosesSettled}
use Rattle.kept_rows.specs.Lost.{IsReadAndSettled, IsRightlyLost, IsRightlyLostInImage}
use Rattle.kept_rows.specs.Premises.{SlotPremises}
use Rattle.kept_rows.specs.Run.{Asking, Run, Scan}
use Rattle.kept_rows.specs.Scans.{IsFirstPath, IsWhole, ShowsEntry, ShowsFile, ShowsKey}
use Rattle.kept_rows.specs.Telling.{IsPathOf}
use Rattle.kept_rows.specs.Trace.{Trace, WireTold}
use Rattle.kept_rows.proofs.Worked.{input, key, looks, reading, row, run, scan, settings, shows_file, sight, slot_account, wires}

pub only_one : {A : Type 0} (one other : A) → Contains (one ∷ []) other → one ≡ other
only_one one other there = elim (there_cases one other [] there) [
  | inl same ↦ same
  | inr nothing ↦ absurd (none_there other nothing)
]

abbrev pub entries_in : Event → List Shown
entries_in (Listed root depth entries) = entries
entries_in _ = []

-- ---- the registry has a row, and the folder is empty

abbrev opening : List Row
opening = row ∷ []

abbrev empty_trace : Trace
empty_trace = record { files = []; events = Listed (root_of (codes "/w/*")) (depth_of (codes "/w/*")) [] ∷ []; began = 0; open_tails = []; moments = 0 ∷ []; wires = [] }

abbrev empty_scan : Scan
empty_scan = record { moment = 0; listings = 0 ∷ []; askings = [] }

abbrev empty_run : Run
empty_run = record { settings = settings; once = true; opening = opening; trace = empty_trace; scans = empty_scan ∷ [] }

abbrev absent : SlotAccount
absent = record {
  following = record { slot = 0; input = 0; key = key; epoch = 0; base = 4; known_from = 0; gone_after = Some 0; tails = [] };
  number = 0;
  changed = 0;
  epochs = record { epoch = 0; start = 4; life = 0; readings = []; licences = []; told = [] } ∷ [];
}

shows_nothing : (shown : Shown) → ShowsEntry empty_trace empty_scan shown → ⊥
shows_nothing shown shows =
    let first = only_one 0 shows.listing shows.of_scan in
    let q : Some (Listed (root_of (codes "/w/*")) (depth_of (codes "/w/*")) []) ≡ Some (Listed shows.root shows.depth shows.entries) = ap (slice_get empty_trace.events) first ∙ shows.listed in
    let event : Listed (root_of (codes "/w/*")) (depth_of (codes "/w/*")) [] ≡ Listed shows.root shows.depth shows.entries = cc in
    none_there shown (subst (λ (l : List Shown). Contains l shown) (sym (ap entries_in event)) shows.among)

empty_is_whole : IsWhole empty_run empty_scan
empty_is_whole = record {
  not_cut_off = refl;
  none_failed = (record { root = root_of (codes "/w/*"); depth = depth_of (codes "/w/*"); entries = []; listed = refl }, tt);
  each_asked = λ shown number rule shows is covered. absurd (shows_nothing shown shows);
  none_faulty = tt;
}

absent_row_went : IsRightlyLostInImage empty_run (absent ∷ []) [] key
absent_row_went = record {
  one = absent;
  of_account = (0, omega arith, refl);
  key_is = refl;
  rule = input;
  rule_is = refl;
  why = inl (record {
    cleans = refl;
    number = 0;
    scan = empty_scan;
    scan_is = refl;
    since = omega arith;
    whole = empty_is_whole;
    hidden = λ shows. shows_nothing shows.shows.shown shows.shows.shows.1.asks.entry;
    done = inl tt;
  });
}

pub absent_row_goes_rightly : IsRightlyLost empty_run (absent ∷ []) [] key
absent_row_goes_rightly = record { lost = absent_row_went; newest = ((λ same. omega arith), tt) }

-- ---- read to its end and settled

-- if the premises of the slot hold, a row at the end of the last complete line at the end look, or at the start place, would be kept
pub row_at_the_end_would_be_kept : (run : Run) (wires : List WireTold) (rule : InputRule) (scan : Scan) (one : SlotAccount) (read : IsReadAndSettled run wires rule scan one) →
    SlotPremises run one.following → ClosesSettled wires read.epoch (whole_lines_end rule.lines (life_of read.file read.epoch.life) read.epoch.start read.place)
row_at_the_end_would_be_kept run wires rule scan one read premises =
    record { front = read.epoch.told; rest = []; told_is = sym (append-nil read.epoch.told); each = read.settled; ends = read.all_told premises }

-- ---- the file of two plain lines is listed, so its row may not go

listed_row_does_not_go : IsRightlyLostInImage run (slot_account ∷ []) wires key → ⊥
listed_row_does_not_go lost =
    let one = only_one slot_account lost.one lost.of_account in
    let q : Some input ≡ Some lost.rule = ap (λ (s : SlotAccount). slice_get settings.inputs s.following.input) one ∙ lost.rule_is in
    let rule : input ≡ lost.rule = cc in
    elim lost.why [
      | inl removed ↦ by_scan removed.number removed.scan removed.scan_is
          (subst (λ (s : SlotAccount). ShowsKey run removed.scan s.following.key → ⊥) (sym one) removed.hidden)
      | inr inactive ↦ absurd (let some : 0 < input.clean_inactive = subst (λ (r : InputRule). 0 < r.clean_inactive) (sym rule) inactive.cleans in omega (arith, some))
    ]
  where
    by_scan : (number : ℕ) (found : Scan) → slice_get run.scans number ≡ Some found → (ShowsKey run found key → ⊥) → ⊥
    by_scan (suc number) found is hidden = absurd (let q : None ≡ Some found = is in cc)
    by_scan zero found is hidden =
        let q : Some scan ≡ Some found = is in
        let same : scan ≡ found = cc in
        hidden (subst (λ (s : Scan). ShowsKey run s key) same (record { number = 0; path = a_log; shows = shows_file }))

-- ---- renamed while it is open: the first scan shows `/w/a.log`, the second `/w/b.log`

abbrev pub b_log : List ℕ
b_log = codes "/w/b.log"

abbrev native_input : InputRule
native_input = record input { file_identity = Native }

abbrev numbers_key : List ℕ
numbers_key = native_key (codes "w") (7, 1)

abbrev shown_as : List ℕ → Shown
shown_as path = record { entry = record { path = path; size = 4; native = Some (7, 1); changed = record { 0 = 0 } }; file = 0; life = 0 }

abbrev listing_of : List ℕ → Event
listing_of path = Listed (root_of (codes "/w/*")) (depth_of (codes "/w/*")) (shown_as path ∷ [])

abbrev renamed_trace : Trace
renamed_trace = record {
  files = record { numbers = Some (7, 1); lives = life ∷ [] } ∷ [];
  events = listing_of a_log ∷ Opened a_log 0 sight ∷ listing_of b_log ∷ [];
  began = 0;
  open_tails = record { opening = 1; looks = looks } ∷ [];
  moments = 0 ∷ [];
  wires = [];
}

abbrev asking_of : List ℕ → Asking
asking_of path = record { input = 0; path = path; opening = None }

abbrev first_scan : Scan
first_scan = record { moment = 0; listings = 0 ∷ []; askings = asking_of a_log ∷ [] }

abbrev second_scan : Scan
second_scan = record { moment = 0; listings = 2 ∷ []; askings = asking_of b_log ∷ [] }

abbrev renamed_run : Run
renamed_run = record { settings = record settings { inputs = native_input ∷ [] }; once = false; opening = []; trace = renamed_trace; scans = first_scan ∷ second_scan ∷ [] }

pub b_covered : Covers (codes "/w/*") b_log
unfolding is_utf8 encode_utf8 tokens signs chars
b_covered = (IsUtf8-from_is_utf8 b_log refl, refl, (tt, ((refl, tt), ((5, omega arith, tt), tt))))

shows_b : ShowsFile renamed_run second_scan numbers_key 0 b_log
shows_b = record {
  shown = shown_as b_log;
  path_is = refl;
  shows = (
    0,
    record {
      asking = asking_of b_log;
      asks = record {
        entry = record { listing = 2; of_scan = (0, omega arith, refl); root = root_of (codes "/w/*"); depth = depth_of (codes "/w/*"); entries = shown_as b_log ∷ []; listed = refl; among = (0, omega arith, refl) };
        asked_in = tt;
        of_scan = (0, omega arith, refl);
        input_is = refl;
        path_is = refl;
      };
      rule = native_input;
      rule_is = refl;
      covered = (0, codes "/w/*", omega arith, refl, b_covered);
      gave = record { no_bytes = tt; number_is = refl; gave = refl };
    },
  );
}

-- the second scan shows no other path
only_b : (shown : Shown) → ShowsEntry renamed_trace second_scan shown → shown_as b_log ≡ shown
only_b shown shows =
    let there = only_one 2 shows.listing shows.of_scan in
    let q : Some (listing_of b_log) ≡ Some (Listed shows.root shows.depth shows.entries) = ap (slice_get renamed_trace.events) there ∙ shows.listed in
    let event : listing_of b_log ≡ Listed shows.root shows.depth shows.entries = cc in
    only_one (shown_as b_log) shown (subst (λ (l : List Shown). Contains l shown) (sym (ap entries_in event)) shows.among)

pub b_not_before_itself : compare b_log b_log ≢ Less
b_not_before_itself less = absurd cc

first_is_b : IsFirstPath renamed_run second_scan numbers_key 0 b_log
first_is_b = record {
  shows = shows_b;
  first = λ other shows less.
      let same : b_log ≡ other = ap (λ (s : Shown). s.entry.path) (only_b shows.shown shows.shows.1.asks.entry) ∙ shows.path_is in
      b_not_before_itself (ap (λ (p : List ℕ). compare p b_log) same ∙ less);
}

abbrev renamed : SlotAccount
renamed = record slot_account { following = record { slot = 0; input = 0; key = numbers_key; epoch = 0; base = 0; known_from = 0; gone_after = None; tails = record { opening = 1; place = 0; looks = looks; beyond = [] } ∷ [] } }

abbrev renamed_reading : Reading
renamed_reading = record reading { opening = 1 }

abbrev epoch_read : EpochAccount
epoch_read = record { epoch = 0; start = 0; life = 0; readings = renamed_reading ∷ []; licences = []; told = [] }

abbrev told_by : List ℕ → ToldEvent
told_by path = record { span = first_line.span; path = path; now = 0; fate = (event_of first_line (payload (codes "0") (codes "a"))).fate }

-- the event is reported by the new path
pub told_by_the_new_path : IsPathOf renamed_run renamed epoch_read (record { event = told_by b_log; reading = 0; place = None })
told_by_the_new_path = record {
  reading = renamed_reading;
  reading_is = refl;
  behind_its_start = lit≤ tt;
  read = lit≤ tt;
  before = first_scan ∷ [];
  scan = second_scan;
  behind = [];
  scans_are = refl;
  first = first_is_b;
  none_nearer = tt;
}
