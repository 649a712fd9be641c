-- A worked run over two files, of which the second breaks both premises: by its path another file was opened than the one that was
-- listed, and that file was cut and grew on unseen. The account of the first file follows as it is, and the folder is drained as far as
-- each slot's truncations are seen; the account of the second one is refused, whatever holds of the first.
use Rattle.std.proofs.Common.{◌≡◌, ◌≢◌, inl, inr, ℕ, zero, suc, ◌≤◌, List, [], ◌∷◌, ◌++◌, length, Some, None, refl, sym, ap, ◌∙◌, subst, arith, lit≤, codes, length-append}
use Rattle.std.specs.List.{AllByRecursion, Contains, slice_get}
use Rattle.event_tree.specs.declared.input_rule.InputRule.{InputRule}
use Rattle.file_identity.proofs.CutAskings.{none_cut}
use Rattle.file_identity.specs.AskedAgain.{StillHasKey}
use Rattle.file_identity.specs.Key.{named_key, path_key}
use Rattle.file_looks.specs.EndLook.{HasEndLook}
use Rattle.glob_paths.specs.Root.{depth_of, root_of}
use Rattle.line_cutter.specs.declared.line.Line.{Line}
use Rattle.outside.specs.declared.history.Question.TheVariants.{Length, ReadAt}
use Rattle.outside.specs.declared.history.Shown.{Shown}
use Rattle.outside.specs.Folders.{Opened}
use Rattle.ship_core.proofs.Members.{none_there, there_cases}
use Rattle.told_events.proofs.Worked.{a_log, event_of, first_line, payload, second_line, two_plain_lines}
use Rattle.told_events.specs.Rules.{rules_of}
use Rattle.wire_base.specs.declared.row.Row.{Row}
use Rattle.kept_rows.specs.Account.{AccountedEvent, Place}
use Rattle.kept_rows.specs.Drained.{IsDoneWith, IsDrainedBySlots}
use Rattle.kept_rows.specs.Epochs.{AreEpochs, WasListedWith}
use Rattle.kept_rows.specs.Premises.{KeepsIdentity, Premises, SeesTruncationsOf, SlotPremises, TailKeepsIdentity, WasKnown}
use Rattle.kept_rows.specs.Run.{Scan}
use Rattle.kept_rows.specs.Scans.{AsksFor, IsAsked, IsCovered, IsFirstPath, IsWhole, ShowsEntry, ShowsFile}
use Rattle.kept_rows.specs.Telling.{AreSlotAccounts, AreToldIn, IsPathOf, IsSlotAccount, IsToldOf}
use Rattle.kept_rows.specs.Trace.{IsTail}
use Rattle.kept_rows.proofs.Supposing.{slot_told}
use Rattle.kept_rows.proofs.Worked.{end_look, epoch_account, file, following, input, key, looks, reading, row, settings, shown, sight, slot_account, tail}
use Rattle.kept_rows.proofs.Removed.{b_log}
use Rattle.kept_rows.proofs.WorkedPair.{b_key, b_shown, b_file, grown, look, b_looks, pair_trace, ask, both_listed, two_files, at, b_segment, b_reading, b_epoch, b_following, b_account, account, b_row, number_in, path_in, a_entry, b_entry, a_asks, b_asks, a_shows, b_shows, only_entries, file_shown, key_shown, keys_differ, a_first, b_first}

-- ---- the premises hold of the first slot, and neither of the second

a_tail : IsTail pair_trace 2 a_log 0 (looks ++ [])
a_tail = record { in_this_run = omega arith; begun = sight; opened = refl; tells = refl }

b_is_tail : IsTail pair_trace 3 b_log 2 (b_looks ++ [])
b_is_tail = record { in_this_run = lit≤ tt; begun = sight; opened = refl; tells = refl }

pub first_keeps_identity : KeepsIdentity two_files following
first_keeps_identity = record { number = 0; listed = listed; tails = by_rule }
  where
    by_shown : (other : ℕ) (path : List ℕ) → ShowsFile two_files both_listed key other path → other ≡ 0
    by_shown other path shows = elim (only_entries shows.shown (shows.shows.1.asks.entry)) [
      | inl same ↦ file_shown shows.shows.0 other key shows.shown shows.shows.1 ∙ ap (λ (s : Shown). s.file) (sym same)
      | inr same ↦
          absurd (keys_differ (key_shown other shows.shows.0 key shows.shown shows.shows.1
          ∙ ap (λ (s : Shown). named_key (codes "w") input.file_identity s.entry.path s.entry.native) (sym same)))
    ]

    listed : (one : Scan) (place other : ℕ) (path : List ℕ) → slice_get two_files.scans place ≡ Some one → WasKnown following place → ShowsFile two_files one key other path → other ≡ 0
    listed one zero other path is known shows =
        let q : Some both_listed ≡ Some one = is in
        let same : both_listed ≡ one = cc in
        by_shown other path (subst (λ (s : Scan). ShowsFile two_files s key other path) (sym same) shows)
    listed one (suc place) other path is known shows = absurd (let q : None ≡ Some one = is in cc)

    opened_as : (path : List ℕ) (other : ℕ) → IsTail pair_trace 2 path other (looks ++ []) → (other ≡ 0) × (path ≡ a_log)
    opened_as path other told =
        let q : Some (Opened a_log 0 sight) ≡ Some (Opened path other told.begun) = told.opened in
        let event : Opened a_log 0 sight ≡ Opened path other told.begun = cc in
        (sym (ap number_in event), sym (ap path_in event))

    by_rule : (rule : InputRule) → slice_get settings.inputs 0 ≡ Some rule → AllByRecursion (TailKeepsIdentity two_files rule key 0) (tail ∷ [])
    by_rule rule is =
        let q : Some input ≡ Some rule = is in
        let same : input ≡ rule = cc in (
          subst (λ (r : InputRule). TailKeepsIdentity two_files r key 0 tail) same (record {
            one_file = λ path other opened told is_file has_key. (opened_as path other told).0;
            read = λ path opened told is_file.
                let by_path : Some (path_key (codes "w") path) ≡ Some key = ap (λ (p : List ℕ). Some (path_key (codes "w") p)) (opened_as path 0 told).1 in
                (((λ some. by_path), ((λ some. by_path), ((λ some. by_path), ((λ some. by_path), tt)))), tt);
          }),
          tt,
        )

pub first_premises : SlotPremises two_files following
first_premises = record { identity = first_keeps_identity; truncations = record { last_read = 0; seen = ((inl refl, (inl refl, (inl refl, (inl refl, tt)))), tt) } }

b_still : StillHasKey input b_key b_log b_file b_looks
b_still = record { before = []; asked = []; behind = b_looks; looks_are = refl; cut = none_cut input.file_identity; gives = record { asking = refl; gave = refl } }

-- the file that was listed with its key is not the one that was opened with it
pub second_keeps_no_identity : KeepsIdentity two_files b_following → ⊥
second_keeps_no_identity keeps =
    let listed : 1 ≡ keeps.number = keeps.listed both_listed 0 1 b_log refl (record { since = omega arith; until = tt }) (record { shown = b_shown; path_is = refl; shows = (0, b_shows) }) in
    let opened : 2 ≡ keeps.number = (keeps.tails input refl).0.one_file b_log 2 b_file b_is_tail refl b_still in
    omega (arith, listed, opened)

-- six bytes of another life were there where four had been read
pub second_is_not_seen : SeesTruncationsOf b_following → ⊥
second_is_not_seen sees = elim sees.seen.0.1.1.0 [
  | inl same ↦ omega (arith, same)
  | inr (inl shorter) ↦ omega (arith, shorter)
  | inr (inr first) ↦ omega (arith, first)
]

-- so what is said where the premises hold of all slots says nothing of this run
pub premises_fail_of_all : Premises two_files (following ∷ b_following ∷ []) → ⊥
premises_fail_of_all premises = second_keeps_no_identity premises.identities.1.0

-- ---- the account, slot by slot

a_path_of : (told : AccountedEvent) → told.reading ≡ 0 → told.event.path ≡ a_log → 0 ≤ told.event.span.start → suc told.event.span.start ≤ told.event.span.end → told.event.span.end ≤ 4 →
    IsPathOf two_files slot_account epoch_account told
a_path_of told reading_is path_is from some within = record {
  reading = reading;
  reading_is = ap (slice_get epoch_account.readings) reading_is;
  behind_its_start = omega (arith, some);
  read = within;
  before = [];
  scan = both_listed;
  behind = [];
  scans_are = refl;
  first = subst (λ (p : List ℕ). IsFirstPath two_files both_listed key 0 p) (sym path_is) a_first;
  none_nearer = tt;
}

a_told_of : (line : Line) (text : List ℕ) (number : ℕ) → suc line.span.start ≤ line.span.end → line.span.end ≤ 4 →
    IsToldOf two_files slot_account epoch_account (record { event = event_of line text; reading = 0; place = Some (at number) })
a_told_of line text number some within = record {
  path = a_path_of (record { event = event_of line text; reading = 0; place = Some (at number) }) refl refl (omega arith) some within;
  given = (0, omega arith, refl);
}

a_told_in : AreToldIn two_files (rules_of input []) slot_account epoch_account
a_told_in = record {
  file = file;
  file_is = refl;
  licensed = tt;
  told = two_plain_lines;
  each = (
    a_told_of first_line (payload (codes "0") (codes "a")) 0 (lit≤ tt) (lit≤ tt),
    (a_told_of second_line (payload (codes "2") (codes "b")) 1 (lit≤ tt) (lit≤ tt), tt),
  );
}

a_listed : WasListedWith two_files key 2 (λ size. 0 ≤ size)
a_listed = record {
  front = [];
  scan = both_listed;
  behind = [];
  scans_are = refl;
  made_before = (lit≤ tt, tt);
  none_nearer = tt;
  number = 0;
  shown = shown;
  shows = (0, a_shows);
  first = a_first;
  size = omega arith;
}

b_listed : WasListedWith two_files b_key 3 (λ size. 0 ≤ size)
b_listed = record {
  front = [];
  scan = both_listed;
  behind = [];
  scans_are = refl;
  made_before = (lit≤ tt, tt);
  none_nearer = tt;
  number = 1;
  shown = b_shown;
  shows = (0, b_shows);
  first = b_first;
  size = omega arith;
}

a_epochs : AreEpochs two_files slot_account
a_epochs = record {
  numbered = record { first = epoch_account; later = []; epochs_are = refl; first_epoch = refl; first_start = refl; numbered = tt };
  rises = tt;
  go_on = ((inr (record { no_fall = refl; told_place = refl; listed = a_listed }), tt), tt);
  in_order = ((lit≤ tt, (lit≤ tt, tt)), tt);
  lives = (λ first is. refl, tt);
  together = refl;
}

b_epochs : AreEpochs two_files b_account
b_epochs = record {
  numbered = record { first = b_epoch; later = []; epochs_are = refl; first_epoch = refl; first_start = refl; numbered = tt };
  rises = tt;
  go_on = ((inr (record { no_fall = refl; told_place = refl; listed = b_listed }), tt), tt);
  in_order = ((lit≤ tt, (lit≤ tt, tt)), tt);
  lives = (λ first is. refl, tt);
  together = refl;
}

not_there : (number : ℕ) (others : List Place) → AllByRecursion (λ (place : Place). number ≢ place.number) others → Contains others (at number) → ⊥
not_there number [] each there = none_there (at number) there
not_there number (first ∷ others) each there = elim (there_cases first (at number) others there) [
  | inl same ↦ each.0 (ap (λ (p : Place). p.number) (sym same))
  | inr later ↦ not_there number others each.1 later
]

pub are_slot_accounts : AreSlotAccounts two_files account
are_slot_accounts = record {
  epochs = (a_epochs, (b_epochs, tt));
  each = (
    λ premises. record { rule = input; rule_is = refl; moment = inl refl; of_one_file = ((a_log, a_tail), tt); epochs = a_epochs; told = (inr a_told_in, tt); went = tt },
    ((λ premises. absurd (second_keeps_no_identity premises.identity)), tt),
  );
  places_apart = (
    not_there 0 (at 1 ∷ at 2 ∷ at 3 ∷ []) ((λ same. omega (arith, same)), ((λ same. omega (arith, same)), ((λ same. omega (arith, same)), tt))),
    (
      not_there 1 (at 2 ∷ at 3 ∷ []) ((λ same. omega (arith, same)), ((λ same. omega (arith, same)), tt)),
      (not_there 2 (at 3 ∷ []) ((λ same. omega (arith, same)), tt), (none_there (at 3), tt)),
    ),
  );
}

-- the account of the first file follows
pub first_follows : IsSlotAccount two_files slot_account
first_follows = slot_told two_files account slot_account are_slot_accounts (0, omega arith, refl) first_premises

-- and by the premises of the first that of the second does not: no scan showed the file that was read by the path of its events
its_scan : (before : List Scan) (one : Scan) (behind : List Scan) → both_listed ∷ [] ≡ before ++ one ∷ behind → both_listed ≡ one
its_scan [] one behind are = cc
its_scan (first ∷ before) one behind are =
    absurd (omega (arith, ap (λ (l : List Scan). length l) are, length-append before (one ∷ behind)))

b_shown_nowhere : (path : List ℕ) → ShowsFile two_files both_listed b_key 2 path → ⊥
b_shown_nowhere path shows = elim (only_entries shows.shown (shows.shows.1.asks.entry)) [
  | inl same ↦ let n : 2 ≡ 0 = file_shown shows.shows.0 2 b_key shows.shown shows.shows.1 ∙ ap (λ (s : Shown). s.file) (sym same) in omega (arith, n)
  | inr same ↦ let n : 2 ≡ 1 = file_shown shows.shows.0 2 b_key shows.shown shows.shows.1 ∙ ap (λ (s : Shown). s.file) (sym same) in omega (arith, n)
]

pub second_is_refused : IsSlotAccount two_files b_account → ⊥
second_is_refused is = elim is.told.0 [
  | inl none ↦ cc
  | inr told ↦
      let by = told.each.0.path in
      let same = its_scan by.before by.scan by.behind by.scans_are in
      b_shown_nowhere b_log (subst (λ (s : Scan). ShowsFile two_files s b_key 2 b_log) (sym same) by.first.shows)
]

-- ---- the folder is drained, slot by slot

whole : IsWhole two_files both_listed
whole = record {
  not_cut_off = refl;
  none_failed = (record { root = root_of (codes "/w/*"); depth = depth_of (codes "/w/*"); entries = shown ∷ b_shown ∷ []; listed = refl }, tt);
  each_asked = by_input;
  none_faulty = (record { asked_in = tt; rule = input; rule_is = refl; well = tt }, (record { asked_in = tt; rule = input; rule_is = refl; well = tt }, tt));
}
  where
    by_input : (other : Shown) (number : ℕ) (rule : InputRule) → ShowsEntry pair_trace both_listed other → slice_get settings.inputs number ≡ Some rule →
        IsCovered rule.paths other.entry.path → IsAsked two_files both_listed other number
    by_input other zero rule shows is in_glob = elim (only_entries other shows) [
      | inl same ↦ record { asking = ask a_log; asks = subst (λ (s : Shown). AsksFor two_files both_listed s 0 (ask a_log)) same a_asks }
      | inr same ↦ record { asking = ask b_log; asks = subst (λ (s : Shown). AsksFor two_files both_listed s 0 (ask b_log)) same b_asks }
    ]
    by_input other (suc number) rule shows is in_glob = absurd (let q : None ≡ Some rule = is in cc)

b_end_look : HasEndLook b_segment 6
b_end_look = record {
  front = look sight Length ∷ look sight (ReadAt 0 4) ∷ look grown Length ∷ look grown (ReadAt 4 2) ∷ [];
  asked = look grown Length;
  read = look grown (ReadAt 6 0);
  behind = [];
  looks_are = refl;
  asks = refl;
  not_below = lit≤ tt;
  gives_nothing = refl;
  stands_there = refl;
}

abbrev rows : List Row
rows = row ∷ b_row ∷ []

a_done : IsDoneWith SeesTruncationsOf two_files account rows input both_listed shown 0
a_done = inr (inr (record {
  key = key;
  number = 0;
  shows = a_shows;
  row = row;
  of_rows = (0, omega arith, refl);
  key_is = refl;
  listed = shown;
  lists = a_entry;
  same_path = refl;
  moment_is = refl;
  read = record {
    slot = 0;
    one = slot_account;
    slot_is = refl;
    key_is = refl;
    epoch = epoch_account;
    epoch_is = refl;
    reading = reading;
    of_epoch = (0, omega arith, refl);
    place = 4;
    found = end_look;
    file = file;
    file_is = refl;
    offset_is = λ sees. refl;
  };
}))

-- the end of the second one was found, but its row is not at the end of a line of the life that was there
b_done : IsDoneWith SeesTruncationsOf two_files account rows input both_listed b_shown 0
b_done = inr (inr (record {
  key = b_key;
  number = 1;
  shows = b_shows;
  row = b_row;
  of_rows = (1, omega arith, refl);
  key_is = refl;
  listed = b_shown;
  lists = b_entry;
  same_path = refl;
  moment_is = refl;
  read = record {
    slot = 1;
    one = b_account;
    slot_is = refl;
    key_is = refl;
    epoch = b_epoch;
    epoch_is = refl;
    reading = b_reading;
    of_epoch = (0, omega arith, refl);
    place = 6;
    found = b_end_look;
    file = b_file;
    file_is = refl;
    offset_is = λ sees. absurd (second_is_not_seen sees);
  };
}))

pub drained_by_slots : IsDrainedBySlots two_files account rows
drained_by_slots = record { scan = both_listed; first = refl; whole = whole; each = by_input }
  where
    by_input : (other : Shown) (number : ℕ) (rule : InputRule) → ShowsEntry pair_trace both_listed other → slice_get settings.inputs number ≡ Some rule →
        IsCovered rule.paths other.entry.path → IsDoneWith SeesTruncationsOf two_files account rows rule both_listed other number
    by_input other zero rule shows is in_glob =
        let q : Some input ≡ Some rule = is in
        let same : input ≡ rule = cc in
        elim (only_entries other shows) [
          | inl entry ↦ subst (λ (s : Shown). IsDoneWith SeesTruncationsOf two_files account rows rule both_listed s 0) entry
              (subst (λ (r : InputRule). IsDoneWith SeesTruncationsOf two_files account rows r both_listed shown 0) same a_done)
          | inr entry ↦ subst (λ (s : Shown). IsDoneWith SeesTruncationsOf two_files account rows rule both_listed s 0) entry
              (subst (λ (r : InputRule). IsDoneWith SeesTruncationsOf two_files account rows r both_listed b_shown 0) same b_done)
        ]
    by_input other (suc number) rule shows is in_glob = absurd (let q : None ≡ Some rule = is in cc)
