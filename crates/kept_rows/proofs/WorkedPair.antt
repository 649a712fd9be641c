-- A worked run over two files, of which the second one was replaced by its path before it was opened, and then cut and grown on unseen.
use Rattle.std.proofs.Common.{◌≡◌, ◌⊎◌, inl, inr, ℕ, zero, suc, true, false, List, [], ◌∷◌, ◌++◌, Option, Some, None, refl, sym, ap, ◌∙◌, subst, arith, codes}
use Rattle.std.specs.List.{Contains, slice_get}
use Rattle.std.specs.Option.{option_map_or}
use Rattle.event_tree.specs.declared.input_rule.InputRule.{InputRule}
use Rattle.file_identity.specs.Key.{named_key, path_key}
use Rattle.file_looks.specs.Segment.{Segment}
use Rattle.glob_paths.specs.Root.{depth_of, root_of}
use Rattle.line_cutter.specs.declared.line.Line.{Line}
use Rattle.lumber_frame.specs.declared.frame.Frame.TheVariants.{Ack}
use Rattle.lumber_frame.specs.Frame.{frame_bytes}
use Rattle.lumber_frame.specs.Window.{window_bytes}
use Rattle.outside.specs.declared.history.Look.{Look}
use Rattle.outside.specs.declared.history.Question.{Question}
use Rattle.outside.specs.declared.history.Question.TheVariants.{Length, ReadAt}
use Rattle.outside.specs.declared.history.Shown.{Shown}
use Rattle.outside.specs.declared.history.Sight.{Sight}
use Rattle.outside.specs.Files.{File}
use Rattle.outside.specs.Folders.{Closed, Event, Listed, Opened}
use Rattle.outside.specs.Wires.{Finished}
use Rattle.ship_core.proofs.Members.{none_there, there_cases}
use Rattle.told_events.proofs.Worked.{a_log, first_line, life, payload, second_line}
use Rattle.told_events.specs.Fate.{ShippedAs}
use Rattle.wire_base.specs.declared.row.Row.{Row}
use Rattle.wire_base.specs.declared.talk.Piece.TheVariants.{In, Out}
use Rattle.wire_base.specs.KeyOrder.{compare}
use Rattle.kept_rows.specs.Account.{AccountedEvent, EpochAccount, FollowedTail, Following, Place, Reading, SlotAccount}
use Rattle.kept_rows.specs.Run.{Asking, Run, Scan}
use Rattle.kept_rows.specs.Scans.{AsksFor, Gave, IsCovered, IsFirstPath, ShowsEntry, ShowsFileTo}
use Rattle.kept_rows.specs.Trace.{Trace, WireTold}
use Rattle.kept_rows.proofs.Worked.{file, input, is_covered, key, looks, not_before_itself, settings, shown, sight, slot_account}
use Rattle.kept_rows.proofs.Removed.{b_covered, b_log, b_not_before_itself, entries_in, only_one}

-- ---- the run

abbrev pub b_key : List ℕ
b_key = path_key (codes "w") b_log

-- it was listed as the file of number 1
abbrev pub b_shown : Shown
b_shown = record { entry = record { path = b_log; size = 4; native = None; changed = record { 0 = 0 } }; file = 1; life = 0 }

-- the one that was opened, of number 2, was cut to no byte and had six bytes as its length was asked again
abbrev pub b_file : File
b_file = record { numbers = None; lives = life ∷ codes "cdefgh" ∷ [] }

abbrev pub grown : Sight
grown = record { life = 1; length = 6 }

abbrev pub look : Sight → Question → Look
look at question = record { question = question; sight = at }

abbrev pub b_looks : List Look
b_looks =
    look sight Length ∷ look sight (ReadAt 0 4)
    ∷ look grown Length ∷ look grown (ReadAt 4 2)
    ∷ look grown Length ∷ look grown (ReadAt 6 0)
    ∷ []

abbrev pub b_payload : List ℕ → List ℕ → List ℕ
b_payload offset message =
    codes "{\"@timestamp\":\"1970-01-01T00:00:00.000Z\",\"input\":{\"type\":\"filestream\"},\"log\":{\"file\":{\"path\":\"/w/b.log\"},\"offset\":"
    ++ (offset ++ (codes "},\"message\":\"" ++ (message ++ codes "\"}")))

abbrev pub payloads : List (List ℕ)
payloads =
    payload (codes "0") (codes "a") ∷ payload (codes "2") (codes "b")
    ∷ b_payload (codes "0") (codes "a") ∷ b_payload (codes "2") (codes "b")
    ∷ []

abbrev pub wires : List WireTold
wires = record { outcomes = Finished (record { pieces = Out (window_bytes payloads) ∷ In (frame_bytes (Ack 4)) ∷ []; idled = false }) 0 0 ∷ []; open_talk = None } ∷ []

abbrev pub pair_trace : Trace
pair_trace = record {
  files = file ∷ file ∷ b_file ∷ [];
  events =
      Closed 2 (look sight Length ∷ []) 1 ∷ Listed (root_of (codes "/w/*")) (depth_of (codes "/w/*")) (shown ∷ b_shown ∷ [])
      ∷ Opened a_log 0 sight ∷ Opened b_log 2 sight
      ∷ Closed 2 looks 0 ∷ Closed 3 b_looks 0
      ∷ [];
  began = 1;
  open_tails = [];
  moments = 0 ∷ [];
  wires = wires;
}

abbrev pub ask : List ℕ → Asking
ask path = record { input = 0; path = path; opening = None }

abbrev pub both_listed : Scan
both_listed = record { moment = 0; listings = 1 ∷ []; askings = ask a_log ∷ ask b_log ∷ [] }

abbrev pub two_files : Run
two_files = record { settings = settings; once = true; opening = []; trace = pair_trace; scans = both_listed ∷ [] }

-- ---- the account: that of the first file is the one of a run over it alone

abbrev pub at : ℕ → Place
at number = record { wire = 0; connection = 0; number = number }

abbrev pub b_told : Line → List ℕ → ℕ → AccountedEvent
b_told line text number = record { event = record { span = line.span; path = b_log; now = 0; fate = ShippedAs text }; reading = 0; place = Some (at number) }

abbrev pub b_segment : Segment
b_segment = record { place = 0; fall = None; looks = b_looks }

abbrev pub b_reading : Reading
b_reading = record { opening = 3; segment = b_segment }

abbrev pub b_epoch : EpochAccount
b_epoch = record {
  epoch = 0;
  start = 0;
  life = 1;
  readings = b_reading ∷ [];
  licences = [];
  told = b_told first_line (b_payload (codes "0") (codes "a")) 2 ∷ b_told second_line (b_payload (codes "2") (codes "b")) 3 ∷ [];
}

abbrev pub b_tail : FollowedTail
b_tail = record { opening = 3; place = 0; looks = b_looks; beyond = [] }

abbrev pub b_following : Following
b_following = record { slot = 1; input = 0; key = b_key; epoch = 0; base = 0; known_from = 0; gone_after = None; tails = b_tail ∷ [] }

abbrev pub b_account : SlotAccount
b_account = record { following = b_following; number = 2; changed = 0; epochs = b_epoch ∷ [] }

abbrev pub account : List SlotAccount
account = slot_account ∷ b_account ∷ []

-- the row that was stored of it, after the second line of the life that is gone
abbrev pub b_row : Row
b_row = record { key = b_key; path = b_log; epoch = record { 0 = 0 }; offset = 4; changed = record { 0 = 0 } }

-- ---- what the scan shows

abbrev pub number_in : Event → ℕ
number_in (Opened path number begun) = number
number_in _ = 0

abbrev pub path_in : Event → List ℕ
path_in (Opened path number begun) = path
path_in _ = []

pub b_is_covered : IsCovered input.paths b_log
b_is_covered = (0, codes "/w/*", omega arith, refl, b_covered)

pub a_entry : ShowsEntry pair_trace both_listed shown
a_entry = record { listing = 1; of_scan = (0, omega arith, refl); root = root_of (codes "/w/*"); depth = depth_of (codes "/w/*"); entries = shown ∷ b_shown ∷ []; listed = refl; among = (0, omega arith, refl) }

pub b_entry : ShowsEntry pair_trace both_listed b_shown
b_entry = record { listing = 1; of_scan = (0, omega arith, refl); root = root_of (codes "/w/*"); depth = depth_of (codes "/w/*"); entries = shown ∷ b_shown ∷ []; listed = refl; among = (1, omega arith, refl) }

pub a_asks : AsksFor two_files both_listed shown 0 (ask a_log)
a_asks = record { entry = a_entry; asked_in = tt; of_scan = (0, omega arith, refl); input_is = refl; path_is = refl }

pub b_asks : AsksFor two_files both_listed b_shown 0 (ask b_log)
b_asks = record { entry = b_entry; asked_in = tt; of_scan = (1, omega arith, refl); input_is = refl; path_is = refl }

pub a_shows : ShowsFileTo two_files both_listed 0 key 0 shown
a_shows = record { asking = ask a_log; asks = a_asks; rule = input; rule_is = refl; covered = is_covered; gave = record { no_bytes = tt; number_is = refl; gave = refl } }

pub b_shows : ShowsFileTo two_files both_listed 0 b_key 1 b_shown
b_shows = record { asking = ask b_log; asks = b_asks; rule = input; rule_is = refl; covered = b_is_covered; gave = record { no_bytes = tt; number_is = refl; gave = refl } }

pub only_entries : (other : Shown) → ShowsEntry pair_trace both_listed other → (shown ≡ other) ⊎ (b_shown ≡ other)
only_entries other shows = elim (there_cases 1 shows.listing [] shows.of_scan) [
  | inr nothing ↦ absurd (none_there shows.listing nothing)
  | inl first ↦
      let q : Some (Listed (root_of (codes "/w/*")) (depth_of (codes "/w/*")) (shown ∷ b_shown ∷ [])) ≡ Some (Listed shows.root shows.depth shows.entries) =
      ap (slice_get pair_trace.events) first ∙ shows.listed in
      let event : Listed (root_of (codes "/w/*")) (depth_of (codes "/w/*")) (shown ∷ b_shown ∷ []) ≡ Listed shows.root shows.depth shows.entries = cc in
      let among = subst (λ (l : List Shown). Contains l other) (sym (ap entries_in event)) shows.among in
      elim (there_cases shown other (b_shown ∷ []) among) [
        | inl same ↦ inl same
        | inr later ↦ inr (only_one b_shown other later)
      ]
]

-- no tail was opened to ask for a key, so each entry shows its own file
pub by_entry : (one : Asking) → Contains (ask a_log ∷ ask b_log ∷ []) one → one.opening ≡ None
by_entry one there = elim (there_cases (ask a_log) one (ask b_log ∷ []) there) [
  | inl same ↦ ap (λ (a : Asking). a.opening) (sym same)
  | inr later ↦ ap (λ (a : Asking). a.opening) (sym (only_one (ask b_log) one later))
]

pub file_shown : (place number : ℕ) (of : List ℕ) (other : Shown) → ShowsFileTo two_files both_listed place of number other → number ≡ other.file
file_shown place number of other to =
    (subst (λ (o : Option ℕ). Gave pair_trace to.rule other o (Some of) number) (by_entry to.asking to.asks.of_scan) to.gave).number_is

-- and its path's key
pub key_shown : (number k : ℕ) (of : List ℕ) (other : Shown) → ShowsFileTo two_files both_listed k of number other → Some of ≡ named_key (codes "w") input.file_identity other.entry.path other.entry.native
key_shown number zero of other to =
    let q : Some input ≡ Some to.rule = to.rule_is in
    let same : input ≡ to.rule = cc in
    let gave = subst (λ (o : Option ℕ). Gave pair_trace to.rule other o (Some of) number) (by_entry to.asking to.asks.of_scan) to.gave in
    gave.gave ∙ ap (λ (r : InputRule). named_key r.id r.file_identity other.entry.path other.entry.native) (sym same)
key_shown number (suc k) of other to = absurd (let q : None ≡ Some to.rule = to.rule_is in cc)

-- the keys differ by the letter of their paths
pub letter : Option (List ℕ) → ℕ
letter found = option_map_or (λ (l : List ℕ). option_map_or (λ (n : ℕ). n) (slice_get l 24) 0) found 0

pub keys_differ : Some key ≡ Some b_key → ⊥
unfolding letter
keys_differ same = let n : 97 ≡ 98 = ap letter same in omega (arith, n)

pub a_first : IsFirstPath two_files both_listed key 0 a_log
a_first = record {
  shows = record { shown = shown; path_is = refl; shows = (0, a_shows) };
  first = λ other shows less. elim (only_entries shows.shown (shows.shows.1.asks.entry)) [
    | inl same ↦ not_before_itself (ap (λ (p : List ℕ). compare p a_log) (ap (λ (s : Shown). s.entry.path) same ∙ shows.path_is) ∙ less)
    | inr same ↦
        let n : 0 ≡ 1 = file_shown shows.shows.0 0 key shows.shown shows.shows.1 ∙ ap (λ (s : Shown). s.file) (sym same) in
        absurd (omega (arith, n))
  ];
}

pub b_first : IsFirstPath two_files both_listed b_key 1 b_log
b_first = record {
  shows = record { shown = b_shown; path_is = refl; shows = (0, b_shows) };
  first = λ other shows less. elim (only_entries shows.shown (shows.shows.1.asks.entry)) [
    | inl same ↦
        let n : 1 ≡ 0 = file_shown shows.shows.0 1 b_key shows.shown shows.shows.1 ∙ ap (λ (s : Shown). s.file) (sym same) in
        absurd (omega (arith, n))
    | inr same ↦ b_not_before_itself (ap (λ (p : List ℕ). compare p b_log) (ap (λ (s : Shown). s.entry.path) same ∙ shows.path_is) ∙ less)
  ];
}
