-- A file that is known by its inode and device: between two listings of a scan it took the name of another one. It is followed by its
-- own key, and the other one is passed over, since the file that was opened by the name had another key.
use Rattle.std.proofs.Common.{◌≡◌, ◌≢◌, ◌⊎◌, inl, inr, ℕ, zero, suc, true, List, [], ◌∷◌, Contains, Option, Some, None, refl, sym, ap, subst, ◌∙◌, arith, lit≤, codes}
use Rattle.std.specs.Fmt.{digits}
use Rattle.std.specs.Option.{unwrap_or}
use Rattle.std.specs.Prelude.{get_or, slice_get}
use Rattle.event_tree.specs.declared.input_rule.IdentityRule.TheVariants.{Native}
use Rattle.event_tree.specs.declared.input_rule.InputRule.{InputRule}
use Rattle.file_identity.specs.Key.{named_key}
use Rattle.kept_rows.proofs.Worked as worked
use Rattle.kept_rows.specs.Drained.{IsMoved, IsPassedOver}
use Rattle.kept_rows.specs.Run.{Asking, Run, Scan}
use Rattle.kept_rows.specs.Scans.{IsFirstPath, ShowsEntry, ShowsFileTo}
use Rattle.kept_rows.specs.Trace.{IsTail, Trace}
use Rattle.outside.specs.Files.{File}
use Rattle.outside.specs.Folders.{Closed, Event, Listed, ListingFailed, Opened}
use Rattle.outside.specs.declared.history.Shown.{Shown}
use Rattle.ship_core.proofs.Members.{none_there, there_cases}
use Rattle.told_events.proofs.Worked.{a_log}
use Rattle.wire_base.specs.KeyOrder.{compare}
use Rattle.accounts.specs.Filed.{Filed}
use Rattle.accounts.specs.FollowedFile.{IsFollowedFile}
use Rattle.accounts.specs.RunDone.{EachEntryIsServed, IsAmongFiles}
use Rattle.accounts.specs.Watched.{watch_in}
use Rattle.accounts.proofs.WorkedRun.{file_by, own_looks, told_file}

-- ---- the run

abbrev pub key : List ℕ
key = codes "filestream::w::native::18-2049"

abbrev other_key : List ℕ
other_key = codes "filestream::w::native::17-2049"

pub key_is : named_key (codes "w") Native a_log (Some (18, 2049)) ≡ Some key
unfolding digits
key_is = refl

other_key_is : named_key (codes "w") Native a_log (Some (17, 2049)) ≡ Some other_key
unfolding digits
other_key_is = refl

-- two globs cover the name
abbrev input : InputRule
input = record worked.input { file_identity = Native; paths = codes "/w/*" ∷ codes "/w/*" ∷ [] }

abbrev file_with : ℕ → File
file_with inode = record worked.file { numbers = Some (inode, 2049) }

abbrev shown_with : ℕ → ℕ → Shown
shown_with inode number = record { entry = record { path = a_log; size = 4; native = Some (inode, 2049); changed = record { 0 = 0 } }; file = number; life = 0 }

abbrev before : Shown
before = shown_with 17 1

abbrev behind : Shown
behind = shown_with 18 0

abbrev pub root_in : Event → List ℕ
root_in (Listed root depth entries) = root
root_in _ = []

abbrev pub depth_in : Event → ℕ
depth_in (Listed root depth entries) = depth
depth_in _ = 0

abbrev pub entries_in : Event → List Shown
entries_in (Listed root depth entries) = entries
entries_in _ = []

-- a listing of the same folder
abbrev lists : Shown → Event
lists shown = (λ (event : Event). Listed (root_in event) (depth_in event) (shown ∷ [])) (unwrap_or (slice_get worked.trace.events 1) ListingFailed)

abbrev trace : Trace
trace = record {
  files = file_with 18 ∷ file_with 17 ∷ [];
  events = lists before ∷ lists behind ∷ Opened a_log 0 worked.sight ∷ Closed 2 worked.looks 0 ∷ [];
  began = 0;
  open_tails = [];
  moments = 0 ∷ [];
  wires = [];
}

abbrev asking : Asking
asking = record { input = 0; path = a_log; opening = None }

abbrev scan : Scan
scan = record { moment = 0; listings = 0 ∷ 1 ∷ []; askings = asking ∷ asking ∷ [] }

abbrev run : Run
run = record { settings = record worked.settings { inputs = input ∷ [] }; once = true; opening = []; trace = trace; scans = scan ∷ [] }

-- ---- what its scan shows

shows_before : ShowsFileTo run scan 0 other_key 1 before
shows_before = record {
  asking = asking;
  asks = record {
    entry = record { listing = 0; of_scan = (0, omega arith, refl); root = root_in (lists before); depth = depth_in (lists before); entries = before ∷ []; listed = refl; among = (0, omega arith, refl) };
    asked_in = tt;
    of_scan = (0, omega arith, refl);
    input_is = refl;
    path_is = refl;
  };
  rule = input;
  rule_is = refl;
  covered = (0, codes "/w/*", omega arith, refl, worked.covered);
  gave = record { no_bytes = tt; number_is = refl; gave = sym other_key_is };
}

shows_behind : ShowsFileTo run scan 0 key 0 behind
shows_behind = record {
  asking = asking;
  asks = record {
    entry = record { listing = 1; of_scan = (1, omega arith, refl); root = root_in (lists behind); depth = depth_in (lists behind); entries = behind ∷ []; listed = refl; among = (0, omega arith, refl) };
    asked_in = tt;
    of_scan = (0, omega arith, refl);
    input_is = refl;
    path_is = refl;
  };
  rule = input;
  rule_is = refl;
  covered = (0, codes "/w/*", omega arith, refl, worked.covered);
  gave = record { no_bytes = tt; number_is = refl; gave = sym key_is };
}

only_of : (shown other : Shown) (shows : ShowsEntry trace scan other) → slice_get trace.events shows.listing ≡ Some (lists shown) → shown ≡ other
only_of shown other shows is =
    let event : Some (lists shown) ≡ Some (Listed shows.root shows.depth shows.entries) = sym is ∙ shows.listed in
    let entries : shown ∷ [] ≡ shows.entries = ap (λ (o : Option Event). entries_in (unwrap_or o ListingFailed)) event in
    elim (there_cases shown other [] (subst (λ (l : List Shown). Contains l other) (sym entries) shows.among)) [
      | inl same ↦ same
      | inr nothing ↦ absurd (none_there other nothing)
    ]

two_entries : (other : Shown) → ShowsEntry trace scan other → (before ≡ other) ⊎ (behind ≡ other)
two_entries other shows = elim (there_cases 0 shows.listing (1 ∷ []) shows.of_scan) [
  | inl first ↦ inl (only_of before other shows (ap (slice_get trace.events) (sym first)))
  | inr later ↦ elim (there_cases 1 shows.listing [] later) [
    | inl second ↦ inr (only_of behind other shows (ap (slice_get trace.events) (sym second)))
    | inr nothing ↦ absurd (none_there shows.listing nothing)
  ]
]

one_path : (other : Shown) → (before ≡ other) ⊎ (behind ≡ other) → a_log ≡ other.entry.path
one_path other (inl same) = ap (λ (s : Shown). s.entry.path) same
one_path other (inr same) = ap (λ (s : Shown). s.entry.path) same

first_path : IsFirstPath run scan key 0 a_log
first_path = record {
  shows = record { shown = behind; path_is = refl; shows = (0, shows_behind) };
  first = λ other shows less.
      let same : a_log ≡ other = one_path shows.shown (two_entries shows.shown (shows.shows.1.asks.entry)) ∙ shows.path_is in
      worked.not_before_itself (ap (λ (p : List ℕ). compare p a_log) same ∙ less);
}

-- ---- the file that was opened

abbrev file : Filed
file = file_by input.paths Native (Some (18, 2049)) key 2 []

is_tail : IsTail trace 2 a_log 0 worked.looks
is_tail = record { in_this_run = lit≤ tt; begun = worked.sight; opened = refl; tells = refl }

pub file_is_followed : IsFollowedFile run file
file_is_followed = record {
  rule_is = refl;
  gave = record { asking = refl; gave = key_is };
  in_range = (lit≤ tt, lit≤ tt);
  file_is = refl;
  tail = is_tail;
  told = told_file input.paths Native (Some (18, 2049)) key 2 [] (watch_in run) refl (inl refl) (own_looks input.paths Native (Some (18, 2049)) key 2 []);
  listed = record {
    last = record {
      front = [];
      scan = scan;
      behind = [];
      scans_are = refl;
      made_before = (lit≤ tt, (lit≤ tt, tt));
      none_nearer = tt;
      number = 0;
      shown = behind;
      shows = shows_behind;
      path_is = refl;
      first = first_path;
    };
    begins = inl (record { number_is = refl; starts = refl });
  };
  moment = inl refl;
  reopened = tt;
  first_known = tt;
  later_known = tt;
  removed = tt;
}

-- ---- each entry is served

keys_differ : Some key ≢ Some other_key
keys_differ same =
    let digit : 56 ≡ 55 = ap (λ (o : Option (List ℕ)). get_or (unwrap_or o []) 24 0) same in
    absurd (omega (arith, digit))

was_moved : IsMoved run input scan before 0
was_moved = record {
  key = other_key;
  number = 1;
  shows = shows_before;
  other = key;
  opened = record {
    opening = 2;
    since = (lit≤ tt, (lit≤ tt, tt));
    of_input = ((λ is. refl, (λ is. refl, tt)), tt);
    number = 0;
    looks = worked.looks;
    tail = is_tail;
    file = file_with 18;
    file_is = refl;
    asked = [];
    behind = worked.looks;
    looks_are = refl;
    asking = refl;
    gave = sym key_is;
  };
  other_key = λ same. keys_differ (ap (λ (k : List ℕ). Some k) same);
}

is_among : IsAmongFiles run scan (file ∷ []) behind 0
is_among = record { file = file; of_files = (0, omega arith, refl); input_is = refl; path_is = refl; number = 0; shows = shows_behind }

pub both_are_served : EachEntryIsServed run scan (file ∷ [])
both_are_served other (suc number) rule shows is covered = absurd (let q : None ≡ Some rule = is in cc)
both_are_served other zero rule shows is covered =
    let q : Some input ≡ Some rule = is in
    let same : input ≡ rule = cc in
    subst (λ (r : InputRule). IsAmongFiles run scan (file ∷ []) other 0 ⊎ IsPassedOver run r scan other 0) same (by_entry other (two_entries other shows))
  where
    by_entry : (shown : Shown) → (before ≡ shown) ⊎ (behind ≡ shown) → IsAmongFiles run scan (file ∷ []) shown 0 ⊎ IsPassedOver run input scan shown 0
    by_entry shown (inl same) = inr (inr (inr (inr (inl (subst (λ (s : Shown). IsMoved run input scan s 0) same was_moved)))))
    by_entry shown (inr same) = inl (subst (λ (s : Shown). IsAmongFiles run scan (file ∷ []) s 0) same is_among)
