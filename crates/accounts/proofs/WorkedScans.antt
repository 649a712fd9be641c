-- A worked account over four scans: the first one shows nothing, a listing of the second one fails, the third one shows a file, which is opened, and
-- the last one hides it while its tail is open. So its key is known from the third scan on, and its end look may end it. And what is refused: a partial
-- scan as whole, an asking for a path that no glob covers, a file that is known too early, and an end look of a file that is still listed.
use Rattle.std.proofs.Common.{◌≡◌, ◌⊎◌, inl, inr, ℕ, zero, suc, ◌<◌, true, false, List, [], ◌∷◌, Contains, length, Option, Some, None, refl, sym, ap, subst, ◌∙◌, arith, lit≤}
use Rattle.std.specs.List.{AllByRecursion}
use Rattle.std.specs.Option.{unwrap_or}
use Rattle.std.specs.Prelude.{slice_get}
use Rattle.event_tree.specs.declared.input_rule.IdentityRule.TheVariants.{Fingerprint, Path}
use Rattle.event_tree.specs.declared.input_rule.InputRule.{InputRule}
use Rattle.kept_rows.proofs.Worked as worked
use Rattle.kept_rows.specs.Account.{Place}
use Rattle.kept_rows.specs.Followed.{AreFollowed, StartsAt, WasHidden}
use Rattle.kept_rows.specs.Run.{Asking, Run, Scan}
use Rattle.kept_rows.specs.Scans.{AreAsked, AsksFor, IsBehind, IsCovered, IsFirstPath, IsWhole, ShowsEntry, ShowsFileTo, ShowsKey}
use Rattle.kept_rows.specs.Trace.{Trace}
use Rattle.outside.specs.Folders.{Closed, Event, Listed, ListingFailed, Opened, OpeningFailed}
use Rattle.outside.specs.declared.history.Shown.{Shown}
use Rattle.ship_core.proofs.Members.{none_there, there_cases}
use Rattle.told_events.proofs.Worked.{a_log}
use Rattle.wire_base.specs.KeyOrder.{compare}
use Rattle.wire_base.specs.declared.parcel.Parcel.{Parcel}
use Rattle.accounts.specs.ByScans.{IsByScans, IsToldScan}
use Rattle.accounts.specs.Filed.{Filed, following_of}
use Rattle.accounts.specs.Watch.{MayFindEnd}
use Rattle.accounts.specs.Watched.{WasRemovedSince, watch_in}
use Rattle.accounts.specs.FollowedFile.{BeganEarlier, BeginsThere, EachOpeningIsOne, IsFollowedFile, WasShownLast}
use Rattle.accounts.specs.Hidden.{Hidden, MayGo}
use Rattle.accounts.specs.RunTold.{RunTold}
use Rattle.accounts.proofs.AccountingFor.{IsAccountedFor, is_accounted_for}
use Rattle.accounts.proofs.HiddenFollowed.{all_followed}
use Rattle.accounts.proofs.Lists.{got_behind}
use Rattle.accounts.proofs.WorkedNative.{depth_in, entries_in, root_in}
use Rattle.accounts.proofs.WorkedRun.{file_by, has_talks, in_order_by, notes_by, own_looks, parcels, told_file, worker}
use Rattle.accounts.proofs.Turns.{apart_take_turns}

-- ---- the run

-- of the folder of another worked run
abbrev other_listing : Event
other_listing = unwrap_or (slice_get worked.trace.events 1) ListingFailed

abbrev lists : List Shown → Event
lists shown = Listed (root_in other_listing) (depth_in other_listing) shown

abbrev pub trace : Trace
trace = record worked.trace {
  events = lists [] ∷ ListingFailed ∷ lists (worked.shown ∷ []) ∷ Opened a_log 0 worked.sight ∷ lists [] ∷ Closed 3 worked.looks 0 ∷ [];
  began = 0;
}

abbrev asking : Asking
asking = record { input = 0; path = a_log; opening = None }

abbrev scan_at : ℕ → List Asking → Scan
scan_at listing askings = record { moment = 0; listings = listing ∷ []; askings = askings }

abbrev pub empty : Scan
empty = scan_at 0 []

abbrev pub partial : Scan
partial = scan_at 1 []

abbrev pub showing : Scan
showing = scan_at 2 (asking ∷ [])

abbrev pub hiding : Scan
hiding = scan_at 4 []

abbrev pub run : Run
run = record worked.run { once = false; trace = trace; scans = empty ∷ partial ∷ showing ∷ hiding ∷ [] }

abbrev pub file : Filed
file = record (file_by worked.input.paths Path None worked.key 3 []) { known_from = 2 }

abbrev pub files : List Filed
files = file ∷ []

-- ---- what its scans show

-- the entries of a scan of one listing
entries_of : (listing : ℕ) (askings : List Asking) (event : Event) (other : Shown) → slice_get trace.events listing ≡ Some event → ShowsEntry trace (scan_at listing askings) other →
    Contains (entries_in event) other
entries_of listing askings event other is shows = elim (there_cases listing shows.listing [] shows.of_scan) [
  | inr nothing ↦ absurd (none_there shows.listing nothing)
  | inl first ↦
      let same : Some event ≡ Some (Listed shows.root shows.depth shows.entries) = sym is ∙ ap (slice_get trace.events) first ∙ shows.listed in
      let entries : entries_in event ≡ shows.entries = ap (λ (o : Option Event). entries_in (unwrap_or o ListingFailed)) same in
      subst (λ (l : List Shown). Contains l other) (sym entries) shows.among
]

only_entry : (other : Shown) → ShowsEntry trace showing other → worked.shown ≡ other
only_entry other shows = elim (there_cases worked.shown other [] (entries_of 2 (asking ∷ []) (lists (worked.shown ∷ [])) other refl shows)) [
  | inl same ↦ same
  | inr nothing ↦ absurd (none_there other nothing)
]

-- a scan that asked for nothing shows no key
pub shows_none : (listing : ℕ) (key : List ℕ) → ShowsKey run (scan_at listing []) key → ⊥
shows_none listing key shows = let asks = shows.shows.shows.1.asks in none_there shows.shows.shows.1.asking asks.of_scan

entry : ShowsEntry trace showing worked.shown
entry = record {
  listing = 2;
  of_scan = (0, omega arith, refl);
  root = root_in other_listing;
  depth = depth_in other_listing;
  entries = worked.shown ∷ [];
  listed = refl;
  among = (0, omega arith, refl);
}

asks : AsksFor run showing worked.shown 0 asking
asks = record { entry = entry; asked_in = tt; of_scan = (0, omega arith, refl); input_is = refl; path_is = refl }

pub shows_to : ShowsFileTo run showing 0 worked.key 0 worked.shown
shows_to = record { asking = asking; asks = asks; rule = worked.input; rule_is = refl; covered = worked.is_covered; gave = record { no_bytes = tt; number_is = refl; gave = refl } }

pub first_path : IsFirstPath run showing worked.key 0 a_log
first_path = record {
  shows = record { shown = worked.shown; path_is = refl; shows = (0, shows_to) };
  first = λ other shows less.
      let same : a_log ≡ other = ap (λ (s : Shown). s.entry.path) (only_entry shows.shown shows.shows.1.asks.entry) ∙ shows.path_is in
      worked.not_before_itself (ap (λ (p : List ℕ). compare p a_log) same ∙ less);
}

-- ---- as they were reported

empty_asked : AreAsked run empty
empty_asked other input rule shows is covered = absurd (none_there other (entries_of 0 [] (lists []) other refl shows))

partial_asked : AreAsked run partial
partial_asked other input rule shows is covered = absurd (none_there other (entries_of 1 [] ListingFailed other refl shows))

showing_asked : AreAsked run showing
showing_asked other (suc input) rule shows is covered = absurd (let q : None ≡ Some rule = is in cc)
showing_asked other zero rule shows is covered = record { asking = asking; asks = subst (λ (s : Shown). AsksFor run showing s 0 asking) (only_entry other shows) asks }

nothing_asked : (listing : ℕ) → IsToldScan run (scan_at listing [])
nothing_asked listing = record { asked_so = tt; asks_in_order = record { each = tt; in_order = tt; made = tt } }

showing_told : IsToldScan run showing
showing_told = record {
  asked_so = (inl (record { asked_in = tt; rule = worked.input; rule_is = refl; well = tt }), tt);
  asks_in_order = record {
    each = (record { shown = worked.shown; entry = entry; path_is = refl; rule = worked.input; rule_is = refl; covered = worked.is_covered; opening = tt }, tt);
    in_order = (tt, tt);
    made = (3, refl, tt);
  };
}

pub by_scans : IsByScans run
by_scans = record {
  scans = record {
    together = refl;
    by_globs = ((inl ([], refl), tt), ((inr refl, tt), ((inl (worked.shown ∷ [], refl), tt), ((inl ([], refl), tt), tt))));
    full = (refl, (refl, (refl, tt)));
    moments = ([], [], refl, ([], [], refl, ([], [], refl, ([], [], refl, tt))));
  };
  asked = (empty_asked, (partial_asked, (showing_asked, tt)));
  each = (nothing_asked 0, (nothing_asked 1, (showing_told, (nothing_asked 4, tt))));
  own_ids = record { no_colon = ((λ e. cc, tt), tt); ids_apart = (none_there worked.input.id, tt) };
}

pub hiding_is_whole : IsWhole run hiding
hiding_is_whole = record {
  not_cut_off = refl;
  none_failed = (record { root = root_in other_listing; depth = depth_in other_listing; entries = []; listed = refl }, tt);
  each_asked = λ other input rule shows is covered. absurd (none_there other (entries_of 4 [] (lists []) other refl shows));
  none_faulty = tt;
}

-- ---- its file

-- no scan before the third one showed its key
pub hidden_before : WasHidden run worked.key 0 2
hidden_before zero scan since until is = let q : Some empty ≡ Some scan = is in let same : empty ≡ scan = cc in subst (λ (s : Scan). ¬ (ShowsKey run s worked.key)) same (shows_none 0 worked.key)
hidden_before (suc zero) scan since until is =
    let q : Some partial ≡ Some scan = is in let same : partial ≡ scan = cc in subst (λ (s : Scan). ¬ (ShowsKey run s worked.key)) same (shows_none 1 worked.key)
hidden_before (suc (suc number)) scan since until is = absurd (omega (arith, until))

pub was_removed : WasRemovedSince run file.opened
was_removed = record {
  scan = hiding;
  of_run = (3, omega arith, refl);
  whole = hiding_is_whole;
  later = (lit≤ tt, tt);
  hidden = λ path shows. shows_none 4 worked.key (record { number = 0; path = path; shows = shows });
}

-- as it was listed, before the opening
abbrev pub shown_last : WasShownLast run file.opened
shown_last = record {
  front = empty ∷ partial ∷ [];
  scan = showing;
  behind = hiding ∷ [];
  scans_are = refl;
  made_before = (lit≤ tt, tt);
  none_nearer = (λ shows before. absurd (let less : 4 < 3 = before.0 in omega (arith, less)), tt);
  number = 0;
  shown = worked.shown;
  shows = shows_to;
  path_is = refl;
  first = first_path;
}

pub are_followed_so : AllByRecursion (IsFollowedFile run) files
are_followed_so = (
  record {
    rule_is = refl;
    gave = record { asking = refl; gave = refl };
    in_range = (lit≤ tt, lit≤ tt);
    file_is = refl;
    tail = record { in_this_run = lit≤ tt; begun = worked.sight; opened = refl; tells = refl };
    told = told_file worked.input.paths Path None worked.key 3 [] (watch_in run) refl (inr was_removed) (own_looks worked.input.paths Path None worked.key 3 []);
    listed = record {
      last = shown_last;
      begins = inl (record { number_is = refl; starts = refl });
    };
    moment = inl refl;
    reopened = tt;
    first_known = tt;
    later_known = tt;
    removed = tt;
  },
  tt,
)

pub each_opening : EachOpeningIsOne run files
each_opening zero path number begun since is = absurd cc
each_opening (suc zero) path number begun since is = absurd cc
each_opening (suc (suc zero)) path number begun since is = absurd cc
each_opening (suc (suc (suc zero))) path number begun since is = inl (0, omega arith, refl)
each_opening (suc (suc (suc (suc zero)))) path number begun since is = absurd cc
each_opening (suc (suc (suc (suc (suc zero))))) path number begun since is = absurd cc
each_opening (suc (suc (suc (suc (suc (suc later)))))) path number begun since is = absurd (let q : None ≡ Some (Opened path number begun) = is in cc)

-- ---- all of it

pub has_told : RunTold run files [] (worker ∷ []) (notes_by worked.key)
has_told = record {
  by = by_scans;
  followed = record {
    each = are_followed_so;
    slots = (omega arith, tt);
    openings_apart = (none_there 3, tt);
    openings_serve = each_opening;
  };
  talks = (record { most = 2048; talks = has_talks 0 0; none_open = refl }, tt);
  may_go = record { each = tt; apart = tt };
  beside = record { slots = tt; other_slots = λ one among hidden none. absurd (none_there hidden none) };
  turns = apart_take_turns run files [] (notes_by worked.key).all (none_there worked.key, tt) tt (λ one among hidden none. absurd (none_there hidden none))
      (λ later. record { no_row = inl refl; since = 0; unknown = inl refl; hidden = hidden_before }, tt);
  told = record {
    each = (
      inl (record { file = file; of_files = (0, omega arith, refl); begins = record { path = a_log; changed = record { 0 = 0 }; is = refl; within = omega arith } }),
      tt,
    );
    begun = (record { path = a_log; changed = record { 0 = 0 }; there = (0, omega arith, refl) }, tt);
    hidden_begun = tt;
  };
  mixed = record { often = λ h. refl; orderly = in_order_by worked.key };
  fits = record {
    issued = parcels;
    noted = [];
    issued_are = λ h. refl;
    noted_are = λ h. refl;
    parcels = [];
    parcels_are = λ h. refl;
    notes = [];
    notes_are = λ h. refl;
  };
  gone = (tt, tt);
}

-- so it is accounted for, and its file is followed from the third scan on
pub accounted : IsAccountedFor run files [] (worker ∷ []) (notes_by worked.key) has_told
accounted = is_accounted_for run files [] (worker ∷ []) (notes_by worked.key) has_told

pub followed_from_the_third_scan : (placed : Parcel → Option Place) → AreFollowed run (record worked.following { known_from = 2; tails = record worked.tail { opening = 3 } ∷ [] } ∷ [])
followed_from_the_third_scan placed = all_followed run [] has_told.may_go by_scans placed files has_told.followed has_told.beside (notes_by worked.key).all has_told.turns

-- ---- what is refused

pub partial_scan_called_whole : IsWhole run partial → ⊥
partial_scan_called_whole whole =
    let listed = whole.none_failed.0 in
    absurd (let q : Some ListingFailed ≡ Some (Listed listed.root listed.depth listed.entries) = listed.listed in cc)

-- by it no row goes
pub row_that_goes_by_a_partial_scan : (hidden : Hidden) → hidden.hidden_by ≡ 1 → MayGo run hidden → ⊥
row_that_goes_by_a_partial_scan hidden by may =
    let q : Some partial ≡ Some may.scan = sym (ap (slice_get run.scans) by) ∙ may.scan_is in
    let same : partial ≡ may.scan = cc in
    partial_scan_called_whole (subst (IsWhole run) (sym same) may.whole)

pub entry_of_an_uncovered_path : IsToldScan run (scan_at 2 (record asking { path = worked.deeper } ∷ [])) → ⊥
entry_of_an_uncovered_path told =
    let its = told.asks_in_order.each.0 in
    let q : Some worked.input ≡ Some its.rule = its.rule_is in
    let same : worked.input ≡ its.rule = cc in
    worked.deeper_is_not_covered (subst (λ (r : InputRule). IsCovered r.paths worked.deeper) (sym same) its.covered)

-- known from a scan that did not show it, or before
pub file_known_too_early : (number : ℕ) → number < 2 → IsFollowedFile run (record file { known_from = number }) → ⊥
file_known_too_early number early is = by_case is.listed.begins
  where
    by_case : BeginsThere run (record file { known_from = number }) is.listed.last ⊎ BeganEarlier run (record file { known_from = number }) is.listed.last → ⊥
    by_case (inl there) =
        let last = is.listed.last in
        hidden_before number last.scan (omega arith) early
        (ap (slice_get run.scans) there.number_is ∙ ap (λ (l : List Scan). slice_get l (length last.front)) last.scans_are ∙ got_behind last.front last.scan last.behind)
        (record { number = last.number; path = last.shown.entry.path; shows = record { shown = last.shown; path_is = refl; shows = (0, last.shows) } })
    by_case (inr earlier) = by_start number early earlier.begun.scan earlier.begun.scan_is earlier.begun.starts
      where
        by_start : (place : ℕ) → place < 2 → (scan : Scan) → slice_get run.scans place ≡ Some scan → StartsAt place run scan (following_of (record file { known_from = number })) → ⊥
        by_start zero within scan at (inl listed) =
            hidden_before 0 scan (omega arith) within at (record { number = listed.number; path = listed.shown.entry.path; shows = record { shown = listed.shown; path_is = refl; shows = listed.shows } })
        by_start zero within scan at (inr unlisted) = absurd (let q : None ≡ Some unlisted.row = unlisted.found in cc)
        by_start (suc earlier) within scan at starts = hidden_before (suc earlier) scan (omega arith) within at starts.shows

-- an end look ends it, though no whole scan hides it
abbrev still_listed : Run
still_listed = record run { scans = empty ∷ partial ∷ showing ∷ [] }

pub end_of_a_listed_file : MayFindEnd (watch_in still_listed) file.opened → ⊥
end_of_a_listed_file may = by_case may
  where
    by_scan : (scan : Scan) → (empty ≡ scan) ⊎ ((partial ≡ scan) ⊎ (showing ≡ scan)) → IsBehind 3 scan → ⊥
    by_scan scan (inl same) later = let less : 3 < 0 = (subst (IsBehind 3) (sym same) later).0 in omega (arith, less)
    by_scan scan (inr (inl same)) later = let less : 3 < 1 = (subst (IsBehind 3) (sym same) later).0 in omega (arith, less)
    by_scan scan (inr (inr same)) later = let less : 3 < 2 = (subst (IsBehind 3) (sym same) later).0 in omega (arith, less)

    of_three : (scan : Scan) → Contains still_listed.scans scan → (empty ≡ scan) ⊎ ((partial ≡ scan) ⊎ (showing ≡ scan))
    of_three scan there = elim (there_cases empty scan (partial ∷ showing ∷ []) there) [
      | inl same ↦ inl same
      | inr others ↦ elim (there_cases partial scan (showing ∷ []) others) [
        | inl same ↦ inr (inl same)
        | inr last ↦ elim (there_cases showing scan [] last) [
          | inl same ↦ inr (inr same)
          | inr nothing ↦ absurd (none_there scan nothing)
        ]
      ]
    ]

    by_case : MayFindEnd (watch_in still_listed) file.opened → ⊥
    by_case (inl once) = absurd (let no : false ≡ true = once in cc)
    by_case (inr removed) = by_scan removed.scan (of_three removed.scan removed.of_run) removed.later

-- ---- an asking that fails

abbrev failing_input : InputRule
failing_input = record worked.input { file_identity = Fingerprint 0 2 }

abbrev failing : Scan
failing = scan_at 0 (record asking { opening = Some 1 } ∷ [])

abbrev failing_run : Run
failing_run = record run {
  settings = record worked.settings { inputs = failing_input ∷ [] };
  trace = record trace { events = lists (worked.shown ∷ []) ∷ OpeningFailed a_log ∷ [] };
  scans = failing ∷ [];
}

pub asked_in_vain : IsToldScan failing_run failing
asked_in_vain = record {
  asked_so = (
    inr (record { opening = 1; opening_is = refl; asked_in = record { before = []; behind = []; scans_are = refl; since = (lit≤ tt, tt); until = tt }; failed = inl refl }),
    tt,
  );
  asks_in_order = record {
    each = (
      record {
        shown = worked.shown;
        entry = record {
          listing = 0;
          of_scan = (0, omega arith, refl);
          root = root_in other_listing;
          depth = depth_in other_listing;
          entries = worked.shown ∷ [];
          listed = refl;
          among = (0, omega arith, refl);
        };
        path_is = refl;
        rule = failing_input;
        rule_is = refl;
        covered = worked.is_covered;
        opening = λ named. named;
      },
      tt,
    );
    in_order = (tt, tt);
    made = (2, (refl, inr (inr refl, refl)), tt);
  };
}
