-- Two scans: the first lists `/w/a.log`, which is opened then; the second lists `/w/b.log` in its place, and that is opened. So the first file was removed
-- since, and the key of the second one is known from the second scan on. And what is refused: a run that leaves one of its scans out, a file as listed
-- by a scan before the last one that was made before its opening, and one as known before a scan gave its key.
use Rattle.std.proofs.Common.{◌≡◌, ◌⊎◌, inl, inr, ℕ, zero, suc, ◌<◌, Any, false, List, [], ◌∷◌, ◌++◌, Contains, codes, get_or, length, None, Some, refl, sym, ap, subst, ◌∙◌, arith}
use Rattle.std.proofs.lemmas.List.Elements.{All-cons, All-nil}
use Rattle.std.proofs.lemmas.Str.{IsUtf8-from_is_utf8}
use Rattle.std.specs.Char.{encode_utf8}
use Rattle.std.specs.List.{AllByRecursion}
use Rattle.std.specs.Prelude.{slice_get}
use Rattle.std.specs.Str.{chars, is_utf8}
use Rattle.accounts.proofs.Worked as accounted
use Rattle.accounts.specs.FollowedFile.{WasShownLast}
use Rattle.accounts.specs.Opened.{Opened}
use Rattle.accounts.specs.Watched.{WasRemovedSince}
use Rattle.event_tree.specs.declared.input_rule.InputRule.{InputRule}
use Rattle.file_identity.specs.Key.{path_key}
use Rattle.glob_paths.specs.Sign.{signs}
use Rattle.glob_paths.specs.Token.{tokens}
use Rattle.kept_rows.proofs.Worked as worked
use Rattle.kept_rows.specs.Account.{Following}
use Rattle.kept_rows.specs.Followed.{HadNoRow, HasWent, IsBegun, IsNewlyKnown, StartsAt, StartsListed, StartsUnlisted}
use Rattle.kept_rows.specs.Run.{Scan}
use Rattle.kept_rows.specs.Scans.{AreScans, ShowsKey}
use Rattle.outside.specs.Folders.{Closed, Event, FolderHistory, Opened as OpenedAs}
use Rattle.outside.specs.declared.history.Shown.{Shown}
use Rattle.prospect.specs.AskedFiles.{AskedFile, ByName}
use Rattle.prospect.specs.Doubled.{HaveKey}
use Rattle.prospect.specs.ListedFiles.{AreFilesShown, HasFile, IsKeyed, IsListedBy, KeyIsTold, name_at, shown_in}
use Rattle.prospect.specs.Members.{IsCovered}
use Rattle.prospect.specs.PastFaults.{Answered, Served}
use Rattle.prospect.specs.Scan.{Listing, event_of, with_events}
use Rattle.prospect.specs.declared.listed.Listed.{Listed}
use Rattle.ship_core.proofs.Members.{none_there, there_cases}
use Rattle.ship_core.specs.Rows.{find}
use Rattle.told_events.proofs.Worked.{a_log}
use Rattle.told_scans.proofs.ExactScans.{are_exact_scans}
use Rattle.told_scans.proofs.Members.{some_is}
use Rattle.told_scans.specs.OnlyAsked.{IsNoListing}
use Rattle.told_scans.specs.ToldScan.{IsTold, IsToldWithoutFault, ToldScan, asking_of, scan_by}
use Rattle.told_scans.specs.ToldScans.{AreToldIn, NothingListed, ToldRun, run_by}
use Rattle.scanned_files.proofs.Entries.{are_begun, not_shown}
use Rattle.scanned_files.proofs.Listings.{are_shown}
use Rattle.scanned_files.specs.Listings.{HasEntry, HasNoEntryFrom, HasNoMore, NoneHasEntry, WasListedBy}
use Rattle.wire_base.specs.declared.row.Row.{Row}

abbrev inputs : List InputRule
inputs = worked.settings.inputs

abbrev b_log : List ℕ
b_log = codes "/w/b.log"

b_is_covered : IsCovered worked.input.paths b_log
unfolding is_utf8 encode_utf8 tokens signs chars
b_is_covered = (0, codes "/w/*", omega arith, refl, (IsUtf8-from_is_utf8 b_log refl, refl, (tt, ((refl, tt), ((5, omega arith, tt), tt)))))

-- ---- a scan that lists one file

module _ (earlier : FolderHistory) (shown : Shown) (covered : IsCovered worked.input.paths shown.entry.path) where
  abbrev entry : Listed
  entry = record { input = 0; key = Some (path_key (codes "w") shown.entry.path); path = shown.entry.path; size = shown.entry.size; changed = shown.entry.changed }

  abbrev listings : List Listing
  listings = record { glob = codes "/w/*"; shown = shown ∷ [] } ∷ []

  abbrev after : FolderHistory
  after = with_events earlier (event_of (record { glob = codes "/w/*"; shown = shown ∷ [] }) ∷ [])

  abbrev asked : AskedFile
  asked = record { listed = entry; answer = ByName }

  abbrev one_file : ToldScan
  one_file = record {
    settings = worked.settings;
    moment = 0;
    earlier = earlier;
    listed = after;
    scanned = after;
    askings = asking_of asked ∷ [];
    asked = asked ∷ [];
    files = entry ∷ [];
    doubled = [];
  }

  listed_by : IsListedBy inputs entry shown
  listed_by = record { rule = worked.input; rule_is = refl; covered = covered; path_is = refl; size_is = refl; changed_is = refl; key_is = refl }

  abbrev IsOfShown : Listed → Type 0
  IsOfShown one = Any (λ other. IsListedBy inputs one other) (shown_in listings)

  only_shown : (other : Shown) → Contains (shown_in listings) other → shown ≡ other
  only_shown other there = elim (there_cases shown other [] there) [
    | inl same ↦ same
    | inr nothing ↦ absurd (none_there other nothing)
  ]

  has_file : (other : Shown) (input : ℕ) (rule : InputRule) → Contains (shown_in listings) other → slice_get inputs input ≡ Some rule → HasFile (entry ∷ []) (name_at rule other input)
  has_file other zero rule there is =
      let q : Some worked.input ≡ Some rule = is in
      let same : worked.input ≡ rule = cc in
      subst (λ (s : Shown). HasFile (entry ∷ []) (name_at rule s 0)) (only_shown other there)
      (subst (λ (r : InputRule). HasFile (entry ∷ []) (name_at r shown 0)) same (0, entry, omega arith, refl, refl))
  has_file other (suc input) rule there is = absurd (let q : None ≡ Some rule = is in cc)

  files_shown : AreFilesShown inputs listings (entry ∷ [])
  files_shown = record {
    only = All-cons IsOfShown entry [] (0, shown, omega arith, refl, listed_by) (All-nil IsOfShown);
    every = λ other input of. has_file other input of.rule of.among of.rule_is;
    in_order = (tt, tt);
    apart = ((λ has. none_there has.1 (has.0, has.2, has.3)), tt);
  }

  is_keyed : IsKeyed inputs entry
  is_keyed rule is =
      let q : Some worked.input ≡ Some rule = is in
      let same : worked.input ≡ rule = cc in
      subst (λ (r : InputRule). KeyIsTold r.file_identity entry.key) same refl

  abbrev is_told : IsTold one_file
  is_told = record {
    attempts = Served (record { glob = codes "/w/*"; shown = shown ∷ [] }) ∷ [];
    for_each_glob = refl;
    listed_is = refl;
    listings = listings;
    served = refl;
    all = entry ∷ [];
    shown = files_shown;
    keyed = All-cons (IsKeyed inputs) entry [] is_keyed (All-nil (IsKeyed inputs));
    trials = Answered asked ∷ [];
    tried_are = refl;
    answered = refl;
    asks = (after, record { rule = worked.input; rule_is = refl; answered = ((λ by_bytes. by_bytes), refl) }, refl, refl);
    parts = inr ((λ has. none_there has.1 (has.0, has.2, has.3)), [], refl, (refl, refl));
  }

  is_without_fault : IsToldWithoutFault one_file
  is_without_fault = record { is = is_told; none_failed = refl; none_faulted = refl }

-- ---- the run

abbrev shown_b : Shown
shown_b = record { entry = record { path = b_log; size = 4; native = None; changed = record { 0 = 0 } }; file = 1; life = 0 }

abbrev nothing_yet : FolderHistory
nothing_yet = record { files = worked.file ∷ worked.file ∷ []; events = [] }

abbrev first : ToldScan
first = one_file nothing_yet worked.shown worked.is_covered

-- the first file was opened
abbrev between_them : List Event
between_them = OpenedAs a_log 0 worked.sight ∷ []

abbrev second : ToldScan
second = one_file (with_events first.scanned between_them) shown_b b_is_covered

-- then the second one, and the first was closed
abbrev after_them : List Event
after_them = OpenedAs b_log 1 worked.sight ∷ Closed 1 worked.looks 0 ∷ []

abbrev run : ToldRun
run = record {
  settings = worked.settings;
  once = false;
  opening = [];
  earlier = nothing_yet;
  ended = with_events second.scanned after_them;
  scans = first ∷ second ∷ [];
  open_tails = record { opening = 3; looks = worked.looks } ∷ [];
  moments = 0 ∷ [];
  wires = [];
}

are_told : AreToldIn run
are_told = (
  record { between = record { files = refl; more = []; events = refl; no_listing = tt }; settings_are = refl; is = is_told nothing_yet worked.shown worked.is_covered },
  (
    record {
      between = record { files = refl; more = between_them; events = refl; no_listing = (tt, tt) };
      settings_are = refl;
      is = is_told (with_events first.scanned between_them) shown_b b_is_covered;
    },
    record { files = refl; more = after_them; events = refl; no_listing = (tt, (tt, tt)) },
  ),
)

-- both scans have one moment
are_scans : AreScans (run_by run)
are_scans = (are_exact_scans run are_told).are_scans ([], [], refl, ([], [], refl, tt))

-- ---- the first file

abbrev opened_a : Opened
opened_a = record accounted.opened { opening = 1 }

abbrev a_listed : WasListedBy run.scans opened_a
a_listed = record {
  front = [];
  told = first;
  behind = second ∷ [];
  scans_are = refl;
  entry = entry nothing_yet worked.shown worked.is_covered;
  there = (0, omega arith, refl);
  keyed = refl;
  path_is = refl;
  input_is = refl;
  since = omega arith;
  until = (omega arith, tt);
}

a_shown : WasShownLast (run_by run) opened_a
a_shown = (are_shown run are_told).last opened_a a_listed

-- their keys end with their paths
other_key : worked.key ≡ path_key (codes "w") b_log → ⊥
other_key same = let n : 97 ≡ 98 = ap (λ (l : List ℕ). get_or l 24 0) same in omega (arith, n)

a_has_no_more : HasNoMore run.scans 1 worked.key
a_has_no_more = record { is = record { told = second; told_is = refl; none = not_there }; whole = is_without_fault (with_events first.scanned between_them) shown_b b_is_covered }
  where
    not_there : HaveKey second.files (Some worked.key) → ⊥
    not_there has = elim (there_cases (entry (with_events first.scanned between_them) shown_b b_is_covered) has.1 [] (has.0, has.2, has.3)) [
      | inl same ↦
          let q : Some (path_key (codes "w") b_log) ≡ Some worked.key = ap (λ (l : Listed). l.key) same ∙ has.4 in
          other_key (sym (let its : path_key (codes "w") b_log ≡ worked.key = cc in its))
      | inr nothing ↦ none_there has.1 nothing
    ]

a_was_removed : WasRemovedSince (run_by run) opened_a
a_was_removed = (are_shown run are_told).removed opened_a a_listed 1 (omega arith) a_has_no_more

-- ---- the second file

abbrev key_b : List ℕ
key_b = path_key (codes "w") b_log

abbrev following_b : Following
following_b = record { slot = 1; input = 0; key = key_b; epoch = 0; base = 0; known_from = 1; gone_after = None; tails = [] }

b_not_before : NoneHasEntry run.scans key_b 0 1
b_not_before zero told least less is = not_there (let q : Some first ≡ Some told = is in let same : first ≡ told = cc in same)
  where
    not_there : first ≡ told → HaveKey told.files (Some key_b) → ⊥
    not_there same has = elim (there_cases (entry nothing_yet worked.shown worked.is_covered) has.1 [] (subst (λ (t : ToldScan). Contains t.files has.1) (sym same) (has.0, has.2, has.3))) [
      | inl here ↦
          let q : Some worked.key ≡ Some key_b = ap (λ (l : Listed). l.key) here ∙ has.4 in
          other_key (let its : worked.key ≡ key_b = cc in its)
      | inr nothing ↦ none_there has.1 nothing
    ]
b_not_before (suc number) told least less is = absurd (omega (arith, less))

b_newly_known : IsNewlyKnown (run_by run) [] following_b
b_newly_known = (are_begun run are_told).newly_known [] following_b 0 (inl refl) (inl refl) b_not_before

-- the key of the first file is known anew by a third scan, after its slot went by the second one, which hid it; the scans before, of which the first
-- showed it, are not asked
abbrev went_a : Following
went_a = record { slot = 0; input = 0; key = worked.key; epoch = 0; base = 0; known_from = 0; gone_after = Some 1; tails = [] }

abbrev again_a : Following
again_a = record went_a { slot = 2; known_from = 2; gone_after = None }

a_went : HasWent (went_a ∷ again_a ∷ []) again_a 1
a_went = record { earlier = went_a; among = (0, omega arith, refl); before = omega arith; key_is = refl; gone = refl }

a_newly_known_again : IsNewlyKnown (run_by run) (went_a ∷ again_a ∷ []) again_a
a_newly_known_again =
    (are_begun run are_told).newly_known (went_a ∷ again_a ∷ []) again_a 2 (inr (1, a_went)) (inr (inl (1, a_went, refl)))
    (λ number told least less is. absurd (omega (arith, least, less)))

-- and by the second scan, which was whole and gave no entry of it, it was not known either
a_not_known_by_the_second : HasNoEntryFrom run.scans (went_a ∷ again_a ∷ []) again_a 1
a_not_known_by_the_second = inr (inr a_has_no_more)

b_entry : HasEntry run.scans 1 key_b (entry (with_events first.scanned between_them) shown_b b_is_covered)
b_entry = record { told = second; told_is = refl; there = (0, omega arith, refl); keyed = refl }

b_begun : IsBegun (run_by run) following_b
b_begun = (are_begun run are_told).by_entry following_b (entry (with_events first.scanned between_them) shown_b b_is_covered) b_entry refl

-- ---- what is refused

-- the key of the first file as one that was not known from the first scan on
known_anew_since_the_first : NoneHasEntry run.scans worked.key 0 2 → ⊥
known_anew_since_the_first none =
    none 0 first (omega arith) (omega arith) refl (0, entry nothing_yet worked.shown worked.is_covered, omega arith, refl, refl)

-- its second slot as newly known, though the registry had a row of it and no slot of it went
known_anew_with_its_row : (opening : List Row) (row : Row) → find worked.key opening ≡ Some row → HadNoRow (run_by (record run { opening = opening })) (again_a ∷ []) again_a → ⊥
known_anew_with_its_row opening row found (inl none) = let q : Some row ≡ None = sym found ∙ none in cc
known_anew_with_its_row opening row found (inr went) = elim (there_cases again_a went.1.earlier [] went.1.among) [
  | inl same ↦
      let slot : 2 ≡ went.1.earlier.slot = ap (λ (f : Following). f.slot) same in
      let before = went.1.before in
      omega (arith, slot, before)
  | inr nothing ↦ none_there went.1.earlier nothing
]

-- a run that leaves its second scan out
one_left_out : AreToldIn (record run { scans = first ∷ [] }) → ⊥
one_left_out are = nothing_but are.1
  where
    nothing_but : NothingListed first.scanned run.ended → ⊥
    nothing_but nothing =
        let more : between_them ++ (event_of (record { glob = codes "/w/*"; shown = shown_b ∷ [] }) ∷ after_them) ≡ nothing.more = cc in
        (subst (AllByRecursion IsNoListing) (sym more) nothing.no_listing).1.0

-- the first scan as the last one before the second file's opening
too_early : (opened : Opened) → opened.opening ≡ 3 → (listed : WasListedBy run.scans opened) → length listed.front ≡ 0 → ⊥
too_early opened at listed none = by_front listed.front listed.scans_are none
  where
    by_front : (front : List ToldScan) → run.scans ≡ front ++ listed.told ∷ listed.behind → length front ≡ 0 → ⊥
    by_front [] are none =
        let rest : second ∷ [] ≡ listed.behind = cc in
        let less = (subst (AllByRecursion (λ (later : ToldScan). opened.opening < length later.earlier.events)) (sym rest) listed.until).0 in
        omega (arith, less, at)
    by_front (one ∷ front) are none = omega (arith, none)

-- the second file as known from the first scan on
known_too_early : (following : Following) → following.key ≡ key_b → following.known_from ≡ 0 → IsBegun (run_by run) following → ⊥
known_too_early following key known begun =
    by_start (some_is (scan_by first) begun.scan (sym (ap (slice_get (run_by run).scans) known) ∙ begun.scan_is)) (subst (λ (n : ℕ). StartsAt n (run_by run) begun.scan following) known begun.starts)
  where
    by_start : scan_by first ≡ begun.scan → StartsListed (run_by run) begun.scan following ⊎ StartsUnlisted (run_by run) begun.scan following → ⊥
    by_start same (inl listed) =
        let shows : ShowsKey (run_by run) begun.scan following.key =
        record { number = listed.number; path = listed.shown.entry.path; shows = record { shown = listed.shown; path_is = refl; shows = listed.shows } } in
        not_shown run are_told 0 first refl key_b (b_not_before 0 first (omega arith) (omega arith) refl)
        (subst (λ (s : Scan). ShowsKey (run_by run) s key_b) (sym same) (subst (ShowsKey (run_by run) begun.scan) key shows))
    by_start same (inr row) = let q : None ≡ Some row.row = row.found in cc
