-- Worked hidden rows, which may go, and rows that may not: the folder has one file, which the scan lists, and the registry had the row of
-- another.
use Rattle.std.proofs.Common.{◌≡◌, inl, inr, ℕ, zero, suc, ◌<◌, true, false, List, [], ◌∷◌, get_or, Option, Some, None, refl, sym, ap, ◌∙◌, subst, arith, codes}
use Rattle.std.specs.List.{Contains, slice_get}
use Rattle.event_tree.specs.declared.input_rule.InputRule.{InputRule}
use Rattle.file_identity.specs.Key.{named_key, path_key}
use Rattle.kept_rows.proofs.Worked.{entry, following, input, is_covered, key, only_entry, row, run, scan, settings, shown, slot_account, trace, whole, wires}
use Rattle.kept_rows.specs.Account.{SlotAccount}
use Rattle.kept_rows.specs.Followed.{start_unlisted}
use Rattle.kept_rows.specs.Lost.{IsRightlyLost}
use Rattle.kept_rows.specs.Run.{Asking, Run, Scan}
use Rattle.kept_rows.specs.Scans.{AsksFor, Gave, IsAsked, IsCovered, IsWhole, ShowsEntry, ShowsKey}
use Rattle.outside.specs.Folders.{Listed, ListingFailed}
use Rattle.outside.specs.declared.history.Shown.{Shown}
use Rattle.ship_core.proofs.Members.{first_there, none_there, there_cases}
use Rattle.ship_core.specs.Orderly.{AreOrderly}
use Rattle.ship_core.specs.RowOver.{row_over}
use Rattle.wire_base.specs.declared.note.Cause.TheVariants.{Acked}
use Rattle.wire_base.specs.declared.note.Note.TheVariants.{Settle}
use Rattle.wire_base.specs.declared.row.Row.{Row}
use Rattle.accounts.specs.Hidden.{Hidden, MayAllGo, MayGo, hidden_begin, hidden_forget, hidden_key, with_hidden}
use Rattle.accounts.proofs.HiddenFollowed.{begins_unlisted}
use Rattle.accounts.proofs.HiddenLost.{lost}

-- ---- the run, whose registry had the rows of both files

abbrev b_log : List ℕ
b_log = codes "/w/b.log"

abbrev absent_row : Row
absent_row = record { key = path_key (codes "w") b_log; path = b_log; epoch = record { 0 = 2 }; offset = 7; changed = record { 0 = 5 } }

abbrev both_rows : List Row
both_rows = row ∷ absent_row ∷ []

abbrev the_run : Run
the_run = record run { opening = both_rows }

abbrev asking : Asking
asking = record { input = 0; path = codes "/w/a.log"; opening = None }

abbrev hidden : Hidden
hidden = record { slot = record { 0 = 1 }; row = absent_row; input = 0; path = b_log; start = start_unlisted absent_row; hidden_by = 0 }

-- ---- what its scan shows

asks : AsksFor the_run scan shown 0 asking
asks = record { entry = entry; asked_in = tt; of_scan = (0, omega arith, refl); input_is = refl; path_is = refl }

shows_key : ShowsKey the_run scan key
shows_key = record {
  number = 0;
  path = codes "/w/a.log";
  shows = record {
    shown = shown;
    path_is = refl;
    shows = (0, record { asking = asking; asks = asks; rule = input; rule_is = refl; covered = is_covered; gave = record { no_bytes = tt; number_is = refl; gave = refl } });
  };
}

is_whole : IsWhole the_run scan
is_whole = record { not_cut_off = refl; none_failed = whole.none_failed; each_asked = by_input; none_faulty = (record { asked_in = tt; rule = input; rule_is = refl; well = tt }, tt) }
  where
    by_input : (other : Shown) (number : ℕ) (rule : InputRule) → ShowsEntry trace scan other → slice_get settings.inputs number ≡ Some rule →
        IsCovered rule.paths other.entry.path → IsAsked the_run scan other number
    by_input other zero rule shows is in_glob = record { asking = asking; asks = subst (λ (s : Shown). AsksFor the_run scan s 0 asking) (only_entry other shows) asks }
    by_input other (suc number) rule shows is in_glob = absurd (let q : None ≡ Some rule = is in cc)

only_one : {A : Type 0} (one other : A) → Contains (one ∷ []) other → one ≡ other
only_one one other there = elim (there_cases one other [] there) [
  | inl same ↦ same
  | inr nothing ↦ absurd (none_there other nothing)
]

only_rule : (number : ℕ) (rule : InputRule) → slice_get settings.inputs number ≡ Some rule → input ≡ rule
only_rule zero rule is = let q : Some input ≡ Some rule = is in cc
only_rule (suc number) rule is = absurd (let q : None ≡ Some rule = is in cc)

same_key : (first second : List ℕ) → Some first ≡ Some second → first ≡ second
same_key first second is = cc

-- no other key
only_key : (other : List ℕ) → ShowsKey the_run scan other → other ≡ key
only_key other shows =
    let listed = shows.shows.shown in
    let to = shows.shows.shows.1 in
    let its_asking = only_one asking to.asking to.asks.of_scan in
    let rule = only_rule shows.shows.shows.0 to.rule to.rule_is in
    let gave : Gave trace to.rule listed None (Some other) shows.number =
    subst (λ (o : Option ℕ). Gave trace to.rule listed o (Some other) shows.number) (sym (ap (λ (a : Asking). a.opening) its_asking)) to.gave in
    same_key other key
    (gave.gave ∙ ap (λ (r : InputRule). named_key r.id r.file_identity listed.entry.path listed.entry.native) (sym rule)
    ∙ ap (λ (s : Shown). named_key input.id input.file_identity s.entry.path s.entry.native) (sym (only_entry listed to.asks.entry)))

-- ---- the row whose file is not listed may go

key_is_hidden : ShowsKey the_run scan (hidden_key hidden) → ⊥
key_is_hidden shows =
    -- the letters after the folder's name
    let letters : 98 ≡ 97 = ap (λ (l : List ℕ). get_or l 24 0) (only_key (hidden_key hidden) shows) in
    omega (arith, letters)

may_go : MayGo the_run hidden
may_go = record {
  rule = input;
  rule_is = refl;
  cleans = refl;
  key_of_input = record { rest = codes "path::/w/b.log"; spelled = refl };
  found = refl;
  begun = begins_unlisted the_run hidden scan refl refl refl key_is_hidden;
  path = inl ((λ number other since less is. absurd (omega (arith, less))), refl);
  scan = scan;
  scan_is = refl;
  whole = is_whole;
  not_shown = key_is_hidden;
}

may_all_go : MayAllGo the_run (hidden ∷ [])
may_all_go = record { each = (may_go, tt); apart = (none_there (hidden_key hidden), tt) }

-- its slot follows that of the other file
abbrev behind : SlotAccount
behind = record {
  following = record { slot = 1; input = 0; key = path_key (codes "w") b_log; epoch = 2; base = 7; known_from = 0; gone_after = Some 0; tails = [] };
  number = 0;
  changed = 5;
  epochs = record { epoch = 2; start = 7; life = 0; readings = []; licences = []; told = [] } ∷ [];
}

slot_is_behind : with_hidden (slot_account ∷ []) (hidden ∷ []) ≡ slot_account ∷ behind ∷ []
slot_is_behind = refl

absent_row_is_rightly_lost : IsRightlyLost the_run (slot_account ∷ behind ∷ []) wires (path_key (codes "w") b_log)
absent_row_is_rightly_lost = lost the_run (hidden ∷ []) may_all_go (slot_account ∷ []) wires hidden (first_there hidden []) ((λ same. omega arith), ((λ same. omega arith), tt))

-- a greater slot of a file follows it
slot_is_between : with_hidden (slot_account ∷ record slot_account { following = record following { slot = 5 } } ∷ []) (hidden ∷ [])
    ≡ slot_account ∷ behind ∷ record slot_account { following = record following { slot = 5 } } ∷ []
slot_is_between = refl

-- ---- what is refused

its_scan : (other : Scan) → Some scan ≡ Some other → scan ≡ other
its_scan other same = cc

-- the row of the listed file
listed_row_may_not_go : MayGo the_run (record hidden { row = row }) → ⊥
listed_row_may_not_go may = may.not_shown (subst (λ s. ShowsKey the_run s key) (its_scan may.scan may.scan_is) shows_key)

-- a row that is not the opening one of its key
other_row_may_not_go : MayGo the_run (record hidden { row = record absent_row { offset = 8 } }) → ⊥
other_row_may_not_go may =
    let q : Some absent_row ≡ Some (record absent_row { offset = 8 }) = may.found in
    let same : absent_row ≡ record absent_row { offset = 8 } = cc in
    let offsets : 7 ≡ 8 = ap (λ (r : Row). r.offset) same in
    omega (arith, offsets)

-- a row of an input that does not clean
abbrev keeping_run : Run
keeping_run = record the_run { settings = record settings { inputs = record input { clean_removed = false } ∷ [] } }

row_of_keeping_input_may_not_go : MayGo keeping_run hidden → ⊥
row_of_keeping_input_may_not_go may =
    let q : Some (record input { clean_removed = false }) ≡ Some may.rule = may.rule_is in
    let rule : record input { clean_removed = false } ≡ may.rule = cc in
    let cleans : false ≡ true = ap (λ (r : InputRule). r.clean_removed) rule ∙ may.cleans in
    cc

-- a row that is begun by another path than its own, though no scan showed its key
other_path_may_not_go : MayGo the_run (record hidden { path = codes "/w/c.log" }) → ⊥
other_path_may_not_go may = elim may.path [
  | inl own ↦
      -- the letters behind the folder's name
      let letters : 99 ≡ 98 = ap (λ (l : List ℕ). get_or l 3 0) own.1 in
      omega (arith, letters)
  | inr shown ↦
      let earlier : shown.place < 0 = shown.earlier in
      omega (arith, earlier)
]

-- one row twice
row_goes_once : MayAllGo the_run (hidden ∷ hidden ∷ []) → ⊥
row_goes_once may = may.apart.0 (first_there (hidden_key hidden) [])

-- the row of a file that a scan hides of which a listing failed
abbrev partial_run : Run
partial_run = record the_run { trace = record trace { events = ListingFailed ∷ ListingFailed ∷ [] } }

row_may_not_go_by_a_partial_scan : MayGo partial_run hidden → ⊥
row_may_not_go_by_a_partial_scan may =
    let whole = subst (IsWhole partial_run) (sym (its_scan may.scan may.scan_is)) may.whole in
    let listed = whole.none_failed.0 in
    absurd (let q : Some ListingFailed ≡ Some (Listed listed.root listed.depth listed.entries) = listed.listed in cc)

-- ---- what its notes make of the row

begin_leaves_the_row : row_over 1 (hidden_begin hidden ∷ []) ≡ Some absent_row
begin_leaves_the_row = refl

forget_lets_it_go : row_over 1 (hidden_begin hidden ∷ hidden_forget hidden ∷ []) ≡ None
forget_lets_it_go = refl

-- notes are not orderly in which a span is settled before its slot begins
begin_behind_its_span : AreOrderly (Settle (record { 0 = 1 }) (record { 0 = 2 }) (record { start = 7; end = 9 }) Acked ∷ hidden_begin hidden ∷ []) → ⊥
begin_behind_its_span orderly =
    let first = orderly.each [] (Settle (record { 0 = 1 }) (record { 0 = 2 }) (record { start = 7; end = 9 }) Acked) (hidden_begin hidden ∷ []) refl in
    absurd (let q : false ≡ true = first.0 in cc)
