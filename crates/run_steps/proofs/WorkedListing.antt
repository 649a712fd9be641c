-- Worked openings of one file by the scans of a run, which listed it with 9 bytes. One by the first scan, one before a later scan that did not list the
-- file, and one by a later scan are such openings; another size, an opening that was made before the scan that listed the file, and one that was made
-- after a scan that did not list it any more are refused. A tail that was closed before the next opening is taken, and one that was closed after it is refused.
use Rattle.std.proofs.Common.{◌≡◌, inl, inr, ⊎_elim, ℕ, ◌≤◌, true, List, [], ◌∷◌, ◌++◌, Contains, codes, length, IfSome, Some, refl, sym, ap, subst, ◌∙◌, arith}
use Rattle.accounts.specs.Opened.{Opened}
use Rattle.event_tree.specs.declared.input_rule.InputRule.{InputRule}
use Rattle.outside.specs.Files.{File}
use Rattle.outside.specs.Folders.{Closed, Event, Opened as Opens}
use Rattle.outside.specs.Tails.{TailHistory}
use Rattle.prospect.specs.declared.listed.Listed.{Listed}
use Rattle.ship_core.proofs.Members.{first_there, none_there, there_cases}
use Rattle.told_scans.specs.ToldScan.{ToldScan}
use Rattle.run_steps.specs.LaterScans.{LaterScan}
use Rattle.run_steps.specs.ListedSo.{IsByEntry, WasListedSo, newest_files}
use Rattle.run_steps.specs.Shown.{WasClosedBy}

-- ---- lists

none_in : (front : List LaterScan) (scan : LaterScan) (behind : List LaterScan) → [] ≡ front ++ scan ∷ behind → ⊥
none_in [] scan behind are = cc
none_in (one ∷ front) scan behind are = cc

only_one : (one : LaterScan) (front : List LaterScan) (scan : LaterScan) (behind : List LaterScan) → one ∷ [] ≡ front ++ scan ∷ behind → one ≡ scan
only_one one [] scan behind are = let same : one ≡ scan = cc in same
only_one one (first ∷ front) scan behind are = absurd (none_in front scan behind (let same : [] ≡ front ++ scan ∷ behind = cc in same))

-- ---- the scan that listed it

module _ (rule : InputRule) (file : File) (told : ToldScan) (began : length told.earlier.events ≡ 6) (ended : length told.scanned.events ≡ 7) where
  abbrev entry : Listed
  entry = record { input = 0; key = Some (1 ∷ []); path = codes "/a"; size = 9; changed = record { 0 = 5 } }

  -- opened at this place of the folder's list, and begun with this size
  abbrev opened_with : ℕ → ℕ → Opened
  opened_with opening size = record {
    begin = record { slot = record { 0 = 4 }; input = 0; key = 1 ∷ []; path = codes "/a"; size = size; epoch = record { 0 = 0 }; base = 0 };
    rule = rule;
    opening = opening;
    number = 0;
    begun = record { life = 0; length = 9 };
    file = file;
    asked = [];
  }

  -- a later scan that listed these
  abbrev scan_of : List Listed → LaterScan
  scan_of files = record { moment = 2; files = files; doubled = []; whole = true; told = Some told }

  by_entry : (opening : ℕ) → IsByEntry (entry ∷ []) (opened_with opening 9)
  by_entry opening = record { entry = entry; there = first_there entry []; keyed = refl; path_is = refl; input_is = refl; size_is = refl }

  by_the_first_scan : WasListedSo (entry ∷ []) [] (opened_with 8 9)
  by_the_first_scan = inl (record { by_entry = by_entry 8; until = tt })

  before_a_later_scan : WasListedSo (entry ∷ []) (scan_of [] ∷ []) (opened_with 4 9)
  before_a_later_scan = inl (record { by_entry = by_entry 4; until = (omega (arith, began), tt) })

  by_a_later_scan : WasListedSo [] (scan_of (entry ∷ []) ∷ []) (opened_with 8 9)
  by_a_later_scan = inr (record {
    front = [];
    scan = scan_of (entry ∷ []);
    behind = [];
    scans_are = refl;
    by_entry = by_entry 8;
    since = omega (arith, ended);
    until = tt;
  })

  newest_is_the_later_one : newest_files (entry ∷ []) (scan_of [] ∷ []) ≡ []
  newest_is_the_later_one = refl

  -- ---- refused

  size_of_it : (opening size : ℕ) → IsByEntry (entry ∷ []) (opened_with opening size) → size ≡ 9
  size_of_it opening size is =
      ⊎_elim (λ (same : entry ≡ is.entry). is.size_is ∙ ap (λ (l : Listed). l.size) (sym same)) (λ none. absurd (none_there is.entry none)) (there_cases entry is.entry [] is.there)

  -- it was listed with 9 bytes, and begins with 3
  other_size_is_refused : WasListedSo (entry ∷ []) [] (opened_with 8 3) → ⊥
  other_size_is_refused (inl was) = let is = size_of_it 8 3 was.by_entry in omega (arith, is)
  other_size_is_refused (inr was) = none_in was.front was.scan was.behind was.scans_are

  -- opened before the one scan that listed it
  too_early_is_refused : WasListedSo [] (scan_of (entry ∷ []) ∷ []) (opened_with 3 9) → ⊥
  too_early_is_refused (inl was) = none_there was.by_entry.entry was.by_entry.there
  too_early_is_refused (inr was) =
      let since : length told.scanned.events ≤ 3 =
      subst (λ (s : LaterScan). IfSome s.told (λ told. length told.scanned.events ≤ 3)) (sym (only_one (scan_of (entry ∷ [])) was.front was.scan was.behind was.scans_are)) was.since in
      omega (arith, since, ended)

  -- opened after a scan that did not list it any more
  too_late_is_refused : WasListedSo (entry ∷ []) (scan_of [] ∷ []) (opened_with 8 9) → ⊥
  too_late_is_refused (inl was) = let before = was.until.0 in omega (arith, before, began)
  too_late_is_refused (inr was) =
      none_there was.by_entry.entry (subst (λ (s : LaterScan). Contains s.files was.by_entry.entry) (sym (only_one (scan_of []) was.front was.scan was.behind was.scans_are)) was.by_entry.there)

  -- ---- the tail before it

  abbrev opens : Event
  opens = Opens (codes "/a") 0 (record { life = 0; length = 9 })

  abbrev tail : TailHistory
  tail = record { opening = 0; number = 0; file = file; begun = record { life = 0; length = 9 }; looks = [] }

  closed_between : WasClosedBy (record { files = file ∷ []; events = opens ∷ Closed 0 [] 0 ∷ opens ∷ [] }) tail 2
  closed_between = record { place = 1; faults = 0; closed = refl; since = omega arith; before = omega arith }

  closed_later_is_refused : WasClosedBy (record { files = file ∷ []; events = opens ∷ opens ∷ Closed 0 [] 0 ∷ [] }) tail 1 → ⊥
  closed_later_is_refused is = let since = is.since in let before = is.before in omega (arith, since, before)
