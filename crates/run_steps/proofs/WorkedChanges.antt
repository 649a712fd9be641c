-- Worked changes between two rounds: the second scan of a run lists a file by another path, and the lane of its slot hears of it. A scan that was not made
-- gives no name, and no other lane hears of the file.
use Rattle.std.proofs.Common.{◌≡◌, ◌⊎◌, inl, inr, ℕ, true, List, [], ◌∷◌, ◌++◌, Contains, length, None, Some, refl, sym, ap, ◌∙◌, arith}
use Rattle.accounts.specs.Opened.{Opened}
use Rattle.accounts.specs.Watch.{Name}
use Rattle.lanes.specs.Changing.{ChangesOne, HasStirred}
use Rattle.lanes.specs.Laning.{Laning}
use Rattle.prospect.specs.declared.listed.Listed.{Listed}
use Rattle.ship_core.proofs.Members.{first_there, none_there, there_cases}
use Rattle.wire_base.specs.declared.note.Note.{Note}
use Rattle.wire_base.specs.declared.note.Note.TheVariants.{Rename}
use Rattle.run_steps.specs.Changing.{ChangesOf}
use Rattle.run_steps.specs.LaterScans.{LaterScan}
use Rattle.run_steps.specs.Renamed.{IsNewestName, IsRenameOf}
use Rattle.run_steps.proofs.LaterScans.{none_named}

-- ---- a name

module _ (file : Opened) (one : Listed) (keyed : one.key ≡ Some file.begin.key) where
  -- the scan after the first one, of a folder that tells nothing
  abbrev second_scan : List Listed → LaterScan
  second_scan files = record { moment = 0; files = files; doubled = []; whole = true; told = None }

  abbrev its_name : Name
  its_name = record { scan = 1; path = one.path }

  newest : IsNewestName (second_scan (one ∷ []) ∷ []) file its_name
  newest = record {
    named = record {
      before = [];
      scan = second_scan (one ∷ []);
      later = [];
      scans_are = refl;
      number_is = refl;
      after = tt;
      one = one;
      listed = first_there one [];
      keyed = keyed;
      path_is = refl;
    };
    newest = refl;
    only = λ other there same. by_case other (there_cases one other [] there);
  }
    where
      by_case : (other : Listed) → (one ≡ other) ⊎ Contains [] other → other.path ≡ one.path
      by_case other (inl is) = ap (λ (l : Listed). l.path) (sym is)
      by_case other (inr none) = absurd (none_there other none)

  is_rename : IsRenameOf (second_scan (one ∷ []) ∷ []) (file ∷ []) (Rename file.begin.slot 1 one.path)
  is_rename = record { file = file; among = first_there file []; name = its_name; named = newest.named; is = refl }

  -- the first scan names no file
  first_scan_is_refused : (note : Note) → IsRenameOf [] (file ∷ []) note → ⊥
  first_scan_is_refused note is = none_named [] refl is.file is.name is.named

  -- the second scan is the last one
  third_scan_is_refused : (path : List ℕ) → IsNewestName (second_scan (one ∷ []) ∷ []) file (record { scan = 2; path = path }) → ⊥
  third_scan_is_refused path is = let number = is.newest in omega (arith, number)

-- ---- a lane

module _ {T : Type 0} (first second after : Laning T) (changes : ChangesOne (record { 0 = 1 }) HasStirred second after) where
  -- the slot 1 is in the second of two lanes
  second_hears : ChangesOf (record { 0 = 1 }) HasStirred (first ∷ second ∷ []) (first ∷ after ∷ [])
  second_hears = record { front = first ∷ []; lane = second; back = []; were = refl; at = refl; after = after; changes = changes; are = refl }

module _ {T : Type 0} (first second other : Laning T) where
  first_hears_nothing : (after : Laning T) → ChangesOf (record { 0 = 1 }) HasStirred (first ∷ second ∷ []) (other ∷ after ∷ []) → other ≡ first
  first_hears_nothing after is = by_front is.front is.were is.are is.at
    where
      by_front : (front : List (Laning T)) → first ∷ second ∷ [] ≡ front ++ is.lane ∷ is.back → other ∷ after ∷ [] ≡ front ++ is.after ∷ is.back → length front ≡ 1 → other ≡ first
      by_front [] were are at = absurd (omega (arith, at))
      by_front (x ∷ front) were are at = let one : first ≡ x = cc in let same : other ≡ x = cc in same ∙ sym one
