-- The later scans of a run, as its clock goes on.
use Rattle.std.proofs.Common.{◌≡◌, ℕ, List, [], ◌∷◌, ◌++◌, map, sym, ◌∙◌}
use Rattle.accounts.proofs.Lists.{in_order_on}
use Rattle.run_steps.specs.Began.{Began}
use Rattle.accounts.specs.Opened.{Opened}
use Rattle.accounts.specs.Watch.{Name}
use Rattle.run_steps.specs.LaterScans.{AreLaterScans, LaterScan, WasNamed}

pub scans_on : {D : Type 0} (start : Began D) (moments more : List ℕ) (scans : List LaterScan) → AreLaterScans start moments scans → AreLaterScans start (moments ++ more) scans
scans_on start moments more scans are = record {
  none_with_once = are.none_with_once;
  timed = in_order_on (start.moment ∷ map (λ (scan : LaterScan). scan.moment) scans) moments more are.timed;
  known = are.known;
}

-- without any, no file has another name
pub none_named : (scans : List LaterScan) → scans ≡ [] → (opened : Opened) (name : Name) → WasNamed scans opened name → ⊥
none_named scans none opened name named = none_in named.before (sym none ∙ named.scans_are)
  where
    none_in : (before : List LaterScan) → [] ≡ before ++ named.scan ∷ named.later → ⊥
    none_in [] is = cc
    none_in (one ∷ before) is = cc
