-- Files by the entries of later scans: without later scans there is none, and with one more those of the others stay.
use Rattle.std.proofs.Common.{◌≡◌, inl, inr, List, [], ◌∷◌, ◌++◌, Contains, Option, subst}
use Rattle.std.proofs.lemmas.List.Elements.{Contains-append_left}
use Rattle.std.specs.Prelude.{slice_get, Some}
use Rattle.std.specs.List.{AllByRecursion}
use Rattle.accounts.proofs.Lists.{each_then}
use Rattle.accounts.specs.Opened.{Opened}
use Rattle.event_tree.specs.declared.settings.Settings.{Settings}
use Rattle.outside.specs.Folders.{FolderHistory}
use Rattle.prospect.specs.declared.listed.Listed.{Listed}
use Rattle.ship_core.proofs.Members.{none_there}
use Rattle.wire_base.specs.declared.row.Row.{Row}
use Rattle.run_steps.specs.Begun.{IsEntryOf, IsOpenedAsListed, IsOpenedAsListedFirst}
use Rattle.run_steps.specs.LaterScans.{LaterScan}
use Rattle.run_steps.specs.ListedLater.{GaveEntry}

-- ---- without later scans

pub gave_none : (scans : List LaterScan) (one : Listed) → scans ≡ [] → GaveEntry scans one → ⊥
gave_none scans one none gave = none_there gave.scan (subst (λ (l : List LaterScan). Contains l gave.scan) none gave.of_scans)

pub first_entry : (scans : List LaterScan) (listed : List Listed) (file : Opened) (one : Listed) → scans ≡ [] → IsEntryOf scans listed file one → slice_get listed file.begin.slot.0 ≡ Some one
first_entry scans listed file one none (inl first) = first
first_entry scans listed file one none (inr later) = absurd (gave_none scans one none later.0)

module _ (settings : Settings) (shown : Option FolderHistory) (rows : List Row) (listed : List Listed) where
  pub listed_first : (scans : List LaterScan) (opened : Opened) → scans ≡ [] → IsOpenedAsListed settings shown rows listed scans opened → IsOpenedAsListedFirst settings rows listed opened
  listed_first scans opened none (inl first) = first
  listed_first scans opened none (inr later) = absurd (none_there later.scan (subst (λ (l : List LaterScan). Contains l later.scan) none later.of_scans))

  -- ---- with one scan more

  module _ (scans : List LaterScan) (scan : LaterScan) where
    listed_on : (opened : Opened) → IsOpenedAsListed settings shown rows listed scans opened → IsOpenedAsListed settings shown rows listed (scans ++ scan ∷ []) opened
    listed_on opened (inl first) = inl first
    listed_on opened (inr later) = inr (record {
      scan = later.scan;
      of_scans = Contains-append_left scans (scan ∷ []) later.scan later.of_scans;
      one = later.one;
      among = later.among;
      keyed = later.keyed;
      start = later.start;
      starts = later.starts;
      begin_is = later.begin_is;
      long_enough = later.long_enough;
      after = later.after;
      rule_is = later.rule_is;
      in_range = later.in_range;
    })

    pub all_listed_on : (opened : List Opened) → AllByRecursion (IsOpenedAsListed settings shown rows listed scans) opened → AllByRecursion (IsOpenedAsListed settings shown rows listed (scans ++ scan ∷ [])) opened
    all_listed_on opened each = each_then (IsOpenedAsListed settings shown rows listed scans) (IsOpenedAsListed settings shown rows listed (scans ++ scan ∷ [])) opened listed_on each

pub entry_on : (scans : List LaterScan) (scan : LaterScan) (listed : List Listed) (file : Opened) (one : Listed) → IsEntryOf scans listed file one → IsEntryOf (scans ++ scan ∷ []) listed file one
entry_on scans scan listed file one (inl first) = inl first
entry_on scans scan listed file one (inr later) =
    inr (record { scan = later.0.scan; of_scans = Contains-append_left scans (scan ∷ []) later.0.scan later.0.of_scans; among = later.0.among }, later.1)
