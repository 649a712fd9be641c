-- Of the listed files that have one key, each that is not followed has a later path than the one that is.
use Rattle.std.proofs.Common.{◌≡◌, ◌≢◌, ℕ, List, Contains, Some, refl, sym, ◌∙◌}
use Rattle.std.proofs.lemmas.List.Elements.{Contains-append_left, Contains-append_right}
use Rattle.std.specs.Prelude.{slice_get}
use Rattle.std.specs.List.{AllByRecursion}
use Rattle.std.specs.declared.cmp.Ordering.{Ordering}
use Rattle.std.specs.declared.cmp.Ordering.TheVariants.{Equal, Greater, Less}
use Rattle.accounts.proofs.Following.{got_each}
use Rattle.accounts.proofs.NamedKeys.{key_of_entry, same_id}
use Rattle.accounts.specs.RunsInARow.{HaveOwnIds}
use Rattle.event_tree.specs.declared.input_rule.InputRule.{InputRule}
use Rattle.kept_rows.specs.Followed.{IsKeyOf}
use Rattle.kept_rows.specs.Run.{Run}
use Rattle.kept_rows.specs.Trace.{WireTold}
use Rattle.prospect.proofs.Doubled.{double_has_first}
use Rattle.prospect.specs.Doubled.{HasFirst}
use Rattle.prospect.specs.declared.listed.Listed.{Listed}
use Rattle.wire_base.proofs.ByteOrder.{compare_less, same_key}
use Rattle.wire_base.specs.KeyOrder.{compare}
use Rattle.run_steps.specs.Began.{Began}
use Rattle.run_steps.specs.RunOf.{FolderTold, run_of, told_scan}
use Rattle.run_steps.specs.Scanned.{HasScanned}
use Rattle.run_steps.specs.Shown.{HasDone}
use Rattle.run_steps.specs.SoFar.{SoFar, files_of}
use Rattle.accounts.proofs.InARow.{same_place}
use Rattle.run_steps.proofs.EarlierOn.{opened_once}
use Rattle.run_steps.proofs.NamedInputs.{inputs_have_own_ids}
use Rattle.told_scans.proofs.NamesApart.{names_apart}
use Rattle.told_scans.proofs.ScanList.{entry_of, everyone, keyed_files}
use Rattle.told_scans.proofs.ScanOf.{rule_of, shows_file}
use Rattle.told_scans.proofs.FirstPaths.{apart, none_before}
use Rattle.told_scans.specs.ToldScan.{IsAround, IsTold, RunAround, ToldScan}
use Rattle.run_steps.proofs.OneScan.{around_one, is_around, told_so}

module _ {D : Type 0} (start : Began D) (folder : FolderTold) (has : HasScanned start folder) (so_far : SoFar) (done : HasDone start.settings folder.scanned folder.ended (files_of (opened_once so_far)))
    (wires : List WireTold) where
  abbrev run : Run
  run = run_of start folder so_far.moments wires

  abbrev inputs : List InputRule
  inputs = start.settings.inputs

  abbrev the_scan : ToldScan
  the_scan = told_scan start folder

  abbrev scan_told : IsTold the_scan
  scan_told = told_so start folder has

  abbrev around_scan : RunAround
  around_scan = around_one start folder so_far.moments wires

  abbrev stands_around : IsAround the_scan around_scan
  stands_around = is_around start folder so_far done wires

  abbrev all_keyed : List Listed
  all_keyed = keyed_files the_scan scan_told around_scan stands_around

  abbrev each : List Listed
  each = everyone the_scan scan_told around_scan stands_around

  -- ---- a doubled file

  -- a file with its key is followed, and has an earlier path
  pub record HasEarlier (double : Listed) : Type 0 where
    pub first : Listed
    pub key : List ℕ
    pub among : Contains start.listed first
    pub keyed : double.key ≡ Some key
    pub same : first.key ≡ Some key
    pub before : compare first.path double.path ≡ Less

  -- a key is of the input whose file has it
  rule_with_key : (one : Listed) (among : Contains each one) (key : List ℕ) → one.key ≡ Some key → (rule : InputRule) × (slice_get inputs one.input ≡ Some rule) × IsKeyOf rule.id key
  rule_with_key one among key keyed =
      let of = entry_of the_scan scan_told around_scan stands_around one among in
      let its = shows_file the_scan scan_told around_scan stands_around one among of key keyed of.by.rule (rule_of the_scan scan_told around_scan stands_around one of) in
      (its.shows.rule, its.shows.rule_is, key_of_entry run.trace its.shows.rule of.shown its.shows.asking.opening key its.number its.shows.gave)

  pub double_has_earlier : (double : Listed) → Contains start.doubled double → HasEarlier double
  double_has_earlier double there = record {
    first = first;
    key = of.key;
    among = of.among;
    keyed = of.key_is;
    same = of.same_key;
    before = by_order (compare first.path double.path) refl;
  }
    where
      of : HasFirst start.listed double
      of = double_has_first all_keyed start.listed start.doubled has.parts double there

      first : Listed
      first = of.first

      in_everyone : Contains each double
      in_everyone = Contains-append_right start.listed start.doubled double there

      first_in_everyone : Contains each first
      first_in_everyone = Contains-append_left start.listed start.doubled first of.among

      own_ids : HaveOwnIds inputs
      own_ids = inputs_have_own_ids start.settings has.in_range

      -- one path has one file of a key
      not_one_path : first.path ≡ double.path → ⊥
      not_one_path same =
          let its = rule_with_key first first_in_everyone of.key of.same_key in
          let other = rule_with_key double in_everyone of.key of.key_is in
          let id : its.0.id ≡ other.0.id =
          same_id its.0.id other.0.id of.key (no_colon_at first.input its.0 its.1) (no_colon_at double.input other.0 other.1) its.2 other.2 in
          let input : first.input ≡ double.input = same_place (λ (rule : InputRule). rule.id) inputs first.input double.input its.0 other.0 own_ids.ids_apart its.1 other.1 id in
          names_apart all_keyed start.listed start.doubled has.parts (apart the_scan scan_told around_scan stands_around) first double of.among there
          (λ k. record { place = record { path = same k; input = input k }; key = (of.same_key ∙ sym of.key_is) k })
        where
          no_colon_at : (input : ℕ) (rule : InputRule) → slice_get inputs input ≡ Some rule → AllByRecursion (λ byte. byte ≢ 58) rule.id
          no_colon_at input rule is = got_each (λ (r : InputRule). AllByRecursion (λ byte. byte ≢ 58) r.id) inputs input rule own_ids.no_colon is

      by_order : (o : Ordering) → compare first.path double.path ≡ o → compare first.path double.path ≡ Less
      by_order Less is = is
      by_order Equal is = absurd (not_one_path (same_key first.path double.path is))
      by_order Greater is = absurd (none_before the_scan scan_told around_scan stands_around first double of.key of.among in_everyone of.same_key of.key_is (compare_less first.path double.path is))
