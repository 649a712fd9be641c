-- Of the listed files that have one key, the one that is followed has the first path; each of the others has a later one.
use Rattle.std.proofs.Common.{◌≡◌, ◌≢◌, ⊎_elim, ℕ, List, [], ◌∷◌, Contains, Some, None, sym, ap, subst, ◌∙◌}
use Rattle.std.specs.Ordering.{nat_cmp, ordering_then}
use Rattle.std.specs.declared.cmp.Ordering.{Ordering}
use Rattle.std.specs.declared.cmp.Ordering.TheVariants.{Equal, Less}
use Rattle.event_tree.specs.declared.input_rule.InputRule.{InputRule}
use Rattle.file_identity.specs.Answers.{IsFingerprint}
use Rattle.file_identity.specs.Key.{named_key}
use Rattle.kept_rows.specs.Run.{Run, Scan}
use Rattle.kept_rows.specs.Scans.{IsFirstPath, ShowsFile}
use Rattle.prospect.proofs.Doubled.{first_in_order}
use Rattle.prospect.specs.AskedFiles.{Answer, AskedFile, ByName, Gave, NotFound, TooFew}
use Rattle.prospect.specs.Doubled.{Before}
use Rattle.prospect.specs.ListedFiles.{AreApart, AreInOrder, place_of, place_order}
use Rattle.prospect.specs.declared.listed.Listed.{Listed}
use Rattle.wire_base.proofs.ByteOrder.{compare_same}
use Rattle.wire_base.specs.KeyOrder.{compare}
use Rattle.told_scans.proofs.AskedEvents.{AnswerStands}
use Rattle.told_scans.proofs.KeyedFiles.{IsSorted, IsSortedBy, keyed_apart, keyed_in_order}
use Rattle.told_scans.proofs.ScanAskings.{no_name}
use Rattle.told_scans.proofs.ScanList.{answered, asked_in_order, asked_named_apart, everyone, in_keyed, keyed_files, shown_of}
use Rattle.told_scans.proofs.ScanOf.{HasTheKey, shown_is_listed}
use Rattle.told_scans.proofs.Members.{each_member, some_is}
use Rattle.told_scans.specs.ToldScan.{IsAround, IsTold, RunAround, ToldScan, run_around, scan_by}

module _ (told : ToldScan) (has : IsTold told) (around : RunAround) (on : IsAround told around) where
  abbrev run : Run
  run = run_around told around

  abbrev scan : Scan
  scan = scan_by told

  abbrev inputs : List InputRule
  inputs = told.settings.inputs

  abbrev all_keyed : List Listed
  all_keyed = keyed_files told has around on

  abbrev each : List Listed
  each = everyone told has around on

  -- ---- the order

  abbrev NotAhead : Listed → Listed → Type 0
  NotAhead first other = place_order (place_of other) (place_of first) ≢ Less

  before_all : (some : List Listed) → AreInOrder some → Before NotAhead some
  before_all [] in_order = tt
  before_all (one ∷ some) in_order = (in_order.0, before_all some in_order.1)

  in_order : AreInOrder all_keyed
  in_order = keyed_in_order told.asked (asked_in_order told has around on)

  -- no listed file with the key of one that is followed has a path before it
  pub none_before : (first other : Listed) (key : List ℕ) → Contains told.files first → Contains each other → first.key ≡ Some key → other.key ≡ Some key → compare other.path first.path ≢ Less
  none_before first other key there among keyed same less =
      ⊎_elim (λ is. let q : Less ≡ Equal = sym less ∙ compare_same other.path first.path (ap (λ (l : Listed). l.path) (sym is)) in cc)
      (λ not_ahead. not_ahead (ap (λ (o : Ordering). ordering_then o (nat_cmp other.input first.input)) less))
      (first_in_order all_keyed told.files told.doubled has.parts NotAhead (before_all all_keyed in_order) first other key there (in_keyed told has around on other among) keyed same)

  pub is_first_path : (one : Listed) (key : List ℕ) (number : ℕ) → Contains told.files one → one.key ≡ Some key → ShowsFile run scan key number one.path → IsFirstPath run scan key number one.path
  is_first_path one key number there keyed shows = record {
    shows = shows;
    first = λ other shows_other less.
        let of : HasTheKey told has around on key other = shown_is_listed told has around on key number other shows_other in
        none_before one of.one key there of.among keyed of.keyed (subst (λ (p : List ℕ). compare p one.path ≡ Less) (sym of.path_is) less);
  }

  -- ---- names

  sorted : (of : AskedFile) → Contains told.asked of → IsSorted inputs of
  sorted of there =
      let its = answered told has around on of there in
      let shown = shown_of told has around on of there in
      let rule = some_is shown.by.rule its.rule (sym shown.by.rule_is ∙ its.rule_is) in
      record {
        rule = its.rule;
        rule_is = its.rule_is;
        sorted = by_answer its.rule of.answer its.stands
            (λ by_bytes. shown.by.key_is ∙ ap (λ (r : InputRule). named_key r.id r.file_identity shown.shown.entry.path shown.shown.entry.native) rule
            ∙ no_name its.rule.id its.rule.file_identity shown.shown.entry.path shown.shown.entry.native by_bytes);
      }
    where
      by_answer : (rule : InputRule) (answer : Answer) → AnswerStands rule of.listed answer around.ended → (IsFingerprint rule.file_identity → of.listed.key ≡ None) → IsSortedBy rule of.listed answer
      by_answer rule ByName stands none = stands
      by_answer rule (Gave opening key) stands none = (stands.by_bytes, none stands.by_bytes)
      by_answer rule (TooFew opening) stands none = stands.by_bytes
      by_answer rule (NotFound opening) stands none = stands.by_bytes

  pub apart : AreApart all_keyed
  apart = keyed_apart inputs told.asked (each_member (IsSorted inputs) told.asked sorted) (asked_named_apart told has around on)
