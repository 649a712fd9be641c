-- A run over listed files that was accounted for leaves no row of a removed file where it tells a report.
use Rattle.std.proofs.Common.{◌≡◌, ℕ, zero, suc, true, All, Any, IsSome, List, [], ◌∷◌, map, Option, Some, None, refl, sym, subst, arith}
use Rattle.std.proofs.lemmas.List.Elements.{All-from_recursion, recursion_from_All}
use Rattle.std.specs.Prelude.{flat_map, slice_get}
use Rattle.std.specs.List.{AllByRecursion}
use Rattle.accounts.proofs.Lists.{each_then}
use Rattle.event_tree.specs.declared.input_rule.IdentityRule.{IdentityRule}
use Rattle.event_tree.specs.declared.input_rule.IdentityRule.TheVariants.{Fingerprint, Native, Path}
use Rattle.event_tree.specs.declared.input_rule.InputRule.{InputRule}
use Rattle.event_tree.specs.declared.settings.Settings.{Settings}
use Rattle.file_rows.specs.Removed.{IsRemoved}
use Rattle.kept_rows.specs.Followed.{IsKeyOf}
use Rattle.kept_rows.specs.Run.{Run, Scan}
use Rattle.kept_rows.proofs.Showing.{both}
use Rattle.kept_rows.specs.Scans.{ShowsKey}
use Rattle.outside.specs.Folders.{FolderHistory}
use Rattle.prospect.proofs.Doubled.{each_file}
use Rattle.file_identity.specs.Answers.{IsFingerprint}
use Rattle.prospect.specs.AskedFiles.{Answer, AnswersSo, AskedFile, AsksFrom, ByName, Gave, NotFound, TooFew, keyed_as, keyed_by}
use Rattle.prospect.specs.ListedFiles.{IsKeyed, KeyIsTold}
use Rattle.prospect.specs.declared.listed.Listed.{Listed}
use Rattle.report.specs.declared.passing.Passing.{Passing}
use Rattle.rounds.specs.Words.{DiskWords}
use Rattle.told_scans.proofs.Members.{some_is}
use Rattle.run_steps.specs.AccountedFor.{RunObjects}
use Rattle.run_steps.specs.AccountedOver.{AccountedOver}
use Rattle.run_steps.specs.Began.{Began}
use Rattle.run_steps.specs.RunOf.{FolderTold}
use Rattle.run_steps.specs.Scanned.{HasScanned}
use Rattle.run_steps.specs.declared.met.Met.{Met}
use Rattle.wire_base.specs.declared.row.Row.{Row}
use Rattle.beat_run.specs.Accounted.{IsOfRemovedFile, LeavesNoRemoved}
use Rattle.beat_run.proofs.Accounts.{IsWorked}
use Rattle.beat_run.proofs.Causes.{left_telling}

-- ---- lists

-- the item at this place
any_got : {A : Type 0} (P : A → Type 0) (xs : List A) (i : ℕ) (x : A) → slice_get xs i ≡ Some x → P x → Any P xs
any_got P [] i x at is = absurd (let q : None ≡ Some x = at in cc)
any_got P (first ∷ xs) zero x at is = (0, x, omega arith, some_is first x at, is)
any_got P (first ∷ xs) (suc i) x at is = let later = any_got P xs i x at is in (suc later.0, later.1, omega (arith, later.2), later.3, later.4)

-- ---- the key of each file that is followed is known

known_by : (identity : IdentityRule) (key : Option (List ℕ)) → ¬ (IsFingerprint identity) → KeyIsTold identity key → IsSome key
known_by (Fingerprint offset count) key by_entry told = absurd (by_entry tt)
known_by Native key by_entry told = told
known_by Path key by_entry told = told

module _ (inputs : List InputRule) where
  known_as : (rule : InputRule) (one : Listed) (answer : Answer) (before after : FolderHistory) → KeyIsTold rule.file_identity one.key → AnswersSo rule one answer before after →
      AllByRecursion (λ (file : Listed). IsSome file.key) (keyed_as one answer)
  known_as rule one ByName before after told so = (known_by rule.file_identity one.key so.0 told, tt)
  known_as rule one (Gave opening key) before after told so = (refl, tt)
  known_as rule one (TooFew opening) before after told so = tt
  known_as rule one (NotFound opening) before after told so = tt

  -- each file that was asked and has a key has one that is told
  all_known : (asked : List AskedFile) (before after : FolderHistory) → AsksFrom inputs asked before after → AllByRecursion (IsKeyed inputs) (map (λ (one : AskedFile). one.listed) asked) →
      AllByRecursion (λ (file : Listed). IsSome file.key) (flat_map keyed_by asked)
  all_known [] before after asks keyed = tt
  all_known (one ∷ asked) before after asks keyed =
      both (λ (file : Listed). IsSome file.key) (keyed_by one) (flat_map keyed_by asked)
      (known_as asks.1.rule one.listed one.answer before asks.0 (keyed.0 asks.1.rule asks.1.rule_is) asks.1.answered)
      (all_known asked asks.0 after asks.2 keyed.1)

pub keys_are_known : {D : Type 0} (start : Began D) (folder : FolderTold) → HasScanned start folder → All (λ (one : Listed). IsSome one.key) start.listed
keys_are_known start folder has =
    let keyed = subst (λ (l : List Listed). AllByRecursion (IsKeyed start.settings.inputs) l) (sym has.asked_are) (recursion_from_All (IsKeyed start.settings.inputs) has.all has.keyed) in
    each_file (flat_map keyed_by folder.asked) start.listed start.doubled has.parts (λ (one : Listed). IsSome one.key)
    (All-from_recursion (λ (one : Listed). IsSome one.key) (flat_map keyed_by folder.asked) (all_known start.settings.inputs folder.asked folder.listed folder.scanned has.asks keyed))

-- ---- none of a removed file is left

module _ {D : Type 0} (disks : DiskWords D) (settings : Settings) (opening : List Row) (listed : List Listed) (known : All (λ (listing : Listed). IsSome listing.key) listed)
    (moment scanned : ℕ) (objects : RunObjects D) (met : Met) (passed : List Passing) (shipped dropped : ℕ) (over : AccountedOver disks settings opening listed moment scanned objects met passed shipped dropped) where
  abbrev run : Run
  run = over.accounted.run

  is_removed : (row : Row) → IsOfRemovedFile run row → IsRemoved settings.inputs listed row.key
  is_removed row of = record {
    all_known = known;
    cleaned = any_got (λ (rule : InputRule). (rule.clean_removed ≡ true) × IsKeyOf rule.id row.key) settings.inputs of.input of.rule
        (subst (λ (s : Settings). slice_get s.inputs of.input ≡ Some of.rule) over.accounted.by_settings of.rule_is) (of.cleans, of.key_of_input);
    unlisted = λ there.
        (subst (AllByRecursion (λ (s : Scan). ¬ (ShowsKey run s row.key))) over.only of.hidden).0
        (over.lists there.1 row.key (there.0, there.2, there.3) there.4);
  }

  none_of_removed_files : LeavesNoRemoved disks objects met run
  none_of_removed_files were telling first second rows a_is b_is gives =
      each_then (λ (row : Row). ¬ (IsRemoved settings.inputs listed row.key)) (λ (row : Row). ¬ (IsOfRemovedFile run row)) rows (λ row stays of. stays (is_removed row of))
      (over.cleaned were telling first second rows a_is b_is gives)

  pub worked_over : IsWorked disks settings met shipped dropped listed moment scanned passed objects
  worked_over = record {
    accounted = over.accounted;
    begins = over.begins;
    cleaned = none_of_removed_files;
    placed = over.placed;
    numbers = λ telling. over.numbers (left_telling met telling);
    counted = over.counted;
    followed_or_skipped = over.followed_or_skipped;
  }
