-- Worked scans of an input that knows its files by native numbers. A file took another's path between two listings: both are
-- reported, in the order of the listings. Where a listing reported no numbers, the scan is refused with the path.
use Rattle.std.proofs.Common.{◌≡◌, ◌≢◌, inl, inr, ℕ, zero, suc, true, List, [], ◌∷◌, Any, Option, Some, None, slice_get, codes, refl, sym, ap, ◌∙◌, subst, arith, map}
use Rattle.std.specs.Char.{encode_utf8}
use Rattle.std.specs.Str.{chars, is_utf8}
use Rattle.std.specs.declared.cmp.Ordering.TheVariants.{Less}
use Rattle.std.proofs.lemmas.List.Elements.{All-from_recursion}
use Rattle.std.proofs.lemmas.Option.{none-some}
use Rattle.std.proofs.lemmas.Str.{IsUtf8-from_is_utf8}
use Rattle.event_tree.specs.declared.group_rule.GroupRule.TheVariants.{Single}
use Rattle.event_tree.specs.declared.input_rule.IdentityRule.TheVariants.{Native}
use Rattle.event_tree.specs.declared.input_rule.InputRule.{InputRule}
use Rattle.event_tree.specs.declared.line_rule.Terminator.TheVariants.{Auto}
use Rattle.file_identity.specs.Key.{native_key}
use Rattle.glob_paths.specs.Cover.{Covers}
use Rattle.glob_paths.specs.Sign.{signs}
use Rattle.glob_paths.specs.Token.{tokens}
use Rattle.outside.specs.declared.history.Shown.{Shown}
use Rattle.outside.specs.Folders.{FolderHistory}
use Rattle.prospect.specs.declared.listed.Listed.{Listed}
use Rattle.prospect.specs.declared.scan_error.ScanError.TheVariants.{NoNative}
use Rattle.prospect.specs.ListedFiles.{EndsAs, HasFile, IsCoveredBy, IsListedBy, Name, ScansFiles, name_at, name_of, place_at, place_of, place_order, shown_in}
use Rattle.prospect.specs.Members.{IsCovered}
use Rattle.prospect.specs.Scan.{Listing, event_of, with_events}
use Rattle.prospect.proofs.Lists.{IsIn, in_contained}
use Rattle.prospect.proofs.NativeKeys.{same_numbers}
use Rattle.prospect.proofs.Telling.{never_itself}

-- with two globs of one root, which is listed twice
abbrev input : InputRule
input = record {
  id = codes "w";
  paths = codes "/w/*" ∷ codes "/w/*" ∷ [];
  file_identity = Native;
  check_interval = 10000;
  clean_removed = true;
  close_inactive = 300000;
  ignore_older = 0;
  clean_inactive = 0;
  lines = record { terminator = Auto; message_max_bytes = 10485760 };
  include_lines = [];
  exclude_lines = [];
  multiline = Single 10485760;
}

abbrev inputs : List InputRule
inputs = input ∷ []

abbrev path : List ℕ
path = codes "/w/a.log"

abbrev shown : Option (ℕ × ℕ) → Shown
shown numbers = record { entry = record { path = path; size = 4; native = numbers; changed = record { 0 = 0 } }; file = 0; life = 0 }

abbrev listing : Option (ℕ × ℕ) → Listing
listing numbers = record { glob = codes "/w/*"; shown = shown numbers ∷ [] }

abbrev listings : Option (ℕ × ℕ) → Option (ℕ × ℕ) → List Listing
listings first second = listing first ∷ listing second ∷ []

abbrev exchanged : List Listing
exchanged = listings (Some (7, 1)) (Some (9, 1))

abbrev told : FolderHistory
told = record { files = []; events = [] }

abbrev after : List Listing → Option FolderHistory
after listings = Some (with_events told (map event_of listings))

abbrev file : ℕ × ℕ → Listed
file numbers = record { input = 0; key = Some (native_key (codes "w") numbers); path = path; size = 4; changed = record { 0 = 0 } }

abbrev files : List Listed
files = file (7, 1) ∷ file (9, 1) ∷ []

covered : Covers (codes "/w/*") path
unfolding is_utf8 encode_utf8 tokens signs chars
covered = (IsUtf8-from_is_utf8 path refl, refl, (tt, ((refl, tt), ((5, omega arith, tt), tt))))

is_covered : IsCovered input.paths path
is_covered = (0, codes "/w/*", omega arith, refl, covered)

listed_by : (numbers : ℕ × ℕ) → IsListedBy inputs (file numbers) (shown (Some numbers))
listed_by numbers = record { rule = input; rule_is = refl; covered = is_covered; path_is = refl; size_is = refl; changed_is = refl; key_is = refl }

each_told : (one : Shown) → IsIn (shown_in exchanged) one → HasFile files (name_at input one 0)
each_told one (inl same) = subst (λ (s : Shown). HasFile files (name_at input s 0)) same (0, file (7, 1), omega arith, refl, refl)
each_told one (inr (inl same)) = subst (λ (s : Shown). HasFile files (name_at input s 0)) same (1, file (9, 1), omega arith, refl, refl)
each_told one (inr (inr none)) = absurd none

only_input : (number : ℕ) (rule : InputRule) → slice_get inputs number ≡ Some rule → (0 ≡ number) × (input ≡ rule)
only_input zero rule is = (refl, let here : Some input ≡ Some rule = is in let same : input ≡ rule = cc in same)
only_input (suc number) rule is = absurd (none-some rule is)

abbrev only : ℕ × ℕ → Option (ℕ × ℕ)
only numbers = Some numbers

abbrev inode : Option (ℕ × ℕ) → ℕ
inode None = 0
inode (Some numbers) = numbers.0

never_one_name : name_of (file (9, 1)) ≢ name_of (file (7, 1))
never_one_name is =
    let numbers : only (9, 1) ≡ only (7, 1) = same_numbers (codes "w") (Some (9, 1)) (Some (7, 1)) (omega arith, omega arith) (omega arith, omega arith) (ap (λ (n : Name). n.key) is) in
    let inodes : 9 ≡ 7 = ap inode numbers in
    omega (arith, inodes)

both_are_told : ScansFiles inputs told files (after exchanged)
both_are_told = record {
  listings = exchanged;
  listed_is = record { one_for_each_glob = refl; kept = refl };
  shown = record {
    only = All-from_recursion (λ one. Any (λ s. IsListedBy inputs one s) (shown_in exchanged)) files ((0, shown (Some (7, 1)), omega arith, refl, listed_by (7, 1)), ((1, shown (Some (9, 1)), omega arith, refl, listed_by (9, 1)), tt));
    every = λ one number of.
        let is = only_input number of.rule of.rule_is in
        subst (λ (n : ℕ). HasFile files (name_at of.rule one n)) is.0
        (subst (λ (r : InputRule). HasFile files (name_at r one 0)) is.1
        (each_told one (in_contained (shown_in exchanged) one of.among)));
    in_order = ((never_itself (place_of (file (9, 1))) (place_of (file (7, 1))) refl, tt), (tt, tt));
    apart = (λ has. one_name has, (λ has. none_left has, tt));
  };
}
  where
    one_name : HasFile (file (9, 1) ∷ []) (name_of (file (7, 1))) → ⊥
    one_name (zero, one, within, is, same) = never_one_name (ap name_of is ∙ same)
    one_name (suc k, one, within, is, same) = omega arith

    none_left : HasFile [] (name_of (file (9, 1))) → ⊥
    none_left (k, one, within, is, same) = omega arith

abbrev half_numbered : List Listing
half_numbered = listings (Some (7, 1)) None

never_before : (one : Shown) (number : ℕ) (of : IsCoveredBy inputs half_numbered one number) → place_order (place_at one number) (place_at (shown None) 0) ≡ Less → ⊥
never_before one number of less =
    let place_is : place_at one number ≡ place_at (shown None) 0 =
    ap (λ (n : ℕ). place_at one n) (sym (only_input number of.rule of.rule_is).0)
    ∙ ap (λ (p : List ℕ). record { path = p; input = 0 }) (one_path one (in_contained (shown_in half_numbered) one of.among)) in
    never_itself (place_at one number) (place_at (shown None) 0) place_is less
  where
    one_path : (one : Shown) → IsIn (shown_in half_numbered) one → one.entry.path ≡ path
    one_path one (inl same) = ap (λ (s : Shown). s.entry.path) (sym same)
    one_path one (inr (inl same)) = ap (λ (s : Shown). s.entry.path) (sym same)
    one_path one (inr (inr none)) = absurd none

refused_without_numbers : EndsAs inputs told (NoNative path) (after half_numbered)
refused_without_numbers = record {
  listings = half_numbered;
  listed_is = record { one_for_each_glob = refl; kept = refl };
  lacks = record {
    shown = shown None;
    input = 0;
    covered = record { among = (1, omega arith, refl); rule = input; rule_is = refl; covered = is_covered };
    by_numbers = refl;
    path_is = refl;
    none = refl;
    first = λ one number of by_numbers none. never_before one number of;
  };
}
