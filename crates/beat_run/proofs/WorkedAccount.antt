-- The file of two plain lines, read once by a run over an empty registry: all that is said of the run where its objects tell. They do so, its
-- settings are in their ranges, and it stayed within the limits; its sink tells nothing.
use Rattle.std.proofs.Common.{◌≡◌, inl, inr, ℕ, zero, suc, true, Any, List, [], ◌∷◌, Contains, codes, drop, map, Option, Some, None, refl, subst, arith, lit≤}
use Rattle.std.proofs.lemmas.List.Elements.{All-cons, All-from_recursion, All-nil}
use Rattle.std.specs.Prelude.{slice_get}
use Rattle.std.specs.List.{AllByRecursion}
use Rattle.std.specs.Str.{chars}
use Rattle.accounts.specs.Numbers.{AreAllCounted}
use Rattle.beat_config.specs.InRange.{AreInRange, IsGlob, IsHostInRange, IsInputInRange}
use Rattle.beat_config.specs.Name.{is_name_byte}
use Rattle.event_tree.specs.declared.input_rule.InputRule.{InputRule}
use Rattle.glob_paths.specs.Sign.{signs}
use Rattle.kept_rows.proofs.Worked as worked
use Rattle.outside.specs.Folders.{FolderHistory}
use Rattle.outside.specs.declared.history.Shown.{Shown}
use Rattle.prospect.specs.AskedFiles.{ByName}
use Rattle.prospect.specs.ListedFiles.{HasFile, IsKeyed, IsListedBy, KeyIsTold, ScansFiles, name_at, shown_in}
use Rattle.prospect.specs.Scan.{Listing, event_of, with_events}
use Rattle.prospect.specs.declared.listed.Listed.{Listed}
use Rattle.registry_store.specs.Choice.{GivesRows}
use Rattle.report.specs.declared.status.Status.TheVariants.{Done}
use Rattle.ship_core.proofs.Members.{none_there, there_cases}
use Rattle.told_events.proofs.Worked.{a_log}
use Rattle.run_steps.specs.Starting.{HasRoomAt, HaveRoomBefore}
use Rattle.run_steps.specs.declared.met.Met.TheVariants as met
use Rattle.run_steps.proofs.RunRows.{OneChoice}
use Rattle.told_scans.proofs.Members.{some_is}
use Rattle.run_steps.proofs.WorkedAccount.{account, blank, earlier, gives_nothing, is_accounted_for, later, objects, rows_at_end, stored}
use Rattle.run_steps.proofs.WorkedTogether.{Holding, disks}
use Rattle.wire_base.specs.declared.row.Row.{Row}
use Rattle.beat_run.proofs.Numbered.{numbers_had}
use Rattle.beat_run.specs.Accounted.{AllTell, IsAccountedByNamed, IsAccountedWhereTold, IsOfRemovedFile, LeavesNoRemoved, RunLent}
use Rattle.beat_run.specs.Printed.{StandsBehind}
use Rattle.beat_run.specs.Scanning.{ScansParted}
use Rattle.beat_run.specs.WithinLimits.{IsWithinLimits}

-- ---- its settings

name_in_range : AllByRecursion (λ byte. is_name_byte byte ≡ true) (codes "localhost")
name_in_range = (refl, (refl, (refl, (refl, (refl, (refl, (refl, (refl, (refl, tt)))))))))

host_in_range : IsHostInRange (record { name = codes "localhost"; port = 5044 })
host_in_range = record {
  name = record { count = (lit≤ tt, lit≤ tt); bytes = All-from_recursion (λ byte. is_name_byte byte ≡ true) (codes "localhost") name_in_range };
  port = (lit≤ tt, lit≤ tt);
}

is_glob : IsGlob (codes "/w/*")
unfolding signs chars
is_glob = refl

input_in_range : IsInputInRange worked.input
input_in_range = record {
  id = record { count = (lit≤ tt, lit≤ tt); bytes = All-from_recursion (λ byte. is_name_byte byte ≡ true) (codes "w") (refl, tt) };
  path_count = (lit≤ tt, lit≤ tt);
  paths = All-cons IsGlob (codes "/w/*") [] is_glob (All-nil IsGlob);
  file_identity = tt;
  check_interval = (lit≤ tt, lit≤ tt);
  close_inactive = (lit≤ tt, lit≤ tt);
  ignore_older = lit≤ tt;
  clean_inactive = lit≤ tt;
  cleaned_late = λ asked. absurd (asked refl);
  message_max_bytes = (lit≤ tt, lit≤ tt);
  include_count = lit≤ tt;
  include_lines = All-nil _;
  exclude_count = lit≤ tt;
  exclude_lines = All-nil _;
  multiline = (lit≤ tt, lit≤ tt);
}

settings_in_range : AreInRange worked.settings
settings_in_range = record {
  input_count = (lit≤ tt, lit≤ tt);
  inputs = All-cons IsInputInRange worked.input [] input_in_range (All-nil IsInputInRange);
  ids_differ = λ i j default before within. absurd (omega (arith, before, within));
  output = record {
    host_count = (lit≤ tt, lit≤ tt);
    hosts = All-cons IsHostInRange (record { name = codes "localhost"; port = 5044 }) [] host_in_range (All-nil IsHostInRange);
    workers = (lit≤ tt, lit≤ tt);
    bulk_max_size = (lit≤ tt, lit≤ tt);
    pipelining = (lit≤ tt, lit≤ tt);
    timeout = (lit≤ tt, lit≤ tt);
    attempts = (lit≤ tt, lit≤ tt);
  };
  processor_count = lit≤ tt;
  processors = All-nil _;
  events = (lit≤ tt, lit≤ tt);
  lanes = (lit≤ tt, lit≤ tt);
}

-- ---- its scan

abbrev inputs : List InputRule
inputs = worked.settings.inputs

abbrev listed : Listed
listed = record { input = 0; key = Some worked.key; path = a_log; size = 4; changed = record { 0 = 0 } }

abbrev listings : List Listing
listings = record { glob = codes "/w/*"; shown = worked.shown ∷ [] } ∷ []

abbrev scanned : FolderHistory
scanned = with_events earlier (map event_of listings)

is_listed_by : IsListedBy inputs listed worked.shown
is_listed_by = record { rule = worked.input; rule_is = refl; covered = worked.is_covered; path_is = refl; size_is = refl; changed_is = refl; key_is = refl }

abbrev IsOfShown : Listed → Type 0
IsOfShown one = Any (λ shown. IsListedBy inputs one shown) (shown_in listings)

only_shown : (shown : Shown) → Contains (shown_in listings) shown → worked.shown ≡ shown
only_shown shown there = elim (there_cases worked.shown shown [] there) [
  | inl same ↦ same
  | inr nothing ↦ absurd (none_there shown nothing)
]

has_file : (shown : Shown) (input : ℕ) (rule : InputRule) → Contains (shown_in listings) shown → slice_get inputs input ≡ Some rule → HasFile (listed ∷ []) (name_at rule shown input)
has_file shown zero rule there is =
    let q : Some worked.input ≡ Some rule = is in
    let same : worked.input ≡ rule = cc in
    subst (λ (s : Shown). HasFile (listed ∷ []) (name_at rule s 0)) (only_shown shown there)
    (subst (λ (r : InputRule). HasFile (listed ∷ []) (name_at r worked.shown 0)) same (0, listed, omega arith, refl, refl))
has_file shown (suc input) rule there is = absurd (let q : None ≡ Some rule = is in cc)

scans_files : ScansFiles inputs earlier (listed ∷ []) (Some scanned)
scans_files = record {
  listings = listings;
  listed_is = record { one_for_each_glob = refl; kept = refl };
  shown = record {
    only = All-cons IsOfShown listed [] (0, worked.shown, omega arith, refl, is_listed_by) (All-nil IsOfShown);
    every = λ shown input of. has_file shown input of.rule of.among of.rule_is;
    in_order = (tt, tt);
    apart = ((λ has. none_there has.1 (has.0, has.2, has.3)), tt);
  };
}

is_keyed : IsKeyed inputs listed
is_keyed rule is = refl_key rule is
  where
    refl_key : (rule : InputRule) → slice_get inputs 0 ≡ Some rule → KeyIsTold rule.file_identity (Some worked.key)
    refl_key rule is =
        let q : Some worked.input ≡ Some rule = is in
        let same : worked.input ≡ rule = cc in
        subst (λ (r : InputRule). KeyIsTold r.file_identity (Some worked.key)) same refl

scans : ScansParted inputs earlier (listed ∷ []) [] (Some scanned)
scans = record {
  all = listed ∷ [];
  listed = scanned;
  scanned = scanned;
  scans = scans_files;
  keyed = All-cons (IsKeyed inputs) listed [] is_keyed (All-nil (IsKeyed inputs));
  asked = record { listed = listed; answer = ByName } ∷ [];
  asked_are = refl;
  asks = (scanned, record { rule = worked.input; rule_is = refl; answered = ((λ by_bytes. by_bytes), refl) }, refl);
  after_is = refl;
  parts = inr ((λ has. none_there has.1 (has.0, has.2, has.3)), [], refl, (refl, refl));
}

has_room : HaveRoomBefore [] (listed ∷ []) 1
has_room zero one less is =
    let q : Some listed ≡ Some one = is in
    let same : listed ≡ one = cc in
    subst (HasRoomAt [] (listed ∷ []) 0) same refl
has_room (suc place) one less is = absurd (omega (arith, less))

is_within : IsWithinLimits inputs [] earlier (Some later)
unfolding scans
is_within = record {
  files = listed ∷ [];
  doubled = [];
  scanned = scanned;
  scans = scans;
  later = drop 2 worked.trace.events;
  after_is = refl;
  few_known = lit≤ tt;
  room = has_room;
}

-- ---- the account

all_tell : AllTell disks objects
all_tell = record {
  tell = record { folder = refl; moments = refl; wires = (refl, tt) };
  areas = record { first = []; second = []; rows = []; a_is = refl; b_is = refl; gives = gives_nothing };
}

-- of folder and wires nothing but what they tell is said
abbrev lent : RunLent (Option FolderHistory) ℕ Holding
lent = record {
  before = record { folder = Some earlier; wires = 0 ∷ []; a = blank; b = blank };
  after = record { folder = Some later; wires = 1 ∷ []; a = stored; b = blank };
}

module _ (one : OneChoice) where
  none_removed : LeavesNoRemoved disks objects met.Done worked.run
  none_removed at_rest telling first second rows a_is b_is gives =
      subst (AllByRecursion (λ (row : Row). ¬ (IsOfRemovedFile worked.run row))) (rows_at_end one first second rows a_is b_is gives)
      ((λ removed. removed.hidden.0 (record { number = 0; path = a_log; shows = worked.shows_file })), tt)

  all_counted : AreAllCounted account
  all_counted = record { each = (inl refl, (inl refl, tt)); together = refl }

  pub is_accounted_where_told : IsAccountedWhereTold disks None lent objects Done (StandsBehind None None)
  unfolding is_accounted_for
  is_accounted_where_told tell = record {
    settings = worked.settings;
    named = λ behind. tt;
    named_or_unused = inl tt;
    supported = refl;
    in_range = inl settings_in_range;
    is = record {
      what = met.Done;
      met_for = refl;
      accounted = is_accounted_for one;
      asked = λ few. omega arith;
      cleaned = none_removed;
      reported = λ end text tells. absurd (let q : None ≡ Some tells.front = tells.held_before in cc);
      counted = λ is_done. all_counted;
      within = λ end. record {
        rows = [];
        given = λ first second a_is b_is.
            subst (λ (l : List ℕ). GivesRows l second []) (some_is [] first a_is) (subst (λ (l : List ℕ). GivesRows [] l []) (some_is [] second b_is) gives_nothing);
        within = is_within;
      };
      numbered = λ end. numbers_had worked.run account worked.is_account.followed.each;
      full_for = tt;
    };
  }

  -- where all tell, as they do
  pub is_accounted : IsAccountedByNamed disks None lent objects Done (StandsBehind None None)
  is_accounted = is_accounted_where_told all_tell
