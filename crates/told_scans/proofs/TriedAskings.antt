-- What each asking of a scan was, in the folder's list: a file that answered, or one whose opening or reading failed; and their openings, each
-- after those of the askings before.
use Rattle.std.proofs.Common.{◌≡◌, ◌⊎◌, inl, inr, ⊎_elim, ℕ, suc, ◌≤◌, ◌<◌, drop, List, [], ◌∷◌, ◌++◌, Contains, length, map, Option, Some, None, refl, sym, ap, subst, ◌∙◌, arith}
use Rattle.std.proofs.lemmas.List.Elements.{Contains-append_cases}
use Rattle.std.proofs.lemmas.Option.{slice_get_within}
use Rattle.std.specs.Prelude.{slice_get}
use Rattle.std.specs.List.{AllByRecursion, cons_option, filter_map}
use Rattle.event_tree.specs.declared.input_rule.InputRule.{InputRule}
use Rattle.file_identity.specs.Answers.{IsFingerprint}
use Rattle.kept_rows.specs.Run.{Asking}
use Rattle.kept_rows.specs.Scans.{AreDistinct}
use Rattle.kept_rows.specs.Trace.{closing_in}
use Rattle.outside.specs.Folders.{Closed, Event, FolderHistory, Opened, OpeningFailed}
use Rattle.outside.specs.declared.history.Look.{Look}
use Rattle.outside.specs.declared.history.Sight.{Sight}
use Rattle.prospect.specs.AskedFiles.{AskedFile, FailsSo}
use Rattle.prospect.specs.PastFaults.{Answered, Faulted, FaultsOne, TriesOne, Trial}
use Rattle.prospect.specs.Scan.{with_events}
use Rattle.prospect.specs.declared.listed.Listed.{Listed}
use Rattle.ship_core.proofs.Members.{first_there, given_there, later_there, none_there, there_cases, there_given}
use Rattle.told_scans.specs.FolderOn.{FolderGoesOn}
use Rattle.told_scans.proofs.AskedEvents.{IsAnsweredIn, all_tried, answered_still, asked_none, closed_there, closing_stays, event_stays, goes_on_asking, longer, one_answered, one_tried, same_opening}
use Rattle.told_scans.proofs.Events.{got_at_end}
use Rattle.told_scans.proofs.Members.{member_is}
use Rattle.told_scans.specs.ToldScan.{AsksSo, asking_at, asking_of}

-- ---- what each asking was

-- the file was opened there by its path, and its tail was closed with faults
pub record HasFailedReading (path : List ℕ) (opening : ℕ) (told : FolderHistory) : Type 0 where
  pub number : ℕ
  pub begun : Sight
  pub is : slice_get told.events opening ≡ Some (Opened path number begun)
  pub looks : List Look
  pub faults : ℕ
  pub some : 0 < faults
  pub closing : closing_in opening (drop (suc opening) told.events) ≡ Some (record { looks = looks; faults = faults })

-- opening the file failed there, or reading it did
abbrev pub HasFailed : List ℕ → ℕ → FolderHistory → Type 0
HasFailed path opening told = (slice_get told.events opening ≡ Some (OpeningFailed path)) ⊎ HasFailedReading path opening told

-- it was made for a file of an input that reads its files, behind the first so many things that were done, and failed
pub record FailsIn (inputs : List InputRule) (since : ℕ) (told : FolderHistory) (one : Listed) (asking : Asking) : Type 0 where
  pub rule : InputRule
  pub rule_is : slice_get inputs one.input ≡ Some rule
  pub by_bytes : IsFingerprint rule.file_identity
  pub opening : ℕ
  pub asking_is : asking ≡ record { input = one.input; path = one.path; opening = Some opening }
  pub fails : HasFailed one.path opening told
  pub since_then : since ≤ opening
  pub until_then : opening < length told.events

-- the asking of a trial
abbrev pub IsAskingOf : List InputRule → ℕ → FolderHistory → Trial → Asking → Type 0
IsAskingOf inputs since told (Answered asked) asking = (asking ≡ asking_of asked) × IsAnsweredIn inputs since told asked
IsAskingOf inputs since told (Faulted one) asking = FailsIn inputs since told one asking

-- one by one
abbrev pub AreAskingsOf : List InputRule → ℕ → FolderHistory → List Trial → List Asking → Type 0
AreAskingsOf inputs since told [] [] = Unit {0}
AreAskingsOf inputs since told [] (asking ∷ askings) = ⊥
AreAskingsOf inputs since told (trial ∷ trials) [] = ⊥
AreAskingsOf inputs since told (trial ∷ trials) (asking ∷ askings) = IsAskingOf inputs since told trial asking × AreAskingsOf inputs since told trials askings

pub failed_still : (path : List ℕ) (opening : ℕ) (now later : FolderHistory) → FolderGoesOn now later → HasFailed path opening now → HasFailed path opening later
failed_still path opening now later on (inl failed) = inl (event_stays now later on opening (OpeningFailed path) failed)
failed_still path opening now later on (inr read) = inr (record {
  number = read.number;
  begun = read.begun;
  is = event_stays now later on opening (Opened path read.number read.begun) read.is;
  looks = read.looks;
  faults = read.faults;
  some = read.some;
  closing = closing_stays now later on opening (record { looks = read.looks; faults = read.faults })
      (slice_get_within now.events opening (Opened path read.number read.begun) read.is) read.closing;
})

module _ (inputs : List InputRule) (before since : ℕ) (now later : FolderHistory) (fewer : before ≤ since) (on : FolderGoesOn now later) where
  asking_still : (trial : Trial) (asking : Asking) → IsAskingOf inputs since now trial asking → IsAskingOf inputs before later trial asking
  asking_still (Answered asked) asking is = (is.0, answered_still inputs before since now later asked fewer on is.1)
  asking_still (Faulted one) asking is = record {
    rule = is.rule;
    rule_is = is.rule_is;
    by_bytes = is.by_bytes;
    opening = is.opening;
    asking_is = is.asking_is;
    fails = failed_still one.path is.opening now later on is.fails;
    since_then = let then = is.since_then in omega (arith, fewer, then);
    until_then = let more = longer now later on in let then = is.until_then in omega (arith, more, then);
  }

  pub askings_still : (trials : List Trial) (askings : List Asking) → AreAskingsOf inputs since now trials askings → AreAskingsOf inputs before later trials askings
  askings_still [] [] are = tt
  askings_still [] (asking ∷ askings) are = absurd are
  askings_still (trial ∷ trials) [] are = absurd are
  askings_still (trial ∷ trials) (asking ∷ askings) are = (asking_still trial asking are.0, askings_still trials askings are.1)

module _ (inputs : List InputRule) (one : Listed) (before after : FolderHistory) (faults : FaultsOne inputs one before after) where
  has_failed : (last : List Event) → FailsSo one.path before last → HasFailed one.path (length before.events) (with_events before last)
  has_failed last (inl failed) = inl (ap (λ (l : List Event). slice_get (before.events ++ l) (length before.events)) failed ∙ got_at_end before.events (OpeningFailed one.path) [])
  has_failed last (inr vain) =
      let read = vain.read in
      subst (λ (l : List Event). HasFailed one.path (length before.events) (with_events before l)) (sym read.last_is)
      (inr (record {
        number = read.number;
        begun = read.begun;
        is = got_at_end before.events (Opened one.path read.number read.begun) (Closed (length before.events) read.looks read.faults ∷ []);
        looks = read.looks;
        faults = read.faults;
        some = vain.failed;
        closing = closed_there before one.path read.number read.begun read.looks read.faults;
      }))

  failed_there : HasFailed one.path (length before.events) after
  failed_there = subst (HasFailed one.path (length before.events)) (sym faults.kept) (has_failed faults.last faults.fails)

  within_list : (told : FolderHistory) → HasFailed one.path (length before.events) told → length before.events < length told.events
  within_list told (inl failed) = slice_get_within told.events (length before.events) (OpeningFailed one.path) failed
  within_list told (inr read) = slice_get_within told.events (length before.events) (Opened one.path read.number read.begun) read.is

  fails_in : FailsIn inputs (length before.events) after one (asking_at (length before.events) (Faulted one))
  fails_in = record {
    rule = faults.rule;
    rule_is = faults.rule_is;
    by_bytes = faults.by_bytes;
    opening = length before.events;
    asking_is = refl;
    fails = failed_there;
    since_then = omega arith;
    until_then = within_list after failed_there;
  }

module _ (inputs : List InputRule) where
  one_asking : (trial : Trial) (before after : FolderHistory) → TriesOne inputs trial before after →
      IsAskingOf inputs (length before.events) after trial (asking_at (length before.events) trial)
  one_asking (Answered asked) before after tries = (refl, one_answered inputs asked before after tries)
  one_asking (Faulted one) before after tries = fails_in inputs one before after tries

  pub each_asking : (trials : List Trial) (askings : List Asking) (before after : FolderHistory) → AsksSo inputs trials askings before after →
      AreAskingsOf inputs (length before.events) after trials askings
  each_asking [] [] before after asks = tt
  each_asking [] (asking ∷ askings) before after asks = absurd asks
  each_asking (trial ∷ trials) [] before after asks = absurd asks
  each_asking (trial ∷ trials) (asking ∷ askings) before after asks =
      let mid = asks.0 in
      let first = goes_on_asking before mid (one_tried inputs trial before mid asks.1) in
      let rest = goes_on_asking mid after (all_tried inputs trials askings mid after asks.3) in
      let same : FolderGoesOn after after = goes_on_asking after after (asked_none after) in (
        subst (IsAskingOf inputs (length before.events) after trial) (sym asks.2)
            (asking_still inputs (length before.events) (length before.events) mid after (omega arith) rest trial (asking_at (length before.events) trial)
            (one_asking trial before mid asks.1)),
        askings_still inputs (length before.events) (length mid.events) after after (longer before mid first) same trials askings (each_asking trials askings mid after asks.3),
      )

-- ---- their openings

abbrev pub openings_in : List Asking → List ℕ
openings_in askings = filter_map (λ (asking : Asking). asking.opening) askings

abbrev pub openings_asked : List AskedFile → List ℕ
openings_asked asked = openings_in (map asking_of asked)

-- it was made behind the first so many things
abbrev pub IsPlacedIn : ℕ → FolderHistory → Asking → Type 0
IsPlacedIn since told asking = (opening : ℕ) → asking.opening ≡ Some opening → (since ≤ opening) × (opening < length told.events)

asking_placed : (inputs : List InputRule) (since : ℕ) (told : FolderHistory) (trial : Trial) (asking : Asking) → IsAskingOf inputs since told trial asking → IsPlacedIn since told asking
asking_placed inputs since told (Answered asked) asking is opening at = is.1.placed opening (sym (ap (λ (a : Asking). a.opening) is.0) ∙ at)
asking_placed inputs since told (Faulted one) asking is opening at =
    let same : is.opening ≡ opening = same_opening is.opening opening (sym (ap (λ (a : Asking). a.opening) is.asking_is) ∙ at) in
    subst (λ (k : ℕ). (since ≤ k) × (k < length told.events)) same (is.since_then, is.until_then)

pub all_placed : (inputs : List InputRule) (since : ℕ) (told : FolderHistory) (trials : List Trial) (askings : List Asking) → AreAskingsOf inputs since told trials askings →
    AllByRecursion (IsPlacedIn since told) askings
all_placed inputs since told [] [] are = tt
all_placed inputs since told [] (asking ∷ askings) are = absurd are
all_placed inputs since told (trial ∷ trials) [] are = absurd are
all_placed inputs since told (trial ∷ trials) (asking ∷ askings) are = (
  asking_placed inputs since told trial asking are.0,
  all_placed inputs since told trials askings are.1,
)

-- the asking that was made at this opening
pub record IsAskedAt (askings : List Asking) (opening : ℕ) : Type 0 where
  pub asking : Asking
  pub among : Contains askings asking
  pub at : asking.opening ≡ Some opening

pub asked_at : (askings : List Asking) (opening : ℕ) → Contains (openings_in askings) opening → IsAskedAt askings opening
asked_at askings opening there =
    let given = there_given (λ (asking : Asking). asking.opening) askings opening there in
    record { asking = given.0; among = given.1; at = given.2 }

opening_there : (askings : List Asking) (asking : Asking) (opening : ℕ) → Contains askings asking → asking.opening ≡ Some opening → Contains (openings_in askings) opening
opening_there askings asking opening there at = given_there (λ (asking : Asking). asking.opening) askings asking opening there at

pub openings_within : (since : ℕ) (told : FolderHistory) (askings : List Asking) → AllByRecursion (IsPlacedIn since told) askings → (opening : ℕ) → Contains (openings_in askings) opening →
    (since ≤ opening) × (opening < length told.events)
openings_within since told askings each opening there = let of = asked_at askings opening there in member_is (IsPlacedIn since told) askings of.asking each of.among opening of.at

-- distinct numbers of two lists that have none in common
pub distinct_both : (xs ys : List ℕ) → AreDistinct xs → AreDistinct ys → ((x : ℕ) → Contains xs x → Contains ys x → ⊥) → AreDistinct (xs ++ ys)
distinct_both [] ys first second none = second
distinct_both (x ∷ xs) ys first second none = (
  λ there. ⊎_elim first.0 (λ other. none x (first_there x xs) other) (Contains-append_cases xs ys x there),
  distinct_both xs ys first.1 second (λ y one other. none y (later_there x y xs one) other),
)

distinct_with : (o : Option ℕ) (xs : List ℕ) → AreDistinct xs → ((x : ℕ) → o ≡ Some x → ¬ (Contains xs x)) → AreDistinct (cons_option o xs)
distinct_with None xs apart none = apart
distinct_with (Some x) xs apart none = (none x refl, apart)

-- each opening stands behind those before
pub openings_distinct : (inputs : List InputRule) (trials : List Trial) (askings : List Asking) (before after : FolderHistory) → AsksSo inputs trials askings before after →
    AreDistinct (openings_in askings)
openings_distinct inputs [] [] before after asks = tt
openings_distinct inputs [] (asking ∷ askings) before after asks = absurd asks
openings_distinct inputs (trial ∷ trials) [] before after asks = absurd asks
openings_distinct inputs (trial ∷ trials) (asking ∷ askings) before after asks =
    distinct_with asking.opening (openings_in askings) (openings_distinct inputs trials askings asks.0 after asks.3) not_later
  where
    not_later : (opening : ℕ) → asking.opening ≡ Some opening → Contains (openings_in askings) opening → ⊥
    not_later opening at there =
        let first = one_asking inputs trial before asks.0 asks.1 in
        let here = asking_placed inputs (length before.events) asks.0 trial (asking_at (length before.events) trial) first opening (sym (ap (λ (a : Asking). a.opening) asks.2) ∙ at) in
        let rest = each_asking inputs trials askings asks.0 after asks.3 in
        let later = openings_within (length asks.0.events) after askings (all_placed inputs (length asks.0.events) after trials askings rest) opening there in
        omega (arith, here.1, later.0)

-- so one opening is of one asking
pub one_of_opening : (askings : List Asking) (one other : Asking) (opening : ℕ) → AreDistinct (openings_in askings) → Contains askings one → Contains askings other →
    one.opening ≡ Some opening → other.opening ≡ Some opening → one ≡ other
one_of_opening [] one other opening apart there also at same = absurd (none_there one there)
one_of_opening (first ∷ askings) one other opening apart there also at same =
    by_case (there_cases first one askings there) (there_cases first other askings also) (λ x y. one_of_opening askings one other opening (others first.opening apart) x y at same)
  where
    others : (o : Option ℕ) → AreDistinct (cons_option o (openings_in askings)) → AreDistinct (openings_in askings)
    others None apart = apart
    others (Some x) apart = apart.1

    not_later : (o : Option ℕ) → o ≡ Some opening → AreDistinct (cons_option o (openings_in askings)) → Contains (openings_in askings) opening → ⊥
    not_later None is apart there = let q : None ≡ Some opening = is in cc
    not_later (Some x) is apart there = apart.0 (subst (λ (n : ℕ). Contains (openings_in askings) n) (sym (same_opening x opening is)) there)

    by_case : (first ≡ one) ⊎ Contains askings one → (first ≡ other) ⊎ Contains askings other → (Contains askings one → Contains askings other → one ≡ other) → one ≡ other
    by_case (inl x) (inl y) later = sym x ∙ y
    by_case (inl x) (inr y) later = absurd (not_later first.opening (ap (λ (a : Asking). a.opening) x ∙ at) apart (opening_there askings other opening y same))
    by_case (inr x) (inl y) later = absurd (not_later first.opening (ap (λ (a : Asking). a.opening) y ∙ same) apart (opening_there askings one opening x at))
    by_case (inr x) (inr y) later = later x y
