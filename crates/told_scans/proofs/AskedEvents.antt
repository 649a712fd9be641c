-- What asking listed files for their keys does with a folder: each tail that it opens tells nothing but reads and is closed, nothing is listed, and
-- what was answered stands in the folder's list, each opening behind those of the files before.
use Rattle.std.proofs.Common.{◌≡◌, ◌⊎◌, inl, inr, ⊎_elim, ℕ, zero, suc, ◌+◌, ◌≤◌, ◌<◌, Bool, drop, List, [], ◌∷◌, ◌++◌, length, append_assoc, append-nil, length-append, Option, Some, None, refl, sym, ap, subst, ◌∙◌, arith, if◌then◌else◌}
use Rattle.std.proofs.lemmas.Bool.{eq-eqb}
use Rattle.std.proofs.lemmas.List.{drop-append-le}
use Rattle.std.proofs.lemmas.Option.{slice_get_within}
use Rattle.std.specs.Prelude.{slice_get}
use Rattle.std.specs.List.{AllByRecursion}
use Rattle.event_tree.specs.declared.input_rule.InputRule.{InputRule}
use Rattle.file_identity.specs.Answers.{IsFingerprint}
use Rattle.file_identity.specs.AskedAgain.{IsRead}
use Rattle.file_identity.specs.Asking.{IsAsking, given_key}
use Rattle.kept_rows.proofs.Acknowledging.{got_in_front}
use Rattle.kept_rows.proofs.Showing.{both}
use Rattle.kept_rows.specs.Run.{Asking}
use Rattle.kept_rows.specs.Trace.{Closing, closing_in, first_of_two}
use Rattle.outside.specs.Files.{File}
use Rattle.outside.specs.Folders.{Closed, Event, FolderHistory, NotThere, Opened, OpeningFailed}
use Rattle.outside.specs.declared.history.Look.{Look}
use Rattle.outside.specs.declared.history.Sight.{Sight}
use Rattle.prospect.specs.AskedFiles.{Answer, AnswersSo, AskedFile, AsksFrom, AsksOne, AsksSome, ByName, CutsOff, FailsSo, Gave, IsCutOff, NotFound, TooFew, WasAsked}
use Rattle.prospect.specs.PastFaults.{Answered, Faulted, FaultsOne, TriesOne, Trial, answered_in}
use Rattle.prospect.specs.Scan.{with_events}
use Rattle.prospect.specs.declared.listed.Listed.{Listed}
use Rattle.told_scans.specs.FolderOn.{FolderGoesOn}
use Rattle.told_scans.specs.OnlyAsked.{HasOnlyAsked, IsNoListing, WasOnlyAsked}
use Rattle.told_scans.proofs.Events.{closing_both, got_at_end}
use Rattle.told_scans.proofs.Members.{asking_reads, each_then}
use Rattle.told_scans.specs.ToldScan.{AsksSo, opening_by}

-- ---- places in lists

got_cases : {A : Type 0} (xs ys : List A) (k : ℕ) (x : A) → slice_get (xs ++ ys) k ≡ Some x → (slice_get xs k ≡ Some x) ⊎ ((place : ℕ) × (k ≡ length xs + place) × (slice_get ys place ≡ Some x))
got_cases [] ys k x is = inr (k, omega arith, is)
got_cases (first ∷ xs) ys zero x is = inl is
got_cases (first ∷ xs) ys (suc k) x is = ⊎_elim inl (λ of. inr (of.0, let at = of.1 in omega (arith, at), of.2)) (got_cases xs ys k x is)

behind_seam : {A : Type 0} (xs : List A) (x : A) (ys : List A) → drop (suc (length xs)) (xs ++ x ∷ ys) ≡ ys
behind_seam [] x ys = refl
behind_seam (first ∷ xs) x ys = behind_seam xs x ys

-- ---- closings

pub closes_here : (opening : ℕ) (looks : List Look) (faults : ℕ) (more : List Event) → closing_in opening (Closed opening looks faults ∷ more) ≡ Some (record { looks = looks; faults = faults })
closes_here opening looks faults more =
    ap (λ (b : Bool). first_of_two (if b then Some (record { looks = looks; faults = faults }) else None) (closing_in opening more)) (eq-eqb opening opening refl)

-- it stays where more is done
stays_behind : (opening : ℕ) (events more : List Event) (closing : Closing) → opening < length events → closing_in opening (drop (suc opening) events) ≡ Some closing →
    closing_in opening (drop (suc opening) (events ++ more)) ≡ Some closing
stays_behind opening events more closing within is =
    ap (closing_in opening) (drop-append-le (suc opening) events more (omega (arith, within))) ∙ closing_both opening (drop (suc opening) events) more
    ∙ ap (λ (o : Option Closing). first_of_two o (closing_in opening more)) is

-- ---- a folder's list that goes on

pub goes_on_asking : (now later : FolderHistory) → HasOnlyAsked now later → FolderGoesOn now later
goes_on_asking now later asks = record { files = asks.files; more = asks.more; events = asks.events }

pub goes_on_further : (one two three : FolderHistory) → FolderGoesOn one two → FolderGoesOn two three → FolderGoesOn one three
goes_on_further one two three first second = record {
  files = second.files ∙ first.files;
  more = first.more ++ second.more;
  events = second.events ∙ ap (λ (l : List Event). l ++ second.more) first.events ∙ append_assoc one.events first.more second.more;
}

module _ (now later : FolderHistory) (on : FolderGoesOn now later) where
  pub longer : length now.events ≤ length later.events
  longer = let is = ap length on.events in let sum = length-append now.events on.more in omega (arith, is, sum)

  pub event_stays : (place : ℕ) (event : Event) → slice_get now.events place ≡ Some event → slice_get later.events place ≡ Some event
  event_stays place event is = ap (λ (l : List Event). slice_get l place) on.events ∙ got_in_front now.events on.more place event is

  -- and what stands at a place that was there before stood there then
  pub event_was : (place : ℕ) (event : Event) → place < length now.events → slice_get later.events place ≡ Some event → slice_get now.events place ≡ Some event
  event_was place event within is =
      ⊎_elim (λ here. here) (λ behind. absurd (let at = behind.1 in omega (arith, at, within)))
      (got_cases now.events on.more place event (sym (ap (λ (l : List Event). slice_get l place) on.events) ∙ is))

  pub closing_stays : (opening : ℕ) (closing : Closing) → opening < length now.events → closing_in opening (drop (suc opening) now.events) ≡ Some closing →
      closing_in opening (drop (suc opening) later.events) ≡ Some closing
  closing_stays opening closing within is =
      ap (λ (l : List Event). closing_in opening (drop (suc opening) l)) on.events ∙ stays_behind opening now.events on.more closing within is

  pub only_asked_still : (opening : ℕ) → opening < length now.events → WasOnlyAsked now opening → WasOnlyAsked later opening
  only_asked_still opening within was = record {
    looks = was.looks;
    closed = record {
      faults = was.closed.faults;
      closing = closing_stays opening (record { looks = was.looks; faults = was.closed.faults }) within was.closed.closing;
    };
    reads = was.reads;
  }

-- ---- tails that are opened to ask for a key alone

abbrev OnlyReads : List Look → Type 0
OnlyReads looks = AllByRecursion (λ (look : Look). IsRead look.question) looks

pub asked_none : (told : FolderHistory) → HasOnlyAsked told told
asked_none told = record {
  files = refl;
  more = [];
  events = sym (append-nil told.events);
  no_listing = tt;
  only_asked = λ opening path number begun since is.
      let within = slice_get_within told.events opening (Opened path number begun) is in absurd (omega (arith, since, within));
}

pub then_asked : (before mid after : FolderHistory) → HasOnlyAsked before mid → HasOnlyAsked mid after → HasOnlyAsked before after
then_asked before mid after first second = record {
  files = second.files ∙ first.files;
  more = first.more ++ second.more;
  events = second.events ∙ ap (λ (l : List Event). l ++ second.more) first.events ∙ append_assoc before.events first.more second.more;
  no_listing = both IsNoListing first.more second.more first.no_listing second.no_listing;
  only_asked = λ opening path number begun since is.
      ⊎_elim
      (λ here. only_asked_still mid after (goes_on_asking mid after second) opening (slice_get_within mid.events opening (Opened path number begun) here) (first.only_asked opening path number begun since here))
      (λ behind. second.only_asked opening path number begun (let at = behind.1 in omega (arith, at)) is)
      (got_cases mid.events second.more opening (Opened path number begun) (sym (ap (λ (l : List Event). slice_get l opening) second.events) ∙ is));
}

-- no tail was opened
asked_no_tail : (told : FolderHistory) (event : Event) → IsNoListing event → ((path : List ℕ) (number : ℕ) (begun : Sight) → event ≡ Opened path number begun → ⊥) →
    HasOnlyAsked told (with_events told (event ∷ []))
asked_no_tail told event no_listing no_opening = record {
  files = refl;
  more = event ∷ [];
  events = refl;
  no_listing = (no_listing, tt);
  only_asked = λ opening path number begun since is.
      ⊎_elim (λ here. let within = slice_get_within told.events opening (Opened path number begun) here in absurd (omega (arith, since, within)))
      (λ behind. absurd (none behind.0 path number begun behind.2)) (got_cases told.events (event ∷ []) opening (Opened path number begun) is);
}
  where
    none : (place : ℕ) (path : List ℕ) (number : ℕ) (begun : Sight) → slice_get (event ∷ []) place ≡ Some (Opened path number begun) → ⊥
    none zero path number begun is = no_opening path number begun (let q : Some event ≡ Some (Opened path number begun) = is in cc)
    none (suc place) path number begun is = let q : None ≡ Some (Opened path number begun) = is in cc

-- one was, told these reads and was closed
module _ (told : FolderHistory) (path : List ℕ) (number : ℕ) (begun : Sight) (looks : List Look) (faults : ℕ) where
  abbrev both_events : List Event
  both_events = Opened path number begun ∷ Closed (length told.events) looks faults ∷ []

  abbrev then_told : FolderHistory
  then_told = with_events told both_events

  pub closed_there : closing_in (length told.events) (drop (suc (length told.events)) then_told.events) ≡ Some (record { looks = looks; faults = faults })
  closed_there = ap (closing_in (length told.events)) (behind_seam told.events (Opened path number begun) (Closed (length told.events) looks faults ∷ []))
      ∙ closes_here (length told.events) looks faults []

  asked_one_tail : OnlyReads looks → HasOnlyAsked told then_told
  asked_one_tail reads = record {
    files = refl;
    more = both_events;
    events = refl;
    no_listing = (tt, (tt, tt));
    only_asked = λ opening other n sight since is.
        ⊎_elim (λ here. let within = slice_get_within told.events opening (Opened other n sight) here in absurd (omega (arith, since, within)))
        (λ behind. by_place behind.0 opening other n sight behind.1 behind.2) (got_cases told.events both_events opening (Opened other n sight) is);
  }
    where
      by_place : (place opening : ℕ) (other : List ℕ) (n : ℕ) (sight : Sight) → opening ≡ length told.events + place → slice_get both_events place ≡ Some (Opened other n sight) → WasOnlyAsked then_told opening
      by_place zero opening other n sight at is =
          let here : length told.events ≡ opening = omega (arith, at) in
          subst (WasOnlyAsked then_told) here (record { looks = looks; closed = record { faults = faults; closing = closed_there }; reads = reads })
      by_place (suc zero) opening other n sight at is = absurd (let q : Some (Closed (length told.events) looks faults) ≡ Some (Opened other n sight) = is in cc)
      by_place (suc (suc place)) opening other n sight at is = absurd (let q : None ≡ Some (Opened other n sight) = is in cc)

-- ---- where an answer stands in the folder's list

-- the file was opened there by its path, told one whole asking, and was closed without a fault
pub record HasAsked (rule : InputRule) (one : Listed) (opening : ℕ) (key : Option (List ℕ)) (told : FolderHistory) : Type 0 where
  pub by_bytes : IsFingerprint rule.file_identity
  pub number : ℕ
  pub begun : Sight
  pub is : slice_get told.events opening ≡ Some (Opened one.path number begun)
  pub file : File
  pub file_is : slice_get told.files number ≡ Some file
  pub looks : List Look
  pub closing : closing_in opening (drop (suc opening) told.events) ≡ Some (record { looks = looks; faults = 0 })
  pub asking : IsAsking rule.file_identity looks
  pub gave : key ≡ given_key rule.id rule.file_identity one.path file looks

-- nothing had its path there
pub record HasMissed (rule : InputRule) (one : Listed) (opening : ℕ) (told : FolderHistory) : Type 0 where
  pub by_bytes : IsFingerprint rule.file_identity
  pub is : slice_get told.events opening ≡ Some (NotThere one.path)

abbrev pub AnswerStands : InputRule → Listed → Answer → FolderHistory → Type 0
AnswerStands rule one ByName told = ¬ (IsFingerprint rule.file_identity)
AnswerStands rule one (Gave opening key) told = HasAsked rule one opening (Some key) told
AnswerStands rule one (TooFew opening) told = HasAsked rule one opening None told
AnswerStands rule one (NotFound opening) told = HasMissed rule one opening told

-- its opening is among the things that were done, behind the first so many
abbrev pub IsOpenedIn : ℕ → FolderHistory → Answer → Type 0
IsOpenedIn since told answer = (opening : ℕ) → opening_by answer ≡ Some opening → (since ≤ opening) × (opening < length told.events)

-- by the rule of the file's input
pub record IsAnsweredIn (inputs : List InputRule) (since : ℕ) (told : FolderHistory) (asked : AskedFile) : Type 0 where
  pub rule : InputRule
  pub rule_is : slice_get inputs asked.listed.input ≡ Some rule
  pub stands : AnswerStands rule asked.listed asked.answer told
  pub placed : IsOpenedIn since told asked.answer

pub same_opening : (first second : ℕ) → Some first ≡ Some second → first ≡ second
same_opening first second is = cc

-- ---- and stays there

module _ (now later : FolderHistory) (on : FolderGoesOn now later) (rule : InputRule) (one : Listed) where
  asked_still : (opening : ℕ) (key : Option (List ℕ)) → HasAsked rule one opening key now → HasAsked rule one opening key later
  asked_still opening key has = record {
    by_bytes = has.by_bytes;
    number = has.number;
    begun = has.begun;
    is = event_stays now later on opening (Opened one.path has.number has.begun) has.is;
    file = has.file;
    file_is = ap (λ (l : List File). slice_get l has.number) on.files ∙ has.file_is;
    looks = has.looks;
    closing = closing_stays now later on opening (record { looks = has.looks; faults = 0 })
        (slice_get_within now.events opening (Opened one.path has.number has.begun) has.is) has.closing;
    asking = has.asking;
    gave = has.gave;
  }

  answer_stays : (answer : Answer) → AnswerStands rule one answer now → AnswerStands rule one answer later
  answer_stays ByName stands = stands
  answer_stays (Gave opening key) stands = asked_still opening (Some key) stands
  answer_stays (TooFew opening) stands = asked_still opening None stands
  answer_stays (NotFound opening) stands = record { by_bytes = stands.by_bytes; is = event_stays now later on opening (NotThere one.path) stands.is }

-- where fewer things were done before, and more later
pub answered_still : (inputs : List InputRule) (before since : ℕ) (now later : FolderHistory) (asked : AskedFile) → before ≤ since → FolderGoesOn now later → IsAnsweredIn inputs since now asked →
    IsAnsweredIn inputs before later asked
answered_still inputs before since now later asked fewer on answered = record {
  rule = answered.rule;
  rule_is = answered.rule_is;
  stands = answer_stays now later on answered.rule asked.listed asked.answer answered.stands;
  placed = λ opening is.
      let was = answered.placed opening is in
      let more = longer now later on in
      (omega (arith, fewer, was.0), omega (arith, more, was.1));
}

-- ---- one file

module _ (rule : InputRule) (one : Listed) (before : FolderHistory) where
  module _ (opening : ℕ) (key : Option (List ℕ)) (after : FolderHistory) (was : WasAsked rule one opening key before after) where
    -- its closing is that of the place of its opening
    abbrev told_then : FolderHistory
    told_then = then_told before one.path was.number was.begun was.looks 0

    after_is : after ≡ told_then
    after_is = was.kept ∙ ap (λ (k : ℕ). with_events before (Opened one.path was.number was.begun ∷ Closed k was.looks 0 ∷ [])) was.opening_is

    only_one : HasOnlyAsked before after
    only_one = subst (HasOnlyAsked before) (sym after_is)
        (asked_one_tail before one.path was.number was.begun was.looks 0 (asking_reads rule.file_identity was.looks was.asking))

    has_asked : HasAsked rule one opening key after
    has_asked = subst (HasAsked rule one opening key) (sym after_is) (subst (λ (k : ℕ). HasAsked rule one k key told_then) (sym was.opening_is) (record {
      by_bytes = was.by_bytes;
      number = was.number;
      begun = was.begun;
      is = got_at_end before.events (Opened one.path was.number was.begun) (Closed (length before.events) was.looks 0 ∷ []);
      file = was.file;
      file_is = was.file_is;
      looks = was.looks;
      closing = closed_there before one.path was.number was.begun was.looks 0;
      asking = was.asking;
      gave = was.gave;
    }))

    within_asked : (length before.events ≤ opening) × (opening < length after.events)
    within_asked =
        let at = was.opening_is in
        (omega (arith, at), slice_get_within after.events opening (Opened one.path has_asked.number has_asked.begun) has_asked.is)

  only_answered : (answer : Answer) (after : FolderHistory) → AnswersSo rule one answer before after → HasOnlyAsked before after
  only_answered ByName after so = subst (HasOnlyAsked before) (sym so.1) (asked_none before)
  only_answered (Gave opening key) after so = only_one opening (Some key) after so
  only_answered (TooFew opening) after so = only_one opening None after so
  only_answered (NotFound opening) after so = subst (HasOnlyAsked before) (sym so.kept)
      (asked_no_tail before (NotThere one.path) tt (λ path number begun is. let q : NotThere one.path ≡ Opened path number begun = is in cc))

  stands_there : (answer : Answer) (after : FolderHistory) → AnswersSo rule one answer before after → AnswerStands rule one answer after
  stands_there ByName after so = so.0
  stands_there (Gave opening key) after so = has_asked opening (Some key) after so
  stands_there (TooFew opening) after so = has_asked opening None after so
  stands_there (NotFound opening) after so = subst (HasMissed rule one opening) (sym so.kept) (record {
    by_bytes = so.by_bytes;
    is = ap (slice_get (before.events ++ NotThere one.path ∷ [])) so.opening_is ∙ got_at_end before.events (NotThere one.path) [];
  })

  opened_there : (answer : Answer) (after : FolderHistory) → AnswersSo rule one answer before after → IsOpenedIn (length before.events) after answer
  opened_there ByName after so opening is = absurd (let q : None ≡ Some opening = is in cc)
  opened_there (Gave place key) after so opening is =
      subst (λ (k : ℕ). (length before.events ≤ k) × (k < length after.events)) (same_opening place opening is) (within_asked place (Some key) after so)
  opened_there (TooFew place) after so opening is =
      subst (λ (k : ℕ). (length before.events ≤ k) × (k < length after.events)) (same_opening place opening is) (within_asked place None after so)
  opened_there (NotFound place) after so opening is =
      let there = stands_there (NotFound place) after so in
      let at = so.opening_is in
      subst (λ (k : ℕ). (length before.events ≤ k) × (k < length after.events)) (same_opening place opening is)
      (omega (arith, at), slice_get_within after.events place (NotThere one.path) there.is)

-- ---- one behind the other

module _ (inputs : List InputRule) where
  one_asked : (asked : AskedFile) (before after : FolderHistory) → AsksOne inputs asked before after → HasOnlyAsked before after
  one_asked asked before after asks = only_answered asks.rule asked.listed before asked.answer after asks.answered

  pub one_answered : (asked : AskedFile) (before after : FolderHistory) → AsksOne inputs asked before after → IsAnsweredIn inputs (length before.events) after asked
  one_answered asked before after asks = record {
    rule = asks.rule;
    rule_is = asks.rule_is;
    stands = stands_there asks.rule asked.listed before asked.answer after asks.answered;
    placed = opened_there asks.rule asked.listed before asked.answer after asks.answered;
  }

  pub all_asked : (asked : List AskedFile) (before after : FolderHistory) → AsksFrom inputs asked before after → HasOnlyAsked before after
  all_asked [] before after asks = subst (HasOnlyAsked before) (sym asks) (asked_none before)
  all_asked (one ∷ asked) before after asks = then_asked before asks.0 after (one_asked one before asks.0 asks.1) (all_asked asked asks.0 after asks.2)

-- ---- an asking that failed

cut_only : (path : List ℕ) (before : FolderHistory) (last : List Event) → CutsOff path before last → HasOnlyAsked before (with_events before last)
cut_only path before last (inl failed) = subst (λ (l : List Event). HasOnlyAsked before (with_events before l)) (sym failed)
    (asked_no_tail before (OpeningFailed path) tt (λ other number begun is. let q : OpeningFailed path ≡ Opened other number begun = is in cc))
cut_only path before last (inr read) = subst (λ (l : List Event). HasOnlyAsked before (with_events before l)) (sym read.last_is)
    (asked_one_tail before path read.number read.begun read.looks read.faults read.reads)

module _ (inputs : List InputRule) where
  failed_only : (one : Listed) (before after : FolderHistory) → FaultsOne inputs one before after → HasOnlyAsked before after
  failed_only one before after faults = subst (HasOnlyAsked before) (sym faults.kept) (cut_only one.path before faults.last (by_case faults.fails))
    where
      by_case : FailsSo one.path before faults.last → CutsOff one.path before faults.last
      by_case (inl failed) = inl failed
      by_case (inr vain) = inr vain.read

  pub one_tried : (trial : Trial) (before after : FolderHistory) → TriesOne inputs trial before after → HasOnlyAsked before after
  one_tried (Answered asked) before after tries = one_asked inputs asked before after tries
  one_tried (Faulted one) before after tries = failed_only one before after tries

  pub all_tried : (trials : List Trial) (askings : List Asking) (before after : FolderHistory) → AsksSo inputs trials askings before after → HasOnlyAsked before after
  all_tried [] [] before after asks = subst (HasOnlyAsked before) (sym asks) (asked_none before)
  all_tried [] (asking ∷ askings) before after asks = absurd asks
  all_tried (trial ∷ trials) [] before after asks = absurd asks
  all_tried (trial ∷ trials) (asking ∷ askings) before after asks =
      then_asked before asks.0 after (one_tried trial before asks.0 asks.1) (all_tried trials askings asks.0 after asks.3)

  later_answered : (trial : Trial) (before mid after : FolderHistory) → TriesOne inputs trial before mid → FolderGoesOn after after → (asked : List AskedFile) →
      AllByRecursion (IsAnsweredIn inputs (length mid.events) after) asked → AllByRecursion (IsAnsweredIn inputs (length before.events) after) asked
  later_answered trial before mid after tries same asked each =
      each_then (IsAnsweredIn inputs (length mid.events) after) (IsAnsweredIn inputs (length before.events) after) asked
      (λ other answered. answered_still inputs (length before.events) (length mid.events) after after other
      (longer before mid (goes_on_asking before mid (one_tried trial before mid tries))) same answered) each

  pub each_answered : (trials : List Trial) (askings : List Asking) (before after : FolderHistory) → AsksSo inputs trials askings before after →
      AllByRecursion (IsAnsweredIn inputs (length before.events) after) (answered_in trials)
  each_answered [] [] before after asks = tt
  each_answered [] (asking ∷ askings) before after asks = absurd asks
  each_answered (trial ∷ trials) [] before after asks = absurd asks
  each_answered (trial ∷ trials) (asking ∷ askings) before after asks = by_trial trial asks.1 (each_answered trials askings asks.0 after asks.3)
    where
      mid : FolderHistory
      mid = asks.0

      rest : FolderGoesOn mid after
      rest = goes_on_asking mid after (all_tried trials askings mid after asks.3)

      same : FolderGoesOn after after
      same = goes_on_asking after after (asked_none after)

      by_trial : (trial : Trial) → TriesOne inputs trial before mid → AllByRecursion (IsAnsweredIn inputs (length mid.events) after) (answered_in trials) →
          AllByRecursion (IsAnsweredIn inputs (length before.events) after) (answered_in (trial ∷ trials))
      by_trial (Answered one) tries later = (
        answered_still inputs (length before.events) (length before.events) mid after one (omega arith) rest (one_answered inputs one before mid tries),
        later_answered (Answered one) before mid after tries same (answered_in trials) later,
      )
      by_trial (Faulted one) tries later = later_answered (Faulted one) before mid after tries same (answered_in trials) later

-- ---- asking that was cut off

pub ended_only : (inputs : List InputRule) (others : List Listed) (before : FolderHistory) (last : List Event) → IsCutOff inputs others before last → HasOnlyAsked before (with_events before last)
ended_only inputs others before last (inl none) = subst (λ (l : List Event). HasOnlyAsked before (with_events before l)) (sym none)
    (subst (HasOnlyAsked before) (λ k. record { files = before.files; events = sym (append-nil before.events) k }) (asked_none before))
ended_only inputs others before last (inr cut) = cut_only cut.one.path before last cut.cut

pub some_asked : (inputs : List InputRule) (told : FolderHistory) (listed : List Listed) (after : FolderHistory) → AsksSome inputs told listed (Some after) → HasOnlyAsked told after
some_asked inputs told listed after asks =
    let is : after ≡ with_events asks.mid asks.last = (let q : Some after ≡ Some (with_events asks.mid asks.last) = asks.after_is in cc) in
    subst (HasOnlyAsked told) (sym is)
    (then_asked told asks.mid (with_events asks.mid asks.last) (all_asked inputs asks.asked told asks.mid asks.asks) (ended_only inputs asks.others asks.mid asks.last asks.ends))
