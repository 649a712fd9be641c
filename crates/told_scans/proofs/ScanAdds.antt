-- What a scan adds to the folder's list: it closes no tail that was opened before it, and the tails that it opens are only asked for their keys.
use Rattle.std.proofs.Common.{◌≡◌, ◌⊎◌, ◌≤◌, slice_get, inl, inr, ℕ, ◌+◌, ◌<◌, ◌==◌, Bool, true, false, List, [], ◌∷◌, ◌++◌, length, map, append_assoc, append-nil, length-append, Option, Some, None, if◌then◌else◌, refl, sym, ap, subst, ◌∙◌, arith}
use Rattle.std.proofs.lemmas.Bool.{cases_lt, eqb-true}
use Rattle.event_tree.specs.declared.input_rule.InputRule.{InputRule}
use Rattle.kept_rows.specs.Run.{Asking}
use Rattle.kept_rows.specs.Trace.{Closing, closing_in, first_of_two}
use Rattle.outside.specs.Folders.{Closed, Event, FolderHistory, NotThere, Opened, OpeningFailed}
use Rattle.outside.specs.declared.history.Look.{Look}
use Rattle.outside.specs.declared.history.Sight.{Sight}
use Rattle.prospect.specs.AskedFiles.{Answer, AnswersSo, ByName, FailsSo, Gave, NotFound, TooFew}
use Rattle.prospect.specs.PastFaults.{Answered, Attempt, Faulted, Served, TriesOne, Trial, Unserved}
use Rattle.prospect.specs.Scan.{with_events}
use Rattle.prospect.specs.declared.listed.Listed.{Listed}
use Rattle.told_scans.proofs.AskedEvents.{event_was, goes_on_asking}
use Rattle.told_scans.proofs.Events.{closing_both}
use Rattle.told_scans.proofs.Scanning.{are_at, no_opening}
use Rattle.told_scans.proofs.ToldScans.{asks_alone}
use Rattle.told_scans.specs.OnlyAsked.{HasOnlyAsked, WasOnlyAsked}
use Rattle.told_scans.specs.Partial.{AreAt}
use Rattle.told_scans.specs.ToldScan.{AsksSo, IsTold, ToldScan, event_tried}

pub record AddsClosingNone (before after : FolderHistory) : Type 0 where
  pub files : after.files ≡ before.files
  pub more : List Event
  pub events : after.events ≡ before.events ++ more
  pub closes_none : (opening : ℕ) → opening < length before.events → closing_in opening more ≡ None

pub adds_nothing : (told : FolderHistory) → AddsClosingNone told told
adds_nothing told = record { files = refl; more = []; events = sym (append-nil told.events); closes_none = λ opening within. refl }

pub adds_by_two : (first mid last : FolderHistory) → AddsClosingNone first mid → AddsClosingNone mid last → AddsClosingNone first last
adds_by_two first mid last one next = record {
  files = next.files ∙ one.files;
  more = one.more ++ next.more;
  events = next.events ∙ ap (λ (l : List Event). l ++ next.more) one.events ∙ append_assoc first.events one.more next.more;
  closes_none = λ opening within.
      closing_both opening one.more next.more
      ∙ ap (λ (o : Option Closing). first_of_two o (closing_in opening next.more)) (one.closes_none opening within)
      ∙ next.closes_none opening (let sum = length-append first.events one.more in let is = ap length one.events in omega (arith, within, sum, is));
}

pub adds_events : (told : FolderHistory) (more : List Event) → ((opening : ℕ) → opening < length told.events → closing_in opening more ≡ None) → AddsClosingNone told (with_events told more)
adds_events told more none = record { files = refl; more = more; events = refl; closes_none = none }

-- ---- a tail that was opened and closed again

pub closes_another : (opening of : ℕ) (looks : List Look) (faults : ℕ) → opening < of → closing_in opening (Closed of looks faults ∷ []) ≡ None
closes_another opening of looks faults less = by_case (of == opening) refl
  where
    by_case : (b : Bool) → (of == opening) ≡ b → closing_in opening (Closed of looks faults ∷ []) ≡ None
    by_case true is = absurd (let same = eqb-true of opening is in omega (arith, same, less))
    by_case false is = ap (λ (b : Bool). first_of_two (if b then Some (record { looks = looks; faults = faults }) else None) (closing_in opening [])) is

pub adds_asked : (told after : FolderHistory) (path : List ℕ) (number : ℕ) (begun : Sight) (of : ℕ) (looks : List Look) (faults : ℕ) → of ≡ length told.events →
    after ≡ with_events told (Opened path number begun ∷ Closed of looks faults ∷ []) → AddsClosingNone told after
adds_asked told after path number begun of looks faults at is =
    subst (AddsClosingNone told) (sym is)
    (adds_events told (Opened path number begun ∷ Closed of looks faults ∷ []) (λ opening within. closes_another opening of looks faults (omega (arith, within, at))))

-- ---- an asking

module _ (rule : InputRule) (one : Listed) (before after : FolderHistory) where
  answered_adds : (answer : Answer) → AnswersSo rule one answer before after → AddsClosingNone before after
  answered_adds ByName so = subst (AddsClosingNone before) (sym so.1) (adds_nothing before)
  answered_adds (Gave opening key) so = adds_asked before after one.path so.number so.begun opening so.looks 0 so.opening_is so.kept
  answered_adds (TooFew opening) so = adds_asked before after one.path so.number so.begun opening so.looks 0 so.opening_is so.kept
  answered_adds (NotFound opening) so = subst (AddsClosingNone before) (sym so.kept) (adds_events before (NotThere one.path ∷ []) (λ opening within. refl))

failed_adds : (path : List ℕ) (before after : FolderHistory) (last : List Event) → FailsSo path before last → after ≡ with_events before last → AddsClosingNone before after
failed_adds path before after last (inl failed) is =
    subst (AddsClosingNone before) (sym (is ∙ ap (with_events before) failed)) (adds_events before (OpeningFailed path ∷ []) (λ opening within. refl))
failed_adds path before after last (inr vain) is =
    adds_asked before after path vain.read.number vain.read.begun (length before.events) vain.read.looks vain.read.faults refl (is ∙ ap (with_events before) vain.read.last_is)

module _ (inputs : List InputRule) where
  tried_adds : (trial : Trial) (before after : FolderHistory) → TriesOne inputs trial before after → AddsClosingNone before after
  tried_adds (Answered asked) before after tries = answered_adds tries.rule asked.listed before after asked.answer tries.answered
  tried_adds (Faulted one) before after tries = failed_adds one.path before after tries.last tries.fails tries.kept

  pub all_add : (trials : List Trial) (askings : List Asking) (before after : FolderHistory) → AsksSo inputs trials askings before after → AddsClosingNone before after
  all_add [] [] before after asks = subst (AddsClosingNone before) (sym asks) (adds_nothing before)
  all_add [] (asking ∷ askings) before after asks = absurd asks
  all_add (trial ∷ trials) [] before after asks = absurd asks
  all_add (trial ∷ trials) (asking ∷ askings) before after asks =
      adds_by_two before asks.0 after (tried_adds trial before asks.0 asks.1) (all_add trials askings asks.0 after asks.3)

-- ---- the listings

listings_close_none : (opening : ℕ) (attempts : List Attempt) → closing_in opening (map event_tried attempts) ≡ None
listings_close_none opening [] = refl
listings_close_none opening (Served listing ∷ attempts) = listings_close_none opening attempts
listings_close_none opening (Unserved glob ∷ attempts) = listings_close_none opening attempts

-- ---- all of it

pub listings_add : (before listed : FolderHistory) (attempts : List Attempt) → listed ≡ with_events before (map event_tried attempts) → AddsClosingNone before listed
listings_add before listed attempts is =
    subst (AddsClosingNone before) (sym is) (adds_events before (map event_tried attempts) (λ opening within. listings_close_none opening attempts))

pub scan_adds : (told : ToldScan) → IsTold told → AddsClosingNone told.earlier told.scanned
scan_adds told has =
    adds_by_two told.earlier told.listed told.scanned (listings_add told.earlier told.listed has.attempts has.listed_is)
    (all_add told.settings.inputs has.trials told.askings told.listed told.scanned has.asks)

-- each tail that it opened was only asked
module _ (before listed after : FolderHistory) (attempts : List Attempt) (listed_is : listed ≡ with_events before (map event_tried attempts)) (asks : HasOnlyAsked listed after) where
  pub asked_after_listings : (opening : ℕ) (path : List ℕ) (number : ℕ) (begun : Sight) → length before.events ≤ opening →
      slice_get after.events opening ≡ Some (Opened path number begun) → WasOnlyAsked after opening
  asked_after_listings opening path number begun since is = by_place (cases_lt opening (length listed.events))
    where
      listed_events : List Event
      listed_events = map event_tried attempts

      listed_are : listed.events ≡ before.events ++ listed_events
      listed_are = ap (λ (h : FolderHistory). h.events) listed_is

      at : AreAt listed.events (length before.events) listed_events
      at = subst (λ (l : List Event). AreAt l (length before.events) listed_events) (sym listed_are)
          (subst (λ (l : List Event). AreAt (before.events ++ l) (length before.events) listed_events) (append-nil listed_events) (are_at listed_events before.events []))

      by_place : (opening < length listed.events) ⊎ (length listed.events ≤ opening) → WasOnlyAsked after opening
      by_place (inl within) =
          let long = ap length listed_are ∙ length-append before.events listed_events in
          absurd (no_opening listed.events attempts (length before.events) opening path number begun at since (omega (arith, within, long))
          (event_was listed after (goes_on_asking listed after asks) opening (Opened path number begun) within is))
      by_place (inr behind) = asks.only_asked opening path number begun behind is

pub asked_in_scan : (told : ToldScan) → IsTold told → (opening : ℕ) (path : List ℕ) (number : ℕ) (begun : Sight) → length told.earlier.events ≤ opening →
    slice_get told.scanned.events opening ≡ Some (Opened path number begun) → WasOnlyAsked told.scanned opening
asked_in_scan told has = asked_after_listings told.earlier told.listed told.scanned has.attempts has.listed_is (asks_alone told has)
