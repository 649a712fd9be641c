-- A scan that goes on past what fails, as its calls tell it, is one as it was told; it is whole where nothing failed, and else partial.
use Rattle.std.proofs.Common.{◌≡◌, ◌≢◌, ◌⊎◌, inl, inr, ⊎_elim, ℕ, List, [], ◌∷◌, Contains, length, map, Some, refl, sym, ap, subst, ◌∙◌}
use Rattle.std.proofs.lemmas.List.Elements.{Contains-append_left}
use Rattle.std.specs.Prelude.{All, flat_map}
use Rattle.event_tree.specs.declared.input_rule.InputRule.{InputRule}
use Rattle.event_tree.specs.declared.settings.Settings.{Settings}
use Rattle.kept_rows.specs.Run.{Asking}
use Rattle.outside.specs.Counts.{IsAtEnd}
use Rattle.outside.specs.Folders.{Event, FolderHistory}
use Rattle.prospect.specs.Doubled.{PartsDoubled}
use Rattle.prospect.specs.ListedFiles.{IsKeyed}
use Rattle.prospect.specs.PastFaults.{Attempt, Served, ServesFiles, StandSo, Trial, TriesFiles, TriesFrom, Unserved, answered_in, served_in, unserved_by}
use Rattle.prospect.specs.Scan.{event_of, with_events}
use Rattle.prospect.specs.declared.askings.Askings.{Askings}
use Rattle.prospect.specs.declared.listed.Listed.{Listed}
use Rattle.told_scans.proofs.AskedEvents.{all_tried, goes_on_asking}
use Rattle.told_scans.proofs.FirstPaths.{is_first_path}
use Rattle.told_scans.proofs.Members.{some_is}
use Rattle.told_scans.proofs.ScanList.{entry_of}
use Rattle.told_scans.proofs.ScanOf.{only_listed, rule_of, shows_file}
use Rattle.told_scans.specs.Exact.{IsShownAs, ShowsExactly}
use Rattle.told_scans.specs.FolderOn.{FolderGoesOn}
use Rattle.told_scans.specs.ToldScan.{AsksSo, IsAround, IsTold, IsToldWithFault, IsToldWithoutFault, RunAround, ToldScan, asking_at, event_tried, run_around, scan_by}

-- ---- in the folder's list

-- each attempt stands there, as long as the folder can count a fault, or if none failed
pub events_tried : (faults : ℕ) (attempts : List Attempt) → (IsAtEnd faults → flat_map unserved_by attempts ≡ []) → (events : List Event) → StandSo faults attempts events →
    events ≡ map event_tried attempts
events_tried faults [] counts events stand = stand
events_tried faults (Served listing ∷ attempts) counts events stand =
    stand.1 ∙ ap (λ (l : List Event). event_of listing ∷ l) (events_tried faults attempts counts stand.0 stand.2)
events_tried faults (Unserved glob ∷ attempts) counts events (inl stand) =
    stand.1 ∙ ap (λ (l : List Event). event_tried (Unserved glob) ∷ l)
    (events_tried faults attempts (λ at_end. absurd (let wrong : _ ∷ flat_map unserved_by attempts ≡ [] = counts at_end in cc)) stand.0 stand.2)
events_tried faults (Unserved glob ∷ attempts) counts events (inr stand) = absurd (let wrong : _ ∷ flat_map unserved_by attempts ≡ [] = counts stand.0 in cc)

-- what was asked, with the places at which it failed
pub record TellsAskings (inputs : List InputRule) (trials : List Trial) (before after : FolderHistory) : Type 0 where
  pub askings : List Asking
  pub so : AsksSo inputs trials askings before after

abbrev pub tells_askings : (inputs : List InputRule) (trials : List Trial) (before after : FolderHistory) → TriesFrom inputs trials before after → TellsAskings inputs trials before after
tells_askings inputs [] before after tries = record { askings = []; so = tries }
tells_askings inputs (trial ∷ trials) before after tries =
    let rest = tells_askings inputs trials tries.0 after tries.2 in
    record { askings = asking_at (length before.events) trial ∷ rest.askings; so = (tries.0, tries.1, refl, rest.so) }

-- and the folder goes on
pub tries_on : (inputs : List InputRule) (trials : List Trial) (before after : FolderHistory) → TriesFrom inputs trials before after → FolderGoesOn before after
tries_on inputs trials before after tries =
    let its = tells_askings inputs trials before after tries in
    goes_on_asking before after (all_tried inputs trials its.askings before after its.so)

-- ---- the scan

module _ (settings : Settings) (moment : ℕ) (earlier listed scanned : FolderHistory) (failed : List (List ℕ)) (all : List Listed) (faults : ℕ) (asked : Askings)
    (files doubled : List Listed) (serves : ServesFiles settings.inputs earlier failed all faults (Some listed)) (counts : IsAtEnd faults → failed ≡ [])
    (tries : TriesFiles settings.inputs listed all asked (Some scanned)) where
  abbrev its_askings : TellsAskings settings.inputs tries.trials listed tries.last
  its_askings = tells_askings settings.inputs tries.trials listed tries.last tries.tries

  abbrev pub told_past_faults : ToldScan
  told_past_faults = record {
    settings = settings;
    moment = moment;
    earlier = earlier;
    listed = listed;
    scanned = scanned;
    askings = its_askings.askings;
    asked = answered_in tries.trials;
    files = files;
    doubled = doubled;
  }

  abbrev pub is_told : All (IsKeyed settings.inputs) all → PartsDoubled asked.keyed.files.items files doubled → IsTold told_past_faults
  is_told keyed parts = record {
    attempts = serves.tries.attempts;
    for_each_glob = serves.tries.one_for_each_glob;
    listed_is = some_is listed (with_events earlier serves.tries.makes.more) serves.tries.makes.kept
        ∙ ap (with_events earlier) (events_tried faults serves.tries.attempts (λ at_end. sym serves.tries.failed_are ∙ counts at_end) serves.tries.makes.more serves.tries.makes.stand);
    listings = served_in serves.tries.attempts;
    served = refl;
    all = all;
    shown = serves.shown;
    keyed = keyed;
    trials = tries.trials;
    tried_are = tries.are;
    answered = refl;
    asks = subst (AsksSo settings.inputs tries.trials its_askings.askings listed) (sym (some_is scanned tries.last tries.after_is)) its_askings.so;
    parts = subst (λ (l : List Listed). PartsDoubled l files doubled) tries.files parts;
  }

  module _ (keyed : All (IsKeyed settings.inputs) all) (parts : PartsDoubled asked.keyed.files.items files doubled) where
    pub told_without_fault : failed ≡ [] → asked.failed.items ≡ [] → IsToldWithoutFault told_past_faults
    told_without_fault listed_all asked_all = record {
      is = is_told keyed parts;
      none_failed = sym serves.tries.failed_are ∙ listed_all;
      none_faulted = sym tries.failed ∙ asked_all;
    }

    pub told_with_fault : (failed ≢ []) ⊎ (asked.failed.items ≢ []) → IsToldWithFault told_past_faults
    told_with_fault some = record {
      is = is_told keyed parts;
      some = ⊎_elim (λ unlisted. inl (λ none. unlisted (serves.tries.failed_are ∙ none))) (λ unasked. inr (λ none. unasked (tries.failed ∙ none))) some;
    }

-- ---- what it showed

module _ (told : ToldScan) (has : IsTold told) (around : RunAround) (on : IsAround told around) where
  shown_as : (one : Listed) (key : List ℕ) → Contains told.files one → one.key ≡ Some key → IsShownAs (run_around told around) (scan_by told) one key
  shown_as one key there keyed =
      let among = Contains-append_left told.files told.doubled one there in
      let of = entry_of told has around on one among in
      let its = shows_file told has around on one among of key keyed of.by.rule (rule_of told has around on one of) in
      record {
        number = its.number;
        shown = of.shown;
        shows = its.shows;
        path_is = sym of.path_is;
        size_is = sym of.size_is;
        changed_is = sym of.changed_is;
        first = is_first_path told has around on one key its.number there keyed
            (record { shown = of.shown; path_is = sym of.path_is; shows = (one.input, its.shows) });
      }

  pub shows_exactly : ShowsExactly (run_around told around) (scan_by told) told.files
  shows_exactly = record { each = shown_as; only = only_listed told has around on }
