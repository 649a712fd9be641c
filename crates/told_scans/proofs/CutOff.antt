-- A scan that was cut off: what it adds to the folder's list, and what is said of the scans before it as the run goes on.
use Rattle.std.proofs.Common.{◌≡◌, ◌⊎◌, inl, inr, ⊎_elim, ℕ, ◌<◌, ◌≤◌, List, [], ◌∷◌, length, slice_get, Option, Some, None, refl, sym, ap, subst, ◌∙◌, arith}
use Rattle.event_tree.specs.declared.input_rule.InputRule.{InputRule}
use Rattle.event_tree.specs.declared.settings.Settings.{Settings}
use Rattle.outside.specs.Folders.{Event, FolderHistory, Opened, OpeningFailed}
use Rattle.outside.specs.declared.history.Sight.{Sight}
use Rattle.prospect.specs.AskedFiles.{CutsOff, IsCutOff}
use Rattle.prospect.specs.PastFaults.{served_in}
use Rattle.prospect.specs.Scan.{with_events}
use Rattle.prospect.specs.declared.listed.Listed.{Listed}
use Rattle.told_scans.proofs.AskedEvents.{all_tried, asked_none, ended_only, goes_on_asking, goes_on_further, longer, then_asked}
use Rattle.told_scans.proofs.OpenedBetween.{between_until}
use Rattle.told_scans.proofs.ScanAdds.{AddsClosingNone, adds_asked, adds_by_two, adds_events, adds_nothing, all_add, asked_after_listings, listings_add}
use Rattle.told_scans.proofs.ScansPlaced.{between_last, between_on, between_since}
use Rattle.told_scans.proofs.ToldScans.{go_on, goes_on_unlisted, nothing_appended, nothing_done, nothing_further}
use Rattle.told_scans.specs.CutOff.{AreToldTo, AskedNone, AskedSome, CutScan, IsToldCut, LiesApart}
use Rattle.told_scans.specs.FolderOn.{FolderGoesOn}
use Rattle.told_scans.specs.OnlyAsked.{HasOnlyAsked, WasOnlyAsked}
use Rattle.told_scans.specs.ToldScan.{ToldScan}
use Rattle.told_scans.specs.ToldScans.{AreToldFrom, NothingListed}

-- ---- what it adds

cut_adds : (path : List ℕ) (before : FolderHistory) (last : List Event) → CutsOff path before last → AddsClosingNone before (with_events before last)
cut_adds path before last (inl failed) =
    subst (λ (l : List Event). AddsClosingNone before (with_events before l)) (sym failed) (adds_events before (OpeningFailed path ∷ []) (λ opening within. refl))
cut_adds path before last (inr read) =
    adds_asked before (with_events before last) path read.number read.begun (length before.events) read.looks read.faults refl (ap (with_events before) read.last_is)

end_adds : (inputs : List InputRule) (others : List Listed) (before : FolderHistory) (last : List Event) → IsCutOff inputs others before last → AddsClosingNone before (with_events before last)
end_adds inputs others before last (inl none) =
    subst (λ (l : List Event). AddsClosingNone before (with_events before l)) (sym none) (adds_events before [] (λ opening within. refl))
end_adds inputs others before last (inr cut) = cut_adds cut.one.path before last cut.cut

module _ (cut : CutScan) (has : IsToldCut cut) where
  -- after its listings it only asked
  pub only_asks : HasOnlyAsked cut.listed cut.ended
  only_asks = by_case has.asked
    where
      by_case : AskedNone cut ⊎ ((has.unlisted ≡ []) × AskedSome cut (served_in has.attempts)) → HasOnlyAsked cut.listed cut.ended
      by_case (inl none) = subst (HasOnlyAsked cut.listed) (sym none.ended_is) (asked_none cut.listed)
      by_case (inr some) =
          let asked = some.1 in
          subst (HasOnlyAsked cut.listed) (sym asked.ended_is)
          (then_asked cut.listed asked.mid (with_events asked.mid asked.last) (all_tried cut.settings.inputs asked.trials cut.askings cut.listed asked.mid asked.asks)
          (ended_only cut.settings.inputs asked.others asked.mid asked.last asked.ends))

  askings_add : AddsClosingNone cut.listed cut.ended
  askings_add = by_case has.asked
    where
      by_case : AskedNone cut ⊎ ((has.unlisted ≡ []) × AskedSome cut (served_in has.attempts)) → AddsClosingNone cut.listed cut.ended
      by_case (inl none) = subst (AddsClosingNone cut.listed) (sym none.ended_is) (adds_nothing cut.listed)
      by_case (inr some) =
          let asked = some.1 in
          subst (AddsClosingNone cut.listed) (sym asked.ended_is)
          (adds_by_two cut.listed asked.mid (with_events asked.mid asked.last) (all_add cut.settings.inputs asked.trials cut.askings cut.listed asked.mid asked.asks)
          (end_adds cut.settings.inputs asked.others asked.mid asked.last asked.ends))

  -- it closes no tail that was opened before it
  pub cut_scan_adds : AddsClosingNone cut.earlier cut.ended
  cut_scan_adds = adds_by_two cut.earlier cut.listed cut.ended (listings_add cut.earlier cut.listed has.attempts has.listed_is) askings_add

  -- each tail that it opened was only asked
  pub asked_in_cut_scan : (opening : ℕ) (path : List ℕ) (number : ℕ) (begun : Sight) → length cut.earlier.events ≤ opening →
      slice_get cut.ended.events opening ≡ Some (Opened path number begun) → WasOnlyAsked cut.ended opening
  asked_in_cut_scan = asked_after_listings cut.earlier cut.listed cut.ended has.attempts has.listed_is only_asks

  pub cut_goes_on : FolderGoesOn cut.earlier cut.ended
  cut_goes_on = record { files = cut_scan_adds.files; more = cut_scan_adds.more; events = cut_scan_adds.events }

-- ---- as the run goes on

module _ (settings : Settings) (before : FolderHistory) (scans : List ToldScan) where
  -- more is done without a listing
  pub nothing_appended_to : (cut : Option CutScan) (now later : FolderHistory) → AreToldTo settings before scans cut now → NothingListed now later → AreToldTo settings before scans cut later
  nothing_appended_to None now later are nothing = nothing_appended settings before scans now later are nothing
  nothing_appended_to (Some cut) now later are nothing = record {
    earlier = are.earlier;
    settings_are = are.settings_are;
    is = are.is;
    since = nothing_further cut.ended now later are.since nothing;
  }

  pub apart_on : (place : ℕ) (cut : Option CutScan) (now later : FolderHistory) → length now.events ≤ length later.events → LiesApart place before scans cut now → LiesApart place before scans cut later
  apart_on place None now later on lies = between_on place before scans now later on lies
  apart_on place (Some cut) now later on (inl lies) = inl lies
  apart_on place (Some cut) now later on (inr lies) = inr (lies.0, let less = lies.1 in omega (arith, less, on))

  pub apart_since : (place : ℕ) (cut : Option CutScan) (now : FolderHistory) → AreToldTo settings before scans cut now → LiesApart place before scans cut now → length before.events ≤ place
  apart_since place None now are lies = between_since settings place before scans now are lies
  apart_since place (Some cut) now are (inl lies) = between_since settings place before scans cut.earlier are.earlier lies
  apart_since place (Some cut) now are (inr lies) =
      let first = longer before cut.earlier (go_on settings before scans cut.earlier are.earlier) in
      let its = longer cut.earlier cut.ended (cut_goes_on cut are.is) in
      let since = lies.0 in
      omega (arith, first, its, since)

  -- what was done after all of them
  pub apart_last : (place : ℕ) (cut : Option CutScan) (now later : FolderHistory) → AreToldTo settings before scans cut now → length now.events ≤ place → place < length later.events →
      LiesApart place before scans cut later
  apart_last place None now later are since less = between_last settings place before scans now later are since less
  apart_last place (Some cut) now later are since less =
      let long = longer cut.ended now (goes_on_unlisted cut.ended now are.since) in inr (omega (arith, long, since), less)

  -- one that is cut off comes after them, and what lay between them does so still
  pub cut_then : (cut : CutScan) → AreToldFrom settings before scans cut.earlier → cut.settings ≡ settings → IsToldCut cut → AreToldTo settings before scans (Some cut) cut.ended
  cut_then cut are same is = record { earlier = are; settings_are = same; is = is; since = nothing_done cut.ended }

  -- no place within it is apart
  pub not_within_the_cut : (place : ℕ) (cut : CutScan) (now : FolderHistory) → AreToldTo settings before scans (Some cut) now → length cut.earlier.events ≤ place → place < length cut.ended.events →
      LiesApart place before scans (Some cut) now → ⊥
  not_within_the_cut place cut now are since less (inl lies) = let until = between_until settings place before scans cut.earlier are.earlier lies in omega (arith, since, until)
  not_within_the_cut place cut now are since less (inr lies) = let later = lies.0 in omega (arith, less, later)
