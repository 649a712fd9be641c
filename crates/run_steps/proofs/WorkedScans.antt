-- Worked later scans of one glob, whose listing failed: one that gives nothing and is called partial is such a scan, and none is that is called whole.
use Rattle.std.proofs.Common.{◌≡◌, inl, ℕ, true, false, List, [], ◌∷◌, ◌++◌, map, append_assoc, refl, sym, ap, subst, ◌∙◌}
use Rattle.std.specs.Prelude.{flat_map}
use Rattle.std.proofs.lemmas.Bool.{both_ways}
use Rattle.std.proofs.lemmas.List.{append_cancel_left}
use Rattle.std.proofs.lemmas.List.Elements.{All-nil}
use Rattle.std.specs.List.{AllByRecursion}
use Rattle.event_tree.specs.declared.settings.Settings.{Settings}
use Rattle.outside.specs.Folders.{Event, FolderHistory, ListingFailed}
use Rattle.prospect.specs.ListedFiles.{AreFilesShown, IsKeyed}
use Rattle.prospect.specs.Members.{globs_of}
use Rattle.prospect.specs.PastFaults.{Attempt, Served, Unserved, unserved_by}
use Rattle.prospect.specs.Scan.{event_of, with_events}
use Rattle.prospect.specs.declared.listed.Listed.{Listed}
use Rattle.ship_core.proofs.Members.{none_there}
use Rattle.told_scans.proofs.PastFaults.{shows_exactly}
use Rattle.told_scans.proofs.ToldScans.{asks_alone}
use Rattle.told_scans.specs.Exact.{ShowsExactly}
use Rattle.told_scans.specs.OnlyAsked.{IsNoListing}
use Rattle.told_scans.specs.ToldScan.{IsTold, IsToldWithFault, ToldScan, event_tried, run_around, scan_by}
use Rattle.run_steps.specs.ScansAgain.{IsRescan}
use Rattle.run_steps.specs.declared.scanning.Rescan.{Rescan}

module _ (settings : Settings) (glob : List ℕ) (one_glob : globs_of settings.inputs ≡ glob ∷ []) (before : FolderHistory) (scan : Rescan) where
  abbrev after : FolderHistory
  after = with_events before (ListingFailed ∷ [])

  -- ---- one that is called partial

  abbrev nothing_shown : ToldScan
  nothing_shown = record {
    settings = settings;
    moment = scan.now.0;
    earlier = before;
    listed = after;
    scanned = after;
    askings = [];
    asked = [];
    files = [];
    doubled = [];
  }

  no_files : AreFilesShown settings.inputs [] []
  no_files = record {
    only = All-nil _;
    every = λ shown input of. absurd (none_there shown of.among);
    in_order = tt;
    apart = tt;
  }

  abbrev is_told : IsTold nothing_shown
  is_told = record {
    attempts = Unserved glob ∷ [];
    for_each_glob = sym one_glob;
    listed_is = refl;
    listings = [];
    served = refl;
    all = [];
    shown = no_files;
    keyed = All-nil (IsKeyed settings.inputs);
    trials = [];
    tried_are = refl;
    answered = refl;
    asks = refl;
    parts = (refl, refl);
  }

  is_faulty : IsToldWithFault nothing_shown
  is_faulty = record { is = is_told; some = inl (λ none. cc) }

  partial : scan.whole ≡ false → scan.listed.items ≡ [] → scan.doubled.items ≡ [] → scan.gone.items ≡ [] → scan.small.items ≡ [] → IsRescan settings before scan after
  partial is listed doubled gone small = record {
    told = nothing_shown;
    next = record {
      known = record {
        told = nothing_shown;
        told_is = refl;
        moment_is = refl;
        files_are = sym listed;
        doubled_are = sym doubled;
        whole = λ whole. absurd (both_ways scan.whole is whole);
        partial = λ _. is_faulty;
      };
      settings_are = refl;
      is = is_told;
      earlier_is = refl;
      scanned_is = refl;
    };
    gone_are = gone;
    small_are = small;
    shows = λ around on. subst (λ (l : List Listed). ShowsExactly (run_around nothing_shown around) (scan_by nothing_shown) l) (sym listed) (shows_exactly nothing_shown is_told around on);
  }

  -- ---- none that is called whole

  -- the events of a scan are those of its listings, and then no listing
  listed_first : (told : ToldScan) (has : IsTold told) → told.scanned.events ≡ told.earlier.events ++ (map event_tried has.attempts ++ (asks_alone told has).more)
  listed_first told has =
      (asks_alone told has).events ∙ ap (λ (h : FolderHistory). h.events ++ (asks_alone told has).more) has.listed_is
      ∙ append_assoc told.earlier.events (map event_tried has.attempts) (asks_alone told has).more

  never_served : (attempts : List Attempt) (more : List Event) → flat_map unserved_by attempts ≡ [] → AllByRecursion IsNoListing more → map event_tried attempts ++ more ≡ ListingFailed ∷ [] → ⊥
  never_served [] more none no_listing are = (subst (AllByRecursion IsNoListing) are no_listing).0
  never_served (Served listing ∷ attempts) more none no_listing are = let wrong : event_of listing ∷ (map event_tried attempts ++ more) ≡ ListingFailed ∷ [] = are in cc
  never_served (Unserved other ∷ attempts) more none no_listing are = let wrong : _ ∷ flat_map unserved_by attempts ≡ [] = none in cc

  whole_is_refused : IsRescan settings before scan after → scan.whole ≡ true → ⊥
  whole_is_refused is whole =
      let told = is.next.known.told in
      let faultless = is.next.known.whole whole in
      let more = (asks_alone told faultless.is).more in
      let all : before.events ++ (ListingFailed ∷ []) ≡ before.events ++ (map event_tried faultless.is.attempts ++ more) =
      sym (ap (λ (h : FolderHistory). h.events) is.next.scanned_is) ∙ listed_first told faultless.is
      ∙ ap (λ (h : FolderHistory). h.events ++ (map event_tried faultless.is.attempts ++ more)) is.next.earlier_is in
      never_served faultless.is.attempts more faultless.none_failed (asks_alone told faultless.is).no_listing
      (sym (append_cancel_left before.events (ListingFailed ∷ []) (map event_tried faultless.is.attempts ++ more) all))
