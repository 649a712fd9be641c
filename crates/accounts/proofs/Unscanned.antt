-- A run that ended before it scanned is accounted for by no account: it follows nothing and sent nothing, and its rows are as opened.
use Rattle.std.proofs.Common.{◌≡◌, List, [], ◌∷◌, ◌++◌, Option, length, map, sym, ap, subst, ◌∙◌}
use Rattle.std.specs.List.{AllByRecursion, filter_map, flat_map}
use Rattle.kept_rows.specs.Acknowledged.{open_talks, talk_of}
use Rattle.kept_rows.specs.Askings.{AsksInOrder}
use Rattle.kept_rows.specs.Followed.{AreFollowed}
use Rattle.kept_rows.specs.Run.{Asking, Run, Scan}
use Rattle.kept_rows.specs.Scans.{AllButTheLast, AreAsked, AreDistinct, AreScans, ListGlobs, StandInOrder, globs_in}
use Rattle.kept_rows.specs.Sent.{IsSentOnly, SendOnlyTold}
use Rattle.kept_rows.specs.Trace.{WireTold}
use Rattle.outside.specs.Talks.{Talk}
use Rattle.outside.specs.Wires.{Outcome}
use Rattle.ship_core.proofs.Members.{none_there}
use Rattle.accounts.specs.AccountedFor.{AccountsFor}
use Rattle.accounts.specs.Unscanned.{IsSilent, IsUnscanned}
use Rattle.accounts.proofs.Keeping.{images_hold_kept_rows, rows_are_kept}
use Rattle.accounts.proofs.Ordered.{none_orderly}

silent_send_nothing : (wires : List WireTold) → AllByRecursion IsSilent wires → SendOnlyTold [] wires
silent_send_nothing [] silent = tt
silent_send_nothing (wire ∷ wires) silent = (
  subst (λ (o : Option Talk). AllByRecursion (IsSentOnly []) (map talk_of wire.outcomes ++ open_talks o)) (sym silent.0.none_open)
      (subst (λ (l : List Outcome). AllByRecursion (IsSentOnly []) (map talk_of l ++ [])) (sym silent.0.none_made) tt),
  silent_send_nothing wires silent.1,
)

module _ (run : Run) (is : IsUnscanned run) where
  are_scans : AreScans run
  are_scans = record {
    together = ap (λ (l : List Scan). flat_map (λ (s : Scan). s.listings) l) is.no_scan ∙ sym is.no_listing;
    by_globs = subst (AllByRecursion (λ (s : Scan). ListGlobs run.trace (globs_in run.settings.inputs) s.listings)) (sym is.no_scan) tt;
    full = subst (AllButTheLast (λ (s : Scan). length s.listings ≡ length (globs_in run.settings.inputs))) (sym is.no_scan) tt;
    moments = subst (λ (l : List Scan). StandInOrder (map (λ (s : Scan). s.moment) l) run.trace.moments) (sym is.no_scan) tt;
  }

  follows_nothing : AreFollowed run []
  follows_nothing = record {
    scans = are_scans;
    asked = subst (AllButTheLast (AreAsked run)) (sym is.no_scan) tt;
    asks_in_order = subst (AllByRecursion (AsksInOrder run)) (sym is.no_scan) tt;
    each = tt;
    slots_rise = tt;
    in_turn = tt;
    newly_known = tt;
    openings_apart = subst (λ (l : List Scan). AreDistinct (flat_map (λ (s : Scan). filter_map (λ (asking : Asking). asking.opening) s.askings) l ++ [])) (sym is.no_scan) tt;
    openings_serve = λ opening path number begun since opened. absurd (is.no_opening opening path number begun since opened);
  }

  pub unscanned_is_accounted_for : AccountsFor run [] []
  unscanned_is_accounted_for = record {
    followed = follows_nothing;
    slots = record { epochs = tt; each = tt; places_apart = tt };
    sent = silent_send_nothing run.trace.wires is.silent;
    orderly = none_orderly;
    ends = rows_are_kept [] run.opening run.trace.wires [] tt tt tt (λ one newer there. absurd (none_there one there));
    begun = λ rows over. tt;
    images = images_hold_kept_rows [] run.opening run.trace.wires [] tt tt;
  }
