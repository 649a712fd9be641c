-- Worked askings of a scan: a file that is known by its first two bytes gave its key as the scan asked for it, and was gone as it
-- was to be followed. An account that takes the later opening for the asking, by which the scan would be whole and show no file,
-- is refused.
use Rattle.std.proofs.Common.{◌≡◌, inl, inr, ℕ, zero, suc, true, List, [], ◌∷◌, Contains, Option, Some, None, refl, sym, ap, subst, ◌∙◌, arith, lit<}
use Rattle.std.specs.Option.{unwrap_or}
use Rattle.std.specs.Prelude.{slice_get}
use Rattle.event_tree.specs.declared.input_rule.IdentityRule.TheVariants.{Fingerprint}
use Rattle.event_tree.specs.declared.input_rule.InputRule.{InputRule}
use Rattle.outside.specs.declared.history.Look.{Look}
use Rattle.outside.specs.declared.history.Question.TheVariants.{ReadAt}
use Rattle.outside.specs.declared.history.Shown.{Shown}
use Rattle.outside.specs.Folders.{Closed, Event, Listed, ListingFailed, NotThere, Opened}
use Rattle.ship_core.proofs.Members.{none_there, there_cases}
use Rattle.told_events.proofs.Worked.{a_log}
use Rattle.kept_rows.proofs.Worked as worked
use Rattle.kept_rows.specs.Askings.{AreInOrder, AsksInOrder}
use Rattle.kept_rows.specs.Run.{Asking, Run, Scan}
use Rattle.kept_rows.specs.Scans.{AsksFor, Gave, IsAsked, IsCovered, IsMadeFor, IsWhole, ShowsEntry, ShowsFileTo, ShowsKey}
use Rattle.kept_rows.specs.Trace.{Trace}

-- ---- the run

abbrev input : InputRule
input = record worked.input { file_identity = Fingerprint 0 2 }

abbrev asked : List Look
asked = record { question = ReadAt 0 2; sight = worked.sight } ∷ []

abbrev listing : Event
listing = unwrap_or (slice_get worked.trace.events 1) ListingFailed

abbrev trace : Trace
trace = record {
  files = worked.file ∷ [];
  events = listing ∷ Opened a_log 0 worked.sight ∷ Closed 1 asked 0 ∷ NotThere a_log ∷ [];
  began = 0;
  open_tails = [];
  moments = 0 ∷ [];
  wires = [];
}

abbrev asking_at : ℕ → Asking
asking_at opening = record { input = 0; path = a_log; opening = Some opening }

abbrev scan_at : ℕ → Scan
scan_at opening = record { moment = 0; listings = 0 ∷ []; askings = asking_at opening ∷ [] }

abbrev run_with : ℕ → Run
run_with opening =
    record { settings = record worked.settings { inputs = input ∷ [] }; once = true; opening = []; trace = trace; scans = scan_at opening ∷ [] }

abbrev root_in : Event → List ℕ
root_in (Listed root depth entries) = root
root_in _ = []

abbrev depth_in : Event → ℕ
depth_in (Listed root depth entries) = depth
depth_in _ = 0

abbrev entries_in : Event → List Shown
entries_in (Listed root depth entries) = entries
entries_in _ = []

entry : (opening : ℕ) → ShowsEntry trace (scan_at opening) worked.shown
entry opening = record {
  listing = 0;
  of_scan = (0, omega arith, refl);
  root = root_in listing;
  depth = depth_in listing;
  entries = worked.shown ∷ [];
  listed = refl;
  among = (0, omega arith, refl);
}

-- ---- the opening right after the listing is that of the asking

in_order : AsksInOrder (run_with 1) (scan_at 1)
in_order = record {
  each = (
    record { shown = worked.shown; entry = entry 1; path_is = refl; rule = input; rule_is = refl; covered = worked.is_covered; opening = λ named. named },
    tt,
  );
  in_order = (tt, tt);
  made = (3, (refl, inl (record { number = 0; begun = worked.sight; opened = refl; looks = asked; faults = 0; closed = refl }, refl)), tt);
}

-- ---- the later one is not

late_is_refused : AsksInOrder (run_with 3) (scan_at 3) → ⊥
late_is_refused is = let at : 3 ≡ 1 = is.made.1.0 in omega (arith, at)

-- by it the scan is whole, and shows no file
only_entry : (opening : ℕ) (other : Shown) → ShowsEntry trace (scan_at opening) other → worked.shown ≡ other
only_entry opening other shows = elim (there_cases 0 shows.listing [] shows.of_scan) [
  | inr nothing ↦ absurd (none_there shows.listing nothing)
  | inl first ↦
      let event : Some listing ≡ Some (Listed shows.root shows.depth shows.entries) = ap (slice_get trace.events) first ∙ shows.listed in
      let entries : worked.shown ∷ [] ≡ shows.entries = ap (λ (o : Option Event). entries_in (unwrap_or o ListingFailed)) event in
      let among = subst (λ (l : List Shown). Contains l other) (sym entries) shows.among in
      elim (there_cases worked.shown other [] among) [
        | inl same ↦ same
        | inr nothing ↦ absurd (none_there other nothing)
      ]
]

late_is_made_for : IsMadeFor (run_with 3) (scan_at 3) 3
late_is_made_for = record { before = []; behind = []; scans_are = refl; since = (lit< tt, tt); until = tt }

late_is_whole : IsWhole (run_with 3) (scan_at 3)
late_is_whole = record {
  not_cut_off = refl;
  none_failed = (record { root = root_in listing; depth = depth_in listing; entries = worked.shown ∷ []; listed = refl }, tt);
  each_asked = each_asked;
  none_faulty = (
    record {
      asked_in = late_is_made_for;
      rule = input;
      rule_is = refl;
      well = ((λ named. named), inr (record { in_this_run = omega arith; not_there = refl }));
    },
    tt,
  );
}
  where
    asks : AsksFor (run_with 3) (scan_at 3) worked.shown 0 (asking_at 3)
    asks = record { entry = entry 3; asked_in = late_is_made_for; of_scan = (0, omega arith, refl); input_is = refl; path_is = refl }

    each_asked : (other : Shown) (number : ℕ) (rule : InputRule) → ShowsEntry trace (scan_at 3) other → slice_get (input ∷ []) number ≡ Some rule →
        IsCovered rule.paths other.entry.path → IsAsked (run_with 3) (scan_at 3) other number
    each_asked other zero rule shows is covered =
        record { asking = asking_at 3; asks = subst (λ (s : Shown). AsksFor (run_with 3) (scan_at 3) s 0 (asking_at 3)) (only_entry 3 other shows) asks }
    each_asked other (suc number) rule shows is covered = absurd (let q : None ≡ Some rule = is in cc)

late_shows_nothing : (key : List ℕ) → ¬ (ShowsKey (run_with 3) (scan_at 3) key)
late_shows_nothing key shows = elim (there_cases (asking_at 3) to.asking [] to.asks.of_scan) [
  | inr nothing ↦ none_there to.asking nothing
  | inl same ↦
      let gave = subst (λ (asking : Asking). Gave trace to.rule shown asking.opening (Some key) number) (sym same) to.gave in
      let opened : Some (NotThere a_log) ≡ Some (Opened shown.entry.path number gave.tail.begun) = gave.tail.opened in
      cc
]
  where
    shown : Shown
    shown = shows.shows.shown

    number : ℕ
    number = shows.number

    to : ShowsFileTo (run_with 3) (scan_at 3) shows.shows.shows.0 key number shown
    to = shows.shows.shows.1

-- ---- of two inputs, the one that comes first in the settings asks first

abbrev asking_of : ℕ → ℕ → Asking
asking_of input opening = record { input = input; path = a_log; opening = Some opening }

both_in_order : AreInOrder (asking_of 0 1 ∷ asking_of 1 3 ∷ [])
both_in_order = ((inr (refl, inl (lit< tt)), tt), (tt, tt))

swapped_are_refused : AreInOrder (asking_of 1 1 ∷ asking_of 0 3 ∷ []) → ⊥
swapped_are_refused are = elim are.0.0 [
  | inl less ↦ worked.not_before_itself less
  | inr (same, inl earlier) ↦ omega (arith, earlier)
  | inr (same, inr (again, none)) ↦ omega (arith, again)
]

-- and none asks twice
twice_is_refused : AreInOrder (asking_of 0 1 ∷ asking_of 0 3 ∷ []) → ⊥
twice_is_refused are = elim are.0.0 [
  | inl less ↦ worked.not_before_itself less
  | inr (same, inl earlier) ↦ omega (arith, earlier)
  | inr (same, inr (again, none)) ↦ absurd cc
]
