-- A file that is known by its first two bytes: the scan opened it to ask for its key, it was opened once more and asked again before it was
-- followed, and it was read to its end. All that is asked of a run that is done holds of it at once. Where a fingerprint is asked of no
-- open file nothing is followed; and the looks of a tail part where the key was lost.
use Rattle.std.proofs.Common.{◌≡◌, ◌⊎◌, inl, inr, ℕ, zero, suc, ◌<◌, true, List, [], ◌∷◌, ◌++◌, Contains, Option, Some, None, refl, sym, ap, subst, ◌∙◌, arith, lit≤, codes}
use Rattle.std.specs.Option.{unwrap_or}
use Rattle.std.specs.Prelude.{slice_get}
use Rattle.event_tree.specs.declared.input_rule.IdentityRule.TheVariants.{Fingerprint, Path}
use Rattle.event_tree.specs.declared.input_rule.InputRule.{InputRule}
use Rattle.file_identity.specs.AskedAgain.{GivesKey}
use Rattle.file_identity.specs.Asking.{IsAsking}
use Rattle.file_identity.specs.Key.{fingerprint_key}
use Rattle.harvester.specs.History.{Asks, Changed, History}
use Rattle.kept_rows.proofs.Worked as worked
use Rattle.kept_rows.specs.Drained.{IsPassedOver}
use Rattle.kept_rows.specs.Run.{Asking, Run, Scan}
use Rattle.kept_rows.specs.Scans.{AsksFor, IsAsked, IsCovered, IsFirstPath, IsMadeFor, IsNoFingerprint, ShowsEntry, ShowsFileTo, WasAskedWell}
use Rattle.kept_rows.specs.Trace.{IsTail, Trace}
use Rattle.outside.specs.Folders.{Closed, Event, Listed, ListingFailed, Opened}
use Rattle.outside.specs.declared.history.Look.{Look}
use Rattle.outside.specs.declared.history.Question.{Question}
use Rattle.outside.specs.declared.history.Question.TheVariants.{Length, ReadAt}
use Rattle.outside.specs.declared.history.Shown.{Shown}
use Rattle.ship_core.proofs.Members.{none_there, there_cases}
use Rattle.told_events.proofs.Worked.{a_log}
use Rattle.wire_base.specs.KeyOrder.{compare}
use Rattle.wire_base.specs.declared.note.Note.TheVariants.{Begin}
use Rattle.accounts.specs.ByScans.{IsToldScan}
use Rattle.accounts.specs.Filed.{Filed}
use Rattle.accounts.specs.FollowedFile.{EachOpeningIsOne, IsFollowedFile}
use Rattle.accounts.specs.Parted.{kept_looks, lost_looks}
use Rattle.accounts.specs.RunDone.{IsAmongFiles, RunDone}
use Rattle.accounts.specs.RunTold.{RunTold}
use Rattle.accounts.proofs.WorkedNative.{depth_in, entries_in, root_in}
use Rattle.accounts.specs.Watched.{watch_in}
use Rattle.accounts.proofs.WorkedRun.{file_by, has_talks, in_order_by, is_look, notes_by, own_looks, parcels, told_file, worker}
use Rattle.accounts.proofs.Turns.{apart_take_turns}

-- ---- the run

abbrev input : InputRule
input = record worked.input { file_identity = Fingerprint 0 2 }

abbrev key : List ℕ
key = fingerprint_key (codes "w") (codes "a\n")

abbrev look : Question → Look
look question = record { question = question; sight = worked.sight }

abbrev asked : List Look
asked = look (ReadAt 0 2) ∷ []

abbrev file : Filed
file = file_by input.paths (Fingerprint 0 2) None key 3 asked

-- what the listing of another run reported
abbrev listing : Event
listing = unwrap_or (slice_get worked.trace.events 1) ListingFailed

abbrev trace : Trace
trace = record {
  files = worked.file ∷ [];
  events = listing ∷ Opened a_log 0 worked.sight ∷ Closed 1 asked 0 ∷ Opened a_log 0 worked.sight ∷ Closed 3 (asked ++ worked.looks) 0 ∷ [];
  began = 0;
  open_tails = [];
  moments = 0 ∷ [];
  wires = worked.wires;
}

abbrev asking : Asking
asking = record { input = 0; path = a_log; opening = Some 1 }

abbrev scan : Scan
scan = record { moment = 0; listings = 0 ∷ []; askings = asking ∷ [] }

abbrev run : Run
run = record { settings = record worked.settings { inputs = input ∷ [] }; once = true; opening = []; trace = trace; scans = scan ∷ [] }

-- ---- what its scan shows

entry : ShowsEntry trace scan worked.shown
entry = record {
  listing = 0;
  of_scan = (0, omega arith, refl);
  root = root_in listing;
  depth = depth_in listing;
  entries = worked.shown ∷ [];
  listed = refl;
  among = (0, omega arith, refl);
}

is_made_for : IsMadeFor run scan 1
is_made_for = record { before = []; behind = []; scans_are = refl; since = (lit≤ tt, tt); until = tt }

asks : AsksFor run scan worked.shown 0 asking
asks = record { entry = entry; asked_in = is_made_for; of_scan = (0, omega arith, refl); input_is = refl; path_is = refl }

is_asking : IsAsking (Fingerprint 0 2) asked
is_asking = (lit≤ tt, (refl, lit≤ tt, refl))

asked_tail : IsTail trace 1 a_log 0 asked
asked_tail = record { in_this_run = lit≤ tt; begun = worked.sight; opened = refl; tells = refl }

shows_to : ShowsFileTo run scan 0 key 0 worked.shown
shows_to = record {
  asking = asking;
  asks = asks;
  rule = input;
  rule_is = refl;
  covered = worked.is_covered;
  gave = record { looks = asked; file = worked.file; tail = asked_tail; closed = refl; file_is = refl; asking = is_asking; gave = refl };
}

only_entry : (other : Shown) → ShowsEntry trace scan other → worked.shown ≡ other
only_entry other shows = elim (there_cases 0 shows.listing [] shows.of_scan) [
  | inr nothing ↦ absurd (none_there shows.listing nothing)
  | inl first ↦
      let event : Some listing ≡ Some (Listed shows.root shows.depth shows.entries) = ap (slice_get trace.events) first ∙ shows.listed in
      let entries : worked.shown ∷ [] ≡ shows.entries = ap (λ (o : Option Event). entries_in (unwrap_or o ListingFailed)) event in
      let among = subst (λ (l : List Shown). Contains l other) (sym entries) shows.among in
      elim (there_cases worked.shown other [] among) [
        | inl same ↦ same
        | inr nothing ↦ absurd (none_there other nothing)
      ]
]

first_path : IsFirstPath run scan key 0 a_log
first_path = record {
  shows = record { shown = worked.shown; path_is = refl; shows = (0, shows_to) };
  first = λ other shows less.
      let same : a_log ≡ other = ap (λ (s : Shown). s.entry.path) (only_entry shows.shown (shows.shows.1.asks.entry)) ∙ shows.path_is in
      worked.not_before_itself (ap (λ (p : List ℕ). compare p a_log) same ∙ less);
}

-- ---- its asking hit no fault

asked_well : WasAskedWell run scan asking
asked_well = record {
  asked_in = is_made_for;
  rule = input;
  rule_is = refl;
  well = ((λ named. named), inl (record { number = 0; looks = asked; tail = asked_tail; asking = is_asking; closed = refl }));
}

is_told : IsToldScan run scan
is_told = record {
  asked_so = (inl asked_well, tt);
  asks_in_order = record {
    each = (record { shown = worked.shown; entry = entry; path_is = refl; rule = input; rule_is = refl; covered = worked.is_covered; opening = λ named. named }, tt);
    in_order = (tt, tt);
    made = (3, (refl, inl (record { number = 0; begun = worked.sight; opened = refl; looks = asked; faults = 0; closed = refl }, refl)), tt);
  };
}

-- a scan that opened nothing for a fingerprint is not reported this way
pub unopened_is_refused : IsToldScan run (record scan { askings = record asking { opening = None } ∷ [] }) → ⊥
unopened_is_refused told =
    let asked = told.asks_in_order.each.0 in
    let q : Some input ≡ Some asked.rule = asked.rule_is in
    let same : input ≡ asked.rule = cc in
    subst (λ (r : InputRule). IsNoFingerprint r.file_identity) (sym same) asked.opening

-- nor one that takes the opening by which the file was followed for its asking
pub followed_is_refused : IsToldScan run (record scan { askings = record asking { opening = Some 3 } ∷ [] }) → ⊥
followed_is_refused told = let at : 3 ≡ 1 = told.asks_in_order.made.1.0 in absurd (omega (arith, at))

-- nor is a file followed whose tail was not asked
pub unasked_is_refused : GivesKey input key a_log worked.file [] → ⊥
unasked_is_refused gave = let none : 2 ≡ 0 = gave.asking in absurd (omega (arith, none))

-- ---- the file that was opened

is_tail : IsTail trace 3 a_log 0 (asked ++ worked.looks)
is_tail = record { in_this_run = lit≤ tt; begun = worked.sight; opened = refl; tells = refl }

pub file_is_followed : IsFollowedFile run file
file_is_followed = record {
  rule_is = refl;
  gave = record { asking = is_asking; gave = refl };
  in_range = (lit≤ tt, lit≤ tt);
  file_is = refl;
  tail = is_tail;
  told = told_file input.paths (Fingerprint 0 2) None key 3 asked (watch_in run) refl (inl refl) (
    is_look input.paths (Fingerprint 0 2) None key 3 asked (look (ReadAt 0 2)) refl (λ some. lit≤ tt, λ none. cc),
    own_looks input.paths (Fingerprint 0 2) None key 3 asked,
  );
  listed = record {
    last = record {
      front = [];
      scan = scan;
      behind = [];
      scans_are = refl;
      made_before = (lit≤ tt, tt);
      none_nearer = tt;
      number = 0;
      shown = worked.shown;
      shows = shows_to;
      path_is = refl;
      first = first_path;
    };
    begins = inl (record { number_is = refl; starts = refl });
  };
  moment = inl refl;
  reopened = tt;
  first_known = tt;
  later_known = tt;
  removed = tt;
}

each_opening : EachOpeningIsOne run (file ∷ [])
each_opening zero path number begun since is = absurd cc
each_opening (suc zero) path number begun since is = inr (record { looks = asked; tells = refl; none_at_length = (tt, tt) })
each_opening (suc (suc zero)) path number begun since is = absurd cc
each_opening (suc (suc (suc zero))) path number begun since is = inl (0, omega arith, refl)
each_opening (suc (suc (suc (suc zero)))) path number begun since is = absurd cc
each_opening (suc (suc (suc (suc (suc later))))) path number begun since is = absurd (let q : None ≡ Some (Opened path number begun) = is in cc)

asked_apart : Contains {X = ℕ} (3 ∷ []) 1 → ⊥
asked_apart there = elim (there_cases 3 1 [] there) [
  | inl same ↦ absurd (omega (arith, same))
  | inr nothing ↦ none_there 1 nothing
]

-- ---- all of it

pub has_told : RunTold run (file ∷ []) [] (worker ∷ []) (notes_by key)
has_told = record {
  by = record {
    scans = record { together = refl; by_globs = ((inl (worked.shown ∷ [], refl), tt), tt); full = tt; moments = ([], [], refl, tt) };
    asked = tt;
    each = (is_told, tt);
    own_ids = record { no_colon = ((λ e. cc, tt), tt); ids_apart = (none_there worked.input.id, tt) };
  };
  followed = record {
    each = (file_is_followed, tt);
    slots = (omega arith, tt);
    openings_apart = (asked_apart, (none_there 3, tt));
    openings_serve = each_opening;
  };
  talks = (record { most = 2048; talks = has_talks 0 0; none_open = refl }, tt);
  may_go = record { each = tt; apart = tt };
  beside = record { slots = tt; other_slots = λ one among hidden none. absurd (none_there hidden none) };
  turns = apart_take_turns run (file ∷ []) [] (notes_by key).all (none_there key, tt) tt (λ one among hidden none. absurd (none_there hidden none))
      (λ later. absurd (let above : 0 < 0 = later in omega (arith, above)), tt);
  told = record {
    each = (
      inl (record { file = file; of_files = (0, omega arith, refl); begins = record { path = a_log; changed = record { 0 = 0 }; is = refl; within = omega arith } }),
      tt,
    );
    begun = (record { path = a_log; changed = record { 0 = 0 }; there = (0, omega arith, refl) }, tt);
    hidden_begun = tt;
  };
  mixed = record { often = λ h. refl; orderly = in_order_by key };
  fits = record {
    issued = parcels;
    noted = [];
    issued_are = λ h. refl;
    noted_are = λ h. refl;
    parcels = [];
    parcels_are = λ h. refl;
    notes = [];
    notes_are = λ h. refl;
  };
  gone = (tt, tt);
}

pub is_done : RunDone run scan (file ∷ []) (worker ∷ []) (notes_by key)
is_done = record {
  full = record {
    earlier = [];
    last = refl;
    whole = record {
      not_cut_off = refl;
      none_failed = (record { root = root_in listing; depth = depth_in listing; entries = worked.shown ∷ []; listed = refl }, tt);
      each_asked = each_asked;
      none_faulty = (asked_well, tt);
    };
  };
  served = served;
  whole = (
    record {
      alone = refl;
      stays = refl;
      as_begun = refl;
      read_through = inl (record { ended = refl; all_told = refl });
      moment = record {
        shown = worked.shown;
        entry = entry;
        path_is = refl;
        changed_is = refl;
        note = Begin (record { 0 = 0 }) key a_log (record { 0 = 0 }) 0 (record { 0 = 0 });
        among = (0, omega arith, refl);
        slot_is = refl;
        carries = refl;
      };
    },
    tt,
  );
  settled = record { parcels_are = λ h. refl; notes_are = λ h. refl };
}
  where
    each_asked : (other : Shown) (number : ℕ) (rule : InputRule) → ShowsEntry trace scan other → slice_get run.settings.inputs number ≡ Some rule →
        IsCovered rule.paths other.entry.path → IsAsked run scan other number
    each_asked other zero rule shows is covered = record { asking = asking; asks = subst (λ (s : Shown). AsksFor run scan s 0 asking) (only_entry other shows) asks }
    each_asked other (suc number) rule shows is covered = absurd (let q : None ≡ Some rule = is in cc)

    served : (other : Shown) (input : ℕ) (rule : InputRule) → ShowsEntry trace scan other → slice_get run.settings.inputs input ≡ Some rule →
        IsCovered rule.paths other.entry.path → IsAmongFiles run scan (file ∷ []) other input ⊎ IsPassedOver run rule scan other input
    served other zero rule shows is covered =
        let same = only_entry other shows in
        inl (record {
          file = file;
          of_files = (0, omega arith, refl);
          input_is = refl;
          path_is = ap (λ (s : Shown). s.entry.path) same;
          number = 0;
          shows = subst (ShowsFileTo run scan 0 key 0) same shows_to;
        })
    served other (suc input) rule shows is covered = absurd (let q : None ≡ Some rule = is in cc)

-- ---- where the key was lost

-- the length fell, and then two reads gave another key
abbrev since : List Look
since = asked ++ worked.looks

abbrev lost : List Look
lost = record { question = Length; sight = record { life = 1; length = 2 } } ∷ record { question = ReadAt 0 2; sight = record { life = 1; length = 2 } } ∷ []

abbrev changed : History
changed = record file.turned.history { stage = Changed }

pub another_key_parts_the_looks : (kept_looks changed (since ++ lost) ≡ since) × (lost_looks changed (since ++ lost) ≡ lost)
another_key_parts_the_looks = (refl, refl)

-- so they are while the key was not reported yet
abbrev asks_again : History
asks_again = record file.turned.history { stage = Asks }

pub no_key_parts_the_looks : (kept_looks asks_again (since ++ lost) ≡ since) × (lost_looks asks_again (since ++ lost) ≡ lost)
no_key_parts_the_looks = (refl, refl)

-- a file that is known by its path keeps all of them, and so does one whose end was found
abbrev by_path : History
by_path = record asks_again { rule = record input { file_identity = Path } }

pub a_path_keeps_all_looks : (kept_looks by_path (since ++ lost) ≡ since ++ lost) × (lost_looks by_path (since ++ lost) ≡ [])
a_path_keeps_all_looks = (refl, refl)

pub an_end_keeps_all_looks : (kept_looks file.turned.history since ≡ since) × (lost_looks file.turned.history since ≡ [])
an_end_keeps_all_looks = (refl, refl)
