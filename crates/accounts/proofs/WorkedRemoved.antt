-- A worked account of a file that was removed while its tail was open: the last of four scans hides it, its tail finds the end, and its Forget names
-- the place at which what was told ends. Once both events are settled its row goes, and rightly; while one is not, the row stays. And what is refused:
-- a Forget below what was told, and removals by scans that show the file or are partial, or before its end was found.
use Rattle.std.proofs.Common.{◌≡◌, ◌⊎◌, inl, inr, ℕ, zero, suc, ◌<◌, List, [], ◌∷◌, ◌++◌, Contains, length, Option, Some, None, refl, sym, ap, subst, ◌∙◌, arith, lit≤}
use Rattle.std.specs.List.{AllByRecursion}
use Rattle.std.specs.Prelude.{slice_get}
use Rattle.event_tree.specs.declared.input_rule.IdentityRule.TheVariants.{Path}
use Rattle.file_looks.specs.EndLook.{HasEndLook}
use Rattle.harvester.specs.History.{Ended, Reads, told_to}
use Rattle.kept_rows.proofs.Worked as worked
use Rattle.kept_rows.specs.Lost.{WasClosedBefore, WasRemovedRightly}
use Rattle.kept_rows.specs.Run.{Scan}
use Rattle.kept_rows.specs.Scans.{IsBehind, IsWhole, ShowsKey}
use Rattle.ship_core.proofs.Members.{first_there, none_there, there_cases}
use Rattle.outside.specs.Folders.{Closed}
use Rattle.outside.specs.declared.history.Look.{Look}
use Rattle.outside.specs.declared.history.Question.{Question}
use Rattle.outside.specs.declared.history.Question.TheVariants.{Length, ReadAt}
use Rattle.ship_core.specs.RowOver.{row_over}
use Rattle.told_events.proofs.Worked.{a_log}
use Rattle.wire_base.specs.declared.note.Cause.TheVariants.{Acked}
use Rattle.wire_base.specs.declared.note.Note.{Note}
use Rattle.wire_base.specs.declared.note.Note.TheVariants.{Begin, Forget, Rename, Seen, Settle}
use Rattle.accounts.specs.Filed.{Filed, Removal, account_of, following_of, its_begin, last_opening, last_told}
use Rattle.accounts.specs.FollowedFile.{IsFollowedFile, IsReadBehind, WasRemovedBy}
use Rattle.accounts.specs.Hidden.{WasShownBy}
use Rattle.accounts.specs.RunTold.{LeftWithoutRow, RunNotes, RunTold}
use Rattle.accounts.specs.ToldNotes.{IsForgetOf, IsNamingOf, MayTell}
use Rattle.accounts.specs.Watched.{WasRenamedSince, watch_in}
use Rattle.accounts.proofs.AccountingFor.{IsAccountedFor, backed, in_rows, is_accounted_for}
use Rattle.accounts.proofs.Ordered.{one_more_orderly}
use Rattle.accounts.proofs.Went.{is_gone}
use Rattle.accounts.proofs.WorkedRun.{collected, first_by, has_talks, in_order_by, own_looks, parcels, told_file, worker}
use Rattle.accounts.proofs.WorkedScans.{by_scans, each_opening, file as read_file, hidden_before, hiding, hiding_is_whole, partial, partial_scan_called_whole, run, showing, shown_last, shows_none, shows_to, was_removed}
use Rattle.accounts.proofs.Turns.{apart_take_turns}

-- ---- its removal

abbrev pub removal : Option ℕ → Removal
removal left = record { hidden_by = 3; left_after = left }

abbrev pub removed_file : Option ℕ → Filed
removed_file left = record read_file { removed = Some (removal left) }

abbrev look_at : Question → Look
look_at question = record { question = question; sight = worked.sight }

-- its looks end with the one that found its end
abbrev end_look : HasEndLook worked.segment 4
end_look = record {
  front = look_at Length ∷ look_at (ReadAt 0 4) ∷ [];
  asked = look_at Length;
  read = look_at (ReadAt 4 0);
  behind = [];
  looks_are = refl;
  asks = refl;
  not_below = lit≤ tt;
  gives_nothing = refl;
  stands_there = refl;
}

-- it left after the scan that hid it
abbrev pub gone_file : Filed
gone_file = removed_file (Some 3)

was_removed_by : WasRemovedBy run gone_file (removal (Some 3))
was_removed_by = record {
  cleans = refl;
  scan = hiding;
  scan_is = refl;
  since = lit≤ tt;
  whole = hiding_is_whole;
  not_shown = shows_none 4 worked.key;
  rests = tt;
  done = inr (record {
    opened_before = (lit≤ tt, tt);
    ends = record {
      told = record { ended = refl; all_told = refl };
      before = [];
      last = worked.segment;
      segments_are = refl;
      found = end_look;
      nothing_behind = refl;
    };
  });
  left = lit≤ tt;
}

is_followed : IsFollowedFile run gone_file
is_followed = record {
  rule_is = refl;
  gave = record { asking = refl; gave = refl };
  in_range = (lit≤ tt, lit≤ tt);
  file_is = refl;
  tail = record { in_this_run = lit≤ tt; begun = worked.sight; opened = refl; tells = refl };
  told = told_file worked.input.paths Path None worked.key 3 [] (watch_in run) refl (inr was_removed) (own_looks worked.input.paths Path None worked.key 3 []);
  listed = record { last = shown_last; begins = inl (record { number_is = refl; starts = refl }) };
  moment = inl refl;
  reopened = tt;
  first_known = record { listed = lit≤ tt; named = tt };
  later_known = tt;
  removed = was_removed_by;
}

-- ---- the notes

abbrev pub forgets : Note
forgets = Forget (record { 0 = 0 }) (record { 0 = 0 }) 4

-- both events are settled before it
abbrev pub notes : RunNotes
notes = record { told = first_by worked.key ++ forgets ∷ []; collected = collected; all = (first_by worked.key ++ collected) ++ forgets ∷ [] }

row_goes : row_over 0 notes.all ≡ None
row_goes = refl

is_its_forget : IsForgetOf gone_file forgets
is_its_forget = record { removal = removal (Some 3); removed = refl; is = refl }

pub told : RunTold run (gone_file ∷ []) [] (worker ∷ []) notes
told = record {
  by = by_scans;
  followed = record {
    each = (is_followed, tt);
    slots = (omega arith, tt);
    openings_apart = (none_there 3, tt);
    openings_serve = each_opening;
  };
  talks = (record { most = 2048; talks = has_talks 0 0; none_open = refl }, tt);
  may_go = record { each = tt; apart = tt };
  beside = record { slots = tt; other_slots = λ one among hidden none. absurd (none_there hidden none) };
  turns = apart_take_turns run (gone_file ∷ []) [] notes.all (none_there worked.key, tt) tt (λ one among hidden none. absurd (none_there hidden none))
      (λ later. record { no_row = inl refl; since = 0; unknown = inl refl; hidden = hidden_before }, tt);
  told = record {
    each = (
      inl (record { file = gone_file; of_files = (0, omega arith, refl); begins = record { path = a_log; changed = record { 0 = 0 }; is = refl; within = omega arith } }),
      (inr (inr (inr (record { file = gone_file; of_files = (0, omega arith, refl); is = inr is_its_forget }))), tt),
    );
    begun = (record { path = a_log; changed = record { 0 = 0 }; there = (0, omega arith, refl) }, tt);
    hidden_begun = tt;
  };
  mixed = record { often = λ h. omega arith; orderly = one_more_orderly (first_by worked.key ++ collected) forgets (in_order_by worked.key) refl };
  fits = record {
    issued = parcels;
    noted = [];
    issued_are = λ h. refl;
    noted_are = λ h. refl;
    parcels = [];
    parcels_are = λ h. refl;
    notes = [];
    notes_are = λ h. refl;
  };
  gone = (row_goes, tt);
}

-- so it is accounted for, and its row went rightly: all that was reported is settled
pub accounted : IsAccountedFor run (gone_file ∷ []) [] (worker ∷ []) notes told
accounted = is_accounted_for run (gone_file ∷ []) [] (worker ∷ []) notes told

pub row_went_rightly : WasRemovedRightly run run.trace.wires worked.input (account_of accounted.placed gone_file)
row_went_rightly =
    (is_gone run (gone_file ∷ []) [] (worker ∷ []) notes told accounted.placed (in_rows run (gone_file ∷ []) [] (worker ∷ []) notes told accounted.placed accounted.places)
    (backed run (gone_file ∷ []) [] (worker ∷ []) notes told accounted.placed accounted.places) gone_file (first_there gone_file []) row_goes).went

-- ---- where an event is not settled, its row is there, up to that event

abbrev pub unsettled : List Note
unsettled = first_by worked.key ++ Settle (record { 0 = 0 }) (record { 0 = 0 }) (record { start = 0; end = 2 }) Acked ∷ forgets ∷ []

row_stays : row_over 0 unsettled ≡ Some (record { key = worked.key; path = a_log; epoch = record { 0 = 0 }; offset = 2; changed = record { 0 = 0 } })
row_stays = refl

-- and the file may not leave
pub leaves_with_its_row : LeftWithoutRow unsettled gone_file → ⊥
leaves_with_its_row none = let q : Some (record { key = worked.key; path = a_log; epoch = record { 0 = 0 }; offset = 2; changed = record { 0 = 0 } }) ≡ None = none in cc

-- ---- what is refused

-- a Forget below what was reported, by which the row would go with an event that is not settled
abbrev pub early : Note
early = Forget (record { 0 = 0 }) (record { 0 = 0 }) 2

early_loses_an_event : row_over 0 (first_by worked.key ++ Settle (record { 0 = 0 }) (record { 0 = 0 }) (record { start = 0; end = 2 }) Acked ∷ early ∷ []) ≡ None
early_loses_an_event = refl

abbrev end_in : Note → ℕ
end_in (Forget slot epoch end) = end
end_in other = 0

forget_at_a_place_not_told : MayTell run (gone_file ∷ []) [] early → ⊥
forget_at_a_place_not_told (inl begin) = absurd (let q : early ≡ its_begin begin.file begin.begins.path begin.begins.changed = begin.begins.is in cc)
forget_at_a_place_not_told (inr (inl seen)) = absurd (let q : early ≡ Seen seen.file.opened.begin.slot seen.changed = seen.is in cc)
forget_at_a_place_not_told (inr (inr (inl hidden))) = none_there hidden.hidden hidden.of_hiddens
forget_at_a_place_not_told (inr (inr (inr of))) = by_kind of.file of.of_files of.is
  where
    by_kind : (file : Filed) → Contains (gone_file ∷ []) file → IsNamingOf run file early ⊎ IsForgetOf file early → ⊥
    by_kind file there (inl named) = absurd (let q : early ≡ Rename file.opened.begin.slot named.name.scan named.name.path = named.is in cc)
    by_kind file there (inr forget) = elim (there_cases gone_file file [] there) [
      | inr nothing ↦ none_there file nothing
      | inl same ↦
          let end : 2 ≡ told_to (last_told gone_file) = ap end_in forget.is ∙ ap (λ (f : Filed). told_to (last_told f)) (sym same) in
          omega (arith, end)
    ]

-- of a file that a scan shows, or by a partial scan
some_scan : (scan other : Scan) → Some scan ≡ Some other → scan ≡ other
some_scan scan other same = cc

removed_by_a_scan_that_shows_it : WasRemovedBy run gone_file (record { hidden_by = 2; left_after = None }) → ⊥
removed_by_a_scan_that_shows_it by =
    by.not_shown (subst (λ (s : Scan). ShowsKey run s worked.key) (some_scan showing by.scan by.scan_is)
    (record { number = 0; path = a_log; shows = record { shown = worked.shown; path_is = refl; shows = (0, shows_to) } }))

removed_by_a_partial_scan : WasRemovedBy run gone_file (record { hidden_by = 1; left_after = None }) → ⊥
removed_by_a_partial_scan by = partial_scan_called_whole (subst (IsWhole run) (sym (some_scan partial by.scan by.scan_is)) by.whole)

-- ---- by which path it is known

-- a row of the key that went by the last scan, without a tail, is begun by the path by which the third scan listed it
pub path_listed_last : WasShownBy run worked.key a_log 3
path_listed_last = record {
  place = 2;
  earlier = lit≤ tt;
  scan = showing;
  scan_is = refl;
  number = 0;
  first = shown_last.first;
  none_nearer = λ number scan since less is. absurd (omega (arith, since, less));
}

-- so no Rename gives the file a path by a scan that was made before it was opened
pub no_name_by_an_earlier_scan : WasRenamedSince run gone_file.opened (record { scan = 2; path = a_log }) → ⊥
no_name_by_an_earlier_scan named = by_front named.front named.scan named.behind named.scans_are named.number_is named.later.0
  where
    by_front : (front : List Scan) (scan : Scan) (behind : List Scan) → run.scans ≡ front ++ scan ∷ behind → 2 ≡ length front → IsBehind 3 scan → ⊥
    by_front [] scan behind are number later = absurd cc
    by_front (one ∷ []) scan behind are number later = absurd cc
    by_front (one ∷ other ∷ []) scan behind are number later =
        let same : showing ≡ scan = cc in
        let less : 3 < 2 = (subst (IsBehind 3) (sym same) later).0 in
        omega (arith, less)
    by_front (one ∷ other ∷ third ∷ front) scan behind are number later = absurd cc

-- while its tail, which is closed only behind the scan, still reads on
abbrev reading_file : Filed
reading_file = record gone_file { turned = record gone_file.turned { history = record gone_file.turned.history { stage = Reads } } }

forget_before_the_end_look : WasRemovedBy run reading_file (removal (Some 3)) → ⊥
forget_before_the_end_look by = by_case by.done
  where
    by_scan : hiding ≡ by.scan
    by_scan = some_scan hiding by.scan by.scan_is

    by_place : (place : ℕ) (looks : List Look) (faults : ℕ) → slice_get run.trace.events place ≡ Some (Closed 3 looks faults) → place < 4 → ⊥
    by_place zero looks faults is less = absurd cc
    by_place (suc zero) looks faults is less = absurd cc
    by_place (suc (suc zero)) looks faults is less = absurd cc
    by_place (suc (suc (suc zero))) looks faults is less = absurd cc
    by_place (suc (suc (suc (suc later)))) looks faults is less = absurd (omega (arith, less))

    by_case : AllByRecursion (WasClosedBefore run by.scan) (following_of reading_file).tails ⊎ IsReadBehind run by.scan (last_opening reading_file) → ⊥
    by_case (inl closed) =
        let first = closed.0 in
        by_place first.place first.looks first.faults first.closed (subst (IsBehind first.place) (sym by_scan) first.before).0
    by_case (inr read) = absurd (let q : Reads ≡ Ended = read.ends.told.ended in cc)
