-- A worked account of a file that shrank before it was opened: the registry has a row of it at the offset 9 of epoch 2, the first scan does not show
-- it, and the third one lists it with four bytes. So its slot begins where the row stood, nothing is told of that epoch, and its first tail reads epoch
-- 3 from the first byte, which is announced. And what is refused: a first tail that reads the old epoch, and a rise though the file was not listed with
-- less.
use Rattle.std.proofs.Common.{◌≡◌, inl, inr, ℕ, ◌<◌, ◌≤◌, false, true, List, [], ◌∷◌, length, map, Option, Some, None, refl, ap, arith, lit≤}
use Rattle.event_tree.specs.declared.input_rule.IdentityRule.TheVariants.{Path}
use Rattle.harvester.specs.History.{Reads}
use Rattle.harvester.specs.Looked.{IsLookedAt}
use Rattle.kept_rows.proofs.Worked as worked
use Rattle.kept_rows.specs.Account.{EpochAccount}
use Rattle.kept_rows.specs.Epochs.{AreEpochs}
use Rattle.kept_rows.specs.Followed.{Start}
use Rattle.kept_rows.specs.Run.{Run, Scan}
use Rattle.kept_rows.specs.Scans.{IsAskedIn, IsFirstPath, ShowsFile, ShowsFileTo, ShowsKey}
use Rattle.outside.specs.declared.history.Shown.{Shown}
use Rattle.told_events.proofs.Worked.{a_log}
use Rattle.wire_base.specs.declared.note.Note.TheVariants.{Announce, Begin}
use Rattle.wire_base.specs.declared.row.Row.{Row}
use Rattle.accounts.specs.Filed.{Filed, account_of, its_begin, turned_in}
use Rattle.accounts.specs.FollowedFile.{BeganEarlier, IsFollowedFile, IsListedAs, ShrankBefore, WasShownLast, tail_of}
use Rattle.accounts.specs.OpenedAgain.{announced_again}
use Rattle.accounts.specs.ToldFile.{IsToldFile}
use Rattle.accounts.specs.Turned.{notes_told}
use Rattle.accounts.specs.Watched.{watch_in}
use Rattle.accounts.proofs.OneSlot.{slot_has_epochs}
use Rattle.accounts.proofs.Worked.{placed}
use Rattle.accounts.proofs.WorkedRun.{file_by, is_telling, own_looks}
use Rattle.accounts.proofs.WorkedScans.{empty, first_path, hiding, partial, run as other_run, showing, shows_none, shows_to}

-- ---- the run

abbrev row : Row
row = record { key = worked.key; path = a_log; epoch = record { 0 = 2 }; offset = 9; changed = record { 0 = 0 } }

abbrev run : Run
run = record other_run { opening = row ∷ [] }

-- what a scan shows does not depend on the registry's rows
asked_with : (one : Run) (rows : List Row) (scan : Scan) (opening : Option ℕ) → IsAskedIn one scan opening → IsAskedIn (record one { opening = rows }) scan opening
asked_with one rows scan None asked = tt
asked_with one rows scan (Some opening) asked = record { before = asked.before; behind = asked.behind; scans_are = asked.scans_are; since = asked.since; until = asked.until }

shows_to_with : (one : Run) (rows : List Row) (scan : Scan) (input : ℕ) (key : List ℕ) (number : ℕ) (shown : Shown) → ShowsFileTo one scan input key number shown →
    ShowsFileTo (record one { opening = rows }) scan input key number shown
shows_to_with one rows scan input key number shown to = record {
  asking = to.asking;
  asks = record {
    entry = to.asks.entry;
    asked_in = asked_with one rows scan to.asking.opening to.asks.asked_in;
    of_scan = to.asks.of_scan;
    input_is = to.asks.input_is;
    path_is = to.asks.path_is;
  };
  rule = to.rule;
  rule_is = to.rule_is;
  covered = to.covered;
  gave = to.gave;
}

shows_with : (one : Run) (rows : List Row) (scan : Scan) (key : List ℕ) (number : ℕ) (path : List ℕ) → ShowsFile one scan key number path →
    ShowsFile (record one { opening = rows }) scan key number path
shows_with one rows scan key number path shows = record {
  shown = shows.shown;
  path_is = shows.path_is;
  shows = (shows.shows.0, shows_to_with one rows scan shows.shows.0 key number shows.shown shows.shows.1);
}

-- ---- its file, which still reads

abbrev as_read : Filed
as_read = file_by worked.input.paths Path None worked.key 3 []

-- with the epoch and the place with which its tail was opened, and where it shrank from
abbrev file_from : ℕ → Option Start → Filed
file_from epoch from = record as_read {
  opened = record as_read.opened { begin = record as_read.opened.begin { epoch = record { 0 = epoch } } };
  turned = record as_read.turned {
    history = record as_read.turned.history {
      begin = record as_read.opened.begin { epoch = record { 0 = epoch } };
      present = record as_read.turned.history.present { epoch = epoch };
      stage = Reads;
      may_end = false;
    };
  };
  shrank_from = from;
}

abbrev shrunk : Filed
shrunk = file_from 3 (Some (record { epoch = 2; base = 9 }))

looked : IsLookedAt None shrunk.turned.history (tail_of shrunk)
looked = record {
  since = worked.looks;
  beyond = [];
  looks_are = refl;
  front = [];
  last = worked.segment;
  segments = refl;
  past = tt;
  present = record { place = refl; to = refl; bytes = refl; on = ((λ e. tt, (λ e. refl, (λ e. tt, (λ e. refl, tt))))); kept_key = inl refl; licensed = tt };
  stand_behind = refl;
  end_look = λ ended. absurd cc;
}

told : IsToldFile (watch_in run) shrunk.opened run.trace.moments shrunk.turned (Some (tail_of shrunk))
told = record {
  slot = refl;
  history = record {
    rule = refl;
    processors_are = refl;
    begin = refl;
    asked_before = refl;
    names = [];
    rise = tt;
    renamed = tt;
    path = refl;
    ends = λ ends. absurd (let no : false ≡ true = ends in cc);
    may_end = λ may. absurd (let no : false ≡ true = may in cc);
    not_forgotten = refl;
    epochs = (refl, refl, tt);
    at = ([], [], refl, tt);
    told = (record { path_is = refl; given = (0, omega arith, refl) }, (record { path_is = refl; given = (0, omega arith, refl) }, tt));
  };
  epochs = (is_telling worked.input.paths Path None worked.key 3 [], tt);
  looked = looked;
  tail = record { opening = refl; number = refl; begun = refl; file = refl };
  tells = own_looks worked.input.paths Path None worked.key 3 [];
}

-- ---- as it was listed

abbrev shown_last : WasShownLast run shrunk.opened
shown_last = record {
  front = empty ∷ partial ∷ [];
  scan = showing;
  behind = hiding ∷ [];
  scans_are = refl;
  made_before = (lit≤ tt, tt);
  none_nearer = (λ shows before. absurd (let less : 4 < 3 = before.0 in omega (arith, less)), tt);
  number = 0;
  shown = worked.shown;
  shows = shows_to_with other_run (row ∷ []) showing 0 worked.key 0 worked.shown shows_to;
  path_is = refl;
  first = record {
    shows = shows_with other_run (row ∷ []) showing worked.key 0 a_log first_path.shows;
    first = λ other shows. first_path.first other (shows_with run other_run.opening showing worked.key 0 other shows);
  };
}

not_shown_at_first : ShowsKey run empty worked.key → ⊥
not_shown_at_first shows =
    shows_none 0 worked.key (record { number = shows.number; path = shows.path; shows = shows_with run other_run.opening empty worked.key shows.number shows.path shows.shows })

shrank : ShrankBefore run shrunk shown_last (record { epoch = 2; base = 9 })
shrank = record {
  earlier = lit≤ tt;
  begun = record { scan = empty; scan_is = refl; starts = inr (record { hidden = not_shown_at_first; row = row; found = refl; starts = refl }) };
  below = lit≤ tt;
  starts = refl;
}

pub is_followed : IsFollowedFile run shrunk
is_followed = record {
  rule_is = refl;
  gave = record { asking = refl; gave = refl };
  in_range = (lit≤ tt, lit≤ tt);
  file_is = refl;
  tail = record { in_this_run = lit≤ tt; begun = worked.sight; opened = refl; tells = refl };
  told = told;
  listed = record { last = shown_last; begins = shrank };
  moment = inl refl;
  reopened = tt;
  first_known = tt;
  later_known = tt;
  removed = tt;
}

-- ---- its account

-- the first epoch begins where the row stood, and nothing was told of it; both lines are told of the next one
pub numbers_are : map (λ (one : EpochAccount). one.epoch) (account_of placed shrunk).epochs ≡ 2 ∷ 3 ∷ []
numbers_are = refl

pub starts_are : map (λ (one : EpochAccount). one.start) (account_of placed shrunk).epochs ≡ 9 ∷ 0 ∷ []
starts_are = refl

pub first_is_empty : map (λ (one : EpochAccount). length one.told) (account_of placed shrunk).epochs ≡ 0 ∷ 2 ∷ []
first_is_empty = refl

pub has_its_epochs : AreEpochs run (account_of placed shrunk)
has_its_epochs = slot_has_epochs run placed shrunk is_followed

-- its Begin has the row's epoch and offset, and the epoch of its tail is announced
pub begins_where_the_row_stood : its_begin shrunk a_log (record { 0 = 0 }) ≡ Begin (record { 0 = 0 }) worked.key a_log (record { 0 = 2 }) 9 (record { 0 = 0 })
begins_where_the_row_stood = refl

pub rise_is_announced : notes_told (turned_in shrunk) ≡ Announce (record { 0 = 0 }) (record { 0 = 3 }) ∷ []
rise_is_announced = refl

pub run_tells_it : announced_again shrunk ≡ Announce (record { 0 = 0 }) (record { 0 = 3 }) ∷ []
run_tells_it = refl

-- ---- what is refused, in any run

module _ (other : Run) where
  -- a first tail that reads the epoch of the row on
  reads_the_old_epoch : IsListedAs other (file_from 2 (Some (record { epoch = 2; base = 9 }))) → ⊥
  reads_the_old_epoch listed =
      let epochs : 2 ≡ 3 = ap (λ (s : Start). s.epoch) listed.begins.starts in
      omega (arith, epochs)

  -- a rise of a file that was listed with no less than the place at which its slot begins
  rises_without_a_fall : (listed : IsListedAs other shrunk) → 9 ≤ listed.last.shown.entry.size → ⊥
  rises_without_a_fall listed within =
      let below = listed.begins.below in
      omega (arith, within, below)

  -- and no rise of one that was listed with less, though its key was known before
  stays_after_a_fall : (listed : WasShownLast other (record shrunk { opened = record shrunk.opened { begin = record shrunk.opened.begin { base = 9 } } }).opened) →
      listed.shown.entry.size < 9 → BeganEarlier other (record shrunk { opened = record shrunk.opened { begin = record shrunk.opened.begin { base = 9 } }; shrank_from = None }) listed → ⊥
  stays_after_a_fall listed below began =
      let within = began.within in
      omega (arith, within, below)
