-- A run that is done drained its folder: each entry that an input covers was skipped, or its file was found with another key, or it has a
-- row that is at the end of its last complete line.
use Rattle.std.proofs.Common.{◌≡◌, ◌⊎◌, inl, inr, ℕ, ◌==◌, List, [], ◌∷◌, ◌++◌, Contains, length, max, map, Option, None, Some, if◌then◌else◌, refl, sym, ap, subst, ◌∙◌, arith}
use Rattle.std.specs.Prelude.{slice_get}
use Rattle.std.specs.List.{AllByRecursion}
use Rattle.event_tree.specs.declared.input_rule.InputRule.{InputRule}
use Rattle.file_identity.specs.AskedAgain.{HasOtherKey}
use Rattle.harvester.specs.History.{Changed, History, Telling, told_to}
use Rattle.kept_rows.specs.Account.{Place, SlotAccount}
use Rattle.kept_rows.specs.Drained.{HasRow, IsChanged, IsDoneWith, IsDrainedBySlots, IsPassedOver, IsReadToItsEnd}
use Rattle.kept_rows.specs.Premises.{SeesTruncationsOf}
use Rattle.kept_rows.specs.Run.{Run, Scan}
use Rattle.kept_rows.specs.Scans.{IsCovered, ShowsEntry, ShowsFileTo, moment_in}
use Rattle.kept_rows.specs.Telling.{opening_moment}
use Rattle.kept_rows.specs.Trace.{IsTail}
use Rattle.outside.specs.declared.history.Look.{Look}
use Rattle.outside.specs.declared.history.Shown.{Shown}
use Rattle.ship_core.proofs.Members.{first_there}
use Rattle.ship_core.specs.CoveredEnd.{Adjoin}
use Rattle.ship_core.specs.RowOver.{notes_of, standing_row}
use Rattle.ship_core.specs.RowsOver.{AreRowsOver}
use Rattle.slot_parts.specs.Tails.{tails_of}
use Rattle.told_events.specs.Told.{spans_of}
use Rattle.wire_base.specs.declared.parcel.Parcel.{Parcel}
use Rattle.wire_base.specs.declared.row.Row.{Row}
use Rattle.accounts.specs.RunDone.{IsAmongFiles, RunDone, IsToldWhole}
use Rattle.accounts.specs.Accounted.{followed_tail}
use Rattle.accounts.specs.Filed.{Filed, Opening, Removal, account_of, accounts_of, slot_in, tail_by, told_behind, told_over, turned_in, untold_by}
use Rattle.accounts.specs.FollowedFile.{IsFollowedFile, key_in, tail_of}
use Rattle.accounts.specs.Hidden.{Hidden, with_hidden}
use Rattle.accounts.specs.Parted.{kept_looks}
use Rattle.accounts.specs.RunTold.{RunNotes, RunTold}
use Rattle.accounts.specs.Taken.{Taken, acknowledged_in}
use Rattle.accounts.specs.ToldFile.{IsReadThrough, IsToldToItsEnd}
use Rattle.accounts.proofs.Accounts.{are_in_epochs, have_slots}
use Rattle.accounts.proofs.BegunRows.{are_notes, begun_row, collected_in_all}
use Rattle.accounts.proofs.Backing.{slot_found}
use Rattle.accounts.proofs.Ends.{is_read_to_its_end}
use Rattle.accounts.proofs.LastEpoch.{epoch_is, offset_is}
use Rattle.accounts.proofs.LastNotes.{moment_is}
use Rattle.accounts.proofs.Lists.{last_of_each}
use Rattle.accounts.proofs.OneSlot.{known_first}
use Rattle.accounts.proofs.Openings.{file_epochs, file_in_epochs}
use Rattle.accounts.proofs.HiddenSlots.{HasOtherSlot, files_have_others, found_with_hidden}
use Rattle.accounts.proofs.Ordered.{slots_apart, turned_apart}
use Rattle.accounts.proofs.Orderly.{member_is}
use Rattle.accounts.proofs.Segmented.{is_lost}
use Rattle.accounts.proofs.Slots.{tells_both}

-- ---- its files

same_rule : (rules : List InputRule) (input other : ℕ) (rule another : InputRule) → slice_get rules input ≡ Some rule → slice_get rules other ≡ Some another → input ≡ other → rule ≡ another
same_rule rules input other rule another is and same =
    let q : Some rule ≡ Some another = sym is ∙ ap (slice_get rules) same ∙ and in cc

no_look : (fall : Look) (later : List Look) → fall ∷ later ≡ [] → ⊥
no_look fall later none = cc

-- of a run that made one scan
module _ (run : Run) (scan : Scan) (files : List Filed) (hiddens : List Hidden) (workers : List Taken) (notes : RunNotes) (told : RunTold run files hiddens workers notes)
    (done : RunDone run scan files workers notes) (only : run.scans ≡ scan ∷ []) (placed : Parcel → Option Place)
    (rows : List Row) (over : AreRowsOver run.opening notes.all rows) where
  module _ (file : Filed) (among : Contains files file) where
    followed : IsFollowedFile run file
    followed = member_is (IsFollowedFile run) files file told.followed.each among

    whole : IsToldWhole run scan notes.all file
    whole = member_is (IsToldWhole run scan notes.all) files file done.whole among

    abbrev present : Telling
    present = (turned_in file).history.present

    -- the run has no scan but its first
    known_at_first : file.known_from ≡ 0
    known_at_first =
        let none = none_before followed.listed.last.front followed.listed.last.scan followed.listed.last.behind (sym only ∙ followed.listed.last.scans_are) in
        let known = known_first run placed file followed in
        omega (arith, none, known)
      where
        none_before : (front : List Scan) (other : Scan) (behind : List Scan) → scan ∷ [] ≡ front ++ other ∷ behind → length front ≡ 0
        none_before [] other behind same = refl
        none_before (first ∷ []) other behind same = absurd (let q : scan ∷ [] ≡ first ∷ other ∷ behind = same in cc)
        none_before (first ∷ second ∷ front) other behind same = absurd (let q : scan ∷ [] ≡ first ∷ second ∷ (front ++ other ∷ behind) = same in cc)

    -- ---- its row

    record IsItsRow (row : Row) : Type 0 where
      of_rows : Contains rows row
      key_is : row.key ≡ key_in file
      moment_so : row.changed.0 ≡ file.changed
      epoch_so : row.epoch.0 ≡ present.epoch
      offset_so : row.offset ≡ told_to present

    has_its_row : (row : Row) × IsItsRow row
    has_its_row =
        let numbered = file_epochs run file followed in
        let apart = slots_apart 0 files told.followed.slots in
        let slots = have_slots run files told.followed.each in
        let are = are_notes run files hiddens workers notes told in
        let within = collected_in_all run files hiddens workers notes told in
        let begun = begun_row run files hiddens workers notes told file among whole.stays rows over in
        let epochs = are_in_epochs run files told.followed.each in
        let epoch = epoch_is run files hiddens workers notes.all notes.collected apart told.beside (turned_apart files told.followed.slots slots) epochs slots are within done.settled file among numbered in
        let in_epochs = file_in_epochs run file followed in
        let adjoin : Adjoin present.start (spans_of present.told) =
        last_of_each (λ (t : Telling). Adjoin t.start (spans_of t.told)) (turned_in file).history.past present in_epochs.adjoin in
        let offset = offset_is run files hiddens workers notes.all notes.collected apart told.beside (turned_apart files told.followed.slots slots) epochs slots are within done.settled file among
        begun.start begun.epoch_is begun.base_is numbered epoch adjoin in (
          standing_row (notes_of (slot_in file) notes.all) begun.start,
          record {
            of_rows = begun.of_rows;
            key_is = begun.key_is;
            moment_so = moment_is run files hiddens (acknowledged_in workers) notes.all apart told.beside are file among
                whole.moment.note whole.moment.among whole.moment.slot_is whole.moment.carries;
            epoch_so = epoch;
            offset_so = offset;
          },
        )

    row_is_read : IsToldToItsEnd file.turned.history → (row : Row) → IsItsRow row → IsReadToItsEnd SeesTruncationsOf run file.opened.rule (accounts_of placed files) row
    row_is_read ended row is =
        is_read_to_its_end run placed files file.opened file.turned (tail_of file) file.changed file.known_from (slots_apart 0 files told.followed.slots) once_there followed.told followed.gave
        followed.in_range followed.file_is
        ended row (sym is.key_is) (is.epoch_so ∙ ap (λ (h : History). h.present.epoch) told_once) (is.offset_so ∙ ap (λ (h : History). told_to h.present) told_once)
      where
        -- it was opened once, as its slot begins, and not removed
        once_there : Contains files (record { opened = file.opened; turned = file.turned; looks = file.looks; changed = file.changed; known_from = file.known_from; later = []; removed = None; shrank_from = None })
        once_there = subst (Contains files) (λ k. record {
          opened = file.opened;
          turned = file.turned;
          looks = file.looks;
          changed = file.changed;
          known_from = file.known_from;
          later = whole.alone k;
          removed = whole.stays k;
          shrank_from = whole.as_begun k;
        }) among

        told_once : (turned_in file).history ≡ file.turned.history
        told_once = λ k. told_behind (untold_by (whole.as_begun k)) (told_over file.turned.history (whole.alone k))

    -- the entry that an input covers shows it
    module _ (shown : Shown) (input : ℕ) (rule : InputRule) (rule_is : slice_get run.settings.inputs input ≡ Some rule) (input_is : file.opened.begin.input ≡ input)
        (path_is : file.opened.begin.path ≡ shown.entry.path) (number : ℕ) (shows : ShowsFileTo run scan input (key_in file) number shown) where
      rule_same : file.opened.rule ≡ rule
      rule_same = same_rule run.settings.inputs file.opened.begin.input input file.opened.rule rule followed.rule_is rule_is input_is

      has_row : IsToldToItsEnd file.turned.history → HasRow SeesTruncationsOf run rule (accounts_of placed files) rows scan shown input
      has_row ended =
          let row = has_its_row.0 in
          let is = has_its_row.1 in
          record {
            key = key_in file;
            number = number;
            shows = shows;
            row = row;
            of_rows = is.of_rows;
            key_is = is.key_is;
            listed = whole.moment.shown;
            lists = whole.moment.entry;
            same_path = whole.moment.path_is ∙ path_is;
            moment_is = is.moment_so ∙ whole.moment.changed_is
                ∙ ap (λ (n : ℕ). max (if n == 0 then opening_moment run.opening (key_in file) else 0) (moment_in whole.moment.shown)) known_at_first;
            read = subst (λ (r : InputRule). IsReadToItsEnd SeesTruncationsOf run r (accounts_of placed files) row) rule_same (row_is_read ended row is);
          }

      is_changed : file.turned.history.stage ≡ Changed → IsChanged run rule (accounts_of placed files) scan shown input
      is_changed changed =
          let lost = is_lost file.turned.history file.opened (tail_of file) followed.told.tail.file followed.told.history.begin followed.told.history.rule followed.told.looked changed in
          record {
            key = key_in file;
            number = number;
            shows = shows;
            slot = slot_in file;
            one = account_of placed file;
            slot_is = slot_found placed files file among (slots_apart 0 files told.followed.slots);
            key_is = refl;
            tail = followed_tail file.opened file.looks file.turned.history;
            of_slot = first_there (followed_tail file.opened file.looks file.turned.history) (tails_of (map tail_by file.later));
            lost = λ none. no_look lost.fall lost.later (sym lost.lost_are ∙ none);
            path = file.opened.begin.path;
            file = file.opened.file;
            file_is = followed.file_is;
            fall = lost.fall;
            later = lost.later;
            told = subst (λ (l : List Look). IsTail run.trace file.opened.opening file.opened.begin.path file.opened.number (kept_looks file.turned.history file.looks ++ l)) lost.lost_are
                (tells_both run file.opened file.turned.history file.looks followed.tail);
            other_key = subst (λ (r : InputRule). HasOtherKey r file.opened.begin.key file.opened.begin.path file.opened.file lost.later) rule_same lost.other;
          }

      is_done_with : IsReadThrough file.turned.history → IsDoneWith SeesTruncationsOf run (accounts_of placed files) rows rule scan shown input
      is_done_with (inl ended) = inr (inr (has_row ended))
      is_done_with (inr changed) = inr (inl (is_changed changed))

  -- ---- all entries

  files_drained : IsDrainedBySlots run (accounts_of placed files) rows
  files_drained = record {
    scan = scan;
    first = ap (λ (l : List Scan). slice_get l 0) only;
    whole = done.full.whole;
    each = λ shown input rule entry rule_is covered. by_case shown input rule entry rule_is covered (done.served shown input rule entry rule_is covered);
  }
    where
      by_case : (shown : Shown) (input : ℕ) (rule : InputRule) → ShowsEntry run.trace scan shown → slice_get run.settings.inputs input ≡ Some rule →
          IsCovered rule.paths shown.entry.path → IsAmongFiles run scan files shown input ⊎ IsPassedOver run rule scan shown input → IsDoneWith SeesTruncationsOf run (accounts_of placed files) rows rule scan shown input
      by_case shown input rule entry rule_is covered (inr passed) = inl passed
      by_case shown input rule entry rule_is covered (inl here) =
          is_done_with here.file here.of_files shown input rule rule_is here.input_is here.path_is here.number here.shows (whole here.file here.of_files).read_through

  -- ---- with the slots of hidden rows

  abbrev account : List SlotAccount
  account = with_hidden (accounts_of placed files) hiddens

  others : AllByRecursion (HasOtherSlot hiddens) (accounts_of placed files)
  others = files_have_others placed files hiddens told.beside

  module _ (rule : InputRule) (shown : Shown) (input : ℕ) where
    changed_with_hidden : IsChanged run rule (accounts_of placed files) scan shown input → IsChanged run rule account scan shown input
    changed_with_hidden changed = record {
      key = changed.key;
      number = changed.number;
      shows = changed.shows;
      slot = changed.slot;
      one = changed.one;
      slot_is = found_with_hidden (accounts_of placed files) hiddens others changed.slot changed.one changed.slot_is;
      key_is = changed.key_is;
      tail = changed.tail;
      of_slot = changed.of_slot;
      lost = changed.lost;
      path = changed.path;
      file = changed.file;
      file_is = changed.file_is;
      fall = changed.fall;
      later = changed.later;
      told = changed.told;
      other_key = changed.other_key;
    }

    read_with_hidden : (row : Row) → IsReadToItsEnd SeesTruncationsOf run rule (accounts_of placed files) row → IsReadToItsEnd SeesTruncationsOf run rule account row
    read_with_hidden row read = record {
      slot = read.slot;
      one = read.one;
      slot_is = found_with_hidden (accounts_of placed files) hiddens others read.slot read.one read.slot_is;
      key_is = read.key_is;
      epoch = read.epoch;
      epoch_is = read.epoch_is;
      reading = read.reading;
      of_epoch = read.of_epoch;
      place = read.place;
      found = read.found;
      file = read.file;
      file_is = read.file_is;
      offset_is = read.offset_is;
    }

    row_with_hidden : HasRow SeesTruncationsOf run rule (accounts_of placed files) rows scan shown input → HasRow SeesTruncationsOf run rule account rows scan shown input
    row_with_hidden has = record {
      key = has.key;
      number = has.number;
      shows = has.shows;
      row = has.row;
      of_rows = has.of_rows;
      key_is = has.key_is;
      listed = has.listed;
      lists = has.lists;
      same_path = has.same_path;
      moment_is = has.moment_is;
      read = read_with_hidden has.row has.read;
    }

    done_with_hidden : IsDoneWith SeesTruncationsOf run (accounts_of placed files) rows rule scan shown input → IsDoneWith SeesTruncationsOf run account rows rule scan shown input
    done_with_hidden (inl passed) = inl passed
    done_with_hidden (inr (inl changed)) = inr (inl (changed_with_hidden changed))
    done_with_hidden (inr (inr has)) = inr (inr (row_with_hidden has))

  pub is_drained : IsDrainedBySlots run account rows
  unfolding files_drained
  is_drained = record {
    scan = scan;
    first = files_drained.first;
    whole = done.full.whole;
    each = λ shown input rule entry rule_is covered. done_with_hidden rule shown input (files_drained.each shown input rule entry rule_is covered);
  }
