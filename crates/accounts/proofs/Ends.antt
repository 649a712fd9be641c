-- A file that is reported to its end has a row that is there, if its events are settled.
use Rattle.std.proofs.Common.{◌≡◌, ℕ, ◌+◌, ◌==◌, ◌<◌, Bool, List, [], ◌∷◌, ◌++◌, Contains, length, take, drop, map, Option, None, Some, refl, sym, ap, subst, ◌∙◌, append-nil, arith, if◌then◌else◌}
use Rattle.std.specs.Prelude.{slice_get}
use Rattle.std.specs.Option.{option_map_or}
use Rattle.std.proofs.lemmas.List.{drop-take}
use Rattle.std.proofs.lemmas.Bool.{cond-false, cond-true, eq-eqb, ne_eqb}
use Rattle.event_tree.specs.declared.group_rule.GroupRule.{GroupRule}
use Rattle.event_tree.specs.declared.input_rule.InputRule.{InputRule}
use Rattle.event_tree.specs.declared.line_rule.LineRule.{LineRule}
use Rattle.file_identity.specs.AskedAgain.{GivesKey}
use Rattle.file_looks.proofs.OneLife.{each_reads}
use Rattle.file_looks.specs.Looks.{AreLooks}
use Rattle.file_looks.specs.Reading.{EachReadsLife, ReadsLife, last_life}
use Rattle.file_looks.specs.Segment as segments
use Rattle.file_looks.specs.Segment.{Segment, segments_of, steps_in}
use Rattle.file_looks.specs.Truncation.{SeesTruncations}
use Rattle.harvester.specs.History.{HasBytes, History, IsTelling, Telling, left_to_tell, read_to, rules_in, told_to}
use Rattle.harvester.specs.Looked.{IsReadBy}
use Rattle.kept_rows.specs.Account.{EpochAccount, Place, Reading, epoch_at}
use Rattle.kept_rows.specs.Drained.{IsReadToItsEnd}
use Rattle.kept_rows.specs.Epochs.{first_sight_of}
use Rattle.kept_rows.specs.Premises.{SeesTruncationsOf}
use Rattle.kept_rows.specs.Run.{Run}
use Rattle.kept_rows.specs.Scans.{AreDistinct}
use Rattle.line_cutter.specs.Lines.{complete_lines}
use Rattle.multiline_core.specs.Message.{row_end}
use Rattle.multiline_core.specs.Rule.{IsGroupRule}
use Rattle.outside.specs.Files.{File, life_of}
use Rattle.outside.specs.Tails.{TailHistory}
use Rattle.outside.specs.declared.history.Sight.{Sight}
use Rattle.ship_core.proofs.Members.{first_there}
use Rattle.ship_core.specs.CoveredEnd.{last_end}
use Rattle.slot_parts.proofs.Accounted.{life_read_is}
use Rattle.slot_parts.proofs.Adjoining.{told_spans_adjoin}
use Rattle.slot_parts.proofs.Tellings.{has_bytes}
use Rattle.slot_parts.proofs.Together.{last_same}
use Rattle.slot_parts.proofs.Within.{ends_at_last_line, none_of_nothing}
use Rattle.slot_parts.specs.Account.{epoch_account, life_by, reading_of}
use Rattle.slot_parts.specs.Parts.{EpochParts, Part, Runs, epochs_of, last_life_of, runs_from, segments_in, with_epoch, with_part}
use Rattle.slot_parts.specs.Tellings.{AreNumberedFrom, part_of, parts_of, tellings_in}
use Rattle.told_events.specs.Licence.{whole_lines_end}
use Rattle.told_events.specs.Told.{ToldEvent, spans_of}
use Rattle.wire_base.specs.declared.parcel.Parcel.{Parcel}
use Rattle.wire_base.specs.declared.row.Row.{Row}
use Rattle.accounts.specs.Accounted.{place_in}
use Rattle.accounts.specs.Filed.{Filed, account_of, accounts_of, following_of, slot_in}
use Rattle.accounts.specs.FollowedFile.{MayReopenAt}
use Rattle.accounts.specs.Opened.{Opened}
use Rattle.accounts.specs.Parted.{kept_looks}
use Rattle.accounts.specs.ToldFile.{AreEpochsFrom, IsToldFile, IsToldToItsEnd}
use Rattle.accounts.specs.Turned.{Turned}
use Rattle.accounts.specs.Watch.{Watch}
use Rattle.accounts.specs.Watched.{watch_in}
use Rattle.accounts.proofs.Apart.{IsInEpochs}
use Rattle.accounts.proofs.Backing.{slot_found}
use Rattle.accounts.proofs.JoinedFile.{joined_opened, joined_turned, told_joined}
use Rattle.accounts.proofs.LastNotes.{numbered_to_last}
use Rattle.accounts.proofs.Lists.{each_then, last_of_each}
use Rattle.accounts.proofs.Segmented.{as_many, read_exactly}
use Rattle.accounts.proofs.Slots.{file_is_read, kept_are_looks}

-- ---- of what was reported of a file

module _ (watch : Watch) (opened : Opened) (moments : List ℕ) (turned : Turned) (in_range : IsGroupRule opened.rule.multiline) where
  rule_in_range : (told : Option TailHistory) → IsToldFile watch opened moments turned told → IsGroupRule turned.history.rule.multiline
  rule_in_range told is = subst (λ (r : InputRule). IsGroupRule r.multiline) (sym is.history.rule) in_range

  pub is_in_epochs : (told : Option TailHistory) → IsToldFile watch opened moments turned told → IsInEpochs turned
  is_in_epochs told is = record {
    epoch = opened.begin.epoch.0;
    base = opened.begin.base;
    epochs = is.history.epochs;
    adjoin = each_then (IsTelling (rules_in turned.history)) _ (tellings_in turned.history)
        (λ telling tells. told_spans_adjoin (rules_in turned.history) telling (rule_in_range told is) tells) is.epochs;
  }

-- ---- the present epoch in the account

-- the last of the epochs, with one part
record HasLast (place_of : ℕ → ToldEvent → Option Place) (part : Part) (start : ℕ) (found : Option EpochAccount) : Type 0 where
  one : EpochParts
  is : found ≡ Some (epoch_account place_of one)
  parts_are : one.parts ≡ part ∷ []
  start_is : one.start ≡ start

module _ (place_of : ℕ → ToldEvent → Option Place) (opening : ℕ) (rule : GroupRule) where
  abbrev accounts : List EpochParts → List EpochAccount
  accounts epochs = map (epoch_account place_of) epochs

  found_later : (epoch start : ℕ) (parts : List Part) (number : ℕ) (later : List EpochParts) (part : Part) (from : ℕ) → epoch < number →
      HasLast place_of part from (epoch_at number (accounts later)) →
      HasLast place_of part from (epoch_at number (accounts (record { epoch = epoch; start = start; parts = parts } ∷ later)))
  found_later epoch start parts number later part from less found = record {
    one = found.one;
    is = cond-false (epoch == number) (Some (epoch_account place_of (record { epoch = epoch; start = start; parts = parts }))) (epoch_at number (accounts later))
        (ne_eqb epoch number (λ same. omega (arith, less, same)))
        ∙ found.is;
    parts_are = found.parts_are;
    start_is = found.start_is;
  }

  -- after an epoch of this number
  record RunsEnd (present : Telling) (last : Segment) (runs : Runs) : Type 0 where
    none : runs.present ≡ []
    found : HasLast place_of (part_of opening rule present last) present.start (epoch_at present.epoch (accounts runs.later))

  runs_end : (number before : ℕ) (past : List Telling) (present : Telling) (front : List Segment) (last : Segment) → length past ≡ length front → AreNumberedFrom number (past ++ present ∷ []) →
      RunsEnd present last (runs_from number (parts_of opening rule before (past ++ present ∷ []) (front ++ last ∷ []) ++ []))
  runs_end number before [] present [] last as_long are =
      let part = part_of opening rule present last in
      subst (λ (b : Bool). RunsEnd present last (if b then with_part part (runs_from number []) else with_epoch part (runs_from present.epoch [])))
      (sym (ne_eqb present.epoch number (λ same. let n = are.0 in omega (arith, same, n)))) (record {
        none = refl;
        found = record {
          one = record { epoch = present.epoch; start = 0; parts = part ∷ [] };
          is = cond-true (present.epoch == present.epoch) (Some (epoch_account place_of (record { epoch = present.epoch; start = 0; parts = part ∷ [] }))) None
              (eq-eqb present.epoch present.epoch refl);
          parts_are = refl;
          start_is = sym are.1;
        };
      })
  runs_end number before [] present (segment ∷ front) last as_long are = absurd (omega (arith, as_long))
  runs_end number before (first ∷ past) present [] last as_long are = absurd (omega (arith, as_long))
  runs_end number before (first ∷ past) present (segment ∷ front) last as_long are =
      let part = part_of opening rule first segment in
      let rest = parts_of opening rule first.epoch (past ++ present ∷ []) (front ++ last ∷ []) ++ [] in
      let later = runs_end first.epoch first.epoch past present front last (omega (arith, as_long)) (subst (λ (n : ℕ). AreNumberedFrom n (past ++ present ∷ [])) (sym are.0) are.2) in
      subst (λ (b : Bool). RunsEnd present last (if b then with_part part (runs_from number rest) else with_epoch part (runs_from first.epoch rest)))
      (sym (ne_eqb first.epoch number (λ same. let n = are.0 in omega (arith, same, n)))) (record {
        none = refl;
        found = found_later first.epoch 0 (part ∷ (runs_from first.epoch rest).present) present.epoch (runs_from first.epoch rest).later (part_of opening rule present last) present.start
            (let more = numbered_to_last (number + 1) past present are.2 in let n = are.0 in omega (arith, more, n)) later.found;
      })

  last_epoch : (epoch base : ℕ) (past : List Telling) (present : Telling) (front : List Segment) (last : Segment) → length past ≡ length front → AreEpochsFrom epoch base (past ++ present ∷ []) →
      HasLast place_of (part_of opening rule present last) present.start
      (epoch_at present.epoch (accounts (epochs_of epoch base (parts_of opening rule 0 (past ++ present ∷ []) (front ++ last ∷ []) ++ []))))
  last_epoch epoch base [] present [] last as_long are =
      let part = part_of opening rule present last in
      subst (λ (b : Bool). HasLast place_of part present.start
      (epoch_at present.epoch (accounts (record { epoch = epoch; start = base; parts = (if b then with_part part (runs_from epoch []) else with_epoch part (runs_from present.epoch [])).present }
      ∷ (if b then with_part part (runs_from epoch []) else with_epoch part (runs_from present.epoch [])).later))))
      (sym (eq-eqb present.epoch epoch are.0)) (record {
        one = record { epoch = epoch; start = base; parts = part ∷ [] };
        is = cond-true (epoch == present.epoch) (Some (epoch_account place_of (record { epoch = epoch; start = base; parts = part ∷ [] }))) None (eq-eqb epoch present.epoch (sym are.0));
        parts_are = refl;
        start_is = sym are.1;
      })
  last_epoch epoch base [] present (segment ∷ front) last as_long are = absurd (omega (arith, as_long))
  last_epoch epoch base (first ∷ past) present [] last as_long are = absurd (omega (arith, as_long))
  last_epoch epoch base (first ∷ past) present (segment ∷ front) last as_long are =
      let part = part_of opening rule first segment in
      let rest = parts_of opening rule first.epoch (past ++ present ∷ []) (front ++ last ∷ []) ++ [] in
      let later = runs_end epoch first.epoch past present front last (omega (arith, as_long)) are.2 in
      subst (λ (b : Bool). HasLast place_of (part_of opening rule present last) present.start
      (epoch_at present.epoch (accounts (record { epoch = epoch; start = base; parts = (if b then with_part part (runs_from epoch rest) else with_epoch part (runs_from first.epoch rest)).present }
      ∷ (if b then with_part part (runs_from epoch rest) else with_epoch part (runs_from first.epoch rest)).later))))
      (sym (eq-eqb first.epoch epoch are.0))
      (found_later epoch base (part ∷ (runs_from epoch rest).present) present.epoch (runs_from epoch rest).later (part_of opening rule present last) present.start
      (numbered_to_last epoch past present are.2) later.found)

-- ---- its bytes

pub record ReadsSome (file : File) (segment : Segment) : Type 0 where
  pub last : ℕ
  pub reads : ReadsLife file (last_life last (steps_in segment)) segment

pub last_reads : (file : File) (life : ℕ) (front : List Segment) (last : Segment) (more : List Segment) → EachReadsLife file life (front ++ last ∷ more) → ReadsSome file last
last_reads file life [] last more each = record { last = life; reads = each.0 }
last_reads file life (segment ∷ front) last more each = last_reads file (last_life life (steps_in segment)) front last more each.2

-- the last event ends at the last complete line of its life, which the last part of the epoch read last
pub ends_there : (h : History) (file : File) (before : List Part) (part : Part) → IsGroupRule h.rule.multiline → IsTelling (rules_in h) h.present → left_to_tell h ≡ [] → IsReadBy h file h.present part.segment →
    ReadsSome file part.segment →
    whole_lines_end h.rule.lines (life_of file (life_by (before ++ part ∷ []))) h.present.start (read_to h.present) ≡ told_to h.present
ends_there h file before part in_range tells all_told read some = by_bytes h.present.bytes refl
  where
    of_last : (life : ℕ) (parts : List Part) → last_life_of life (segments_in (parts ++ part ∷ [])) ≡ last_life (last_life_of life (segments_in parts)) (steps_in part.segment)
    of_last life [] = refl
    of_last life (first ∷ parts) = of_last (last_life life (steps_in first.segment)) parts

    -- the life of which the part read last
    life_is : part.segment.place < segments.read_to part.segment → life_by (before ++ part ∷ []) ≡ last_life some.last (steps_in part.segment)
    life_is bytes =
        let first = option_map_or (λ (sight : Sight). sight.life) (first_sight_of (map reading_of (before ++ part ∷ []))) 0 in
        life_read_is first (before ++ part ∷ []) ∙ of_last first before
        ∙ last_same (last_life_of first (segments_in before)) some.last part.segment.place (steps_in part.segment) bytes

    -- if nothing was read, both are its start
    by_bytes : (bytes : List ℕ) → h.present.bytes ≡ bytes →
        whole_lines_end h.rule.lines (life_of file (life_by (before ++ part ∷ []))) h.present.start (read_to h.present) ≡ told_to h.present
    by_bytes [] none =
        let start = h.present.start in
        let nothing : drop start (take (start + length h.present.bytes) (life_of file (life_by (before ++ part ∷ [])))) ≡ [] =
        drop-take start (length h.present.bytes) (life_of file (life_by (before ++ part ∷ []))) ∙ ap (λ (l : List ℕ). take (length l) (drop start (life_of file (life_by (before ++ part ∷ []))))) none in
        ap (λ (l : List ℕ). row_end start (complete_lines h.rule.lines start l)) nothing
        ∙ sym (ap (λ (l : List ToldEvent). last_end start (spans_of l)) (none_of_nothing (rules_in h) h.present in_range none tells))
    by_bytes (byte ∷ bytes) are =
        let to = read.to in
        let place = read.place in
        let long : length h.present.bytes ≡ length (byte ∷ bytes) = ap length are in
        let more : part.segment.place < segments.read_to part.segment = omega (arith, to, place, long) in
        let has = has_bytes (rules_in h) in_range h file h.present part.segment read tells (last_life some.last (steps_in part.segment)) some.reads more in
        ends_at_last_line h (life_of file (life_by (before ++ part ∷ []))) tells all_told
        (subst (λ (n : ℕ). HasBytes h.present.start h.present.bytes (life_of file n)) (sym (life_is more)) has)

-- ---- the row

-- a file that was opened once and reported to its end
pub is_read_to_its_end : (run : Run) (placed : Parcel → Option Place) (files : List Filed) (opened : Opened) (turned : Turned) (told : TailHistory) (changed known_from : ℕ) →
    AreDistinct (map slot_in files) → Contains files (record { opened = opened; turned = turned; looks = told.looks; changed = changed; known_from = known_from; later = []; removed = None; shrank_from = None }) →
    IsToldFile (watch_in run) opened run.trace.moments turned (Some told) → GivesKey opened.rule opened.begin.key opened.begin.path opened.file opened.asked →
    IsGroupRule opened.rule.multiline → slice_get run.trace.files opened.number ≡ Some opened.file →
    IsToldToItsEnd turned.history →
    (row : Row) → opened.begin.key ≡ row.key → row.epoch.0 ≡ turned.history.present.epoch → row.offset ≡ told_to turned.history.present →
    IsReadToItsEnd SeesTruncationsOf run opened.rule (accounts_of placed files) row
is_read_to_its_end run placed files opened turned told changed known_from apart among is gave in_range file_is ended row key epoch offset =
    let joined = told_joined (watch_in run) opened run.trace.moments turned told gave.asking is in
    let h = (joined_turned turned).history in
    let looked = joined.looked in
    let kept = kept_looks h told.looks in
    let filed : Filed = record { opened = opened; turned = turned; looks = told.looks; changed = changed; known_from = known_from; later = []; removed = None; shrank_from = None } in
    let exact = read_exactly h (joined_opened opened) told joined.tail.file joined.history.begin joined.history.rule looked joined.history.asked_before opened.asked gave
    (subst MayReopenAt (sym ended.ended) tt) in
    let on = (file_is_read (watch_in run) opened run.trace.moments turned told gave is).on in
    let looks : AreLooks opened.file told.begun kept = kept_are_looks h opened.file told.begun told.looks (subst (λ (f : File). AreLooks f told.begun told.looks) is.tail.file is.tells) in
    let found : HasLast (place_in placed opened.begin.slot) (part_of opened.opening opened.rule.multiline h.present exact.last) h.present.start
    (epoch_at h.present.epoch (account_of placed filed).epochs) =
    subst (λ (l : List Segment). HasLast (place_in placed opened.begin.slot) (part_of opened.opening opened.rule.multiline h.present exact.last) h.present.start
    (epoch_at h.present.epoch (map (epoch_account (place_in placed opened.begin.slot)) (epochs_of opened.begin.epoch.0 opened.begin.base
    (parts_of opened.opening opened.rule.multiline 0 (tellings_in h) l ++ []))))) (sym exact.segments)
    (last_epoch (place_in placed opened.begin.slot) opened.opening opened.rule.multiline opened.begin.epoch.0 opened.begin.base h.past h.present exact.front exact.last
    (as_many h opened.file h.past exact.front exact.past) is.history.epochs) in
    let account = epoch_account (place_in placed opened.begin.slot) found.one in
    let part = part_of opened.opening opened.rule.multiline h.present exact.last in
    let reading : Reading = record { opening = opened.opening; segment = exact.last } in
    let present_told = last_of_each (IsTelling (rules_in h)) h.past h.present is.epochs in
    let ends : SeesTruncationsOf (following_of filed) → whole_lines_end h.rule.lines (life_of opened.file (life_by (part ∷ []))) h.present.start (read_to h.present) ≡ told_to h.present = λ sees.
    let seen : SeesTruncations sees.last_read (segments_of opened.begin.base kept) = subst (SeesTruncations sees.last_read) (append-nil (segments_of opened.begin.base kept)) sees.seen in
    let lives = each_reads opened.file told.begun opened.begin.base sees.last_read kept looks on seen in
    let some = last_reads opened.file sees.last_read exact.front exact.last [] (subst (EachReadsLife opened.file sees.last_read) exact.segments lives) in
    ends_there h opened.file [] part (subst (λ (r : InputRule). IsGroupRule r.multiline) (sym is.history.rule) in_range) present_told ended.all_told exact.present some in
    record {
      slot = slot_in filed;
      one = account_of placed filed;
      slot_is = slot_found placed files filed among apart;
      key_is = key;
      epoch = account;
      epoch_is = ap (λ (n : ℕ). epoch_at n (account_of placed filed).epochs) epoch ∙ found.is;
      reading = reading;
      of_epoch = subst (λ (l : List Part). Contains (map reading_of l) reading) (sym found.parts_are) (first_there reading []);
      place = read_to h.present;
      found = exact.end_look ended.ended;
      file = opened.file;
      file_is = file_is;
      offset_is = λ sees. offset ∙ sym (ends sees)
          ∙ ap (λ (lines : LineRule). whole_lines_end lines (life_of opened.file (life_by (part ∷ []))) h.present.start (read_to h.present)) (ap (λ (r : InputRule). r.lines) is.history.rule)
          ∙ (λ k. whole_lines_end opened.rule.lines (life_of opened.file (life_by (sym found.parts_are k))) (sym found.start_is k) (read_to h.present));
    }
