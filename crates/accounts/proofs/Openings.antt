-- The openings of a slot's file, one by one: each tail follows the file, goes on after those before it, and reports a part of the slot's
-- epochs.
use Rattle.std.proofs.Common.{◌≡◌, ◌⊎◌, inl, inr, ℕ, zero, suc, ◌+◌, ◌≤◌, nat_le, Bool, true, false, List, [], ◌∷◌, ◌++◌, length, map, Option, None, Some, refl, sym, ap, subst, ◌∙◌, arith, if◌then◌else◌}
use Rattle.std.specs.List.{AllByRecursion}
use Rattle.std.proofs.lemmas.Bool.{cond-true, le-leb, leb-true}
use Rattle.std.proofs.lemmas.List.{length_push}
use Rattle.event_tree.specs.declared.group_rule.GroupRule.{GroupRule}
use Rattle.event_tree.specs.declared.input_rule.InputRule.{InputRule}
use Rattle.file_identity.specs.AskedAgain.{StillHasKey}
use Rattle.file_looks.specs.Looks.{AreLooks}
use Rattle.file_looks.specs.Segment.{Segment}
use Rattle.harvester.specs.History.{History, IsTelling, Telling, rules_in, told_to}
use Rattle.kept_rows.specs.Epochs.{WasListedWith}
use Rattle.kept_rows.specs.Followed.{AreOneByOne, IsFollowedTail, Start, start_by}
use Rattle.kept_rows.specs.Run.{Run}
use Rattle.kept_rows.specs.Scans.{IsFirstPath}
use Rattle.multiline_core.specs.Rule.{IsGroupRule}
use Rattle.outside.specs.Tails.{TailHistory}
use Rattle.ship_core.specs.Rows.{find}
use Rattle.slot_parts.proofs.Adjoining.{told_spans_adjoin}
use Rattle.slot_parts.proofs.Tails.{EndsAt, tail_ends}
use Rattle.slot_parts.specs.Account.{epoch_after, goes_on, place_after}
use Rattle.slot_parts.specs.Parts.{epochs_of}
use Rattle.slot_parts.specs.Tails.{GoOnBehind, GoesOnBehind, parts_by, parts_in, segments_by, started, tails_of}
use Rattle.slot_parts.specs.Tellings.{AreNumberedFrom, parts_of, tellings_in}
use Rattle.wire_base.specs.declared.row.Row.{Row}
use Rattle.accounts.specs.Filed.{Filed, IsFiled, Opening, TellEpochs, begun_by, begun_in, first_opening, last_of, last_opening, parts_told, tail_by, tails_in, told_behind, told_both, told_over, turned_in, untold_by}
use Rattle.accounts.specs.FollowedFile.{AreReopened, BeganEarlier, BeginsAs, BeginsThere, IsFollowedFile, IsOpeningOf, IsReopened, MayReopenAt, WasShownLast, begins_by, start_in, tail_with}
use Rattle.accounts.specs.Opened.{Opened}
use Rattle.accounts.specs.Parted.{kept_looks}
use Rattle.accounts.specs.ToldFile.{AreEpochsFrom}
use Rattle.accounts.specs.Turned.{Turned}
use Rattle.accounts.specs.Watched.{watch_in}
use Rattle.accounts.proofs.Apart.{EachAdjoins, IsInEpochs}
use Rattle.accounts.proofs.JoinedFile.{joined_opened, joined_turned, told_joined}
use Rattle.accounts.proofs.Lists.{each_then}
use Rattle.accounts.proofs.Reopened.{GoesOnFrom, HasEpochs, IsSoFar, first_so_far, goes_on_from, merged, merged_first, merged_is, next_so_far, tellings_of}
use Rattle.accounts.proofs.Runs.{PartsTell, StartFrom, StartsWith, epochs_tell, last_tell, parts_tell, risen_tell, start_behind}
use Rattle.accounts.proofs.Segmented.{IsReadExactly, IsReadSo, as_many, opened_with_key, read_exactly}
use Rattle.accounts.proofs.Slots.{file_is_read, kept_are_looks, tells_both}

-- ---- one opening

module _ (run : Run) (first : Opened) (one : Opening) (is : IsOpeningOf run first one) where
  abbrev turned : Turned
  turned = record { slot = first.begin.slot; history = one.history }

  abbrev tail : TailHistory
  tail = tail_with one.opened one.looks

  pub reads_so : IsReadSo (joined_turned turned).history (joined_opened one.opened) one.looks
  reads_so = file_is_read (watch_in run) one.opened run.trace.moments turned tail is.gave is.told

  -- as its tail was opened, the file gave its key
  pub opens_with_key : StillHasKey first.rule first.begin.key one.opened.begin.path one.opened.file (kept_looks one.history one.looks)
  opens_with_key =
      subst (λ (rule : InputRule). StillHasKey rule first.begin.key one.opened.begin.path one.opened.file (kept_looks one.history one.looks)) is.same_rule
      (subst (λ (key : List ℕ). StillHasKey one.opened.rule key one.opened.begin.path one.opened.file (kept_looks one.history one.looks)) is.same_key
      (opened_with_key one.history one.opened tail is.told.tail.file is.told.history.begin is.told.history.rule is.told.looked
      one.opened.asked is.told.history.asked_before is.gave))

  pub tail_follows : IsFollowedTail run first.rule first.begin.key (tail_by one).tail
  tail_follows =
      subst (λ (rule : InputRule). IsFollowedTail run rule first.begin.key (tail_by one).tail) is.same_rule
      (subst (λ (key : List ℕ). IsFollowedTail run one.opened.rule key (tail_by one).tail) is.same_key (record {
        path = one.opened.begin.path;
        number = one.opened.number;
        file = one.opened.file;
        file_is = is.file_is;
        told = tells_both run one.opened one.history one.looks is.tail;
        opened_with_key = opened_with_key one.history one.opened tail is.told.tail.file is.told.history.begin is.told.history.rule is.told.looked
            one.opened.asked is.told.history.asked_before is.gave;
        kept_key = reads_so.kept;
        reads_on = reads_so.on;
        end = reads_so.end;
      }))

  pub looks_at_file : AreLooks one.opened.file one.opened.begun (kept_looks one.history one.looks)
  looks_at_file = kept_are_looks one.history one.opened.file one.opened.begun one.looks is.told.tells

  pub reads_exactly : MayReopenAt one.history.stage → IsReadExactly (joined_turned turned).history (joined_opened one.opened) one.looks
  reads_exactly may =
      let joined = told_joined (watch_in run) one.opened run.trace.moments turned tail is.gave.asking is.told in
      read_exactly (joined_turned turned).history (joined_opened one.opened) tail joined.tail.file joined.history.begin joined.history.rule joined.looked
      joined.history.asked_before one.opened.asked is.gave may

  pub has_epochs : HasEpochs one.history
  has_epochs = record { number = one.opened.begin.epoch.0; base = one.opened.begin.base; epochs = is.told.history.epochs }

  -- the spans of each of its epochs adjoin
  pub spans_adjoin : IsGroupRule first.rule.multiline → EachAdjoins (tellings_in one.history)
  spans_adjoin in_range =
      let rule : IsGroupRule one.history.rule.multiline = subst (λ (r : InputRule). IsGroupRule r.multiline) (sym (is.told.history.rule ∙ is.same_rule)) in_range in
      each_then (IsTelling (rules_in one.history)) _ (tellings_in one.history) (λ telling tells. told_spans_adjoin (rules_in one.history) telling rule tells) is.told.epochs

  -- ---- where it goes on

  was_listed : (shown : WasShownLast run one.opened) → WasListedWith run first.begin.key one.opened.opening (λ size. size ≡ shown.shown.entry.size)
  was_listed shown =
      subst (λ (key : List ℕ). WasListedWith run key one.opened.opening (λ size. size ≡ shown.shown.entry.size)) is.same_key (record {
        front = shown.front;
        scan = shown.scan;
        behind = shown.behind;
        scans_are = shown.scans_are;
        made_before = shown.made_before;
        none_nearer = shown.none_nearer;
        number = shown.number;
        shown = shown.shown;
        shows = (one.opened.begin.input, shown.shows);
        first = subst (IsFirstPath run shown.scan one.opened.begin.key shown.number) (sym shown.path_is) shown.first;
        size = refl;
      })

  pub one_goes_on : (shown : WasShownLast run one.opened) (epoch place : ℕ) → start_in one.opened ≡ goes_on epoch place shown.shown.entry.size →
      GoesOnBehind run first.begin.key epoch place (tail_by one)
  one_goes_on shown epoch place starts = by_tellings (tellings_in one.history) refl is.told.history.epochs
    where
      by_tellings : (tellings : List Telling) → tellings_in one.history ≡ tellings → AreEpochsFrom one.opened.begin.epoch.0 one.opened.begin.base tellings →
          GoesOnBehind run first.begin.key epoch place (tail_by one)
      by_tellings [] are epochs = absurd epochs
      by_tellings (telling ∷ later) are epochs = record {
        size = shown.shown.entry.size;
        listed = was_listed shown;
        first = telling;
        later = later;
        tellings_are = are;
        starts = ap (λ (n : ℕ). started n one.opened.begin.base) epochs.0 ∙ starts;
        numbered = subst (λ (n : ℕ). AreNumberedFrom n later) (sym epochs.0) epochs.2;
        few = reads_so.few;
      }

  module _ (rule : GroupRule) (may : MayReopenAt one.history.stage) where
    pub ends_exactly : (epoch place : ℕ) → EndsAt one.opened.opening rule epoch place (parts_by rule (tail_by one)) one.history.present
    ends_exactly epoch place =
        let exact = reads_exactly may in
        subst (λ (l : List Segment). EndsAt one.opened.opening rule epoch place (parts_of one.opened.opening rule 0 (tellings_in one.history) l) one.history.present) (sym exact.segments)
        (tail_ends one.opened.opening rule (joined_turned turned).history one.opened.file epoch place 0 one.history.past one.history.present exact.front exact.last exact.past exact.present)

    as_long : length (tellings_in one.history) ≡ length (segments_by (tail_by one))
    as_long =
        let exact = reads_exactly may in
        let tellings = length_push one.history.past one.history.present in
        let segments : length (segments_by (tail_by one)) ≡ length (exact.front ++ exact.last ∷ []) = ap length exact.segments in
        let last = length_push exact.front exact.last in
        let past = as_many (joined_turned turned).history one.opened.file one.history.past exact.front exact.past in
        omega (arith, tellings, segments, last, past)

-- ---- all openings

module _ (run : Run) (first : Opened) (in_range : IsGroupRule first.rule.multiline) where
  abbrev rule : GroupRule
  rule = first.rule.multiline

  -- what was reported of it so far goes on to the end
  pub in_epochs : (epoch base : ℕ) (last : Opening) (so_far : History) (later : List Opening) → IsSoFar epoch base so_far last.history → AreReopened run first last so_far later →
      IsSoFar epoch base (told_over so_far later) (last_of last later).history
  in_epochs epoch base last so_far [] is are = is
  in_epochs epoch base last so_far (next ∷ later) is are =
      in_epochs epoch base next (told_both so_far next.history) later
      (next_so_far epoch base so_far last.history next.history is next.opened.begin.epoch.0 next.opened.begin.base
      (goes_on_from so_far.present.epoch (told_to so_far.present) are.0.shown.shown.entry.size next.opened.begin.epoch.0 next.opened.begin.base are.0.starts)
      are.0.is.told.history.epochs (spans_adjoin run first next are.0.is in_range))
      are.1

  -- what holds of each that is opened again
  pub each_reopened : (P : Opening → Type 0) → ((last : Opening) (so_far : History) (next : Opening) → IsReopened run first last so_far next → P next) →
      (last : Opening) (so_far : History) (later : List Opening) → AreReopened run first last so_far later → AllByRecursion P later
  each_reopened P so last so_far [] are = tt
  each_reopened P so last so_far (next ∷ later) are = (so last so_far next are.0, each_reopened P so next (told_both so_far next.history) later are.1)

  pub are_one_by_one : (last : Opening) (so_far : History) (later : List Opening) → AreReopened run first last so_far later →
      AreOneByOne run.trace (tails_of (tail_by last ∷ map tail_by later))
  are_one_by_one last so_far [] are = tt
  are_one_by_one last so_far (next ∷ later) are = (are.0.closed, are_one_by_one next (told_both so_far next.history) later are.1)

  -- ---- each after those before it

  pub go_on_behind : (epoch base : ℕ) (last : Opening) (so_far : History) (later : List Opening) (number place : ℕ) → IsSoFar epoch base so_far last.history →
      (MayReopenAt last.history.stage → (number ≡ last.history.present.epoch) × (place ≡ told_to last.history.present)) → AreReopened run first last so_far later →
      GoOnBehind run first.begin.key rule number place (map tail_by later)
  go_on_behind epoch base last so_far [] number place is ends are = tt
  go_on_behind epoch base last so_far (next ∷ later) number place is ends are =
      let at = ends are.0.may in
      let number_is : so_far.present.epoch ≡ number = is.epoch_is ∙ sym at.0 in
      let place_is : told_to so_far.present ≡ place = is.place_is ∙ sym at.1 in
      let starts : start_in next.opened ≡ goes_on number place are.0.shown.shown.entry.size =
      are.0.starts ∙ (λ k. goes_on (number_is k) (place_is k) are.0.shown.shown.entry.size) in (
        one_goes_on run first next are.0.is are.0.shown number place starts,
        go_on_behind epoch base next (told_both so_far next.history) later
            (epoch_after number (parts_by rule (tail_by next))) (place_after place (parts_by rule (tail_by next)))
            (next_so_far epoch base so_far last.history next.history is next.opened.begin.epoch.0 next.opened.begin.base
            (goes_on_from so_far.present.epoch (told_to so_far.present) are.0.shown.shown.entry.size next.opened.begin.epoch.0 next.opened.begin.base are.0.starts)
            are.0.is.told.history.epochs (spans_adjoin run first next are.0.is in_range))
            (λ may. let ends_at = ends_exactly run first next are.0.is rule may number place in (ends_at.epoch_is, ends_at.place_is))
            are.1,
      )

  -- ---- what their parts reported

  pub all_tell : (last : Opening) (so_far : History) (later : List Opening) → IsOpeningOf run first last → AreReopened run first last so_far later →
      PartsTell (parts_by rule (tail_by last) ++ parts_in rule (map tail_by later)) (tellings_in last.history ++ tellings_of later)
  all_tell last so_far [] is are = last_tell last.opened.opening rule 0 (tellings_in last.history) (segments_by (tail_by last)) (reads_so run first last is).few
  all_tell last so_far (next ∷ later) is are =
      parts_tell last.opened.opening rule 0 (tellings_in last.history) (segments_by (tail_by last)) (parts_in rule (map tail_by (next ∷ later))) (tellings_of (next ∷ later))
      (as_long run first last is rule are.0.may) (all_tell next (told_both so_far next.history) later are.0.is are.1)

  starts_with : (epoch number base : ℕ) (past : List Telling) (last : Telling) (rest : List Telling) → AreEpochsFrom number base (past ++ last ∷ []) → (number ≡ epoch) ⊎ (base ≡ 0) →
      StartFrom last.epoch rest → StartFrom epoch ((past ++ last ∷ []) ++ rest)
  starts_with epoch number base [] last rest are from later = (by_start from, later)
    where
      by_start : (number ≡ epoch) ⊎ (base ≡ 0) → (last.epoch ≡ epoch) ⊎ (last.start ≡ 0)
      by_start (inl same) = inl (are.0 ∙ same)
      by_start (inr none) = inr (are.1 ∙ none)
  starts_with epoch number base (one ∷ past) last rest are from later = (by_start from, start_behind one.epoch number past last rest are.2 later)
    where
      by_start : (number ≡ epoch) ⊎ (base ≡ 0) → (one.epoch ≡ epoch) ⊎ (one.start ≡ 0)
      by_start (inl same) = inl (are.0 ∙ same)
      by_start (inr none) = inr (are.1 ∙ none)

  pub start_later : (epoch base : ℕ) (last : Opening) (so_far : History) (later : List Opening) → IsSoFar epoch base so_far last.history → AreReopened run first last so_far later →
      StartFrom last.history.present.epoch (tellings_of later)
  start_later epoch base last so_far [] is are = tt
  start_later epoch base last so_far (next ∷ later) is are =
      let from = goes_on_from so_far.present.epoch (told_to so_far.present) are.0.shown.shown.entry.size next.opened.begin.epoch.0 next.opened.begin.base are.0.starts in
      starts_with last.history.present.epoch next.opened.begin.epoch.0 next.opened.begin.base next.history.past next.history.present (tellings_of later) are.0.is.told.history.epochs
      (by_start from)
      (start_later epoch base next (told_both so_far next.history) later
      (next_so_far epoch base so_far last.history next.history is next.opened.begin.epoch.0 next.opened.begin.base from
      are.0.is.told.history.epochs (spans_adjoin run first next are.0.is in_range)) are.1)
    where
      by_start : GoesOnFrom so_far.present.epoch (told_to so_far.present) next.opened.begin.epoch.0 next.opened.begin.base →
          (next.opened.begin.epoch.0 ≡ last.history.present.epoch) ⊎ (next.opened.begin.base ≡ 0)
      by_start (inl same) = inl (same.0 ∙ is.epoch_is)
      by_start (inr next_one) = inr next_one.1

-- ---- a file

abbrev start_base : Start → ℕ
start_base start = start.base

abbrev start_epoch : Start → ℕ
start_epoch start = start.epoch

-- epochs that are numbered from the one behind this
rise_behind : (epoch next base : ℕ) (tellings : List Telling) → next ≡ epoch + 1 → base ≡ 0 → AreEpochsFrom next base tellings → AreNumberedFrom epoch tellings
rise_behind epoch next base [] number place are = absurd are
rise_behind epoch next base (first ∷ later) number place are = (are.0 ∙ number, are.1 ∙ place, subst (λ (n : ℕ). AreNumberedFrom n later) number are.2)

starts_as : (epoch base : ℕ) (tellings rest : List Telling) → AreEpochsFrom epoch base tellings → StartsWith epoch (tellings ++ rest)
starts_as epoch base [] rest are = absurd are
starts_as epoch base (first ∷ later) rest are = are.0

-- what is begun by a row is begun within the size
within_size : (row : Option Row) (size : ℕ) → (start_by row size).base ≤ size
within_size None size = omega arith
within_size (Some row) size = by_case (nat_le row.offset size) refl
  where
    by_case : (b : Bool) → nat_le row.offset size ≡ b → start_base (if b then record { epoch = row.epoch.0; base = row.offset } else record { epoch = row.epoch.0 + 1; base = 0 }) ≤ size
    by_case true e = leb-true row.offset size e
    by_case false e = omega arith

-- so is what a scan begins
within_listed : (number : ℕ) (row : Option Row) (size : ℕ) → (begins_by number row size).base ≤ size
within_listed zero row size = within_size row size
within_listed (suc earlier) row size = omega arith

module _ (run : Run) (file : Filed) (is : IsFollowedFile run file) where
  abbrev pub first_is_opening : IsOpeningOf run file.opened (first_opening file)
  first_is_opening = record {
    same_slot = refl;
    same_input = refl;
    same_key = refl;
    same_rule = refl;
    gave = is.gave;
    file_is = is.file_is;
    tail = is.tail;
    told = record { slot = refl; history = is.told.history; epochs = is.told.epochs; looked = is.told.looked; tail = is.told.tail; tells = is.told.tells };
  }

  -- with which epoch and place its first tail was opened
  abbrev own_epoch : ℕ
  own_epoch = file.opened.begin.epoch.0

  abbrev own_base : ℕ
  own_base = file.opened.begin.base

  -- and with which its slot begins
  abbrev epoch : ℕ
  epoch = (begun_in file).epoch

  abbrev base : ℕ
  base = (begun_in file).base

  -- what its tails told
  abbrev so_told : History
  so_told = told_over file.turned.history file.later

  first_is_so_far : IsSoFar own_epoch own_base file.turned.history file.turned.history
  first_is_so_far = first_so_far own_epoch own_base file.turned.history is.told.history.epochs (spans_adjoin run file.opened (first_opening file) first_is_opening is.in_range)

  own_so_far : IsSoFar own_epoch own_base so_told (last_opening file).history
  own_so_far = in_epochs run file.opened is.in_range own_epoch own_base (first_opening file) file.turned.history file.later first_is_so_far is.reopened

  -- what was reported of it over all its openings ends where the last one does
  pub all_so_far : IsSoFar epoch base (turned_in file).history (last_opening file).history
  all_so_far = by_case file.shrank_from is.listed.begins
    where
      by_case : (from : Option Start) → BeginsAs run file is.listed.last from →
          IsSoFar (begun_by file.opened from).epoch (begun_by file.opened from).base (told_behind (untold_by from) so_told) (last_opening file).history
      by_case None begins = record { epochs = own_so_far.epochs; adjoin = own_so_far.adjoin; epoch_is = own_so_far.epoch_is; place_is = own_so_far.place_is }
      by_case (Some start) shrank = record {
        epochs = (refl, refl, rise_behind start.epoch own_epoch own_base (tellings_in so_told) (ap start_epoch shrank.starts) (ap start_base shrank.starts) own_so_far.epochs);
        adjoin = (tt, own_so_far.adjoin);
        epoch_is = own_so_far.epoch_is;
        place_is = own_so_far.place_is;
      }

  pub file_in_epochs : IsInEpochs (turned_in file)
  file_in_epochs = record { epoch = epoch; base = base; epochs = all_so_far.epochs; adjoin = all_so_far.adjoin }

  pub file_epochs : AreEpochsFrom epoch base (tellings_in (turned_in file).history)
  file_epochs = all_so_far.epochs

  own_tell : TellEpochs (epochs_of own_epoch own_base (parts_told file)) (tellings_in so_told)
  own_tell = by_tellings (tellings_in file.turned.history) refl is.told.history.epochs
    where
      by_tellings : (tellings : List Telling) → tellings_in file.turned.history ≡ tellings → AreEpochsFrom own_epoch own_base tellings →
          TellEpochs (epochs_of own_epoch own_base (parts_told file)) (tellings_in so_told)
      by_tellings [] are epochs = absurd epochs
      by_tellings (telling ∷ later) are epochs =
          let rest = tellings_of file.later in
          let tell : PartsTell (parts_told file) (telling ∷ (later ++ rest)) =
          subst (λ (l : List Telling). PartsTell (parts_told file) (l ++ rest)) are
          (all_tell run file.opened is.in_range (first_opening file) file.turned.history file.later first_is_opening is.reopened) in
          let behind = start_later run file.opened is.in_range own_epoch own_base (first_opening file) file.turned.history file.later first_is_so_far is.reopened in
          let all : merged telling (later ++ rest) ≡ tellings_in so_told =
          merged_first own_epoch own_base file.turned.history.past file.turned.history.present telling later rest are is.told.history.epochs
          ∙ sym (merged_is file.turned.history file.later (each_reopened run file.opened is.in_range (λ (one : Opening). HasEpochs one.history) (λ last so_far next again. has_epochs run file.opened next again.is)
          (first_opening file) file.turned.history file.later is.reopened)) in
          subst (TellEpochs (epochs_of own_epoch own_base (parts_told file))) all
          (epochs_tell own_epoch own_base (parts_told file) telling (later ++ rest) epochs.0 epochs.1 tell
          (starts_first file.turned.history.past file.turned.history.present telling later rest are is.told.history.epochs behind))
        where
          starts_first : (past : List Telling) (last one : Telling) (ones rest : List Telling) → past ++ last ∷ [] ≡ one ∷ ones → AreEpochsFrom own_epoch own_base (past ++ last ∷ []) →
              StartFrom last.epoch rest → StartFrom own_epoch (ones ++ rest)
          starts_first [] last one ones rest are epochs behind =
              let none : [] ≡ ones = cc in
              subst (λ (l : List Telling). StartFrom own_epoch (l ++ rest)) none (subst (λ (n : ℕ). StartFrom n rest) epochs.0 behind)
          starts_first (other ∷ past) last one ones rest are epochs behind =
              let others : past ++ last ∷ [] ≡ ones = cc in
              subst (λ (l : List Telling). StartFrom own_epoch (l ++ rest)) others (start_behind own_epoch own_epoch past last rest epochs.2 behind)

  tell_epochs : TellEpochs (epochs_of epoch base (parts_told file)) (tellings_in (turned_in file).history)
  tell_epochs = by_case file.shrank_from is.listed.begins
    where
      by_case : (from : Option Start) → BeginsAs run file is.listed.last from →
          TellEpochs (epochs_of (begun_by file.opened from).epoch (begun_by file.opened from).base (parts_told file)) (tellings_in (told_behind (untold_by from) so_told))
      by_case None begins = own_tell
      by_case (Some start) shrank =
          let none : own_base ≡ 0 = ap start_base shrank.starts in
          risen_tell start.epoch start.base own_epoch (parts_told file) (tellings_in file.turned.history ++ tellings_of file.later) (tellings_in so_told) (ap start_epoch shrank.starts)
          (starts_as own_epoch own_base (tellings_in file.turned.history) (tellings_of file.later) is.told.history.epochs)
          (all_tell run file.opened is.in_range (first_opening file) file.turned.history file.later first_is_opening is.reopened)
          (subst (λ (n : ℕ). TellEpochs (epochs_of own_epoch n (parts_told file)) (tellings_in so_told)) none own_tell)

  pub is_filed : IsFiled file
  is_filed = record { slot = is.told.slot; epochs = file_epochs; tell = tell_epochs }

  -- ---- as it was listed

  abbrev shown : WasShownLast run file.opened
  shown = is.listed.last

  begins_within : BeginsThere run file shown ⊎ BeganEarlier run file shown → own_base ≤ shown.shown.entry.size
  begins_within (inl there) =
      let starts : own_base ≡ start_base (begins_by file.known_from (find file.opened.begin.key run.opening) shown.shown.entry.size) = ap start_base there.starts in
      let within = within_listed file.known_from (find file.opened.begin.key run.opening) shown.shown.entry.size in
      omega (arith, starts, within)
  begins_within (inr earlier) = earlier.within

  first_starts : start_in file.opened ≡ goes_on epoch base shown.shown.entry.size
  first_starts = by_case file.shrank_from is.listed.begins
    where
      size : ℕ
      size = shown.shown.entry.size

      by_case : (from : Option Start) → BeginsAs run file shown from → start_in file.opened ≡ goes_on (begun_by file.opened from).epoch (begun_by file.opened from).base size
      by_case None begins = sym (cond-true _ (record { epoch = own_epoch; base = own_base }) (record { epoch = own_epoch + 1; base = 0 }) (le-leb own_base size (begins_within begins)))
      by_case (Some start) shrank = by_size (nat_le start.base size) refl
        where
          by_size : (b : Bool) → nat_le start.base size ≡ b → start_in file.opened ≡ (if b then start else record { epoch = start.epoch + 1; base = 0 })
          by_size true e = absurd (let within = leb-true start.base size e in let below = shrank.below in omega (arith, within, below))
          by_size false e = shrank.starts

  pub file_goes_on : GoOnBehind run file.opened.begin.key file.opened.rule.multiline epoch base (tails_in file)
  file_goes_on = (
    one_goes_on run file.opened (first_opening file) first_is_opening shown epoch base first_starts,
    go_on_behind run file.opened is.in_range own_epoch own_base (first_opening file) file.turned.history file.later
        (epoch_after epoch (parts_by file.opened.rule.multiline (tail_by (first_opening file))))
        (place_after base (parts_by file.opened.rule.multiline (tail_by (first_opening file)))) first_is_so_far
        (λ may. let at = ends_exactly run file.opened (first_opening file) first_is_opening file.opened.rule.multiline may epoch base in (at.epoch_is, at.place_is))
        is.reopened,
  )
