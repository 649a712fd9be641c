-- A file that was removed: its account ends with the epoch that its last tail reported, of which a Forget names the number and the end; and where all
-- of that is settled, its row goes rightly.
use Rattle.std.proofs.Common.{◌≡◌, ◌⊎◌, inl, inr, ℕ, ◌+◌, ◌==◌, ◌≤◌, Bool, true, false, List, [], ◌∷◌, ◌++◌, Contains, length, map, Option, None, Some, IfSome, refl, sym, ap, subst, ◌∙◌, append-nil, append_assoc, arith, if◌then◌else◌}
use Rattle.std.specs.List.{AllByRecursion, flat_map}
use Rattle.std.proofs.lemmas.Bool.{eq-eqb, eqb-true}
use Rattle.std.proofs.lemmas.List.{map-append}
use Rattle.event_tree.specs.declared.group_rule.GroupRule.{GroupRule}
use Rattle.event_tree.specs.declared.input_rule.InputRule.{InputRule}
use Rattle.event_tree.specs.declared.line_rule.LineRule.{LineRule}
use Rattle.file_looks.specs.EndLook.{HasEndLook}
use Rattle.file_looks.specs.Reading.{EachReadsLife}
use Rattle.file_looks.specs.Segment.{Segment, segments_of}
use Rattle.harvester.specs.History.{History, IsTelling, Telling, left_to_tell, read_to, rules_in, Stage, told_to}
use Rattle.harvester.specs.Looked.{IsReadBy}
use Rattle.kept_rows.proofs.Forgotten.{last_is_found}
use Rattle.kept_rows.specs.Account.{EpochAccount, FollowedTail, Place, SlotAccount, epoch_at, events_of}
use Rattle.kept_rows.specs.Epochs.{AreNumbered, AreNumberedFrom, next_place}
use Rattle.kept_rows.specs.Kept.{IsSettled}
use Rattle.kept_rows.specs.Lost.{HadNoOpenTail, IsReadAndSettled, WasClosedBefore, WasRemovedRightly}
use Rattle.kept_rows.specs.Premises.{SlotPremises}
use Rattle.kept_rows.specs.Run.{Run}
use Rattle.kept_rows.specs.Telling.{IsEpochTold}
use Rattle.kept_rows.specs.Trace.{WireTold}
use Rattle.multiline_core.specs.Partition.{IsPartition}
use Rattle.multiline_core.specs.Rule.{IsGroupRule}
use Rattle.outside.specs.Files.{File, life_of}
use Rattle.ship_core.specs.CoveredEnd.{last_end}
use Rattle.slot_parts.proofs.Accounted.{events_back, tails_read}
use Rattle.slot_parts.proofs.Risen.{are_chained}
use Rattle.slot_parts.proofs.Rows.{same_whole_end}
use Rattle.slot_parts.proofs.Singles.{none_behind}
use Rattle.slot_parts.proofs.Slots.{tails_follow}
use Rattle.slot_parts.specs.Account.{epoch_account, life_by, reading_of}
use Rattle.slot_parts.specs.Parts.{AreChained, EpochParts, GoOnWithin, GoesOn, Part, Runs, epochs_of, runs_from, told_in, told_to as part_told_to, with_epoch, with_part}
use Rattle.slot_parts.specs.Tails.{parts_by, parts_in, segments_by, tails_of}
use Rattle.slot_parts.specs.Tellings.{part_of, parts_of, tellings_in}
use Rattle.told_events.specs.Licence.{whole_lines_end}
use Rattle.told_events.specs.Rules.{rules_of}
use Rattle.told_events.specs.Told.{ToldEvent, spans_of}
use Rattle.wire_base.specs.declared.parcel.Parcel.{Parcel}
use Rattle.accounts.specs.Accounted.{place_in}
use Rattle.accounts.specs.Filed.{Filed, Opening, Removal, TellEpoch, TellEpochs, account_of, begun_in, first_opening, following_of, last_of, last_opening, last_told, left_by, left_in, parts_told, tail_by, tails_in, told_both, turned_in}
use Rattle.accounts.specs.FollowedFile.{AreReopened, IsFollowedFile, IsOpeningOf, IsReadBehind, MayReopenAt, WasRemovedBy}
use Rattle.accounts.specs.Opened.{Opened}
use Rattle.accounts.specs.Parted.{has_lost_key, loses_key_at}
use Rattle.accounts.proofs.Ends.{ends_there, last_reads}
use Rattle.accounts.proofs.JoinedFile.{joined_opened, joined_turned}
use Rattle.accounts.proofs.Lists.{flat_map_both, last_of_each}
use Rattle.accounts.proofs.OneSlot.{epochs_told, same_last_file, slot_has_epochs, tails_looked}
use Rattle.accounts.proofs.Openings.{all_so_far, file_goes_on, first_is_opening, is_filed, reads_exactly}
use Rattle.accounts.proofs.Orderly.{spans_back}
use Rattle.accounts.proofs.Parting.{all_kept}
use Rattle.accounts.proofs.Reopened.{last_end_on}
use Rattle.accounts.proofs.Segmented.{IsReadExactly, as_many}

-- ---- of a file that was not removed

pub none_left : (file : Filed) (P : ℕ → Type 0) → file.removed ≡ None → IfSome (left_in file) P
none_left file P stays = subst (λ (o : Option Removal). IfSome (left_by o) P) (sym stays) tt

pub not_removed : (file : Filed) (P : Removal → Type 0) → file.removed ≡ None → IfSome file.removed P
not_removed file P stays = subst (λ (o : Option Removal). IfSome o P) (sym stays) tt

-- ---- lists

pub same_end : {A : Type 0} (xs ys : List A) (x y : A) → xs ++ x ∷ [] ≡ ys ++ y ∷ [] → x ≡ y
same_end [] [] x y same = let q : x ∷ [] ≡ y ∷ [] = same in cc
same_end [] (other ∷ ys) x y same = absurd (none_behind ys y (let q : x ∷ [] ≡ other ∷ (ys ++ y ∷ []) = same in let behind : [] ≡ ys ++ y ∷ [] = cc in behind))
same_end (first ∷ xs) [] x y same = absurd (none_behind xs x (let q : first ∷ (xs ++ x ∷ []) ≡ y ∷ [] = same in let behind : [] ≡ xs ++ x ∷ [] = cc in behind))
same_end (first ∷ xs) (other ∷ ys) x y same =
    same_end xs ys x y (let q : first ∷ (xs ++ x ∷ []) ≡ other ∷ (ys ++ y ∷ []) = same in let behind : xs ++ x ∷ [] ≡ ys ++ y ∷ [] = cc in behind)

-- a list of nothing has no front
no_front : {A : Type 0} (xs ys : List A) → [] ≡ xs ++ ys → xs ≡ []
no_front [] ys none = refl
no_front (first ∷ xs) ys none = absurd (let q : [] ≡ first ∷ (xs ++ ys) = none in cc)

-- ---- the last part of a slot, and the last of its epochs

parts_end : (opening : ℕ) (rule : GroupRule) (before : ℕ) (past : List Telling) (present : Telling) (front : List Segment) (last : Segment) → length past ≡ length front →
    (parts : List Part) × (parts_of opening rule before (past ++ present ∷ []) (front ++ last ∷ []) ≡ parts ++ part_of opening rule present last ∷ [])
parts_end opening rule before [] present [] last as_long = ([], refl)
parts_end opening rule before [] present (segment ∷ front) last as_long = absurd (omega (arith, as_long))
parts_end opening rule before (first ∷ past) present [] last as_long = absurd (omega (arith, as_long))
parts_end opening rule before (first ∷ past) present (segment ∷ front) last as_long =
    let later = parts_end opening rule first.epoch past present front last (omega (arith, as_long)) in
    (part_of opening rule first segment ∷ later.0, ap (λ (l : List Part). part_of opening rule first segment ∷ l) later.1)

-- those of the last tail come last
last_parts : (rule : GroupRule) (first : Opening) (later : List Opening) →
    (before : List Part) × (parts_in rule (tail_by first ∷ map tail_by later) ≡ before ++ parts_by rule (tail_by (last_of first later)))
last_parts rule first [] = ([], append-nil (parts_by rule (tail_by first)))
last_parts rule first (next ∷ later) =
    let behind = last_parts rule next later in
    let own = parts_by rule (tail_by first) in
    (own ++ behind.0, ap (λ (l : List Part). own ++ l) behind.1 ∙ sym (append_assoc own behind.0 (parts_by rule (tail_by (last_of next later)))))

abbrev segments_by_tail : FollowedTail → List Segment
segments_by_tail tail = segments_of tail.place tail.looks

last_segments : (first : Opening) (later : List Opening) →
    (before : List Segment) × (flat_map segments_by_tail (tails_of (tail_by first ∷ map tail_by later)) ≡ before ++ segments_by (tail_by (last_of first later)))
last_segments first [] = ([], append-nil (segments_by (tail_by first)))
last_segments first (next ∷ later) =
    let behind = last_segments next later in
    let own = segments_by (tail_by first) in
    (own ++ behind.0, ap (λ (l : List Segment). own ++ l) behind.1 ∙ sym (append_assoc own behind.0 (segments_by (tail_by (last_of next later)))))

-- the last of these epochs, whose parts end with this one
pub record EndsWith (part : Part) (epochs : List EpochParts) : Type 0 where
  pub earlier : List EpochParts
  pub one : EpochParts
  pub epochs_are : epochs ≡ earlier ++ one ∷ []
  pub before : List Part
  pub parts_are : one.parts ≡ before ++ part ∷ []
  pub epoch_is : one.epoch ≡ part.epoch
  pub on : GoOnWithin one.start one.parts

record EndsPresent (epoch : ℕ) (part : Part) (runs : Runs) : Type 0 where
  before : List Part
  present_is : runs.present ≡ before ++ part ∷ []
  none_later : runs.later ≡ []
  epoch_is : part.epoch ≡ epoch

record RunsEnd (epoch place : ℕ) (part : Part) (runs : Runs) : Type 0 where
  on : GoOnWithin place runs.present
  ends : EndsPresent epoch part runs ⊎ EndsWith part runs.later

runs_end : (epoch place : ℕ) (some : List Part) (part : Part) → AreChained epoch place (some ++ part ∷ []) → RunsEnd epoch place part (runs_from epoch (some ++ part ∷ []))
runs_end epoch place [] part chained = by_case (part.epoch == epoch) refl chained.0
  where
    by_case : (b : Bool) → (part.epoch == epoch) ≡ b → GoesOn epoch place part → RunsEnd epoch place part (if b then with_part part (runs_from epoch []) else with_epoch part (runs_from part.epoch []))
    by_case true is (inl same) = record { on = (same.1, tt); ends = inl (record { before = []; present_is = refl; none_later = refl; epoch_is = same.0 }) }
    by_case true is (inr next) = absurd (let n = next.0 in let e = eqb-true part.epoch epoch is in omega (arith, n, e))
    by_case false is (inl same) = absurd (let no : true ≡ false = sym (eq-eqb part.epoch epoch same.0) ∙ is in cc)
    by_case false is (inr next) = record {
      on = tt;
      ends = inr (record {
        earlier = [];
        one = record { epoch = part.epoch; start = 0; parts = part ∷ [] };
        epochs_are = refl;
        before = [];
        parts_are = refl;
        epoch_is = refl;
        on = (next.1, tt);
      });
    }
runs_end epoch place (first ∷ some) part chained =
    by_case (first.epoch == epoch) refl chained.0 (runs_end first.epoch (part_told_to first) some part chained.1)
  where
    rest : List Part
    rest = some ++ part ∷ []

    by_case : (b : Bool) → (first.epoch == epoch) ≡ b → GoesOn epoch place first → RunsEnd first.epoch (part_told_to first) part (runs_from first.epoch rest) →
        RunsEnd epoch place part (if b then with_part first (runs_from epoch rest) else with_epoch first (runs_from first.epoch rest))
    by_case true is (inl same) later =
        let here : RunsEnd epoch (part_told_to first) part (runs_from epoch rest) = subst (λ (n : ℕ). RunsEnd n (part_told_to first) part (runs_from n rest)) same.0 later in
        record { on = (same.1, here.on); ends = with_first here.ends }
      where
        with_first : EndsPresent epoch part (runs_from epoch rest) ⊎ EndsWith part (runs_from epoch rest).later →
            EndsPresent epoch part (with_part first (runs_from epoch rest)) ⊎ EndsWith part (runs_from epoch rest).later
        with_first (inl ends) =
            inl (record { before = first ∷ ends.before; present_is = ap (λ (l : List Part). first ∷ l) ends.present_is; none_later = ends.none_later; epoch_is = ends.epoch_is })
        with_first (inr ends) = inr ends
    by_case true is (inr next) later = absurd (let n = next.0 in let e = eqb-true first.epoch epoch is in omega (arith, n, e))
    by_case false is (inl same) later = absurd (let no : true ≡ false = sym (eq-eqb first.epoch epoch same.0) ∙ is in cc)
    by_case false is (inr next) later = record { on = tt; ends = inr (with_next later.ends) }
      where
        begun : EpochParts
        begun = record { epoch = first.epoch; start = 0; parts = first ∷ (runs_from first.epoch rest).present }

        with_next : EndsPresent first.epoch part (runs_from first.epoch rest) ⊎ EndsWith part (runs_from first.epoch rest).later →
            EndsWith part (begun ∷ (runs_from first.epoch rest).later)
        with_next (inl ends) = record {
          earlier = [];
          one = begun;
          epochs_are = ap (λ (l : List EpochParts). begun ∷ l) ends.none_later;
          before = first ∷ ends.before;
          parts_are = ap (λ (l : List Part). first ∷ l) ends.present_is;
          epoch_is = sym ends.epoch_is;
          on = (next.1, later.on);
        }
        with_next (inr ends) = record {
          earlier = begun ∷ ends.earlier;
          one = ends.one;
          epochs_are = ap (λ (l : List EpochParts). begun ∷ l) ends.epochs_are;
          before = ends.before;
          parts_are = ends.parts_are;
          epoch_is = ends.epoch_is;
          on = ends.on;
        }

epochs_end : (epoch base : ℕ) (some : List Part) (part : Part) → AreChained epoch base (some ++ part ∷ []) → EndsWith part (epochs_of epoch base (some ++ part ∷ []))
epochs_end epoch base some part chained = by_case (runs_end epoch base some part chained)
  where
    runs : Runs
    runs = runs_from epoch (some ++ part ∷ [])

    begun : EpochParts
    begun = record { epoch = epoch; start = base; parts = runs.present }

    by_case : RunsEnd epoch base part runs → EndsWith part (begun ∷ runs.later)
    by_case is = by_ends is.ends
      where
        by_ends : EndsPresent epoch part runs ⊎ EndsWith part runs.later → EndsWith part (begun ∷ runs.later)
        by_ends (inl ends) = record {
          earlier = [];
          one = begun;
          epochs_are = ap (λ (l : List EpochParts). begun ∷ l) ends.none_later;
          before = ends.before;
          parts_are = ends.present_is;
          epoch_is = sym ends.epoch_is;
          on = is.on;
        }
        by_ends (inr ends) = record {
          earlier = begun ∷ ends.earlier;
          one = ends.one;
          epochs_are = ap (λ (l : List EpochParts). begun ∷ l) ends.epochs_are;
          before = ends.before;
          parts_are = ends.parts_are;
          epoch_is = ends.epoch_is;
          on = ends.on;
        }

-- ---- what the last epoch reported

module _ (place_of : ℕ → ToldEvent → Option Place) where
  abbrev accounts : List EpochParts → List EpochAccount
  accounts epochs = map (epoch_account place_of) epochs

  below_last : (before : ℕ) (earlier : List EpochParts) (last : EpochParts) → AreNumberedFrom before (accounts (earlier ++ last ∷ [])) → before + 1 ≤ last.epoch
  below_last before [] last are = let next = are.0 in omega (arith, next)
  below_last before (one ∷ earlier) last are = let later = below_last (before + 1) earlier last are.2 in omega (arith, later)

  none_told : (past : List Telling) (present : Telling) → TellEpochs [] (past ++ present ∷ []) → ⊥
  none_told [] present tell = tell
  none_told (first ∷ past) present tell = tell

  last_tells_from : (before : ℕ) (earlier : List EpochParts) (last : EpochParts) (past : List Telling) (present : Telling) → AreNumberedFrom before (accounts (earlier ++ last ∷ [])) →
      TellEpochs (earlier ++ last ∷ []) (past ++ present ∷ []) → last.epoch ≡ present.epoch → TellEpoch last present
  last_tells_from before [] last [] present are tell same = tell.0
  last_tells_from before [] last (first ∷ past) present are tell same = absurd (none_told past present tell.1)
  last_tells_from before (one ∷ earlier) last [] present are tell same =
      absurd (let next = are.0 in let more = below_last (before + 1) earlier last are.2 in let number = tell.0.epoch in omega (arith, next, more, number, same))
  last_tells_from before (one ∷ earlier) last (first ∷ past) present are tell same = last_tells_from (before + 1) earlier last past present are.2 tell.1 same

  -- the last epoch of a numbered slot reported what was reported last
  last_tells : (one : SlotAccount) (earlier : List EpochParts) (last : EpochParts) (past : List Telling) (present : Telling) → AreNumbered one → one.epochs ≡ accounts (earlier ++ last ∷ []) →
      TellEpochs (earlier ++ last ∷ []) (past ++ present ∷ []) → last.epoch ≡ present.epoch → TellEpoch last present
  last_tells one [] last [] present numbered are tell same = tell.0
  last_tells one [] last (first ∷ past) present numbered are tell same = absurd (none_told past present tell.1)
  last_tells one (begun ∷ earlier) last past present numbered are tell same = by_past past tell
    where
      parts_are : numbered.first ∷ numbered.later ≡ epoch_account place_of begun ∷ accounts (earlier ++ last ∷ [])
      parts_are = sym numbered.epochs_are ∙ are

      first_is : numbered.first ≡ epoch_account place_of begun
      first_is = let q : numbered.first ∷ numbered.later ≡ epoch_account place_of begun ∷ accounts (earlier ++ last ∷ []) = parts_are in cc

      later_is : numbered.later ≡ accounts (earlier ++ last ∷ [])
      later_is = let q : numbered.first ∷ numbered.later ≡ epoch_account place_of begun ∷ accounts (earlier ++ last ∷ []) = parts_are in cc

      from : AreNumberedFrom one.following.epoch (accounts (earlier ++ last ∷ []))
      from = subst (AreNumberedFrom one.following.epoch) later_is numbered.numbered

      number : begun.epoch ≡ one.following.epoch
      number = ap (λ (e : EpochAccount). e.epoch) (sym first_is) ∙ numbered.first_epoch

      by_past : (past : List Telling) → TellEpochs (begun ∷ (earlier ++ last ∷ [])) (past ++ present ∷ []) → TellEpoch last present
      by_past [] tells = absurd (let more = below_last one.following.epoch earlier last from in let its = tells.0.epoch in omega (arith, number, more, its, same))
      by_past (first ∷ past) tells = last_tells_from one.following.epoch earlier last past present from tells.1 same

-- ---- of a file whose last tail rests

last_is_opening : (run : Run) (first : Opened) (one : Opening) (so_far : History) (later : List Opening) → IsOpeningOf run first one → AreReopened run first one so_far later →
    IsOpeningOf run first (last_of one later)
last_is_opening run first one so_far [] is are = is
last_is_opening run first one so_far (next ∷ later) is are = last_is_opening run first next (told_both so_far next.history) later are.0.is are.1

-- the first parts of an epoch tell up to where the last one begins
before_ends : (place : ℕ) (before : List Part) (part : Part) → GoOnWithin place (before ++ part ∷ []) → last_end place (spans_of (told_in before)) ≡ part.segment.place
before_ends place [] part on = sym on.0
before_ends place (first ∷ before) part on =
    last_end_on place first.told (told_in before)
    ∙ ap (λ (n : ℕ). last_end (last_end n (spans_of first.told)) (spans_of (told_in before))) (sym on.0)
    ∙ before_ends (part_told_to first) before part on.1

partition_front : (lines : LineRule) (rule : GroupRule) (licensed : ℕ → Type 0) (life : List ℕ) (start : ℕ) (told more : List ToldEvent) →
    IsPartition lines rule licensed life start (spans_of (told ++ more)) → IsPartition lines rule licensed life start (spans_of told)
partition_front lines rule licensed life start [] more are = tt
partition_front lines rule licensed life start (one ∷ told) more are = (are.0, are.1, partition_front lines rule licensed life one.span.end told more are.2)

module _ (run : Run) (placed : Parcel → Option Place) (file : Filed) (is : IsFollowedFile run file) (rests : MayReopenAt (last_opening file).history.stage) where
  abbrev last : Opening
  last = last_opening file

  abbrev rule : GroupRule
  rule = file.opened.rule.multiline

  abbrev place_of : ℕ → ToldEvent → Option Place
  place_of = place_in placed file.opened.begin.slot

  abbrev epoch : ℕ
  epoch = (begun_in file).epoch

  abbrev base : ℕ
  base = (begun_in file).base

  abbrev joined : History
  joined = (joined_turned (record { slot = file.opened.begin.slot; history = last.history })).history

  is_last : IsOpeningOf run file.opened last
  is_last = last_is_opening run file.opened (first_opening file) file.turned.history file.later (first_is_opening run file is) is.reopened

  pub exact : IsReadExactly joined (joined_opened last.opened) last.looks
  exact = reads_exactly run file.opened last is_last rests

  abbrev part : Part
  part = part_of last.opened.opening rule last.history.present exact.last

  all_parts : (some : List Part) × (parts_told file ≡ some ++ part ∷ [])
  all_parts =
      let tail = last_parts rule (first_opening file) file.later in
      let own = parts_end last.opened.opening rule 0 last.history.past last.history.present exact.front exact.last (as_many joined last.opened.file last.history.past exact.front exact.past) in (
        tail.0 ++ own.0,
        tail.1
            ∙ ap (λ (l : List Part). tail.0 ++ l) (ap (parts_of last.opened.opening rule 0 (tellings_in last.history)) exact.segments ∙ own.1)
            ∙ sym (append_assoc tail.0 own.0 (part ∷ [])),
      )

  pub ends : EndsWith part (epochs_of epoch base (parts_told file))
  ends =
      let chained = are_chained run file.opened.begin.key epoch base (parts_told file) (tails_follow run file.opened.begin.key rule epoch base (tails_in file) (file_goes_on run file is)) in
      subst (λ (l : List Part). EndsWith part (epochs_of epoch base l)) (sym all_parts.1) (epochs_end epoch base all_parts.0 part (subst (AreChained epoch base) all_parts.1 chained))

  -- the last epoch of its account
  abbrev pub last_epoch : EpochAccount
  last_epoch = epoch_account place_of ends.one

  abbrev pub earlier_epochs : List EpochAccount
  earlier_epochs = map (epoch_account place_of) ends.earlier

  pub epochs_are : (account_of placed file).epochs ≡ earlier_epochs ++ last_epoch ∷ []
  epochs_are = ap (map (epoch_account place_of)) ends.epochs_are ∙ map-append (epoch_account place_of) ends.earlier (ends.one ∷ [])

  numbered : AreNumbered (account_of placed file)
  numbered = (slot_has_epochs run placed file is).numbered

  tells : TellEpoch ends.one (last_told file)
  tells =
      last_tells place_of (account_of placed file) ends.earlier ends.one (turned_in file).history.past (last_told file) numbered (ap (map (epoch_account place_of)) ends.epochs_are)
      (subst (λ (l : List EpochParts). TellEpochs l (tellings_in (turned_in file).history)) ends.epochs_are (is_filed run file is).tell)
      (ends.epoch_is ∙ sym (all_so_far run file is).epoch_is)

  pub last_found : epoch_at (last_told file).epoch (account_of placed file).epochs ≡ Some last_epoch
  last_found =
      subst (λ (n : ℕ). epoch_at n (account_of placed file).epochs ≡ Some last_epoch) tells.epoch
      (last_is_found (account_of placed file) earlier_epochs last_epoch numbered epochs_are)

  events_are : events_of last_epoch.told ≡ told_in ends.one.parts
  events_are = events_back place_of 0 (place_of ends.one.epoch) ends.one.parts

  -- all that was reported of it ends where a Forget says
  pub ends_at : next_place last_epoch ≡ told_to (last_told file)
  ends_at =
      ap (last_end ends.one.start) (spans_back last_epoch.told ∙ ap spans_of (events_are ∙ tells.told))
      ∙ ap (λ (n : ℕ). last_end n (spans_of (last_told file).told)) tells.start

  -- ---- the last complete line

  abbrev the_end : ℕ
  the_end = read_to last.history.present

  segment_place : last_end ends.one.start (spans_of (told_in ends.before)) ≡ exact.last.place
  segment_place = before_ends ends.one.start ends.before part (subst (GoOnWithin ends.one.start) ends.parts_are ends.on)

  told_parts : told_in ends.one.parts ≡ told_in ends.before ++ told_in (part ∷ [])
  told_parts = ap told_in ends.parts_are ∙ flat_map_both (λ (one : Part). one.told) ends.before (part ∷ [])

  lines_are : joined.rule.lines ≡ file.opened.rule.lines
  lines_are = ap (λ (r : InputRule). r.lines) (is_last.told.history.rule ∙ is_last.same_rule)

  same_some : {A : Type 0} (x y : A) → Some x ≡ Some y → x ≡ y
  same_some x y same = cc

  module _ (premises : SlotPremises run (following_of file)) where
    abbrev life : List ℕ
    life = life_of file.opened.file last_epoch.life

    -- lines are counted as from where the last tail began
    same_lines : whole_lines_end file.opened.rule.lines life ends.one.start the_end ≡ whole_lines_end file.opened.rule.lines life exact.last.place the_end
    same_lines = by_case (last_of_each (IsEpochTold run (rules_of file.opened.rule run.settings.processors) (account_of placed file)) earlier_epochs last_epoch
        (subst (AllByRecursion (IsEpochTold run (rules_of file.opened.rule run.settings.processors) (account_of placed file))) epochs_are (epochs_told run placed file is premises)))
      where
        within : last_end ends.one.start (spans_of (told_in ends.before)) ≤ the_end
        within = let place = segment_place in let start = exact.present.place in omega (arith, place, start)

        of_front : (licensed : ℕ → Type 0) → IsPartition file.opened.rule.lines rule licensed life ends.one.start (spans_of (told_in ends.before)) →
            whole_lines_end file.opened.rule.lines life ends.one.start the_end ≡ whole_lines_end file.opened.rule.lines life exact.last.place the_end
        of_front licensed are =
            same_whole_end file.opened.rule.lines rule licensed life ends.one.start the_end (spans_of (told_in ends.before)) are within
            ∙ ap (λ (n : ℕ). whole_lines_end file.opened.rule.lines life n the_end) segment_place

        by_case : IsEpochTold run (rules_of file.opened.rule run.settings.processors) (account_of placed file) last_epoch →
            whole_lines_end file.opened.rule.lines life ends.one.start the_end ≡ whole_lines_end file.opened.rule.lines life exact.last.place the_end
        by_case (inl none) =
            let front = no_front (told_in ends.before) (told_in (part ∷ [])) (sym (ap events_of none) ∙ events_are ∙ told_parts) in
            of_front (λ place. Unit {0}) (subst (λ (l : List ToldEvent). IsPartition file.opened.rule.lines rule (λ place. Unit {0}) life ends.one.start (spans_of l)) (sym front) tt)
        by_case (inr told) =
            let same : file.opened.file ≡ told.file = same_some file.opened.file told.file (sym is.file_is ∙ told.file_is) in
            let all : IsPartition file.opened.rule.lines rule (λ place. Contains last_epoch.licences place) life ends.one.start (spans_of (told_in ends.before ++ told_in (part ∷ []))) =
            subst (λ (l : List ToldEvent). IsPartition file.opened.rule.lines rule (λ place. Contains last_epoch.licences place) life ends.one.start (spans_of l)) (events_are ∙ told_parts)
            (subst (λ (f : File). IsPartition file.opened.rule.lines rule (λ place. Contains last_epoch.licences place) (life_of f last_epoch.life) ends.one.start (spans_of (events_of last_epoch.told))) (sym same)
            told.told.partition) in
            of_front (λ place. Contains last_epoch.licences place)
            (partition_front file.opened.rule.lines rule (λ place. Contains last_epoch.licences place) life ends.one.start (told_in ends.before) (told_in (part ∷ [])) all)

    -- what was reported ends there, as its end look found it
    told_to_the_end : left_to_tell last.history ≡ [] → next_place last_epoch ≡ whole_lines_end file.opened.rule.lines life ends.one.start the_end
    told_to_the_end all_told =
        let seen = premises.truncations in
        let behind = last_segments (first_opening file) file.later in
        let segments : flat_map segments_by_tail (following_of file).tails ≡ (behind.0 ++ exact.front) ++ exact.last ∷ [] =
        behind.1 ∙ ap (λ (l : List Segment). behind.0 ++ l) exact.segments ∙ sym (append_assoc behind.0 exact.front (exact.last ∷ [])) in
        let reads = tails_read file.opened.file seen.last_read (following_of file).tails (tails_looked run placed file is premises) seen.seen in
        let some = last_reads file.opened.file seen.last_read (behind.0 ++ exact.front) exact.last [] (subst (EachReadsLife file.opened.file seen.last_read) segments reads) in
        let read = subst (λ (f : File). IsReadBy joined f joined.present exact.last) (same_last_file run placed file is premises) exact.present in
        let there = ends_there joined file.opened.file ends.before part
        (subst (λ (r : InputRule). IsGroupRule r.multiline) (sym (is_last.told.history.rule ∙ is_last.same_rule)) is.in_range)
        (last_of_each (IsTelling (rules_in last.history)) last.history.past last.history.present is_last.told.epochs) all_told read some in
        ends_at ∙ (all_so_far run file is).place_is ∙ sym there
        ∙ (λ k. whole_lines_end (lines_are k) (life_of file.opened.file (life_by (sym ends.parts_are k))) (sym exact.present.place k) the_end)
        ∙ sym same_lines

  -- ---- the row goes rightly

  module _ (wires : List WireTold) (settled : AllByRecursion (IsSettled wires) last_epoch.told) (removal : Removal) (by : WasRemovedBy run file removal) where
    read_and_settled : IsReadBehind run by.scan last → IsReadAndSettled run wires file.opened.rule by.scan (account_of placed file)
    read_and_settled behind =
        let ended = behind.ends in
        let keeps : has_lost_key last.history ≡ false = ap (λ (s : Stage). loses_key_at s last.history.rule.file_identity) ended.told.ended in
        let same : ended.last ≡ exact.last =
        same_end ended.before exact.front ended.last exact.last
        (sym ended.segments_are ∙ ap (segments_of last.opened.begin.base) (sym (all_kept joined last.looks keeps)) ∙ exact.segments) in
        let found = subst (λ (segment : Segment). (found : HasEndLook segment the_end) × (found.behind ≡ [])) same (ended.found, ended.nothing_behind) in
        record {
          earlier = earlier_epochs;
          epoch = last_epoch;
          epochs_are = epochs_are;
          before = map reading_of ends.before;
          reading = reading_of part;
          readings_are = ap (map reading_of) ends.parts_are ∙ map-append reading_of ends.before (part ∷ []);
          opened_before = behind.opened_before;
          place = the_end;
          found = found.0;
          nothing_behind = found.1;
          file = file.opened.file;
          file_is = is.file_is;
          settled = settled;
          all_told = λ premises. told_to_the_end premises ended.told.all_told;
        }

    pub done_rightly : HadNoOpenTail run by.scan (account_of placed file) ⊎ IsReadAndSettled run wires file.opened.rule by.scan (account_of placed file)
    done_rightly = by_case by.done
      where
        by_case : AllByRecursion (WasClosedBefore run by.scan) (following_of file).tails ⊎ IsReadBehind run by.scan last →
            HadNoOpenTail run by.scan (account_of placed file) ⊎ IsReadAndSettled run wires file.opened.rule by.scan (account_of placed file)
        by_case (inl closed) = inl closed
        by_case (inr behind) = inr (read_and_settled behind)

    abbrev pub removed_rightly : WasRemovedRightly run wires file.opened.rule (account_of placed file)
    removed_rightly = record {
      cleans = by.cleans;
      number = removal.hidden_by;
      scan = by.scan;
      scan_is = by.scan_is;
      since = by.since;
      whole = by.whole;
      hidden = by.not_shown;
      done = done_rightly;
    }
