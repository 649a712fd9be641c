-- A drained folder stays drained, and what made a row go rightly stays, as the run goes on.
use Rattle.std.proofs.Common.{◌≡◌, inl, inr, ⊎_elim, ℕ, zero, suc, ◌+◌, ◌-◌, ◌<◌, ◌≤◌, List, [], ◌∷◌, ◌++◌, length, max, drop, Option, Some, None, IfSome, refl, sym, ap, ◌∙◌, subst, arith, append_assoc}
use Rattle.std.specs.List.{AllByRecursion, Contains, slice_get}
use Rattle.std.proofs.lemmas.Option.{slice_get_within}
use Rattle.event_tree.specs.declared.input_rule.InputRule.{InputRule}
use Rattle.event_tree.specs.declared.line_rule.LineRule.{LineRule}
use Rattle.file_looks.proofs.Going.{end_look_stays}
use Rattle.file_looks.specs.Going.{GoesOn}
use Rattle.outside.specs.declared.history.Look.{Look}
use Rattle.outside.specs.declared.history.Shown.{Shown}
use Rattle.outside.specs.Files.{File, life_of}
use Rattle.outside.specs.Folders.{Closed, NotThere, Opened}
use Rattle.ship_core.proofs.Members.{first_there, later_there, none_there, there_cases}
use Rattle.ship_core.specs.CoveredEnd.{last_end}
use Rattle.told_events.specs.Licence.{whole_lines_end}
use Rattle.wire_base.specs.declared.row.Row.{Row}
use Rattle.kept_rows.specs.Account.{EpochAccount, FollowedTail, Reading, SlotAccount}
use Rattle.kept_rows.specs.Acknowledged.{WiresGoOn}
use Rattle.kept_rows.specs.Drained.{HasRow, IsChanged, IsDoneWith, IsDrained, IsOfNoOther, IsPassedOver, IsReadToItsEnd, NothingSupposed, WasOpenedWith}
use Rattle.file_identity.specs.AskedAgain.{HasOtherKey}
use Rattle.kept_rows.specs.Epochs.{next_place}
use Rattle.kept_rows.specs.Going.{AccountReadsOn, EpochReadsOn, EpochRests, EpochsGoOn, IsMadeFrom, ReadingsGoOn, RunGoesOn, SlotRests, TailGoesOn, TailsGoOn}
use Rattle.kept_rows.specs.Lost.{HadNoOpenTail, HeldBefore, IsReadAndSettled, WasClosedBefore, WasClosedBehind, WasInactiveRightly, WasPassedOverAsOld, WasRemovedRightly, moment_or_first}
use Rattle.kept_rows.specs.Run.{Asking, Run, Scan}
use Rattle.kept_rows.specs.Scans.{IsBehind, IsWhole, ShowsKey, moment_in}
use Rattle.kept_rows.specs.Telling.{opening_moment}
use Rattle.kept_rows.specs.Trace.{IsTail, WireTold}
use Rattle.kept_rows.proofs.Growing.{all_on, epoch_on}
use Rattle.kept_rows.proofs.Showing.{all_behind, asked_well, asks_stays, both, entry_stays, event_stays, entry_was, first_path_stays, gave_stays, gone_stays, hidden_stays, rule_was, scan_stays, shows_file_stays, shows_to_stays, tail_stays, whole_stays}

-- ---- slots, epochs, readings and tails

keeps_epoch : (a b : EpochAccount) → EpochReadsOn a b → b.epoch ≡ a.epoch
keeps_epoch a b on = on.goes_on.same_epoch

record ReadOnReading (before : Reading) (readings : List Reading) : Type 0 where
  now : Reading
  there : Contains readings now
  on : GoesOn before.segment now.segment

reading_on : (before now : List Reading) (one : Reading) → ReadingsGoOn before now → Contains before one → ReadOnReading one now
reading_on [] now one on there = absurd (none_there one there)
reading_on (first ∷ before) [] one on there = absurd on
reading_on (first ∷ before) (grown ∷ now) one on there = elim (there_cases first one before there) [
  | inl same ↦ record { now = grown; there = first_there grown now; on = subst (λ (r : Reading). GoesOn r.segment grown.segment) same on.1 }
  | inr later ↦
      let found = reading_on before now one on.2 later in
      record { now = found.now; there = later_there grown found.now now found.there; on = found.on }
]

record ReadOnTail (before : FollowedTail) (tails : List FollowedTail) : Type 0 where
  now : FollowedTail
  there : Contains tails now
  on : TailGoesOn before now

tail_on : (before now : List FollowedTail) (one : FollowedTail) → TailsGoOn before now → Contains before one → ReadOnTail one now
tail_on [] now one on there = absurd (none_there one there)
tail_on (first ∷ before) [] one on there = absurd on
tail_on (first ∷ before) (grown ∷ now) one on there = elim (there_cases first one before there) [
  | inl same ↦ record { now = grown; there = first_there grown now; on = subst (λ (t : FollowedTail). TailGoesOn t grown) same on.0 }
  | inr later ↦
      let found = tail_on before now one on.1 later in
      record { now = found.now; there = later_there grown found.now now found.there; on = found.on }
]

-- ---- drained

-- the opening of some earlier event was not made for another input by a later scan
none_by_later : (input opening least : ℕ) → opening < least → (askings : List Asking) → AllByRecursion (λ asking. IfSome asking.opening (λ other. least ≤ other)) askings →
    AllByRecursion (λ asking. asking.opening ≡ Some opening → asking.input ≡ input) askings
none_by_later input opening least less [] later = tt
none_by_later input opening least less (asking ∷ askings) later =
    (λ is. let at : least ≤ opening = subst (λ (o : Option ℕ). IfSome o (λ other. least ≤ other)) is later.0 in absurd (omega (arith, at, less)), none_by_later input opening least less askings later.1)

none_by_scans : (input opening least : ℕ) → opening < least → (scans : List Scan) → AllByRecursion (IsMadeFrom least) scans →
    AllByRecursion (λ scan. AllByRecursion (λ asking. asking.opening ≡ Some opening → asking.input ≡ input) scan.askings) scans
none_by_scans input opening least less [] later = tt
none_by_scans input opening least less (scan ∷ scans) later = (none_by_later input opening least less scan.askings later.0.asked, none_by_scans input opening least less scans later.1)

no_other_stays : (before now : Run) (input opening : ℕ) → RunGoesOn before now → opening < length before.trace.events → IsOfNoOther before input opening → IsOfNoOther now input opening
no_other_stays before now input opening on within none =
    let P : Scan → Type 0 = λ scan. AllByRecursion (λ asking. asking.opening ≡ Some opening → asking.input ≡ input) scan.askings in
    subst (λ (l : List Scan). AllByRecursion P l) (sym on.scans)
    (both P before.scans on.more_scans none (none_by_scans input opening (length before.trace.events) within on.more_scans on.made_later))

opened_with_stays : (before now : Run) (rule : InputRule) (scan : Scan) (input : ℕ) (path : List ℕ) (key : Option (List ℕ)) → RunGoesOn before now → WasOpenedWith before rule scan input path key →
    WasOpenedWith now rule scan input path key
opened_with_stays before now rule scan input path key on opened =
    let tail = tail_stays before.trace now.trace opened.opening path opened.number opened.looks on.trace opened.tail in
    record {
      opening = opened.opening;
      since = opened.since;
      of_input = no_other_stays before now input opened.opening on
          (slice_get_within before.trace.events opened.opening (Opened path opened.number opened.tail.begun) opened.tail.opened) opened.of_input;
      number = opened.number;
      looks = opened.looks ++ tail.0;
      tail = tail.1;
      file = opened.file;
      file_is = ap (λ (l : List File). slice_get l opened.number) on.trace.same_files ∙ opened.file_is;
      asked = opened.asked;
      behind = opened.behind ++ tail.0;
      looks_are = ap (λ (l : List Look). l ++ tail.0) opened.looks_are ∙ append_assoc opened.asked opened.behind tail.0;
      asking = opened.asking;
      gave = opened.gave;
    }

passed_over_stays : (before now : Run) (rule : InputRule) (scan : Scan) (shown : Shown) (input : ℕ) → RunGoesOn before now → IsWhole before scan →
    slice_get before.settings.inputs input ≡ Some rule → IsPassedOver before rule scan shown input → IsPassedOver now rule scan shown input
passed_over_stays before now rule scan shown input on whole rule_is (inl doubled) = inl (record {
  key = doubled.key;
  number = doubled.number;
  shows = shows_to_stays before now scan input doubled.key doubled.number shown on whole doubled.shows;
  other = doubled.other;
  earlier = doubled.earlier;
  shows_earlier = shows_file_stays before now scan doubled.key doubled.other doubled.earlier on whole doubled.shows_earlier;
  before = doubled.before;
})
passed_over_stays before now rule scan shown input on whole rule_is (inr (inl old)) = inr (inl old)
passed_over_stays before now rule scan shown input on whole rule_is (inr (inr (inl gone))) =
    inr (inr (inl (record {
      opening = gone.opening;
      since = gone.since;
      of_input = no_other_stays before now input gone.opening on (slice_get_within before.trace.events gone.opening (NotThere shown.entry.path) gone.was.not_there) gone.of_input;
      was = gone_stays before.trace now.trace gone.opening shown.entry.path on.trace gone.was;
    })))
passed_over_stays before now rule scan shown input on whole rule_is (inr (inr (inr (inl moved)))) = inr (inr (inr (inl (record {
  key = moved.key;
  number = moved.number;
  shows = shows_to_stays before now scan input moved.key moved.number shown on whole moved.shows;
  other = moved.other;
  opened = opened_with_stays before now rule scan input shown.entry.path (Some moved.other) on moved.opened;
  other_key = moved.other_key;
}))))
passed_over_stays before now rule scan shown input on whole rule_is (inr (inr (inr (inr small)))) = inr (inr (inr (inr (record {
  by_bytes = small.by_bytes;
  gave_none = ⊎_elim (λ none. inl (record {
    asking = none.asking;
    asks = asks_stays before now scan shown input none.asking on whole none.asks;
    number = none.number;
    gave = gave_stays before.trace now.trace rule shown none.asking.opening None none.number on.trace
        (asked_well before scan shown input none.asking rule whole none.asks rule_is) none.gave;
  })) (λ opened. inr (opened_with_stays before now rule scan input shown.entry.path None on opened)) small.gave_none;
}))))

other_key_stays : (rule : InputRule) (key path : List ℕ) (file : File) (looks more : List Look) → HasOtherKey rule key path file looks → HasOtherKey rule key path file (looks ++ more)
other_key_stays rule key path file looks more has = record {
  before = has.before;
  asked = has.asked;
  behind = has.behind ++ more;
  looks_are = ap (λ (l : List Look). l ++ more) has.looks_are ∙ append_assoc has.before (has.asked ++ has.behind) more
      ∙ ap (λ (l : List Look). has.before ++ l) (append_assoc has.asked has.behind more);
  cut = has.cut;
  asking = has.asking;
  other = has.other;
}

changed_stays : (before now : Run) (rule : InputRule) (account later : List SlotAccount) (scan : Scan) (shown : Shown) (input : ℕ) → RunGoesOn before now → AccountReadsOn account later →
    IsWhole before scan → IsChanged before rule account scan shown input → IsChanged now rule later scan shown input
changed_stays before now rule account later scan shown input on reads whole changed =
    let one = reads changed.slot changed.one changed.slot_is in
    let tail = tail_on changed.one.following.tails one.now.following.tails changed.tail one.on.tails changed.of_slot in
    let told = tail_stays before.trace now.trace changed.tail.opening changed.path changed.one.number (changed.tail.looks ++ changed.fall ∷ changed.later) on.trace changed.told in
    let lost = tail.on.lost changed.lost in
    let looks_are : (changed.tail.looks ++ changed.fall ∷ changed.later) ++ told.0 ≡ tail.now.looks ++ changed.fall ∷ (changed.later ++ told.0) =
    append_assoc changed.tail.looks (changed.fall ∷ changed.later) told.0 ∙ ap (λ (l : List Look). l ++ changed.fall ∷ (changed.later ++ told.0)) (sym lost.1) in
    let as_now = subst (λ (l : List Look). IsTail now.trace changed.tail.opening changed.path changed.one.number l) looks_are told.1 in
    let by_opening = subst (λ (n : ℕ). IsTail now.trace n changed.path changed.one.number (tail.now.looks ++ changed.fall ∷ (changed.later ++ told.0))) (sym tail.on.same_opening) as_now in
    record {
      key = changed.key;
      number = changed.number;
      shows = shows_to_stays before now scan input changed.key changed.number shown on whole changed.shows;
      slot = changed.slot;
      one = one.now;
      slot_is = one.is;
      key_is = one.on.same_key ∙ changed.key_is;
      tail = tail.now;
      of_slot = tail.there;
      lost = lost.0;
      path = changed.path;
      file = changed.file;
      file_is = ap (λ (l : List File). slice_get l one.now.number) on.trace.same_files ∙ ap (slice_get before.trace.files) one.on.same_number ∙ changed.file_is;
      fall = changed.fall;
      later = changed.later ++ told.0;
      told = subst (λ (n : ℕ). IsTail now.trace tail.now.opening changed.path n (tail.now.looks ++ changed.fall ∷ (changed.later ++ told.0))) (sym one.on.same_number) by_opening;
      other_key = other_key_stays rule changed.key changed.path changed.file changed.later told.0 changed.other_key;
    }

-- the end of the last whole line is the same of the same life
same_end : (before now : Run) (lines : LineRule) (one same : SlotAccount) (epoch grown : EpochAccount) (file : File) (place : ℕ) → EpochReadsOn epoch grown →
    whole_lines_end lines (life_of file grown.life) grown.start place ≡ whole_lines_end lines (life_of file epoch.life) epoch.start place
same_end before now lines one same epoch grown file place on =
    ap (λ (l : ℕ). whole_lines_end lines (life_of file l) grown.start place) on.same_life
    ∙ ap (λ (s : ℕ). whole_lines_end lines (life_of file epoch.life) s place) on.goes_on.same_start

row_stays : (before now : Run) (rule : InputRule) (account later : List SlotAccount) (row : Row) → RunGoesOn before now → AccountReadsOn account later →
    IsReadToItsEnd NothingSupposed before rule account row → IsReadToItsEnd NothingSupposed now rule later row
row_stays before now rule account later row on reads read =
    let one = reads read.slot read.one read.slot_is in
    let epoch = epoch_on EpochReadsOn keeps_epoch read.one.epochs one.now.epochs row.epoch.0 read.epoch one.on.epochs read.epoch_is in
    let reading = reading_on read.epoch.readings epoch.now.readings read.reading epoch.on.readings read.of_epoch in
    record {
      slot = read.slot;
      one = one.now;
      slot_is = one.is;
      key_is = one.on.same_key ∙ read.key_is;
      epoch = epoch.now;
      epoch_is = epoch.is;
      reading = reading.now;
      of_epoch = reading.there;
      place = read.place;
      found = end_look_stays read.reading.segment reading.now.segment read.place reading.on read.found;
      file = read.file;
      file_is = ap (λ (l : List File). slice_get l one.now.number) on.trace.same_files ∙ ap (slice_get before.trace.files) one.on.same_number ∙ read.file_is;
      offset_is = λ none. read.offset_is none ∙ sym (same_end before now rule.lines read.one one.now read.epoch epoch.now read.file read.place epoch.on);
    }

has_row_stays : (before now : Run) (rule : InputRule) (account later : List SlotAccount) (rows : List Row) (scan : Scan) (shown : Shown) (input : ℕ) → RunGoesOn before now →
    AccountReadsOn account later → IsWhole before scan → HasRow NothingSupposed before rule account rows scan shown input → HasRow NothingSupposed now rule later rows scan shown input
has_row_stays before now rule account later rows scan shown input on reads whole has = record {
  key = has.key;
  number = has.number;
  shows = shows_to_stays before now scan input has.key has.number shown on whole has.shows;
  row = has.row;
  of_rows = has.of_rows;
  key_is = has.key_is;
  listed = has.listed;
  lists = entry_stays before.trace now.trace scan has.listed on.trace has.lists;
  same_path = has.same_path;
  moment_is = has.moment_is ∙ ap (λ (opening : List Row). max (opening_moment opening has.key) (moment_in has.listed)) (sym on.same_opening);
  read = row_stays before now rule account later has.row on reads has.read;
}

done_with_stays : (before now : Run) (account later : List SlotAccount) (rows : List Row) (rule : InputRule) (scan : Scan) (shown : Shown) (input : ℕ) → RunGoesOn before now →
    AccountReadsOn account later → IsWhole before scan → slice_get before.settings.inputs input ≡ Some rule →
    IsDoneWith NothingSupposed before account rows rule scan shown input → IsDoneWith NothingSupposed now later rows rule scan shown input
done_with_stays before now account later rows rule scan shown input on reads whole rule_is (inl passed) = inl (passed_over_stays before now rule scan shown input on whole rule_is passed)
done_with_stays before now account later rows rule scan shown input on reads whole rule_is (inr (inl changed)) =
    inr (inl (changed_stays before now rule account later scan shown input on reads whole changed))
done_with_stays before now account later rows rule scan shown input on reads whole rule_is (inr (inr has)) =
    inr (inr (has_row_stays before now rule account later rows scan shown input on reads whole has))

pub stays_drained : (before now : Run) (account later : List SlotAccount) (rows : List Row) → RunGoesOn before now → AccountReadsOn account later →
    IsDrained before account rows → IsDrained now later rows
stays_drained before now account later rows on reads drained = record {
  scan = drained.scan;
  first = scan_stays before now 0 drained.scan on drained.first;
  whole = whole_stays before now drained.scan on drained.whole;
  each = λ shown input rule entry rule_is covered.
      let was = rule_was before now input rule on rule_is in
      done_with_stays before now account later rows rule drained.scan shown input on reads drained.whole was
      (drained.each shown input rule (entry_was before.trace now.trace drained.scan shown on.trace drained.whole.none_failed entry) was covered);
}

-- ---- rightly lost

none_open_stays : (before now : Run) (scan : Scan) (tails : List FollowedTail) → RunGoesOn before now → AllByRecursion (WasClosedBefore before scan) tails → AllByRecursion (WasClosedBefore now scan) tails
none_open_stays before now scan [] on none = tt
none_open_stays before now scan (tail ∷ tails) on none = (
  record {
    place = none.0.place;
    looks = none.0.looks;
    faults = none.0.faults;
    closed = event_stays before.trace now.trace none.0.place (Closed tail.opening none.0.looks none.0.faults) on.trace none.0.closed;
    since = none.0.since;
    before = none.0.before;
  },
  none_open_stays before now scan tails on none.1,
)

none_open : (before now : Run) (scan : Scan) (one same : SlotAccount) → RunGoesOn before now → SlotRests one same → HadNoOpenTail before scan one → HadNoOpenTail now scan same
none_open before now scan one same on rests none =
    subst (λ (l : List FollowedTail). AllByRecursion (WasClosedBefore now scan) l) (sym rests.same_tails) (none_open_stays before now scan one.following.tails on none)

all_dropped : {A : Type 0} (P : A → Type 0) (count : ℕ) (xs ys : List A) → AllByRecursion P (drop count xs) → AllByRecursion P ys → AllByRecursion P (drop count (xs ++ ys))
all_dropped P zero xs ys first second = both P xs ys first second
all_dropped P (suc count) [] ys first second = all_after P (suc count) ys second
  where
    all_after : {A : Type 0} (P : A → Type 0) (count : ℕ) (ys : List A) → AllByRecursion P ys → AllByRecursion P (drop count ys)
    all_after P zero ys all = all
    all_after P (suc count) [] all = tt
    all_after P (suc count) (y ∷ ys) all = all_after P count ys all.1
all_dropped P (suc count) (x ∷ xs) ys first second = all_dropped P count xs ys first second

none_open_behind_stays : (before now : Run) (number : ℕ) (tails : List FollowedTail) → RunGoesOn before now → AllByRecursion (WasClosedBehind before number) tails → AllByRecursion (WasClosedBehind now number) tails
none_open_behind_stays before now number [] on none = tt
none_open_behind_stays before now number (tail ∷ tails) on none =
    let event = Closed tail.opening none.0.looks none.0.faults in
    let within = slice_get_within before.trace.events none.0.place event none.0.closed in (
      record {
        place = none.0.place;
        looks = none.0.looks;
        faults = none.0.faults;
        closed = event_stays before.trace now.trace none.0.place event on.trace none.0.closed;
        since = none.0.since;
        before = subst (λ (l : List Scan). AllByRecursion (IsBehind none.0.place) (drop (number + 1) l)) (sym on.scans)
            (all_dropped (IsBehind none.0.place) (number + 1) before.scans on.more_scans none.0.before
            (all_behind none.0.place (length before.trace.events) within on.more_scans on.made_later));
      },
      none_open_behind_stays before now number tails on none.1,
    )

-- the last epoch stays the last
record LastEpoch (before : EpochAccount) (epochs : List EpochAccount) : Type 0 where
  earlier : List EpochAccount
  now : EpochAccount
  are : epochs ≡ earlier ++ now ∷ []
  on : EpochRests before now

last_on : (earlier : List EpochAccount) (last : EpochAccount) (now : List EpochAccount) → EpochsGoOn EpochRests (earlier ++ last ∷ []) now → length now ≡ length (earlier ++ last ∷ []) → LastEpoch last now
last_on [] last [] on same = absurd on
last_on [] last (grown ∷ []) on same = record { earlier = []; now = grown; are = refl; on = on.0 }
last_on [] last (grown ∷ more ∷ now) on same = absurd (omega (arith, same))
last_on (first ∷ earlier) last [] on same = absurd on
last_on (first ∷ earlier) last (grown ∷ now) on same =
    let later = last_on earlier last now on.1 (omega (arith, same)) in
    record { earlier = grown ∷ later.earlier; now = later.now; are = ap (λ (l : List EpochAccount). grown ∷ l) later.are; on = later.on }

settled_stays : (before now : Run) (wires later : List WireTold) (rule : InputRule) (scan : Scan) (one same : SlotAccount) → RunGoesOn before now → WiresGoOn wires later →
    SlotRests one same → HeldBefore before now one same → IsReadAndSettled before wires rule scan one → IsReadAndSettled now later rule scan same
settled_stays before now wires later rule scan one same on grow rests held read =
    let last = last_on read.earlier read.epoch same.epochs
    (subst (λ (l : List EpochAccount). EpochsGoOn EpochRests l same.epochs) read.epochs_are rests.epochs)
    (rests.same_epochs ∙ ap (λ (l : List EpochAccount). length l) read.epochs_are) in
    let end : whole_lines_end rule.lines (life_of read.file last.now.life) last.now.start read.place ≡ whole_lines_end rule.lines (life_of read.file read.epoch.life) read.epoch.start read.place =
    ap (λ (l : ℕ). whole_lines_end rule.lines (life_of read.file l) last.now.start read.place) last.on.same_life
    ∙ ap (λ (s : ℕ). whole_lines_end rule.lines (life_of read.file read.epoch.life) s read.place) last.on.goes_on.same_start in
    let all = all_on wires later read.epoch.told last.now.told grow last.on.goes_on.told last.on.as_many read.settled in
    let same_next : next_place last.now ≡ next_place read.epoch = λ k. last_end (last.on.goes_on.same_start k) (all.same_spans k) in
    record {
      earlier = last.earlier;
      epoch = last.now;
      epochs_are = last.are;
      before = read.before;
      reading = read.reading;
      readings_are = last.on.same_readings ∙ read.readings_are;
      opened_before = read.opened_before;
      place = read.place;
      found = read.found;
      nothing_behind = read.nothing_behind;
      file = read.file;
      file_is = ap (λ (l : List File). slice_get l same.number) on.trace.same_files ∙ ap (slice_get before.trace.files) rests.same_number ∙ read.file_is;
      settled = all.each;
      all_told = λ premises. same_next ∙ read.all_told (held premises) ∙ sym end;
    }

pub stays_removed : (before now : Run) (wires later : List WireTold) (rule : InputRule) (one same : SlotAccount) → RunGoesOn before now → WiresGoOn wires later →
    SlotRests one same → HeldBefore before now one same → WasRemovedRightly before wires rule one → WasRemovedRightly now later rule same
stays_removed before now wires later rule one same on grow rests held removed = record {
  cleans = removed.cleans;
  number = removed.number;
  scan = removed.scan;
  scan_is = scan_stays before now removed.number removed.scan on removed.scan_is;
  since = subst (λ (n : ℕ). n ≤ removed.number) (sym rests.same_scan) removed.since;
  whole = whole_stays before now removed.scan on removed.whole;
  hidden = subst (λ (k : List ℕ). ShowsKey now removed.scan k → ⊥) (sym rests.same_key)
      (hidden_stays before now removed.scan one.following.key on removed.whole removed.hidden);
  done = elim removed.done [
    | inl none ↦ inl (none_open before now removed.scan one same on rests none)
    | inr read ↦ inr (settled_stays before now wires later rule removed.scan one same on grow rests held read)
  ];
}

old_stays : (before now : Run) (rule : InputRule) (scan : Scan) (key : List ℕ) → RunGoesOn before now → IsWhole before scan → WasPassedOverAsOld before rule scan key → WasPassedOverAsOld now rule scan key
old_stays before now rule scan key on whole passed = record {
  number = passed.number;
  shown = passed.shown;
  shows = (passed.shows.0, shows_to_stays before now scan passed.shows.0 key passed.number passed.shown on whole passed.shows.1);
  first = first_path_stays before now scan key passed.number passed.shown.entry.path on whole passed.first;
  old = passed.old;
}

pub stays_inactive : (before now : Run) (rule : InputRule) (one same : SlotAccount) → RunGoesOn before now → SlotRests one same →
    WasInactiveRightly before rule one → WasInactiveRightly now rule same
stays_inactive before now rule one same on rests inactive = record {
  cleans = inactive.cleans;
  first = inactive.first;
  first_is = scan_stays before now 0 inactive.first on inactive.first_is;
  number = inactive.number;
  scan = inactive.scan;
  scan_is = scan_stays before now inactive.number inactive.scan on inactive.scan_is;
  since = subst (λ (n : ℕ). n ≤ inactive.number) (sym rests.same_scan) inactive.since;
  whole = whole_stays before now inactive.scan on inactive.whole;
  none_open = subst (λ (l : List FollowedTail). AllByRecursion (WasClosedBehind now inactive.number) l) (sym rests.same_tails)
      (none_open_behind_stays before now inactive.number one.following.tails on inactive.none_open);
  long_ago = subst (λ (m : ℕ). rule.clean_inactive ≤ inactive.scan.moment - moment_or_first m inactive.first) (sym rests.same_moment) inactive.long_ago;
  hidden_or_old = elim inactive.hidden_or_old [
    | inl hidden ↦ inl (subst (λ (k : List ℕ). ShowsKey now inactive.scan k → ⊥) (sym rests.same_key)
        (hidden_stays before now inactive.scan one.following.key on inactive.whole hidden))
    | inr old ↦ inr (subst (WasPassedOverAsOld now rule inactive.scan) (sym rests.same_key) (old_stays before now rule inactive.scan one.following.key on inactive.whole old))
  ];
}
