-- What scans show stays as the run goes on.
use Rattle.std.proofs.Common.{◌≡◌, inl, inr, ℕ, zero, suc, ◌<◌, ◌≤◌, drop, List, [], ◌∷◌, ◌++◌, length, Option, Some, None, option_map, sym, ap, ◌∙◌, subst, arith, append_assoc}
use Rattle.std.specs.List.{AllByRecursion, Contains, slice_get}
use Rattle.std.proofs.lemmas.List.Elements.{All-contains, All-from_recursion}
use Rattle.std.proofs.lemmas.Option.{slice_get_within}
use Rattle.event_tree.specs.declared.input_rule.IdentityRule.{IdentityRule}
use Rattle.event_tree.specs.declared.input_rule.InputRule.{InputRule}
use Rattle.event_tree.specs.declared.settings.Settings.{Settings}
use Rattle.file_identity.specs.Asking.{given_key}
use Rattle.outside.specs.declared.history.Look.{Look}
use Rattle.outside.specs.declared.history.Shown.{Shown}
use Rattle.outside.specs.Files.{File}
use Rattle.outside.specs.Folders.{Event, Listed, Opened, NotThere}
use Rattle.kept_rows.specs.Going.{IsMadeFrom, RunGoesOn, TraceGoesOn}
use Rattle.kept_rows.specs.Run.{Asking, Run, Scan}
use Rattle.kept_rows.specs.Scans.{AsksFor, Gave, IsAskedIn, IsBehind, IsFirstPath, IsGoodListing, IsWhole, MetNoFault, ShowsEntry, ShowsFile, ShowsFileTo, ShowsKey, WasAskedByTail, WasAskedWell, globs_in}
use Rattle.kept_rows.specs.Trace.{Closing, IsTail, Trace, WasGone, closing_by, closing_in, closing_of, first_of_two, looks_of, open_looks_in}
use Rattle.kept_rows.proofs.Acknowledging.{got_in_front}

-- ---- lists

pub each_on : {A : Type 0} (P Q : A → Type 0) → ((x : A) → P x → Q x) → (xs : List A) → AllByRecursion P xs → AllByRecursion Q xs
each_on P Q on [] all = tt
each_on P Q on (x ∷ xs) all = (on x all.0, each_on P Q on xs all.1)

pub both : {A : Type 0} (P : A → Type 0) (xs ys : List A) → AllByRecursion P xs → AllByRecursion P ys → AllByRecursion P (xs ++ ys)
both P [] ys first second = second
both P (x ∷ xs) ys first second = (first.0, both P xs ys first.1 second)

-- ---- events

pub event_stays : (before now : Trace) (place : ℕ) (event : Event) → TraceGoesOn before now → slice_get before.events place ≡ Some event → slice_get now.events place ≡ Some event
event_stays before now place event on is = ap (λ (l : List Event). slice_get l place) on.events ∙ got_in_front before.events on.more_events place event is

-- what is at a place that was there before was there before
event_was : (before now : Trace) (place : ℕ) (old event : Event) → TraceGoesOn before now → slice_get before.events place ≡ Some old → slice_get now.events place ≡ Some event → event ≡ old
event_was before now place old event on was is =
    let q : Some event ≡ Some old = sym is ∙ event_stays before now place old on was in
    cc

closing_stays : (opening : ℕ) (events more : List Event) (closing : Closing) → closing_in opening events ≡ Some closing → closing_in opening (events ++ more) ≡ Some closing
closing_stays opening [] more closing is = absurd (let q : None ≡ Some closing = is in cc)
closing_stays opening (event ∷ events) more closing is = go (closing_by opening event) is (λ e. closing_stays opening events more closing e)
  where
    go : (o : Option Closing) → first_of_two o (closing_in opening events) ≡ Some closing →
        (closing_in opening events ≡ Some closing → closing_in opening (events ++ more) ≡ Some closing) → first_of_two o (closing_in opening (events ++ more)) ≡ Some closing
    go None e again = again e
    go (Some first) e again = e

-- after this many of them, too
closing_stays_behind : (count opening : ℕ) (events more : List Event) (closing : Closing) → closing_in opening (drop count events) ≡ Some closing → closing_in opening (drop count (events ++ more)) ≡ Some closing
closing_stays_behind zero opening events more closing is = closing_stays opening events more closing is
closing_stays_behind (suc count) opening [] more closing is = absurd (let q : None ≡ Some closing = is in cc)
closing_stays_behind (suc count) opening (event ∷ events) more closing is = closing_stays_behind count opening events more closing is

closed_stays : (before now : Trace) (opening : ℕ) (closing : Closing) → TraceGoesOn before now → closing_of before opening ≡ Some closing → closing_of now opening ≡ Some closing
closed_stays before now opening closing on is =
    ap (λ (l : List Event). closing_in opening (drop (suc opening) l)) on.events ∙ closing_stays_behind (suc opening) opening before.events on.more_events closing is

-- the looks of a closed tail are those of its closing
closed_looks : (trace : Trace) (opening : ℕ) (closing : Closing) → closing_of trace opening ≡ Some closing → looks_of trace opening ≡ Some closing.looks
closed_looks trace opening closing is =
    ap (λ (o : Option Closing). first_of_two (option_map (λ (c : Closing). c.looks) o) (open_looks_in opening trace.open_tails)) is

-- ---- entries

pub entry_stays : (before now : Trace) (scan : Scan) (shown : Shown) → TraceGoesOn before now → ShowsEntry before scan shown → ShowsEntry now scan shown
entry_stays before now scan shown on entry = record {
  listing = entry.listing;
  of_scan = entry.of_scan;
  root = entry.root;
  depth = entry.depth;
  entries = entry.entries;
  listed = event_stays before now entry.listing (Listed entry.root entry.depth entry.entries) on entry.listed;
  among = entry.among;
}

entries_of : Event → List Shown
entries_of (Listed root depth shown) = shown
entries_of _ = []

-- a scan whose listings did not fail shows nothing further
pub entry_was : (before now : Trace) (scan : Scan) (shown : Shown) → TraceGoesOn before now → AllByRecursion (IsGoodListing before) scan.listings → ShowsEntry now scan shown → ShowsEntry before scan shown
unfolding entries_of
entry_was before now scan shown on good entry =
    let was = All-contains (IsGoodListing before) scan.listings entry.listing (All-from_recursion (IsGoodListing before) scan.listings good) entry.of_scan in
    let same = event_was before now entry.listing (Listed was.root was.depth was.entries) (Listed entry.root entry.depth entry.entries) on was.listed entry.listed in
    record {
      listing = entry.listing;
      of_scan = entry.of_scan;
      root = was.root;
      depth = was.depth;
      entries = was.entries;
      listed = was.listed;
      among = subst (λ (l : List Shown). Contains l shown) (ap entries_of same) entry.among;
    }

-- ---- tails

pub tail_stays : (before now : Trace) (opening : ℕ) (path : List ℕ) (number : ℕ) (looks : List Look) → TraceGoesOn before now → IsTail before opening path number looks →
    (more : List Look) × IsTail now opening path number (looks ++ more)
tail_stays before now opening path number looks on tail =
    let later = on.tails opening looks tail.tells in (
      later.0,
      record {
        in_this_run = subst (λ (n : ℕ). n ≤ opening) (sym on.same_begin) tail.in_this_run;
        begun = tail.begun;
        opened = event_stays before now opening (Opened path number tail.begun) on tail.opened;
        tells = later.1;
      },
    )

pub gone_stays : (before now : Trace) (opening : ℕ) (path : List ℕ) → TraceGoesOn before now → WasGone before opening path → WasGone now opening path
gone_stays before now opening path on gone = record {
  in_this_run = subst (λ (n : ℕ). n ≤ opening) (sym on.same_begin) gone.in_this_run;
  not_there = event_stays before now opening (NotThere path) on gone.not_there;
}

-- a tail that was asked and closed reports the same
asked_stays : (before now : Trace) (rule : IdentityRule) (path : List ℕ) (opening : ℕ) → TraceGoesOn before now → WasAskedByTail before rule path opening → WasAskedByTail now rule path opening
asked_stays before now rule path opening on asked =
    let closed = closed_stays before now opening (record { looks = asked.looks; faults = 0 }) on asked.closed in
    record {
      number = asked.number;
      looks = asked.looks;
      tail = record {
        in_this_run = subst (λ (n : ℕ). n ≤ opening) (sym on.same_begin) asked.tail.in_this_run;
        begun = asked.tail.begun;
        opened = event_stays before now opening (Opened path asked.number asked.tail.begun) on asked.tail.opened;
        tells = closed_looks now opening (record { looks = asked.looks; faults = 0 }) closed;
      };
      asking = asked.asking;
      closed = closed;
    }

no_fault_stays : (before now : Trace) (rule : IdentityRule) (path : List ℕ) (opening : Option ℕ) → TraceGoesOn before now → MetNoFault before rule path opening → MetNoFault now rule path opening
no_fault_stays before now rule path None on well = well
no_fault_stays before now rule path (Some opening) on (reads, inl asked) = (reads, inl (asked_stays before now rule path opening on asked))
no_fault_stays before now rule path (Some opening) on (reads, inr gone) = (reads, inr (gone_stays before now opening path on gone))

looks_in_common : (trace : Trace) (opening : ℕ) (first second : List Look) → looks_of trace opening ≡ Some first → looks_of trace opening ≡ Some second → first ≡ second
looks_in_common trace opening first second is also =
    let q : Some first ≡ Some second = sym is ∙ also in
    cc

-- ---- what an asking gave

pub gave_stays : (before now : Trace) (rule : InputRule) (shown : Shown) (opening : Option ℕ) (key : Option (List ℕ)) (number : ℕ) → TraceGoesOn before now →
    MetNoFault before rule.file_identity shown.entry.path opening → Gave before rule shown opening key number → Gave now rule shown opening key number
unfolding asked_stays
gave_stays before now rule shown None key number on well gave = gave
gave_stays before now rule shown (Some opening) key number on (reads, inr gone) gave =
    let q : Some (Opened shown.entry.path number gave.tail.begun) ≡ Some (NotThere shown.entry.path) = sym gave.tail.opened ∙ gone.not_there in
    absurd cc
gave_stays before now rule shown (Some opening) key number on (reads, inl asked) gave =
    let still = asked_stays before now rule.file_identity shown.entry.path opening on asked in
    let same = looks_in_common before opening gave.looks asked.looks gave.tail.tells asked.tail.tells in
    record {
      looks = gave.looks;
      file = gave.file;
      tail = record {
        in_this_run = still.tail.in_this_run;
        begun = gave.tail.begun;
        opened = event_stays before now opening (Opened shown.entry.path number gave.tail.begun) on gave.tail.opened;
        tells = still.tail.tells ∙ ap Some (sym same);
      };
      closed = closed_stays before now opening (record { looks = gave.looks; faults = 0 }) on gave.closed;
      file_is = ap (λ (l : List File). slice_get l number) on.same_files ∙ gave.file_is;
      asking = gave.asking;
      gave = gave.gave;
    }

number_of : Event → ℕ
number_of (Opened path number begun) = number
number_of _ = 0

pub gave_was : (before now : Trace) (rule : InputRule) (shown : Shown) (opening : Option ℕ) (key : Option (List ℕ)) (number : ℕ) → TraceGoesOn before now →
    MetNoFault before rule.file_identity shown.entry.path opening → Gave now rule shown opening key number → Gave before rule shown opening key number
unfolding number_of asked_stays
gave_was before now rule shown None key number on well gave = gave
gave_was before now rule shown (Some opening) key number on (reads, inr gone) gave =
    let q : Some (Opened shown.entry.path number gave.tail.begun) ≡ Some (NotThere shown.entry.path) =
    sym gave.tail.opened ∙ event_stays before now opening (NotThere shown.entry.path) on gone.not_there in
    absurd cc
gave_was before now rule shown (Some opening) key number on (reads, inl asked) gave =
    let still = asked_stays before now rule.file_identity shown.entry.path opening on asked in
    let same = looks_in_common now opening gave.looks asked.looks gave.tail.tells still.tail.tells in
    let event = event_was before now opening (Opened shown.entry.path asked.number asked.tail.begun) (Opened shown.entry.path number gave.tail.begun) on asked.tail.opened gave.tail.opened in
    let number_is : number ≡ asked.number = ap number_of event in
    record {
      looks = asked.looks;
      file = gave.file;
      tail = subst (λ (n : ℕ). IsTail before opening shown.entry.path n asked.looks) (sym number_is) asked.tail;
      closed = asked.closed;
      file_is = sym (ap (λ (l : List File). slice_get l number) on.same_files) ∙ gave.file_is;
      asking = asked.asking;
      gave = gave.gave ∙ ap (λ (l : List Look). given_key rule.id rule.file_identity shown.entry.path gave.file l) same;
    }

-- ---- what a whole scan shows

rule_stays : (before now : Run) (input : ℕ) (rule : InputRule) → RunGoesOn before now → slice_get before.settings.inputs input ≡ Some rule → slice_get now.settings.inputs input ≡ Some rule
rule_stays before now input rule on is = ap (λ (s : Settings). slice_get s.inputs input) on.same_settings ∙ is

pub rule_was : (before now : Run) (input : ℕ) (rule : InputRule) → RunGoesOn before now → slice_get now.settings.inputs input ≡ Some rule → slice_get before.settings.inputs input ≡ Some rule
rule_was before now input rule on is = sym (ap (λ (s : Settings). slice_get s.inputs input) on.same_settings) ∙ is

-- the asking of a whole scan
asking_of : (run : Run) (scan : Scan) (asking : Asking) → IsWhole run scan → Contains scan.askings asking → WasAskedWell run scan asking
asking_of run scan asking whole there =
    All-contains (WasAskedWell run scan) scan.askings asking (All-from_recursion (WasAskedWell run scan) scan.askings whole.none_faulty) there

-- its opening, if it has one, is in the list
stands_within : (trace : Trace) (rule : IdentityRule) (path : List ℕ) (opening : ℕ) → MetNoFault trace rule path (Some opening) → opening < length trace.events
stands_within trace rule path opening (reads, inl asked) = slice_get_within trace.events opening (Opened path asked.number asked.tail.begun) asked.tail.opened
stands_within trace rule path opening (reads, inr gone) = slice_get_within trace.events opening (NotThere path) gone.not_there

pub all_behind : (opening least : ℕ) → opening < least → (scans : List Scan) → AllByRecursion (IsMadeFrom least) scans → AllByRecursion (IsBehind opening) scans
all_behind opening least less [] all = tt
all_behind opening least less (scan ∷ scans) all =
    (each_on (λ (listing : ℕ). least ≤ listing) (λ (listing : ℕ). opening < listing) (λ listing at. omega (arith, less, at)) scan.listings all.0.listed, all_behind opening least less scans all.1)

asked_in_stays : (before now : Run) (scan : Scan) (asking : Asking) → RunGoesOn before now → WasAskedWell before scan asking → IsAskedIn now scan asking.opening
asked_in_stays before now scan asking on well = go asking.opening well.well well.asked_in
  where
    go : (opening : Option ℕ) → MetNoFault before.trace well.rule.file_identity asking.path opening → IsAskedIn before scan opening → IsAskedIn now scan opening
    go None met asked = tt
    go (Some opening) met made =
        let within = stands_within before.trace well.rule.file_identity asking.path opening met in
        record {
          before = made.before;
          behind = made.behind ++ on.more_scans;
          scans_are = on.scans ∙ ap (λ (l : List Scan). l ++ on.more_scans) made.scans_are ∙ append_assoc made.before (scan ∷ made.behind) on.more_scans;
          since = made.since;
          until = both (IsBehind opening) made.behind on.more_scans made.until (all_behind opening (length before.trace.events) within on.more_scans on.made_later);
        }

pub asks_stays : (before now : Run) (scan : Scan) (shown : Shown) (input : ℕ) (asking : Asking) → RunGoesOn before now → IsWhole before scan → AsksFor before scan shown input asking → AsksFor now scan shown input asking
asks_stays before now scan shown input asking on whole asks = record {
  entry = entry_stays before.trace now.trace scan shown on.trace asks.entry;
  asked_in = asked_in_stays before now scan asking on (asking_of before scan asking whole asks.of_scan);
  of_scan = asks.of_scan;
  input_is = asks.input_is;
  path_is = asks.path_is;
}

asks_was : (before now : Run) (scan : Scan) (shown : Shown) (input : ℕ) (asking : Asking) → RunGoesOn before now → IsWhole before scan → AsksFor now scan shown input asking → AsksFor before scan shown input asking
asks_was before now scan shown input asking on whole asks = record {
  entry = entry_was before.trace now.trace scan shown on.trace whole.none_failed asks.entry;
  asked_in = (asking_of before scan asking whole asks.of_scan).asked_in;
  of_scan = asks.of_scan;
  input_is = asks.input_is;
  path_is = asks.path_is;
}

-- the asking of a whole scan hit no fault, by the rule of its input
pub asked_well : (run : Run) (scan : Scan) (shown : Shown) (input : ℕ) (asking : Asking) (rule : InputRule) → IsWhole run scan → AsksFor run scan shown input asking →
    slice_get run.settings.inputs input ≡ Some rule → MetNoFault run.trace rule.file_identity shown.entry.path asking.opening
asked_well run scan shown input asking rule whole asks is =
    let well = asking_of run scan asking whole asks.of_scan in
    let q : Some well.rule ≡ Some rule = sym well.rule_is ∙ ap (slice_get run.settings.inputs) asks.input_is ∙ is in
    let same : well.rule ≡ rule = cc in
    let by_rule = subst (λ (r : InputRule). MetNoFault run.trace r.file_identity asking.path asking.opening) same well.well in
    subst (λ (p : List ℕ). MetNoFault run.trace rule.file_identity p asking.opening) asks.path_is by_rule

pub shows_to_stays : (before now : Run) (scan : Scan) (input : ℕ) (key : List ℕ) (number : ℕ) (shown : Shown) → RunGoesOn before now → IsWhole before scan →
    ShowsFileTo before scan input key number shown → ShowsFileTo now scan input key number shown
shows_to_stays before now scan input key number shown on whole shows = record {
  asking = shows.asking;
  asks = asks_stays before now scan shown input shows.asking on whole shows.asks;
  rule = shows.rule;
  rule_is = rule_stays before now input shows.rule on shows.rule_is;
  covered = shows.covered;
  gave = gave_stays before.trace now.trace shows.rule shown shows.asking.opening (Some key) number on.trace
      (asked_well before scan shown input shows.asking shows.rule whole shows.asks shows.rule_is) shows.gave;
}

shows_to_was : (before now : Run) (scan : Scan) (input : ℕ) (key : List ℕ) (number : ℕ) (shown : Shown) → RunGoesOn before now → IsWhole before scan →
    ShowsFileTo now scan input key number shown → ShowsFileTo before scan input key number shown
shows_to_was before now scan input key number shown on whole shows =
    let asks = asks_was before now scan shown input shows.asking on whole shows.asks in
    let rule_is = rule_was before now input shows.rule on shows.rule_is in
    record {
      asking = shows.asking;
      asks = asks;
      rule = shows.rule;
      rule_is = rule_is;
      covered = shows.covered;
      gave = gave_was before.trace now.trace shows.rule shown shows.asking.opening (Some key) number on.trace
          (asked_well before scan shown input shows.asking shows.rule whole asks rule_is) shows.gave;
    }

pub shows_file_stays : (before now : Run) (scan : Scan) (key : List ℕ) (number : ℕ) (path : List ℕ) → RunGoesOn before now → IsWhole before scan → ShowsFile before scan key number path → ShowsFile now scan key number path
shows_file_stays before now scan key number path on whole shows =
    record { shown = shows.shown; path_is = shows.path_is; shows = (shows.shows.0, shows_to_stays before now scan shows.shows.0 key number shows.shown on whole shows.shows.1) }

pub shows_file_was : (before now : Run) (scan : Scan) (key : List ℕ) (number : ℕ) (path : List ℕ) → RunGoesOn before now → IsWhole before scan → ShowsFile now scan key number path → ShowsFile before scan key number path
shows_file_was before now scan key number path on whole shows =
    record { shown = shows.shown; path_is = shows.path_is; shows = (shows.shows.0, shows_to_was before now scan shows.shows.0 key number shows.shown on whole shows.shows.1) }

pub hidden_stays : (before now : Run) (scan : Scan) (key : List ℕ) → RunGoesOn before now → IsWhole before scan → (ShowsKey before scan key → ⊥) → ShowsKey now scan key → ⊥
hidden_stays before now scan key on whole hidden shows =
    hidden (record { number = shows.number; path = shows.path; shows = shows_file_was before now scan key shows.number shows.path on whole shows.shows })

pub first_path_stays : (before now : Run) (scan : Scan) (key : List ℕ) (number : ℕ) (path : List ℕ) → RunGoesOn before now → IsWhole before scan → IsFirstPath before scan key number path → IsFirstPath now scan key number path
first_path_stays before now scan key number path on whole first = record {
  shows = shows_file_stays before now scan key number path on whole first.shows;
  first = λ other shows. first.first other (shows_file_was before now scan key number other on whole shows);
}

-- ---- whole scans

pub whole_stays : (before now : Run) (scan : Scan) → RunGoesOn before now → IsWhole before scan → IsWhole now scan
whole_stays before now scan on whole = record {
  not_cut_off = whole.not_cut_off ∙ ap (λ (s : Settings). length (globs_in s.inputs)) (sym on.same_settings);
  none_failed = each_on (IsGoodListing before.trace) (IsGoodListing now.trace)
      (λ listing good. record { root = good.root; depth = good.depth; entries = good.entries; listed = event_stays before.trace now.trace listing (Listed good.root good.depth good.entries) on.trace good.listed })
      scan.listings whole.none_failed;
  each_asked = λ shown input rule entry rule_is covered.
      let was = whole.each_asked shown input rule (entry_was before.trace now.trace scan shown on.trace whole.none_failed entry) (rule_was before now input rule on rule_is) covered in
      record { asking = was.asking; asks = asks_stays before now scan shown input was.asking on whole was.asks };
  none_faulty = each_on (WasAskedWell before scan) (WasAskedWell now scan)
      (λ asking well. record {
        asked_in = asked_in_stays before now scan asking on well;
        rule = well.rule;
        rule_is = rule_stays before now asking.input well.rule on well.rule_is;
        well = no_fault_stays before.trace now.trace well.rule.file_identity asking.path asking.opening on.trace well.well;
      })
      scan.askings whole.none_faulty;
}

pub scan_stays : (before now : Run) (number : ℕ) (scan : Scan) → RunGoesOn before now → slice_get before.scans number ≡ Some scan → slice_get now.scans number ≡ Some scan
scan_stays before now number scan on is = ap (λ (l : List Scan). slice_get l number) on.scans ∙ got_in_front before.scans on.more_scans number scan is
