-- Of a run that is done each entry that an input covers was followed or skipped for its reason, and each file that was begun is read
-- through, with the moment of its change.
use Rattle.std.proofs.Common.{◌≡◌, ◌⊎◌, inl, inr, ⊎_elim, ℕ, ◌+◌, ◌<◌, ◌≤◌, All, List, [], Contains, append-nil, length, take, Option, Some, None, IfSome, refl, sym, ap, subst, ◌∙◌, arith}
use Rattle.std.proofs.lemmas.Bool.{cases_lt}
use Rattle.std.proofs.lemmas.List.Elements.{Contains-append_cases, Contains-append_left}
use Rattle.std.proofs.lemmas.Option.{slice_get-get_or, slice_get_within}
use Rattle.std.specs.Prelude.{slice_get}
use Rattle.std.specs.List.{AllByRecursion}
use Rattle.std.specs.declared.cmp.Ordering.TheVariants.{Less}
use Rattle.accounts.proofs.Grounded.{each_has_ground, each_member, of_map}
use Rattle.accounts.specs.Filed.{Filed, slot_in}
use Rattle.accounts.specs.Ground.{HasGround}
use Rattle.accounts.specs.Opened.{Opened}
use Rattle.accounts.specs.RunDone.{EachEntryIsServed, IsAmongFiles, IsToldWhole}
use Rattle.accounts.specs.Taken.{FitBooks, Taken, acknowledged_in}
use Rattle.accounts.specs.ToldFile.{IsReadThrough}
use Rattle.accounts.specs.Turned.{Turned}
use Rattle.event_tree.specs.declared.input_rule.InputRule.{InputRule}
use Rattle.file_identity.specs.Answers.{IsFingerprint}
use Rattle.file_identity.specs.Asking.{IsAsking, given_key}
use Rattle.kept_rows.specs.Drained.{IsDoubled, IsGone, IsMoved, IsOfNoOther, IsPassedOver, IsSmall, WasOpenedWith}
use Rattle.kept_rows.specs.Run.{Run, Scan}
use Rattle.kept_rows.specs.Scans.{Gave, IsCovered, ShowsEntry}
use Rattle.kept_rows.specs.Trace.{Trace, WasGone, WireTold}
use Rattle.outside.specs.Folders.{NotThere, Opened as OpenedAs}
use Rattle.outside.specs.declared.history.Shown.{Shown}
use Rattle.prospect.specs.AskedFiles.{Answer, ByName, Gave as KeyGiven, NotFound, TooFew, keyed_as, keyed_by, with_key}
use Rattle.prospect.specs.declared.listed.Listed.{Listed}
use Rattle.report.specs.declared.passing.Passing.{Passing}
use Rattle.report.specs.declared.passing.Why.{Why}
use Rattle.report.specs.declared.passing.Why.TheVariants.{Doubled, Gone, Moved, Old, Small}
use Rattle.rounds.specs.Crewed.{lanings}
use Rattle.rounds.specs.Words.{Words}
use Rattle.ship_core.proofs.Members.{first_there}
use Rattle.ship_core.specs.RowOver.{moment_of, slot_of}
use Rattle.wire_base.specs.declared.note.Note.{Note}
use Rattle.wire_base.specs.declared.note.Note.TheVariants.{Seen}
use Rattle.wire_base.specs.KeyOrder.{compare}
use Rattle.wire_base.specs.declared.numbers.Slot.{Slot}
use Rattle.run_steps.specs.Telling.{moment_noted}
use Rattle.run_steps.specs.Began.{Began}
use Rattle.run_steps.specs.Begun.{noted_begin}
use Rattle.run_steps.specs.Releasing.{HasNoHarvesters}
use Rattle.told_scans.specs.ToldScan.{IsAround, IsTold, RunAround, ToldScan, asking_of, opening_by}
use Rattle.run_steps.specs.RunOf.{FolderTold, run_of, scan_of, told_scan}
use Rattle.run_steps.specs.RunState.{RunState}
use Rattle.run_steps.specs.Scanned.{HasScanned}
use Rattle.run_steps.specs.Served.{AreServed, HasBegin, WasSkippedBy, folder_trace}
use Rattle.run_steps.specs.SkippedFor.{GaveAsOpened, IsSkippedFor, WasMoved, WasTooSmall}
use Rattle.run_steps.specs.Shown.{HasDone}
use Rattle.run_steps.specs.SoFar.{SoFar, files_in, files_of}
use Rattle.run_steps.specs.Stands.{Stands}
use Rattle.told_scans.proofs.AskedEvents.{AnswerStands, HasAsked, HasMissed}
use Rattle.run_steps.proofs.EarlierOn.{opened_once}
use Rattle.run_steps.proofs.Doubles.{double_has_earlier}
use Rattle.run_steps.proofs.FollowedOrSkipped.{IsSkippedSince, came_so}
use Rattle.run_steps.proofs.HiddenAmong.{hidden_slots}
use Rattle.told_scans.proofs.KeyedFiles.{KeepsEntry, keeps_entry}
use Rattle.told_scans.proofs.Members.{some_is}
use Rattle.run_steps.proofs.RunFiles.{as_listed, done, files, is_joined, joined, moment_is, moment_noted_is, of_entry, path_is, input_is, was_opened}
use Rattle.run_steps.proofs.RunNotes.{begin_opened, opened_is_in_notes}
use Rattle.told_scans.proofs.ScanAsked.{asks_for, in_this_run}
use Rattle.run_steps.proofs.OneScan.{around_one, is_around, of_its_input, of_no_asking, told_so}
use Rattle.told_scans.proofs.ScanList.{answered, entry_of, everyone, in_parts, is_before, shows_entry, since_listed}
use Rattle.told_scans.proofs.WholeScans.{answered_whole}
use Rattle.told_scans.proofs.ScanOf.{IsListedFor, ShowsSome, answer_by, gave_there, is_listed_for, key_is_told, rule_of, shows_asked, shows_file}
use Rattle.accounts.proofs.Orderly.{member_is}

got_some : {A : Type 0} (P : A → Type 0) (o : Option A) (x : A) → o ≡ Some x → IfSome o P → P x
got_some P o x is all = subst (λ (q : Option _). IfSome q P) is all

module _ {T W L D : Type 0} (words : Words T W L D) (start : Began D) (state : RunState T W L D) (so_far : SoFar) (stands : Stands words start state (opened_once so_far))
    (released : All HasNoHarvesters (lanings state.crew.lanes.items)) (folder : FolderTold) (has : HasScanned start folder) (shown : state.shown ≡ Some folder.ended)
    (wires : List WireTold) (workers : List Taken) (fits : FitBooks (files_in so_far) workers so_far.collected)
    (passed : List Passing) (served : AreServed start.settings start.opening start.listed passed state.keeper.tracked.notes folder) where
  abbrev run : Run
  run = run_of start folder so_far.moments wires

  abbrev scan : Scan
  scan = scan_of start folder

  abbrev run_files : List Filed
  run_files = files words start state so_far stands released folder has shown wires

  abbrev notes : List Note
  notes = state.keeper.tracked.notes

  has_done : HasDone start.settings folder.scanned folder.ended (files_of (opened_once so_far))
  has_done = done words start state so_far stands released folder has shown wires

  abbrev the_scan : ToldScan
  the_scan = told_scan start folder

  abbrev scan_told : IsTold the_scan
  scan_told = told_so start folder has

  abbrev around_scan : RunAround
  around_scan = around_one start folder so_far.moments wires

  abbrev stands_around : IsAround the_scan around_scan
  stands_around = is_around start folder so_far has_done wires

  ground : AllByRecursion (HasGround (files_in so_far) (acknowledged_in workers)) so_far.collected
  ground = each_has_ground (files_in so_far) workers so_far.collected fits

  -- ---- each entry

  -- the file of this slot
  pub record HasFileAt (slot : ℕ) : Type 0 where
    pub file : Filed
    pub among : Contains run_files file
    pub slot_is : slot_in file ≡ slot

  pub file_of_begin : (slot : ℕ) → slot < length start.listed → HasBegin notes slot → HasFileAt slot
  file_of_begin slot less begun =
      let opened =
      begin_opened (files_in so_far) (acknowledged_in workers) so_far.begun so_far.collected notes stands.notes.noted.mixed ground so_far.scans start.opening start.listed so_far.opened so_far.hidden stands.notes.begun
      (hidden_slots start.settings.inputs start.listed (length start.listed) (take stands.notes.hidden.count start.opening) so_far.hidden stands.notes.hidden.are)
      begun.begin (let is = begun.slot_is in omega (arith, is, less)) begun.noted in
      let of =
      of_map (λ (file : Filed). file.opened) run_files opened.one
      (subst (λ (l : List Opened). Contains l opened.one) (sym (joined words start state so_far stands released folder has shown wires).opened_are) opened.among) in
      record {
        file = of.item;
        among = of.among;
        slot_is = ap (λ (o : Opened). o.begin.slot.0) of.is ∙ ap (λ (s : Slot). s.0) opened.slot_is ∙ begun.slot_is;
      }

  abbrev told_trace : Trace
  told_trace = folder_trace (length folder.earlier.events) folder.ended

  -- each listed file was begun or skipped
  pub came_of : (slot : ℕ) (one : Listed) → slice_get start.listed slot ≡ Some one →
      HasBegin notes slot ⊎ IsSkippedSince (WasSkippedBy start.settings.inputs notes told_trace) (length folder.scanned.events) slot one
  came_of slot one at =
      let same : 0 + slot ≡ slot = omega arith in
      subst (λ (n : ℕ). HasBegin notes n ⊎ IsSkippedSince (WasSkippedBy start.settings.inputs notes told_trace) (length folder.scanned.events) n one) same
      (came_so (λ other listed. HasBegin notes other) (WasSkippedBy start.settings.inputs notes told_trace) 0 (length folder.scanned.events) start.listed passed served.each slot one at)

  -- behind the scan no opening was made for an asking
  behind_listings : (opening : ℕ) → length folder.scanned.events ≤ opening → length folder.listed.events ≤ opening
  behind_listings opening since = let long = since_listed the_scan scan_told around_scan stands_around in omega (arith, long, since)

  module _ (shown_entry : Shown) (input : ℕ) (rule : InputRule) (entry : ShowsEntry run.trace scan shown_entry) (rule_is : slice_get start.settings.inputs input ≡ Some rule)
      (covered : IsCovered rule.paths shown_entry.entry.path) where
    of : IsListedFor the_scan scan_told around_scan stands_around shown_entry input rule
    of = is_listed_for the_scan scan_told around_scan stands_around (answered_whole folder.asked) shown_entry input rule entry rule_is covered

    answer : AnswerStands rule of.of.listed of.of.answer folder.ended
    answer = answer_by the_scan scan_told around_scan stands_around of.of of.among shown_entry input rule entry of.input_is of.path_is rule_is

    -- where its opening is, if it was opened to ask for its key
    since : (opening : ℕ) → opening_by of.of.answer ≡ Some opening → length folder.listed.events ≤ opening
    since opening at = ((answered the_scan scan_told around_scan stands_around of.of of.among).placed opening at).0

    own : (opening : ℕ) → opening_by of.of.answer ≡ Some opening → IsOfNoOther run input opening
    own opening at = subst (λ (i : ℕ). IsOfNoOther run i opening) of.input_is (of_its_input start folder has so_far has_done (stands.files.scans.none_with_once has.once) wires of.of of.among opening at)

    -- ---- with no key

    -- nothing had its path as it was asked
    gone_asked : (opening : ℕ) → opening_by of.of.answer ≡ Some opening → HasMissed rule of.of.listed opening folder.ended → IsGone run scan shown_entry.entry.path input
    gone_asked opening at missed = record {
      opening = opening;
      since = is_before the_scan scan_told around_scan stands_around opening (since opening at);
      of_input = own opening at;
      was = record {
        in_this_run = in_this_run the_scan scan_told around_scan stands_around opening (since opening at);
        not_there = missed.is ∙ ap (λ (path : List ℕ). Some (NotThere path)) of.path_is;
      };
    }

    small_asked : (opening : ℕ) → opening_by of.of.answer ≡ Some opening → HasAsked rule of.of.listed opening None folder.ended → IsSmall run rule scan shown_entry input
    small_asked opening at asked = record {
      by_bytes = asked.by_bytes;
      gave_none = inl (record {
        asking = asking_of of.of;
        asks = asks_for the_scan scan_told around_scan stands_around of.of of.among shown_entry input entry of.input_is of.path_is;
        number = asked.number;
        gave = subst (λ (o : Option ℕ). Gave run.trace rule shown_entry o None asked.number) (sym at)
            (gave_there the_scan scan_told around_scan stands_around of.of of.among shown_entry input rule entry of.input_is of.path_is rule_is opening None at asked);
      });
    }

    -- ---- with its key

    module _ (one : Listed) (kept : Contains (keyed_by of.of) one) where
      keeps : KeepsEntry of.of.listed one
      keeps = keeps_entry of.of.listed of.of.answer one kept

      its_path : one.path ≡ shown_entry.entry.path
      its_path = keeps.path_is ∙ of.path_is

      its_rule : slice_get start.settings.inputs one.input ≡ Some rule
      its_rule = ap (slice_get start.settings.inputs) (keeps.input_is ∙ of.input_is) ∙ rule_is

      among_all : Contains (everyone the_scan scan_told around_scan stands_around) one
      among_all = in_parts the_scan scan_told around_scan stands_around of.of one of.among kept

      -- the entry shows a file with the key
      shows_it : (key : List ℕ) → one.key ≡ Some key → ShowsSome the_scan scan_told around_scan stands_around shown_entry input key
      shows_it key keyed =
          shows_asked the_scan scan_told around_scan stands_around of.of of.among shown_entry input rule entry of.input_is of.path_is rule_is covered of.key_is one kept key keyed

      among_files : (slot : ℕ) → slice_get start.listed slot ≡ Some one → HasFileAt slot → IsAmongFiles run scan run_files shown_entry input
      among_files slot at there =
          let file = there.file in
          let listed = as_listed words start state so_far stands released folder has shown wires file there.among in
          let same : listed.one ≡ one = some_is listed.one one (sym listed.listed_there ∙ ap (slice_get start.listed) there.slot_is ∙ at) in
          let shows = shows_it file.opened.begin.key (ap (λ (l : Listed). l.key) (sym same) ∙ listed.keyed) in
          record {
            file = file;
            of_files = there.among;
            input_is = input_is words start state so_far stands released folder has shown wires file there.among ∙ ap (λ (l : Listed). l.input) same ∙ keeps.input_is ∙ of.input_is;
            path_is = path_is words start state so_far stands released folder has shown wires file there.among ∙ ap (λ (l : Listed). l.path) same ∙ its_path;
            number = shows.number;
            shows = shows.shows;
          }

      is_gone : (opening : ℕ) → length folder.scanned.events ≤ opening → WasGone told_trace opening one.path → IsGone run scan shown_entry.entry.path input
      is_gone opening behind gone = record {
        opening = opening;
        since = is_before the_scan scan_told around_scan stands_around opening (behind_listings opening behind);
        of_input = of_no_asking start folder has so_far has_done (stands.files.scans.none_with_once has.once) wires opening input behind;
        was = record { in_this_run = gone.in_this_run; not_there = gone.not_there ∙ ap (λ (path : List ℕ). Some (NotThere path)) its_path };
      }

      -- as it was opened, its tail gave this key, or none
      opened_with : (key : Option (List ℕ)) (opening : ℕ) → length folder.scanned.events ≤ opening → GaveAsOpened start.settings.inputs told_trace one opening key →
          WasOpenedWith run rule scan input shown_entry.entry.path key
      opened_with key opening behind opened = record {
        opening = opening;
        since = is_before the_scan scan_told around_scan stands_around opening (behind_listings opening behind);
        of_input = of_no_asking start folder has so_far has_done (stands.files.scans.none_with_once has.once) wires opening input behind;
        number = opened.number;
        looks = opened.gave.looks;
        tail = record {
          in_this_run = opened.gave.tail.in_this_run;
          begun = opened.gave.tail.begun;
          opened = opened.gave.tail.opened ∙ ap (λ (path : List ℕ). Some (OpenedAs path opened.number opened.gave.tail.begun)) its_path;
          tells = opened.gave.tail.tells;
        };
        file = opened.gave.file;
        file_is = opened.gave.file_is;
        asked = opened.gave.looks;
        behind = [];
        looks_are = sym (append-nil opened.gave.looks);
        asking = subst (λ (r : InputRule). IsAsking r.file_identity opened.gave.looks) same_rule opened.gave.asking;
        gave = opened.gave.gave ∙ (λ k. given_key (same_rule k).id (same_rule k).file_identity (its_path k) opened.gave.file opened.gave.looks);
      }
        where
          same_rule : opened.rule ≡ rule
          same_rule = some_is opened.rule rule (sym opened.rule_is ∙ its_rule)

      is_moved : (opening : ℕ) → length folder.scanned.events ≤ opening → WasMoved start.settings.inputs told_trace one opening → IsMoved run rule scan shown_entry input
      is_moved opening behind moved =
          let its_key = key_is_told the_scan scan_told around_scan stands_around one among_all in
          let shows = shows_it its_key.0 its_key.1 in
          record {
            key = its_key.0;
            number = shows.number;
            shows = shows.shows;
            other = moved.other;
            opened = opened_with (Some moved.other) opening behind moved.opened;
            other_key = λ same. moved.other_key (its_key.1 ∙ ap (λ (key : List ℕ). Some key) (sym same));
          }

      is_small : (opening : ℕ) → length folder.scanned.events ≤ opening → WasTooSmall start.settings.inputs told_trace one opening → IsSmall run rule scan shown_entry input
      is_small opening behind small = record {
        by_bytes = subst (λ (r : InputRule). IsFingerprint r.file_identity) (some_is small.opened.rule rule (sym small.opened.rule_is ∙ its_rule)) small.by_bytes;
        gave_none = inr (opened_with None opening behind small.opened);
      }

      is_passed_over : (why : Why) (opening : ℕ) → length folder.scanned.events ≤ opening → IsSkippedFor start.settings.inputs told_trace one opening why → IsPassedOver run rule scan shown_entry input
      is_passed_over Gone opening behind reason = inr (inr (inl (is_gone opening behind reason)))
      is_passed_over Moved opening behind reason = inr (inr (inr (inl (is_moved opening behind reason))))
      is_passed_over Small opening behind reason = inr (inr (inr (inr (is_small opening behind reason))))
      is_passed_over Doubled opening behind reason = absurd reason
      is_passed_over Old opening behind reason = absurd reason

      is_doubled : Contains start.doubled one → IsDoubled run scan shown_entry input
      is_doubled double =
          let earlier = double_has_earlier start folder has so_far has_done wires one double in
          let first_there = Contains-append_left start.listed start.doubled earlier.first earlier.among in
          let its = entry_of the_scan scan_told around_scan stands_around earlier.first first_there in
          let shows = shows_it earlier.key earlier.keyed in
          let shows_first = shows_file the_scan scan_told around_scan stands_around earlier.first first_there its earlier.key earlier.same its.by.rule
          (rule_of the_scan scan_told around_scan stands_around earlier.first its) in
          record {
            key = earlier.key;
            number = shows.number;
            shows = shows.shows;
            other = shows_first.number;
            earlier = earlier.first.path;
            shows_earlier = record { shown = its.shown; path_is = sym its.path_is; shows = (earlier.first.input, shows_first.shows) };
            before = subst (λ (path : List ℕ). compare earlier.first.path path ≡ Less) its_path earlier.before;
          }

      served_keyed : IsAmongFiles run scan run_files shown_entry input ⊎ IsPassedOver run rule scan shown_entry input
      served_keyed = ⊎_elim by_slot (λ double. inr (inl (is_doubled double))) (Contains-append_cases start.listed start.doubled one among_all)
        where
          by_slot : Contains start.listed one → IsAmongFiles run scan run_files shown_entry input ⊎ IsPassedOver run rule scan shown_entry input
          by_slot file =
              let at = slice_get-get_or start.listed file.0 one file.1 ∙ ap (λ (l : Listed). Some l) file.2 in
              ⊎_elim (λ begun. inl (among_files file.0 at (file_of_begin file.0 (slice_get_within start.listed file.0 one at) begun))) (λ skipped. inr (is_passed_over skipped.why skipped.opening skipped.since skipped.skips.reason)) (came_of file.0 one at)

    -- ---- by what was answered

    served_entry : IsAmongFiles run scan run_files shown_entry input ⊎ IsPassedOver run rule scan shown_entry input
    served_entry = by_answer of.of.answer refl answer served_keyed
      where
        by_answer : (said : Answer) → of.of.answer ≡ said → AnswerStands rule of.of.listed said folder.ended →
            ((one : Listed) → Contains (keyed_as of.of.listed of.of.answer) one → IsAmongFiles run scan run_files shown_entry input ⊎ IsPassedOver run rule scan shown_entry input) →
            IsAmongFiles run scan run_files shown_entry input ⊎ IsPassedOver run rule scan shown_entry input
        by_answer ByName is stands keyed = keyed of.of.listed (subst (λ (a : Answer). Contains (keyed_as of.of.listed a) of.of.listed) (sym is) (first_there of.of.listed []))
        by_answer (KeyGiven opening key) is stands keyed =
            keyed (with_key of.of.listed key) (subst (λ (a : Answer). Contains (keyed_as of.of.listed a) (with_key of.of.listed key)) (sym is) (first_there (with_key of.of.listed key) []))
        by_answer (TooFew opening) is stands keyed = inr (inr (inr (inr (inr (small_asked opening (ap opening_by is) stands)))))
        by_answer (NotFound opening) is stands keyed = inr (inr (inr (inl (gone_asked opening (ap opening_by is) stands))))

  pub each_entry : EachEntryIsServed run scan run_files
  each_entry shown_entry input rule entry rule_is covered = served_entry shown_entry input rule entry rule_is covered

  -- ---- each file

  module _ (finished : AllByRecursion (λ (turned : Turned). IsReadThrough turned.history) (files_in so_far)) (file : Filed) (among : Contains run_files file) where
    abbrev one : Opened
    one = file.opened

    opened_there : Contains so_far.opened one
    opened_there = was_opened words start state so_far stands released folder has shown wires file among

    -- a note that carries its moment
    record CarriesMoment : Type 0 where
      note : Note
      of_notes : Contains notes note
      slot_is : slot_of note ≡ slot_in file
      carries : moment_of note ≡ Some file.changed

    opened_noted : Contains notes (noted_begin one.begin)
    opened_noted =
        opened_is_in_notes (files_in so_far) (acknowledged_in workers) so_far.begun so_far.collected notes stands.notes.noted.mixed ground so_far.scans start.opening start.listed so_far.opened so_far.hidden
        stands.notes.begun one opened_there

    abbrev its_entry : Listed
    its_entry = (as_listed words start state so_far stands released folder has shown wires file among).one

    changed_is : file.changed ≡ (moment_noted start.opening its_entry).0
    changed_is = moment_is words start state so_far stands released folder has shown wires file among

    begin_carries : file.changed ≡ 0 → CarriesMoment
    begin_carries none = record { note = noted_begin one.begin; of_notes = opened_noted; slot_is = refl; carries = ap (λ (n : ℕ). Some n) (sym none) }

    seen_carries : 0 < (moment_noted start.opening its_entry).0 → CarriesMoment
    seen_carries later = record {
      note = Seen one.begin.slot (moment_noted start.opening its_entry);
      of_notes =
          got_some (λ (entry : Listed). 0 < (moment_noted start.opening entry).0 → Contains notes (Seen one.begin.slot (moment_noted start.opening entry))) (slice_get start.listed one.begin.slot.0) its_entry
          (as_listed words start state so_far stands released folder has shown wires file among).listed_there (served.seen one.begin opened_noted) later;
      slot_is = refl;
      carries = ap (λ (n : ℕ). Some n) (sym changed_is);
    }

    carries_moment : CarriesMoment
    carries_moment = ⊎_elim seen_carries (λ none. begin_carries (changed_is ∙ omega (arith, none))) (cases_lt 0 (moment_noted start.opening its_entry).0)

    pub told_whole : IsToldWhole run scan notes file
    told_whole = record {
      alone = (is_joined words start state so_far stands released folder has shown wires file among).alone;
      stays = (is_joined words start state so_far stands released folder has shown wires file among).stays;
      as_begun = (is_joined words start state so_far stands released folder has shown wires file among).as_begun;
      read_through = member_is (λ (turned : Turned). IsReadThrough turned.history) (files_in so_far) file.turned finished
          (is_joined words start state so_far stands released folder has shown wires file among).among;
      moment = record {
        shown = (of_entry words start state so_far stands released folder has shown wires file among).shown;
        entry = shows_entry the_scan scan_told around_scan stands_around (of_entry words start state so_far stands released folder has shown wires file among).shown
            (of_entry words start state so_far stands released folder has shown wires file among).among;
        path_is = sym (of_entry words start state so_far stands released folder has shown wires file among).path_is
            ∙ sym (path_is words start state so_far stands released folder has shown wires file among);
        changed_is = moment_noted_is words start state so_far stands released folder has shown wires file among;
        note = carries_moment.note;
        among = carries_moment.of_notes;
        slot_is = carries_moment.slot_is;
        carries = carries_moment.carries;
      };
    }

  pub each_whole : AllByRecursion (λ (turned : Turned). IsReadThrough turned.history) (files_in so_far) → AllByRecursion (IsToldWhole run scan notes) run_files
  each_whole finished = each_member (IsToldWhole run scan notes) run_files (told_whole finished)
