-- A file that is opened again keeps what stands of a run, with one more opening before the last ones.
use Rattle.std.proofs.Common.{◌≡◌, inl, ⊎_elim, ℕ, ◌==◌, ◌<◌, ◌≤◌, ◌^◌, ◌-◌, Bool, true, false, List, [], ◌∷◌, ◌++◌, Contains, map, Option, Some, None, IsSome, IfSome, if◌then◌else◌, append-nil, refl, sym, ap, subst, ◌∙◌, arith}
use Rattle.std.proofs.lemmas.List.{map-append}
use Rattle.std.proofs.lemmas.List.Elements.{Contains-append_left, Contains-append_right}
use Rattle.std.specs.List.{AllByRecursion, flat_map, slice_get}
use Rattle.accounts.specs.FollowedFile.{start_in}
use Rattle.accounts.specs.Opened.{IsTailOf, Opened}
use Rattle.accounts.specs.ToldFile.{IsToldFile}
use Rattle.accounts.specs.Turned.{Turned, notes_told, parcels_told, spans_in}
use Rattle.accounts.specs.Turning.{IsTurnedSo, Pairs}
use Rattle.accounts.specs.Watch.{Watch}
use Rattle.accounts.proofs.Apart.{EachAdjoins}
use Rattle.accounts.proofs.Backing.{mapped_there}
use Rattle.accounts.proofs.Begins.{begin_begins}
use Rattle.accounts.proofs.Ends.{is_in_epochs}
use Rattle.accounts.proofs.Grounded.{each_member}
use Rattle.accounts.proofs.Joining.{same_slot, tells_slots, told_as_often}
use Rattle.accounts.proofs.Lists.{each_last, flat_map_both}
use Rattle.accounts.proofs.Often.{often_back, often_contains, often_then, once_apart, once_often}
use Rattle.accounts.proofs.Ordered.{one_more_orderly}
use Rattle.accounts.proofs.Orderly.{member_is, same_item}
use Rattle.event_tree.specs.declared.input_rule.InputRule.{InputRule}
use Rattle.file_identity.specs.AskedAgain.{IsRead}
use Rattle.file_looks.specs.Looks.{TellsLooks}
use Rattle.harvester.specs.HasTold.{looks_so_far}
use Rattle.harvester.specs.Standing.{EndsAt}
use Rattle.harvester.specs.declared.harvester.Harvester.{Harvester}
use Rattle.keeper.specs.Keeping.{Keeping}
use Rattle.kept_rows.specs.Scans.{AreDistinct}
use Rattle.lanes.specs.Laning.{Laning}
use Rattle.multiline_core.specs.Rule.{IsGroupRule}
use Rattle.outside.specs.Folders as folders
use Rattle.outside.specs.Folders.{FolderHistory}
use Rattle.outside.specs.Tails.{TailHistory}
use Rattle.outside.specs.declared.history.Look.{Look}
use Rattle.told_scans.specs.OnlyAsked.{WasClosedWith}
use Rattle.pass_sums.specs.Weight.{AsOften, weigh}
use Rattle.pass_sums.proofs.Weights.{weigh-append}
use Rattle.rounds.specs.Books.{ArePlaced, held_notes, held_parcels}
use Rattle.rounds.specs.Crewed.{lanings}
use Rattle.rounds.specs.Settled.{spans_told}
use Rattle.rounds.specs.Words.{Words}
use Rattle.rounds.specs.declared.crew.Crew.{Crew}
use Rattle.settle_box.specs.Senders.{notes}
use Rattle.ship_core.proofs.Members.{there_cases}
use Rattle.ship_core.specs.Orderly.{AreOrderly}
use Rattle.slot_parts.specs.Tellings.{tellings_in}
use Rattle.wire_base.specs.declared.note.Note.{Note}
use Rattle.wire_base.specs.declared.note.Note.TheVariants.{Announce}
use Rattle.wire_base.specs.declared.numbers.Slot.{Slot}
use Rattle.run_steps.specs.Areas.{BeganAtRest, HaveHeldFronts}
use Rattle.run_steps.specs.Began.{Began}
use Rattle.run_steps.specs.Beginning.{AdmitsAt}
use Rattle.run_steps.specs.Begun.{AreBeginNotes, IsKeyed, IsRuled}
use Rattle.run_steps.specs.Earlier.{AreEarlier, AreOfOneFile}
use Rattle.run_steps.specs.ListedSo.{WasListedSo}
use Rattle.run_steps.specs.Forgotten.{AreForgotten}
use Rattle.run_steps.specs.OpenedAgain.{IsClosedLast, IsOpenedAgain, goes_on_behind}
use Rattle.run_steps.specs.RunState.{Finished, Leaving, Reading}
use Rattle.run_steps.specs.Releasing.{closing_of, with_events}
use Rattle.run_steps.specs.Shown.{HasShown, IsTurnedIn, WasClosedAs}
use Rattle.run_steps.specs.SoFar.{Earlier, Left, SoFar, all_told, announced_by, announced_in, files_in, files_of, first_opened, forgets_in, told_before, noted_since, with_opening}
use Rattle.run_steps.specs.Stands.{AreEachOnce, AreNoted, AreTurnedIn, HaveGiven, IsLeftSo, Notes, Stands, watch_of}
use Rattle.run_steps.specs.Telling.{TellsNotes}
use Rattle.run_steps.proofs.Admitting.{TurnedWith, all_of, booked_by, each_still, notes_same, often_mapped, parcels_same, passes_same, placed_by, spans_often, spans_same, turned_at}
use Rattle.run_steps.proofs.BeginningOne.{at_phase}
use Rattle.run_steps.proofs.BeginningSteps.{shown_tells}
use Rattle.run_steps.proofs.BegunFolder.{both_are}
use Rattle.run_steps.proofs.BegunNotes.{areas_more, counted_more, got_same, noted_more, stores_more}
use Rattle.run_steps.proofs.EarlierMore.{one_more_earlier, slot_numbers}
use Rattle.run_steps.proofs.ForgottenOn.{forgotten_left}
use Rattle.run_steps.proofs.ForgottenApart.{forgotten_again}
use Rattle.run_steps.proofs.Grounds.{all_backed}
use Rattle.run_steps.proofs.ListedSo.{listed_again}
use Rattle.run_steps.proofs.Openings.{adds_left, adds_opening, closed_at_once, still_open_now, with_more}
use Rattle.run_steps.proofs.Ordering.{distinct_slots, slot_begun}
use Rattle.run_steps.proofs.ReopenedFolder.{it_there, opened_again_done, others_left, with_it_there}
use Rattle.run_steps.proofs.ReopenedLanes.{turned_in, turned_lanes}
use Rattle.run_steps.proofs.SlotsOnce.{files_once, slots_of}
use Rattle.run_steps.proofs.TailOpened.{IsShown, opened_now, told_unread}
use Rattle.run_steps.proofs.WithOpening.{IsOther, each_with, first_same, next_there, others_there, rise_with, slots_with}

module _ {T W L D : Type 0} (words : Words T W L D) (reads : (disk : D) → IfSome (words.disks.contents disk) (words.disks.images disk))
    (counts : (disk : D) (at : ℕ) (image : List ℕ) → at ≤ words.disks.moment disk → words.disks.images disk image → words.disks.images_since disk at image)
    (start : Began D) (moments : Option (List ℕ)) (a b : D) (now : ℕ) (shown : Option FolderHistory) (crew : Crew T W L) (keeper : Keeping) (so_far : SoFar)
    (stands : Stands words start (at_phase words start moments a b shown crew keeper Leaving) so_far) (follows : start.once ≡ false) (last : Opened) (closed : IsClosedLast (files_of so_far) last)
    (next : Opened) (of_one : AreOfOneFile last next) (starts : start_in next ≡ goes_on_behind closed.left next.begin.size) (keyed_next : IsSome start.shown → IsKeyed next) (listed_next : IsSome start.shown → WasListedSo start.listed so_far.scans next) where
  abbrev watch : Watch
  watch = watch_of start so_far.scans

  abbrev one : Earlier
  one = record { opened = last; left = closed.left; next = next }

  abbrev now_opened : List Opened
  now_opened = with_opening next so_far.opened

  abbrev others : List Left
  others = closed.before ++ closed.behind

  abbrev fresh : Turned
  fresh = opened_now start.settings.processors next now

  slots_apart : AreDistinct (slot_numbers so_far.opened)
  slots_apart = distinct_slots 0 so_far.opened stands.files.each_once.rise

  slot_same : last.begin.slot.0 ≡ next.begin.slot.0
  slot_same = ap (λ (s : Slot). s.0) of_one.slot

  only : (other : Opened) → Contains so_far.opened other → other.begin.slot.0 ≡ last.begin.slot.0 → last ≡ other
  only other there is = same_item (λ (o : Opened). o.begin.slot.0) so_far.opened last other slots_apart closed.among there (sym is)

  its_left : Contains so_far.left closed.left
  its_left = subst (λ (l : List Left). Contains l closed.left) (sym closed.left_are) (it_there closed.before closed.behind closed.left)

  is_left : IsLeftSo watch so_far.opened so_far.moments closed.left
  is_left = member_is (IsLeftSo watch so_far.opened so_far.moments) so_far.left closed.left stands.files.left its_left

  its_file : last ≡ is_left.file
  its_file = only is_left.file is_left.among (ap (λ (s : Slot). s.0) (sym is_left.is_told.slot ∙ closed.slot_is))

  is_told : IsToldFile watch last so_far.moments closed.left.turned closed.left.told
  is_told = subst (λ (o : Opened). IsToldFile watch o so_far.moments closed.left.turned closed.left.told) (sym its_file) is_left.is_told

  is_ruled : IsRuled start.settings last
  is_ruled = member_is (IsRuled start.settings) so_far.opened last stands.files.ruled closed.among

  adjoin : EachAdjoins (tellings_in closed.left.turned.history)
  adjoin = (is_in_epochs watch last so_far.moments closed.left.turned is_ruled.in_range closed.left.told is_told).adjoin

  earlier : AreEarlier watch start.shown now_opened so_far.moments (so_far.earlier ++ one ∷ [])
  earlier = one_more_earlier watch so_far.opened so_far.moments slots_apart last next closed.among of_one closed.left is_told adjoin (record { starts = starts }) start.shown so_far.earlier
      stands.files.earlier follows is_left.in_epochs closed.may (λ some. member_is IsKeyed so_far.opened last (stands.files.keyed some) closed.among)
      (λ some. member_is (λ (l : Left). IsSome l.told) so_far.left closed.left (stands.files.left_tell some) its_left)

  ruled : AllByRecursion (IsRuled start.settings) now_opened
  ruled = each_with next (IsRuled start.settings) so_far.opened stands.files.ruled (record {
    rule_is = ap (λ (n : ℕ). slice_get start.settings.inputs n) (sym of_one.input) ∙ is_ruled.rule_is ∙ ap Some of_one.rule;
    in_range = subst (λ (r : InputRule). IsGroupRule r.multiline) of_one.rule is_ruled.in_range;
  })

  keyed : IsSome start.shown → AllByRecursion IsKeyed now_opened
  keyed some = each_with next IsKeyed so_far.opened (stands.files.keyed some) (keyed_next some)

  firsts : first_opened (so_far.earlier ++ one ∷ []) now_opened ≡ first_opened so_far.earlier so_far.opened
  firsts = first_same next last (sym slot_same) so_far.earlier one so_far.opened refl only

  -- ---- slots

  abbrev lane_files : List Turned
  lane_files = all_of so_far.lanes

  abbrev rest : List Turned
  rest = lane_files ++ turned_in others

  were : AsOften (files_in so_far) (closed.left.turned ∷ rest)
  were h = omega (
    arith,
    weigh-append h lane_files (turned_in so_far.left),
    ap (λ (l : List Left). weigh h (turned_in l)) closed.left_are,
    ap (weigh h) (map-append (λ (l : Left). l.turned) closed.before (closed.left ∷ closed.behind)),
    weigh-append h (turned_in closed.before) (closed.left.turned ∷ turned_in closed.behind),
    weigh-append h lane_files (turned_in others),
    ap (weigh h) (map-append (λ (l : Left). l.turned) closed.before closed.behind),
    weigh-append h (turned_in closed.before) (turned_in closed.behind),
  )

  -- of the others none is of its slot
  no_other : Contains (slots_of rest) closed.left.turned.slot → ⊥
  no_other there = once_apart same_slot tells_slots closed.left.turned.slot (slots_of rest)
      (once_often same_slot tells_slots (slots_of (files_in so_far)) (closed.left.turned.slot ∷ slots_of rest) (often_mapped (λ (t : Turned). t.slot) (files_in so_far) (closed.left.turned ∷ rest) were)
      (files_once so_far.opened (files_in so_far) stands.files.each_once)) there

  slot_of_it : closed.left.turned.slot ≡ next.begin.slot
  slot_of_it = closed.slot_is ∙ of_one.slot

  other_slot : (t : Turned) → Contains rest t → t.slot.0 ≡ next.begin.slot.0 → ⊥
  other_slot t there is =
      let same : t.slot ≡ next.begin.slot = (λ k. record { 0 = is k }) in
      no_other (subst (Contains (slots_of rest)) (same ∙ sym slot_of_it) (mapped_there (λ (u : Turned). u.slot) rest t there))

  -- those of other slots stay
  still_there : (t : Turned) (file : Opened) → Contains rest t → t.slot ≡ file.begin.slot → Contains so_far.opened file → Contains now_opened file
  still_there t file there slot among = others_there next so_far.opened file among (λ same. other_slot t there (ap (λ (s : Slot). s.0) slot ∙ same))

  still_turned : Pairs (AreTurnedIn words.tails watch now_opened so_far.moments) so_far.lanes (lanings crew.lanes.items)
  still_turned = turned_lanes words.tails watch so_far.opened now_opened so_far.moments rest still_there so_far.lanes (lanings crew.lanes.items)
      (λ t there. Contains-append_left lane_files (turned_in others) t there) stands.files.turned

  of_left : (l : Left) → Contains others l → Contains so_far.left l
  of_left l there = subst (λ (ls : List Left). Contains ls l) (sym closed.left_are) (with_it_there closed.before closed.behind closed.left l there)

  forgotten_others : AreForgotten so_far.scans now_opened others so_far.forgotten
  forgotten_others = forgotten_again so_far.scans so_far.opened so_far.left last next slot_same closed.before closed.left closed.behind closed.left_are closed.slot_is so_far.forgotten closed.not_forgotten stands.files.forgotten

  still_left : AllByRecursion (IsLeftSo watch now_opened so_far.moments) others
  still_left = each_member (IsLeftSo watch now_opened so_far.moments) others (λ l there.
      let so = member_is (IsLeftSo watch so_far.opened so_far.moments) so_far.left l stands.files.left (of_left l there) in
      record {
        file = so.file;
        among = still_there l.turned so.file (Contains-append_right lane_files (turned_in others) l.turned (mapped_there (λ (m : Left). m.turned) others l there)) so.is_told.slot so.among;
        is_told = so.is_told;
        in_epochs = so.in_epochs;
      })

  still_tell : IsSome start.shown → AllByRecursion (λ (l : Left). IsSome l.told) others
  still_tell some = each_member (λ (l : Left). IsSome l.told) others (λ l there. member_is (λ (m : Left). IsSome m.told) so_far.left l (stands.files.left_tell some) (of_left l there))

  -- ---- the files that are turned or left

  module _ (files : List Turned) (often : AsOften files (fresh ∷ rest)) where
    each_once : AreEachOnce now_opened files
    each_once = record {
      rise = rise_with next 0 so_far.opened stands.files.each_once.rise;
      are = λ h. omega (
        arith,
        often_mapped (λ (t : Turned). t.slot) files (fresh ∷ rest) often h,
        often_mapped (λ (t : Turned). t.slot) (files_in so_far) (closed.left.turned ∷ rest) were h,
        ap h slot_of_it,
        stands.files.each_once.are h,
        ap (weigh h) (slots_with next so_far.opened),
      );
    }

    all_often : AsOften (told_before (so_far.earlier ++ one ∷ []) ++ files) (fresh ∷ all_told so_far)
    all_often h = omega (
      arith,
      weigh-append h (told_before (so_far.earlier ++ one ∷ [])) files,
      ap (weigh h) (map-append (λ (e : Earlier). e.left.turned) so_far.earlier (one ∷ [])),
      weigh-append h (told_before so_far.earlier) (closed.left.turned ∷ []),
      often h,
      were h,
      weigh-append h (told_before so_far.earlier) (files_in so_far),
    )

    abbrev all_files : List Turned
    all_files = told_before (so_far.earlier ++ one ∷ []) ++ files

    gave : HaveGiven so_far.told all_files
    gave = record {
      parcels = often_then so_far.told.issued (flat_map parcels_told (all_told so_far)) (flat_map parcels_told all_files) stands.books.gave.parcels
          (often_back (flat_map parcels_told all_files) (flat_map parcels_told (all_told so_far)) (told_as_often parcels_told all_files (fresh ∷ all_told so_far) all_often));
      notes_are = often_then so_far.told.noted (flat_map notes_told (all_told so_far)) (flat_map notes_told all_files) stands.books.gave.notes_are
          (often_back (flat_map notes_told all_files) (flat_map notes_told (all_told so_far)) (told_as_often notes_told all_files (fresh ∷ all_told so_far) all_often));
    }

    spans : spans_in all_files ≡ spans_in (all_told so_far)
    spans = let is = spans_often all_files (fresh ∷ all_told so_far) all_often in omega (arith, is)

  -- ---- what is noted

  module _ (new_keeper : Keeping) (tells : TellsNotes (announced_by one) keeper new_keeper) where
    orderly : AreOrderly (keeper.tracked.notes ++ announced_by one)
    orderly = by_epoch (next.begin.epoch.0 == closed.left.turned.history.present.epoch)
      where
        by_epoch : (b : Bool) → AreOrderly (keeper.tracked.notes ++ (if b then [] else Announce last.begin.slot next.begin.epoch ∷ []))
        by_epoch true = subst AreOrderly (sym (append-nil keeper.tracked.notes)) stands.notes.noted.mixed.orderly
        by_epoch false = one_more_orderly keeper.tracked.notes (Announce last.begin.slot next.begin.epoch) stands.notes.noted.mixed.orderly
            (begin_begins keeper.tracked.notes last.begin.slot
            (slot_begun so_far.scans start.opening start.listed so_far.opened so_far.hidden so_far.earlier so_far.forgotten keeper.tracked.notes so_far.begun so_far.collected stands.notes.noted.mixed stands.notes.begun last.begin.slot
            (mapped_there (λ (o : Opened). o.begin.slot) so_far.opened last closed.among)))

    noted : AreNoted start.opening new_keeper (noted_since (so_far.earlier ++ one ∷ []) so_far.forgotten ++ so_far.begun) so_far.collected
    noted = record {
      opening_is = more.opening_is;
      mixed = record {
        often = λ h. omega (
          arith,
          more.mixed.often h,
          weigh-append h ((noted_since so_far.earlier so_far.forgotten ++ so_far.begun) ++ announced_by one) so_far.collected,
          weigh-append h (noted_since so_far.earlier so_far.forgotten ++ so_far.begun) (announced_by one),
          weigh-append h (noted_since so_far.earlier so_far.forgotten) so_far.begun,
          weigh-append h (announced_in so_far.earlier) (forgets_in so_far.forgotten),
          weigh-append h (noted_since (so_far.earlier ++ one ∷ []) so_far.forgotten ++ so_far.begun) so_far.collected,
          weigh-append h (noted_since (so_far.earlier ++ one ∷ []) so_far.forgotten) so_far.begun,
          weigh-append h (announced_in (so_far.earlier ++ one ∷ [])) (forgets_in so_far.forgotten),
          ap (weigh h) (flat_map_both announced_by so_far.earlier (one ∷ [])),
          weigh-append h (announced_in so_far.earlier) (announced_in (one ∷ [])),
          weigh-append h (announced_by one) [],
        );
        orderly = more.mixed.orderly;
      };
      got = more.got;
    }
      where
        more : AreNoted start.opening new_keeper ((noted_since so_far.earlier so_far.forgotten ++ so_far.begun) ++ announced_by one) so_far.collected
        more = noted_more (announced_by one) keeper new_keeper tells start.opening (noted_since so_far.earlier so_far.forgotten ++ so_far.begun) so_far.collected orderly stands.notes.noted

    notes_now : Notes start new_keeper (record { scans = so_far.scans; opened = first_opened (so_far.earlier ++ one ∷ []) now_opened; hidden = so_far.hidden; since = noted_since (so_far.earlier ++ one ∷ []) so_far.forgotten; begun = so_far.begun; collected = so_far.collected })
    notes_now = record {
      counted = counted_more (announced_by one) keeper new_keeper tells stands.notes.counted;
      begun = subst (λ (l : List Opened). AreBeginNotes so_far.scans start.opening start.listed l so_far.hidden so_far.begun) (sym firsts) stands.notes.begun;
      hidden = stands.notes.hidden;
      noted = noted;
      stores = stores_more (announced_by one) keeper new_keeper tells stands.notes.stores;
    }

    areas_now : BeganAtRest words.disks start → HaveHeldFronts words.disks start.opening new_keeper.tracked.notes start.a start.b a b
    areas_now began = areas_more (announced_by one) keeper new_keeper tells words.disks reads counts start.opening start.a start.b a b (stands.areas began)

    -- ---- it is followed

    module _ (harvester : Harvester T) (turns : IsTurnedSo words.tails.numbers words.tails.told watch now_opened so_far.moments fresh harvester) (number : ℕ) (new : Crew T W L)
        (admits : AdmitsAt number harvester (lanings crew.lanes.items) (lanings new.lanes.items)) (others_are : new ≡ record crew { lanes = new.lanes }) (later : Option FolderHistory)
        (shows : IsShown shown next (words.tails.told harvester.tail) later) where
      abbrev olds : List (Laning T)
      olds = lanings crew.lanes.items

      abbrev news : List (Laning T)
      news = lanings new.lanes.items

      pub with_it : TurnedWith words.tails watch now_opened so_far.moments so_far.lanes fresh news
      with_it = subst (TurnedWith words.tails watch now_opened so_far.moments so_far.lanes fresh) (sym admits.are)
          (turned_at words.tails watch now_opened so_far.moments harvester fresh turns so_far.lanes admits.front admits.lane admits.back
          (subst (Pairs (AreTurnedIn words.tails watch now_opened so_far.moments) so_far.lanes) admits.were still_turned))

      abbrev pub after : SoFar
      after = record so_far { opened = now_opened; lanes = with_it.after; left = others; earlier = so_far.earlier ++ one ∷ [] }

      often : AsOften (files_in after) (fresh ∷ rest)
      often h = omega (arith, weigh-append h (all_of with_it.after) (turned_in others), with_it.are h, weigh-append h lane_files (turned_in others))

      slots_more : AsOften (slots_of (all_of with_it.after)) (next.begin.slot ∷ slots_of lane_files)
      slots_more = often_mapped (λ (t : Turned). t.slot) (all_of with_it.after) (fresh ∷ lane_files) with_it.are

      -- the tails of other slots that are turned were turned before
      turned_before : (other : Opened) → IsOther next other → IsTurnedIn (files_of after) other → IsTurnedIn (files_of so_far) other
      turned_before other is_other there =
          ⊎_elim (λ (same : next.begin.slot ≡ other.begin.slot). absurd (is_other (ap (λ (s : Slot). s.0) (sym same)))) (λ was. was)
          (there_cases next.begin.slot other.begin.slot (slots_of lane_files)
          (often_contains same_slot tells_slots (next.begin.slot ∷ slots_of lane_files) (slots_of (all_of with_it.after)) other.begin.slot
          (often_back (slots_of (all_of with_it.after)) (next.begin.slot ∷ slots_of lane_files) slots_more) there))

      has_shown : HasShown start.settings start.shown later (files_of after)
      has_shown = by_case start.shown shown later stands.files.shown shows
        where
          by_case : (first folder told : Option FolderHistory) → HasShown start.settings first folder (files_of so_far) → IsShown folder next (words.tails.told harvester.tail) told → HasShown start.settings first told (files_of after)
          by_case None None told was shows = shows.0
          by_case None (Some folder) told was shows = absurd cc
          by_case (Some first) None told was shows = absurd was
          by_case (Some first) (Some folder) told was shows =
              let adds = adds_opening folder next shows.opening shows.file_is in
              subst (λ (o : Option FolderHistory). HasShown start.settings (Some first) o (files_of after)) (sym shows.after_is)
              (opened_again_done start.settings first folder so_far was last closed next slot_same slots_apart only shows.opening _ adds (files_of after) refl refl refl
              (others_left start.settings first folder so_far was last closed next slot_same slots_apart only shows.opening _ adds (files_of after) refl refl refl)
              turned_before (λ turned. still_open_now folder next shows.opening shows.file_is))

      parcels_kept : held_parcels news ≡ held_parcels olds
      parcels_kept = parcels_same harvester number olds news admits

      notes_kept : held_notes news ≡ held_notes olds
      notes_kept = notes_same harvester number olds news admits

      placed : ArePlaced so_far.told news crew.carriers.items so_far.queued (notes new_keeper.pass.got) so_far.boxed
      placed = subst (λ (l : List Note). ArePlaced so_far.told news crew.carriers.items so_far.queued l so_far.boxed) (sym (got_same (announced_by one) keeper new_keeper tells))
          (placed_by olds news parcels_kept notes_kept so_far.told crew.carriers.items so_far.queued (notes keeper.pass.got) so_far.boxed stands.books.placed)

      spans_are : spans_told news < 2 ^ 64 - 1 → spans_in (all_told after) ≡ spans_told news
      spans_are few =
          let same = spans_same harvester number olds news admits in
          let is = stands.books.spans (omega (arith, few, same)) in
          let all = spans (files_in after) often in
          omega (arith, same, is, all)

      followed : Stands words start (at_phase words start moments a b later (record crew { lanes = new.lanes }) new_keeper Leaving) after
      followed = record {
        files = record {
          opened = subst (AllByRecursion _) (sym firsts) stands.files.opened;
          ruled = ruled;
          keyed = keyed;
          each_once = each_once (files_in after) often;
          turned = with_it.stand;
          left = still_left;
          earlier = earlier;
          forgotten = forgotten_others;
          reading = λ is. absurd (let no : Leaving ≡ Reading = is in cc);
          finished = λ is some. absurd (let no : Leaving ≡ Finished = is in cc);
          over = tt;
          read = λ yet some. absurd yet;
          answered = λ may some. absurd may;
          following = λ follows. absurd follows;
          tell = λ some. each_still harvester number olds news admits (λ (h : Harvester T). IsSome (words.tails.told h.tail))
              (shown_tells start.settings so_far next (words.tails.told harvester.tail) start.shown shown later stands.files.shown shows some) (stands.files.tell some);
          left_tell = still_tell;
          scans = stands.files.scans;
          listed = λ some. listed_again start.listed so_far.scans so_far.earlier one so_far.opened closed.among (listed_next some) (stands.files.listed some);
          shown = has_shown;
          given = stands.files.given;
        };
        books = record {
          gave = gave (files_in after) often;
          booked = booked_by olds news parcels_kept notes_kept words.links words.wires so_far.told crew.carriers.items (passes_same harvester number olds news admits) stands.books.booked;
          heard = stands.books.heard;
          placed = placed;
          backed = all_backed news crew.carriers.items so_far.queued (notes new_keeper.pass.got) so_far.boxed so_far.told (all_told after) (gave (files_in after) often) placed;
          spans = spans_are;
        };
        notes = notes_now;
        areas = areas_now;
      }

      pub stands_again : Stands words start (at_phase words start moments a b later new new_keeper Leaving) after
      stands_again = subst (λ (c : Crew T W L). Stands words start (at_phase words start moments a b later c new_keeper Leaving) after) (sym others_are) followed

      -- and what is known of it is that
      pub is_opened_again : IsOpenedAgain start.settings.processors now last next so_far after closed.left
      is_opened_again = record {
        of_one = of_one;
        starts = starts;
        front = closed.before;
        behind = closed.behind;
        left_were = closed.left_are;
        left_are = refl;
        earlier = refl;
        opened = refl;
        lanes = with_it.are;
        others = refl;
      }

    -- ---- or closed again, out of memory

    module _ (told : Option TailHistory) (looks_are : looks_so_far told ≡ next.asked) (only_reads : AllByRecursion (λ (look : Look). IsRead look.question) next.asked) (tail_is : IfSome told (IsTailOf next)) (tells_looks : IfSome told TellsLooks)
        (ends : EndsAt so_far.moments now) (faults : ℕ) (mid later : Option FolderHistory) (shows : IsShown shown next told mid) (closes : later ≡ with_events (closing_of told faults) mid) where
      abbrev left_one : Left
      left_one = record { turned = fresh; told = told }

      abbrev pub left_after : SoFar
      left_after = record so_far { opened = now_opened; left = others ++ left_one ∷ []; earlier = so_far.earlier ++ one ∷ [] }

      left_often : AsOften (files_in left_after) (fresh ∷ rest)
      left_often h = omega (
        arith,
        weigh-append h lane_files (turned_in (others ++ left_one ∷ [])),
        ap (weigh h) (map-append (λ (l : Left). l.turned) others (left_one ∷ [])),
        weigh-append h (turned_in others) (fresh ∷ []),
        weigh-append h lane_files (turned_in others),
      )

      left_shown : HasShown start.settings start.shown later (files_of left_after)
      left_shown = by_case start.shown shown mid later stands.files.shown shows closes
        where
          by_case : (first folder opened told_later : Option FolderHistory) → HasShown start.settings first folder (files_of so_far) → IsShown folder next told opened → told_later ≡ with_events (closing_of told faults) opened →
              HasShown start.settings first told_later (files_of left_after)
          by_case None None opened told_later was shows is = is ∙ ap (with_events (closing_of told faults)) shows.0
          by_case None (Some folder) opened told_later was shows is = absurd cc
          by_case (Some first) None opened told_later was shows is = absurd was
          by_case (Some first) (Some folder) opened told_later was shows is =
              let adds = adds_left folder next shows.opening shows.file_is only_reads faults in
              let then_told : FolderHistory = with_more folder (folders.Opened next.begin.path next.number next.begun ∷ folders.Closed next.opening next.asked faults ∷ []) in
              subst (λ (o : Option FolderHistory). HasShown start.settings (Some first) o (files_of left_after))
              (sym (both_are start.settings so_far next told only_reads faults folder opened told_later shows.after_is shows.told_is is))
              (opened_again_done start.settings first folder so_far was last closed next slot_same slots_apart only shows.opening _ adds (files_of left_after) refl refl refl
              (each_last (WasClosedAs then_told) others left_one (others_left start.settings first folder so_far was last closed next slot_same slots_apart only shows.opening _ adds (files_of left_after) refl refl refl)
              (subst (λ (o : Option TailHistory). IfSome o (λ tail. WasClosedWith then_told tail.opening tail.looks)) (sym shows.told_is) (closed_at_once folder next shows.opening shows.file_is only_reads faults)))
              (λ other is_other turned. turned)
              (λ turned. absurd (no_other (subst (Contains (slots_of rest)) (sym slot_of_it)
              (subst (λ (l : List Slot). Contains l next.begin.slot) (sym (map-append (λ (t : Turned). t.slot) lane_files (turned_in others))) (Contains-append_left (slots_of lane_files) (slots_of (turned_in others)) next.begin.slot turned))))))

      left_placed : ArePlaced so_far.told (lanings crew.lanes.items) crew.carriers.items so_far.queued (notes new_keeper.pass.got) so_far.boxed
      left_placed = subst (λ (l : List Note). ArePlaced so_far.told (lanings crew.lanes.items) crew.carriers.items so_far.queued l so_far.boxed) (sym (got_same (announced_by one) keeper new_keeper tells)) stands.books.placed

      pub stands_unread : Stands words start (at_phase words start moments a b later crew new_keeper Leaving) left_after
      stands_unread = record {
        files = record {
          opened = subst (AllByRecursion _) (sym firsts) stands.files.opened;
          ruled = ruled;
          keyed = keyed;
          each_once = each_once (files_in left_after) left_often;
          turned = still_turned;
          left = each_last (IsLeftSo watch now_opened so_far.moments) others left_one still_left (record {
            file = next;
            among = next_there next so_far.opened last closed.among slot_same;
            is_told = told_unread watch next so_far.moments now ends told looks_are tail_is tells_looks;
            in_epochs = (inl refl, tt);
          });
          earlier = earlier;
          forgotten = forgotten_left so_far.scans now_opened others (left_one ∷ []) so_far.forgotten forgotten_others;
          reading = λ is. absurd (let no : Leaving ≡ Reading = is in cc);
          finished = λ is some. absurd (let no : Leaving ≡ Finished = is in cc);
          over = tt;
          read = λ yet some. absurd yet;
          answered = λ may some. absurd may;
          following = λ follows. absurd follows;
          tell = stands.files.tell;
          left_tell = λ some. each_last (λ (l : Left). IsSome l.told) others left_one (still_tell some) (shown_tells start.settings so_far next told start.shown shown mid stands.files.shown shows some);
          scans = stands.files.scans;
          listed = λ some. listed_again start.listed so_far.scans so_far.earlier one so_far.opened closed.among (listed_next some) (stands.files.listed some);
          shown = left_shown;
          given = stands.files.given;
        };
        books = record {
          gave = gave (files_in left_after) left_often;
          booked = stands.books.booked;
          heard = stands.books.heard;
          placed = left_placed;
          backed = all_backed (lanings crew.lanes.items) crew.carriers.items so_far.queued (notes new_keeper.pass.got) so_far.boxed so_far.told (all_told left_after) (gave (files_in left_after) left_often) left_placed;
          spans = λ few. spans (files_in left_after) left_often ∙ stands.books.spans few;
        };
        notes = notes_now;
        areas = areas_now;
      }
