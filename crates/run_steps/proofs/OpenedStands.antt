-- A file that is opened first after a later scan keeps what stands of a run, with one more file.
use Rattle.std.proofs.Common.{◌≡◌, inl, inr, ⊎_elim, ℕ, ◌<◌, ◌≤◌, ◌^◌, ◌-◌, List, [], ◌∷◌, ◌++◌, Contains, map, append_assoc, Option, Some, None, IsSome, IfSome, refl, sym, ap, subst, ◌∙◌, arith}
use Rattle.std.proofs.lemmas.List.{map-append}
use Rattle.std.proofs.lemmas.List.Elements.{Contains-append_cases, Contains-append_left, Contains-append_right}
use Rattle.std.specs.List.{AllByRecursion, flat_map}
use Rattle.accounts.specs.Hidden.{Hidden, hidden_begin}
use Rattle.accounts.specs.Opened.{IsTailOf, Opened}
use Rattle.accounts.specs.Turned.{Turned, notes_told, parcels_told, spans_in}
use Rattle.accounts.specs.Turning.{IsTurnedSo, Pairs}
use Rattle.accounts.specs.Watch.{Watch}
use Rattle.accounts.proofs.Grounded.{each_member, of_map}
use Rattle.accounts.proofs.Joining.{same_slot, tells_slots, told_as_often}
use Rattle.accounts.proofs.Lists.{each_last, each_then}
use Rattle.accounts.proofs.Often.{often_back, often_contains, often_then}
use Rattle.accounts.proofs.Ordered.{one_more_orderly}
use Rattle.accounts.proofs.Orderly.{member_is}
use Rattle.file_identity.specs.AskedAgain.{IsRead}
use Rattle.file_looks.specs.Looks.{TellsLooks}
use Rattle.harvester.specs.HasTold.{looks_so_far}
use Rattle.harvester.specs.Standing.{EndsAt}
use Rattle.harvester.specs.declared.harvester.Harvester.{Harvester}
use Rattle.keeper.specs.Keeping.{Keeping, held_in}
use Rattle.lanes.specs.Laning.{Laning}
use Rattle.outside.specs.Folders as folders
use Rattle.outside.specs.Folders.{FolderHistory}
use Rattle.outside.specs.Tails.{TailHistory}
use Rattle.outside.specs.declared.history.Look.{Look}
use Rattle.told_scans.specs.OnlyAsked.{WasClosedWith}
use Rattle.pass_sums.specs.Weight.{AsOften, weigh}
use Rattle.pass_sums.proofs.Weights.{weigh-append}
use Rattle.prospect.specs.declared.listed.Listed.{Listed}
use Rattle.rounds.specs.Books.{ArePlaced, flat, held_notes, held_parcels}
use Rattle.rounds.specs.Crewed.{lanings}
use Rattle.rounds.specs.Settled.{spans_told}
use Rattle.rounds.specs.Words.{Words}
use Rattle.rounds.specs.declared.crew.Crew.{Crew}
use Rattle.settle_box.specs.Senders.{notes}
use Rattle.ship_core.proofs.Members.{first_there, there_cases}
use Rattle.ship_core.specs.Orderly.{AreOrderly}
use Rattle.wire_base.specs.declared.note.Note.{Note}
use Rattle.wire_base.specs.declared.numbers.Slot.{Slot}
use Rattle.wire_base.specs.declared.row.Row.{Row}
use Rattle.run_steps.specs.Areas.{BeganAtRest, HaveHeldFronts}
use Rattle.run_steps.specs.Began.{Began}
use Rattle.run_steps.specs.Beginning.{AdmitsAt}
use Rattle.run_steps.specs.Begun.{AreBeginNotes, IsKeyed, IsOpenedAsListed, IsRuled, MayBegin, noted_begin}
use Rattle.run_steps.specs.Earlier.{AreEarlier, AreInTurn, IsEarlierSo}
use Rattle.run_steps.specs.LaterScans.{LaterScan}
use Rattle.run_steps.specs.OpenedFirst.{IsFreeSlot, IsOpenedFirst, put_opened}
use Rattle.run_steps.specs.RunState.{Finished, Leaving, Reading}
use Rattle.run_steps.specs.Releasing.{closing_of, with_events}
use Rattle.run_steps.specs.Shown.{HasShown, IsTurnedIn, WasClosedAs}
use Rattle.run_steps.specs.Forgotten.{AreForgotten, IsForgottenSo}
use Rattle.run_steps.specs.ListedSo.{WasListedSo}
use Rattle.run_steps.specs.SoFar.{Earlier, Left, SoFar, all_told, files_in, files_of, first_opened, noted_since, opened_before, told_before}
use Rattle.run_steps.specs.Stands.{AreEachOnce, AreNoted, AreTurnedIn, HaveGiven, IsLeftSo, Notes, Stands, watch_of}
use Rattle.run_steps.specs.Telling.{TellsNotes}
use Rattle.run_steps.proofs.ForgottenOn.{forgotten_left, still_forgotten}
use Rattle.run_steps.proofs.Admitting.{TurnedWith, all_of, booked_by, each_still, notes_same, often_mapped, parcels_same, passes_same, placed_by, spans_often, spans_same, turned_at}
use Rattle.run_steps.proofs.BeginningOne.{at_phase}
use Rattle.run_steps.proofs.BeginningSteps.{shown_tells}
use Rattle.run_steps.proofs.BegunFolder.{both_are}
use Rattle.run_steps.proofs.BegunNotes.{areas_more, counted_more, got_same, noted_more, stores_more}
use Rattle.run_steps.proofs.Grounds.{all_backed, have_ground}
use Rattle.run_steps.proofs.NoBegin.{nothing_noted}
use Rattle.run_steps.proofs.OpenedFolder.{opened_first_done}
use Rattle.run_steps.proofs.Openings.{adds_left, adds_opening, closed_at_once, left_stays, still_open_now, with_more}
use Rattle.run_steps.proofs.PutOpened.{HasOther, put_cases, put_first, put_first_of, put_others, put_rise, put_slots, put_there}
use Rattle.run_steps.proofs.ReopenedLanes.{turned_lanes}
use Rattle.run_steps.proofs.TailOpened.{IsShown, opened_now, told_unread}

abbrev slots_of : List Turned → List Slot
slots_of files = map (λ (turned : Turned). turned.slot) files

abbrev turned_in : List Left → List Turned
turned_in left = map (λ (l : Left). l.turned) left

each_put : (P : Opened → Type 0) (one : Opened) (some : List Opened) → AllByRecursion P some → P one → AllByRecursion P (put_opened one some)
each_put P one some each is = each_member P (put_opened one some) (λ x there. ⊎_elim (λ same. subst P (sym same) is) (member_is P some x each) (put_cases one some x there))

with_all : (P : Opened → Type 0) (one : Opened) (front some : List Opened) → AllByRecursion P (front ++ some) → P one → AllByRecursion P (front ++ put_opened one some)
with_all P one front some each is = each_member P (front ++ put_opened one some) (λ x there.
    ⊎_elim (λ early. member_is P (front ++ some) x each (Contains-append_left front some x early))
    (λ late. ⊎_elim (λ same. subst P (sym same) is) (λ old. member_is P (front ++ some) x each (Contains-append_right front some x old)) (put_cases one some x late))
    (Contains-append_cases front (put_opened one some) x there))

-- what the run might tell of some it may tell of more
may_of_more : (scans : List LaterScan) (rows : List Row) (listed : List Listed) (some more : List Opened) (hiddens : List Hidden) (note : Note) → ((x : Opened) → Contains some x → Contains more x) →
    MayBegin scans rows listed some hiddens note → MayBegin scans rows listed more hiddens note
may_of_more scans rows listed some more hiddens note within (inl of) = inl (record { file = of.file; among = within of.file of.among; is = of.is })
may_of_more scans rows listed some more hiddens note within (inr (inl of)) =
    inr (inl (record { file = of.file; among = within of.file of.among; one = of.one; listed_there = of.listed_there; is = of.is }))
may_of_more scans rows listed some more hiddens note within (inr (inr (inl of))) = inr (inr (inl of))
may_of_more scans rows listed some more hiddens note within (inr (inr (inr of))) =
    inr (inr (inr (record { file = of.file; among = within of.file of.among; name = of.name; named = of.named; is = of.is })))

module _ {T W L D : Type 0} (words : Words T W L D) (reads : (disk : D) → IfSome (words.disks.contents disk) (words.disks.images disk))
    (counts : (disk : D) (at : ℕ) (image : List ℕ) → at ≤ words.disks.moment disk → words.disks.images disk image → words.disks.images_since disk at image)
    (start : Began D) (moments : Option (List ℕ)) (a b : D) (now : ℕ) (shown : Option FolderHistory) (crew : Crew T W L) (keeper : Keeping) (so_far : SoFar)
    (stands : Stands words start (at_phase words start moments a b shown crew keeper Leaving) so_far)
    (one : Opened) (as_listed : IsOpenedAsListed start.settings start.shown start.opening start.listed so_far.scans one) (its_rule : IsRuled start.settings one)
    (its_key : IsSome start.shown → IsKeyed one) (free : IsFreeSlot one.begin.slot so_far) (its_listing : IsSome start.shown → WasListedSo start.listed so_far.scans one) where
  abbrev watch : Watch
  watch = watch_of start so_far.scans

  abbrev now_opened : List Opened
  now_opened = put_opened one so_far.opened

  abbrev firsts : List Opened
  firsts = first_opened so_far.earlier so_far.opened

  abbrev fresh : Turned
  fresh = opened_now start.settings.processors one now

  abbrev note_told : Note
  note_told = noted_begin one.begin

  still_forgotten_so : AreForgotten so_far.scans now_opened so_far.left so_far.forgotten
  still_forgotten_so = each_then (IsForgottenSo so_far.scans so_far.opened so_far.left) (IsForgottenSo so_far.scans now_opened so_far.left) so_far.forgotten
      (λ file so. still_forgotten so_far.scans so_far.opened now_opened so_far.left so_far.left file so (put_others one so_far.opened file.opened so.among) so.of_left) stands.files.forgotten

  other : (x : Opened) → Contains so_far.opened x → HasOther one x
  other x there same = free.no_file x there (λ k. record { 0 = same k })

  others : AllByRecursion (HasOther one) so_far.opened
  others = each_member (HasOther one) so_far.opened other

  other_before : (e : Earlier) → Contains so_far.earlier e → HasOther one e.opened
  other_before e there same =
      let so = member_is (IsEarlierSo watch so_far.opened so_far.moments) so_far.earlier e stands.files.earlier.each there in
      other so.last so.among (ap (λ (s : Slot). s.0) (sym so.of_one.slot) ∙ same)

  others_before : AllByRecursion (λ (e : Earlier). HasOther one e.opened) so_far.earlier
  others_before = each_member (λ (e : Earlier). HasOther one e.opened) so_far.earlier other_before

  firsts_are : first_opened so_far.earlier now_opened ≡ put_opened one firsts
  firsts_are = put_first one so_far.earlier so_far.opened others_before

  opened_as : AllByRecursion (IsOpenedAsListed start.settings start.shown start.opening start.listed so_far.scans) (first_opened so_far.earlier now_opened)
  opened_as = subst (AllByRecursion (IsOpenedAsListed start.settings start.shown start.opening start.listed so_far.scans)) (sym firsts_are)
      (each_put (IsOpenedAsListed start.settings start.shown start.opening start.listed so_far.scans) one firsts stands.files.opened as_listed)

  ruled : AllByRecursion (IsRuled start.settings) now_opened
  ruled = each_put (IsRuled start.settings) one so_far.opened stands.files.ruled its_rule

  keyed : IsSome start.shown → AllByRecursion IsKeyed now_opened
  keyed some = each_put IsKeyed one so_far.opened (stands.files.keyed some) (its_key some)

  still_turned : Pairs (AreTurnedIn words.tails watch now_opened so_far.moments) so_far.lanes (lanings crew.lanes.items)
  still_turned = turned_lanes words.tails watch so_far.opened now_opened so_far.moments (all_of so_far.lanes) (λ t file there slot among. put_others one so_far.opened file among)
      so_far.lanes (lanings crew.lanes.items) (λ t there. there) stands.files.turned

  still_left : AllByRecursion (IsLeftSo watch now_opened so_far.moments) so_far.left
  still_left = each_then (IsLeftSo watch so_far.opened so_far.moments) (IsLeftSo watch now_opened so_far.moments) so_far.left
      (λ l so. record { file = so.file; among = put_others one so_far.opened so.file so.among; is_told = so.is_told; in_epochs = so.in_epochs }) stands.files.left

  in_turn : (earlier : List Earlier) → AllByRecursion (λ (e : Earlier). HasOther one e.opened) earlier → AreInTurn so_far.opened earlier → AreInTurn now_opened earlier
  in_turn [] apart turn = tt
  in_turn (e ∷ earlier) apart turn = (
    put_first_of one e.opened.begin.slot (λ same. apart.0 (sym same)) (opened_before earlier) so_far.opened ∙ turn.0,
    turn.1,
    in_turn earlier apart.1 turn.2,
  )

  earlier : AreEarlier watch start.shown now_opened so_far.moments so_far.earlier
  earlier = record {
    none_with_once = stands.files.earlier.none_with_once;
    each = each_then (IsEarlierSo watch so_far.opened so_far.moments) (IsEarlierSo watch now_opened so_far.moments) so_far.earlier
        (λ e so. record {
          is_told = so.is_told;
          in_epochs = so.in_epochs;
          may = so.may;
          goes_on = so.goes_on;
          last = so.last;
          among = put_others one so_far.opened so.last so.among;
          of_one = so.of_one;
          ends = so.ends;
        }) stands.files.earlier.each;
    in_turn = in_turn so_far.earlier others_before stands.files.earlier.in_turn;
    keyed = stands.files.earlier.keyed;
    tell = stands.files.earlier.tell;
  }

  -- ---- the files that are turned or left

  module _ (files : List Turned) (often : AsOften files (fresh ∷ files_in so_far)) where
    each_once : AreEachOnce now_opened files
    each_once = record {
      rise = put_rise one 0 so_far.opened stands.files.each_once.rise (omega arith) others;
      are = λ h. omega (
        arith,
        often_mapped (λ (t : Turned). t.slot) files (fresh ∷ files_in so_far) often h,
        stands.files.each_once.are h,
        put_slots one so_far.opened h,
      );
    }

    abbrev all_files : List Turned
    all_files = told_before so_far.earlier ++ files

    all_often : AsOften all_files (fresh ∷ all_told so_far)
    all_often h = omega (arith, weigh-append h (told_before so_far.earlier) files, often h, weigh-append h (told_before so_far.earlier) (files_in so_far))

    gave : HaveGiven so_far.told all_files
    gave = record {
      parcels = often_then so_far.told.issued (flat_map parcels_told (all_told so_far)) (flat_map parcels_told all_files) stands.books.gave.parcels
          (often_back (flat_map parcels_told all_files) (flat_map parcels_told (all_told so_far)) (told_as_often parcels_told all_files (fresh ∷ all_told so_far) all_often));
      notes_are = often_then so_far.told.noted (flat_map notes_told (all_told so_far)) (flat_map notes_told all_files) stands.books.gave.notes_are
          (often_back (flat_map notes_told all_files) (flat_map notes_told (all_told so_far)) (told_as_often notes_told all_files (fresh ∷ all_told so_far) all_often));
    }

    spans : spans_in all_files ≡ spans_in (all_told so_far)
    spans = let is = spans_often all_files (fresh ∷ all_told so_far) all_often in omega (arith, is)

  -- ---- what is noted

  module _ (new_keeper : Keeping) (tells : TellsNotes (note_told ∷ []) keeper new_keeper) where
    abbrev told_begun : List Note
    told_begun = so_far.begun ++ note_told ∷ []

    orderly : AreOrderly (keeper.tracked.notes ++ note_told ∷ [])
    orderly =
        let ground = have_ground (lanings crew.lanes.items) crew.carriers.items so_far.queued (notes keeper.pass.got) so_far.boxed so_far.told (all_told so_far) stands.books.gave stands.books.placed
        (all_told so_far) (λ h. refl) so_far.collected (held_in keeper.held) stands.notes.noted.got in
        one_more_orderly keeper.tracked.notes note_told stands.notes.noted.mixed.orderly
        (nothing_noted so_far.scans start.opening start.listed so_far.opened so_far.hidden so_far.earlier so_far.forgotten keeper.tracked.notes so_far.begun so_far.collected stands.notes.noted.mixed stands.notes.begun
        (all_told so_far) (flat so_far.told.acknowledged) ground one.begin.slot free.no_file free.no_hidden)

    begun : AreBeginNotes so_far.scans start.opening start.listed (put_opened one firsts) so_far.hidden told_begun
    begun = record {
      each = each_last (MayBegin so_far.scans start.opening start.listed (put_opened one firsts) so_far.hidden) so_far.begun note_told
          (each_then (MayBegin so_far.scans start.opening start.listed firsts so_far.hidden) (MayBegin so_far.scans start.opening start.listed (put_opened one firsts) so_far.hidden) so_far.begun
          (λ note may. may_of_more so_far.scans start.opening start.listed firsts (put_opened one firsts) so_far.hidden note (put_others one firsts) may) stands.notes.begun.each)
          (inl (record { file = one; among = put_there one firsts; is = refl }));
      begun = each_put (λ (o : Opened). Contains told_begun (noted_begin o.begin)) one firsts
          (each_then (λ (o : Opened). Contains so_far.begun (noted_begin o.begin)) (λ (o : Opened). Contains told_begun (noted_begin o.begin)) firsts
          (λ o there. Contains-append_left so_far.begun (note_told ∷ []) (noted_begin o.begin) there) stands.notes.begun.begun)
          (Contains-append_right so_far.begun (note_told ∷ []) note_told (first_there note_told []));
      hidden_begun = each_then (λ (h : Hidden). Contains so_far.begun (hidden_begin h)) (λ (h : Hidden). Contains told_begun (hidden_begin h)) so_far.hidden
          (λ h there. Contains-append_left so_far.begun (note_told ∷ []) (hidden_begin h) there) stands.notes.begun.hidden_begun;
    }

    notes_now : Notes start new_keeper (record { scans = so_far.scans; opened = first_opened so_far.earlier now_opened; hidden = so_far.hidden; since = noted_since so_far.earlier so_far.forgotten; begun = told_begun; collected = so_far.collected })
    notes_now = record {
      counted = counted_more (note_told ∷ []) keeper new_keeper tells stands.notes.counted;
      begun = subst (λ (l : List Opened). AreBeginNotes so_far.scans start.opening start.listed l so_far.hidden told_begun) (sym firsts_are) begun;
      hidden = stands.notes.hidden;
      noted = subst (λ (l : List Note). AreNoted start.opening new_keeper l so_far.collected) (append_assoc (noted_since so_far.earlier so_far.forgotten) so_far.begun (note_told ∷ []))
          (noted_more (note_told ∷ []) keeper new_keeper tells start.opening (noted_since so_far.earlier so_far.forgotten ++ so_far.begun) so_far.collected orderly stands.notes.noted);
      stores = stores_more (note_told ∷ []) keeper new_keeper tells stands.notes.stores;
    }

    areas_now : BeganAtRest words.disks start → HaveHeldFronts words.disks start.opening new_keeper.tracked.notes start.a start.b a b
    areas_now began = areas_more (note_told ∷ []) keeper new_keeper tells words.disks reads counts start.opening start.a start.b a b (stands.areas began)

    -- ---- it is followed

    module _ (harvester : Harvester T) (turns : IsTurnedSo words.tails.numbers words.tails.told watch now_opened so_far.moments fresh harvester) (number : ℕ) (new : Crew T W L)
        (admits : AdmitsAt number harvester (lanings crew.lanes.items) (lanings new.lanes.items)) (others_are : new ≡ record crew { lanes = new.lanes }) (later : Option FolderHistory)
        (shows : IsShown shown one (words.tails.told harvester.tail) later) where
      abbrev olds : List (Laning T)
      olds = lanings crew.lanes.items

      abbrev news : List (Laning T)
      news = lanings new.lanes.items

      pub with_it : TurnedWith words.tails watch now_opened so_far.moments so_far.lanes fresh news
      with_it = subst (TurnedWith words.tails watch now_opened so_far.moments so_far.lanes fresh) (sym admits.are)
          (turned_at words.tails watch now_opened so_far.moments harvester fresh turns so_far.lanes admits.front admits.lane admits.back
          (subst (Pairs (AreTurnedIn words.tails watch now_opened so_far.moments) so_far.lanes) admits.were still_turned))

      abbrev pub after : SoFar
      after = record so_far { opened = now_opened; lanes = with_it.after; begun = told_begun }

      often : AsOften (files_in after) (fresh ∷ files_in so_far)
      often h = omega (arith, weigh-append h (all_of with_it.after) (turned_in so_far.left), with_it.are h, weigh-append h (all_of so_far.lanes) (turned_in so_far.left))

      slots_more : AsOften (slots_of (all_of with_it.after)) (one.begin.slot ∷ slots_of (all_of so_far.lanes))
      slots_more = often_mapped (λ (t : Turned). t.slot) (all_of with_it.after) (fresh ∷ all_of so_far.lanes) with_it.are

      -- the tails of other slots that are turned were turned before
      turned_before : (x : Opened) → Contains so_far.opened x → IsTurnedIn (files_of after) x → IsTurnedIn (files_of so_far) x
      turned_before x among there =
          ⊎_elim (λ (same : one.begin.slot ≡ x.begin.slot). absurd (other x among (ap (λ (s : Slot). s.0) (sym same)))) (λ was. was)
          (there_cases one.begin.slot x.begin.slot (slots_of (all_of so_far.lanes))
          (often_contains same_slot tells_slots (one.begin.slot ∷ slots_of (all_of so_far.lanes)) (slots_of (all_of with_it.after)) x.begin.slot
          (often_back (slots_of (all_of with_it.after)) (one.begin.slot ∷ slots_of (all_of so_far.lanes)) slots_more) there))

      has_shown : HasShown start.settings start.shown later (files_of after)
      has_shown = by_case start.shown shown later stands.files.shown shows
        where
          by_case : (first folder told : Option FolderHistory) → HasShown start.settings first folder (files_of so_far) → IsShown folder one (words.tails.told harvester.tail) told → HasShown start.settings first told (files_of after)
          by_case None None told was shows = shows.0
          by_case None (Some folder) told was shows = absurd cc
          by_case (Some first) None told was shows = absurd was
          by_case (Some first) (Some folder) told was shows =
              subst (λ (o : Option FolderHistory). HasShown start.settings (Some first) o (files_of after)) (sym shows.after_is)
              (opened_first_done start.settings first folder so_far was one shows.opening _ (adds_opening folder one shows.opening shows.file_is) (files_of after) refl refl refl
              (left_stays start.settings first folder so_far was (folders.Opened one.begin.path one.number one.begun ∷ []) so_far.left was.closed)
              turned_before (λ turned. still_open_now folder one shows.opening shows.file_is))

      parcels_kept : held_parcels news ≡ held_parcels olds
      parcels_kept = parcels_same harvester number olds news admits

      notes_kept : held_notes news ≡ held_notes olds
      notes_kept = notes_same harvester number olds news admits

      placed : ArePlaced so_far.told news crew.carriers.items so_far.queued (notes new_keeper.pass.got) so_far.boxed
      placed = subst (λ (l : List Note). ArePlaced so_far.told news crew.carriers.items so_far.queued l so_far.boxed) (sym (got_same (note_told ∷ []) keeper new_keeper tells))
          (placed_by olds news parcels_kept notes_kept so_far.told crew.carriers.items so_far.queued (notes keeper.pass.got) so_far.boxed stands.books.placed)

      spans_are : spans_told news < 2 ^ 64 - 1 → spans_in (all_told after) ≡ spans_told news
      spans_are few =
          let same = spans_same harvester number olds news admits in
          let is = stands.books.spans (omega (arith, few, same)) in
          let all = spans (files_in after) often in
          omega (arith, same, is, all)

      followed : Stands words start (at_phase words start moments a b later (record crew { lanes = new.lanes }) new_keeper Leaving) after
      followed = record {
        files = record {
          opened = opened_as;
          ruled = ruled;
          keyed = keyed;
          each_once = each_once (files_in after) often;
          turned = with_it.stand;
          left = still_left;
          earlier = earlier;
          forgotten = still_forgotten_so;
          reading = λ is. absurd (let no : Leaving ≡ Reading = is in cc);
          finished = λ is some. absurd (let no : Leaving ≡ Finished = is in cc);
          over = tt;
          read = λ yet some. absurd yet;
          answered = λ may some. absurd may;
          following = λ follows. absurd follows;
          listed = λ some. with_all (WasListedSo start.listed so_far.scans) one (opened_before so_far.earlier) so_far.opened (stands.files.listed some) (its_listing some);
          tell = λ some. each_still harvester number olds news admits (λ (h : Harvester T). IsSome (words.tails.told h.tail))
              (shown_tells start.settings so_far one (words.tails.told harvester.tail) start.shown shown later stands.files.shown shows some) (stands.files.tell some);
          left_tell = stands.files.left_tell;
          scans = stands.files.scans;
          shown = has_shown;
          given = stands.files.given;
        };
        books = record {
          gave = gave (files_in after) often;
          booked = booked_by olds news parcels_kept notes_kept words.links words.wires so_far.told crew.carriers.items (passes_same harvester number olds news admits) stands.books.booked;
          heard = stands.books.heard;
          placed = placed;
          backed = all_backed news crew.carriers.items so_far.queued (notes new_keeper.pass.got) so_far.boxed so_far.told (all_told after) (gave (files_in after) often) placed;
          spans = spans_are;
        };
        notes = notes_now;
        areas = areas_now;
      }

      pub stands_opened_first : Stands words start (at_phase words start moments a b later new new_keeper Leaving) after
      stands_opened_first = subst (λ (c : Crew T W L). Stands words start (at_phase words start moments a b later c new_keeper Leaving) after) (sym others_are) followed

      -- and what is known of it is that
      pub is_opened_first : IsOpenedFirst start.settings.processors now one so_far after
      is_opened_first = record { opened = refl; begun = refl; lanes = with_it.are; others = refl }

    -- ---- or closed again, out of memory

    module _ (told : Option TailHistory) (looks_are : looks_so_far told ≡ one.asked) (only_reads : AllByRecursion (λ (look : Look). IsRead look.question) one.asked) (tail_is : IfSome told (IsTailOf one)) (tells_looks : IfSome told TellsLooks)
        (ends : EndsAt so_far.moments now) (faults : ℕ) (mid later : Option FolderHistory) (shows : IsShown shown one told mid) (closes : later ≡ with_events (closing_of told faults) mid) where
      abbrev left_one : Left
      left_one = record { turned = fresh; told = told }

      abbrev pub left_after : SoFar
      left_after = record so_far { opened = now_opened; left = so_far.left ++ left_one ∷ []; begun = told_begun }

      left_often : AsOften (files_in left_after) (fresh ∷ files_in so_far)
      left_often h = omega (
        arith,
        weigh-append h (all_of so_far.lanes) (turned_in (so_far.left ++ left_one ∷ [])),
        ap (weigh h) (map-append (λ (l : Left). l.turned) so_far.left (left_one ∷ [])),
        weigh-append h (turned_in so_far.left) (fresh ∷ []),
        weigh-append h (all_of so_far.lanes) (turned_in so_far.left),
      )

      -- none of its slot is turned
      not_turned : IsTurnedIn (files_of so_far) one → ⊥
      not_turned there =
          let is_there = often_contains same_slot tells_slots (map (λ (o : Opened). o.begin.slot) so_far.opened) (slots_of (files_in so_far)) one.begin.slot
          (often_back (slots_of (files_in so_far)) (map (λ (o : Opened). o.begin.slot) so_far.opened) stands.files.each_once.are)
          (subst (λ (l : List Slot). Contains l one.begin.slot) (sym (map-append (λ (t : Turned). t.slot) (all_of so_far.lanes) (turned_in so_far.left)))
          (Contains-append_left (slots_of (all_of so_far.lanes)) (slots_of (turned_in so_far.left)) one.begin.slot there)) in
          let of = of_map (λ (o : Opened). o.begin.slot) so_far.opened one.begin.slot is_there in
          free.no_file of.item of.among of.is

      left_shown : HasShown start.settings start.shown later (files_of left_after)
      left_shown = by_case start.shown shown mid later stands.files.shown shows closes
        where
          by_case : (first folder opened told_later : Option FolderHistory) → HasShown start.settings first folder (files_of so_far) → IsShown folder one told opened → told_later ≡ with_events (closing_of told faults) opened →
              HasShown start.settings first told_later (files_of left_after)
          by_case None None opened told_later was shows is = is ∙ ap (with_events (closing_of told faults)) shows.0
          by_case None (Some folder) opened told_later was shows is = absurd cc
          by_case (Some first) None opened told_later was shows is = absurd was
          by_case (Some first) (Some folder) opened told_later was shows is =
              let adds = adds_left folder one shows.opening shows.file_is only_reads faults in
              let then_told : FolderHistory = with_more folder (folders.Opened one.begin.path one.number one.begun ∷ folders.Closed one.opening one.asked faults ∷ []) in
              subst (λ (o : Option FolderHistory). HasShown start.settings (Some first) o (files_of left_after))
              (sym (both_are start.settings so_far one told only_reads faults folder opened told_later shows.after_is shows.told_is is))
              (opened_first_done start.settings first folder so_far was one shows.opening _ adds (files_of left_after) refl refl refl
              (each_last (WasClosedAs then_told) so_far.left left_one
              (left_stays start.settings first folder so_far was (folders.Opened one.begin.path one.number one.begun ∷ folders.Closed one.opening one.asked faults ∷ []) so_far.left was.closed)
              (subst (λ (o : Option TailHistory). IfSome o (λ tail. WasClosedWith then_told tail.opening tail.looks)) (sym shows.told_is) (closed_at_once folder one shows.opening shows.file_is only_reads faults)))
              (λ x among turned. turned) (λ turned. absurd (not_turned turned)))

      left_placed : ArePlaced so_far.told (lanings crew.lanes.items) crew.carriers.items so_far.queued (notes new_keeper.pass.got) so_far.boxed
      left_placed = subst (λ (l : List Note). ArePlaced so_far.told (lanings crew.lanes.items) crew.carriers.items so_far.queued l so_far.boxed) (sym (got_same (note_told ∷ []) keeper new_keeper tells)) stands.books.placed

      pub stands_given_up : Stands words start (at_phase words start moments a b later crew new_keeper Leaving) left_after
      stands_given_up = record {
        files = record {
          opened = opened_as;
          ruled = ruled;
          keyed = keyed;
          each_once = each_once (files_in left_after) left_often;
          turned = still_turned;
          left = each_last (IsLeftSo watch now_opened so_far.moments) so_far.left left_one still_left (record {
            file = one;
            among = put_there one so_far.opened;
            is_told = told_unread watch one so_far.moments now ends told looks_are tail_is tells_looks;
            in_epochs = (inl refl, tt);
          });
          earlier = earlier;
          forgotten = forgotten_left so_far.scans now_opened so_far.left (left_one ∷ []) so_far.forgotten still_forgotten_so;
          reading = λ is. absurd (let no : Leaving ≡ Reading = is in cc);
          finished = λ is some. absurd (let no : Leaving ≡ Finished = is in cc);
          over = tt;
          read = λ yet some. absurd yet;
          answered = λ may some. absurd may;
          following = λ follows. absurd follows;
          listed = λ some. with_all (WasListedSo start.listed so_far.scans) one (opened_before so_far.earlier) so_far.opened (stands.files.listed some) (its_listing some);
          tell = stands.files.tell;
          left_tell = λ some. each_last (λ (l : Left). IsSome l.told) so_far.left left_one (stands.files.left_tell some) (shown_tells start.settings so_far one told start.shown shown mid stands.files.shown shows some);
          scans = stands.files.scans;
          shown = left_shown;
          given = stands.files.given;
        };
        books = record {
          gave = gave (files_in left_after) left_often;
          booked = stands.books.booked;
          heard = stands.books.heard;
          placed = left_placed;
          backed = all_backed (lanings crew.lanes.items) crew.carriers.items so_far.queued (notes new_keeper.pass.got) so_far.boxed so_far.told (all_told left_after) (gave (files_in left_after) left_often) left_placed;
          spans = λ few. spans (files_in left_after) left_often ∙ stands.books.spans few;
        };
        notes = notes_now;
        areas = areas_now;
      }
