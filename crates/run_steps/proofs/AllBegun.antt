-- Beginning all listed files keeps what stands of a run in which none was begun yet.
use Rattle.std.proofs.Common.{◌≡◌, inl, inr, ℕ, zero, suc, ◌+◌, ◌≤◌, List, [], ◌∷◌, ◌++◌, length, map, take, append_assoc, Option, Some, None, IfSome, Result, Ok, Err, IfOk, IfErr, Bool, true, false, refl, sym, ap, subst, ◌∙◌, arith}
use Rattle.std.proofs.lemmas.List.{length-append}
use Rattle.std.specs.Prelude.{slice_get}
use Rattle.std.specs.List.{AllByRecursion, flat_map}
use Rattle.accounts.specs.Hidden.{Hidden}
use Rattle.accounts.specs.Opened.{Opened}
use Rattle.accounts.specs.Turned.{Turned, notes_told, parcels_told}
use Rattle.accounts.proofs.Often.{often_counted}
use Rattle.batch_worker.specs.Held.{notes_of}
use Rattle.harvester.specs.Standing.{EndsAt}
use Rattle.keeper.specs.Keeping.{Keeping, held_in}
use Rattle.prospect.specs.declared.listed.Listed.{Listed}
use Rattle.rounds.specs.Books.{carried_by, flat, held_notes, held_parcels, owed_notes}
use Rattle.rounds.specs.Crewed.{lanings}
use Rattle.rounds.specs.Words.{Words}
use Rattle.settle_box.specs.Senders.{notes}
use Rattle.ship_core.proofs.Members.{none_there}
use Rattle.wire_base.specs.declared.note.Note.{Note}
use Rattle.wire_base.specs.declared.numbers.Moment.{Moment}
use Rattle.wire_base.specs.declared.parcel.Parcel.{Parcel}
use Rattle.run_steps.specs.Began.{Began}
use Rattle.run_steps.specs.Beginning.{Beginning}
use Rattle.run_steps.specs.BeginsAll.{BeginsAll, BeginsFrom, BeginsSome, Came, IsOfRuledInput, came_of}
use Rattle.run_steps.specs.Begun.{AreAllSeen, IsOpenedAsListedFirst, MayBegin, noted_begin}
use Rattle.run_steps.specs.HiddenRows.{HidesBegun}
use Rattle.run_steps.specs.MetBy.{phase_reading}
use Rattle.run_steps.specs.RunState.{Finished, Leaving, Reading}
use Rattle.run_steps.specs.SoFar.{SoFar, files_in}
use Rattle.run_steps.specs.Stands.{Further, Stands}
use Rattle.run_steps.specs.Telling.{TellMoments}
use Rattle.run_steps.specs.Worked.{phase_begun}
use Rattle.run_steps.specs.declared.begin_error.BeginError.{BeginError}
use Rattle.run_steps.specs.declared.beginning.BegunFiles.{BegunFiles}
use Rattle.run_steps.proofs.EarlierOn.{opened_once}
use Rattle.run_steps.proofs.BeginningFiles.{BeginsBelow, IsToBegin, Leaves, leaves, one_ends, one_more}
use Rattle.run_steps.proofs.BeginningOne.{AreBelow, Begins, at_phase, stands_at}
use Rattle.run_steps.proofs.HiddenStands.{hides, hides_some}
use Rattle.told_scans.proofs.Events.{got_at_end}
use Rattle.run_steps.proofs.SeenMoments.{are_all_seen}
use Rattle.run_steps.proofs.ToldMoments.{AreListedFrom, StandsUncollected, all_seen}
use Rattle.run_steps.proofs.Ended.{nil_by}

none_in_front : {A : Type 0} (xs ys : List A) → length (xs ++ ys) ≡ 0 → xs ≡ []
none_in_front xs ys long = nil_by xs (let both = length-append xs ys in omega (arith, long, both))

none_behind : {A : Type 0} (xs ys : List A) → length (xs ++ ys) ≡ 0 → length ys ≡ 0
none_behind xs ys long = let both = length-append xs ys in omega (arith, long, both)

-- ---- where nothing was begun, nothing was noted

module _ {T W L D : Type 0} (words : Words T W L D) (start : Began D) (moments : Option (List ℕ)) (a b : D) (now : Moment) (old : Beginning T W L) (so_far : SoFar)
    (stands : Stands words start (at_phase words start moments a b old.folder.told old.crew old.keeper Reading) (opened_once so_far)) (none_opened : so_far.opened ≡ []) (none_hidden : so_far.hidden ≡ []) (none_scanned : so_far.scans ≡ []) where
  no_files : files_in so_far ≡ []
  no_files = nil_by (files_in so_far) (let long = often_counted (map (λ (t : Turned). t.slot) (files_in so_far)) (map (λ (o : Opened). o.begin.slot) so_far.opened) stands.files.each_once.are in
      let none = ap (λ (l : List Opened). length (map (λ (o : Opened). o.begin.slot) l)) none_opened in
      let same = as_long (files_in so_far) in omega (arith, long, none, same))
    where
      as_long : (files : List Turned) → length (map (λ (t : Turned). t.slot) files) ≡ length files
      as_long [] = refl
      as_long (t ∷ files) = ap suc (as_long files)

  none_issued : length so_far.told.issued ≡ 0
  none_issued = often_counted so_far.told.issued (flat_map parcels_told (files_in so_far)) stands.books.gave.parcels ∙ ap (λ (l : List Turned). length (flat_map parcels_told l)) no_files

  none_noted : so_far.told.noted ≡ []
  none_noted = nil_by so_far.told.noted (often_counted so_far.told.noted (flat_map notes_told (files_in so_far)) stands.books.gave.notes_are ∙ ap (λ (l : List Turned). length (flat_map notes_told l)) no_files)

  none_heard : flat so_far.told.acknowledged ≡ []
  none_heard =
      let lanes = lanings old.crew.lanes.items in
      let carriers = old.crew.carriers.items in
      let all = sym (often_counted so_far.told.issued (held_parcels lanes ++ (so_far.queued ++ (carried_by carriers ++ flat so_far.told.acknowledged))) stands.books.placed.parcels) ∙ none_issued in
      nil_by (flat so_far.told.acknowledged)
      (none_behind (carried_by carriers) (flat so_far.told.acknowledged)
      (none_behind so_far.queued (carried_by carriers ++ flat so_far.told.acknowledged)
      (none_behind (held_parcels lanes) (so_far.queued ++ (carried_by carriers ++ flat so_far.told.acknowledged)) all)))

  none_got : notes old.keeper.pass.got ≡ []
  none_got =
      let lanes = lanings old.crew.lanes.items in
      let carriers = old.crew.carriers.items in
      let all = often_counted (so_far.told.noted ++ notes_of (flat so_far.told.acknowledged)) (notes old.keeper.pass.got ++ (so_far.boxed ++ (held_notes lanes ++ owed_notes carriers))) stands.books.placed.notes in
      let none = ap (λ (l : List Note). length (l ++ notes_of (flat so_far.told.acknowledged))) none_noted ∙ ap (λ (l : List Parcel). length (notes_of l)) none_heard in
      none_in_front (notes old.keeper.pass.got) (so_far.boxed ++ (held_notes lanes ++ owed_notes carriers)) (sym all ∙ none)

  none_collected : so_far.collected ≡ []
  none_collected = none_in_front so_far.collected (held_in old.keeper.held) (ap (λ (l : List Note). length l) (sym stands.notes.noted.got ∙ none_got))

  none_begun : so_far.begun ≡ []
  none_begun = nothing_told so_far.begun
      (subst (λ (l : List Hidden). AllByRecursion (MayBegin so_far.scans start.opening start.listed [] l) so_far.begun) none_hidden
      (subst (λ (l : List Opened). AllByRecursion (MayBegin so_far.scans start.opening start.listed l so_far.hidden) so_far.begun) none_opened stands.notes.begun.each))
    where
      nothing_told : (notes : List Note) → AllByRecursion (MayBegin so_far.scans start.opening start.listed [] []) notes → notes ≡ []
      nothing_told [] are = refl
      nothing_told (note ∷ notes) are = absurd (by_kind are.0)
        where
          by_kind : MayBegin so_far.scans start.opening start.listed [] [] note → ⊥
          by_kind (inl of) = none_there of.file of.among
          by_kind (inr (inl of)) = none_there of.file of.among
          by_kind (inr (inr (inl of))) = none_there of.hidden of.of_hiddens
          by_kind (inr (inr (inr of))) = none_there of.file of.among

  none_noted_yet : old.keeper.tracked.notes ≡ []
  none_noted_yet =
      nil_by old.keeper.tracked.notes
      (often_counted old.keeper.tracked.notes (so_far.begun ++ so_far.collected) stands.notes.noted.mixed.often
      ∙ ap (λ (l : List Note). length (l ++ so_far.collected)) none_begun ∙ ap (λ (l : List Note). length l) none_collected)

  pub nothing_begun : EndsAt so_far.moments now.0 → Begins words start moments a b now old.folder.told old.crew old.keeper 0
  nothing_begun ends = record {
    so_far = so_far;
    stands = stands;
    below = subst (AreBelow 0) (sym none_opened) tt;
    begun_are = none_begun ∙ sym (ap (map (λ (o : Opened). noted_begin o.begin)) none_opened);
    notes_are = none_noted_yet ∙ sym none_begun;
    none_hidden = none_hidden;
    none_scanned = none_scanned;
    as_first = subst (AllByRecursion (IsOpenedAsListedFirst start.settings start.opening start.listed)) (sym none_opened) tt;
    ends = ends;
  }

-- ---- file by file

module _ {T W L D : Type 0} (words : Words T W L D) (reads : (disk : D) → IfSome (words.disks.contents disk) (words.disks.images disk))
    (counts : (disk : D) (at : ℕ) (image : List ℕ) → at ≤ words.disks.moment disk → words.disks.images disk image → words.disks.images_since disk at image)
    (start : Began D) (moments : Option (List ℕ)) (a b : D) (now : Moment) where
  abbrev AreToBegin : ℕ → List Listed → Type 0
  AreToBegin slot [] = Unit {0}
  AreToBegin slot (one ∷ listed) = IsToBegin words reads counts start moments a b now slot one × AreToBegin (suc slot) listed

  -- behind others of the list
  are_to_begin : (before listed : List Listed) → start.listed ≡ before ++ listed → AllByRecursion (IsOfRuledInput start.settings) listed → AreToBegin (length before) listed
  are_to_begin before [] are each = tt
  are_to_begin before (one ∷ listed) are each = (
    record {
      there = ap (λ (l : List Listed). slice_get l (length before)) are ∙ got_at_end before one listed;
      rule = each.0.rule;
      rule_is = each.0.rule_is;
      in_range = each.0.in_range;
    },
    subst (λ (n : ℕ). AreToBegin n listed) (length-append before (one ∷ []) ∙ one_longer)
        (are_to_begin (before ++ one ∷ []) listed (are ∙ sym (append_assoc before (one ∷ []) listed)) each.1),
  )
    where
      one_longer : length before + 1 ≡ suc (length before)
      one_longer = omega arith

  front_to_begin : (count slot : ℕ) (listed : List Listed) → AreToBegin slot listed → AreToBegin slot (take count listed)
  front_to_begin zero slot listed are = tt
  front_to_begin (suc count) slot [] are = tt
  front_to_begin (suc count) slot (one ∷ listed) are = (are.0, front_to_begin count (suc slot) listed are.1)

  begins_from : (slot : ℕ) (listed : List Listed) (came : Came) (old new : Beginning T W L) → AreToBegin slot listed → BeginsFrom words.tails start.settings start.opening now slot listed came old new →
      BeginsBelow words reads counts start moments a b now slot old → BeginsBelow words reads counts start moments a b now (length listed + slot) new
  begins_from slot [] came old new to is begins =
      subst (λ (n : ℕ). BeginsBelow words reads counts start moments a b now n new) (none_longer slot)
      (subst (λ (s : Beginning T W L). BeginsBelow words reads counts start moments a b now slot s) (sym is.1) begins)
    where
      none_longer : (n : ℕ) → n ≡ 0 + n
      none_longer n = omega arith
  begins_from slot (one ∷ listed) came old new to is begins =
      subst (λ (n : ℕ). BeginsBelow words reads counts start moments a b now n new) (one_longer (length listed))
      (begins_from (suc slot) listed is.later is.mid new to.1 is.rest (one_more words reads counts start moments a b now slot one to.0 old begins is.begun is.mid is.first))
    where
      one_longer : (n : ℕ) → n + suc slot ≡ suc n + slot
      one_longer n = omega arith

  -- ---- all of them

  at_place : (P : Listed → Type 0) (listed : List Listed) (count : ℕ) (one : Listed) → AllByRecursion P listed → slice_get listed count ≡ Some one → P one
  at_place P [] count one each is = absurd (let q : None ≡ Some one = is in cc)
  at_place P (first ∷ listed) zero one each is = subst P (let same : first ≡ one = cc in same) each.0
  at_place P (first ∷ listed) (suc count) one each is = at_place P listed count one each.1 is

  front_long : (listed : List Listed) (count : ℕ) (one : Listed) → slice_get listed count ≡ Some one → length (take count listed) ≡ count
  front_long [] count one is = absurd (let q : None ≡ Some one = is in cc)
  front_long (first ∷ listed) zero one is = refl
  front_long (first ∷ listed) (suc count) one is = ap suc (front_long listed count one is)

  listed_from : (slot : ℕ) (listed : List Listed) → AreToBegin slot listed → AreListedFrom start.listed slot listed
  listed_from slot [] to = tt
  listed_from slot (one ∷ listed) to = (to.0.there, listed_from (suc slot) listed to.1)

  front_listed : (count slot : ℕ) (listed : List Listed) → AreToBegin slot listed → AreListedFrom start.listed slot (take count listed)
  front_listed count slot listed to = listed_from slot (take count listed) (front_to_begin count slot listed to)

  module _ (old : Beginning T W L) (so_far : SoFar) (stands : Stands words start (at_phase words start moments a b old.folder.told old.crew old.keeper Reading) (opened_once so_far))
      (none_opened : so_far.opened ≡ []) (none_hidden : so_far.hidden ≡ []) (none_scanned : so_far.scans ≡ []) (ends : EndsAt so_far.moments now.0) (of_inputs : AllByRecursion (IsOfRuledInput start.settings) start.listed) where
    to_begin : AreToBegin 0 start.listed
    to_begin = are_to_begin [] start.listed refl of_inputs

    at_first : BeginsBelow words reads counts start moments a b now 0 old
    at_first = nothing_begun words start moments a b now old so_far stands none_opened none_hidden none_scanned ends

    behind_some : (count : ℕ) (came : Came) (mid : Beginning T W L) → BeginsFrom words.tails start.settings start.opening now 0 (take count start.listed) came old mid →
        BeginsBelow words reads counts start moments a b now (length (take count start.listed) + 0) mid
    behind_some count came mid is = begins_from 0 (take count start.listed) came old mid (front_to_begin count 0 start.listed to_begin) is at_first

    behind_all : (came : Came) (mid : Beginning T W L) → BeginsFrom words.tails start.settings start.opening now 0 start.listed came old mid →
        BeginsBelow words reads counts start moments a b now (length start.listed + 0) mid
    behind_all came mid is = begins_from 0 start.listed came old mid to_begin is at_first

    told_then : (slot : ℕ) (listed : List Listed) (mid : Beginning T W L) (keeper : Keeping) → (begins : BeginsBelow words reads counts start moments a b now slot mid) → AreListedFrom start.listed 0 listed →
        TellMoments start.opening 0 listed mid.keeper keeper → StandsUncollected words reads counts start moments a b mid.folder.told mid.crew Reading begins.so_far.opened keeper
    told_then slot listed mid keeper begins there tell =
        all_seen words reads counts start moments a b mid.folder.told mid.crew Reading begins.so_far.opened 0 listed mid.keeper keeper there tell
        (record { so_far = begins.so_far; opened_are = refl; stands = begins.stands; notes_are = begins.notes_are; none_hidden = begins.none_hidden; as_first = begins.as_first })

    -- files are read on
    pub all_begun : (came : Came) (new : Beginning T W L) → BeginsAll words.tails start.settings start.opening now start.listed came old new →
        (opened : List Opened) × StandsUncollected words reads counts start moments a b new.folder.told new.crew Reading opened new.keeper
    all_begun came new is =
        let begins = behind_all came is.mid is.begins in
        let told = told_then (length start.listed + 0) start.listed is.mid new.keeper begins (listed_from 0 start.listed to_begin) is.tell in
        subst (λ (s : Beginning T W L). (opened : List Opened) × StandsUncollected words reads counts start moments a b s.folder.told s.crew Reading opened s.keeper) (sym is.others) (begins.so_far.opened, told)

    -- the keeper was told when each file was changed that was begun
    pub all_are_seen : (came : Came) (new : Beginning T W L) → BeginsAll words.tails start.settings start.opening now start.listed came old new → AreAllSeen start.opening start.listed new.keeper.tracked.notes
    all_are_seen came new is =
        let begins = behind_all came is.mid is.begins in
        let there = listed_from 0 start.listed to_begin in
        let before : StandsUncollected words reads counts start moments a b is.mid.folder.told is.mid.crew Reading begins.so_far.opened is.mid.keeper =
        record { so_far = begins.so_far; opened_are = refl; stands = begins.stands; notes_are = begins.notes_are; none_hidden = begins.none_hidden; as_first = begins.as_first } in
        are_all_seen words reads counts start moments a b is.mid.folder.told is.mid.crew Reading begins.so_far.opened is.mid.keeper new.keeper there is.tell before
        (all_seen words reads counts start moments a b is.mid.folder.told is.mid.crew Reading begins.so_far.opened 0 start.listed is.mid.keeper new.keeper there is.tell before)

    -- or the run is left
    pub some_begun : (what : BeginError) (new : Beginning T W L) → BeginsSome words.tails start.settings start.opening now start.listed what old new → Leaves words reads counts start moments a b now new
    some_begun what new (inl is) =
        let begins = subst (λ (n : ℕ). BeginsBelow words reads counts start moments a b now n is.mid) (none_more (length (take is.count start.listed)) ∙ front_long start.listed is.count is.one is.is)
        (behind_some is.count is.came is.mid is.begins) in
        let of = at_place (IsOfRuledInput start.settings) start.listed is.count is.one of_inputs is.is in
        one_ends words reads counts start moments a b now is.count is.one
        (record { there = is.is; rule = of.rule; rule_is = of.rule_is; in_range = of.in_range }) is.mid begins is.ended.what new is.ended.begins
      where
        none_more : (n : ℕ) → n + 0 ≡ n
        none_more n = omega arith
    some_begun what new (inr (memory, inl is)) = leaves words reads counts start moments a b now new (length (take is.count start.listed) + 0) (behind_some is.count is.came new is.begins)
    some_begun what new (inr (memory, inr is)) =
        let told = told_then (length start.listed + 0) (take is.tell.count start.listed) is.mid new.keeper (behind_all is.came is.mid is.begins) (front_listed is.tell.count 0 start.listed to_begin) is.tell.tell in
        subst (λ (s : Beginning T W L). Further words start (at_phase words start moments a b s.folder.told s.crew s.keeper Leaving)) (sym is.others)
        (record {
          so_far = opened_once told.so_far;
          stands = stands_at words start moments a b is.mid.folder.told is.mid.folder.told is.mid.crew new.keeper Leaving (opened_once told.so_far) (λ e. let no : Leaving ≡ Finished = e in cc) tt told.stands.files.shown told.stands;
        })

    left : (new : Beginning T W L) (keeper : Keeping) (so_far : SoFar) → Stands words start (at_phase words start moments a b new.folder.told new.crew keeper Reading) so_far →
        Further words start (at_phase words start moments a b new.folder.told new.crew keeper Leaving)
    left new keeper so_far stands = record {
      so_far = so_far;
      stands = stands_at words start moments a b new.folder.told new.folder.told new.crew keeper Leaving so_far (λ e. let no : Leaving ≡ Finished = e in cc) tt stands.files.shown stands;
    }

    -- files are read on, or some failed
    read_on : (faulty : Bool) (new : Beginning T W L) (keeper : Keeping) → Further words start (at_phase words start moments a b new.folder.told new.crew keeper Reading) →
        Further words start (at_phase words start moments a b new.folder.told new.crew keeper (phase_reading faulty))
    read_on false new keeper further = further
    read_on true new keeper further = left new keeper further.so_far further.stands

    -- by what beginning them answered, and then telling of hidden rows
    pub stands_begun : (result hid : Result BegunFiles BeginError) (new : Beginning T W L) (keeper : Keeping) → IfOk result (λ files. BeginsAll words.tails start.settings start.opening now start.listed (came_of files) old new) →
        IfErr result (λ what. BeginsSome words.tails start.settings start.opening now start.listed what old new) → new.keeper.store.rows ≡ start.opening →
        HidesBegun start.settings.inputs start.listed result hid new.keeper keeper → Further words start (at_phase words start moments a b new.folder.told new.crew keeper (phase_begun hid))
    stands_begun (Ok files) (Ok same) new keeper begun ended rows hidden =
        let all = all_begun (came_of files) new begun in
        read_on same.faulty new keeper (hides words reads counts start moments a b new.folder.told new.crew Reading all.0 new.keeper keeper all.1 rows hidden.1)
    stands_begun (Ok files) (Err what) new keeper begun ended rows hidden =
        let all = all_begun (came_of files) new begun in
        let some = hides_some words reads counts start moments a b new.folder.told new.crew Reading all.0 new.keeper keeper all.1 rows hidden.1 in
        left new keeper some.so_far some.stands
    stands_begun (Err what) (Ok same) new keeper begun ended rows hidden = absurd hidden
    stands_begun (Err what) (Err other) new keeper begun ended rows hidden =
        subst (λ (k : Keeping). Further words start (at_phase words start moments a b new.folder.told new.crew k Leaving)) (sym hidden.1) (some_begun what new ended)
