-- A file that is opened keeps what stands of a run, whether it is followed, skipped or given up.
use Rattle.std.proofs.Common.{◌≡◌, ◌≢◌, ◌⊎◌, inl, inr, ℕ, suc, ◌+◌, ◌<◌, ◌≤◌, List, [], ◌∷◌, ◌++◌, Contains, map, append-nil, Option, IsSome, refl, sym, ap, subst, ◌∙◌, arith}
use Rattle.std.proofs.lemmas.List.{map-append}
use Rattle.std.specs.List.{AllByRecursion, flat_map}
use Rattle.accounts.proofs.Ordered.{HasSlotBelow, none_of_slot, one_more_orderly}
use Rattle.accounts.specs.Hidden.{Hidden, hidden_begin}
use Rattle.accounts.specs.Opened.{Opened}
use Rattle.prospect.specs.declared.listed.Listed.{Listed}
use Rattle.ship_core.specs.Orderly.{AreOrderly}
use Rattle.std.proofs.lemmas.List.Elements.{Contains-append_left, Contains-append_right}
use Rattle.wire_base.specs.declared.row.Row.{Row}
use Rattle.accounts.specs.Turned.{Turned, notes_told, parcels_told, spans_in}
use Rattle.accounts.proofs.Lists.{each_last, each_then}
use Rattle.accounts.proofs.Often.{often_back, often_contains, often_then}
use Rattle.harvester.specs.Standing.{EndsAt}
use Rattle.keeper.specs.Keeping.{Keeping}
use Rattle.lanes.specs.Laning.{Laning}
use Rattle.outside.specs.Folders.{FolderHistory}
use Rattle.std.specs.Prelude.{slice_get}
use Rattle.wire_base.specs.declared.note.Begin.{Begin}
use Rattle.pass_sums.specs.Weight.{AsOften, weigh}
use Rattle.pass_sums.proofs.Weights.{weigh-append}
use Rattle.rounds.specs.Crewed.{lanings}
use Rattle.rounds.specs.Words.{Words}
use Rattle.rounds.specs.declared.crew.Crew.{Crew}
use Rattle.settle_box.specs.Senders.{notes}
use Rattle.ship_core.proofs.Members.{first_there, none_there, there_cases}
use Rattle.wire_base.specs.declared.note.Note.{Note}
use Rattle.wire_base.specs.declared.numbers.Moment.{Moment}
use Rattle.wire_base.specs.declared.numbers.Slot.{Slot}
use Rattle.run_steps.specs.Began.{Began}
use Rattle.run_steps.specs.Beginning.{SameLanes}
use Rattle.run_steps.specs.Begun.{AreBeginNotes, AreSlotsFrom, IsKeyed, IsOpenedAsListed, IsOpenedAsListedFirst, IsRuled, MayBegin, noted_begin}
use Rattle.run_steps.specs.LaterScans.{LaterScan}
use Rattle.run_steps.specs.LastEpoch.{HaveOneOver}
use Rattle.run_steps.specs.ListedSo.{WasListedSo}
use Rattle.run_steps.specs.RunState.{Finished, Phase, Reading, RunState}
use Rattle.run_steps.specs.Shown.{HasShown, IsTurnedIn}
use Rattle.run_steps.specs.SoFar.{Left, SoFar, books_of, files_in, files_of}
use Rattle.run_steps.specs.Stands.{AreEachOnce, Books, Files, Stands}
use Rattle.run_steps.proofs.AreRead.{none_left_read}
use Rattle.run_steps.proofs.EarlierOn.{opened_once}
use Rattle.run_steps.proofs.FollowedFiles.{begins_to_follow}
use Rattle.run_steps.proofs.ListedSo.{listed_first}
use Rattle.run_steps.proofs.Admitting.{all_of, often_mapped, spans_often}
use Rattle.accounts.proofs.Joining.{same_slot, tells_slots}
use Rattle.run_steps.proofs.TailOpened.{opened_now}
use Rattle.accounts.proofs.Backing.{mapped_there}
use Rattle.accounts.proofs.Joining.{told_as_often}

-- ---- lists

abbrev slots_of : List Turned → List Slot
slots_of files = map (λ (turned : Turned). turned.slot) files

abbrev slots_in : List Opened → List Slot
slots_in opened = map (λ (one : Opened). one.begin.slot) opened

abbrev pub AreBelow : ℕ → List Opened → Type 0
AreBelow slot opened = AllByRecursion (λ (one : Opened). one.begin.slot.0 < slot) opened

slots_then : (least : ℕ) (opened : List Opened) (one : Opened) → AreSlotsFrom least opened → least ≤ one.begin.slot.0 → AreBelow one.begin.slot.0 opened → AreSlotsFrom least (opened ++ one ∷ [])
slots_then least [] one rise le below = (le, tt)
slots_then least (first ∷ opened) one rise le below = (rise.0, slots_then (first.begin.slot.0 + 1) opened one rise.1 (let less = below.0 in omega (arith, less)) below.1)

slots_below : (slot : ℕ) (opened : List Opened) → AreBelow slot opened → (other : Slot) → Contains (slots_in opened) other → other.0 < slot
slots_below slot [] below other there = absurd (none_there other there)
slots_below slot (one ∷ opened) below other there = from (there_cases one.begin.slot other (slots_in opened) there) (slots_below slot opened below.1 other)
  where
    from : (one.begin.slot ≡ other) ⊎ Contains (slots_in opened) other → (Contains (slots_in opened) other → other.0 < slot) → other.0 < slot
    from (inl same) later = subst (λ (s : Slot). s.0 < slot) same below.0
    from (inr behind) later = later behind

notes_below : (slot : ℕ) (opened : List Opened) → AreBelow slot opened → AllByRecursion (HasSlotBelow slot) (map (λ (one : Opened). noted_begin one.begin) opened)
notes_below slot [] below = tt
notes_below slot (one ∷ opened) below = (below.0, notes_below slot opened below.1)

-- what the run might tell of some it may tell of more
pub may_still : (scans : List LaterScan) (rows : List Row) (listed : List Listed) (opened more : List Opened) (hiddens others : List Hidden) (note : Note) → MayBegin scans rows listed opened hiddens note →
    MayBegin scans rows listed (opened ++ more) (hiddens ++ others) note
may_still scans rows listed opened more hiddens others note (inl of) = inl (record { file = of.file; among = Contains-append_left opened more of.file of.among; is = of.is })
may_still scans rows listed opened more hiddens others note (inr (inl of)) =
    inr (inl (record { file = of.file; among = Contains-append_left opened more of.file of.among; one = of.one; listed_there = of.listed_there; is = of.is }))
may_still scans rows listed opened more hiddens others note (inr (inr (inl of))) =
    inr (inr (inl (record { hidden = of.hidden; of_hiddens = Contains-append_left hiddens others of.hidden of.of_hiddens; is = of.is })))
may_still scans rows listed opened more hiddens others note (inr (inr (inr of))) =
    inr (inr (inr (record { file = of.file; among = Contains-append_left opened more of.file of.among; name = of.name; named = of.named; is = of.is })))

-- ---- a state with this crew and this keeper

module _ {T W L D : Type 0} (words : Words T W L D) (start : Began D) (moments : Option (List ℕ)) (a b : D) where
  abbrev pub at_phase : Option FolderHistory → Crew T W L → Keeping → Phase → RunState T W L D
  at_phase shown crew keeper phase = record { shown = shown; moments = moments; crew = crew; keeper = keeper; a = a; b = b; phase = phase }

  -- what was done with the folder, and whether files are read on
  pub stands_at : (shown later : Option FolderHistory) (crew : Crew T W L) (keeper : Keeping) (phase : Phase) (so_far : SoFar) → phase ≢ Finished → HaveOneOver phase (files_in so_far) → HasShown start.settings start.shown later (files_of so_far) →
      Stands words start (at_phase shown crew keeper Reading) so_far → Stands words start (at_phase later crew keeper phase) so_far
  stands_at shown later crew keeper phase so_far not_finished over has stands = record {
    files = record {
      opened = stands.files.opened;
      ruled = stands.files.ruled;
      keyed = stands.files.keyed;
      each_once = stands.files.each_once;
      turned = stands.files.turned;
      left = stands.files.left;
      earlier = stands.files.earlier;
      forgotten = stands.files.forgotten;
      reading = λ is. stands.files.reading refl;
      finished = λ is some. absurd (not_finished is);
      over = over;
      read = λ yet some. record { in_lanes = (stands.files.read tt some).in_lanes; in_left = none_left_read later so_far.left (stands.files.reading refl).none_left };
      answered = λ may some. stands.files.answered tt some;
      following = λ is. begins_to_follow words.tails start shown later moments (lanings crew.lanes.items) phase (files_of so_far) stands.files;
      tell = stands.files.tell;
      left_tell = stands.files.left_tell;
      listed = stands.files.listed;
      scans = stands.files.scans;
      shown = has;
      given = stands.files.given;
    };
    books = stands.books;
    notes = stands.notes;
    areas = stands.areas;
  }

  -- lanes of the same harvesters
  pub stands_same : (shown : Option FolderHistory) (old new : Crew T W L) (keeper : Keeping) (phase : Phase) (so_far : SoFar) → SameLanes old new →
      Stands words start (at_phase shown old keeper phase) so_far → Stands words start (at_phase shown new keeper phase) so_far
  stands_same shown old new keeper phase so_far same stands =
      subst (λ (c : Crew T W L). Stands words start (at_phase shown c keeper phase) so_far) (sym same.others) with_lanes
    where
      by : (P : List (Laning T) → Type 0) → P (lanings old.lanes.items) → P (lanings new.lanes.items)
      by P is = subst P (sym same.lanes) is

      with_lanes : Stands words start (at_phase shown (record old { lanes = new.lanes }) keeper phase) so_far
      with_lanes = record {
        files = by (λ l. Files words.tails start (record { shown = shown; moments = moments; lanes = l; phase = phase }) (files_of so_far)) stands.files;
        books = by (λ l. Books words.links words.wires start.heard (record { lanes = l; carriers = old.carriers.items; got = notes keeper.pass.got }) (books_of so_far)) stands.books;
        notes = stands.notes;
        areas = stands.areas;
      }

  -- ---- while files are begun

  -- those of slots below this one were
  pub record Begins (now : Moment) (shown : Option FolderHistory) (crew : Crew T W L) (keeper : Keeping) (slot : ℕ) : Type 0 where
    pub so_far : SoFar
    -- none was opened again
    pub stands : Stands words start (at_phase shown crew keeper Reading) (opened_once so_far)
    pub below : AreBelow slot so_far.opened
    pub begun_are : so_far.begun ≡ map (λ (one : Opened). noted_begin one.begin) so_far.opened
    -- and the keeper has noted nothing else
    pub notes_are : keeper.tracked.notes ≡ so_far.begun
    pub none_hidden : so_far.hidden ≡ []
    pub none_scanned : so_far.scans ≡ []
    -- each file is one that the first scan listed
    pub as_first : AllByRecursion (IsOpenedAsListedFirst start.settings start.opening start.listed) so_far.opened
    pub ends : EndsAt so_far.moments now.0

  -- the file of this slot, as it is opened by the rule of its input
  pub record IsBegunSo (slot : ℕ) (one : Opened) : Type 0 where
    pub as_listed : IsOpenedAsListedFirst start.settings start.opening start.listed one
    pub keyed : IsSome start.shown → IsKeyed one
    pub slot_is : one.begin.slot.0 ≡ slot

  module _ (now : Moment) (shown : Option FolderHistory) (crew : Crew T W L) (keeper : Keeping) (slot : ℕ) (begins : Begins now shown crew keeper slot) where
    abbrev was : SoFar
    was = opened_once begins.so_far

    pub none_left : was.left ≡ []
    none_left = (begins.stands.files.reading refl).none_left

    slots_often : AsOften (slots_of (all_of was.lanes)) (slots_in was.opened)
    slots_often = subst (λ (l : List Turned). AsOften (slots_of l) (slots_in was.opened)) (append-nil (all_of was.lanes))
        (subst (λ (l : List Left). AsOften (slots_of (all_of was.lanes ++ map (λ (one : Left). one.turned) l)) (slots_in was.opened)) none_left begins.stands.files.each_once.are)

    pub all_turned : (other : Opened) → Contains was.opened other → IsTurnedIn (files_of was) other
    all_turned other there = often_contains same_slot tells_slots (slots_of (all_of was.lanes)) (slots_in was.opened) other.begin.slot slots_often
        (mapped_there (λ (one : Opened). one.begin.slot) was.opened other there)

    -- one more, of which nothing was told yet
    module _ (one : Opened) (so : IsBegunSo slot one) where
      abbrev turned : Turned
      turned = opened_now start.settings.processors one now.0

      abbrev more : List Opened
      more = was.opened ++ one ∷ []

      pub not_turned : IsTurnedIn (files_of was) one → ⊥
      not_turned there =
          let below = slots_below slot was.opened begins.below one.begin.slot
          (often_contains same_slot tells_slots (slots_in was.opened) (slots_of (all_of was.lanes)) one.begin.slot (often_back (slots_of (all_of was.lanes)) (slots_in was.opened) slots_often) there) in
          let is = so.slot_is in
          omega (arith, below, is)

      pub opened_as_listed : AllByRecursion (IsOpenedAsListed start.settings start.shown start.opening start.listed was.scans) more
      opened_as_listed = each_last (IsOpenedAsListed start.settings start.shown start.opening start.listed was.scans) was.opened one begins.stands.files.opened (inl so.as_listed)

      pub firsts_next : AllByRecursion (IsOpenedAsListedFirst start.settings start.opening start.listed) more
      firsts_next = each_last (IsOpenedAsListedFirst start.settings start.opening start.listed) was.opened one begins.as_first so.as_listed

      pub listed : AllByRecursion (WasListedSo start.listed was.scans) more
      listed = listed_first start.settings start.opening start.listed was.scans more begins.none_scanned firsts_next

      pub ruled : AllByRecursion (IsRuled start.settings) more
      ruled = each_last (IsRuled start.settings) was.opened one begins.stands.files.ruled (record {
        rule_is = ap (λ (b : Begin). slice_get start.settings.inputs b.input) so.as_listed.begin_is ∙ so.as_listed.rule_is;
        in_range = so.as_listed.in_range;
      })

      pub keyed : IsSome start.shown → AllByRecursion IsKeyed more
      keyed some = each_last IsKeyed was.opened one (begins.stands.files.keyed some) (so.keyed some)

      pub below_next : AreBelow (suc slot) more
      below_next = each_last (λ (o : Opened). o.begin.slot.0 < suc slot) was.opened one
          (each_then (λ (o : Opened). o.begin.slot.0 < slot) (λ (o : Opened). o.begin.slot.0 < suc slot) was.opened (λ o less. omega (arith, less)) begins.below)
          (let is = so.slot_is in omega (arith, is))

      pub begun_next : was.begun ++ noted_begin one.begin ∷ [] ≡ map (λ (o : Opened). noted_begin o.begin) more
      begun_next = ap (λ (l : List Note). l ++ noted_begin one.begin ∷ []) begins.begun_are ∙ sym (map-append (λ (o : Opened). noted_begin o.begin) was.opened (one ∷ []))

      pub begun : AreBeginNotes was.scans start.opening start.listed more was.hidden (was.begun ++ noted_begin one.begin ∷ [])
      begun = record {
        each = each_last (MayBegin was.scans start.opening start.listed more was.hidden) was.begun (noted_begin one.begin)
            (each_then (MayBegin was.scans start.opening start.listed was.opened was.hidden) (MayBegin was.scans start.opening start.listed more was.hidden) was.begun (λ note may. subst (λ (l : List Hidden). MayBegin was.scans start.opening start.listed more l note) (append-nil was.hidden) (may_still was.scans start.opening start.listed was.opened (one ∷ []) was.hidden [] note may))
            begins.stands.notes.begun.each)
            (inl (record { file = one; among = Contains-append_right was.opened (one ∷ []) one (first_there one []); is = refl }));
        begun = each_last (λ (o : Opened). Contains (was.begun ++ noted_begin one.begin ∷ []) (noted_begin o.begin)) was.opened one
            (each_then (λ (o : Opened). Contains was.begun (noted_begin o.begin)) (λ (o : Opened). Contains (was.begun ++ noted_begin one.begin ∷ []) (noted_begin o.begin)) was.opened
            (λ o there. Contains-append_left was.begun (noted_begin one.begin ∷ []) (noted_begin o.begin) there) begins.stands.notes.begun.begun)
            (Contains-append_right was.begun (noted_begin one.begin ∷ []) (noted_begin one.begin) (first_there (noted_begin one.begin) []));
        hidden_begun = each_then (λ (h : Hidden). Contains was.begun (hidden_begin h)) (λ (h : Hidden). Contains (was.begun ++ noted_begin one.begin ∷ []) (hidden_begin h)) was.hidden
            (λ h there. Contains-append_left was.begun (noted_begin one.begin ∷ []) (hidden_begin h) there) begins.stands.notes.begun.hidden_begun;
      }

      -- no note of its slot stands before its Begin
      pub orderly_next : AreOrderly (keeper.tracked.notes ++ noted_begin one.begin ∷ [])
      orderly_next = one_more_orderly keeper.tracked.notes (noted_begin one.begin) begins.stands.notes.noted.mixed.orderly
          (none_of_slot one.begin.slot.0 keeper.tracked.notes
          (subst (AllByRecursion (HasSlotBelow one.begin.slot.0)) (sym (begins.notes_are ∙ begins.begun_are))
          (notes_below one.begin.slot.0 was.opened (subst (λ (n : ℕ). AreBelow n was.opened) (sym so.slot_is) begins.below))))

      module _ (files : List Turned) (often : AsOften files (turned ∷ files_in was)) where
        pub each_once : AreEachOnce more files
        each_once = record {
          rise = slots_then 0 was.opened one begins.stands.files.each_once.rise (omega arith) (subst (λ (n : ℕ). AreBelow n was.opened) (sym so.slot_is) begins.below);
          are = often_then (slots_of files) (slots_of (turned ∷ files_in was)) (slots_in more) (often_mapped (λ (t : Turned). t.slot) files (turned ∷ files_in was) often) together;
        }
          where
            together : AsOften (slots_of (turned ∷ files_in was)) (slots_in more)
            together h = omega (
              arith,
              ap (weigh h) (map-append (λ (o : Opened). o.begin.slot) was.opened (one ∷ [])),
              weigh-append h (slots_in was.opened) (one.begin.slot ∷ []),
              begins.stands.files.each_once.are h,
            )

        pub parcels : AsOften was.told.issued (flat_map parcels_told files)
        parcels = often_then was.told.issued (flat_map parcels_told (files_in was)) (flat_map parcels_told files) begins.stands.books.gave.parcels
            (often_back (flat_map parcels_told files) (flat_map parcels_told (files_in was)) (told_as_often parcels_told files (turned ∷ files_in was) often))

        pub notes_are : AsOften was.told.noted (flat_map notes_told files)
        notes_are = often_then was.told.noted (flat_map notes_told (files_in was)) (flat_map notes_told files) begins.stands.books.gave.notes_are
            (often_back (flat_map notes_told files) (flat_map notes_told (files_in was)) (told_as_often notes_told files (turned ∷ files_in was) often))

        pub spans : spans_in files ≡ spans_in (files_in was)
        spans = let is = spans_often files (turned ∷ files_in was) often in omega (arith, is)
