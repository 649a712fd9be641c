-- The files of a run, each with what its tail told as it was closed: listed by the run's scan, opened behind it, and begun once.
use Rattle.std.proofs.Common.{◌≡◌, ◌⊎◌, inl, inr, ⊎_elim, ℕ, suc, ◌+◌, ◌≤◌, max, min, All, List, [], ◌∷◌, ◌++◌, Contains, append-nil, drop, length, map, Option, Some, None, IsSome, IfSome, refl, sym, ap, subst, ◌∙◌, arith, Bool, true, false, nat_le, ◌==◌, if◌then◌else◌}
use Rattle.std.proofs.lemmas.Bool.{cases_lt}
use Rattle.std.proofs.lemmas.List.Elements.{Contains-append_left}
use Rattle.std.specs.Prelude.{option_map, slice_get}
use Rattle.std.specs.List.{AllByRecursion, flat_map}
use Rattle.std.specs.Option.{option_map_or}
use Rattle.accounts.proofs.Backing.{mapped_there}
use Rattle.accounts.proofs.Following.{got_there}
use Rattle.accounts.proofs.Grounded.{each_member, of_map}
use Rattle.accounts.proofs.Joining.{AreJoined, AreOpenedInSlots, IsJoined, join, joined_in_slots, told_by_its_tail}
use Rattle.accounts.proofs.Onward.{told_by_other}
use Rattle.accounts.proofs.Orderly.{member_is, same_item}
use Rattle.accounts.proofs.Removing.{none_left, not_removed}
use Rattle.accounts.specs.Filed.{Filed, Opening, first_opening, following_of}
use Rattle.accounts.specs.FollowedFile.{AreFollowedFiles, AreInSlots, AreReopened, BeginsAs, EachOpeningIsOne, IsFollowedFile, IsListedAs, WasShownLast, begins_by, key_in, moment_by, openings_in, start_in, tail_of}
use Rattle.accounts.specs.Opened.{Opened}
use Rattle.accounts.specs.ToldFile.{IsToldFile}
use Rattle.accounts.specs.Turned.{Turned}
use Rattle.accounts.specs.Turning.{IsTurnedSo, Pairs}
use Rattle.accounts.specs.Watch.{Watch}
use Rattle.accounts.specs.Watched.{watch_in}
use Rattle.harvester.specs.declared.harvester.Harvester.{Harvester}
use Rattle.kept_rows.specs.Followed.{IsNewlyKnown, OnlyReads, Start as StartBy, asked_openings, start_by}
use Rattle.kept_rows.specs.Run.{Run, Scan}
use Rattle.kept_rows.specs.Scans.{AreDistinct, IsFirstPath, moment_in}
use Rattle.kept_rows.specs.Telling.{opening_moment}
use Rattle.kept_rows.specs.Trace.{Closing, WireTold, closing_in, first_of_two, looks_of, open_looks_in}
use Rattle.lanes.specs.Laning.{Laning}
use Rattle.outside.specs.Folders.{FolderHistory}
use Rattle.outside.specs.Tails.{TailHistory}
use Rattle.outside.specs.declared.history.Look.{Look}
use Rattle.outside.specs.declared.history.Shown.{Shown}
use Rattle.prospect.specs.declared.listed.Listed.{Listed}
use Rattle.rounds.specs.Crewed.{lanings}
use Rattle.rounds.specs.Words.{TailWords, Words}
use Rattle.restart_join.specs.Starts.{start_of}
use Rattle.restart_join.specs.declared.start.Start.{Start}
use Rattle.ship_core.proofs.Members.{none_there, there_cases}
use Rattle.ship_core.specs.Rows.{find}
use Rattle.wire_base.specs.declared.note.Begin.{Begin}
use Rattle.wire_base.specs.declared.numbers.Moment.{Moment}
use Rattle.wire_base.specs.declared.numbers.TheConstants.{MAX_MOMENT}
use Rattle.wire_base.specs.declared.row.Row.{Row}
use Rattle.run_steps.specs.Telling.{moment_noted}
use Rattle.run_steps.specs.Began.{Began}
use Rattle.run_steps.specs.BeginFor.{row_of}
use Rattle.run_steps.specs.Begun.{AreSlotsFrom, IsKeyed, IsOpenedAsListed, IsOpenedAsListedFirst}
use Rattle.run_steps.specs.ReadBehind.{ReadsBehind}
use Rattle.run_steps.specs.Releasing.{HasNoHarvesters}
use Rattle.run_steps.specs.RunOf.{FolderTold, run_of, scan_of, told_scan}
use Rattle.run_steps.specs.RunState.{RunState}
use Rattle.run_steps.specs.Scanned.{HasScanned}
use Rattle.told_scans.specs.OnlyAsked.{WasClosedWith, WasOnlyAsked}
use Rattle.run_steps.specs.Shown.{HasDone, HasShown, WasOpenedSince, openings_of}
use Rattle.run_steps.specs.SoFar.{Left, SoFar, files_in, files_of}
use Rattle.run_steps.specs.Stands.{AreTurnedIn, IsLeftRead, IsLeftSo, ReadsYet, Stands, watch_of}
use Rattle.told_scans.proofs.TriedAskings.{distinct_both, openings_asked}
use Rattle.told_scans.proofs.Members.{each_of}
use Rattle.prospect.proofs.Doubled.{keys_apart as files_keys_apart}
use Rattle.prospect.specs.AskedFiles.{keyed_by}
use Rattle.run_steps.proofs.EarlierOn.{opened_once}
use Rattle.run_steps.proofs.ListedLater.{listed_first}
use Rattle.run_steps.proofs.Named.{keys_apart}
use Rattle.told_scans.proofs.FirstPaths.{is_first_path}
use Rattle.told_scans.proofs.ScanAsked.{in_this_run}
use Rattle.told_scans.proofs.ScanList.{IsOfEntry, asked_apart, asked_within, behind_listings, entry_of, is_before, placed_in_scan, since_listed}
use Rattle.told_scans.proofs.ScanOf.{ShowsSome, shows_file}
use Rattle.run_steps.proofs.LaterScans.{none_named}
use Rattle.run_steps.proofs.Openings.{since_all}
use Rattle.run_steps.specs.LaterScans.{told_in}
use Rattle.run_steps.proofs.OneScan.{around_one, is_around, told_so}
use Rattle.told_scans.specs.ToldScan.{IsAround, IsTold, RunAround, ToldScan}

-- ---- what stands of a file in the lists

-- with what its tail was closed
abbrev pub looks_in : FolderHistory → Opened → List Look
looks_in told one = option_map_or (λ (closing : Closing). closing.looks) (closing_in one.opening (drop (suc one.opening) told.events)) []

-- the moment with which it was listed
abbrev pub moment_listed : List Row → List Listed → Opened → ℕ
moment_listed rows listed one = option_map_or (λ (entry : Listed). (moment_noted rows entry).0) (slice_get listed one.begin.slot.0) 0

-- the rule by which a file starts, in the words of what is promised of rows
abbrev start_from : Start → StartBy
start_from start = record { epoch = start.epoch; base = start.base }

same_start : (row : Option Row) (size : ℕ) → start_from (start_of size row) ≡ start_by row size
same_start None size = refl
same_start (Some row) size = by_size (nat_le row.offset size)
  where
    by_size : (b : Bool) → start_from (if b then record { epoch = row.epoch.0; base = row.offset } else record { epoch = row.epoch.0 + 1; base = 0 })
        ≡ (if b then record { epoch = row.epoch.0; base = row.offset } else record { epoch = row.epoch.0 + 1; base = 0 })
    by_size true = refl
    by_size false = refl

abbrev slot_number : Opened → ℕ
slot_number one = one.begin.slot.0

slot_later : (least : ℕ) (opened : List Opened) (slot : ℕ) → AreSlotsFrom least opened → Contains (map slot_number opened) slot → least ≤ slot
slot_later least [] slot rise there = absurd (none_there slot there)
slot_later least (one ∷ opened) slot rise there = by_case (there_cases (slot_number one) slot (map slot_number opened) there) (slot_later (slot_number one + 1) opened slot rise.1)
  where
    by_case : (slot_number one ≡ slot) ⊎ Contains (map slot_number opened) slot → (Contains (map slot_number opened) slot → slot_number one + 1 ≤ slot) → least ≤ slot
    by_case (inl same) later = let first = rise.0 in omega (arith, first, same)
    by_case (inr behind) later = let first = rise.0 in let more = later behind in omega (arith, first, more)

slots_distinct : (least : ℕ) (opened : List Opened) → AreSlotsFrom least opened → AreDistinct (map slot_number opened)
slots_distinct least [] rise = tt
slots_distinct least (one ∷ opened) rise = (
  λ there. let more = slot_later (slot_number one + 1) opened (slot_number one) rise.1 there in omega (arith, more),
  slots_distinct (slot_number one + 1) opened rise.1,
)

pub opened_in_slots : (least : ℕ) (opened : List Opened) → AreSlotsFrom least opened → AreOpenedInSlots least opened
opened_in_slots least [] rise = tt
opened_in_slots least (one ∷ opened) rise = (rise.0, opened_in_slots (slot_number one + 1) opened rise.1)

-- ---- no lane has any more

none_of_one : {A B : Type 0} (R : A → B → Type 0) (xs : List A) → Pairs R xs [] → xs ≡ []
none_of_one R [] pairs = refl
none_of_one R (x ∷ xs) pairs = absurd pairs

module _ {T : Type 0} (tails : TailWords T) (watch : Watch) (opened : List Opened) (moments : List ℕ) where
  pub none_turned : (files : List (List Turned)) (lanes : List (Laning T)) → Pairs (AreTurnedIn tails watch opened moments) files lanes → AllByRecursion HasNoHarvesters lanes →
      flat_map (λ (turned : List Turned). turned) files ≡ []
  none_turned [] lanes pairs none = refl
  none_turned (turned ∷ files) [] pairs none = absurd pairs
  none_turned (turned ∷ files) (lane ∷ lanes) pairs none =
      let here : turned ≡ [] =
      none_of_one (IsTurnedSo tails.numbers tails.told watch opened moments) turned
      (subst (λ (hs : List (Harvester T)). Pairs (IsTurnedSo tails.numbers tails.told watch opened moments) turned hs) none.0 pairs.0) in
      ap (λ (l : List Turned). l ++ flat_map (λ (ts : List Turned). ts) files) here ∙ none_turned files lanes pairs.1 none.1

-- ---- a tail that was closed

-- what it told then
pub record HasTail (watch : Watch) (moments : List ℕ) (ended : FolderHistory) (opened : Opened) (turned : Turned) : Type 0 where
  pub tail : TailHistory
  pub told : IsToldFile watch opened moments turned (Some tail)
  pub closed : WasClosedWith ended tail.opening tail.looks

has_tail : (watch : Watch) (moments : List ℕ) (ended : FolderHistory) (opened : Opened) (turned : Turned) (told : Option TailHistory) → IsSome told →
    IsToldFile watch opened moments turned told → IfSome told (λ tail. WasClosedWith ended tail.opening tail.looks) → HasTail watch moments ended opened turned
has_tail watch moments ended opened turned None tells is closed = absurd (cc)
has_tail watch moments ended opened turned (Some tail) tells is closed = record { tail = tail; told = is; closed = closed }

module _ {T W L D : Type 0} (words : Words T W L D) (start : Began D) (state : RunState T W L D) (so_far : SoFar) (stands : Stands words start state (opened_once so_far))
    (released : All HasNoHarvesters (lanings state.crew.lanes.items)) (folder : FolderTold) (has : HasScanned start folder) (shown : state.shown ≡ Some folder.ended)
    (wires : List WireTold) where
  abbrev run : Run
  run = run_of start folder so_far.moments wires

  abbrev scan : Scan
  scan = scan_of start folder

  abbrev watch : Watch
  watch = watch_of start so_far.scans

  abbrev looks : Opened → List Look
  looks = looks_in folder.ended

  abbrev changed : Opened → ℕ
  changed = moment_listed start.opening start.listed

  pub done : HasDone start.settings folder.scanned folder.ended (files_of (opened_once so_far))
  done = subst (λ (o : Option FolderHistory). HasShown start.settings (Some folder.scanned) o (files_of (opened_once so_far))) shown (subst (λ (o : Option FolderHistory). HasShown start.settings o state.shown (files_of (opened_once so_far))) has.shown stands.files.shown)

  pub none_later : so_far.scans ≡ []
  none_later = stands.files.scans.none_with_once has.once

  abbrev the_scan : ToldScan
  the_scan = told_scan start folder

  abbrev scan_told : IsTold the_scan
  scan_told = told_so start folder has

  abbrev around_scan : RunAround
  around_scan = around_one start folder so_far.moments wires

  abbrev stands_around : IsAround the_scan around_scan
  stands_around = is_around start folder so_far done wires

  tells : IsSome start.shown
  tells = subst (λ (o : Option FolderHistory). IsSome o) (sym has.shown) refl

  pub files_are : files_in so_far ≡ map (λ (one : Left). one.turned) so_far.left
  files_are =
      ap (λ (l : List Turned). l ++ map (λ (one : Left). one.turned) so_far.left)
      (none_turned words.tails watch so_far.opened so_far.moments so_far.lanes (lanings state.crew.lanes.items) stands.files.turned
      (each_of HasNoHarvesters (lanings state.crew.lanes.items) released))

  pub joined : AreJoined looks changed so_far.opened (files_in so_far)
  joined = join looks changed so_far.opened (files_in so_far) stands.files.each_once.are

  abbrev pub files : List Filed
  files = joined.files

  -- ---- each of them

  module _ (file : Filed) (among : Contains files file) where
    abbrev one : Opened
    one = file.opened

    pub is_joined : IsJoined looks changed (files_in so_far) file
    is_joined = member_is (IsJoined looks changed (files_in so_far)) files file joined.each among

    pub was_opened : Contains so_far.opened one
    was_opened = subst (λ (l : List Opened). Contains l one) joined.opened_are (mapped_in files among)
      where
        mapped_in : (some : List Filed) → Contains some file → Contains (map (λ (f : Filed). f.opened) some) file.opened
        mapped_in some there = mapped_there (λ (f : Filed). f.opened) some file there

    pub as_listed : IsOpenedAsListedFirst start.settings start.opening start.listed one
    as_listed = listed_first start.settings start.shown start.opening start.listed so_far.scans one none_later
        (member_is (IsOpenedAsListed start.settings start.shown start.opening start.listed so_far.scans) so_far.opened one stands.files.opened was_opened)

    left_there : Contains (map (λ (l : Left). l.turned) so_far.left) file.turned
    left_there = subst (λ (l : List Turned). Contains l file.turned) files_are is_joined.among

    -- what was told of it then is of this file
    told_of : (item : Left) → IsLeftSo watch so_far.opened so_far.moments item → item.turned ≡ file.turned → IsToldFile watch one so_far.moments file.turned item.told
    told_of item so turned_is =
        let same_number : slot_number so.file ≡ slot_number one =
        sym (ap (λ s. s.0) so.is_told.slot) ∙ ap (λ (t : Turned). t.slot.0) turned_is ∙ ap (λ s. s.0) is_joined.slot in
        let same : so.file ≡ one =
        same_item slot_number so_far.opened so.file one (slots_distinct 0 so_far.opened stands.files.each_once.rise) so.among was_opened same_number in
        subst (λ (t : Turned). IsToldFile watch one so_far.moments t item.told) turned_is
        (subst (λ (o : Opened). IsToldFile watch o so_far.moments item.turned item.told) same so.is_told)

    -- what its tail told as it was closed
    pub its_tail : HasTail watch so_far.moments folder.ended one file.turned
    its_tail =
        let of = of_map (λ (l : Left). l.turned) so_far.left file.turned left_there in
        let so = member_is (IsLeftSo watch so_far.opened so_far.moments) so_far.left of.item stands.files.left of.among in
        let told : IsToldFile watch one so_far.moments file.turned of.item.told = told_of of.item so of.is in
        has_tail watch so_far.moments folder.ended one file.turned of.item.told
        (member_is (λ (l : Left). IsSome l.told) so_far.left of.item (stands.files.left_tell tells) of.among) told
        (member_is (λ (l : Left). IfSome l.told (λ tail. WasClosedWith folder.ended tail.opening tail.looks)) so_far.left of.item done.closed of.among)

    -- behind each look at its length it was read, if it counted no fault
    pub read_behind : ReadsYet state.phase → (its_looks : List Look) → closing_in one.opening (drop (suc one.opening) folder.ended.events) ≡ Some (record { looks = its_looks; faults = 0 }) →
        ReadsBehind false one.begin.base its_looks
    read_behind yet its_looks closing =
        let of = of_map (λ (l : Left). l.turned) so_far.left file.turned left_there in
        let read = (stands.files.read yet tells).in_left in
        let in_left : AllByRecursion (IsLeftRead folder.ended) so_far.left = subst (λ (o : Option FolderHistory). IfSome o (λ now. AllByRecursion (IsLeftRead now) so_far.left)) shown read in
        by_told of.item.told (member_is (λ (l : Left). IsSome l.told) so_far.left of.item (stands.files.left_tell tells) of.among)
        (told_of of.item (member_is (IsLeftSo watch so_far.opened so_far.moments) so_far.left of.item stands.files.left of.among) of.is)
        (member_is (λ (l : Left). IfSome l.told (λ tail. WasClosedWith folder.ended tail.opening tail.looks)) so_far.left of.item done.closed of.among)
        (subst (λ (t : Turned). IfSome of.item.told (λ tail. closing_in tail.opening (drop (suc tail.opening) folder.ended.events) ≡ Some (record { looks = tail.looks; faults = 0 }) →
        ReadsBehind false t.history.begin.base tail.looks)) of.is (member_is (IsLeftRead folder.ended) so_far.left of.item in_left of.among))
      where
        by_told : (o : Option TailHistory) → IsSome o → IsToldFile watch one so_far.moments file.turned o → IfSome o (λ tail. WasClosedWith folder.ended tail.opening tail.looks) →
            IfSome o (λ tail. closing_in tail.opening (drop (suc tail.opening) folder.ended.events) ≡ Some (record { looks = tail.looks; faults = 0 }) → ReadsBehind false file.turned.history.begin.base tail.looks) →
            ReadsBehind false one.begin.base its_looks
        by_told None some told was read = absurd cc
        by_told (Some tail) some told was read =
            let here : closing_in tail.opening (drop (suc tail.opening) folder.ended.events) ≡ Some (record { looks = its_looks; faults = 0 }) =
            subst (λ (n : ℕ). closing_in n (drop (suc n) folder.ended.events) ≡ Some (record { looks = its_looks; faults = 0 })) (sym told.tail.opening) closing in
            let same : tail.looks ≡ its_looks = of_closing tail.looks was.faults (sym was.closing ∙ here) in
            subst (λ (b : Begin). ReadsBehind false b.base its_looks) told.history.begin
            (subst (ReadsBehind false file.turned.history.begin.base) same
            (read (here ∙ ap (λ (l : List Look). Some (record { looks = l; faults = 0 })) (sym same))))
          where
            of_closing : (l : List Look) (n : ℕ) → ◌≡◌ {A = Option Closing} (Some (record { looks = l; faults = n })) (Some (record { looks = its_looks; faults = 0 })) → l ≡ its_looks
            of_closing l n is = ap (λ (o : Option Closing). option_map_or (λ (c : Closing). c.looks) o []) is

    closing_is : closing_in one.opening (drop (suc one.opening) folder.ended.events) ≡ Some (record { looks = its_tail.tail.looks; faults = its_tail.closed.faults })
    closing_is =
        subst (λ (n : ℕ). closing_in n (drop (suc n) folder.ended.events) ≡ Some (record { looks = its_tail.tail.looks; faults = its_tail.closed.faults })) its_tail.told.tail.opening
        its_tail.closed.closing

    looks_are : its_tail.tail.looks ≡ file.looks
    looks_are = sym (is_joined.looks_are ∙ ap (λ (o : Option Closing). option_map_or (λ (c : Closing). c.looks) o []) closing_is)

    tells_looks : looks_of run.trace one.opening ≡ Some file.looks
    tells_looks =
        ap (λ (o : Option Closing). first_of_two (option_map (λ (c : Closing). c.looks) o) (open_looks_in one.opening [])) closing_is
        ∙ ap (λ (l : List Look). Some l) looks_are

    opened_since : WasOpenedSince folder.scanned (told_in so_far.scans) folder.ended one
    opened_since = member_is (WasOpenedSince folder.scanned (told_in so_far.scans) folder.ended) so_far.opened one done.opened was_opened

    -- behind the listings, as behind all of the scan
    behind : length folder.listed.events ≤ one.opening
    behind = let since = since_all start.settings folder.scanned folder.ended (files_of (opened_once so_far)) done one was_opened in let long = since_listed the_scan scan_told around_scan stands_around in omega (arith, since, long)

    -- ---- as it was listed

    abbrev entry : Listed
    entry = as_listed.one

    abbrev key : List ℕ
    key = one.begin.key

    pub entry_there : Contains start.listed entry
    entry_there = got_there start.listed one.begin.slot.0 entry as_listed.listed_there

    pub of_entry : IsOfEntry start.settings.inputs has.scans.listings folder.asked entry
    of_entry = entry_of the_scan scan_told around_scan stands_around entry (Contains-append_left start.listed start.doubled entry entry_there)

    abbrev its_entry : Shown
    its_entry = of_entry.shown

    pub input_is : one.begin.input ≡ entry.input
    input_is = ap (λ (b : Begin). b.input) as_listed.begin_is

    pub path_is : one.begin.path ≡ entry.path
    path_is = ap (λ (b : Begin). b.path) as_listed.begin_is

    rule_is : slice_get start.settings.inputs one.begin.input ≡ Some one.rule
    rule_is = ap (slice_get start.settings.inputs) input_is ∙ as_listed.rule_is

    shows : ShowsSome the_scan scan_told around_scan stands_around its_entry one.begin.input key
    shows =
        subst (λ (i : ℕ). ShowsSome the_scan scan_told around_scan stands_around its_entry i key) (sym input_is)
        (shows_file the_scan scan_told around_scan stands_around entry (Contains-append_left start.listed start.doubled entry entry_there) of_entry key as_listed.keyed one.rule as_listed.rule_is)

    starts : start_in one ≡ start_by (find key start.opening) its_entry.entry.size
    starts =
        (λ k. record { epoch = ap (λ (b : Begin). b.epoch.0) as_listed.begin_is k; base = ap (λ (b : Begin). b.base) as_listed.begin_is k })
        ∙ ap (λ (n : ℕ). start_from (start_of n (row_of start.opening entry.key))) of_entry.size_is
        ∙ ap (λ (o : Option (List ℕ)). start_from (start_of its_entry.entry.size (row_of start.opening o))) as_listed.keyed
        ∙ same_start (find key start.opening) its_entry.entry.size

    first : IsFirstPath run scan key shows.number one.begin.path
    first =
        subst (IsFirstPath run scan key shows.number) (sym path_is)
        (is_first_path the_scan scan_told around_scan stands_around entry key shows.number entry_there as_listed.keyed
        (record { shown = its_entry; path_is = sym of_entry.path_is; shows = (one.begin.input, shows.shows) }))

    abbrev shown_last : WasShownLast run one
    shown_last = record {
      front = [];
      scan = scan;
      behind = [];
      scans_are = refl;
      made_before = is_before the_scan scan_told around_scan stands_around one.opening behind;
      none_nearer = tt;
      number = shows.number;
      shown = its_entry;
      shows = shows.shows;
      path_is = sym of_entry.path_is ∙ sym path_is;
      first = first;
    }

    abbrev is_listed : IsListedAs run file
    is_listed = record {
      last = shown_last;
      begins = subst (BeginsAs run file shown_last) (sym is_joined.as_begun)
          (inl (record { number_is = is_joined.known_is; starts = starts ∙ ap (λ (n : ℕ). begins_by n (find key start.opening) its_entry.entry.size) (sym is_joined.known_is) }));
    }

    -- the moment of its listing
    pub moment_is : file.changed ≡ (moment_noted start.opening entry).0
    moment_is = is_joined.changed_is ∙ ap (λ (o : Option Listed). option_map_or (λ (e : Listed). (moment_noted start.opening e).0) o 0) as_listed.listed_there

    keyed : IsKeyed one
    keyed = member_is IsKeyed so_far.opened one (stands.files.keyed tells) was_opened

    changed_by_entry : (moment_noted start.opening entry).0 ≡ max (opening_moment start.opening key) (moment_in its_entry)
    changed_by_entry = ap (λ (m : Moment). max (option_map_or (λ (row : Row). row.changed.0) (row_of start.opening entry.key) 0) (min m.0 MAX_MOMENT)) of_entry.changed_is
        ∙ ap (λ (o : Option (List ℕ)). max (option_map_or (λ (row : Row). row.changed.0) (row_of start.opening o) 0) (moment_in its_entry)) as_listed.keyed

    pub moment_noted_is : file.changed ≡ moment_by run file its_entry
    moment_noted_is =
        moment_is ∙ changed_by_entry
        ∙ ap (λ (n : ℕ). max (if n == 0 then opening_moment start.opening key else 0) (moment_in its_entry)) (sym is_joined.known_is)

    pub is_followed : IsFollowedFile run file
    is_followed = record {
      rule_is = rule_is;
      gave = keyed;
      in_range = as_listed.in_range;
      file_is = opened_since.file_is;
      tail = record {
        in_this_run = in_this_run the_scan scan_told around_scan stands_around one.opening behind;
        begun = one.begun;
        opened = opened_since.stands;
        tells = tells_looks;
      };
      told = told_by_other watch (watch_in run) one so_far.moments file.turned (Some (tail_of file)) refl (λ name renamed. absurd (none_named so_far.scans none_later one name renamed)) (λ may. inl refl)
          (told_by_its_tail watch so_far.moments file its_tail.tail looks_are its_tail.told);
      listed = is_listed;
      moment = inr (inl moment_noted_is);
      reopened = subst (AreReopened run file.opened (first_opening file) file.turned.history) (sym is_joined.alone) tt;
      first_known = none_left file _ is_joined.stays;
      later_known = none_left file _ is_joined.stays;
      removed = not_removed file _ is_joined.stays;
    }

  -- ---- all of them

  in_slots : AreInSlots 0 files
  in_slots = joined_in_slots 0 files so_far.opened joined.opened_are (opened_in_slots 0 so_far.opened stands.files.each_once.rise)

  -- each was opened once
  openings_are : flat_map openings_in files ≡ openings_of so_far.opened
  openings_are = mapped_twice files joined.each ∙ ap openings_of joined.opened_are
    where
      mapped_twice : (some : List Filed) → AllByRecursion (IsJoined looks changed (files_in so_far)) some → flat_map openings_in some ≡ openings_of (map (λ (f : Filed). f.opened) some)
      mapped_twice [] each = refl
      mapped_twice (f ∷ some) each =
          λ k. f.opened.opening ∷ (map (λ (one : Opening). one.opened.opening) (each.0.alone k) ++ mapped_twice some each.1 k)

  only_reads : (opening : ℕ) → WasOnlyAsked folder.ended opening → OnlyReads run.trace opening
  only_reads opening was = record {
    looks = was.looks;
    tells = ap (λ (o : Option Closing). first_of_two (option_map (λ (c : Closing). c.looks) o) (open_looks_in opening [])) was.closed.closing;
    none_at_length = was.reads;
  }

  -- before the end of the scan it asked for a key alone, and behind it there is none that is not followed or was only asked
  each_opening : EachOpeningIsOne run files
  each_opening opening path number begun since is =
      ⊎_elim
      (λ within. inr (only_reads opening (asked_within the_scan scan_told around_scan stands_around opening path number begun (behind_listings the_scan scan_told around_scan stands_around opening path number begun since is) within is)))
      (λ behind. ⊎_elim (λ among. inl (subst (λ (l : List ℕ). Contains l opening) (sym openings_are) among)) (λ was. inr (only_reads opening was)) (done.serve opening path number begun behind is))
      (cases_lt opening (length folder.scanned.events))

  -- those that only asked stand before the end of the scan, and those that are followed behind it
  none_in_both : (opening : ℕ) → Contains (openings_asked folder.asked) opening → Contains (openings_of so_far.opened) opening → ⊥
  none_in_both opening asked followed =
      let within = placed_in_scan the_scan scan_told around_scan stands_around opening asked in
      let of = of_map (λ (o : Opened). o.opening) so_far.opened opening followed in
      let since = since_all start.settings folder.scanned folder.ended (files_of (opened_once so_far)) done of.item of.among in
      let is = of.is in
      omega (arith, within, since, is)

  openings_apart : AreDistinct (asked_openings run ++ flat_map openings_in files)
  openings_apart = subst (λ (l : List ℕ). AreDistinct (l ++ flat_map openings_in files)) (sym (append-nil (openings_asked folder.asked)))
      (subst (λ (l : List ℕ). AreDistinct (openings_asked folder.asked ++ l)) (sym openings_are)
      (distinct_both (openings_asked folder.asked) (openings_of so_far.opened) (asked_apart the_scan scan_told around_scan stands_around) done.apart
      none_in_both))

  -- and known from the first scan on
  known_at_once : (some : List Filed) → AllByRecursion (IsJoined looks changed (files_in so_far)) some → AllByRecursion (λ (f : Filed). IsNewlyKnown run [] (following_of f)) some
  known_at_once [] each = tt
  known_at_once (f ∷ some) each = (λ later. absurd (let first = each.0.known_is in omega (arith, first, later)), known_at_once some each.1)

  -- each has a key of its own
  pub files_apart : AreDistinct (map key_in files)
  files_apart = keys_apart start.settings start.opening start.listed (files_keys_apart (flat_map keyed_by folder.asked) start.listed start.doubled has.parts) 0 files in_slots
      (each_member (λ (file : Filed). IsOpenedAsListedFirst start.settings start.opening start.listed file.opened) files as_listed)

  pub all_known_at_once : AllByRecursion (λ (f : Filed). IsNewlyKnown run [] (following_of f)) files
  all_known_at_once = known_at_once files joined.each

  pub are_followed_files : AreFollowedFiles run files
  are_followed_files = record {
    each = each_member (IsFollowedFile run) files is_followed;
    slots = in_slots;
    openings_apart = openings_apart;
    openings_serve = each_opening;
  }
