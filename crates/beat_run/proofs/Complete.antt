-- A run that nothing troubles is done: each status that blames something has a cause that there was not.
use Rattle.std.proofs.Common.{◌≡◌, ◌⊎◌, ◌↔◌, inl, inr, ℕ, zero, suc, ◌+◌, ◌<◌, ◌≤◌, nat_le, Bool, true, false, if◌then◌else◌, List, [], ◌∷◌, ◌++◌, drop, length, map, take, Option, None, Some, IfSome, IsSome, IsSomeAnd, IsTrue, is_none, is_some, refl, sym, ap, subst, ◌∙◌, append_assoc, length-append, arith}
use Rattle.std.proofs.lemmas.Bool.{leb-true}
use Rattle.std.specs.Prelude.{slice_get}
use Rattle.std.specs.List.{AllByRecursion, filter}
use Rattle.batch_worker.specs.Seen.{Seen}
use Rattle.beat_config.specs.Document.{AreSettings, AreSettingsOf, IsFirstFault}
use Rattle.beat_config.specs.declared.settings_error.SettingsError.{SettingsError}
use Rattle.beat_config.proofs.OneAnswer.{settings_without_fault}
use Rattle.beat_config.proofs.RangesOfDocuments.{document_in_range}
use Rattle.command_line.specs.Words.{IsNoCommand}
use Rattle.event_tree.specs.declared.input_rule.InputRule.{InputRule}
use Rattle.event_tree.specs.declared.output_rule.OutputRule.{OutputRule}
use Rattle.event_tree.specs.declared.settings.Settings.{Settings as SettingsOf}
use Rattle.kept_rows.specs.Failures.{AreFailures, HasLastFailures}
use Rattle.outside.specs.Counts.{IsAtEnd, Rose}
use Rattle.outside.specs.Folders.{FolderHistory}
use Rattle.outside.specs.Wires.{Outcome, Refused, Finished}
use Rattle.prospect.specs.Lacks.{IsFirstLack}
use Rattle.prospect.specs.declared.listed.Listed.{Listed}
use Rattle.registry_store.specs.Choice.{GivesRows, Refused as RefusesAt, rows_of}
use Rattle.report.specs.declared.status.Lack.{Lack}
use Rattle.report.specs.declared.status.Lack.TheVariants.{Follow, Key}
use Rattle.report.specs.declared.status.Status.{Status}
use Rattle.report.specs.declared.status.Status.TheVariants.{Done, Stopped, Usage, Settings, RegistryBad, DiskFault, FolderFault, Unreachable, OutFault, SourceFault, TooMany, NoNative, NoMemory, Unbuilt}
use Rattle.restart_join.specs.Joining.{full_for}
use Rattle.rounds.specs.Words.{DiskWords}
use Rattle.run_steps.specs.AccountedFor.{Objects, RunObjects}
use Rattle.run_steps.specs.Areas.{GiveTheRows}
use Rattle.run_steps.specs.BeginFor.{row_of}
use Rattle.run_steps.specs.Registry.{AreRefusedAt}
use Rattle.run_steps.specs.Starting.{AreFewFiles, IsFirstTooMany, new_files}
use Rattle.told_scans.proofs.Members.{some_is}
use Rattle.run_steps.proofs.RunRows.{OneChoice}
use Rattle.told_events.specs.Licence.{LieApart}
use Rattle.wire_base.specs.declared.limits.Full.TheVariants.{Epochs, Files, Slots}
use Rattle.wire_base.specs.declared.limits.Which.{Which}
use Rattle.wire_base.specs.declared.row.Row.{Row}
use Rattle.beat_run.specs.Accounted.{HasNoEpoch, HasNoRoom, IsAccountedByNamed, IsAccountedWhereTold, RunLent}
use Rattle.beat_run.specs.Asked.{AskForOnce, IsAsked}
use Rattle.beat_run.specs.Cause.{AllSigns, Cause, HasFailedBetween, HasFailedSince, IsFailedWorker, LacksNumbers, MayHaveGiven, Signs}
use Rattle.beat_run.specs.Completeness.{EachSince, GivenRun, HasRoom, HaveNumbers, IsNotIdle, IsServed, IsUntroubled, IsUntroubledEnd, OfEachWire, PeersServe, TellsBuilt}
use Rattle.beat_run.specs.Ends.{ListsTooMany}
use Rattle.beat_run.specs.Named.{IsNamed}
use Rattle.beat_run.specs.Printed.{StandsBehind}
use Rattle.beat_run.specs.declared.settings.TheConstants.{LIMIT}
use Rattle.beat_run.proofs.FirstLacks.{no_lack}
use Rattle.command_line.proofs.Plain.{not_both}

-- ---- what is known of a run

-- what a run is given, and what shows of it as it begins and as it ends
pub record ShownRun (F W D : Type 0) : Type 0 where
  pub given : GivenRun D
  pub lent : RunLent F W D
  pub a : D
  pub b : D
  pub before : AllSigns
  pub now : AllSigns
  pub written : Option (List ℕ)
  pub printed : Option (List ℕ)

-- the objects that it is accounted for by
abbrev pub objects_by : {D : Type 0} → D → D → Signs → Objects D
objects_by a b signs = record { folder = signs.folder; moments = signs.moments; questions = signs.questions; outcomes = map (λ wire. wire.outcomes) signs.wires; a = a; b = b }

-- what `ship` ensures of the status that it ends with
pub record EndsWith {F W D : Type 0} (disks : DiskWords D) (run : ShownRun F W D) (status : Status) : Type 0 where
  pub usage : status ≡ Usage → IsNoCommand run.given.words
  pub unbuilt : (lack : Lack) → status ≡ Unbuilt lack → IsAsked run.given.words run.given.source lack
  pub settings : (fault : SettingsError) → status ≡ Settings fault → IfSome run.given.source (λ bytes. IsFirstFault (take LIMIT bytes) fault)
  pub registry : (first second : List ℕ) (area : Which) (at : ℕ) → disks.contents run.given.a ≡ Some first → disks.contents run.given.b ≡ Some second →
      status ≡ RegistryBad area at → AreRefusedAt first second area at
  pub cause : Cause run.given.source run.before run.now status
  pub accounted : IsAccountedWhereTold disks run.given.source run.lent
      (record { before = objects_by run.given.a run.given.b run.before.signs; after = objects_by run.a run.b run.now.signs }) status (StandsBehind run.written run.printed)
  pub sixteen : length run.before.signs.wires ≡ 16
  pub as_many : length run.now.signs.wires ≡ length run.before.signs.wires

-- ---- what is told

at_some : {A : Type 0} (o : Option A) (x : A) (P : A → Type 0) → o ≡ Some x → IfSome o P → P x
at_some o x P is so = subst (λ p. IfSome p P) is so

at_some_and : {A : Type 0} (o : Option A) (x : A) (P : A → Type 0) → o ≡ Some x → IsSomeAnd o P → P x
at_some_and o x P is so = subst (λ p. IsSomeAnd p P) is so

what_is : {A : Type 0} (o : Option A) (P : A → Type 0) → IsSomeAnd o P → (x : A) × (o ≡ Some x) × P x
what_is None P so = absurd so
what_is (Some x) P so = (x, refl, so)

there_is : {A : Type 0} (xs : List A) (k : ℕ) → k < length xs → (x : A) × (slice_get xs k ≡ Some x)
there_is [] k inside = absurd (omega (arith, inside))
there_is (x ∷ xs) zero inside = (x, refl)
there_is (x ∷ xs) (suc k) inside = there_is xs k (omega (arith, inside))

-- ---- the arguments

once_or_not : (Given : Type 0) (once other : Bool) → (IsTrue once ↔ Given) → (IsTrue other ↔ Given) → once ≡ true → other ≡ false → ⊥
once_or_not Given once other by also is denied = let both : true ≡ false = sym (also.1 (by.0 is)) ∙ denied in cc

module _ (words : List (List ℕ)) (source : Option (List ℕ)) (settings : SettingsOf) (given : AskForOnce words) (spelled : TellsBuilt source settings) where
  all_built : (lack : Lack) → IsAsked words source lack → ⊥
  all_built Follow asks = once_or_not _ given.asked.once asks.asked.once given.taken.1.once asks.taken.1.once given.once asks.lacks
  all_built (Key key) asks =
      at_some source spelled.bytes (λ bytes. AreSettingsOf (take LIMIT bytes) asks.settings → IsFirstLack asks.settings key → ⊥) spelled.tells
      (no_lack source settings asks.settings key ⊥ (subst (λ o. IsNamed o settings) (sym spelled.tells) spelled.are) spelled.built)
      (at_some source spelled.bytes (λ bytes. AreSettingsOf (take LIMIT bytes) asks.settings) spelled.tells asks.named) asks.first

-- ---- settings of the same bytes

module _ (bytes : List ℕ) (settings other : SettingsOf) (are : AreSettingsOf bytes settings) (also : AreSettingsOf bytes other) where
  said_too : AreSettings also.document settings
  said_too = subst (λ d. AreSettings d settings) (some_is are.document also.document (sym are.parsed ∙ also.parsed)) are.said

  same_inputs : settings.inputs ≡ other.inputs
  same_inputs = said_too.inputs ∙ sym also.said.inputs

  same_output : settings.output ≡ other.output
  same_output = said_too.output ∙ sym also.said.output

-- ---- the areas

not_refused : (first second : List ℕ) (rows : List Row) (area : Which) (at : ℕ) → OneChoice → GivesRows first second rows → AreRefusedAt first second area at → ⊥
not_refused first second rows area at one gives refused =
    let none : rows_of gives.choice ≡ None = ap rows_of (one first second gives.choice (RefusesAt area at) gives.chosen refused) in
    let both : None ≡ Some rows = sym none ∙ gives.given in
    cc

-- ---- the peers

apart_before : (own left : List ℕ) (distance : ℕ) → LieApart own distance → LieApart (own ++ left) distance
apart_before own left distance lie = record {
  before = lie.before;
  earlier = lie.earlier;
  between = lie.between;
  later = lie.later;
  behind = lie.behind ++ left;
  are = ap (λ (l : List ℕ). l ++ left) lie.are
      ∙ append_assoc lie.before (lie.earlier ∷ (lie.between ++ lie.later ∷ lie.behind)) left
      ∙ ap (λ (l : List ℕ). lie.before ++ lie.earlier ∷ l) (append_assoc lie.between (lie.later ∷ lie.behind) left);
  apart = lie.apart;
}

-- the first of some outcomes is no failure
first_is_none : (timeout : ℕ) (moments : List ℕ) (outcome : Outcome) (others : List Outcome) → IsServed outcome → IsNotIdle outcome ⊎ (¬ (LieApart moments timeout)) →
    AreFailures timeout (outcome ∷ others) moments → ⊥
first_is_none timeout moments Refused others served in_time failures = served
first_is_none timeout moments (Finished talk faults idles) others served in_time (inl ((inl rose), later)) = served.0 rose
first_is_none timeout moments (Finished talk faults idles) others served in_time (inl ((inr fault), later)) = served.1 fault
first_is_none timeout moments (Finished talk faults idles) others served (inl not_idle) (inr late) =
    let both : false ≡ true = sym not_idle ∙ late.unanswered.idled in cc
first_is_none timeout moments (Finished talk faults idles) others served (inr never) (inr late) =
    never (subst (λ (l : List ℕ). LieApart l timeout) (sym late.moments_are) (apart_before late.own late.left timeout late.apart))

none_fails : (timeout : ℕ) (moments : List ℕ) (outcomes : List Outcome) → 1 ≤ length outcomes → AllByRecursion IsServed outcomes → AllByRecursion IsNotIdle outcomes ⊎ (¬ (LieApart moments timeout)) →
    AreFailures timeout outcomes moments → ⊥
none_fails timeout moments [] some served in_time failures = omega (arith, some)
none_fails timeout moments (outcome ∷ others) some served (inl not_idle) failures = first_is_none timeout moments outcome others served.0 (inl not_idle.0) failures
none_fails timeout moments (outcome ∷ others) some served (inr never) failures = first_is_none timeout moments outcome others served.0 (inr never) failures

none_last : (timeout attempts : ℕ) (moments : List ℕ) (outcomes : List Outcome) → 1 ≤ attempts → AllByRecursion IsServed outcomes → AllByRecursion IsNotIdle outcomes ⊎ (¬ (LieApart moments timeout)) →
    HasLastFailures timeout attempts moments outcomes → ⊥
none_last timeout attempts moments outcomes some served in_time has =
    none_fails timeout moments outcomes (omega (arith, some, has.number, length-append has.earlier has.last, ap (λ (l : List Outcome). length l) has.are)) served in_time
    (subst (λ (l : List Outcome). AreFailures timeout l moments) (sym has.are) has.failures)

module _ (settings : SettingsOf) (moments : List ℕ) (old new : Seen) (some : 1 ≤ settings.output.attempts) (stands : ¬ (Rose old.faults new.faults)) (served : EachSince IsServed old new)
    (in_time : EachSince IsNotIdle old new ⊎ (¬ (LieApart moments settings.output.timeout))) where
  not_since : (earlier all : List Outcome) → old.outcomes ≡ Some earlier → new.outcomes ≡ Some all → HasFailedSince settings moments earlier new → ⊥
  not_since earlier all earlier_are all_are failed = by_case failed.failures
    where
      same : failed.all ≡ all
      same = some_is failed.all all (sym failed.tells ∙ all_are)

      each : (P : Outcome → Type 0) → EachSince P old new → AllByRecursion P (drop (length earlier) all)
      each P since =
          at_some_and new.outcomes all (λ (l : List Outcome). AllByRecursion P (drop (length earlier) l)) all_are
          (at_some_and old.outcomes earlier (λ (e : List Outcome). IsSomeAnd new.outcomes (λ (l : List Outcome). AllByRecursion P (drop (length e) l))) earlier_are since)

      within : EachSince IsNotIdle old new ⊎ (¬ (LieApart moments settings.output.timeout)) → AllByRecursion IsNotIdle (drop (length earlier) all) ⊎ (¬ (LieApart moments settings.output.timeout))
      within (inl not_idle) = inl (each IsNotIdle not_idle)
      within (inr never) = inr never

      by_case : IsAtEnd new.faults ⊎ HasLastFailures settings.output.timeout settings.output.attempts moments (drop (length earlier) failed.all) → ⊥
      by_case (inl at_end) = stands (inr at_end)
      by_case (inr last) =
          none_last settings.output.timeout settings.output.attempts moments (drop (length earlier) all) some (each IsServed served) (within in_time)
          (subst (λ (l : List Outcome). HasLastFailures settings.output.timeout settings.output.attempts moments (drop (length earlier) l)) same last)

  not_failed : IfSome old.outcomes (λ earlier. HasFailedSince settings moments earlier new) → ⊥
  not_failed failed =
      let (earlier, earlier_are, rest) = what_is old.outcomes (λ (e : List Outcome). IsSomeAnd new.outcomes (λ (l : List Outcome). AllByRecursion IsServed (drop (length e) l))) served in
      let (all, all_are, each) = what_is new.outcomes (λ (l : List Outcome). AllByRecursion IsServed (drop (length earlier) l)) rest in
      not_since earlier all earlier_are all_are (at_some old.outcomes earlier (λ (e : List Outcome). HasFailedSince settings moments e new) earlier_are failed)

module _ (settings : SettingsOf) (before now : Signs) (some : 1 ≤ settings.output.attempts) (few : settings.output.workers ≤ 16) (serve : PeersServe settings.output.timeout before now)
    (sixteen : length before.wires ≡ 16) (as_many : length now.wires ≡ length before.wires) where
  no_worker_fails : (worker failures : ℕ) → IsFailedWorker settings before now worker failures → ⊥
  no_worker_fails worker failures is =
      let (old, old_is) = there_is before.wires worker (omega (arith, is.worker_is, few, sixteen)) in
      let (new, new_is) = there_is now.wires worker (omega (arith, is.worker_is, few, sixteen, as_many)) in
      let by = is.failed serve.clock_told serve.clock_tells in
      not_failed settings by.moments old new some (serve.wires worker old new old_is new_is) (serve.served worker old new old_is new_is) (in_time by old new old_is new_is serve.in_time)
      (by.failed old new old_is new_is)
    where
      in_time : (by : HasFailedBetween settings worker before now) (old new : Seen) → slice_get before.wires worker ≡ Some old → slice_get now.wires worker ≡ Some new →
          OfEachWire (EachSince IsNotIdle) before now ⊎ ((moments : List ℕ) → MayHaveGiven before now moments → ¬ (LieApart moments settings.output.timeout)) →
          EachSince IsNotIdle old new ⊎ (¬ (LieApart by.moments settings.output.timeout))
      in_time by old new old_is new_is (inl not_idle) = inl (not_idle worker old new old_is new_is)
      in_time by old new old_is new_is (inr never) = inr (never by.moments by.given)

-- ---- the files

module _ (f : Listed → Bool) where
  one_kept : (one : Listed) (rest : List Listed) (b : Bool) → b ≡ true → 1 ≤ length (if b then one ∷ rest else rest)
  one_kept one rest true kept = omega arith
  one_kept one rest false kept = absurd cc

  one_more : (one : Listed) (fewer rest : List Listed) (b : Bool) → length fewer + 1 ≤ length rest → length (if b then one ∷ fewer else fewer) + 1 ≤ length (if b then one ∷ rest else rest)
  one_more one fewer rest true less = omega (arith, less)
  one_more one fewer rest false less = less

  more_kept : (listed : List Listed) (place : ℕ) (one : Listed) → slice_get listed place ≡ Some one → f one ≡ true → length (filter f (take place listed)) + 1 ≤ length (filter f listed)
  more_kept [] place one is kept = absurd cc
  more_kept (x ∷ listed) zero one is kept =
      let same : x ≡ one = cc in
      let some = one_kept x (filter f listed) (f x) (ap f same ∙ kept) in
      omega (arith, some)
  more_kept (x ∷ listed) (suc place) one is kept = one_more x (filter f (take place listed)) (filter f listed) (f x) (more_kept listed place one is kept)

-- files are at their limit, before one that has no row
full_files : (files slots size : ℕ) (row : Option Row) → full_for files slots size row ≡ Some Files → (is_none row ≡ true) × (65_536 ≤ files)
full_files files slots size None full = (refl, by_test (nat_le 65_536 files) refl full)
  where
    by_slots : (b : Bool) → (if b then Some Slots else None) ≡ Some Files → ⊥
    by_slots true is = cc
    by_slots false is = cc

    by_test : (b : Bool) → nat_le 65_536 files ≡ b → (if b then Some Files else (if nat_le 4_294_967_295 slots then Some Slots else None)) ≡ Some Files → 65_536 ≤ files
    by_test true at_limit is = leb-true 65_536 files at_limit
    by_test false below is = absurd (by_slots (nat_le 4_294_967_295 slots) is)
full_files files slots size (Some row) full = absurd (by_test (nat_le row.offset size) full)
  where
    by_slots : (b : Bool) → (if b then Some Slots else None) ≡ Some Files → ⊥
    by_slots true is = cc
    by_slots false is = cc

    by_epoch : (b : Bool) → (if b then Some Epochs else (if nat_le 4_294_967_295 slots then Some Slots else None)) ≡ Some Files → ⊥
    by_epoch true is = cc
    by_epoch false is = by_slots (nat_le 4_294_967_295 slots) is

    by_test : (b : Bool) → (if b then (if nat_le 4_294_967_295 slots then Some Slots else None) else (if nat_le 4_294_967_295 row.epoch.0 then Some Epochs else (if nat_le 4_294_967_295 slots then Some Slots else None))) ≡ Some Files → ⊥
    by_test true is = by_slots (nat_le 4_294_967_295 slots) is
    by_test false is = by_epoch (nat_le 4_294_967_295 row.epoch.0) is

few_or_full : (rows : List Row) (listed : List Listed) (path : List ℕ) → AreFewFiles rows listed → IsFirstTooMany rows listed Files path → ⊥
few_or_full rows listed path few first =
    let full = full_files (length rows + new_files rows (take first.place listed)) first.place first.one.size (row_of rows first.one.key) first.full in
    let more = more_kept (λ (one : Listed). is_none (row_of rows one.key)) listed first.place first.one first.listed_there full.0 in
    omega (arith, few, full.1, more)

module _ {D : Type 0} (disks : DiskWords D) (a b : D) (inputs : List InputRule) (before after : Option FolderHistory) (room : HasRoom disks a b inputs before after) where
  finds_room : (rows : List Row) (path : List ℕ) → GiveTheRows disks a b rows → ListsTooMany inputs room.told rows Files path after → ⊥
  finds_room rows path given lists = few_or_full rows lists.files path (room.few_known rows lists.files lists.doubled given lists.scans) lists.first

-- ---- the run

-- each wire tells, since each of as many did before
all_tell : (old new : List Seen) → length new ≡ length old →
    ((place : ℕ) (one other : Seen) → slice_get old place ≡ Some one → slice_get new place ≡ Some other → EachSince IsServed one other) →
    AllByRecursion (λ (outcomes : Option (List Outcome)). IsSome outcomes) (map (λ wire. wire.outcomes) new)
all_tell old [] as_many since = tt
all_tell [] (other ∷ new) as_many since = absurd (omega (arith, as_many))
all_tell (one ∷ old) (other ∷ new) as_many since =
    let (earlier, earlier_are, rest) = what_is one.outcomes (λ (e : List Outcome). IsSomeAnd other.outcomes (λ (l : List Outcome). AllByRecursion IsServed (drop (length e) l))) (since 0 one other refl refl) in
    let (all, all_are, each) = what_is other.outcomes (λ (l : List Outcome). AllByRecursion IsServed (drop (length earlier) l)) rest in
    (ap (λ (o : Option (List Outcome)). is_some o) all_are, all_tell old new (omega (arith, as_many)) (λ place first second is also. since (suc place) first second is also))

module _ {F W D : Type 0} (disks : DiskWords D) (run : ShownRun F W D) (one : OneChoice) (untroubled : IsUntroubled disks run.given run.before run.now) where
  named_too : (other : SettingsOf) → IsNamed run.given.source other → AreSettingsOf (take LIMIT untroubled.spelled.bytes) other
  named_too other named = at_some run.given.source untroubled.spelled.bytes (λ bytes. AreSettingsOf (take LIMIT bytes) other) untroubled.spelled.tells named

  output_too : (other : SettingsOf) → IsNamed run.given.source other → untroubled.settings.output ≡ other.output
  output_too other named = same_output (take LIMIT untroubled.spelled.bytes) untroubled.settings other untroubled.spelled.are (named_too other named)

  inputs_too : (other : SettingsOf) → IsNamed run.given.source other → untroubled.settings.inputs ≡ other.inputs
  inputs_too other named = same_inputs (take LIMIT untroubled.spelled.bytes) untroubled.settings other untroubled.spelled.are (named_too other named)

  reachable : (status : Status) → EndsWith disks run status → (other : SettingsOf) (worker failures : ℕ) → IsNamed run.given.source other → IsFailedWorker other run.before.signs run.now.signs worker failures → ⊥
  reachable status ends other worker failures named failed =
      let are = named_too other named in
      let ranges = (document_in_range are.document other are.faultless are.said).output in
      no_worker_fails other run.before.signs run.now.signs ranges.attempts.0 ranges.workers.1
      (subst (λ (o : OutputRule). PeersServe o.timeout run.before.signs run.now.signs) (output_too other named) untroubled.peers) ends.sixteen ends.as_many worker failures failed

  -- as all tell
  accounted_so : (status : Status) → EndsWith disks run status → IsAccountedByNamed disks run.given.source run.lent
      (record { before = objects_by run.given.a run.given.b run.before.signs; after = objects_by run.a run.b run.now.signs }) status (StandsBehind run.written run.printed)
  accounted_so status ends = ends.accounted (record {
    tell = record {
      folder = ap (λ (o : Option FolderHistory). is_some o) untroubled.room.told_is;
      moments = untroubled.peers.clock_told;
      wires = all_tell run.before.signs.wires run.now.signs.wires ends.as_many untroubled.peers.served;
    };
    areas = untroubled.rows;
  })

  room_for_files : (path : List ℕ) → EndsWith disks run (TooMany Files path) → ⊥
  room_for_files path ends =
      let by = accounted_so (TooMany Files path) ends in
      let room = subst (λ (i : List InputRule). HasRoom disks run.given.a run.given.b i run.before.signs.folder run.now.signs.folder) (inputs_too by.settings (by.named tt)) untroubled.room in
      let objects : RunObjects D = record { before = objects_by run.given.a run.given.b run.before.signs; after = objects_by run.a run.b run.now.signs } in
      let full = at_some run.before.signs.folder room.told (λ told. HasNoRoom disks by.settings objects told path) room.told_is by.is.full_for in
      finds_room disks run.given.a run.given.b by.settings.inputs run.before.signs.folder run.now.signs.folder room full.rows path full.given full.lists

  epochs_for_files : (path : List ℕ) → EndsWith disks run (TooMany Epochs path) → ⊥
  epochs_for_files path ends =
      let by = accounted_so (TooMany Epochs path) ends in
      let room = subst (λ (i : List InputRule). HasRoom disks run.given.a run.given.b i run.before.signs.folder run.now.signs.folder) (inputs_too by.settings (by.named tt)) untroubled.room in
      let objects : RunObjects D = record { before = objects_by run.given.a run.given.b run.before.signs; after = objects_by run.a run.b run.now.signs } in
      let none = at_some run.before.signs.folder room.told (λ told. HasNoEpoch disks by.settings objects told path) room.told_is by.is.full_for in
      room.epochs_left none.rows none.given path none.finds

  numbers_are_told : (path : List ℕ) → EndsWith disks run (NoNative path) → ⊥
  numbers_are_told path ends =
      let told_numbers = subst (λ (i : List InputRule). HaveNumbers i run.before.signs.folder run.now.signs.folder) (inputs_too ends.cause.settings ends.cause.named) untroubled.numbers in
      at_some run.before.signs.folder untroubled.room.told (λ told. (path : List ℕ) → ¬ (LacksNumbers ends.cause.settings.inputs path told run.now.signs.folder)) untroubled.room.told_is told_numbers path
      (at_some run.before.signs.folder untroubled.room.told (λ told. LacksNumbers ends.cause.settings.inputs path told run.now.signs.folder) untroubled.room.told_is ends.cause.by)

  pub ends_untroubled : (status : Status) → EndsWith disks run status → IsUntroubledEnd status
  ends_untroubled Done ends = tt
  ends_untroubled Stopped ends = absurd (untroubled.counts.rings ends.cause)
  ends_untroubled Usage ends = absurd (not_both run.given.words untroubled.words.asked untroubled.words.taken (ends.usage refl))
  ends_untroubled (Settings fault) ends = absurd (settings_without_fault (take LIMIT untroubled.spelled.bytes) untroubled.settings fault untroubled.spelled.are
      (at_some run.given.source untroubled.spelled.bytes (λ bytes. IsFirstFault (take LIMIT bytes) fault) untroubled.spelled.tells (ends.settings fault refl)))
  ends_untroubled (RegistryBad area at) ends =
      let areas = untroubled.rows in
      absurd (not_refused areas.first areas.second areas.rows area at one areas.gives (ends.registry areas.first areas.second area at areas.a_is areas.b_is refl))
  ends_untroubled DiskFault ends = absurd (neither ends.cause)
    where
      neither : Rose run.before.signs.counts.a_faults run.now.signs.counts.a_faults ⊎ Rose run.before.signs.counts.b_faults run.now.signs.counts.b_faults → ⊥
      neither (inl rose) = untroubled.counts.first_area rose
      neither (inr rose) = untroubled.counts.second_area rose
  ends_untroubled FolderFault ends = absurd (untroubled.counts.folder ends.cause)
  ends_untroubled (Unreachable worker failures) ends = absurd (reachable (Unreachable worker failures) ends ends.cause.settings worker failures ends.cause.named ends.cause.by)
  ends_untroubled OutFault ends = absurd (untroubled.counts.sink ends.cause)
  ends_untroubled SourceFault ends = absurd (untroubled.counts.source ends.cause)
  ends_untroubled (TooMany Files path) ends = absurd (room_for_files path ends)
  ends_untroubled (TooMany Epochs path) ends = absurd (epochs_for_files path ends)
  ends_untroubled (TooMany Slots path) ends = absurd ends.cause.by
  ends_untroubled (NoNative path) ends = absurd (numbers_are_told path ends)
  ends_untroubled NoMemory ends = tt
  ends_untroubled (Unbuilt what) ends = absurd (all_built run.given.words run.given.source untroubled.settings untroubled.words untroubled.spelled what (ends.unbuilt what refl))
