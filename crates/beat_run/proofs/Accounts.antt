-- A run that ended before it opened a file is accounted for by what its scan listed, or by nothing; one that opened files by its account.
use Rattle.std.proofs.Common.{◌≡◌, ◌≢◌, ◌⊎◌, inl, inr, ℕ, true, false, List, [], ◌∷◌, length, map, Option, Some, None, IfSome, IsSome, refl, sym, ap, subst, ◌∙◌, arith}
use Rattle.std.specs.Prelude.{flat_map}
use Rattle.std.specs.List.{AllByRecursion}
use Rattle.batch_worker.specs.Seen.{Seen}
use Rattle.accounts.specs.Numbers.{AreAllCounted, AreNumbersOf, ArePlacedIn}
use Rattle.beat_config.specs.InRange.{AreInRange}
use Rattle.event_tree.specs.declared.settings.Settings.{Settings as SettingsOf}
use Rattle.kept_rows.specs.Account.{SlotAccount}
use Rattle.kept_rows.specs.Run.{Run}
use Rattle.outside.specs.Counts.{next_count}
use Rattle.outside.specs.Folders.{FolderHistory}
use Rattle.outside.specs.Times.{GivesMoment}
use Rattle.outside.specs.Wires.{Outcome}
use Rattle.prospect.specs.AskedFiles.{keyed_by}
use Rattle.prospect.specs.Doubled.{PartsDoubled}
use Rattle.prospect.specs.declared.listed.Listed.{Listed}
use Rattle.registry_store.specs.Choice.{GivesRows}
use Rattle.registry_store.specs.Settled.{AreAtRest, AreSettled}
use Rattle.registry_store.specs.Standing.{Standing, chosen_by}
use Rattle.report.specs.declared.passing.Passing.{Passing}
use Rattle.report.specs.declared.status.Status.{Status}
use Rattle.report.specs.declared.status.Status.TheVariants.{Done, Stopped, Usage, Settings, RegistryBad, DiskFault, FolderFault, Unreachable, OutFault, SourceFault, TooMany, NoNative, NoMemory, Unbuilt}
use Rattle.rounds.specs.Making.{all_seen}
use Rattle.rounds.specs.Words.{DiskWords, WireWords}
use Rattle.run_steps.specs.AccountedFor.{AccountedFor, AreMomentsSince, BeginWith, Objects, RunObjects}
use Rattle.run_steps.specs.Areas.{GiveTheRows, HaveHeldFronts}
use Rattle.run_steps.specs.Starting.{AreFewFiles, HaveRoomBefore}
use Rattle.run_steps.specs.Began.{Began}
use Rattle.run_steps.specs.FollowedOrSkipped.{AreFollowedOrSkipped}
use Rattle.run_steps.specs.Met.{IsMetOf, IsTelling}
use Rattle.run_steps.specs.Questions.{Questions, WasAskedFor}
use Rattle.run_steps.specs.RunOf.{FolderTold}
use Rattle.run_steps.specs.Scanned.{HasScanned}
use Rattle.wire_base.specs.declared.limits.Full.TheVariants.{Epochs, Files, Slots}
use Rattle.wire_base.specs.declared.row.Row.{Row}
use Rattle.run_steps.specs.declared.beginning.Scanned.{Scanned}
use Rattle.run_steps.specs.declared.met.Met.{Met}
use Rattle.run_steps.specs.declared.registry_error.RegistryError.{RegistryError}
use Rattle.run_steps.proofs.Giving.{first_given}
use Rattle.run_steps.proofs.Questions.{was_asked_for}
use Rattle.run_steps.proofs.RunEarly.{early_is_accounted_for, early_moments, still_is_accounted_for, still_moments}
use Rattle.run_steps.proofs.RunFits.{first_since, moments_since}
use Rattle.run_steps.proofs.HeldRows.{some_of}
use Rattle.told_scans.proofs.Members.{some_is}
use Rattle.run_steps.proofs.RunRows.{OneChoice}
use Rattle.beat_run.specs.Accounted.{HasNoRoom, IsAccounted, IsAccountedByNamed, IsFullFor, IsMetFor, IsOpenedFrom, LeavesNoRemoved, RunLent, TellRows, HasNoEpoch}
use Rattle.beat_run.specs.Ended.{StandsForMet, StandsForRegistry}
use Rattle.beat_run.specs.Ends.{IsPreparingEnd, IsPrintingEnd, IsReportEnd, IsRunEnd, ShowsScanEnd, ListsTooMany}
use Rattle.beat_run.specs.EpochsLeft.{FindsNoEpoch}
use Rattle.beat_run.specs.Printed.{IsReportOver}
use Rattle.beat_run.specs.Scanning.{TellsScanned}
use Rattle.beat_run.specs.Skipped.{AreSkipped, all_skipped}
use Rattle.beat_run.proofs.Causes.{named_so}
use Rattle.beat_run.proofs.EpochsOut.{HasNoneFor}
use Rattle.beat_run.specs.WithinLimits.{IsWithinLimits}
use Rattle.beat_run.proofs.Numbered.{numbers_had}
use Rattle.beat_run.proofs.PathsListed.{GoesFurther, are_skipped}
use Rattle.beat_run.proofs.PrintedEnds.{never_reported}
use Rattle.beat_run.proofs.ScanShown.{ScannedSome, each_some, scanned_folder}
use Rattle.run_steps.specs.declared.met.Met.TheVariants as met
use Rattle.run_steps.specs.declared.registry_error.RegistryError.TheVariants as registry

-- ---- what was met, by the status

-- as it stands for a run that opened no file
abbrev early_met : Status → Met
early_met FolderFault = met.FolderFault
early_met (Unreachable worker failures) = met.Unreachable worker
early_met (TooMany full path) = met.FolderFault
early_met (NoNative path) = met.FolderFault
early_met _ = met.NoMemory

early_met_for : (status : Status) → IsRunEnd status → IsMetFor status (early_met status)
early_met_for Done ends = absurd ends
early_met_for Stopped ends = absurd ends
early_met_for Usage ends = tt
early_met_for (Settings fault) ends = tt
early_met_for (RegistryBad area at) ends = tt
early_met_for DiskFault ends = tt
early_met_for FolderFault ends = refl
early_met_for (Unreachable worker failures) ends = refl
early_met_for OutFault ends = tt
early_met_for SourceFault ends = tt
early_met_for (TooMany full path) ends = tt
early_met_for (NoNative path) ends = tt
early_met_for NoMemory ends = tt
early_met_for (Unbuilt what) ends = tt

early_not_telling : (status : Status) → IsTelling (early_met status) → ⊥
early_not_telling Done telling = absurd telling
early_not_telling Stopped telling = absurd telling
early_not_telling Usage telling = absurd telling
early_not_telling (Settings fault) telling = absurd telling
early_not_telling (RegistryBad area at) telling = absurd telling
early_not_telling DiskFault telling = absurd telling
early_not_telling FolderFault telling = absurd telling
early_not_telling (Unreachable worker failures) telling = absurd telling
early_not_telling OutFault telling = absurd telling
early_not_telling SourceFault telling = absurd telling
early_not_telling (TooMany full path) telling = absurd telling
early_not_telling (NoNative path) telling = absurd telling
early_not_telling NoMemory telling = absurd telling
early_not_telling (Unbuilt what) telling = absurd telling

early_not_done : (status : Status) → early_met status ≢ met.Done
early_not_done status is = early_not_telling status (subst IsTelling (sym is) tt)

-- as it was worked
met_for : (listed : List Listed) (attempts : ℕ) (what : Met) (status : Status) → IsMetOf (length listed) what → StandsForMet listed attempts what status → IsMetFor status what
met_for listed attempts met.Done status of stands = subst (λ (s : Status). IsMetFor s met.Done) (sym stands) refl
met_for listed attempts met.Stopped status of stands = subst (λ (s : Status). IsMetFor s met.Stopped) (sym stands) refl
met_for listed attempts met.NoMemory status of stands = subst (λ (s : Status). IsMetFor s met.NoMemory) (sym stands) tt
met_for listed attempts met.DiskFault status of stands = subst (λ (s : Status). IsMetFor s met.DiskFault) (sym stands) tt
met_for listed attempts met.FolderFault status of stands = subst (λ (s : Status). IsMetFor s met.FolderFault) (sym stands) refl
met_for listed attempts (met.Unreachable worker) status of stands = subst (λ (s : Status). IsMetFor s (met.Unreachable worker)) (sym stands) refl
met_for listed attempts (met.Epochs slot) status of stands = named_so listed slot.0 status (TooMany Epochs) (λ s. IsMetFor s (met.Epochs slot)) of stands tt (λ one is. tt)
met_for listed attempts (met.NoNative slot) status of stands = named_so listed slot.0 status NoNative (λ s. IsMetFor s (met.NoNative slot)) of stands tt (λ one is. tt)

pub met_for_end : (listed : List Listed) (attempts : ℕ) (what : Met) (status : Status) → IsMetOf (length listed) what → (status ≡ NoMemory) ⊎ StandsForMet listed attempts what status → IsMetFor status what
met_for_end listed attempts what status of (inl memory) = subst (λ (s : Status). IsMetFor s what) (sym memory) tt
met_for_end listed attempts what status of (inr stands) = met_for listed attempts what status of stands

-- ---- only a scan finds too many files, and a run of which one was met in its last epoch beside these rows

pub full_for_met : {D : Type 0} (disks : DiskWords D) (settings : SettingsOf) (objects : RunObjects D) (rows : List Row) (gave : GiveTheRows disks objects.before.a objects.before.b rows) (listed : List Listed) (attempts : ℕ) (what : Met) (status : Status) →
    IsMetOf (length listed) what → HasNoneFor settings rows listed objects.before.folder objects.after.folder what →
    (status ≡ NoMemory) ⊎ StandsForMet listed attempts what status → IsFullFor disks settings objects status
full_for_met {D} disks settings objects rows gave listed attempts what status of none ends = by_end ends
  where
    IsFull : Status → Type 0
    IsFull s = IsFullFor disks settings objects s

    by_met : (m : Met) → IsMetOf (length listed) m → HasNoneFor settings rows listed objects.before.folder objects.after.folder m → StandsForMet listed attempts m status → IsFullFor disks settings objects status
    by_met met.Done of_it none_for stands = subst IsFull (sym stands) tt
    by_met met.Stopped of_it none_for stands = subst IsFull (sym stands) tt
    by_met met.NoMemory of_it none_for stands = subst IsFull (sym stands) tt
    by_met met.DiskFault of_it none_for stands = subst IsFull (sym stands) tt
    by_met met.FolderFault of_it none_for stands = subst IsFull (sym stands) tt
    by_met (met.Unreachable worker) of_it none_for stands = subst IsFull (sym stands) tt
    by_met (met.Epochs slot) of_it none_for stands = named_so listed slot.0 status (TooMany Epochs) IsFull of_it stands tt
        (λ one is. each_some objects.before.folder (λ told. FindsNoEpoch settings.inputs told rows one.path objects.after.folder) (λ told. HasNoEpoch disks settings objects told one.path)
        (λ told finds. record { rows = rows; given = gave; finds = finds }) (none_for one is))
    by_met (met.NoNative slot) of_it none_for stands = named_so listed slot.0 status NoNative IsFull of_it stands tt (λ one is. tt)

    by_end : (status ≡ NoMemory) ⊎ StandsForMet listed attempts what status → IsFullFor disks settings objects status
    by_end (inl memory) = subst IsFull (sym memory) tt
    by_end (inr stands) = by_met what of none stands

pub full_for_registry : {D : Type 0} (disks : DiskWords D) (settings : SettingsOf) (objects : RunObjects D) (error : RegistryError) (status : Status) → StandsForRegistry error status → IsFullFor disks settings objects status
full_for_registry disks settings objects (registry.Bad area at) status stands = subst (λ (s : Status). IsFullFor disks settings objects s) (sym stands) tt
full_for_registry disks settings objects registry.DiskFault status stands = subst (λ (s : Status). IsFullFor disks settings objects s) (sym stands) tt
full_for_registry disks settings objects registry.NoMemory status stands = subst (λ (s : Status). IsFullFor disks settings objects s) (sym stands) tt

pub full_for_prepared : {D : Type 0} (disks : DiskWords D) (settings : SettingsOf) (objects : RunObjects D) (before now : ℕ) (status : Status) → IsPreparingEnd before now status → IsFullFor disks settings objects status
full_for_prepared disks settings objects before now Done ends = tt
full_for_prepared disks settings objects before now Stopped ends = tt
full_for_prepared disks settings objects before now Usage ends = tt
full_for_prepared disks settings objects before now (Settings fault) ends = tt
full_for_prepared disks settings objects before now (RegistryBad area at) ends = tt
full_for_prepared disks settings objects before now DiskFault ends = tt
full_for_prepared disks settings objects before now FolderFault ends = tt
full_for_prepared disks settings objects before now (Unreachable worker failures) ends = tt
full_for_prepared disks settings objects before now OutFault ends = tt
full_for_prepared disks settings objects before now SourceFault ends = tt
full_for_prepared disks settings objects before now (TooMany full path) ends = absurd ends
full_for_prepared disks settings objects before now (NoNative path) ends = tt
full_for_prepared disks settings objects before now NoMemory ends = tt
full_for_prepared disks settings objects before now (Unbuilt what) ends = tt

-- a scan that told no files finds it beside the rows that the areas gave
pub full_for_scan : {D : Type 0} (disks : DiskWords D) (settings : SettingsOf) (objects : RunObjects D) (rows : List Row) (status : Status) → GiveTheRows disks objects.before.a objects.before.b rows →
    IfSome objects.before.folder (λ told. ShowsScanEnd settings.inputs told rows objects.after.folder status) → IsFullFor disks settings objects status
full_for_scan disks settings objects rows Done gave shows = tt
full_for_scan disks settings objects rows Stopped gave shows = tt
full_for_scan disks settings objects rows Usage gave shows = tt
full_for_scan disks settings objects rows (Settings fault) gave shows = tt
full_for_scan disks settings objects rows (RegistryBad area at) gave shows = tt
full_for_scan disks settings objects rows DiskFault gave shows = tt
full_for_scan disks settings objects rows FolderFault gave shows = tt
full_for_scan disks settings objects rows (Unreachable worker failures) gave shows = tt
full_for_scan disks settings objects rows OutFault gave shows = tt
full_for_scan disks settings objects rows SourceFault gave shows = tt
full_for_scan disks settings objects rows (TooMany Files path) gave shows =
    each_some objects.before.folder (λ told. ListsTooMany settings.inputs told rows Files path objects.after.folder) (λ told. HasNoRoom disks settings objects told path)
    (λ told lists. record { rows = rows; given = gave; lists = lists }) shows
full_for_scan disks settings objects rows (TooMany Epochs path) gave shows =
    each_some objects.before.folder (λ told. ListsTooMany settings.inputs told rows Epochs path objects.after.folder) (λ told. HasNoEpoch disks settings objects told path)
    (λ told lists. record { rows = rows; given = gave; finds = inl lists }) shows
full_for_scan disks settings objects rows (TooMany Slots path) gave shows = tt
full_for_scan disks settings objects rows (NoNative path) gave shows = tt
full_for_scan disks settings objects rows NoMemory gave shows = tt
full_for_scan disks settings objects rows (Unbuilt what) gave shows = tt

-- ---- a run that opened no file

nothing : (A : Type 0) → IsSome {T = A} None → ⊥
nothing A some = let never : false ≡ true = some in cc

later_tells : (before later : Option (List ℕ)) (moment : ℕ) → GivesMoment before moment later → IsSome before → IsSome later
later_tells None later moment gives some = absurd (nothing (List ℕ) some)
later_tells (Some moments) later moment (inl same) some = subst (λ (o : Option (List ℕ)). IsSome o) (sym same.1) refl
later_tells (Some moments) later moment (inr grows) some = subst (λ (o : Option (List ℕ)). IsSome o) (sym grows.1) refl

module _ {D : Type 0} (disks : DiskWords D) (one : OneChoice) (settings : SettingsOf) (opening : List Row) (from_a from_b a b : D) (gave : GiveTheRows disks from_a from_b opening)
    (held : AreAtRest disks.contents disks.images from_a from_b → HaveHeldFronts disks opening [] from_a from_b a b) (outcomes : List (Option (List Outcome))) where
  -- what all told before it, and behind it
  abbrev pub early_run : Option FolderHistory → Option FolderHistory → Option (List ℕ) → Option (List ℕ) → Questions → Questions → RunObjects D
  early_run told after before later asked then_asked = record {
    before = record { folder = told; moments = before; questions = asked; outcomes = outcomes; a = from_a; b = from_b };
    after = record { folder = after; moments = later; questions = then_asked; outcomes = outcomes; a = a; b = b };
  }

  -- for its one moment the clock was asked
  asked_first : (before later : Option (List ℕ)) (moment asked then_asked : ℕ) (gives : GivesMoment before moment later) → IsSome before → then_asked ≡ next_count asked →
      WasAskedFor asked then_asked (first_given moment before later gives).since
  asked_first before later moment asked then_asked gives clock once =
      let first = first_given moment before later gives in
      let tells = later_tells before later moment gives clock in
      was_asked_for asked then_asked then_asked once (omega arith) before later later moment first.since gives (first_since before later moment first.since first.given tells)
      (moments_since before later moment first.since first.given tells) (λ few. omega arith)

  -- it scanned
  pub early : {tells : List ℕ → Type 0} (told after : Option FolderHistory) (before later : Option (List ℕ)) (asked then_asked : Questions) (moment : ℕ) (status : Status) → IsSome told → IsSome before → GivesMoment before moment later →
      then_asked.clock ≡ next_count asked.clock → IfSome told (λ history. ScannedSome settings history after) → IsRunEnd status → IsFullFor disks settings (early_run told after before later asked then_asked) status →
      IsAccounted disks settings (early_run told after before later asked then_asked) status tells
  early None after before later asked then_asked moment status some clock gives once scans ends full = absurd (nothing FolderHistory some)
  early (Some history) after before later asked then_asked moment status some clock gives once scans ends full =
      let first = first_given moment before later gives in
      let start : Began D = record { settings = settings; once = true; opening = opening; listed = []; doubled = []; moment = moment; shown = Some scans.scanned; moments = before; heard = []; a = from_a; b = from_b } in
      let both = subst (λ (o : Option FolderHistory). (accounted : AccountedFor disks settings (early_run (Some history) o before later asked then_asked) (early_met status)) ×
      WasAskedFor asked.clock then_asked.clock accounted.run.trace.moments) (sym scans.after_is) (
        early_is_accounted_for disks start (scanned_folder history scans.listed scans.scanned) scans.has first.since later first.given (later_tells before later moment gives clock) outcomes a b asked then_asked one gave held (early_met status) (early_not_telling status),
        subst (λ (l : List ℕ). WasAskedFor asked.clock then_asked.clock l)
            (sym (early_moments disks start (scanned_folder history scans.listed scans.scanned) scans.has first.since later first.given (later_tells before later moment gives clock) outcomes a b asked then_asked one gave held (early_met status) (early_not_telling status)))
            (asked_first before later moment asked.clock then_asked.clock gives clock once),
      ) in
      record {
        what = early_met status;
        met_for = early_met_for status ends;
        accounted = both.0;
        asked = both.1;
        cleaned = λ rest telling. absurd (early_not_telling status telling);
        reported = λ end. absurd (never_reported status ends end);
        counted = λ is_done. absurd (early_not_done status is_done);
        within = λ end. absurd (never_reported status ends end);
        numbered = λ end. absurd (never_reported status ends end);
        full_for = full;
      }

-- it did not
module _ {D : Type 0} (disks : DiskWords D) (one : OneChoice) (settings : SettingsOf) (opening : List Row) (from_a from_b a b : D)
    (gave : GiveTheRows disks from_a from_b opening)
    (held : AreAtRest disks.contents disks.images from_a from_b → HaveHeldFronts disks opening [] from_a from_b a b) (outcomes : List (Option (List Outcome))) where
  abbrev pub still_run : Option FolderHistory → Option (List ℕ) → Questions → RunObjects D
  still_run told before asked = record {
    before = record { folder = told; moments = before; questions = asked; outcomes = outcomes; a = from_a; b = from_b };
    after = record { folder = told; moments = before; questions = asked; outcomes = outcomes; a = a; b = b };
  }

  pub still : {tells : List ℕ → Type 0} (told : Option FolderHistory) (before : Option (List ℕ)) (asked : Questions) (status : Status) → IsSome told → IsSome before → IsRunEnd status →
      IsFullFor disks settings (still_run told before asked) status → IsAccounted disks settings (still_run told before asked) status tells
  still None before asked status some clock ends full = absurd (nothing FolderHistory some)
  still (Some history) None asked status some clock ends full = absurd (nothing (List ℕ) clock)
  still (Some history) (Some moments) asked status some clock ends full = record {
    what = early_met status;
    met_for = early_met_for status ends;
    accounted = still_is_accounted_for disks settings opening history moments outcomes from_a from_b a b asked one gave held (early_met status) (early_not_telling status);
    asked = subst (λ (l : List ℕ). WasAskedFor asked.clock asked.clock l)
        (sym (still_moments disks settings opening history moments outcomes from_a from_b a b asked one gave held (early_met status) (early_not_telling status))) (λ few. omega arith);
    cleaned = λ rest telling. absurd (early_not_telling status telling);
    reported = λ end. absurd (never_reported status ends end);
    counted = λ is_done. absurd (early_not_done status is_done);
    within = λ end. absurd (never_reported status ends end);
    numbered = λ end. absurd (never_reported status ends end);
    full_for = full;
  }

-- ---- a run that opened files

pub outcomes_seen : {W : Type 0} (words : WireWords W) (xs ys : List W) → all_seen words xs ≡ all_seen words ys → map words.outcomes xs ≡ map words.outcomes ys
outcomes_seen {W} words xs ys same = sym (each xs) ∙ ap (map (λ (s : Seen). s.outcomes)) same ∙ each ys
  where
    each : (wires : List W) → map (λ (s : Seen). s.outcomes) (all_seen words wires) ≡ map words.outcomes wires
    each [] = refl
    each (w ∷ wires) = ap (λ (l : List (Option (List Outcome))). words.outcomes w ∷ l) (each wires)

pub wires_tell : {W : Type 0} (outcomes : W → Option (List Outcome)) (wires : List W) → AllByRecursion (λ (o : Option (List Outcome)). IsSome o) (map outcomes wires) → AllByRecursion (λ wire. IsSome (outcomes wire)) wires
wires_tell outcomes [] tell = tt
wires_tell outcomes (w ∷ wires) tell = (tell.0, wires_tell outcomes wires tell.1)

-- a run that is accounted for by moments of which this is the first, of which no row of a removed file is left, whose numbers are those of its
-- account, and which follows each listed file or skipped it
pub record IsWorked {D : Type 0} (disks : DiskWords D) (settings : SettingsOf) (what : Met) (shipped dropped : ℕ) (listed : List Listed) (moment scanned : ℕ) (passed : List Passing) (objects : RunObjects D) : Type 0 where
  pub accounted : AccountedFor disks settings objects what
  pub begins : BeginWith moment accounted.run.trace.moments
  pub cleaned : LeavesNoRemoved disks objects what accounted.run
  pub placed : ArePlacedIn accounted.account accounted.run.trace.wires
  pub numbers : IsTelling what → AreNumbersOf accounted.account shipped dropped
  pub counted : what ≡ met.Done → AreAllCounted accounted.account
  pub followed_or_skipped : IsTelling what → AreFollowedOrSkipped accounted.run accounted.account scanned listed passed

-- with what the folder told, where it tells, and what its scan told
module _ {D : Type 0} (disks : DiskWords D) (start : Began D) (in_range : AreInRange start.settings) (once : start.once ≡ true) (outcomes : List (Option (List Outcome))) (after : Objects D) (what : Met) (shipped dropped : ℕ)
    (scan : Scanned) (listed_are : scan.listed.items ≡ start.listed) (doubled_are : scan.doubled.items ≡ start.doubled) (passed : List Passing) (asked : Questions) where
  abbrev pub worked_run : Option FolderHistory → RunObjects D
  worked_run told = record { before = record { folder = told; moments = start.moments; questions = asked; outcomes = outcomes; a = start.a; b = start.b }; after = after }

  -- the report that it tells is one over each such account
  abbrev pub ReportsOver : (List ℕ → Type 0) → Option FolderHistory → Status → Type 0
  ReportsOver tells told status = (run : Run) (account : List SlotAccount) → ArePlacedIn account run.trace.wires → (IsTelling what → AreNumbersOf account shipped dropped) →
      (IsTelling what → IfSome told (λ history. AreSkipped run account history after.folder (all_skipped passed scan))) → IsReportEnd status → (text : List ℕ) → tells text →
      IsReportOver (worked_run told) run account status text

  -- what the files that it started kept within
  pub record KeptWithin : Type 0 where
    pub gave : GiveTheRows disks start.a start.b start.opening
    pub few : AreFewFiles start.opening scan.listed.items
    pub room : HaveRoomBefore start.opening scan.listed.items (length scan.listed.items)

  within_limits : KeptWithin → (history : FolderHistory) → TellsScanned start.settings.inputs history scan start.shown → GoesFurther start.shown after.folder →
      IsWithinLimits start.settings.inputs start.opening history after.folder
  within_limits limits history scans goes =
      let parted = scans.parted in
      let more = goes.more parted.scanned parted.after_is in
      record {
        files = scan.listed.items;
        doubled = scan.doubled.items;
        scanned = parted.scanned;
        scans = record {
          all = parted.all;
          listed = parted.listed;
          scanned = parted.scanned;
          scans = parted.scans;
          keyed = parted.keyed;
          asked = parted.asked;
          asked_are = parted.asked_are;
          asks = parted.asks;
          after_is = refl;
          parts = parted.parts;
        };
        later = more.0;
        after_is = more.1;
        few_known = limits.few;
        room = limits.room;
      }

  pub worked : {tells : List ℕ → Type 0} (told : Option FolderHistory) (status : Status) → IsSome told → IfSome told (λ history. TellsScanned start.settings.inputs history scan start.shown) → GoesFurther start.shown after.folder →
      KeptWithin → IsMetFor status what → IsFullFor disks start.settings (worked_run told) status → ReportsOver tells told status →
      ((moments : List ℕ) → BeginWith start.moment moments → AreMomentsSince start.moments after.moments moments → WasAskedFor asked.clock after.questions.clock moments) →
      ((folder : FolderTold) → HasScanned start folder → IsWorked disks start.settings what shipped dropped start.listed start.moment (length folder.scanned.events) passed (worked_run (Some folder.earlier))) →
      IsAccounted disks start.settings (worked_run told) status tells
  worked None status some scans goes limits is full reports was_asked accounted = absurd (nothing FolderHistory some)
  worked (Some history) status some scans goes limits is full reports was_asked accounted =
      let parted = scans.parted in
      let folder : FolderTold = record { earlier = history; listed = parted.listed; scanned = parted.scanned; ended = parted.scanned; asked = parted.asked } in
      let worked_so = accounted folder (record {
        in_range = in_range;
        once = once;
        shown = parted.after_is;
        all = parted.all;
        scans = parted.scans;
        keyed = parted.keyed;
        asked_are = parted.asked_are;
        asks = parted.asks;
        parts = subst (λ (l : List Listed). PartsDoubled (flat_map keyed_by parted.asked) l start.doubled) listed_are
            (subst (PartsDoubled (flat_map keyed_by parted.asked) scan.listed.items) doubled_are parted.parts);
      }) in
      record {
        what = what;
        met_for = is;
        accounted = worked_so.accounted;
        asked = was_asked worked_so.accounted.run.trace.moments worked_so.begins worked_so.accounted.fits.moments;
        cleaned = worked_so.cleaned;
        reported = reports worked_so.accounted.run worked_so.accounted.account worked_so.placed worked_so.numbers
            (λ telling.
            are_skipped start.settings worked_so.accounted.run worked_so.accounted.account history start.shown after.folder scan passed worked_so.accounted.by_settings scans goes
            (subst (λ (l : List Listed). AreFollowedOrSkipped worked_so.accounted.run worked_so.accounted.account (length parted.scanned.events) l passed) (sym listed_are) (worked_so.followed_or_skipped telling)));
        counted = worked_so.counted;
        within = λ end. record { rows = start.opening; given = limits.gave; within = within_limits limits history scans goes };
        numbered = λ end. numbers_had worked_so.accounted.run worked_so.accounted.account worked_so.accounted.followed.each;
        full_for = full;
      }

-- ---- once it is printed

module _ {F W D : Type 0} (disks : DiskWords D) (source : Option (List ℕ)) (lent : RunLent F W D) (objects : RunObjects D) (tells now_tells : List ℕ → Type 0) where
  -- what is told now of a run with this status was to be told
  retold : (status : Status) → (IsReportEnd status → (text : List ℕ) → now_tells text → tells text) → IsAccountedByNamed disks source lent objects status tells → IsAccountedByNamed disks source lent objects status now_tells
  retold status was by = record {
    settings = by.settings;
    named = by.named;
    named_or_unused = by.named_or_unused;
    supported = by.supported;
    in_range = by.in_range;
    is = record {
      what = by.is.what;
      met_for = by.is.met_for;
      accounted = by.is.accounted;
      asked = by.is.asked;
      cleaned = by.is.cleaned;
      reported = λ end text told. by.is.reported end text (was end text told);
      counted = by.is.counted;
      within = by.is.within;
      numbered = by.is.numbered;
      full_for = by.is.full_for;
    };
  }

  -- where the sink failed, its status tells nothing of the settings
  out_fault : (ended : Status) → IsAccountedByNamed disks source lent objects ended tells → IsAccountedByNamed disks source lent objects OutFault now_tells
  out_fault ended by = record {
    settings = by.settings;
    named = λ behind. absurd behind;
    named_or_unused = by.named_or_unused;
    supported = by.supported;
    in_range = by.in_range;
    is = record { what = by.is.what; met_for = tt; accounted = by.is.accounted; asked = by.is.asked; cleaned = by.is.cleaned; reported = λ end. absurd end; counted = by.is.counted; within = λ end. absurd end; numbered = λ end. absurd end; full_for = tt };
  }

  -- a status alone
  pub status_printed : (ended status : Status) (P : Type 0) → (status ≡ ended) ⊎ ((status ≡ OutFault) × P) → IsRunEnd ended → IsAccountedByNamed disks source lent objects ended tells →
      IsAccountedByNamed disks source lent objects status now_tells
  status_printed ended status P (inl same) ends is =
      subst (λ (s : Status). IsAccountedByNamed disks source lent objects s now_tells) (sym same) (retold ended (λ end. absurd (never_reported ended ends end)) is)
  status_printed ended status P (inr failed) ends is = subst (λ (s : Status). IsAccountedByNamed disks source lent objects s now_tells) (sym failed.0) (out_fault ended is)

  -- a report
  pub report_printed : (before now : ℕ) (ended status : Status) → IsPrintingEnd before now ended status → (status ≡ ended → (text : List ℕ) → now_tells text → tells text) →
      IsAccountedByNamed disks source lent objects ended tells → IsAccountedByNamed disks source lent objects status now_tells
  report_printed before now ended status ends was is = by_case status ends was
    where
      same : (s : Status) → s ≡ ended → (s ≡ ended → (text : List ℕ) → now_tells text → tells text) → IsAccountedByNamed disks source lent objects s now_tells
      same s equal was = subst (λ (e : Status). IsAccountedByNamed disks source lent objects e now_tells) (sym equal) (retold ended (λ end. was equal) is)

      by_case : (s : Status) → IsPrintingEnd before now ended s → (s ≡ ended → (text : List ℕ) → now_tells text → tells text) → IsAccountedByNamed disks source lent objects s now_tells
      by_case Done ends = same Done ends
      by_case Stopped ends = same Stopped ends
      by_case Usage ends = same Usage ends
      by_case (Settings fault) ends = same (Settings fault) ends
      by_case (RegistryBad area at) ends = same (RegistryBad area at) ends
      by_case DiskFault ends = same DiskFault ends
      by_case FolderFault ends = same FolderFault ends
      by_case (Unreachable worker failures) ends = same (Unreachable worker failures) ends
      by_case OutFault ends = λ was. out_fault ended is
      by_case SourceFault ends = same SourceFault ends
      by_case (TooMany full path) ends = same (TooMany full path) ends
      by_case (NoNative path) ends = same (NoNative path) ends
      by_case NoMemory ends = same NoMemory ends
      by_case (Unbuilt what) ends = same (Unbuilt what) ends

-- ---- a run that was refused before its settings were known

abbrev pub no_settings : SettingsOf
no_settings = record {
  inputs = [];
  output = record { hosts = []; workers = 0; bulk_max_size = 0; pipelining = 0; timeout = 0; attempts = 0 };
  processors = [];
  events = 0;
  lanes = 0;
}

-- what the areas give is what they gave
pub rows_given : {D : Type 0} (disks : DiskWords D) (a b : D) (tell : TellRows disks a b) → GiveTheRows disks a b tell.rows
rows_given disks a b tell first second a_is b_is =
    let same_first : tell.first ≡ first = some_is tell.first first (sym tell.a_is ∙ a_is) in
    let same_second : tell.second ≡ second = some_is tell.second second (sym tell.b_is ∙ b_is) in
    subst (λ (l : List ℕ). GivesRows first l tell.rows) same_second (subst (λ (l : List ℕ). GivesRows l tell.second tell.rows) same_first tell.gives)

-- a store that was opened from areas at rest
pub opened_from : {D : Type 0} (disks : DiskWords D) (from_a from_b a b : D) (store : Standing) → GiveTheRows disks from_a from_b store.rows →
    ((first second : List ℕ) (rows : List Row) → AreAtRest disks.contents disks.images from_a from_b → disks.contents from_a ≡ Some first → disks.contents from_b ≡ Some second → GivesRows first second rows →
    HaveHeldFronts disks rows [] from_a from_b a b) →
    (AreAtRest disks.contents disks.images from_a from_b → AreSettled disks.contents disks.images a b (chosen_by store)) → IsOpenedFrom disks (record { a = from_a; b = from_b }) store a b
opened_from disks from_a from_b a b store gave held settled = record {
  gave = gave;
  held = λ rest.
      let (first, a_is) = some_of (disks.contents from_a) rest.a_told in
      let (second, b_is) = some_of (disks.contents from_b) rest.b_told in
      held first second store.rows rest a_is b_is (gave first second a_is b_is);
  settled = settled;
}
