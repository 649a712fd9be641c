-- A run over its listed files that ended for want of epochs read one of them to the end of the last epoch; and where epochs are left, none
-- ends so.
use Rattle.std.proofs.Common.{◌≡◌, inl, inr, ℕ, ◌+◌, ◌<◌, ◌≤◌, nat_le, Bool, true, false, if◌then◌else◌, List, [], ◌∷◌, ◌++◌, length, map, take, Option, Some, None, IfSome, refl, ap, subst, arith}
use Rattle.std.proofs.lemmas.Bool.{leb-true}
use Rattle.std.specs.Prelude.{slice_get}
use Rattle.std.specs.List.{AllByRecursion}
use Rattle.event_tree.specs.declared.input_rule.InputRule.{InputRule}
use Rattle.event_tree.specs.declared.settings.Settings.{Settings as SettingsOf}
use Rattle.outside.specs.Folders.{FolderHistory}
use Rattle.outside.specs.declared.history.Look.{Look}
use Rattle.prospect.specs.declared.listed.Listed.{Listed}
use Rattle.restart_join.specs.Joining.{full_for}
use Rattle.restart_join.specs.Starts.{start_of}
use Rattle.restart_join.specs.declared.start.Start.{Start}
use Rattle.restart_join.specs.declared.start.TheConstants.{MAX_EPOCH}
use Rattle.rounds.specs.Words.{Words}
use Rattle.run_steps.specs.Began.{Began}
use Rattle.run_steps.specs.BeginFor.{row_of, start_among}
use Rattle.run_steps.specs.Ends.{Ending}
use Rattle.run_steps.specs.LastEpoch.{falls_in}
use Rattle.run_steps.specs.RunEnds.{HasEnded}
use Rattle.told_scans.specs.OnlyAsked.{WasClosedWith}
use Rattle.run_steps.specs.Starting.{IsFirstTooMany, new_files}
use Rattle.run_steps.specs.declared.met.Met.{Met}
use Rattle.told_scans.proofs.Members.{some_is}
use Rattle.run_steps.proofs.OutOfEpochs.{has_run_out}
use Rattle.accounts.proofs.BegunRows.{found_there}
use Rattle.wire_base.specs.declared.limits.Full.TheVariants.{Epochs, Files, Slots}
use Rattle.wire_base.specs.declared.row.Row.{Row}
use Rattle.beat_run.specs.EpochsLeft.{FindsNoEpoch, HaveEpochsLeft, ReadsToTheLast}
use Rattle.beat_run.specs.Scanning.{ScansParted}
use Rattle.beat_run.proofs.PathsListed.{GoesFurther, scanned_later}
use Rattle.run_steps.specs.declared.met.Met.TheVariants as met
use Rattle.accounts.proofs.Orderly.{member_is}

-- ---- what was met

-- a file that was met has no epoch, as far as the folder tells
abbrev pub HasNoneFor : SettingsOf → List Row → List Listed → Option FolderHistory → Option FolderHistory → Met → Type 0
HasNoneFor settings rows listed told after (met.Epochs slot) =
    (one : Listed) → slice_get listed slot.0 ≡ Some one → IfSome told (λ history. FindsNoEpoch settings.inputs history rows one.path after)
HasNoneFor settings rows listed told after _ = Unit {0}

module _ {T W L D : Type 0} (words : Words T W L D) (start : Began D) (ending : Ending D) (unused wires : List W) (once : start.once ≡ true) (goes : GoesFurther start.shown ending.shown) where
  pub has_none : (told : Option FolderHistory) → IfSome told (λ history. ScansParted start.settings.inputs history start.listed start.doubled start.shown) → (what : Met) →
      HasEnded words start ending what unused wires → HasNoneFor start.settings start.opening start.listed told ending.shown what
  has_none told scans met.Done ended = tt
  has_none told scans met.Stopped ended = tt
  has_none told scans met.NoMemory ended = tt
  has_none told scans met.DiskFault ended = tt
  has_none told scans met.FolderFault ended = tt
  has_none told scans (met.Unreachable worker) ended = tt
  has_none told scans (met.NoNative slot) ended = tt
  has_none told scans (met.Epochs slot) ended = λ one there. by_told told scans one there
    where
      by_told : (history : Option FolderHistory) → IfSome history (λ before. ScansParted start.settings.inputs before start.listed start.doubled start.shown) → (one : Listed) → slice_get start.listed slot.0 ≡ Some one →
          IfSome history (λ before. FindsNoEpoch start.settings.inputs before start.opening one.path ending.shown)
      by_told None parted one there = tt
      by_told (Some before) parted one there =
          let further = goes.more parted.scanned parted.after_is in
          inr (record {
            files = start.listed;
            doubled = start.doubled;
            scanned = parted.scanned;
            scans = subst (λ (o : Option FolderHistory). ScansParted start.settings.inputs before start.listed start.doubled o) parted.after_is parted;
            slot = slot.0;
            one = one;
            listed_there = there;
            path_is = refl;
            later = further.0;
            after_is = further.1;
            ran_out = has_run_out words start ending (met.Epochs slot) unused wires ended once slot refl parted.scanned (record parted.scanned { events = parted.scanned.events ++ further.0 }) parted.after_is further.1 one there;
          })

-- ---- where epochs are left

-- a row of the last epoch, of a file that is shorter than its offset
last_row : (files slots size : ℕ) (row : Option Row) → full_for files slots size row ≡ Some Epochs → (its : Row) × (row ≡ Some its) × (MAX_EPOCH ≤ its.epoch.0)
last_row files slots size None full = absurd (by_files (nat_le 65_536 files) full)
  where
    by_slots : (b : Bool) → (if b then Some Slots else None) ≡ Some Epochs → ⊥
    by_slots true is = cc
    by_slots false is = cc

    by_files : (b : Bool) → (if b then Some Files else (if nat_le 4_294_967_295 slots then Some Slots else None)) ≡ Some Epochs → ⊥
    by_files true is = cc
    by_files false is = by_slots (nat_le 4_294_967_295 slots) is
last_row files slots size (Some row) full = (row, refl, by_size (nat_le row.offset size) full)
  where
    by_slots : (b : Bool) → (if b then Some Slots else None) ≡ Some Epochs → ⊥
    by_slots true is = cc
    by_slots false is = cc

    by_epoch : (b : Bool) → nat_le MAX_EPOCH row.epoch.0 ≡ b → (if b then Some Epochs else (if nat_le 4_294_967_295 slots then Some Slots else None)) ≡ Some Epochs → MAX_EPOCH ≤ row.epoch.0
    by_epoch true last is = leb-true MAX_EPOCH row.epoch.0 last
    by_epoch false other is = absurd (by_slots (nat_le 4_294_967_295 slots) is)

    by_size : (b : Bool) → (if b then (if nat_le 4_294_967_295 slots then Some Slots else None) else (if nat_le MAX_EPOCH row.epoch.0 then Some Epochs else (if nat_le 4_294_967_295 slots then Some Slots else None))) ≡ Some Epochs →
        MAX_EPOCH ≤ row.epoch.0
    by_size true is = absurd (by_slots (nat_le 4_294_967_295 slots) is)
    by_size false is = by_epoch (nat_le MAX_EPOCH row.epoch.0) refl is

-- what is so of each row is so of the one that was found
of_row : (P : Row → Type 0) (rows : List Row) (key : Option (List ℕ)) (row : Row) → AllByRecursion P rows → row_of rows key ≡ Some row → P row
of_row P rows None row each is = absurd cc
of_row P rows (Some key) row each is = member_is P rows row each (found_there key rows row is)

-- a file starts at its row's epoch or the next one
next_epoch : (size : ℕ) (row : Row) → (start_of size (Some row)).epoch ≤ row.epoch.0 + 1
next_epoch size row = by_size (nat_le row.offset size)
  where
    by_size : (b : Bool) → (let start : Start = if b then record { epoch = row.epoch.0; base = row.offset } else record { epoch = row.epoch.0 + 1; base = 0 } in start.epoch ≤ row.epoch.0 + 1)
    by_size true = omega arith
    by_size false = omega arith

mapped : (f : Row → ℕ) (P : ℕ → Type 0) (rows : List Row) → AllByRecursion P (map f rows) → AllByRecursion (λ row. P (f row)) rows
mapped f P [] each = tt
mapped f P (row ∷ rows) each = (each.0, mapped f P rows each.1)

-- behind the epoch of each row, and behind the first one, there is one more, and one for each time that the looks of a tail which was
-- opened since then found the length below what was read, wherever it went on from
pub record AreBelowTheLast (told : FolderHistory) (rows : List Row) (after : Option FolderHistory) : Type 0 where
  pub of_rows : AllByRecursion (λ row. row.epoch.0 < MAX_EPOCH) rows
  pub for_falls : IfSome after (λ now. (opening place : ℕ) (looks : List Look) → length told.events ≤ opening → WasClosedWith now opening looks →
      AllByRecursion (λ epoch. epoch + falls_in place looks < MAX_EPOCH) (0 ∷ map (λ row. row.epoch.0) rows))

module _ (inputs : List InputRule) (told : FolderHistory) (rows : List Row) (after : Option FolderHistory) (left : AreBelowTheLast told rows after) where
  not_started : (files : List Listed) (path : List ℕ) → IsFirstTooMany rows files Epochs path → ⊥
  not_started files path first =
      let (its, is, last) = last_row (length rows + new_files rows (take first.place files)) first.place first.one.size (row_of rows first.one.key) first.full in
      let below = of_row (λ row. row.epoch.0 < MAX_EPOCH) rows first.one.key its left.of_rows is in
      omega (arith, last, below)

  module _ (path : List ℕ) (reads : ReadsToTheLast inputs told rows path after) where
    abbrev falls : ℕ
    falls = falls_in (start_among rows reads.one).base reads.ran_out.looks

    since : length told.events ≤ reads.ran_out.opening
    since =
        let first = scanned_later inputs told reads.files reads.doubled (Some reads.scanned) reads.scans in
        let same = ap (λ (h : FolderHistory). length h.events) (some_is reads.scanned reads.scans.scanned reads.scans.after_is) in
        let opened = reads.ran_out.since in
        omega (arith, first, same, opened)

    each : AllByRecursion (λ epoch. epoch + falls < MAX_EPOCH) (0 ∷ map (λ row. row.epoch.0) rows)
    each =
        subst (λ (o : Option FolderHistory). IfSome o (λ now. (opening place : ℕ) (looks : List Look) → length told.events ≤ opening → WasClosedWith now opening looks →
        AllByRecursion (λ epoch. epoch + falls_in place looks < MAX_EPOCH) (0 ∷ map (λ row. row.epoch.0) rows))) reads.after_is left.for_falls
        reads.ran_out.opening (start_among rows reads.one).base reads.ran_out.looks since reads.ran_out.closed

    by_row : (row : Option Row) → row_of rows reads.one.key ≡ row → ⊥
    by_row None none =
        let sum : 0 + falls ≡ MAX_EPOCH + 1 = subst (λ (o : Option Row). (start_of reads.one.size o).epoch + falls ≡ MAX_EPOCH + 1) none reads.ran_out.above_the_last in
        let below = each.0 in
        omega (arith, sum, below)
    by_row (Some row) found =
        let sum : (start_of reads.one.size (Some row)).epoch + falls ≡ MAX_EPOCH + 1 = subst (λ (o : Option Row). (start_of reads.one.size o).epoch + falls ≡ MAX_EPOCH + 1) found reads.ran_out.above_the_last in
        let next = next_epoch reads.one.size row in
        let below = of_row (λ (r : Row). r.epoch.0 + falls < MAX_EPOCH) rows reads.one.key row (mapped (λ (r : Row). r.epoch.0) (λ epoch. epoch + falls < MAX_EPOCH) rows each.1) found in
        omega (arith, sum, next, below)

    not_read : ⊥
    not_read = by_row (row_of rows reads.one.key) refl

  -- so is none found for which there is no epoch
  pub epochs_are_left : HaveEpochsLeft inputs told rows after
  epochs_are_left path (inl lists) = not_started lists.files path lists.first
  epochs_are_left path (inr reads) = not_read path reads
