-- A file of 9 bytes was read from its row's offset of 5 on, up to its end, and then its length was 3: where the row's epoch is 7 epochs are
-- left for all files, and where it is the one before the last such a file may need one above the last. A file of 3 bytes is started by a row
-- of the epoch before the last, and by none of the last one. A run with status 0 or 1 has no account by which a file was told in an epoch above
-- the last.
use Rattle.std.proofs.Common.{◌≡◌, ℕ, zero, suc, ◌+◌, ◌<◌, List, [], ◌∷◌, Contains, length, None, Some, refl, sym, ap, subst, arith}
use Rattle.event_tree.specs.declared.input_rule.InputRule.{InputRule}
use Rattle.event_tree.specs.declared.settings.Settings.{Settings as SettingsOf}
use Rattle.kept_rows.specs.Account.{AccountedEvent}
use Rattle.report.specs.declared.status.Status.{Status}
use Rattle.report.specs.declared.status.Status.TheVariants.{Done, Stopped, Usage, Settings, RegistryBad, DiskFault, FolderFault, Unreachable, OutFault, SourceFault, TooMany, NoNative, NoMemory, Unbuilt}
use Rattle.restart_join.specs.declared.start.TheConstants.{MAX_EPOCH}
use Rattle.rounds.specs.Words.{DiskWords}
use Rattle.run_steps.specs.AccountedFor.{RunObjects}
use Rattle.run_steps.specs.Met.{IsTelling}
use Rattle.run_steps.specs.Starting.{HasRoomAt, HaveRoomBefore}
use Rattle.run_steps.specs.declared.met.Met.{Met}
use Rattle.run_steps.proofs.WorkedEpochs.{before, few_falls, file_of_size, looks, now, refused_where_it_tells, row_of_epoch, slot_telling, those}
use Rattle.wire_base.specs.declared.limits.Full.TheVariants.{Epochs}
use Rattle.beat_run.specs.Accounted.{IsAccounted, IsMetFor}
use Rattle.beat_run.specs.Ends.{IsReportEnd}
use Rattle.beat_run.specs.EpochsLeft.{HaveEpochsLeft}
use Rattle.beat_run.proofs.EpochsOut.{AreBelowTheLast, epochs_are_left}

are_below : AreBelowTheLast before (row_of_epoch 7 ∷ []) (Some now)
are_below = record {
  of_rows = (omega arith, tt);
  for_falls = λ opening place other since closed.
      let few = few_falls place other in
      let three : length other ≡ 3 = ap length (those opening other closed) in
      (omega (arith, few, three), (omega (arith, few, three), tt));
}

have_left : (inputs : List InputRule) → HaveEpochsLeft inputs before (row_of_epoch 7 ∷ []) (Some now)
have_left inputs = epochs_are_left inputs before (row_of_epoch 7 ∷ []) (Some now) are_below

not_below : AreBelowTheLast before (row_of_epoch 4_294_967_294 ∷ []) (Some now) → ⊥
not_below left =
    let each = left.for_falls 0 5 looks (omega arith) (record { faults = 0; closing = refl }) in
    let below : 4_294_967_294 + 1 < MAX_EPOCH = each.1.0 in
    omega (arith, below)

-- ---- a run that is done had an epoch for each file that it started

one_before_the_last : HaveRoomBefore (row_of_epoch 4_294_967_294 ∷ []) (file_of_size 3 ∷ []) 1
one_before_the_last zero one less is =
    let q : Some (file_of_size 3) ≡ Some one = is in
    let same : file_of_size 3 ≡ one = cc in
    subst (HasRoomAt (row_of_epoch 4_294_967_294 ∷ []) (file_of_size 3 ∷ []) 0) same refl
one_before_the_last (suc place) one less is = absurd (omega (arith, less))

-- none above the last one
none_above_the_last : HaveRoomBefore (row_of_epoch MAX_EPOCH ∷ []) (file_of_size 3 ∷ []) 1 → ⊥
none_above_the_last room =
    let full : Some Epochs ≡ None = room 0 (file_of_size 3) (omega arith) refl in
    cc

-- ---- nor is one told in an epoch above the last one

telling_met : (status : Status) (what : Met) → IsReportEnd status → IsMetFor status what → IsTelling what
telling_met Done what end is = subst IsTelling (sym is) tt
telling_met Stopped what end is = subst IsTelling (sym is) tt
telling_met Usage what end is = absurd end
telling_met (Settings fault) what end is = absurd end
telling_met (RegistryBad area at) what end is = absurd end
telling_met DiskFault what end is = absurd end
telling_met FolderFault what end is = absurd end
telling_met (Unreachable worker failures) what end is = absurd end
telling_met OutFault what end is = absurd end
telling_met SourceFault what end is = absurd end
telling_met (TooMany full path) what end is = absurd end
telling_met (NoNative path) what end is = absurd end
telling_met NoMemory what end is = absurd end
telling_met (Unbuilt lack) what end is = absurd end

refused : {D : Type 0} (disks : DiskWords D) (settings : SettingsOf) (objects : RunObjects D) (status : Status) (tells : List ℕ → Type 0) (is : IsAccounted disks settings objects status tells) (told : List AccountedEvent) →
    IsReportEnd status → Contains is.accounted.account (slot_telling MAX_EPOCH told) → ⊥
refused disks settings objects status tells is told end there =
    refused_where_it_tells disks settings objects is.what is.accounted told (telling_met status is.what end is.met_for) there
