use Rattle.std.proofs.Common.{◌≡◌, ◌∙◌, ℕ, ◌+◌, ◌-◌, ◌^◌, ◌<◌, ◌≤◌, List, ap, length, map, refl, subst, sym, arith}
use Rattle.std.proofs.lemmas.Result.{err_from_is_err_and}
use Rattle.report.specs.declared.status.Status.TheVariants.{NoMemory}
use Rattle.rounds.specs.Making.{all_seen}
use Rattle.rounds.specs.declared.storing.Storing.{Storing}
use Rattle.rounds.specs.WordsOf.{disks_of, wires_of}
use Rattle.run_steps.proofs.Clocks.{clock_by_two}
use Rattle.run_steps.proofs.NamedInputs.{inputs_are_askable}
use Rattle.run_steps.specs.Outset.{began_with}
use Rattle.run_steps.specs.Starting.{AreFewFiles, HaveRoomBefore}
use Rattle.registry_store.specs.Standing.{Standing}
use Rattle.wire_base.specs.declared.row.Row.{Row}
use Rattle.beat_run.proofs.Accounts.{early, full_for_scan, outcomes_seen, wires_tell, worked}
use Rattle.beat_run.specs.Cause.{Signs}
use Rattle.beat_run.specs.Ended.{ended}
use Rattle.beat_run.specs.Skipped.{all_skipped}
use Rattle.beat_run.proofs.Causes.{at_rest, ends_without_report, is_met_of, scan_caused, scan_ended}
use Rattle.beat_run.proofs.EpochsOut.{has_none}
use Rattle.beat_run.proofs.PathsListed.{shown_goes_further}
use Rattle.beat_run.proofs.Cleaned.{keys_are_known, worked_over}
use Rattle.beat_run.proofs.ReportEnds.{caused_ending, full_for_ending, left_by_ending, met_for_ending, report_of, report_over, reports_stored, scanned_ending}
use Rattle.beat_run.proofs.ScanShown.{each_some, parted_told, scanned_some, scanned_whole}
use Rattle.beat_run.proofs.SettingOut.{earlier, outset, set_out}
use Rattle.beat_run.proofs.WiresFailed.{failed_by}
use Rattle.run_steps.specs.Questions.{questions_of}
use Rattle.run_steps.proofs.Questions.{asks_behind_the_clock, asks_nothing, given_once, was_asked_for}
use Rattle.beat_run.proofs.run.run_store.Goals as goal

-- ---- its scan

pub scan-requires-clause-askable : goal.scan-requires-clause-askable
scan-requires-clause-askable g c =
    let inputs : c.as_slice-inputs.result.now ≡ c.args.settings.now.inputs = c.as_slice-inputs.ensures in
    rw inputs (inputs_are_askable c.args.settings.now c.requires.in_range)

-- ---- the scan told no files

pub returns-in_err-scanned-clause-cause : goal.returns-in_err-scanned-clause-cause
returns-in_err-scanned-clause-cause g c = λ from opened.
    let inputs : c.as_slice-inputs.result.now ≡ c.args.settings.now.inputs = c.as_slice-inputs.ensures in
    let p = err_from_is_err_and c.from_residual.result c.from_residual.ensures.1 in
    rw (p.1, p.2) (scan_caused c.args.settings.now _ _ _ _ c.in_err-scanned.ensures.ends (rw inputs at c.in_err-scanned.ensures.shows_end))

pub returns-in_err-scanned-clause-accounted : goal.returns-in_err-scanned-clause-accounted
returns-in_err-scanned-clause-accounted g c = λ from opened tells.
    let inputs : c.as_slice-inputs.result.now ≡ c.args.settings.now.inputs = c.as_slice-inputs.ensures in
    let rows : c.rows.result.now ≡ c.args.store.rows = c.rows.ensures.rows in
    let p = err_from_is_err_and c.from_residual.result c.from_residual.ensures.1 in
    let disks = disks_of g.D.Disk in
    rw (p.1, p.2)
    (early disks c.one_choice.ensures c.args.settings.now c.args.store.rows from.a from.b c.args.outside.now.a.now c.args.outside.now.b.now opened.gave opened.held (map g.W.Wire.outcomes c.args.outside.now.wires.now.items)
    (g.F.Folder.told c.args.outside.now.folder.now) (g.F.Folder.told c.scan.new.folder) (g.K.Clock.moments c.args.outside.now.clock.now) (g.K.Clock.moments c.scan.new.clock)
    (questions_of g.K.Clock g.B.Bell c.args.outside.now.clock.now c.args.outside.now.bell.now) (questions_of g.K.Clock g.B.Bell c.scan.new.clock c.args.outside.now.bell.now)
    c.in_err-scanned.ensures.moment_given_first.0 _ tells.folder tells.moments c.in_err-scanned.ensures.moment_given_first.1 c.scan.ensures.asked
    (each_some (g.F.Folder.told c.args.outside.now.folder.now) _ _ (λ history shows. scanned_some c.args.settings.now c.requires.in_range history _ (g.F.Folder.told c.scan.new.folder) _ shows) (rw inputs at c.in_err-scanned.ensures.shows_end))
    (ends_without_report _ (scan_ended _ _ _ c.in_err-scanned.ensures.ends))
    (full_for_scan disks c.args.settings.now _ _ _ opened.gave (rw (inputs, rows) at c.in_err-scanned.ensures.shows_end)))

-- ---- there was no memory for a queue, a box or a keeper

pub returns-in_err-parts-clause-accounted : goal.returns-in_err-parts-clause-accounted
returns-in_err-parts-clause-accounted g c = λ from opened tells.
    let inputs : c.as_slice-inputs.result.now ≡ c.args.settings.now.inputs = c.as_slice-inputs.ensures in
    let p = err_from_is_err_and c.from_residual-in_err-parts.result c.from_residual-in_err-parts.ensures.1 in
    let disks = disks_of g.D.Disk in
    rw (p.1, p.2)
    (early disks c.one_choice.ensures c.args.settings.now c.args.store.rows from.a from.b c.args.outside.now.a.now c.args.outside.now.b.now opened.gave opened.held (map g.W.Wire.outcomes c.args.outside.now.wires.now.items)
    (g.F.Folder.told c.args.outside.now.folder.now) (g.F.Folder.told c.scan.new.folder) (g.K.Clock.moments c.args.outside.now.clock.now) (g.K.Clock.moments c.scan.new.clock)
    (questions_of g.K.Clock g.B.Bell c.args.outside.now.clock.now c.args.outside.now.bell.now) (questions_of g.K.Clock g.B.Bell c.scan.new.clock c.args.outside.now.bell.now)
    c.in_ok-scanned.scanned.now.0 NoMemory tells.folder tells.moments c.in_ok-scanned.ensures.moment_given c.scan.ensures.asked
    (each_some (g.F.Folder.told c.args.outside.now.folder.now) _ _ (λ history scans. scanned_whole c.args.settings.now c.requires.in_range history _ _ (g.F.Folder.told c.scan.new.folder) scans.parted) (rw inputs at c.in_ok-scanned.ensures.scanned)) tt tt)

-- ---- or for a crew

pub returns-in_err-worked-clause-accounted : goal.returns-in_err-worked-clause-accounted
returns-in_err-worked-clause-accounted g c = λ from opened tells.
    let inputs : c.as_slice-inputs.result.now ≡ c.args.settings.now.inputs = c.as_slice-inputs.ensures in
    let p = err_from_is_err_and c.from_residual-in_err-worked.result c.from_residual-in_err-worked.ensures.1 in
    let disks = disks_of g.D.Disk in
    let wires = wires_of g.W.Wire in
    let back = outcomes_seen wires c.run_over.new.around.wires.now.items c.args.outside.now.wires.now.items c.in_err-worked.ensures.back in
    let a_same : c.run_over.new.storing.a.now ≡ c.args.outside.now.a.now = ap (λ (s : Storing g.row.D.Denot). s.a.now) c.in_err-worked.ensures.untouched.0 in
    let b_same : c.run_over.new.storing.b.now ≡ c.args.outside.now.b.now = ap (λ (s : Storing g.row.D.Denot). s.b.now) c.in_err-worked.ensures.untouched.0 in
    rw (p.1, p.2, a_same, b_same, c.in_err-worked.ensures.untouched.1, c.in_err-worked.ensures.untouched.2, c.in_err-worked.ensures.untouched.3, back)
    (early disks c.one_choice.ensures c.args.settings.now c.args.store.rows from.a from.b c.args.outside.now.a.now c.args.outside.now.b.now opened.gave opened.held (map g.W.Wire.outcomes c.args.outside.now.wires.now.items)
    (g.F.Folder.told c.args.outside.now.folder.now) (g.F.Folder.told c.scan.new.folder) (g.K.Clock.moments c.args.outside.now.clock.now) (g.K.Clock.moments c.scan.new.clock)
    (questions_of g.K.Clock g.B.Bell c.args.outside.now.clock.now c.args.outside.now.bell.now) (questions_of g.K.Clock g.B.Bell c.scan.new.clock c.args.outside.now.bell.now)
    c.in_ok-scanned.scanned.now.0 NoMemory tells.folder tells.moments c.in_ok-scanned.ensures.moment_given c.scan.ensures.asked
    (each_some (g.F.Folder.told c.args.outside.now.folder.now) _ _ (λ history scans. scanned_whole c.args.settings.now c.requires.in_range history _ _ (g.F.Folder.told c.scan.new.folder) scans.parted) (rw inputs at c.in_ok-scanned.ensures.scanned)) tt tt)

-- ---- files were followed

pub returns-clause-cause : goal.returns-clause-cause
returns-clause-cause g c = λ from opened.
    let inputs : c.as_slice-inputs.result.now ≡ c.args.settings.now.inputs = c.as_slice-inputs.ensures in
    let disks = disks_of g.D.Disk in
    let wires = wires_of g.W.Wire in
    let before : Signs = record {
      folder = g.F.Folder.told c.args.outside.now.folder.now;
      moments = g.K.Clock.moments c.args.outside.now.clock.now;
      questions = questions_of g.K.Clock g.B.Bell c.args.outside.now.clock.now c.args.outside.now.bell.now;
      wires = all_seen wires c.args.outside.now.wires.now.items;
      counts = record { a_faults = g.D.Disk.faults c.args.outside.now.a.now; b_faults = g.D.Disk.faults c.args.outside.now.b.now; folder_faults = g.F.Folder.faults c.args.outside.now.folder.now; rings = g.B.Bell.rings c.args.outside.now.bell.now };
    } in
    let now : Signs = record {
      folder = g.F.Folder.told c.run_over.new.around.folder.now;
      moments = g.K.Clock.moments c.run_over.new.around.clock.now;
      questions = questions_of g.K.Clock g.B.Bell c.run_over.new.around.clock.now c.run_over.new.around.bell.now;
      wires = all_seen wires c.run_over.new.around.wires.now.items;
      counts = record { a_faults = g.D.Disk.faults c.run_over.new.storing.a.now; b_faults = g.D.Disk.faults c.run_over.new.storing.b.now; folder_faults = g.F.Folder.faults c.run_over.new.around.folder.now; rings = g.B.Bell.rings c.run_over.new.around.bell.now };
    } in
    (caused_ending c.args.settings.now c.in_ok-scanned.scanned.listed.items c.in_ok-scanned.scanned.doubled.items before now (g.F.Folder.told c.scan.new.folder) (g.F.Folder.faults c.scan.new.folder) c.scan.ensures.folder_faults_never_fall
    (parted_told c.args.settings.now.inputs (g.F.Folder.told c.args.outside.now.folder.now) (g.F.Folder.told c.scan.new.folder) c.in_ok-scanned.scanned (rw inputs at c.in_ok-scanned.ensures.scanned))
    (λ some. shown_goes_further _ (g.F.Folder.told c.scan.new.folder) _ _
    (c.in_ok-worked.ensures.ends
    (earlier disks wires c.args.settings.now c.requires.in_range
    c.in_ok-parts.parts.desk.id c.in_ok-parts.parts.keeper c.args.store c.in_ok-parts.ensures.keeper c.in_ok-parts.ensures.store c.args.outside.now.wires.now.items from
    c.args.outside.now.a.now c.args.outside.now.b.now opened c.in_ok-scanned.scanned.listed.items c.in_ok-scanned.scanned.doubled.items c.in_ok-scanned.scanned.now.0 (g.K.Clock.questions c.args.outside.now.clock.now)
    (g.K.Clock.moments c.args.outside.now.clock.now) (g.K.Clock.moments c.scan.new.clock) c.in_ok-scanned.ensures.moment_given (g.F.Folder.told c.scan.new.folder) (rw inputs at c.in_ok-scanned.ensures.of_inputs))
    (set_out disks wires c.args.settings.now c.requires.in_range
    c.in_ok-parts.parts.desk.id c.in_ok-parts.parts.keeper c.args.store c.in_ok-parts.ensures.keeper c.in_ok-parts.ensures.store c.args.outside.now.wires.now.items from
    c.args.outside.now.a.now c.args.outside.now.b.now opened c.in_ok-scanned.scanned.listed.items c.in_ok-scanned.scanned.doubled.items c.in_ok-scanned.scanned.now.0 (g.K.Clock.questions c.args.outside.now.clock.now)
    (g.K.Clock.moments c.args.outside.now.clock.now) (g.K.Clock.moments c.scan.new.clock) c.in_ok-scanned.ensures.moment_given (g.F.Folder.told c.scan.new.folder) (rw inputs at c.in_ok-scanned.ensures.of_inputs))).1.ends.stands.files.shown)
    c.in_ok-worked.worked.met c.finish.result
    c.in_ok-worked.ensures.cause
    c.in_ok-worked.ensures.unnumbered
    (failed_by wires c.args.settings.now c.args.outside.now.wires.now.items c.run_over.new.around.wires.now.items before now refl refl c.in_ok-scanned.scanned.now.0 (g.K.Clock.moments c.scan.new.clock)
    c.in_ok-scanned.ensures.moment_given c.run_over.ensures.clock_goes_on (g.K.Clock.questions c.scan.new.clock) c.scan.ensures.asked c.run_over.ensures.asks.clock c.run_over.ensures.asks.gives
    _ _ _ c.in_ok-worked.worked.met c.in_ok-worked.ensures.cause c.in_ok-worked.ensures.failing)
    c.finish.ensures.stands c.finish.ensures.refused)

pub returns-clause-accounted : goal.returns-clause-accounted
returns-clause-accounted g c = λ from opened tells.
    let inputs : c.as_slice-inputs.result.now ≡ c.args.settings.now.inputs = c.as_slice-inputs.ensures in
    let disks = disks_of g.D.Disk in
    let wires = wires_of g.W.Wire in
    let of = is_met_of c.args.settings.now.output.workers _ _ _ c.in_ok-worked.worked.met c.in_ok-worked.ensures.cause in
    let before = earlier disks wires c.args.settings.now c.requires.in_range
    c.in_ok-parts.parts.desk.id c.in_ok-parts.parts.keeper c.args.store c.in_ok-parts.ensures.keeper c.in_ok-parts.ensures.store c.args.outside.now.wires.now.items from
    c.args.outside.now.a.now c.args.outside.now.b.now opened c.in_ok-scanned.scanned.listed.items c.in_ok-scanned.scanned.doubled.items c.in_ok-scanned.scanned.now.0 (g.K.Clock.questions c.args.outside.now.clock.now)
    (g.K.Clock.moments c.args.outside.now.clock.now) (g.K.Clock.moments c.scan.new.clock) c.in_ok-scanned.ensures.moment_given (g.F.Folder.told c.scan.new.folder) (rw inputs at c.in_ok-scanned.ensures.of_inputs) in
    let sets = set_out disks wires c.args.settings.now c.requires.in_range
    c.in_ok-parts.parts.desk.id c.in_ok-parts.parts.keeper c.args.store c.in_ok-parts.ensures.keeper c.in_ok-parts.ensures.store c.args.outside.now.wires.now.items from
    c.args.outside.now.a.now c.args.outside.now.b.now opened c.in_ok-scanned.scanned.listed.items c.in_ok-scanned.scanned.doubled.items c.in_ok-scanned.scanned.now.0 (g.K.Clock.questions c.args.outside.now.clock.now)
    (g.K.Clock.moments c.args.outside.now.clock.now) (g.K.Clock.moments c.scan.new.clock) c.in_ok-scanned.ensures.moment_given (g.F.Folder.told c.scan.new.folder) (rw inputs at c.in_ok-scanned.ensures.of_inputs) in
    let start = began_with wires (outset disks wires c.args.settings.now c.requires.in_range
    c.in_ok-parts.parts.desk.id c.in_ok-parts.parts.keeper c.args.store c.in_ok-parts.ensures.keeper c.in_ok-parts.ensures.store c.args.outside.now.wires.now.items from
    c.args.outside.now.a.now c.args.outside.now.b.now opened c.in_ok-scanned.scanned.listed.items c.in_ok-scanned.scanned.doubled.items c.in_ok-scanned.scanned.now.0 (g.K.Clock.questions c.args.outside.now.clock.now)
    (g.K.Clock.moments c.args.outside.now.clock.now) (g.K.Clock.moments c.scan.new.clock) c.in_ok-scanned.ensures.moment_given (g.F.Folder.told c.scan.new.folder) (rw inputs at c.in_ok-scanned.ensures.of_inputs)) before in
    let ends = c.in_ok-worked.ensures.ends before sets in
    let keeper = c.in_ok-parts.ensures.keeper in
    let rows : c.rows.result.now ≡ start.opening = c.rows.ensures.rows ∙ ap (λ (s : Standing). s.rows) (sym c.in_ok-parts.ensures.store) in
    let few = subst (λ (l : List Row). AreFewFiles l c.in_ok-scanned.scanned.listed.items) rows c.in_ok-scanned.ensures.few in
    let room = subst (λ (l : List Row). HaveRoomBefore l c.in_ok-scanned.scanned.listed.items (length c.in_ok-scanned.scanned.listed.items)) rows c.in_ok-scanned.ensures.room in
    let keeper_is : c.keeper-2-1.given.0 ≡ c.run_over.new.storing.keeper.now = c.keeper-2-1.given.1 (sym c.run_over.ensures.same_keeper) in
    (worked disks start c.requires.in_range refl (map g.W.Wire.outcomes c.args.outside.now.wires.now.items) _ c.in_ok-worked.worked.met c.keeper-2-1.given.0.shipped c.keeper-2-1.given.0.dropped
    c.in_ok-scanned.scanned refl refl c.in_ok-worked.worked.passed.items (questions_of g.K.Clock g.B.Bell c.args.outside.now.clock.now c.args.outside.now.bell.now)
    (g.F.Folder.told c.args.outside.now.folder.now) (ended c.finish.result) tells.folder (rw inputs at c.in_ok-scanned.ensures.scanned)
    (shown_goes_further _ (g.F.Folder.told c.scan.new.folder) _ _ ends.1.ends.stands.files.shown)
    (record { gave = sets.gave; few = few; room = room })
    (met_for_ending c.in_ok-scanned.scanned.listed.items c.args.settings.now.output.attempts c.in_ok-worked.worked.met c.finish.result of c.finish.ensures.stands c.finish.ensures.refused)
    (full_for_ending disks c.args.settings.now _ start.opening sets.gave c.in_ok-scanned.scanned.listed.items c.args.settings.now.output.attempts c.in_ok-worked.worked.met c.finish.result of
    (has_none _ start _ _ _ refl (shown_goes_further _ (g.F.Folder.told c.scan.new.folder) _ _ ends.1.ends.stands.files.shown) (g.F.Folder.told c.args.outside.now.folder.now)
    (parted_told c.args.settings.now.inputs (g.F.Folder.told c.args.outside.now.folder.now) (g.F.Folder.told c.scan.new.folder) c.in_ok-scanned.scanned (rw inputs at c.in_ok-scanned.ensures.scanned))
    c.in_ok-worked.worked.met ends.1)
    c.finish.ensures.stands c.finish.ensures.refused)
    (report_over _ c.keeper-2-1.given.0.store.rows (all_skipped c.in_ok-worked.worked.passed.items c.in_ok-scanned.scanned) c.keeper-2-1.given.0.shipped c.keeper-2-1.given.0.dropped c.in_ok-worked.worked.met c.finish.result c.finish.ensures.telling c.finish.ensures.report)
    (λ moments begin since.
    was_asked_for (g.K.Clock.questions c.args.outside.now.clock.now) (g.K.Clock.questions c.scan.new.clock) (g.K.Clock.questions c.run_over.new.around.clock.now) c.scan.ensures.asked c.run_over.ensures.asks.clock
    (g.K.Clock.moments c.args.outside.now.clock.now) (g.K.Clock.moments c.scan.new.clock) (g.K.Clock.moments c.run_over.new.around.clock.now) c.in_ok-scanned.scanned.now.0 moments
    c.in_ok-scanned.ensures.moment_given begin since c.run_over.ensures.asks.gives)
    (λ folder has.
    worked_over disks c.args.settings.now c.in_ok-parts.parts.keeper.store.rows c.in_ok-scanned.scanned.listed.items
    (keys_are_known start folder has) c.in_ok-scanned.scanned.now.0 (length folder.scanned.events) _ c.in_ok-worked.worked.met _ _ _
    (rw (← keeper_is) at c.in_ok-worked.ensures.accounted before folder sets has tells.moments (wires_tell g.W.Wire.outcomes c.run_over.new.around.wires.now.items tells.wires))))

pub returns-clause-at_rest : goal.returns-clause-at_rest
returns-clause-at_rest g c = λ from opened some rest followed.
    let inputs : c.as_slice-inputs.result.now ≡ c.args.settings.now.inputs = c.as_slice-inputs.ensures in
    let disks = disks_of g.D.Disk in
    let wires = wires_of g.W.Wire in
    let ends = c.in_ok-worked.ensures.ends
    (earlier disks wires c.args.settings.now c.requires.in_range
    c.in_ok-parts.parts.desk.id c.in_ok-parts.parts.keeper c.args.store c.in_ok-parts.ensures.keeper c.in_ok-parts.ensures.store c.args.outside.now.wires.now.items from
    c.args.outside.now.a.now c.args.outside.now.b.now opened c.in_ok-scanned.scanned.listed.items c.in_ok-scanned.scanned.doubled.items c.in_ok-scanned.scanned.now.0 (g.K.Clock.questions c.args.outside.now.clock.now)
    (g.K.Clock.moments c.args.outside.now.clock.now) (g.K.Clock.moments c.scan.new.clock) c.in_ok-scanned.ensures.moment_given (g.F.Folder.told c.scan.new.folder) (rw inputs at c.in_ok-scanned.ensures.of_inputs))
    (set_out disks wires c.args.settings.now c.requires.in_range
    c.in_ok-parts.parts.desk.id c.in_ok-parts.parts.keeper c.args.store c.in_ok-parts.ensures.keeper c.in_ok-parts.ensures.store c.args.outside.now.wires.now.items from
    c.args.outside.now.a.now c.args.outside.now.b.now opened c.in_ok-scanned.scanned.listed.items c.in_ok-scanned.scanned.doubled.items c.in_ok-scanned.scanned.now.0 (g.K.Clock.questions c.args.outside.now.clock.now)
    (g.K.Clock.moments c.args.outside.now.clock.now) (g.K.Clock.moments c.scan.new.clock) c.in_ok-scanned.ensures.moment_given (g.F.Folder.told c.scan.new.folder) (rw inputs at c.in_ok-scanned.ensures.of_inputs)) in
    let left = left_by_ending c.in_ok-scanned.scanned.listed.items c.args.settings.now.output.attempts c.in_ok-worked.worked.met c.finish.result c.finish.ensures.stands c.finish.ensures.refused followed in
    let keeper_is : c.keeper-2-1.given.0 ≡ c.run_over.new.storing.keeper.now = c.keeper-2-1.given.1 (sym c.run_over.ensures.same_keeper) in
    (at_rest disks c.run_over.new.storing.a.now c.run_over.new.storing.b.now c.keeper-2-1.given.0.store (rw (← keeper_is) at (ends.1.left.at_rest left rest).settled))

pub returns-clause-reported : goal.returns-clause-reported
returns-clause-reported g c = λ from opened some rest.
    let inputs : c.as_slice-inputs.result.now ≡ c.args.settings.now.inputs = c.as_slice-inputs.ensures in
    let disks = disks_of g.D.Disk in
    let wires = wires_of g.W.Wire in
    let ends = c.in_ok-worked.ensures.ends
    (earlier disks wires c.args.settings.now c.requires.in_range
    c.in_ok-parts.parts.desk.id c.in_ok-parts.parts.keeper c.args.store c.in_ok-parts.ensures.keeper c.in_ok-parts.ensures.store c.args.outside.now.wires.now.items from
    c.args.outside.now.a.now c.args.outside.now.b.now opened c.in_ok-scanned.scanned.listed.items c.in_ok-scanned.scanned.doubled.items c.in_ok-scanned.scanned.now.0 (g.K.Clock.questions c.args.outside.now.clock.now)
    (g.K.Clock.moments c.args.outside.now.clock.now) (g.K.Clock.moments c.scan.new.clock) c.in_ok-scanned.ensures.moment_given (g.F.Folder.told c.scan.new.folder) (rw inputs at c.in_ok-scanned.ensures.of_inputs))
    (set_out disks wires c.args.settings.now c.requires.in_range
    c.in_ok-parts.parts.desk.id c.in_ok-parts.parts.keeper c.args.store c.in_ok-parts.ensures.keeper c.in_ok-parts.ensures.store c.args.outside.now.wires.now.items from
    c.args.outside.now.a.now c.args.outside.now.b.now opened c.in_ok-scanned.scanned.listed.items c.in_ok-scanned.scanned.doubled.items c.in_ok-scanned.scanned.now.0 (g.K.Clock.questions c.args.outside.now.clock.now)
    (g.K.Clock.moments c.args.outside.now.clock.now) (g.K.Clock.moments c.scan.new.clock) c.in_ok-scanned.ensures.moment_given (g.F.Folder.told c.scan.new.folder) (rw inputs at c.in_ok-scanned.ensures.of_inputs)) in
    let keeper = c.keeper-2-1.given.0 in
    let keeper_is : keeper ≡ c.run_over.new.storing.keeper.now = c.keeper-2-1.given.1 (sym c.run_over.ensures.same_keeper) in
    (reports_stored disks c.run_over.new.storing.a.now c.run_over.new.storing.b.now keeper.store (all_skipped c.in_ok-worked.worked.passed.items c.in_ok-scanned.scanned) keeper.shipped keeper.dropped c.in_ok-worked.worked.met c.finish.result c.finish.ensures.telling c.finish.ensures.report
    (λ left. rw (← keeper_is) at (ends.1.left.at_rest left rest).settled))

pub returns-clause-ends : goal.returns-clause-ends
returns-clause-ends g c =
    let disks = disks_of g.D.Disk in
    let of = is_met_of c.args.settings.now.output.workers _ _ _ c.in_ok-worked.worked.met c.in_ok-worked.ensures.cause in
    scanned_ending c.in_ok-scanned.scanned.listed.items c.args.settings.now.output.attempts c.in_ok-worked.worked.met c.finish.result of
    c.finish.ensures.refused c.finish.ensures.without_report

-- ---- what goes on

tails_by_one : (before after : ℕ) → (before < 2 ^ 64 - 1 → after ≡ before) → before + 65_536 < 2 ^ 64 - 1 → after ≡ before
tails_by_one before after kept room = kept (omega (arith, room))

tails_by_two : (before mid after files : ℕ) → (before < 2 ^ 64 - 1 → mid ≡ before) → files ≤ 65_536 → (mid + files < 2 ^ 64 - 1 → after ≡ mid) → before + 65_536 < 2 ^ 64 - 1 → after ≡ before
tails_by_two before mid after files kept few closed room =
    let same : mid ≡ before = tails_by_one before mid kept room in
    closed (omega (arith, same, few, room)) ∙ same

pub returns-in_err-scanned-clause-goes_on : goal.returns-in_err-scanned-clause-goes_on
returns-in_err-scanned-clause-goes_on g c = record {
  clock = c.scan.ensures.clock_goes_on;
  asks = asks_behind_the_clock (questions_of g.K.Clock g.B.Bell c.args.outside.now.clock.now c.args.outside.now.bell.now) (questions_of g.K.Clock g.B.Bell c.scan.new.clock c.args.outside.now.bell.now) (questions_of g.K.Clock g.B.Bell c.scan.new.clock c.args.outside.now.bell.now) c.scan.ensures.asked refl (given_once (g.K.Clock.moments c.args.outside.now.clock.now) c.in_err-scanned.ensures.moment_given_first.0 (g.K.Clock.moments c.scan.new.clock) c.in_err-scanned.ensures.moment_given_first.1) (asks_nothing 1 (questions_of g.K.Clock g.B.Bell c.scan.new.clock c.args.outside.now.bell.now));
  wires = refl;
  tails = tails_by_one (g.F.Folder.open_tails c.args.outside.now.folder.now) (g.F.Folder.open_tails c.scan.new.folder) c.scan.ensures.open_tails_kept;
  links = λ few. refl;
  a_told = λ told. told;
  b_told = λ told. told;
}

pub returns-in_err-parts-clause-goes_on : goal.returns-in_err-parts-clause-goes_on
returns-in_err-parts-clause-goes_on g c = record {
  clock = c.scan.ensures.clock_goes_on;
  asks = asks_behind_the_clock (questions_of g.K.Clock g.B.Bell c.args.outside.now.clock.now c.args.outside.now.bell.now) (questions_of g.K.Clock g.B.Bell c.scan.new.clock c.args.outside.now.bell.now) (questions_of g.K.Clock g.B.Bell c.scan.new.clock c.args.outside.now.bell.now) c.scan.ensures.asked refl (given_once (g.K.Clock.moments c.args.outside.now.clock.now) c.in_ok-scanned.scanned.now.0 (g.K.Clock.moments c.scan.new.clock) c.in_ok-scanned.ensures.moment_given) (asks_nothing 1 (questions_of g.K.Clock g.B.Bell c.scan.new.clock c.args.outside.now.bell.now));
  wires = refl;
  tails = tails_by_one (g.F.Folder.open_tails c.args.outside.now.folder.now) (g.F.Folder.open_tails c.scan.new.folder) c.scan.ensures.open_tails_kept;
  links = λ few. refl;
  a_told = λ told. told;
  b_told = λ told. told;
}

pub returns-in_err-worked-clause-goes_on : goal.returns-in_err-worked-clause-goes_on
returns-in_err-worked-clause-goes_on g c =
    record {
      clock = clock_by_two (g.K.Clock.moments c.args.outside.now.clock.now) (g.K.Clock.moments c.scan.new.clock) (g.K.Clock.moments c.run_over.new.around.clock.now) c.scan.ensures.clock_goes_on c.run_over.ensures.clock_goes_on;
      asks = asks_behind_the_clock (questions_of g.K.Clock g.B.Bell c.args.outside.now.clock.now c.args.outside.now.bell.now) (questions_of g.K.Clock g.B.Bell c.scan.new.clock c.args.outside.now.bell.now) (questions_of g.K.Clock g.B.Bell c.run_over.new.around.clock.now c.run_over.new.around.bell.now) c.scan.ensures.asked refl (given_once (g.K.Clock.moments c.args.outside.now.clock.now) c.in_ok-scanned.scanned.now.0 (g.K.Clock.moments c.scan.new.clock) c.in_ok-scanned.ensures.moment_given) c.run_over.ensures.asks;
      wires = c.run_over.ensures.as_many_wires;
      tails = λ few. tails_by_two (g.F.Folder.open_tails c.args.outside.now.folder.now) (g.F.Folder.open_tails c.scan.new.folder) (g.F.Folder.open_tails c.run_over.new.around.folder.now) (length c.in_ok-scanned.scanned.listed.items)
          c.scan.ensures.open_tails_kept c.in_ok-scanned.ensures.few_listed c.run_over.ensures.tails_closed few;
      links = c.run_over.ensures.links_finished;
      a_told = c.run_over.ensures.still_tell.a;
      b_told = c.run_over.ensures.still_tell.b;
    }

pub returns-clause-goes_on : goal.returns-clause-goes_on
returns-clause-goes_on g c =
    record {
      clock = clock_by_two (g.K.Clock.moments c.args.outside.now.clock.now) (g.K.Clock.moments c.scan.new.clock) (g.K.Clock.moments c.run_over.new.around.clock.now) c.scan.ensures.clock_goes_on c.run_over.ensures.clock_goes_on;
      asks = asks_behind_the_clock (questions_of g.K.Clock g.B.Bell c.args.outside.now.clock.now c.args.outside.now.bell.now) (questions_of g.K.Clock g.B.Bell c.scan.new.clock c.args.outside.now.bell.now) (questions_of g.K.Clock g.B.Bell c.run_over.new.around.clock.now c.run_over.new.around.bell.now) c.scan.ensures.asked refl (given_once (g.K.Clock.moments c.args.outside.now.clock.now) c.in_ok-scanned.scanned.now.0 (g.K.Clock.moments c.scan.new.clock) c.in_ok-scanned.ensures.moment_given) c.run_over.ensures.asks;
      wires = c.run_over.ensures.as_many_wires;
      tails = λ few. tails_by_two (g.F.Folder.open_tails c.args.outside.now.folder.now) (g.F.Folder.open_tails c.scan.new.folder) (g.F.Folder.open_tails c.run_over.new.around.folder.now) (length c.in_ok-scanned.scanned.listed.items)
          c.scan.ensures.open_tails_kept c.in_ok-scanned.ensures.few_listed c.run_over.ensures.tails_closed few;
      links = c.run_over.ensures.links_finished;
      a_told = c.run_over.ensures.still_tell.a;
      b_told = c.run_over.ensures.still_tell.b;
    }

pub returns-clause-report : goal.returns-clause-report
returns-clause-report g c =
    report_of c.keeper-2-1.given.0.store.rows (all_skipped c.in_ok-worked.worked.passed.items c.in_ok-scanned.scanned) c.keeper-2-1.given.0.shipped c.keeper-2-1.given.0.dropped c.finish.result c.finish.ensures.report
