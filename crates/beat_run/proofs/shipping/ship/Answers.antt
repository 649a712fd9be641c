use Rattle.std.proofs.Common.{◌≡◌, ◌∙◌, ap, length, take, Err, refl, sym, arith}
use Rattle.beat_config.specs.Document.{AreSettingsOf, IsFirstFault}
use Rattle.prospect.specs.Lacks.{IsFirstLack}
use Rattle.report.specs.declared.status.Status.{Status}
use Rattle.report.specs.declared.status.Status.TheVariants.{RegistryBad, Settings, Unbuilt, Usage}
use Rattle.beat_run.specs.Ends.{IsReportEnd, RefusesArea, RefusesKey, RefusesLack, RefusesSettings}
use Rattle.beat_run.specs.declared.settings.TheConstants.{LIMIT}
use Rattle.rounds.specs.WordsOf.{disks_of, wires_of}
use Rattle.beat_run.proofs.Accounts.{report_printed, status_printed}
use Rattle.beat_run.proofs.Endings.{followed_still, not_refused_printing, printed_so, told_never, told_printed, two_never, two_printed, was_met}
use Rattle.beat_run.proofs.PrintedEnds.{followed_before, line_caused, never_reported, printed_behind, report_caused, report_stored}
use Rattle.beat_run.proofs.Untroubled.{line_untroubled, report_untroubled}
use Rattle.beat_run.proofs.shipping.ship.Goals as goal

-- ---- a run with a report was not refused

pub returns-in-Ok-clause-words_for_the_unbuilt_are_refused : goal.returns-in-Ok-clause-words_for_the_unbuilt_are_refused
returns-in-Ok-clause-words_for_the_unbuilt_are_refused g c = λ lack asks. absurd (rw c.in-Ok.is at c.run.ensures.unbuilt_refused lack asks)

pub returns-in-Ok-clause-faulty_settings_are_refused : goal.returns-in-Ok-clause-faulty_settings_are_refused
returns-in-Ok-clause-faulty_settings_are_refused g c = λ fault. told_never (g.R.Source.left c.args.settings.now) (λ bytes. IsFirstFault (take LIMIT bytes) fault) _ (rw c.in-Ok.is at c.run.ensures.fault_refused fault)

pub returns-in-Ok-clause-keys_of_the_unbuilt_are_refused : goal.returns-in-Ok-clause-keys_of_the_unbuilt_are_refused
returns-in-Ok-clause-keys_of_the_unbuilt_are_refused g c = λ asked key.
    two_never (g.R.Source.left c.args.settings.now) (λ bytes. AreSettingsOf (take LIMIT bytes) asked) (λ bytes. IsFirstLack asked key) _ (rw c.in-Ok.is at c.run.ensures.key_refused asked key)

pub returns-in-Ok-clause-refused_areas_end_the_run : goal.returns-in-Ok-clause-refused_areas_end_the_run
returns-in-Ok-clause-refused_areas_end_the_run g c = λ first second area at of_a of_b refused. absurd (rw c.in-Ok.is at c.run.ensures.areas_refused first second area at of_a of_b refused)

pub returns-in-Ok-clause-accounted_for_where_all_tell : goal.returns-in-Ok-clause-accounted_for_where_all_tell
returns-in-Ok-clause-accounted_for_where_all_tell g c =
    let folder_is : c.folder-1.given.0 ≡ c.run.new.outside.folder.now = c.folder-1.given.1 (sym c.run.ensures.same_objects.folder) in
    let clock_is : c.clock-1.given.0 ≡ c.run.new.outside.clock.now = c.clock-1.given.1 (sym c.run.ensures.same_objects.clock) in
    let wires_is : c.wires-1.given.0 ≡ c.run.new.outside.wires.now = c.wires-1.given.1 (sym c.run.ensures.same_objects.wires) in
    let a_is : c.area_a-1.given.0 ≡ c.run.new.outside.a.now = c.area_a-1.given.1 (sym c.run.ensures.same_objects.a) in
    let b_is : c.area_b-1.given.0 ≡ c.run.new.outside.b.now = c.area_b-1.given.1 (sym c.run.ensures.same_objects.b) in
    let bell_is : c.bell-1.given.0 ≡ c.run.new.outside.bell.now = c.bell-1.given.1 (sym c.run.ensures.same_objects.bell) in
    rw (folder_is, clock_is, wires_is, a_is, b_is, bell_is)
    (λ all. report_printed (disks_of g.D.Disk) (g.R.Source.left c.args.settings.now) _ _ _ _ (g.S.Sink.faults c.args.out.now) (g.S.Sink.faults c.print_report.new.out) c.in-Ok.ending.status c.print_report.result c.print_report.ensures.ends
    (λ same. printed_behind c.in-Ok.ending.report (g.S.Sink.written c.args.out.now) (g.S.Sink.written c.print_report.new.out) (c.print_report.ensures.printed same)) (rw c.in-Ok.is at c.run.ensures.accounted all))

pub returns-in-Ok-clause-reported_rows_are_stored : goal.returns-in-Ok-clause-reported_rows_are_stored
returns-in-Ok-clause-reported_rows_are_stored g c = λ some rest ends.
    let a_is : c.area_a-1.given.0 ≡ c.run.new.outside.a.now = c.area_a-1.given.1 (sym c.run.ensures.same_objects.a) in
    let b_is : c.area_b-1.given.0 ≡ c.run.new.outside.b.now = c.area_b-1.given.1 (sym c.run.ensures.same_objects.b) in
    rw (a_is, b_is)
    (report_stored (disks_of g.D.Disk) _ _ (g.S.Sink.faults c.args.out.now) (g.S.Sink.faults c.print_report.new.out) c.in-Ok.ending.status c.print_report.result c.in-Ok.ending.report (g.S.Sink.written c.args.out.now) (g.S.Sink.written c.print_report.new.out)
    c.print_report.ensures.ends ends (rw c.in-Ok.is at c.run.ensures.reported some rest) c.print_report.ensures.printed)

pub returns-in-Ok-clause-areas_are_at_rest_again : goal.returns-in-Ok-clause-areas_are_at_rest_again
returns-in-Ok-clause-areas_are_at_rest_again g c = λ some rest followed.
    let a_is : c.area_a-1.given.0 ≡ c.run.new.outside.a.now = c.area_a-1.given.1 (sym c.run.ensures.same_objects.a) in
    let b_is : c.area_b-1.given.0 ≡ c.run.new.outside.b.now = c.area_b-1.given.1 (sym c.run.ensures.same_objects.b) in
    rw (a_is, b_is)
    ((rw c.in-Ok.is at c.run.ensures.at_rest some rest) (followed_before (g.S.Sink.faults c.args.out.now) (g.S.Sink.faults c.print_report.new.out) c.in-Ok.ending.status c.print_report.result c.print_report.ensures.ends followed))

pub returns-in-Ok-clause-each_status_only_for_its_cause : goal.returns-in-Ok-clause-each_status_only_for_its_cause
returns-in-Ok-clause-each_status_only_for_its_cause g c =
    let folder_is : c.folder-1.given.0 ≡ c.run.new.outside.folder.now = c.folder-1.given.1 (sym c.run.ensures.same_objects.folder) in
    let clock_is : c.clock-1.given.0 ≡ c.run.new.outside.clock.now = c.clock-1.given.1 (sym c.run.ensures.same_objects.clock) in
    let wires_is : c.wires-1.given.0 ≡ c.run.new.outside.wires.now = c.wires-1.given.1 (sym c.run.ensures.same_objects.wires) in
    let a_is : c.area_a-1.given.0 ≡ c.run.new.outside.a.now = c.area_a-1.given.1 (sym c.run.ensures.same_objects.a) in
    let b_is : c.area_b-1.given.0 ≡ c.run.new.outside.b.now = c.area_b-1.given.1 (sym c.run.ensures.same_objects.b) in
    let bell_is : c.bell-1.given.0 ≡ c.run.new.outside.bell.now = c.bell-1.given.1 (sym c.run.ensures.same_objects.bell) in
    rw (folder_is, clock_is, wires_is, a_is, b_is, bell_is)
    (report_caused _ _ _ _ _ (g.S.Sink.faults c.args.out.now) (g.S.Sink.faults c.print_report.new.out) c.in-Ok.ending.status c.print_report.result (rw c.in-Ok.is at c.run.ensures.with_report) c.print_report.ensures.ends (rw c.in-Ok.is at c.run.ensures.cause))

pub returns-in-Ok-clause-what_an_untroubled_run_ends_with : goal.returns-in-Ok-clause-what_an_untroubled_run_ends_with
returns-in-Ok-clause-what_an_untroubled_run_ends_with g c = λ untroubled.
    report_untroubled _ _ _ _ untroubled (g.S.Sink.faults c.args.out.now) (g.S.Sink.faults c.print_report.new.out) c.in-Ok.ending.status c.print_report.result (rw c.in-Ok.is at c.run.ensures.with_report) c.print_report.ensures.ends
    (returns-in-Ok-clause-each_status_only_for_its_cause g c)

pub returns-in-Ok-clause-no_image_of_the_first_on_refusal : goal.returns-in-Ok-clause-no_image_of_the_first_on_refusal
returns-in-Ok-clause-no_image_of_the_first_on_refusal g c =
    not_refused_printing (g.S.Sink.faults c.args.out.now) (g.S.Sink.faults c.print_report.new.out) _ c.in-Ok.ending.status c.print_report.result (rw c.in-Ok.is at c.run.ensures.with_report) c.print_report.ensures.ends

pub returns-in-Ok-clause-no_image_of_the_second_on_refusal : goal.returns-in-Ok-clause-no_image_of_the_second_on_refusal
returns-in-Ok-clause-no_image_of_the_second_on_refusal g c =
    not_refused_printing (g.S.Sink.faults c.args.out.now) (g.S.Sink.faults c.print_report.new.out) _ c.in-Ok.ending.status c.print_report.result (rw c.in-Ok.is at c.run.ensures.with_report) c.print_report.ensures.ends

-- ---- one that was refused

pub returns-in-Err-clause-usage_only_for_other_words : goal.returns-in-Err-clause-usage_only_for_other_words
returns-in-Err-clause-usage_only_for_other_words g c = λ is.
    c.run.ensures.usage_only (c.in-Err.is ∙ ap (λ (s : Status). Err s) (was_met _ c.in-Err.status c.print_status.result Usage c.print_status.ensures.printed (λ same. absurd cc) is))

pub returns-in-Err-clause-words_for_the_unbuilt_are_refused : goal.returns-in-Err-clause-words_for_the_unbuilt_are_refused
returns-in-Err-clause-words_for_the_unbuilt_are_refused g c = λ lack asks. printed_so _ c.in-Err.status c.print_status.result (RefusesLack lack) c.print_status.ensures.printed (rw c.in-Err.is at c.run.ensures.unbuilt_refused lack asks) tt

pub returns-in-Err-clause-faulty_settings_are_refused : goal.returns-in-Err-clause-faulty_settings_are_refused
returns-in-Err-clause-faulty_settings_are_refused g c = λ fault.
    told_printed (g.R.Source.left c.args.settings.now) (λ bytes. IsFirstFault (take LIMIT bytes) fault) _ c.in-Err.status c.print_status.result (RefusesSettings fault) c.print_status.ensures.printed (rw c.in-Err.is at c.run.ensures.fault_refused fault) tt

pub returns-in-Err-clause-keys_of_the_unbuilt_are_refused : goal.returns-in-Err-clause-keys_of_the_unbuilt_are_refused
returns-in-Err-clause-keys_of_the_unbuilt_are_refused g c = λ asked key.
    two_printed (g.R.Source.left c.args.settings.now) (λ bytes. AreSettingsOf (take LIMIT bytes) asked) (λ bytes. IsFirstLack asked key) _ c.in-Err.status c.print_status.result (RefusesKey key) c.print_status.ensures.printed (rw c.in-Err.is at c.run.ensures.key_refused asked key) tt

pub returns-in-Err-clause-registry_bad_only_where_the_areas_are_refused : goal.returns-in-Err-clause-registry_bad_only_where_the_areas_are_refused
returns-in-Err-clause-registry_bad_only_where_the_areas_are_refused g c = λ first second area at of_a of_b is.
    c.run.ensures.registry_bad first second area at of_a of_b
    (c.in-Err.is ∙ ap (λ (s : Status). Err s) (was_met _ c.in-Err.status c.print_status.result (RegistryBad area at) c.print_status.ensures.printed (λ same. absurd cc) is))

pub returns-in-Err-clause-refused_areas_end_the_run : goal.returns-in-Err-clause-refused_areas_end_the_run
returns-in-Err-clause-refused_areas_end_the_run g c = λ first second area at of_a of_b refused.
    printed_so _ c.in-Err.status c.print_status.result RefusesArea c.print_status.ensures.printed (rw c.in-Err.is at c.run.ensures.areas_refused first second area at of_a of_b refused) tt

pub returns-in-Err-clause-accounted_for_where_all_tell : goal.returns-in-Err-clause-accounted_for_where_all_tell
returns-in-Err-clause-accounted_for_where_all_tell g c =
    let disks = disks_of g.D.Disk in
    let folder_is : c.folder-1.given.0 ≡ c.run.new.outside.folder.now = c.folder-1.given.1 (sym c.run.ensures.same_objects.folder) in
    let clock_is : c.clock-1.given.0 ≡ c.run.new.outside.clock.now = c.clock-1.given.1 (sym c.run.ensures.same_objects.clock) in
    let wires_is : c.wires-1.given.0 ≡ c.run.new.outside.wires.now = c.wires-1.given.1 (sym c.run.ensures.same_objects.wires) in
    let a_is : c.area_a-1.given.0 ≡ c.run.new.outside.a.now = c.area_a-1.given.1 (sym c.run.ensures.same_objects.a) in
    let b_is : c.area_b-1.given.0 ≡ c.run.new.outside.b.now = c.area_b-1.given.1 (sym c.run.ensures.same_objects.b) in
    let bell_is : c.bell-1.given.0 ≡ c.run.new.outside.bell.now = c.bell-1.given.1 (sym c.run.ensures.same_objects.bell) in
    rw (folder_is, clock_is, wires_is, a_is, b_is, bell_is)
    (λ all. status_printed disks (g.R.Source.left c.args.settings.now) _ _ _ _ c.in-Err.status c.print_status.result _ c.print_status.ensures.printed (rw c.in-Err.is at c.run.ensures.ends) (rw c.in-Err.is at c.run.ensures.accounted all))

pub returns-in-Err-clause-reported_rows_are_stored : goal.returns-in-Err-clause-reported_rows_are_stored
returns-in-Err-clause-reported_rows_are_stored g c = λ some rest ends.
    absurd (printed_so _ c.in-Err.status c.print_status.result (λ s. IsReportEnd s → ⊥) c.print_status.ensures.printed (never_reported c.in-Err.status (rw c.in-Err.is at c.run.ensures.ends)) (λ out. out) ends)

pub returns-in-Err-clause-areas_are_at_rest_again : goal.returns-in-Err-clause-areas_are_at_rest_again
returns-in-Err-clause-areas_are_at_rest_again g c = λ some rest followed.
    let a_is : c.area_a-1.given.0 ≡ c.run.new.outside.a.now = c.area_a-1.given.1 (sym c.run.ensures.same_objects.a) in
    let b_is : c.area_b-1.given.0 ≡ c.run.new.outside.b.now = c.area_b-1.given.1 (sym c.run.ensures.same_objects.b) in
    rw (a_is, b_is)
    (followed_still _ c.in-Err.status c.print_status.result _ c.print_status.ensures.printed (rw c.in-Err.is at c.run.ensures.at_rest some rest) followed)

pub returns-in-Err-clause-each_status_only_for_its_cause : goal.returns-in-Err-clause-each_status_only_for_its_cause
returns-in-Err-clause-each_status_only_for_its_cause g c =
    let folder_is : c.folder-1.given.0 ≡ c.run.new.outside.folder.now = c.folder-1.given.1 (sym c.run.ensures.same_objects.folder) in
    let clock_is : c.clock-1.given.0 ≡ c.run.new.outside.clock.now = c.clock-1.given.1 (sym c.run.ensures.same_objects.clock) in
    let wires_is : c.wires-1.given.0 ≡ c.run.new.outside.wires.now = c.wires-1.given.1 (sym c.run.ensures.same_objects.wires) in
    let a_is : c.area_a-1.given.0 ≡ c.run.new.outside.a.now = c.area_a-1.given.1 (sym c.run.ensures.same_objects.a) in
    let b_is : c.area_b-1.given.0 ≡ c.run.new.outside.b.now = c.area_b-1.given.1 (sym c.run.ensures.same_objects.b) in
    let bell_is : c.bell-1.given.0 ≡ c.run.new.outside.bell.now = c.bell-1.given.1 (sym c.run.ensures.same_objects.bell) in
    rw (folder_is, clock_is, wires_is, a_is, b_is, bell_is)
    (line_caused _ _ _ _ _ (g.S.Sink.faults c.args.out.now) (g.S.Sink.faults c.print_status.new.out) c.in-Err.status c.print_status.result (rw c.in-Err.is at c.run.ensures.ends) c.print_status.ensures.printed (rw c.in-Err.is at c.run.ensures.cause))

pub returns-in-Err-clause-what_an_untroubled_run_ends_with : goal.returns-in-Err-clause-what_an_untroubled_run_ends_with
returns-in-Err-clause-what_an_untroubled_run_ends_with g c = λ untroubled.
    let wires_is : c.wires-1.given.0 ≡ c.run.new.outside.wires.now = c.wires-1.given.1 (sym c.run.ensures.same_objects.wires) in
    let sixteen : length c.args.wires.now.items ≡ 16 = omega (arith, c.requires, c.args.wires.now.ok) in
    line_untroubled _ (wires_of g.W.Wire) _ _ _ untroubled c.args.wires.now.items c.wires-1.given.0.items _ _ _ _ _ c.print_status.result refl refl sixteen
    (ap (λ v. length v.items) wires_is ∙ c.run.ensures.goes_on.wires) c.one_choice.ensures
    (returns-in-Err-clause-usage_only_for_other_words g c)
    (λ lack is. c.run.ensures.unbuilt_only lack (c.in-Err.is ∙ ap (λ (s : Status). Err s) (was_met _ c.in-Err.status c.print_status.result (Unbuilt lack) c.print_status.ensures.printed (λ same. absurd cc) is)))
    (λ fault is. c.run.ensures.fault_only fault (c.in-Err.is ∙ ap (λ (s : Status). Err s) (was_met _ c.in-Err.status c.print_status.result (Settings fault) c.print_status.ensures.printed (λ same. absurd cc) is)))
    (returns-in-Err-clause-registry_bad_only_where_the_areas_are_refused g c)
    (returns-in-Err-clause-each_status_only_for_its_cause g c)
    (returns-in-Err-clause-accounted_for_where_all_tell g c)

-- ---- what a refused run keeps

pub returns-in-Ok-clause-refused_runs_leave_no_image_of_the_first : goal.returns-in-Ok-clause-refused_runs_leave_no_image_of_the_first
returns-in-Ok-clause-refused_runs_leave_no_image_of_the_first g c =
    let a_is : c.area_a-1.given.0 ≡ c.run.new.outside.a.now = c.area_a-1.given.1 (sym c.run.ensures.same_objects.a) in
    rw a_is (λ refused. (c.run.ensures.untouched_where_refused refused).a.each_moment)

pub returns-in-Ok-clause-refused_runs_leave_no_image_of_the_second : goal.returns-in-Ok-clause-refused_runs_leave_no_image_of_the_second
returns-in-Ok-clause-refused_runs_leave_no_image_of_the_second g c =
    let b_is : c.area_b-1.given.0 ≡ c.run.new.outside.b.now = c.area_b-1.given.1 (sym c.run.ensures.same_objects.b) in
    rw b_is (λ refused. (c.run.ensures.untouched_where_refused refused).b.each_moment)

pub returns-in-Ok-clause-refused_runs_keep_the_folder : goal.returns-in-Ok-clause-refused_runs_keep_the_folder
returns-in-Ok-clause-refused_runs_keep_the_folder g c =
    let folder_is : c.folder-1.given.0 ≡ c.run.new.outside.folder.now = c.folder-1.given.1 (sym c.run.ensures.same_objects.folder) in
    rw folder_is (λ refused. (c.run.ensures.untouched_where_refused refused).folder)

pub returns-in-Ok-clause-refused_runs_keep_the_wires : goal.returns-in-Ok-clause-refused_runs_keep_the_wires
returns-in-Ok-clause-refused_runs_keep_the_wires g c =
    let wires_is : c.wires-1.given.0 ≡ c.run.new.outside.wires.now = c.wires-1.given.1 (sym c.run.ensures.same_objects.wires) in
    rw wires_is (λ refused. (c.run.ensures.untouched_where_refused refused).wires)

pub returns-in-Ok-clause-refused_runs_keep_the_first_area : goal.returns-in-Ok-clause-refused_runs_keep_the_first_area
returns-in-Ok-clause-refused_runs_keep_the_first_area g c =
    let a_is : c.area_a-1.given.0 ≡ c.run.new.outside.a.now = c.area_a-1.given.1 (sym c.run.ensures.same_objects.a) in
    rw a_is (λ refused. (c.run.ensures.untouched_where_refused refused).a.contents_kept)

pub returns-in-Ok-clause-refused_runs_keep_the_second_area : goal.returns-in-Ok-clause-refused_runs_keep_the_second_area
returns-in-Ok-clause-refused_runs_keep_the_second_area g c =
    let b_is : c.area_b-1.given.0 ≡ c.run.new.outside.b.now = c.area_b-1.given.1 (sym c.run.ensures.same_objects.b) in
    rw b_is (λ refused. (c.run.ensures.untouched_where_refused refused).b.contents_kept)

pub returns-in-Err-clause-refused_runs_leave_no_image_of_the_first : goal.returns-in-Err-clause-refused_runs_leave_no_image_of_the_first
returns-in-Err-clause-refused_runs_leave_no_image_of_the_first g c =
    let a_is : c.area_a-1.given.0 ≡ c.run.new.outside.a.now = c.area_a-1.given.1 (sym c.run.ensures.same_objects.a) in
    rw a_is (λ refused. (c.run.ensures.untouched_where_refused refused).a.each_moment)

pub returns-in-Err-clause-refused_runs_leave_no_image_of_the_second : goal.returns-in-Err-clause-refused_runs_leave_no_image_of_the_second
returns-in-Err-clause-refused_runs_leave_no_image_of_the_second g c =
    let b_is : c.area_b-1.given.0 ≡ c.run.new.outside.b.now = c.area_b-1.given.1 (sym c.run.ensures.same_objects.b) in
    rw b_is (λ refused. (c.run.ensures.untouched_where_refused refused).b.each_moment)

pub returns-in-Err-clause-refused_runs_keep_the_first_area : goal.returns-in-Err-clause-refused_runs_keep_the_first_area
returns-in-Err-clause-refused_runs_keep_the_first_area g c =
    let a_is : c.area_a-1.given.0 ≡ c.run.new.outside.a.now = c.area_a-1.given.1 (sym c.run.ensures.same_objects.a) in
    rw a_is (λ refused. (c.run.ensures.untouched_where_refused refused).a.contents_kept)

pub returns-in-Err-clause-refused_runs_keep_the_second_area : goal.returns-in-Err-clause-refused_runs_keep_the_second_area
returns-in-Err-clause-refused_runs_keep_the_second_area g c =
    let b_is : c.area_b-1.given.0 ≡ c.run.new.outside.b.now = c.area_b-1.given.1 (sym c.run.ensures.same_objects.b) in
    rw b_is (λ refused. (c.run.ensures.untouched_where_refused refused).b.contents_kept)

pub returns-in-Err-clause-refused_runs_keep_the_folder : goal.returns-in-Err-clause-refused_runs_keep_the_folder
returns-in-Err-clause-refused_runs_keep_the_folder g c =
    let folder_is : c.folder-1.given.0 ≡ c.run.new.outside.folder.now = c.folder-1.given.1 (sym c.run.ensures.same_objects.folder) in
    rw folder_is (λ refused. (c.run.ensures.untouched_where_refused refused).folder)

pub returns-in-Err-clause-refused_runs_keep_the_wires : goal.returns-in-Err-clause-refused_runs_keep_the_wires
returns-in-Err-clause-refused_runs_keep_the_wires g c =
    let wires_is : c.wires-1.given.0 ≡ c.run.new.outside.wires.now = c.wires-1.given.1 (sym c.run.ensures.same_objects.wires) in
    rw wires_is (λ refused. (c.run.ensures.untouched_where_refused refused).wires)

pub print_report-requires-clause-report : goal.print_report-requires-clause-report
print_report-requires-clause-report g c = rw c.in-Ok.is at c.run.ensures.report
