use Rattle.std.proofs.Common.{◌≡◌, true, List, length, Vec, Global, refl, subst, sym, ap, arith, ◌∙◌}
use Rattle.std.proofs.lemmas.List.Elements.{recursion_from_All}
use Rattle.keeper.specs.Keeping.{Keeping}
use Rattle.outside.specs.Counts.{Rose}
use Rattle.rounds.specs.Crewed.{lanings}
use Rattle.rounds.specs.Making.{IsBegunLane}
use Rattle.rounds.specs.declared.carrier.Carrier.{Carrier}
use Rattle.run_steps.specs.BeginErrors.{met_of}
use Rattle.run_steps.specs.Beginning.{beginning}
use Rattle.run_steps.specs.BeginsAll.{EndsBeginning}
use Rattle.run_steps.specs.Unnumbered.{IsMetUnnumbered}
use Rattle.run_steps.specs.CarriersFail.{counts_told}
use Rattle.run_steps.specs.CarriersGoOn.{WiresReturn}
use Rattle.run_steps.specs.Outset.{began_with}
use Rattle.run_steps.specs.RunEnds.{HasEnded}
use Rattle.run_steps.specs.RunState.{Phase}
use Rattle.run_steps.specs.Questions.{count_given, questions_of}
use Rattle.rounds.specs.WordsOf.{links_of, tails_of, wires_of, words_of}
use Rattle.run_steps.proofs.BeginningLists.{begun_rose}
use Rattle.run_steps.proofs.BegunLooks.{begun_hold_nothing, nothing_begun}
use Rattle.run_steps.proofs.BegunReady.{ready_begun, told_runs}
use Rattle.run_steps.proofs.CarriersGoOn.{links_finished, open_links_seen, outcomes_go_on}
use Rattle.run_steps.proofs.HiddenBegun.{begun_knows, errors_still, files_still, hides_tell, passed_or_none}
use Rattle.run_steps.proofs.PassedOver.{passed_over}
use Rattle.run_steps.proofs.Questions.{asks_nothing}
use Rattle.run_steps.proofs.RunCauses.{met_by_run, no_slots}
use Rattle.run_steps.proofs.RunTails.{none_begun}
use Rattle.run_steps.proofs.SettingOut.{accounted, first_ready, further, rests, wires_fit, wires_left}
use Rattle.run_steps.proofs.Unnumbered.{met_unnumbered}
use Rattle.run_steps.proofs.Unreached.{begun_fails, none_failed_begun}
use Rattle.run_steps.proofs.running.run_over.Goals as goal

pub work-requires-clause-ready : goal.work-requires-clause-ready
work-requires-clause-ready g c κs within =
    let queue = c.args.context.outlets.queue.now.id in
    let desk = c.args.context.outlets.desk.now.id in
    let tails = tails_of g.F.Tail.Tail in
    let old = beginning g.F.Folder c.args.around.now.folder.now c.in_ok-crew.crew c.args.storing.now.keeper.now in
    let new = beginning g.F.Folder c.begin_all-begun.new.folder c.begin_all-begun.new.crew c.begin_all-begun.new.keeper in
    let first = first_ready g.L.Link.told queue desk c.args.context.settings.now c.args.around.now.wires.now.items c.crew_of.new.wires.items c.in_ok-crew.crew c.in_ok-crew.ensures.begun
    tails c.args.storing.now c.requires.settings c.requires.keeper in
    let hidden = hides_tell c.args.context.settings.now.inputs c.args.scanned.now.listed.items c.begin_all-begun.result c.hide_begun-begun.result c.begin_all-begun.new.keeper c.hide_begun-begun.new.keeper c.hide_begun-begun.ensures in
    let ready = told_runs tails c.args.context.settings.now c.args.storing.now.keeper.now.store.rows c.args.scanned.now.now queue desk c.args.storing.now.keeper c.args.storing.now.a c.args.storing.now.b
    new (beginning g.F.Folder c.begin_all-begun.new.folder c.begin_all-begun.new.crew c.hide_begun-begun.new.keeper) hidden.more hidden.tells refl
    (ready_begun tails c.args.context.settings.now c.args.storing.now.keeper.now.store.rows c.args.scanned.now.now queue desk c.args.storing.now.keeper c.args.storing.now.a c.args.storing.now.b c.args.scanned.now.listed.items c.begin_all-begun.result old new
    c.begin_all-begun.ensures.begun c.begin_all-begun.ensures.ended
    (record { able = record { some_lanes = first.able.some_lanes; some_carriers = first.able.some_carriers; have = first.able.have; lanes = first.able.lanes; pass = first.able.pass }; is_open = first.is_open })) in
    record {
      able = record { some_lanes = ready.able.some_lanes; some_carriers = ready.able.some_carriers; have = ready.able.have; lanes = ready.able.lanes; pass = ready.able.pass };
      is_open = ready.is_open;
    }

pub work-requires-clause-room : goal.work-requires-clause-room
work-requires-clause-room g c κs within =
    let fit = wires_fit g.L.Link.told c.args.context.outlets.queue.now.id c.args.context.outlets.desk.now.id c.args.context.settings.now c.args.around.now.wires.now.items c.crew_of.new.wires.items
    c.in_ok-crew.crew c.in_ok-crew.ensures.begun in
    let carriers = ap (λ (v : _). length v.items) c.begin_all-begun.ensures.kept.carriers in
    omega (arith, fit, carriers, c.begin_all-begun.new.crew.carriers.ok, c.in_ok-crew.crew.carriers.ok, c.crew_of.new.wires.ok, c.args.around.now.wires.now.ok, c.crew_of.ensures.capacity)

pub returns-clause-ends : goal.returns-clause-ends
returns-clause-ends g c earlier sets =
    let queue = c.args.context.outlets.queue.now.id in
    let desk = c.args.context.outlets.desk.now.id in
    let all = words_of g.F.Tail.Tail g.L.Link g.W.Wire g.D.Disk in
    let old = beginning g.F.Folder c.args.around.now.folder.now c.in_ok-crew.crew c.args.storing.now.keeper.now in
    let new = beginning g.F.Folder c.begin_all-begun.new.folder c.begin_all-begun.new.crew c.begin_all-begun.new.keeper in
    let stood = further all c.disk_images_are_counted.ensures.reads c.disk_images_are_counted.ensures.counts queue desk c.args.context.settings.now c.args.context.once c.args.scanned.now.listed.items c.args.scanned.now.doubled.items c.args.scanned.now.now
    (g.K.Clock.moments c.args.around.now.clock.now) c.args.around.now.wires.now.items c.crew_of.new.wires.items c.args.storing.now.a.now c.args.storing.now.b.now old earlier
    c.in_ok-crew.ensures.begun c.requires.keeper sets c.begin_all-begun.result new c.begin_all-begun.ensures.begun c.begin_all-begun.ensures.ended
    (ap (λ (k : Keeping). k.store.rows) c.begin_all-begun.ensures.kept.keeper) c.hide_begun-begun.result c.hide_begun-begun.new.keeper c.hide_begun-begun.ensures in
    let at_rest = rests all c.disk_images_are_counted.ensures.reads c.disk_images_are_counted.ensures.counts queue desk c.args.context.settings.now c.args.context.once c.args.scanned.now.listed.items c.args.scanned.now.doubled.items c.args.scanned.now.now
    (g.K.Clock.moments c.args.around.now.clock.now) c.args.around.now.wires.now.items c.crew_of.new.wires.items c.args.storing.now.a.now c.args.storing.now.b.now old earlier
    c.in_ok-crew.ensures.begun c.requires.keeper sets c.begin_all-begun.result new c.begin_all-begun.ensures.begun c.begin_all-begun.ensures.ended
    (ap (λ (k : Keeping). k.store.rows) c.begin_all-begun.ensures.kept.keeper) c.hide_begun-begun.result c.hide_begun-begun.new.keeper c.hide_begun-begun.ensures in
    let left = wires_left g.L.Link.told queue desk c.args.context.settings.now c.args.around.now.wires.now.items c.crew_of.new.wires.items c.in_ok-crew.crew c.in_ok-crew.ensures.begun in
    let start = began_with all.wires (record {
      settings = c.args.context.settings.now;
      once = c.args.context.once;
      listed = c.args.scanned.now.listed.items;
      doubled = c.args.scanned.now.doubled.items;
      moment = c.args.scanned.now.now.0;
      shown = g.F.Folder.told c.args.around.now.folder.now;
      moments = g.K.Clock.moments c.args.around.now.clock.now;
      wires = c.args.around.now.wires.now.items;
      keeper = c.args.storing.now.keeper.now;
      a = c.args.storing.now.a.now;
      b = c.args.storing.now.b.now;
    }) earlier in
    subst
    (λ (unused : List g.row.W.Denot). (phase : Phase) × HasEnded all start
    (record {
      shown = g.F.Folder.told c.work.new.around.folder.now;
      moments = g.K.Clock.moments c.work.new.around.clock.now;
      keeper = c.work.new.storing.keeper.now;
      a = c.work.new.storing.a.now;
      b = c.work.new.storing.b.now;
      phase = phase;
    })
    c.work.result.met unused c.work.new.around.wires.now.items)
    (sym left) (c.work.ensures.ends start stood.so_far (record { settings = refl; once = refl }) stood.stands at_rest)

pub returns-clause-accounted : goal.returns-clause-accounted
returns-clause-accounted g c earlier folder sets has clock_tells wires_tell =
    let queue = c.args.context.outlets.queue.now.id in
    let desk = c.args.context.outlets.desk.now.id in
    let all = words_of g.F.Tail.Tail g.L.Link g.W.Wire g.D.Disk in
    let old = beginning g.F.Folder c.args.around.now.folder.now c.in_ok-crew.crew c.args.storing.now.keeper.now in
    let new = beginning g.F.Folder c.begin_all-begun.new.folder c.begin_all-begun.new.crew c.begin_all-begun.new.keeper in
    let stood = further all c.disk_images_are_counted.ensures.reads c.disk_images_are_counted.ensures.counts queue desk c.args.context.settings.now c.args.context.once c.args.scanned.now.listed.items c.args.scanned.now.doubled.items c.args.scanned.now.now
    (g.K.Clock.moments c.args.around.now.clock.now) c.args.around.now.wires.now.items c.crew_of.new.wires.items c.args.storing.now.a.now c.args.storing.now.b.now old earlier
    c.in_ok-crew.ensures.begun c.requires.keeper sets c.begin_all-begun.result new c.begin_all-begun.ensures.begun c.begin_all-begun.ensures.ended
    (ap (λ (k : Keeping). k.store.rows) c.begin_all-begun.ensures.kept.keeper) c.hide_begun-begun.result c.hide_begun-begun.new.keeper c.hide_begun-begun.ensures in
    let at_rest = rests all c.disk_images_are_counted.ensures.reads c.disk_images_are_counted.ensures.counts queue desk c.args.context.settings.now c.args.context.once c.args.scanned.now.listed.items c.args.scanned.now.doubled.items c.args.scanned.now.now
    (g.K.Clock.moments c.args.around.now.clock.now) c.args.around.now.wires.now.items c.crew_of.new.wires.items c.args.storing.now.a.now c.args.storing.now.b.now old earlier
    c.in_ok-crew.ensures.begun c.requires.keeper sets c.begin_all-begun.result new c.begin_all-begun.ensures.begun c.begin_all-begun.ensures.ended
    (ap (λ (k : Keeping). k.store.rows) c.begin_all-begun.ensures.kept.keeper) c.hide_begun-begun.result c.hide_begun-begun.new.keeper c.hide_begun-begun.ensures in
    let start = began_with all.wires (record {
      settings = c.args.context.settings.now;
      once = c.args.context.once;
      listed = c.args.scanned.now.listed.items;
      doubled = c.args.scanned.now.doubled.items;
      moment = c.args.scanned.now.now.0;
      shown = g.F.Folder.told c.args.around.now.folder.now;
      moments = g.K.Clock.moments c.args.around.now.clock.now;
      wires = c.args.around.now.wires.now.items;
      keeper = c.args.storing.now.keeper.now;
      a = c.args.storing.now.a.now;
      b = c.args.storing.now.b.now;
    }) earlier in
    let is = c.work.ensures.ends start stood.so_far (record { settings = refl; once = refl }) stood.stands at_rest in
    let nothing = nothing_begun all.tails c.args.context.settings.now c.args.storing.now.keeper.now.store.rows c.args.scanned.now.now c.args.scanned.now.listed.items c.begin_all-begun.result old new
    c.begin_all-begun.ensures.begun c.begin_all-begun.ensures.ended
    (begun_hold_nothing (lanings c.in_ok-crew.crew.lanes.items) (recursion_from_All IsBegunLane (lanings c.in_ok-crew.crew.lanes.items) c.in_ok-crew.ensures.begun.lanes)) in
    accounted all c.disk_images_are_counted.ensures.reads c.disk_images_are_counted.ensures.counts queue desk c.args.context.settings.now c.args.context.once c.args.scanned.now.listed.items c.args.scanned.now.doubled.items c.args.scanned.now.now
    (g.K.Clock.moments c.args.around.now.clock.now) c.args.around.now.wires.now.items c.crew_of.new.wires.items c.args.storing.now.a.now c.args.storing.now.b.now old earlier
    c.in_ok-crew.ensures.begun c.requires.keeper sets c.begin_all-begun.result new c.begin_all-begun.ensures.begun c.begin_all-begun.ensures.ended
    (ap (λ (k : Keeping). k.store.rows) c.begin_all-begun.ensures.kept.keeper) c.hide_begun-begun.result c.hide_begun-begun.new.keeper c.hide_begun-begun.ensures
    (record {
      shown = g.F.Folder.told c.work.new.around.folder.now;
      moments = g.K.Clock.moments c.work.new.around.clock.now;
      keeper = c.work.new.storing.keeper.now;
      a = c.work.new.storing.a.now;
      b = c.work.new.storing.b.now;
      phase = is.0;
    })
    c.work.result.met c.work.new.around.wires.now.items is.1 folder has clock_tells wires_tell
    (record { clock = earlier.asked; bell = g.B.Bell.questions c.args.around.now.bell.now; given = count_given earlier.moments }) (questions_of g.K.Clock g.B.Bell c.work.new.around.clock.now c.work.new.around.bell.now) c.one_choice.ensures
    (record { none = c.covered_end_by_steps.ensures.none; some = c.covered_end_by_steps.ensures.some }) c.work.result.passed.items c.work.ensures.passed c.work.ensures.told_only_where_begun
    c.work.ensures.collects
    (ap (λ (k : Keeping). k.held) (hides_tell c.args.context.settings.now.inputs c.args.scanned.now.listed.items c.begin_all-begun.result c.hide_begun-begun.result c.begin_all-begun.new.keeper c.hide_begun-begun.new.keeper c.hide_begun-begun.ensures).tells.others_stay
    ∙ ap (λ (k : Keeping). k.held) c.begin_all-begun.ensures.kept.keeper ∙ ap (λ (k : Keeping). k.held) c.requires.keeper.is) c.work.ensures.told.0 c.work.ensures.told.1
    (outcomes_go_on g.L.Link.told queue desk c.args.context.settings.now c.args.around.now.wires.now.items c.crew_of.new.wires.items c.in_ok-crew.crew c.in_ok-crew.ensures.begun all.wires
    c.work.new.around.wires.now.items
    (subst (λ (v : Vec (Carrier g.row.W.Denot g.row.L.Denot) Global). WiresReturn all.wires v.items c.crew_of.new.wires.items c.work.new.around.wires.now.items) c.begin_all-begun.ensures.kept.carriers
    c.work.ensures.wires_return))
    (c.work.ensures.looked start stood.so_far (record { settings = refl; once = refl }) stood.stands at_rest nothing)

pub returns-clause-cause : goal.returns-clause-cause
returns-clause-cause g c =
    let old = beginning g.F.Folder c.args.around.now.folder.now c.in_ok-crew.crew c.args.storing.now.keeper.now in
    let new = beginning g.F.Folder c.begin_all-begun.new.folder c.begin_all-begun.new.crew c.begin_all-begun.new.keeper in
    let kept = c.begin_all-begun.ensures.kept in
    let begun = c.in_ok-crew.ensures.begun in
    let carriers = ap (λ (v : Vec (Carrier g.row.W.Denot g.row.L.Denot) Global). length v.items) kept.carriers in
    met_by_run c.args.context.settings.now.output.workers (length c.args.scanned.now.listed.items) c.begin_all-begun.new.crew (g.D.Disk.faults c.args.storing.now.a.now) (g.D.Disk.faults c.args.storing.now.b.now)
    (g.B.Bell.rings c.args.around.now.bell.now) old new
    (record {
      a_faults = g.D.Disk.faults c.work.new.storing.a.now;
      b_faults = g.D.Disk.faults c.work.new.storing.b.now;
      folder_faults = g.F.Folder.faults c.work.new.around.folder.now;
      rings = g.B.Bell.rings c.work.new.around.bell.now;
    })
    kept.faults_never_fall (carriers ∙ begun.many_carriers)
    (kept.slots (no_slots (length c.args.scanned.now.listed.items) (lanings c.in_ok-crew.crew.lanes.items) (recursion_from_All IsBegunLane (lanings c.in_ok-crew.crew.lanes.items) begun.lanes)))
    c.hide_begun-begun.result c.work.result.met
    (errors_still (λ error. EndsBeginning (length c.args.scanned.now.listed.items) error old new) c.args.context.settings.now.inputs c.args.scanned.now.listed.items c.begin_all-begun.result c.hide_begun-begun.result c.begin_all-begun.new.keeper c.hide_begun-begun.new.keeper tt c.hide_begun-begun.ensures
    c.begin_all-begun.ensures.ends)
    (files_still (λ files. files.faulty ≡ true → Rose old.folder.faults new.folder.faults) c.args.context.settings.now.inputs c.args.scanned.now.listed.items c.begin_all-begun.result c.hide_begun-begun.result c.begin_all-begun.new.keeper
    c.hide_begun-begun.new.keeper c.hide_begun-begun.ensures
    (begun_rose (tails_of g.F.Tail.Tail) c.args.context.settings.now c.args.storing.now.keeper.now.store.rows c.args.scanned.now.now c.args.scanned.now.listed.items c.begin_all-begun.result old new c.begin_all-begun.ensures.begun))
    c.work.ensures.never_fall.folder_faults c.work.ensures.cause

pub returns-clause-tails_closed : goal.returns-clause-tails_closed
returns-clause-tails_closed g c few =
    let opened = c.begin_all-begun.ensures.kept.open_tails few in
    let none = none_begun (lanings c.in_ok-crew.crew.lanes.items) (recursion_from_All IsBegunLane (lanings c.in_ok-crew.crew.lanes.items) c.in_ok-crew.ensures.begun.lanes) in
    let closed = c.work.ensures.open_tails in
    omega (arith, opened, none, closed)

pub returns-clause-links_finished : goal.returns-clause-links_finished
returns-clause-links_finished g c few =
    let wires = wires_of g.W.Wire in
    let all = c.work.new.around.wires.now.items in
    links_finished g.L.Link.told c.args.context.outlets.queue.now.id c.args.context.outlets.desk.now.id c.args.context.settings.now c.args.around.now.wires.now.items c.crew_of.new.wires.items
    c.in_ok-crew.crew c.in_ok-crew.ensures.begun wires all
    (subst (λ (v : Vec (Carrier g.row.W.Denot g.row.L.Denot) Global). WiresReturn wires v.items c.crew_of.new.wires.items all) c.begin_all-begun.ensures.kept.carriers c.work.ensures.wires_return) few

pub returns-in_err-crew-clause-links_finished : goal.returns-in_err-crew-clause-links_finished
returns-in_err-crew-clause-links_finished g c few =
    open_links_seen (wires_of g.W.Wire) c.crew_of.new.wires.items c.args.around.now.wires.now.items c.in_err-crew.ensures.back

pub returns-clause-still_tell : goal.returns-clause-still_tell
returns-clause-still_tell g c = record { a = c.work.ensures.still_tell.a; b = c.work.ensures.still_tell.b }

pub returns-clause-as_many_wires : goal.returns-clause-as_many_wires
returns-clause-as_many_wires g c =
    let fit = wires_fit g.L.Link.told c.args.context.outlets.queue.now.id c.args.context.outlets.desk.now.id c.args.context.settings.now c.args.around.now.wires.now.items c.crew_of.new.wires.items
    c.in_ok-crew.crew c.in_ok-crew.ensures.begun in
    let carriers = ap (λ (v : Vec (Carrier g.row.W.Denot g.row.L.Denot) Global). length v.items) c.begin_all-begun.ensures.kept.carriers in
    let back = c.work.ensures.as_many_wires in
    omega (arith, fit, carriers, back)

pub returns-clause-failing : goal.returns-clause-failing
returns-clause-failing g c earlier within =
    let queue = c.args.context.outlets.queue.now.id in
    let desk = c.args.context.outlets.desk.now.id in
    let settings = c.args.context.settings.now in
    let old = c.args.around.now.wires.now.items in
    let wires = wires_of g.W.Wire in
    let tries = c.requires.settings.output.attempts in
    let some = c.requires.settings.output.timeout in
    c.work.ensures.failing settings.output.timeout earlier (counts_told wires settings.output.workers old) (omega (arith, some))
    (none_failed_begun queue desk settings old c.crew_of.new.wires.items c.in_ok-crew.crew g.L.Link.told c.in_ok-crew.ensures.begun c.begin_all-begun.new.crew.carriers
    c.begin_all-begun.ensures.kept.carriers (omega (arith, tries)))
    (begun_fails queue desk settings old c.crew_of.new.wires.items c.in_ok-crew.crew (links_of g.L.Link) wires c.in_ok-crew.ensures.begun
    c.begin_all-begun.new.crew.carriers c.begin_all-begun.ensures.kept.carriers earlier (g.K.Clock.moments c.args.around.now.clock.now) (omega (arith, tries)) within)

pub returns-clause-passed_over : goal.returns-clause-passed_over
returns-clause-passed_over g c =
    passed_over (tails_of g.F.Tail.Tail) c.args.context.settings.now c.args.storing.now.keeper.now.store.rows c.args.scanned.now.now c.args.scanned.now.listed.items
    (beginning g.F.Folder c.args.around.now.folder.now c.in_ok-crew.crew c.args.storing.now.keeper.now)
    (beginning g.F.Folder c.begin_all-begun.new.folder c.begin_all-begun.new.crew c.begin_all-begun.new.keeper)
    c.begin_all-begun.result c.work.result.passed.items c.begin_all-begun.ensures.begun
    (passed_or_none c.args.context.settings.now.inputs c.args.scanned.now.listed.items c.begin_all-begun.result c.hide_begun-begun.result c.begin_all-begun.new.keeper c.hide_begun-begun.new.keeper c.work.result.passed.items c.hide_begun-begun.ensures c.work.ensures.passed)

pub returns-clause-same_keeper : goal.returns-clause-same_keeper
returns-clause-same_keeper g c = c.work.ensures.same_objects.keeper

pub returns-clause-same_a : goal.returns-clause-same_a
returns-clause-same_a g c = c.work.ensures.same_objects.a

pub returns-clause-same_b : goal.returns-clause-same_b
returns-clause-same_b g c = c.work.ensures.same_objects.b

pub returns-clause-unnumbered : goal.returns-clause-unnumbered
returns-clause-unnumbered g c =
    met_unnumbered c.args.context.settings.now c.args.scanned.now.listed.items (g.F.Folder.told c.args.around.now.folder.now) (g.F.Folder.told c.begin_all-begun.new.folder) (g.F.Folder.told c.work.new.around.folder.now)
    c.hide_begun-begun.result c.work.result.met
    (errors_still (λ error. IsMetUnnumbered c.args.context.settings.now c.args.scanned.now.listed.items (g.F.Folder.told c.args.around.now.folder.now) (g.F.Folder.told c.begin_all-begun.new.folder) (met_of error)) c.args.context.settings.now.inputs
    c.args.scanned.now.listed.items c.begin_all-begun.result c.hide_begun-begun.result c.begin_all-begun.new.keeper c.hide_begun-begun.new.keeper tt c.hide_begun-begun.ensures c.begin_all-begun.ensures.unnumbered) c.work.ensures.told.0 c.work.ensures.told.1 c.begin_all-begun.new.crew _ _ c.work.ensures.cause

pub begin_all-begun-requires : goal.begin_all-begun-requires
begin_all-begun-requires g c = record {
  settings_in_range = c.requires.settings;
  in_range = c.requires.in_range;
  of_inputs = c.requires.of_inputs;
  few = c.requires.few;
  few_listed = c.requires.few_listed;
  starts = c.requires.starts;
  moment = c.requires.moment;
  some_lanes = let many = c.in_ok-crew.ensures.begun.many_lanes in let some = c.requires.settings.lanes in omega (arith, many, some);
  nothing_told = ap (λ (k : Keeping). k.tracked.notes) c.requires.keeper.is;
}

pub returns-in_err-crew-clause-asks : goal.returns-in_err-crew-clause-asks
returns-in_err-crew-clause-asks g c = asks_nothing 1 (questions_of g.K.Clock g.B.Bell c.args.around.now.clock.now c.args.around.now.bell.now)

pub hide_begun-begun-requires-clause-room : goal.hide_begun-begun-requires-clause-room
hide_begun-begun-requires-clause-room g c =
    begun_knows (tails_of g.F.Tail.Tail) c.args.context.settings.now c.args.scanned.now.now c.args.scanned.now.listed.items c.begin_all-begun.result
    (beginning g.F.Folder c.args.around.now.folder.now c.in_ok-crew.crew c.args.storing.now.keeper.now)
    (beginning g.F.Folder c.begin_all-begun.new.folder c.begin_all-begun.new.crew c.begin_all-begun.new.keeper) c.requires.few (ap (λ (k : Keeping). k.tracked.notes) c.requires.keeper.is) c.begin_all-begun.ensures.begun
