use Rattle.std.proofs.Common.{◌≡◌, inl, inr, ⊎_elim, refl, arith}
use Rattle.keeper.proofs.InARow.{collects_more}
use Rattle.rounds.specs.Crewed.{lanings}
use Rattle.rounds.specs.Crewing.{crewing}
use Rattle.std.specs.Vec.{with_items}
use Rattle.run_steps.specs.CarriersFail.{sending}
use Rattle.run_steps.specs.ClosesTail.{Readers}
use Rattle.run_steps.specs.FolderSeen.{seen_in}
use Rattle.run_steps.specs.MetBy.{Since}
use Rattle.run_steps.specs.Onward.{rules_of}
use Rattle.run_steps.specs.RunState.{phase_left, within}
use Rattle.run_steps.specs.Worked.{phase_begun, phase_worked}
use Rattle.run_steps.specs.declared.met.Met.TheVariants.{Done}
use Rattle.rounds.specs.WordsOf.{links_of, tails_of, wires_of, words_of}
use Rattle.run_steps.proofs.CarriersGoOn.{wires_return}
use Rattle.run_steps.proofs.FailingRounds.{fail_after}
use Rattle.run_steps.proofs.GoesOn.{goes_then_closes}
use Rattle.run_steps.proofs.LeftLooks.{looks_once_closed}
use Rattle.run_steps.proofs.Letting.{able_closed, carriers_have_passes, lanes_have_passes, none_in, none_many, some_in, spans_by_some}
use Rattle.run_steps.proofs.ReadersGo.{readers_go_by_some}
use Rattle.run_steps.proofs.RunTails.{wires_back}
use Rattle.run_steps.proofs.Unreached.{failed_as_met}
use Rattle.run_steps.proofs.Whole.{all_counted, cause, done_before, done_in, epochs_before, finished_by, first_met, halted_by, has_ended, left_still, out_by, stopped_before, telling_before}
use Rattle.run_steps.proofs.working.work.Goals as goal

pub settle_after-worked-requires-clause-ready : goal.settle_after-worked-requires-clause-ready
settle_after-worked-requires-clause-ready g c κs within left =
    let one = c.follow_begun-worked.new.crew in
    let folder = c.follow_begun-worked.new.system.folder in
    let closes = some_in (tails_of g.F.Tail.Tail) (seen_in g.F.Folder folder.now) (seen_in g.F.Folder c.close_all.new.folder) one.lanes c.as_mut_slice.result.now c.close_all.new.lanes
    c.as_mut_slice.ensures.value c.close_all.ensures.closes in
    let ready = c.follow_begun-worked.ensures.goes.keeps.ready left in
    record {
      able = able_closed (tails_of g.F.Tail.Tail) c.args.context.outlets.queue.now.id c.args.context.outlets.desk.now.id closes.closed (seen_in g.F.Folder folder.now) (seen_in g.F.Folder c.close_all.new.folder)
          (crewing one c.follow_begun-worked.new.storing) (crewing (record one { lanes = with_items one.lanes c.close_all.new.lanes }) c.follow_begun-worked.new.storing) ready.able closes.each refl refl;
      is_open = ready.is_open;
    }

pub settle_after-worked-requires-clause-able : goal.settle_after-worked-requires-clause-able
settle_after-worked-requires-clause-able g c κs within =
    let one = c.follow_begun-worked.new.crew in
    let folder = c.follow_begun-worked.new.system.folder in
    let closes = some_in (tails_of g.F.Tail.Tail) (seen_in g.F.Folder folder.now) (seen_in g.F.Folder c.close_all.new.folder) one.lanes c.as_mut_slice.result.now c.close_all.new.lanes
    c.as_mut_slice.ensures.value c.close_all.ensures.closes in
    able_closed (tails_of g.F.Tail.Tail) c.args.context.outlets.queue.now.id c.args.context.outlets.desk.now.id closes.closed (seen_in g.F.Folder folder.now) (seen_in g.F.Folder c.close_all.new.folder)
    (crewing one c.follow_begun-worked.new.storing) (crewing (record one { lanes = with_items one.lanes c.close_all.new.lanes }) c.follow_begun-worked.new.storing) c.follow_begun-worked.ensures.goes.keeps.able closes.each refl refl

pub end_crew-requires-clause-lanes : goal.end_crew-requires-clause-lanes
end_crew-requires-clause-lanes g c =
    lanes_have_passes c.args.context.outlets.queue.now.id c.args.context.outlets.desk.now.id (tails_of g.F.Tail.Tail)
    (crewing c.settle_after-worked.new.crew c.settle_after-worked.new.storing) c.settle_after-worked.ensures.last.hands_on.able

pub end_crew-requires-clause-no_harvesters : goal.end_crew-requires-clause-no_harvesters
end_crew-requires-clause-no_harvesters g c =
    let one = c.follow_begun-worked.new.crew in
    let folder = c.follow_begun-worked.new.system.folder in
    let none = none_in (tails_of g.F.Tail.Tail) (seen_in g.F.Folder folder.now) (seen_in g.F.Folder c.close_all.new.folder) one.lanes c.as_mut_slice.result.now c.close_all.new.lanes
    c.close_all.ensures.none_left c.as_mut_slice.ensures.value c.close_all.ensures.closes in
    c.settle_after-worked.ensures.last.hands_on.no_harvesters none

pub end_crew-requires-clause-carriers : goal.end_crew-requires-clause-carriers
end_crew-requires-clause-carriers g c =
    carriers_have_passes c.args.context.outlets.queue.now.id c.args.context.outlets.desk.now.id (tails_of g.F.Tail.Tail)
    (crewing c.settle_after-worked.new.crew c.settle_after-worked.new.storing) c.settle_after-worked.ensures.last.hands_on.able

pub returns-clause-ends : goal.returns-clause-ends
returns-clause-ends g c start so_far same stands began =
    let all = words_of g.F.Tail.Tail g.L.Link g.W.Wire g.D.Disk in
    let first = c.follow_begun-worked.new.storing in
    let met = c.follow_begun-worked.result.met in
    let now = c.settle_after-worked.result.met in
    let one = c.follow_begun-worked.new.crew in
    let folder = c.follow_begun-worked.new.system.folder in
    let closes = some_in (tails_of g.F.Tail.Tail) (seen_in g.F.Folder folder.now) (seen_in g.F.Folder c.close_all.new.folder) one.lanes c.as_mut_slice.result.now c.close_all.new.lanes
    c.as_mut_slice.ensures.value c.close_all.ensures.closes in
    let none = none_in (tails_of g.F.Tail.Tail) (seen_in g.F.Folder folder.now) (seen_in g.F.Folder c.close_all.new.folder) one.lanes c.as_mut_slice.result.now c.close_all.new.lanes
    c.close_all.ensures.none_left c.as_mut_slice.ensures.value c.close_all.ensures.closes in
    let goes = goes_then_closes closes.closed (record folder { now = c.close_all.new.folder }) (with_items one.lanes c.close_all.new.lanes) c.follow_begun-worked.ensures.goes closes.each refl in
    let since : Since g.row.F-Tail.Denot g.row.W.Denot g.row.L.Denot g.row.D.Denot = record {
      a = c.args.storing.now.a.now;
      b = c.args.storing.now.b.now;
      faults = g.F.Folder.faults c.args.around.now.folder.now;
      later_faults = g.F.Folder.faults c.follow_begun-worked.new.system.folder.now;
      now = crewing one first;
    } in
    let is_done = λ (is : now ≡ Done). done_before all.disks (record { a = first.a.now; b = first.b.now; new_a = c.settle_after-worked.new.storing.a.now; new_b = c.settle_after-worked.new.storing.b.now }) met now
    c.settle_after-worked.ensures.last.by is in (
      phase_left (phase_worked c.args.begun met),
      has_ended all start c.args.begun (rules_of c.args.context) (g.F.Folder.told c.args.around.now.folder.now) (g.F.Folder.told c.close_all.new.folder) (g.K.Clock.moments c.args.around.now.clock.now)
          (g.K.Clock.moments c.follow_begun-worked.new.system.clock.now) c.args.crew one (record one { lanes = with_items one.lanes c.close_all.new.lanes }) c.settle_after-worked.new.crew
          c.args.storing.now first c.settle_after-worked.new.storing met now c.args.around.now.wires.now.items c.end_crew.new.wires.items
          (record {
            followed = goes.onward;
            at_rest = goes.keeps.at_rest;
            as_many_spans = spans_by_some (tails_of g.F.Tail.Tail) closes.closed (record { folder = seen_in g.F.Folder folder.now; lanes = lanings one.lanes.items })
                (record { folder = seen_in g.F.Folder c.close_all.new.folder; lanes = lanings (with_items one.lanes c.close_all.new.lanes).items }) closes.each;
            settled = c.settle_after-worked.ensures.last.hands_on.onward;
            still = c.settle_after-worked.ensures.still;
            left_before = left_still all.disks (record { a = first.a.now; b = first.b.now; new_a = c.settle_after-worked.new.storing.a.now; new_b = c.settle_after-worked.new.storing.b.now }) met now
                c.settle_after-worked.ensures.last.by;
            stored = c.settle_after-worked.ensures.last.settled;
            counted = c.settle_after-worked.ensures.last.counted;
            is_open = λ left. (c.settle_after-worked.ensures.last.hands_on.ready left).is_open;
            then_at_rest = c.settle_after-worked.ensures.last.hands_on.at_rest;
            none_left = c.settle_after-worked.ensures.last.hands_on.no_harvesters none;
            all_settled = c.settle_after-worked.ensures.last.hands_on.all_settled;
            ended = c.end_crew.ensures.ended;
            done = λ is. done_in all c.args.context.settings.now.output.attempts since c.args.begun met c.follow_begun-worked.ensures.met (is_done is);
            finished = λ is. finished_by c.args.begun met (first_met all c.args.context.settings.now.output.attempts since c.args.begun met c.follow_begun-worked.ensures.met) (is_done is);
            out_of_epochs = λ slot is. out_by c.args.begun met slot (first_met all c.args.context.settings.now.output.attempts since c.args.begun met c.follow_begun-worked.ensures.met)
                (epochs_before all.disks (record { a = first.a.now; b = first.b.now; new_a = c.settle_after-worked.new.storing.a.now; new_b = c.settle_after-worked.new.storing.b.now }) met now slot c.settle_after-worked.ensures.last.by is);
            stopped = λ is. halted_by c.args.begun met (first_met all c.args.context.settings.now.output.attempts since c.args.begun met c.follow_begun-worked.ensures.met)
                (stopped_before all.disks (record { a = first.a.now; b = first.b.now; new_a = c.settle_after-worked.new.storing.a.now; new_b = c.settle_after-worked.new.storing.b.now }) met now c.settle_after-worked.ensures.last.by is);
          })
          so_far same stands began,
    )

pub returns-clause-told_only_where_begun : goal.returns-clause-told_only_where_begun
returns-clause-told_only_where_begun g c telling =
    let all = words_of g.F.Tail.Tail g.L.Link g.W.Wire g.D.Disk in
    let first = c.follow_begun-worked.new.storing in
    c.follow_begun-worked.ensures.told_only_where_begun
    (telling_before all.disks (record { a = first.a.now; b = first.b.now; new_a = c.settle_after-worked.new.storing.a.now; new_b = c.settle_after-worked.new.storing.b.now })
    c.follow_begun-worked.result.met c.settle_after-worked.result.met c.settle_after-worked.ensures.last.by telling)

pub returns-clause-open_tails : goal.returns-clause-open_tails
returns-clause-open_tails g c =
    let one = c.follow_begun-worked.new.crew in
    let folder = c.follow_begun-worked.new.system.folder in
    let closes = some_in (tails_of g.F.Tail.Tail) (seen_in g.F.Folder folder.now) (seen_in g.F.Folder c.close_all.new.folder) one.lanes c.as_mut_slice.result.now c.close_all.new.lanes
    c.as_mut_slice.ensures.value c.close_all.ensures.closes in
    let none = none_in (tails_of g.F.Tail.Tail) (seen_in g.F.Folder folder.now) (seen_in g.F.Folder c.close_all.new.folder) one.lanes c.as_mut_slice.result.now c.close_all.new.lanes
    c.close_all.ensures.none_left c.as_mut_slice.ensures.value c.close_all.ensures.closes in
    let goes = goes_then_closes closes.closed (record folder { now = c.close_all.new.folder }) (with_items one.lanes c.close_all.new.lanes) c.follow_begun-worked.ensures.goes closes.each refl in
    let closed = goes.keeps.readers.open_tails in
    let many = none_many (lanings (with_items one.lanes c.close_all.new.lanes).items) none in
    omega (arith, closed, many)

pub returns-clause-never_fall : goal.returns-clause-never_fall
returns-clause-never_fall g c =
    let one = c.follow_begun-worked.new.crew in
    let folder = c.follow_begun-worked.new.system.folder in
    let closes = some_in (tails_of g.F.Tail.Tail) (seen_in g.F.Folder folder.now) (seen_in g.F.Folder c.close_all.new.folder) one.lanes c.as_mut_slice.result.now c.close_all.new.lanes
    c.as_mut_slice.ensures.value c.close_all.ensures.closes in
    let goes = goes_then_closes closes.closed (record folder { now = c.close_all.new.folder }) (with_items one.lanes c.close_all.new.lanes) c.follow_begun-worked.ensures.goes closes.each refl in
    let first = c.follow_begun-worked.ensures.goes.keeps in
    let then = c.settle_after-worked.ensures.last.hands_on in
    record {
      a_faults = omega (arith, first.a_faults_never_fall, then.a_faults_never_fall);
      b_faults = omega (arith, first.b_faults_never_fall, then.b_faults_never_fall);
      folder_faults = goes.keeps.readers.faults_never_fall;
      rings = first.rings_never_fall;
    }

pub returns-clause-as_many_wires : goal.returns-clause-as_many_wires
returns-clause-as_many_wires g c =
    let back = wires_back (links_of g.L.Link) (wires_of g.W.Wire)
    c.settle_after-worked.new.crew.carriers.items c.args.around.now.wires.now.items c.end_crew.new.wires.items c.end_crew.ensures.ended in
    let first = c.follow_begun-worked.ensures.goes.keeps.as_many.carriers in
    let then = c.settle_after-worked.ensures.last.hands_on.as_many.carriers in
    omega (arith, back, first, then)

pub returns-clause-cause : goal.returns-clause-cause
returns-clause-cause g c =
    let all = words_of g.F.Tail.Tail g.L.Link g.W.Wire g.D.Disk in
    let first = c.follow_begun-worked.new.storing in
    let second = c.settle_after-worked.new.storing in
    let keeps = c.follow_begun-worked.ensures.goes.keeps in
    let one = c.follow_begun-worked.new.crew in
    let folder = c.follow_begun-worked.new.system.folder in
    let closes = some_in (tails_of g.F.Tail.Tail) (seen_in g.F.Folder folder.now) (seen_in g.F.Folder c.close_all.new.folder) one.lanes c.as_mut_slice.result.now c.close_all.new.lanes
    c.as_mut_slice.ensures.value c.close_all.ensures.closes in
    let none = none_in (tails_of g.F.Tail.Tail) (seen_in g.F.Folder folder.now) (seen_in g.F.Folder c.close_all.new.folder) one.lanes c.as_mut_slice.result.now c.close_all.new.lanes
    c.close_all.ensures.none_left c.as_mut_slice.ensures.value c.close_all.ensures.closes in
    let before : Readers g.row.F-Tail.Denot = record { folder = seen_in g.F.Folder folder.now; lanes = lanings one.lanes.items } in
    let after : Readers g.row.F-Tail.Denot = record { folder = seen_in g.F.Folder c.close_all.new.folder; lanes = lanings (with_items one.lanes c.close_all.new.lanes).items } in
    cause all c.args.context.settings.now.output.attempts (g.F.Folder.faults folder.now) c.args.crew one c.args.storing.now first second
    (record { a_faults = g.D.Disk.faults c.args.storing.now.a.now; b_faults = g.D.Disk.faults c.args.storing.now.b.now; folder_faults = g.F.Folder.faults c.args.around.now.folder.now; rings = g.B.Bell.rings c.args.around.now.bell.now })
    (record { a_faults = g.D.Disk.faults second.a.now; b_faults = g.D.Disk.faults second.b.now; folder_faults = g.F.Folder.faults c.close_all.new.folder; rings = g.B.Bell.rings c.follow_begun-worked.new.system.bell.now })
    (record {
      a_before = refl;
      b_before = refl;
      a_after = refl;
      b_after = refl;
      a_first = keeps.a_faults_never_fall;
      b_first = keeps.b_faults_never_fall;
      a_then = c.settle_after-worked.ensures.last.hands_on.a_faults_never_fall;
      b_then = c.settle_after-worked.ensures.last.hands_on.b_faults_never_fall;
      folder = λ met. all_counted all.tails (g.F.Folder.faults c.args.around.now.folder.now) (g.F.Folder.faults c.close_all.new.folder) after.lanes none
          ((readers_go_by_some all.tails closes.closed before after closes.each).fault_stays (g.F.Folder.faults c.args.around.now.folder.now) keeps.readers.faults_never_fall met);
      as_many = keeps.as_many;
      slots = keeps.readers.slots;
    })
    c.args.begun c.follow_begun-worked.result.met c.settle_after-worked.result.met c.follow_begun-worked.ensures.met c.follow_begun-worked.ensures.stopped c.settle_after-worked.ensures.last.by

pub returns-clause-collects : goal.returns-clause-collects
returns-clause-collects g c =
    collects_more c.args.storing.now.keeper.now c.follow_begun-worked.new.storing.keeper.now c.settle_after-worked.new.storing.keeper.now c.follow_begun-worked.ensures.goes.keeps.keeper
    c.settle_after-worked.ensures.last.hands_on.collects

pub returns-clause-told : goal.returns-clause-told
returns-clause-told g c =
    let one = c.follow_begun-worked.new.crew in
    let folder = c.follow_begun-worked.new.system.folder in
    let closes = some_in (tails_of g.F.Tail.Tail) (seen_in g.F.Folder folder.now) (seen_in g.F.Folder c.close_all.new.folder) one.lanes c.as_mut_slice.result.now c.close_all.new.lanes
    c.as_mut_slice.ensures.value c.close_all.ensures.closes in
    let goes = goes_then_closes closes.closed (record folder { now = c.close_all.new.folder }) (with_items one.lanes c.close_all.new.lanes) c.follow_begun-worked.ensures.goes closes.each refl in
    (goes.keeps.readers.more, goes.keeps.readers.told)

pub returns-clause-failing : goal.returns-clause-failing
returns-clause-failing g c timeout earlier starts some none failing =
    let all = words_of g.F.Tail.Tail g.L.Link g.W.Wire g.D.Disk in
    let attempts = c.args.context.settings.now.output.attempts in
    let one = c.follow_begun-worked.new.crew in
    let first = c.follow_begun-worked.new.storing in
    let moments = g.K.Clock.moments c.follow_begun-worked.new.system.clock.now in
    let since : Since g.row.F-Tail.Denot g.row.W.Denot g.row.L.Denot g.row.D.Denot = record {
      a = c.args.storing.now.a.now;
      b = c.args.storing.now.b.now;
      faults = g.F.Folder.faults c.args.around.now.folder.now;
      later_faults = g.F.Folder.faults c.follow_begun-worked.new.system.folder.now;
      now = crewing one first;
    } in
    failed_as_met all attempts timeout earlier starts moments c.args.begun since
    (record { a = first.a.now; b = first.b.now; new_a = c.settle_after-worked.new.storing.a.now; new_b = c.settle_after-worked.new.storing.b.now })
    c.settle_after-worked.new.crew.carriers.items c.args.around.now.wires.now.items c.end_crew.new.wires.items c.follow_begun-worked.result.met c.settle_after-worked.result.met
    c.follow_begun-worked.ensures.met c.settle_after-worked.ensures.last.by
    (fail_after (links_of g.L.Link) (wires_of g.W.Wire) attempts
    (sending (g.K.Clock.moments c.args.around.now.clock.now) c.args.crew.carriers.items) (sending moments one.carriers.items) timeout earlier starts some none c.follow_begun-worked.ensures.goes.keeps.failing failing)
    c.settle_after-worked.ensures.last.hands_on.links_stay c.end_crew.ensures.ended

pub returns-clause-wires_return : goal.returns-clause-wires_return
returns-clause-wires_return g c =
    wires_return (links_of g.L.Link) (wires_of g.W.Wire)
    c.args.crew.carriers.items c.follow_begun-worked.new.crew.carriers.items c.settle_after-worked.new.crew.carriers.items c.args.around.now.wires.now.items c.end_crew.new.wires.items
    c.follow_begun-worked.ensures.goes.keeps.carriers_go_on c.settle_after-worked.ensures.last.hands_on.links_stay c.end_crew.ensures.ended

pub returns-clause-still_tell : goal.returns-clause-still_tell
returns-clause-still_tell g c = record {
  a = λ told. c.settle_after-worked.ensures.last.hands_on.still_tell.a (c.follow_begun-worked.ensures.goes.keeps.still_tell.a told);
  b = λ told. c.settle_after-worked.ensures.last.hands_on.still_tell.b (c.follow_begun-worked.ensures.goes.keeps.still_tell.b told);
}

pub returns-clause-looked : goal.returns-clause-looked
returns-clause-looked g c start so_far same stands began nothing stopped twice =
    let all = words_of g.F.Tail.Tail g.L.Link g.W.Wire g.D.Disk in
    let one = c.follow_begun-worked.new.crew in
    let first = c.follow_begun-worked.new.storing in
    let met = c.follow_begun-worked.result.met in
    let folder = c.follow_begun-worked.new.system.folder in
    let before = stopped_before all.disks (record { a = first.a.now; b = first.b.now; new_a = c.settle_after-worked.new.storing.a.now; new_b = c.settle_after-worked.new.storing.b.now }) met
    c.settle_after-worked.result.met c.settle_after-worked.ensures.last.by stopped in
    let closes = some_in (tails_of g.F.Tail.Tail) (seen_in g.F.Folder folder.now) (seen_in g.F.Folder c.close_all.new.folder) one.lanes c.as_mut_slice.result.now c.close_all.new.lanes
    c.as_mut_slice.ensures.value c.close_all.ensures.closes in
    let none = none_in (tails_of g.F.Tail.Tail) (seen_in g.F.Folder folder.now) (seen_in g.F.Folder c.close_all.new.folder) one.lanes c.as_mut_slice.result.now c.close_all.new.lanes
    c.close_all.ensures.none_left c.as_mut_slice.ensures.value c.close_all.ensures.closes in
    ⊎_elim (λ no_file. inl no_file)
    (λ some. inr (looks_once_closed all closes.closed (seen_in g.F.Folder folder.now) (seen_in g.F.Folder c.close_all.new.folder) (g.K.Clock.moments c.follow_begun-worked.new.system.clock.now) one
    (with_items one.lanes c.close_all.new.lanes) first (phase_worked c.args.begun met) closes.each none (rules_of c.args.context)
    (within (g.F.Folder.told c.args.around.now.folder.now) (g.K.Clock.moments c.args.around.now.clock.now) c.args.crew c.args.storing.now (phase_begun c.args.begun))
    c.follow_begun-worked.ensures.goes.onward start so_far same stands began some))
    (c.follow_begun-worked.ensures.looked before nothing twice)
