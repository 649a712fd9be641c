use Rattle.std.proofs.Common.{Result, Bool, IfErr, IfOk, None, Some, subst, sym, refl, ◌≡◌, ◌⊎◌, true, false}
use Rattle.std.specs.Vec.{with_items}
use Rattle.rounds.specs.Crewed.{lanings}
use Rattle.rounds.specs.Crewing.{crewing}
use Rattle.rounds.specs.WordsOf.{disks_of, tails_of}
use Rattle.run_steps.specs.FolderSeen.{seen_in}
use Rattle.run_steps.specs.Goes.{Goes, step_words, stop_at}
use Rattle.run_steps.specs.Looking.{LooksInRound}
use Rattle.run_steps.specs.Met.{IsTelling}
use Rattle.run_steps.specs.MetBy.{HasMetFault, IsEndedBy, IsEndedRound, IsMetBy, phase_met, phase_reading}
use Rattle.run_steps.specs.declared.met.Met.{Met}
use Rattle.run_steps.proofs.Letting.{failed_in}
use Rattle.run_steps.proofs.ReadOn.{ends_so, found_so, goes_on_so, if_some, looks_so, met_so, read_untold, round_so}
use Rattle.run_steps.proofs.reading.read_on.Goals as goal

pub returns-clause-goes_on : goal.returns-clause-goes_on
returns-clause-goes_on g c =
    let one = c.make_round-met.new.crew in
    let system = c.make_round-met.new.system in
    let folder = record system.folder { now = c.close_failed-failed.new.folder } in
    let lanes = with_items one.lanes c.close_failed-failed.new.lanes in
    let closes = failed_in (tails_of g.F.Tail.Tail) c.close_failed-failed.result (seen_in g.F.Folder system.folder.now) (seen_in g.F.Folder c.close_failed-failed.new.folder) one.lanes
    c.as_mut_slice.result.now c.close_failed-failed.new.lanes c.as_mut_slice.ensures.value c.close_failed-failed.ensures in
    subst (λ (r : Result Bool Met). IfOk r (λ now. Goes (step_words g.F.Folder g.F.Tail.Tail g.L.Link g.W.Wire g.D.Disk g.K.Clock g.B.Bell) c.args.context None
    (stop_at (phase_reading c.args.faulty) c.args.crew.now c.args.storing.now c.args.system.now)
    (stop_at (phase_reading now) (record one { lanes = lanes }) c.make_round-met.new.storing (record system { folder = folder })))) (sym c.goes_on.ensures)
    (goes_on_so (step_words g.F.Folder g.F.Tail.Tail g.L.Link g.W.Wire g.D.Disk g.K.Clock g.B.Bell) c.args.context c.args.faulty c.close_failed-failed.result c.args.crew.now one c.args.storing.now c.make_round-met.new.storing c.args.system.now system folder lanes refl closes
    c.make_round-met.result c.make_round-met.ensures.goes)

pub returns-clause-ends : goal.returns-clause-ends
returns-clause-ends g c =
    let one = c.make_round-met.new.crew in
    let system = c.make_round-met.new.system in
    let folder = record system.folder { now = c.close_failed-failed.new.folder } in
    let lanes = with_items one.lanes c.close_failed-failed.new.lanes in
    let closes = failed_in (tails_of g.F.Tail.Tail) c.close_failed-failed.result (seen_in g.F.Folder system.folder.now) (seen_in g.F.Folder c.close_failed-failed.new.folder) one.lanes
    c.as_mut_slice.result.now c.close_failed-failed.new.lanes c.as_mut_slice.ensures.value c.close_failed-failed.ensures in
    subst (λ (r : Result Bool Met). IfErr r (λ met. Goes (step_words g.F.Folder g.F.Tail.Tail g.L.Link g.W.Wire g.D.Disk g.K.Clock g.B.Bell) c.args.context (Some met)
    (stop_at (phase_reading c.args.faulty) c.args.crew.now c.args.storing.now c.args.system.now)
    (stop_at (phase_met met) (record one { lanes = lanes }) c.make_round-met.new.storing (record system { folder = folder })))) (sym c.goes_on.ensures)
    (ends_so (step_words g.F.Folder g.F.Tail.Tail g.L.Link g.W.Wire g.D.Disk g.K.Clock g.B.Bell) c.args.context c.args.faulty c.close_failed-failed.result c.args.crew.now one c.args.storing.now c.make_round-met.new.storing c.args.system.now system folder lanes refl closes
    c.make_round-met.result c.make_round-met.ensures.goes)

pub returns-clause-found : goal.returns-clause-found
returns-clause-found g c =
    let one = c.make_round-met.new.crew in
    let system = c.make_round-met.new.system in
    let folder = record system.folder { now = c.close_failed-failed.new.folder } in
    let lanes = with_items one.lanes c.close_failed-failed.new.lanes in
    let closes = failed_in (tails_of g.F.Tail.Tail) c.close_failed-failed.result (seen_in g.F.Folder system.folder.now) (seen_in g.F.Folder c.close_failed-failed.new.folder) one.lanes
    c.as_mut_slice.result.now c.close_failed-failed.new.lanes c.as_mut_slice.ensures.value c.close_failed-failed.ensures in
    let since = g.F.Folder.faults c.args.system.now.folder.now in
    subst (λ (r : Result Bool Met). IfOk r (λ now. (c.args.faulty ≡ true → now ≡ true) ×
    (now ≡ true → (c.args.faulty ≡ true) ⊎ HasMetFault (tails_of g.F.Tail.Tail) since (g.F.Folder.faults c.close_failed-failed.new.folder) (lanings lanes.items)))) (sym c.goes_on.ensures)
    (found_so (step_words g.F.Folder g.F.Tail.Tail g.L.Link g.W.Wire g.D.Disk g.K.Clock g.B.Bell) c.args.context c.args.faulty c.close_failed-failed.result c.args.crew.now one c.args.storing.now c.make_round-met.new.storing c.args.system.now system folder lanes refl closes
    c.make_round-met.ensures.failed since (c.make_round-met.ensures.goes c.args.faulty).keeps.readers.faults_never_fall c.make_round-met.result)

pub returns-clause-met : goal.returns-clause-met
returns-clause-met g c =
    let one = c.make_round-met.new.crew in
    let system = c.make_round-met.new.system in
    let folder = record system.folder { now = c.close_failed-failed.new.folder } in
    let lanes = with_items one.lanes c.close_failed-failed.new.lanes in
    let closes = failed_in (tails_of g.F.Tail.Tail) c.close_failed-failed.result (seen_in g.F.Folder system.folder.now) (seen_in g.F.Folder c.close_failed-failed.new.folder) one.lanes
    c.as_mut_slice.result.now c.close_failed-failed.new.lanes c.as_mut_slice.ensures.value c.close_failed-failed.ensures in
    let since = g.F.Folder.faults c.args.system.now.folder.now in
    let attempts = c.args.context.settings.now.output.attempts in
    let a = c.args.storing.now.a.now in
    let b = c.args.storing.now.b.now in
    subst (λ (r : Result Bool Met). IfErr r (IsEndedBy (tails_of g.F.Tail.Tail) (disks_of g.D.Disk) attempts c.args.faulty
    (record { a = a; b = b; faults = since; later_faults = g.F.Folder.faults c.close_failed-failed.new.folder; now = crewing (record one { lanes = lanes }) c.make_round-met.new.storing })))
    (sym c.goes_on.ensures)
    (met_so (step_words g.F.Folder g.F.Tail.Tail g.L.Link g.W.Wire g.D.Disk g.K.Clock g.B.Bell) c.args.context c.args.faulty c.close_failed-failed.result c.args.crew.now one c.args.storing.now c.make_round-met.new.storing c.args.system.now system folder lanes refl closes
    c.make_round-met.ensures.failed since (c.make_round-met.ensures.goes c.args.faulty).keeps.readers.faults_never_fall attempts a b c.make_round-met.result c.make_round-met.ensures.no_fault
    (if_some (IsMetBy (tails_of g.F.Tail.Tail) (disks_of g.D.Disk) attempts
    (record { a = a; b = b; faults = since; later_faults = g.F.Folder.faults system.folder.now; now = crewing one c.make_round-met.new.storing })) c.make_round-met.result c.make_round-met.ensures.met))

pub returns-clause-ended : goal.returns-clause-ended
returns-clause-ended g c =
    let one = c.make_round-met.new.crew in
    let system = c.make_round-met.new.system in
    let folder = record system.folder { now = c.close_failed-failed.new.folder } in
    let lanes = with_items one.lanes c.close_failed-failed.new.lanes in
    let closes = failed_in (tails_of g.F.Tail.Tail) c.close_failed-failed.result (seen_in g.F.Folder system.folder.now) (seen_in g.F.Folder c.close_failed-failed.new.folder) one.lanes
    c.as_mut_slice.result.now c.close_failed-failed.new.lanes c.as_mut_slice.ensures.value c.close_failed-failed.ensures in
    let since = g.F.Folder.faults c.args.system.now.folder.now in
    let attempts = c.args.context.settings.now.output.attempts in
    let a = c.args.storing.now.a.now in
    let b = c.args.storing.now.b.now in
    subst (λ (r : Result Bool Met). IfErr r (IsEndedRound (tails_of g.F.Tail.Tail) (disks_of g.D.Disk) attempts
    (record { a = a; b = b; faults = since; later_faults = g.F.Folder.faults c.close_failed-failed.new.folder; now = crewing (record one { lanes = lanes }) c.make_round-met.new.storing })))
    (sym c.goes_on.ensures)
    (round_so (step_words g.F.Folder g.F.Tail.Tail g.L.Link g.W.Wire g.D.Disk g.K.Clock g.B.Bell) c.args.context c.args.faulty c.close_failed-failed.result c.args.crew.now one c.args.storing.now c.make_round-met.new.storing c.args.system.now system folder lanes refl closes
    c.make_round-met.ensures.failed since (c.make_round-met.ensures.goes c.args.faulty).keeps.readers.faults_never_fall attempts a b c.make_round-met.result c.make_round-met.ensures.no_fault
    (if_some (IsMetBy (tails_of g.F.Tail.Tail) (disks_of g.D.Disk) attempts
    (record { a = a; b = b; faults = since; later_faults = g.F.Folder.faults system.folder.now; now = crewing one c.make_round-met.new.storing })) c.make_round-met.result c.make_round-met.ensures.met))

pub returns-clause-none_failed : goal.returns-clause-none_failed
returns-clause-none_failed g c =
    subst (λ (r : Result Bool Met). IfErr r (λ met. IsTelling met → c.args.faulty ≡ false)) (sym c.goes_on.ensures)
    (read_untold c.args.faulty c.close_failed-failed.result c.make_round-met.result)

pub returns-clause-looks : goal.returns-clause-looks
returns-clause-looks g c =
    let one = c.make_round-met.new.crew in
    let system = c.make_round-met.new.system in
    let folder = record system.folder { now = c.close_failed-failed.new.folder } in
    let lanes = with_items one.lanes c.close_failed-failed.new.lanes in
    let closes = failed_in (tails_of g.F.Tail.Tail) c.close_failed-failed.result (seen_in g.F.Folder system.folder.now) (seen_in g.F.Folder c.close_failed-failed.new.folder) one.lanes
    c.as_mut_slice.result.now c.close_failed-failed.new.lanes c.as_mut_slice.ensures.value c.close_failed-failed.ensures in
    subst (λ (r : Result Bool Met). IfOk r (λ now. now ≡ false → LooksInRound (tails_of g.F.Tail.Tail) (lanings c.args.crew.now.lanes.items) (lanings lanes.items))) (sym c.goes_on.ensures)
    (looks_so (step_words g.F.Folder g.F.Tail.Tail g.L.Link g.W.Wire g.D.Disk g.K.Clock g.B.Bell) c.args.context c.args.faulty c.close_failed-failed.result c.args.crew.now one c.args.storing.now c.make_round-met.new.storing c.args.system.now system folder lanes refl closes
    c.make_round-met.result c.make_round-met.ensures.looks)
