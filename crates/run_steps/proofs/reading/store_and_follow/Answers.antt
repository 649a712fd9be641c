use Rattle.std.proofs.Common.{arith, inl, inr, ⊎_elim}
use Rattle.rounds.specs.Crewed.{lanings}
use Rattle.rounds.specs.Crewing.{crewing}
use Rattle.rounds.specs.WordsOf.{tails_of, words_of}
use Rattle.run_steps.specs.Goes.{step_words}
use Rattle.run_steps.specs.MetBy.{since_of}
use Rattle.run_steps.specs.Questions.{questions_of}
use Rattle.run_steps.proofs.FollowLooks.{looks_from}
use Rattle.run_steps.proofs.GoesOn.{goes_by_two}
use Rattle.run_steps.proofs.MetBy.{ended_since, round_since}
use Rattle.run_steps.proofs.Questions.{asks_nothing}
use Rattle.run_steps.proofs.StoresFirst.{goes_met, goes_stored, met_by_storing, none_told, not_stopped, round_by_storing}
use Rattle.run_steps.proofs.reading.store_and_follow.Goals as goal

pub returns-in-Some-clause-goes : goal.returns-in-Some-clause-goes
returns-in-Some-clause-goes g c =
    goes_met (step_words g.F.Folder g.F.Tail.Tail g.L.Link g.W.Wire g.D.Disk g.K.Clock g.B.Bell) c.args.context c.args.system.now c.args.crew.now c.store_all.new.crew
    c.args.storing.now c.store_all.new.storing c.args.faulty c.in-Some.met c.in-Some.ensures

pub returns-in-Some-clause-met : goal.returns-in-Some-clause-met
returns-in-Some-clause-met g c = λ other.
    met_by_storing (step_words g.F.Folder g.F.Tail.Tail g.L.Link g.W.Wire g.D.Disk g.K.Clock g.B.Bell) c.args.context c.args.system.now c.args.crew.now c.store_all.new.crew
    c.args.storing.now c.store_all.new.storing c.in-Some.met c.args.faulty (g.F.Folder.faults c.args.system.now.folder.now) (g.F.Folder.faults c.args.system.now.folder.now) c.in-Some.ensures.by

pub returns-in-Some-clause-stopped : goal.returns-in-Some-clause-stopped
returns-in-Some-clause-stopped g c is =
    absurd (not_stopped (step_words g.F.Folder g.F.Tail.Tail g.L.Link g.W.Wire g.D.Disk g.K.Clock g.B.Bell) c.args.context c.args.system.now c.args.crew.now c.store_all.new.crew
    c.args.storing.now c.store_all.new.storing c.in-Some.met c.in-Some.ensures.by is)

pub returns-in-None-clause-goes : goal.returns-in-None-clause-goes
returns-in-None-clause-goes g c =
    goes_by_two (goes_stored (step_words g.F.Folder g.F.Tail.Tail g.L.Link g.W.Wire g.D.Disk g.K.Clock g.B.Bell) c.args.context c.args.system.now c.args.crew.now c.store_all.new.crew
    c.args.storing.now c.store_all.new.storing c.args.faulty c.in-None.ensures) c.follow_all.ensures.goes

pub returns-in-None-clause-met : goal.returns-in-None-clause-met
returns-in-None-clause-met g c other =
    let since = since_of g.F.Folder c.store_all.new.storing c.args.system.now (crewing c.follow_all.new.crew c.follow_all.new.storing) c.follow_all.new.system in
    ended_since (words_of g.F.Tail.Tail g.L.Link g.W.Wire g.D.Disk) c.args.context.settings.now.output.attempts c.args.storing.now.a.now c.args.storing.now.b.now
    since.faults since c.in-None.ensures.hands_on.a_faults_never_fall c.in-None.ensures.hands_on.b_faults_never_fall (omega arith)
    c.args.faulty c.args.faulty c.follow_all.result (λ is. inl is) (c.follow_all.ensures.met other)

pub returns-in-Some-clause-asks : goal.returns-in-Some-clause-asks
returns-in-Some-clause-asks g c = asks_nothing 1 (questions_of g.K.Clock g.B.Bell c.args.system.now.clock.now c.args.system.now.bell.now)

pub returns-in-Some-clause-ended : goal.returns-in-Some-clause-ended
returns-in-Some-clause-ended g c = inr (round_by_storing (step_words g.F.Folder g.F.Tail.Tail g.L.Link g.W.Wire g.D.Disk g.K.Clock g.B.Bell) c.args.context c.args.system.now c.args.crew.now c.store_all.new.crew
    c.args.storing.now c.store_all.new.storing c.in-Some.met (g.F.Folder.faults c.args.system.now.folder.now) (g.F.Folder.faults c.args.system.now.folder.now) c.in-Some.ensures.by)

pub returns-in-None-clause-ended : goal.returns-in-None-clause-ended
returns-in-None-clause-ended g c =
    let since = since_of g.F.Folder c.store_all.new.storing c.args.system.now (crewing c.follow_all.new.crew c.follow_all.new.storing) c.follow_all.new.system in
    ⊎_elim (λ stopped. inl stopped)
    (λ round. inr (round_since (words_of g.F.Tail.Tail g.L.Link g.W.Wire g.D.Disk) c.args.context.settings.now.output.attempts c.args.storing.now.a.now c.args.storing.now.b.now
    since.faults since c.in-None.ensures.hands_on.a_faults_never_fall c.in-None.ensures.hands_on.b_faults_never_fall (omega arith) c.follow_all.result round)) c.follow_all.ensures.ended

pub returns-in-Some-clause-none_failed : goal.returns-in-Some-clause-none_failed
returns-in-Some-clause-none_failed g c telling =
    absurd (none_told (step_words g.F.Folder g.F.Tail.Tail g.L.Link g.W.Wire g.D.Disk g.K.Clock g.B.Bell) c.args.context c.args.system.now c.args.crew.now c.store_all.new.crew
    c.args.storing.now c.store_all.new.storing c.in-Some.met c.in-Some.ensures.by telling)

pub returns-in-Some-clause-looked : goal.returns-in-Some-clause-looked
returns-in-Some-clause-looked g c is =
    absurd (not_stopped (step_words g.F.Folder g.F.Tail.Tail g.L.Link g.W.Wire g.D.Disk g.K.Clock g.B.Bell) c.args.context c.args.system.now c.args.crew.now c.store_all.new.crew
    c.args.storing.now c.store_all.new.storing c.in-Some.met c.in-Some.ensures.by is)

pub returns-in-None-clause-looked : goal.returns-in-None-clause-looked
returns-in-None-clause-looked g c stopped nothing twice =
    looks_from (tails_of g.F.Tail.Tail) (lanings c.args.crew.now.lanes.items) (lanings c.store_all.new.crew.lanes.items) (lanings c.follow_all.new.crew.lanes.items) c.in-None.ensures.hands_on.slots
    (c.follow_all.ensures.looked stopped (c.in-None.ensures.hands_on.hold_nothing nothing) twice)
