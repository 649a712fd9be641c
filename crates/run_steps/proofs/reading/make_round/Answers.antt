use Rattle.std.proofs.Common.{inr, ℕ, ◌+◌, ◌≤◌, ◌||◌, false, List, Option, refl, sym, subst, ◌∙◌, arith}
use Rattle.lanes.specs.declared.run.When.{When}
use Rattle.outside.specs.Times.{GivesMoment}
use Rattle.rounds.specs.Crewed.{lanings}
use Rattle.rounds.specs.Crewing.{crewing}
use Rattle.rounds.specs.WordsOf.{words_of}
use Rattle.run_steps.specs.ClockOn.{MomentsGoOn}
use Rattle.run_steps.specs.ClosesTail.{some_failed}
use Rattle.run_steps.specs.FolderSeen.{seen_in}
use Rattle.run_steps.specs.MetBy.{phase_after, phase_following, phase_reading}
use Rattle.run_steps.specs.Questions.{count_given}
use Rattle.run_steps.specs.RunState.{Following}
use Rattle.run_steps.proofs.CarriersGoOn.{carriers_by_round}
use Rattle.run_steps.proofs.Clocks.{clock_by_moment}
use Rattle.run_steps.proofs.FailingRounds.{fail_by_round, none_failed_in}
use Rattle.run_steps.proofs.GoesOn.{keeps_at, none_failed_on}
use Rattle.run_steps.proofs.MetBy.{all_done_after, each_met, faults_stay, follows_after, never_fault, never_read_once, none_followed_after, none_out_after, none_refused_after, out_followed, reads_after, reads_before, reads_followed, round_failed, some_out_after, stored_well}
use Rattle.run_steps.proofs.Onward.{round_onward}
use Rattle.run_steps.proofs.Questions.{given_once}
use Rattle.run_steps.proofs.ReadersGo.{readers_stay}
use Rattle.run_steps.proofs.RoundLooks.{looks_met}
use Rattle.run_steps.proofs.reading.make_round.Goals as goal

pub met_in-met-requires : goal.met_in-met-requires
met_in-met-requires g c = record { few = let many = c.round-round.ensures.keeps.as_many.carriers in let few = c.requires.few in omega (arith, many, few) }

pub returns-clause-met : goal.returns-clause-met
returns-clause-met g c =
    each_met (words_of g.F.Tail.Tail g.L.Link g.W.Wire g.D.Disk) c.args.context.outlets.queue.now c.args.context.outlets.desk.now (record { now = c.now-now.result; last = c.args.context.once })
    (crewing c.args.crew.now c.args.storing.now) (crewing c.round-round.new.self c.round-round.new.storing) c.round-round.result c.requires.ready c.round-round.ensures.keeps
    c.args.context.once c.args.context.settings.now.output.attempts (g.F.Folder.faults c.args.system.now.folder.now) (g.F.Folder.faults c.args.system.now.folder.now) c.met_in-met.result c.met_in-met.ensures

pub returns-clause-no_fault : goal.returns-clause-no_fault
returns-clause-no_fault g c =
    never_fault (words_of g.F.Tail.Tail g.L.Link g.W.Wire g.D.Disk) c.args.context.outlets.queue.now c.args.context.outlets.desk.now (record { now = c.now-now.result; last = c.args.context.once })
    (crewing c.args.crew.now c.args.storing.now) (crewing c.round-round.new.self c.round-round.new.storing) c.round-round.result c.requires.ready c.round-round.ensures.keeps
    c.args.context.once c.args.context.settings.now.output.attempts c.met_in-met.result c.met_in-met.ensures

pub returns-clause-failed : goal.returns-clause-failed
returns-clause-failed g c =
    round_failed (words_of g.F.Tail.Tail g.L.Link g.W.Wire g.D.Disk) c.args.context.outlets.queue.now c.args.context.outlets.desk.now (record { now = c.now-now.result; last = c.args.context.once })
    (crewing c.args.crew.now c.args.storing.now) (crewing c.round-round.new.self c.round-round.new.storing) c.round-round.result c.requires.ready c.round-round.ensures.keeps
    c.args.context.once c.args.context.settings.now.output.attempts

pub returns-clause-goes : goal.returns-clause-goes
returns-clause-goes g c faulty =
    let all = words_of g.F.Tail.Tail g.L.Link g.W.Wire g.D.Disk in
    let queue = c.args.context.outlets.queue.now in
    let desk = c.args.context.outlets.desk.now in
    let once = c.args.context.once in
    let attempts = c.args.context.settings.now.output.attempts in
    let when : When = record { now = c.now-now.result; last = c.args.context.once } in
    let old = crewing c.args.crew.now c.args.storing.now in
    let new = crewing c.round-round.new.self c.round-round.new.storing in
    let round = c.round-round.result in
    let met = c.met_in-met.result in
    let before = g.K.Clock.moments c.args.system.now.clock.now in
    let after = g.K.Clock.moments c.pause_where_still.new.clock in
    let keeps = c.round-round.ensures.keeps in
    let given : GivesMoment before c.now-now.result.0 after =
    subst (λ (o : Option (List ℕ)). GivesMoment before c.now-now.result.0 o) (sym c.pause_where_still.ensures.moments_kept) c.now-now.ensures.told in
    let late = some_failed (lanings c.round-round.new.self.lanes.items) in
    let well = stored_well all queue desk when old new round c.requires.ready keeps once attempts met c.met_in-met.ensures in
    record {
      keeps = record {
        at_rest = λ goes rest. let is = well goes in
            let after = keeps.at_rest is.0 is.1 (record { settled = rest.settled; committed = rest.committed }) in
            record { settled = after.settled; committed = after.committed };
        ready = λ goes. let is = well goes in keeps.ready is.0 is.1;
        able = keeps.able;
        failing = fail_by_round all queue desk when old new round c.round-round.ensures.rounds attempts before after given;
        none_failed = none_failed_on attempts c.args.crew.now.carriers.items c.round-round.new.self.carriers.items met
            (none_failed_in once attempts c.round-round.new.self c.round-round.new.storing.keeper.now round met c.met_in-met.ensures);
        carriers_go_on = carriers_by_round all queue desk when old new round c.round-round.ensures.rounds;
        as_many = keeps.as_many;
        a_faults_never_fall = keeps.causes.a_faults;
        b_faults_never_fall = keeps.causes.b_faults;
        rings_never_fall = omega arith;
        clock_goes_on = subst (MomentsGoOn before) (sym c.pause_where_still.ensures.moments_kept)
            (clock_by_moment before c.now-now.result.0 (g.K.Clock.moments c.now-now.new.self) c.now-now.ensures.told);
        keeper = keeps.collects;
        same_objects = keeps.same_objects;
        still_tell = keeps.still_tell;
        readers = readers_stay all.tails (seen_in g.F.Folder c.args.system.now.folder.now) (lanings c.args.crew.now.lanes.items) (lanings c.round-round.new.self.lanes.items) keeps.slots
            (faults_stay all queue desk when old new round c.requires.ready keeps once attempts);
        same_folder = refl;
        same_clock = refl;
        same_bell = refl;
      };
      onward = round_onward all c.disk_images_are_counted.ensures.reads c.disk_images_are_counted.ensures.counts queue desk c.args.crew.now c.round-round.new.self
          c.args.storing.now c.round-round.new.storing round (g.F.Folder.told c.args.system.now.folder.now) c.args.context.settings.now when before after (phase_reading faulty) (phase_after (faulty || late) met) given c.round-round.ensures.rounds keeps
          (reads_before all queue desk when old new round c.requires.ready keeps once attempts faulty late met)
          (none_out_after all queue desk when old new round c.requires.ready keeps once attempts (faulty || late) met c.met_in-met.ensures)
          (all_done_after all queue desk when old new round c.requires.ready keeps once attempts (faulty || late) met c.met_in-met.ensures)
          (some_out_after all queue desk when old new round c.requires.ready keeps once attempts (faulty || late) met c.met_in-met.ensures)
          (reads_after all queue desk when old new round c.requires.ready keeps once attempts (faulty || late) met c.met_in-met.ensures)
          (λ follows. absurd (none_followed_after all queue desk when old new round c.requires.ready keeps once attempts (faulty || late) met follows))
          (none_refused_after all queue desk when old new round c.requires.ready keeps once attempts faulty late met c.met_in-met.ensures);
    }

pub returns-clause-none_failed : goal.returns-clause-none_failed
returns-clause-none_failed g c =
    none_failed_in c.args.context.once c.args.context.settings.now.output.attempts c.round-round.new.self c.round-round.new.storing.keeper.now c.round-round.result c.met_in-met.result c.met_in-met.ensures

pub returns-clause-looks : goal.returns-clause-looks
returns-clause-looks g c =
    looks_met (words_of g.F.Tail.Tail g.L.Link g.W.Wire g.D.Disk) c.args.context.outlets.queue.now c.args.context.outlets.desk.now (record { now = c.now-now.result; last = c.args.context.once })
    (crewing c.args.crew.now c.args.storing.now) (crewing c.round-round.new.self c.round-round.new.storing) c.round-round.result c.requires.ready c.round-round.ensures.keeps c.round-round.ensures.rounds
    c.args.context.once c.args.context.settings.now.output.attempts c.met_in-met.result c.met_in-met.ensures

pub returns-clause-gives_one_moment : goal.returns-clause-gives_one_moment
returns-clause-gives_one_moment g c =
    let before = g.K.Clock.moments c.args.system.now.clock.now in
    subst (λ (o : Option (List ℕ)). count_given o ≤ count_given before + 1) (sym c.pause_where_still.ensures.moments_kept)
    (given_once before c.now-now.result.0 (g.K.Clock.moments c.now-now.new.self) c.now-now.ensures.told)

pub returns-clause-asks_the_clock : goal.returns-clause-asks_the_clock
returns-clause-asks_the_clock g c = c.pause_where_still.ensures.not_asked ∙ c.now-now.ensures.asked

pub returns-clause-follows : goal.returns-clause-follows
returns-clause-follows g c =
    let all = words_of g.F.Tail.Tail g.L.Link g.W.Wire g.D.Disk in
    let queue = c.args.context.outlets.queue.now in
    let desk = c.args.context.outlets.desk.now in
    let once = c.args.context.once in
    let attempts = c.args.context.settings.now.output.attempts in
    let when : When = record { now = c.now-now.result; last = c.args.context.once } in
    let old = crewing c.args.crew.now c.args.storing.now in
    let new = crewing c.round-round.new.self c.round-round.new.storing in
    let round = c.round-round.result in
    let met = c.met_in-met.result in
    let is_met = c.met_in-met.ensures in
    let before = g.K.Clock.moments c.args.system.now.clock.now in
    let after = g.K.Clock.moments c.pause_where_still.new.clock in
    let keeps = c.round-round.ensures.keeps in
    let ready = c.requires.ready in
    let given : GivesMoment before c.now-now.result.0 after =
    subst (λ (o : Option (List ℕ)). GivesMoment before c.now-now.result.0 o) (sym c.pause_where_still.ensures.moments_kept) c.now-now.ensures.told in
    record {
      keeps = keeps_at Following (phase_following met) (returns-clause-goes g c false).keeps;
      onward = round_onward all c.disk_images_are_counted.ensures.reads c.disk_images_are_counted.ensures.counts queue desk c.args.crew.now c.round-round.new.self
          c.args.storing.now c.round-round.new.storing round (g.F.Folder.told c.args.system.now.folder.now) c.args.context.settings.now when before after Following (phase_following met) given
          c.round-round.ensures.rounds keeps
          (λ is. absurd (never_read_once met is)) (λ is. absurd (never_read_once met is)) (λ is. absurd (never_read_once met (inr is)))
          (out_followed all queue desk when old new round ready keeps once attempts met is_met)
          (reads_followed all queue desk when old new round ready keeps once attempts met is_met)
          (follows_after all queue desk when old new round ready keeps once attempts met is_met)
          (λ is. absurd (never_read_once met is));
    }
