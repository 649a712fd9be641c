use Rattle.std.proofs.Common.{Result, Some, subst, sym, ◌∙◌}
use Rattle.run_steps.specs.Goes.{Goes, step_words, stop_at}
use Rattle.run_steps.specs.Questions.{questions_of}
use Rattle.run_steps.specs.RunState.{Leaving, Phase}
use Rattle.run_steps.specs.Worked.{phase_begun, phase_worked}
use Rattle.run_steps.specs.declared.begin_error.BeginError.{BeginError}
use Rattle.run_steps.specs.declared.beginning.BegunFiles.{BegunFiles}
use Rattle.run_steps.proofs.GoesOn.{goes_by_nothing}
use Rattle.run_steps.proofs.Questions.{asks_nothing}
use Rattle.run_steps.proofs.Whole.{all_begun_where_told, none_told, not_stopped_so}
use Rattle.run_steps.proofs.working.follow_begun.Goals as goal

pub returns-in-Err-clause-goes : goal.returns-in-Err-clause-goes
returns-in-Err-clause-goes g c =
    let at = λ (phase : Phase). stop_at phase c.args.crew.now c.args.storing.now c.args.system.now in
    subst (λ (b : Result BegunFiles BeginError). Goes (step_words g.F.Folder g.F.Tail.Tail g.L.Link g.W.Wire g.D.Disk g.K.Clock g.B.Bell) c.args.context (Some c.from.result) (at (phase_begun b)) (at (phase_worked b c.from.result)))
    (sym c.in-Err.is) (goes_by_nothing (Some c.from.result) (at Leaving) c.requires.ready)

pub returns-in-Err-clause-asks : goal.returns-in-Err-clause-asks
returns-in-Err-clause-asks g c = asks_nothing 1 (questions_of g.K.Clock g.B.Bell c.args.system.now.clock.now c.args.system.now.bell.now)

pub returns-in-Ok-clause-told_only_where_begun : goal.returns-in-Ok-clause-told_only_where_begun
returns-in-Ok-clause-told_only_where_begun g c = all_begun_where_told c.args.begun c.in-Ok.files c.store_and_follow.result c.in-Ok.is c.store_and_follow.ensures.none_failed

pub returns-in-Err-clause-told_only_where_begun : goal.returns-in-Err-clause-told_only_where_begun
returns-in-Err-clause-told_only_where_begun g c = none_told c.args.begun c.in-Err.error c.from.result c.in-Err.is c.from.ensures

pub returns-in-Err-clause-looked : goal.returns-in-Err-clause-looked
returns-in-Err-clause-looked g c stopped = absurd (not_stopped_so c.in-Err.error (sym c.from.ensures ∙ stopped))
