use Rattle.std.proofs.Common.{◌∙◌, List, sym, subst, take, arith}
use Rattle.std.proofs.lemmas.List.{take_all}
use Rattle.keeper.specs.Keeping.{Keeping}
use Rattle.prospect.specs.declared.listed.Listed.{Listed}
use Rattle.run_steps.specs.Telling.{TellMoments, TellSomeMoments, TellsMoment, moment_noted}
use Rattle.run_steps.proofs.Moments.{rows_told, tell_on, told_as}
use Rattle.run_steps.proofs.telling.tell_moments.Goals as goal
use Rattle.harvester.proofs.Standings.{on_err}

pub returns-in_err-tell_moment-clause-some_told : goal.returns-in_err-tell_moment-clause-some_told
returns-in_err-tell_moment-clause-some_told c =
    on_err c.from_residual.result (TellSomeMoments c.args.keeper.now.store.rows c.args.listed.now c.args.keeper.now c.tell_moment.new.keeper) (record {
      count = c.files.slot;
      tell = subst (λ (k : Keeping). TellMoments c.args.keeper.now.store.rows 0 (take c.files.slot c.args.listed.now) c.args.keeper.now k) (sym c.in_err-tell_moment.ensures.kept) c.files.invariant.told;
    })

pub files-preserved : goal.files-preserved
files-preserved c = record {
  within = omega (arith, c.files-test.true);
  told = tell_on c.args.keeper.now.store.rows c.args.listed.now c.files.slot c.index-listed-slot.result c.args.keeper.now c.files.keeper c.tell_moment.new.keeper c.files-test.true c.files.invariant.told
      (subst (λ (l : Listed). TellsMoment (record { 0 = c.files.slot }) (moment_noted c.args.keeper.now.store.rows l) c.files.keeper c.tell_moment.new.keeper) c.index-listed-slot.is
      (told_as c.args.keeper.now.store.rows c.files.keeper.store.rows c.index-listed-slot.result (record { 0 = c.files.slot }) c.files.keeper c.tell_moment.new.keeper c.files.invariant.rows c.in_ok-tell_moment.ensures.told));
  rows = rows_told (record { 0 = c.files.slot }) (moment_noted c.files.keeper.store.rows c.index-listed-slot.result) c.files.keeper c.tell_moment.new.keeper c.in_ok-tell_moment.ensures.told ∙ c.files.invariant.rows;
}

pub returns-clause-told : goal.returns-clause-told
returns-clause-told c = subst (λ (l : List Listed). TellMoments c.args.keeper.now.store.rows 0 l c.args.keeper.now c.files.keeper) (take_all c.files.slot c.args.listed.now (omega (arith, c.files-test.false))) c.files.invariant.told
