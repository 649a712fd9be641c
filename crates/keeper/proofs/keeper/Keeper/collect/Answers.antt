use Rattle.std.specs.Bool.{OnTrue}
use Rattle.std.proofs.Common.{Bool, true, false, ◌≡◌, ◌∙◌, ap, refl, arith}
use Rattle.settle_box.specs.Collector.{Collector}
use Rattle.keeper.proofs.Gathering.{gathers_more, gathers_none}
use Rattle.keeper.proofs.keeper.Keeper.collect.Goals as goal

on_true : {P : Type 0} (b : Bool) → b ≡ true → OnTrue b P → P
on_true true is p = p
on_true false is p = absurd (let q : false ≡ true = is in cc)

pub notes-init : goal.notes-init
notes-init g c = record {
  gathers = gathers_none c.note_held.new.self;
  none_held = c.in_ok-note_held.ensures.none_held;
  desk = refl;
  count = omega arith;
  within = omega arith;
  nothing = λ none. refl;
}

pub returns-in_err-collect_one-clause-gathers : goal.returns-in_err-collect_one-clause-gathers
returns-in_err-collect_one-clause-gathers g c =
    gathers_more c.args.self.now c.note_held.new.self c.collect_one.new.self c.note_held.ensures.gathers (gathers_more c.note_held.new.self c.notes.self c.collect_one.new.self c.notes.invariant.gathers c.collect_one.ensures.gathers)

pub returns-then-not-branch-clause-gathers : goal.returns-then-not-branch-clause-gathers
returns-then-not-branch-clause-gathers g c =
    gathers_more c.args.self.now c.note_held.new.self c.collect_one.new.self c.note_held.ensures.gathers (gathers_more c.note_held.new.self c.notes.self c.collect_one.new.self c.notes.invariant.gathers c.collect_one.ensures.gathers)

pub notes-preserved : goal.notes-preserved
notes-preserved g c =
    let one = on_true c.in_ok-collect_one.field-0 c.if-not-branch.false c.in_ok-collect_one.ensures.one in
    record {
      gathers = gathers_more c.note_held.new.self c.notes.self c.collect_one.new.self c.notes.invariant.gathers c.collect_one.ensures.gathers;
      none_held = c.in_ok-collect_one.ensures.none_held;
      desk = ap (λ (p : Collector). p.desk) c.collect_one.ensures.gathers.collects.pass ∙ c.notes.invariant.desk;
      count = omega (arith, one, c.notes.invariant.count);
      within = omega (arith, c.notes-test.true);
      nothing = λ none. absurd (omega (arith, none));
    }

pub returns-clause-gathers : goal.returns-clause-gathers
returns-clause-gathers g c = gathers_more c.args.self.now c.note_held.new.self c.notes.self c.note_held.ensures.gathers c.notes.invariant.gathers
