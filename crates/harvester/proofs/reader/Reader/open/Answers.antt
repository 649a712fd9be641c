use Rattle.std.proofs.Common.{[], refl}
use Rattle.harvester.specs.History.{opened, rules_in}
use Rattle.harvester.specs.Gathered.{none_gathered}
use Rattle.harvester.proofs.Lasting.{opens}
use Rattle.harvester.proofs.Standings.{opened_stands}
use Rattle.harvester.proofs.reader.Reader.open.Goals as goal

pub invariant_of-result : goal.invariant_of-result
invariant_of-result c = record {
  history = opened c.args.rule.now [] c.args.begin [] c.args.now.0;
  of = none_gathered;
  holds = opened_stands c.args.rule.now [] c.args.begin [] c.args.now _ c.requires.readable c.requires.place c.requires.moment refl refl
      c.in_ok-copy.ensures refl refl refl refl c.new-2.ensures refl refl refl refl refl c.in_ok-new.ensures.last_line
      (c.in_ok-new.ensures.gathered (rules_in (opened c.args.rule.now [] c.args.begin [] c.args.now.0)) refl refl);
}

pub returns : goal.returns
returns c = λ processors before.
    opens c.args.rule.now processors c.args.begin before c.args.now _ c.requires.readable c.requires.place c.requires.moment refl refl
    c.in_ok-copy.ensures refl refl refl refl c.new-2.ensures refl refl refl refl refl c.in_ok-new.ensures.last_line
    (c.in_ok-new.ensures.gathered (rules_in (opened c.args.rule.now processors c.args.begin before c.args.now.0)) refl refl)
