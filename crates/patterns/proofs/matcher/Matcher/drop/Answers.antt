use Rattle.patterns.proofs.matcher.Matcher.drop.Goals as goal

pub invariant_of-program : goal.invariant_of-program
invariant_of-program c =
    record {
      implements = c.args.self.program.implements;
      suits = c.args.self.program.suits;
      signed = c.args.self.program.signed;
      starts = c.args.self.program.starts;
      ends = c.args.self.program.ends;
      no_shorter = c.args.self.program.no_shorter;
      no_longer = c.args.self.program.no_longer;
    }
