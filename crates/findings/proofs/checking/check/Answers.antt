use Rattle.findings.proofs.checking.check.Goals as goal

pub returns-in-Ok-see-clause-shown : goal.returns-in-Ok-see-clause-shown
returns-in-Ok-see-clause-shown g c = λ shown. record {
  settings = c.in-Ok.settings;
  named = c.in-Ok.ensures.named;
  seen = c.in-Ok-see.seen;
  sees = c.in-Ok-see.ensures.sees;
  prints = rw c.in-Ok.ensures.nothing_told at (c.tell.ensures.shown shown);
}
