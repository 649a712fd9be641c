use Rattle.prospect.proofs.AskedFiles.{answered_in, faultless, faulty}
use Rattle.prospect.proofs.asking.ask.Goals as goal

pub returns-in-Ok-Some-clause-told : goal.returns-in-Ok-Some-clause-told
returns-in-Ok-Some-clause-told g c =
    answered_in g.F.Tail.Tail.told g.F.Tail.Tail.numbers c.args.rule.now c.args.one.now _ _ _ _ _ c.open.result c.in-Ok-Some.field-0 c.in-Ok-Some.tail c.in-Ok-Some.is c.in-Ok-Some.field-0-is
    c.open.ensures.told (rw c.in-Fingerprint.is tt) c.opened_key-key.result (g.F.Tail.Tail.faults c.opened_key-key.new.tail)
    (record {
      left = g.F.Tail.Tail.told c.opened_key-key.new.tail;
      asked = c.opened_key-key.ensures.asked;
      faultless = faultless g.F.Tail.Tail.faults c.open.result c.in-Ok-Some.field-0 c.in-Ok-Some.tail c.in-Ok-Some.is c.in-Ok-Some.field-0-is c.open.ensures.starts_without_faults
          _ _ _ c.opened_key-key.ensures.faults_told_only_by_failures;
      faulty = faulty g.F.Tail.Tail.faults c.open.result c.in-Ok-Some.field-0 c.in-Ok-Some.tail c.in-Ok-Some.is c.in-Ok-Some.field-0-is c.open.ensures.starts_without_faults
          _ _ c.opened_key-key.ensures.read_fault_only_where_faults_rose;
      closed = c.close.ensures.told;
    })
    c.answer.result c.answer.ensures
