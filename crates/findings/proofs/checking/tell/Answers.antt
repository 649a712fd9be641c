use Rattle.findings.proofs.checking.tell.Goals as goal

pub returns-in-Ok-write_all-clause-shown : goal.returns-in-Ok-write_all-clause-shown
returns-in-Ok-write_all-clause-shown g c = λ shown. record {
  ending_is = rw (c.deref-in-Ok-write_all-2.ensures.value, c.in-Ok.ensures) at c.ending_of.ensures;
  page = rw (c.deref-4.ensures.value, c.in-Ok-page_of.ensures, c.deref.ensures.value, c.deref-2.ensures.value, c.in-Ok.ensures) at c.in-Ok-write_all.ensures.told;
  answer = c.write_all-in-Ok-write_all.result;
  reasons = rw (c.deref-in-Ok-write_all.ensures.value, c.in-Ok-reasons_of.ensures, c.deref-3.ensures.value, c.in-Ok.ensures) at c.write_all-in-Ok-write_all.ensures.told;
}
