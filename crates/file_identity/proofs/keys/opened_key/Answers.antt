use Rattle.std.proofs.lemmas.Result.{err_from_is_err_and}
use Rattle.file_identity.proofs.Answered.{whole_answer, whole_asked, whole_refused}
use Rattle.file_identity.proofs.keys.opened_key.Goals as goal

pub returns-in_err-key_of_digest-in-Whole-clause-asked : goal.returns-in_err-key_of_digest-in-Whole-clause-asked
returns-in_err-key_of_digest-in-Whole-clause-asked g c =
    let p = err_from_is_err_and c.from_residual-in_err-key_of_digest-in-Whole.result c.from_residual-in_err-key_of_digest-in-Whole.ensures.1 in
    let printed = rw c.in-Whole.is at c.in_ok-digest-in-Fingerprint.ensures.printed in
    rw (c.in-Fingerprint.is, p.1, p.2) (whole_refused _ _ _ _ _ _ _ c.in-Whole.digest printed)

pub returns-in_ok-key_of_digest-in-Whole-clause-answer : goal.returns-in_ok-key_of_digest-in-Whole-clause-answer
returns-in_ok-key_of_digest-in-Whole-clause-answer g c =
    let printed = rw c.in-Whole.is at c.in_ok-digest-in-Fingerprint.ensures.printed in
    rw c.in-Fingerprint.is (whole_answer _ c.args.path.now (g.T.Tail.numbers c.args.tail.now) c.in-Fingerprint.offset c.in-Fingerprint.length _ _ c.in-Whole.digest _ printed c.in_ok-key_of_digest-in-Whole.ensures)

pub returns-in_ok-key_of_digest-in-Whole-clause-asked : goal.returns-in_ok-key_of_digest-in-Whole-clause-asked
returns-in_ok-key_of_digest-in-Whole-clause-asked g c =
    let printed = rw c.in-Whole.is at c.in_ok-digest-in-Fingerprint.ensures.printed in
    rw c.in-Fingerprint.is (whole_asked _ c.args.path.now (g.T.Tail.numbers c.args.tail.now) c.in-Fingerprint.offset c.in-Fingerprint.length _ _ c.in-Whole.digest _ printed c.in_ok-key_of_digest-in-Whole.ensures)
