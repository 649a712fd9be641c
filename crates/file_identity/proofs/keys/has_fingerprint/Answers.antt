use Rattle.file_identity.proofs.Compared.{whole_compared, whole_has}
use Rattle.file_identity.proofs.keys.has_fingerprint.Goals as goal

pub returns-in-Whole-clause-has : goal.returns-in-Whole-clause-has
returns-in-Whole-clause-has g c =
    let printed = rw c.in-Whole.is at c.in_ok-digest.ensures.printed in
    λ is. whole_has c.args.input.now c.args.offset c.args.length _ _ c.in-Whole.digest c.args.key.now c.is_key_of_digest.result printed c.is_key_of_digest.ensures cc

pub returns-in-Whole-clause-asked : goal.returns-in-Whole-clause-asked
returns-in-Whole-clause-asked g c =
    let printed = rw c.in-Whole.is at c.in_ok-digest.ensures.printed in
    whole_compared c.args.input.now _ c.args.offset c.args.length _ _ c.in-Whole.digest c.args.key.now c.is_key_of_digest.result printed c.is_key_of_digest.ensures
