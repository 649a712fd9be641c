use Rattle.std.proofs.Common.{◌∙◌, Ok, Err, IfSome, ap, subst}
use Rattle.std.proofs.lemmas.Result.{err_from_is_err_and}
use Rattle.harvester.specs.Asked.{WasAsked}
use Rattle.harvester.specs.Held.{Held}
use Rattle.harvester.proofs.Unanswered.{compared, cut_short}
use Rattle.harvester.proofs.asking.ask.Goals as goal

pub returns-in_err-has_fingerprint-clause-asked : goal.returns-in_err-has_fingerprint-clause-asked
returns-in_err-has_fingerprint-clause-asked g c =
    let p = err_from_is_err_and c.from_residual.result c.from_residual.ensures.1 in
    subst (λ (held : Held). IfSome (g.T.Tail.told c.args.tail.now)
    (λ before. WasAsked held (g.T.Tail.numbers c.args.tail.now) before c.from_residual.result (g.T.Tail.told c.has_fingerprint.new.tail))) c.reader.view_is
    (cut_short _ c.in-Fingerprint.offset c.in-Fingerprint.length c.in-Fingerprint.is _ _ _ _ c.from_residual.result
    (p.1 ∙ ap Err p.2) c.in_err-has_fingerprint.ensures.asked)

pub returns-in-Fingerprint-clause-asked : goal.returns-in-Fingerprint-clause-asked
returns-in-Fingerprint-clause-asked g c =
    subst (λ (held : Held). IfSome (g.T.Tail.told c.args.tail.now)
    (λ before. WasAsked held (g.T.Tail.numbers c.args.tail.now) before (Ok c.in_ok-has_fingerprint.field-0) (g.T.Tail.told c.has_fingerprint.new.tail))) c.reader.view_is
    (compared _ c.in-Fingerprint.offset c.in-Fingerprint.length c.in-Fingerprint.is _ _ _ c.in_ok-has_fingerprint.field-0
    c.in_ok-has_fingerprint.ensures.asked)
