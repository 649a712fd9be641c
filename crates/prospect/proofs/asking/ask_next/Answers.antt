use Rattle.std.proofs.Common.{length, refl}
use Rattle.std.proofs.lemmas.Option.{slice_get_read}
use Rattle.prospect.proofs.AskedFiles.{asked_next, kept_next, not_asked_next, not_put_next}
use Rattle.prospect.proofs.Unfinished.{on_err}
use Rattle.prospect.proofs.asking.ask_next.Goals as goal

pub returns-in_err-asked-clause-ended : goal.returns-in_err-asked-clause-ended
returns-in_err-asked-clause-ended g c =
    let inputs = c.args.inputs.now in
    on_err _ _
    (not_asked_next inputs c.args.one c.index-inputs-one.result (slice_get_read inputs (length inputs) c.args.one.input c.index-inputs-one.result refl c.requires.of_inputs c.index-inputs-one.is)
    _ _ c.ask.result _ c.in_err-asked.was c.ask.ensures.told)

pub returns-in-Ok-clause-asked : goal.returns-in-Ok-clause-asked
returns-in-Ok-clause-asked g c =
    let inputs = c.args.inputs.now in
    asked_next inputs c.args.one c.index-inputs-one.result (slice_get_read inputs (length inputs) c.args.one.input c.index-inputs-one.result refl c.requires.of_inputs c.index-inputs-one.is)
    _ _ c.ask.result c.in_ok-asked.asked c.in_ok-asked.was c.ask.ensures.told _ _ c.in-Ok.ensures

pub returns-in-Ok-clause-keeps : goal.returns-in-Ok-clause-keeps
returns-in-Ok-clause-keeps g c =
    let inputs = c.args.inputs.now in
    kept_next inputs c.args.one c.index-inputs-one.result (slice_get_read inputs (length inputs) c.args.one.input c.index-inputs-one.result refl c.requires.of_inputs c.index-inputs-one.is)
    c.in_ok-asked.asked c.in_ok-asked.ensures.answer _ _ c.in-Ok.ensures

pub returns-in-Err-clause-ended : goal.returns-in-Err-clause-ended
returns-in-Err-clause-ended g c =
    let inputs = c.args.inputs.now in
    not_put_next inputs c.args.one c.index-inputs-one.result (slice_get_read inputs (length inputs) c.args.one.input c.index-inputs-one.result refl c.requires.of_inputs c.index-inputs-one.is)
    _ _ c.ask.result c.in_ok-asked.asked c.in_ok-asked.was c.ask.ensures.told
