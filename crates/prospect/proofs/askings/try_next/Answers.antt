use Rattle.std.proofs.Common.{Err, ap, length, refl, ◌∙◌}
use Rattle.std.proofs.lemmas.Option.{slice_get_read}
use Rattle.outside.specs.declared.failed.FolderError.{FolderError}
use Rattle.prospect.proofs.AskedFiles.{kept_next}
use Rattle.prospect.proofs.TryingFiles.{answered_next, faulted_next, left_out, not_kept, not_put, not_tried}
use Rattle.prospect.proofs.Unfinished.{on_err, on_ok}
use Rattle.prospect.proofs.askings.try_next.Goals as goal

pub returns-in_err-push-in-Err-Failed-clause-ended : goal.returns-in_err-push-in-Err-Failed-clause-ended
returns-in_err-push-in-Err-Failed-clause-ended g c =
    let inputs = c.args.inputs.now in
    on_err _ _
    (not_kept inputs c.args.one c.index-inputs-one.result (slice_get_read inputs (length inputs) c.args.one.input c.index-inputs-one.result refl c.requires.of_inputs c.index-inputs-one.is)
    _ _ c.ask.result (c.in-Err-Failed.is ∙ ap (λ (e : FolderError). Err e) c.in-Err-Failed.field-0-is) c.ask.ensures.told)

pub returns-in-Ok-clause-tried : goal.returns-in-Ok-clause-tried
returns-in-Ok-clause-tried g c =
    let inputs = c.args.inputs.now in
    on_ok c.put.result
    (λ puts. answered_next inputs c.args.one c.index-inputs-one.result (slice_get_read inputs (length inputs) c.args.one.input c.index-inputs-one.result refl c.requires.of_inputs c.index-inputs-one.is)
    _ _ c.ask.result c.in-Ok.asked c.in-Ok.is c.ask.ensures.told _ _ puts refl)
    c.put.ensures

pub returns-in-Ok-clause-ended : goal.returns-in-Ok-clause-ended
returns-in-Ok-clause-ended g c =
    let inputs = c.args.inputs.now in
    on_err _ c.put.result
    (not_put inputs c.args.one c.index-inputs-one.result (slice_get_read inputs (length inputs) c.args.one.input c.index-inputs-one.result refl c.requires.of_inputs c.index-inputs-one.is)
    _ _ c.ask.result c.in-Ok.asked c.in-Ok.is c.ask.ensures.told)

pub returns-in-Ok-clause-keeps : goal.returns-in-Ok-clause-keeps
returns-in-Ok-clause-keeps g c =
    let inputs = c.args.inputs.now in
    on_ok c.put.result
    (λ puts. kept_next inputs c.args.one c.index-inputs-one.result (slice_get_read inputs (length inputs) c.args.one.input c.index-inputs-one.result refl c.requires.of_inputs c.index-inputs-one.is)
    c.in-Ok.asked c.in-Ok.ensures.answer _ _ puts)
    c.put.ensures

pub returns-in_ok-push-in-Err-Failed-clause-tried : goal.returns-in_ok-push-in-Err-Failed-clause-tried
returns-in_ok-push-in-Err-Failed-clause-tried g c =
    let inputs = c.args.inputs.now in
    faulted_next inputs c.args.one c.index-inputs-one.result (slice_get_read inputs (length inputs) c.args.one.input c.index-inputs-one.result refl c.requires.of_inputs c.index-inputs-one.is)
    _ _ c.ask.result (c.in-Err-Failed.is ∙ ap (λ (e : FolderError). Err e) c.in-Err-Failed.field-0-is) c.ask.ensures.told _ _ refl c.in_ok-push-in-Err-Failed.ensures.items

pub returns-in_ok-push-in-Err-Failed-clause-keeps : goal.returns-in_ok-push-in-Err-Failed-clause-keeps
returns-in_ok-push-in-Err-Failed-clause-keeps g c =
    let inputs = c.args.inputs.now in
    left_out inputs c.args.one c.index-inputs-one.result (slice_get_read inputs (length inputs) c.args.one.input c.index-inputs-one.result refl c.requires.of_inputs c.index-inputs-one.is)
    c.in-Err-Failed.ensures.refused c.args.askings.now.keyed _ refl

pub returns-in-Err-NoMemory-clause-ended : goal.returns-in-Err-NoMemory-clause-ended
returns-in-Err-NoMemory-clause-ended g c =
    let inputs = c.args.inputs.now in
    not_tried inputs c.args.one c.index-inputs-one.result (slice_get_read inputs (length inputs) c.args.one.input c.index-inputs-one.result refl c.requires.of_inputs c.index-inputs-one.is)
    _ _ c.ask.result (c.in-Err-NoMemory.is ∙ ap (λ (e : FolderError). Err e) c.in-Err-NoMemory.field-0-is) c.ask.ensures.told
