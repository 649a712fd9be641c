use Rattle.std.proofs.Common.{[], ◌∷◌, ◌++◌, sym, subst}
use Rattle.wire_base.specs.declared.note.Note.{Note}
use Rattle.ack_tracker.specs.FileState.{FileState}
use Rattle.ack_tracker.specs.Files.{AreOf, Begins}
use Rattle.ack_tracker.proofs.Listed.{are_with_begin}
use Rattle.ack_tracker.proofs.tracker.add.Goals as goal

pub returns-in-Ok-clause-noted : goal.returns-in-Ok-clause-noted
returns-in-Ok-clause-noted c = λ notes are.
    let w = c.in-Begin in
    let old = c.args.files.now.entries in
    let new = c.begin.new.files.entries in
    subst (λ (n : Note). AreOf new (notes ++ n ∷ [])) (sym w.is)
    (are_with_begin old new notes w.slot w.key w.path w.epoch w.base w.changed (subst (λ (f : FileState). Begins old new w.slot.0 f) c.begin-file.ensures c.in-Ok.ensures.begun) are)
