use Rattle.std.proofs.Common.{◌≡◌, List, [], ◌∷◌, ◌++◌, sym, subst}
use Rattle.wire_base.specs.declared.note.Note.{Note}
use Rattle.wire_base.specs.declared.note.Note.TheVariants.{Announce, Rename, Seen, Forget}
use Rattle.ack_tracker.specs.FileState.{FileState, MayAdd, Stands}
use Rattle.ack_tracker.proofs.Standing.{stands_announce, stands_forget, stands_rename, stands_seen, stands_settle}
use Rattle.ack_tracker.proofs.file.File.note.Goals as goal

-- the note, by its kind
of_kind : (note kind : Note) (notes : List Note) (old new after : FileState) → note ≡ kind → new ≡ after → Stands (notes ++ kind ∷ []) after → Stands (notes ++ note ∷ []) new
of_kind note kind notes old new after is made stands = subst (λ (n : Note). Stands (notes ++ n ∷ []) new) (sym is) (subst (Stands (notes ++ kind ∷ [])) (sym made) stands)

pub returns-in-Ok-clause-noted : goal.returns-in-Ok-clause-noted
returns-in-Ok-clause-noted c = λ notes may stands.
    let w = c.in-Settle in
    subst (λ (n : Note). Stands (notes ++ n ∷ []) c.settle.new.self) (sym w.is)
    (stands_settle notes w.slot w.epoch w.span w.cause c.args.self.now c.settle.new.self (subst (MayAdd notes) w.is may) c.in-Ok.ensures.settled stands)

pub returns-in-Announce-clause-noted : goal.returns-in-Announce-clause-noted
returns-in-Announce-clause-noted c = λ notes may stands.
    let w = c.in-Announce in
    of_kind c.args.note (Announce w.slot w.epoch) notes c.args.self.now c.rise.new.self _ w.is c.rise.ensures (stands_announce notes w.slot w.epoch c.args.self.now stands)

pub returns-in-Rename-clause-noted : goal.returns-in-Rename-clause-noted
returns-in-Rename-clause-noted c = λ notes may stands.
    let w = c.in-Rename in
    of_kind c.args.note (Rename w.slot w.scan w.path) notes c.args.self.now c.rename.new.self _ w.is c.rename.ensures (stands_rename notes w.slot w.scan w.path c.args.self.now stands)

pub returns-in-Seen-clause-noted : goal.returns-in-Seen-clause-noted
returns-in-Seen-clause-noted c = λ notes may stands.
    let w = c.in-Seen in
    of_kind c.args.note (Seen w.slot w.changed) notes c.args.self.now c.see.new.self _ w.is c.see.ensures (stands_seen notes w.slot w.changed c.args.self.now stands)

pub returns-in-Forget-clause-noted : goal.returns-in-Forget-clause-noted
returns-in-Forget-clause-noted c = λ notes may stands.
    let w = c.in-Forget in
    of_kind c.args.note (Forget w.slot w.epoch w.end) notes c.args.self.now c.forget.new.self _ w.is c.forget.ensures (stands_forget notes w.slot w.epoch w.end c.args.self.now stands)
