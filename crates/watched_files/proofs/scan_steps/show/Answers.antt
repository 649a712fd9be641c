use Rattle.std.proofs.Common.{List, [], ℕ, Option, ap, subst, ◌∙◌}
use Rattle.prospector_core.specs.KnownFiles.{slot_with}
use Rattle.wire_base.specs.declared.numbers.Slot.{Slot}
use Rattle.watched_files.specs.Parts.{Tells}
use Rattle.watched_files.specs.Telling.{shown_at}
use Rattle.watched_files.proofs.Slots.{keeps_news}
use Rattle.watched_files.proofs.Tellings.{tells_one}
use Rattle.watched_files.proofs.scan_steps.show.Goals as goal

pub returns-in-Some-clause-shown : goal.returns-in-Some-clause-shown
returns-in-Some-clause-shown c =
    subst (λ (slot : Option Slot). Tells (shown_at c.args.number slot) [] c.args.table.now c.show.new.self) (c.in-Some.ensures ∙ ap (λ (key : List ℕ). slot_with key c.args.prospector.now.files) c.bytes.ensures.same)
    (tells_one _ c.args.table.now c.show.new.self c.show.ensures)

pub returns-in-Some-clause-same_slots : goal.returns-in-Some-clause-same_slots
returns-in-Some-clause-same_slots c = keeps_news _ _ c.args.table.now c.show.new.self c.show.ensures
