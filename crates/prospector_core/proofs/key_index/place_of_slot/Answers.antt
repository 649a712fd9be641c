use Rattle.std.proofs.Common.{ℕ, ◌∙◌, rules, sym}
use Rattle.std.specs.Ordering.{nat_cmp}
use Rattle.std.proofs.lemmas.Fn.{always_returns_same}
use Rattle.prospector_core.specs.declared.marks.Watched.{Watched}
use Rattle.prospector_core.proofs.Gone.{slot_absent, slot_found}
use Rattle.prospector_core.proofs.key_index.place_of_slot.Goals as goal

pub returns-in-Ok-clause-found : goal.returns-in-Ok-clause-found
returns-in-Ok-clause-found c =
    slot_found c.args.watched.now c.args.slot.0 c.in-Ok.place c.in-Ok.ensures.bound
    (c.in-Ok.ensures.position (λ (one : Watched). nat_cmp one.file.slot.0 c.args.slot.0) (always_returns_same _ _ _ (λ a r f called. search rules)))

pub returns-in-Err-clause-absent : goal.returns-in-Err-clause-absent
returns-in-Err-clause-absent c =
    slot_absent c.args.watched.now c.args.slot.0 c.in-Err.field-0 c.requires
    (c.in-Err.ensures.position (λ (one : Watched). nat_cmp one.file.slot.0 c.args.slot.0) (always_returns_same _ _ _ (λ a r f called. search rules)))
