-- The notes of a file that begins once and keeps its life (this project's profile): a Begin, and then the spans that are
-- settled for its epoch, each acknowledged or dropped.
use Rattle.std.specs.Prelude.{ℕ, List, ◌∷◌, map}
use Rattle.wire_base.specs.Extent.{Extent}
use Rattle.wire_base.specs.declared.numbers.Slot.{Slot}
use Rattle.wire_base.specs.declared.numbers.Epoch.{Epoch}
use Rattle.wire_base.specs.declared.numbers.Moment.{Moment}
use Rattle.wire_base.specs.declared.note.Cause.{Cause}
use Rattle.wire_base.specs.declared.note.Note.{Note}
use Rattle.wire_base.specs.declared.note.Note.TheVariants.{Begin, Settle}

-- a span, and why it is settled
pub record Settlement : Type 0 where
  pub span : Extent
  pub cause : Cause

abbrev pub settles : Slot → Epoch → List Settlement → List Note
settles slot epoch settled = map (λ s. Settle slot epoch s.span s.cause) settled

abbrev pub spans_of : List Settlement → List Extent
spans_of settled = map (λ s. s.span) settled

abbrev pub life_notes : Slot → List ℕ → List ℕ → Epoch → ℕ → Moment → List Settlement → List Note
life_notes slot key path epoch base changed settled = Begin slot key path epoch base changed ∷ settles slot epoch settled
