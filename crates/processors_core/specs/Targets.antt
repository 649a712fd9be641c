-- The text of a target of `add_fields`.
use Rattle.std.specs.Prelude.{ℕ, List, []}
use Rattle.processors_core.specs.declared.add_fields.Target.{Target}
use Rattle.processors_core.specs.declared.add_fields.Target.TheVariants.{Event, Field}

abbrev pub target_text : Target → List ℕ
target_text Event = []
target_text (Field path) = path
