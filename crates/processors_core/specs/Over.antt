-- Fields that are put over the fields of a map, one key after the other (Filebeat reference, processors, `add_fields`).
use Rattle.std.specs.Prelude.{[], ◌∷◌, Option, Some, None}
use Rattle.event_tree.specs.Keys.{find, set_field}
use Rattle.event_tree.specs.Paths.{fields_in}
use Rattle.event_tree.specs.Value.{TreeValue, FieldList}
use Rattle.processors_core.specs.Added.{merged}

abbrev pub put_over : FieldList → FieldList → FieldList
put_over [] old = old
put_over (pair ∷ pairs) old = put_over pairs (set_field pair.0 (merged pair.1 (find pair.0 old)) old)

-- the fields of the map that is there, none if nothing is
abbrev pub map_at : Option TreeValue → Option FieldList
map_at None = Some []
map_at (Some value) = fields_in value
