-- The plain value that a tree of the program stands for (this project's profile).
use Rattle.std.specs.Prelude.{ℕ, List, map}
use Rattle.event_tree.specs.Value.{TreeValue, null, flag, int, str, list, fields, FieldList, as_values, as_members}
use Rattle.event_tree.specs.declared.tree.Tree.{Tree}
use Rattle.event_tree.specs.declared.tree.Tree.TheVariants.{Null, Flag, Int, Str, List as ListOf, Map}

abbrev pub value_of : Tree → TreeValue
value_of Null = null
value_of (Flag b) = flag b
value_of (Int n) = int n
value_of (Str s) = str s
value_of (ListOf vs) = list (as_values vs)
value_of (Map ps) = fields (as_members ps)

abbrev pub values_of : List Tree → List TreeValue
values_of = map value_of

abbrev pub pair_of : List ℕ × Tree → List ℕ × TreeValue
pair_of p = (p.0, value_of p.1)

abbrev pub pairs_of : List (List ℕ × Tree) → FieldList
pairs_of = map pair_of
