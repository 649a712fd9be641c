-- How large a plain value is, so that what it holds is smaller (this project's profile): one more than all its members.
use Rattle.std.specs.Prelude.{ℕ, suc, ◌+◌, List, [], ◌∷◌}
use Rattle.event_tree.specs.Value.{TreeValue, null, flag, int, str, list, fields, Values, no_values, value, Members, no_members, member, FieldList}

abbrev mutual
  pub value_size : TreeValue → ℕ
  value_size null = 1
  value_size (flag b) = 1
  value_size (int n) = 1
  value_size (str s) = 1
  value_size (list vs) = suc (values_size vs)
  value_size (fields ms) = suc (members_size ms)

  pub values_size : Values → ℕ
  values_size no_values = 1
  values_size (value v vs) = value_size v + values_size vs

  pub members_size : Members → ℕ
  members_size no_members = 1
  members_size (member k v ms) = value_size v + members_size ms

abbrev pub trees_size : List TreeValue → ℕ
trees_size [] = 1
trees_size (v ∷ vs) = value_size v + trees_size vs

abbrev pub fields_size : FieldList → ℕ
fields_size [] = 1
fields_size (p ∷ ps) = value_size p.1 + fields_size ps
