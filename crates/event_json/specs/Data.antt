-- A value as the JSON data that `serde_json` writes (RFC 8259).
use Rattle.std.specs.Prelude.{List}
use Rattle.event_tree.specs.Value.{TreeValue, null, flag, int, str, list, fields, Values, no_values, value, Members, no_members, member}
use Rattle.json.specs.Token.{Token}
use Rattle.json.specs.Tree.{json_tokens}
use Rattle.serde_json.specs.Data as json
use Rattle.serde_json.specs.Data.{Data, Items}
use Rattle.serde_json.specs.Written.{outline}

abbrev mutual
  pub data_of : TreeValue → Data
  data_of null = json.null
  data_of (flag b) = json.boolean b
  data_of (int n) = json.number (json.negative n)
  data_of (str s) = json.string s
  data_of (list vs) = json.array (items_of vs)
  data_of (fields ms) = json.object (members_of ms)

  pub items_of : Values → Items
  items_of no_values = json.no_items
  items_of (value v vs) = json.item (data_of v) (items_of vs)

  pub members_of : Members → json.Members
  members_of no_members = json.no_members
  members_of (member k v ms) = json.member k (data_of v) (members_of ms)

-- the tokens of its text, as `json` writes them
abbrev pub tokens_of : TreeValue → List Token
tokens_of v = json_tokens (outline (data_of v))
