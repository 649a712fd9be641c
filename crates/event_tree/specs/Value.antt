-- What an event's tree is as one plain value (Filebeat reference, event fields; this project's profile).
use Rattle.std.specs.Prelude.{ℕ, ℤ, Bool, List, [], ◌∷◌}

mutual
  pub data TreeValue : Type 0 where
    null : TreeValue
    flag : Bool → TreeValue
    int : ℤ → TreeValue
    str : List ℕ → TreeValue
    list : Values → TreeValue
    fields : Members → TreeValue

  pub data Values : Type 0 where
    no_values : Values
    value : TreeValue → Values → Values

  pub data Members : Type 0 where
    no_members : Members
    member : List ℕ → TreeValue → Members → Members

-- the fields of a map: each key with its value
abbrev pub FieldList : Type 0
FieldList = List (List ℕ × TreeValue)

abbrev pub as_values : List TreeValue → Values
as_values [] = no_values
as_values (v ∷ vs) = value v (as_values vs)

abbrev pub as_members : FieldList → Members
as_members [] = no_members
as_members (p ∷ ps) = member p.0 p.1 (as_members ps)

abbrev pub list_of : Values → List TreeValue
list_of no_values = []
list_of (value v vs) = v ∷ list_of vs

abbrev pub pairs_in : Members → FieldList
pairs_in no_members = []
pairs_in (member k v ms) = (k, v) ∷ pairs_in ms
