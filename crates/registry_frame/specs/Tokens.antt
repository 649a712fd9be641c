-- For private clauses: the tokens of a body as JSON (RFC 8259), in the order in which `json` reads them.
use Rattle.std.specs.Prelude.{ℕ, List, [], ◌∷◌, ◌++◌, ◌==◌, if◌then◌else◌, Option, Some, None, codes, decimal}
use Rattle.json.specs.Token as json
use Rattle.json.specs.Token.{Token}
use Rattle.registry_frame.specs.declared.body_error.BodyError.{BodyError}
use Rattle.registry_frame.specs.declared.body_error.BodyError.TheVariants.{NotABody, NoMemory}
use Rattle.wire_base.specs.declared.row.Row.{Row}
use Rattle.wire_base.specs.declared.row.Op.{Op}
use Rattle.wire_base.specs.declared.row.Op.TheVariants.{Set, Remove}

-- the first field, with a row's moment of change; there is none if the moment is 0
abbrev pub moment_tokens : ℕ → List Token
moment_tokens moment = if moment == 0 then [] else (json.key (codes "changed") ∷ json.number (decimal moment) ∷ [])

-- the fields of a row after its moment of change, from the epoch's number on
abbrev pub row_tokens : Row → List Token → List Token
row_tokens row rest =
    json.number (decimal row.epoch.0)
    ∷ json.key (codes "key") ∷ json.string row.key
    ∷ json.key (codes "offset") ∷ json.number (decimal row.offset)
    ∷ json.key (codes "op") ∷ json.string (codes "set")
    ∷ json.key (codes "path") ∷ json.string row.path
    ∷ json.end_object ∷ rest

-- the fields of a removal, from the key's text on
abbrev pub removal_tokens : List ℕ → List Token → List Token
removal_tokens key rest = json.string key ∷ json.key (codes "op") ∷ json.string (codes "remove") ∷ json.end_object ∷ rest

-- the fields of an operation, and what follows
abbrev pub field_tokens : Op → List Token → List Token
field_tokens (Set row) rest = moment_tokens row.changed.0 ++ (json.key (codes "epoch") ∷ row_tokens row rest)
field_tokens (Remove key) rest = json.key (codes "key") ∷ removal_tokens key rest

-- the operations up to the list's last bracket
abbrev pub list_tokens : List Op → List Token
list_tokens [] = json.end_array ∷ []
list_tokens (op ∷ ops) = json.begin_object ∷ field_tokens op (list_tokens ops)

abbrev pub body_tokens : List Op → List Token
body_tokens ops = json.begin_array ∷ list_tokens ops

-- the text of a number, of a string and of a name, if the token is one
abbrev pub number_in : Token → Option (List ℕ)
number_in (json.number text) = Some text
number_in _ = None

abbrev pub string_in : Token → Option (List ℕ)
string_in (json.string text) = Some text
string_in _ = None

abbrev pub name_in : Token → Option (List ℕ)
name_in (json.key text) = Some text
name_in _ = None

abbrev pub IsNoMemory : BodyError → Type 0
IsNoMemory NotABody = ⊥
IsNoMemory NoMemory = Unit {0}
