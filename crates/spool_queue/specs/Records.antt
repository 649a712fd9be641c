-- The records of a spool (this project's profile): the gate, the length of the body in ten digits, a space, the kind, the
-- body and a line feed. An event has its payload as its body, and a settlement says in decimal digits how many events are
-- settled in all, from the front.
use Rattle.std.specs.Prelude.{ℕ, ◌-◌, List, [], ◌∷◌, ◌++◌, length, replicate, codes, decimal}

pub data Record : Type 0 where
  Event : List ℕ → Record
  Settlement : ℕ → Record

abbrev pub body_of : Record → List ℕ
body_of (Event payload) = payload
body_of (Settlement count) = decimal count

-- `e` or `s`
abbrev pub kind_of : Record → ℕ
kind_of (Event payload) = 0x65
kind_of (Settlement count) = 0x73

-- decimal digits with leading zeros up to a width
abbrev pub padded : ℕ → ℕ → List ℕ
padded width number = replicate (width - length (decimal number)) 48 ++ decimal number

-- what is before a body, the open gate included
abbrev pub head_bytes : ℕ → ℕ → List ℕ
head_bytes size kind = 0x7B ∷ (padded 10 size ++ 32 ∷ kind ∷ [])

-- the record after its open gate
abbrev pub record_of : ℕ → List ℕ → List ℕ
record_of kind body = head_bytes (length body) kind ++ (body ++ codes "\n")

abbrev pub record_bytes : Record → List ℕ
record_bytes one = record_of (kind_of one) (body_of one)
