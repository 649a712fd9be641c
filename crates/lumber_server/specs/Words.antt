-- The arguments of the program (this project's profile): exactly `-l HOST:PORT -o FILE --links N`, in this order. HOST is
-- 1 to 253 of `A-Z a-z 0-9 . _ -`, PORT a decimal from 1 to 65535, FILE not empty, and N a decimal from 1 to 1,000,000.
use Rattle.std.specs.Prelude.{◌≡◌, ◌≤◌, ℕ, Bool, true, false, ◌==◌, ◌&&◌, ◌||◌, not, nat_lt, nat_le, List, [], ◌∷◌, length, take, drop, Option, Some, None, if◌then◌else◌, codes}
use Rattle.std.specs.List.{list_all, prefix_len}
use Rattle.std.specs.Str.{bytes_eq}
use Rattle.wire_base.specs.Decimal.{IsDecimal, value_of}
use Rattle.wire_base.specs.declared.host.Host.{Host}
use Rattle.lumber_server.specs.declared.places.SinkPlaces.{SinkPlaces}

-- what the arguments ask for
pub record Asked : Type 0 where
  pub host : Host
  pub file : List ℕ
  pub links : ℕ

abbrev pub is_name_byte : ℕ → Bool
is_name_byte byte =
    (nat_le 65 byte && nat_le byte 90) || ((nat_le 97 byte && nat_le byte 122) || ((nat_le 48 byte && nat_le byte 57)
    || (byte == 95 || (byte == 46 || byte == 45))))

abbrev pub is_name : List ℕ → Bool
is_name text = nat_lt 0 (length text) && (nat_le (length text) 253 && list_all is_name_byte text)

-- the number that decimal digits without a sign or a leading zero stand for, from 1 to `most`, if they are such digits
abbrev pub IsNumberTo : ℕ → List ℕ → Option ℕ → Type 0
IsNumberTo most digits None = ¬ (IsDecimal digits × (1 ≤ value_of digits) × (value_of digits ≤ most))
IsNumberTo most digits (Some number) = IsDecimal digits × (1 ≤ number) × (number ≤ most) × (number ≡ value_of digits)

-- the port after a name and its colon
abbrev pub IsPortBehind : List ℕ → Option ℕ → Type 0
IsPortBehind [] port = port ≡ None
IsPortBehind (colon ∷ digits) port = IsNumberTo 65535 digits port

abbrev pub named_host : List ℕ → Option ℕ → Option Host
named_host name None = None
named_host name (Some port) = if is_name name then Some (record { name = name; port = port }) else None

-- how many bytes are before the first colon
abbrev pub name_length : List ℕ → ℕ
name_length text = prefix_len (λ byte. not (byte == 58)) text

abbrev pub IsHost : List ℕ → Option Host → Type 0
IsHost text host = (port : Option ℕ) × IsPortBehind (drop (name_length text) text) port × (host ≡ named_host (take (name_length text) text) port)

abbrev pub asked_by : List ℕ → Option Host → Option ℕ → Option Asked
asked_by file None links = None
asked_by file (Some host) None = None
asked_by file (Some host) (Some links) = Some (record { host = host; file = file; links = links })

abbrev pub most_links : ℕ
most_links = 1000000

-- the marks before the values are these, and the file is not empty
abbrev pub are_marks : List ℕ → List ℕ → List ℕ → List ℕ → Bool
are_marks listen out file links =
    bytes_eq listen (codes "-l") && (bytes_eq out (codes "-o") && (bytes_eq links (codes "--links") && nat_lt 0 (length file)))

-- what the values ask for
abbrev pub IsAskedBy : List ℕ → List ℕ → List ℕ → Option Asked → Type 0
IsAskedBy place file count asked =
    (host : Option Host) × (links : Option ℕ) × IsHost place host × IsNumberTo most_links count links × (asked ≡ asked_by file host links)

-- and nothing if the marks are not the command's
abbrev pub IsAskedWhere : Bool → List ℕ → List ℕ → List ℕ → Option Asked → Type 0
IsAskedWhere true place file count asked = IsAskedBy place file count asked
IsAskedWhere false place file count asked = asked ≡ None

-- what the arguments ask for; nothing if they are not the command's
abbrev pub IsAskedOf : List (List ℕ) → Option Asked → Type 0
IsAskedOf (listen ∷ place ∷ out ∷ file ∷ links ∷ count ∷ []) asked = IsAskedWhere (are_marks listen out file links) place file count asked
IsAskedOf _ asked = asked ≡ None

-- where the program listens and writes: as the arguments ask, or by default
abbrev pub places_of : Option Asked → SinkPlaces
places_of None = record { host = record { name = codes "localhost"; port = 5044 }; file = codes "out" }
places_of (Some asked) = record { host = asked.host; file = asked.file }

abbrev pub ArePlaces : List (List ℕ) → SinkPlaces → Type 0
ArePlaces words places = (asked : Option Asked) × IsAskedOf words asked × (places ≡ places_of asked)
