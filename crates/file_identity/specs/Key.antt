-- The key by which a file is known again (Filebeat reference, file identity; the texts are this project's profile):
-- of its path, of its inode and device, or of the SHA-256 (FIPS 180-4) of some of its bytes, which are wanted all.
use Rattle.std.specs.Prelude.{ℕ, ◌+◌, ◌<◌, nat_le, codes, decimal, List, ◌++◌, take, drop, length, Option, Some, None, option_map, if◌then◌else◌}
use Rattle.event_tree.specs.declared.input_rule.IdentityRule.{IdentityRule}
use Rattle.event_tree.specs.declared.input_rule.IdentityRule.TheVariants.{Fingerprint, Native, Path}
use Rattle.hex.specs.Hex.{encode_lower}
use Rattle.outside.specs.declared.entry.Entry.{Entry}
use Rattle.sha2.specs.Sha256.{sha256}

-- for the input of this id
abbrev pub key_by : List ℕ → List ℕ → List ℕ → List ℕ
key_by id kind value = codes "filestream::" ++ id ++ codes "::" ++ kind ++ codes "::" ++ value

abbrev pub path_key : List ℕ → List ℕ → List ℕ
path_key id path = key_by id (codes "path") path

-- of inode and device
abbrev pub native_key : List ℕ → ℕ × ℕ → List ℕ
native_key id numbers = key_by id (codes "native") (decimal numbers.0 ++ codes "-" ++ decimal numbers.1)

-- of a digest
abbrev pub key_of_digest : List ℕ → List ℕ → List ℕ
key_of_digest id digest = key_by id (codes "fingerprint") (encode_lower digest)

-- of the bytes of the fingerprint
unfoldable pub fingerprint_key : List ℕ → List ℕ → List ℕ
fingerprint_key id bytes = key_of_digest id (sha256 bytes)

-- what is known without a look into the file: none for a fingerprint, and none if no numbers were given
abbrev pub named_key : List ℕ → IdentityRule → List ℕ → Option (ℕ × ℕ) → Option (List ℕ)
named_key id (Fingerprint offset count) path numbers = None
named_key id Native path numbers = option_map (native_key id) numbers
named_key id Path path numbers = Some (path_key id path)

-- of an entry of a listing
abbrev pub listed_key : List ℕ → IdentityRule → Entry → Option (List ℕ)
listed_key id rule entry = named_key id rule entry.path entry.native

-- a fingerprint is of at least one byte
abbrev pub WantsBytes : IdentityRule → Type 0
WantsBytes (Fingerprint offset count) = 0 < count
WantsBytes Native = Unit {0}
WantsBytes Path = Unit {0}

-- this many bytes from the offset on, if all are there
abbrev pub fingerprint_of : ℕ → ℕ → List ℕ → Option (List ℕ)
fingerprint_of offset count bytes = if nat_le (offset + count) (length bytes) then Some (take count (drop offset bytes)) else None

-- of a path, of native numbers if they were given, and of the bytes of a life that are there
abbrev pub key_of : List ℕ → IdentityRule → List ℕ → Option (ℕ × ℕ) → List ℕ → Option (List ℕ)
key_of id (Fingerprint offset count) path numbers bytes = option_map (fingerprint_key id) (fingerprint_of offset count bytes)
key_of id Native path numbers bytes = named_key id Native path numbers
key_of id Path path numbers bytes = named_key id Path path numbers
