-- What one asking for a file's key gave, by the bytes that its own looks gave (Filebeat reference, file identity,
-- `fingerprint`; this project's profile): the key if all bytes of the fingerprint came, and none if a read gave
-- nothing before. A key of a path or of native numbers asks for no look.
use Rattle.std.specs.Prelude.{◌≡◌, ℕ, zero, suc, ◌+◌, ◌-◌, ◌<◌, ◌≤◌, ◌==◌, List, [], ◌∷◌, length, flat_map, Option, Some, None, if◌then◌else◌}
use Rattle.event_tree.specs.declared.input_rule.IdentityRule.{IdentityRule}
use Rattle.event_tree.specs.declared.input_rule.IdentityRule.TheVariants.{Fingerprint, Native, Path}
use Rattle.file_looks.specs.Reading.{bytes_by}
use Rattle.outside.specs.declared.history.Look.{Look}
use Rattle.outside.specs.declared.history.Question.{Question}
use Rattle.outside.specs.declared.history.Question.TheVariants.{Length, ReadAt}
use Rattle.outside.specs.Files.{File}
use Rattle.file_identity.specs.Key.{fingerprint_key, named_key}

-- the bytes that the looks gave, one read after another
abbrev pub given : File → List Look → List ℕ
given file looks = flat_map (λ look. bytes_by file look.question look.sight) looks

-- a read at the place, of which this many bytes are wanted; if it gives nothing there is no further look
abbrev pub ReadsOn : ℕ → ℕ → (ℕ → ℕ → Type 0) → Type 0 → Question → Type 0
ReadsOn place wanted Later NoLater Length = ⊥
ReadsOn place wanted Later NoLater (ReadAt at zero) = (at ≡ place) × NoLater
ReadsOn place wanted Later NoLater (ReadAt at (suc more)) = (at ≡ place) × (suc more ≤ wanted) × Later (place + suc more) (wanted - suc more)

-- the reads of this many bytes from the place on, one after another, until all came or one gave nothing
abbrev pub AreReads : List Look → ℕ → ℕ → Type 0
AreReads [] place wanted = wanted ≡ 0
AreReads (look ∷ looks) place wanted =
    (0 < wanted) × ReadsOn place wanted (λ next left. AreReads looks next left) (looks ≡ []) look.question

-- the first of them, as far as an asking came
abbrev pub ArePartReads : List Look → ℕ → ℕ → Type 0
ArePartReads [] place wanted = Unit {0}
ArePartReads (look ∷ looks) place wanted =
    (0 < wanted) × ReadsOn place wanted (λ next left. ArePartReads looks next left) (looks ≡ []) look.question

-- those of an asking that a fault cut: each gave bytes, and after the last some byte is still wanted
abbrev pub AreCutReads : List Look → ℕ → ℕ → Type 0
AreCutReads [] place wanted = 0 < wanted
AreCutReads (look ∷ looks) place wanted =
    (0 < wanted) × ReadsOn place wanted (λ next left. AreCutReads looks next left) ⊥ look.question

abbrev pub IsPartOfAsking : IdentityRule → List Look → Type 0
IsPartOfAsking (Fingerprint offset count) looks = ArePartReads looks offset count
IsPartOfAsking Native looks = looks ≡ []
IsPartOfAsking Path looks = looks ≡ []

-- the looks of one asking that a fault cut: none of a key for which nothing is read
abbrev pub IsCutAsking : IdentityRule → List Look → Type 0
IsCutAsking (Fingerprint offset count) looks = AreCutReads looks offset count
IsCutAsking Native looks = ⊥
IsCutAsking Path looks = ⊥

-- the looks of one asking that hit no fault
abbrev pub IsAsking : IdentityRule → List Look → Type 0
IsAsking (Fingerprint offset count) looks = AreReads looks offset count
IsAsking Native looks = looks ≡ []
IsAsking Path looks = looks ≡ []

-- the key if the bytes are as many as are wanted
abbrev pub key_if_all : List ℕ → ℕ → List ℕ → Option (List ℕ)
key_if_all id count bytes = if length bytes == count then Some (fingerprint_key id bytes) else None

-- what the asking gave
abbrev pub given_key : List ℕ → IdentityRule → List ℕ → File → List Look → Option (List ℕ)
given_key id (Fingerprint offset count) path file looks = key_if_all id count (given file looks)
given_key id Native path file looks = named_key id Native path file.numbers
given_key id Path path file looks = named_key id Path path file.numbers
