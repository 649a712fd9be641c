-- How the bytes of a fingerprint are read: pieces one after another, until all came or a read gave none.
use Rattle.std.specs.Prelude.{◌≡◌, ℕ, ◌+◌, ◌<◌, List, [], ◌∷◌, ◌++◌, length, Option, Some, IfSome}
use Rattle.outside.specs.declared.history.Look.{Look}
use Rattle.outside.specs.declared.history.Question.TheVariants.{ReadAt}
use Rattle.outside.specs.Tails.{TailHistory, last_sight}
use Rattle.file_looks.specs.Looks.{AreLooks}
use Rattle.sha2.specs.Sha256.{sha256}
use Rattle.file_identity.specs.declared.fingerprint.Printed.{Printed}
use Rattle.file_identity.specs.declared.fingerprint.Printed.TheVariants.{Whole, Short}
use Rattle.file_identity.specs.Asking.{AreCutReads, AreReads, given}

-- the tail reported these looks in addition
pub record Adds (told : TailHistory) (looks : List Look) (after : Option TailHistory) : Type 0 where
  pub kept : after ≡ Some (record told { looks = told.looks ++ looks })
  pub shown : AreLooks told.file (last_sight told) looks

-- the last look read at the place, and got nothing
pub record EndsWithNone (place : ℕ) (looks : List Look) : Type 0 where
  pub front : List Look
  pub last : Look
  pub parts : looks ≡ front ++ last ∷ []
  pub question : last.question ≡ ReadAt place 0

-- these bytes are those that the reads gave
pub record GivesBytes (offset count : ℕ) (told : TailHistory) (bytes : List ℕ) (after : Option TailHistory) : Type 0 where
  pub looks : List Look
  pub added : Adds told looks after
  pub reads : AreReads looks offset count
  pub bytes_are : given told.file looks ≡ bytes

pub record GivesNone (offset count : ℕ) (told : TailHistory) (place : ℕ) (bytes : List ℕ) (after : Option TailHistory) : Type 0 where
  pub looks : List Look
  pub added : Adds told looks after
  pub reads : AreReads looks offset count
  pub bytes_are : given told.file looks ≡ bytes
  pub end : EndsWithNone place looks

-- the digest of as many bytes as were wanted, or the place after the fewer bytes that came
abbrev pub IsPrinted : ℕ → ℕ → Option TailHistory → Printed → Option TailHistory → Type 0
IsPrinted offset count told (Whole digest) after =
    (bytes : List ℕ) × (length bytes ≡ count) × (digest ≡ sha256 bytes) × IfSome told (λ before. GivesBytes offset count before bytes after)
IsPrinted offset count told (Short place) after =
    (bytes : List ℕ) × (length bytes < count) × (place ≡ offset + length bytes) × IfSome told (λ before. GivesNone offset count before place bytes after)

-- a read failed after some others, which gave fewer bytes than are wanted
pub record FailedReading (offset count : ℕ) (told : TailHistory) (after : Option TailHistory) : Type 0 where
  pub looks : List Look
  pub added : Adds told looks after
  pub reads : AreCutReads looks offset count
