-- What asking for a key answers, and when it is refused (Filebeat reference, file identity; this project's profile).
use Rattle.std.specs.Prelude.{◌≡◌, ◌≢◌, ℕ, ◌+◌, ◌<◌, ◌≤◌, Bool, true, false, List, length, Option, Some, None, Result, Ok, Err}
use Rattle.event_tree.specs.declared.input_rule.IdentityRule.{IdentityRule}
use Rattle.event_tree.specs.declared.input_rule.IdentityRule.TheVariants.{Fingerprint, Native, Path}
use Rattle.outside.specs.declared.failed.Failed.{Failed}
use Rattle.outside.specs.declared.history.Look.{Look}
use Rattle.outside.specs.Files.{File}
use Rattle.outside.specs.Tails.{TailHistory}
use Rattle.file_identity.specs.declared.identity.Identity.{Identity}
use Rattle.file_identity.specs.declared.identity.Identity.TheVariants.{Key, TooSmall}
use Rattle.file_identity.specs.declared.identity_error.IdentityError.{IdentityError}
use Rattle.file_identity.specs.declared.identity_error.IdentityError.TheVariants.{NoNative, ReadFault, NoMemory}
use Rattle.file_identity.specs.Asking.{IsAsking, IsCutAsking, IsPartOfAsking, given_key}
use Rattle.file_identity.specs.Key.{fingerprint_key, named_key}
use Rattle.file_identity.specs.Reading.{Adds, EndsWithNone}
use Rattle.wire_base.specs.Ranges.{IsPlace}

abbrev pub IsFingerprint : IdentityRule → Type 0
IsFingerprint (Fingerprint offset count) = Unit {0}
IsFingerprint Native = ⊥
IsFingerprint Path = ⊥

-- a fingerprint is of at least one byte and ends within a file
abbrev pub IsAskable : IdentityRule → Type 0
IsAskable (Fingerprint offset count) = (0 < count) × IsPlace (offset + count)
IsAskable Native = Unit {0}
IsAskable Path = Unit {0}

-- ---- what is answered, whether or not the tail reports its looks

-- the fingerprint is of some bytes, as many as are wanted
pub record IsOfBytes (id : List ℕ) (count : ℕ) (key : List ℕ) : Type 0 where
  pub bytes : List ℕ
  pub long : length bytes ≡ count
  pub key_is : key ≡ fingerprint_key id bytes

abbrev pub IsKeyBy : List ℕ → IdentityRule → List ℕ → Option (ℕ × ℕ) → List ℕ → Type 0
IsKeyBy id (Fingerprint offset count) path numbers key = IsOfBytes id count key
IsKeyBy id Native path numbers key = named_key id Native path numbers ≡ Some key
IsKeyBy id Path path numbers key = named_key id Path path numbers ≡ Some key

-- a place before the end of the fingerprint
abbrev pub IsWithin : IdentityRule → ℕ → Type 0
IsWithin (Fingerprint offset count) place = (offset ≤ place) × (place < offset + count)
IsWithin Native place = ⊥
IsWithin Path place = ⊥

abbrev pub IsAnswer : List ℕ → IdentityRule → List ℕ → Option (ℕ × ℕ) → Identity → Type 0
IsAnswer id rule path numbers (Key key) = IsKeyBy id rule path numbers key
IsAnswer id rule path numbers (TooSmall place) = IsWithin rule place

-- ---- what is answered by the looks

-- a file of these lives, with the numbers that its tail reports
abbrev pub with_numbers : Option (ℕ × ℕ) → File → File
with_numbers numbers file = record file { numbers = numbers }

-- the key that the looks gave, or none, if the last of them got nothing; a fault cut them
abbrev pub IsGiven : List ℕ → IdentityRule → List ℕ → File → List Look → Result Identity IdentityError → Type 0
IsGiven id rule path file looks (Ok (Key key)) = IsAsking rule looks × (given_key id rule path file looks ≡ Some key)
IsGiven id rule path file looks (Ok (TooSmall place)) = IsAsking rule looks × (given_key id rule path file looks ≡ None) × EndsWithNone place looks
IsGiven id rule path file looks (Err ReadFault) = IsCutAsking rule looks
IsGiven id rule path file looks (Err NoNative) = IsPartOfAsking rule looks
IsGiven id rule path file looks (Err NoMemory) = IsPartOfAsking rule looks

pub record IsAsked (id : List ℕ) (rule : IdentityRule) (path : List ℕ) (numbers : Option (ℕ × ℕ)) (told : TailHistory) (result : Result Identity IdentityError) (after : Option TailHistory) : Type 0 where
  pub looks : List Look
  pub added : Adds told looks after
  pub gave : IsGiven id rule path (with_numbers numbers told.file) looks result

-- whether the looks gave this key; a fault cut them
abbrev pub IsSameKey : List ℕ → IdentityRule → List ℕ → List ℕ → File → List Look → Result Bool Failed → Type 0
IsSameKey id rule path key file looks (Ok true) = IsAsking rule looks × (given_key id rule path file looks ≡ Some key)
IsSameKey id rule path key file looks (Ok false) = IsAsking rule looks × (given_key id rule path file looks ≢ Some key)
IsSameKey id rule path key file looks (Err failed) = IsCutAsking rule looks

-- by whichever path the file was opened
pub record IsCompared (id : List ℕ) (rule : IdentityRule) (key : List ℕ) (numbers : Option (ℕ × ℕ)) (told : TailHistory) (result : Result Bool Failed) (after : Option TailHistory) : Type 0 where
  pub looks : List Look
  pub added : Adds told looks after
  pub same : (path : List ℕ) → IsSameKey id rule path key (with_numbers numbers told.file) looks result

-- ---- refusals; out of memory may come with any

-- the kind is native and no numbers were given
abbrev pub LacksNumbers : IdentityRule → Option (ℕ × ℕ) → Type 0
LacksNumbers rule numbers = (rule ≡ Native) × (numbers ≡ None)

abbrev pub IsRefusedListed : IdentityRule → Option (ℕ × ℕ) → IdentityError → Type 0
IsRefusedListed rule numbers NoNative = LacksNumbers rule numbers
IsRefusedListed rule numbers ReadFault = ⊥
IsRefusedListed rule numbers NoMemory = Unit {0}

abbrev pub IsRefusedOpened : IdentityRule → Option (ℕ × ℕ) → IdentityError → Type 0
IsRefusedOpened rule numbers NoNative = LacksNumbers rule numbers
IsRefusedOpened rule numbers ReadFault = IsFingerprint rule
IsRefusedOpened rule numbers NoMemory = Unit {0}
