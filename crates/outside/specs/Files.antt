-- File history: files with their lives, and the looks at them (Filebeat reference, filestream input; this project's
-- profile). A file is a number with its lives. A life is the byte list that it comes to be at last; at each moment one
-- life is present and a front of it is there, which only grows. A truncation makes the next life present.
use Rattle.std.specs.Prelude.{◌≡◌, ℕ, ◌<◌, ◌≤◌, List, [], ◌∷◌, length, slice_get, slice_index_or, Option, Some, IfSome}
use Rattle.outside.specs.declared.history.Sight.{Sight}
use Rattle.outside.specs.declared.history.Look.{Look}
use Rattle.outside.specs.declared.history.Shown.{Shown}
use Rattle.wire_base.specs.Ranges.{IsPlace}

-- inode and device if the system gives them, and the lives in their order, each reported whole from the start
pub record File : Type 0 where
  pub numbers : Option (ℕ × ℕ)
  pub lives : List (List ℕ)

-- a life's bytes, and none if the file has no such life
abbrev pub life_of : File → ℕ → List ℕ
life_of file life = slice_index_or file.lives life []

-- the file has this life, and so much of it can be there
pub record IsOfFile (file : File) (sight : Sight) : Type 0 where
  pub known : sight.life < length file.lives
  pub within : sight.length ≤ length (life_of file sight.life)
  pub in_range : IsPlace sight.length

-- the life never falls, and while it stays the same the length never falls
pub record IsNoEarlier (earlier later : Sight) : Type 0 where
  pub life : earlier.life ≤ later.life
  pub length : earlier.life ≡ later.life → earlier.length ≤ later.length

-- of each file there is as much as before, or more, or a later life
abbrev pub NoneEarlier : List Sight → List Sight → Type 0
NoneEarlier [] [] = Unit {0}
NoneEarlier [] (later ∷ laters) = ⊥
NoneEarlier (earlier ∷ earliers) [] = ⊥
NoneEarlier (earlier ∷ earliers) (later ∷ laters) = IsNoEarlier earlier later × NoneEarlier earliers laters

-- what was there at the last of these looks, or before the first of them
abbrev pub latest : Sight → List Look → Sight
latest sight [] = sight
latest sight (look ∷ looks) = latest look.sight looks

-- what a listing shows of a file
abbrev pub sight_of : Shown → Sight
sight_of shown = record { life = shown.life; length = shown.entry.size }

-- the file is one of these, and is as it is shown
pub record IsShownOf (files : List File) (states : List Sight) (shown : Shown) : Type 0 where
  pub known : shown.file < length files
  pub numbers : IfSome (slice_get files shown.file) (λ file. shown.entry.native ≡ file.numbers)
  pub present : IfSome (slice_get files shown.file) (λ file. IsOfFile file (sight_of shown))
  pub state : slice_get states shown.file ≡ Some (sight_of shown)
