-- What the calls of a tail show (Filebeat reference, filestream input; this project's profile). Each call of `length`
-- and each read into a nonempty buffer is one look; a call that fails is none.
use Rattle.std.specs.Prelude.{◌≡◌, ℕ, ◌+◌, ◌<◌, ◌≤◌, List, [], ◌∷◌, ◌++◌, take, drop, Option, Some, None, Result, MatchResult}
use Rattle.outside.specs.declared.failed.Failed.{Failed}
use Rattle.outside.specs.declared.history.Sight.{Sight}
use Rattle.outside.specs.declared.history.Look.{Look}
use Rattle.outside.specs.declared.history.Question.TheVariants.{Length, ReadAt}
use Rattle.outside.specs.Files.{File, IsOfFile, IsNoEarlier, latest, life_of}

-- the place of its opening in its folder's list, its file with the file's number, what was there as it was opened, and
-- its looks in their order
pub record TailHistory : Type 0 where
  pub opening : ℕ
  pub number : ℕ
  pub file : File
  pub begun : Sight
  pub looks : List Look

abbrev pub with_look : TailHistory → Look → TailHistory
with_look told look = record told { looks = told.looks ++ look ∷ [] }

-- what was there when the tail last looked, or was opened
abbrev pub last_sight : TailHistory → Sight
last_sight told = latest told.begun told.looks

-- a look that may come next on this tail
pub record IsNextLook (told : TailHistory) (look : Look) : Type 0 where
  pub of_file : IsOfFile told.file look.sight
  pub no_earlier : IsNoEarlier (last_sight told) look.sight

-- the look asked the length and got this answer
pub record LooksAtLength (told : TailHistory) (answer : ℕ) (after : Option TailHistory) : Type 0 where
  pub look : Look
  pub next : IsNextLook told look
  pub asked : look.question ≡ Length
  pub answered : look.sight.length ≡ answer
  pub kept : after ≡ Some (with_look told look)

abbrev pub TellsLength : Option TailHistory → Result ℕ Failed → Option TailHistory → Type 0
TellsLength None result after = after ≡ None
TellsLength (Some told) result after = MatchResult result (λ answer. LooksAtLength told answer after) (λ _. after ≡ Some told)

-- the look read at the place: the front of the buffer holds this many bytes of the present life from there, and there
-- are none only if what is there of that life ends at or before the place
pub record LooksAtBytes (told : TailHistory) (at : ℕ) (into : List ℕ) (count : ℕ) (after : Option TailHistory) : Type 0 where
  pub look : Look
  pub next : IsNextLook told look
  pub asked : look.question ≡ ReadAt at count
  pub within : 0 < count → at + count ≤ look.sight.length
  pub bytes : take count into ≡ take count (drop at (life_of told.file look.sight.life))
  pub none_only_at_the_end : count ≡ 0 → look.sight.length ≤ at
  pub kept : after ≡ Some (with_look told look)

-- a read that succeeds into a buffer of some bytes is a look; into an empty one it changes nothing
abbrev pub TellsBytes : TailHistory → ℕ → List ℕ → ℕ → Option TailHistory → Type 0
TellsBytes told at [] count after = after ≡ Some told
TellsBytes told at (byte ∷ bytes) count after = LooksAtBytes told at (byte ∷ bytes) count after

abbrev pub TellsRead : Option TailHistory → ℕ → List ℕ → Result ℕ Failed → Option TailHistory → Type 0
TellsRead None at into result after = after ≡ None
TellsRead (Some told) at into result after = MatchResult result (λ count. TellsBytes told at into count after) (λ _. after ≡ Some told)
