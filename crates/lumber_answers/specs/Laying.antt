-- Lines that are laid one after another and written together (this project's profile).
use Rattle.std.specs.Prelude.{◌≡◌, ℕ, List, ◌++◌, take, Option}
use Rattle.lumber_answers.specs.Changes.{SinkTakes}

-- of all the bytes some were written, and these are laid
pub record WritesSome (before : Option (List ℕ)) (all laid : List ℕ) (after : Option (List ℕ)) : Type 0 where
  pub bytes : List ℕ
  pub takes : SinkTakes before bytes after
  pub whole : bytes ++ laid ≡ all

-- a front of all the bytes was written
pub record WritesFront (before : Option (List ℕ)) (all : List ℕ) (after : Option (List ℕ)) : Type 0 where
  pub count : ℕ
  pub takes : SinkTakes before (take count all) after
