-- What a prospector keeps beside the files that it knows.
use Rattle.std.specs.Prelude.{◌≡◌, ℕ, Bool, true, false, List, All}
use Rattle.prospector_core.specs.declared.marks.Watched.{Watched}
use Rattle.prospector_core.specs.KeyIndex.{IsIndex}
use Rattle.prospector_core.specs.KnownFiles.{AreKnown, KnownFiles}
use Rattle.prospector_core.specs.Marks.{Stays, files_of, here, keys_of}

-- with those that are gone
abbrev pub all_by : List Watched → ℕ → ℕ → KnownFiles
all_by watched next others = record { files = files_of watched; next = next; others = others }

abbrev pub known_by : List Watched → ℕ → ℕ → KnownFiles
known_by watched next others = all_by (here watched) next others

pub record IsWatching (watched : List Watched) (order : List ℕ) (indexed some_gone : Bool) (next others : ℕ) : Type 0 where
  pub apart : AreKnown (all_by watched next others)
  pub index : indexed ≡ true → IsIndex (keys_of watched) order
  pub none_gone : some_gone ≡ false → All Stays watched
