-- Which of the entries the inputs cover, path by path, then input by input, then entry by entry (this project's profile).
use Rattle.std.specs.Prelude.{◌≡◌, ◌⊎◌, ℕ, ◌<◌, ◌^◌, List, [], ◌∷◌, ◌++◌, flat_map, map, Option, IfSome}
use Rattle.file_identity.specs.Answers.{LacksNumbers}
use Rattle.file_identity.specs.Key.{listed_key}
use Rattle.outside.specs.declared.entry.Entry.{Entry}
use Rattle.prospect.specs.declared.listed.Listed.{Listed}
use Rattle.prospect.specs.declared.scan_error.ScanError.{ScanError}
use Rattle.prospect.specs.declared.scan_error.ScanError.TheVariants.{Failed, NoMemory, NoNative}
use Rattle.prospect.specs.declared.showing.Showing.{Showing}
use Rattle.prospect.specs.ListedFiles.{KeyIsTold}
use Rattle.prospect.specs.Members.{IsCovered}
use Rattle.prospect.specs.Readings.{Reading}
use Rattle.prospect.specs.Showings.{entries_for}

-- an entry, and an input that may cover it
pub record Pair : Type 0 where
  pub entry : Entry
  pub reading : Reading

abbrev pub pair_of : Entry → Reading → Pair
pair_of entry reading = record { entry = entry; reading = reading }

-- the entries of a path with an input, as far as it distinguishes them
abbrev pub pairs_for : Showing → Reading → List Pair
pairs_for showing reading = map (λ entry. pair_of entry reading) (entries_for reading.identity showing)

-- with each input
abbrev pub pairs_with : List Reading → Showing → List Pair
pairs_with readings showing = flat_map (pairs_for showing) readings

-- path by path
abbrev pub pairs_of : List Reading → List Showing → List Pair
pairs_of readings showings = flat_map (pairs_with readings) showings

abbrev pub CoversEntry : Pair → Type 0
CoversEntry pair = IsCovered pair.reading.globs pair.entry.path

-- inode and device, if they were given
abbrev pub AreNumbers : Option (ℕ × ℕ) → Type 0
AreNumbers numbers = IfSome numbers (λ both. (both.0 < 2 ^ 64) × (both.1 < 2 ^ 64))

-- the entry is a file of the input
pub record IsFileOf (pair : Pair) : Type 0 where
  pub covers : CoversEntry pair
  pub numbers : AreNumbers pair.entry.native
  pub told : KeyIsTold pair.reading.identity (listed_key pair.reading.id pair.reading.identity pair.entry)

-- the entry as a file of the input
abbrev pub file_of : Pair → Listed
file_of pair = record {
  input = pair.reading.number;
  key = listed_key pair.reading.id pair.reading.identity pair.entry;
  path = pair.entry.path;
  size = pair.entry.size;
  changed = pair.entry.changed;
}

-- the files of those pairs whose input covers the entry
abbrev pub AreCovered : List Pair → List Listed → Type 0
AreCovered [] listed = listed ≡ []
AreCovered (pair ∷ pairs) listed =
    (IsFileOf pair × (others : List Listed) × (listed ≡ file_of pair ∷ others) × AreCovered pairs others)
    ⊎ ((¬ (CoversEntry pair)) × AreCovered pairs listed)

-- those were added
pub record AddsCovered (pairs : List Pair) (old new : List Listed) : Type 0 where
  pub more : List Listed
  pub covered : AreCovered pairs more
  pub added : new ≡ old ++ more

-- the pair at which adding stopped, and the files that were added before it
pub record Stop (pairs : List Pair) : Type 0 where
  pub before : List Pair
  pub pair : Pair
  pub behind : List Pair
  pub pairs_are : pairs ≡ before ++ pair ∷ behind
  pub more : List Listed
  pub covered_before : AreCovered before more

-- the input of this pair asks for the numbers of an entry that it covers, and none were given
pub record IsUntold (pairs : List Pair) (path : List ℕ) : Type 0 where
  pub stop : Stop pairs
  pub covers : CoversEntry stop.pair
  pub lacks : LacksNumbers stop.pair.reading.identity stop.pair.entry.native
  pub path_is : stop.pair.entry.path ≡ path

-- why an entry is no file; out of memory may come with any
abbrev pub IsKeyless : Pair → ScanError → Type 0
IsKeyless pair Failed = ⊥
IsKeyless pair NoMemory = Unit {0}
IsKeyless pair (NoNative path) = LacksNumbers pair.reading.identity pair.entry.native × (pair.entry.path ≡ path)

-- why no more were added; out of memory may come with any
abbrev pub StopsAt : List Pair → ScanError → Type 0
StopsAt pairs Failed = ⊥
StopsAt pairs NoMemory = Unit {0}
StopsAt pairs (NoNative path) = IsUntold pairs path
