-- What the members of a scan so far reported, and what is ready for the files that they began.
use Rattle.std.specs.Prelude.{◌≡◌, ◌≢◌, ◌⊎◌, ℕ, ◌+◌, ◌<◌, ◌≤◌, All, slice_index_or, slice_set, Bool, true, false, cond, List, [], ◌∷◌, ◌++◌, length, map, Some, None, is_some}
use Rattle.std.specs.BTreeMap.{is_at}
use Rattle.std.specs.BTreeSet.{contains}
use Rattle.prospector_core.specs.declared.change.Change.{Change}
use Rattle.prospector_core.specs.declared.change.Change.TheVariants.{Created, Doubled}
use Rattle.prospector_core.specs.declared.known.Known.{Known}
use Rattle.prospector_core.specs.declared.limits.TheConstants.{MAX_FILES}
use Rattle.prospector_core.specs.declared.told.Scan.{Scan}
use Rattle.prospector_core.specs.declared.marks.Mark.TheVariants.{Held}
use Rattle.prospector_core.specs.declared.marks.Watched.{Watched}
use Rattle.prospector_core.specs.declared.prospect_error.ProspectError.{ProspectError}
use Rattle.prospector_core.specs.declared.prospect_error.ProspectError.TheVariants.{TooMany, NoMemory}
use Rattle.prospector_core.specs.declared.seen.Seen.{Seen}
use Rattle.prospector_core.specs.declared.told.Told.{Told}
use Rattle.prospector_core.specs.Changes.{changes_between, created_file, created_files, member_changes, new_members, slot_of}
use Rattle.prospector_core.specs.Earlier.{flat_map_with_earlier}
use Rattle.prospector_core.specs.KnownFiles.{KnownFiles, first_with, known_with}
use Rattle.prospector_core.specs.Limits.{full_at, refusals}
use Rattle.prospector_core.specs.KeyIndex.{key_at}
use Rattle.prospector_core.specs.Marks.{keys_of, marked_changes, next_mark, watched_by}
use Rattle.wire_base.specs.KeyOrder.{compare}

-- a file that this scan began stays as it is
abbrev pub begun : Known → Watched
begun file = record { file = file; mark = Held; gone = false }

-- all that was reported and made by these members
pub record IsToldBy (clean : List Bool) (known : KnownFiles) (seen : List Seen) (files : List Watched) (told : Told) : Type 0 where
  pub marks : files ≡ map (watched_by clean seen) known.files
  pub changes : told.changes.items ≡ flat_map_with_earlier (member_changes clean known) [] seen
  pub created : told.created.items ≡ map begun (created_files known.next (new_members known.files seen))
  pub keys : (key : List ℕ) → known_with key known.files ≡ None → contains compare told.keys key ≡ is_some (first_with key seen)
  pub next : told.next ≡ known.next + length (new_members known.files seen)
  pub count : told.files ≡ length known.files + known.others + length (new_members known.files seen)
  pub none_refused : refusals known seen ≡ []
  pub few : told.files ≤ MAX_FILES

-- ---- one member of which no file is known

pub record ToldDoubled (old : Told) (member : Seen) (new : Told) : Type 0 where
  pub changes : new.changes.items ≡ old.changes.items ++ Doubled member.path ∷ []
  pub created : new.created.items ≡ old.created.items
  pub keys : (key : List ℕ) → contains compare new.keys key ≡ contains compare old.keys key
  pub next : new.next ≡ old.next
  pub count : new.files ≡ old.files

pub record ToldCreated (old : Told) (member : Seen) (new : Told) : Type 0 where
  pub room : full_at old.files old.next ≡ None
  pub changes : new.changes.items ≡ old.changes.items ++ Created (slot_of old.next) member.input member.key member.path member.size ∷ []
  pub created : new.created.items ≡ old.created.items ++ begun (created_file old.next member) ∷ []
  pub keys : (key : List ℕ) → contains compare new.keys key ≡ cond (is_at (compare member.key) key) true (contains compare old.keys key)
  pub next : new.next ≡ old.next + 1
  pub count : new.files ≡ old.files + 1

-- by whether an earlier member has the key
abbrev pub ToldStrange : Bool → Told → Seen → Told → Type 0
ToldStrange true = ToldDoubled
ToldStrange false = ToldCreated

-- no earlier member has the key, and one file more is too many
abbrev pub IsRefusedStrange : Told → Seen → ProspectError → Type 0
IsRefusedStrange told member (TooMany what path) =
    (contains compare told.keys member.key ≡ false) × (full_at told.files told.next ≡ Some what) × (path ≡ member.path)
IsRefusedStrange told member NoMemory = Unit {0}

-- ---- one member

-- these changes were reported, and no file began
pub record ToldMore (told : Told) (more : List Change) (later : Told) : Type 0 where
  pub changes : later.changes.items ≡ told.changes.items ++ more
  pub created : later.created.items ≡ told.created.items
  pub keys : (key : List ℕ) → contains compare later.keys key ≡ contains compare told.keys key
  pub next : later.next ≡ told.next
  pub count : later.files ≡ told.files

-- a file with the key is known
pub record TellsKnown (clean : List Bool) (files others : List Watched) (member : Seen) (told later : Told) : Type 0 where
  pub place : ℕ
  pub old : Watched
  pub one : Watched
  pub within : place < length files
  pub key : key_at (keys_of files) place ≡ member.key
  pub here : old ≡ slice_index_or files place old
  pub changed : others ≡ slice_set files place one
  pub kept : one.file ≡ old.file
  pub stays : one.gone ≡ old.gone
  pub marked : one.mark ≡ next_mark clean old.file member old.mark
  pub told_more : ToldMore told (marked_changes clean old.file member old.mark) later

-- none is known
pub record TellsStrange (files others : List Watched) (member : Seen) (told later : Told) : Type 0 where
  pub absent : All (λ one. one.file.key ≢ member.key) files
  pub same : others ≡ files
  pub strange : ToldStrange (contains compare told.keys member.key) told member later

abbrev pub TellsMember : List Bool → List Watched → List Watched → Seen → Told → Told → Type 0
TellsMember clean files others member told later = TellsKnown clean files others member told later ⊎ TellsStrange files others member told later

abbrev pub RefusesMember : List Watched → Told → Seen → ProspectError → Type 0
RefusesMember files told member (TooMany what path) =
    All (λ one. one.file.key ≢ member.key) files × IsRefusedStrange told member (TooMany what path)
RefusesMember files told member NoMemory = Unit {0}

-- ---- all members

-- what the scan reported, and the files with what it showed of each
pub record HasTold (scan : Scan) (known : KnownFiles) (files : List Watched) (told : Told) : Type 0 where
  pub marks : files ≡ map (watched_by scan.clean.now scan.seen.now) known.files
  pub changes : told.changes.items ≡ changes_between scan.clean.now scan.whole known scan.seen.now
  pub created : told.created.items ≡ map begun (created_files known.next (new_members known.files scan.seen.now))
  pub next : told.next ≡ known.next + length (new_members known.files scan.seen.now)
  pub none_refused : refusals known scan.seen.now ≡ []
  pub few : length known.files + known.others + length (new_members known.files scan.seen.now) ≤ MAX_FILES

-- the same, with the files that it began after the others
pub record HasAdded (scan : Scan) (known : KnownFiles) (files : List Watched) (told : Told) : Type 0 where
  pub marks : files ≡ map (watched_by scan.clean.now scan.seen.now) known.files ++ map begun (created_files known.next (new_members known.files scan.seen.now))
  pub changes : told.changes.items ≡ changes_between scan.clean.now scan.whole known scan.seen.now
  pub next : told.next ≡ known.next + length (new_members known.files scan.seen.now)
  pub none_refused : refusals known scan.seen.now ≡ []
  pub few : length known.files + known.others + length (new_members known.files scan.seen.now) ≤ MAX_FILES
