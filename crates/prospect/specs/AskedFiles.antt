-- The keys of listed files whose inputs know their files by fingerprints (Filebeat reference, file identity,
-- `fingerprint`; this project's profile): each such file is opened by its path, asked for its key and closed again, one
-- after the other. A file that is too small for its fingerprint has no key yet, and one that is gone has none.
use Rattle.std.specs.Prelude.{◌≡◌, ◌⊎◌, ◌<◌, ℕ, List, [], ◌∷◌, ◌++◌, flat_map, length, map, slice_get, All, Option, Some, None}
use Rattle.std.specs.List.{AllByRecursion}
use Rattle.event_tree.specs.declared.input_rule.InputRule.{InputRule}
use Rattle.file_identity.specs.Answers.{IsAskable, IsFingerprint, IsKeyBy}
use Rattle.file_identity.specs.AskedAgain.{IsRead}
use Rattle.file_identity.specs.Asking.{IsAsking, given_key}
use Rattle.file_looks.specs.Looks.{AreLooks}
use Rattle.outside.specs.declared.history.Look.{Look}
use Rattle.outside.specs.declared.history.Sight.{Sight}
use Rattle.outside.specs.Files.{File}
use Rattle.outside.specs.Folders.{Closed, Event, FolderHistory, NotThere, Opened, OpeningFailed}
use Rattle.prospect.specs.declared.asking.Keyed.{Keyed}
use Rattle.prospect.specs.declared.listed.Listed.{Listed}
use Rattle.prospect.specs.Scan.{with_events}

-- what asking for a listed file's key came to
pub data Answer : Type 0 where
  -- its entry gave the key
  ByName : Answer
  -- the tail of the opening at this place of the folder's list gave this key, or its bytes were too few
  Gave : ℕ → List ℕ → Answer
  TooFew : ℕ → Answer
  -- nothing had the path, at this place of the folder's list
  NotFound : ℕ → Answer

-- a file as it was listed, and what asking for its key came to
pub record AskedFile : Type 0 where
  pub listed : Listed
  pub answer : Answer

-- the file was opened there by its path, reported one whole asking, and was closed without a fault
pub record WasAsked (rule : InputRule) (one : Listed) (opening : ℕ) (key : Option (List ℕ)) (before after : FolderHistory) : Type 0 where
  pub by_bytes : IsFingerprint rule.file_identity
  pub opening_is : opening ≡ length before.events
  pub number : ℕ
  pub begun : Sight
  pub file : File
  pub file_is : slice_get before.files number ≡ Some file
  pub looks : List Look
  pub shown : AreLooks file begun looks
  pub asking : IsAsking rule.file_identity looks
  pub gave : key ≡ given_key rule.id rule.file_identity one.path file looks
  pub kept : after ≡ with_events before (Opened one.path number begun ∷ Closed opening looks 0 ∷ [])

-- no file had its path there
pub record WasGone (rule : InputRule) (one : Listed) (opening : ℕ) (before after : FolderHistory) : Type 0 where
  pub by_bytes : IsFingerprint rule.file_identity
  pub opening_is : opening ≡ length before.events
  pub kept : after ≡ with_events before (NotThere one.path ∷ [])

-- the answer came from this; a file whose entry gave its key is not opened
abbrev pub AnswersSo : InputRule → Listed → Answer → FolderHistory → FolderHistory → Type 0
AnswersSo rule one ByName before after = (¬ (IsFingerprint rule.file_identity)) × (after ≡ before)
AnswersSo rule one (Gave opening key) before after = WasAsked rule one opening (Some key) before after
AnswersSo rule one (TooFew opening) before after = WasAsked rule one opening None before after
AnswersSo rule one (NotFound opening) before after = WasGone rule one opening before after

-- by the input of the file's number
pub record AsksOne (inputs : List InputRule) (asked : AskedFile) (before after : FolderHistory) : Type 0 where
  pub rule : InputRule
  pub rule_is : slice_get inputs asked.listed.input ≡ Some rule
  pub answered : AnswersSo rule asked.listed asked.answer before after

-- one after another, and nothing else was done
abbrev pub AsksFrom : List InputRule → List AskedFile → FolderHistory → FolderHistory → Type 0
AsksFrom inputs [] before after = after ≡ before
AsksFrom inputs (one ∷ asked) before after = (mid : FolderHistory) × AsksOne inputs one before mid × AsksFrom inputs asked mid after

abbrev pub with_key : Listed → List ℕ → Listed
with_key one key = record one { key = Some key }

-- the file with its key, if it is known
abbrev pub keyed_as : Listed → Answer → List Listed
keyed_as one ByName = one ∷ []
keyed_as one (Gave opening key) = with_key one key ∷ []
keyed_as one (TooFew opening) = []
keyed_as one (NotFound opening) = []

abbrev pub keyed_by : AskedFile → List Listed
keyed_by asked = keyed_as asked.listed asked.answer

-- the file, if it was gone
abbrev pub gone_as : Listed → Answer → List Listed
gone_as one ByName = []
gone_as one (Gave opening key) = []
gone_as one (TooFew opening) = []
gone_as one (NotFound opening) = one ∷ []

abbrev pub gone_by : AskedFile → List Listed
gone_by asked = gone_as asked.listed asked.answer

-- the file, if its bytes were too few
abbrev pub small_as : Listed → Answer → List Listed
small_as one ByName = []
small_as one (Gave opening key) = []
small_as one (TooFew opening) = one ∷ []
small_as one (NotFound opening) = []

abbrev pub small_by : AskedFile → List Listed
small_by asked = small_as asked.listed asked.answer

-- each listed file was asked for its key in their order, and is put at the place to which its answer belongs
pub record AsksFiles (inputs : List InputRule) (told : FolderHistory) (listed : List Listed) (keyed : Keyed) (after : Option FolderHistory) : Type 0 where
  pub asked : List AskedFile
  pub are : map (λ one. one.listed) asked ≡ listed
  pub last : FolderHistory
  pub asks : AsksFrom inputs asked told last
  pub after_is : after ≡ Some last
  pub files : keyed.files.items ≡ flat_map keyed_by asked
  pub gone : keyed.gone.items ≡ flat_map gone_by asked
  pub small : keyed.small.items ≡ flat_map small_by asked

-- ---- asking that ended early

-- the file was opened by the path, only read, and closed
pub record OnlyRead (path : List ℕ) (before : FolderHistory) (last : List Event) : Type 0 where
  pub number : ℕ
  pub begun : Sight
  pub looks : List Look
  pub faults : ℕ
  pub reads : AllByRecursion (λ look. IsRead look.question) looks
  pub last_is : last ≡ Opened path number begun ∷ Closed (length before.events) looks faults ∷ []

-- and closed with faults
pub record WasReadInVain (path : List ℕ) (before : FolderHistory) (last : List Event) : Type 0 where
  pub read : OnlyRead path before last
  pub failed : 0 < read.faults

-- opening the file by the path failed, or reading it did
abbrev pub FailsSo : List ℕ → FolderHistory → List Event → Type 0
FailsSo path before last = (last ≡ OpeningFailed path ∷ []) ⊎ WasReadInVain path before last

-- the opening by the path failed, or the file was closed before its key was put anywhere
abbrev pub CutsOff : List ℕ → FolderHistory → List Event → Type 0
CutsOff path before last = (last ≡ OpeningFailed path ∷ []) ⊎ OnlyRead path before last

-- it ended this way at the first of these files, whose input knows its files by fingerprints
pub record CutsFirst (inputs : List InputRule) (others : List Listed) (before : FolderHistory) (last : List Event) : Type 0 where
  pub one : Listed
  pub behind : List Listed
  pub others_are : others ≡ one ∷ behind
  pub rule : InputRule
  pub rule_is : slice_get inputs one.input ≡ Some rule
  pub by_bytes : IsFingerprint rule.file_identity
  pub cut : CutsOff one.path before last

-- nothing more was done, or it ended at the next file
abbrev pub IsCutOff : List InputRule → List Listed → FolderHistory → List Event → Type 0
IsCutOff inputs others before last = (last ≡ []) ⊎ CutsFirst inputs others before last

-- the first of the listed files were asked for their keys in their order, and no other, but that the next one cut it off
pub record AsksSome (inputs : List InputRule) (told : FolderHistory) (listed : List Listed) (after : Option FolderHistory) : Type 0 where
  pub asked : List AskedFile
  pub others : List Listed
  pub are : listed ≡ map (λ one. one.listed) asked ++ others
  pub mid : FolderHistory
  pub asks : AsksFrom inputs asked told mid
  pub last : List Event
  pub ends : IsCutOff inputs others mid last
  pub after_is : after ≡ Some (with_events mid last)

-- ---- what is answered, whether or not anything is known of the folder

-- each fingerprint is of some bytes within a file
abbrev pub AreAskable : List InputRule → Type 0
AreAskable inputs = All (λ input. IsAskable input.file_identity) inputs

-- no input reads its files to know them
abbrev pub ReadNoFile : List InputRule → Type 0
ReadNoFile inputs = All (λ input. ¬ (IsFingerprint input.file_identity)) inputs

-- the file as it was listed if its entry gave the key, and else with a key of as many bytes as are wanted
abbrev pub IsKept : InputRule → Listed → Listed → Type 0
IsKept rule one kept =
    ((¬ (IsFingerprint rule.file_identity)) × (kept ≡ one))
    ⊎ (IsFingerprint rule.file_identity × (key : List ℕ) × IsKeyBy rule.id rule.file_identity one.path None key × (kept ≡ with_key one key))

-- by the input of the file's number
pub record IsKeptOf (inputs : List InputRule) (one kept : Listed) : Type 0 where
  pub rule : InputRule
  pub rule_is : slice_get inputs one.input ≡ Some rule
  pub kept_so : IsKept rule one kept

-- the input of the file's number knows its files by fingerprints
pub record IsLeftOut (inputs : List InputRule) (one : Listed) : Type 0 where
  pub rule : InputRule
  pub rule_is : slice_get inputs one.input ≡ Some rule
  pub by_bytes : IsFingerprint rule.file_identity

-- the files are the listed ones in their order, each with its key; only such as are known by fingerprints are left out
abbrev pub KeepsFiles : List InputRule → List Listed → List Listed → Type 0
KeepsFiles inputs [] files = files ≡ []
KeepsFiles inputs (one ∷ listed) files =
    ((kept : Listed) × (others : List Listed) × IsKeptOf inputs one kept × (files ≡ kept ∷ others) × KeepsFiles inputs listed others)
    ⊎ (IsLeftOut inputs one × KeepsFiles inputs listed files)
