-- A drained folder (this project's profile): the first scan is whole, and each entry that a glob of an input covers was
-- skipped for its named reason, or its file was found with another key in a new life, or its key has a row that is
-- at the end of the last complete line before the file's end. Only that it is there may suppose something, of its slot.
use Rattle.std.specs.Prelude.{◌≡◌, ◌≢◌, ◌⊎◌, ℕ, max, List, [], ◌∷◌, ◌++◌, map, Contains, slice_get, Option, Some, None}
use Rattle.std.specs.List.{AllByRecursion}
use Rattle.std.specs.declared.cmp.Ordering.TheVariants.{Less}
use Rattle.event_tree.specs.declared.input_rule.InputRule.{InputRule}
use Rattle.file_identity.specs.Asking.{IsAsking, given_key}
use Rattle.file_looks.specs.EndLook.{HasEndLook}
use Rattle.outside.specs.declared.history.Look.{Look}
use Rattle.outside.specs.declared.history.Shown.{Shown}
use Rattle.outside.specs.Files.{File, life_of}
use Rattle.told_events.specs.Licence.{whole_lines_end}
use Rattle.wire_base.specs.KeyOrder.{compare}
use Rattle.wire_base.specs.declared.row.Row.{Row}
use Rattle.kept_rows.specs.Account.{EpochAccount, FollowedTail, Following, Reading, SlotAccount, epoch_at, key_of, slot_at}
use Rattle.file_identity.specs.AskedAgain.{HasOtherKey}
use Rattle.file_identity.specs.Answers.{IsFingerprint}
use Rattle.kept_rows.specs.Followed.{AreFollowed}
use Rattle.kept_rows.specs.Premises.{Premises, SeesTruncationsOf}
use Rattle.kept_rows.specs.Run.{Asking, Run, Scan}
use Rattle.kept_rows.specs.Scans.{AsksFor, Gave, IsBefore, IsCovered, IsOld, IsWhole, ShowsEntry, ShowsFile, ShowsFileTo, moment_in}
use Rattle.kept_rows.specs.Telling.{AreSlotAccounts, IsAccount, opening_moment}
use Rattle.kept_rows.specs.Trace.{IsTail, WasGone}

-- ---- the reasons for which a path is skipped

-- an earlier path had its key
pub record IsDoubled (run : Run) (scan : Scan) (shown : Shown) (input : ℕ) : Type 0 where
  pub key : List ℕ
  pub number : ℕ
  pub shows : ShowsFileTo run scan input key number shown
  pub other : ℕ
  pub earlier : List ℕ
  pub shows_earlier : ShowsFile run scan key other earlier
  pub before : compare earlier shown.entry.path ≡ Less

-- the opening was not made for another input
abbrev pub IsOfNoOther : Run → ℕ → ℕ → Type 0
IsOfNoOther run input opening =
    AllByRecursion (λ scan. AllByRecursion (λ asking. asking.opening ≡ Some opening → asking.input ≡ input) scan.askings) run.scans

-- nothing was there by the path as it was to be opened, after the listings of the scan
pub record IsGone (run : Run) (scan : Scan) (path : List ℕ) (input : ℕ) : Type 0 where
  pub opening : ℕ
  pub since : IsBefore opening scan
  pub of_input : IsOfNoOther run input opening
  pub was : WasGone run.trace opening path

-- a tail was opened by the path, after the listings of the scan, and its asking gave this key, or none
pub record WasOpenedWith (run : Run) (rule : InputRule) (scan : Scan) (input : ℕ) (path : List ℕ) (key : Option (List ℕ)) : Type 0 where
  pub opening : ℕ
  pub since : IsBefore opening scan
  pub of_input : IsOfNoOther run input opening
  pub number : ℕ
  pub looks : List Look
  pub tail : IsTail run.trace opening path number looks
  pub file : File
  pub file_is : slice_get run.trace.files number ≡ Some file
  pub asked : List Look
  pub behind : List Look
  pub looks_are : looks ≡ asked ++ behind
  pub asking : IsAsking rule.file_identity asked
  pub gave : key ≡ given_key rule.id rule.file_identity path file asked

-- the file that was opened by the path gave another key than the one that was listed
pub record IsMoved (run : Run) (rule : InputRule) (scan : Scan) (shown : Shown) (input : ℕ) : Type 0 where
  pub key : List ℕ
  pub number : ℕ
  pub shows : ShowsFileTo run scan input key number shown
  pub other : List ℕ
  pub opened : WasOpenedWith run rule scan input shown.entry.path (Some other)
  pub other_key : other ≢ key

-- the asking of the scan gave no key
pub record GaveNoKey (run : Run) (rule : InputRule) (scan : Scan) (shown : Shown) (input : ℕ) : Type 0 where
  pub asking : Asking
  pub asks : AsksFor run scan shown input asking
  pub number : ℕ
  pub gave : Gave run.trace rule shown asking.opening None number

-- not all bytes of the fingerprint were there as the scan asked, or as the file was opened
pub record IsSmall (run : Run) (rule : InputRule) (scan : Scan) (shown : Shown) (input : ℕ) : Type 0 where
  pub by_bytes : IsFingerprint rule.file_identity
  pub gave_none : GaveNoKey run rule scan shown input ⊎ WasOpenedWith run rule scan input shown.entry.path None

-- ---- or else

-- a new life of its file had another key: after the looks of a tail that followed it the length fell, and an asking gave
pub record IsChanged (run : Run) (rule : InputRule) (account : List SlotAccount) (scan : Scan) (shown : Shown) (input : ℕ) : Type 0 where
  pub key : List ℕ
  pub number : ℕ
  pub shows : ShowsFileTo run scan input key number shown
  pub slot : ℕ
  pub one : SlotAccount
  pub slot_is : slot_at slot account ≡ Some one
  pub key_is : key_of one ≡ key
  pub tail : FollowedTail
  pub of_slot : Contains one.following.tails tail
  pub lost : tail.beyond ≢ []
  pub path : List ℕ
  pub file : File
  pub file_is : slice_get run.trace.files one.number ≡ Some file
  pub fall : Look
  pub later : List Look
  pub told : IsTail run.trace tail.opening path one.number (tail.looks ++ fall ∷ later)
  pub other_key : HasOtherKey rule key path file later

-- its file's end was found, and the row is at the end of the last complete line before it, if this is supposed of its slot
pub record IsReadToItsEnd (Supposed : Following → Type 0) (run : Run) (rule : InputRule) (account : List SlotAccount) (row : Row) : Type 0 where
  pub slot : ℕ
  pub one : SlotAccount
  pub slot_is : slot_at slot account ≡ Some one
  pub key_is : key_of one ≡ row.key
  pub epoch : EpochAccount
  pub epoch_is : epoch_at row.epoch.0 one.epochs ≡ Some epoch
  pub reading : Reading
  pub of_epoch : Contains epoch.readings reading
  pub place : ℕ
  pub found : HasEndLook reading.segment place
  pub file : File
  pub file_is : slice_get run.trace.files one.number ≡ Some file
  pub offset_is : Supposed one.following → row.offset ≡ whole_lines_end rule.lines (life_of file epoch.life) epoch.start place

-- its key has a row, with the greater of the opening row's moment and one with which the path was listed
pub record HasRow (Supposed : Following → Type 0) (run : Run) (rule : InputRule) (account : List SlotAccount) (rows : List Row) (scan : Scan) (shown : Shown) (input : ℕ) : Type 0 where
  pub key : List ℕ
  pub number : ℕ
  pub shows : ShowsFileTo run scan input key number shown
  pub row : Row
  pub of_rows : Contains rows row
  pub key_is : row.key ≡ key
  pub listed : Shown
  pub lists : ShowsEntry run.trace scan listed
  pub same_path : listed.entry.path ≡ shown.entry.path
  pub moment_is : row.changed.0 ≡ max (opening_moment run.opening key) (moment_in listed)
  pub read : IsReadToItsEnd Supposed run rule account row

-- ---- together

abbrev pub IsPassedOver : Run → InputRule → Scan → Shown → ℕ → Type 0
IsPassedOver run rule scan shown input =
    IsDoubled run scan shown input
    ⊎ (IsOld rule scan shown
    ⊎ (IsGone run scan shown.entry.path input
    ⊎ (IsMoved run rule scan shown input
    ⊎ IsSmall run rule scan shown input)))

abbrev pub IsDoneWith : (Following → Type 0) → Run → List SlotAccount → List Row → InputRule → Scan → Shown → ℕ → Type 0
IsDoneWith Supposed run account rows rule scan shown input =
    IsPassedOver run rule scan shown input
    ⊎ (IsChanged run rule account scan shown input ⊎ HasRow Supposed run rule account rows scan shown input)

pub record IsDrainedWhere (Supposed : Following → Type 0) (run : Run) (account : List SlotAccount) (rows : List Row) : Type 0 where
  pub scan : Scan
  pub first : slice_get run.scans 0 ≡ Some scan
  pub whole : IsWhole run scan
  pub each : (shown : Shown) (input : ℕ) (rule : InputRule) → ShowsEntry run.trace scan shown →
      slice_get run.settings.inputs input ≡ Some rule → IsCovered rule.paths shown.entry.path →
      IsDoneWith Supposed run account rows rule scan shown input

-- nothing is supposed
abbrev pub NothingSupposed : Following → Type 0
NothingSupposed following = Unit {0}

abbrev pub IsDrained : Run → List SlotAccount → List Row → Type 0
IsDrained run account rows = IsDrainedWhere NothingSupposed run account rows

-- of each row by itself, that its slot's truncations are seen
abbrev pub IsDrainedBySlots : Run → List SlotAccount → List Row → Type 0
IsDrainedBySlots run account rows = IsDrainedWhere SeesTruncationsOf run account rows

-- ---- of all slots

-- if the premises hold of all slots, what is said slot by slot is said of the run as a whole
pub record SlotsGiveTheWhole (run : Run) (account : List SlotAccount) (rows : List Row) : Type 0 where
  pub is_account : Premises run (map (λ one. one.following) account) → AreFollowed run (map (λ one. one.following) account) →
      AreSlotAccounts run account → IsAccount run account
  pub is_drained : Premises run (map (λ one. one.following) account) → IsDrainedBySlots run account rows → IsDrained run account rows
