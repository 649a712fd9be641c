-- How the file of a slot is followed (Filebeat reference, filestream input, file identity; this project's profile): with
-- which epoch and place it is begun, which tails read it, and when its key was asked again.
use Rattle.std.specs.Prelude.{◌≡◌, ◌⊎◌, ℕ, zero, suc, ◌+◌, ◌<◌, ◌≤◌, nat_le, List, [], ◌∷◌, ◌++◌, map, flat_map, codes, Contains, slice_get, Option, Some, None, IsSomeAnd, if◌then◌else◌}
use Rattle.std.specs.List.{AllByRecursion, filter_map}
use Rattle.event_tree.specs.declared.input_rule.InputRule.{InputRule}
use Rattle.file_identity.specs.AskedAgain.{IsRead, KeepsKey, SomeAskingGives, StillHasKey}
use Rattle.file_looks.specs.Reading.{ReadOn}
use Rattle.file_looks.specs.Segment.{Segment, read_to, segments_of, steps_in}
use Rattle.outside.specs.declared.history.Look.{Look}
use Rattle.outside.specs.declared.history.Question.TheVariants.{Length}
use Rattle.outside.specs.declared.history.Shown.{Shown}
use Rattle.outside.specs.declared.history.Sight.{Sight}
use Rattle.outside.specs.Files.{File}
use Rattle.outside.specs.Folders.{Closed, Opened}
use Rattle.ship_core.specs.Rows.{find}
use Rattle.wire_base.specs.declared.row.Row.{Row}
use Rattle.kept_rows.specs.Account.{FollowedTail, Following}
use Rattle.kept_rows.specs.Askings.{AsksInOrder}
use Rattle.kept_rows.specs.Run.{Run, Scan}
use Rattle.kept_rows.specs.Scans.{AllButTheLast, AreAsked, AreDistinct, AreScans, IsFirstPath, IsWhole, ShowsFileAt, ShowsKey}
use Rattle.kept_rows.specs.Trace.{IsTail, Trace, looks_of}

-- ---- how it is begun

-- an epoch, and the place from which on it is reported
pub record Start : Type 0 where
  pub epoch : ℕ
  pub base : ℕ

-- by the row that the registry had as it was opened, if it had one, and the size with which the first scan lists the file
abbrev pub start_by : Option Row → ℕ → Start
start_by None size = record { epoch = 0; base = 0 }
start_by (Some row) size =
    if nat_le row.offset size then record { epoch = row.epoch.0; base = row.offset }
    else record { epoch = row.epoch.0 + 1; base = 0 }

-- of a file that the first scan does not list
abbrev pub start_unlisted : Row → Start
start_unlisted row = record { epoch = row.epoch.0; base = row.offset }

abbrev pub start_of : Following → Start
start_of following = record { epoch = following.epoch; base = following.base }

-- the first scan shows the key, by this path first
pub record StartsListed (run : Run) (scan : Scan) (following : Following) : Type 0 where
  pub number : ℕ
  pub shown : Shown
  pub shows : ShowsFileAt run scan following.key number shown
  pub first : IsFirstPath run scan following.key number shown.entry.path
  pub starts : start_of following ≡ start_by (find following.key run.opening) shown.entry.size

-- it does not, and the registry had its row
pub record StartsUnlisted (run : Run) (scan : Scan) (following : Following) : Type 0 where
  pub hidden : ¬ (ShowsKey run scan following.key)
  pub row : Row
  pub found : find following.key run.opening ≡ Some row
  pub starts : start_of following ≡ start_unlisted row

-- a later scan is the first that shows it; that it was not known before is said of the whole account
pub record StartsLater (run : Run) (scan : Scan) (following : Following) : Type 0 where
  pub shows : ShowsKey run scan following.key
  pub starts : start_of following ≡ record { epoch = 0; base = 0 }

-- by the number of the scan
abbrev pub StartsAt : ℕ → Run → Scan → Following → Type 0
StartsAt zero run scan following = StartsListed run scan following ⊎ StartsUnlisted run scan following
StartsAt (suc earlier) run scan following = StartsLater run scan following

pub record IsBegun (run : Run) (following : Following) : Type 0 where
  pub scan : Scan
  pub scan_is : slice_get run.scans following.known_from ≡ Some scan
  pub starts : StartsAt following.known_from run scan following

-- ---- the tails

-- after the looks of the tail the length was below the place up to which was read, and no asking gave the key any more
pub record LostItsKey (rule : InputRule) (key path : List ℕ) (file : File) (tail : FollowedTail) : Type 0 where
  pub fall : Look
  pub later : List Look
  pub beyond_is : tail.beyond ≡ fall ∷ later
  pub asks : fall.question ≡ Length
  pub front : List Segment
  pub last : Segment
  pub segments_are : segments_of tail.place tail.looks ≡ front ++ last ∷ []
  pub below : fall.sight.length < read_to last
  pub other_key : ¬ (SomeAskingGives rule key path file later)

-- a tail that follows the key's file: as it was opened the file gave the key, and it did so when a new life began
pub record IsFollowedTail (run : Run) (rule : InputRule) (key : List ℕ) (tail : FollowedTail) : Type 0 where
  pub path : List ℕ
  pub number : ℕ
  pub file : File
  pub file_is : slice_get run.trace.files number ≡ Some file
  pub told : IsTail run.trace tail.opening path number (tail.looks ++ tail.beyond)
  pub opened_with_key : StillHasKey rule key path file tail.looks
  pub kept_key : AllByRecursion (KeepsKey rule key path file) (segments_of tail.place tail.looks)
  pub reads_on : AllByRecursion (λ segment. ReadOn (steps_in segment)) (segments_of tail.place tail.looks)
  pub end : (tail.beyond ≡ []) ⊎ LostItsKey rule key path file tail

-- the tail was closed, after its own opening, before the next one was opened
pub record IsClosedBefore (trace : Trace) (tail next : FollowedTail) : Type 0 where
  pub place : ℕ
  pub looks : List Look
  pub faults : ℕ
  pub closed : slice_get trace.events place ≡ Some (Closed tail.opening looks faults)
  pub since : tail.opening < place
  pub before : place < next.opening

abbrev pub AreOneByOne : Trace → List FollowedTail → Type 0
AreOneByOne trace [] = Unit {0}
AreOneByOne trace (last ∷ []) = Unit {0}
AreOneByOne trace (tail ∷ next ∷ tails) = IsClosedBefore trace tail next × AreOneByOne trace (next ∷ tails)

-- the key is one of the input of this id
pub record IsKeyOf (id key : List ℕ) : Type 0 where
  pub rest : List ℕ
  pub spelled : key ≡ codes "filestream::" ++ (id ++ (codes "::" ++ rest))

pub record IsFollowing (run : Run) (following : Following) : Type 0 where
  pub rule : InputRule
  pub rule_is : slice_get run.settings.inputs following.input ≡ Some rule
  pub key_of_input : IsKeyOf rule.id following.key
  pub begun : IsBegun run following
  pub tails : AllByRecursion (IsFollowedTail run rule following.key) following.tails
  pub one_by_one : AreOneByOne run.trace following.tails

-- ---- slots of one key

-- the slots rise from this one on
abbrev pub AreRising : ℕ → List Following → Type 0
AreRising least [] = Unit {0}
AreRising least (one ∷ others) = (least ≤ one.slot) × AreRising (one.slot + 1) others

-- if both have one key, the earlier one was gone before the later one was known
abbrev pub IsGoneBefore : Following → Following → Type 0
IsGoneBefore earlier later = earlier.key ≡ later.key → IsSomeAnd earlier.gone_after (λ last. last < later.known_from)

abbrev pub AreInTurn : List Following → Type 0
AreInTurn [] = Unit {0}
AreInTurn (one ∷ others) = AllByRecursion (IsGoneBefore one) others × AreInTurn others

-- no scan with a number from the first up to the second showed the key
abbrev pub WasHidden : Run → List ℕ → ℕ → ℕ → Type 0
WasHidden run key since until =
    (number : ℕ) (scan : Scan) → since ≤ number → number < until → slice_get run.scans number ≡ Some scan → ¬ (ShowsKey run scan key)

-- an earlier slot of the key, which went by then
pub record HasWent (followings : List Following) (one : Following) (last : ℕ) : Type 0 where
  pub earlier : Following
  pub among : Contains followings earlier
  pub before : earlier.slot < one.slot
  pub key_is : earlier.key ≡ one.key
  pub gone : earlier.gone_after ≡ Some last

-- a whole scan that showed no file with the key
pub record WasHiddenByWhole (run : Run) (key : List ℕ) (number : ℕ) : Type 0 where
  pub scan : Scan
  pub scan_is : slice_get run.scans number ≡ Some scan
  pub whole : IsWhole run scan
  pub hidden : ¬ (ShowsKey run scan key)

-- the key had no row: the registry had none, or an earlier slot of it went
abbrev pub HadNoRow : Run → List Following → Following → Type 0
HadNoRow run followings one = (find one.key run.opening ≡ None) ⊎ ((last : ℕ) × HasWent followings one last)

-- from this scan on the key was not known: from the first one, from the one after that by which an earlier slot went, or from
-- a whole scan that did not show it
abbrev pub IsUnknownFrom : Run → List Following → Following → ℕ → Type 0
IsUnknownFrom run followings one since =
    (since ≡ 0) ⊎ (((last : ℕ) × HasWent followings one last × (since ≡ last + 1)) ⊎ WasHiddenByWhole run one.key since)

-- a key that a later scan than the first made known
pub record BecomesKnown (run : Run) (followings : List Following) (one : Following) : Type 0 where
  pub no_row : HadNoRow run followings one
  pub since : ℕ
  pub unknown : IsUnknownFrom run followings one since
  pub hidden : WasHidden run one.key since one.known_from

abbrev pub IsNewlyKnown : Run → List Following → Following → Type 0
IsNewlyKnown run followings one = 0 < one.known_from → BecomesKnown run followings one

-- ---- all that is followed

abbrev pub asked_openings : Run → List ℕ
asked_openings run = flat_map (λ scan. filter_map (λ asking. asking.opening) scan.askings) run.scans

abbrev pub followed_openings : List Following → List ℕ
followed_openings followings = flat_map (λ one. map (λ tail. tail.opening) one.tails) followings

-- a tail that never asked the length read nothing that counts
pub record OnlyReads (trace : Trace) (opening : ℕ) : Type 0 where
  pub looks : List Look
  pub tells : looks_of trace opening ≡ Some looks
  pub none_at_length : AllByRecursion (λ look. IsRead look.question) looks

-- each opening of the run follows a slot's file, or only asked for a key
abbrev pub EachOpeningServes : Run → List Following → Type 0
EachOpeningServes run followings = (opening : ℕ) (path : List ℕ) (number : ℕ) (begun : Sight) → run.trace.began ≤ opening →
    slice_get run.trace.events opening ≡ Some (Opened path number begun) →
    Contains (followed_openings followings) opening ⊎ OnlyReads run.trace opening

-- how the files of a run are followed; nothing is supposed of the files
pub record AreFollowed (run : Run) (followings : List Following) : Type 0 where
  pub scans : AreScans run
  pub asked : AllButTheLast (AreAsked run) run.scans
  pub asks_in_order : AllByRecursion (AsksInOrder run) run.scans
  pub each : AllByRecursion (IsFollowing run) followings
  pub slots_rise : AreRising 0 followings
  pub in_turn : AreInTurn followings
  pub newly_known : AllByRecursion (IsNewlyKnown run followings) followings
  pub openings_apart : AreDistinct (asked_openings run ++ followed_openings followings)
  pub openings_serve : EachOpeningServes run followings
