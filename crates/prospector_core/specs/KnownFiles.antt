-- The files that are remembered from one scan to the next (Filebeat reference, filestream input; this project's
-- profile): each has a slot, an input, a key, the path and size that were last seen, and is present or removed.
use Rattle.std.specs.Prelude.{◌≡◌, ◌≢◌, ℕ, ◌+◌, ◌<◌, ◌≤◌, List, length, slice_index_or, true, All, AllPairs, Option}
use Rattle.prospector_core.specs.declared.known.Known.{Known}
use Rattle.prospector_core.specs.declared.limits.TheConstants.{MAX_FILES}
use Rattle.prospector_core.specs.declared.seen.Seen.{Seen}
use Rattle.std.specs.Option.{option_map}
use Rattle.wire_base.specs.declared.note.Begin.{Begin}
use Rattle.wire_base.specs.declared.numbers.Slot.{Slot}
use Rattle.wire_base.specs.KeyOrder.{find}
use Rattle.wire_base.specs.Ranges.{IsKey, IsPath, IsPlace}

-- what a scan may show
pub record IsSeen (member : Seen) : Type 0 where
  pub key : IsKey member.key
  pub path : IsPath member.path
  pub size : IsPlace member.size

-- the known files in the order of their slots, the slot of the next one, and how many files besides count
pub record KnownFiles : Type 0 where
  pub files : List Known
  pub next : ℕ
  pub others : ℕ

abbrev pub member_key : Seen → List ℕ
member_key member = member.key

abbrev pub file_key : Known → List ℕ
file_key file = file.key

-- the first member with the key
abbrev pub first_with : List ℕ → List Seen → Option Seen
first_with key members = find member_key key members

-- the known file with the key
abbrev pub known_with : List ℕ → List Known → Option Known
known_with key files = find file_key key files

-- its slot
abbrev pub slot_with : List ℕ → List Known → Option Slot
slot_with key files = option_map (λ file. file.slot) (known_with key files)

-- a lower slot and another key
pub record StandsBefore (file later : Known) : Type 0 where
  pub slot : file.slot.0 < later.slot.0
  pub key : file.key ≢ later.key

-- the slots rise, no two keys are the same, and there are no more files than may be
pub record AreKnown (known : KnownFiles) : Type 0 where
  pub apart : AllPairs StandsBefore known.files
  pub slots : All (λ file. file.slot.0 < known.next) known.files
  pub few : length known.files + known.others ≤ MAX_FILES

-- a file as it begins
abbrev pub known_of : Begin → Known
known_of begin = record { slot = begin.slot; input = begin.input; key = begin.key; path = begin.path; size = begin.size; present = true }

-- the slots are 0, 1 and so on in their order, and no two keys are the same
pub record AreBegun (begins : List Begin) : Type 0 where
  pub slots : (i : ℕ) (d : Begin) → i < length begins → (slice_index_or begins i d).slot.0 ≡ i
  pub keys : AllPairs (λ begin later. begin.key ≢ later.key) begins
