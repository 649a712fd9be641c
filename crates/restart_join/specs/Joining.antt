-- The files with which a run begins: one for each key that its first scan shows, by the key's first path in byte order,
-- with slots in that order (Filebeat reference, filestream input; this project's profile).
use Rattle.std.specs.Prelude.{◌≡◌, ℕ, ◌+◌, nat_le, List, [], ◌∷◌, length, filter, slice_get, Option, Some, None, is_none, is_some, if◌then◌else◌}
use Rattle.prospector_core.specs.declared.limits.TheConstants.{MAX_FILES, MAX_SLOTS}
use Rattle.prospector_core.specs.declared.seen.Seen.{Seen}
use Rattle.prospector_core.specs.Earlier.{flat_map_with_earlier}
use Rattle.prospector_core.specs.KnownFiles.{first_with}
use Rattle.prospector_core.specs.Limits.{Refusal, refusal_of}
use Rattle.restart_join.specs.declared.join_error.JoinError.{JoinError}
use Rattle.restart_join.specs.declared.join_error.JoinError.TheVariants.{TooMany, NoMemory}
use Rattle.restart_join.specs.declared.start.TheConstants.{MAX_EPOCH}
use Rattle.restart_join.specs.PathOrder.{InPathOrder, members_at}
use Rattle.restart_join.specs.declared.start.Start.{Start}
use Rattle.restart_join.specs.Starts.{start_of}
use Rattle.ship_core.specs.Rows.{find}
use Rattle.wire_base.specs.declared.limits.Full.{Full}
use Rattle.wire_base.specs.declared.limits.Full.TheVariants.{Files, Epochs, Slots}
use Rattle.wire_base.specs.declared.note.Begin.{Begin}
use Rattle.wire_base.specs.declared.row.Row.{Row}

-- the member if no earlier one has its key
abbrev pub first_one : List Seen → Seen → List Seen
first_one earlier member = if is_some (first_with member.key earlier) then [] else member ∷ []

abbrev pub first_ones : List Seen → List Seen
first_ones members = flat_map_with_earlier first_one [] members

abbrev pub begin_at : ℕ → Seen → Start → Begin
begin_at slot member start = record {
  slot = record { 0 = slot };
  input = member.input;
  key = member.key;
  path = member.path;
  size = member.size;
  epoch = record { 0 = start.epoch };
  base = start.base;
}

-- of one member, by those before it
abbrev pub member_begin : List Row → ℕ → List Seen → Seen → List Begin
member_begin rows first earlier member =
    if is_some (first_with member.key earlier) then []
    else begin_at (first + length (first_ones earlier)) member (start_of member.size (find member.key rows)) ∷ []

abbrev pub begins_of : List Row → ℕ → List Seen → List Begin
begins_of rows first members = flat_map_with_earlier (member_begin rows first) [] members

-- ---- what is too much

-- how many of the keys have no row
abbrev pub new_keys : List Row → List Seen → ℕ
new_keys rows members = length (filter (λ member. is_none (find member.key rows)) (first_ones members))

-- this many rows and files without one count, this many slots were given: files without a row add to the files, a file that
-- is shorter than its row's offset needs a further epoch, and each takes a slot
abbrev pub full_slots : ℕ → Option Full
full_slots slots = if nat_le MAX_SLOTS slots then Some Slots else None

abbrev pub full_for : ℕ → ℕ → ℕ → Option Row → Option Full
full_for files slots size None = if nat_le MAX_FILES files then Some Files else full_slots slots
full_for files slots size (Some row) =
    if nat_le row.offset size then full_slots slots else (if nat_le MAX_EPOCH row.epoch.0 then Some Epochs else full_slots slots)

abbrev pub member_refusal : List Row → ℕ → List Seen → Seen → List Refusal
member_refusal rows first earlier member =
    if is_some (first_with member.key earlier) then []
    else refusal_of member (full_for (length rows + new_keys rows earlier) (first + length (first_ones earlier)) member.size (find member.key rows))

-- each key that is too much
abbrev pub refusals : List Row → ℕ → List Seen → List Refusal
refusals rows first members = flat_map_with_earlier (member_refusal rows first) [] members

-- ---- what is answered

-- none is too much, and these are the begins
pub record Joins (rows : List Row) (seen : List Seen) (first : ℕ) (begins : List Begin) : Type 0 where
  pub order : List ℕ
  pub in_order : InPathOrder seen order
  pub none_refused : refusals rows first (members_at seen order) ≡ []
  pub begins_are : begins ≡ begins_of rows first (members_at seen order)

-- the first that is too much
pub record RefusesFirst (rows : List Row) (seen : List Seen) (first : ℕ) (what : Full) (path : List ℕ) : Type 0 where
  pub order : List ℕ
  pub in_order : InPathOrder seen order
  pub first_refusal : slice_get (refusals rows first (members_at seen order)) 0 ≡ Some (record { what = what; path = path })

-- out of memory may come with any
abbrev pub IsRefused : List Row → List Seen → ℕ → JoinError → Type 0
IsRefused rows seen first (TooMany what path) = RefusesFirst rows seen first what path
IsRefused rows seen first NoMemory = Unit {0}
