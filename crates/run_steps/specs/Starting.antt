-- Where the files of a scan start (this project's profile), each by the row of its key, and which of them is too much: rows and files
-- without one are at most 65,536, and a file that is shorter than its row's offset needs a further epoch.
use Rattle.std.specs.Prelude.{◌≡◌, ℕ, ◌+◌, ◌<◌, ◌≤◌, List, length, filter, map, take, slice_get, is_none, Option, None, Some}
use Rattle.prospect.specs.declared.listed.Listed.{Listed}
use Rattle.restart_join.specs.Joining.{full_for}
use Rattle.restart_join.specs.declared.join_error.JoinError.{JoinError}
use Rattle.restart_join.specs.declared.join_error.JoinError.TheVariants.{NoMemory, TooMany}
use Rattle.restart_join.specs.declared.start.Start.{Start}
use Rattle.wire_base.specs.declared.limits.Full.{Full}
use Rattle.wire_base.specs.declared.row.Row.{Row}
use Rattle.run_steps.specs.BeginFor.{row_of, start_among}

-- file by file
abbrev pub starts_among : List Row → List Listed → List Start
starts_among rows listed = map (start_among rows) listed

-- ---- what is too much

-- how many of the files have no row
abbrev pub new_files : List Row → List Listed → ℕ
new_files rows listed = length (filter (λ one. is_none (row_of rows one.key)) listed)

abbrev pub AreFewFiles : List Row → List Listed → Type 0
AreFewFiles rows listed = length rows + new_files rows listed ≤ 65_536

-- the file at the place needs no more than there is, or there is too much of this
abbrev pub HasRoomAt : List Row → List Listed → ℕ → Listed → Type 0
HasRoomAt rows listed place one = full_for (length rows + new_files rows (take place listed)) place one.size (row_of rows one.key) ≡ None

-- none before this place is too much
abbrev pub HaveRoomBefore : List Row → List Listed → ℕ → Type 0
HaveRoomBefore rows listed place = (earlier : ℕ) (one : Listed) → earlier < place → slice_get listed earlier ≡ Some one → HasRoomAt rows listed earlier one

-- the first that is
pub record IsFirstTooMany (rows : List Row) (listed : List Listed) (what : Full) (path : List ℕ) : Type 0 where
  pub place : ℕ
  pub one : Listed
  pub listed_there : slice_get listed place ≡ Some one
  pub path_is : path ≡ one.path
  pub full : full_for (length rows + new_files rows (take place listed)) place one.size (row_of rows one.key) ≡ Some what
  pub room_before : HaveRoomBefore rows listed place

-- out of memory may come with any
abbrev pub RefusesStarts : List Row → List Listed → JoinError → Type 0
RefusesStarts rows listed (TooMany what path) = IsFirstTooMany rows listed what path
RefusesStarts rows listed NoMemory = Unit {0}

-- ---- for a private clause

-- of one file, of which so many were counted before
abbrev pub IsTooManyAt : ℕ → ℕ → Listed → Option Row → JoinError → Type 0
IsTooManyAt files place one row (TooMany what path) = (path ≡ one.path) × (full_for files place one.size row ≡ Some what)
IsTooManyAt files place one row NoMemory = Unit {0}
