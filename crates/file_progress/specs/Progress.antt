-- How far each file is (this project's profile): each row of the registry once, in the registry's order, with the file that
-- the scan found by its key; then each found file that has no row, those whose key a file with an earlier path has, and
-- those that are too small for their fingerprints, in the order of the scan. The unread bytes are those of the file past
-- its row's offset; of a file that is shorter than that, all, since it is to be read anew (Filebeat reference, filestream
-- input and its registry).
use Rattle.std.specs.Prelude.{ℕ, ◌-◌, nat_lt, Bool, false, if◌then◌else◌, is_some, List, [], ◌∷◌, ◌++◌, flat_map, map, Option, None, Some}
use Rattle.std.specs.List.{find}
use Rattle.std.specs.Ordering.{is_eq}
use Rattle.prospect.specs.declared.listed.Listed.{Listed}
use Rattle.ship_core.specs.Rows as rows
use Rattle.wire_base.specs.KeyOrder.{compare}
use Rattle.wire_base.specs.declared.row.Row.{Row}
use Rattle.file_progress.specs.declared.progress.Progress.{Progress}
use Rattle.file_progress.specs.declared.scan.Scan.{Scan}
use Rattle.file_progress.specs.declared.state.State.{State}
use Rattle.file_progress.specs.declared.state.State.TheVariants.{Doubled, Gone, New, Present, Shorter, Small}

abbrev pub state_at : ℕ → ℕ → State
state_at offset size = if nat_lt size offset then Shorter else Present

abbrev pub behind_at : ℕ → ℕ → ℕ
behind_at offset size = if nat_lt size offset then size else size - offset

-- a row, and the file with its key if there is one
abbrev pub of_row : Row → Option Listed → Progress
of_row row None = record {
  state = Gone;
  path = row.path;
  key = Some row.key;
  epoch = row.epoch.0;
  offset = row.offset;
  size = None;
  behind = None;
}
of_row row (Some one) = record {
  state = state_at row.offset one.size;
  path = one.path;
  key = Some row.key;
  epoch = row.epoch.0;
  offset = row.offset;
  size = Some one.size;
  behind = Some (behind_at row.offset one.size);
}

-- a file without a row, with this many unread bytes
abbrev pub without_row : State → Listed → Option ℕ → Progress
without_row state one behind = record {
  state = state;
  path = one.path;
  key = one.key;
  epoch = 0;
  offset = 0;
  size = Some one.size;
  behind = behind;
}

abbrev pub is_key : List ℕ → Option (List ℕ) → Bool
is_key key None = false
is_key key (Some other) = is_eq (compare key other)

abbrev pub has_key : List ℕ → Listed → Bool
has_key key one = is_key key one.key

-- the first of the files with the key
abbrev pub file_of : List Listed → List ℕ → Option Listed
file_of files key = find (has_key key) files

abbrev pub has_row : List Row → Option (List ℕ) → Bool
has_row those None = false
has_row those (Some key) = is_some (rows.find key those)

-- the file, if no row has its key
abbrev pub as_new : List Row → Listed → List Progress
as_new those one = if has_row those one.key then [] else without_row New one (Some one.size) ∷ []

-- what is not known of a doubled file is how much of it the other one has
abbrev pub as_doubled : Listed → Progress
as_doubled one = without_row Doubled one None

-- nothing of a small file was sent
abbrev pub as_small : Listed → Progress
as_small one = without_row Small one (Some one.size)

abbrev pub progress_of : List Row → Scan → List Progress
progress_of those scan =
    map (λ row. of_row row (file_of scan.files.items row.key)) those
    ++ (flat_map (as_new those) scan.files.items
    ++ (map as_doubled scan.doubled.items ++ map as_small scan.small.items))
