-- When one file more is too many (this project's profile): 65,536 files are known or count besides, or 4,294,967,295
-- slots were given. The files go first.
use Rattle.std.specs.Prelude.{◌≡◌, ℕ, ◌+◌, nat_le, List, [], ◌∷◌, length, slice_get, Option, Some, None, if◌then◌else◌}
use Rattle.prospector_core.specs.declared.prospect_error.ProspectError.{ProspectError}
use Rattle.prospector_core.specs.declared.prospect_error.ProspectError.TheVariants.{TooMany, NoMemory}
use Rattle.prospector_core.specs.declared.limits.TheConstants.{MAX_FILES, MAX_SLOTS}
use Rattle.prospector_core.specs.declared.seen.Seen.{Seen}
use Rattle.prospector_core.specs.Changes.{is_new, new_members}
use Rattle.prospector_core.specs.Earlier.{flat_map_with_earlier}
use Rattle.prospector_core.specs.KnownFiles.{KnownFiles}
use Rattle.wire_base.specs.declared.limits.Full.{Full}
use Rattle.wire_base.specs.declared.limits.Full.TheVariants.{Files, Slots}

-- what there is too much of, and the path of the file that needs one more
pub record Refusal : Type 0 where
  pub what : Full
  pub path : List ℕ

-- the count that is at its limit: of files, or of slots
abbrev pub full_at : ℕ → ℕ → Option Full
full_at files slots = if nat_le MAX_FILES files then Some Files else (if nat_le MAX_SLOTS slots then Some Slots else None)

abbrev pub refusal_of : Seen → Option Full → List Refusal
refusal_of member None = []
refusal_of member (Some what) = record { what = what; path = member.path } ∷ []

-- of one member, by those before it
abbrev pub member_refusal : KnownFiles → List Seen → Seen → List Refusal
member_refusal known earlier member =
    let created = length (new_members known.files earlier) in
    if is_new known.files earlier member
    then refusal_of member (full_at (length known.files + known.others + created) (known.next + created))
    else []

-- each member of which a file would begin that is too many
abbrev pub refusals : KnownFiles → List Seen → List Refusal
refusals known seen = flat_map_with_earlier (member_refusal known) [] seen

-- the first of them is reported; out of memory may come with any
abbrev pub IsFirstRefusal : List Refusal → ProspectError → Type 0
IsFirstRefusal found (TooMany what path) = slice_get found 0 ≡ Some (record { what = what; path = path })
IsFirstRefusal found NoMemory = Unit {0}
