-- Names for plain passes over notes (this project's profile).
use Rattle.std.specs.Prelude.{ℕ, Bool, true, false, max, Option, Some, None, nat_lt, ◌==◌}
use Rattle.std.specs.Option.{option_map}
use Rattle.wire_base.specs.declared.row.Row.{Row}
use Rattle.wire_base.specs.declared.note.Note.{Note}
use Rattle.wire_base.specs.declared.note.Note.TheVariants.{Begin, Announce, Settle, Rename, Seen, Forget}

-- the slot begins with the note
abbrev pub begins : ℕ → Note → Bool
begins slot (Begin begun key path epoch base changed) = begun.0 == slot
begins slot (Announce begun epoch) = false
begins slot (Settle begun epoch span cause) = false
begins slot (Rename begun scan path) = false
begins slot (Seen begun changed) = false
begins slot (Forget begun epoch end) = false

-- the scan is newer than the one that was newest, or is the first
abbrev pub is_newer : Option ℕ → ℕ → Bool
is_newer None scan = true
is_newer (Some other) scan = nat_lt other scan

abbrev pub later : Option ℕ → ℕ → Option ℕ
later None slot = Some slot
later (Some other) slot = Some (max other slot)

-- a row's epoch and offset
abbrev pub place_of : Option Row → Option (ℕ × ℕ)
place_of row = option_map (λ r. (r.epoch.0, r.offset)) row
