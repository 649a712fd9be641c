-- What is wrong with the text of a glob, the first fault from the left, at a byte place (this project's profile).
use Rattle.std.specs.Prelude.{ℕ, ◌+◌, Bool, true, false, not, ◌&&◌, ◌||◌, ◌==◌, nat_lt, Option, Some, None, List, [], ◌∷◌, length, if◌then◌else◌}
use Rattle.std.specs.Str.{bytes_eq}
use Rattle.wire_base.specs.Path.{parts_of}
use Rattle.glob_paths.specs.declared.error.GlobError.{GlobError}
use Rattle.glob_paths.specs.declared.error.GlobError.TheVariants.{Empty, NotAbsolute, BadPart, Unclosed, BadRange, StarStar}
use Rattle.glob_paths.specs.declared.sign.Sign.{Sign}
use Rattle.glob_paths.specs.Sign.{is, width, signs}
use Rattle.glob_paths.specs.Token.{items_of, after_caret}
use Rattle.glob_paths.specs.Cover.{is_deep}

abbrev pub or_else : Option GlobError → Option GlobError → Option GlobError
or_else (Some fault) later = Some fault
or_else None later = later

-- some `]` without a backslash ends the class
abbrev pub is_closed : List Sign → Bool
is_closed [] = false
is_closed (sign ∷ signs) = is 93 sign || is_closed signs

-- the first character of some range is above its last
abbrev pub some_backwards : List (ℕ × ℕ) → Bool
some_backwards [] = false
some_backwards (item ∷ items) = nat_lt item.1 item.0 || some_backwards items

abbrev pub are_bad_items : List (ℕ × ℕ) → Bool
are_bad_items [] = true
are_bad_items (item ∷ items) = some_backwards (item ∷ items)

-- the fault of a class whose `[` is at this place, by the signs after it
abbrev pub class_fault : ℕ → List Sign → Option GlobError
class_fault at signs = if not (is_closed signs) then Some (Unclosed at) else (if are_bad_items (items_of (after_caret signs)) then Some (BadRange at) else None)

abbrev pub starts_with_star : List Sign → Bool
starts_with_star [] = false
starts_with_star (sign ∷ signs) = is 42 sign

-- the fault of a sign outside a class, at its place, by the signs after it; a backslash is a sign only at the end
abbrev pub sign_fault : ℕ → Sign → List Sign → Option GlobError
sign_fault at sign signs = if is 91 sign then class_fault at signs else (if is 92 sign then Some (Unclosed at) else (if is 42 sign && starts_with_star signs then Some (StarStar at) else None))

-- a class is open after the sign
abbrev pub opens : Bool → Sign → Bool
opens true sign = not (is 93 sign)
opens false sign = is 91 sign

-- the first fault of signs that begin at this place, inside a class or outside
abbrev pub signs_fault : Bool → ℕ → List Sign → Option GlobError
signs_fault inside at [] = None
signs_fault inside at (sign ∷ signs) = or_else (if inside then None else sign_fault at sign signs) (signs_fault (opens inside sign) (at + width sign) signs)

-- the part is empty, `.` or `..`; 46 is the dot
abbrev pub is_no_name : List ℕ → Bool
is_no_name text = bytes_eq text [] || (bytes_eq text (46 ∷ []) || bytes_eq text (46 ∷ 46 ∷ []))

-- the first fault of a part that begins at this place, whether a `**` came before it or not
abbrev pub part_fault : Bool → ℕ → List ℕ → Option GlobError
part_fault seen at text = if is_no_name text then Some (BadPart at) else (if is_deep text then (if seen then Some (StarStar at) else None) else signs_fault false at (signs text))

-- the first fault of the parts from this place on
abbrev pub parts_fault : Bool → ℕ → List (List ℕ) → Option GlobError
parts_fault seen at [] = None
parts_fault seen at (text ∷ texts) = or_else (part_fault seen at text) (parts_fault (seen || is_deep text) (at + length text + 1) texts)

-- the first fault of a text
abbrev pub fault_of : List ℕ → Option GlobError
fault_of [] = Some Empty
fault_of (byte ∷ text) = if byte == 47 then parts_fault false 1 (parts_of text) else Some NotAbsolute
