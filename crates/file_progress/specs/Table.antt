-- The table (this project's profile): a head, a line for each file, those with the most unread bytes first, and two lines of
-- totals. A line has at most 100 columns, as far as its numbers leave room: of a longer path the end is shown, after two
-- dots and from a whole character on. Control characters are shown as `?`.
use Rattle.std.specs.Prelude.{◌≡◌, ℕ, ◌-◌, ◌/◌, ◌==◌, ◌||◌, ◌&&◌, nat_le, nat_lt, Bool, if◌then◌else◌, List, [], ◌∷◌, ◌++◌, drop, length, map, codes, decimal, Option, None, Some}
use Rattle.std.specs.List.{flat_map}
use Rattle.std.specs.List.Sorted.{IsPermutation, IsSorted}
use Rattle.std.specs.Ordering.{nat_cmp}
use Rattle.std.specs.declared.cmp.Ordering.{Ordering}
use Rattle.wire_base.specs.declared.numbers.Moment.{Moment}
use Rattle.file_progress.specs.Parts.{left_of, number_or_line, right_of}
use Rattle.file_progress.specs.Texts.{state_text}
use Rattle.file_progress.specs.Totals.{behind_in, behind_of, count_in}
use Rattle.file_progress.specs.declared.overview.Overview.{Overview}
use Rattle.file_progress.specs.declared.progress.Progress.{Progress}
use Rattle.file_progress.specs.declared.state.State.{State}
use Rattle.file_progress.specs.declared.state.State.TheVariants.{Doubled, Gone, New, Present, Shorter, Small}

-- most unread bytes first
abbrev pub compare_behind : Progress → Progress → Ordering
compare_behind one other = nat_cmp (behind_of other) (behind_of one)

-- the files of a look in the order of their lines
pub record AreLined (files lined : List Progress) : Type 0 where
  pub same : IsPermutation files lined
  pub in_order : IsSorted compare_behind lined

abbrev pub shown_byte : ℕ → ℕ
shown_byte byte = if nat_lt byte 32 || (byte == 127) then 63 else byte

abbrev pub continues_character : ℕ → Bool
continues_character byte = nat_le 128 byte && nat_lt byte 192

-- without the bytes in front that continue a character
abbrev pub from_character : List ℕ → List ℕ
from_character [] = []
from_character (byte ∷ bytes) = if continues_character byte then from_character bytes else byte ∷ bytes

-- of a path that is longer, as much of its end as fits after two dots
abbrev pub cut_path : ℕ → List ℕ → List ℕ
cut_path columns path =
    if nat_le (length path) columns then path
    else codes ".." ++ from_character (drop (length path - (columns - 2)) path)

abbrev pub path_text : ℕ → List ℕ → List ℕ
path_text columns path = map shown_byte (cut_path columns path)

abbrev pub numbers_text : Progress → List ℕ
numbers_text one =
    right_of 12 (number_or_line one.behind) ++ (codes " " ++ (right_of 12 (number_or_line one.size) ++ (codes " "
    ++ (right_of 12 (decimal one.offset) ++ (codes " " ++ (right_of 5 (decimal one.epoch) ++ (codes " "
    ++ (left_of 7 (state_text one.state) ++ codes " "))))))))

-- the path has what the numbers leave of 100 columns
abbrev pub line_of : Progress → List ℕ
line_of one = numbers_text one ++ (path_text (100 - length (numbers_text one)) one.path ++ codes "\n")

abbrev pub head_line : List ℕ
head_line = codes "      BEHIND         SIZE       OFFSET EPOCH STATE   PATH\n"

abbrev pub count_text : List Progress → State → List ℕ
count_text files state = codes ", " ++ (decimal (count_in state files) ++ (codes " " ++ state_text state))

abbrev pub behind_text : List Progress → List ℕ
behind_text files = decimal (behind_in files) ++ codes " bytes behind"

abbrev pub counts_line : List Progress → List ℕ
counts_line files =
    behind_text files ++ (count_text files Present ++ (count_text files Shorter ++ (count_text files Gone
    ++ (count_text files New ++ (count_text files Doubled ++ (count_text files Small ++ codes "\n"))))))

-- the age of the last writing, in whole seconds; a clock may have gone back meanwhile
abbrev pub age_text : ℕ → Option Moment → List ℕ
age_text now None = codes "\n"
age_text now (Some moment) = codes ", written " ++ (decimal ((now - moment.0) / 1000) ++ codes " seconds ago\n")

abbrev pub generation_text : Option ℕ → List ℕ
generation_text None = codes "no registry yet"
generation_text (Some generation) = codes "registry of generation " ++ decimal generation

abbrev pub registry_line : Overview → List ℕ
registry_line overview = generation_text overview.generation ++ age_text overview.moment.0 overview.committed

pub record IsTable (overview : Overview) (text : List ℕ) : Type 0 where
  pub lined : List Progress
  pub are_lined : AreLined overview.files.items lined
  pub spelled : text ≡ head_line ++ (flat_map line_of lined ++ (counts_line overview.files.items ++ registry_line overview))
