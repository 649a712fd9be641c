-- The JSON text of a look (RFC 8259; the fields are this project's profile): one object in the spelling of serde_json, and a
-- line feed. Numbers that are not known are null. Times are in milliseconds.
use Rattle.std.specs.Prelude.{◌≡◌, ℕ, ◌-◌, List, [], ◌∷◌, ◌++◌, codes, map, Option, None, Some}
use Rattle.serde_json.specs.Data.{Data, Items, Members, array, member, no_members, null, number, object, string, unsigned}
use Rattle.serde_json.specs.Read.{read}
use Rattle.serde_json.specs.View.{items_of}
use Rattle.serde_json.specs.Written.{compact_text}
use Rattle.wire_base.specs.declared.numbers.Moment.{Moment}
use Rattle.file_progress.specs.Texts.{state_text}
use Rattle.file_progress.specs.Totals.{behind_in, count_in}
use Rattle.file_progress.specs.declared.overview.Overview.{Overview}
use Rattle.file_progress.specs.declared.progress.Progress.{Progress}
use Rattle.file_progress.specs.declared.state.State.{State}
use Rattle.file_progress.specs.declared.state.State.TheVariants.{Doubled, Gone, New, Present, Shorter, Small}

abbrev pub number_data : Option ℕ → Data
number_data None = null
number_data (Some count) = number (unsigned count)

abbrev pub text_data : Option (List ℕ) → Data
text_data None = null
text_data (Some text) = string text

abbrev pub file_data : Progress → Data
file_data one =
    object (member (codes "behind_bytes") (number_data one.behind)
    (member (codes "epoch") (number (unsigned one.epoch))
    (member (codes "key") (text_data one.key)
    (member (codes "offset") (number (unsigned one.offset))
    (member (codes "path") (string one.path)
    (member (codes "size") (number_data one.size)
    (member (codes "state") (string (state_text one.state))
    no_members)))))))

abbrev pub count_data : State → List Progress → Data
count_data state files = number (unsigned (count_in state files))

abbrev pub totals_data : List Progress → Data
totals_data files =
    object (member (codes "behind_bytes") (number (unsigned (behind_in files)))
    (member (codes "doubled") (count_data Doubled files)
    (member (codes "gone") (count_data Gone files)
    (member (codes "new") (count_data New files)
    (member (codes "present") (count_data Present files)
    (member (codes "shorter") (count_data Shorter files)
    (member (codes "small") (count_data Small files)
    no_members)))))))

-- the age of the last writing; a clock may have gone back meanwhile
abbrev pub age_data : ℕ → Option Moment → Data
age_data now None = null
age_data now (Some moment) = number (unsigned (now - moment.0))

abbrev pub moment_data : Option Moment → Data
moment_data None = null
moment_data (Some moment) = number (unsigned moment.0)

abbrev pub overview_data : Overview → Data
overview_data overview =
    object (member (codes "age_ms") (age_data overview.moment.0 overview.committed)
    (member (codes "committed_ms") (moment_data overview.committed)
    (member (codes "files") (array (items_of (map file_data overview.files.items)))
    (member (codes "generation") (number_data overview.generation)
    (member (codes "totals") (totals_data overview.files.items)
    no_members)))))

unfoldable pub json_text : Overview → List ℕ
json_text overview = compact_text (overview_data overview) ++ codes "\n"

-- the text of the look; without its line feed a reader of JSON makes the same data of it
pub record IsJson (overview : Overview) (text : List ℕ) : Type 0 where
  pub spelled : text ≡ json_text overview
  pub read_back : read (compact_text (overview_data overview)) ≡ Some (overview_data overview)
