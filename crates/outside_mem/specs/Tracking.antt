-- What a folder in memory finds of its files (this project's profile).
use Rattle.std.specs.Prelude.{ℕ, ◌+◌, List, [], ◌∷◌, ◌++◌, map, Option}
use Rattle.std.specs.Arc.{arc_value}
use Rattle.std.specs.Option.{option_map, option_to_list}
use Rattle.outside.specs.declared.history.Shown.{Shown}
use Rattle.outside.specs.declared.history.Sight.{Sight}
use Rattle.outside.specs.Files.{File}
use Rattle.outside_mem.specs.declared.moments.ToldMoment.{ToldMoment}
use Rattle.outside_mem.specs.declared.tracked.Tracked.{Tracked}
use Rattle.outside_mem.specs.Moments.{moment_of}
use Rattle.outside_mem.specs.Scripts.{file_of}
use Rattle.outside_mem.specs.Steps.{path_at, sight_at}

-- what is there of the file after this many listings and the tail calls that its folder knows
abbrev pub state_of : ℕ → Tracked → Sight
state_of listings tracked = sight_at listings tracked.calls (arc_value tracked.script).file.steps.items

-- the path by which it is found then
abbrev pub path_of : ℕ → Tracked → Option (List ℕ)
path_of listings tracked = path_at listings tracked.calls (arc_value tracked.script).file.path (arc_value tracked.script).file.steps.items

-- how a listing shows it by a path, with the moment of change that was set for the path
abbrev pub shown_by : List ToldMoment → ℕ → ℕ → Tracked → List ℕ → Shown
shown_by moments number listings tracked path = let state = state_of listings tracked in record {
  entry = record { path = path; size = state.length; native = (arc_value tracked.script).file.native; changed = moment_of moments path };
  file = number;
  life = state.life;
}

abbrev pub shown_of : List ToldMoment → ℕ → ℕ → Tracked → Option Shown
shown_of moments number listings tracked = option_map (shown_by moments number listings tracked) (path_of listings tracked)

-- the files that are found, each with its number, in the order of the numbers
abbrev pub present_from : List ToldMoment → ℕ → ℕ → List Tracked → List Shown
present_from moments number listings [] = []
present_from moments number listings (tracked ∷ files) = option_to_list (shown_of moments number listings tracked) ++ present_from moments (number + 1) listings files

abbrev pub states_of : ℕ → List Tracked → List Sight
states_of listings files = map (state_of listings) files

abbrev pub files_of : List Tracked → List File
files_of files = map (λ tracked. file_of (arc_value tracked.script)) files
