-- What the files of a look come to (this project's profile): how many there are in each state, and how many bytes they are
-- behind together, at most 2^64 - 1.
use Rattle.std.specs.Prelude.{ℕ, ◌+◌, ◌-◌, ◌^◌, ◌==◌, Bool, if◌then◌else◌, List, [], ◌∷◌, min, unwrap_or}
use Rattle.file_progress.specs.declared.progress.Progress.{Progress}
use Rattle.file_progress.specs.declared.state.State.{State}
use Rattle.file_progress.specs.declared.state.State.TheVariants.{Doubled, Gone, New, Present, Shorter, Small}

abbrev pub behind_of : Progress → ℕ
behind_of one = unwrap_or one.behind 0

abbrev pub sum_behind : List Progress → ℕ
sum_behind [] = 0
sum_behind (one ∷ files) = behind_of one + sum_behind files

abbrev pub behind_in : List Progress → ℕ
behind_in files = min (sum_behind files) (2 ^ 64 - 1)

abbrev pub number_of : State → ℕ
number_of Present = 0
number_of Shorter = 1
number_of Gone = 2
number_of New = 3
number_of Doubled = 4
number_of Small = 5

abbrev pub is_state : State → Progress → Bool
is_state state one = number_of one.state == number_of state

abbrev pub count_in : State → List Progress → ℕ
count_in state [] = 0
count_in state (one ∷ files) = (if is_state state one then 1 else 0) + count_in state files
