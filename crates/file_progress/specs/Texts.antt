-- The names of the states of files as they are reported (this project's profile).
use Rattle.std.specs.Prelude.{ℕ, List, codes}
use Rattle.file_progress.specs.declared.state.State.{State}
use Rattle.file_progress.specs.declared.state.State.TheVariants.{Doubled, Gone, New, Present, Shorter, Small}

abbrev pub state_text : State → List ℕ
state_text Present = codes "present"
state_text Shorter = codes "shorter"
state_text Gone = codes "gone"
state_text New = codes "new"
state_text Doubled = codes "doubled"
state_text Small = codes "small"
