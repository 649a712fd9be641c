-- When nothing is left to be settled, and when all is done (this project's profile).
use Rattle.std.specs.Prelude.{◌≡◌, ℕ, ◌+◌, ◌-◌, ◌^◌, ◌<◌, List, [], ◌∷◌}
use Rattle.std.specs.List.{AllByRecursion}
use Rattle.keeper.specs.Keeping.{Keeping}
use Rattle.keeper.specs.Storing.{IsStoredInFull}
use Rattle.lanes.specs.Done.{IsDone}
use Rattle.lanes.specs.Laning.{Laning}
use Rattle.rounds.specs.Books.{held_notes, owed_notes}
use Rattle.rounds.specs.Crewed.{lanings}
use Rattle.rounds.specs.declared.crew.Crew.{Crew}

-- as many notes were collected as had been posted as the passes met last, by counts that are not saturated
pub record AreCollected (posted : ℕ) (keeper : Keeping) : Type 0 where
  pub below : posted < 2 ^ 64 - 1
  pub collected : posted ≡ keeper.collected

-- no note is held or owed, all that were posted were collected, and all that was collected is stored
pub record AreSettledIn {T W L : Type 0} (crew : Crew T W L) (keeper : Keeping) : Type 0 where
  pub none_held : held_notes (lanings crew.lanes.items) ≡ []
  pub none_owed : owed_notes crew.carriers.items ≡ []
  pub collected : AreCollected crew.pace.posted keeper
  pub stored : IsStoredInFull keeper

-- how many spans the harvesters of these lanes reported
abbrev pub spans_told : {T : Type 0} → List (Laning T) → ℕ
spans_told [] = 0
spans_told (lane ∷ lanes) = lane.spans + spans_told lanes

-- each span that was reported is shipped or dropped, by counts that are not saturated
pub record IsEachSettled {T : Type 0} (lanes : List (Laning T)) (keeper : Keeping) : Type 0 where
  pub below : spans_told lanes < 2 ^ 64 - 1
  pub settled : keeper.shipped + keeper.dropped ≡ spans_told lanes

-- no lane holds anything, and none of their harvesters would find more; each span is settled, and all is stored
pub record IsDoneIn {T W L : Type 0} (crew : Crew T W L) (keeper : Keeping) : Type 0 where
  pub lanes : AllByRecursion IsDone (lanings crew.lanes.items)
  pub spans : IsEachSettled (lanings crew.lanes.items) keeper
  pub stored : IsStoredInFull keeper
