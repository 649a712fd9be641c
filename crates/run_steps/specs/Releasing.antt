-- What lets harvesters go (this project's profile): the closing of a tail, and lanes that have none.
use Rattle.std.specs.Prelude.{ℕ, ◌≡◌, List, [], ◌∷◌, ◌++◌, Option, Some, None}
use Rattle.harvester.specs.declared.harvester.Harvester.{Harvester}
use Rattle.lanes.specs.Laning.{Laning}
use Rattle.outside.specs.Folders.{Event, Closed, FolderHistory}
use Rattle.outside.specs.Tails.{TailHistory}

-- the closing of a tail, if its looks are known
abbrev pub closing_of : Option TailHistory → ℕ → List Event
closing_of None faults = []
closing_of (Some tail) faults = Closed tail.opening tail.looks faults ∷ []

-- what is known of a folder after these, if anything is known of it
abbrev pub with_events : List Event → Option FolderHistory → Option FolderHistory
with_events events None = None
with_events events (Some told) = Some (record told { events = told.events ++ events })

-- all harvesters, lane by lane
abbrev pub harvesters_of : {T : Type 0} → List (Laning T) → List (Harvester T)
harvesters_of [] = []
harvesters_of (lane ∷ lanes) = lane.harvesters ++ harvesters_of lanes

abbrev pub HasNoHarvesters : {T : Type 0} → Laning T → Type 0
HasNoHarvesters lane = lane.harvesters ≡ []
