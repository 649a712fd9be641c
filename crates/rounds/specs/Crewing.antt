-- What contracts see of all that work in a round (this project's profile): lanes and workers, and the keeper with its areas.
use Rattle.std.specs.Prelude.{Vec}
use Rattle.std.specs.declared.alloc.Global.{Global}
use Rattle.lanes.specs.declared.lane.Lane.{Lane}
use Rattle.rounds.specs.declared.carrier.Carrier.{Carrier}
use Rattle.rounds.specs.declared.crew.Crew.{Crew}
use Rattle.rounds.specs.declared.crew.Pace.{Pace}
use Rattle.rounds.specs.declared.storing.Storing.{Storing}

pub record Crewing (T W L D : Type 0) : Type 0 where
  pub lanes : Vec (Lane T) Global
  pub carriers : Vec (Carrier W L) Global
  pub storing : Storing D
  pub pace : Pace

abbrev pub crewing : {T W L D : Type 0} → Crew T W L → Storing D → Crewing T W L D
crewing crew storing = record { lanes = crew.lanes; carriers = crew.carriers; storing = storing; pace = crew.pace }

-- without the keeper
abbrev pub crew_of : {T W L D : Type 0} → Crewing T W L D → Crew T W L
crew_of crewing = record { lanes = crewing.lanes; carriers = crewing.carriers; pace = crewing.pace }
