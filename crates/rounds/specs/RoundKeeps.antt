-- What a round keeps, over any number of rounds (this project's profile).
use Rattle.std.specs.Prelude.{◌≡◌, true, false}
use Rattle.mem_queue.specs.BoundedQueue.{BoundedQueue}
use Rattle.settle_box.specs.BoundedBox.{BoundedBox}
use Rattle.ship_core.specs.Orderly.{AreOrderly}
use Rattle.keeper.specs.Collecting.{Collects}
use Rattle.keeper.specs.Storing.{IsStoredInFull, Stores}
use Rattle.lanes.specs.declared.run.When.{When}
use Rattle.rounds.specs.Books.{AreBooked, Told}
use Rattle.rounds.specs.Causes.{RoundCauses}
use Rattle.rounds.specs.Crewed.{lanings}
use Rattle.rounds.specs.Crewing.{Crewing}
use Rattle.rounds.specs.Images.{AreAtRest, ImagesAreFronts}
use Rattle.rounds.specs.KeeperTurns.{SameObjects, StillTell}
use Rattle.rounds.specs.Moved.{HaveMoved, HaveVisited, WereStill}
use Rattle.rounds.specs.Placed.{IsPlacedAfter}
use Rattle.rounds.specs.Rounds.{IsAble, IsReady}
use Rattle.rounds.specs.Staying.{AreAsMany, begins_of}
use Rattle.rounds.specs.Words.{Words}
use Rattle.rounds.specs.declared.answer.Round.{Round}

pub record RoundKeeps {T W L D : Type 0} (words : Words T W L D) (queue : BoundedQueue) (desk : BoundedBox) (when : When) (old new : Crewing T W L D) (round : Round) : Type 0 where
  -- another round may follow
  pub ready : round.memory ≡ false → round.disk ≡ false → IsReady words.tails queue.id desk.id new
  -- each span is in one place, and nothing else is settled
  pub placed : (told : Told) → AreBooked words.links words.wires told (lanings old.lanes.items) old.carriers.items → IsPlacedAfter words queue desk when told old new
  -- moved means moved
  pub still : round.moved ≡ false → WereStill words queue desk when old new
  pub moved : round.moved ≡ true → HaveMoved words queue desk when old new
  pub visited : HaveVisited words queue desk when old new
  -- images are prefixes
  pub images : AreAtRest words.disks old.storing → AreOrderly new.storing.keeper.now.tracked.notes → ImagesAreFronts words.disks old.storing new.storing
  pub at_rest : round.memory ≡ false → round.disk ≡ false → AreAtRest words.disks old.storing → AreAtRest words.disks new.storing
  -- what was collected is noted, in order, or held
  pub collects : Collects old.storing.keeper.now new.storing.keeper.now
  -- whatever the round found, its lanes may be released, and its workers and the keeper may end
  pub able : IsAble words.tails queue.id desk.id new
  -- what the store has is what was noted up to the last commit, also if the keeper rested
  pub stored : Stores old.storing.keeper.now.tracked old.storing.keeper.now.store → Stores new.storing.keeper.now.tracked new.storing.keeper.now.store
  -- if nothing moved, nothing is left to store
  pub in_full : round.moved ≡ false → round.memory ≡ false → round.disk ≡ false → IsStoredInFull new.storing.keeper.now
  -- each answer has its cause
  pub causes : RoundCauses words queue desk when old new round
  -- as many lanes and workers
  pub as_many : AreAsMany old new
  -- each lane has its harvesters still, of the same slots
  pub slots : begins_of (lanings new.lanes.items) ≡ begins_of (lanings old.lanes.items)
  -- the areas are the same disks
  pub same_objects : SameObjects old.storing new.storing
  -- and if they reported what they hold, they report it still
  pub still_tell : StillTell words.disks.contents old.storing new.storing
