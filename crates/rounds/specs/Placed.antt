-- Each span is in one place, over any number of rounds (this project's profile): if all that was reported is booked as a round
-- begins, it is booked with what this round reported as it ends, and each of it is in one place.
use Rattle.std.specs.Prelude.{◌≡◌, ℕ, List, [], ◌∷◌, ◌++◌}
use Rattle.lanes.specs.Laning.{Laning}
use Rattle.lanes.specs.Running.{LaneRuns}
use Rattle.lanes.specs.Step.{Step}
use Rattle.lanes.specs.declared.run.When.{When}
use Rattle.mem_queue.specs.BoundedQueue.{BoundedQueue}
use Rattle.settle_box.specs.BoundedBox.{BoundedBox}
use Rattle.settle_box.specs.Senders.{notes}
use Rattle.wire_base.specs.declared.note.Note.{Note}
use Rattle.wire_base.specs.declared.parcel.Parcel.{Parcel}
use Rattle.rounds.specs.Books.{AreBooked, ArePlaced, Heard, Told, told_on}
use Rattle.rounds.specs.Crewed.{bare_lanes, lanings}
use Rattle.rounds.specs.Pairs.{Pairs}
use Rattle.rounds.specs.Words.{TailWords, Words}
use Rattle.rounds.specs.Crewing.{Crewing}

-- the turns of all these lanes, lane by lane
abbrev pub AreStepsOf : {T : Type 0} → TailWords T → ℕ → ℕ → When → List Step → List (Laning T) → List (Laning T) → Type 0
AreStepsOf tails queue box when steps [] [] = steps ≡ []
AreStepsOf tails queue box when steps [] (new ∷ news) = ⊥
AreStepsOf tails queue box when steps (old ∷ olds) [] = ⊥
AreStepsOf tails queue box when steps (old ∷ olds) (new ∷ news) =
    (runs : LaneRuns tails.numbers tails.told tails.faults queue box when old new) × (rest : List Step) × (steps ≡ runs.keeps.steps ++ rest) × AreStepsOf tails queue box when rest olds news

-- the second goes on where the first ends, from the same place on
pub record GoesOn (first second : Heard) : Type 0 where
  pub more : List Parcel
  pub start : second.start ≡ first.start
  pub is : second.parcels ≡ first.parcels ++ more

pub record IsPlacedAfter {T W L D : Type 0} (words : Words T W L D) (queue : BoundedQueue) (desk : BoundedBox) (when : When) (told : Told) (old new : Crewing T W L D) : Type 0 where
  -- what the files' turns gave, and what was acknowledged by now
  pub steps : List Step
  pub acknowledged : List Heard
  pub lanes : List (Laning T)
  pub steps_are : AreStepsOf words.tails queue.capacity desk.capacity when steps (lanings old.lanes.items) lanes
  pub lanes_are : bare_lanes (lanings new.lanes.items) ≡ bare_lanes lanes
  pub acknowledged_more : Pairs GoesOn told.acknowledged acknowledged
  pub booked : AreBooked words.links words.wires (told_on told steps acknowledged) (lanings new.lanes.items) new.carriers.items
  -- what the queue and the box held as the passes met
  pub queued : List Parcel
  pub boxed : List Note
  pub placed : ArePlaced (told_on told steps acknowledged) (lanings new.lanes.items) new.carriers.items queued (notes new.storing.keeper.now.pass.got) boxed
