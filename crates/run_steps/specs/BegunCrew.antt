-- A crew as the settings ask for it, before a file is followed (this project's profile): it has all passes of its queue and its box
-- but the one that collects, and a worker for each of the first wires. Nothing was put, taken or posted.
use Rattle.std.specs.Prelude.{◌≡◌, List, [], All, Option, length}
use Rattle.atomic_table.specs.Seated.{TableId}
use Rattle.event_tree.specs.declared.settings.Settings.{Settings}
use Rattle.mem_queue.specs.Known.{Known}
use Rattle.outside.specs.Talks.{Talk}
use Rattle.pass_sums.specs.Share.{IsWhole}
use Rattle.rounds.specs.Crewed.{carriers_passes, lanes_passes, lanings}
use Rattle.rounds.specs.Making.{HaveWires, IsBegunCarrier, IsBegunLane, KnowAll, StandsForNothing}
use Rattle.rounds.specs.Meeting.{HaveAllPasses}
use Rattle.rounds.specs.declared.crew.Crew.{Crew}
use Rattle.settle_box.specs.Poster.{Poster}
use Rattle.settle_box.specs.Senders.{sender}

-- these are all passes of a queue and a box but the one that collects, as they are made
pub record AreFirstPasses (queue desk : TableId) (put take : Known) (post : Poster) : Type 0 where
  pub put_of : put.queue ≡ queue
  pub take_of : take.queue ≡ queue
  pub post_of : post.desk ≡ desk
  pub puts : IsWhole put.share
  pub takes : IsWhole take.share
  pub posts : IsWhole post.share
  pub nothing_put : put.entries ≡ []
  pub nothing_taken : take.entries ≡ []
  pub nothing_posted : post.mine ≡ sender [] 0 []
  pub none_joined : post.joined ≡ []

pub record IsBegunCrew {T W L : Type 0} (told : L → Option Talk) (queue desk : TableId) (settings : Settings) (wires left : List W) (crew : Crew T W L) : Type 0 where
  pub have : HaveAllPasses queue desk (lanings crew.lanes.items) crew.carriers.items
  pub lanes : All IsBegunLane (lanings crew.lanes.items)
  pub carriers : All (IsBegunCarrier settings.output) crew.carriers.items
  pub stand : All (StandsForNothing told) crew.carriers.items
  pub many_lanes : length crew.lanes.items ≡ settings.lanes
  pub many_carriers : length crew.carriers.items ≡ settings.output.workers
  pub wires_are : HaveWires settings.output wires left crew.carriers.items
  pub lanes_know : KnowAll [] [] (lanes_passes (lanings crew.lanes.items))
  pub carriers_know : KnowAll [] [] (carriers_passes crew.carriers.items)
