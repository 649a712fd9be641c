-- How passes are joined, compared and parted again (this project's profile).
use Rattle.std.specs.Prelude.{◌≡◌, List, ◌++◌}
use Rattle.atomic_table.specs.Seated.{TableId}
use Rattle.mem_queue.specs.Conserved.{IsConserved}
use Rattle.mem_queue.specs.Known.{Known}
use Rattle.pass_sums.specs.Share.{IsWhole, IsWorth}
use Rattle.settle_box.specs.InOrder.{IsInOrder}
use Rattle.settle_box.specs.Poster.{Poster, senders_of}
use Rattle.settle_box.specs.Senders.{posted_by}
use Rattle.settle_box.specs.declared.sender.Sent.{Sent}
use Rattle.wire_base.specs.declared.parcel.Parcel.{Parcel}
use Rattle.lanes.specs.Laning.{Laning}
use Rattle.rounds.specs.Crewed.{bare_carriers, bare_lanes, carriers_passes, lanes_passes}
use Rattle.rounds.specs.Passes.{AreAllOf, Passes, entries, post_shares, senders, shares}
use Rattle.rounds.specs.declared.carrier.Carrier.{Carrier}

-- these two were joined of all of these
pub record AreJoined (queue desk : TableId) (all : List Passes) (moves : Known) (post : Poster) : Type 0 where
  pub of_queue : moves.queue ≡ queue
  pub share : moves.share ≡ shares all
  pub entries_are : moves.entries ≡ entries all
  pub of_box : post.desk ≡ desk
  pub post_share : post.share ≡ post_shares all
  pub senders_are : senders_of post ≡ senders all

-- these were parted of two: together they have the same shares, the same entries and the same notes
pub record AreParted (queue desk : TableId) (moves : Known) (post : Poster) (all : List Passes) : Type 0 where
  pub are_of : AreAllOf queue desk all
  pub share : IsWorth (shares all) moves.share
  pub entries_are : entries all ≡ moves.entries
  pub post_share : IsWorth (post_shares all) post.share
  pub posted : posted_by (senders all) ≡ posted_by (senders_of post)

-- every pass of the queue and of the box is with these lanes and carriers, but for that which collects
pub record HaveAllPasses {T W L : Type 0} (queue desk : TableId) (lanes : List (Laning T)) (carriers : List (Carrier W L)) : Type 0 where
  pub lanes_have : AreAllOf queue desk (lanes_passes lanes)
  pub carriers_have : AreAllOf queue desk (carriers_passes carriers)
  pub puts : IsWhole (shares (lanes_passes lanes))
  pub takes : IsWhole (shares (carriers_passes carriers))
  pub posts : IsWhole (post_shares (lanes_passes lanes) ++ post_shares (carriers_passes carriers))

-- the passes met and were parted again, and nothing else changed: what was put, taken and posted is the same, and fits what the
-- queue and the box held
pub record HaveMet {T W L : Type 0} (queue desk : TableId) (got : List Sent) (lanes later : List (Laning T)) (carriers after : List (Carrier W L)) : Type 0 where
  pub have : HaveAllPasses queue desk later after
  pub lanes_same : bare_lanes later ≡ bare_lanes lanes
  pub carriers_same : bare_carriers after ≡ bare_carriers carriers
  pub put : entries (lanes_passes later) ≡ entries (lanes_passes lanes)
  pub taken : entries (carriers_passes after) ≡ entries (carriers_passes carriers)
  pub posted : posted_by (senders (lanes_passes later) ++ senders (carriers_passes after)) ≡ posted_by (senders (lanes_passes lanes) ++ senders (carriers_passes carriers))
  pub queued : List Parcel
  pub conserved : IsConserved (entries (lanes_passes lanes)) (entries (carriers_passes carriers)) queued
  pub boxed : List Sent
  pub in_order : IsInOrder (senders (lanes_passes lanes) ++ senders (carriers_passes carriers)) got boxed
